-- One request, one set of elements (document 02, A8): "two accepted read addresses, sent with one requester and one sequence number, give the same bytes exactly when
-- type, file, element, position (a missing one counts as 0) and count agree". `elements_of` an address is these five; "the bit isn't on the wire". Each tag is
-- read in its own way (A12).
use Rattle.std.specs.Prelude.{ℕ, ◌≡◌, ◌↔◌, List, Ok, take}
use Rattle.address_spec.specs.declared.Address.{Address}
use Rattle.address_spec.specs.Elements.{elements_of}
use Rattle.address_readings.specs.declared.Reading.{Reading}
use Rattle.request_frame.specs.declared.Requestor.{Requestor}
use Rattle.request_spec.specs.Request.{sends, reading, Builds}

abbrev pub OneRequest : Type 0
OneRequest =
    (s t : List ℕ) (i j : Reading) (q : Requestor) (sequence : ℕ) (out out' : List ℕ) (x y : Address) (m n : List ℕ)
    → reading s i q sequence out ≡ sends x m → reading t j q sequence out' ≡ sends y n → (m ≡ n) ↔ (elements_of x ≡ elements_of y)

-- ---- the same of the call
-- A call of `read_request` that meets its contract and accepts its tag: the output that it is lent, as it was and as it is left, and its answer.
pub record Accepts (q : Requestor) (sequence : ℕ) : Type 0 where
  pub tag : List ℕ
  pub how : Reading
  pub out : List ℕ
  pub left : List ℕ
  pub address : Address
  pub length : ℕ
  pub meets : Builds (reading tag how q sequence out) out (Ok (address, length)) left

-- compared by as many bytes of each output as its call answers
abbrev pub OneRequestOfCalls : Type 0
OneRequestOfCalls =
    (q : Requestor) (sequence : ℕ) (a b : Accepts q sequence)
    → (take a.length a.left ≡ take b.length b.left) ↔ (elements_of a.address ≡ elements_of b.address)

-- by as many of both as one of the calls answers: no message is the beginning of another
abbrev pub OneRequestByOneLength : Type 0
OneRequestByOneLength =
    (q : Requestor) (sequence : ℕ) (a b : Accepts q sequence)
    → (take a.length a.left ≡ take a.length b.left) ↔ (elements_of a.address ≡ elements_of b.address)
