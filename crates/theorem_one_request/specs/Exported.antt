-- One request, one set of elements, of the exported call: what a caller of C has of it.
use Rattle.std.specs.Prelude.{ℕ, ◌≡◌, ◌↔◌, List, take}
use Rattle.request_frame.specs.declared.Requestor.{Requestor}
use Rattle.request_spec.specs.Request.{reading}
use Rattle.link_requests.specs.declared.requests.SlcAddress.{SlcAddress}
use Rattle.link_requests.specs.declared.requests.SlcRequest.{SlcRequest}
use Rattle.link_requests.specs.Kinds.{reading_of}
use Rattle.link_requests.specs.RequestRecords.{Asks}

-- A call of `slc_read_request` that meets its contract and accepts its tag: the output that it is lent, as it was and as it is left, and its answer.
pub record Exports (q : Requestor) (sequence : ℕ) : Type 0 where
  pub tag : List ℕ
  pub how : ℕ
  pub out : List ℕ
  pub left : List ℕ
  pub answer : SlcRequest
  pub meets : Asks (reading tag (reading_of how) q sequence out) out answer left
  pub accepts : answer.address.refused ≡ 0

-- type, by its code, file, element, position (0 where it is missing) and count
pub record Agree (x y : SlcAddress) : Type 0 where
  pub type : x.code ≡ y.code
  pub file : x.file_number ≡ y.file_number
  pub element : x.element_number ≡ y.element_number
  pub position : x.position ≡ y.position
  pub count : x.element_count ≡ y.element_count

abbrev pub OneRequestOfExports : Type 0
OneRequestOfExports =
    (q : Requestor) (sequence : ℕ) (a b : Exports q sequence)
    → (take a.answer.length a.left ≡ take b.answer.length b.left) ↔ Agree a.answer.address b.answer.address
