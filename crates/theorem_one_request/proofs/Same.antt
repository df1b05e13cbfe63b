-- A message tells its elements (request_spec/ElementsTold), for an accepted address has numbers that its fields hold.
use Rattle.std.specs.Prelude.{Result, Ok, Err}
use Prim.Native.Nat.{ℕ, ◌+◌}
use mathlib.Core.Path.{◌≡◌, refl, ap, ap₂, sym, subst, ◌∙◌}
use mathlib.Core.Logic.{◌↔◌}
use mathlib.Core.Bool.{Bool, true, false, cond}
use mathlib.Core.List.{List, [], ◌++◌}
use native.Mathlib.Omega.{arith}
use lib.Dec.{leb}
use lib.ListN.{length, take, drop, take-append-drop}
use lib.Seq.{take-append_seam}
use Rattle.base.specs.declared.refusal.Refusal.{Refusal}
use Rattle.base.specs.declared.refusal.Refusal.TheVariants.{BitWithCount, SizeOutOfRange, ShortOutput}
use Rattle.base.specs.Put.{put}
use Rattle.address_spec.specs.declared.Address.{Address}
use Rattle.address_spec.specs.Elements.{Elements, elements_of}
use Rattle.address_spec.proofs.Ranges.{Ranged, ranged}
use Rattle.address_readings.specs.declared.Reading.{Reading}
use Rattle.address_readings.specs.Readings.{address_in}
use Rattle.address_readings.proofs.Readings.{taken}
use Rattle.request_frame.specs.declared.Requestor.{Requestor}
use Rattle.request_spec.specs.Request.{Asked, refused, sends, bit_and_count, read_size, read_message, read_address, on_address, reading, Builds}
use Rattle.request_spec.proofs.ElementsTold.{InFields, read_told}
use Rattle.theorem_one_request.specs.OneRequest.{OneRequest, Accepts, OneRequestOfCalls, OneRequestByOneLength}

-- ---- what is sent is the message of the address's elements, which can be spelled
record Sent (q : Requestor) (sequence : ℕ) (x : Address) (m : List ℕ) : Type 0 where
  bytes : m ≡ read_message q sequence (elements_of x)
  range : InFields (elements_of x)

in_fields : {e : Elements} → Ranged e → InFields e
in_fields r = (omega (arith, r.file), omega (arith, r.element), omega (arith, r.position))

abbrev Reads : Requestor → ℕ → Asked → Type 0
Reads q sequence (refused e) = Unit {0}
Reads q sequence (sends x m) = Sent q sequence x m

reads : (tag : List ℕ) (ρ : Reading) (q : Requestor) (sequence : ℕ) (out : List ℕ) → Reads q sequence (reading tag ρ q sequence out)
unfolding on_address read_address
reads tag ρ q sequence out = go (address_in ρ tag) refl
  where
    by_tests : (x : Address) → address_in ρ tag ≡ Ok x → (a b c : Bool) → Reads q sequence (cond a (refused BitWithCount) (cond b (cond c (sends x (read_message q sequence (elements_of x))) (refused ShortOutput)) (refused SizeOutOfRange)))
    by_tests x e true b c = tt
    by_tests x e false false c = tt
    by_tests x e false true false = tt
    by_tests x e false true true = record { bytes = refl; range = in_fields (ranged tag x (taken ρ tag x e)) }

    go : (p : Result Address Refusal) → address_in ρ tag ≡ p → Reads q sequence (on_address p (read_address q sequence (length out)))
    go (Err k) e = tt
    go (Ok x) e = by_tests x e (bit_and_count x) (leb (read_size (elements_of x)) 255) (leb 27 (length out))

-- the elements of two messages, with anything behind them
told : {q : Requestor} {sequence : ℕ} {x y : Address} {m n : List ℕ} → Sent q sequence x m → Sent q sequence y n → (r s : List ℕ) → m ++ r ≡ n ++ s → elements_of x ≡ elements_of y
told {q} {sequence} {x} {y} {m} {n} a b r s h =
    read_told q sequence (elements_of x) (elements_of y) r s a.range b.range (ap (λ (l : List ℕ). l ++ r) (sym a.bytes) ∙ h ∙ ap (λ (l : List ℕ). l ++ s) b.bytes)

-- and the other way
bytes_same : {q : Requestor} {sequence : ℕ} {x y : Address} {m n : List ℕ} → Sent q sequence x m → Sent q sequence y n → elements_of x ≡ elements_of y → m ≡ n
bytes_same {q} {sequence} a b z = a.bytes ∙ ap (read_message q sequence) z ∙ sym b.bytes

pub one_request : OneRequest
one_request s t i j q sequence out out' x y m n h k =
    let a : Sent q sequence x m = subst (Reads q sequence) h (reads s i q sequence out) in
    let b : Sent q sequence y n = subst (Reads q sequence) k (reads t j q sequence out') in
    ((λ z. told a b [] [] (ap (λ (l : List ℕ). l ++ []) z)), bytes_same a b)

-- ---- of the call
-- its message stands in front of what it leaves
module _ {q : Requestor} {sequence : ℕ} where
  record Message (a : Accepts q sequence) : Type 0 where
    bytes : List ℕ
    behind : List ℕ
    sends_it : reading a.tag a.how q sequence a.out ≡ sends a.address bytes
    count : a.length ≡ length bytes
    front : take a.length a.left ≡ bytes
    whole : a.left ≡ bytes ++ behind

  message : (a : Accepts q sequence) → Message a
  unfolding put
  message a = go (reading a.tag a.how q sequence a.out) refl a.meets
    where
      go : (o : Asked) → reading a.tag a.how q sequence a.out ≡ o → Builds o a.out (Ok (a.address, a.length)) a.left → Message a
      go (refused k) e b = absurd (cc b.answer)
      go (sends y m) e b =
          let h : ◌≡◌ {A = Address × ℕ} (a.address, a.length) (y, length m) = cc b.answer in
          let x : y ≡ a.address = sym (ap (λ (z : Address × ℕ). z.0) h) in
          let n : a.length ≡ length m = ap (λ (z : Address × ℕ). z.1) h in
          let w : a.left ≡ m ++ drop (0 + length m) a.out = b.now in
          record {
            bytes = m;
            behind = drop (0 + length m) a.out;
            sends_it = e ∙ ap (λ (z : Address). sends z m) x;
            count = n;
            front = ap₂ take n w ∙ take-append_seam m (drop (0 + length m) a.out);
            whole = w;
          }

  sent_by : (a : Accepts q sequence) → Sent q sequence a.address (message a).bytes
  sent_by a = subst (Reads q sequence) (message a).sends_it (reads a.tag a.how q sequence a.out)

pub one_request_of_calls : OneRequestOfCalls
one_request_of_calls q sequence a b =
    let same : ((message a).bytes ≡ (message b).bytes) ↔ (elements_of a.address ≡ elements_of b.address) =
    one_request a.tag b.tag a.how b.how q sequence a.out b.out a.address b.address _ _ (message a).sends_it (message b).sends_it in
    ((λ z. same.0 (sym (message a).front ∙ z ∙ (message b).front)), (λ z. (message a).front ∙ same.1 z ∙ sym (message b).front))

-- a message that the other output begins with, and what follows it there, are that output
pub one_request_by_one_length : OneRequestByOneLength
one_request_by_one_length q sequence a b = (goes, comes)
  where
    goes : take a.length a.left ≡ take a.length b.left → elements_of a.address ≡ elements_of b.address
    goes z =
        let rest : List ℕ = drop a.length b.left in
        let h : (message a).bytes ++ rest ≡ (message b).bytes ++ (message b).behind =
        ap (λ (l : List ℕ). l ++ rest) (sym (message a).front ∙ z) ∙ take-append-drop a.length b.left ∙ (message b).whole in
        told (sent_by a) (sent_by b) rest (message b).behind h

    comes : elements_of a.address ≡ elements_of b.address → take a.length a.left ≡ take a.length b.left
    comes z =
        let m : (message a).bytes ≡ (message b).bytes = bytes_same (sent_by a) (sent_by b) z in
        let n : a.length ≡ b.length = (message a).count ∙ ap length m ∙ sym (message b).count in
        (message a).front ∙ m ∙ sym (message b).front ∙ ap (λ (k : ℕ). take k b.left) (sym n)
