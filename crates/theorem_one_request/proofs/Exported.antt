-- An exported call is a call of `read_request` with its answer in numbers, so the claim holds of it.
use Prim.Native.Nat.{ℕ, ◌<◌}
use mathlib.Core.Path.{◌≡◌, refl, ap, sym, subst₂, ◌∙◌}
use mathlib.Core.Logic.{◌↔◌}
use native.Mathlib.Omega.{arith}
use lib.ListN.{length, take}
use Rattle.base.specs.Refusals.{number_of}
use Rattle.file_type.specs.Table.{row}
use Rattle.address_spec.specs.declared.Address.{Address}
use Rattle.address_spec.specs.Elements.{Elements, elements_of}
use Rattle.request_frame.specs.declared.Requestor.{Requestor}
use Rattle.request_spec.specs.Request.{Asked, refused, sends, reading, request_of}
use Rattle.request_spec.proofs.ElementsTold.{code_same, same}
use Rattle.request_spec.proofs.RefusalNumbers.{numbered}
use Rattle.link_requests.specs.declared.requests.SlcRequest.{SlcRequest}
use Rattle.link_requests.specs.Kinds.{reading_of}
use Rattle.link_requests.specs.RequestRecords.{full_address, no_address, request_record}
use Rattle.theorem_one_request.specs.OneRequest.{Accepts}
use Rattle.theorem_one_request.specs.Exported.{Exports, Agree, OneRequestOfExports}
use Rattle.theorem_one_request.proofs.Same.{one_request_of_calls}

-- the five in numbers
module _ (x y : Address) where
  agree : (elements_of x ≡ elements_of y) ↔ Agree (full_address x) (full_address y)
  unfolding full_address
  agree = (
    (λ z. record {
      type = ap (λ (e : Elements). (row e.type).code) z;
      file = ap (λ (e : Elements). e.file) z;
      element = ap (λ (e : Elements). e.element) z;
      position = ap (λ (e : Elements). e.position) z;
      count = ap (λ (e : Elements). e.count) z;
    }),
    (λ g. same (code_same x.file_type y.file_type g.type) g.file g.element g.position g.count),
  )

-- the call behind an exported one
module _ {q : Requestor} {sequence : ℕ} where
  record Behind (a : Exports q sequence) : Type 0 where
    call : Accepts q sequence
    bytes : take call.length call.left ≡ take a.answer.length a.left
    address : a.answer.address ≡ full_address call.address

  behind : (a : Exports q sequence) → Behind a
  unfolding no_address
  behind a = go (reading a.tag (reading_of a.how) q sequence a.out) refl a.meets.answer
    where
      go : (o : Asked) → reading a.tag (reading_of a.how) q sequence a.out ≡ o → a.answer ≡ request_record (request_of o) → Behind a
      go (refused k) e h =
          let s : 0 < number_of k = (numbered k).0 in
          let z : number_of k ≡ 0 = sym (ap (λ (r : SlcRequest). r.address.refused) h) ∙ a.accepts in
          absurd (omega arith)
      go (sends x m) e h = record {
        call = record { tag = a.tag; how = reading_of a.how; out = a.out; left = a.left; address = x; length = length m; meets = record { answer = ap request_of (sym e); now = a.meets.memory } };
        bytes = ap (λ (r : SlcRequest). take r.length a.left) (sym h);
        address = ap (λ (r : SlcRequest). r.address) h;
      }

pub one_request_of_exports : OneRequestOfExports
one_request_of_exports q sequence a b =
    let f : Behind a = behind a in
    let g : Behind b = behind b in
    let x : Address = f.call.address in
    let y : Address = g.call.address in
    let c : (take f.call.length f.call.left ≡ take g.call.length g.call.left) ↔ (elements_of x ≡ elements_of y) = one_request_of_calls q sequence f.call g.call in (
      (λ z. subst₂ Agree (sym f.address) (sym g.address) ((agree x y).0 (c.0 (f.bytes ∙ z ∙ sym g.bytes)))),
      (λ z. sym f.bytes ∙ c.1 ((agree x y).1 (subst₂ Agree f.address g.address z)) ∙ g.bytes),
    )
