-- A request's answer and memory, told by the record of its answer.
use Rattle.std.proofs.Common.{ℕ, ◌≡◌, ap, ◌∙◌, List, Option, None, Some, Result}
use Rattle.base.specs.declared.refusal.Refusal.{Refusal}
use Rattle.address_spec.specs.declared.Address.{Address}
use Rattle.address_readings.specs.declared.Reading.{Reading}
use Rattle.address_readings.specs.Readings.{address_in}
use Rattle.request_frame.specs.declared.Requestor.{Requestor}
use Rattle.request_spec.specs.declared.WriteValue.{WriteValue}
use Rattle.request_spec.specs.Request.{Asked, Builds, request_of, reading, writing}
use Rattle.link_types.proofs.TypeRecords.{through}
use Rattle.link_requests.specs.declared.requests.SlcAddress.{SlcAddress}
use Rattle.link_requests.specs.declared.requests.SlcRequest.{SlcRequest}
use Rattle.link_requests.specs.Kinds.{reading_of, kind_of, unsuited, writing_kind}
use Rattle.link_requests.specs.RequestRecords.{address_record, request_record, Asks}
use Rattle.link_requests.proofs.OfKind.{unsuited_left}

pub asks : {o : Asked} {l l' : List ℕ} {m : Result (Address × ℕ) Refusal} {r : SlcRequest} → Builds o l m l' → r ≡ request_record m → Asks o l r l'
asks b h = record { answer = through request_record h b.answer; memory = b.now }

-- a tag by the number of its reading
module _ (n : ℕ) (tag : List ℕ) {ρ : Reading} (d : ρ ≡ reading_of n) where
  pub reads_tag : {p : Result Address Refusal} {r : SlcAddress} → p ≡ address_in ρ tag → r ≡ address_record p → r ≡ address_record (address_in (reading_of n) tag)
  reads_tag e h = through address_record h (e ∙ ap (λ (i : Reading). address_in i tag) d)

  pub asks_reading : (q : Requestor) (sequence : ℕ) {l l' : List ℕ} {m : Result (Address × ℕ) Refusal} {r : SlcRequest} → Builds (reading tag ρ q sequence l) l m l' → r ≡ request_record m
      → Asks (reading tag (reading_of n) q sequence l) l r l'
  asks_reading q sequence b h = rw (← d) (asks b h)

-- a write by the number of its kind
module _ (n i : ℕ) (tag s : List ℕ) (q : Requestor) (sequence : ℕ) (l : List ℕ) {ρ : Reading} {k : Option WriteValue} {m : Result (Address × ℕ) Refusal} {r : SlcRequest} (d : ρ ≡ reading_of i) (e : k ≡ kind_of n)
    (h : r ≡ request_record m) where
  pub asks_kind : {l' : List ℕ} (v : WriteValue) → k ≡ Some v → Builds (writing tag ρ v s q sequence l) l m l'
      → Asks (writing_kind (kind_of n) tag (reading_of i) s q sequence l) l r l'
  asks_kind v j b = rw (← d, ← e, j) (asks b h)

  pub asks_none : k ≡ None → m ≡ request_of (unsuited tag ρ) → Asks (writing_kind (kind_of n) tag (reading_of i) s q sequence l) l r l
  asks_none j b = rw (← d, ← e, j) (asks (record { answer = b; now = unsuited_left tag ρ l }) h)
