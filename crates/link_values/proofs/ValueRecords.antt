-- Values by the record of an address.
use Rattle.std.proofs.Common.{ℕ, ◌≡◌, refl, ap, subst, ◌∙◌, Bool, true, false, not, List, length, Option, None, Some, Result, Ok, Err}
use lib.Dec.{eqb}
use Rattle.base.specs.declared.refusal.Refusal.{Refusal}
use Rattle.base.specs.declared.refusal.Refusal.TheVariants.{UnreadableReply}
use Rattle.file_type.specs.declared.FileType.{FileType}
use Rattle.file_type.specs.Table.{of_code}
use Rattle.file_type.proofs.FileTypes.{own_code}
use Rattle.address_spec.specs.declared.Address.{Address}
use Rattle.address_readings.specs.declared.Reading.{Reading}
use Rattle.address_readings.specs.Readings.{address_in}
use Rattle.reply_values_spec.specs.declared.ReplyValue.{ReplyValue}
use Rattle.reply_values_spec.specs.Values.{Value, values_of, values, Says, asked, on_address, Reads}
use Rattle.link_types.specs.Types.{flag}
use Rattle.link_requests.specs.Kinds.{reading_of}
use Rattle.link_requests.specs.declared.requests.SlcAddress.{SlcAddress}
use Rattle.link_requests.specs.RequestRecords.{full_address}
use Rattle.link_values.specs.declared.SlcReplyValue.{SlcReplyValue}
use Rattle.link_values.specs.ValueRecords.{reply_record, values_in, ReadsInRecord}

pub in_record : {o : Says} {l l' : List ℕ} {m : Result (ReplyValue × ℕ) Refusal} {r : SlcReplyValue} → Reads o l m l' → r ≡ reply_record m → ReadsInRecord o l r l'
in_record w h = record { answer = h ∙ ap reply_record w.answer; memory = w.memory }

-- ---- by a type code
module _ (code flag sub : ℕ) (s : List ℕ) (i : ℕ) (l : List ℕ) {k : Option FileType} (e : k ≡ of_code code) {r : SlcReplyValue} where
  pub no_type_lem : k ≡ None → r ≡ reply_record (Err UnreadableReply) → ReadsInRecord (asked i (length l) (values_in (of_code code) flag sub s)) l r l
  unfolding values_in
  no_type_lem q h = rw (← e, q) (record { answer = h; memory = refl })

  pub by_type : (t : FileType) {m : Result (ReplyValue × ℕ) Refusal} {l' : List ℕ} → k ≡ Some t → Reads (asked i (length l) (values_of t (not (eqb flag 0)) sub s)) l m l' → r ≡ reply_record m
      → ReadsInRecord (asked i (length l) (values_in (of_code code) flag sub s)) l r l'
  unfolding values_in
  by_type t q w h = rw (← e, q) (in_record w h)

-- the record of an address stands for the address
bit_flag : (b : Bool) → not (eqb (flag b) 0) ≡ b
bit_flag true = refl
bit_flag false = refl

pub of_record : (x : Address) (s : List ℕ) → values_in (of_code (full_address x).code) (full_address x).bit (full_address x).sub_element s ≡ values x s
unfolding values_in full_address
of_record x s = rw (← own_code x.file_type, bit_flag x.bit)

-- ---- by a tag, and the number of its reading
module _ (n : ℕ) (tag s : List ℕ) (i : ℕ) (l : List ℕ) {ρ : Reading} {p : Result Address Refusal} {r : SlcReplyValue} (d : ρ ≡ reading_of n) (e : p ≡ address_in ρ tag) where
  pub no_address_lem : (k : Refusal) → p ≡ Err k → r ≡ reply_record (Err k) → ReadsInRecord (on_address (address_in (reading_of n) tag) s i (length l)) l r l
  no_address_lem k q h = rw (← d, ← e, q) (record { answer = h; memory = refl })

  pub on_address_lem : (x : Address) {a : SlcAddress} {l' : List ℕ} → p ≡ Ok x → a ≡ full_address x
      → ReadsInRecord (asked i (length l) (values_in (of_code a.code) a.bit a.sub_element s)) l r l' → ReadsInRecord (on_address (address_in (reading_of n) tag) s i (length l)) l r l'
  on_address_lem x {a} {l'} q h w =
      let w' : ReadsInRecord (asked i (length l) (values_in (of_code (full_address x).code) (full_address x).bit (full_address x).sub_element s)) l r l' = subst (λ (z : SlcAddress). ReadsInRecord (asked i (length l) (values_in (of_code z.code) z.bit z.sub_element s)) l r l') h w in
      rw (← d, ← e, q) (subst (λ (o : Option (List Value)). ReadsInRecord (asked i (length l) o) l r l') (of_record x s) w')
