-- A call's answer and memory, told by the record of its answer.
use Rattle.std.proofs.Common.{ℕ, ◌≡◌, List, Option, Result}
use Rattle.base.specs.Outcome.{Outcome}
use Rattle.base.specs.declared.refusal.Refusal.{Refusal}
use Rattle.address_dotted.specs.DottedAnswers as answers
use Rattle.directory.specs.Rows as rows
use Rattle.request_untagged.specs.Requests as requests
use Rattle.reply_status_text.specs.Texts.{Tells}
use Rattle.element_text.specs.Text.{written_of, out_of}
use Rattle.link_types.proofs.TypeRecords.{through}
use Rattle.link_texts.specs.declared.SlcWritten.{SlcWritten}
use Rattle.link_texts.specs.WrittenRecords.{written_record, status_record, Swaps, Dots, Sends, Says, Lists}

module _ {l l' : List ℕ} {m : Result ℕ Refusal} {r : SlcWritten} where
  pub sends : {o : Outcome} → requests.Builds o l m l' → r ≡ written_record m → Sends o l r l'
  sends b h = record { answer = through written_record h b.answer; memory = b.now }

  pub dots : {o : Outcome} → answers.Dots o l m l' → r ≡ written_record m → Dots o l r l'
  dots b h = record { answer = through written_record h b.answer; memory = b.now }

  pub swaps : (bs : List ℕ) → m ≡ written_of bs l → l' ≡ out_of bs l → r ≡ written_record m → Swaps bs l r l'
  swaps bs e k h = record { answer = through written_record h e; memory = k }

pub swaps_same : (bs : List ℕ) {b l l' : List ℕ} {r : SlcWritten} → b ≡ bs → Swaps b l r l' → Swaps bs l r l'
swaps_same bs e s = rw (← e) s

pub says : {l l' : List ℕ} {text : Option (List ℕ)} {m : Result (Option ℕ) Refusal} {r : SlcWritten} → Tells text l m l' → r ≡ status_record m → Says text l r l'
says b h = record { answer = through status_record h b.answer; memory = b.memory }

pub lists : {o : rows.Says} {l l' : List (List ℕ)} {m : Result ℕ Refusal} {r : SlcWritten} → rows.Lists o l m l' → r ≡ written_record m → Lists o l r l'
lists b h = record { answer = through written_record h b.answer; memory = b.memory }
