-- Bytes laid where there is room for them, and the part of a reply that is its datalog entry.
use Prim.Native.Nat.{ℕ, ◌+◌, ◌-◌, ◌≤◌, min}
use mathlib.Core.Path.{◌≡◌, refl, ap, sym, ◌∙◌}
use mathlib.Core.List.{List, [], ◌∷◌}
use native.Mathlib.Nat.{zero-add}
use native.Mathlib.Omega.{arith}
use borrow.Author.Tests.{le-ltb}
use lib.ListN.{length, take, drop, length-drop}
use Rattle.base.proofs.Put.{puts_wrote}
use Rattle.base.specs.Put.{Wrote, Puts}
use Rattle.reply.specs.Status.{datalog_entry, reply_datalog}
use Rattle.reply_part.proofs.Parts.{from_is, data_of_raw, data_of_reply}
use Rattle.link_texts.specs.declared.SlcWritten.{SlcWritten}
use Rattle.link_texts.specs.declared.SlcPart.{SlcPart}
use Rattle.link_texts.specs.WrittenRecords.{written, end_part, part_of, reply_part, Swaps}

module _ (bs l : List ℕ) where
  pub laid : {r : SlcWritten} {n : ℕ} {l' : List ℕ} → length bs ≤ length l → Puts l 0 bs n l' → r ≡ written 0 n → Swaps bs l r l'
  laid h p e =
      let w : Wrote l 0 bs _ _ = puts_wrote p (omega arith) in
      record { answer = rw (le-ltb _ _ h) (e ∙ ap (written 0) (w.end ∙ zero-add (length bs))); memory = rw (le-ltb _ _ h) w.now }

-- ---- the datalog entry
-- bytes from a place on are no longer than all, and are the part that the record tells
module _ (s : List ℕ) {e : List ℕ} (at : ℕ) (p : e ≡ drop at s) where
  end_length : length e ≡ length s - at
  end_length = ap length p ∙ length-drop at s

  end_fits : length e ≤ length s
  end_fits = omega (arith, end_length)

  end_is : take (length e) (drop (length s - length e) s) ≡ e
  end_is =
      let n : length s - length e ≡ min at (length s) = omega (arith, end_length) in
      let k : length e ≡ length s - min at (length s) = omega (arith, end_length) in
      rw (n, k) (from_is s at (min at (length s)) refl ∙ sym p)

pub entry_fits : (raw : List ℕ) {e : List ℕ} → e ≡ datalog_entry raw → length e ≤ length raw
entry_fits raw p = end_fits raw 61 (p ∙ data_of_raw raw)

pub entry_part : (raw : List ℕ) {e : List ℕ} {r : SlcPart} → e ≡ datalog_entry raw → r ≡ end_part raw e → r ≡ part_of raw
unfolding part_of
entry_part raw p h = h ∙ ap (end_part raw) p

pub part_is_entry : (raw : List ℕ) → take (part_of raw).length (drop (part_of raw).from raw) ≡ datalog_entry raw
unfolding part_of
part_is_entry raw = end_is raw 61 (data_of_raw raw)

pub reply_entry_fits : (reply : List ℕ) {e : List ℕ} → e ≡ reply_datalog reply → length e ≤ length reply
reply_entry_fits [] p = end_fits [] 0 p
reply_entry_fits (n ∷ s) p = end_fits (n ∷ s) (n + 4) (p ∙ data_of_reply n s)

pub reply_entry_part : (reply : List ℕ) {e : List ℕ} {r : SlcPart} → e ≡ reply_datalog reply → r ≡ end_part reply e → r ≡ reply_part reply
unfolding reply_part
reply_entry_part reply p h = h ∙ ap (end_part reply) p

pub reply_part_is_entry : (reply : List ℕ) → take (reply_part reply).length (drop (reply_part reply).from reply) ≡ reply_datalog reply
unfolding reply_part
reply_part_is_entry [] = refl
reply_part_is_entry (n ∷ s) = end_is (n ∷ s) (n + 4) (data_of_reply n s)
