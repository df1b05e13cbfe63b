-- Laws of the status in words.
use Rattle.std.specs.Prelude.{Option, None, Some, Result, Ok, Err}
use Prim.Native.Nat.{ℕ, ◌+◌, ◌/◌, ◌%◌, ◌≤◌, ◌<◌}
use mathlib.Core.Path.{◌≡◌, refl, ap, sym, subst, ◌∙◌}
use mathlib.Core.Bool.{Bool, true, false}
use mathlib.Core.List.{List, [], ◌∷◌, ◌++◌, append-nil}
use native.Mathlib.Nat.{zero-add}
use native.Mathlib.Omega.{arith}
use borrow.Author.Tests.{lt-ltb, le-ltb, ne_eqb, ltb-false}
use lib.Dec.{ltb}
use lib.ListN.{length, get_or, length-append}
use Rattle.base.specs.Chars.{bytes}
use Rattle.base.specs.Put.{Wrote, Puts}
use Rattle.base.proofs.Put.{and_then, wrote_length, puts_wrote}
use Rattle.base.specs.declared.refusal.Refusal.{Refusal}
use Rattle.base.specs.declared.refusal.Refusal.TheVariants.{ShortOutput}
use Rattle.reply_status_text.specs.Texts.{text_of, Tells}
use Rattle.reply_status_text.proofs.StatusTexts.{told}
use Rattle.reply_part.specs.Part.{data_of}
use Rattle.reply_part.proofs.Parts.{one_part}
use Rattle.reply.specs.Status.{digit, in_hex, first, named, extended, said, status_in, status_text, reply_status, datalog_entry, reply_datalog}

-- ---- a byte in hexadecimal
pub hex_length : (before : List ℕ) (b : ℕ) → length (in_hex before b) ≡ length before + 3
unfolding in_hex
hex_length before b = length-append before (digit (b / 16) ∷ digit (b % 16) ∷ 41 ∷ [])

pub hex_laid : {l m k before : List ℕ} {at n r x y : ℕ} (b : ℕ) → at + length (in_hex before b) ≤ length l → x ≡ digit (b / 16) → y ≡ digit (b % 16) → Puts l at before n m → Puts m n (x ∷ y ∷ 41 ∷ []) r k → Wrote l at (in_hex before b) r k
unfolding in_hex
hex_laid {l} {m} {k} {before} {at} {n} {r} {x} {y} b h ex ey p q =
    let s : length (in_hex before b) ≡ length before + 3 = hex_length before b in
    let w : Wrote l at before n m = puts_wrote p (omega arith) in
    let g : length m ≡ length l = wrote_length w (omega arith) in
    let e : n ≡ at + length before = w.end in
    let v : Wrote m n (x ∷ y ∷ 41 ∷ []) r k = puts_wrote q (omega arith) in
    rw (sym ex, sym ey) (and_then w v (omega arith))

-- ---- what a call that has told something left
module _ {t : List ℕ} {l m : List ℕ} {r : Result (Option ℕ) Refusal} (w : Tells (Some t) l r m) where
  -- there was room, or there was none
  was_written : {n : ℕ} → r ≡ Ok (Some n) → (96 ≤ length l) × Wrote l 0 t n m
  was_written {n} e = go (ltb (length l) 96) refl
    where
      go : (b : Bool) → ltb (length l) 96 ≡ b → (96 ≤ length l) × Wrote l 0 t n m
      go true f = let a : r ≡ Err ShortOutput = w.answer ∙ rw f in let z : ⊥ = cc in absurd z
      go false f =
          let a : r ≡ Ok (Some (length t)) = w.answer ∙ rw f in
          let g : n ≡ length t = cc in
          (ltb-false (length l) 96 f, record { end = g ∙ sym (zero-add (length t)); now = w.memory ∙ rw f })

  never_nothing : r ≡ Ok None → ⊥
  never_nothing e = go (ltb (length l) 96) refl
    where
      go : (b : Bool) → ltb (length l) 96 ≡ b → ⊥
      go true f = let a : r ≡ Err ShortOutput = w.answer ∙ rw f in cc
      go false f = let a : r ≡ Ok (Some (length t)) = w.answer ∙ rw f in cc

-- ---- the first byte
first_there : (s : List ℕ) → 1 ≤ length s → first s ≡ Some (get_or s 0 0)
first_there [] h = absurd (omega arith)
first_there (b ∷ s) h = refl

first_missing : (s : List ℕ) → length s < 1 → first s ≡ None
first_missing [] h = refl
first_missing (b ∷ s) h = absurd (omega arith)

-- ---- F0
abbrev f0 : List ℕ
f0 = bytes "Error code in EXT STS Byte"

module _ (ext l m : List ℕ) (r : Result (Option ℕ) Refusal) (w : Tells (text_of 0xF0) l r m) where
  of_f0 : Tells (Some f0) l r m
  unfolding text_of
  of_f0 = w

  pub f0_nothing : r ≡ Ok None → ⊥
  f0_nothing e = never_nothing of_f0 e

  module _ {n : ℕ} (e : r ≡ Ok (Some n)) where
    module _ (h : 1 ≤ length ext) where
      pub f0_room : n + length (in_hex (bytes " (EXT STS 0x") (get_or ext 0 0)) ≤ length m
      f0_room =
          let p : (96 ≤ length l) × Wrote l 0 f0 n m = was_written of_f0 e in
          let g : length m ≡ length l = wrote_length p.1 (omega arith) in
          omega (arith, p.1.end, hex_length (bytes " (EXT STS 0x") (get_or ext 0 0))

      pub f0_written : {t : ℕ} {k : List ℕ} → Wrote m n (in_hex (bytes " (EXT STS 0x") (get_or ext 0 0)) t k → Tells (said (Some 0xF0) (first ext)) l (Ok (Some t)) k
      unfolding text_of
      f0_written v =
          let p : (96 ≤ length l) × Wrote l 0 f0 n m = was_written of_f0 e in
          rw (first_there ext h) (told _ l p.0 (and_then p.1 v (omega arith)))

-- ---- any status
pub status_missing : (part l m : List ℕ) (r : Result (Option ℕ) Refusal) → length part < 1 → Tells (Some (bytes "Unknown Status")) l r m → Tells (status_in part) l r m
unfolding status_in
status_missing part l m r h w = rw (first_missing part h) w

-- ---- the two forms are one: an id of 7 bytes behind 50 bytes of anything
module _ (h s : List ℕ) (e : length h ≡ 50) where
  pub one_status : reply_status (7 ∷ s) ≡ status_text (h ++ (7 ∷ s))
  one_status = ap status_in (sym (one_part h s e))

  pub one_datalog : reply_datalog (7 ∷ s) ≡ datalog_entry (h ++ (7 ∷ s))
  one_datalog = ap data_of (sym (one_part h s e))
