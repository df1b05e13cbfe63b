-- A tag has one letter: what begins with C or T is of no other form, and no other form is a timer's or counter's.
use Rattle.std.specs.Prelude.{Option, None, Some}
use Prim.Native.Nat.{ℕ}
use Prim.Native.Char.{Char, code}
use mathlib.Core.Path.{◌≡◌, refl}
use mathlib.Core.List.{List, [], ◌∷◌}
use mathlib.Core.Bool.{Bool, true, false}
use borrow.Author.Tests.{eqb-true}
use lib.Dec.{eqb}
use Rattle.file_type.specs.declared.FileType.{FileType}
use Rattle.file_type.specs.declared.FileType.TheVariants.{C, T}
use Rattle.parser_spec.specs.Parts.{then, or_else, ended, whole, here, one}
use Rattle.parser_spec.specs.Characters.{character, capital, utf8, letter_of, first_of}
use Rattle.parser_spec.proofs.Characters.{letter_held, first_held}
use Rattle.parser_spec.proofs.Held.{Holds, nothing, that, and_next, and_any, or_held, held_of, whole_some}
use Rattle.parser_spec.proofs.Written.{stop}
use Rattle.address_spec.specs.Spelling.{slots, slot, st_or_a, ct, lfbn, io, sta, status, bits, or_try, last_forms}
use Rattle.address_spec.specs.declared.Address.{Address}
use Rattle.address_spec.proofs.Ranges.{one_of}
use Rattle.address_readings.specs.Readings.{timed}

-- ---- the letters of timers and counters
pub data CtLetter (s : List ℕ) : FileType → List ℕ → Type 0 where
  is_c : {x : ℕ} {r : List ℕ} → character s ≡ Some (x, r) → capital x ≡ code "C" → CtLetter s C r
  is_t : {x : ℕ} {r : List ℕ} → character s ≡ Some (x, r) → capital x ≡ code "T" → CtLetter s T r

abbrev pub ct_letter : List ℕ → Option (FileType × List ℕ)
ct_letter = first_of utf8 (("C", C) ∷ ("T", T) ∷ [])

pub letter_is : (s : List ℕ) → Holds (CtLetter s) (ct_letter s)
unfolding first_of
letter_is s =
    or_held (and_next (letter_held utf8 (code "C") s) λ u r h. that (is_c h.text (eqb-true _ _ h.passes)))
    (or_held (and_next (letter_held utf8 (code "T") s) λ u r h. that (is_t h.text (eqb-true _ _ h.passes))) nothing)

-- ---- no other form begins with them
-- none of these codes
abbrev Apart : ℕ → List Char → Type 0
Apart v [] = Unit {0}
Apart v (c ∷ cs) = (eqb v (code c) ≡ false) × Apart v cs

abbrev chars : {A : Type 0} → List (Char × A) → List Char
chars [] = []
chars (x ∷ xs) = x.0 ∷ chars xs

none_of : {x y : Option Address} → x ≡ None → y ≡ None → or_try x y ≡ None
unfolding or_try
none_of e f = rw (e, f)

pub no_form : {x : Option (Address × List ℕ)} → x ≡ None → ended x ≡ None
unfolding ended
no_form e = rw e

-- the other forms, in the Rust's order
abbrev pub others : List ℕ → Option Address
others tag = or_try (lfbn utf8 tag) (or_try (io utf8 tag) (last_forms utf8 tag))

module _ (s : List ℕ) (x : ℕ) {r : List ℕ} (e : character s ≡ Some (x, r)) (v : ℕ) (c : capital x ≡ v) where
  pub letter_no : (w : ℕ) → eqb v w ≡ false → letter_of utf8 w s ≡ None
  unfolding letter_of one then here
  letter_no w h = rw (e, c, h)

  first_no_lem : {A : Type 0} (xs : List (Char × A)) → Apart v (chars xs) → first_of utf8 xs s ≡ None
  unfolding first_of or_else then
  first_no_lem [] h = refl
  first_no_lem (y ∷ xs) h = rw (letter_no (code y.0) h.0) (first_no_lem xs h.1)

  sta_no : (st : Bool) → Apart v ("S" ∷ "A" ∷ []) → sta utf8 st s ≡ None
  unfolding sta st_or_a whole
  sta_no true h = no_form (stop _ (stop _ (letter_no _ h.0)))
  sta_no false h = no_form (stop _ (stop _ (letter_no _ h.1.0)))

  -- the forms in turn: L, F, B and N; I and O; ST and A; S; B by its bits
  others_no : Apart v ("L" ∷ "F" ∷ "B" ∷ "N" ∷ []) → Apart v ("I" ∷ "O" ∷ []) → Apart v ("S" ∷ "A" ∷ []) → others s ≡ None
  unfolding lfbn io slot status bits last_forms whole
  others_no h i a =
      none_of (no_form (stop _ (first_no_lem _ h))) (none_of (no_form (stop _ (stop _ (first_no_lem _ i)))) (none_of (sta_no true a) (none_of (sta_no false a)
      (none_of (no_form (stop _ (letter_no _ a.0))) (no_form (stop _ (letter_no _ h.1.1.0)))))))

pub no_others : {s : List ℕ} {t : FileType} {r : List ℕ} → CtLetter s t r → others s ≡ None
no_others (is_c e c) = others_no _ _ e _ c (refl, (refl, (refl, (refl, tt)))) (refl, (refl, tt)) (refl, (refl, tt))
no_others (is_t e c) = others_no _ _ e _ c (refl, (refl, (refl, (refl, tt)))) (refl, (refl, tt)) (refl, (refl, tt))

-- ---- whose address it is
abbrev Timed : Bool → Address → List ℕ → Type 0
Timed b x r = timed x.file_type ≡ b

abbrev TimedType : Bool → FileType → Type 0
TimedType b t = timed t ≡ b

module _ (tag : List ℕ) (x : Address) where
  pub ct_timed : (separator : ℕ → Bool) → ct utf8 separator tag ≡ Some x → timed x.file_type ≡ true
  unfolding ct
  ct_timed separator k = held_of {P = Timed true} (and_next (first_held utf8 (TimedType true) _ (refl, (refl, tt)) tag) λ t r h. and_any _ λ f r. and_any _ λ y r. and_any _ λ _ r. that h) (whole_some _ tag x k)

  lfbn_untimed : lfbn utf8 tag ≡ Some x → timed x.file_type ≡ false
  unfolding lfbn
  lfbn_untimed k = held_of {P = Timed false} (and_next (first_held utf8 (TimedType false) _ (refl, (refl, (refl, (refl, tt)))) tag) λ t r h. and_any _ λ f r. and_any _ λ e r. and_any _ λ y r. that h) (whole_some _ tag x k)

  io_untimed : io utf8 tag ≡ Some x → timed x.file_type ≡ false
  unfolding io slot
  io_untimed k =
      held_of {P = Timed false} (and_next (and_next (first_held utf8 (λ (t : FileType × ℕ). timed t.0 ≡ false) slots (refl, (refl, tt)) tag) λ t r h. and_any _ λ _ r. and_any _ λ _ r. that h)
      λ t r h. and_any _ λ e r. and_any _ λ p r. and_any _ λ y r. that h) (whole_some _ tag x k)

  st_or_a_untimed : (st : Bool) → Holds (λ (t : FileType) (r : List ℕ). timed t ≡ false) (st_or_a utf8 st tag)
  unfolding st_or_a
  st_or_a_untimed true = and_any _ λ _ r. and_any _ λ _ r. that refl
  st_or_a_untimed false = and_any _ λ _ r. that refl

  sta_untimed : (st : Bool) → sta utf8 st tag ≡ Some x → timed x.file_type ≡ false
  unfolding sta
  sta_untimed st k = held_of {P = Timed false} (and_next (st_or_a_untimed st) λ t r h. and_any _ λ f r. and_any _ λ e r. and_any _ λ n r. that h) (whole_some _ tag x k)

  status_untimed : status utf8 tag ≡ Some x → timed x.file_type ≡ false
  unfolding status
  status_untimed k = held_of {P = Timed false} (and_any _ λ _ r. and_any _ λ _ r. and_any _ λ e r. and_any _ λ y r. that refl) (whole_some _ tag x k)

  bits_untimed : bits utf8 tag ≡ Some x → timed x.file_type ≡ false
  unfolding bits
  bits_untimed k = held_of {P = Timed false} (and_any _ λ _ r. and_any _ λ f r. and_any _ λ y r. and_any _ λ n r. that refl) (whole_some _ tag x k)

  pub others_untimed : others tag ≡ Some x → timed x.file_type ≡ false
  unfolding last_forms
  others_untimed = one_of _ _ lfbn_untimed (one_of _ _ io_untimed (one_of _ _ (sta_untimed true) (one_of _ _ (sta_untimed false) (one_of _ _ status_untimed bits_untimed))))
