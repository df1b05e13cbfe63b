-- The two readings: the new one is reading with the test of the separator, it takes what the stored one takes less the retired spellings, and of other letters than C and T they are the same.
use Rattle.std.specs.Prelude.{Option, None, Some, Result, Ok, Err}
use Prim.Native.Nat.{ℕ}
use mathlib.Core.Path.{◌≡◌, refl, ap, sym, ◌∙◌}
use mathlib.Core.List.{List}
use mathlib.Core.Bool.{Bool, true, false, ◌&&◌, not, cond}
use lib.Dec.{leb}
use lib.ListN.{length}
use Rattle.base.specs.declared.refusal.Refusal.{Refusal}
use Rattle.base.specs.declared.refusal.Refusal.TheVariants.{MalformedTag, RetiredSeparator}
use Rattle.parser_spec.specs.Parts.{whole}
use Rattle.parser_spec.specs.Characters.{well_formed, utf8}
use Rattle.parser_spec.proofs.Written.{stop}
use Rattle.parser_spec.proofs.Held.{that, and_next, and_any, held_of, whole_some}
use Rattle.address_spec.specs.Spelling.{separates, ct, or_try, form_of, accepted, address_of}
use Rattle.address_spec.specs.declared.Address.{Address}
use Rattle.address_spec.proofs.Ranges.{refused}
use Rattle.address_readings.specs.declared.Reading.{Reading}
use Rattle.address_readings.specs.declared.Reading.TheVariants.{New, Stored}
use Rattle.address_readings.specs.Readings.{plain, plainly, separator, timed, of_timer, retired, address_in, by_forms, by_test, ByTest, LessRetired, NoDifference}
use Rattle.address_readings.proofs.Separators.{ct_plain}
use Rattle.address_readings.proofs.CtLetters.{ct_letter, letter_is, no_form, others, no_others, ct_timed, others_untimed}

-- ---- a tag of the form of C and T is of no other
ct_only : (tag : List ℕ) (x : Address) → ct utf8 separates tag ≡ Some x → others tag ≡ None
unfolding ct
ct_only tag x e = held_of {P = λ (x : Address) (r : List ℕ). others tag ≡ None} (and_next (letter_is tag) λ t r h. and_any _ λ f r. and_any _ λ y r. and_any _ λ _ r. that (no_others h)) (whole_some _ tag x e)

-- ---- the new reading is that with the test
pub by_test_lem : ByTest
unfolding address_in retired address_of by_test form_of or_try
by_test_lem tag = go (leb (length tag) 255 && well_formed tag) (ct utf8 separates tag) refl (others tag) refl
  where
    other : (b : Bool) (z : Address) → Ok z ≡ by_forms (Some z) (or_try (cond {A = Option Address} b None None) (Some z))
    other true z = refl
    other false z = refl

    this : (b : Bool) (z : Address) → cond (not b) (Err RetiredSeparator) (Ok z) ≡ by_forms (Some z) (or_try (cond b (Some z) None) None)
    this true z = refl
    this false z = refl

    go : (t : Bool) (x : Option Address) → ct utf8 separates tag ≡ x → (y : Option Address) → others tag ≡ y
        → cond (of_timer (cond t (accepted (or_try x y)) (Err MalformedTag)) && not (plainly (separator tag))) (Err RetiredSeparator) (cond t (accepted (or_try x y)) (Err MalformedTag))
        ≡ cond t (by_forms (or_try x y) (or_try (ct utf8 plain tag) y)) (Err MalformedTag)
    go false x e y f = refl
    go true None e None f = refl
    go true None e (Some z) f = rw (others_untimed tag z f, ct_plain tag, e) (other (plainly (separator tag)) z)
    go true (Some z) e y f = rw (ct_timed tag z separates e, ct_plain tag, e, sym f ∙ ct_only tag z e) (this (plainly (separator tag)) z)

-- ---- what the new reading takes
pub less_retired : LessRetired
unfolding address_in retired
less_retired tag x = (there (of_timer (address_of tag) && not (plainly (separator tag))) refl, (λ p. rw (p.0, p.1)))
  where
    there : (t : Bool) → (of_timer (address_of tag) && not (plainly (separator tag))) ≡ t → cond t (Err RetiredSeparator) (address_of tag) ≡ Ok x
        → (address_of tag ≡ Ok x) × ((timed x.file_type && not (plainly (separator tag))) ≡ false)
    there true f e = refused e
    there false f e = (e, sym (ap (λ (y : Result Address Refusal). of_timer y && not (plainly (separator tag))) e) ∙ f)

-- what it takes, the stored one takes
pub taken : (r : Reading) (tag : List ℕ) (x : Address) → address_in r tag ≡ Ok x → address_of tag ≡ Ok x
unfolding address_in
taken Stored tag x e = e
taken New tag x e = ((less_retired tag x).0 e).0

-- ---- what isn't a timer's or counter's
ct_none : (tag : List ℕ) → ct_letter tag ≡ None → ct utf8 separates tag ≡ None
unfolding ct whole
ct_none tag e = no_form (stop _ e)

untimed : (tag : List ℕ) → ct_letter tag ≡ None → of_timer (address_of tag) ≡ false
unfolding address_of form_of or_try
untimed tag e = rw (ct_none tag e) (go (leb (length tag) 255 && well_formed tag) (others tag) refl)
  where
    go : (t : Bool) (y : Option Address) → others tag ≡ y → of_timer (cond t (accepted y) (Err MalformedTag)) ≡ false
    go false y f = refl
    go true None f = refl
    go true (Some z) f = others_untimed tag z f

pub no_difference : NoDifference
unfolding address_in retired
no_difference tag = (same, untimed tag)
  where
    same : of_timer (address_of tag) ≡ false → (r : Reading) → address_in r tag ≡ address_of tag
    same e Stored = refl
    same e New = rw e
