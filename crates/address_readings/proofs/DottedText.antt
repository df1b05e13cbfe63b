-- The text with a full stop is accepted as a new entry and names the same address.
use Rattle.std.specs.Prelude.{Option, None, Some, Ok, Err}
use Prim.Native.Nat.{ℕ, ◌+◌, ◌-◌, ◌≤◌}
use mathlib.Core.Path.{◌≡◌, refl, ap, sym, subst, ◌∙◌}
use mathlib.Core.List.{List, [], ◌∷◌, ◌++◌}
use mathlib.Core.Bool.{Bool, true, false, ◌&&◌, cond}
use native.Mathlib.Omega.{arith}
use borrow.Author.Tests.{leb-true, le-leb}
use lib.Dec.{leb}
use lib.ListN.{length, take, drop, length-append}
use lib.Seq.{take_at}
use Rattle.base.specs.declared.refusal.Refusal.TheVariants.{MalformedTag}
use Rattle.parser_spec.specs.Characters.{well_formed, utf8}
use Rattle.address_spec.specs.Spelling.{address, separates, ct, or_try, form_of, accepted, address_of}
use Rattle.address_spec.specs.declared.Address.{Address}
use Rattle.address_spec.proofs.Ranges.{refused}
use Rattle.address_spec.proofs.Unchanged.{small_formed}
use Rattle.address_readings.specs.declared.Reading.TheVariants.{New}
use Rattle.address_readings.specs.Readings.{plain, timed, of_timer, address_in, dotted_timer, dotted, keeping, by_test, DottedNames}
use Rattle.address_readings.proofs.CtLetters.{others, others_untimed}
use Rattle.address_readings.proofs.Readings.{by_test_lem, no_difference}
use Rattle.address_readings.proofs.InParts.{Timer, a_timer, count, front, name, text, up_to, separator_there, separator_bytes, read_again, low_again}

short : (tag : List ℕ) (x : Address) → address_of tag ≡ Ok x → length tag ≤ 255
unfolding address_of
short tag x = go (leb (length tag) 255) refl (well_formed tag)
  where
    go : (t : Bool) → leb (length tag) 255 ≡ t → (b : Bool) → cond (t && b) (accepted (form_of utf8 separates tag)) (Err MalformedTag) ≡ Ok x → length tag ≤ 255
    go true e b q = leb-true (length tag) 255 e
    go false e b q = refused q

-- ---- an accepted address of a timer or counter has their form
pub of_timer_lem : (tag : List ℕ) (x : Address) → address_of tag ≡ Ok x → timed x.file_type ≡ true → ct utf8 separates tag ≡ Some x
unfolding address_of form_of or_try
of_timer_lem tag x e h = go (leb (length tag) 255 && well_formed tag) (ct utf8 separates tag) refl (others tag) refl e
  where
    go : (t : Bool) (y : Option Address) → ct utf8 separates tag ≡ y → (z : Option Address) → others tag ≡ z → cond t (accepted (or_try y z)) (Err MalformedTag) ≡ Ok x → ct utf8 separates tag ≡ Some x
    go false y f z g q = refused q
    go true None f None g q = refused q
    go true None f (Some w) g q =
        let v : w ≡ x = cc in
        let n : timed x.file_type ≡ false = others_untimed tag x (g ∙ ap Some v) in
        absurd (let k : true ≡ false = sym h ∙ n in let m : ◌≡◌ {A = ℕ} 0 1 = cc in omega arith)
    go true (Some w) f z g q = let v : w ≡ x = cc in f ∙ ap Some v

-- ---- its text with a full stop
module _ {tag : List ℕ} {x : Address} (t : Timer tag x []) where
  abbrev rest : List ℕ
  rest = drop (count t) t.element

  whole_length : length tag ≡ length (front t) + length rest
  whole_length = ap length (text t) ∙ length-append (front t) rest

  pub dotted_is : dotted_timer tag ≡ front t ++ (46 ∷ name t)
  unfolding dotted_timer
  dotted_is =
      let k : length (front t) ≡ length tag - length rest = omega (arith, whole_length) in
      let f : take (length tag - length rest) tag ≡ front t = ap (take (length tag - length rest)) (text t) ∙ take_at (front t) rest (length tag - length rest) k in
      rw (up_to t, separator_there t, f)

  pub dotted_shorter : length (front t ++ (46 ∷ name t)) ≤ length tag
  dotted_shorter =
      let b = separator_bytes t in
      let m : length rest ≡ length b.bytes + length (name t) = ap length b.text ∙ length-append b.bytes (name t) in
      omega (arith, length-append (front t) (46 ∷ name t), whole_length, b.some_byte)

  -- accepted as a new entry
  dotted_taken : length tag ≤ 255 → address_in New (front t ++ (46 ∷ name t)) ≡ Ok (keeping (length (front t ++ (46 ∷ name t))) x)
  unfolding by_test form_of or_try
  dotted_taken h =
      let d : List ℕ = front t ++ (46 ∷ name t) in
      let l : length d ≤ 255 = omega (arith, dotted_shorter) in
      let a : x ≡ address t.type t.file t.value.0 None (Some t.value.1) true 1 (length tag) = t.is in
      by_test_lem d ∙ rw (le-leb (length d) 255 l, small_formed d (low_again t), read_again t separates refl, read_again t plain refl)
      (ap (λ (y : Address). Ok (keeping (length d) y)) (sym a))

pub dotted_names : DottedNames
unfolding dotted
dotted_names tag x e = go (timed x.file_type) refl
  where
    go : (b : Bool) → timed x.file_type ≡ b → address_in New (cond b (dotted_timer tag) tag) ≡ Ok (cond b (keeping (length (cond b (dotted_timer tag) tag)) x) x)
    go true h =
        let t = a_timer tag x (of_timer_lem tag x e h) in
        subst (λ (d : List ℕ). address_in New d ≡ Ok (keeping (length d) x)) (sym (dotted_is t)) (dotted_taken t (short tag x e))
    go false h = (no_difference tag).0 (ap of_timer e ∙ h) New ∙ e

-- it has at most 255 bytes
pub dotted_fits : (tag : List ℕ) (x : Address) → address_of tag ≡ Ok x → length (dotted x tag) ≤ 255
unfolding dotted
dotted_fits tag x e = go (timed x.file_type) refl
  where
    go : (b : Bool) → timed x.file_type ≡ b → length (cond b (dotted_timer tag) tag) ≤ 255
    go true h =
        let t = a_timer tag x (of_timer_lem tag x e h) in
        omega (arith, ap length (dotted_is t), dotted_shorter t, short tag x e)
    go false h = short tag x e
