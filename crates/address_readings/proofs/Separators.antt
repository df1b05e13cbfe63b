-- The separator of a timer or counter: reading with a test of it is reading without, and then asking.
use Rattle.std.specs.Prelude.{Option, None, Some}
use Prim.Native.Nat.{ℕ, zero, suc, min, ◌≤◌, ◌<◌}
use mathlib.Core.Path.{◌≡◌, refl, ap, sym, ◌∙◌}
use mathlib.Core.List.{List, [], ◌∷◌}
use mathlib.Core.Bool.{Bool, true, false, cond}
use native.Mathlib.Nat.{not-suc-le-zero}
use native.Mathlib.Omega.{arith}
use borrow.Author.Tests.{leb-true, eqb-true, ne_eqb}
use lib.Dec.{leb, eqb}
use lib.ListN.{length, take, drop}
use Rattle.base.proofs.EveryPlace.{both}
use Rattle.file_type.specs.declared.FileType.{FileType}
use Rattle.file_type.specs.declared.FileType.TheVariants.{C, T}
use Rattle.parser_spec.specs.DecimalNumbers.{is_digit, digit_run, number_of}
use Rattle.parser_spec.specs.Parts.{Part, then, or_else, ended, whole, here, one}
use Rattle.parser_spec.specs.Characters.{character, utf8, first_of}
use Rattle.parser_spec.proofs.Characters.{small_character}
use Rattle.address_spec.specs.Spelling.{address, file_then, separates, name_in, ct_names, cut, cuts, element_name, ct}
use Rattle.address_spec.specs.declared.Address.{Address}
use Rattle.address_readings.specs.Readings.{stands, element_digits, past_element, up_to_separator, separator, plain, plainly}

-- ---- a full stop and a slash stand before the digits: no digit is one, and no byte above 127
pub behind_slash : (x : ℕ) → 48 ≤ x → plain x ≡ false
behind_slash x h = rw (ne_eqb x 46 (λ (e : x ≡ 46). omega arith), ne_eqb x 47 (λ (e : x ≡ 47). omega arith))

digit_character : (b : ℕ) (s : List ℕ) → is_digit b ≡ true → character (b ∷ s) ≡ Some (b, s)
digit_character b s e = let h : b ≤ 57 = leb-true b 57 (both (leb 48 b) (leb b 57) e).1 in small_character b s (omega arith)

among_digits : (k : ℕ) (s : List ℕ) → k < digit_run s → plainly (character (drop k s)) ≡ false
unfolding digit_run
among_digits k [] h = absurd (not-suc-le-zero h)
among_digits k (b ∷ s) h = go (is_digit b) refl (λ k. among_digits k s) k h
  where
    go : (t : Bool) → is_digit b ≡ t → ((k : ℕ) → k < digit_run s → plainly (character (drop k s)) ≡ false) → (k : ℕ) → k < cond t (suc (digit_run s)) 0 → plainly (character (drop k (b ∷ s))) ≡ false
    go false e f k h = absurd (not-suc-le-zero h)
    go true e f zero h = ap plainly (digit_character b s e) ∙ behind_slash b (leb-true 48 b (both (leb 48 b) (leb b 57) e).0)
    go true e f (suc k) h = f k (omega arith)

-- ---- one cut, and the longest first
abbrev only : {A : Type 0} → Bool → Option A → Option A
only t x = cond t x None

only_none : {A : Type 0} (t : Bool) → ◌≡◌ {A = Option A} (only t None) None
only_none true = refl
only_none false = refl

-- a full stop or a slash is no newline
plain_separates : (x : ℕ) → plain x ≡ true → separates x ≡ true
plain_separates x e = go (eqb x 10) refl
  where
    go : (t : Bool) → eqb x 10 ≡ t → separates x ≡ true
    go false f = rw f
    go true f = absurd (let z : x ≡ 10 = eqb-true x 10 f in let w : plain 10 ≡ true = ap plain (sym z) ∙ e in let v : ◌≡◌ {A = ℕ} 0 1 = cc in omega arith)

-- what follows a separator
abbrev name : ℕ → Option (Unit {0} × List ℕ) → Option ((ℕ × ℕ) × List ℕ)
name e x = then x (λ _ r. then (name_in ct_names r) (λ n q. Some ((e, n), q)))

cut_plain : (k : ℕ) (s : List ℕ) → cut character plain k s ≡ only (plainly (character (drop k s))) (cut character separates k s)
unfolding cut one then here
cut_plain k s = go (character (drop k s))
  where
    by : (t : Bool) (x : ℕ) (r : List ℕ) → plain x ≡ t → name (number_of (take k s)) (here t r) ≡ only t (name (number_of (take k s)) (here (separates x) r))
    by true x r e = rw (plain_separates x e)
    by false x r e = refl

    go : (z : Option (ℕ × List ℕ)) → name (number_of (take k s)) (then z (λ x. here (plain x))) ≡ only (plainly z) (name (number_of (take k s)) (then z (λ x. here (separates x))))
    go None = refl
    go (Some p) = by (plain p.0) p.0 p.1 refl

pub digits_most : (k : ℕ) (s : List ℕ) → element_digits k s ≤ k
unfolding element_digits
digits_most zero s = omega arith
digits_most (suc k) s = go (stands (cut character separates (suc k) s)) (digits_most k s)
  where
    go : (t : Bool) → element_digits k s ≤ k → cond t (suc k) (element_digits k s) ≤ suc k
    go true h = omega arith
    go false h = omega arith

-- fewer digits than there are leave a digit behind them
cuts_fewer : (k : ℕ) (s : List ℕ) → k < digit_run s → cuts character plain k s ≡ None
unfolding cuts or_else
cuts_fewer zero s h = refl
cuts_fewer (suc k) s h = rw (cut_plain (suc k) s, among_digits (suc k) s h) (cuts_fewer k s (omega arith))

cuts_plain : (k : ℕ) (s : List ℕ) → k ≤ digit_run s → cuts character plain k s ≡ only (plainly (character (drop (element_digits k s) s))) (cuts character separates k s)
unfolding cuts element_digits or_else
cuts_plain zero s h = sym (only_none (plainly (character s)))
cuts_plain (suc k) s h = ap (or_else (cut character plain (suc k) s)) (cuts_fewer k s h) ∙ ap (λ x. or_else x None) (cut_plain (suc k) s) ∙ go (cut character separates (suc k) s)
  where
    by : (t : Bool) (v : (ℕ × ℕ) × List ℕ) → or_else (only t (Some v)) None ≡ only t (Some v)
    by true v = refl
    by false v = refl

    go : (x : Option ((ℕ × ℕ) × List ℕ)) → or_else (only (plainly (character (drop (suc k) s))) x) None
        ≡ only (plainly (character (drop (cond (stands x) (suc k) (element_digits k s)) s))) (or_else x (cuts character separates k s))
    go None = rw (only_none {A = (ℕ × ℕ) × List ℕ} (plainly (character (drop (suc k) s))), among_digits (element_digits k s) s (omega (arith, digits_most k s)))
    go (Some v) = by (plainly (character (drop (suc k) s))) v

abbrev behind_element : List ℕ → Bool
behind_element s = plainly (character (drop (element_digits (min (digit_run s) 3) s) s))

name_plain : (s : List ℕ) → element_name character plain s ≡ only (behind_element s) (element_name character separates s)
unfolding element_name
name_plain s = cuts_plain (min (digit_run s) 3) s (omega arith)

-- ---- the whole tag
-- what follows an element and a name, and what follows the file
abbrev told : List ℕ → FileType → ℕ → Option ((ℕ × ℕ) × List ℕ) → Option (Address × List ℕ)
told tag t f x = then x (λ y r. then (here (leb y.0 255) r) (λ _ q. Some (address t f y.0 None (Some y.1) true 1 (length tag), q)))

abbrev behind_file : (ℕ → Bool) → List ℕ → FileType → ℕ → Part Address
behind_file test tag t f r = told tag t f (element_name character test r)

pub ct_plain : (tag : List ℕ) → ct utf8 plain tag ≡ only (plainly (separator tag)) (ct utf8 separates tag)
unfolding ct whole separator up_to_separator past_element then ended
ct_plain tag = letters (first_of utf8 (("C", C) ∷ ("T", T) ∷ []) tag)
  where
    by : (t : FileType) (f : ℕ) (b : Bool) (x : Option ((ℕ × ℕ) × List ℕ)) → ended (told tag t f (only b x)) ≡ only b (ended (told tag t f x))
    by t f true x = refl
    by t f false x = refl

    files : (t : FileType) (z : Option (ℕ × List ℕ)) → ended (then z (behind_file plain tag t))
        ≡ only (plainly (then (then z (λ _. past_element)) (λ _. character))) (ended (then z (behind_file separates tag t)))
    files t None = refl
    files t (Some p) = ap (λ x. ended (told tag t p.0 x)) (name_plain p.1) ∙ by t p.0 (behind_element p.1) (element_name character separates p.1)

    letters : (z : Option (FileType × List ℕ)) → ended (then z (λ t r. then (file_then ":" r) (behind_file plain tag t)))
        ≡ only (plainly (then (then z (λ _ r. then (file_then ":" r) (λ _. past_element))) (λ _. character))) (ended (then z (λ t r. then (file_then ":" r) (behind_file separates tag t))))
    letters None = refl
    letters (Some p) = files p.0 (file_then ":" p.1)
