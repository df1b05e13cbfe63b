-- An accepted tag of a timer or counter in its parts: letter, file and `:`, digits, separator, name; and the same parts with a full stop, read again.
use Rattle.std.specs.Prelude.{Option, Some, None}
use Prim.Native.Nat.{ℕ, zero, suc, min, ◌≤◌, ◌<◌}
use Prim.Native.Char.{code}
use mathlib.Core.Path.{◌≡◌, refl, ap, sym, subst, ◌∙◌}
use mathlib.Core.List.{List, [], ◌∷◌, ◌++◌, append_assoc}
use mathlib.Core.Bool.{Bool, true, false, ◌&&◌, cond}
use native.Mathlib.Nat.{not-suc-le-zero}
use native.Mathlib.Omega.{arith}
use borrow.Author.Tests.{leb-true, lt-ltb}
use lib.Dec.{leb, ltb}
use lib.ListN.{length, take, drop, take-append-drop}
use lib.Seq.{length-take-le, take-append_seam, drop-append_seam}
use Rattle.base.proofs.EveryPlace.{both}
use Rattle.file_type.specs.declared.FileType.{FileType}
use Rattle.file_type.specs.declared.FileType.TheVariants.{C, T}
use Rattle.parser_spec.specs.DecimalNumbers.{is_digit, digit_run, number_of}
use Rattle.parser_spec.specs.Parts.{or_else, digits_in}
use Rattle.parser_spec.specs.Characters.{character, capital, utf8}
use Rattle.parser_spec.proofs.Behind.{run_within}
use Rattle.parser_spec.proofs.Characters.{small_character, other_capital, letter_read, first_read, first_past}
use Rattle.parser_spec.proofs.CharacterBytes.{InBytes, Sort, small, high, in_bytes}
use Rattle.parser_spec.proofs.Held.{Holds, nothing, that, and_next, held_of, itself, whole_some, here_held, one_held, byte_held, digits_held}
use Rattle.parser_spec.proofs.Written.{passed, step, whole_read, one_read, byte_read, run_read, in_read}
use Rattle.address_spec.specs.Spelling.{address, ascii, file_before, file_then, separates, name_in, ct_names, cut, cuts, element_name, ct}
use Rattle.address_spec.specs.declared.Address.{Address}
use Rattle.address_readings.specs.Readings.{stands, element_digits, past_element, up_to_separator, separator}
use Rattle.address_readings.proofs.Names.{small_upper, Name, name_held}
use Rattle.address_readings.proofs.Separators.{digits_most}
use Rattle.address_readings.proofs.CtLetters.{CtLetter, is_c, is_t, ct_letter, letter_is, letter_no}

-- ---- the letter
-- C and T have no other characters than their own letters
small_letter : (x v : ℕ) → capital x ≡ v → v < 128 → (code "I" ≡ v → ⊥) → (code "S" ≡ v → ⊥) → x < 128
small_letter x v e h i s = small_upper x v (sym (other_capital x (λ z. i (sym (ap capital z) ∙ e)) (λ z. s (sym (ap capital z) ∙ e))) ∙ e) h

record Letter (s : List ℕ) (t : FileType) (r : List ℕ) : Type 0 where
  byte : ℕ
  text : s ≡ byte ∷ r
  low : byte < 128
  again : (q : List ℕ) → ct_letter (byte ∷ q) ≡ Some (t, q)

-- a character below 128 is its byte
as_byte : {s : List ℕ} {x : ℕ} {r : List ℕ} → character s ≡ Some (x, r) → x < 128 → s ≡ x ∷ r
as_byte {s} {x} {r} e h = let b = held_of (in_bytes s) e in b.text ∙ ap (λ (l : List ℕ). l ++ r) (go b.sort)
  where
    go : {bytes : List ℕ} → Sort x bytes → bytes ≡ x ∷ []
    go (small l t) = t
    go (high l f) = absurd (omega arith)

a_letter : {s : List ℕ} {t : FileType} {r : List ℕ} → CtLetter s t r → Letter s t r
a_letter (is_c {x = x} e c) =
    let l : x < 128 = small_letter x (code "C") c (omega arith) (λ z. omega arith) (λ z. omega arith) in
    record { byte = x; text = as_byte e l; low = l; again = λ q. first_read utf8 "C" C _ (x ∷ q) (letter_read utf8 (code "C") x (small_character x q l) c) }
a_letter (is_t {x = x} e c) =
    let l : x < 128 = small_letter x (code "T") c (omega arith) (λ z. omega arith) (λ z. omega arith) in
    record {
      byte = x;
      text = as_byte e l;
      low = l;
      again = λ q. first_past utf8 "C" C _ (x ∷ q) (letter_no (x ∷ q) x (small_character x q l) (code "T") c (code "C") refl) ∙ first_read utf8 "T" T _ (x ∷ q) (letter_read utf8 (code "T") x (small_character x q l) c);
    }

-- ---- digits
run_taken : (k : ℕ) (s : List ℕ) → k ≤ digit_run s → digit_run (take k s) ≡ k
unfolding digit_run
run_taken zero s h = refl
run_taken (suc k) [] h = absurd (not-suc-le-zero h)
run_taken (suc k) (b ∷ s) h = go (is_digit b) refl (run_taken k s) h
  where
    go : (t : Bool) → is_digit b ≡ t → (k ≤ digit_run s → digit_run (take k s) ≡ k) → suc k ≤ cond t (suc (digit_run s)) 0 → cond t (suc (digit_run (take k s))) 0 ≡ suc k
    go true e f h = ap suc (f (omega arith))
    go false e f h = absurd (not-suc-le-zero h)

digits_small : (s : List ℕ) → digit_run s ≡ length s → ascii s ≡ true
unfolding digit_run ascii
digits_small [] e = refl
digits_small (b ∷ s) e = go (is_digit b) refl (digits_small s) e
  where
    go : (t : Bool) → is_digit b ≡ t → (digit_run s ≡ length s → ascii s ≡ true) → cond t (suc (digit_run s)) 0 ≡ suc (length s) → (ltb b 128 && ascii s) ≡ true
    go true d f e =
        let h : b ≤ 57 = leb-true b 57 (both (leb 48 b) (leb b 57) d).1 in
        let k : b < 128 = omega arith in
        rw (lt-ltb b 128 k) (f (omega arith))
    go false d f e = absurd (omega arith)

-- so many digits of a run
record Digits (s : List ℕ) (k : ℕ) : Type 0 where
  long : length (take k s) ≡ k
  run : digit_run (take k s) ≡ length (take k s)
  low : ascii (take k s) ≡ true

some_digits : (s : List ℕ) (k : ℕ) → k ≤ digit_run s → Digits s k
some_digits s k h =
    let l : length (take k s) ≡ k = length-take-le k s (omega (arith, run_within s)) in
    let r : digit_run (take k s) ≡ length (take k s) = run_taken k s h ∙ sym l in
    record { long = l; run = r; low = digits_small (take k s) r }

-- ---- the file and its sign
record File (s : List ℕ) (f : ℕ) (q : List ℕ) : Type 0 where
  digits : List ℕ
  text : s ≡ digits ++ (58 ∷ q)
  low : ascii digits ≡ true
  again : (z : List ℕ) → file_then ":" (digits ++ (58 ∷ z)) ≡ Some (f, z)

record Number (s : List ℕ) (n : ℕ) (r : List ℕ) : Type 0 where
  some_digit : 0 < digit_run s
  most : digit_run s ≤ 3
  value : n ≡ number_of (take (digit_run s) s)
  rest : r ≡ drop (digit_run s) s
  least : 1 ≤ n
  highest : n ≤ 255

a_number : (s : List ℕ) → Holds (Number s) (digits_in 3 1 255 s)
unfolding digits_in
a_number s = and_next (digits_held 3 s) λ n r h. and_next (here_held (leb 1 n && leb n 255) r) λ _ q g. let p = both (leb 1 n) (leb n 255) g.0 in that (record {
  some_digit = h.0.some_digit;
  most = h.1;
  value = h.0.value;
  rest = g.1 ∙ h.0.rest;
  least = leb-true 1 n p.0;
  highest = leb-true n 255 p.1;
})

a_file : (s : List ℕ) → Holds (File s) (file_then ":" s)
unfolding file_before digit_run
a_file s = and_next (a_number s) λ n r h. and_next (byte_held 58 r) λ _ q g. that (made n r q h g)
  where
    made : (n : ℕ) (r q : List ℕ) → Number s n r → r ≡ 58 ∷ q → File s n q
    made n r q h g =
        let d = some_digits s (digit_run s) (omega arith) in
        let k : List ℕ = take (digit_run s) s in
        let v : number_of k ≡ n = sym h.value in
        record {
          digits = k;
          text = sym (take-append-drop (digit_run s) s) ∙ ap (λ (l : List ℕ). k ++ l) (sym h.rest ∙ g);
          low = d.low;
          again = λ z. step _ (in_read k (58 ∷ z) d.run (omega (arith, d.long, h.some_digit)) refl 3 (omega (arith, d.long, h.most)) 1 255 (omega (arith, v, h.least)) (omega (arith, v, h.highest)))
              ∙ step _ (byte_read 58 z) ∙ ap (λ (m : ℕ). Some (m, z)) v;
        }

-- ---- the element, the separator and the name
pub record Cut (k : ℕ) (s : List ℕ) (v : ℕ × ℕ) (z : List ℕ) : Type 0 where
  pub value : ℕ
  pub rest : List ℕ
  pub text : character (drop k s) ≡ Some (value, rest)
  pub name : name_in ct_names rest ≡ Some (v.1, z)
  pub number : v.0 ≡ number_of (take k s)

a_cut : (k : ℕ) (s : List ℕ) → Holds (Cut k s) (cut character separates k s)
unfolding cut
a_cut k s = and_next (one_held character separates (drop k s)) λ u r h. and_next (itself (name_in ct_names r)) λ n q g. that (record { value = h.value; rest = r; text = h.text; name = g; number = refl })

abbrev pub Element : ℕ → List ℕ → ℕ × ℕ → List ℕ → Type 0
Element d s v z = (0 < d) × Cut d s v z

an_element : (k : ℕ) (s : List ℕ) → Holds (Element (element_digits k s) s) (cuts character separates k s)
unfolding cuts element_digits or_else
an_element zero s = nothing
an_element (suc k) s = go (a_cut (suc k) s) (an_element k s)
  where
    go : {x y : Option ((ℕ × ℕ) × List ℕ)} {d : ℕ} → Holds (Cut (suc k) s) x → Holds (Element d s) y → Holds (Element (cond (stands x) (suc k) d) s) (or_else x y)
    go nothing h = h
    go (that c) h = that (omega arith, c)

-- the same digits and name with a full stop between them, read by any test that lets it stand
module _ (test : ℕ → Bool) (a : test 46 ≡ true) where
  first_cut : (k : ℕ) (s : List ℕ) (v : (ℕ × ℕ) × List ℕ) → 0 < k → cut character test k s ≡ Some v → cuts character test k s ≡ Some v
  unfolding cuts or_else
  first_cut zero s v h e = absurd (not-suc-le-zero h)
  first_cut (suc k) s v h e = rw e

  module _ (d r : List ℕ) (n : ℕ) (f : name_in ct_names r ≡ Some (n, [])) where
    cut_again : cut character test (length d) (d ++ (46 ∷ r)) ≡ Some ((number_of d, n), [])
    unfolding cut
    cut_again =
        rw (drop-append_seam d (46 ∷ r), take-append_seam d (46 ∷ r)) (step _ (one_read character test 46 (small_character 46 r (omega arith)) a) ∙ step _ f)

    element_again : digit_run d ≡ length d → 0 < length d → length d ≤ 3 → element_name character test (d ++ (46 ∷ r)) ≡ Some ((number_of d, n), [])
    unfolding element_name digit_run
    element_again e h l =
        let k : min (digit_run (d ++ (46 ∷ r))) 3 ≡ length d = omega (arith, run_read d (46 ∷ r) e refl) in
        ap (λ (m : ℕ). cuts character test m (d ++ (46 ∷ r))) k ∙ first_cut (length d) (d ++ (46 ∷ r)) _ h cut_again

small_both : (s r : List ℕ) → ascii s ≡ true → ascii r ≡ true → ascii (s ++ r) ≡ true
unfolding ascii
small_both [] r h k = k
small_both (b ∷ s) r h k = let p = both (ltb b 128) (ascii s) h in rw p.0 (small_both s r p.1 k)

-- ---- the whole tag
pub record Timer (tag : List ℕ) (x : Address) (z : List ℕ) : Type 0 where
  pub type : FileType
  pub file : ℕ
  behind : List ℕ
  pub element : List ℕ
  pub value : ℕ × ℕ
  letter : Letter tag type behind
  number : File behind file element
  pub digits : Element (element_digits (min (digit_run element) 3) element) element value z
  range : leb value.0 255 ≡ true
  pub is : x ≡ address type file value.0 None (Some value.1) true 1 (length tag)

pub a_timer : (tag : List ℕ) (x : Address) → ct utf8 separates tag ≡ Some x → Timer tag x []
unfolding ct element_name
a_timer tag x e =
    held_of {P = Timer tag} (and_next (letter_is tag) λ t r l. and_next (a_file r) λ f q g. and_next (an_element (min (digit_run q) 3) q) λ v z d. and_next (here_held (leb v.0 255) z) λ _ w h.
    that (record { type = t; file = f; behind = r; element = q; value = v; letter = a_letter l; number = g; digits = subst (Element (element_digits (min (digit_run q) 3) q) q v) (sym h.1) d; range = h.0; is = refl })) (whole_some _ tag x e)

module _ {tag : List ℕ} {x : Address} (t : Timer tag x []) where
  abbrev pub count : ℕ
  count = element_digits (min (digit_run t.element) 3) t.element

  -- what stands before the separator, the separator, and the name
  pub front : List ℕ
  front = t.letter.byte ∷ (t.number.digits ++ (58 ∷ take count t.element))

  pub some_front : 0 < length front
  unfolding front
  some_front = omega arith

  abbrev pub name : List ℕ
  name = t.digits.1.rest

  seam : (z : List ℕ) → front ++ z ≡ t.letter.byte ∷ (t.number.digits ++ (58 ∷ (take count t.element ++ z)))
  unfolding front
  seam z = ap (λ (l : List ℕ). t.letter.byte ∷ l) (append_assoc t.number.digits (58 ∷ take count t.element) z)

  pub text : tag ≡ front ++ drop count t.element
  text =
      t.letter.text ∙ ap (λ (l : List ℕ). t.letter.byte ∷ l) (t.number.text ∙ ap (λ (l : List ℕ). t.number.digits ++ (58 ∷ l)) (sym (take-append-drop count t.element)))
      ∙ sym (seam (drop count t.element))

  -- what is read of it
  letter_there : ct_letter tag ≡ Some (t.type, t.behind)
  letter_there = ap ct_letter t.letter.text ∙ t.letter.again t.behind

  file_there : file_then ":" t.behind ≡ Some (t.file, t.element)
  file_there = ap (file_then ":") t.number.text ∙ t.number.again t.element

  pub up_to : up_to_separator tag ≡ Some (tt, drop count t.element)
  unfolding up_to_separator past_element
  up_to = step _ letter_there ∙ step _ file_there

  pub separator_there : separator tag ≡ Some (t.digits.1.value, name)
  unfolding separator
  separator_there = step _ up_to ∙ t.digits.1.text

  pub separator_bytes : InBytes (drop count t.element) t.digits.1.value name
  separator_bytes = held_of (in_bytes (drop count t.element)) t.digits.1.text

  pub name_there : Name name t.value.1 []
  name_there = held_of (name_held name) t.digits.1.name

  -- ---- with a full stop
  counted : Digits t.element count
  counted = some_digits t.element count (omega (arith, digits_most (min (digit_run t.element) 3) t.element))

  pub read_again : (test : ℕ → Bool) → test 46 ≡ true
      → ct utf8 test (front ++ (46 ∷ name)) ≡ Some (address t.type t.file t.value.0 None (Some t.value.1) true 1 (length (front ++ (46 ∷ name))))
  unfolding ct
  read_again test a =
      let d : List ℕ = take count t.element in
      whole_read _ (front ++ (46 ∷ name)) _
      (step _ (ap ct_letter (seam (46 ∷ name)) ∙ t.letter.again _) ∙ step _ (t.number.again _)
      ∙ step _ (element_again test a d name t.value.1 t.digits.1.name counted.run (omega (arith, counted.long, t.digits.0)) (omega (arith, counted.long, digits_most (min (digit_run t.element) 3) t.element))
      ∙ ap (λ (m : ℕ). Some ((m, t.value.1), [])) (sym t.digits.1.number))
      ∙ step _ (passed (leb t.value.0 255) [] t.range))

  pub low : ascii front ≡ true
  unfolding front ascii
  low = rw (lt-ltb t.letter.byte 128 t.letter.low) (small_both t.number.digits (58 ∷ take count t.element) t.number.low counted.low)

  pub low_again : ascii (front ++ (46 ∷ name)) ≡ true
  unfolding ascii
  low_again = small_both front (46 ∷ name) low name_there.small
