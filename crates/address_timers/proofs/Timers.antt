-- Laws of the names of timers and counters, and of the element in front of them.
use Rattle.std.specs.Prelude.{Option, None, Some}
use Prim.Native.Nat.{ℕ, zero, suc, ◌+◌, ◌*◌, ◌≤◌, ◌<◌, ◌-◌, min}
use Prim.Native.String.{String}
use mathlib.Core.Path.{◌≡◌, refl, ap, ap₂, sym, ◌∙◌}
use mathlib.Core.List.{List, [], ◌∷◌}
use mathlib.Core.Bool.{Bool, true, false, ◌&&◌, cond, and-true, and_assoc}
use native.Mathlib.Nat.{not-suc-le-zero, add-sub_cancel_left}
use native.Mathlib.Omega.{arith}
use borrow.Author.Tests.{eqb-true, eqb-false, leb-true, ltb-true, eq-eqb, ne_eqb}
use lib.Dec.{eqb, leb, ltb}
use lib.ListN.{length, take, drop, get_or, length-drop}
use lib.Seq.{drop-drop, take_all}
use Rattle.base.specs.Chars.{bytes, upper, spelled}
use Rattle.base.proofs.Chars.{spelled_short}
use Rattle.base.proofs.EveryPlace.{both}
use Rattle.base.proofs.Unmatched.{NoneOf, Unlike, unlike}
use Rattle.parser_spec.specs.DecimalNumbers.{Run, number_of}
use Rattle.parser_spec.specs.Parts.{then, or_else, one}
use Rattle.parser_spec.specs.Characters.{character}
use Rattle.parser_spec.proofs.Behind.{one_leaves}
use Rattle.parser_spec.proofs.Characters.{character_leaves}
use Rattle.parser_spec.proofs.Written.{step}
use Rattle.parser.specs.CursorAnswers.{placed, place_of}
use Rattle.parser.specs.declared.Cur.{Cur}
use Rattle.parser.proofs.PartReaders.{Reads, some_place, stop_place, one_is, one_not}
use Rattle.parser_characters.proofs.CharacterReaders.{small_reads}
use Rattle.address_spec.specs.ReaderAnswers.{to_the_end}
use Rattle.address_spec.specs.Spelling.{ct_names, name_in, cut, cuts, element_name}

-- ---- a name by its letters, taken as digits of base 256
abbrev packed : (ℕ → ℕ) → ℕ → List ℕ → ℕ
packed f n [] = n
packed f n (b ∷ s) = packed f (n * 256 + f b) s

abbrev Digits : List ℕ → Type 0
Digits [] = Unit {0}
Digits (b ∷ s) = (upper b < 256) × Digits s

-- of a name, whose letters are capital ones
abbrev same : ℕ → ℕ
same b = b

abbrev bytes_only : List ℕ → Bool
bytes_only [] = true
bytes_only (b ∷ s) = ltb b 256 && bytes_only s

digit : (n m p q : ℕ) → p < 256 → q < 256 → eqb (n * 256 + p) (m * 256 + q) ≡ (eqb n m && eqb p q)
digit n m p q h k = go (eqb n m) refl (eqb p q) refl
  where
    go : (t : Bool) → eqb n m ≡ t → (u : Bool) → eqb p q ≡ u → eqb (n * 256 + p) (m * 256 + q) ≡ (t && u)
    go true e true f = let x : n ≡ m = eqb-true n m e in let y : p ≡ q = eqb-true p q f in eq-eqb (n * 256 + p) (m * 256 + q) (omega arith)
    go true e false f = let x : n ≡ m = eqb-true n m e in ne_eqb _ _ (λ (z : n * 256 + p ≡ m * 256 + q). eqb-false p q f (omega arith))
    go false e u f = ne_eqb _ _ (λ (z : n * 256 + p ≡ m * 256 + q). eqb-false n m e (omega arith))

-- a text of the name's length spells it where the two numbers are the same
by_number_lem : (name s : List ℕ) (n m : ℕ) → length s ≡ length name → bytes_only name ≡ true → Digits s → eqb (packed upper n s) (packed same m name) ≡ (eqb n m && spelled true name s)
unfolding spelled
by_number_lem [] [] n m l h k = sym (and-true (eqb n m))
by_number_lem [] (b ∷ s) n m l h k = absurd (omega arith)
by_number_lem (a ∷ name) [] n m l h k = absurd (omega arith)
by_number_lem (a ∷ name) (b ∷ s) n m l h k =
    let p = both (ltb a 256) (bytes_only name) h in
    by_number_lem name s (n * 256 + upper b) (m * 256 + a) (omega arith) p.1 k.1
    ∙ ap (λ (t : Bool). t && spelled true name s) (digit n m (upper b) a k.0 (ltb-true a 256 p.0)) ∙ and_assoc (eqb n m) (eqb (upper b) a) (spelled true name s)

-- the name of so many letters and this number
abbrev keyed : ℕ → ℕ → List (String × ℕ) → Option (ℕ × List ℕ)
keyed l k [] = None
keyed l k (x ∷ xs) = cond (eqb l (length (bytes x.0)) && eqb k (packed same 0 (bytes x.0))) (Some (x.1, [])) (keyed l k xs)

abbrev all_bytes : List (String × ℕ) → Bool
all_bytes [] = true
all_bytes (x ∷ xs) = bytes_only (bytes x.0) && all_bytes xs

spelled_by_lem : (name s : List ℕ) → bytes_only name ≡ true → Digits s → spelled true name s ≡ (eqb (length s) (length name) && eqb (packed upper 0 s) (packed same 0 name))
spelled_by_lem name s h k = go (eqb (length s) (length name)) refl
  where
    go : (t : Bool) → eqb (length s) (length name) ≡ t → spelled true name s ≡ (t && eqb (packed upper 0 s) (packed same 0 name))
    go true e = sym (by_number_lem name s 0 0 (eqb-true _ _ e) h k)
    go false e = sym (spelled_short true name s (eqb-false _ _ e))

name_by : (xs : List (String × ℕ)) (s : List ℕ) → all_bytes xs ≡ true → Digits s → name_in xs s ≡ keyed (length s) (packed upper 0 s) xs
unfolding name_in
name_by [] s h k = refl
name_by (x ∷ xs) s h k =
    let p = both (bytes_only (bytes x.0)) (all_bytes xs) h in
    ap₂ (λ (t : Bool) (r : Option (ℕ × List ℕ)). cond t (Some (x.1, [])) r) (spelled_by_lem (bytes x.0) s p.0 k) (name_by xs s p.1 k)

module _ (s : List ℕ) (d : Digits s) (l k : ℕ) (e : length s ≡ l) (f : packed upper 0 s ≡ k) where
  by_key : name_in ct_names s ≡ keyed l k ct_names
  unfolding ct_names
  by_key = name_by ct_names s refl d ∙ ap₂ (λ (l k : ℕ). keyed l k ct_names) e f

  is_name : (v : ℕ) → keyed l k ct_names ≡ Some (v, []) → name_in ct_names s ≡ to_the_end (Some v)
  unfolding to_the_end
  is_name v h = by_key ∙ h

  no_name : keyed l k ct_names ≡ None → name_in ct_names s ≡ to_the_end None
  unfolding to_the_end
  no_name h = by_key ∙ h

-- the numbers of the names of so many letters
abbrev keys_of : ℕ → List (String × ℕ) → List ℕ
keys_of l [] = []
keys_of l (x ∷ xs) = cond (eqb l (length (bytes x.0))) (packed same 0 (bytes x.0) ∷ keys_of l xs) (keys_of l xs)

no_key : (l k : ℕ) (xs : List (String × ℕ)) → Unlike same (keys_of l xs) k → keyed l k xs ≡ None
no_key l k [] h = refl
no_key l k (x ∷ xs) h = go (eqb l (length (bytes x.0))) (no_key l k xs) h
  where
    go : (t : Bool) → (Unlike same (keys_of l xs) k → keyed l k xs ≡ None) → Unlike same (cond t (packed same 0 (bytes x.0) ∷ keys_of l xs) (keys_of l xs)) k
        → cond (t && eqb k (packed same 0 (bytes x.0))) (Some (x.1, [])) (keyed l k xs) ≡ None
    go true f g = rw (ne_eqb k (packed same 0 (bytes x.0)) g.0) (f g.1)
    go false f g = f g

-- a number that is none of them
abbrev pub NoName : ℕ → ℕ → Type 0
NoName l k = NoneOf same (Unit {0}) (keys_of l ct_names) k

-- texts of any other length
abbrev two_or_three : List (String × ℕ) → Bool
two_or_three [] = true
two_or_three (x ∷ xs) = leb 2 (length (bytes x.0)) && (leb (length (bytes x.0)) 3 && two_or_three xs)

module _ (s : List ℕ) (a : length s ≡ 2 → ⊥) (b : length s ≡ 3 → ⊥) where
  none_of : (xs : List (String × ℕ)) → two_or_three xs ≡ true → name_in xs s ≡ None
  unfolding name_in
  none_of [] h = refl
  none_of (x ∷ xs) h =
      let n : ℕ = length (bytes x.0) in
      let p = both (leb 2 n) (leb n 3 && two_or_three xs) h in
      let q = both (leb n 3) (two_or_three xs) p.1 in
      rw (← spelled_short true (bytes x.0) s (λ (e : length s ≡ n). omega (arith, leb-true 2 n p.0, leb-true n 3 q.0))) (none_of xs q.1)

  pub other_length : name_in ct_names s ≡ to_the_end None
  unfolding to_the_end ct_names
  other_length = none_of ct_names refl

-- names of two letters, and of three: each letter is read as a byte, and taken as a number
module _ (a b x y p q : ℕ) (e : x ≡ upper a) (f : y ≡ upper b) (d : p ≡ x) (g : q ≡ y) (h : x < 256) (i : y < 256) (k : ℕ) (l : p * 256 + q ≡ k) where
  pub short_is : (v : ℕ) → keyed 2 k ct_names ≡ Some (v, []) → name_in ct_names (a ∷ b ∷ []) ≡ to_the_end (Some v)
  short_is v r = is_name (a ∷ b ∷ []) (omega arith, (omega arith, tt)) 2 k refl (omega arith) v r

  pub short_not : NoName 2 k → name_in ct_names (a ∷ b ∷ []) ≡ to_the_end None
  short_not r = no_name (a ∷ b ∷ []) (omega arith, (omega arith, tt)) 2 k refl (omega arith) (no_key 2 k ct_names (unlike same (keys_of 2 ct_names) k r))

module _ (a b c x y z p q r : ℕ) (e : x ≡ upper a) (f : y ≡ upper b) (g : z ≡ upper c) (d : p ≡ x) (m : q ≡ y) (n : r ≡ z) (h : x < 256) (i : y < 256) (j : z < 256) (k : ℕ) (l : (p * 256 + q) * 256 + r ≡ k) where
  pub long_is : (v : ℕ) → keyed 3 k ct_names ≡ Some (v, []) → name_in ct_names (a ∷ b ∷ c ∷ []) ≡ to_the_end (Some v)
  long_is v o = is_name (a ∷ b ∷ c ∷ []) (omega arith, (omega arith, (omega arith, tt))) 3 k refl (omega arith) v o

  pub long_not : NoName 3 k → name_in ct_names (a ∷ b ∷ c ∷ []) ≡ to_the_end None
  long_not o = no_name (a ∷ b ∷ c ∷ []) (omega arith, (omega arith, (omega arith, tt))) 3 k refl (omega arith) (no_key 3 k ct_names (unlike same (keys_of 3 ct_names) k o))

-- ---- the separator, of one byte
module _ (test : ℕ → Bool) (s : List ℕ) (i : ℕ) (h : i < length s) (l : get_or s i 0 < 128) (t : Bool) (e : t ≡ test (get_or s i 0)) where
  abbrev found : Option Cur
  found = place_of (placed i s (one character test (drop i s)))

  pub sign_here : t ≡ true → Some (record { i = i + 1 }) ≡ found
  sign_here n = one_is character test s i _ (record { i = i + 1 }) (small_reads s i h l) (sym e ∙ n)

  pub sign_not : t ≡ false → None ≡ found
  sign_not n = one_not character test s i _ (record { i = i + 1 }) (small_reads s i h l) (sym e ∙ n)

-- ---- an element, a separator and a name
tail_is : (s : List ℕ) (f : ℕ) → take (length s - f) (drop f s) ≡ drop f s
tail_is s f = take_all (length s - f) (drop f s) (rw length-drop (omega arith))

module _ (separator : ℕ → Bool) (s : List ℕ) (i k : ℕ) (q : Option Cur) (e : q ≡ place_of (placed (i + k) s (one character separator (drop (i + k) s)))) where
  pub cut_no : q ≡ None → cut character separator k (drop i s) ≡ to_the_end None
  unfolding cut to_the_end
  cut_no g = rw (drop-drop k i s) (stop_place s (i + k) _ q _ e g)

  module _ (d : Cur) (g : q ≡ Some d) where
    read_on : Reads s (i + k) (one character separator (drop (i + k) s)) tt d
    read_on = some_place s (i + k) _ q d e g (one_leaves character character_leaves separator (drop (i + k) s))

    -- the name begins in the text, or at its end
    pub name_within : i + k ≤ length s → d.i ≤ length s
    name_within h = omega (arith, read_on.end)

    cut_at : cut character separator k (drop i s) ≡ then (name_in ct_names (drop d.i s)) (λ n q. Some ((number_of (take k (drop i s)), n), q))
    unfolding cut
    cut_at = rw (drop-drop k i s) (step _ read_on.is)

    module _ (m : Option ℕ) (f : name_in ct_names (take (length s - d.i) (drop d.i s)) ≡ to_the_end m) where
      pub cut_unnamed : m ≡ None → cut character separator k (drop i s) ≡ to_the_end None
      unfolding then to_the_end
      cut_unnamed x = cut_at ∙ rw (← tail_is s d.i, f, x)

      pub cut_named : (n v : ℕ) → m ≡ Some n → v ≡ number_of (take ((i + k) - i) (drop i s)) → cut character separator k (drop i s) ≡ to_the_end (Some (v, n))
      unfolding then to_the_end
      cut_named n v x p = cut_at ∙ rw (← tail_is s d.i, f, x, p, add-sub_cancel_left i k)

-- ---- longest cut first
module _ (separator : ℕ → Bool) where
  cuts_at : (k : ℕ) (l : List ℕ) → 0 < k → cuts character separator k l ≡ or_else (cut character separator k l) (cuts character separator (k - 1) l)
  unfolding cuts
  cuts_at zero l h = absurd (not-suc-le-zero h)
  cuts_at (suc k) l h = let e : suc k - 1 ≡ k = omega arith in rw e

  pub cuts_start : (s : List ℕ) (i k n : ℕ) → k ≡ min n 3 → Run s i n → cuts character separator k (drop i s) ≡ element_name character separator (drop i s)
  unfolding element_name
  cuts_start s i k n e run = rw (e, run.is)

  module _ (l : List ℕ) (k : ℕ) (inv : cuts character separator k l ≡ element_name character separator l) where
    pub cuts_none : k < 1 → element_name character separator l ≡ to_the_end None
    unfolding cuts to_the_end
    cuts_none h = let z : k ≡ 0 = omega arith in sym inv ∙ rw z

    module _ (h : 1 ≤ k) where
      pub cuts_hit : (x : ℕ × ℕ) → cut character separator k l ≡ to_the_end (Some x) → element_name character separator l ≡ to_the_end (Some x)
      unfolding or_else to_the_end
      cuts_hit x e = sym inv ∙ cuts_at k l h ∙ rw e

      pub cuts_miss : cut character separator k l ≡ to_the_end None → cuts character separator (k - 1) l ≡ element_name character separator l
      unfolding or_else to_the_end
      cuts_miss e = sym (cuts_at k l h ∙ rw e) ∙ inv
