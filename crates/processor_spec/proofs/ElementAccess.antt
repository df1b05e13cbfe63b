-- Setting an element writes inside that element: a sound state stays sound, and every other file keeps its bytes.
use Rattle.std.specs.Prelude.{Option, None, Some}
use Rattle.std.specs.Option.{option_map}
use Prim.Native.Nat.{ℕ, ◌+◌, ◌*◌, ◌≤◌}
use mathlib.Core.Path.{◌≡◌, refl, sym, ap, subst}
use mathlib.Core.Bool.{Bool, true, false, ◌&&◌, cond}
use mathlib.Core.List.{List}
use native.Mathlib.Omega.{arith}
use borrow.Author.Tests.{ltb-true}
use lib.Dec.{leb, ltb, lit≤}
use lib.IntN.{ℤ}
use lib.ListN.{length, length-append}
use Rattle.base.specs.Numbers.{low_first}
use Rattle.base.specs.declared.refusal.Refusal.{Refusal}
use Rattle.base.specs.declared.refusal.Refusal.TheVariants.{Unsound}
use Rattle.base.specs.Outcome.{Outcome, refused, lays}
use Rattle.base.proofs.Numbers.{low_length}
use Rattle.element_spec.specs.declared.Value.{Value}
use Rattle.element_spec.specs.declared.Value.TheVariants as value
use Rattle.element_spec.specs.Encode.{kind_of, whole_at, word_of, long_of, words_of, float_of, ascii_of, line_of, field_of, named_of, on_whole, on_float, on_text, on_fields, encode_as, encoded}
use Rattle.file_type.specs.declared.FileType.{FileType}
use Rattle.file_type.specs.declared.FileType.TheVariants.{O, I, S, B, T, C, R, N, F, ST, A, L, MG, PD, PLS}
use Rattle.file_type.specs.Table.{row, field_at, of_field, place, field_names}
use Rattle.element_text.proofs.Text.{ascii_length, string_length}
use Rattle.element_whole.specs.Whole.{in_range, twos}
use Rattle.processor_spec.specs.ElementAccess.{element_at, element_bytes, behind, set_at, set_of}
use Rattle.processor_spec.specs.Files.{contents}
use Rattle.processor_spec.specs.State.{State, sound}
use Rattle.processor_spec.specs.Step.{after}
use Rattle.processor_spec.specs.Step as step
use Rattle.processor_spec.proofs.Files.{Inside, located, write_other, write_sound}
use Rattle.processor_spec.proofs.Tests.{cases}

-- what is written lies in the first so many bytes
abbrev In : ℕ → Outcome → Type 0
In size (refused n) = Unit {0}
In size (lays at bs) = at + length bs ≤ size

low_in : (at k n size : ℕ) → at + k ≤ size → In size (lays at (low_first k n))
low_in at k n size h = subst (λ (j : ℕ). at + j ≤ size) (sym (low_length k n)) h

whole_in : (at k ones low high size : ℕ) → at + k ≤ size → (z : ℤ) → In size (whole_at at k ones low high z)
whole_in at k ones low high size h z = cases (In size) (in_range low high z) _ _ (λ _. low_in at k (twos ones z) size h) (λ _. tt)

words_in : (x y z : ℤ) → In 6 (words_of x y z)
words_in x y z =
    cases (In 6) (in_range 32768 65535 x && (in_range 32768 65535 y && in_range 32768 65535 z)) _ _
    (λ _. simp (length-append, low_length) (omega arith)) (λ _. tt)

line_in : (text : List ℕ) → In 84 (line_of text)
line_in text = cases (In 84) (leb (length text) 82) _ _ (λ _. rw (string_length text) (lit≤ tt)) (λ _. tt)

named_in : (t : FileType) (name old : List ℕ) (z : ℤ) → In 6 (named_of t name old z)
unfolding of_field
named_in t name old z = go (place (field_names t) name)
  where
    go : (o : Option ℕ) → In 6 (field_of (option_map field_at o) z old)
    go None = tt
    go (Some i) =
        cases (λ f. In 6 (field_of (Some f) z old)) (ltb i 2) _ _
        (λ l. whole_in (2 + 2 * i) 2 0xFFFF 32768 32767 6 (omega (arith, ltb-true i 2 l)) z)
        (λ _. low_in 0 2 _ 6 (lit≤ tt))

-- by the kind of value
on_whole_lem : (size : ℕ) (f : ℤ → Outcome) → ((z : ℤ) → In size (f z)) → (v : Value) → In size (on_whole v f)
on_whole_lem size f h (value.Whole z) = h z
on_whole_lem size f h (value.Float b) = tt
on_whole_lem size f h value.Text = tt
on_whole_lem size f h (value.Words x y z) = tt
on_whole_lem size f h (value.Field z) = tt

on_float_lem : (v : Value) → In 4 (on_float v float_of)
on_float_lem (value.Whole z) = tt
on_float_lem (value.Float b) = low_in 0 4 b 4 (lit≤ tt)
on_float_lem value.Text = tt
on_float_lem (value.Words x y z) = tt
on_float_lem (value.Field z) = tt

on_text_lem : (size : ℕ) (o : Outcome) → In size o → (v : Value) → In size (on_text v o)
on_text_lem size o h (value.Whole z) = tt
on_text_lem size o h (value.Float b) = tt
on_text_lem size o h value.Text = h
on_text_lem size o h (value.Words x y z) = tt
on_text_lem size o h (value.Field z) = tt

on_fields_lem : (t : FileType) (text old : List ℕ) (v : Value) → In 6 (on_fields v words_of (named_of t text old))
on_fields_lem t text old (value.Whole z) = tt
on_fields_lem t text old (value.Float b) = tt
on_fields_lem t text old value.Text = tt
on_fields_lem t text old (value.Words x y z) = words_in x y z
on_fields_lem t text old (value.Field z) = named_in t text old z

word_in : (v : Value) → In 2 (on_whole v word_of)
word_in v = on_whole_lem 2 word_of (whole_in 0 2 0xFFFF 32768 65535 2 (lit≤ tt)) v

-- of each type
type_in : (t : FileType) (v : Value) (text old : List ℕ) → In (row t).size (encode_as (kind_of t) t v text old)
type_in O v text old = word_in v
type_in I v text old = word_in v
type_in S v text old = word_in v
type_in B v text old = word_in v
type_in T v text old = on_fields_lem T text old v
type_in C v text old = on_fields_lem C text old v
type_in R v text old = on_fields_lem R text old v
type_in N v text old = word_in v
type_in F v text old = on_float_lem v
type_in ST v text old = on_text_lem 84 (line_of text) (line_in text) v
type_in A v text old = on_text_lem 2 (ascii_of text) (rw (ascii_length text) (lit≤ tt)) v
type_in L v text old = on_whole_lem 4 long_of (whole_in 0 4 0xFFFFFFFF 2147483648 2147483647 4 (lit≤ tt)) v
type_in MG v text old = tt
type_in PD v text old = tt
type_in PLS v text old = tt

encoded_in_lem : (t : FileType) (v : Value) (text old : List ℕ) → In (row t).size (encoded t v text old)
unfolding encoded
encoded_in_lem t v text old = cases (In (row t).size) (ltb (length old) (row t).size) _ _ (λ _. tt) (λ _. type_in t v text old)

module _ (s : State) (t : FileType) (file element : ℕ) (v : Value) (text : List ℕ) (at : ℕ) (bs : List ℕ) (done : set_of s t file element v text ≡ lays at bs) where
  no_write : {X : Type 0} {n : Refusal} → refused n ≡ lays at bs → X
  no_write e = let z : ◌≡◌ {A = ℕ} 0 1 = cc in absurd (omega arith)

  -- what is set lies in the file, of a sound state
  set_inside : (sound s ≡ true) × Inside s.records file at (length bs)
  unfolding set_of
  set_inside = go (sound s) refl (element_at s t file element) refl done
    where
      laid : (p : ℕ) → element_at s t file element ≡ Some p → (o : Outcome) → In (row t).size o → behind p o ≡ lays at bs → Inside s.records file at (length bs)
      laid p e (refused n) h q = no_write q
      laid p e (lays place cs) h q =
          let i : Inside s.records file p (row t).size = located s.records file (row t).code element 0 (row t).size p (unfold element_at in e) in
          let ea : p + place ≡ at = cc in
          let ec : length cs ≡ length bs = let x : cs ≡ bs = cc in ap length x in
          record { file = i.file; found = i.found; from = omega (arith, i.from); upto = omega (arith, i.upto) }

      go : (b : Bool) → sound s ≡ b → (o : Option ℕ) → element_at s t file element ≡ o → cond b (set_at o t v text s.memory) (refused Unsound) ≡ lays at bs
          → (sound s ≡ true) × Inside s.records file at (length bs)
      go false h o e q = no_write q
      go true h None e q = no_write q
      go true h (Some p) e q = (h, laid p e (encoded t v text (element_bytes t s.memory p)) (encoded_in_lem t v text (element_bytes t s.memory p)) q)

  pub set_sound : sound (after s (step.lays at bs)) ≡ true
  set_sound = write_sound s set_inside.0 file at bs set_inside.1

  pub set_other : (n : ℕ) → (file ≡ n → ⊥) → contents (after s (step.lays at bs)) n ≡ contents s n
  set_other n ne = write_other s set_inside.0 file at bs set_inside.1 n ne
