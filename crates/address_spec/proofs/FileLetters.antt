-- U+0131 is an I and U+017F is an S where a file letter is read: the same answer, with a kept text that is one byte longer.
use Rattle.std.specs.Prelude.{Option, None, Some, Ok, Err}
use Prim.Native.Nat.{ℕ, suc, ◌≤◌}
use Prim.Native.Char.{Char, code}
use mathlib.Core.Path.{◌≡◌, refl, ap, sym, subst, ◌∙◌}
use mathlib.Core.List.{List, ◌∷◌}
use mathlib.Core.Bool.{Bool, true, false, cond}
use native.Mathlib.Omega.{arith}
use borrow.Author.Tests.{le-leb}
use lib.Dec.{eqb}
use lib.ListN.{length}
use Rattle.base.specs.declared.refusal.Refusal.TheVariants.{MalformedTag}
use Rattle.parser_spec.specs.Parts.{Part, then, at_end, ended, whole, here, one, before, before_byte}
use Rattle.parser_spec.specs.Characters.{table, byte_in, bytes_in, point_in, character_in, character, well_formed, capital, utf8, letter_of, first_of}
use Rattle.parser_spec.proofs.Written.{behind_same, step}
use Rattle.parser_spec.proofs.Characters.{formed_next, first_by}
use Rattle.address_spec.specs.Spelling.{kept_of, ct, lfbn, slot, io, st_or_a, sta, status, bits, or_try, last_forms, separates, form_of, accepted, address_of, longer, one_longer, FileLetters}
use Rattle.address_spec.specs.declared.Address.{Address}

-- ---- the same answer but for a kept text that is one byte longer: of a part, which leaves the same, and of a form
data Longer : Option (Address × List ℕ) → Option (Address × List ℕ) → Type 0 where
  nothing : Longer None None
  that : {v w : Address} {r : List ℕ} → v ≡ longer w → Longer (Some (v, r)) (Some (w, r))

data LongerForm : Option Address → Option Address → Type 0 where
  no : LongerForm None None
  is : {v w : Address} → v ≡ longer w → LongerForm (Some v) (Some w)

-- behind one part, and behind two that give the same
any_then : {A : Type 0} (x : Option (A × List ℕ)) {k l : A → Part Address} → ((v : A) (r : List ℕ) → Longer (k v r) (l v r)) → Longer (then x k) (then x l)
unfolding then
any_then None f = nothing
any_then (Some p) f = f p.0 p.1

same_then : {A : Type 0} {x y : Option (A × List ℕ)} {k l : A → Part Address} → x ≡ y → ((v : A) (r : List ℕ) → Longer (k v r) (l v r)) → Longer (then x k) (then y l)
same_then {x} {k} {l} e f = subst (λ z. Longer (then x k) (then z l)) e (any_then x f)

ended_longer : {x y : Option (Address × List ℕ)} → Longer x y → LongerForm (ended x) (ended y)
unfolding ended
ended_longer nothing = no
ended_longer (that {v = v} {w = w} {r = r} e) = go (at_end r)
  where
    go : (t : Bool) → LongerForm (cond t (Some v) None) (cond t (Some w) None)
    go true = is e
    go false = no

try_longer : {x y u v : Option Address} → LongerForm x y → LongerForm u v → LongerForm (or_try x u) (or_try y v)
unfolding or_try
try_longer no k = k
try_longer (is e) k = is e

answer_longer : (b : Bool) {x y : Option Address} → LongerForm x y → cond b (accepted x) (Err MalformedTag) ≡ one_longer (cond b (accepted y) (Err MalformedTag))
answer_longer false h = refl
answer_longer true no = refl
answer_longer true (is e) = ap Ok e

-- ---- two tags with the same behind their first characters, which stand for one letter: the first tag is a byte longer
module _ (tag plain s : List ℕ) (x y : ℕ) (e : character tag ≡ Some (x, s)) (f : character plain ≡ Some (y, s)) (h : capital x ≡ capital y)
    (all : length tag ≡ suc (length plain)) (part : before "{" tag ≡ suc (before "{" plain)) where
  letter_same : (v : ℕ) → letter_of utf8 v tag ≡ letter_of utf8 v plain
  unfolding letter_of one
  letter_same v = step _ e ∙ ap (λ (z : ℕ). here (eqb z v) s) h ∙ sym (step _ f)

  first_same : {A : Type 0} (xs : List (Char × A)) → first_of utf8 xs tag ≡ first_of utf8 xs plain
  first_same xs = first_by utf8 utf8 tag plain letter_same xs

  kept_longer : (m : Option ℕ) → kept_of m tag ≡ suc (kept_of m plain)
  kept_longer None = part
  kept_longer (Some n) = all

  st_same : (st : Bool) → st_or_a utf8 st tag ≡ st_or_a utf8 st plain
  unfolding st_or_a
  st_same true = behind_same _ (letter_same _)
  st_same false = behind_same _ (letter_same _)

  sta_longer : (st : Bool) → LongerForm (sta utf8 st tag) (sta utf8 st plain)
  unfolding sta whole
  sta_longer st = ended_longer (same_then (st_same st) λ t r. any_then _ λ f r. any_then _ λ n r. any_then _ λ z r. that (simp part))

  -- the forms in turn, one to a line: C and T; L, F, B and N; I and O; ST and A; S; B by its bits
  form_longer : LongerForm (form_of utf8 separates tag) (form_of utf8 separates plain)
  unfolding form_of ct lfbn io slot last_forms status bits whole
  form_longer =
      try_longer (ended_longer (same_then (first_same _) λ t r. any_then _ λ f r. any_then _ λ z r. any_then _ λ _ r. that (simp all)))
      (try_longer (ended_longer (same_then (first_same _) λ t r. any_then _ λ f r. any_then _ λ n r. any_then _ λ z r. that (simp part)))
      (try_longer (ended_longer (same_then (behind_same _ (first_same _)) λ t r. any_then _ λ n r. any_then _ λ p r. any_then _ λ z r. that (simp part)))
      (try_longer (sta_longer true) (try_longer (sta_longer false)
      (try_longer (ended_longer (same_then (letter_same _) λ _ r. any_then _ λ _ r. any_then _ λ n r. any_then _ λ z r. that (simp (kept_longer z.0))))
      (ended_longer (same_then (letter_same _) λ _ r. any_then _ λ f r. any_then _ λ z r. any_then _ λ n r. that (simp part))))))))

  tag_longer : length tag ≤ 255 → address_of tag ≡ one_longer (address_of plain)
  unfolding address_of
  tag_longer l =
      let m : length plain ≤ 255 = omega (arith, all) in
      rw (le-leb (length tag) 255 l, le-leb (length plain) 255 m, formed_next tag x s e, formed_next plain y s f) (answer_longer (well_formed s) form_longer)

pub file_letters : FileLetters
unfolding character_in table point_in bytes_in byte_in then before_byte
file_letters s l = (
  tag_longer (0xC4 ∷ 0xB1 ∷ s) (code "I" ∷ s) s 0x131 (code "I") refl refl refl refl refl (omega arith),
  tag_longer (0xC5 ∷ 0xBF ∷ s) (code "S" ∷ s) s 0x17F (code "S") refl refl refl refl refl (omega arith),
)
