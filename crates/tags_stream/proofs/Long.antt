-- Bounded memory is enough: what stands behind the first 256 bytes of a line changes nothing.
use Prim.Native.Nat.{ℕ, ◌≤◌, ◌<◌}
use mathlib.Core.Bool.{Bool, true, false, cond}
use mathlib.Core.Path.{◌≡◌, refl, ap, sym, ◌∙◌}
use mathlib.Core.List.{List, [], ◌∷◌, ◌++◌, append_assoc}
use native.Mathlib.Omega.{arith}
use lib.Dec.{eqb}
use lib.ListN.{length, take, length-append, length-take}
use lib.Seq.{take-append-le, take_all}
use borrow.Author.Tests.{lt-leb}
use Rattle.base.specs.declared.refusal.Refusal.TheVariants.{MalformedTag}
use Rattle.address_spec.specs.Spelling.{address_of}
use Rattle.address_readings.specs.Readings.{retired, address_in}
use Rattle.request_spec.specs.Request.{refused, on_address}
use Rattle.tags_line.specs.Lines.{asked, answer, answers}
use Rattle.tags_stream.specs.Pieces.{ended, rest, held}

-- a line of more than 255 bytes, whatever they are
pub long : (l : List ℕ) → 255 < length l → asked l ≡ refused MalformedTag
unfolding asked address_in retired address_of on_address
long l h = rw (lt-leb (length l) 255 h)

module _ (l : List ℕ) (h : 255 < length l) where
  more : (t : List ℕ) → 255 < length (l ++ t)
  more t = simp length-append (omega arith)

  pub asked_long : (t : List ℕ) → asked (l ++ t) ≡ asked l
  asked_long t = long (l ++ t) (more t) ∙ sym (long l h)

pub held_long : (l t : List ℕ) → 256 ≤ length l → held (l ++ t) ≡ held l
unfolding held
held_long l t h = take-append-le 256 l t h

-- the answers stay, and so does what is kept
abbrev pub Same : List ℕ → List ℕ → List ℕ → Type 0
Same l' l s = (answers (ended l' s) ≡ answers (ended l s)) × (held (rest l' s) ≡ held (rest l s))

pub long_same : (l : List ℕ) → 255 < length l → (t s : List ℕ) → Same (l ++ t) l s
unfolding ended rest answers
long_same l h t [] = (refl, held_long l t h)
long_same l h t (b ∷ s) = go (eqb b 10) (long_same l h (t ++ (b ∷ [])) s) (long_same l h (b ∷ []) s)
  where
    go : (y : Bool) → Same (l ++ (t ++ (b ∷ []))) l s → Same (l ++ (b ∷ [])) l s
        → (answers (cond y ((l ++ t) ∷ ended [] s) (ended ((l ++ t) ++ (b ∷ [])) s)) ≡ answers (cond y (l ∷ ended [] s) (ended (l ++ (b ∷ [])) s)))
        × (held (cond y (rest [] s) (rest ((l ++ t) ++ (b ∷ [])) s)) ≡ held (cond y (rest [] s) (rest (l ++ (b ∷ [])) s)))
    go true one two = (ap (λ x. answer x ++ answers (ended [] s)) (asked_long l h t), refl)
    go false one two =
        let e : (l ++ t) ++ (b ∷ []) ≡ l ++ (t ++ (b ∷ [])) = append_assoc l t (b ∷ []) in (
          ap (λ (x : List ℕ). answers (ended x s)) e ∙ one.0 ∙ sym two.0,
          ap (λ (x : List ℕ). held (rest x s)) e ∙ one.1 ∙ sym two.1,
        )

-- what is kept of what is kept
pub held_held : (l : List ℕ) → held (held l) ≡ held l
unfolding held
held_held l = take_all 256 (take 256 l) (simp length-take (omega arith))
