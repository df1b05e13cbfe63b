-- What holds of whatever a part reads: a law for each part, so that a fact about accepted texts is one line a form.
use Rattle.std.specs.Prelude.{Option, None, Some}
use Prim.Native.Nat.{ℕ, ◌≤◌, ◌<◌}
use mathlib.Core.Path.{◌≡◌, refl, ap, sym, ◌∙◌, subst}
use mathlib.Core.List.{List, [], ◌∷◌}
use mathlib.Core.Bool.{Bool, true, false, ◌&&◌, cond}
use native.Mathlib.Omega.{arith}
use borrow.Author.Tests.{eqb-true, leb-true, ltb-true}
use lib.Dec.{leb, ltb}
use lib.ListN.{take, drop}
use Rattle.parser_spec.specs.DecimalNumbers.{digit_run, most, number_of}
use Rattle.parser_spec.specs.Parts.{Part, then, or_else, ended, whole, at_end, here, any_byte, one, byte, numeral, digits, digits_in, behind, after_byte, count_number, count_of}

pub data Holds {X : Type 0} (P : X → List ℕ → Type 0) : Option (X × List ℕ) → Type 0 where
  nothing : Holds P None
  that : {v : X} {r : List ℕ} → P v r → Holds P (Some (v, r))

module _ {X Y : Type 0} {P : X → List ℕ → Type 0} where
  pub and_next : {Q : Y → List ℕ → Type 0} {x : Option (Y × List ℕ)} {k : Y → Part X} → Holds Q x → ((v : Y) (r : List ℕ) → Q v r → Holds P (k v r)) → Holds P (then x k)
  unfolding then
  and_next nothing f = nothing
  and_next (that h) f = f _ _ h

  pub and_any : (x : Option (Y × List ℕ)) {k : Y → Part X} → ((v : Y) (r : List ℕ) → Holds P (k v r)) → Holds P (then x k)
  unfolding then
  and_any None f = nothing
  and_any (Some p) f = f p.0 p.1

module _ {X : Type 0} where
  pub weaker : {P Q : X → List ℕ → Type 0} {x : Option (X × List ℕ)} → ((v : X) (r : List ℕ) → P v r → Q v r) → Holds P x → Holds Q x
  weaker f nothing = nothing
  weaker f (that h) = that (f _ _ h)

  -- what two laws say of one part, and what it gives
  pub both_held : {P Q R : X → List ℕ → Type 0} {x : Option (X × List ℕ)} → ((v : X) (r : List ℕ) → P v r → Q v r → R v r) → Holds P x → Holds Q x → Holds R x
  both_held f nothing nothing = nothing
  both_held f (that h) (that k) = that (f _ _ h k)

  pub itself : (x : Option (X × List ℕ)) → Holds (λ (v : X) (r : List ℕ). x ≡ Some (v, r)) x
  itself None = nothing
  itself (Some p) = that refl

  pub no_some : {A : Type 0} {v : X} → ◌≡◌ {A = Option X} None (Some v) → A
  no_some e = absurd (let w : ◌≡◌ {A = ℕ} 0 1 = cc in omega arith)

  -- what was read holds
  pub held_of : {P : X → List ℕ → Type 0} {x : Option (X × List ℕ)} {v : X} {r : List ℕ} → Holds P x → x ≡ Some (v, r) → P v r
  held_of {v} {r} nothing e = absurd (let w : ◌≡◌ {A = ℕ} 0 1 = cc in omega arith)
  held_of {P} {v} {r} (that {v = u} {r = s} h) e =
      let p : ◌≡◌ {A = X × List ℕ} (u, s) (v, r) = cc in
      subst (λ (w : X × List ℕ). P w.0 w.1) p h

  -- ---- the whole text
  at_end_lem : (u v : X) (l : List ℕ) → cond (at_end l) (Some u) None ≡ Some v → ◌≡◌ {A = Option (X × List ℕ)} (Some (u, l)) (Some (v, []))
  unfolding at_end
  at_end_lem u v [] e = let p : u ≡ v = cc in ap {B = Option (X × List ℕ)} (λ (z : X). Some (z, [])) p
  at_end_lem u v (b ∷ l) e = no_some e

  pub whole_some : (p : Part X) (s : List ℕ) (v : X) → whole p s ≡ Some v → p s ≡ Some (v, [])
  unfolding whole ended
  whole_some p s v = go (p s)
    where
      go : (x : Option (X × List ℕ)) → ended x ≡ Some v → x ≡ Some (v, [])
      go None e = no_some e
      go (Some w) e = at_end_lem w.0 v w.1 e

  -- ---- a choice, and what stands behind a byte
  module _ {P : X → List ℕ → Type 0} where
    pub or_held : {x y : Option (X × List ℕ)} → Holds P x → Holds P y → Holds P (or_else x y)
    unfolding or_else
    or_held nothing k = k
    or_held (that h) k = that h

    pub after_held : (v : ℕ) (p : Part X) (a : X) (s : List ℕ) → ((r : List ℕ) → Holds P (p r)) → P a s → Holds P (after_byte v p a s)
    unfolding after_byte
    after_held v p a s f h = go (byte v s)
      where
        go : (z : Option (Unit {0} × List ℕ)) → Holds P (behind z p a s)
        go None = that h
        go (Some w) = f w.1

-- ---- a test, one byte or character
pub here_held : (t : Bool) (s : List ℕ) → Holds (λ (u : Unit {0}) (r : List ℕ). (t ≡ true) × (r ≡ s)) (here t s)
unfolding here
here_held true s = that (refl, refl)
here_held false s = nothing

-- a character that passes a test, and what was left behind it
module _ (char : Part ℕ) where
  pub record Read (test : ℕ → Bool) (s r : List ℕ) : Type 0 where
    pub value : ℕ
    pub passes : test value ≡ true
    pub text : char s ≡ Some (value, r)

  pub one_held : (test : ℕ → Bool) (s : List ℕ) → Holds (λ (u : Unit {0}) (r : List ℕ). Read test s r) (one char test s)
  unfolding one then
  one_held test s = go (char s) refl
    where
      go : (z : Option (ℕ × List ℕ)) → char s ≡ z → Holds (λ (u : Unit {0}) (r : List ℕ). Read test s r) (then z (λ x. here (test x)))
      go None e = nothing
      go (Some p) e = weaker (λ u r h. record { value = p.0; passes = h.0; text = e ∙ ap (λ (l : List ℕ). Some (p.0, l)) (sym h.1) }) (here_held (test p.0) p.1)

any_held : (s : List ℕ) → Holds (λ (b : ℕ) (r : List ℕ). s ≡ b ∷ r) (any_byte s)
unfolding any_byte
any_held [] = nothing
any_held (b ∷ s) = that refl

pub byte_held : (v : ℕ) (s : List ℕ) → Holds (λ (u : Unit {0}) (r : List ℕ). s ≡ v ∷ r) (byte v s)
unfolding byte
byte_held v s = weaker (λ u r h. held_of (any_held s) h.text ∙ ap (λ (b : ℕ). b ∷ r) (eqb-true _ _ h.passes)) (one_held any_byte _ s)

-- ---- numbers
pub record Numeral (s : List ℕ) (n : ℕ) (r : List ℕ) : Type 0 where
  pub some_digit : 0 < digit_run s
  pub value : n ≡ number_of (take (digit_run s) s)
  pub rest : r ≡ drop (digit_run s) s

pub held_most : (s : List ℕ) → number_of s ≤ most
unfolding number_of
held_most s = omega arith

pub numeral_held : (s : List ℕ) → Holds (Numeral s) (numeral s)
unfolding numeral
numeral_held s = go (ltb 0 (digit_run s)) refl
  where
    go : (t : Bool) → ltb 0 (digit_run s) ≡ t → Holds (Numeral s) (cond t (Some (number_of (take (digit_run s) s), drop (digit_run s) s)) None)
    go true e = that (record { some_digit = ltb-true 0 (digit_run s) e; value = refl; rest = refl })
    go false e = nothing

pub digits_held : (max : ℕ) (s : List ℕ) → Holds (λ (n : ℕ) (r : List ℕ). Numeral s n r × (digit_run s ≤ max)) (digits max s)
unfolding digits
digits_held max s = go (leb (digit_run s) max) refl
  where
    go : (t : Bool) → leb (digit_run s) max ≡ t → Holds (λ (n : ℕ) (r : List ℕ). Numeral s n r × (digit_run s ≤ max)) (cond t (numeral s) None)
    go true e = weaker (λ n r h. (h, leb-true (digit_run s) max e)) (numeral_held s)
    go false e = nothing

range : (low high n : ℕ) (r : List ℕ) (t u : Bool) → leb low n ≡ t → leb n high ≡ u → Holds (λ (n : ℕ) (r : List ℕ). (low ≤ n) × (n ≤ high)) (then (here (t && u) r) (λ _ q. Some (n, q)))
unfolding then here
range low high n r true true e f = that (leb-true low n e, leb-true n high f)
range low high n r true false e f = nothing
range low high n r false u e f = nothing

-- from low to high
pub in_held : (max low high : ℕ) (s : List ℕ) → Holds (λ (n : ℕ) (r : List ℕ). (low ≤ n) × (n ≤ high)) (digits_in max low high s)
unfolding digits_in
in_held max low high s = and_any _ λ n r. range low high n r (leb low n) (leb n high) refl refl

pub any_count_held : (s : List ℕ) → Holds (λ (n : ℕ) (r : List ℕ). n ≤ most) (count_of false s)
unfolding count_of count_number
any_count_held s = after_held 123 _ 1 s (λ r. and_next (numeral_held r) λ n q h. and_any _ λ u z. that (omega (arith, h.value, held_most (take (digit_run r) r)))) (omega arith)

pub one_or_two_held : (s : List ℕ) → Holds (λ (n : ℕ) (r : List ℕ). (1 ≤ n) × (n ≤ 2)) (count_of true s)
unfolding count_of count_number
one_or_two_held s = after_held 123 _ 1 s (λ r. and_next (in_held 1 1 2 r) λ n q h. and_any _ λ u z. that h) (omega arith, omega arith)
