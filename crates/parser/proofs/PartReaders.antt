-- Laws by which the readers are proved. Of a part `x`, read from the place `i` on, a reader answers `placed i s x`, or `place_of` of that.
-- What the part gave: none_read, some_read, none_place, some_place. `reading` goes on at texts, to `then x k ≡ y`; `answering` goes on at cursors, to `q ≡ placed i s (then x k)`.
-- Behind a `?` list the arm's `was`, as in `search (answering, c.in_ok-n.was, rules)`. A reader with one step needs no law: unfold `placed` and `then` in its attribute.
use Rattle.std.specs.Prelude.{Option, None, Some}
use Prim.Native.Char.{Char}
use Prim.Native.Nat.{ℕ, ◌+◌, ◌≤◌, ◌<◌, ◌-◌}
use mathlib.Core.Path.{◌≡◌, refl, ap, sym, ◌∙◌}
use mathlib.Core.List.{List, [], ◌∷◌}
use mathlib.Core.Bool.{Bool, true, false}
use native.Mathlib.Nat.{add-sub_cancel_left}
use native.Mathlib.Omega.{arith}
use borrow.Author.Tests.{le-leb, lt-leb, leb-true, leb-false, lt-ltb, le-ltb, eq-eqb, ne_eqb}
use lib.Dec.{leb}
use lib.ListN.{length, take, drop, get_or, drop_of_length-le, length-drop}
use lib.Seq.{drop-drop}
use Rattle.base.proofs.Parts.{drop_next}
use Rattle.parser_spec.specs.DecimalNumbers.{digit_run, Run, number_of}
use Rattle.parser_spec.specs.Parts.{Part, then, at_end, here, any_byte, one, byte, numeral, after_byte}
use Rattle.parser_spec.specs.Characters.{utf8, letter, first_of}
use Rattle.parser_spec.proofs.Held.{nothing, that}
use Rattle.parser_spec.proofs.Behind.{Leaves, byte_leaves, numeral_leaves, digits_leaves, in_leaves, number_leaves, count_leaves}
use Rattle.parser_spec.proofs.Characters.{letter_leaves, first_leaves, first_read, first_past}
use Rattle.parser_spec.proofs.Written.{step, stop, after_read, after_absent, one_read}
use Rattle.parser.specs.CursorAnswers.{end_from, placed, place_of}
use Rattle.parser.specs.declared.Cur.{Cur}

-- ---- a part that was read
-- the part `x`, read from the place `i` on, gave `v` and left the text from the cursor `c` on, with the same end
pub record Reads {A : Type 0} (s : List ℕ) (i : ℕ) (x : Option (A × List ℕ)) (v : A) (c : Cur) : Type 0 where
  pub is : x ≡ Some (v, drop c.i s)
  pub end : end_from c.i s ≡ end_from i s

-- ---- what a reader answers by what the part gives, and what the part gave by what a reader answered
module _ {A : Type 0} (s : List ℕ) (i : ℕ) where
  module _ (x : Option (A × List ℕ)) where
    pub no_read : (q : Option (A × Cur)) → q ≡ None → x ≡ None → q ≡ placed i s x
    unfolding placed
    no_read q g e = rw (g, e)

    pub a_read : (v : A) (c : Cur) → Reads s i x v c → Some (v, c) ≡ placed i s x
    unfolding placed
    a_read v c h =
        let n : length (drop c.i s) ≡ length s - c.i = length-drop c.i s in
        let k : c.i ≡ end_from i s - length (drop c.i s) = omega (arith, h.end) in
        rw h.is (ap (λ (m : ℕ). Some (v, record { i = m })) k)

  pub none_read : (x : Option (A × List ℕ)) (r : Option (A × Cur)) → r ≡ placed i s x → r ≡ None → x ≡ None
  unfolding placed
  none_read None r e g = refl
  none_read (Some p) r e g = cc

  pub some_read : {x : Option (A × List ℕ)} (r : Option (A × Cur)) (v : A) (c : Cur) → r ≡ placed i s x → r ≡ Some (v, c) → Leaves (drop i s) x → Reads s i x v c
  unfolding placed
  some_read r v c e g nothing = cc
  some_read r v c e g (that {v = u} {r = l} b) =
      let w : ◌≡◌ {A = A × Cur} (u, record { i = end_from i s - length l }) (v, c) = cc in
      let p : u ≡ v = ap (λ (z : A × Cur). z.0) w in
      let q : end_from i s - length l ≡ c.i = ap (λ (z : A × Cur). z.1.i) w in
      let n : length (drop i s) ≡ length s - i = length-drop i s in
      let k : i + (length (drop i s) - length l) ≡ c.i = omega (arith, b.shorter) in
      let d : l ≡ drop c.i s = sym b.is ∙ drop-drop (length (drop i s) - length l) i s ∙ ap (λ (m : ℕ). drop m s) k in
      record { is = rw (p, d); end = omega (arith, b.shorter) }

-- the same, of a reader that answers no more than the place
with_unit : Option Cur → Option (Unit {0} × Cur)
with_unit None = None
with_unit (Some c) = Some (tt, c)

told : (r : Option Cur) (o : Option (Unit {0} × Cur)) → r ≡ place_of o → with_unit r ≡ o
unfolding place_of with_unit
told r None e = rw e
told r (Some p) e = rw e

module _ (s : List ℕ) (i : ℕ) (x : Option (Unit {0} × List ℕ)) where
  pub no_place : (q : Option Cur) → q ≡ None → x ≡ None → q ≡ place_of (placed i s x)
  unfolding place_of
  no_place q g e = g ∙ ap place_of (no_read s i x None refl e)

  pub a_place : (c : Cur) → Reads s i x tt c → Some c ≡ place_of (placed i s x)
  unfolding place_of
  a_place c h = ap place_of (a_read s i x tt c h)

  pub none_place : (r : Option Cur) → r ≡ place_of (placed i s x) → r ≡ None → x ≡ None
  unfolding with_unit
  none_place r e g = none_read s i x (with_unit r) (told r _ e) (rw g)

  pub some_place : (r : Option Cur) (c : Cur) → r ≡ place_of (placed i s x) → r ≡ Some c → Leaves (drop i s) x → Reads s i x tt c
  unfolding with_unit
  some_place r c e g l = some_read s i (with_unit r) tt c (told r _ e) (rw g) l

-- ---- what follows a part that its reader read, or didn't find: at texts
module _ {A : Type 0} (s : List ℕ) (i : ℕ) where
  module _ {B : Type 0} (x : Option (B × List ℕ)) (r : Option (B × Cur)) (k : B → Part A) (e : r ≡ placed i s x) where
    pub stop_read : r ≡ None → then x k ≡ None
    stop_read g = stop k (none_read s i x r e g)

    pub next_read : (v : B) (c : Cur) (y : Option (A × List ℕ)) → r ≡ Some (v, c) → Leaves (drop i s) x → k v (drop c.i s) ≡ y → then x k ≡ y
    next_read v c y g l h = step k (some_read s i r v c e g l).is ∙ h

  module _ (x : Option (Unit {0} × List ℕ)) (r : Option Cur) (k : Unit {0} → Part A) (e : r ≡ place_of (placed i s x)) where
    pub stop_place : r ≡ None → then x k ≡ None
    stop_place g = stop k (none_place s i x r e g)

    pub next_place : (c : Cur) (y : Option (A × List ℕ)) → r ≡ Some c → Leaves (drop i s) x → k tt (drop c.i s) ≡ y → then x k ≡ y
    next_place c y g l h = step k (some_place s i x r c e g l).is ∙ h

  module _ (r : Option Cur) (v : ℕ) (p : Part A) (a : A) (e : r ≡ place_of (placed i s (byte v (drop i s)))) where
    pub not_after : r ≡ None → after_byte v p a (drop i s) ≡ Some (a, drop i s)
    not_after g = after_absent v p a (drop i s) (none_place s i _ r e g)

    pub is_after : (c : Cur) (y : Option (A × List ℕ)) → r ≡ Some c → p (drop c.i s) ≡ y → after_byte v p a (drop i s) ≡ y
    is_after c y g h = after_read v p a (drop i s) (some_place s i _ r c e g (byte_leaves v (drop i s))).is ∙ h

  module _ (r : Option Cur) (v : Char) (a : A) (xs : List (Char × A)) (e : r ≡ place_of (placed i s (letter utf8 v (drop i s)))) where
    pub first_is : (c : Cur) → r ≡ Some c → first_of utf8 ((v, a) ∷ xs) (drop i s) ≡ Some (a, drop c.i s)
    first_is c g = first_read utf8 v a xs (drop i s) (some_place s i _ r c e g (letter_leaves _ (drop i s))).is

    pub first_not : (y : Option (A × List ℕ)) → r ≡ None → first_of utf8 xs (drop i s) ≡ y → first_of utf8 ((v, a) ∷ xs) (drop i s) ≡ y
    first_not y g h = first_past utf8 v a xs (drop i s) (none_place s i _ r e g) ∙ h

  pub first_none : (t : List ℕ) → first_of utf8 {A = A} [] t ≡ None
  unfolding first_of
  first_none t = refl

-- ---- and at cursors
module _ {A : Type 0} (s : List ℕ) where
  -- a value, with nothing read
  pub give_at : (v : A) (c : Cur) → Some (v, c) ≡ placed c.i s (Some (v, drop c.i s))
  give_at v c = a_read s c.i _ v c (record { is = refl; end = refl })

  module _ (i : ℕ) (q : Option (A × Cur)) where
    pub placed_on : {B : Type 0} {z : Option (B × List ℕ)} {v : B} {c : Cur} (x y : Option (A × List ℕ)) → Reads s i z v c → y ≡ x → q ≡ placed c.i s x → q ≡ placed i s y
    unfolding placed
    placed_on None y o e h = h ∙ rw e
    placed_on (Some p) y o e h = h ∙ rw (o.end, e)

    pub next_at : {B : Type 0} (x : Option (B × List ℕ)) (r : Option (B × Cur)) (k : B → Part A) (v : B) (c : Cur) → r ≡ placed i s x → r ≡ Some (v, c) → Leaves (drop i s) x → q ≡ placed c.i s (k v (drop c.i s)) → q ≡ placed i s (then x k)
    next_at x r k v c e g l h = let o = some_read s i r v c e g l in placed_on _ _ o (step k o.is) h

    pub next_place_at : (x : Option (Unit {0} × List ℕ)) (r : Option Cur) (k : Unit {0} → Part A) (c : Cur) → r ≡ place_of (placed i s x) → r ≡ Some c → Leaves (drop i s) x → q ≡ placed c.i s (k tt (drop c.i s)) → q ≡ placed i s (then x k)
    next_place_at x r k c e g l h = let o = some_place s i x r c e g l in placed_on _ _ o (step k o.is) h

    pub after_at : (r : Option Cur) (v : ℕ) (p : Part A) (a : A) (c : Cur) → r ≡ place_of (placed i s (byte v (drop i s))) → r ≡ Some c → q ≡ placed c.i s (p (drop c.i s)) → q ≡ placed i s (after_byte v p a (drop i s))
    after_at r v p a c e g h = let o = some_place s i _ r c e g (byte_leaves v (drop i s)) in placed_on _ _ o (after_read v p a (drop i s) o.is) h

  module _ (i : ℕ) (r : Option Cur) where
    pub absent_at : (v : ℕ) (p : Part A) (a : A) → r ≡ place_of (placed i s (byte v (drop i s))) → r ≡ None → Some (a, record { i = i }) ≡ placed i s (after_byte v p a (drop i s))
    absent_at v p a e g = give_at a (record { i = i }) ∙ ap (placed i s) (sym (not_after s i r v p a e g))

    module _ (v : Char) (a : A) (xs : List (Char × A)) (e : r ≡ place_of (placed i s (letter utf8 v (drop i s)))) where
      pub first_at : (c : Cur) → r ≡ Some c → Some (a, c) ≡ placed i s (first_of utf8 ((v, a) ∷ xs) (drop i s))
      first_at c g = let o = some_place s i _ r c e g (letter_leaves _ (drop i s)) in a_read s i _ a c (record { is = first_is s i r v a xs e c g; end = o.end })

      pub later_at : (q : Option (A × Cur)) → r ≡ None → q ≡ placed i s (first_of utf8 xs (drop i s)) → q ≡ placed i s (first_of utf8 ((v, a) ∷ xs) (drop i s))
      later_at q g h = h ∙ ap (placed i s) (sym (first_not s i r v a xs e _ g refl))

-- ---- one that passes a test, by what `char` read
module _ (char : Part ℕ) (test : ℕ → Bool) (s : List ℕ) (i : ℕ) where
  pub one_none : (q : Option Cur) → q ≡ None → char (drop i s) ≡ None → q ≡ place_of (placed i s (one char test (drop i s)))
  unfolding one
  one_none q g e = no_place s i _ q g (stop _ e)

  module _ (x : ℕ) (c : Cur) (h : Reads s i (char (drop i s)) x c) where
    pub one_is : test x ≡ true → Some c ≡ place_of (placed i s (one char test (drop i s)))
    one_is e = a_place s i _ c (record { is = one_read char test x h.is e; end = h.end })

    pub one_not : test x ≡ false → None ≡ place_of (placed i s (one char test (drop i s)))
    unfolding one here
    one_not e = no_place s i _ None refl (step _ h.is ∙ rw e)

-- ---- one byte
pub any_here : (s : List ℕ) (i : ℕ) → i < length s → Reads s i (any_byte (drop i s)) (get_or s i 0) (record { i = i + 1 })
unfolding any_byte
any_here s i h = record { is = rw (drop_next s i h); end = omega arith }

module _ (s : List ℕ) (i v : ℕ) where
  pub byte_end : length s ≤ i → None ≡ place_of (placed i s (byte v (drop i s)))
  unfolding byte any_byte
  byte_end h = one_none any_byte _ s i None refl (rw (drop_of_length-le s h))

  module _ (h : i < length s) where
    pub byte_here : get_or s i 0 ≡ v → Some (record { i = i + 1 }) ≡ place_of (placed i s (byte v (drop i s)))
    unfolding byte
    byte_here e = one_is any_byte _ s i _ (record { i = i + 1 }) (any_here s i h) (eq-eqb _ _ e)

    pub byte_not : (get_or s i 0 ≡ v → ⊥) → None ≡ place_of (placed i s (byte v (drop i s)))
    unfolding byte
    byte_not e = one_not any_byte _ s i _ (record { i = i + 1 }) (any_here s i h) (ne_eqb _ _ e)

pub ruleset one_byte = (byte_end, byte_here, byte_not)

-- ---- numbers
module _ (s : List ℕ) (i n : ℕ) (run : Run s i n) where
  e : n ≡ digit_run (drop i s)
  e = run.is

  pub numeral_none : n ≡ 0 → None ≡ placed i s (numeral (drop i s))
  unfolding numeral
  numeral_none z = no_read s i _ None refl (simp (le-ltb 0 (digit_run (drop i s)) (omega arith)))

  pub numeral_at : (v : ℕ) → (n ≡ 0 → ⊥) → v ≡ number_of (take ((i + n) - i) (drop i s)) → Some (v, record { i = i + n }) ≡ placed i s (numeral (drop i s))
  unfolding numeral
  numeral_at v z p =
      let q : numeral (drop i s) ≡ Some (v, drop (i + n) s) = simp (lt-ltb 0 (digit_run (drop i s)) (omega arith), ← e, drop-drop n i s, p, add-sub_cancel_left i n) in
      a_read s i _ v (record { i = i + n }) (record { is = q; end = omega (arith, run.fits) })

pub ruleset numerals = (numeral_none, numeral_at)

-- ---- the end
pub end_left : (s : List ℕ) (i : ℕ) → leb (length s) i ≡ at_end (drop i s)
unfolding at_end
end_left s i = go (leb (length s) i) refl
  where
    go : (t : Bool) → leb (length s) i ≡ t → t ≡ at_end (drop i s)
    go true e = rw (drop_of_length-le s (leb-true _ _ e))
    go false e = rw (drop_next s i (leb-false _ _ e))

-- ---- a test
module _ {A : Type 0} (s : List ℕ) (k : Unit {0} → Part A) where
  here_no : (t : Bool) → t ≡ false → then (here t s) k ≡ None
  unfolding then here
  here_no t e = rw e

  here_yes : (t : Bool) → t ≡ true → then (here t s) k ≡ k tt s
  unfolding then here
  here_yes t e = rw e

  -- at most
  module _ (high n : ℕ) where
    pub above : high < n → then (here (leb n high) s) k ≡ None
    above h = here_no _ (lt-leb n high h)

    pub at_most : (y : Option (A × List ℕ)) → n ≤ high → k tt s ≡ y → then (here (leb n high) s) k ≡ y
    at_most y h e = here_yes _ (le-leb n high h) ∙ e

-- that a part leaves a part of the text
pub ruleset leaving = (byte_leaves, letter_leaves, numeral_leaves, digits_leaves, in_leaves, first_leaves, number_leaves, count_leaves)

-- what a part gives, from what the readers of its parts answered
pub ruleset reading = (leaving, stop_read, next_read, stop_place, next_place, not_after, is_after, first_is, first_not, first_none)

-- what a reader answers
pub ruleset answering = (leaving, no_read, stop_read, stop_place, next_at, next_place_at, after_at, absent_at, first_at, later_at, first_none, give_at)
