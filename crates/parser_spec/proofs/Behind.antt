-- What a part leaves stands at the end of what it was given, so that the place where it begins says which bytes it is.
use Rattle.std.specs.Prelude.{Option, Some}
use Prim.Native.Nat.{ℕ, suc, ◌+◌, ◌-◌, ◌≤◌}
use mathlib.Core.Path.{◌≡◌, sym, ap, ◌∙◌, subst}
use mathlib.Core.Bool.{Bool, true, false, cond}
use mathlib.Core.List.{List, [], ◌∷◌}
use native.Mathlib.Omega.{arith}
use lib.ListN.{length, drop, length-drop}
use lib.Seq.{drop-drop}
use Rattle.parser_spec.specs.DecimalNumbers.{is_digit, digit_run}
use Rattle.parser_spec.specs.Parts.{Part, then, here, any_byte, one, byte, numeral, digits, digits_in, behind, after_byte, count_number, count_of}
use Rattle.parser_spec.proofs.Held.{Holds, nothing, that, weaker, and_next, numeral_held, digits_held}

pub record Behind (s r : List ℕ) : Type 0 where
  pub shorter : length r ≤ length s
  pub is : drop (length s - length r) s ≡ r

pub behind_drop : (k : ℕ) (s : List ℕ) → k ≤ length s → Behind s (drop k s)
behind_drop k s h =
    let n : length (drop k s) ≡ length s - k = length-drop k s in
    let m : length s - length (drop k s) ≡ k = omega arith in
    record { shorter = omega arith; is = ap (λ (j : ℕ). drop j s) m }

pub behind_trans : {s r t : List ℕ} → Behind s r → Behind r t → Behind s t
behind_trans {s} {r} {t} a b =
    let m : (length s - length r) + (length r - length t) ≡ length s - length t = omega (arith, a.shorter, b.shorter) in
    record {
      shorter = omega (arith, a.shorter, b.shorter);
      is = sym (ap (λ (j : ℕ). drop j s) m) ∙ sym (drop-drop (length r - length t) (length s - length r) s) ∙ ap (drop (length r - length t)) a.is ∙ b.is;
    }

pub none_behind : (s : List ℕ) → Behind s s
none_behind s = behind_drop 0 s (omega arith)

abbrev pub Leaves : {A : Type 0} → List ℕ → Option (A × List ℕ) → Type 0
Leaves {A} s o = Holds (λ (v : A) (r : List ℕ). Behind s r) o

pub further : {A : Type 0} {s r : List ℕ} {o : Option (A × List ℕ)} → Behind s r → Leaves r o → Leaves s o
further a h = weaker (λ v t b. behind_trans a b) h

-- one of two parts
pub either : {A : Type 0} (b : Bool) (p q : Part A) (s : List ℕ) → Leaves s (p s) → Leaves s (q s) → Leaves s (cond b p q s)
either true p q s f g = f
either false p q s f g = g

-- one part behind another
pub then_leaves : {A B : Type 0} {s : List ℕ} {x : Option (A × List ℕ)} {k : A → Part B} → Leaves s x → ((v : A) (r : List ℕ) → Leaves r (k v r)) → Leaves s (then x k)
then_leaves h f = and_next h (λ v r b. further b (f v r))

pub give_leaves : {A : Type 0} {v : A} (s : List ℕ) → Leaves s (Some (v, s))
give_leaves s = that (none_behind s)

-- ---- one byte or character
pub here_leaves : (t : Bool) (s : List ℕ) → Leaves s (here t s)
unfolding here
here_leaves true s = give_leaves s
here_leaves false s = nothing

pub any_leaves : (s : List ℕ) → Leaves s (any_byte s)
unfolding any_byte
any_leaves [] = nothing
any_leaves (b ∷ s) = further (behind_drop 1 (b ∷ s) (omega arith)) (give_leaves s)

pub one_leaves : (char : Part ℕ) → ((s : List ℕ) → Leaves s (char s)) → (test : ℕ → Bool) (s : List ℕ) → Leaves s (one char test s)
unfolding one
one_leaves char leaves test s = then_leaves (leaves s) λ x r. here_leaves (test x) r

pub byte_leaves : (v : ℕ) (s : List ℕ) → Leaves s (byte v s)
unfolding byte
byte_leaves v s = one_leaves any_byte any_leaves _ s

-- ---- numbers
-- a run of digits lies in the text
pub run_within : (s : List ℕ) → digit_run s ≤ length s
unfolding digit_run
run_within [] = omega arith
run_within (b ∷ s) = go (is_digit b) (run_within s)
  where
    go : (t : Bool) → digit_run s ≤ length s → cond t (suc (digit_run s)) 0 ≤ suc (length s)
    go true h = omega arith
    go false h = omega arith

behind_run : (s r : List ℕ) → r ≡ drop (digit_run s) s → Behind s r
behind_run s r e = subst (Behind s) (sym e) (behind_drop (digit_run s) s (run_within s))

pub numeral_leaves : (s : List ℕ) → Leaves s (numeral s)
numeral_leaves s = weaker (λ n r h. behind_run s r h.rest) (numeral_held s)

pub digits_leaves : (max : ℕ) (s : List ℕ) → Leaves s (digits max s)
digits_leaves max s = weaker (λ n r h. behind_run s r h.0.rest) (digits_held max s)

pub in_leaves : (max low high : ℕ) (s : List ℕ) → Leaves s (digits_in max low high s)
unfolding digits_in
in_leaves max low high s = then_leaves (digits_leaves max s) λ n r. then_leaves (here_leaves _ r) λ u q. give_leaves q

-- ---- what stands behind a byte
module _ {A : Type 0} where
  pub after_leaves : (v : ℕ) (p : Part A) (a : A) (s : List ℕ) → ((r : List ℕ) → Leaves r (p r)) → Leaves s (after_byte v p a s)
  unfolding after_byte
  after_leaves v p a s f = go (byte_leaves v s)
    where
      go : {z : Option (Unit {0} × List ℕ)} → Leaves s z → Leaves s (behind z p a s)
      go nothing = give_leaves s
      go (that b) = further b (f _)

-- ---- counts
pub number_leaves : (one_or_two : Bool) (s : List ℕ) → Leaves s (count_number one_or_two s)
unfolding count_number
number_leaves false s = numeral_leaves s
number_leaves true s = in_leaves 1 1 2 s

pub count_leaves : (one_or_two : Bool) (s : List ℕ) → Leaves s (count_of one_or_two s)
unfolding count_of
count_leaves one_or_two s = after_leaves _ _ 1 s λ r. then_leaves (number_leaves one_or_two r) λ n q. then_leaves (byte_leaves _ q) λ u z. give_leaves z
