-- What was read, by the place behind it.
use Rattle.std.specs.Prelude.{Option, None, Some}
use Prim.Native.Nat.{ℕ, ◌-◌, ◌≤◌}
use mathlib.Core.Path.{◌≡◌, refl, sym, ap, ◌∙◌}
use mathlib.Core.List.{List}
use native.Mathlib.Omega.{arith}
use lib.ListN.{length, drop, length-drop}
use Rattle.parser_spec.proofs.Held.{nothing, that, no_some}
use Rattle.parser_spec.proofs.Behind.{Behind, behind_drop, behind_trans, Leaves}
use Rattle.processor_params.specs.declared.Params.{Params}
use Rattle.processor_params.specs.Take.{place_of, placed, Taken, took, taken}

pub place_is : (s : List ℕ) (k : ℕ) → k ≤ length s → place_of s (drop k s) ≡ k
place_is s k h = let e : length (drop k s) ≡ length s - k = length-drop k s in omega arith

-- what a part left is what stands from a place on
pub record Found (s : List ℕ) (o : Option (ℕ × List ℕ)) (v n : ℕ) : Type 0 where
  pub is : o ≡ Some (v, drop n s)
  pub within : n ≤ length s

module _ (s : List ℕ) where
  pub none_placed : (o : Option (ℕ × List ℕ)) → None ≡ placed s o → o ≡ None
  none_placed None e = refl
  none_placed (Some x) e = no_some e

  pub some_placed : {at v n : ℕ} {o : Option (ℕ × List ℕ)} → at ≤ length s → Leaves (drop at s) o → Some (v, n) ≡ placed s o → Found s o v n
  some_placed h nothing e = no_some (sym e)
  some_placed {at} {v} {n} h (that {v = w} {r = r} b) e =
      let c : Behind s r = behind_trans (behind_drop at s h) b in
      let z : ◌≡◌ {A = ℕ × ℕ} (v, n) (w, place_of s r) = cc in
      let q : v ≡ w = ap (λ (x : ℕ × ℕ). x.0) z in
      let p : n ≡ length s - length r = ap (λ (x : ℕ × ℕ). x.1) z in
      let d : r ≡ drop n s = sym c.is ∙ ap (λ (k : ℕ). drop k s) (sym p) in
      record {
        is = ap {B = Option (ℕ × List ℕ)} (λ (k : ℕ). Some (k, r)) (sym q) ∙ ap {B = Option (ℕ × List ℕ)} (λ (t : List ℕ). Some (v, t)) d;
        within = omega (arith, p);
      }

  -- what a reader took that moves
  pub none_taken : (at : ℕ) (p : Params) (t : Option ℕ) (o : Option (ℕ × List ℕ)) → took t p ≡ taken at (placed s o) → t ≡ None → o ≡ None
  none_taken at p t None e m = refl
  none_taken at p t (Some x) e m = no_some (sym m ∙ ap (λ (z : Taken). z.got) e)

  pub some_taken : {at v : ℕ} {p : Params} {t : Option ℕ} {o : Option (ℕ × List ℕ)} → at ≤ length s → Leaves (drop at s) o → took t p ≡ taken at (placed s o) → t ≡ Some v
      → Found s o v p.pos
  some_taken h nothing e m = no_some (sym (ap (λ (z : Taken). z.got) e) ∙ m)
  some_taken {at} {v} {p} h (that {v = w} {r = r} b) e m =
      let g : Some v ≡ Some w = sym m ∙ ap (λ (z : Taken). z.got) e in
      let q : v ≡ w = cc in
      let n : p.pos ≡ length s - length r = ap (λ (z : Taken). z.next) e in
      some_placed h (that {v = w} {r = r} b) (ap {B = Option (ℕ × ℕ)} (λ (k : ℕ). Some (k, p.pos)) q ∙ ap {B = Option (ℕ × ℕ)} (λ (k : ℕ). Some (w, k)) n)
