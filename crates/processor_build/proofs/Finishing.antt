-- The data cleared, and the processor made.
use Rattle.std.specs.Prelude.{Result, Ok, Err}
use Prim.Native.Nat.{ℕ, ◌+◌, ◌-◌, ◌≤◌, min}
use mathlib.Core.Path.{◌≡◌, refl, sym, ap, ◌∙◌}
use mathlib.Core.Bool.{Bool, true, false}
use mathlib.Core.List.{List, ◌++◌}
use native.Mathlib.Omega.{arith}
use borrow.Author.Tests.{leb-true, leb-false}
use lib.Dec.{leb}
use lib.ListN.{length, take, drop, replicate, length-replicate}
use lib.Seq.{take_all, length-take-le}
use Rattle.base.specs.declared.refusal.Refusal.{Refusal}
use Rattle.base.specs.Put.{put}
use Rattle.base.proofs.Parts.{drop_replicate}
use Rattle.element_text.specs.Text.{fitted}
use Rattle.processor_spec.specs.declared.Slc.{Slc}
use Rattle.processor_spec.specs.Build.{no_slc}
use Rattle.processor_build_spec.specs.declared.Sums.{Sums}
use Rattle.processor_build_spec.specs.Plans.{slc_with, ended, finish_of}

-- the bytes of the files, cleared
pub cleared : (m : List ℕ) (total n : ℕ) → n ≡ min total (length m) → (l : List ℕ) → l ≡ replicate (length (take n m)) 0
    → l ++ drop n m ≡ put m 0 (replicate (min total (length m)) 0)
unfolding put
cleared m total n e l q =
    let k : length (take n m) ≡ n = length-take-le n m (omega arith) in
    rw (q, k, sym e, length-replicate {A = ℕ} n 0) (let z : 0 + n ≡ n = omega arith in rw z refl)

-- the type text in its array
pub text_is : (s : List ℕ) (n : ℕ) → n ≡ min (length s) 11 → (l : List ℕ) → l ≡ take n s → l ++ drop {A = ℕ} n (replicate 11 0) ≡ fitted 11 0 s
unfolding fitted
text_is s n e l q = q' ∙ z
  where
    cut : take n s ≡ take 11 s
    cut = go (leb (length s) 11) refl
      where
        go : (t : Bool) → leb (length s) 11 ≡ t → take n s ≡ take 11 s
        go true h = let k : length s ≤ 11 = leb-true (length s) 11 h in take_all n s (omega arith) ∙ sym (take_all 11 s k)
        go false h = let k : n ≡ 11 = omega (arith, leb-false (length s) 11 h) in rw k

    q' : l ++ drop {A = ℕ} n (replicate 11 0) ≡ take 11 s ++ drop {A = ℕ} n (replicate 11 0)
    q' = ap (λ (x : List ℕ). x ++ drop {A = ℕ} n (replicate 11 0)) (q ∙ cut)

    z : take 11 s ++ drop {A = ℕ} n (replicate 11 0) ≡ take 11 s ++ replicate (11 - length s) 0
    z = let m : 11 - n ≡ 11 - length s = omega arith in ap (λ (x : List ℕ). take 11 s ++ x) (drop_replicate n 11 0 ∙ ap (λ (j : ℕ). replicate j 0) m)

pub slc_is : (files : ℕ) (text : List ℕ) (count : ℕ) (t : List ℕ) → t ≡ fitted 11 0 text
    → ◌≡◌ {A = Slc} (record { files = files; type_text = t; type_len = length text; log_at = 0; log_left = count }) (slc_with files text count)
unfolding slc_with
slc_is files text count t e = λ i. record { files = files; type_text = e i; type_len = length text; log_at = 0; log_left = count }

-- ---- the end
module _ (j : Result Sums Refusal) (text : List ℕ) (count : ℕ) (memory : List ℕ) (slc : Slc) where
  pub finish_refused : (n : Refusal) → j ≡ Err n → slc ≡ no_slc → ended (record { slc = slc; made = Err n }) memory ≡ finish_of j text count memory
  unfolding finish_of
  finish_refused n i e = rw (i, e)

  pub finish_done : (s : Sums) (m : List ℕ) → j ≡ Ok s → slc ≡ slc_with s.records text count → m ≡ put memory 0 (replicate (min s.total (length memory)) 0)
      → ended (record { slc = slc; made = Ok tt }) m ≡ finish_of j text count memory
  unfolding finish_of
  finish_done s m i e q = rw (i, e, q)
