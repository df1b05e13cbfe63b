-- The diagnostic status, and reads and writes of a file.
use Rattle.std.specs.Prelude.{Option, None, Some}
use Prim.Native.Nat.{ℕ, ◌+◌, ◌≤◌}
use mathlib.Core.Path.{◌≡◌, refl, sym, ap, subst, ◌∙◌}
use mathlib.Core.Bool.{true}
use mathlib.Core.List.{List, []}
use native.Mathlib.Omega.{arith}
use lib.ListN.{length, get_or, take, drop, length-drop}
use lib.Seq.{drop-drop, take_all}
use Rattle.base.specs.Put.{put}
use Rattle.processor_spec.specs.declared.Done.{Done}
use Rattle.processor_spec.specs.declared.Slc.{Slc}
use Rattle.processor_spec.specs.Ask.{diagnostic}
use Rattle.processor_spec.specs.Frame.{well_formed, body, function}
use Rattle.processor_spec.specs.Masked.{masked_at}
use Rattle.processor_spec.specs.Pccc.{memory_left, slc_left, left, left_by}
use Rattle.processor_masked_write.specs.Written.{written}
use Rattle.processor_query.specs.declared.Query.{Query}
use Rattle.processor_table.specs.declared.Seen.{Seen}
use Rattle.processor_refinement.specs.StepsBySurvey.{Answers, Told, tells, tells_bad, status_step, read_step, values_of, write_step}
use Rattle.processor_locate.specs.Locate.{locate_by}
use Rattle.processor_refinement.proofs.Replying.{answers_left, told}

-- the values stand in the parameters
pub values_there : (q : Query) (c : List ℕ) (n : ℕ) (ps vs : List ℕ) → n ≡ get_or c 0 0 → ps ≡ take (length c) (drop (n + 5) c) → vs ≡ take q.size (drop q.place ps) → vs ≡ values_of q c
unfolding values_of function body
values_there q c n ps vs en ep ev =
    let l : length (drop (n + 5) c) ≤ length c = simp length-drop (omega arith) in
    let x : drop 1 (drop 4 (drop (get_or c 0 0) c)) ≡ drop (get_or c 0 0 + 4 + 1) c = ap (drop 1) (drop-drop 4 (get_or c 0 0) c) ∙ drop-drop 1 (get_or c 0 0 + 4) c in
    let k : n + 5 ≡ get_or c 0 0 + 4 + 1 = omega arith in
    let y : ps ≡ drop 1 (drop 4 (drop (get_or c 0 0) c)) = ep ∙ take_all (length c) (drop (n + 5) c) l ∙ ap (λ (j : ℕ). drop j c) k ∙ sym x in
    ev ∙ ap (λ (z : List ℕ). take q.size (drop q.place z)) y

module _ (slc : Slc) (c reply reply' : List ℕ) (r : Done) where
  pub diagnosed : (d : List ℕ) → d ≡ diagnostic (take slc.type_len slc.type_text) → length d ≡ 24 → Told c 0 d slc reply r reply' → well_formed c ≡ true → 514 ≤ length reply
      → Answers (status_step slc c) slc [] reply r reply'
  unfolding status_step
  diagnosed d e n a w k = subst (λ (x : List ℕ). Answers (tells c 0 x) slc [] reply r reply') e (told a w (omega arith) k)

  module _ (s : Seen) (q : Query) (m : List ℕ) (p : Option ℕ) (e : p ≡ locate_by s q) where
    pub fetched_bad : p ≡ None → Answers (tells_bad c) slc [] reply r reply' → Answers (read_step s q m c) slc [] reply r reply'
    unfolding read_step
    fetched_bad f a = let o : locate_by s q ≡ None = sym e ∙ f in rw o a

    pub fetched : (at n : ℕ) (bs : List ℕ) → p ≡ Some at → n ≡ q.size → bs ≡ take n (drop at m) → Answers (tells c 0 bs) slc [] reply r reply' → Answers (read_step s q m c) slc [] reply r reply'
    unfolding read_step
    fetched at n bs f z g a =
        let o : locate_by s q ≡ Some at = sym e ∙ f in
        rw o (subst (λ (x : List ℕ). Answers (tells c 0 x) slc [] reply r reply') (g ∙ ap (λ (k : ℕ). take k (drop at m)) z) a)

    pub stored_bad : p ≡ None → Answers (tells_bad c) slc [] reply r reply' → left r m reply' ≡ left_by (write_step s q m c) slc m [] reply
    unfolding write_step memory_left
    stored_bad f a = let o : locate_by s q ≡ None = sym e ∙ f in rw o (answers_left m m a refl)

    pub stored : (at : ℕ) (vs m' : List ℕ) → p ≡ Some at → vs ≡ values_of q c → m' ≡ written m at q.mask vs → Answers (tells c 0 []) slc [] reply r reply'
        → left r m' reply' ≡ left_by (write_step s q m c) slc m [] reply
    unfolding write_step memory_left written slc_left
    stored at vs m' f ev em a =
        let o : locate_by s q ≡ Some at = sym e ∙ f in
        let v : m' ≡ put m at (masked_at m at q.mask (values_of q c)) = em ∙ ap (λ (z : List ℕ). put m at (masked_at m at q.mask z)) ev in
        rw o (λ i. record { done = a.done i; memory = v i; reply = a.left i })
