-- What a command says, by its frame.
use Rattle.std.specs.Prelude.{Option, None, Some, unwrap_or}
use Prim.Native.Nat.{ℕ, ◌+◌, ◌-◌, ◌≤◌, ◌<◌}
use mathlib.Core.Path.{◌≡◌, refl, sym, ap, ◌∙◌}
use mathlib.Core.Logic.{◌⊎◌, inl, inr}
use mathlib.Core.List.{List, [], ◌∷◌}
use native.Mathlib.Nat.{add-zero}
use native.Mathlib.Omega.{arith}
use borrow.Author.Tests.{eq-eqb, ne_eqb}
use lib.ListN.{length, get_or, take, drop, length-drop, drop_of_length-le}
use lib.Seq.{drop-drop, get_or-drop, take_all}
use Rattle.base.proofs.Parts.{drop_next}
use Rattle.processor_spec.specs.declared.Slc.{Slc}
use Rattle.processor_spec.specs.Frame.{body, cmd, function}
use Rattle.processor_spec.specs.Params.{header}
use Rattle.processor_query.specs.declared.Query.{Query}
use Rattle.processor_query.specs.declared.Wants.TheVariants as wants
use Rattle.processor_query.specs.Query.{plainly, wanted, function_query, body_query, query_of}

chosen : (o : Option Query) → unwrap_or o (plainly wants.Bad) ≡ wanted o
chosen None = refl
chosen (Some q) = refl

module _ (slc : Slc) (c : List ℕ) (n : ℕ) (q : Query) (en : n ≡ get_or c 0 0) where
  at_body : function c ≡ drop (n + 4) c
  unfolding function body
  at_body = drop-drop 4 (get_or c 0 0) c ∙ ap (λ (k : ℕ). drop (k + 4) c) (sym en)

  the_cmd : cmd c ≡ get_or c n 0
  unfolding cmd body
  the_cmd = get_or-drop (get_or c 0 0) c 0 0 ∙ ap (λ (k : ℕ). get_or c k 0) (add-zero (get_or c 0 0) ∙ sym en)

  pub no_function : length c < n + 5 → q ≡ plainly wants.Illegal → q ≡ query_of slc c
  unfolding query_of body_query
  no_function l e =
      let z : length c ≤ n + 4 = omega arith in
      let f : function c ≡ [] = at_body ∙ drop_of_length-le c z in
      rw f e

  module _ (l : n + 5 ≤ length c) where
    parts : function c ≡ get_or c (n + 4) 0 ∷ drop (n + 5) c
    parts =
        let k : n + 4 + 1 ≡ n + 5 = omega arith in
        at_body ∙ drop_next c (n + 4) (omega arith) ∙ ap (λ (j : ℕ). get_or c (n + 4) 0 ∷ drop j c) k

    pub of_function : (s : List ℕ) (o : Option Query) (d : Query) → get_or c n 0 ≡ 0x0F → s ≡ take (length c - (n + 5)) (drop (n + 5) c)
        → wanted o ≡ function_query (take slc.type_len slc.type_text) (get_or c (n + 4) 0) s (header s) → d ≡ plainly wants.Bad → q ≡ unwrap_or o d → q ≡ query_of slc c
    unfolding query_of body_query
    of_function s o d f es g ed eq =
        let e : q ≡ function_query (take slc.type_len slc.type_text) (get_or c (n + 4) 0) s (header s) = eq ∙ ap (unwrap_or o) ed ∙ chosen o ∙ g in
        let w : length (drop (n + 5) c) ≤ length c - (n + 5) = simp length-drop (omega arith) in
        let p : s ≡ drop (n + 5) c = es ∙ take_all (length c - (n + 5)) (drop (n + 5) c) w in
        rw (parts, the_cmd, f) (e ∙ ap (λ (x : List ℕ). function_query (take slc.type_len slc.type_text) (get_or c (n + 4) 0) x (header x)) p)

    module _ (nf : get_or c n 0 ≡ 0x0F → ⊥) where
      pub of_neither : ((get_or c n 0 ≡ 0x06) × (get_or c (n + 4) 0 ≡ 0x03 → ⊥)) ⊎ (get_or c n 0 ≡ 0x06 → ⊥) → q ≡ plainly wants.Illegal → q ≡ query_of slc c
      unfolding query_of body_query
      of_neither (inl x) e = rw (parts, the_cmd, ne_eqb (get_or c n 0) 0x0F nf, eq-eqb (get_or c n 0) 0x06 x.0, ne_eqb (get_or c (n + 4) 0) 0x03 x.1) e
      of_neither (inr ne) e = rw (parts, the_cmd, ne_eqb (get_or c n 0) 0x0F nf, ne_eqb (get_or c n 0) 0x06 ne) e

      pub of_diagnostic : get_or c n 0 ≡ 0x06 → get_or c (n + 4) 0 ≡ 0x03 → q ≡ plainly wants.Diagnostic → q ≡ query_of slc c
      unfolding query_of body_query
      of_diagnostic f g e = rw (parts, the_cmd, ne_eqb (get_or c n 0) 0x0F nf, eq-eqb (get_or c n 0) 0x06 f, eq-eqb (get_or c (n + 4) 0) 0x03 g) e
