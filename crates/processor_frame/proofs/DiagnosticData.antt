-- The data of the diagnostic status: the type text padded, and the parts laid over zeros.
use Prim.Native.Nat.{ℕ, ◌+◌, ◌≤◌, ◌<◌, min}
use mathlib.Core.Path.{◌≡◌, refl, sym, ap, ◌∙◌}
use mathlib.Core.Bool.{Bool, true, false}
use mathlib.Core.List.{List, [], ◌∷◌, ◌++◌}
use native.Mathlib.Omega.{arith}
use borrow.Author.Tests.{leb-true, leb-false}
use lib.Dec.{leb}
use lib.ListN.{length, take, replicate}
use lib.Seq.{length-take-le, take_all}
use Rattle.base.proofs.Put.{puts_wrote}
use Rattle.base.specs.Put.{put, Wrote, Puts}
use Rattle.base.proofs.Parts.{drop_replicate}
use Rattle.element_text.specs.Text.{fitted}
use Rattle.processor_spec.specs.Ask.{diagnostic}

-- ---- the type text
module _ (text : List ℕ) (len n : ℕ) (full : length text ≡ 11) (e : n ≡ min len 11) where
  same_text_lem : take len text ≡ take n text
  same_text_lem = go (leb len 11) refl
    where
      go : (b : Bool) → leb len 11 ≡ b → take len text ≡ take n text
      go true t = let l : len ≤ 11 = leb-true len 11 t in let q : n ≡ len = omega arith in rw q
      go false t =
          let l : 11 < len = leb-false len 11 t in
          let a : length text ≤ len = omega arith in
          let b : length text ≤ n = omega arith in
          take_all len text a ∙ sym (take_all n text b)

  pub text_length_lem : n ≡ length (take n text)
  text_length_lem = sym (length-take-le n text (omega arith))

  pub text_spaced : (r : ℕ) (out : List ℕ) → Puts (replicate 11 0x20) 0 (take n text) r out → out ≡ fitted 11 0x20 (take len text)
  unfolding fitted put
  text_spaced r out p =
      let w : out ≡ put (replicate 11 0x20) 0 (take n text) = (puts_wrote p (omega (arith, text_length_lem))).now in
      let k : length (take len text) ≡ n = ap length same_text_lem ∙ sym text_length_lem in
      let c : take 11 (take len text) ≡ take n text = take_all 11 (take len text) (omega arith) ∙ same_text_lem in
      let z : 0 + length (take n text) ≡ n = omega (arith, text_length_lem) in
      w ∙ rw (c, k, z, drop_replicate {A = ℕ} n 11 0x20)

-- ---- the parts
abbrev pub front : List ℕ
front = 0x00 ∷ 0xEE ∷ 0x31 ∷ 0x5B ∷ 0x30 ∷ []

pub status_data : (text spaced zeros mid out : List ℕ) (r t : ℕ) → spaced ≡ fitted 11 0x20 text → length spaced ≡ 11 → zeros ≡ replicate 24 0 → Puts zeros 0 front r mid → Puts mid r spaced t out
    → out ≡ diagnostic text
unfolding diagnostic put
status_data text spaced zeros mid out r t e n z p q =
    let h : length zeros ≡ 24 = rw z in
    let v : Wrote zeros 0 front r mid = puts_wrote p (omega arith) in
    let m : mid ≡ front ++ replicate 19 0 = v.now ∙ rw z in
    let l : length mid ≡ 24 = rw m in
    let w : out ≡ put mid r spaced = (puts_wrote q (omega (arith, v.end))).now in
    w ∙ rw (v.end, m, n, e)
