-- The text with a full stop, laid in lent memory.
use Rattle.std.specs.Prelude.{Option, Result, Ok}
use Prim.Native.Nat.{ℕ, min, ◌-◌, ◌≤◌, ◌<◌}
use mathlib.Core.Path.{◌≡◌, ap, sym, subst, ◌∙◌}
use mathlib.Core.List.{List, [], ◌∷◌}
use mathlib.Core.Bool.{Bool, true, false, not, cond}
use native.Mathlib.Nat.{zero-add}
use native.Mathlib.Omega.{arith}
use borrow.Author.Tests.{le-leb, not-true, not-false}
use lib.ListN.{length, take, drop, get_or, length-drop}
use lib.Seq.{take_all, length-take-le}
use Rattle.base.specs.declared.refusal.Refusal.{Refusal}
use Rattle.base.specs.Put.{Wrote, Puts}
use Rattle.base.proofs.Put.{lays, then, puts_wrote}
use Rattle.file_type.specs.declared.FileType.{FileType}
use Rattle.address_spec.specs.declared.Address.{Address}
use Rattle.address_spec.specs.Spelling.{address_of}
use Rattle.address_readings.specs.declared.Reading.TheVariants.{Stored}
use Rattle.address_readings.specs.Readings.{timed, address_in, dotted}
use Rattle.address_readings.specs.Places.{name_length, far_start, separator_start, replaced, dotted_by}
use Rattle.address_readings.proofs.Places.{far_step, far_stop}
use Rattle.address_readings.proofs.FromTheEnd.{dotted_by_lem}
use Rattle.address_readings.proofs.DottedText.{dotted_fits}
use Rattle.address_dotted.specs.DottedAnswers.{asked, dotting, Dots}

-- ---- where the separator begins
module _ (l : List ℕ) (end : ℕ) where
  pub start_counts : (r : ℕ) → r ≡ separator_start l end → end ≤ length l → length (take r l) ≡ r
  unfolding separator_start
  start_counts r e h = length-take-le r l (omega arith)

  module _ (e : ℕ) (inv : far_start l e ≡ far_start l end) where
    pub start_here : (r last : ℕ) → 0 < e → get_or l (e - 1) 0 < 128 → last ≡ end - 1 → r ≡ min e last → r ≡ separator_start l end
    unfolding separator_start
    start_here r last h b k f = omega (arith, inv, far_stop l e h b, f, k)

    pub start_on : 0 < e → 128 ≤ get_or l (e - 1) 0 → far_start l (e - 1) ≡ far_start l end
    start_on h b = sym (far_step l e h b) ∙ inv

    pub start_first : (r last : ℕ) → e ≤ 0 → r ≡ min e last → r ≡ separator_start l end
    unfolding separator_start far_start
    start_first r last h f = let z : e ≡ 0 = omega arith in let k : far_start l end ≡ 0 = sym inv ∙ ap (far_start l) z in omega (arith, k, f)

-- ---- the text
pub replaced_laid : (tag l : List ℕ) (end start : ℕ) {m k j : List ℕ} {a b t : ℕ} → start ≡ separator_start tag end → length (replaced tag end) ≤ length l
    → Puts l 0 (take start tag) a m → Puts m a (46 ∷ []) b k → Puts k b (take (length tag - end) (drop end tag)) t j → Wrote l 0 (replaced tag end) t j
replaced_laid tag l end start {m} {k} {j} {a} {b} {t} e fits p q r =
    let n : take (length tag - end) (drop end tag) ≡ drop end tag = take_all (length tag - end) (drop end tag) (omega (arith, length-drop end tag)) in
    (then (lays (subst (λ (i : ℕ). Puts l 0 (take i tag) a m) e p)) (then (lays q) (lays (subst (λ (s : List ℕ). Puts k b s t j) n r)))).room (omega arith)

module _ (tag l : List ℕ) (t : FileType) (sub : Option ℕ) (b : Bool) (e : b ≡ timed t) (fits : length (dotted_by tag t sub) ≤ length l) where
  pub same_laid : {r : ℕ} {m : List ℕ} → not b ≡ true → Puts l 0 tag r m → Wrote l 0 (dotted_by tag t sub) r m
  unfolding dotted_by
  same_laid {r} {m} h p = subst (λ (s : List ℕ). length s ≤ length l → Wrote l 0 s r m) (sym (untimed h)) (λ f. puts_wrote p (omega arith)) fits
    where
      untimed : not b ≡ true → cond (timed t) (replaced tag (length tag - name_length sub)) tag ≡ tag
      untimed h = rw (← e, not-true b h)

  module _ (h : not b ≡ false) (end : ℕ) (k : end ≡ length tag - name_length sub) where
    is_replaced : dotted_by tag t sub ≡ replaced tag end
    unfolding dotted_by
    is_replaced = rw (← e, not-false b h, k)

    pub fits_replaced : length (replaced tag end) ≤ length l
    fits_replaced = subst (λ (s : List ℕ). length s ≤ length l) is_replaced fits

    pub laid_replaced : {r : ℕ} {m : List ℕ} → Wrote l 0 (replaced tag end) r m → Wrote l 0 (dotted_by tag t sub) r m
    laid_replaced {r} {m} w = subst (λ (s : List ℕ). Wrote l 0 s r m) (sym is_replaced) w

-- ---- the call
module _ (tag l : List ℕ) (p : Result Address Refusal) (e : p ≡ address_in Stored tag) where
  stored : p ≡ address_of tag
  unfolding address_in
  stored = e

  module _ (x : Address) (h : p ≡ Ok x) where
    pub dots_fit : 255 ≤ length l → length (dotted_by tag x.file_type x.sub_element) ≤ length l
    dots_fit k = omega (arith, ap length (dotted_by_lem tag x (sym stored ∙ h)), dotted_fits tag x (sym stored ∙ h))

    pub dots_written : {r : ℕ} {m : List ℕ} → 255 ≤ length l → Wrote l 0 (dotted_by tag x.file_type x.sub_element) r m → Dots (dotting tag l) l (Ok r) m
    unfolding asked
    dots_written {r} {m} k w =
        let v : Wrote l 0 (dotted x tag) r m = subst (λ (s : List ℕ). Wrote l 0 s r m) (dotted_by_lem tag x (sym stored ∙ h)) w in
        rw (← stored, h, le-leb 255 (length l) k) (record { answer = ap Ok (v.end ∙ zero-add _); now = v.now })
