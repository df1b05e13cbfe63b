-- A request is refused, or laid at the start of the lent memory.
use Rattle.std.specs.Prelude.{Option, Result, Ok, ok_or}
use Prim.Native.Nat.{ℕ, ◌+◌, ◌-◌, ◌≤◌, ◌<◌}
use mathlib.Core.Path.{◌≡◌, refl, ap, sym, ◌∙◌, subst}
use mathlib.Core.Logic.{◌⊎◌, inl, inr}
use mathlib.Core.Bool.{Bool, true, false, not, ◌&&◌, ◌||◌, cond}
use mathlib.Core.List.{List, ◌++◌}
use native.Mathlib.Nat.{zero-add}
use native.Mathlib.Omega.{arith}
use borrow.Author.Tests.{le-leb, leb-true, eqb-true, not-false}
use lib.Dec.{leb, eqb}
use lib.ListN.{length, length-append}
use Rattle.base.specs.declared.refusal.Refusal.{Refusal}
use Rattle.base.specs.declared.refusal.Refusal.TheVariants.{SizeOutOfRange}
use Rattle.base.specs.Put.{Wrote, Puts}
use Rattle.base.proofs.EveryPlace.{both}
use Rattle.base.proofs.Put.{lays, then, puts_wrote}
use Rattle.file_type.specs.declared.FileType.TheVariants.{T, C}
use Rattle.address_spec.specs.declared.Address.{Address}
use Rattle.address_spec.specs.Elements.{elements_of}
use Rattle.address_spec.specs.Spelling.{or_zero}
use Rattle.address_readings.specs.declared.Reading.{Reading}
use Rattle.address_readings.specs.Readings.{address_in}
use Rattle.address_spec.proofs.Ranges.{ranged}
use Rattle.address_readings.proofs.Readings.{taken}
use Rattle.request_frame.specs.RequestFrame.{address_field, typed, typed_length}
use Rattle.request_frame.specs.declared.Target.{Target}
use Rattle.request_frame.specs.declared.Requestor.{Requestor}
use Rattle.request_frame.proofs.Laid.{short_length, field_most}
use Rattle.request_spec.specs.SizeAnswers.{sized, size_of, data_size_of}
use Rattle.request_spec.specs.Request.{Builds, bit_and_count, place, read_size, read_message, read_address, on_address, is, preset_or_accum, suits, supplied, last_address, write_message, write_data, write_address, reading, writing}
use Rattle.request_spec.specs.declared.WriteValue.{WriteValue}

-- ---- what a size says
abbrev asked : Bool → ℕ → Result ℕ Refusal
asked b n = ok_or (sized b n) SizeOutOfRange

got : (b : Bool) (n k : ℕ) → asked b n ≡ Ok k → (b ≡ true) × (n ≡ k)
got true n k q = (refl, cc)
got false n k q = absurd cc

-- ---- 1 or 2
one_or_two_lem : (n : ℕ) → (eqb n 1 || eqb n 2) ≡ true → n < 255
one_or_two_lem n = go (eqb n 1) refl
  where
    go : (b : Bool) → eqb n 1 ≡ b → (b || eqb n 2) ≡ true → n < 255
    go true h q = let i : n ≡ 1 = eqb-true n 1 h in omega arith
    go false h q = let i : n ≡ 2 = eqb-true n 2 q in omega arith

-- ---- the address fields of an accepted address take at most seven bytes
seven : (f e p : ℕ) → (p < 255) ⊎ (f < 255) → 20 + length (address_field f) + length (address_field e) + length (address_field p) ≤ 27
seven f e p (inl h) = omega (arith, short_length p h, field_most f, field_most e)
seven f e p (inr h) = omega (arith, short_length f h, field_most p, field_most e)

module _ (tag : List ℕ) (ρ : Reading) (x : Address) (e : address_in ρ tag ≡ Ok x) where
  at_position_27 : typed_length (place (elements_of x) (or_zero x.pos_number)) ≤ 27
  at_position_27 = seven x.file_number x.element_number (or_zero x.pos_number) (go (ranged tag x (taken ρ tag x e)).small)
    where
      go : (or_zero x.pos_number ≡ 0) ⊎ (x.file_number ≤ 1) → (or_zero x.pos_number < 255) ⊎ (x.file_number < 255)
      go (inl h) = inl (omega arith)
      go (inr h) = inr (omega arith)

  at_last_27 : typed_length (place (elements_of x) (last_address x)) ≤ 27
  unfolding last_address preset_or_accum
  at_last_27 = go (preset_or_accum x) refl
    where
      go : (b : Bool) → preset_or_accum x ≡ b → typed_length (place (elements_of x) (cond b (or_zero x.sub_element) (or_zero x.pos_number))) ≤ 27
      go true h = seven x.file_number x.element_number (or_zero x.sub_element) (inl (one_or_two_lem (or_zero x.sub_element) (both (is x T || is x C) (eqb (or_zero x.sub_element) 1 || eqb (or_zero x.sub_element) 2) h).1))
      go false h = at_position_27

-- ---- an accepted tag, with no bit beside a count and a size that the field holds
module _ (tag : List ℕ) (ρ : Reading) (x : Address) {a : Result Address Refusal} (e : a ≡ address_in ρ tag) (f : a ≡ Ok x) {b : Bool} (c : b ≡ bit_and_count x) (h : b ≡ false) where
  accepted_in : address_in ρ tag ≡ Ok x
  accepted_in = sym e ∙ f

  no_bit : bit_and_count x ≡ false
  no_bit = sym c ∙ h

  -- read
  module _ (q : Requestor) (n : ℕ) {o : Option ℕ} (d : o ≡ size_of (read_size (elements_of x))) {z : Result ℕ Refusal} (w : z ≡ ok_or o SizeOutOfRange) (k : ℕ) (g : z ≡ Ok k) where
    fits : (leb (read_size (elements_of x)) 255 ≡ true) × (read_size (elements_of x) ≡ k)
    fits = got (leb (read_size (elements_of x)) 255) (read_size (elements_of x)) k (ap (λ (o : Option ℕ). ok_or o SizeOutOfRange) (sym d) ∙ sym w ∙ g)

    pub read_built : {l m : List ℕ} {p : Target} {i t : ℕ} → 27 ≤ length l → i ≡ or_zero x.pos_number → p ≡ place (elements_of x) i → length (typed q n 0xA2 k p) ≡ typed_length p
        → Puts l 0 (typed q n 0xA2 k p) t m → Builds (reading tag ρ q n l) l (Ok (x, t)) m
    unfolding on_address read_address read_message
    read_built {l} {m} {p} {i} {t} r o₁ o₂ e₀ v =
        let s : Target = place (elements_of x) (or_zero x.pos_number) in
        let u : typed_length s ≤ 27 = at_position_27 tag ρ x accepted_in in
        let o : p ≡ s = o₂ ∙ ap (place (elements_of x)) o₁ in
        let e₁ : length (typed q n 0xA2 k s) ≡ typed_length s = subst (λ (z : Target). length (typed q n 0xA2 k z) ≡ typed_length z) o e₀ in
        let v₁ : Puts l 0 (typed q n 0xA2 k s) t m = subst (λ (z : Target). Puts l 0 (typed q n 0xA2 k z) t m) o v in
        let y : Wrote l 0 (typed q n 0xA2 k s) t m = puts_wrote v₁ (omega arith) in
        rw (accepted_in, no_bit, fits.0, le-leb 27 (length l) r, fits.1) (record { answer = ap (λ (n : ℕ). Ok (x, n)) (y.end ∙ zero-add _); now = y.now })

  -- write
  module _ (v : WriteValue) (s : List ℕ) (q : Requestor) (n : ℕ) {u : Bool} (c' : u ≡ suits v x) (h' : not u ≡ false) {o : Option ℕ} (d : o ≡ data_size_of (length (supplied v s x))) {z : Result ℕ Refusal} (w : z ≡ ok_or o SizeOutOfRange) (k : ℕ) (g : z ≡ Ok k) where
    abbrev few : Bool
    few = leb 2 (length (supplied v s x)) && leb (length (supplied v s x)) 257

    fits_data : (few ≡ true) × (length (supplied v s x) - 2 ≡ k)
    fits_data = got few (length (supplied v s x) - 2) k (ap (λ (o : Option ℕ). ok_or o SizeOutOfRange) (sym d) ∙ sym w ∙ g)

    pub write_built : {l m j : List ℕ} {p : Target} {i r t : ℕ} → 284 ≤ length l → i ≡ last_address x → p ≡ place (elements_of x) i → length (typed q n 0xAB k p) ≡ typed_length p
        → Puts l 0 (typed q n 0xAB k p) r m → Puts m r (supplied v s x) t j → Builds (writing tag ρ v s q n l) l (Ok (x, t)) j
    unfolding on_address write_address write_data write_message
    write_built {l} {m} {j} {p} {i} {r} {t} y o₁ o₂ e₀ w₀ w' =
        let d : List ℕ = supplied v s x in
        let h₂ : length d ≤ 257 = leb-true (length d) 257 (both (leb 2 (length d)) (leb (length d) 257) fits_data.0).1 in
        let at : Target = place (elements_of x) (last_address x) in
        let o : p ≡ at = o₂ ∙ ap (place (elements_of x)) o₁ in
        let f₁ : typed_length at ≤ 27 = at_last_27 tag ρ x accepted_in in
        let f₂ : length (typed q n 0xAB k at) ≡ typed_length at = subst (λ (z : Target). length (typed q n 0xAB k z) ≡ typed_length z) o e₀ in
        let f₃ : length (typed q n 0xAB k at ++ d) ≡ length (typed q n 0xAB k at) + length d = length-append (typed q n 0xAB k at) d in
        let w₁ : Puts l 0 (typed q n 0xAB k at) r m = subst (λ (z : Target). Puts l 0 (typed q n 0xAB k z) r m) o w₀ in
        let w₂ : Wrote l 0 (typed q n 0xAB k at ++ d) t j = (then (lays w₁) (lays w')).room (omega arith) in
        rw (accepted_in, no_bit, ← c', not-false u h', fits_data.0, le-leb 284 (length l) y, fits_data.1) (record { answer = ap (λ (n : ℕ). Ok (x, n)) (w₂.end ∙ zero-add _); now = w₂.now })
