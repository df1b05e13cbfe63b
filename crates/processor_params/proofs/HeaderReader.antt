-- The readers, return by return; and that what is taken part by part is the header.
use Rattle.std.specs.Prelude.{Option, None, Some}
use Prim.Native.Nat.{ℕ, suc, ◌+◌, ◌-◌, ◌≤◌, ◌<◌}
use mathlib.Core.Path.{◌≡◌, refl, sym, ap, ◌∙◌}
use mathlib.Core.Bool.{Bool, true, false}
use mathlib.Core.List.{List, [], ◌∷◌}
use native.Mathlib.Numerals.{add-one}
use native.Mathlib.Omega.{arith}
use borrow.Author.Tests.{leb-true, leb-false}
use lib.Dec.{leb}
use lib.ListN.{length, get_or, take, drop}
use lib.Seq.{drop-cons}
use Rattle.base.specs.Numbers.{number}
use Rattle.parser_spec.specs.Parts.{then}
use Rattle.parser_spec.proofs.Held.{no_some}
use Rattle.processor_spec.specs.Params.{number_of, address, header}
use Rattle.processor_spec.proofs.Reader.{byte_there, byte_none, address_none, address_there, address_long, address_cut}
use Rattle.processor_params.specs.declared.Params.{Params}
use Rattle.processor_params.specs.Take.{byte_at, address_at, took, taken}
use Rattle.processor_params.specs.Header.{header_of}
use Rattle.processor_params.specs.declared.Header.{Header}
use Rattle.processor_params.proofs.ParamsLeave.{number_leaves, address_leaves}
use Rattle.processor_params.proofs.Taking.{place_is, Found, none_taken, some_taken}

-- ---- `byte_at`
module _ (s : List ℕ) (at : ℕ) where
  pub no_byte : length s ≤ at → None ≡ byte_at s at
  unfolding byte_at
  no_byte h = rw (byte_none s at h)

  pub one_byte : at < length s → Some (get_or s at 0, at + 1) ≡ byte_at s at
  unfolding byte_at
  one_byte h = rw (byte_there s at h, place_is s (at + 1) (omega arith))

-- the byte that stands at a place
pub record Here (s : List ℕ) (at b n : ℕ) : Type 0 where
  pub inside : at < length s
  pub value : b ≡ get_or s at 0
  pub next : n ≡ at + 1

module _ (s : List ℕ) (at : ℕ) where
  pub byte_here : {b n : ℕ} → Some (b, n) ≡ byte_at s at → Here s at b n
  byte_here {b} {n} e = go (leb (length s) at) refl
    where
      go : (t : Bool) → leb (length s) at ≡ t → Here s at b n
      go true t = no_some (no_byte s at (leb-true (length s) at t) ∙ sym e)
      go false t =
          let h : at < length s = leb-false (length s) at t in
          let q : ◌≡◌ {A = Option (ℕ × ℕ)} (Some (b, n)) (Some (get_or s at 0, at + 1)) = e ∙ sym (one_byte s at h) in
          let z : ◌≡◌ {A = ℕ × ℕ} (b, n) (get_or s at 0, at + 1) = cc in
          record { inside = h; value = ap (λ (x : ℕ × ℕ). x.0) z; next = ap (λ (x : ℕ × ℕ). x.1) z }

  byte_missing : None ≡ byte_at s at → length s ≤ at
  byte_missing e = go (leb (length s) at) refl
    where
      go : (t : Bool) → leb (length s) at ≡ t → length s ≤ at
      go true t = leb-true (length s) at t
      go false t = no_some (e ∙ sym (one_byte s at (leb-false (length s) at t)))

-- ---- `address_at`
module _ (s : List ℕ) (at : ℕ) (o : Option (ℕ × ℕ)) (e : o ≡ byte_at s at) where
  pub no_address_lem : (g : Option (ℕ × ℕ)) → o ≡ None → g ≡ None → g ≡ address_at s at
  unfolding address_at
  no_address_lem g m f = rw (address_none s at (byte_missing s at (sym m ∙ e))) f

  module _ (b n : ℕ) (m : o ≡ Some (b, n)) where
    here : Here s at b n
    here = byte_here s at (sym m ∙ e)

    pub next_within : n ≤ length s
    next_within = omega (arith, here.inside, here.next)

    pub short_address : (w : ℕ) → (b ≡ 255 → ⊥) → w ≡ b → Some (w, n) ≡ address_at s at
    unfolding address_at
    short_address w ne is =
        rw (address_there s at here.inside (λ f. ne (here.value ∙ f)), place_is s (at + 1) (omega (arith, here.inside)), is, here.value, here.next)

    pub cut_address : b ≡ 255 → length s - n < 2 → None ≡ address_at s at
    unfolding address_at
    cut_address f l = rw (address_cut s at here.inside (sym here.value ∙ f) (omega (arith, here.next, here.inside)))

    pub long_address : (w : ℕ) → b ≡ 255 → 2 ≤ length s - n → w ≡ number (take 2 (drop n s)) → Some (w, n + 2) ≡ address_at s at
    unfolding address_at
    long_address w f l is =
        let h : at + 1 + 2 ≤ length s = omega (arith, here.next, here.inside) in
        let t : take 2 (drop (at + 1) s) ≡ get_or s (at + 1) 0 ∷ get_or s (at + 1 + 1) 0 ∷ [] = two_bytes (at + 1) h in
        let p : at + 1 + 1 ≡ at + 2 = omega arith in
        let q : at + 1 + 2 ≡ at + 3 = omega arith in
        rw (address_long s at (omega arith) (sym here.value ∙ f), place_is s (at + 3) (omega arith), is, here.next, t, p, q)
      where
        two_bytes : (k : ℕ) → k + 2 ≤ length s → take 2 (drop k s) ≡ get_or s k 0 ∷ get_or s (k + 1) 0 ∷ []
        two_bytes k h =
            let a : k < length s = omega arith in
            let b : suc k < length s = omega arith in
            rw (add-one, drop-cons s k 0 a, drop-cons s (suc k) 0 b)

-- ---- `read_header`
module _ (s : List ℕ) (p₁ : Params) (r₁ : Option ℕ) (e₁ : took r₁ p₁ ≡ taken 0 (byte_at s 0)) where
  pub no_size : (g : Option Header) → r₁ ≡ None → g ≡ None → g ≡ header_of s
  unfolding header_of header then byte_at
  no_size g m f = rw (none_taken s 0 p₁ r₁ (number_of 1 s) e₁ m) f

  module _ (size : ℕ) (m₁ : r₁ ≡ Some size) (p₂ : Params) (r₂ : Option ℕ) (e₂ : took r₂ p₂ ≡ taken p₁.pos (address_at s p₁.pos)) where
    first : Found s (number_of 1 s) size p₁.pos
    unfolding byte_at
    first = some_taken s {at = 0} (omega arith) (number_leaves 1 s) e₁ m₁

    pub no_file : (g : Option Header) → r₂ ≡ None → g ≡ None → g ≡ header_of s
    unfolding header_of header then address_at
    no_file g m f = rw (first.is, none_taken s p₁.pos p₂ r₂ (address (drop p₁.pos s)) e₂ m) f

    module _ (file : ℕ) (m₂ : r₂ ≡ Some file) (p₃ : Params) (r₃ : Option ℕ) (e₃ : took r₃ p₃ ≡ taken p₂.pos (byte_at s p₂.pos)) where
      second : Found s (address (drop p₁.pos s)) file p₂.pos
      unfolding address_at
      second = some_taken s first.within (address_leaves (drop p₁.pos s)) e₂ m₂

      pub no_code : (g : Option Header) → r₃ ≡ None → g ≡ None → g ≡ header_of s
      unfolding header_of header then byte_at
      no_code g m f = rw (first.is, second.is, none_taken s p₂.pos p₃ r₃ (number_of 1 (drop p₂.pos s)) e₃ m) f

      module _ (code : ℕ) (m₃ : r₃ ≡ Some code) (p₄ : Params) (r₄ : Option ℕ) (e₄ : took r₄ p₄ ≡ taken p₃.pos (address_at s p₃.pos)) where
        third : Found s (number_of 1 (drop p₂.pos s)) code p₃.pos
        unfolding byte_at
        third = some_taken s second.within (number_leaves 1 (drop p₂.pos s)) e₃ m₃

        pub no_element : (g : Option Header) → r₄ ≡ None → g ≡ None → g ≡ header_of s
        unfolding header_of header then address_at
        no_element g m f = rw (first.is, second.is, third.is, none_taken s p₃.pos p₄ r₄ (address (drop p₃.pos s)) e₄ m) f

        pub all_there : (element : ℕ) → r₄ ≡ Some element
            → ◌≡◌ {A = Option Header} (Some (record { size = size; file = file; code = code; element = element; next = p₄.pos })) (header_of s)
        unfolding header_of header then address_at
        all_there element m =
            let fourth : Found s (address (drop p₃.pos s)) element p₄.pos = some_taken s third.within (address_leaves (drop p₃.pos s)) e₄ m in
            rw (first.is, second.is, third.is, fourth.is, place_is s p₄.pos fourth.within)
