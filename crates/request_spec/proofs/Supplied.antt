-- Mask word and data.
use Prim.Native.Nat.{ℕ, ◌-◌, ◌≤◌, ◌<◌}
use mathlib.Core.Path.{◌≡◌, ap, sym, subst}
use mathlib.Core.Bool.{Bool, true, false, cond}
use Rattle.std.specs.Int.{w16, to_le_bytes}
use mathlib.Core.List.{List, [], ◌∷◌, ◌++◌}
use native.Mathlib.Omega.{arith}
use lib.ListN.{length, get_or, length-append}
use Rattle.base.specs.Masks.{bit_mask}
use Rattle.base.specs.Numbers.{low_first}
use Rattle.base.specs.Put.{Wrote, Puts}
use Rattle.base.proofs.Numbers.{low_length}
use Rattle.base.proofs.Parts.{two_of}
use Rattle.base.proofs.Put.{Lays, lays, then, puts_room, puts_full}
use Rattle.element_text.specs.Text.{ascii_text, string_text}
use Rattle.element_text.proofs.Text as swap-text
use Rattle.request_spec.specs.Request.{bit_data, text_data}

-- ---- lengths
pub bit_length : (n : ℕ) (b : Bool) → length (bit_data n b) ≡ 4
unfolding bit_data
bit_length n b = simp (length-append, low_length)

pub text_length : (ascii : Bool) (s : List ℕ) → length (text_data ascii s) ≡ cond ascii 4 86
unfolding text_data
text_length true s = simp (length-append, low_length, swap-text.ascii_length)
text_length false s = simp (length-append, low_length, swap-text.string_length)

-- ---- laid
module _ {l m d : List ℕ} {at r : ℕ} {b : Bool} {k mask : ℕ} (n : ℕ) (f : k ≡ n) (e : mask ≡ bit_mask k) (g : d ≡ to_le_bytes w16 mask) where
  pub bit_set : b ≡ true → Puts l at (get_or d 0 0 ∷ get_or d 1 0 ∷ get_or d 0 0 ∷ get_or d 1 0 ∷ []) r m → Puts l at (bit_data n b) r m
  unfolding bit_data low_first
  bit_set h w = rw (h, ← f, ← e) (rw g at w)

  pub bit_clear : b ≡ false → Puts l at (get_or d 0 0 ∷ get_or d 1 0 ∷ 0 ∷ 0 ∷ []) r m → Puts l at (bit_data n b) r m
  unfolding bit_data low_first
  bit_clear h w = rw (h, ← f, ← e) (rw g at w)

module _ {l m : List ℕ} {at r : ℕ} {b : Bool} (s : List ℕ) where
  pub ascii_laid : {d : List ℕ} → length d ≡ 2 → b ≡ true → d ≡ ascii_text s → Puts l at (0xFF ∷ 0xFF ∷ get_or d 0 0 ∷ get_or d 1 0 ∷ []) r m → Puts l at (text_data b s) r m
  unfolding text_data low_first
  ascii_laid {d} n h e w =
      let q : d ≡ get_or d 0 0 ∷ get_or d 1 0 ∷ [] = two_of d n in
      rw (h, ← e) (subst (λ (x : List ℕ). Puts l at (0xFF ∷ 0xFF ∷ x) r m) (sym q) w)

  pub text_string : b ≡ false → Puts l at (text_data false s) r m → Puts l at (text_data b s) r m
  text_string h w = rw h w

-- text of ST
string_is : (s d : List ℕ) → d ≡ string_text s → (0xFF ∷ 0xFF ∷ []) ++ d ≡ text_data false s
unfolding text_data low_first
string_is s d e = rw e

module _ {l : List ℕ} {at : ℕ} (s : List ℕ) where
  pub string_past : length l < at → Puts l at (text_data false s) at l
  string_past h = puts_full 86 (text_length false s) (omega arith)

  pub string_short : at ≤ length l → length l - at < 86 → Puts l at (text_data false s) at l
  string_short h g = puts_full 86 (text_length false s) (omega arith)

  pub string_laid : {m k d : List ℕ} {r t : ℕ} → at ≤ length l → 86 ≤ length l - at → d ≡ string_text s → Puts l at (0xFF ∷ 0xFF ∷ []) r m → Puts m r d t k → Puts l at (text_data false s) t k
  string_laid {m} {k} {d} {r} {t} h g e a c =
      let w : Lays l at ((0xFF ∷ 0xFF ∷ []) ++ d) t k = then (lays a) (lays c) in
      let q : (0xFF ∷ 0xFF ∷ []) ++ d ≡ text_data false s = string_is s d e in
      puts_room 86 (text_length false s) (omega arith) (subst (λ (x : List ℕ). Wrote l at x t k) q (w.room (rw (ap length q, text_length false s) (omega arith))))
