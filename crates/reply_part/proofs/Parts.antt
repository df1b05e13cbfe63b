-- Laws of the part of a reply from its status on.
use Prim.Native.Nat.{ℕ, ◌+◌, ◌-◌, min}
use mathlib.Core.Path.{◌≡◌, ap, ◌∙◌}
use mathlib.Core.List.{List, ◌∷◌, ◌++◌}
use native.Mathlib.Omega.{arith}
use lib.ListN.{length, take, drop, length-drop}
use lib.Seq.{take_all, drop-append-add, drop-drop}
use Rattle.std.proofs.lemmas.List.{drop_min}
use Rattle.reply_part.specs.Part.{of_raw, of_reply, data_of}

-- a slice from the lesser of a place and the length on
pub from_is : (s : List ℕ) (at n : ℕ) → n ≡ min at (length s) → take (length s - n) (drop n s) ≡ drop at s
from_is s at n e = rw e (take_all (length s - min at (length s)) (drop (min at (length s)) s) (simp length-drop (omega arith)) ∙ drop_min at s)

-- ---- where the data begin
pub data_of_raw : (raw : List ℕ) → data_of (of_raw raw) ≡ drop 61 raw
data_of_raw raw = drop-drop 3 58 raw

pub data_of_reply : (n : ℕ) (s : List ℕ) → data_of (of_reply (n ∷ s)) ≡ drop (n + 4) (n ∷ s)
data_of_reply n s = let e : n + 1 + 3 ≡ n + 4 = omega arith in drop-drop 3 (n + 1) (n ∷ s) ∙ ap (λ (i : ℕ). drop i (n ∷ s)) e

-- the two forms are one: an id of 7 bytes behind 50 bytes of anything
pub one_part : (h s : List ℕ) → length h ≡ 50 → of_raw (h ++ (7 ∷ s)) ≡ of_reply (7 ∷ s)
one_part h s e = let f : 58 ≡ length h + 8 = omega arith in ap (λ (n : ℕ). drop n (h ++ (7 ∷ s))) f ∙ drop-append-add h (7 ∷ s) 8
