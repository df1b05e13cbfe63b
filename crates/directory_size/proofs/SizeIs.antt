-- Laws of the directory's size.
use Prim.Native.Nat.{ℕ, ◌+◌, ◌<◌}
use mathlib.Core.Path.{◌≡◌, ap, sym}
use mathlib.Core.List.{List, ◌∷◌, ◌++◌}
use native.Mathlib.Omega.{arith}
use borrow.Author.Tests.{lt-ltb}
use lib.ListN.{length, length-drop}
use Rattle.reply_part.specs.Part.{of_raw, of_reply, data_of}
use Rattle.reply_part.proofs.Parts.{one_part}
use Rattle.std.specs.Prelude.{Err}
use Rattle.base.specs.declared.refusal.Refusal.TheVariants.{ShortReply}
use Rattle.directory_size.specs.Size.{size_in, size_of, reply_size}

no_word : (s : List ℕ) (const : ℕ) → length s < 2 → Err ShortReply ≡ size_in s const
unfolding size_in
no_word s const h = rw (lt-ltb (length s) 2 h)

-- ---- 25: a raw reply has fewer than 63 bytes, one that begins with an id fewer than 6 behind the id's count
pub short_raw : (raw : List ℕ) (const : ℕ) → length raw < 63 → size_of raw const ≡ Err ShortReply
short_raw raw const h = sym (no_word (data_of (of_raw raw)) const (simp length-drop (omega arith)))

pub short_reply : (n : ℕ) (s : List ℕ) (const : ℕ) → length (n ∷ s) < n + 6 → reply_size (n ∷ s) const ≡ Err ShortReply
short_reply n s const h = sym (no_word (data_of (of_reply (n ∷ s))) const (simp length-drop (omega arith)))

-- the two forms are one: an id of 7 bytes behind 50 bytes of anything
pub one_size : (h s : List ℕ) (const : ℕ) → length h ≡ 50 → reply_size (7 ∷ s) const ≡ size_of (h ++ (7 ∷ s)) const
one_size h s const e = ap (λ (part : List ℕ). size_in (data_of part) const) (sym (one_part h s e))
