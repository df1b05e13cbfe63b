-- Laws of setting text.
use Prim.Native.Nat.{ℕ, ◌≤◌}
use mathlib.Core.Path.{◌≡◌, ap, sym}
use mathlib.Core.List.{List}
use native.Mathlib.Omega.{arith}
use borrow.Author.Tests.{le-leb}
use lib.ListN.{length}
use Rattle.base.specs.Outcome.{lays}
use Rattle.base.specs.Put.{Puts}
use Rattle.element_text.specs.Text.{ascii_text, string_text}
use Rattle.element_text.proofs.Text.{ascii_length, string_length}
use Rattle.std.specs.Prelude.{Ok}
use Rattle.element_spec.specs.Encode.{Stores, of_bytes, ascii_of, line_of}
use Rattle.element_spec.proofs.ElementStores.{a_store, all_there}

module _ {l m : List ℕ} {r : ℕ} where
  pub ascii_stored : (text bs : List ℕ) → 2 ≤ length l → bs ≡ ascii_text text → Puts l 0 bs r m → Stores (of_bytes 2 l (ascii_of text)) l (Ok tt) m
  ascii_stored text bs h e w = all_there 2 l _ h (a_store (ap (lays 0) (sym e)) w (omega (arith, ap length e, ascii_length text)))

  pub line_stored : (text bs : List ℕ) → 84 ≤ length l → length text ≤ 82 → bs ≡ string_text text → Puts l 0 bs r m → Stores (of_bytes 84 l (line_of text)) l (Ok tt) m
  line_stored text bs h g e w = all_there 84 l _ h (a_store (rw (le-leb (length text) 82 g) (ap (lays 0) (sym e))) w (omega (arith, ap length e, string_length text)))
