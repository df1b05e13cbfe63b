-- The array that a call fills begins with processor_spec's directory.
use Prim.Native.Nat.{ℕ, ◌-◌, ◌≤◌}
use mathlib.Core.Path.{◌≡◌, refl, ap, ◌∙◌}
use mathlib.Core.List.{List}
use borrow.Author.Tests.{le-leb}
use lib.ListN.{length, take, replicate}
use lib.Seq.{take_all, take-append_seam}
use Rattle.element_text.specs.Text.{fitted}
use Rattle.directory_sys0.specs.Families.{sys0}
use Rattle.processor_spec.specs.Directory.{directory}
use Rattle.processor_spec.proofs.Directory.{directory_fits}
use Rattle.processor_spec.proofs.Tests.{and_both}
use Rattle.processor_query.specs.Query.{layout_of}
use Rattle.processor_refinement.proofs.Refines.{Fills}
use Rattle.processor_directory.specs.Listing.{directory_of}
use Rattle.processor_directory.proofs.DirectoryIs.{directory_is}

front : (n : ℕ) (bs : List ℕ) → length bs ≤ n → take (length bs) (fitted n 0 bs) ≡ bs
unfolding fitted
front n bs h = rw (take_all n bs h) (take-append_seam bs (replicate (n - length bs) 0))

pub directory_fills : Fills directory_of
directory_fills t n number text l g =
    ap (take (length (directory (take n t) (sys0 text)))) (directory_is t n number text (layout_of (sys0 text)) (and_both (le-leb n (length t) l) g) refl)
    ∙ front 2793 (directory (take n t) (sys0 text)) (directory_fits (take n t) text g)
