-- What was read goes through the line machine byte by byte: behind each call of `feed`, the rest of it leaves the line that all of it leaves.
use Prim.Native.Nat.{ℕ, ◌-◌}
use mathlib.Core.Path.{◌≡◌, ap, sym, ◌∙◌}
use mathlib.Core.List.{List, [], ◌∷◌}
use native.Mathlib.Omega.{arith}
use lib.ListN.{length, take, drop, length-drop, take-append-drop}
use lib.Seq.{take_all}
use Rattle.tags_stream.specs.Pieces.{rest, held, kept_by, Feeds}
use Rattle.tags_stream.specs.declared.Line.{Line}
use Rattle.tags_stream.specs.declared.Fed.{Fed}
use Rattle.tags_stream.proofs.Cuts.{rest_append, rest_held}
use Rattle.tags_stream.proofs.Onward.{kept_keeping}

pub feed_keeps : {left out out' : List ℕ} {line : Line} {r : Fed} → Feeds line left out r out' → (l : List ℕ) → held (rest (kept_by line) left) ≡ held l
    → held (rest (kept_by r.line) (take (length left - r.taken) (drop r.taken left))) ≡ held l
feed_keeps {left} {line = line} {r} f l e =
    let a = take r.taken left in
    let b = drop r.taken left in
    let k : kept_by r.line ≡ held (rest (kept_by line) a) = ap kept_by f.keeps ∙ kept_keeping (rest (kept_by line) a) in
    ap (λ (x : List ℕ). held (rest (kept_by r.line) x)) (take_all (length left - r.taken) b (omega (arith, length-drop r.taken left)))
    ∙ ap (λ (x : List ℕ). held (rest x b)) k
    ∙ rest_held (rest (kept_by line) a) b
    ∙ ap held (sym (rest_append (kept_by line) a b) ∙ ap (rest (kept_by line)) (take-append-drop r.taken left))
    ∙ e

pub all_read : (left l k : List ℕ) → length left ≡ 0 → held (rest k left) ≡ held l → held k ≡ held l
unfolding rest
all_read [] l k h e = e
all_read (b ∷ s) l k h e = absurd (omega arith)
