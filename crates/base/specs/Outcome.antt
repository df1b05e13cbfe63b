-- What a call does with lent memory: "A numbered refusal returns only that number and changes no lent memory. A success writes its stated
-- bytes and nothing behind them."
use Rattle.std.specs.Prelude.{ℕ, List}
use Rattle.base.specs.declared.refusal.Refusal.{Refusal}
use Rattle.base.specs.Put.{put}

-- a refusal, or bytes laid from a place on
pub data Outcome : Type 0 where
  refused : Refusal → Outcome
  lays : ℕ → List ℕ → Outcome

-- the memory that it leaves
abbrev pub left : Outcome → List ℕ → List ℕ
left (refused e) l = l
left (lays at bs) l = put l at bs
