-- A request is refused, or laid at the start of the lent memory.
use Rattle.std.specs.Prelude.{Ok, Err}
use Prim.Native.Nat.{ℕ, ◌≤◌, ◌<◌}
use mathlib.Core.Path.{◌≡◌, refl, ap, ◌∙◌}
use mathlib.Core.List.{List, ◌++◌}
use native.Mathlib.Nat.{zero-add}
use native.Mathlib.Omega.{arith}
use borrow.Author.Tests.{le-leb, lt-leb}
use lib.ListN.{length, length-append}
use Rattle.base.specs.Put.{Wrote, Puts}
use Rattle.base.specs.declared.refusal.Refusal.TheVariants.{ShortOutput, OffsetOutOfRange}
use Rattle.base.proofs.Put.{lays as where-room, then}
use Rattle.request_frame.specs.RequestFrame.{command_head, address_field, two_addresses}
use Rattle.request_frame.specs.declared.Target.{Target}
use Rattle.request_frame.specs.declared.Requestor.{Requestor}
use Rattle.request_frame.proofs.Laid.{command_length, two_length, field_most}
use Rattle.request_untagged.specs.Requests.{Builds, sent, directory_read}

pub none : (bs : List ℕ) {l : List ℕ} → length l < 27 → Builds (sent bs l) l (Err ShortOutput) l
unfolding sent
none bs h = rw (lt-leb _ _ h) (record { answer = refl; now = refl })

module _ {l m k : List ℕ} {r t : ℕ} where
  all : {bs cs : List ℕ} → length (bs ++ cs) ≤ 27 → 27 ≤ length l → Puts l 0 bs r m → Puts m r cs t k → Builds (sent (bs ++ cs) l) l (Ok t) k
  unfolding sent
  all {bs} {cs} n h a b =
      let w : Wrote l 0 (bs ++ cs) t k = (then (where-room a) (where-room b)).room (omega arith) in
      rw (le-leb _ _ h) (record { answer = ap Ok (w.end ∙ zero-add _); now = w.now })

  module _ (q : Requestor) (n : ℕ) (v : length q.vid ≡ 2) (w : length q.vsn ≡ 4) where
    pub behind : (cmd : ℕ) {cs : List ℕ} → length cs ≤ 10 → 27 ≤ length l → Puts l 0 (command_head q cmd n) r m → Puts m r cs t k
        → Builds (sent (command_head q cmd n ++ cs) l) l (Ok t) k
    behind cmd {cs} s h a b = all (simp (length-append, command_length q cmd n v w) (omega arith)) h a b

    pub read_sent : (type element offset size : ℕ) → (offset < 65536) × (element ≡ offset) → 27 ≤ length l → Puts l 0 (command_head q 0x0F n) r m
        → Puts m r (two_addresses 0xA1 size (record { file = 0; code = type; element = element; sub = 0 })) t k → Builds (directory_read type offset size q n l) l (Ok t) k
    unfolding directory_read
    read_sent type element offset size o h a b =
        let p : Target = record { file = 0; code = type; element = element; sub = 0 } in
        let i : length (address_field element) ≤ 3 = field_most element in
        let j : length (address_field 0) ≤ 3 = field_most 0 in
        let f : offset ≤ 65535 = omega arith in
        rw (le-leb _ _ f, ← (o.1)) (behind 0x0F (rw (two_length 0xA1 size p) (omega arith)) h a b)

module _ {l : List ℕ} (type offset size : ℕ) (q : Requestor) (n : ℕ) where
  pub read_none : offset < 65536 → length l < 27 → Builds (directory_read type offset size q n l) l (Err ShortOutput) l
  unfolding directory_read
  read_none o h = let f : offset ≤ 65535 = omega arith in rw (le-leb _ _ f) (none _ h)

  pub far : (offset < 65536 → ⊥) → Builds (directory_read type offset size q n l) l (Err OffsetOutOfRange) l
  unfolding directory_read
  far o = let f : 65535 < offset = omega arith in rw (lt-leb _ _ f) (record { answer = refl; now = refl })
