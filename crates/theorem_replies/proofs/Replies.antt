-- A client reads of the processor's reply what the processor put there, whatever the length of the requester's id.
use Rattle.std.specs.Prelude.{Some}
use Prim.Native.Nat.{ℕ, zero, suc, ◌+◌, ◌≤◌, ◌<◌}
use mathlib.Core.Path.{◌≡◌, sym, ap, ◌∙◌}
use mathlib.Core.Bool.{true, ◌&&◌}
use mathlib.Core.List.{List, [], ◌∷◌, ◌++◌}
use native.Mathlib.Omega.{arith}
use borrow.Author.Tests.{leb-true, ltb-true}
use lib.Dec.{leb, ltb}
use lib.ListN.{length, get_or, take, drop}
use lib.Seq.{length-take-le, drop-append-add}
use Rattle.processor_spec.specs.Frame.{well_formed, requester, body, framed}
use Rattle.processor_spec.proofs.Tests.{and_l, and_r}
use Rattle.reply_part.specs.Part.{of_reply, data_of}
use Rattle.reply.specs.Status.{first, said, status_in, reply_status, reply_datalog}

-- an id of n bytes whose first one says so, and CMD behind it
behind_id : (n : ℕ) (s : List ℕ) (b : ℕ) (rest : List ℕ) → 0 < n → n ≤ length (n ∷ s) → of_reply (take n (n ∷ s) ++ (b ∷ rest)) ≡ rest
behind_id zero s b rest z h = absurd (omega arith)
behind_id (suc m) s b rest z h =
    let e : suc m + 1 ≡ length (take (suc m) (suc m ∷ s)) + 1 = ap (λ (k : ℕ). k + 1) (sym (length-take-le (suc m) (suc m ∷ s) h)) in
    ap (λ (k : ℕ). drop k (take (suc m) (suc m ∷ s) ++ (b ∷ rest))) e ∙ drop-append-add (take (suc m) (suc m ∷ s)) (b ∷ rest) 1

module _ (c : List ℕ) (status : ℕ) (bs : List ℕ) (w : well_formed c ≡ true) where
  abbrev behind : List ℕ
  behind = status ∷ get_or (body c) 2 0 ∷ get_or (body c) 3 0 ∷ bs

  asked : (0 < get_or c 0 0) × (get_or c 0 0 + 4 ≤ length c)
  unfolding well_formed
  asked =
      let t : (ltb 0 (length c) && ltb 0 (get_or c 0 0)) ≡ true = and_l (ltb 0 (length c) && ltb 0 (get_or c 0 0)) (leb (get_or c 0 0 + 4) (length c)) w in
      (ltb-true 0 (get_or c 0 0) (and_r (ltb 0 (length c)) (ltb 0 (get_or c 0 0)) t), leb-true (get_or c 0 0 + 4) (length c) (and_r (ltb 0 (length c) && ltb 0 (get_or c 0 0)) (leb (get_or c 0 0 + 4) (length c)) w))

  part_of : (s : List ℕ) (b : ℕ) (rest : List ℕ) → 0 < get_or s 0 0 → get_or s 0 0 + 4 ≤ length s → of_reply (take (get_or s 0 0) s ++ (b ∷ rest)) ≡ rest
  part_of [] b rest z h = absurd (omega arith)
  part_of (n ∷ s) b rest z h = behind_id n s b rest z (omega arith)

  pub reply_part_lem : of_reply (framed c status bs) ≡ behind
  unfolding framed requester
  reply_part_lem = part_of c _ behind asked.0 asked.1

  -- the status in words is that of the status and of the byte behind the sequence number; the data are the datalog entry
  pub reply_says : reply_status (framed c status bs) ≡ said (Some status) (first bs)
  unfolding status_in
  reply_says = ap status_in reply_part_lem

  pub reply_carries : reply_datalog (framed c status bs) ≡ bs
  reply_carries = ap data_of reply_part_lem
