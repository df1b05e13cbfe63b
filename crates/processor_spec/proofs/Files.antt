-- A write inside one file leaves every other file's bytes, and a sound state; an entry that leaves the datalog leaves a sound state too.
use Rattle.std.specs.Prelude.{Option, None, Some}
use Prim.Native.Nat.{ℕ, suc, ◌+◌, ◌-◌, ◌≤◌}
use mathlib.Core.Path.{◌≡◌, refl, sym, ap, ◌∙◌}
use mathlib.Core.List.{List, [], ◌∷◌}
use mathlib.Core.Bool.{Bool, true, false, ◌&&◌, cond}
use mathlib.Core.Logic.{◌⊎◌, inl, inr}
use native.Mathlib.Omega.{arith}
use borrow.Author.Tests.{leb-true, le-leb}
use lib.Dec.{leb, eqb}
use lib.ListN.{length, take, drop, length-append, length-drop}
use lib.Seq.{length-take-le}
use Rattle.base.specs.Put.{put}
use Rattle.base.proofs.Numbers.{low_length}
use Rattle.base.proofs.Put.{put_length}
use Rattle.parser_spec.proofs.Held.{no_some}
use Rattle.processor_spec.specs.declared.FileRecord.{FileRecord}
use Rattle.processor_spec.specs.State.{State, every, end_to_end, total, good_table, good_text, good_log, sound}
use Rattle.processor_spec.specs.Files.{find, contents, bytes_of, offset, place_in, locate}
use Rattle.processor_spec.specs.Masked.{masked, masked_at}
use Rattle.processor_spec.specs.Step.{takes, lays, after}
use Rattle.processor_spec.proofs.Overlay.{part_of, apart_stays, inside_put}
use Rattle.processor_spec.proofs.FilesApart.{Lies, lies, Apart, apart}
use Rattle.processor_spec.proofs.Tests.{and_l, and_r, and_both}

-- so many bytes from a place on lie in the file with this number
pub record Inside (rs : List FileRecord) (n at size : ℕ) : Type 0 where
  pub file : FileRecord
  pub found : find n rs ≡ Some file
  pub from : file.start ≤ at
  pub upto : at + size ≤ file.start + file.length

-- what is located lies in its file
pub located : (rs : List FileRecord) (n code element sub size at : ℕ) → locate rs n code element sub size ≡ Some at → Inside rs n at size
unfolding locate
located rs n code element sub size at e = go (find n rs) refl e
  where
    go : (o : Option FileRecord) → find n rs ≡ o → place_in o code element sub size ≡ Some at → Inside rs n at size
    go None f e = no_some e
    go (Some r) f e = decide (eqb r.code code && leb (offset r element sub + size) r.length) refl e
      where
        decide : (b : Bool) → (eqb r.code code && leb (offset r element sub + size) r.length) ≡ b
            → cond b (Some (r.start + offset r element sub)) None ≡ Some at → Inside rs n at size
        decide false t e = no_some e
        decide true t e =
            let p : r.start + offset r element sub ≡ at = cc in
            let l : offset r element sub + size ≤ r.length = leb-true (offset r element sub + size) r.length (and_r (eqb r.code code) _ t) in
            record { file = r; found = f; from = omega arith; upto = omega arith }

-- the parts of `sound`
pub sound_table : (s : State) → sound s ≡ true → good_table s.records ≡ true
unfolding sound
sound_table s h = search (and_l, and_r)

pub sound_ends : (s : State) → sound s ≡ true → end_to_end 0 s.records ≡ true
unfolding good_table
sound_ends s h = let t : good_table s.records ≡ true = sound_table s h in search (and_l, and_r)

pub sound_fits : (s : State) → sound s ≡ true → total s.records ≤ length s.memory
unfolding sound
sound_fits s h = leb-true (total s.records) (length s.memory) (search (and_l, and_r))

module _ (s : State) (h : sound s ≡ true) (n : ℕ) where
  file_fits : (r : FileRecord) → find n s.records ≡ Some r → r.start + r.length ≤ length s.memory
  file_fits r f = let w : Lies 0 (0 + total s.records) r = lies 0 n s.records r (sound_ends s h) f in omega (arith, w.upto, sound_fits s h)

  pub inside_fits : {at size : ℕ} → Inside s.records n at size → at + size ≤ length s.memory
  inside_fits i = omega (arith, i.upto, file_fits i.file i.found)

  -- a read inside a file is a read of the file's bytes
  pub read_inside : {at size : ℕ} (i : Inside s.records n at size) → take size (drop at s.memory) ≡ take size (drop (at - i.file.start) (contents s n))
  unfolding contents
  read_inside {at} {size} i =
      let r : FileRecord = i.file in
      let e : r.start + (at - r.start) ≡ at = omega (arith, i.from) in
      let g : at - r.start + size ≤ r.length = omega (arith, i.from, i.upto) in
      rw i.found (ap (λ (k : ℕ). take size (drop k s.memory)) (sym e) ∙ part_of s.memory r.start r.length (at - r.start) size g)

  -- bytes laid inside a file ..
  module _ (at : ℕ) (bs : List ℕ) (i : Inside s.records n at (length bs)) where
    pub write_length : length (put s.memory at bs) ≡ length s.memory
    write_length = put_length s.memory at bs (inside_fits i)

    -- .. are laid over the file's bytes
    pub write_same : contents (after s (lays at bs)) n ≡ put (contents s n) (at - i.file.start) bs
    unfolding contents after
    write_same =
        let r : FileRecord = i.file in
        let e : r.start + (at - r.start) ≡ at = omega (arith, i.from) in
        let g : at - r.start + length bs ≤ r.length = omega (arith, i.from, i.upto) in
        rw i.found
        (ap (λ (k : ℕ). take r.length (drop r.start (put s.memory k bs))) (sym e) ∙ inside_put s.memory r.start r.length (at - r.start) bs g (file_fits r i.found))

    -- .. and every other file keeps its bytes
    pub write_other : (k : ℕ) → (n ≡ k → ⊥) → contents (after s (lays at bs)) k ≡ contents s k
    unfolding contents after
    write_other k ne = go (find k s.records) refl
      where
        go : (o : Option FileRecord) → find k s.records ≡ o → bytes_of (put s.memory at bs) o ≡ bytes_of s.memory o
        go None f = refl
        go (Some q) f = apart_stays s.memory at bs (inside_fits i) q.start q.length (sides (apart 0 n k s.records i.file q (sound_ends s h) i.found f ne))
          where
            sides : Apart i.file q → (q.start + q.length ≤ at) ⊎ (at + length bs ≤ q.start)
            sides (inl l) = inr (omega (arith, i.upto))
            sides (inr l) = inl (omega (arith, i.from))

    pub write_sound : sound (after s (lays at bs)) ≡ true
    unfolding after sound
    write_sound = rw write_length h

-- a state without the oldest entry of its datalog
shorter_log : (d : List (List ℕ)) → good_log d ≡ true → good_log (drop 1 d) ≡ true
unfolding good_log every
shorter_log [] g = g
shorter_log (e ∷ es) g =
    let n : suc (length es) ≤ 64 = leb-true (suc (length es)) 64 (search and_l) in
    and_both (le-leb (length es) 64 (omega arith)) (search (and_l, and_r))

pub pop_sound : (s : State) → sound s ≡ true → sound (after s takes) ≡ true
unfolding sound after
pop_sound s h =
    let g : good_log s.datalog ≡ true = search (and_l, and_r) in
    let front : (good_table s.records && leb (total s.records) (length s.memory) && good_text s.type_text) ≡ true = search and_l in
    and_both front (shorter_log s.datalog g)

-- a masked write keeps the length of what it is written over
pub masked_length : (mask : ℕ) (os vs : List ℕ) → length (masked mask os vs) ≡ length os
unfolding masked
masked_length mask [] vs = refl
masked_length mask (o ∷ os) [] = refl
masked_length mask (o ∷ []) (v ∷ vs) = refl
masked_length mask (o ∷ o' ∷ os) (v ∷ []) = refl
masked_length mask (o ∷ o' ∷ os) (v ∷ v' ∷ vs) = simp (length-append, low_length, masked_length mask os vs) (omega arith)

pub written_length : (m : List ℕ) (at mask : ℕ) (vs : List ℕ) → at + length vs ≤ length m → length (masked_at m at mask vs) ≡ length vs
unfolding masked_at
written_length m at mask vs h = masked_length mask (take (length vs) (drop at m)) vs ∙ length-take-le (length vs) (drop at m) (simp length-drop (omega arith))
