-- The datalog entry by entry.
use Rattle.std.specs.Prelude.{None, Some}
use Prim.Native.Nat.{ℕ, zero, suc, ◌+◌, ◌-◌, ◌≤◌, ◌<◌}
use mathlib.Core.Path.{◌≡◌, refl, sym, ap, ◌∙◌}
use mathlib.Core.Bool.{Bool, true, false, ◌&&◌, cond}
use mathlib.Core.List.{List}
use native.Mathlib.Omega.{arith}
use borrow.Author.Tests.{leb-true, leb-false, le-leb, lt-leb}
use lib.Dec.{leb}
use lib.ListN.{length, take, drop, length-take, length-drop, drop_of_length-le}
use lib.Seq.{drop-drop}
use Rattle.base.specs.Numbers.{number}
use Rattle.processor_spec.specs.Plain.{entry_room, entries, holds}
use Rattle.processor_spec.specs.State.{every, good_log}
use Rattle.processor_spec.proofs.Tests.{and_l, and_r}
use Rattle.processor_soundness.specs.Tests.{good_room}

-- so many entries are there, and none is too long
unfoldable pub well_kept : ℕ → List ℕ → Bool
well_kept k log = holds k log && every (λ (e : List ℕ). leb (length e) 255) (entries k log)

entries_length : (k : ℕ) (log : List ℕ) → length (entries k log) ≡ k
unfolding entries
entries_length zero log = refl
entries_length (suc k) log = ap suc (entries_length k (drop (entry_room log) log))

pub kept_good : (k : ℕ) (log : List ℕ) → k ≤ 64 → well_kept k log ≡ (holds k log && good_log (entries k log))
unfolding well_kept good_log
kept_good k log h = let n : length (entries k log) ≤ 64 = rw (entries_length k log) h in rw (le-leb (length (entries k log)) 64 n)

pub kept_many : (k : ℕ) (log : List ℕ) → 64 < k → false ≡ (holds k log && good_log (entries k log))
unfolding good_log
kept_many k log h =
    let n : 64 < length (entries k log) = rw (entries_length k log) h in
    rw (lt-leb (length (entries k log)) 64 n) (go (holds k log))
  where
    go : (b : Bool) → false ≡ (b && false)
    go true = refl
    go false = refl

-- an entry's length by its room
module _ (log : List ℕ) where
  entry_test : (leb 2 (length log) && leb (entry_room log) (length log)) ≡ true → leb (length (drop 2 (take (entry_room log) log))) 255 ≡ leb (entry_room log) 257
  entry_test t =
      let r : entry_room log ≤ length log = leb-true (entry_room log) (length log) (and_r (leb 2 (length log)) _ t) in
      let n : length (drop 2 (take (entry_room log) log)) ≡ entry_room log - 2 = simp (length-drop, length-take) (omega arith) in
      go (leb (entry_room log) 257) refl n
    where
      go : (b : Bool) → leb (entry_room log) 257 ≡ b → length (drop 2 (take (entry_room log) log)) ≡ entry_room log - 2 → leb (length (drop 2 (take (entry_room log) log))) 255 ≡ b
      go true t n = let l : entry_room log ≤ 257 = leb-true (entry_room log) 257 t in le-leb (length (drop 2 (take (entry_room log) log))) 255 (omega arith)
      go false t n = let l : 257 < entry_room log = leb-false (entry_room log) 257 t in lt-leb (length (drop 2 (take (entry_room log) log))) 255 (omega arith)

  -- the tests of one entry, and those of the entries behind it
  parted : (a c e h f : Bool) → (a ≡ true → e ≡ c) → ((a && h) && (e && f)) ≡ ((a && c) && (h && f))
  parted false c e h f g = refl
  parted true c e true f g = rw (g refl) (refl)
  parted true c e false f g = go c
    where
      go : (c : Bool) → false ≡ (c && false)
      go true = refl
      go false = refl

  kept_one : (k : ℕ) → well_kept (suc k) log ≡ ((leb 2 (length log) && leb (entry_room log) (length log) && leb (entry_room log) 257) && well_kept k (drop (entry_room log) log))
  unfolding well_kept holds entries every
  kept_one k = parted (leb 2 (length log) && leb (entry_room log) (length log)) (leb (entry_room log) 257) _ _ _ entry_test

  there : {r : ℕ} → Some r ≡ good_room log → ((leb 2 (length log) && leb (entry_room log) (length log) && leb (entry_room log) 257) ≡ true) × (r ≡ entry_room log)
  unfolding good_room
  there {r} e = go (leb 2 (length log) && leb (entry_room log) (length log) && leb (entry_room log) 257) e
    where
      go : (b : Bool) → Some r ≡ cond b (Some (entry_room log)) None → (b ≡ true) × (r ≡ entry_room log)
      go true e = (refl, cc)
      go false e = absurd (let z : ◌≡◌ {A = ℕ} 0 1 = cc in omega arith)

  none_there : None ≡ good_room log → (leb 2 (length log) && leb (entry_room log) (length log) && leb (entry_room log) 257) ≡ false
  unfolding good_room
  none_there e = go (leb 2 (length log) && leb (entry_room log) (length log) && leb (entry_room log) 257) e
    where
      go : (b : Bool) → None ≡ cond b (Some (entry_room log)) None → b ≡ false
      go true e = absurd (let z : ◌≡◌ {A = ℕ} 0 1 = cc in omega arith)
      go false e = refl

module _ (log : List ℕ) (at : ℕ) where
  -- an entry is there
  module _ {room : ℕ} (e : Some room ≡ good_room (drop at log)) where
    pub room_fits : at + room ≤ length log
    room_fits =
        let p : ((leb 2 (length (drop at log)) && leb (entry_room (drop at log)) (length (drop at log)) && leb (entry_room (drop at log)) 257) ≡ true) × (room ≡ entry_room (drop at log)) = there (drop at log) e in
        let l : entry_room (drop at log) ≤ length (drop at log) = leb-true (entry_room (drop at log)) (length (drop at log)) (and_r (leb 2 (length (drop at log))) _ (and_l _ _ p.0)) in
        let n : length (drop at log) ≡ length log - at = length-drop at log in
        let z : 0 < entry_room (drop at log) = unfold entry_room in omega arith in
        omega (arith, p.1, l, n)

    pub kept_next : (k : ℕ) → 0 < k → well_kept (k - 1) (drop (at + room) log) ≡ well_kept k (drop at log)
    kept_next k h =
        let p : ((leb 2 (length (drop at log)) && leb (entry_room (drop at log)) (length (drop at log)) && leb (entry_room (drop at log)) 257) ≡ true) × (room ≡ entry_room (drop at log)) = there (drop at log) e in
        let q : k ≡ suc (k - 1) = omega arith in
        let d : drop (at + room) log ≡ drop (entry_room (drop at log)) (drop at log) = sym (drop-drop room at log) ∙ ap (λ (n : ℕ). drop n (drop at log)) p.1 in
        ap (well_kept (k - 1)) d ∙ sym (ap (λ (n : ℕ). well_kept n (drop at log)) q ∙ kept_one (drop at log) (k - 1) ∙ rw p.0)

  pub kept_stop : (k : ℕ) → None ≡ good_room (drop at log) → 0 < k → well_kept k (drop at log) ≡ false
  kept_stop k e h =
      let q : k ≡ suc (k - 1) = omega arith in
      ap (λ (n : ℕ). well_kept n (drop at log)) q ∙ kept_one (drop at log) (k - 1) ∙ rw (none_there (drop at log) e)

pub kept_none : (log : List ℕ) → well_kept 0 log ≡ true
unfolding well_kept holds entries every
kept_none log = refl

-- ---- the room of one entry, by the tests that the code makes
module _ (log : List ℕ) (at : ℕ) where
  pub room_none : length log ≤ at → None ≡ good_room (drop at log)
  unfolding good_room
  room_none h = rw (drop_of_length-le log h)

  module _ (w room : ℕ) (ew : w ≡ number (take 2 (drop at log))) (er : room ≡ 2 + w) where
    room_is : room ≡ entry_room (drop at log)
    unfolding entry_room
    room_is = er ∙ ap (λ (n : ℕ). 2 + n) ew

    left_is : length log - at ≡ length (drop at log)
    left_is = sym (length-drop at log)

    pub room_cut : length log - at < room → None ≡ good_room (drop at log)
    unfolding good_room
    room_cut h =
        let l : length (drop at log) < entry_room (drop at log) = omega (arith, room_is, left_is) in
        rw (lt-leb (entry_room (drop at log)) (length (drop at log)) l) (go (leb 2 (length (drop at log))) (entry_room (drop at log)))
      where
        go : (a : Bool) (r : ℕ) → None ≡ cond (a && false && leb r 257) (Some r) None
        go true r = refl
        go false r = refl

    pub room_long : 257 < room → None ≡ good_room (drop at log)
    unfolding good_room
    room_long h =
        let l : 257 < entry_room (drop at log) = omega (arith, room_is) in
        rw (lt-leb (entry_room (drop at log)) 257 l) (go (leb 2 (length (drop at log)) && leb (entry_room (drop at log)) (length (drop at log))) (entry_room (drop at log)))
      where
        go : (a : Bool) (r : ℕ) → None ≡ cond (a && false) (Some r) None
        go true r = refl
        go false r = refl

    pub room_there : room ≤ length log - at → room ≤ 257 → Some room ≡ good_room (drop at log)
    unfolding good_room
    room_there h k =
        let a : 2 ≤ length (drop at log) = omega (arith, left_is) in
        let b : entry_room (drop at log) ≤ length (drop at log) = omega (arith, room_is, left_is) in
        let c : entry_room (drop at log) ≤ 257 = omega (arith, room_is) in
        rw (le-leb 2 (length (drop at log)) a, le-leb (entry_room (drop at log)) (length (drop at log)) b, le-leb (entry_room (drop at log)) 257 c, room_is)

-- ---- the loop over the entries that are left
module _ (log : List ℕ) (at left place k : ℕ) (inv : well_kept k (drop place log) ≡ well_kept left (drop at log)) where
  pub log_goes : {room : ℕ} (j : ℕ) → Some room ≡ good_room (drop place log) → k ≡ j + 1 → well_kept j (drop (place + room) log) ≡ well_kept left (drop at log)
  log_goes j e q =
      let p : j ≡ k - 1 = omega arith in
      rw p (kept_next log place e k (omega arith) ∙ inv)

  module _ (h : left ≤ 64) where
    pub log_stops : None ≡ good_room (drop place log) → 0 < k → false ≡ (holds left (drop at log) && good_log (entries left (drop at log)))
    log_stops e l = sym (kept_stop log place k e l) ∙ inv ∙ kept_good left (drop at log) h

    pub log_ends : k ≤ 0 → true ≡ (holds left (drop at log) && good_log (entries left (drop at log)))
    log_ends l =
        let z : k ≡ 0 = omega arith in
        sym (ap (λ (n : ℕ). well_kept n (drop place log)) z ∙ kept_none (drop place log)) ∙ inv ∙ kept_good left (drop at log) h
