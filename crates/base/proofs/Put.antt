-- Laws of bytes laid over a memory.
use Prim.Native.Nat.{ℕ, ◌+◌, ◌≤◌, ◌<◌}
use mathlib.Core.Path.{◌≡◌, ap, ap₂, sym, ◌∙◌}
use mathlib.Core.List.{List, [], ◌∷◌, ◌++◌, append_assoc, append-nil}
use native.Mathlib.Nat.{add-zero, add_assoc, zero-add}
use native.Mathlib.Numerals.{add-one}
use native.Mathlib.Omega.{arith}
use borrow.Author.Tests.{le-leb, lt-leb}
use lib.ListN.{length, take, drop, set, length-append, length-drop, take-append-drop, drop_of_length-le}
use lib.Seq.{set_split, take_at, drop_at, drop-drop, length-take-le}
use Rattle.base.specs.Put.{put, Wrote, Laid, laid, put_of, Puts}

pub put_none : (l : List ℕ) (at : ℕ) → put l at [] ≡ l
unfolding put
put_none l at = rw (add-zero, take-append-drop)

pub put_one : (l : List ℕ) (at b : ℕ) → at < length l → set l at b ≡ put l at (b ∷ [])
unfolding put
put_one l at b h = set_split l at b h ∙ rw (add-one)

module _ (l : List ℕ) (at : ℕ) (bs : List ℕ) (h : at + length bs ≤ length l) where
  -- up to the end of what was laid, and behind it
  front : length (take at l ++ bs) ≡ at + length bs
  front = rw (length-append, length-take-le at l (omega arith))

  split : put l at bs ≡ (take at l ++ bs) ++ drop (at + length bs) l
  unfolding put
  split = sym (append_assoc (take at l) bs (drop (at + length bs) l))

  pub put_length : length (put l at bs) ≡ length l
  put_length =
      ap length split ∙ length-append (take at l ++ bs) (drop (at + length bs) l) ∙ rw (front, length-drop) (omega arith)

  pub put_front : take (at + length bs) (put l at bs) ≡ take at l ++ bs
  put_front = ap (take (at + length bs)) split ∙ take_at (take at l ++ bs) (drop (at + length bs) l) (at + length bs) front

  pub put_behind : drop (at + length bs) (put l at bs) ≡ drop (at + length bs) l
  put_behind = ap (drop (at + length bs)) split ∙ drop_at (take at l ++ bs) (drop (at + length bs) l) (at + length bs) front

  join : (cs x : List ℕ) → take (at + length bs) x ≡ take at l ++ bs → drop (at + length bs + length cs) x ≡ drop (at + length bs + length cs) l → put x (at + length bs) cs ≡ put l at (bs ++ cs)
  unfolding put
  join cs x a b = rw (a, b) (simp (append_assoc, length-append, add_assoc))

  pub put_more : (cs : List ℕ) → put (put l at bs) (at + length bs) cs ≡ put l at (bs ++ cs)
  put_more cs =
      join cs (put l at bs) put_front
      (sym (drop-drop (length cs) (at + length bs) (put l at bs)) ∙ ap (drop (length cs)) put_behind ∙ drop-drop (length cs) (at + length bs) l)

-- one byte stored, and the others behind it
pub put_cons : (l : List ℕ) (at b : ℕ) (bs : List ℕ) → at < length l → put (set l at b) (at + 1) bs ≡ put l at (b ∷ bs)
put_cons l at b bs h =
    ap (λ (x : List ℕ). put x (at + 1) bs) (put_one l at b h) ∙ put_more l at (b ∷ []) (omega arith) bs

-- one writing after the other
pub and_then : {l m k : List ℕ} {at r t : ℕ} {bs cs : List ℕ} → Wrote l at bs r m → Wrote m r cs t k → at + length bs ≤ length l → Wrote l at (bs ++ cs) t k
and_then {l} {m} {k} {at} {r} {t} {bs} {cs} a b h = record {
  end = b.end ∙ rw (a.end, length-append, add_assoc);
  now = b.now ∙ rw (a.now, a.end, put_more l at bs h);
}

-- a writing keeps the length
pub wrote_length : {l m : List ℕ} {at r : ℕ} {bs : List ℕ} → Wrote l at bs r m → at + length bs ≤ length l → length m ≡ length l
wrote_length {l} {m} {at} {r} {bs} w h = ap length w.now ∙ put_length l at bs h

-- where there was room for it, it was written; where there was none, all is as it was
module _ {l m : List ℕ} {at r : ℕ} {bs : List ℕ} (w : Puts l at bs r m) where
  pub puts_wrote : at + length bs ≤ length l → Wrote l at bs r m
  unfolding put_of
  puts_wrote h =
      let e : laid r m ≡ laid (at + length bs) (put l at bs) = w.is ∙ rw (le-leb (at + length bs) (length l) h) in
      record { end = ap (λ (x : Laid). x.end) e; now = ap (λ (x : Laid). x.memory) e }

  pub puts_kept : length l < at + length bs → (r ≡ at) × (m ≡ l)
  unfolding put_of
  puts_kept h =
      let e : laid r m ≡ laid at l = w.is ∙ rw (lt-leb (at + length bs) (length l) h) in
      (ap (λ (x : Laid). x.end) e, ap (λ (x : Laid). x.memory) e)

pub puts_length : {l m : List ℕ} {at r : ℕ} {bs : List ℕ} → Puts l at bs r m → at + length bs ≤ length l → length m ≡ length l
puts_length w h = wrote_length (puts_wrote w h) h

-- there was room, or there was none
module _ {l : List ℕ} {at : ℕ} (k : ℕ) {bs : List ℕ} (n : length bs ≡ k) where
  pub puts_room : {m : List ℕ} {r : ℕ} → at + k ≤ length l → Wrote l at bs r m → Puts l at bs r m
  unfolding put_of
  puts_room h w = record { is = ap₂ laid w.end w.now ∙ rw (le-leb (at + length bs) (length l) (omega arith)) }

  pub puts_full : length l < at + k → Puts l at bs at l
  unfolding put_of
  puts_full g = record { is = rw (lt-leb (at + length bs) (length l) (omega arith)) }

-- a loop that lays the bytes `whole` from `at` on, one a turn: what is left of the work, done on the memory as it is now, gives what the
-- whole work gives
module _ (l₀ l : List ℕ) (at i : ℕ) (whole : List ℕ) where
  pub lay_turn : (b : ℕ) (rest : List ℕ) {next : List ℕ} → at + i < length l → next ≡ b ∷ rest → put l (at + i) next ≡ put l₀ at whole → put (set l (at + i) b) (at + (i + 1)) rest ≡ put l₀ at whole
  lay_turn b rest {next} h g e =
      let n : at + (i + 1) ≡ at + i + 1 = omega arith in
      rw n (put_cons l (at + i) b rest h ∙ ap (put l (at + i)) (sym g) ∙ e)

  pub lay_done : {next : List ℕ} → i ≡ length whole → next ≡ [] → put l (at + i) next ≡ put l₀ at whole → Wrote l₀ at whole (at + i) l
  lay_done {next} n g e = record { end = ap (λ (k : ℕ). at + k) n; now = sym (put_none l (at + i)) ∙ ap (put l (at + i)) (sym g) ∙ e }

-- a whole memory laid over another, and a part over itself
pub put_whole : (l bs : List ℕ) → length bs ≡ length l → put l 0 bs ≡ bs
unfolding put
put_whole l bs e = let h : length l ≤ 0 + length bs = omega arith in rw (drop_of_length-le l h, append-nil)

pub put_same : (l : List ℕ) (at : ℕ) → at ≤ length l → put l at (drop at l) ≡ l
unfolding put
put_same l at h =
    let n : length l ≤ at + length (drop at l) = simp length-drop (omega arith) in
    rw (drop_of_length-le l n, append-nil, take-append-drop)

-- two writings, the second right behind the first
pub puts_both : {l m k : List ℕ} {r t : ℕ} {bs cs : List ℕ} (at : ℕ) → Puts l at bs r m → Puts m (at + length bs) cs t k → at + length (bs ++ cs) ≤ length l → k ≡ put l at (bs ++ cs)
puts_both {l} {m} {k} {r} {t} {bs} {cs} at a b h =
    let n : length (bs ++ cs) ≡ length bs + length cs = length-append bs cs in
    let w : Wrote l at bs r m = puts_wrote a (omega arith) in
    let e : length m ≡ length l = wrote_length w (omega arith) in
    let v : Wrote m (at + length bs) cs t k = puts_wrote b (omega arith) in
    v.now ∙ ap (λ (x : List ℕ). put x (at + length bs) cs) w.now ∙ put_more l at bs (omega arith) cs

-- what lies in front of a place, and from there on, where bytes were laid from the start
module _ (l bs : List ℕ) (n : ℕ) (e : length bs ≡ n) (h : n ≤ length l) where
  pub put_first : take n (put l 0 bs) ≡ bs
  unfolding put
  put_first = take_at bs (drop (0 + length bs) l) n e

  pub put_rest : drop n (put l 0 bs) ≡ drop n l
  unfolding put
  put_rest = drop_at bs (drop (0 + length bs) l) n e ∙ ap (λ (k : ℕ). drop k l) (zero-add (length bs) ∙ e)

-- ---- one part behind the other
-- where there is room, `bs` was laid over `l` from `at` on
pub record Lays (l : List ℕ) (at : ℕ) (bs : List ℕ) (r : ℕ) (l' : List ℕ) : Type 0 where
  pub room : at + length bs ≤ length l → Wrote l at bs r l'

pub lays : {l m : List ℕ} {at r : ℕ} {bs : List ℕ} → Puts l at bs r m → Lays l at bs r m
lays p = record { room = puts_wrote p }

-- one part behind the other
pub then : {l m k : List ℕ} {at r t : ℕ} {bs cs : List ℕ} → Lays l at bs r m → Lays m r cs t k → Lays l at (bs ++ cs) t k
then {l} {m} {k} {at} {r} {t} {bs} {cs} a b = record { room = laid }
  where
    laid : at + length (bs ++ cs) ≤ length l → Wrote l at (bs ++ cs) t k
    laid h =
        let n : length (bs ++ cs) ≡ length bs + length cs = length-append bs cs in
        let w : Wrote l at bs r m = a.room (omega arith) in
        let e : length m ≡ length l = wrote_length w (omega arith) in
        let i : r ≡ at + length bs = w.end in
        and_then w (b.room (omega arith)) (omega arith)
