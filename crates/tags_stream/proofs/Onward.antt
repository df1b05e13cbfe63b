-- Laws of the line machine: a byte, a piece, the end of the input.
use Prim.Native.Nat.{ℕ, ◌+◌, ◌*◌, ◌/◌, ◌≤◌, ◌<◌, min}
use mathlib.Core.Path.{◌≡◌, refl, ap, ap₂, sym, subst, ◌∙◌}
use mathlib.Core.List.{List, [], ◌∷◌, ◌++◌}
use mathlib.Core.Bool.{Bool, true, false, cond}
use lib.Dec.{leb}
use native.Mathlib.Numerals.{add-one}
use native.Mathlib.Nat.{zero-add, add-zero}
use native.Mathlib.Omega.{arith}
use lib.ListN.{length, take, drop, get_or, set, replicate, length-take, length-set, drop_of_length-le}
use lib.Seq.{take-suc-set, length-take-le, take_all}
use borrow.Author.Tests.{eq-eqb, ne_eqb, leb-true, leb-false, le-leb, lt-leb}
use Rattle.base.specs.Put.{put, Wrote, Laid, laid, Puts}
use Rattle.base.proofs.Parts.{drop_next}
use Rattle.base.proofs.Put.{and_then, put_none, put_first, puts_wrote}
use Rattle.tags_line.specs.Lines.{asked, answer, answers}
use Rattle.tags_stream.specs.Pieces.{ended, rest, last, held, keeping, kept_by, Feeds, finish_of, Finishes}
use Rattle.tags_line.specs.Answered.{Answered}
use Rattle.tags_stream.specs.FeedSteps.{Onward, Stepped, Ran}
use Rattle.tags_stream.specs.declared.Line.{Line}
use Rattle.tags_stream.proofs.Long.{long_same, held_held}

-- ---- a part from the start, as it is lent
pub counts : (n : ℕ) (l : List ℕ) → n ≤ length l → n ≡ length (take n l)
counts n l h = sym (length-take-le n l h)

pub full_counts : (n : ℕ) (l : List ℕ) → length l ≡ 256 → n ≤ 256 → n ≡ length (take n l)
full_counts n l e h = counts n l (omega arith)

-- ---- what is left of the work
pub onward_start : (l s out : List ℕ) (u : ℕ) → Onward l s out u l s out u
onward_start l s out u = record { prints = λ r m w. w; keeps = refl }

onward_then : {l s out l' s' out' l'' s'' out'' : List ℕ} {u u' u'' : ℕ} → Onward l s out u l' s' out' u' → Onward l' s' out' u' l'' s'' out'' u'' → Onward l s out u l'' s'' out'' u''
onward_then a b = record { prints = λ r m w. a.prints r m (b.prints r m w); keeps = b.keeps ∙ a.keeps }

-- the output is not touched
module _ (l s l' s' out : List ℕ) (u : ℕ) where
  onward_same : answers (ended l' s') ≡ answers (ended l s) → held (rest l' s') ≡ held (rest l s) → Onward l s out u l' s' out u
  onward_same e f = record { prints = λ r m w. subst (λ (x : List ℕ). Wrote out u x r m) e w; keeps = f }

-- ---- a byte
module _ (l s : List ℕ) (b : ℕ) where
  module _ (h : b ≡ 10) where
    ended_line : ended l (b ∷ s) ≡ l ∷ ended [] s
    unfolding ended
    ended_line = rw (eq-eqb b 10 h)

    rest_line : rest l (b ∷ s) ≡ rest [] s
    unfolding rest
    rest_line = rw (eq-eqb b 10 h)

    answers_line : answers (ended l (b ∷ s)) ≡ answer (asked l) ++ answers (ended [] s)
    unfolding answers
    answers_line = ap answers ended_line

  module _ (h : b ≡ 10 → ⊥) where
    ended_byte : ended l (b ∷ s) ≡ ended (l ++ (b ∷ [])) s
    unfolding ended
    ended_byte = rw (ne_eqb b 10 h)

    rest_byte : rest l (b ∷ s) ≡ rest (l ++ (b ∷ [])) s
    unfolding rest
    rest_byte = rw (ne_eqb b 10 h)

module _ (b : ℕ) (line : Line) (out : List ℕ) (u : ℕ) (room : u + 64 ≤ length out) where
  abbrev bytes : List ℕ
  bytes = line.bytes

  abbrev n : ℕ
  n = line.kept

  pub step_line : {out' : List ℕ} {next : ℕ} → b ≡ 10 → Answered (take n bytes) out u next out' → Stepped b line out u next (record { bytes = bytes; kept = 0 }) out'
  step_line {out'} {next} h a =
      let k : u + length (answer (asked (take n bytes))) ≤ length out = omega (arith, a.most) in
      let w : Wrote out u (answer (asked (take n bytes))) next out' = puts_wrote a.puts k in
      record {
        long = refl;
        holds = omega arith;
        most = omega (arith, w.end, a.most);
        same = λ s. record {
          prints = λ r m v. subst (λ (x : List ℕ). Wrote out u x r m) (sym (answers_line (take n bytes) s b h)) (and_then w v k);
          keeps = ap held (sym (rest_line (take n bytes) s b h));
        };
      }

  pub step_byte : (b ≡ 10 → ⊥) → length bytes ≡ 256 → n < 256 → Stepped b line out u u (record { bytes = set bytes n b; kept = n + 1 }) out
  step_byte h len k =
      let e : take (n + 1) (set bytes n b) ≡ take n bytes ++ (b ∷ []) = rw add-one (take-suc-set bytes n b (omega arith)) in
      record {
        long = length-set bytes n b;
        holds = omega arith;
        most = omega arith;
        same = λ s. onward_same (take n bytes) (b ∷ s) (take (n + 1) (set bytes n b)) s out u
            (ap (λ (x : List ℕ). answers (ended x s)) e ∙ ap answers (sym (ended_byte (take n bytes) s b h)))
            (ap (λ (x : List ℕ). held (rest x s)) e ∙ ap held (sym (rest_byte (take n bytes) s b h)));
      }

  pub step_full : (b ≡ 10 → ⊥) → length bytes ≡ 256 → n ≤ 256 → 256 ≤ n → Stepped b line out u u line out
  step_full h len f g =
      let e : length (take n bytes) ≡ n = length-take-le n bytes (omega arith) in
      let k : 255 < length (take n bytes) = omega arith in
      record {
        long = refl;
        holds = f;
        most = omega arith;
        same = λ s. (let x = long_same (take n bytes) k (b ∷ []) s in
            onward_same (take n bytes) (b ∷ s) (take n bytes) s out u
            (sym (ap answers (ended_byte (take n bytes) s b h) ∙ x.0))
            (sym (ap held (rest_byte (take n bytes) s b h) ∙ x.1)));
      }

-- ---- a piece
module _ (piece out₀ out : List ℕ) (line₀ line : Line) (i u : ℕ) where
  pub run_turn : {out' : List ℕ} {line' : Line} {r : ℕ} → i < length piece
      → Onward (kept_by line₀) piece out₀ 0 (kept_by line) (drop i piece) out u
      → Stepped (get_or piece i 0) line out u r line' out'
      → Onward (kept_by line₀) piece out₀ 0 (kept_by line') (drop (i + 1) piece) out' r
  run_turn {out'} {line'} {r} h a t =
      onward_then
      (subst (λ (x : List ℕ). Onward (kept_by line₀) piece out₀ 0 (kept_by line) x out u) (drop_next piece i h) a)
      (t.same (drop (i + 1) piece))

  pub run_done : length piece ≤ i → i ≤ length piece → line.kept ≤ 256 → u ≤ 64 * i → 64 * length piece ≤ length out₀ → length line.bytes ≡ 256
      → Onward (kept_by line₀) piece out₀ 0 (kept_by line) (drop i piece) out u
      → Ran piece line₀ out₀ u line out
  unfolding ended rest answers held
  run_done h g k f z x a =
      let d : drop i piece ≡ [] = drop_of_length-le piece h in
      let b : Onward (kept_by line₀) piece out₀ 0 (kept_by line) [] out u = subst (λ (x : List ℕ). Onward (kept_by line₀) piece out₀ 0 (kept_by line) x out u) d a in
      record {
        holds = k;
        counts = full_counts line.kept line.bytes x k;
        fits = omega arith;
        prints = b.prints u out (record { end = sym (add-zero u); now = sym (put_none out u) });
        keeps = sym (take_all 256 (kept_by line) (simp length-take (omega arith))) ∙ b.keeps;
      }

same_both : {A : Type 0} (a : A) (b : Bool) → a ≡ cond b a a
same_both a true = refl
same_both a false = refl

-- ---- a line
pub keeping_none : ◌≡◌ {A = Line} (record { bytes = replicate 256 0; kept = 0 }) (keeping [])
unfolding held put
keeping_none = refl

pub keeping_is : {m : List ℕ} {r : ℕ} (l : List ℕ) → length l ≤ 256 → Puts (replicate 256 0) 0 l r m → ◌≡◌ {A = Line} (record { bytes = m; kept = r }) (keeping l)
unfolding held
keeping_is {m} {r} l h p =
    let w : Wrote (replicate 256 0) 0 l r m = puts_wrote p (omega arith) in
    let e : take 256 l ≡ l = take_all 256 l h in
    rw (e, w.now, w.end, zero-add (length l))

pub keeping_held : (l : List ℕ) → keeping (held l) ≡ keeping l
keeping_held l = rw (held_held l)

held_most : (l : List ℕ) → length (held l) ≤ 256
unfolding held
held_most l = simp length-take (omega arith)

pub kept_keeping : (l : List ℕ) → kept_by (keeping l) ≡ held l
kept_keeping l = put_first (replicate 256 0) (held l) (length (held l)) refl (held_most l)

-- no more is kept than there is
pub kept_least : (bytes : List ℕ) (k : ℕ) → length bytes ≡ 256 → take (min k 256) bytes ≡ take k bytes
kept_least bytes k h = go (leb k 256) refl
  where
    go : (b : Bool) → leb k 256 ≡ b → take (min k 256) bytes ≡ take k bytes
    go true e = let n : min k 256 ≡ k = omega (arith, leb-true k 256 e) in rw n
    go false e =
        let g : 256 < k = leb-false k 256 e in
        take_all (min k 256) bytes (omega arith) ∙ sym (take_all k bytes (omega arith))

last_some : (l : List ℕ) → (length l ≡ 0 → ⊥) → answer (asked l) ≡ last l
unfolding last
last_some [] h = absurd (h refl)
last_some (b ∷ l) h = refl

-- ---- the calls
module _ (line : Line) (len : length line.bytes ≡ 256) (n : ℕ) (e : n ≡ min line.kept 256) where
  -- the bytes that the code lends are those that the line keeps
  lent : take n line.bytes ≡ kept_by line
  lent = ap (λ (k : ℕ). take k line.bytes) e ∙ kept_least line.bytes line.kept len

  lent_fits : n ≤ length line.bytes
  lent_fits = omega arith

  pub feeds : {piece out out' : List ℕ} {t u : ℕ} {after x : Line} → t ≡ min (length piece) (length out / 64) → length out' ≡ length out
      → Ran (take t piece) (record { bytes = line.bytes; kept = n }) out u after out' → x ≡ keeping (kept_by after) → Feeds line piece out (record { line = x; taken = t; used = u }) out'
  feeds {piece} {out} {out'} {t} {u} {after} {x} f lo r g =
      let k : u ≤ length out' = omega (arith, r.fits) in
      record {
        taken = f;
        prints = subst (λ (l : List ℕ). Wrote out 0 (answers (ended l (take t piece))) u out') lent r.prints;
        keeps = g ∙ ap keeping r.keeps ∙ keeping_held (rest (take n line.bytes) (take t piece)) ∙ ap (λ (l : List ℕ). keeping (rest l (take t piece))) lent;
        fits = k;
        counts = counts u out' k;
      }

  pub finish_none : (out : List ℕ) → n ≡ 0 → Finishes line out 0 out
  unfolding finish_of last
  finish_none out z =
      let k : line.kept ≡ 0 = omega arith in
      let g : kept_by line ≡ [] = ap (λ (i : ℕ). take i line.bytes) k in
      record {
        is = rw (g, put_none out 0) (same_both (laid 0 out) (leb 64 (length out)));
        fits = omega arith;
        counts = refl;
      }

  pub finish_answer : {out out' : List ℕ} {r : ℕ} → (n ≡ 0 → ⊥) → 64 ≤ length out → length out' ≡ length out → Answered (take n line.bytes) out 0 r out' → Finishes line out r out'
  unfolding finish_of
  finish_answer {out} {out'} {r} z h lo a =
      let w : Wrote out 0 (answer (asked (take n line.bytes))) r out' = puts_wrote a.puts (omega (arith, a.most)) in
      let k : r ≤ length out' = omega (arith, w.end, a.most) in
      let g : answer (asked (take n line.bytes)) ≡ last (kept_by line) = last_some (take n line.bytes) (λ y. z (counts n line.bytes lent_fits ∙ y)) ∙ ap last lent in
      record {
        is = rw (le-leb 64 (length out) h) (ap₂ laid (w.end ∙ zero-add _ ∙ ap length g) (w.now ∙ ap (put out 0) g));
        fits = k;
        counts = counts r out' k;
      }

pub finish_short : (line : Line) (out : List ℕ) → length out < 64 → Finishes line out 0 out
unfolding finish_of
finish_short line out h = record { is = rw (lt-leb 64 (length out) h); fits = omega arith; counts = refl }

-- where the output has 64 bytes, it was written
pub finish_wrote : {line : Line} {out out' : List ℕ} {r : ℕ} → 64 ≤ length out → Finishes line out r out' → Wrote out 0 (last (kept_by line)) r out'
unfolding finish_of
finish_wrote {line} {out} {out'} {r} h f =
    let e : laid r out' ≡ laid (length (last (kept_by line))) (put out 0 (last (kept_by line))) = f.is ∙ rw (le-leb 64 (length out) h) in
    record { end = ap (λ (x : Laid). x.end) e ∙ sym (zero-add _); now = ap (λ (x : Laid). x.memory) e }
