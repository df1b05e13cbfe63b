-- The frame of a reply, byte by byte, and its data behind it.
use Prim.Native.Nat.{ℕ, zero, suc, ◌+◌, ◌-◌, ◌≤◌, ◌<◌}
use mathlib.Core.Path.{◌≡◌, refl, sym, ap, subst, ◌∙◌}
use mathlib.Core.Bool.{Bool, true, false, not, ◌&&◌}
use mathlib.Core.List.{List, [], ◌∷◌, ◌++◌, append_assoc}
use native.Mathlib.Nat.{add-zero}
use native.Mathlib.Numerals.{add-one}
use native.Mathlib.Omega.{arith}
use borrow.Author.Tests.{not-true, not-false, leb-true, lt-ltb, le-ltb}
use lib.Bits.{bit_or}
use lib.Dec.{leb, ltb}
use lib.ListN.{length, get_or, take, drop, set, length-set, length-append, get_or-eq_default}
use lib.Seq.{drop-cons, get_or-drop, length-take-le}
use Rattle.base.specs.Put.{put, Wrote, Puts}
use Rattle.base.proofs.Put.{put_none, put_cons, put_more, wrote_length, puts_full, puts_room, and_then, puts_wrote}
use Rattle.processor_spec.specs.Frame.{well_formed, requester, body, cmd, framed}
use Rattle.processor_spec.proofs.Tests.{and_r}
use Rattle.processor_frame.specs.Reply.{reply_to}

pub first_none : (c : List ℕ) → length c ≡ 0 → (0 ≡ get_or c 0 0) × (0 < 256)
first_none c e = (sym (get_or-eq_default c 0 (omega arith)), omega arith)

-- ---- a well-formed command
module _ (c : List ℕ) (n : ℕ) (e : n ≡ get_or c 0 0) where
  pub no_id : n ≡ 0 → false ≡ well_formed c
  unfolding well_formed
  no_id z =
      let h : get_or c 0 0 ≤ 0 = omega arith in
      rw (le-ltb 0 (get_or c 0 0) h) (go (ltb 0 (length c)))
    where
      go : (b : Bool) → false ≡ (b && false && leb (get_or c 0 0 + 4) (length c))
      go true = refl
      go false = refl

  pub with_id : (n ≡ 0 → ⊥) → leb (n + 4) (length c) ≡ well_formed c
  unfolding well_formed
  with_id ne =
      let h : 0 < get_or c 0 0 = omega arith in
      rw (lt-ltb 0 (get_or c 0 0) h, ← e) (go (leb (n + 4) (length c)) refl)
    where
      go : (b : Bool) → leb (n + 4) (length c) ≡ b → b ≡ (ltb 0 (length c) && true && b)
      go true t = let l : n + 4 ≤ length c = leb-true (n + 4) (length c) t in let k : 0 < length c = omega arith in rw (lt-ltb 0 (length c) k)
      go false t = go' (ltb 0 (length c))
        where
          go' : (b : Bool) → false ≡ (b && true && false)
          go' true = refl
          go' false = refl

  pub long_enough : (ok : Bool) → ok ≡ well_formed c → not ok ≡ false → n + 4 ≤ length c
  unfolding well_formed
  long_enough ok g h =
      let w : well_formed c ≡ true = sym g ∙ not-false ok h in
      subst (λ (k : ℕ). k + 4 ≤ length c) (sym e) (leb-true (get_or c 0 0 + 4) (length c) (and_r (ltb 0 (length c) && ltb 0 (get_or c 0 0)) _ w))

-- ---- bytes one by one
stored : List ℕ → ℕ → List ℕ → List ℕ
stored l at [] = l
stored l at (b ∷ bs) = stored (set l at b) (at + 1) bs

stored_put : (bs l : List ℕ) (at : ℕ) → at + length bs ≤ length l → stored l at bs ≡ put l at bs
unfolding stored
stored_put [] l at h = sym (put_none l at)
stored_put (b ∷ bs) l at h = stored_put bs (set l at b) (at + 1) (rw length-set (omega arith)) ∙ put_cons l at b bs (omega arith)

loaded : List ℕ → ℕ → ℕ → List ℕ
loaded c at zero = []
loaded c at (suc k) = get_or c at 0 ∷ loaded c (at + 1) k

loaded_take : (c : List ℕ) (at k : ℕ) → at + k ≤ length c → loaded c at k ≡ take k (drop at c)
unfolding loaded
loaded_take c at zero h = refl
loaded_take c at (suc k) h =
    ap (λ (bs : List ℕ). get_or c at 0 ∷ bs) (loaded_take c (at + 1) k (omega arith) ∙ ap (λ (j : ℕ). take k (drop j c)) (add-one at))
    ∙ ap (take (suc k)) (sym (drop-cons c at 0 (omega arith)))

-- ---- the requester id
module _ (c l : List ℕ) (n : ℕ) (hc : n ≤ length c) (hl : n ≤ length l) where
  pub id_length : n ≡ length (take n c)
  id_length = sym (length-take-le n c hc)

  pub id_put : {m : List ℕ} {r : ℕ} → Puts l 0 (take n c) r m → Wrote l 0 (take n c) r m
  id_put p = puts_wrote p (omega (arith, id_length))

  pub id_seven : n ≡ 7 → Wrote l 0 (take n c) 7 (set (set (set (set (set (set (set l 0 (get_or c 0 0)) 1 (get_or c 1 0)) 2 (get_or c 2 0)) 3 (get_or c 3 0)) 4 (get_or c 4 0)) 5 (get_or c 5 0)) 6 (get_or c 6 0))
  unfolding stored loaded
  id_seven e = record {
    end = omega (arith, id_length);
    now = stored_put (loaded c 0 7) l 0 (omega arith) ∙ ap (put l 0) (loaded_take c 0 7 (omega arith)) ∙ ap (λ (k : ℕ). put l 0 (take k c)) (sym e);
  }

-- ---- the frame
module _ (l : List ℕ) (n a b x y : ℕ) (h : n + 4 ≤ length l) where
  four : set (set (set (set l n a) (n + 1) b) (n + 2) x) (n + 3) y ≡ put l n (a ∷ b ∷ x ∷ y ∷ [])
  unfolding stored
  four =
      let e₂ : n + 2 ≡ n + 1 + 1 = omega arith in
      let e₃ : n + 3 ≡ n + 1 + 1 + 1 = omega arith in
      rw (e₂, e₃) (stored_put (a ∷ b ∷ x ∷ y ∷ []) l n h)

module _ (c l m : List ℕ) (n status r : ℕ) (e : n ≡ get_or c 0 0) (hc : n + 4 ≤ length c) (hl : n + 4 ≤ length l) where
  laid : n ≡ length (take n c)
  laid = id_length c l n (omega arith) (omega arith)

  pub laid_length : Wrote l 0 (take n c) r m → length m ≡ length l
  laid_length w = wrote_length w (omega (arith, laid))

  bytes : framed c status [] ≡ take n c ++ (bit_or (get_or c n 0) 0x40 ∷ status ∷ get_or c (n + 2) 0 ∷ get_or c (n + 3) 0 ∷ [])
  unfolding framed requester cmd body
  bytes = rw (← e, get_or-drop n c 0 0, get_or-drop n c 2 0, get_or-drop n c 3 0, add-zero)

  pub framed_there : Wrote l 0 (take n c) r m
      → Wrote l 0 (framed c status []) (n + 4) (set (set (set (set m n (bit_or (get_or c n 0) 0x40)) (n + 1) status) (n + 2) (get_or c (n + 2) 0)) (n + 3) (get_or c (n + 3) 0))
  framed_there w =
      let q : List ℕ = bit_or (get_or c n 0) 0x40 ∷ status ∷ get_or c (n + 2) 0 ∷ get_or c (n + 3) 0 ∷ [] in
      let f : set (set (set (set m n (bit_or (get_or c n 0) 0x40)) (n + 1) status) (n + 2) (get_or c (n + 2) 0)) (n + 3) (get_or c (n + 3) 0) ≡ put m n q =
      four m n (bit_or (get_or c n 0) 0x40) status (get_or c (n + 2) 0) (get_or c (n + 3) 0) (omega (arith, laid_length w)) in
      let z : 0 + length (take n c) ≡ n = omega (arith, laid) in
      let g : put (put l 0 (take n c)) n q ≡ put l 0 (framed c status []) =
      ap (λ (k : ℕ). put (put l 0 (take n c)) k q) (sym z) ∙ put_more l 0 (take n c) (omega (arith, laid)) q ∙ ap (put l 0) (sym bytes) in
      record {
        end = rw (bytes, length-append) (omega (arith, laid));
        now = f ∙ ap (λ (x : List ℕ). put x n q) w.now ∙ g;
      }

-- ---- the whole reply
framed_more : (c : List ℕ) (status : ℕ) (bs : List ℕ) → framed c status [] ++ bs ≡ framed c status bs
unfolding framed
framed_more c status bs = append_assoc (requester c) _ bs

module _ (c bs : List ℕ) (status : ℕ) where
  pub no_bound : (ok : Bool) → ok ≡ well_formed c → not ok ≡ true → length (reply_to c status bs) ≤ 259 + length bs
  unfolding reply_to
  no_bound ok g h = let w : well_formed c ≡ false = sym g ∙ not-true ok h in rw w (omega arith)

  module _ (n : ℕ) (e : n ≡ get_or c 0 0) (ok : Bool) (g : ok ≡ well_formed c) (h : not ok ≡ false) where
    framed_length : (xs : List ℕ) → length (framed c status xs) ≡ n + 4 + length xs
    unfolding framed requester
    framed_length xs =
        let i : length (take (get_or c 0 0) c) ≡ get_or c 0 0 = length-take-le (get_or c 0 0) c (omega (arith, long_enough c n e ok g h)) in
        rw length-append (omega (arith, i))

    reply_length : length (reply_to c status bs) ≡ n + 4 + length bs
    unfolding reply_to
    reply_length = let w : well_formed c ≡ true = sym g ∙ not-false ok h in rw w (framed_length bs)

    pub reply_bound : n < 256 → length (reply_to c status bs) ≤ 259 + length bs
    reply_bound k = omega (arith, reply_length)

module _ (c l bs : List ℕ) (status : ℕ) where
  pub no_reply : (ok : Bool) → ok ≡ well_formed c → not ok ≡ true → Puts l 0 (reply_to c status bs) 0 l
  unfolding reply_to
  no_reply ok g h =
      let w : well_formed c ≡ false = sym g ∙ not-true ok h in
      rw w (puts_room 0 refl (omega arith) (record { end = refl; now = sym (put_none l 0) }))

  module _ (n : ℕ) (e : n ≡ get_or c 0 0) (ok : Bool) (g : ok ≡ well_formed c) (h : not ok ≡ false) where
    pub reply_short : length l < n + 4 → Puts l 0 (reply_to c status bs) 0 l
    reply_short k = puts_full (n + 4 + length bs) (reply_length c bs status n e ok g h) (omega arith)

    pub reply_cut : n + 4 ≤ length l → length l - (n + 4) < length bs → Puts l 0 (reply_to c status bs) 0 l
    reply_cut k j = puts_full (n + 4 + length bs) (reply_length c bs status n e ok g h) (omega arith)

    pub reply_whole : (m k : List ℕ) (a r : ℕ) → n + 4 ≤ length l → length bs ≤ length l - (n + 4) → Wrote l 0 (framed c status []) a m → Puts m a bs r k
        → Puts l 0 (reply_to c status bs) r k
    unfolding reply_to
    reply_whole m k a r hl hb f p =
        let w : well_formed c ≡ true = sym g ∙ not-false ok h in
        let i : length (framed c status []) ≡ n + 4 + 0 = framed_length c bs status n e ok g h [] in
        let x : 0 + length (framed c status []) ≤ length l = omega arith in
        let lm : length m ≡ length l = wrote_length f x in
        let v : Wrote m a bs r k = puts_wrote p (omega (arith, f.end)) in
        let both : Wrote l 0 (framed c status bs) r k = subst (λ (s : List ℕ). Wrote l 0 s r k) (framed_more c status bs) (and_then f v x) in
        rw w (puts_room (n + 4 + length bs) (framed_length c bs status n e ok g h bs) (omega arith) both)
