-- The separator found from the tag's end: what stands before the name, and where that begins.
use Rattle.std.specs.Prelude.{Result, Ok}
use Prim.Native.Nat.{ℕ, zero, suc, ◌+◌, ◌-◌, ◌≤◌, ◌<◌}
use mathlib.Core.Path.{◌≡◌, refl, ap, ap₂, sym, subst, ◌∙◌}
use mathlib.Core.List.{List, [], ◌∷◌, ◌++◌, append_assoc}
use mathlib.Core.Bool.{Bool, true, false, ◌&&◌, not, cond}
use native.Mathlib.Nat.{not-suc-le-zero, add-zero}
use native.Mathlib.Omega.{arith}
use borrow.Author.Tests.{le-leb, lt-ltb, ltb-true}
use lib.Dec.{ltb}
use lib.ListN.{length, take, drop, get_or, length-append, get_or-append}
use lib.Seq.{take_at, drop_at, get_or-append-add}
use Rattle.base.specs.declared.refusal.Refusal.{Refusal}
use Rattle.base.proofs.EveryPlace.{both}
use Rattle.parser_spec.proofs.CharacterBytes.{Sort, small, high, all_far, far_at}
use Rattle.address_spec.specs.Spelling.{ascii, address_of}
use Rattle.address_spec.specs.declared.Address.{Address}
use Rattle.address_readings.specs.Readings.{plain, plainly, separator, timed, of_timer, retired, dotted_timer, dotted}
use Rattle.address_readings.specs.Places.{letters_of, name_length, plain_before, retired_by, far_start, separator_start, replaced, dotted_by}
use Rattle.address_readings.proofs.Separators.{behind_slash}
use Rattle.address_readings.proofs.Places.{far_step, far_stop}
use Rattle.address_readings.proofs.InParts.{Timer, a_timer, front, name, text, separator_there, separator_bytes, name_there, low, some_front}
use Rattle.address_readings.proofs.DottedText.{of_timer_lem, dotted_is}

small_at : (s : List ℕ) (i : ℕ) → ascii s ≡ true → i < length s → get_or s i 0 < 128
unfolding ascii
small_at [] i h l = absurd (not-suc-le-zero l)
small_at (b ∷ s) zero h l = ltb-true b 128 (both (ltb b 128) (ascii s) h).0
small_at (b ∷ s) (suc i) h l = small_at s i (both (ltb b 128) (ascii s) h).1 (omega arith)

-- ---- a text of bytes below 128, the bytes of a character, and a rest
module _ (p bs r : List ℕ) (low : ascii p ≡ true) (some-p : 0 < length p) (x : ℕ) (some_byte : 0 < length bs) where
  abbrev tag : List ℕ
  tag = p ++ (bs ++ r)

  abbrev end : ℕ
  end = length p + length bs

  long : length tag ≡ length p + (length bs + length r)
  long = length-append p (bs ++ r) ∙ ap (λ (n : ℕ). length p + n) (length-append bs r)

  at : (i : ℕ) → i < length bs → get_or tag (length p + i) 0 ≡ get_or bs i 0
  at i h = get_or-append-add p (bs ++ r) i 0 ∙ get_or-append bs r 0 i h

  -- what stands before the rest
  last : get_or tag (end - 1) 0 ≡ get_or bs (length bs - 1) 0
  last = let e : end - 1 ≡ length p + (length bs - 1) = omega arith in ap (λ (i : ℕ). get_or tag i 0) e ∙ at (length bs - 1) (omega arith)

  last_plain : Sort x bs → plain (get_or bs (length bs - 1) 0) ≡ plain x
  last_plain (small h e) = ap (λ (l : List ℕ). plain (get_or l (length l - 1) 0)) e
  last_plain (high h f) = behind_slash (get_or bs (length bs - 1) 0) (omega (arith, far_at bs (length bs - 1) f (omega arith))) ∙ sym (behind_slash x (omega arith))

  plain_last : Sort x bs → plain_before tag end ≡ plain x
  unfolding plain_before
  plain_last s =
      let a : 0 < end = omega arith in
      let b : end ≤ length tag = omega (arith, long) in
      rw (lt-ltb 0 end a, le-leb end (length tag) b, last) (last_plain s)

  -- where the character begins
  start_at : far_start tag (length p) ≡ length p
  start_at = far_stop tag (length p) some-p (subst (λ (n : ℕ). n < 128) (sym (get_or-append p (bs ++ r) 0 (length p - 1) (omega arith))) (small_at p (length p - 1) low (omega arith)))

  starts : (i : ℕ) → i ≤ length bs → all_far bs ≡ true → far_start tag (length p + i) ≡ length p
  starts zero h f = ap (far_start tag) (add-zero (length p)) ∙ start_at
  starts (suc i) h f =
      let k : length p + suc i - 1 ≡ length p + i = omega arith in
      far_step tag (length p + suc i) (omega arith) (subst (λ (n : ℕ). 128 ≤ n) (sym (ap (λ (j : ℕ). get_or tag j 0) k ∙ at i h)) (far_at bs i f h)) ∙ ap (far_start tag) k ∙ starts i (omega arith) f

  start_last : Sort x bs → separator_start tag end ≡ length p
  unfolding separator_start
  start_last (small h e) =
      let n : length bs ≡ 1 = ap length e in
      let k : far_start tag end ≡ end = far_stop tag end (omega arith) (subst (λ (n : ℕ). n < 128) (sym (last ∙ ap (λ (l : List ℕ). get_or l (length l - 1) 0) e)) h) in
      omega (arith, k, n)
  start_last (high h f) = omega (arith, starts (length bs) (omega arith) f)

  replaced_last : Sort x bs → replaced tag end ≡ p ++ (46 ∷ r)
  replaced_last s =
      let d : drop end tag ≡ r = sym (ap (λ (l : List ℕ). drop end l) (append_assoc p bs r)) ∙ drop_at (p ++ bs) r end (length-append p bs) in
      ap₂ (λ (m : ℕ) (l : List ℕ). take m tag ++ (46 ∷ l)) (start_last s) d ∙ ap (λ (l : List ℕ). l ++ (46 ∷ r)) (take_at p (bs ++ r) (length p) refl)

-- ---- a timer's or counter's tag
module _ {tag : List ℕ} {x : Address} (t : Timer tag x []) where
  abbrev sep : List ℕ
  sep = (separator_bytes t).bytes

  parted : tag ≡ front t ++ (sep ++ name t)
  parted = text t ∙ ap (λ (l : List ℕ). front t ++ l) (separator_bytes t).text

  -- its name begins behind the separator
  name_place : length tag - name_length x.sub_element ≡ length (front t) + length sep
  name_place =
      let n : letters_of t.value.1 ≡ length (name t) = sym (name_there t).letters in
      let l : length tag ≡ length (front t) + (length sep + length (name t)) = ap length parted ∙ length-append (front t) (sep ++ name t) ∙ ap (λ (n : ℕ). length (front t) + n) (length-append sep (name t)) in
      let m : name_length x.sub_element ≡ letters_of t.value.1 = ap (λ (y : Address). name_length y.sub_element) t.is in
      omega (arith, n, l, m)

  timer_plain : plain_before tag (length tag - name_length x.sub_element) ≡ plainly (separator tag)
  timer_plain =
      ap₂ plain_before parted name_place ∙ plain_last (front t) sep (name t) (low t) (some_front t) t.digits.1.value (separator_bytes t).some_byte (separator_bytes t).sort
      ∙ ap plainly (sym (separator_there t))

  timer_replaced : replaced tag (length tag - name_length x.sub_element) ≡ dotted_timer tag
  timer_replaced =
      ap₂ replaced parted name_place ∙ replaced_last (front t) sep (name t) (low t) (some_front t) t.digits.1.value (separator_bytes t).some_byte (separator_bytes t).sort
      ∙ sym (dotted_is t)

-- ---- an accepted tag
module _ (tag : List ℕ) (x : Address) (e : address_of tag ≡ Ok x) where
  pub retired_by_lem : retired_by tag x.file_type x.sub_element ≡ retired tag
  unfolding retired_by retired
  retired_by_lem = go (timed x.file_type) refl ∙ ap (λ (y : Result Address Refusal). of_timer y && not (plainly (separator tag))) (sym e)
    where
      go : (b : Bool) → timed x.file_type ≡ b → (b && not (plain_before tag (length tag - name_length x.sub_element))) ≡ (b && not (plainly (separator tag)))
      go false h = refl
      go true h = ap not (timer_plain (a_timer tag x (of_timer_lem tag x e h)))

  pub dotted_by_lem : dotted_by tag x.file_type x.sub_element ≡ dotted x tag
  unfolding dotted_by dotted
  dotted_by_lem = go (timed x.file_type) refl
    where
      go : (b : Bool) → timed x.file_type ≡ b → cond b (replaced tag (length tag - name_length x.sub_element)) tag ≡ cond b (dotted_timer tag) tag
      go false h = refl
      go true h = timer_replaced (a_timer tag x (of_timer_lem tag x e h))
