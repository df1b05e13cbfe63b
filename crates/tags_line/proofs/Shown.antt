-- Laws of answers: what is laid in the output, and its length.
use Rattle.std.specs.Prelude.{Result, Ok, Err}
use Rattle.base.specs.declared.refusal.Refusal.{Refusal}
use Rattle.base.specs.Refusals.{number_of}
use Prim.Native.Nat.{ℕ, ◌+◌, ◌-◌, ◌*◌, ◌/◌, ◌≤◌, ◌<◌}
use mathlib.Core.Path.{◌≡◌, ap, sym, subst, ◌∙◌}
use mathlib.Core.List.{List, [], ◌∷◌, ◌++◌}
use native.Mathlib.Nat.{zero-add}
use native.Mathlib.Omega.{arith}
use lib.ListN.{length, take, drop, replicate, length-append, length-take}
use lib.Seq.{take_at, length-take-le}
use Rattle.base.specs.Chars.{bytes}
use Rattle.base.specs.Put.{put, Wrote, Puts}
use Rattle.base.proofs.Put.{lays, then, wrote_length, puts_room, puts_full, put_first}
use Rattle.text.specs.Hex.{hex}
use Rattle.text.proofs.Pairs.{hex_length}
use Rattle.decimal.specs.Decimals.{decimal}
use Rattle.decimal.proofs.Decimals.{decimal_length}
use Rattle.address_spec.specs.declared.Address.{Address}
use Rattle.address_readings.specs.declared.Reading.TheVariants.{New}
use Rattle.address_readings.specs.Readings.{address_in}
use Rattle.request_frame.specs.RequestFrame.{default_requestor}
use Rattle.request_frame.specs.declared.Requestor.{Requestor}
use Rattle.request_spec.proofs.RefusalNumbers.{numbered}
use Rattle.request_spec.specs.Request.{Asked, refused, sends, Builds, on_address, read_address}
use Rattle.tags_line.specs.Lines.{asked, answer}
use Rattle.tags_line.specs.Answered.{Answered}

-- `refused`, the number and a newline, one behind the other in an array, and then where they belong
refused_short : (e : Refusal) → length (answer (refused e)) ≤ 12
unfolding answer
refused_short e = simp length-append (omega (arith, decimal_length 2 (number_of e) (omega (arith, numbered e))))

in_line : (e : Refusal) → 0 + length (answer (refused e)) ≤ 12
in_line e = omega (arith, refused_short e)

module _ (e : Refusal) {k n : ℕ} (g : k ≡ number_of e) (f : n ≡ k) {m₁ m₂ line : List ℕ} {a b c : ℕ} (x : Puts (replicate 12 0) 0 (bytes "refused ") a m₁) (y : Puts m₁ a (decimal n) b m₂) (z : Puts m₂ b (10 ∷ []) c line) where
  written : Wrote (replicate 12 0) 0 (answer (refused e)) c line
  unfolding answer
  written = (then (lays x) (then (lays (subst (λ (k : ℕ). Puts m₁ a (decimal k) b m₂) (f ∙ g) y)) (lays z))).room (in_line e)

  pub refused_fits : c ≤ length line
  refused_fits = omega (arith, written.end, wrote_length written (in_line e), refused_short e)

  pub refused_counts : c ≡ length (take c line)
  refused_counts = sym (length-take-le c line refused_fits)

  pub refused_laid : {l m : List ℕ} {at r : ℕ} → Puts l at (take c line) r m → Puts l at (answer (refused e)) r m
  refused_laid {l} {m} {at} {r} w =
      let k : c ≡ length (answer (refused e)) = written.end ∙ zero-add _ in
      let q : take c line ≡ answer (refused e) = ap (take c) written.now ∙ put_first (replicate 12 0) (answer (refused e)) c (sym k) (omega (arith, refused_short e)) in
      subst (λ (s : List ℕ). Puts l at s r m) q w

-- the message
hex_count : (bs : List ℕ) → length (hex bs ++ (10 ∷ [])) ≡ 2 * length bs + 1
hex_count bs = simp length-append (omega (arith, hex_length bs))

module _ (bs : List ℕ) {l : List ℕ} {at : ℕ} where
  pub message_past : length l ≤ at → Puts l at (hex bs ++ (10 ∷ [])) at l
  message_past h = puts_full (2 * length bs + 1) (hex_count bs) (omega arith)

  pub message_short : at < length l → (length l - at - 1) / 2 < length bs → Puts l at (hex bs ++ (10 ∷ [])) at l
  message_short h g = puts_full (2 * length bs + 1) (hex_count bs) (omega arith)

  pub message_laid : {m k : List ℕ} {r t : ℕ} → at < length l → length bs ≤ (length l - at - 1) / 2 → Puts l at (hex bs) r m → Puts m r (10 ∷ []) t k → Puts l at (hex bs ++ (10 ∷ [])) t k
  message_laid h g x y =
      let n : at + (2 * length bs + 1) ≤ length l = omega arith in
      puts_room (2 * length bs + 1) (hex_count bs) n ((then (lays x) (lays y)).room (rw (hex_count bs) n))

hex_most : (bs : List ℕ) → length bs ≤ 27 → length (hex bs ++ (10 ∷ [])) ≤ 64
hex_most bs h = omega (arith, hex_count bs)

-- the message, as the answer of `read_request` and the memory that it left tell it
module _ (o : Asked) {l m : List ℕ} {x : Result (Address × ℕ) Refusal} (b : Builds o l x m) where
  refusal : (e : Refusal) → x ≡ Err e → o ≡ refused e
  refusal e f = go o b
    where
      go : (o : Asked) → Builds o l x m → o ≡ refused e
      go (refused k) b = cc (b.answer, f)
      go (sends y bs) b = absurd (cc (b.answer, f))

  module _ (a : Address) (n : ℕ) (f : x ≡ Ok (a, n)) where
    message : (n ≤ length m) × (answer o ≡ hex (take n m) ++ (10 ∷ []))
    unfolding answer put
    message = go o b
      where
        go : (o : Asked) → Builds o l x m → (n ≤ length m) × (answer o ≡ hex (take n m) ++ (10 ∷ []))
        go (refused k) b = absurd (cc (b.answer, f))
        go (sends y bs) b =
            let g : ◌≡◌ {A = Address × ℕ} (a, n) (y, length bs) = cc (f, b.answer) in
            let h : n ≡ length bs = ap (λ (z : Address × ℕ). z.1) g in
            let k : length m ≡ length bs + length (drop (0 + length bs) l) = ap length b.now ∙ length-append bs (drop (0 + length bs) l) in (
              omega arith,
              ap (λ (s : List ℕ). hex s ++ (10 ∷ [])) (sym (ap (take n) b.now ∙ take_at bs (drop (0 + length bs) l) n (sym h))),
            )

    pub message_fits : n ≤ length m
    message_fits = message.0

    pub message_counts : n ≡ length (take n m)
    message_counts = sym (length-take-le n m message_fits)

-- the request that the definition asks for
module _ (tag : List ℕ) (q : Requestor) (l m : List ℕ) (x : Result (Address × ℕ) Refusal) (b : Builds (on_address (address_in New tag) (read_address q 0 27)) l x m) (d : q ≡ default_requestor) where
  is_asked : on_address (address_in New tag) (read_address q 0 27) ≡ asked tag
  unfolding asked
  is_asked = ap (λ (p : Requestor). on_address (address_in New tag) (read_address p 0 27)) d

  pub answer_refused : (e : Refusal) {out out' : List ℕ} {at r : ℕ} → x ≡ Err e → Puts out at (answer (refused e)) r out' → Answered tag out at r out'
  answer_refused e {out} {out'} {at} {r} f w =
      let o : refused e ≡ asked tag = sym (refusal (on_address (address_in New tag) (read_address q 0 27)) b e f) ∙ is_asked in
      let k : length (answer (refused e)) ≤ 64 = omega (arith, refused_short e) in
      record { puts = subst (λ (y : Asked). Puts out at (answer y) r out') o w; most = subst (λ (y : Asked). length (answer y) ≤ 64) o k }

  pub answer_message : (a : Address) (n : ℕ) {out out' : List ℕ} {at r : ℕ} → x ≡ Ok (a, n) → length m ≡ 27 → Puts out at (hex (take n m) ++ (10 ∷ [])) r out' → Answered tag out at r out'
  answer_message a n {out} {out'} {at} {r} e len w =
      let p = message (on_address (address_in New tag) (read_address q 0 27)) b a n e in
      let o : hex (take n m) ++ (10 ∷ []) ≡ answer (asked tag) = sym p.1 ∙ ap answer is_asked in
      let k : length (take n m) ≤ 27 = simp length-take (omega arith) in
      record { puts = subst (λ (y : List ℕ). Puts out at y r out') o w; most = subst (λ (y : List ℕ). length y ≤ 64) o (hex_most (take n m) k) }
