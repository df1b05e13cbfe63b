-- Laws of text that waits.
use Prim.Native.Nat.{ℕ, ◌+◌, ◌-◌, ◌/◌, ◌%◌, ◌≤◌, ◌<◌}
use mathlib.Core.Path.{◌≡◌, refl, ap, ap₂, sym, subst, ◌∙◌}
use mathlib.Core.List.{List, [], ◌∷◌, ◌++◌, append_assoc, append-nil}
use mathlib.Core.Bool.{Bool, true, false, cond}
use native.Mathlib.Nat.{add-zero}
use native.Mathlib.Omega.{arith}
use lib.ListN.{length, take, drop, length-append, drop_of_length-le}
use lib.Seq.{length-take-le, drop_at, drop-drop, drop-append-le}
use mir.Syntax.{w64}
use mir.Val.{Fits}
use Rattle.base.specs.Put.{Wrote, Puts}
use Rattle.base.proofs.Put.{and_then, put_front, put_none, wrote_length, puts_wrote}
use Rattle.text.specs.Hex.{digit, hex}
use Rattle.decimal.specs.Decimals.{decimal}
use Rattle.decimal.proofs.Decimals.{decimal_length}
use Rattle.text.proofs.Pairs.{hex_length}
use Rattle.base.specs.Chars.{bytes}
use Rattle.console.specs.Said.{Said}
use Rattle.console.specs.AnswerLines.{refused_line, error_line, byte_string, ok_bytes}
use Rattle.console.specs.declared.output.Pending.{Pending}

pub not_both : (b t : Bool) → b ≡ true → b ≡ false → t ≡ false
not_both b t e f = absurd (let z : ◌≡◌ {A = Bool} true false = sym e ∙ f in let y : ◌≡◌ {A = ℕ} 0 1 = ap (λ (x : Bool). cond x 0 1) z in omega arith)

-- ---- one text
module _ (out : List ℕ) (p : Pending) (bs : List ℕ) where
  -- there was room for it
  pub said_room : {out' : List ℕ} {r : ℕ} → p.at ≤ length out → length bs ≤ length out - p.at → Puts out p.at bs r out' → Said out p bs (record { at = r; good = p.good }) out'
  said_room {out'} {r} h g w =
      let n : p.at + length bs ≤ length out = omega arith in
      let v = puts_wrote w n in
      let f : r ≤ length out' = omega (arith, v.end, wrote_length v n) in
      record {
        fits = f;
        counts = sym (length-take-le r out' f);
        room = λ _. v;
        most = λ _. omega (arith, v.end);
        waits = λ _. (let z : p.at + length bs - r ≡ 0 = omega (arith, v.end) in rw z (ap₂ take v.end v.now ∙ put_front out p.at bs n));
        shut = λ e. e;
      }

  behind : p.at ≤ length out → drop p.at (take p.at out ++ bs) ≡ bs
  behind h = drop_at (take p.at out) bs p.at (length-take-le p.at out h)

  -- there was none: what waited was written out, and it waits alone
  pub said_alone : {o out' : List ℕ} {r : ℕ} {t : Bool} → length out < p.at + length bs → length bs ≤ length out → (p.good ≡ false → t ≡ false) → o ≡ out → Puts o 0 bs r out' → Said out p bs (record { at = r; good = t }) out'
  said_alone {o} {out'} {r} h g s e u =
      let n : 0 + length bs ≤ length out = omega arith in
      let w : Puts out 0 bs r out' = subst (λ (l : List ℕ). Puts l 0 bs r out') e u in
      let v = puts_wrote w n in
      let f : r ≤ length out' = omega (arith, v.end, wrote_length v n) in
      record {
        fits = f;
        counts = sym (length-take-le r out' f);
        room = λ k. absurd (omega arith);
        most = λ _. omega (arith, v.end);
        waits =
            λ k. (let z : p.at + length bs - r ≡ p.at = omega (arith, v.end) in rw z (ap₂ take v.end v.now ∙ put_front out 0 bs n ∙ sym (behind k)));
        shut = s;
      }

  -- it was longer than the buffer, and was written out too
  pub said_straight : {o : List ℕ} {k : ℕ} {q t : Bool} → length out < length bs → (p.good ≡ false → q ≡ false) → o ≡ out → k ≡ 0 → (q ≡ false → t ≡ false) → Said out p bs (record { at = k; good = t }) o
  said_straight h s i j u = rw (i, j) (record {
    fits = omega arith;
    counts = refl;
    room = λ k. absurd (omega arith);
    most = λ _. omega arith;
    waits =
        λ k. (let z : length (take p.at out ++ bs) ≤ p.at + length bs - 0 = rw (length-append, length-take-le p.at out k) (omega arith) in sym (drop_of_length-le (take p.at out ++ bs) z));
    shut = λ e. u (s e);
  })

-- ---- one text after the other
drop_both : (k j : ℕ) (x bs : List ℕ) → j ≤ length x → drop k (drop j x ++ bs) ≡ drop (j + k) (x ++ bs)
drop_both k j x bs h = ap (drop k) (sym (drop-append-le j x bs h)) ∙ drop-drop k j (x ++ bs)

pub said_then : {out out' out'' : List ℕ} {p q r : Pending} {cs bs : List ℕ} → length out' ≡ length out → Said out p cs q out' → Said out' q bs r out'' → Said out p (cs ++ bs) r out''
said_then {out} {out'} {out''} {p} {q} {r} {cs} {bs} len a b =
    let n : length (cs ++ bs) ≡ length cs + length bs = length-append cs bs in
    record {
      fits = b.fits;
      counts = b.counts;
      room =
          λ h. (let f : p.at + length cs ≤ length out = omega arith in let w = a.room f in and_then w (b.room (omega (arith, w.end))) f);
      most = λ h. omega (arith, a.most h, b.most (omega (arith, a.fits)));
      waits = λ h. waits h n;
      shut = λ e. b.shut (a.shut e);
    }
  where
    waits : p.at ≤ length out → length (cs ++ bs) ≡ length cs + length bs → take r.at out'' ≡ drop (p.at + length (cs ++ bs) - r.at) (take p.at out ++ (cs ++ bs))
    waits h n =
        let x : length (take p.at out ++ cs) ≡ p.at + length cs = rw (length-append, length-take-le p.at out h) in
        let j : p.at + length cs - q.at ≤ length (take p.at out ++ cs) = omega arith in
        let m : p.at + length cs - q.at + (q.at + length bs - r.at) ≡ p.at + length (cs ++ bs) - r.at = omega (arith, a.most h, b.most a.fits) in
        b.waits a.fits
        ∙ ap (λ (l : List ℕ). drop (q.at + length bs - r.at) (l ++ bs)) (a.waits h)
        ∙ drop_both (q.at + length bs - r.at) (p.at + length cs - q.at) (take p.at out ++ cs) bs j
        ∙ ap₂ drop m (append_assoc (take p.at out) cs bs)

-- ---- a text that was laid in an array of its own
module _ (t x bs : List ℕ) (e : ℕ) (w : Puts t 0 bs e x) (h : length bs ≤ length t) where
  laid : Wrote t 0 bs e x
  laid = puts_wrote w (omega arith)

  pub laid_fits : e ≤ length x
  laid_fits = omega (arith, laid.end, wrote_length laid (omega arith))

  pub laid_counts : e ≡ length (take e x)
  laid_counts = sym (length-take-le e x laid_fits)

  pub laid_said : {out out' : List ℕ} {p r : Pending} → Said out p (take e x) r out' → Said out p bs r out'
  laid_said {out} {out'} {p} {r} s =
      subst (λ (l : List ℕ). Said out p l r out') (ap₂ take laid.end laid.now ∙ put_front t 0 bs (omega arith)) s

pub hex_small : (bs : List ℕ) → length bs ≤ 256 → length (hex bs) ≤ 512
hex_small bs h = omega (arith, hex_length bs)

pub decimal_small : (n : ℕ) → Fits w64 n → length (decimal n) ≤ 20
decimal_small n f = decimal_length 19 n (omega (arith, f.fits))

-- ---- digits in pieces
hex_append : (bs cs : List ℕ) → hex (bs ++ cs) ≡ hex bs ++ hex cs
unfolding hex
hex_append [] cs = refl
hex_append (b ∷ bs) cs = ap (λ (l : List ℕ). digit (b / 16) ∷ digit (b % 16) ∷ l) (hex_append bs cs)

module _ {out₀ out : List ℕ} {q₀ q : Pending} (done : List ℕ) (a : Said out₀ q₀ (hex done) q out) where
  pub hex_turn : (piece : List ℕ) {r : Pending} {out' : List ℕ} → length out ≡ length out₀ → Said out q (hex piece) r out' → Said out₀ q₀ (hex (done ++ piece)) r out'
  hex_turn piece {r} {out'} len b =
      subst (λ (l : List ℕ). Said out₀ q₀ l r out') (sym (hex_append done piece)) (said_then len a b)

  pub hex_done : (rest bs : List ℕ) {l : List ℕ} {p : Pending} → length rest ≡ 0 → done ++ rest ≡ bs → length out₀ ≡ length l → Said l p [] q₀ out₀ → Said l p (hex bs) q out
  hex_done [] bs h e len b = said_then len b (subst (λ (x : List ℕ). Said out₀ q₀ (hex x) q out) (sym (append-nil done) ∙ e) a)
  hex_done (x ∷ rest) bs h e len b = absurd (omega arith)

pub said_none : (out : List ℕ) (q : Pending) → q.at ≤ length out → Said out q [] q out
said_none out q h = record {
  fits = h;
  counts = sym (length-take-le q.at out h);
  room = λ _. record { end = sym (add-zero q.at); now = sym (put_none out q.at) };
  most = λ _. omega arith;
  waits = λ _. (let z : q.at + 0 - q.at ≡ 0 = omega arith in rw z (sym (append-nil (take q.at out))));
  shut = λ e. e;
}

pub hex_start : (out : List ℕ) (q : Pending) → q.at ≤ length out → Said out q (hex []) q out
unfolding hex
hex_start out q h = said_none out q h

-- ---- answers
module _ {k l m n : List ℕ} {p q r t : Pending} (f : length l ≡ length k) (g : length m ≡ length l) where
  pub said_refused : (x : ℕ) {y : ℕ} → y ≡ x → Said k p (bytes "refused ") q l → Said l q (decimal y) r m → Said m r (10 ∷ []) t n → Said k p (refused_line x) t n
  unfolding refused_line
  said_refused x e a b c = rw (← e) (said_then f a (said_then g b c))

  pub said_error : (x : List ℕ) → Said k p (bytes "error ") q l → Said l q x r m → Said m r (10 ∷ []) t n → Said k p (error_line x) t n
  unfolding error_line
  said_error x a b c = said_then f a (said_then g b c)

  pub said_bytes : (x : List ℕ) → Said k p (bytes "ok ") q l → Said l q (byte_string x) r m → Said m r (10 ∷ []) t n → Said k p (ok_bytes x) t n
  unfolding ok_bytes
  said_bytes x a b c = said_then f a (said_then g b c)

module _ {k l : List ℕ} {p q : Pending} where
  pub string_none : (x : List ℕ) → length x ≡ 0 → Said k p (bytes "-") q l → Said k p (byte_string x) q l
  unfolding byte_string
  string_none [] h a = a
  string_none (b ∷ x) h a = absurd (omega arith)

  pub string_some : (x : List ℕ) → (length x ≡ 0 → ⊥) → Said k p (hex x) q l → Said k p (byte_string x) q l
  unfolding byte_string
  string_some [] h a = absurd (h refl)
  string_some (b ∷ x) h a = a
