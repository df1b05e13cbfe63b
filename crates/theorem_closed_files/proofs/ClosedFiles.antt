-- The closed-file rule: one command, by what it asks, and then the whole list.
use Rattle.std.specs.Prelude.{Some}
use Prim.Native.Nat.{ℕ, ◌-◌}
use mathlib.Core.Path.{◌≡◌, refl, sym, ap, ap₂, subst, subst₂, ◌∙◌}
use mathlib.Core.Bool.{Bool, true, false, false≢true, cond}
use mathlib.Core.List.{List, [], ◌∷◌}
use native.Mathlib.Decide.{ℕ_discrete}
use lib.Dec.{leb}
use lib.ListN.{length, take, drop}
use Rattle.base.specs.declared.refusal.Refusal.TheVariants.{ShortReplyMemory, MalformedCommand}
use Rattle.base.specs.Put.{put}
use Rattle.processor_spec.specs.declared.FileRecord.{FileRecord}
use Rattle.processor_spec.specs.Ask.{Ask, fail, tell, pop, read, write, ask}
use Rattle.processor_spec.specs.Files.{find, contents}
use Rattle.processor_spec.specs.Frame.{well_formed, cmd, function, framed}
use Rattle.processor_spec.specs.Masked.{masked, masked_at}
use Rattle.processor_spec.specs.State.{State, sound}
use Rattle.processor_spec.specs.Step.{Answer, replied, keeps, takes, lays, Step, after, popped, perform, obey, refuse, step, Call, step_of, next, run}
use Rattle.processor_spec.proofs.Asked.{Asked}
use Rattle.processor_spec.proofs.Files.{Inside, sound_ends, read_inside, write_length, write_same, write_other, write_sound, pop_sound}
use Rattle.processor_spec.proofs.Steps.{write_inside}
use Rattle.processor_spec.proofs.FilesApart.{same_table}
use Rattle.processor_spec.proofs.Tests.{and_l, and_r}
use Rattle.theorem_closed_files.specs.Closed.{avoids, all_avoid, Agree, SameCalls, none_left, one_more, Isolated, ClosedFileRule}
use Rattle.theorem_closed_files.proofs.Avoided.{Open, open_asked}

-- What holds after one command.
abbrev Isolated₁ : (ℕ → Bool) → State → State → Step → Step → Type 0
Isolated₁ closed a b x y = (x.answer ≡ y.answer) × Isolated closed a b (after a x.effect) (after b y.effect)

module _ (closed : ℕ → Bool) (a b : State) (ha : sound a ≡ true) (hb : sound b ≡ true) (ag : Agree closed a b) where
  nothing_moved : Isolated closed a b a b
  nothing_moved = record {
    sound_left = ha;
    sound_right = hb;
    agree_after = ag;
    kept_left = record { kept_bytes = λ n h. refl };
    kept_right = record { kept_bytes = λ n h. refl };
  }

  stay : (x y : Answer) → x ≡ y → Isolated₁ closed a b (record { answer = x; effect = keeps }) (record { answer = y; effect = keeps })
  unfolding after
  stay x y e = (e, nothing_moved)

  -- an entry leaves the datalog
  taken : Isolated closed a b (after a takes) (after b takes)
  unfolding after contents
  taken = record {
    sound_left = pop_sound a ha;
    sound_right = pop_sound b hb;
    agree_after = record {
      same_size = ag.same_size;
      same_text = ag.same_text;
      same_log = ap (drop 1) ag.same_log;
      same_files = ag.same_files;
      same_open = ag.same_open;
    };
    kept_left = record { kept_bytes = λ n h. refl };
    kept_right = record { kept_bytes = λ n h. refl };
  }

  isolated_pop : (c : List ℕ) (d e : List (List ℕ)) → d ≡ e → Isolated₁ closed a b (popped c d) (popped c e)
  isolated_pop c d e q = subst (λ (l : List (List ℕ)). Isolated₁ closed a b (popped c d) (popped c l)) q (go d)
    where
      go : (l : List (List ℕ)) → Isolated₁ closed a b (popped c l) (popped c l)
      go [] = unfold popped in stay _ _ refl
      go (x ∷ xs) = unfold popped in (refl, taken)

  same_records : a.records ≡ b.records
  same_records = same_table 0 a.records b.records (sound_ends a ha) (sound_ends b hb) ag.same_files

  module _ (n : ℕ) (op : closed n ≡ false) {at size : ℕ} (i : Inside a.records n at size) where
    -- the same file on the other side
    abbrev across : Inside b.records n at size
    across = record {
      file = i.file;
      found = subst (λ (rs : List FileRecord). find n rs ≡ Some i.file) same_records i.found;
      from = i.from;
      upto = i.upto;
    }

    same_read : take size (drop at a.memory) ≡ take size (drop at b.memory)
    same_read =
        read_inside a ha n i ∙ ap (λ (bs : List ℕ). take size (drop (at - i.file.start) bs)) (ag.same_open n op) ∙ sym (read_inside b hb n across)

  -- bytes are laid inside an open file
  laid : (n : ℕ) → closed n ≡ false → (at : ℕ) (bs : List ℕ) → Inside a.records n at (length bs)
      → Isolated closed a b (after a (lays at bs)) (after b (lays at bs))
  laid n op at bs i = record {
    sound_left = write_sound a ha n at bs i;
    sound_right = write_sound b hb n at bs j;
    agree_after = record {
      same_size = unfold after in write_length a ha n at bs i ∙ ag.same_size ∙ sym (write_length b hb n at bs j);
      same_text = unfold after in ag.same_text;
      same_log = unfold after in ag.same_log;
      same_files = unfold after in ag.same_files;
      same_open = λ k h. open_k k h (ℕ_discrete n k);
    };
    kept_left = record { kept_bytes = λ k h. write_other a ha n at bs i k (differ k h) };
    kept_right = record { kept_bytes = λ k h. write_other b hb n at bs j k (differ k h) };
  }
    where
      j : Inside b.records n at (length bs)
      j = across n op i

      differ : (k : ℕ) → closed k ≡ true → n ≡ k → ⊥
      differ k h e = false≢true (sym op ∙ ap closed e ∙ h)

      open_k : (k : ℕ) → closed k ≡ false → Dec (n ≡ k) → contents (after a (lays at bs)) k ≡ contents (after b (lays at bs)) k
      open_k k h (yes e) =
          let at_n : contents (after a (lays at bs)) n ≡ contents (after b (lays at bs)) n =
          write_same a ha n at bs i ∙ ap (λ (x : List ℕ). put x (at - i.file.start) bs) (ag.same_open n op) ∙ sym (write_same b hb n at bs j) in
          subst (λ (m : ℕ). contents (after a (lays at bs)) m ≡ contents (after b (lays at bs)) m) e at_n
      open_k k h (no ne) = write_other a ha n at bs i k ne ∙ ag.same_open k h ∙ sym (write_other b hb n at bs j k ne)

  isolated_ask : (c : List ℕ) (q : Ask) → Asked (Open closed) a.records q → Isolated₁ closed a b (perform a c q) (perform b c q)
  unfolding perform
  isolated_ask c (fail n x) h = stay _ _ refl
  isolated_ask c (tell bs) h = stay _ _ refl
  isolated_ask c pop h = isolated_pop c a.datalog b.datalog ag.same_log
  isolated_ask c (read at size) h = stay _ _ (ap (λ (bs : List ℕ). replied (framed c 0 bs)) (same_read h.number h.allowed h.inside))
  isolated_ask c (write at mask vs) h =
      let bs : List ℕ = masked_at a.memory at mask vs in
      let e : bs ≡ masked_at b.memory at mask vs = unfold masked_at in ap (λ (os : List ℕ). masked mask os vs) (same_read h.number h.allowed h.inside) in (
        refl,
        subst (λ (x : List ℕ). Isolated closed a b (after a (lays at bs)) (after b (lays at x))) e
            (laid h.number h.allowed at bs (write_inside a ha h.number at mask vs h.inside)),
      )

  isolated_step : (c : List ℕ) (room : ℕ) → avoids closed c ≡ true → Isolated₁ closed a b (step a c room) (step b c room)
  unfolding step refuse
  isolated_step c room av = rw (ha, hb) (go (leb 514 room) (well_formed c) refl)
    where
      obeyed : well_formed c ≡ true → Isolated₁ closed a b (obey a c) (obey b c)
      obeyed w =
          let q : Ask = ask a.records a.type_text (cmd c) (function c) in
          unfold obey in subst (λ (x : Ask). Isolated₁ closed a b (perform a c q) (perform b c x))
          (ap₂ (λ (rs : List FileRecord) (text : List ℕ). ask rs text (cmd c) (function c)) same_records ag.same_text)
          (isolated_ask c q (open_asked closed a.records a.type_text c w av))

      go : (r w : Bool) → well_formed c ≡ w → Isolated₁ closed a b (cond r (cond w (obey a c) (refuse MalformedCommand)) (refuse ShortReplyMemory)) (cond r (cond w (obey b c) (refuse MalformedCommand)) (refuse ShortReplyMemory))
      go false w e = stay _ _ refl
      go true false e = stay _ _ refl
      go true true e = obeyed e

  isolated_call : (c d : Call) → c.command ≡ d.command → length c.memory ≡ length d.memory → avoids closed c.command ≡ true
      → Isolated₁ closed a b (step_of a c) (step_of b d)
  unfolding step_of
  isolated_call c d ec em av =
      subst₂ (λ (x : List ℕ) (n : ℕ). Isolated₁ closed a b (step a c.command (length c.memory)) (step b x n)) ec em
      (isolated_step c.command (length c.memory) av)

-- one command, and then what follows it
after_first : (closed : ℕ → Bool) {a b x y u v : State} → Isolated closed a b x y → Isolated closed x y u v → Isolated closed a b u v
after_first closed i j = record {
  sound_left = j.sound_left;
  sound_right = j.sound_right;
  agree_after = j.agree_after;
  kept_left = record { kept_bytes = λ n h. j.kept_left.kept_bytes n h ∙ i.kept_left.kept_bytes n h };
  kept_right = record { kept_bytes = λ n h. j.kept_right.kept_bytes n h ∙ i.kept_right.kept_bytes n h };
}

-- Demand 3.
pub closed_file_rule : ClosedFileRule
unfolding run all_avoid next
closed_file_rule closed a b cs ds ha hb ag none_left av = (refl, nothing_moved closed a b ha hb ag)
closed_file_rule closed a b cs ds ha hb ag (one_more {c = c} {d = d} {cs = cs'} {ds = ds'} ec em same) av =
    let i : Isolated₁ closed a b (step_of a c) (step_of b d) = isolated_call closed a b ha hb ag c d ec em (and_l _ (all_avoid closed cs') av) in
    let r : ((run (next a c) cs').answers ≡ (run (next b d) ds').answers) × Isolated closed (next a c) (next b d) (run (next a c) cs').last (run (next b d) ds').last =
    closed_file_rule closed (next a c) (next b d) cs' ds' i.1.sound_left i.1.sound_right i.1.agree_after same (and_r (avoids closed c.command) _ av) in
    (ap₂ ◌∷◌ i.0 r.0, after_first closed i.1 r.1)

-- The rule isn't empty: two processors that differ in the bytes of a closed file agree ..
pub differ_in_closed : (closed : ℕ → Bool) (a : State) → sound a ≡ true → (f : ℕ) → closed f ≡ true → (at : ℕ) (bs : List ℕ) → Inside a.records f at (length bs)
    → Agree closed a (after a (lays at bs))
differ_in_closed closed a ha f cf at bs i = record {
  same_size = unfold after in sym (write_length a ha f at bs i);
  same_text = unfold after in refl;
  same_log = unfold after in refl;
  same_files = unfold after in refl;
  same_open = λ n h. sym (write_other a ha f at bs i n (λ e. false≢true (sym h ∙ ap closed (sym e) ∙ cf)));
}

same_calls : (cs : List Call) → SameCalls cs cs
same_calls [] = none_left
same_calls (c ∷ cs) = one_more refl refl (same_calls cs)

-- .. so the answers to commands that avoid it don't depend on its bytes.
pub no_byte_learned : (closed : ℕ → Bool) (a : State) → sound a ≡ true → (f : ℕ) → closed f ≡ true → (at : ℕ) (bs : List ℕ) → Inside a.records f at (length bs)
    → (cs : List Call) → all_avoid closed cs ≡ true → (run a cs).answers ≡ (run (after a (lays at bs)) cs).answers
no_byte_learned closed a ha f cf at bs i cs av =
    (closed_file_rule closed a (after a (lays at bs)) cs cs ha (write_sound a ha f at bs i) (differ_in_closed closed a ha f cf at bs i) (same_calls cs) av).0
