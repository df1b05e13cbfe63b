-- What every command leaves: a sound state stays sound in memory of the same size, and any status but 0, and any refusal, changes nothing.
use Prim.Native.Nat.{ℕ, ◌+◌, ◌≤◌}
use mathlib.Core.Path.{◌≡◌, refl, sym, ap, subst, ◌∙◌}
use mathlib.Core.List.{List, [], ◌∷◌}
use mathlib.Core.Bool.{true}
use native.Mathlib.Omega.{arith}
use borrow.Author.Tests.{leb-true}
use lib.Dec.{leb}
use lib.ListN.{length, get_or, take}
use lib.Seq.{length-take-le, get_or-append-add}
use Rattle.base.specs.declared.refusal.Refusal.{Refusal}
use Rattle.processor_spec.specs.Ask.{Ask, fail, tell, pop, read, write, ask}
use Rattle.processor_spec.specs.Frame.{well_formed, requester, cmd, function, framed, status}
use Rattle.processor_spec.specs.Masked.{masked_at}
use Rattle.processor_spec.specs.State.{State, sound}
use Rattle.processor_spec.specs.Step.{refused, replied, Effect, keeps, takes, lays, Step, after, popped, perform, obey, refuse, step}
use Rattle.processor_spec.proofs.Asked.{Asked, ask_asked}
use Rattle.processor_spec.proofs.Files.{Inside, inside_fits, write_length, write_sound, pop_sound, written_length}
use Rattle.processor_spec.proofs.Tests.{and_l, and_r, cases}

-- the bytes that a write lays lie where its values were to go
pub write_inside : (s : State) → sound s ≡ true → (n at mask : ℕ) (vs : List ℕ) → Inside s.records n at (length vs)
    → Inside s.records n at (length (masked_at s.memory at mask vs))
write_inside s h n at mask vs i = subst (λ (k : ℕ). Inside s.records n at k) (sym (written_length s.memory at mask vs (inside_fits s h n i))) i

-- soundness is kept by every step, and so is the size of the data memory
abbrev Well : State → Effect → Type 0
Well s e = (sound (after s e) ≡ true) × (length (after s e).memory ≡ length s.memory)

module _ (s : State) (h : sound s ≡ true) where
  keeps_well : Well s keeps
  unfolding after
  keeps_well = (h, refl)

  popped_well : (c : List ℕ) (d : List (List ℕ)) → Well s (popped c d).effect
  unfolding popped
  popped_well c [] = keeps_well
  popped_well c (e ∷ es) = (pop_sound s h, unfold after in refl)

  lays_well : (n at : ℕ) (bs : List ℕ) → Inside s.records n at (length bs) → Well s (lays at bs)
  unfolding after
  lays_well n at bs i = (write_sound s h n at bs i, write_length s h n at bs i)

  perform_well : (P : ℕ → Type 0) (c : List ℕ) (q : Ask) → Asked P s.records q → Well s (perform s c q).effect
  unfolding perform
  perform_well P c (fail n x) a = keeps_well
  perform_well P c (tell bs) a = keeps_well
  perform_well P c pop a = popped_well c s.datalog
  perform_well P c (read at size) a = keeps_well
  perform_well P c (write at mask vs) a =
      lays_well a.number at (masked_at s.memory at mask vs) (write_inside s h a.number at mask vs a.inside)

  obey_well : (c : List ℕ) → Well s (obey s c).effect
  unfolding obey
  obey_well c =
      let q : Ask = ask s.records s.type_text (cmd c) (function c) in
      perform_well (λ n. Unit {0}) c q (ask_asked (λ n. Unit {0}) s.records s.type_text (cmd c) (function c) (λ fn ps e f. λ x g nd nl. tt))

  pub step_well : (c : List ℕ) (room : ℕ) → Well s (step s c room).effect
  unfolding step refuse
  step_well c room =
      let Kept : Step → Type 0 = λ x. Well s x.effect in
      cases Kept (sound s) _ _
      (λ _. cases Kept (leb 514 room) _ _ (λ _. cases Kept (well_formed c) _ _ (λ _. obey_well c) (λ _. keeps_well)) (λ _. keeps_well))
      (λ _. keeps_well)

  pub step_sound : (c : List ℕ) (room : ℕ) → sound (after s (step s c room).effect) ≡ true
  step_sound c room = (step_well c room).0

  pub step_length : (c : List ℕ) (room : ℕ) → length (after s (step s c room).effect).memory ≡ length s.memory
  step_length c room = (step_well c room).1

-- any status but 0 changes no file and no datalog, and a refusal changes nothing
framed_status : (c : List ℕ) (n : ℕ) (bs : List ℕ) → well_formed c ≡ true → status c (framed c n bs) ≡ n
unfolding status framed requester well_formed
framed_status c n bs w =
    let l : get_or c 0 0 + 4 ≤ length c = leb-true (get_or c 0 0 + 4) (length c) (search (and_l, and_r)) in
    let e : length (take (get_or c 0 0) c) ≡ get_or c 0 0 = length-take-le (get_or c 0 0) c (omega arith) in
    ap (λ (k : ℕ). get_or (framed c n bs) (k + 1) 0) (sym e) ∙ get_or-append-add (take (get_or c 0 0) c) _ 1 0

abbrev Quiet : List ℕ → Step → Type 0
Quiet c x = (bs : List ℕ) → x.answer ≡ replied bs → (status c bs ≡ 0 → ⊥) → x.effect ≡ keeps

done_quiet : (c : List ℕ) → well_formed c ≡ true → (bs : List ℕ) (e : Effect) → Quiet c (record { answer = replied (framed c 0 bs); effect = e })
done_quiet c w bs e out p ne =
    let q : framed c 0 bs ≡ out = cc in
    absurd (ne (ap (status c) (sym q) ∙ framed_status c 0 bs w))

module _ (s : State) (c : List ℕ) (w : well_formed c ≡ true) where
  popped_quiet : (d : List (List ℕ)) → Quiet c (popped c d)
  unfolding popped
  popped_quiet [] bs p ne = refl
  popped_quiet (e ∷ es) bs p ne = done_quiet c w e takes bs p ne

  perform_quiet : (q : Ask) → Quiet c (perform s c q)
  unfolding perform
  perform_quiet (fail n x) bs p ne = refl
  perform_quiet (tell x) bs p ne = refl
  perform_quiet pop bs p ne = popped_quiet s.datalog bs p ne
  perform_quiet (read at size) bs p ne = refl
  perform_quiet (write at mask vs) bs p ne = done_quiet c w [] (lays at (masked_at s.memory at mask vs)) bs p ne

pub status_keeps : (s : State) (c : List ℕ) (room : ℕ) (bs : List ℕ) → (step s c room).answer ≡ replied bs → (status c bs ≡ 0 → ⊥)
    → (step s c room).effect ≡ keeps
unfolding step refuse obey
status_keeps s c room =
    cases (Quiet c) (sound s) _ _
    (λ _. cases (Quiet c) (leb 514 room) _ _
    (λ _. cases (Quiet c) (well_formed c) _ _ (λ w. perform_quiet s c w (ask s.records s.type_text (cmd c) (function c))) (λ _ bs p ne. refl))
    (λ _ bs p ne. refl))
    (λ _ bs p ne. refl)

abbrev Unmoved : Step → Type 0
Unmoved x = (n : Refusal) → x.answer ≡ refused n → x.effect ≡ keeps

perform_unmoved : (s : State) (c : List ℕ) (q : Ask) → Unmoved (perform s c q)
unfolding perform popped
perform_unmoved s c (fail n x) k e = refl
perform_unmoved s c (tell x) k e = refl
perform_unmoved s c pop k e = go s.datalog e
  where
    go : (d : List (List ℕ)) → (popped c d).answer ≡ refused k → (popped c d).effect ≡ keeps
    go [] e = refl
    go (x ∷ xs) e = let z : ◌≡◌ {A = ℕ} 0 1 = cc in absurd (omega arith)
perform_unmoved s c (read at size) k e = refl
perform_unmoved s c (write at mask vs) k e = let z : ◌≡◌ {A = ℕ} 0 1 = cc in absurd (omega arith)

pub refusal_keeps : (s : State) (c : List ℕ) (room : ℕ) (n : Refusal) → (step s c room).answer ≡ refused n → (step s c room).effect ≡ keeps
unfolding step refuse obey
refusal_keeps s c room =
    cases Unmoved (sound s) _ _
    (λ _. cases Unmoved (leb 514 room) _ _
    (λ _. cases Unmoved (well_formed c) _ _ (λ w. perform_unmoved s c (ask s.records s.type_text (cmd c) (function c))) (λ _ n e. refl))
    (λ _ n e. refl))
    (λ _ n e. refl)
