-- Every accepted address is in range: its type, file, element, position and count are among those that can be spelled.
use Rattle.std.specs.Prelude.{Option, None, Some, Ok, Err}
use Prim.Native.Nat.{ℕ, ◌/◌, ◌≤◌}
use mathlib.Core.Path.{◌≡◌, refl}
use mathlib.Core.Logic.{◌⊎◌, inl, inr}
use mathlib.Core.List.{List}
use mathlib.Core.Bool.{Bool, true, false, ◌&&◌, cond}
use native.Mathlib.Omega.{arith}
use borrow.Author.Tests.{le-leb, leb-true, eqb-true}
use lib.Dec.{leb, eqb}
use lib.ListN.{length}
use Rattle.base.proofs.EveryPlace.{both}
use Rattle.base.specs.declared.refusal.Refusal.{Refusal}
use Rattle.base.specs.declared.refusal.Refusal.TheVariants.{MalformedTag}
use Rattle.file_type.specs.declared.FileType.{FileType}
use Rattle.file_type.specs.declared.FileType.TheVariants.{O, I, S, B, T, C, R, N, F, ST, A, L, MG, PD, PLS}
use Rattle.parser_spec.specs.Parts.{digits_in}
use Rattle.parser_spec.specs.Characters.{well_formed, Alphabet, utf8}
use Rattle.parser_spec.proofs.Characters.{first_held}
use Rattle.parser_spec.proofs.Held.{Holds, that, and_next, and_any, held_of, whole_some, after_held, here_held, in_held, one_or_two_held}
use Rattle.address_spec.specs.Elements.{Elements, elements_of, filed, slotted, allowed, spellable}
use Rattle.address_spec.specs.Spelling.{file_before, optional_position, slots, slot, st_or_a, ct, lfbn, io, sta, status, bits, or_try, last_forms, separates, form_of, accepted, address_of}
use Rattle.address_spec.specs.declared.Address.{Address}

abbrev pub CanSpell : Address → Type 0
CanSpell x = spellable (elements_of x) ≡ true

abbrev Can : Address → List ℕ → Type 0
Can x r = CanSpell x

abbrev elements : FileType → ℕ → ℕ → ℕ → ℕ → Elements
elements t f e p n = record { type = t; file = f; element = e; position = p; count = n }

-- ---- the parts
pub file_held : (v : ℕ) (s : List ℕ) → Holds (λ (f : ℕ) (r : List ℕ). (1 ≤ f) × (f ≤ 255)) (file_before v s)
unfolding file_before
file_held v s = and_next (in_held 3 1 255 s) λ f r h. and_any _ λ _ r. that h

pub position_held : (s : List ℕ) → Holds (λ (n : ℕ) (r : List ℕ). (0 ≤ n) × (n ≤ 999)) (optional_position s)
unfolding optional_position
position_held s = after_held 46 (digits_in 3 0 999) 0 s (in_held 3 0 999) (omega arith, omega arith)

-- of I and O the letter gives the file
abbrev Slotted : FileType × ℕ → Type 0
Slotted t = (e p n : ℕ) → e ≤ 255 → p ≤ 999 → spellable (elements t.0 t.1 e p n) ≡ true

slot_held : (alphabet : Alphabet) (s : List ℕ) → Holds (λ (t : FileType × ℕ) (r : List ℕ). Slotted t) (slot alphabet s)
unfolding slot spellable
slot_held alphabet s = and_next (first_held alphabet Slotted slots (each, (each, tt)) s) λ t r h. and_any _ λ _ r. and_any _ λ _ r. that h
  where
    each : (e p n : ℕ) → e ≤ 255 → p ≤ 999 → (leb e 255 && leb p 999) ≡ true
    each e p n u v = rw (le-leb e 255 u, le-leb p 999 v)

-- file 1 to 255, element to 255, no position
abbrev Filed : (ℕ → Type 0) → FileType → Type 0
Filed P t = (f e n : ℕ) → 1 ≤ f → f ≤ 255 → e ≤ 255 → P n → spellable (elements t f e 0 n) ≡ true

abbrev Any : ℕ → Type 0
Any n = Unit {0}

abbrev One : ℕ → Type 0
One n = n ≡ 1

filed_yes : (t : FileType) (f e n : ℕ) → 1 ≤ f → f ≤ 255 → e ≤ 255 → filed (elements t f e 0 n) ≡ true
filed_yes t f e n l u v = rw (le-leb 1 f l, le-leb f 255 u, le-leb e 255 v)

timed : (t : FileType) (f e n : ℕ) → 1 ≤ f → f ≤ 255 → e ≤ 255 → n ≡ 1 → (filed (elements t f e 0 n) && eqb n 1) ≡ true
timed t f e n l u v w = rw (le-leb 1 f l, le-leb f 255 u, le-leb e 255 v, w)

abbrev Count : Bool → ℕ → Type 0
Count true n = (1 ≤ n) × (n ≤ 2)
Count false n = Unit {0}

-- ---- the forms, of any alphabet
module _ (alphabet : Alphabet) (tag : List ℕ) (x : Address) where
  ct_can : (separator : ℕ → Bool) → ct alphabet separator tag ≡ Some x → CanSpell x
  unfolding ct spellable
  ct_can separator k =
      held_of {P = Can} (and_next (first_held alphabet (Filed One) _ (timed C, (timed T, tt)) tag) λ t r h. and_next (file_held 58 r) λ f r u.
      and_any _ λ y r. and_next (here_held (leb y.0 255) r) λ _ r v. that (h f y.0 1 u.0 u.1 (leb-true _ _ v.0) refl)) (whole_some _ tag x k)

  lfbn_can : lfbn alphabet tag ≡ Some x → CanSpell x
  unfolding lfbn spellable
  lfbn_can k =
      held_of {P = Can} (and_next (first_held alphabet (Filed Any) _ (each L, (each F, (each B, (each N, tt)))) tag) λ t r h. and_next (file_held 58 r) λ f r u.
      and_next (in_held 3 0 255 r) λ e r v. and_any _ λ y r. that (h f e y.1 u.0 u.1 v.1 tt)) (whole_some _ tag x k)
    where
      each : (t : FileType) (f e n : ℕ) → 1 ≤ f → f ≤ 255 → e ≤ 255 → Unit {0} → filed (elements t f e 0 n) ≡ true
      each t f e n l u v w = filed_yes t f e n l u v

  io_can : io alphabet tag ≡ Some x → CanSpell x
  unfolding io
  io_can k =
      held_of {P = Can} (and_next (slot_held alphabet tag) λ t r h. and_next (in_held 3 0 255 r) λ e r u. and_next (position_held r) λ p r v.
      and_any _ λ y r. that (h e p y.1 u.1 v.1)) (whole_some _ tag x k)

  st_can : sta alphabet true tag ≡ Some x → CanSpell x
  unfolding sta st_or_a spellable
  st_can k =
      held_of {P = Can} (and_next (st_held tag) λ t r h. and_next (file_held 58 r) λ f r u. and_next (in_held 4 0 255 r) λ e r v.
      and_next (one_or_two_held r) λ n r w. that (h f e n u.0 u.1 v.1 w)) (whole_some _ tag x k)
    where
      each : (f e n : ℕ) → 1 ≤ f → f ≤ 255 → e ≤ 255 → Count true n → (filed (elements ST f e 0 n) && (leb 1 n && leb n 2)) ≡ true
      each f e n l u v w = rw (le-leb 1 f l, le-leb f 255 u, le-leb e 255 v, le-leb 1 n w.0, le-leb n 2 w.1)

      st_held : (s : List ℕ) → Holds (λ (t : FileType) (r : List ℕ). Filed (Count true) t) (st_or_a alphabet true s)
      st_held s = and_any _ λ _ r. and_any _ λ _ r. that each

  a_can : sta alphabet false tag ≡ Some x → CanSpell x
  unfolding sta st_or_a spellable
  a_can k =
      held_of {P = Can} (and_next (a_held tag) λ t r h. and_next (file_held 58 r) λ f r u. and_next (in_held 4 0 255 r) λ e r v.
      and_any _ λ n r. that (h f e n u.0 u.1 v.1 tt)) (whole_some _ tag x k)
    where
      a_held : (s : List ℕ) → Holds (λ (t : FileType) (r : List ℕ). Filed Any t) (st_or_a alphabet false s)
      a_held s = and_any _ λ _ r. that (λ f e n l u v w. filed_yes A f e n l u v)

  s_can : status alphabet tag ≡ Some x → CanSpell x
  unfolding status spellable
  s_can k =
      held_of {P = Can} (and_any _ λ _ r. and_any _ λ _ r. and_next (in_held 3 0 255 r) λ e r v. and_any _ λ y r.
      that (rw (le-leb e 255 v.1))) (whole_some _ tag x k)

  b_can : bits alphabet tag ≡ Some x → CanSpell x
  unfolding bits spellable
  b_can k =
      held_of {P = Can} (and_any _ λ _ r. and_next (file_held 47 r) λ f r u. and_next (in_held 4 0 4095 r) λ y r v. and_any _ λ n r.
      that (filed_yes B f (y / 16) n u.0 u.1 (omega (arith, v.1)))) (whole_some _ tag x k)

-- ---- the forms in turn
pub one_of : {X : Type 0} (y z : Option Address) {x : Address} → (y ≡ Some x → X) → (z ≡ Some x → X) → or_try y z ≡ Some x → X
unfolding or_try
one_of None z f g e = g e
one_of (Some v) z f g e = f e

pub form_can : (alphabet : Alphabet) (separator : ℕ → Bool) (tag : List ℕ) (x : Address) → form_of alphabet separator tag ≡ Some x → CanSpell x
unfolding form_of last_forms
form_can alphabet separator tag x =
    one_of _ _ (ct_can alphabet tag x separator) (one_of _ _ (lfbn_can alphabet tag x) (one_of _ _ (io_can alphabet tag x) (one_of _ _ (st_can alphabet tag x) (one_of _ _ (a_can alphabet tag x) (one_of _ _ (s_can alphabet tag x) (b_can alphabet tag x))))))

pub refused : {X : Type 0} {n : Refusal} {y : Address} → Err n ≡ Ok y → X
refused e = absurd (cc)

pub can : (tag : List ℕ) (x : Address) → address_of tag ≡ Ok x → CanSpell x
unfolding address_of
can tag x = go (leb (length tag) 255 && well_formed tag) (form_of utf8 separates tag) (form_can utf8 separates tag x)
  where
    go : (t : Bool) (z : Option Address) → (z ≡ Some x → CanSpell x) → cond t (accepted z) (Err MalformedTag) ≡ Ok x → CanSpell x
    go false z h q = refused q
    go true None h q = refused q
    go true (Some y) h q = h (cc)

-- ---- how large the numbers are; position 0, or a file of at most 1: so the address fields of a request need at most seven bytes
never : {X : Type 0} → false ≡ true → X
never e = absurd (let z : ◌≡◌ {A = ℕ} 0 1 = cc in omega arith)

pub record Ranged (x : Elements) : Type 0 where
  pub file : x.file ≤ 255
  pub element : x.element ≤ 255
  pub position : x.position ≤ 999
  pub small : (x.position ≡ 0) ⊎ (x.file ≤ 1)

module _ (x : Elements) where
  unplaced : (b : Bool) → (b ≡ true → x.file ≤ 255) → (b && leb x.element 255 && eqb x.position 0) ≡ true → Ranged x
  unplaced b f h =
      let p = both (b && leb x.element 255) (eqb x.position 0) h in
      let n = both b (leb x.element 255) p.0 in
      let z : x.position ≡ 0 = eqb-true x.position 0 p.1 in
      record { file = f n.0; element = leb-true _ _ n.1; position = omega arith; small = inl z }

  numbered : filed x ≡ true → Ranged x
  numbered h = unplaced (leb 1 x.file && leb x.file 255) (λ k. leb-true _ _ (both (leb 1 x.file) (leb x.file 255) k).1) h

  counted : (b : Bool) → (filed x && b) ≡ true → Ranged x
  counted b h = numbered (both (filed x) b h).0

  fixed : (f : ℕ) → f ≤ 1 → slotted f x ≡ true → Ranged x
  fixed f l h =
      let p = both (eqb x.file f && leb x.element 255) (leb x.position 999) h in
      let n = both (eqb x.file f) (leb x.element 255) p.0 in
      let e : x.file ≡ f = eqb-true x.file f n.0 in
      record { file = omega arith; element = leb-true _ _ n.1; position = leb-true _ _ p.1; small = inr (omega arith) }

  by_type : (t : FileType) → allowed t x ≡ true → Ranged x
  by_type O h = fixed 0 (omega arith) h
  by_type I h = fixed 1 (omega arith) h
  by_type S h = unplaced (eqb x.file 2) (λ k. let e : x.file ≡ 2 = eqb-true x.file 2 k in omega arith) h
  by_type B h = numbered h
  by_type T h = counted (eqb x.count 1) h
  by_type C h = counted (eqb x.count 1) h
  by_type R h = never h
  by_type N h = numbered h
  by_type F h = numbered h
  by_type ST h = counted (leb 1 x.count && leb x.count 2) h
  by_type A h = numbered h
  by_type L h = numbered h
  by_type MG h = never h
  by_type PD h = never h
  by_type PLS h = never h

  pub ranged_elements : spellable x ≡ true → Ranged x
  unfolding spellable
  ranged_elements h = by_type x.type h

pub ranged : (tag : List ℕ) (x : Address) → address_of tag ≡ Ok x → Ranged (elements_of x)
ranged tag x e = ranged_elements (elements_of x) (can tag x e)
