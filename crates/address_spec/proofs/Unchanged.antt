-- For a tag of bytes below 128 every answer is document 01's.
use Rattle.std.specs.Prelude.{Option, Ok, Err}
use Prim.Native.Nat.{ℕ, zero, suc, min, ◌-◌, ◌<◌}
use Prim.Native.Char.{Char}
use mathlib.Core.Path.{◌≡◌, refl, ap, ap₂, subst, ◌∙◌}
use mathlib.Core.List.{List, [], ◌∷◌}
use mathlib.Core.Bool.{Bool, true, false, ◌&&◌, cond}
use borrow.Author.Tests.{ltb-true}
use lib.Dec.{leb, ltb, eqb}
use lib.ListN.{length, drop}
use Rattle.base.proofs.EveryPlace.{both}
use Rattle.base.specs.declared.refusal.Refusal.TheVariants.{MalformedTag}
use Rattle.parser_spec.specs.DecimalNumbers.{digit_run}
use Rattle.parser_spec.specs.Parts.{Part, then, at_end, ended, whole, here, any_byte, one}
use Rattle.parser_spec.specs.Characters.{table, character_in, character, characters, well_formed, utf8, bytewise, letter_of, first_of}
use Rattle.parser_spec.proofs.Held.{nothing, that}
use Rattle.parser_spec.proofs.Behind.{Leaves, any_leaves}
use Rattle.parser_spec.proofs.Written.{behind_same}
use Rattle.parser_spec.proofs.Characters.{small_character, small_capital, formed_next, letter_by_leaves, first_by_leaves, first_by}
use Rattle.address_spec.specs.Spelling.{cut, cuts, element_name, ct, lfbn, slot, io, st_or_a, sta, status, bits, or_try, last_forms, separates, form_of, accepted, ascii, address_of, base_address_of, Unchanged}
use Rattle.address_spec.specs.declared.Address.{Address}
use Rattle.address_spec.proofs.PhrasesLeave.{file_leaves}
use Rattle.address_spec.proofs.Ranges.{refused}

-- ---- what stands behind a part has bytes below 128 too
rest : (k : ℕ) (s : List ℕ) → ascii s ≡ true → ascii (drop k s) ≡ true
unfolding ascii
rest zero s e = e
rest (suc k) [] e = refl
rest (suc k) (b ∷ s) e = rest k s (both (ltb b 128) (ascii s) e).1

module _ {A B : Type 0} {s : List ℕ} (e : ascii s ≡ true) where
  -- two parts of which the first give the same, and what follows them too
  alike : {x y : Option (A × List ℕ)} {k l : A → Part B} → x ≡ y → Leaves s y → ((v : A) (r : List ℕ) → ascii r ≡ true → k v r ≡ l v r) → then x k ≡ then y l
  unfolding then
  alike {k} {l} p h f = behind_same k p ∙ go h
    where
      go : {z : Option (A × List ℕ)} → Leaves s z → then z k ≡ then z l
      go nothing = refl
      go (that {v = v} {r = r} b) = f v r (subst (λ (q : List ℕ). ascii q ≡ true) b.is (rest (length s - length r) s e))

-- ---- one character, and the letters
-- by tests that pass the same below 128
one_alike : (f g : ℕ → Bool) → ((x : ℕ) → x < 128 → f x ≡ g x) → (s : List ℕ) → ascii s ≡ true → one character f s ≡ one any_byte g s
unfolding one any_byte ascii character_in table then
one_alike f g h [] e = refl
one_alike f g h (b ∷ s) e = let l = ltb-true b 128 (both (ltb b 128) (ascii s) e).0 in behind_same _ (small_character b s l) ∙ ap (λ (t : Bool). here t s) (h b l)

letter_alike : (v : ℕ) (s : List ℕ) → ascii s ≡ true → letter_of utf8 v s ≡ letter_of bytewise v s
unfolding letter_of
letter_alike v s e = one_alike _ _ (λ x h. ap (λ (y : ℕ). eqb y v) (small_capital x h)) s e

first_alike : {A : Type 0} (xs : List (Char × A)) (s : List ℕ) → ascii s ≡ true → first_of utf8 xs s ≡ first_of bytewise xs s
first_alike xs s e = first_by utf8 bytewise s s (λ v. letter_alike v s e) xs

-- ---- the forms
module _ (separator : ℕ → Bool) where
  cuts_alike : (k : ℕ) (s : List ℕ) → ascii s ≡ true → cuts character separator k s ≡ cuts any_byte separator k s
  unfolding cuts cut
  cuts_alike zero s e = refl
  cuts_alike (suc k) s e = simp (one_alike separator separator (λ x h. refl) (drop (suc k) s) (rest (suc k) s e), cuts_alike k s e)

  ct_alike : (tag : List ℕ) → ascii tag ≡ true → ct utf8 separator tag ≡ ct bytewise separator tag
  unfolding ct whole element_name
  ct_alike tag e =
      ap ended (alike e (first_alike _ tag e) (first_by_leaves bytewise any_leaves _ tag) λ t r a. alike a refl (file_leaves _ r) λ f q b.
      behind_same _ (cuts_alike (min (digit_run q) 3) q b))

module _ (tag : List ℕ) (e : ascii tag ≡ true) where
  lfbn_alike : lfbn utf8 tag ≡ lfbn bytewise tag
  unfolding lfbn whole
  lfbn_alike = ap ended (behind_same _ (first_alike _ tag e))

  io_alike : io utf8 tag ≡ io bytewise tag
  unfolding io slot whole
  io_alike = ap ended (behind_same _ (behind_same _ (first_alike _ tag e)))

  st_alike : (st : Bool) → st_or_a utf8 st tag ≡ st_or_a bytewise st tag
  unfolding st_or_a
  st_alike true = alike e (letter_alike _ tag e) (letter_by_leaves bytewise any_leaves _ tag) λ u r a. behind_same _ (letter_alike _ r a)
  st_alike false = behind_same _ (letter_alike _ tag e)

  sta_alike : (st : Bool) → sta utf8 st tag ≡ sta bytewise st tag
  unfolding sta whole
  sta_alike st = ap ended (behind_same _ (st_alike st))

  status_alike : status utf8 tag ≡ status bytewise tag
  unfolding status whole
  status_alike = ap ended (behind_same _ (letter_alike _ tag e))

  bits_alike : bits utf8 tag ≡ bits bytewise tag
  unfolding bits whole
  bits_alike = ap ended (behind_same _ (letter_alike _ tag e))

  form_alike : (separator : ℕ → Bool) → form_of utf8 separator tag ≡ form_of bytewise separator tag
  unfolding form_of last_forms
  form_alike separator =
      ap₂ or_try (ct_alike separator tag e) (ap₂ or_try lfbn_alike (ap₂ or_try io_alike (ap₂ or_try (sta_alike true) (ap₂ or_try (sta_alike false) (ap₂ or_try status_alike bits_alike)))))

-- ---- questions 1 and 2
pub small_formed : (s : List ℕ) → ascii s ≡ true → well_formed s ≡ true
unfolding ascii well_formed characters at_end
small_formed [] e = refl
small_formed (b ∷ s) e =
    let p = both (ltb b 128) (ascii s) e in
    formed_next (b ∷ s) b s (small_character b s (ltb-true b 128 p.0)) ∙ small_formed s p.1

pub unchanged : Unchanged
unfolding address_of base_address_of
unchanged tag e = rw (small_formed tag e, e, form_alike tag e separates)

-- what document 01 accepts is accepted as it was
pub stays : (tag : List ℕ) (x : Address) → base_address_of tag ≡ Ok x → address_of tag ≡ Ok x
unfolding base_address_of
stays tag x e = go (leb (length tag) 255) (ascii tag) refl e
  where
    go : (l t : Bool) → ascii tag ≡ t → cond (l && t) (accepted (form_of bytewise separates tag)) (Err MalformedTag) ≡ Ok x → address_of tag ≡ Ok x
    go l true a q = unchanged tag a ∙ e
    go true false a q = refused q
    go false false a q = refused q
