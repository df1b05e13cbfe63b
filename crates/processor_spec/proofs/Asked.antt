-- What a command asks of the data memory lies in the file that stands in its file place.
use Rattle.std.specs.Prelude.{Option, None, Some}
use Prim.Native.Nat.{ℕ, ◌+◌, ◌*◌}
use mathlib.Core.Path.{◌≡◌, refl, sym, subst, ◌∙◌}
use mathlib.Core.List.{List, [], ◌∷◌}
use mathlib.Core.Bool.{Bool, true, false, ◌&&◌, cond, false≢true}
use borrow.Author.Tests.{eqb-true, leb-true}
use lib.Dec.{eqb, leb}
use lib.ListN.{length}
use lib.Seq.{length-take-le}
use Rattle.parser_spec.proofs.Held.{Holds, nothing, that, weaker, and_next, and_any}
use Rattle.directory_sys0.specs.declared.Sys0Info.{Sys0Info}
use Rattle.directory_sys0.specs.Families.{sys0}
use Rattle.processor_spec.specs.declared.FileRecord.{FileRecord}
use Rattle.processor_spec.specs.Ask.{Ask, fail, tell, pop, read, write, illegal, bad, or_bad, ask_directory, place, ask_file, ask_function, ask}
use Rattle.processor_spec.specs.Directory.{directory}
use Rattle.processor_spec.specs.Files.{locate}
use Rattle.processor_spec.specs.Params.{several, Header, header, known_function, writes, asks_directory, asks_datalog, last_address, mask_word, value_bytes}
use Rattle.processor_spec.proofs.Files.{Inside, located}
use Rattle.processor_spec.proofs.Tests.{cases}

-- so many bytes from a place on lie in a file of which P holds
pub record Touches (P : ℕ → Type 0) (rs : List FileRecord) (at size : ℕ) : Type 0 where
  pub number : ℕ
  pub allowed : P number
  pub inside : Inside rs number at size

abbrev pub Asked : (ℕ → Type 0) → List FileRecord → Ask → Type 0
Asked P rs (fail n x) = Unit {0}
Asked P rs (tell bs) = Unit {0}
Asked P rs pop = Unit {0}
Asked P rs (read at size) = Touches P rs at size
Asked P rs (write at mask values) = Touches P rs at (length values)

pub several_held : (k : ℕ) (s : List ℕ) → Holds (λ (bs r : List ℕ). length bs ≡ k) (several k s)
unfolding several
several_held k s =
    cases (Holds (λ (bs r : List ℕ). length bs ≡ k)) (leb k (length s)) _ _ (λ t. that (length-take-le k s (leb-true k (length s) t))) (λ _. nothing)

values_held : (fn size : ℕ) (s : List ℕ) → Holds (λ (vs r : List ℕ). writes fn ≡ true → length vs ≡ size) (value_bytes fn size s)
unfolding value_bytes
values_held fn size s = go (writes fn) refl
  where
    go : (b : Bool) → writes fn ≡ b → Holds (λ (vs r : List ℕ). writes fn ≡ true → length vs ≡ size) (cond b (several size) (λ (r : List ℕ). Some ([], r)) s)
    go true e = weaker (λ vs r l. λ _. l) (several_held size s)
    go false e = that (λ t. absurd (false≢true (sym e ∙ t)))

place_held : (o : Option ℕ) (s : List ℕ) → Holds (λ (at : ℕ) (r : List ℕ). o ≡ Some at) (place o s)
place_held None s = nothing
place_held (Some at) s = that refl

module _ (P : ℕ → Type 0) (rs : List FileRecord) where
  file_asked : (fn : ℕ) (h : Header) (p : List ℕ) → P h.file → Holds (λ (q : Ask) (r : List ℕ). Asked P rs q) (ask_file rs fn h p)
  unfolding ask_file
  file_asked fn h p ok =
      and_any (last_address fn p)
      (λ sub r1. and_any (mask_word fn r1)
      (λ mask r2. and_next (values_held fn h.size r2)
      (λ vs r3 lv. and_next (place_held (locate rs h.file h.code h.element sub h.size) r3)
      (λ at r4 e.
      let i : Inside rs h.file at h.size = located rs h.file h.code h.element sub h.size at e in
      that (cases (Asked P rs) (writes fn) _ _
      (λ w. record { number = h.file; allowed = ok; inside = subst (λ (n : ℕ). Inside rs h.file at n) (sym (lv w)) i })
      (λ _. record { number = h.file; allowed = ok; inside = i }))))))

  or_bad_lem : {o : Option (Ask × List ℕ)} → Holds (λ (q : Ask) (r : List ℕ). Asked P rs q) o → Asked P rs (or_bad o)
  unfolding bad
  or_bad_lem nothing = tt
  or_bad_lem (that h) = h

  directory_asked : (sys : Sys0Info) (h : Header) → Asked P rs (ask_directory rs sys h)
  unfolding ask_directory bad
  directory_asked sys h =
      cases (Asked P rs) (eqb h.code sys.file_type) _ _
      (λ _. cases (Asked P rs) (eqb h.element sys.size_element && (leb 2 h.size && leb h.size 8)) _ _
      (λ _. tt)
      (λ _. cases (Asked P rs) (leb (2 * h.element + h.size) (length (directory rs sys))) _ _ (λ _. tt) (λ _. tt)))
      (λ _. tt)

  -- P holds of the file place, unless the directory or the datalog is asked for
  abbrev pub Allows : ℕ → Option (Header × List ℕ) → Type 0
  Allows fn o = (x : Header × List ℕ) → o ≡ Some x → asks_directory fn x.0.file ≡ false → asks_datalog fn x.0.code ≡ false → P x.0.file

  function_asked : (text : List ℕ) (fn : ℕ) (o : Option (Header × List ℕ)) → Allows fn o → Asked P rs (ask_function rs text fn o)
  unfolding bad illegal
  function_asked text fn None ok = tt
  function_asked text fn (Some x) ok =
      cases (Asked P rs) (known_function fn) _ _
      (λ _. cases (Asked P rs) (asks_directory fn x.0.file) _ _
      (λ _. directory_asked (sys0 text) x.0)
      (λ nd. cases (Asked P rs) (asks_datalog fn x.0.code) _ _
      (λ _. tt)
      (λ nl. or_bad_lem (file_asked fn x.0 x.1 (ok x refl nd nl)))))
      (λ _. tt)

  pub ask_asked : (text : List ℕ) (cmd : ℕ) (p : List ℕ)
      → ((fn : ℕ) (ps : List ℕ) → p ≡ fn ∷ ps → cmd ≡ 0x0F → Allows fn (header ps)) → Asked P rs (ask rs text cmd p)
  unfolding ask illegal
  ask_asked text cmd [] ok = tt
  ask_asked text cmd (fn ∷ ps) ok =
      cases (Asked P rs) (eqb cmd 0x0F) _ _
      (λ c. function_asked text fn (header ps) (ok fn ps refl (eqb-true cmd 0x0F c)))
      (λ _. cases (Asked P rs) (eqb cmd 0x06 && eqb fn 0x03) _ _ (λ _. tt) (λ _. tt))
