-- The definitions of the query, the survey, `respond` and `show` give the model's: what a call does that asks, surveys and then answers.
use Rattle.std.specs.Prelude.{Option, None, Some, unwrap_or, option_map}
use Prim.Native.Nat.{ℕ, zero, suc, ◌+◌, ◌*◌, ◌≤◌}
use mathlib.Core.Path.{◌≡◌, refl, sym, ap, subst, ◌∙◌}
use mathlib.Core.Bool.{Bool, true, false, ◌&&◌, cond}
use mathlib.Core.List.{List, [], ◌∷◌}
use native.Mathlib.Omega.{arith}
use borrow.Author.Tests.{leb-true}
use lib.Dec.{leb, eqb}
use lib.ListN.{length, take, drop}
use Rattle.base.specs.declared.refusal.Refusal.TheVariants.{Unsound, ShortReplyMemory, MalformedCommand}
use Rattle.parser_spec.specs.Parts.{then}
use Rattle.parser_spec.proofs.Held.{that}
use Rattle.directory_sys0.specs.Families.{sys0}
use Rattle.processor_spec.specs.declared.FileRecord.{FileRecord}
use Rattle.processor_spec.specs.declared.Slc.{Slc}
use Rattle.processor_spec.specs.Ask.{Ask, diagnostic, illegal, bad, or_bad as or_bad_ask, place, ask_directory, ask_file, ask_function, ask}
use Rattle.processor_spec.specs.Directory.{directory, directory_size}
use Rattle.processor_spec.specs.Files.{locate}
use Rattle.processor_spec.specs.Frame.{well_formed, cmd, function}
use Rattle.processor_spec.specs.Params.{several, Header, header, known_function, writes, asks_directory, asks_datalog, last_address, mask_word, value_bytes}
use Rattle.processor_spec.specs.Pccc.{left_by, pccc_of}
use Rattle.processor_spec.specs.Plain.{within, held_state, state_of}
use Rattle.processor_spec.specs.State.{State, good_table, sound}
use Rattle.processor_spec.specs.Step.{Step, perform, obey, refuse, step}
use Rattle.processor_spec.proofs.Directory.{directory_length_lem}
use Rattle.processor_spec.proofs.Plain.{sound_within, held_is}
use Rattle.processor_spec.proofs.Tests.{and_l}
use Rattle.processor_params.specs.Take.{place_of as rest_place}
use Rattle.processor_query.specs.declared.Layout.{Layout}
use Rattle.processor_query.specs.declared.Query.{Query}
use Rattle.processor_query.specs.declared.Wants.TheVariants as wants
use Rattle.processor_query.specs.Query.{layout_of, directory_wanted, plainly, directory_query, access_query, file_query, or_bad, function_query, body_query, query_of}
use Rattle.parser_spec.proofs.Behind.{Behind, behind_trans, Leaves}
use Rattle.processor_query.proofs.ParamsLeave.{last_leaves, mask_leaves, header_leaves}
use Rattle.processor_soundness.specs.Sound.{sound_by}
use Rattle.processor_soundness.proofs.Surveyed.{sound_is}
use Rattle.processor_table.specs.declared.Seen.{Seen}
use Rattle.processor_table.specs.Survey.{told_of, survey_of}
use Rattle.processor_refinement.specs.CallBySurvey.{first_no, question_of, questioned, respond_of, show_of}
use Rattle.processor_refinement.specs.StepsBySurvey.{tells, status_step, pop_step, read_at, read_step, values_of, write_at, write_step, obey_step, size_asked, directory_length, size_bytes, part_step, directory_step}
use Rattle.processor_locate.specs.Locate.{locate_by}

-- a part of a prefix is the part of the whole
take_prefix : (k n : ℕ) (s : List ℕ) → k ≤ n → take k (take n s) ≡ take k s
take_prefix zero n s h = refl
take_prefix (suc k) zero s h = absurd (omega arith)
take_prefix (suc k) (suc n) [] h = refl
take_prefix (suc k) (suc n) (x ∷ s) h = ap (λ (l : List ℕ). x ∷ l) (take_prefix k n s (omega arith))

part_prefix : (i k n : ℕ) (s : List ℕ) → i + k ≤ n → take k (drop i (take n s)) ≡ take k (drop i s)
part_prefix zero k n s h = take_prefix k n s (omega arith)
part_prefix (suc i) k zero s h = absurd (omega arith)
part_prefix (suc i) k (suc n) [] h = refl
part_prefix (suc i) k (suc n) (x ∷ s) h = part_prefix i k n s (omega arith)

module _ (slc : Slc) (t : List FileRecord) (m log c : List ℕ) (fill : Layout → List ℕ) where
  abbrev rs : List FileRecord
  rs = take slc.files t

  abbrev text : List ℕ
  text = take slc.type_len slc.type_text

  -- what is done about a query of sound records
  abbrev does : Query → Step
  does q = unwrap_or (option_map (λ (l : Layout). directory_step (told_of q.number rs) q l (fill l) c) (directory_wanted q.wants)) (obey_step q.wants slc (told_of q.number rs) q m log c)

  locate_is : (q : Query) → locate_by (told_of q.number rs) q ≡ locate rs q.number q.code q.element q.sub q.size
  unfolding locate_by told_of locate
  locate_is q = refl

  -- ---- a file
  module _ (fn : ℕ) (p r : List ℕ) (h : Header) (ef : function c ≡ fn ∷ p) (b : Behind p r) where
    read_leaf : (mask : ℕ) (s : List ℕ) (o : Option ℕ)
        → read_at o h.size m c ≡ perform (held_state slc t m log) c (or_bad_ask (then (place o s) (λ at z. Some (Ask.read at h.size, z))))
    unfolding then perform held_state bad
    read_leaf mask s None = refl
    read_leaf mask s (Some at) = refl

    write_leaf : (mask : ℕ) (vs s : List ℕ) (o : Option ℕ)
        → write_at o mask vs m c ≡ perform (held_state slc t m log) c (or_bad_ask (then (place o s) (λ at z. Some (Ask.write at mask vs, z))))
    unfolding then perform held_state bad
    write_leaf mask vs s None = refl
    write_leaf mask vs s (Some at) = refl

    abbrev Same : Type 0
    Same = does (or_bad (file_query p fn h r)) ≡ perform (held_state slc t m log) c (or_bad_ask (ask_file rs fn h r))

    module _ (x : ℕ × List ℕ) (e₁ : last_address fn r ≡ Some x) (y : ℕ × List ℕ) (e₂ : mask_word fn x.1 ≡ Some y) (b₂ : Behind p y.1) where
      abbrev reading : Query
      reading = access_query wants.Read h x.0 y.0 (rest_place p y.1)

      abbrev writing : Query
      writing = access_query wants.Write h x.0 y.0 (rest_place p y.1)

      reads_same : writes fn ≡ false → Same
      unfolding or_bad file_query ask_file then value_bytes obey_step read_step
      reads_same w =
          rw (e₁, e₂, w)
          (ap (λ (o : Option ℕ). read_at o h.size m c) (locate_is reading) ∙ read_leaf y.0 y.1 (locate rs h.file h.code h.element x.0 h.size))

      values_are : values_of writing c ≡ take h.size y.1
      unfolding values_of
      values_are = ap (λ (l : List ℕ). take h.size (drop (rest_place p y.1) (drop 1 l))) ef ∙ ap (take h.size) b₂.is

      writes_same : writes fn ≡ true → Same
      unfolding or_bad file_query ask_file then value_bytes several obey_step write_step
      writes_same w = go (leb h.size (length y.1)) refl
        where
          go : (k : Bool) → leb h.size (length y.1) ≡ k → Same
          go false f = rw (e₁, e₂, w, f) (unfold perform bad in refl)
          go true f =
              rw (e₁, e₂, w, f)
              (ap (λ (o : Option ℕ). write_at o y.0 (values_of writing c) m c) (locate_is writing)
              ∙ ap (λ (vs : List ℕ). write_at (locate rs h.file h.code h.element x.0 h.size) y.0 vs m c) values_are
              ∙ write_leaf y.0 (take h.size y.1) (drop h.size y.1) (locate rs h.file h.code h.element x.0 h.size))

    file_same : Same
    unfolding or_bad file_query ask_file then obey_step perform bad
    file_same = sub (last_address fn r) refl (last_leaves fn r)
      where
        by_writes : (w : Bool) → writes fn ≡ w → (x : ℕ × List ℕ) → last_address fn r ≡ Some x → (y : ℕ × List ℕ) → mask_word fn x.1 ≡ Some y → Behind p y.1 → Same
        by_writes true f x e₁ y e₂ b₂ = writes_same x e₁ y e₂ b₂ f
        by_writes false f x e₁ y e₂ b₂ = reads_same x e₁ y e₂ b₂ f

        mask : (x : ℕ × List ℕ) → last_address fn r ≡ Some x → Behind p x.1 → (o : Option (ℕ × List ℕ)) → mask_word fn x.1 ≡ o → Leaves x.1 o → Same
        mask x e₁ b₁ None e₂ l = rw (e₁, e₂)
        mask x e₁ b₁ (Some y) e₂ (that b₂) = by_writes (writes fn) refl x e₁ y e₂ (behind_trans b₁ b₂)

        sub : (o : Option (ℕ × List ℕ)) → last_address fn r ≡ o → Leaves r o → Same
        sub None e l = rw e
        sub (Some x) e (that b₁) = mask x e (behind_trans b b₁) (mask_word fn x.1) refl (mask_leaves fn x.1)

  -- ---- the directory
  module _ (filled : take (length (directory rs (sys0 text))) (fill (layout_of (sys0 text))) ≡ directory rs (sys0 text)) where
    length_same : (number : ℕ) → directory_length (told_of number rs) (layout_of (sys0 text)) ≡ length (directory rs (sys0 text))
    unfolding directory_length told_of
    length_same number = sym (directory_length_lem rs (sys0 text))

    under : (k : Bool) (x y : Step) (u v : Ask) → (k ≡ true → x ≡ perform (held_state slc t m log) c u) → (k ≡ false → y ≡ perform (held_state slc t m log) c v)
        → cond k x y ≡ perform (held_state slc t m log) c (cond k u v)
    under true x y u v f g = f refl
    under false x y u v f g = g refl

    module _ (h : Header) where
      bytes_same : leb (2 * h.element + h.size) (length (directory rs (sys0 text))) ≡ true
          → take h.size (drop (2 * h.element) (fill (layout_of (sys0 text)))) ≡ take h.size (drop (2 * h.element) (directory rs (sys0 text)))
      bytes_same f =
          sym (part_prefix (2 * h.element) h.size (length (directory rs (sys0 text))) (fill (layout_of (sys0 text))) (leb-true (2 * h.element + h.size) (length (directory rs (sys0 text))) f))
          ∙ ap (λ (l : List ℕ). take h.size (drop (2 * h.element) l)) filled

      directory_same : does (directory_query (sys0 text) h) ≡ perform (held_state slc t m log) c (ask_directory rs (sys0 text) h)
      unfolding directory_step part_step ask_directory size_asked size_bytes directory_size perform bad
      directory_same =
          rw (length_same 0)
          (under (eqb h.code (sys0 text).file_type) _ _ _ _
          (λ _. under (eqb h.element (sys0 text).size_element && (leb 2 h.size && leb h.size 8)) _ _ _ _
          (λ _. refl)
          (λ _. under (leb (2 * h.element + h.size) (length (directory rs (sys0 text)))) _ _ _ _ (λ f. ap (tells c 0) (bytes_same f)) (λ _. refl)))
          (λ _. refl))

    -- ---- the questions of CMD 0x0F, and of the frame
    function_same : (fn : ℕ) (p : List ℕ) → function c ≡ fn ∷ p → (o : Option (Header × List ℕ)) → Leaves p o
        → does (function_query text fn p o) ≡ perform (held_state slc t m log) c (ask_function rs text fn o)
    unfolding function_query obey_step perform bad
    function_same fn p ef None l = refl
    function_same fn p ef (Some x) (that b) = known (known_function fn)
      where
        datalog : (k : Bool) → does (cond k (plainly wants.Entry) (or_bad (file_query p fn x.0 x.1))) ≡ perform (held_state slc t m log) c (cond k Ask.pop (or_bad_ask (ask_file rs fn x.0 x.1)))
        datalog true = unfold pop_step held_state in refl
        datalog false = file_same fn p x.1 x.0 ef b

        listing : (k : Bool) → does (cond k (directory_query (sys0 text) x.0) (cond (asks_datalog fn x.0.code) (plainly wants.Entry) (or_bad (file_query p fn x.0 x.1))))
            ≡ perform (held_state slc t m log) c (cond k (ask_directory rs (sys0 text) x.0) (cond (asks_datalog fn x.0.code) Ask.pop (or_bad_ask (ask_file rs fn x.0 x.1))))
        listing true = directory_same x.0
        listing false = datalog (asks_datalog fn x.0.code)

        known : (k : Bool)
            → does (cond k (cond (asks_directory fn x.0.file) (directory_query (sys0 text) x.0) (cond (asks_datalog fn x.0.code) (plainly wants.Entry) (or_bad (file_query p fn x.0 x.1)))) (plainly wants.Illegal))
            ≡ perform (held_state slc t m log) c (cond k (cond (asks_directory fn x.0.file) (ask_directory rs (sys0 text) x.0) (cond (asks_datalog fn x.0.code) Ask.pop (or_bad_ask (ask_file rs fn x.0 x.1)))) illegal)
        known true = listing (asks_directory fn x.0.file)
        known false = unfold illegal in refl

    body_same : (s : List ℕ) → function c ≡ s → does (body_query text (cmd c) s) ≡ perform (held_state slc t m log) c (ask rs text (cmd c) s)
    unfolding body_query ask obey_step perform illegal
    body_same [] ef = refl
    body_same (fn ∷ p) ef = by_cmd (eqb (cmd c) 0x0F)
      where
        diagnosed : (k : Bool) → does (cond k (plainly wants.Diagnostic) (plainly wants.Illegal)) ≡ perform (held_state slc t m log) c (cond k (Ask.tell (diagnostic text)) illegal)
        diagnosed true = unfold status_step in refl
        diagnosed false = refl

        by_cmd : (k : Bool) → does (cond k (function_query text fn p (header p)) (cond (eqb (cmd c) 0x06 && eqb fn 0x03) (plainly wants.Diagnostic) (plainly wants.Illegal)))
            ≡ perform (held_state slc t m log) c (cond k (ask_function rs text fn (header p)) (cond (eqb (cmd c) 0x06 && eqb fn 0x03) (Ask.tell (diagnostic text)) illegal))
        by_cmd true = function_same fn p ef (header p) (header_leaves p)
        by_cmd false = diagnosed (eqb (cmd c) 0x06 && eqb fn 0x03)

-- ---- the call
questioned_is : (b : Bool) (room : ℕ) (c : List ℕ) (x : Step) → questioned (question_of b room c) x ≡ cond b (cond (leb 514 room) (cond (well_formed c) x (refuse MalformedCommand)) (refuse ShortReplyMemory)) (refuse Unsound)
unfolding question_of
questioned_is b room c x = go b (leb 514 room) (well_formed c)
  where
    go : (b r w : Bool) → questioned (first_no b r w) x ≡ cond b (cond r (cond w x (refuse MalformedCommand)) (refuse ShortReplyMemory)) (refuse Unsound)
    go true true true = refl
    go true true false = refl
    go true false w = refl
    go false r w = refl

questioned_same : (b k : Bool) (room : ℕ) (c : List ℕ) (x y : Step) → b ≡ k → (k ≡ true → x ≡ y)
    → questioned (question_of b room c) x ≡ cond k (cond (leb 514 room) (cond (well_formed c) y (refuse MalformedCommand)) (refuse ShortReplyMemory)) (refuse Unsound)
questioned_same b k room c x y e f = ap (λ (z : Bool). questioned (question_of z room c) x) e ∙ questioned_is k room c x ∙ go k f
  where
    go : (k : Bool) → (k ≡ true → x ≡ y)
        → cond k (cond (leb 514 room) (cond (well_formed c) x (refuse MalformedCommand)) (refuse ShortReplyMemory)) (refuse Unsound) ≡ cond k (cond (leb 514 room) (cond (well_formed c) y (refuse MalformedCommand)) (refuse ShortReplyMemory)) (refuse Unsound)
    go true f = ap (λ (z : Step). cond (leb 514 room) (cond (well_formed c) z (refuse MalformedCommand)) (refuse ShortReplyMemory)) (f refl)
    go false f = refl

-- what fills the array: where the first n records are sound, it begins with the directory
abbrev pub FillDef : Type 0
FillDef = List FileRecord → ℕ → Layout → Seen → List ℕ

abbrev pub Fills : FillDef → Type 0
Fills fill =
    (t : List FileRecord) (n number : ℕ) (text : List ℕ) → n ≤ length t → good_table (take n t) ≡ true
    → take (length (directory (take n t) (sys0 text))) (fill t n (layout_of (sys0 text)) (survey_of t n number)) ≡ directory (take n t) (sys0 text)

module _ (fill : FillDef) (fills : Fills fill) (slc : Slc) (t : List FileRecord) (m log c : List ℕ) where
  abbrev asks : Query
  asks = query_of slc c

  abbrev seen : Seen
  seen = survey_of t slc.files asks.number

  abbrev filling : Layout → List ℕ
  filling l = fill t slc.files l seen

  -- what is behind the questions
  abbrev stepped : Seen → Step
  stepped s = unwrap_or (option_map (λ (l : Layout). directory_step s asks l (filling l) c) (directory_wanted asks.wants)) (obey_step asks.wants slc s asks m log c)

  module _ (h : sound (state_of slc t m log) ≡ true) where
    held : state_of slc t m log ≡ held_state slc t m log
    held = held_is slc t m log (sound_within slc t m log h)

    files_there : leb slc.files (length t) ≡ true
    unfolding within
    files_there = and_l _ _ (and_l _ _ (sound_within slc t m log h))

    table_good : good_table (take slc.files t) ≡ true
    unfolding sound held_state
    table_good = let s : sound (held_state slc t m log) ≡ true = subst (λ (z : State). sound z ≡ true) held h in and_l _ _ (and_l _ _ (and_l _ _ s))

    seen_told : seen ≡ told_of asks.number (take slc.files t)
    unfolding survey_of
    seen_told = rw (files_there, table_good)

    step_same : stepped seen ≡ obey (state_of slc t m log) c
    unfolding obey query_of
    step_same =
        ap stepped seen_told
        ∙ body_same slc t m log c filling
        (fills t slc.files asks.number (take slc.type_len slc.type_text) (leb-true slc.files (length t) files_there) table_good) (function c) refl
        ∙ unfold held_state in ap (λ (z : State). obey z c) (sym held)

  -- the premise `right` of the law of calls that branch for the directory
  pub right : (reply : List ℕ)
      → unwrap_or (option_map (λ (l : Layout). show_of slc seen asks l (filling l) m log c reply) (directory_wanted asks.wants)) (respond_of slc seen asks m log c reply) ≡ pccc_of slc t m log c reply
  unfolding show_of respond_of pccc_of step
  right reply =
      go (directory_wanted asks.wants)
      ∙ ap (λ (x : Step). left_by x slc m log reply)
      (questioned_same (sound_by slc seen (length m) log) (sound (state_of slc t m log)) (length reply) c (stepped seen) (obey (state_of slc t m log) c) (sound_is slc t m log asks.number) step_same)
    where
      ahead : Step → Step
      ahead x = questioned (question_of (sound_by slc seen (length m) log) (length reply) c) x

      go : (o : Option Layout)
          → unwrap_or (option_map (λ (l : Layout). left_by (ahead (directory_step seen asks l (filling l) c)) slc m log reply) o) (left_by (ahead (obey_step asks.wants slc seen asks m log c)) slc m log reply)
          ≡ left_by (ahead (unwrap_or (option_map (λ (l : Layout). directory_step seen asks l (filling l) c) o) (obey_step asks.wants slc seen asks m log c))) slc m log reply
      go None = refl
      go (Some l) = refl
