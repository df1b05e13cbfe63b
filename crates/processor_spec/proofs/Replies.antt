-- Every reply fits 514 bytes: an id of at most 255, four bytes, and at most 255 of data.
use Rattle.std.specs.Prelude.{Option}
use Prim.Native.Nat.{ℕ, zero, suc, ◌+◌, ◌*◌, ◌≤◌, ◌<◌}
use mathlib.Core.Path.{◌≡◌, refl, subst}
use mathlib.Core.Bool.{true, ◌&&◌}
use mathlib.Core.List.{List, [], ◌∷◌}
use native.Mathlib.Omega.{arith}
use borrow.Author.Tests.{leb-true, le-leb}
use lib.Dec.{leb, eqb, lit≤}
use lib.ListN.{length, get_or, take, drop, length-append, length-take}
use Rattle.base.specs.Numbers.{number}
use Rattle.base.proofs.Put.{put_length}
use Rattle.base.specs.declared.refusal.Refusal.{Refusal}
use Rattle.base.specs.declared.refusal.Refusal.TheVariants.{Unsound, ShortReplyMemory, MalformedCommand}
use Rattle.parser_spec.specs.Parts.{then}
use Rattle.parser_spec.proofs.Held.{Holds, nothing, that, and_next, and_any}
use Rattle.directory_sys0.specs.declared.Sys0Info.{Sys0Info}
use Rattle.directory_sys0.specs.Families.{sys0}
use Rattle.element_text.specs.Text.{fitted}
use Rattle.processor_spec.specs.declared.FileRecord.{FileRecord}
use Rattle.processor_spec.specs.Ask.{Ask, fail, tell, pop, read, write, illegal, bad, or_bad, ask_directory, place, ask_file, ask_function, diagnostic, ask}
use Rattle.processor_spec.specs.Directory.{directory, directory_size}
use Rattle.processor_spec.specs.Files.{locate}
use Rattle.processor_spec.specs.Frame.{well_formed, requester, body, cmd, function, framed}
use Rattle.processor_spec.specs.Pccc.{reply_left}
use Rattle.processor_spec.specs.Params.{several, number_of, address, Header, header, known_function, writes, asks_directory, asks_datalog, last_address, mask_word, value_bytes}
use Rattle.processor_spec.specs.State.{State, every, good_log, sound}
use Rattle.processor_spec.specs.Step.{Answer, refused, replied, Step, popped, perform, obey, refuse, step}
use Rattle.processor_spec.proofs.Directory.{fitted_length}
use Rattle.processor_spec.proofs.Tests.{and_l, and_r, cases}

abbrev pub Bytes : List ℕ → Type 0
Bytes l = (i : ℕ) → get_or l i 0 < 256

bytes_behind : (n : ℕ) (l : List ℕ) → Bytes l → Bytes (drop n l)
bytes_behind zero l h = h
bytes_behind (suc n) [] h = h
bytes_behind (suc n) (b ∷ l) h = bytes_behind n l (λ i. h (suc i))

-- what a command asks for is small
abbrev Small : Ask → Type 0
Small (fail n x) = length x ≤ 255
Small (tell bs) = length bs ≤ 255
Small pop = Unit {0}
Small (read at size) = size ≤ 255
Small (write at mask values) = Unit {0}

byte_held : (s : List ℕ) → Bytes s → Holds (λ (n : ℕ) (r : List ℕ). n ≤ 255) (number_of 1 s)
unfolding several then number
byte_held [] h = nothing
byte_held (b ∷ s) h =
    let l : b + 256 * 0 ≤ 255 = omega (arith, h 0) in
    rw (le-leb 1 (suc (length s)) (omega arith)) (that {v = b + 256 * 0} {r = s} l)

size_held : (p : List ℕ) → Bytes p → Holds (λ (h : Header) (r : List ℕ). h.size ≤ 255) (header p)
unfolding header
size_held p b = and_next (byte_held p b) (λ size r hs. and_any (address r) (λ file r1. and_any (number_of 1 r1) (λ code r2. and_any (address r2) (λ element r3. that hs))))

take_small : (n : ℕ) (l : List ℕ) → length (take n l) ≤ n
take_small n l = rw (length-take n l) (omega arith)

module _ (rs : List FileRecord) where
  directory_small : (sys : Sys0Info) (h : Header) → h.size ≤ 255 → Small (ask_directory rs sys h)
  unfolding ask_directory bad directory_size
  directory_small sys h l =
      cases Small (eqb h.code sys.file_type) _ _
      (λ _. cases Small (eqb h.element sys.size_element && (leb 2 h.size && leb h.size 8)) _ _
      (λ _. rw (fitted_length h.size 0 _) l)
      (λ _. cases Small (leb (2 * h.element + h.size) (length (directory rs sys))) _ _
      (λ _. let t : length (take h.size (drop (2 * h.element) (directory rs sys))) ≤ h.size = take_small h.size _ in omega arith)
      (λ _. lit≤ tt)))
      (λ _. lit≤ tt)

  file_small : (fn : ℕ) (h : Header) (p : List ℕ) → h.size ≤ 255 → Holds (λ (q : Ask) (r : List ℕ). Small q) (ask_file rs fn h p)
  unfolding ask_file
  file_small fn h p l =
      and_any (last_address fn p) (λ sub r1. and_any (mask_word fn r1) (λ mask r2. and_any (value_bytes fn h.size r2)
      (λ vs r3. and_any (place (locate rs h.file h.code h.element sub h.size) r3)
      (λ at r4. that (cases Small (writes fn) _ _ (λ _. tt) (λ _. l))))))

  function_small : (text : List ℕ) (fn : ℕ) {o : Option (Header × List ℕ)} → Holds (λ (h : Header) (r : List ℕ). h.size ≤ 255) o → Small (ask_function rs text fn o)
  unfolding bad illegal
  function_small text fn nothing = lit≤ tt
  function_small text fn (that {v = h} {r = r} l) =
      cases Small (known_function fn) _ _
      (λ _. cases Small (asks_directory fn h.file) _ _
      (λ _. directory_small (sys0 text) h l)
      (λ _. cases Small (asks_datalog fn h.code) _ _ (λ _. tt) (λ _. or_bad_lem (file_small fn h r l))))
      (λ _. lit≤ tt)
    where
      or_bad_lem : {o : Option (Ask × List ℕ)} → Holds (λ (q : Ask) (r : List ℕ). Small q) o → Small (or_bad o)
      or_bad_lem nothing = lit≤ tt
      or_bad_lem (that k) = k

  ask_small : (text : List ℕ) (cmd : ℕ) (p : List ℕ) → Bytes p → Small (ask rs text cmd p)
  unfolding ask illegal diagnostic
  ask_small text cmd [] b = lit≤ tt
  ask_small text cmd (fn ∷ ps) b =
      cases Small (eqb cmd 0x0F) _ _
      (λ _. function_small text fn (size_held ps (λ i. b (suc i))))
      (λ _. cases Small (eqb cmd 0x06 && eqb fn 0x03) _ _
      (λ _. let l : length (fitted 11 0x20 text) ≡ 11 = fitted_length 11 0x20 text in simp length-append (omega arith))
      (λ _. lit≤ tt))

module _ (s : State) (c : List ℕ) (b : Bytes c) where
  framed_fits : (n : ℕ) (bs out : List ℕ) → length bs ≤ 255 → replied (framed c n bs) ≡ replied out → length out ≤ 514
  unfolding framed requester
  framed_fits n bs out l e =
      let q : framed c n bs ≡ out = cc in
      let t : length (take (get_or c 0 0) c) ≤ get_or c 0 0 = take_small (get_or c 0 0) c in
      subst (λ (x : List ℕ). length x ≤ 514) q (simp length-append (omega (arith, b 0)))

  popped_fits : (d : List (List ℕ)) → good_log d ≡ true → (out : List ℕ) → (popped c d).answer ≡ replied out → length out ≤ 514
  unfolding popped good_log every
  popped_fits [] g out e = framed_fits 0x10 [] out (lit≤ tt) e
  popped_fits (x ∷ xs) g out e = framed_fits 0 x out (leb-true (length x) 255 (search (and_l, and_r))) e

  perform_fits : good_log s.datalog ≡ true → (q : Ask) → Small q → (out : List ℕ) → (perform s c q).answer ≡ replied out → length out ≤ 514
  unfolding perform
  perform_fits g (fail n x) l out e = framed_fits n x out l e
  perform_fits g (tell bs) l out e = framed_fits 0 bs out l e
  perform_fits g pop l out e = popped_fits s.datalog g out e
  perform_fits g (read at size) l out e =
      let t : length (take size (drop at s.memory)) ≤ size = take_small size _ in
      framed_fits 0 (take size (drop at s.memory)) out (omega arith) e
  perform_fits g (write at mask vs) l out e = framed_fits 0 [] out (lit≤ tt) e

  Fits : ℕ → Step → Type 0
  Fits room x = (out : List ℕ) → x.answer ≡ replied out → (length out ≤ 514) × (514 ≤ room)

  none_fits : (room : ℕ) (n : Refusal) → Fits room (refuse n)
  unfolding refuse Fits
  none_fits room n out e = let z : ◌≡◌ {A = ℕ} 0 1 = cc in absurd (omega arith)

  step_fits : (room : ℕ) → Fits room (step s c room)
  unfolding step obey function body sound Fits
  step_fits room =
      cases (Fits room) (sound s) _ _
      (λ h. cases (Fits room) (leb 514 room) _ _
      (λ l. cases (Fits room) (well_formed c) _ _
      (λ _ out e.
      let g : good_log s.datalog ≡ true = search (and_l, and_r) in
      let q : Ask = ask s.records s.type_text (cmd c) (function c) in
      let small : Small q = ask_small s.records s.type_text (cmd c) (function c) (bytes_behind 4 (body c) (bytes_behind (get_or c 0 0) c b)) in
      (perform_fits g q small out e, leb-true 514 room l))
      (λ _. none_fits room MalformedCommand))
      (λ _. none_fits room ShortReplyMemory))
      (λ _. none_fits room Unsound)

  pub reply_fits : (room : ℕ) (out : List ℕ) → (step s c room).answer ≡ replied out → length out ≤ 514
  unfolding Fits
  reply_fits room out e = (step_fits room out e).0

  -- so the reply memory stays as long as it was
  pub reply_length : (reply : List ℕ) (a : Answer) → (step s c (length reply)).answer ≡ a → length (reply_left a reply) ≡ length reply
  unfolding reply_left Fits
  reply_length reply (refused n) e = refl
  reply_length reply (replied bs) e =
      let f : (length bs ≤ 514) × (514 ≤ length reply) = step_fits (length reply) bs e in
      put_length reply 0 bs (omega (arith, f.0, f.1))
