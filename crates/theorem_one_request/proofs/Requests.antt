-- The processor reads what the request builders write.
use Rattle.std.specs.Prelude.{Some}
use Prim.Native.Nat.{ℕ, suc, ◌+◌, ◌≤◌, ◌<◌, ◌^◌}
use mathlib.Core.Path.{◌≡◌, refl, sym, ap, subst, ◌∙◌}
use mathlib.Core.Bool.{Bool, true, false, ◌&&◌, cond}
use mathlib.Core.List.{List, [], ◌∷◌, ◌++◌, append_assoc}
use native.Mathlib.Omega.{arith}
use borrow.Author.Tests.{lt-ltb, le-leb, ne_eqb, ltb-true}
use lib.Dec.{ltb}
use lib.ListN.{length, get_or, drop, length-append}
use lib.Seq.{drop_at}
use Rattle.base.specs.Numbers.{low_first, number}
use Rattle.base.proofs.Numbers.{low_length, read_back}
use Rattle.request_frame.specs.RequestFrame.{identity, command_head, address_field, two_addresses}
use Rattle.request_frame.specs.declared.Target.{Target}
use Rattle.request_frame.specs.declared.Requestor.{Requestor}
use Rattle.parser_spec.specs.Parts.{then}
use Rattle.processor_spec.specs.Frame.{well_formed, body, cmd, function}
use Rattle.processor_spec.specs.Params.{number_of, address, header}
use Rattle.processor_spec.proofs.Tests.{and_both}
use Rattle.processor_spec.proofs.Reader.{several_back, byte_back}

-- a number is read back
pub number_back : (k n : ℕ) (rest : List ℕ) → n < 256 ^ k → number_of k (low_first k n ++ rest) ≡ Some (n, rest)
unfolding then
number_back k n rest h = rw (several_back k (low_first k n) rest (low_length k n), read_back k n h)

-- an address is read back: one byte, or FF and a word
address_byte : (n : ℕ) (rest : List ℕ) → n < 255 → address (low_first 1 n ++ rest) ≡ Some (n, rest)
unfolding address then
address_byte n rest h =
    let l : n < 256 ^ 1 = omega arith in
    let ne : n ≡ 255 → ⊥ = λ e. let z : n < n = subst (λ (k : ℕ). n < k) (sym e) h in absurd (omega arith) in
    rw (number_back 1 n rest l, ne_eqb n 255 ne)

address_word : (n : ℕ) (rest : List ℕ) → n < 65536 → address (0xFF ∷ (low_first 2 n ++ rest)) ≡ Some (n, rest)
unfolding address then number
address_word n rest h =
    let l : n < 256 ^ 2 = h in
    rw (several_back 1 (0xFF ∷ []) (low_first 2 n ++ rest) refl) (number_back 2 n rest l)

pub address_back : (n : ℕ) (rest : List ℕ) → n < 65536 → address (address_field n ++ rest) ≡ Some (n, rest)
unfolding address_field
address_back n rest h = go (ltb n 255) refl
  where
    go : (b : Bool) → ltb n 255 ≡ b → address (cond b (low_first 1 n) ((0xFF ∷ []) ++ low_first 2 n) ++ rest) ≡ Some (n, rest)
    go true t = address_byte n rest (ltb-true n 255 t)
    go false t = address_word n rest h

-- what stands behind the function byte of a typed command is its header, and what follows
pub header_back : (fn size : ℕ) (p : Target) (rest : List ℕ) → p.file < 65536 → p.element < 65536
    → header (drop 1 (two_addresses fn size p) ++ rest) ≡ Some (record { size = size; file = p.file; code = p.code; element = p.element }, rest)
unfolding header two_addresses then
header_back fn size p rest hf he =
    rw (
      byte_back size ((address_field p.file ++ (p.code ∷ address_field p.element)) ++ rest),
      append_assoc (address_field p.file) (p.code ∷ address_field p.element) rest,
      address_back p.file (p.code ∷ (address_field p.element ++ rest)) hf,
      byte_back p.code (address_field p.element ++ rest),
      address_back p.element rest he,
    )

-- A typed request, from the requester's length byte 07 on, is a well-formed command with CMD 0F whose function byte begins the typed layout.
module _ (q : Requestor) (two : length q.vid ≡ 2) (four : length q.vsn ≡ 4) (sequence : ℕ) (bs : List ℕ) where
  sent_body : List ℕ
  sent_body = 0x0F ∷ 0x00 ∷ (low_first 2 sequence ++ bs)

  sent_command : drop 6 (command_head q 0x0F sequence ++ bs) ≡ 0x07 ∷ ((q.vid ++ q.vsn) ++ sent_body)
  unfolding command_head identity sent_body
  sent_command = ap (λ (l : List ℕ). 0x07 ∷ l) (append_assoc (q.vid ++ q.vsn) ((0x0F ∷ 0x00 ∷ []) ++ low_first 2 sequence) bs)

  id_length : length (q.vid ++ q.vsn) ≡ 6
  id_length = simp length-append (omega arith)

  body_back : body (0x07 ∷ ((q.vid ++ q.vsn) ++ sent_body)) ≡ sent_body
  unfolding body
  body_back = drop_at (q.vid ++ q.vsn) sent_body 6 id_length

  well_back : well_formed (0x07 ∷ ((q.vid ++ q.vsn) ++ sent_body)) ≡ true
  unfolding well_formed sent_body
  well_back =
      let n : ℕ = length ((q.vid ++ q.vsn) ++ sent_body) in
      let l : 7 + 4 ≤ suc n = simp (length-append, low_length) (omega arith) in
      let front : (ltb 0 (suc n) && ltb 0 7) ≡ true = and_both (lt-ltb 0 (suc n) (omega arith)) refl in
      and_both front (le-leb (7 + 4) (suc n) l)

  cmd_back : cmd (0x07 ∷ ((q.vid ++ q.vsn) ++ sent_body)) ≡ 0x0F
  unfolding cmd sent_body
  cmd_back = ap (λ (l : List ℕ). get_or l 0 0) body_back

  function_back : function (0x07 ∷ ((q.vid ++ q.vsn) ++ sent_body)) ≡ bs
  unfolding function sent_body low_first
  function_back = ap (drop 4) body_back

  pub command_back : (c : List ℕ) → c ≡ drop 6 (command_head q 0x0F sequence ++ bs) → (well_formed c ≡ true) × (cmd c ≡ 0x0F) × (function c ≡ bs)
  command_back c e =
      subst (λ (l : List ℕ). (well_formed l ≡ true) × (cmd l ≡ 0x0F) × (function l ≡ bs)) (sym (e ∙ sent_command)) (well_back, cmd_back, function_back)
