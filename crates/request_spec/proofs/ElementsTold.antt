-- A read message tells its elements: of two with one requester and one sequence number that are equal, with anything behind them, these are the same.
use Rattle.std.specs.Prelude.{Some}
use Prim.Native.Nat.{ℕ, ◌*◌}
use mathlib.Core.Path.{◌≡◌, ap, sym, ◌∙◌}
use mathlib.Core.List.{List, ◌++◌}
use native.Mathlib.Nat.{eq_of_mul-eq-mul_left}
use native.Mathlib.Omega.{arith}
use Rattle.file_type.specs.declared.FileType.{FileType}
use Rattle.file_type.specs.Table.{row, of_code}
use Rattle.file_type.proofs.FileTypes.{size_some, own_code}
use Rattle.address_spec.specs.Elements.{Elements}
use Rattle.request_frame.specs.declared.Requestor.{Requestor}
use Rattle.request_frame.proofs.FieldsTold.{Words, typed_told}
use Rattle.request_spec.specs.Request.{place, read_size, read_message}

pub code_same : (t u : FileType) → (row t).code ≡ (row u).code → t ≡ u
code_same t u e = let k : Some t ≡ Some u = own_code t ∙ ap of_code e ∙ sym (own_code u) in cc

-- equal sizes of one type are equal counts
count_same : (t u : FileType) (n m : ℕ) → t ≡ u → (row t).size * n ≡ (row u).size * m → n ≡ m
count_same t u n m i e = eq_of_mul-eq-mul_left (row t).size (size_some t) n m (e ∙ ap (λ (v : FileType). (row v).size * m) (sym i))

pub same : {t u : FileType} {f g e d p r n m : ℕ} → t ≡ u → f ≡ g → e ≡ d → p ≡ r → n ≡ m
    → ◌≡◌ {A = Elements} (record { type = t; file = f; element = e; position = p; count = n }) (record { type = u; file = g; element = d; position = r; count = m })
same a b c p n = rw (a, b, c, p, n)

-- elements whose file, element and position an address field holds
abbrev pub InFields : Elements → Type 0
InFields e = Words (place e e.position)

-- the fields are taken from the message itself (`_`): one that it leaves out is missed in the last line
pub read_told : (q : Requestor) (sequence : ℕ) (e d : Elements) (r s : List ℕ) → InFields e → InFields d
    → read_message q sequence e ++ r ≡ read_message q sequence d ++ s → e ≡ d
unfolding read_message read_size
read_told q sequence e d r s v w h =
    let told = typed_told q sequence 0xA2 _ _ _ _ r s (v.0, v.1, omega arith) (w.0, w.1, omega arith) h in
    let t : e.type ≡ d.type = code_same e.type d.type told.2 in
    same t told.1 told.3 told.4 (count_same e.type d.type e.count d.count t told.0)
