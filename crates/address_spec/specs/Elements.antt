-- The elements that an address names, and which of them can be spelled.
use Rattle.std.specs.Prelude.{ℕ, Bool, false, ◌&&◌, leb, eqb}
use Rattle.file_type.specs.declared.FileType.{FileType}
use Rattle.file_type.specs.declared.FileType.TheVariants.{O, I, S, B, T, C, R, N, F, ST, A, L, MG, PD, PLS}
use Rattle.address_spec.specs.declared.Address.{Address}
use Rattle.address_spec.specs.Spelling.{or_zero}

pub record Elements : Type 0 where
  pub type : FileType
  pub file : ℕ
  pub element : ℕ
  pub position : ℕ
  pub count : ℕ

-- a missing position counts as 0
abbrev pub elements_of : Address → Elements
elements_of x = record { type = x.file_type; file = x.file_number; element = x.element_number; position = or_zero x.pos_number; count = x.element_count }

-- file 1 to 255, element at most 255, no position
abbrev pub filed : Elements → Bool
filed x = leb 1 x.file && leb x.file 255 && leb x.element 255 && eqb x.position 0

-- a file that the letter fixes, element at most 255, position at most 999
abbrev pub slotted : ℕ → Elements → Bool
slotted f x = eqb x.file f && leb x.element 255 && leb x.position 999

abbrev pub allowed : FileType → Elements → Bool
allowed O x = slotted 0 x
allowed I x = slotted 1 x
allowed S x = eqb x.file 2 && leb x.element 255 && eqb x.position 0
allowed B x = filed x
allowed T x = filed x && eqb x.count 1
allowed C x = filed x && eqb x.count 1
allowed R x = false
allowed N x = filed x
allowed F x = filed x
allowed ST x = filed x && (leb 1 x.count && leb x.count 2)
allowed A x = filed x
allowed L x = filed x
allowed MG x = false
allowed PD x = false
allowed PLS x = false

unfoldable pub spellable : Elements → Bool
spellable x = allowed x.type x
