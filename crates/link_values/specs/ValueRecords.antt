-- A value of a read reply in the numbers of the C interface (slc_link.h). Its kind is that of a write: false 1, true 2, Latin-1 text 3, a word 4, a long 5, a float 6.
use Rattle.std.specs.Prelude.{ℕ, ◌≡◌, true, false, not, List, eqb, ℤ, pos, Option, None, Some, Result, Ok, Err}
use Rattle.base.specs.Refusals.{number_of}
use Rattle.base.specs.declared.refusal.Refusal.{Refusal}
use Rattle.file_type.specs.declared.FileType.{FileType}
use Rattle.reply_values_spec.specs.declared.ReplyValue.{ReplyValue}
use Rattle.reply_values_spec.specs.declared.ReplyValue.TheVariants as value
use Rattle.reply_values_spec.specs.Values.{Value, values_of, Says, reply_of, left}
use Rattle.link_values.specs.declared.SlcReplyValue.{SlcReplyValue}

unfoldable pub told : ℕ → ℤ → ℕ → ℕ → SlcReplyValue
told k z length n = record { refused = 0; kind = k; number = z; length = length; count = n }

-- slc_link.h: "of WORD and LONG the number, of REAL the bits .., of FALSE 0, of TRUE 1, of LATIN1 0"; "of LATIN1 how many bytes of text stand in the lent memory, else 0"
abbrev pub value_record : ReplyValue → ℕ → SlcReplyValue
value_record (value.Word z) n = told 4 z 0 n
value_record (value.Long z) n = told 5 z 0 n
value_record (value.Float b) n = told 6 (pos b) 0 n
value_record (value.Bit true) n = told 2 (pos 1) 0 n
value_record (value.Bit false) n = told 1 (pos 0) 0 n
value_record (value.Text k) n = told 3 (pos 0) k n

-- a refusal is its number alone
abbrev pub reply_record : Result (ReplyValue × ℕ) Refusal → SlcReplyValue
reply_record (Err e) = record { refused = number_of e; kind = 0; number = pos 0; length = 0; count = 0 }
reply_record (Ok (v, n)) = value_record v n

-- by a type code, a bit flag that is any byte but 0, and a sub-element; "a code that no type has is 27" (slc_link.h)
unfoldable pub values_in : Option FileType → ℕ → ℕ → List ℕ → Option (List Value)
values_in None flag sub s = None
values_in (Some t) flag sub s = values_of t (not (eqb flag 0)) sub s

-- what the call answers and leaves in the lent memory
pub record ReadsInRecord (o : Says) (l : List ℕ) (r : SlcReplyValue) (l' : List ℕ) : Type 0 where
  pub answer : r ≡ reply_record (reply_of o)
  pub memory : l' ≡ left o l
