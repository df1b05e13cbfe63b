-- The questions in the order of docs/QUESTIONS.md have the numbers 1 to 28, and 39: whoever exchanges two, in the code and in the definition, is told here.
use mathlib.Core.Path.{◌≡◌, refl}
use mathlib.Core.List.{List, [], ◌∷◌, map}
use Rattle.base.specs.declared.refusal.Refusal.{Refusal}
use Rattle.base.specs.declared.refusal.Refusal.TheVariants.{MalformedTag, NotAnAddress, BitWithCount, UnsuitableValue, SizeOutOfRange, ShortOutput, LongDirectory, NoRowSize, CutRow, MoreFilesThanRoom, UnknownFileType, UnusableFileNumber, UnusableTypeText, FilesBeyondRoom, UnusableDatalog, Unsound, ShortReplyMemory, MalformedCommand, NoSuchElement, UnsuitableKind, UnknownField, NumberOutOfRange, LongText, ShortTextMemory, ShortReply, OffsetOutOfRange, UnreadableReply, NoSuchValue, RetiredSeparator}
use Rattle.base.specs.Refusals.{number_of}

abbrev in_order : List Refusal
in_order =
    MalformedTag ∷ NotAnAddress ∷ BitWithCount ∷ UnsuitableValue ∷ SizeOutOfRange ∷ ShortOutput ∷ LongDirectory ∷ NoRowSize ∷ CutRow ∷ MoreFilesThanRoom
    ∷ UnknownFileType ∷ UnusableFileNumber ∷ UnusableTypeText ∷ FilesBeyondRoom ∷ UnusableDatalog ∷ Unsound ∷ ShortReplyMemory ∷ MalformedCommand
    ∷ NoSuchElement ∷ UnsuitableKind ∷ UnknownField ∷ NumberOutOfRange ∷ LongText ∷ ShortTextMemory ∷ ShortReply ∷ OffsetOutOfRange ∷ UnreadableReply ∷ NoSuchValue
    ∷ RetiredSeparator ∷ []

pub numbers :
    map number_of in_order
    ≡ (1 ∷ 2 ∷ 3 ∷ 4 ∷ 5 ∷ 6 ∷ 7 ∷ 8 ∷ 9 ∷ 10 ∷ 11 ∷ 12 ∷ 13 ∷ 14 ∷ 15 ∷ 16 ∷ 17 ∷ 18 ∷ 19 ∷ 20 ∷ 21 ∷ 22 ∷ 23 ∷ 24 ∷ 25 ∷ 26 ∷ 27 ∷ 28 ∷ 39 ∷ [])
numbers = refl
