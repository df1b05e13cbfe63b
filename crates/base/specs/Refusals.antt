-- The numbers of the questions ("Questions put to each call": "The first \"no\" gives the number").
use Rattle.std.specs.Prelude.{ℕ}
use Rattle.base.specs.declared.refusal.Refusal.{Refusal}
use Rattle.base.specs.declared.refusal.Refusal.TheVariants.{MalformedTag, NotAnAddress, BitWithCount, UnsuitableValue, SizeOutOfRange, ShortOutput, LongDirectory, NoRowSize, CutRow, MoreFilesThanRoom, UnknownFileType, UnusableFileNumber, UnusableTypeText, FilesBeyondRoom, UnusableDatalog, Unsound, ShortReplyMemory, MalformedCommand, NoSuchElement, UnsuitableKind, UnknownField, NumberOutOfRange, LongText, ShortTextMemory, ShortReply, OffsetOutOfRange, UnreadableReply, NoSuchValue, RetiredSeparator}

abbrev pub number_of : Refusal → ℕ
-- address text, read and write
number_of MalformedTag = 1
number_of NotAnAddress = 2
number_of BitWithCount = 3
number_of UnsuitableValue = 4
number_of SizeOutOfRange = 5
number_of ShortOutput = 6
-- directory rows
number_of LongDirectory = 7
number_of NoRowSize = 8
number_of CutRow = 9
number_of MoreFilesThanRoom = 10
-- building a processor
number_of UnknownFileType = 11
number_of UnusableFileNumber = 12
number_of UnusableTypeText = 13
number_of FilesBeyondRoom = 14
number_of UnusableDatalog = 15
-- command
number_of Unsound = 16
number_of ShortReplyMemory = 17
number_of MalformedCommand = 18
-- element access
number_of NoSuchElement = 19
number_of UnsuitableKind = 20
number_of UnknownField = 21
number_of NumberOutOfRange = 22
number_of LongText = 23
number_of ShortTextMemory = 24
-- others
number_of ShortReply = 25
number_of OffsetOutOfRange = 26
-- values of a read reply
number_of UnreadableReply = 27
number_of NoSuchValue = 28
-- a new entry
number_of RetiredSeparator = 39
