-- The numbers of the questions: none is 0, and each is below 100.
use Prim.Native.Nat.{◌<◌}
use native.Mathlib.Omega.{arith}
use Rattle.base.specs.declared.refusal.Refusal.{Refusal}
use Rattle.base.specs.declared.refusal.Refusal.TheVariants.{MalformedTag, NotAnAddress, BitWithCount, UnsuitableValue, SizeOutOfRange, ShortOutput, LongDirectory, NoRowSize, CutRow, MoreFilesThanRoom, UnknownFileType, UnusableFileNumber, UnusableTypeText, FilesBeyondRoom, UnusableDatalog, Unsound, ShortReplyMemory, MalformedCommand, NoSuchElement, UnsuitableKind, UnknownField, NumberOutOfRange, LongText, ShortTextMemory, ShortReply, OffsetOutOfRange, UnreadableReply, NoSuchValue, RetiredSeparator}
use Rattle.base.specs.Refusals.{number_of}

pub numbered : (e : Refusal) → (0 < number_of e) × (number_of e < 100)
numbered MalformedTag = (omega arith, omega arith)
numbered NotAnAddress = (omega arith, omega arith)
numbered BitWithCount = (omega arith, omega arith)
numbered UnsuitableValue = (omega arith, omega arith)
numbered SizeOutOfRange = (omega arith, omega arith)
numbered ShortOutput = (omega arith, omega arith)
numbered LongDirectory = (omega arith, omega arith)
numbered NoRowSize = (omega arith, omega arith)
numbered CutRow = (omega arith, omega arith)
numbered MoreFilesThanRoom = (omega arith, omega arith)
numbered UnknownFileType = (omega arith, omega arith)
numbered UnusableFileNumber = (omega arith, omega arith)
numbered UnusableTypeText = (omega arith, omega arith)
numbered FilesBeyondRoom = (omega arith, omega arith)
numbered UnusableDatalog = (omega arith, omega arith)
numbered Unsound = (omega arith, omega arith)
numbered ShortReplyMemory = (omega arith, omega arith)
numbered MalformedCommand = (omega arith, omega arith)
numbered NoSuchElement = (omega arith, omega arith)
numbered UnsuitableKind = (omega arith, omega arith)
numbered UnknownField = (omega arith, omega arith)
numbered NumberOutOfRange = (omega arith, omega arith)
numbered LongText = (omega arith, omega arith)
numbered ShortTextMemory = (omega arith, omega arith)
numbered ShortReply = (omega arith, omega arith)
numbered OffsetOutOfRange = (omega arith, omega arith)
numbered UnreadableReply = (omega arith, omega arith)
numbered NoSuchValue = (omega arith, omega arith)
numbered RetiredSeparator = (omega arith, omega arith)
