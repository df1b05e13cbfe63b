-- The texts of the questions by their numbers (docs/QUESTIONS.md; document 01, "Refusals", and the requests of document 02). A new question is a row here and the
-- arm of its number in the code. Rows ascend; a number that isn't there has no question.
use Rattle.std.specs.Prelude.{ℕ, List, [], ◌∷◌, Option}
use Rattle.base.specs.Chars.{bytes}
use Rattle.reply_status_text.specs.Texts.{text_in}

abbrev pub questions : List (ℕ × List ℕ)
questions =
    (1, bytes "Is the tag at most 255 bytes and well-formed UTF-8?")
    ∷ (2, bytes "Does the tag spell an address?")
    ∷ (3, bytes "Is the tag free of a bit together with a count above 1?")
    ∷ (4, bytes "Does the value suit the address?")
    ∷ (5, bytes "Is the size 0 to 255, or are there 2 to 257 raw bytes?")
    ∷ (6, bytes "Is the output long enough?")
    ∷ (7, bytes "Is the directory at most 65,535 bytes?")
    ∷ (8, bytes "Is the row size not 0?")
    ∷ (9, bytes "Do two bytes follow every known type code in the rows?")
    ∷ (10, bytes "Does the output hold all files of the directory?")
    ∷ (11, bytes "Is the type code one of the twelve?")
    ∷ (12, bytes "Is the file number at most 255 and new?")
    ∷ (13, bytes "Is the processor type at most 11 bytes, each below 128?")
    ∷ (14, bytes "Are the files at most 65,535 bytes, and do table and memory hold them?")
    ∷ (15, bytes "Has the datalog at most 64 entries of at most 255 bytes?")
    ∷ (16, bytes "Is the processor sound?")
    ∷ (17, bytes "Has the reply memory 514 bytes?")
    ∷ (18, bytes "Is the command not empty, its first byte not 0, and its length at least that byte plus 4?")
    ∷ (19, bytes "Does the file exist with this type, and does the element lie in it?")
    ∷ (20, bytes "Does the kind of value suit the type?")
    ∷ (21, bytes "Is the field name known?")
    ∷ (22, bytes "Is the number in range?")
    ∷ (23, bytes "Is the text for ST at most 82 bytes?")
    ∷ (24, bytes "Has the text memory 82 bytes?")
    ∷ (25, bytes "Has the reply 63 bytes?")
    ∷ (26, bytes "Is the offset at most 65,535?")
    ∷ (39, bytes "Is a timer's or counter's separator in a new entry a full stop or a slash?")
    ∷ []

-- the text of a number; 0 means that nothing was refused, and has none
unfoldable pub question_of : ℕ → Option (List ℕ)
question_of number = text_in questions number
