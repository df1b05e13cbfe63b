-- What rows of commands are written with: a processor of the default files, a command, and what is told of its reply.
use Rattle.std.specs.Prelude.{ℕ, List, [], ◌∷◌, ◌++◌, get_or, drop, replicate}
use Rattle.base.specs.Chars.{spelled}
use Rattle.base.specs.Numbers.{low_first, number}
use Rattle.base.specs.Put.{put}
use Rattle.file_type.specs.Table.{of_code, element_size}
use Rattle.parser_spec.specs.Parts.{then}
use Rattle.element_text.specs.Text.{fitted}
use Rattle.directory_sys0.specs.Families.{family_in, sys0}
use Rattle.processor_spec.specs.declared.Done.{Done}
use Rattle.processor_spec.specs.State.{every, known_code, good_record, ascend, end_to_end, total, good_text, good_log, good_table, sound}
use Rattle.processor_spec.specs.Files.{find, contents, locate}
use Rattle.processor_spec.specs.Masked.{masked, masked_at}
use Rattle.processor_spec.specs.Directory.{file_rows, last_number, directory, directory_size}
use Rattle.processor_spec.specs.Params.{several, address, header, known_function, writes, asks_directory, asks_datalog, last_address, mask_word, value_bytes}
use Rattle.processor_spec.specs.Ask.{illegal, bad, ask_directory, ask_file, diagnostic, ask}
use Rattle.processor_spec.specs.Frame.{well_formed, requester, body, cmd, function, framed}
use Rattle.processor_spec.specs.Step.{after, popped, perform, obey, refuse, step, step_of, next, run}
use Rattle.processor_spec.specs.Plain.{entry_room, entries, holds, within, held_state, no_state, state_of}
use Rattle.processor_spec.specs.Pccc.{answered_of, reply_left, heard, memory_left, slc_left, Left, pccc_of}
use Rattle.processor_spec.specs.Build.{defaults, or_defaults, wanted_with, has, file_refusal, records_from, records_of, planned, fits, log_fits, build_refusal, slc_of, no_slc, Raised, new_of}
use Rattle.processor_spec.specs.ElementAccess.{element_at, set_of, read_of}

-- To unfold `all` is to unfold each definition of the processor.
unfoldable pub all : Unit {0}
unfolding spelled low_first number put of_code then fitted family_in sys0 every element_size known_code good_record ascend end_to_end total good_text good_log good_table sound find contents locate masked masked_at file_rows last_number directory directory_size several address header known_function writes asks_directory asks_datalog last_address mask_word value_bytes illegal bad ask_directory ask_file diagnostic ask well_formed requester body cmd function framed after popped perform obey refuse step step_of next run entry_room entries holds within held_state no_state state_of answered_of reply_left heard memory_left slc_left pccc_of defaults or_defaults wanted_with has file_refusal records_from records_of planned fits log_fits build_refusal slc_of no_slc new_of element_at set_of read_of
all = tt

-- a processor with the default files, in memories that hold just these
unfoldable pub built : List ℕ → List ℕ → ℕ → Raised
built text log count =
    new_of (record { files = []; text = text; log = log; count = count }) (replicate 9 (record { number = 0; code = 0; start = 0; length = 0 })) (replicate 902 0x55)

-- a command of the default requester with sequence 0x1234: CMD 0x0F, and what stands from the function byte on
unfoldable pub command : List ℕ → List ℕ
command bs = (0x07 ∷ 0x09 ∷ 0x10 ∷ 0x09 ∷ 0x10 ∷ 0x19 ∷ 0x71 ∷ []) ++ (0x0F ∷ 0x00 ∷ 0x34 ∷ 0x12 ∷ bs)

-- status, and data or extended byte
unfoldable pub told : Left Done → List ℕ
told x = let bs : List ℕ = heard x.done.answered x.reply in get_or bs 8 0 ∷ drop 11 bs

unfoldable pub call : Raised → List ℕ → List ℕ → Left Done
call r log bs = pccc_of r.built.slc r.table r.memory log (command bs) (replicate 514 0)
