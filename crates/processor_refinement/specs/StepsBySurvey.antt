-- What a well-formed command does, by the query, the survey and the lent memories. Each definition names the one of processor_spec that it
-- refines, and what tells it; `Refines.antt` shows that a call does the same by either.
use Rattle.std.specs.Prelude.{ℕ, ◌+◌, ◌*◌, ◌≤◌, ◌≡◌, Bool, ◌&&◌, cond, List, [], ◌∷◌, leb, eqb, length, take, drop, Option, None, Some}
use Rattle.base.specs.Numbers.{low_first}
use Rattle.element_text.specs.Text.{fitted}
use Rattle.processor_spec.specs.declared.Done.{Done}
use Rattle.processor_spec.specs.declared.Slc.{Slc}
use Rattle.processor_spec.specs.Ask.{diagnostic}
use Rattle.processor_spec.specs.Frame.{function, framed}
use Rattle.processor_spec.specs.Masked.{masked_at}
use Rattle.processor_spec.specs.Pccc.{answered_of, reply_left, slc_left}
use Rattle.processor_spec.specs.Plain.{entries}
use Rattle.processor_spec.specs.Step.{Step, replied, keeps, lays, popped}
use Rattle.processor_frame.specs.Reply.{reply_to}
use Rattle.processor_query.specs.declared.Layout.{Layout}
use Rattle.processor_query.specs.declared.Query.{Query}
use Rattle.processor_query.specs.declared.Wants.{Wants}
use Rattle.processor_query.specs.declared.Wants.TheVariants as wants
use Rattle.processor_locate.specs.Locate.{locate_by}
use Rattle.processor_table.specs.declared.Seen.{Seen}

-- Step.perform of a `tell` or a `fail`: a reply that changes nothing
abbrev pub tells : List ℕ → ℕ → List ℕ → Step
tells c status bs = record { answer = replied (framed c status bs); effect = keeps }

-- Step.perform of Ask.bad
abbrev pub tells_bad : List ℕ → Step
tells_bad c = tells c 0xF0 (0x06 ∷ [])

-- Pccc.left_by without the data memory: what a call answers and leaves in the reply memory
pub record Answers (x : Step) (slc : Slc) (log reply : List ℕ) (r : Done) (reply' : List ℕ) : Type 0 where
  pub done : r ≡ record { slc = slc_left x.effect slc log; answered = answered_of x.answer }
  pub left : reply' ≡ reply_left x.answer reply

-- bytes where a memory of this length has room for all of them, else none
unfoldable pub roomed : ℕ → List ℕ → List ℕ
roomed room bs = cond (leb (length bs) room) bs []

-- a reply whatever was lent: nothing to a command that isn't well-formed, or where the reply memory has no room for it
unfoldable pub tells_in : List ℕ → List ℕ → ℕ → List ℕ → Step
tells_in reply c status bs = record { answer = replied (roomed (length reply) (reply_to c status bs)); effect = keeps }

-- that reply was given; an id of 255 bytes and the 4 behind it are all that it has beside its data
pub record Told (c : List ℕ) (status : ℕ) (bs : List ℕ) (slc : Slc) (reply : List ℕ) (r : Done) (reply' : List ℕ) : Type 0 where
  pub is : Answers (tells_in reply c status bs) slc [] reply r reply'
  pub small : length (reply_to c status bs) ≤ 259 + length bs

-- Step.popped, by the plain data and the datalog's memory
unfoldable pub pop_step : Slc → List ℕ → List ℕ → Step
pop_step slc log c = popped c (entries slc.log_left (drop slc.log_at log))

-- Step.perform of a read, by the place: bad where there is none
abbrev pub read_at : Option ℕ → ℕ → List ℕ → List ℕ → Step
read_at None size memory c = tells_bad c
read_at (Some at) size memory c = tells c 0 (take size (drop at memory))

-- Ask.ask_file of a read, performed: the survey and the query tell the place
unfoldable pub read_step : Seen → Query → List ℕ → List ℕ → Step
read_step s q memory c = read_at (locate_by s q) q.size memory c

-- Params.value_bytes, by the query, which tells their place in the parameters
unfoldable pub values_of : Query → List ℕ → List ℕ
values_of q c = take q.size (drop q.place (drop 1 (function c)))

-- Step.perform of a write, by the place: bad where there is none
abbrev pub write_at : Option ℕ → ℕ → List ℕ → List ℕ → List ℕ → Step
write_at None mask values memory c = tells_bad c
write_at (Some at) mask values memory c = record { answer = replied (framed c 0 []); effect = lays at (masked_at memory at mask values) }

-- Ask.ask_file of a write, performed: the survey and the query tell the place, the query the mask and the values
unfoldable pub write_step : Seen → Query → List ℕ → List ℕ → Step
write_step s q memory c = write_at (locate_by s q) q.mask (values_of q c) memory c

-- Step.perform of Ask.diagnostic, by the type text in its array
unfoldable pub status_step : Slc → List ℕ → Step
status_step slc c = tells c 0 (diagnostic (take slc.type_len slc.type_text))

-- Step.obey, by what the query wants; a command for the directory goes another way (`directory_step`)
unfoldable pub obey_step : Wants → Slc → Seen → Query → List ℕ → List ℕ → List ℕ → Step
obey_step wants.Illegal slc s q memory log c = tells c 0x10 []
obey_step wants.Bad slc s q memory log c = tells_bad c
obey_step wants.Diagnostic slc s q memory log c = status_step slc c
obey_step wants.Entry slc s q memory log c = pop_step slc log c
obey_step (wants.Directory l) slc s q memory log c = tells_bad c
obey_step wants.Read slc s q memory log c = read_step s q memory c
obey_step wants.Write slc s q memory log c = write_step s q memory c

-- ---- the directory
-- the length of Directory.directory, by the layout and the survey's last number
unfoldable pub directory_length : Seen → Layout → ℕ
directory_length s l = l.first + s.next * l.row

-- the test of Ask.ask_directory for the size element, by the query and the layout
unfoldable pub size_asked : Query → Layout → Bool
size_asked q l = eqb q.element l.size_element && (leb 2 q.size && leb q.size 8)

-- Directory.directory_size, by the number that it tells
unfoldable pub size_bytes : ℕ → ℕ → List ℕ
size_bytes n size = fitted size 0 (low_first 2 n)

-- bytes of the directory as Ask.ask_directory asks for them, performed, by the query, its length `n` and an array `d` that begins with it
unfoldable pub part_step : Query → ℕ → List ℕ → List ℕ → Step
part_step q n d c = cond (leb (2 * q.element + q.size) n) (tells c 0 (take q.size (drop (2 * q.element) d))) (tells_bad c)

-- Ask.ask_directory, performed, by the query, its layout, the survey and an array `d` that begins with Directory.directory
unfoldable pub directory_step : Seen → Query → Layout → List ℕ → List ℕ → Step
directory_step s q l d c =
    cond (eqb q.code l.code)
    (cond (size_asked q l)
    (tells c 0 (size_bytes (directory_length s l + l.constant) q.size))
    (part_step q (directory_length s l) d c))
    (tells_bad c)
