-- An answer told in numbers.
use Rattle.std.proofs.Common.{ℕ, ◌≡◌, ap, ◌∙◌, List}
use Rattle.processor_spec.specs.declared.Built.{Built}
use Rattle.processor_spec.specs.declared.Done.{Done}
use Rattle.processor_spec.specs.declared.FileRecord.{FileRecord}
use Rattle.processor_spec.specs.Build.{Raised, raised}
use Rattle.processor_spec.specs.Pccc.{Left, left}
use Rattle.link_processor.specs.declared.SlcBuilt.{SlcBuilt}
use Rattle.link_processor.specs.declared.SlcDone.{SlcDone}
use Rattle.link_processor.specs.ProcessorRecords.{done_of, numbered, built_of, Raises}

pub is_numbered : (d : Done) (m p : List ℕ) (x : Left Done) (r : SlcDone) → left d m p ≡ x → r ≡ done_of d → left r m p ≡ numbered x
is_numbered d m p x r e h = ap (λ (z : SlcDone). left z m p) h ∙ ap numbered e

pub raises : (b : Built) (t : List FileRecord) (m : List ℕ) (x : Raised) (r : SlcBuilt) → raised b t m ≡ x → r ≡ built_of b → Raises x r t m
raises b t m x r e h = record { answer = h ∙ ap (λ (z : Raised). built_of z.built) e; table = ap (λ (z : Raised). z.table) e; memory = ap (λ (z : Raised). z.memory) e }
