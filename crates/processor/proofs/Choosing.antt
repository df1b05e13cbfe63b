-- A public call with a branch of its own for the directory: it asks, and surveys; where a directory is wanted it fills an array by its layout and shows that, and else
-- it answers with what it has. The law is over the type of the answer and the definitions that the parts meet.
--     Fits                 what a call does is what its parts do
--     shows, answers       the call by its two branches
use Rattle.std.specs.Prelude.{Option, None, Some, unwrap_or, option_map}
use Prim.Native.Nat.{ℕ}
use mathlib.Core.Path.{◌≡◌, sym, ap, ◌∙◌}
use mathlib.Core.List.{List}
use Rattle.processor_spec.specs.declared.FileRecord.{FileRecord}
use Rattle.processor_spec.specs.declared.Slc.{Slc}
use Rattle.processor_spec.specs.Pccc.{Left}
use Rattle.processor_query.specs.declared.Layout.{Layout}
use Rattle.processor_query.specs.declared.Query.{Query}
use Rattle.processor_table.specs.declared.Seen.{Seen}
use Rattle.processor_table.specs.Survey.{survey_of}

-- what is asked, whether a directory is wanted, what fills the array, what shows it, what answers else, and what the call does
abbrev pub AskDef : Type 0
AskDef = Slc → List ℕ → Query

abbrev pub WantedDef : Type 0
WantedDef = Query → Option Layout

abbrev pub FillDef : Type 0
FillDef = List FileRecord → ℕ → Layout → Seen → List ℕ

abbrev pub ShowDef : Type 0 → Type 0
ShowDef D = Slc → Seen → Query → Layout → List ℕ → List ℕ → List ℕ → List ℕ → List ℕ → Left D

abbrev pub CoreDef : Type 0 → Type 0
CoreDef D = Slc → Seen → Query → List ℕ → List ℕ → List ℕ → List ℕ → Left D

abbrev pub CallDef : Type 0 → Type 0
CallDef D = Slc → List FileRecord → List ℕ → List ℕ → List ℕ → List ℕ → Left D

module _ {D : Type 0} (ask : AskDef) (wanted : WantedDef) (fill : FillDef) (shown : ShowDef D) (out : CoreDef D) (def : CallDef D) where
  -- what the parts do, by a query, a survey and the layout that is wanted, where one is
  abbrev branch : Slc → List FileRecord → List ℕ → List ℕ → List ℕ → List ℕ → Query → Seen → Option Layout → Left D
  branch slc t m l c p q s o = unwrap_or (option_map (λ (y : Layout). shown slc s q y (fill t slc.files y s) m l c p) o) (out slc s q m l c p)

  abbrev pub Fits : Type 0
  Fits = (slc : Slc) (t : List FileRecord) (m l c p : List ℕ) → branch slc t m l c p (ask slc c) (survey_of t slc.files (ask slc c).number) (wanted (ask slc c)) ≡ def slc t m l c p

  module _ (right : Fits) (slc : Slc) (t : List FileRecord) (m l c p : List ℕ) (q : Query) (eq : q ≡ ask slc c) (s : Seen) (es : s ≡ survey_of t slc.files q.number) (o : Option Layout) (eo : o ≡ wanted q) (x : Left D) where
    branched : branch slc t m l c p q s o ≡ def slc t m l c p
    branched =
        ap (branch slc t m l c p q s) eo
        ∙ ap (λ (z : Seen). branch slc t m l c p q z (wanted q)) es
        ∙ ap (λ (z : Query). branch slc t m l c p z (survey_of t slc.files z.number) (wanted z)) eq
        ∙ right slc t m l c p

    pub shows : (y : Layout) (d : List ℕ) → d ≡ fill t slc.files y s → o ≡ Some y → x ≡ shown slc s q y d m l c p → x ≡ def slc t m l c p
    shows y d ed f e = e ∙ ap (λ (z : List ℕ). shown slc s q y z m l c p) ed ∙ sym (ap (branch slc t m l c p q s) f) ∙ branched

    pub answers : o ≡ None → x ≡ out slc s q m l c p → x ≡ def slc t m l c p
    answers f e = e ∙ sym (ap (branch slc t m l c p q s) f) ∙ branched
