-- This project's own: what an update knows of its inputs, and what resolution finds of them. An input
-- that is read is what its file holds. Of any other the earlier image's records are taken for the file:
-- its summary, its references through names, and the slots of its LOCAL symbols; its bytes are not
-- looked at.
use Rattle.std.specs.Prelude.{ℕ, ◌+◌, ◌==◌, ◌&&◌, true, false, List, [], ◌∷◌, ◌++◌, map, flat_map, filter, filter_map, Option, Some, None, option_map, option_and_then, slice_get}
use Rattle.lk_report.specs.FileMap.{FileMap}
use Rattle.lk_report.specs.declared.causes.OptionRecord.{OptionRecord}
use Rattle.lk_report.specs.declared.faults.Fault.{Fault}
use Rattle.lk_model.specs.Adding.{added_inputs}
use Rattle.lk_model.specs.BaseMatching.{number_before, input_now, name_now}
use Rattle.lk_model.specs.Changes.{record_for}
use Rattle.lk_model.specs.Elf.{elf_of}
use Rattle.lk_model.specs.Finding.{found_of}
use Rattle.lk_model.specs.Inputs.{FoundInput, found_in, input_with, input_words, count_of}
use Rattle.lk_model.specs.KeptPieces.{is_input_piece, name_pieces}
use Rattle.lk_model.specs.NeedsOf.{needs_of}
use Rattle.lk_model.specs.Numbered.{is_number_in}
use Rattle.lk_model.specs.References.{Sited, sited_at, references_of}
use Rattle.lk_model.specs.Resolving as resolving
use Rattle.lk_model.specs.Resolving.{paths_of}
use Rattle.lk_model.specs.ScanFaults.{faults_among, reported_once}
use Rattle.lk_model.specs.Views.{Input, KeptPiece, Ref, Through, Resolved}
use Rattle.lk_model.specs.declared.commands.Command.{Command}
use Rattle.lk_model.specs.declared.layouts.GotKey.{GotKey}
use Rattle.lk_model.specs.declared.layouts.GotOwner.TheVariants as owner
use Rattle.lk_model.specs.declared.layouts.Needs.{Needs}
use Rattle.lk_model.specs.declared.layouts.PieceId.TheVariants as piece
use Rattle.lk_model.specs.declared.layouts.SectionKey.{SectionKey}
use Rattle.lk_model.specs.declared.records.Records.{Records}
use Rattle.lk_model.specs.declared.records.Reference.{Reference}
use Rattle.lk_model.specs.declared.summaries.Contributions.{Contributions}
use Rattle.lk_model.specs.declared.summaries.InputSummary.{InputSummary}
use Rattle.lk_model.specs.declared.summaries.Kind.TheVariants as kind

-- ---- the inputs

-- what is known of an input that is neither read nor recorded
abbrev pub nothing_known : InputSummary
nothing_known = record { kind = kind.Object; soname = []; exec_stack = false; pieces = []; globals = []; groups = [] }

-- an input that is looked up and not read, with a summary from elsewhere
abbrev pub looked_up : ℕ → FoundInput → InputSummary → Input
looked_up occurrence found summary = record {
  path = found.path;
  occurrence = occurrence;
  lib = found.lib;
  mark = found.word.mark;
  stamp = found.file.stamp;
  elf = elf_of [];
  summary = summary;
}

-- an input that is not read: what the earlier image records of it
abbrev pub unread_input : Records → ℕ → FoundInput → Input
unread_input base occurrence found =
    let x = looked_up occurrence found nothing_known in
    elim (record_for base x) [ None ↦ x | Some i ↦ looked_up occurrence found i.summary ]

-- an input by its number, where these are read
abbrev pub update_input : Records → List ℕ → ℕ → ℕ → FoundInput → Input
update_input base reads n occurrence found = elim (is_number_in reads n) [
  | true ↦ input_with occurrence found (elf_of found.file.bytes)
  | false ↦ unread_input base occurrence found
]

-- the inputs from a number on, after those with these paths
unfoldable pub update_inputs_after : Records → List ℕ → ℕ → List (List ℕ) → List FoundInput → List Input
update_inputs_after base reads n earlier [] = []
update_inputs_after base reads n earlier (found ∷ others) =
    update_input base reads n (count_of found.path earlier) found
    ∷ update_inputs_after base reads (n + 1) (found.path ∷ earlier) others

-- the inputs of a command in command order, where those of these numbers are read
unfoldable pub update_inputs : Records → List ℕ → Command → FileMap → List Input
update_inputs base reads command files =
    update_inputs_after base reads 0 [] (filter_map (found_in command files) (input_words command))

-- ---- the references

-- a recorded reference by this link's numbers
abbrev pub reference_now : Records → List Contributions → ℕ → Reference → Option Ref
reference_now base names input x =
    option_map (λ (n : ℕ). record { input = input; section = x.section; offset = x.offset; code = x.code; addend = x.addend; through = Through.ByName n x.weak })
    (name_now base names x.name)

-- the recorded references in a section of an input, in the order of its relocations
abbrev pub recorded_in : Records → ℕ → ℕ → List Reference
recorded_in base before section = filter (λ (x : Reference). (x.input == before) && (x.section == section)) base.references

abbrev pub recorded_sited : Records → List Contributions → SectionKey → ℕ → ℕ → Option ℕ → List Sited
recorded_sited base names key input section None = []
recorded_sited base names key input section (Some before) =
    map (λ (x : Ref). (key, x)) (filter_map (reference_now base names input) (recorded_in base before section))

-- the references of a kept section of an input that is not read: those that the earlier image records
abbrev pub unread_sited : Records → List Contributions → List Input → SectionKey → ℕ → ℕ → List Sited
unread_sited base names inputs key input section = elim (slice_get inputs input) [
  | None ↦ []
  | Some x ↦ recorded_sited base names key input section (number_before base x)
]

-- the references of a kept section, where the inputs of these numbers are read
abbrev pub update_sited_at : Records → List ℕ → List Contributions → List Input → KeptPiece → List Sited
update_sited_at base reads names inputs k = elim k.piece [
  | piece.Section i s ↦ elim (is_number_in reads i) [
    | true ↦ sited_at names inputs k.key k.piece
    | false ↦ unread_sited base names inputs k.key i s
  ]
  | piece.Common n ↦ []
  | piece.Copy n ↦ []
]

unfoldable pub update_sited : Records → List ℕ → List Contributions → List Input → List KeptPiece → List Sited
update_sited base reads names inputs kept = flat_map (update_sited_at base reads names inputs) kept

-- ---- the slots of LOCAL symbols

-- a recorded slot of a LOCAL symbol of an input that is not read, by this link's numbers
abbrev pub unread_local : Records → List ℕ → List Input → GotKey → Option GotKey
unread_local base reads inputs k = elim k.owner [
  | owner.Global n ↦ None
  | owner.Local i symbol ↦ elim (input_now base inputs i) [
    | None ↦ None
    | Some n ↦ elim (is_number_in reads n) [
      | true ↦ None
      | false ↦ Some (record { owner = owner.Local n symbol; thread = k.thread })
    ]
  ]
]

-- the slots that LOCAL symbols of inputs that are not read need, in order of the recorded slots
abbrev pub unread_locals : Records → List ℕ → List Input → List GotKey
unread_locals base reads inputs = filter_map (λ (slot : Option GotKey). option_and_then (unread_local base reads inputs) slot) base.placement.slots.got

-- needs with more slots
abbrev pub with_slots : List GotKey → Needs → Needs
with_slots more needs = record needs { got = needs.got ++ more }

-- ---- what resolution finds

-- what resolution finds of the inputs of an update, where those of these numbers are read. The
-- references through LOCAL symbols of the others are left out: neither they nor their values change.
unfoldable pub update_resolved : Records → List ℕ → OptionRecord → List Input → Resolved
update_resolved base reads options inputs =
    let found = found_of (paths_of inputs) options.entry (added_inputs options.entry inputs) in
    let sited = update_sited base reads found.names inputs found.sections in
    let needs = with_slots (unread_locals base reads inputs) (needs_of found sited) in
    record {
      options = record options { dynamic = found.dynamic };
      inputs = inputs;
      added = found.added;
      names = found.names;
      winners = found.winners;
      visibilities = found.visibilities;
      kept = found.sections ++ name_pieces needs.copies found.names found.winners;
      references = references_of sited;
      needs = needs;
    }

-- the faults of the references of an update, in adding order
unfoldable pub update_scan_faults : Records → List ℕ → Resolved → List Fault
update_scan_faults base reads r =
    reported_once (faults_among (resolving.found_in r) r.inputs (update_sited base reads r.names r.inputs (filter is_input_piece r.kept)))
