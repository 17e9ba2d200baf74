-- This project's own: what resolution finds of the inputs of a command, and look-ups in it.
use Rattle.std.specs.Prelude.{ℕ, ◌==◌, Bool, List, ◌++◌, map, filter, find, Option, option_and_then, slice_get}
use Rattle.std.specs.List.{list_any}
use Rattle.lk_report.specs.declared.causes.OptionRecord.{OptionRecord}
use Rattle.lk_model.specs.declared.summaries.Contributions.{Contributions}
use Rattle.lk_model.specs.declared.summaries.Global.{Global}
use Rattle.lk_model.specs.declared.summaries.Winner.{Winner}
use Rattle.lk_model.specs.Adding.{added_inputs}
use Rattle.lk_model.specs.Finding.{Found, found_of, number_among}
use Rattle.lk_model.specs.KeptPieces.{is_input_piece, is_section_piece, name_pieces}
use Rattle.lk_model.specs.NeedsOf.{needs_of}
use Rattle.lk_model.specs.References.{references_of, sited_of}
use Rattle.lk_model.specs.Views.{Input, Resolved}

-- the paths of inputs
abbrev pub paths_of : List Input → List (List ℕ)
paths_of inputs = map (λ (x : Input). x.path) inputs

-- what resolution finds of the inputs of a command
unfoldable pub resolve : OptionRecord → List Input → Resolved
resolve options inputs =
    let found = found_of (paths_of inputs) options.entry (added_inputs options.entry inputs) in
    let sited = sited_of found.names inputs found.sections in
    let needs = needs_of found sited in
    record {
      options = record options { dynamic = found.dynamic };
      inputs = inputs;
      added = found.added;
      names = found.names;
      winners = found.winners;
      visibilities = found.visibilities;
      kept = found.sections ++ name_pieces needs.copies found.names found.winners;
      references = references_of sited;
      needs = needs;
    }

-- the part of it that the added inputs alone decide
abbrev pub found_in : Resolved → Found
found_in r = record {
  paths = paths_of r.inputs;
  entry = r.options.entry;
  added = r.added;
  dynamic = r.options.dynamic;
  names = r.names;
  winners = r.winners;
  visibilities = r.visibilities;
  sections = filter is_input_piece r.kept;
}

-- a name's number
abbrev pub name_number_of : Resolved → List ℕ → Option ℕ
name_number_of r name = number_among r.names name

-- a name with its symbols, by its number
abbrev pub contributions_at : Resolved → ℕ → Option Contributions
contributions_at r name = slice_get r.names name

-- the winner of a name, by its number
abbrev pub winner_at : Resolved → ℕ → Option Winner
winner_at r name = slice_get r.winners name

-- the visibility of a name, by its number
abbrev pub visibility_at : Resolved → ℕ → Option ℕ
visibility_at r name = slice_get r.visibilities name

-- a symbol of an input that is not LOCAL, as the input has it
abbrev pub global_at : Resolved → ℕ → ℕ → Option Global
global_at r input symbol = option_and_then (λ (x : Input). find (λ (g : Global). g.symbol == symbol) x.summary.globals) (slice_get r.inputs input)

-- whether the link keeps this section of this input
abbrev pub is_kept : Resolved → ℕ → ℕ → Bool
is_kept r input section = list_any (is_section_piece input section) r.kept
