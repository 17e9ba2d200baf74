-- This project's own: which references of inputs that are not done anew an update rewrites: those whose
-- values are other ones than in the earlier image.
use Rattle.std.specs.Prelude.{ℕ, ◌==◌, ◌&&◌, not, Bool, List, [], map, filter, find, Option, option_and_then, slice_get}
use Rattle.lk_model.specs.BaseMatching.{number_before}
use Rattle.lk_model.specs.Checks.{is_some_with}
use Rattle.lk_model.specs.Elf.{elf_of}
use Rattle.lk_model.specs.Numbered.{is_number_in}
use Rattle.lk_model.specs.SymbolValues.{reference_value}
use Rattle.lk_model.specs.UpdateInputs.{update_resolved}
use Rattle.lk_model.specs.Views.{Input, Ref, Resolved}
use Rattle.lk_model.specs.declared.commands.Mark.TheVariants as mark
use Rattle.lk_model.specs.declared.layouts.Placement.{Placement}
use Rattle.lk_model.specs.declared.records.InputRecord.{InputRecord}
use Rattle.lk_model.specs.declared.records.Records.{Records}

-- a recorded input as an input that is not read
abbrev pub input_before : InputRecord → Input
input_before i = record {
  path = i.path;
  occurrence = i.occurrence;
  lib = i.lib;
  mark = mark.Unknown;
  stamp = i.stamp;
  elf = elf_of [];
  summary = i.summary;
}

-- what resolution finds of the recorded inputs, by the earlier link's numbers
unfoldable pub resolved_before : Records → Resolved
resolved_before base = update_resolved base [] base.options (map input_before base.inputs)

-- whether a reference of the earlier link, in this input of it, is where another one is; two of one
-- type never share a field
abbrev pub is_same_site : ℕ → Ref → Ref → Bool
is_same_site input x y = (y.input == input) && (y.section == x.section) && (y.offset == x.offset) && (y.code == x.code)

-- the reference of the earlier link that is where this one does
abbrev pub ref_before : Records → Resolved → Resolved → Ref → Option Ref
ref_before base before r x =
    option_and_then (λ (n : ℕ). find (is_same_site n x) before.references)
    (option_and_then (number_before base) (slice_get r.inputs x.input))

-- whether a reference has another value than in the earlier image
abbrev pub has_moved : Records → Resolved → Resolved → Placement → Ref → Bool
has_moved base before r place x =
    is_some_with (λ (y : Ref). not (reference_value before base.placement y == reference_value r place x)) (ref_before base before r x)

-- the references of inputs that are not redone whose values changed, in adding order. Those through LOCAL
-- symbols are not recorded, and their values stay: what they go to does not move.
unfoldable pub rewritten_of : Records → List ℕ → Resolved → Placement → List Ref
rewritten_of base redone r place =
    let before = resolved_before base in
    filter (λ (x : Ref). not (is_number_in redone x.input) && has_moved base before r place x) r.references
