-- This project's own: why an update of an earlier image with sound records cannot be made: the first
-- first cause, from other options to a value that does not fit its field.
use Rattle.std.specs.Prelude.{ℕ, ◌==◌, ◌&&◌, not, Bool, true, false, List, find, Option, Some, option_map, Result, Ok, Err}
use Rattle.std.specs.Str.{bytes_eq}
use Rattle.lk_report.specs.declared.causes.Cause.{Cause}
use Rattle.lk_report.specs.declared.causes.Cause.TheVariants as cause
use Rattle.lk_report.specs.declared.causes.OptionRecord.{OptionRecord}
use Rattle.lk_model.specs.Changes.{redone_of}
use Rattle.lk_model.specs.Keys.{same_truth}
use Rattle.lk_model.specs.SymbolValues.{numbers_of, reference_fits, reference_value}
use Rattle.lk_model.specs.UpdatePlace.{update_place_with}
use Rattle.lk_model.specs.Views.{Ref, Resolved}
use Rattle.lk_model.specs.declared.layouts.Placement.{Placement}
use Rattle.lk_model.specs.declared.records.Records.{Records}

-- two option records are the same, with whether the link is dynamic
abbrev pub same_options : OptionRecord → OptionRecord → Bool
same_options a b =
    bytes_eq a.entry b.entry
    && bytes_eq a.interp b.interp
    && bytes_eq a.runpath b.runpath
    && (a.patch == b.patch)
    && same_truth a.export_dynamic b.export_dynamic
    && same_truth a.dynamic b.dynamic

-- the placement of an update that does these inputs anew, or the first cause from other options to a
-- table without room
unfoldable pub planned : Records → List ℕ → Resolved → Result Placement Cause
planned base redone r = elim (same_options base.options r.options) [
  | false ↦ Err (cause.OptionsChanged base.options r.options)
  | true ↦ update_place_with base redone r
]

-- the cause that a reference is whose value does not fit at a placement
abbrev pub overflow_cause : Resolved → Placement → Ref → Cause
overflow_cause r place x = let n = numbers_of r place x in cause.UpdateOverflow n.p n.s n.a (reference_value r place x)

-- the first reference whose value does not fit, in adding order, by section and entry
unfoldable pub update_overflow : Resolved → Placement → Option Cause
update_overflow r place = option_map (overflow_cause r place) (find (λ (x : Ref). not (reference_fits r place x)) r.references)

-- the first cause of an update that does these inputs anew
unfoldable pub cause_with : Records → List ℕ → Resolved → Option Cause
cause_with base redone r = elim (planned base redone r) [ Err c ↦ Some c | Ok place ↦ update_overflow r place ]

-- the first cause why an earlier image with these records is not updated
unfoldable pub cause_of : Records → Resolved → Option Cause
cause_of base r = cause_with base (redone_of base r) r
