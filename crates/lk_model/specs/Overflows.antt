-- The references whose values do not fit their fields (psABI x86-64, "Relocation Types"), in adding
-- order, by section and entry.
use Rattle.std.specs.Prelude.{ℕ, List, [], Option, Some, None, slice_get, if◌then◌else◌}
use Rattle.std.specs.List.{filter_map}
use Rattle.lk_report.specs.declared.faults.Fault.{Fault}
use Rattle.lk_report.specs.declared.faults.Fault.TheVariants as fault
use Rattle.lk_model.specs.SymbolValues.{numbers_of, reference_value, reference_fits}
use Rattle.lk_model.specs.Views.{Resolved, Ref}
use Rattle.lk_model.specs.declared.layouts.Placement.{Placement}

-- the path of an input, by its number
abbrev pub path_of_input : Resolved → ℕ → List ℕ
path_of_input r n = elim (slice_get r.inputs n) [ None ↦ [] | Some i ↦ i.path ]

-- the fault of a reference, where its value does not fit
abbrev pub overflow_of : Resolved → Placement → Ref → Option Fault
overflow_of r place ref =
    if reference_fits r place ref then None
    else (let n = numbers_of r place ref in
    Some (fault.Overflow (record { path = path_of_input r ref.input; section = ref.section; offset = ref.offset }) n.p n.s n.a (reference_value r place ref)))

unfoldable pub overflow_faults : Resolved → Placement → List Fault
overflow_faults r place = filter_map (overflow_of r place) r.references
