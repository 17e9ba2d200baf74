-- The faults of references whose values do not fit their fields (psABI x86-64 "Relocation Types").
use Rattle.std.specs.Prelude.{ℕ, ℤ, List}
use Rattle.std.specs.List.{filter_map}
use Rattle.lk_report.specs.declared.faults.Fault.{Fault}
use Rattle.lk_report.specs.declared.faults.Fault.TheVariants as fault
use Rattle.lk_model.specs.declared.layouts.Placement.{Placement}
use Rattle.lk_model.specs.Overflows.{overflow_of}
use Rattle.lk_model.specs.Views.{Ref, Resolved}

-- the fault of a relocation in the file with this path: its place, its symbol, its addend and its value
abbrev pub overflow_at : List ℕ → ℕ → ℕ → ℕ → ℕ → ℤ → ℕ → Fault
overflow_at path section offset p s a value = fault.Overflow (record { path = path; section = section; offset = offset }) p s a value

-- the faults of references, in their order
abbrev pub overflows : Resolved → Placement → List Ref → List Fault
overflows r place refs = filter_map (overflow_of r place) refs
