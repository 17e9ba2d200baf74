-- The fields of references as they are filled; where a value does not fit, the field stays as it was (psABI x86-64
-- "Relocation Types").
use Rattle.std.specs.Prelude.{ℕ, cond, List, fold}
use Rattle.lk_model.specs.declared.layouts.Placement.{Placement}
use Rattle.lk_model.specs.LinkedBytes.{field_of, patch}
use Rattle.lk_model.specs.SymbolValues.{reference_fits}
use Rattle.lk_model.specs.Views.{Ref, Resolved}

-- bytes with the field of a reference filled, which begins at a place
abbrev pub filled_at : Resolved → Placement → ℕ → List ℕ → Ref → List ℕ
filled_at r place at bytes ref = cond (reference_fits r place ref) (patch bytes at (field_of r place ref)) bytes

-- the bytes of a section with the field of one of its references filled, and with those of several
abbrev pub filled : Resolved → Placement → List ℕ → Ref → List ℕ
filled r place bytes ref = filled_at r place ref.offset bytes ref

abbrev pub all_filled : Resolved → Placement → List ℕ → List Ref → List ℕ
all_filled r place bytes refs = fold (filled r place) bytes refs
