-- The references of a piece (gABI "Relocation").
use Rattle.std.specs.Prelude.{ℕ, List, [], map, Some, None}
use Rattle.std.specs.List.{flat_map, slice_get}
use Rattle.lk_elf.specs.declared.relocation.Rela.{Rela}
use Rattle.lk_model.specs.declared.layouts.PieceId.{PieceId}
use Rattle.lk_model.specs.declared.layouts.PieceId.TheVariants as id
use Rattle.lk_model.specs.declared.layouts.PieceRow.{PieceRow}
use Rattle.lk_model.specs.Elf.{elf_of}
use Rattle.lk_model.specs.Objects.{relocations_in, summary_in}
use Rattle.lk_model.specs.References.{reference_of}
use Rattle.lk_model.specs.Views.{Input, Ref, Resolved}

-- the references of a piece, in the order of its relocations
abbrev pub section_references : Resolved → ℕ → ℕ → Input → List Ref
section_references r n section x = map (reference_of r.names x.summary n section) (relocations_in x.elf section)

abbrev pub piece_references : Resolved → PieceId → List Ref
piece_references r (id.Section n section) = elim (slice_get r.inputs n) [ None ↦ [] | Some x ↦ section_references r n section x ]
piece_references r (id.Common name) = []
piece_references r (id.Copy name) = []

-- the references of placed pieces
abbrev pub placed_references : Resolved → List PieceRow → List Ref
placed_references r pieces = flat_map (λ (p : PieceRow). piece_references r p.piece) pieces

-- a relocation of a section of an object that is the input with a number, and relocations, as references
abbrev pub reference_in : Resolved → ℕ → List ℕ → ℕ → Rela → Ref
reference_in r n bytes section rela = reference_of r.names (summary_in (elf_of bytes)) n section rela

abbrev pub references_by : Resolved → ℕ → List ℕ → ℕ → List Rela → List Ref
references_by r n bytes section relas = map (reference_in r n bytes section) relas
