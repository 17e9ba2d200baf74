-- The references of a link (gABI "Relocation"): all relocations of kept pieces.
use Rattle.std.specs.Prelude.{ℕ, ◌==◌, List, [], map, flat_map, filter_map, find, Option, Some, None, slice_get}
use Rattle.std.specs.List.{position_or_len}
use Rattle.std.specs.Str.{bytes_eq}
use Rattle.lk_elf.specs.Numbers.{stb_weak}
use Rattle.lk_elf.specs.declared.relocation.Rela.{Rela}
use Rattle.lk_model.specs.declared.layouts.PieceId.{PieceId}
use Rattle.lk_model.specs.declared.layouts.PieceId.TheVariants as piece
use Rattle.lk_model.specs.declared.layouts.SectionKey.{SectionKey}
use Rattle.lk_model.specs.declared.records.Reference.{Reference}
use Rattle.lk_model.specs.declared.summaries.Contributions.{Contributions}
use Rattle.lk_model.specs.declared.summaries.Global.{Global}
use Rattle.lk_model.specs.declared.summaries.InputSummary.{InputSummary}
use Rattle.lk_model.specs.Objects.{relocations_in}
use Rattle.lk_model.specs.Views.{Elf, Input, KeptPiece, Ref, Through}
use Rattle.lk_elf.specs.RelocationInfo.{r_type_of}
use Rattle.lk_elf.specs.RelocationInfo.{r_symbol_of}

-- a reference with the output section of the piece that it is in
abbrev pub Sited : Type 0
Sited = SectionKey × Ref

-- a name's number: its place in the order of names, or how many names there are
abbrev pub number_of_name : List Contributions → List ℕ → ℕ
number_of_name names name = position_or_len (λ (cs : Contributions). bytes_eq cs.name name) names

-- through what a relocation of an object goes, by the number of its symbol
abbrev pub through_of : List Contributions → InputSummary → ℕ → Through
through_of names summary symbol = elim (find (λ (g : Global). g.symbol == symbol) summary.globals) [
  | None ↦ Through.ByLocal symbol
  | Some g ↦ Through.ByName (number_of_name names g.name) (g.binding == stb_weak)
]

-- a relocation of a section of an input as a reference
abbrev pub reference_of : List Contributions → InputSummary → ℕ → ℕ → Rela → Ref
reference_of names summary input section rela = record {
  input = input;
  section = section;
  offset = rela.r_offset;
  code = r_type_of rela;
  addend = rela.r_addend;
  through = through_of names summary (r_symbol_of rela);
}

-- the references of a section of an input, which goes to this output section, in the order of its
-- relocations
abbrev pub sited_in : List Contributions → Elf → InputSummary → SectionKey → ℕ → ℕ → List Sited
sited_in names elf summary key input section = map (λ (rela : Rela). (key, reference_of names summary input section rela)) (relocations_in elf section)

-- the references of a piece
abbrev pub sited_at : List Contributions → List Input → SectionKey → PieceId → List Sited
sited_at names inputs key (piece.Section input section) = elim (slice_get inputs input) [ None ↦ [] | Some x ↦ sited_in names x.elf x.summary key input section ]
sited_at names inputs key (piece.Common name) = []
sited_at names inputs key (piece.Copy name) = []

-- the references of kept pieces, in the order of the pieces, in a piece in the order of its relocations
abbrev pub sited_of : List Contributions → List Input → List KeptPiece → List Sited
sited_of names inputs kept = flat_map (λ (k : KeptPiece). sited_at names inputs k.key k.piece) kept

-- references without their output sections
abbrev pub references_of : List Sited → List Ref
references_of sited = map (λ (x : Sited). x.1) sited

-- a reference as an image records it, which is none through a LOCAL symbol
abbrev pub recorded : Ref → Option Reference
recorded x = elim x.through [
  | Through.ByName name weak ↦ Some (record { input = x.input; section = x.section; offset = x.offset; code = x.code; name = name; addend = x.addend; weak = weak })
  | Through.ByLocal symbol ↦ None
]

-- the references that an image records
abbrev pub recorded_of : List Ref → List Reference
recorded_of references = filter_map recorded references
