-- The fields of relocations (gABI "Relocation") as marks on the bytes of their target: which fields meet
-- a mark of those before them, and the marks that they leave.
use Rattle.std.specs.Prelude.{ℕ, zero, suc, ◌+◌, ◌<◌, ◌≤◌, Bool, true, false, not, ◌&&◌, List, [], ◌∷◌, flat_map, slice_index_or, slice_set, Option}
use Rattle.lk_elf.specs.declared.relocation.Rela.{Rela}
use Rattle.lk_elf.specs.declared.section_header.Shdr.{Shdr}
use Rattle.lk_report.specs.declared.faults.InputFault.{InputFault}
use Rattle.lk_report.specs.declared.faults.InputFault.TheVariants.{BadRela}
use Rattle.lk_model.specs.Checks.{first_fault}
use Rattle.lk_model.specs.RelocationTypes.{width_of}
use Rattle.lk_elf.specs.RelocationInfo.{r_type_of}
use Rattle.lk_obj_parts.specs.RelocationEntries.{entry_at, entry_count}

-- none of these bytes is marked
abbrev pub is_free : List Bool → ℕ → ℕ → Bool
is_free marks at zero = true
is_free marks at (suc width) = not (slice_index_or marks at false) && is_free marks (at + 1) width

-- the marks after these bytes were given this one
abbrev pub painted : Bool → List Bool → ℕ → ℕ → List Bool
painted mark marks at zero = marks
painted mark marks at (suc width) = painted mark (slice_set marks at mark) (at + 1) width

-- the width of the field of a relocation
abbrev pub field_width : Rela → ℕ
field_width rela = width_of (r_type_of rela)

-- so many entries of section n from this one on, each with both numbers
abbrev pub sites_from : List ℕ → ℕ → Shdr → ℕ → ℕ → List (ℕ × ℕ × Rela)
sites_from bytes n header k zero = []
sites_from bytes n header k (suc m) = (n, k, entry_at bytes header k) ∷ sites_from bytes n header (k + 1) m

-- the entries of a section, each with both numbers
abbrev pub sites_of_row : List ℕ → ℕ × Shdr → List (ℕ × ℕ × Rela)
sites_of_row bytes row = sites_from bytes row.0 row.1 0 (entry_count bytes row.1)

-- the entries of sections, one after another
abbrev pub sites_of : List ℕ → List (ℕ × Shdr) → List (ℕ × ℕ × Rela)
sites_of bytes rows = flat_map (sites_of_row bytes) rows

-- each field against the marks of those before it
abbrev pub overlaps_marked : List Bool → List (ℕ × ℕ × Rela) → List (Bool × InputFault)
overlaps_marked marks [] = []
overlaps_marked marks (site ∷ sites) =
    (not (is_free marks site.2.r_offset (field_width site.2)), BadRela site.0 site.1)
    ∷ overlaps_marked (painted true marks site.2.r_offset (field_width site.2)) sites

-- the first field that meets a mark of those before it
abbrev pub overlap_marked : List Bool → List (ℕ × ℕ × Rela) → Option InputFault
overlap_marked marks sites = first_fault (overlaps_marked marks sites)

-- the marks after the bytes of all these fields were given this one
abbrev pub fields_painted : Bool → List Bool → List (ℕ × ℕ × Rela) → List Bool
fields_painted mark marks [] = marks
fields_painted mark marks (site ∷ sites) = fields_painted mark (painted mark marks site.2.r_offset (field_width site.2)) sites

-- the fields of a section fit in a target of this size
abbrev pub FieldsFit : ℕ → List ℕ → Shdr → Type 0
FieldsFit size bytes header =
    (k : ℕ) → k < entry_count bytes header → (entry_at bytes header k).r_offset + field_width (entry_at bytes header k) ≤ size

-- the fields of each of these sections fit in it
abbrev pub RowsFit : ℕ → List ℕ → List (ℕ × Shdr) → Type 0
RowsFit size bytes [] = Unit {0}
RowsFit size bytes (row ∷ rows) = FieldsFit size bytes row.1 × RowsFit size bytes rows
