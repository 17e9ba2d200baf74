-- The reading of `.gnu_incremental_relocs` with its refusals (this project's own; psABI "Relocation
-- Types" for types and the widths of their fields): a reference a record, as many as there are whole
-- records, each looked at beside those before it.
use Rattle.std.specs.Prelude.{ℕ, ◌+◌, ◌/◌, ◌==◌, ◌&&◌, ◌||◌, not, Bool, List, [], length, Option, None, option_map, is_some, Result, nat_le, if◌then◌else◌, slice_get, bytes_eq}
use Rattle.std.specs.List.{list_any, list_all}
use Rattle.lk_elf.specs.Fields.{signed64}
use Rattle.lk_model.specs.Checks.{is_some_with}
use Rattle.lk_model.specs.InputsReading.{ReadInput, truth_of_number}
use Rattle.lk_model.specs.Keys.{same_piece}
use Rattle.lk_model.specs.Lawful.{share_nothing}
use Rattle.lk_model.specs.RecordForms.{Values, Given, record_width, read_record}
use Rattle.lk_model.specs.RecordReaders.{passing, read_among, finished}
use Rattle.lk_model.specs.RecordSections.{reference_forms}
use Rattle.lk_model.specs.RelocationTypes.{relocation_type_of, width_of}
use Rattle.lk_model.specs.Texts.{text_at}
use Rattle.lk_model.specs.declared.layouts.PieceId.TheVariants as id
use Rattle.lk_model.specs.declared.layouts.PieceRow.{PieceRow}
use Rattle.lk_model.specs.declared.records.NameRow.{NameRow}
use Rattle.lk_model.specs.declared.records.Reference.{Reference}
use Rattle.lk_model.specs.declared.summaries.Global.{Global}

-- a reference, of so many references; its type is one that is linked
abbrev pub reference_with : ℕ → Values reference_forms → Option Reference
reference_with references (input, (section, (offset, (code, (name, (addend, (next, (weak_word, _)))))))) =
    if is_some (relocation_type_of code) && nat_le next references then
    option_map
    (λ w. record { input = input; section = section; offset = offset; code = code; name = name; addend = signed64 addend; weak = w })
    (truth_of_number weak_word)
    else None

-- whether the field of a reference lies in a piece
abbrev pub field_is_in : Reference → PieceRow → Bool
field_is_in x piece =
    same_piece piece.piece (id.Section x.input x.section) && nat_le (x.offset + width_of x.code) piece.size

-- whether it lies in a kept piece of an input
abbrev pub has_field : Reference → ReadInput → Bool
has_field x i = list_any (field_is_in x) i.placed

-- whether an input has a symbol of a name
abbrev pub has_global : ReadInput → NameRow → Bool
has_global i row = list_any (λ (g : Global). bytes_eq g.name row.name) i.record_of.summary.globals

-- whether the fields of two references share no byte
abbrev pub fields_apart : Reference → Reference → Bool
fields_apart a b =
    not (a.input == b.input) || not (a.section == b.section) || share_nothing a.offset (width_of a.code) b.offset (width_of b.code)

-- whether a reference of these inputs and names may follow these
unfoldable pub is_good_reference : List ReadInput → List NameRow → List Reference → Reference → Bool
is_good_reference inputs names before x =
    is_some_with (λ (i : ReadInput). has_field x i && is_some_with (has_global i) (slice_get names x.name)) (slice_get inputs x.input)
    && list_all (fields_apart x) before

-- a reference, after these
abbrev pub checked_reference : List ReadInput → List NameRow → ℕ → (ℕ → Option (List ℕ)) → List Reference → List ℕ → Given Reference
checked_reference inputs names references texts before bytes =
    read_record texts reference_forms (λ vs. passing (is_good_reference inputs names before) (reference_with references vs)) bytes

-- how many references a section of so many bytes has
abbrev pub reference_total : List ℕ → ℕ
reference_total bytes = length bytes / record_width reference_forms

-- the references of these inputs and names
unfoldable pub references_read : List ℕ → List ReadInput → List NameRow → List ℕ → Result (List Reference) ℕ
references_read strtab inputs names bytes =
    let total = reference_total bytes in
    finished (read_among (checked_reference inputs names total (text_at strtab)) [] total bytes)
