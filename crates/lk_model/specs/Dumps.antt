-- The text of records (this project's own), line by line: the version and the options; in the long form
-- also the output sections, the inputs with their kept pieces, the names, the references, the slots and
-- the entries. Addresses, sizes and offsets are hexadecimal, all other numbers decimal.
use Rattle.std.specs.Prelude.{ℕ, Bool, true, false, List, [], ◌++◌, Option, Some, None, codes, decimal, slice_get, flat_map}
use Rattle.std.specs.List.{enumerate_from}
use Rattle.lk_report.specs.Texts.{hex_text, site_text}
use Rattle.lk_model.specs.InputsSection.{option_flags, input_kind}
use Rattle.lk_model.specs.Keys.{piece_row_of}
use Rattle.lk_model.specs.RecordSections.{slot_kind}
use Rattle.lk_model.specs.SectionKeys.{class_number}
use Rattle.lk_model.specs.declared.layouts.GotKey.{GotKey}
use Rattle.lk_model.specs.declared.layouts.PieceId.TheVariants as id
use Rattle.lk_model.specs.declared.layouts.PieceRow.{PieceRow}
use Rattle.lk_model.specs.declared.layouts.Placement.{Placement}
use Rattle.lk_model.specs.declared.layouts.SectionRow.{SectionRow}
use Rattle.lk_model.specs.declared.records.InputRecord.{InputRecord}
use Rattle.lk_model.specs.declared.records.NameRow.{NameRow}
use Rattle.lk_model.specs.declared.records.Records.{Records}
use Rattle.lk_model.specs.declared.records.Reference.{Reference}
use Rattle.lk_model.specs.declared.summaries.PieceInfo.{PieceInfo}

-- the version and the options
unfoldable pub head_lines : Records → List ℕ
head_lines r =
    codes "version " ++ decimal r.version ++ codes "\noptions flags " ++ decimal (option_flags r.options)
    ++ codes " patch " ++ decimal r.options.patch ++ codes " entry " ++ r.options.entry ++ codes "\n"

-- an output section
unfoldable pub section_line : SectionRow → List ℕ
section_line row =
    codes "section " ++ row.key.name ++ codes " class " ++ decimal (class_number row.key.class) ++ codes " addr " ++ hex_text row.addr
    ++ codes " size " ++ hex_text row.size ++ codes " room " ++ hex_text row.room ++ codes "\n"

-- a piece of an input, by its section number, where it is kept
unfoldable pub piece_line_at : PieceInfo → Option PieceRow → List ℕ
piece_line_at p None = []
piece_line_at p (Some row) =
    codes "piece " ++ decimal p.section ++ codes " addr " ++ hex_text row.addr ++ codes " size " ++ hex_text p.size ++ codes "\n"

abbrev pub piece_line : Placement → ℕ → PieceInfo → List ℕ
piece_line place n p = piece_line_at p (piece_row_of place (id.Section n p.section))

-- an input and its kept pieces
unfoldable pub input_lines : Placement → ℕ × InputRecord → List ℕ
input_lines place (n, i) =
    codes "input " ++ i.path ++ codes " kind " ++ decimal (input_kind i) ++ codes "\n"
    ++ flat_map (piece_line place n) i.summary.pieces

-- a name
unfoldable pub name_line : NameRow → List ℕ
name_line row = codes "name " ++ row.name ++ codes " winner " ++ decimal row.winner ++ codes "\n"

-- the name and the path with a number; in records that are read each number is one of them
abbrev pub name_numbered : Records → ℕ → List ℕ
name_numbered r n = elim (slice_get r.names n) [ None ↦ [] | Some row ↦ row.name ]

abbrev pub path_numbered : Records → ℕ → List ℕ
path_numbered r n = elim (slice_get r.inputs n) [ None ↦ [] | Some i ↦ i.path ]

-- a reference
unfoldable pub reference_line : Records → Reference → List ℕ
reference_line r x =
    codes "reference " ++ site_text (record { path = path_numbered r x.input; section = x.section; offset = x.offset })
    ++ codes " type " ++ decimal x.code ++ codes " name " ++ name_numbered r x.name ++ codes "\n"

-- a GOT slot, by its number
unfoldable pub slot_line : ℕ × Option GotKey → List ℕ
slot_line (n, slot) = codes "got " ++ decimal n ++ codes " kind " ++ decimal (slot_kind slot) ++ codes "\n"

-- a PLT entry, by its number
unfoldable pub entry_line : Records → ℕ × ℕ → List ℕ
entry_line r (n, name) = codes "plt " ++ decimal n ++ codes " " ++ name_numbered r name ++ codes "\n"

-- all but the head
unfoldable pub rest_lines : Records → List ℕ
rest_lines r =
    flat_map section_line r.placement.sections
    ++ flat_map (input_lines r.placement) (enumerate_from 0 r.inputs)
    ++ flat_map name_line r.names
    ++ flat_map (reference_line r) r.references
    ++ flat_map slot_line (enumerate_from 0 r.placement.slots.got)
    ++ flat_map (entry_line r) (enumerate_from 0 r.placement.slots.plt)

-- the text of records, in the short or in the long form
unfoldable pub records_text : Bool → Records → List ℕ
records_text true r = head_lines r
records_text false r = head_lines r ++ rest_lines r
