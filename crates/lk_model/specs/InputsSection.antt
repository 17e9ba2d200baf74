-- The fields of `.gnu_incremental_inputs` (this project's own): a head, the output sections that the
-- tail does not hold, and the inputs with their pieces, symbols and groups.
use Rattle.std.specs.Prelude.{ℕ, ◌+◌, ◌*◌, Bool, true, false, List, [], ◌∷◌, ◌++◌, length, map, Option, Some, None, ◌==◌, if◌then◌else◌}
use Rattle.std.specs.List.{flat_map, enumerate_from}
use Rattle.lk_elf.specs.Fields.{unsigned64}
use Rattle.lk_report.specs.declared.causes.OptionRecord.{OptionRecord}
use Rattle.lk_report.specs.declared.stamps.Stamp.{Stamp}
use Rattle.lk_model.specs.Keys.{piece_row_of}
use Rattle.lk_model.specs.SectionKeys.{class_number}
use Rattle.lk_model.specs.RecordFields.{Field}
use Rattle.lk_model.specs.RecordFields.Field.{Short, Long, Text}
use Rattle.lk_model.specs.declared.layouts.PieceId.TheVariants as id
use Rattle.lk_model.specs.declared.layouts.PieceRow.{PieceRow}
use Rattle.lk_model.specs.declared.layouts.Placement.{Placement}
use Rattle.lk_model.specs.declared.layouts.SectionRow.{SectionRow}
use Rattle.lk_model.specs.declared.records.InputRecord.{InputRecord}
use Rattle.lk_model.specs.declared.records.Records.{Records}
use Rattle.lk_model.specs.declared.summaries.Global.{Global}
use Rattle.lk_model.specs.declared.summaries.Group.{Group}
use Rattle.lk_model.specs.declared.summaries.Home.{Home}
use Rattle.lk_model.specs.declared.summaries.Home.TheVariants as home
use Rattle.lk_model.specs.declared.summaries.Kind.TheVariants as kind
use Rattle.lk_model.specs.declared.summaries.PieceInfo.{PieceInfo}

abbrev pub bit : Bool → ℕ
bit true = 1
bit false = 0

-- the options as flags: 1 dynamic, 2 export
abbrev pub option_flags : OptionRecord → ℕ
option_flags o = bit o.dynamic + 2 * bit o.export_dynamic

abbrev pub head_fields : Records → List Field
head_fields r =
    Short r.version ∷ Short (option_flags r.options) ∷ Text r.options.entry ∷ Text r.options.interp ∷ Text r.options.runpath
    ∷ Short r.options.patch ∷ Short (length r.inputs) ∷ Short (length r.placement.sections) ∷ []

abbrev pub section_fields : SectionRow → List Field
section_fields row =
    Text row.key.name ∷ Short (class_number row.key.class) ∷ Long row.addr ∷ Long row.offset ∷ Long row.size ∷ Long row.room
    ∷ Long row.align ∷ []

-- the kind of an input: 1 an object outside a lib group, 2 a member that was added, 3 one that was not,
-- 4 a shared input
abbrev pub input_kind : InputRecord → ℕ
input_kind i = elim i.summary.kind [
  | kind.Shared ↦ 4
  | kind.Object ↦ if i.lib == 0 then 1 else (if i.added then 2 else 3)
]

abbrev pub stamp_flag : Option Stamp → ℕ
stamp_flag None = 0
stamp_flag (Some s) = 1

abbrev pub stamp_length : Option Stamp → ℕ
stamp_length None = 0
stamp_length (Some s) = s.length

abbrev pub stamp_time : Option Stamp → ℕ
stamp_time None = 0
stamp_time (Some s) = unsigned64 s.modified

abbrev pub input_head : InputRecord → List Field
input_head i =
    Text i.path ∷ Short i.occurrence ∷ Short (input_kind i) ∷ Short i.lib ∷ Short (stamp_flag i.stamp) ∷ Text i.summary.soname
    ∷ Long (stamp_length i.stamp) ∷ Long (stamp_time i.stamp) ∷ Short (length i.summary.pieces) ∷ Short (length i.summary.globals)
    ∷ Short (length i.summary.groups) ∷ Short (bit i.summary.exec_stack) ∷ []

-- what is in a piece's record for a section that is not kept
abbrev pub no_section : ℕ
no_section = 0xffffffff

abbrev pub piece_section : Option PieceRow → ℕ
piece_section None = no_section
piece_section (Some row) = row.section

abbrev pub piece_address : Option PieceRow → ℕ
piece_address None = 0
piece_address (Some row) = row.addr

-- the flags of a piece: 1 kept, 2 terminator, and 256 times its class where it is not kept
abbrev pub piece_flags : PieceInfo → Option PieceRow → ℕ
piece_flags p None = 2 * bit p.terminator + 256 * class_number p.key.class
piece_flags p (Some row) = 1 + 2 * bit p.terminator

abbrev pub piece_fields : Placement → ℕ → PieceInfo → List Field
piece_fields place n p =
    let row = piece_row_of place (id.Section n p.section) in
    Short p.section ∷ Short (piece_section row) ∷ Long (piece_address row) ∷ Long p.size ∷ Long p.align ∷ Text p.name
    ∷ Short (piece_flags p row) ∷ []

abbrev pub home_number : Home → ℕ
home_number home.Undefined = 0
home_number (home.Section n) = 1
home_number home.Absolute = 2
home_number home.Common = 3
home_number home.Shared = 4

abbrev pub home_section : Home → ℕ
home_section (home.Section n) = n
home_section _ = 0

abbrev pub global_fields : Global → List Field
global_fields g =
    Text g.name ∷ Short (g.binding + 256 * g.code + 65536 * g.visibility) ∷ Short (home_number g.home) ∷ Short (home_section g.home)
    ∷ Long g.value ∷ Long g.size ∷ Short g.symbol ∷ Short 0 ∷ []

abbrev pub group_fields : Group → List Field
group_fields g = Text g.signature ∷ Short (length g.members) ∷ map Short g.members

abbrev pub input_fields : Placement → ℕ × InputRecord → List Field
input_fields place (n, i) =
    input_head i ++ flat_map (piece_fields place n) i.summary.pieces ++ flat_map global_fields i.summary.globals
    ++ flat_map group_fields i.summary.groups

unfoldable pub inputs_fields : Records → List Field
inputs_fields r =
    head_fields r ++ flat_map section_fields r.placement.sections ++ flat_map (input_fields r.placement) (enumerate_from 0 r.inputs)
