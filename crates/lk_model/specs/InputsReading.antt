-- The reading of `.gnu_incremental_inputs` (this project's own): its head, its output sections, its
-- inputs, each with its pieces, symbols and groups. Texts are looked up in the section of texts.
use Rattle.std.specs.Prelude.{ℕ, zero, suc, not, ◌+◌, ◌-◌, ◌/◌, ◌%◌, ◌==◌, ◌&&◌, ◌||◌, Bool, true, false, List, [], ◌∷◌, length, map, Option, Some, None, option_map, Result, Ok, Err, nat_lt, nat_le, if◌then◌else◌, slice_get}
use Rattle.lk_elf.specs.Fields.{num, signed64}
use Rattle.lk_report.specs.declared.causes.OptionRecord.{OptionRecord}
use Rattle.lk_report.specs.declared.stamps.Stamp.{Stamp}
use Rattle.lk_model.specs.InputsSection.{no_section}
use Rattle.lk_model.specs.Pieces.{output_name}
use Rattle.lk_model.specs.RecordForms.{Form, Values, Given, given_then, read_record, read_many}
use Rattle.lk_model.specs.RecordForms.Form.{Num32, Num64, Text32}
use Rattle.lk_model.specs.Texts.{text_at}
use Rattle.lk_model.specs.declared.layouts.Class.{Class}
use Rattle.lk_model.specs.declared.layouts.Class.TheVariants.{R, X, W, WX, Tdata, Tbss, Bss, N}
use Rattle.lk_model.specs.declared.layouts.PieceId.TheVariants as id
use Rattle.lk_model.specs.declared.layouts.PieceRow.{PieceRow}
use Rattle.lk_model.specs.declared.layouts.SectionRow.{SectionRow}
use Rattle.lk_model.specs.declared.records.InputRecord.{InputRecord}
use Rattle.lk_model.specs.declared.summaries.Global.{Global}
use Rattle.lk_model.specs.declared.summaries.Group.{Group}
use Rattle.lk_model.specs.declared.summaries.Home.{Home}
use Rattle.lk_model.specs.declared.summaries.Home.TheVariants as home
use Rattle.lk_model.specs.declared.summaries.Kind.TheVariants as kind
use Rattle.lk_model.specs.declared.summaries.PieceInfo.{PieceInfo}

-- numbers that are taken for a choice; none for a number outside its list
abbrev pub class_of_number : ℕ → Option Class
class_of_number n = slice_get (R ∷ X ∷ W ∷ WX ∷ Tdata ∷ Tbss ∷ Bss ∷ N ∷ []) n

abbrev pub truth_of_number : ℕ → Option Bool
truth_of_number n = slice_get (false ∷ true ∷ []) n

abbrev pub home_of_number : ℕ → ℕ → Option Home
home_of_number h n =
    if h == 1 then Some (home.Section n)
    else (if n == 0 then slice_get (home.Undefined ∷ home.Undefined ∷ home.Absolute ∷ home.Common ∷ home.Shared ∷ []) h else None)

module _ {A B : Type 0} where
  -- a value that another one depends on
  abbrev pub with_value : Option A → (A → Option B) → Option B
  with_value None f = None
  with_value (Some x) f = f x

-- the head: the options, the number of inputs and the number of output sections
pub record Head : Type 0 where
  pub options : OptionRecord
  pub inputs : ℕ
  pub sections : ℕ

abbrev pub head_forms : List Form
head_forms = Num32 ∷ Num32 ∷ Text32 ∷ Text32 ∷ Text32 ∷ Num32 ∷ Num32 ∷ Num32 ∷ []

abbrev pub options_with : ℕ → List ℕ → List ℕ → List ℕ → ℕ → Option OptionRecord
options_with flags entry interp runpath patch =
    with_value (slice_get (false ∷ true ∷ false ∷ true ∷ []) flags) (λ dynamic.
    with_value (slice_get (false ∷ false ∷ true ∷ true ∷ []) flags) (λ export.
    Some (record { entry = entry; interp = interp; runpath = runpath; patch = patch; export_dynamic = export; dynamic = dynamic })))

abbrev pub head_with : Values head_forms → Option Head
head_with (version, (flags, (entry, (interp, (runpath, (patch, (inputs, (sections, _)))))))) =
    option_map (λ o. record { options = o; inputs = inputs; sections = sections }) (options_with flags entry interp runpath patch)

-- an output section
abbrev pub section_forms : List Form
section_forms = Text32 ∷ Num32 ∷ Num64 ∷ Num64 ∷ Num64 ∷ Num64 ∷ Num64 ∷ []

abbrev pub section_with : Values section_forms → Option SectionRow
section_with (name, (class, (addr, (offset, (size, (room, (align, _))))))) =
    option_map (λ c. record { key = record { name = name; class = c }; addr = addr; offset = offset; size = size; room = room; align = align }) (class_of_number class)

-- a piece of an input, with its row where it is kept
pub record ReadPiece : Type 0 where
  pub info : PieceInfo
  pub placed : Option PieceRow

abbrev pub piece_forms : List Form
piece_forms = Num32 ∷ Num32 ∷ Num64 ∷ Num64 ∷ Num64 ∷ Text32 ∷ Num32 ∷ []

-- the flags of a kept piece are 1 and 2 (a terminator), those of any other 2 and 256 times its class
abbrev pub kept_piece : List SectionRow → ℕ → ℕ → ℕ → ℕ → ℕ → ℕ → List ℕ → ℕ → Option ReadPiece
kept_piece rows input section row addr size align name flags =
    with_value (slice_get rows row) (λ r.
    with_value (truth_of_number (flags / 2)) (λ terminator.
    Some (record {
      info = record { section = section; name = name; key = r.key; size = size; align = align; terminator = terminator };
      placed = Some (record { piece = id.Section input section; section = row; addr = addr; size = size; align = align });
    })))

abbrev pub lost_piece : ℕ → ℕ → ℕ → List ℕ → ℕ → Option ReadPiece
lost_piece section size align name flags =
    with_value (class_of_number (flags / 256)) (λ class.
    with_value (slice_get (Some false ∷ None ∷ Some true ∷ []) (flags % 256)) (λ found.
    with_value found (λ terminator.
    Some (record {
      info = record { section = section; name = name; key = record { name = output_name class name; class = class }; size = size; align = align; terminator = terminator };
      placed = None;
    }))))

abbrev pub piece_with : List SectionRow → ℕ → Values piece_forms → Option ReadPiece
piece_with rows input (section, (row, (addr, (size, (align, (name, (flags, _))))))) =
    if flags % 2 == 1 then kept_piece rows input section row addr size align name flags
    else (if (row == no_section) && (addr == 0) then lost_piece section size align name flags else None)

-- a symbol of an input
abbrev pub global_forms : List Form
global_forms = Text32 ∷ Num32 ∷ Num32 ∷ Num32 ∷ Num64 ∷ Num64 ∷ Num32 ∷ Num32 ∷ []

abbrev pub global_with : Values global_forms → Option Global
global_with (name, (packed, (home_word, (section, (value, (size, (symbol, (zero_word, _)))))))) =
    if zero_word == 0 then
    option_map
    (λ h. record {
      symbol = symbol;
      name = name;
      binding = packed % 256;
      code = (packed / 256) % 256;
      visibility = packed / 65536;
      home = h;
      value = value;
      size = size;
    })
    (home_of_number home_word section)
    else None

-- a group: its head, then its members
abbrev pub group_forms : List Form
group_forms = Text32 ∷ Num32 ∷ []

abbrev pub number_with : Values (Num32 ∷ []) → Option ℕ
number_with (n, _) = Some n

abbrev pub group_head : Values group_forms → Option (List ℕ × ℕ)
group_head (signature, (members, _)) = Some (signature, members)

module _ (texts : ℕ → Option (List ℕ)) where
  abbrev pub read_group : List ℕ → Given Group
  read_group bytes =
      given_then (read_record texts group_forms group_head bytes) (λ (signature, count) rest.
      given_then (read_many (read_record texts (Num32 ∷ []) number_with) count rest) (λ members left.
      Ok (record { signature = signature; members = members }, left)))

-- the head of an input: what it is, and how many pieces, symbols and groups follow
pub record InputHead : Type 0 where
  pub path : List ℕ
  pub occurrence : ℕ
  pub kind : ℕ
  pub lib : ℕ
  pub stamp : Option Stamp
  pub soname : List ℕ
  pub pieces : ℕ
  pub globals : ℕ
  pub groups : ℕ
  pub exec_stack : Bool

abbrev pub input_forms : List Form
input_forms =
    Text32 ∷ Num32 ∷ Num32 ∷ Num32 ∷ Num32 ∷ Text32 ∷ Num64 ∷ Num64 ∷ Num32 ∷ Num32 ∷ Num32 ∷ Num32 ∷ []

-- a stamp; the fields of an absent one are zeros
abbrev pub stamp_with : ℕ → ℕ → ℕ → Option (Option Stamp)
stamp_with flag len time =
    if flag == 1 then Some (Some (record { length = len; modified = signed64 time }))
    else (if (flag == 0) && (len == 0) && (time == 0) then Some None else None)

abbrev pub is_kind : ℕ → ℕ → Bool
is_kind kind lib = if kind == 1 then lib == 0 else (if (kind == 2) || (kind == 3) then nat_lt 0 lib else kind == 4)

abbrev pub input_with : Values input_forms → Option InputHead
input_with (path, (occurrence, (kind_word, (lib, (flag, (soname, (len, (time, (pieces, (globals, (groups, (exec_word, _)))))))))))) =
    if is_kind kind_word lib then
    with_value (stamp_with flag len time) (λ stamp.
    with_value (truth_of_number exec_word) (λ exec_stack.
    Some (record {
      path = path;
      occurrence = occurrence;
      kind = kind_word;
      lib = lib;
      stamp = stamp;
      soname = soname;
      pieces = pieces;
      globals = globals;
      groups = groups;
      exec_stack = exec_stack;
    })))
    else None

-- an input as it is read: its record, and the rows of its kept pieces
pub record ReadInput : Type 0 where
  pub record_of : InputRecord
  pub placed : List PieceRow

abbrev pub placed_rows : List ReadPiece → List PieceRow
placed_rows [] = []
placed_rows (p ∷ ps) = elim p.placed [ None ↦ placed_rows ps | Some row ↦ row ∷ placed_rows ps ]

abbrev pub info_of : ReadPiece → PieceInfo
info_of p = p.info

abbrev pub input_of : InputHead → List ReadPiece → List Global → List Group → ReadInput
input_of h pieces globals groups = record {
  record_of = record {
    path = h.path;
    occurrence = h.occurrence;
    lib = h.lib;
    added = not (h.kind == 3);
    stamp = h.stamp;
    summary = record {
      kind = if h.kind == 4 then kind.Shared else kind.Object;
      soname = h.soname;
      exec_stack = h.exec_stack;
      pieces = map info_of pieces;
      globals = globals;
      groups = groups;
    };
  };
  placed = placed_rows pieces;
}

module _ (texts : ℕ → Option (List ℕ)) (rows : List SectionRow) where
  abbrev pub read_input : ℕ → List ℕ → Given ReadInput
  read_input n bytes =
      given_then (read_record texts input_forms input_with bytes) (λ h after_head.
      given_then (read_many (read_record texts piece_forms (piece_with rows n)) h.pieces after_head) (λ pieces after_pieces.
      given_then (read_many (read_record texts global_forms global_with) h.globals after_pieces) (λ globals after_globals.
      given_then (read_many (read_group texts) h.groups after_globals) (λ groups rest.
      Ok (input_of h pieces globals groups, rest)))))

  -- so many inputs, from a number on
  abbrev pub read_inputs_from : ℕ → ℕ → List ℕ → Given (List ReadInput)
  read_inputs_from n zero bytes = Ok ([], bytes)
  read_inputs_from n (suc more) bytes =
      given_then (read_input n bytes) (λ i rest.
      given_then (read_inputs_from (n + 1) more rest) (λ is left.
      Ok (i ∷ is, left)))

-- what the section holds: the options, the rows of the output sections, the inputs
pub record ReadInputs : Type 0 where
  pub options : OptionRecord
  pub sections : List SectionRow
  pub inputs : List ReadInput

abbrev pub read_all : (ℕ → Option (List ℕ)) → List ℕ → Given ReadInputs
read_all texts bytes =
    given_then (read_record texts head_forms head_with bytes) (λ h after_head.
    given_then (read_many (read_record texts section_forms section_with) h.sections after_head) (λ rows after_rows.
    given_then (read_inputs_from texts rows 0 h.inputs after_rows) (λ inputs rest.
    Ok (record { options = h.options; sections = rows; inputs = inputs }, rest))))

-- nothing may be left over
abbrev pub whole : Given ReadInputs → Result ReadInputs ℕ
whole (Err left) = Err left
whole (Ok (x, [])) = Ok x
whole (Ok (x, b ∷ bs)) = Err (length (b ∷ bs))

-- why the section is not read: another version, or the offset of the first bad record
pub data RecordsBad : Type 0 where
  OtherVersion : (version : ℕ) → RecordsBad
  BadPlace : (offset : ℕ) → RecordsBad

abbrev pub placed_fault : ℕ → Result ReadInputs ℕ → Result ReadInputs RecordsBad
placed_fault size (Err left) = Err (BadPlace (size - left))
placed_fault size (Ok x) = Ok x

-- the section of inputs, with the section of texts that its texts are in
unfoldable pub inputs_read : List ℕ → List ℕ → Result ReadInputs RecordsBad
inputs_read bytes strtab =
    if nat_le 4 (length bytes) && not (num bytes 0 4 == 1) then Err (OtherVersion (num bytes 0 4))
    else placed_fault (length bytes) (whole (read_all (text_at strtab) bytes))
