-- This project's own: which inputs of a link an update reads anew: those that changed since the earlier
-- image was linked, and those whose part of the link did.
use Rattle.std.specs.Prelude.{◌≡◌, ℕ, ◌==◌, ◌&&◌, ◌||◌, not, Bool, true, false, List, [], ◌++◌, map, filter, filter_map, find, Option, Some, None, is_some, option_map, option_and_then, slice_get}
use Rattle.std.specs.Bool.{OnFalse}
use Rattle.std.specs.Cmp.Lexicographic.{pointwise}
use Rattle.std.specs.List.{AllByRecursion, enumerate_from, list_any, list_all}
use Rattle.std.specs.Ordering.{int_eq}
use Rattle.std.specs.Str.{bytes_eq}
use Rattle.lk_report.specs.FileMap.{FileMap, FileRow}
use Rattle.lk_report.specs.declared.stamps.Stamp.{Stamp}
use Rattle.lk_model.specs.BaseMatching.{number_before, refers_to}
use Rattle.lk_model.specs.FullPlace.{pieces_in}
use Rattle.lk_model.specs.Inputs.{inputs_of}
use Rattle.lk_model.specs.Numbered.{is_number_in}
use Rattle.lk_model.specs.Rooms.{sequence_of}
use Rattle.lk_model.specs.SectionKeys.{same_key, is_table, is_patched, is_numbered_array}
use Rattle.lk_model.specs.SectionOrder.{each_once}
use Rattle.lk_model.specs.Views.{Input, KeptPiece, Resolved}
use Rattle.lk_model.specs.declared.commands.Command.{Command}
use Rattle.lk_model.specs.declared.commands.Mark.{Mark}
use Rattle.lk_model.specs.declared.commands.Mark.TheVariants as mark
use Rattle.lk_model.specs.declared.layouts.PieceId.TheVariants as piece
use Rattle.lk_model.specs.declared.layouts.PieceRow.{PieceRow}
use Rattle.lk_model.specs.declared.layouts.SectionKey.{SectionKey}
use Rattle.lk_model.specs.declared.layouts.SectionRow.{SectionRow}
use Rattle.lk_model.specs.declared.records.InputRecord.{InputRecord}
use Rattle.lk_model.specs.declared.records.Records.{Records}
use Rattle.lk_model.specs.declared.summaries.PieceInfo.{PieceInfo}

-- ---- recorded and changed

-- what an earlier image records of an input
abbrev pub record_for : Records → Input → Option InputRecord
record_for base x = find (refers_to x) base.inputs

-- whether an earlier image has a record of an input
abbrev pub is_recorded : Records → Input → Bool
is_recorded base x = list_any (refers_to x) base.inputs

-- two stamps are both there and the same
abbrev pub same_stamp : Option Stamp → Option Stamp → Bool
same_stamp None other = false
same_stamp (Some a) None = false
same_stamp (Some a) (Some b) = (a.length == b.length) && int_eq a.modified b.modified

-- whether an input with this mark and this stamp changed since this was recorded of it
abbrev pub changed_since : Mark → Option Stamp → Option InputRecord → Bool
changed_since mark.Changed stamp before = true
changed_since m stamp None = true
changed_since mark.Unchanged stamp (Some i) = false
changed_since mark.Unknown stamp (Some i) = not (same_stamp i.stamp stamp)

-- whether an input changed: it is marked so, or is not recorded, or its mark says nothing and its stamps
-- are not both there and the same
abbrev pub is_changed : Records → Input → Bool
is_changed base x = changed_since x.mark x.stamp (record_for base x)

-- the numbers of the inputs that pass a test, by number
abbrev pub numbers_where : (ℕ → Input → Bool) → List Input → List ℕ
numbers_where passes inputs = map (λ (e : ℕ × Input). e.0) (filter (λ (e : ℕ × Input). passes e.0 e.1) (enumerate_from 0 inputs))

-- the inputs that changed, by number
unfoldable pub changed_of : Records → List Input → List ℕ
changed_of base inputs = numbers_where (λ n x. is_changed base x) inputs

-- ---- what an earlier image kept

-- what a record says of a section of an input
abbrev pub info_before : Records → ℕ → ℕ → Option PieceInfo
info_before base input section =
    option_and_then (λ (i : InputRecord). find (λ (p : PieceInfo). p.section == section) i.summary.pieces) (slice_get base.inputs input)

-- a placed section of an input as the piece that was kept
abbrev pub kept_before : PieceRow → SectionRow → PieceInfo → KeptPiece
kept_before placed row info = record {
  piece = placed.piece;
  key = row.key;
  name = info.name;
  size = placed.size;
  align = placed.align;
  terminator = info.terminator;
}

abbrev pub section_before : Records → PieceRow → Option KeptPiece
section_before base placed = elim placed.piece [
  | piece.Section i s ↦ option_and_then (λ (row : SectionRow). option_map (kept_before placed row) (info_before base i s)) (slice_get base.placement.sections placed.section)
  | piece.Common n ↦ None
  | piece.Copy n ↦ None
]

-- the sections of inputs that an earlier image kept, in its order
unfoldable pub sections_before : Records → List KeptPiece
sections_before base = filter_map (section_before base) base.placement.pieces

-- the number of the section that a piece is of this input
abbrev pub section_of : ℕ → KeptPiece → Option ℕ
section_of input k = elim k.piece [
  | piece.Section i s ↦ elim (i == input) [ true ↦ Some s | false ↦ None ]
  | piece.Common n ↦ None
  | piece.Copy n ↦ None
]

-- the sections of an input among pieces
abbrev pub sections_of : ℕ → List KeptPiece → List ℕ
sections_of input pieces = filter_map (section_of input) pieces

-- two lists have the same numbers
abbrev pub same_numbers : List ℕ → List ℕ → Bool
same_numbers a b = list_all (is_number_in a) b && list_all (is_number_in b) a

-- the sections of an input that an earlier image kept; none where it has no record of the input
abbrev pub kept_sections_before : Records → List KeptPiece → Input → List ℕ
kept_sections_before base before x = elim (number_before base x) [ None ↦ [] | Some n ↦ sections_of n before ]

-- ---- sequences

-- a piece of a sequence: its input's path and occurrence, its section, its size and its alignment
pub record SequenceItem : Type 0 where
  pub path : List ℕ
  pub occurrence : ℕ
  pub section : ℕ
  pub size : ℕ
  pub align : ℕ

abbrev pub same_item : SequenceItem → SequenceItem → Bool
same_item a b =
    bytes_eq a.path b.path && (a.occurrence == b.occurrence) && (a.section == b.section) && (a.size == b.size) && (a.align == b.align)

-- the path and the occurrence of an input by its number, as a record has them and as a link has them
abbrev pub origin_before : Records → ℕ → Option (List ℕ × ℕ)
origin_before base n = option_map (λ (i : InputRecord). (i.path, i.occurrence)) (slice_get base.inputs n)

abbrev pub origin_now : Resolved → ℕ → Option (List ℕ × ℕ)
origin_now r n = option_map (λ (x : Input). (x.path, x.occurrence)) (slice_get r.inputs n)

-- a piece as it is in a sequence
abbrev pub sequence_item : (ℕ → Option (List ℕ × ℕ)) → KeptPiece → Option SequenceItem
sequence_item origin k = elim k.piece [
  | piece.Section i s ↦ option_map (λ (x : List ℕ × ℕ). record { path = x.0; occurrence = x.1; section = s; size = k.size; align = k.align }) (origin i)
  | piece.Common n ↦ None
  | piece.Copy n ↦ None
]

-- the pieces that go to a sequence section, in the order in which they are in it
abbrev pub sequence_list : (ℕ → Option (List ℕ × ℕ)) → SectionKey → List KeptPiece → List SequenceItem
sequence_list origin key pieces = filter_map (sequence_item origin) (sequence_of (is_numbered_array key) (pieces_in key pieces))

-- whether an output section is the sequence of its pieces
abbrev pub is_sequence : SectionKey → Bool
is_sequence key = not (is_patched key) && not (is_table key)

-- the sequence sections whose list changed, in order of their first piece, those of the earlier image
-- first; `before` are the sections that it kept
abbrev pub sequences_changed_from : Records → List KeptPiece → Resolved → List SectionKey
sequences_changed_from base before r =
    filter (λ key. not (pointwise same_item (sequence_list (origin_before base) key before) (sequence_list (origin_now r) key r.kept)))
    (filter is_sequence (each_once (map (λ (k : KeptPiece). k.key) (before ++ r.kept))))

unfoldable pub sequences_changed : Records → Resolved → List SectionKey
sequences_changed base r = sequences_changed_from base (sections_before base) r

-- ---- redone

-- whether an input has a piece in one of these output sections
abbrev pub has_piece_in : List SectionKey → List KeptPiece → ℕ → Bool
has_piece_in keys kept n = list_any (λ (k : KeptPiece). is_some (section_of n k) && list_any (same_key k.key) keys) kept

-- whether an input is redone, where these inputs and these sequence sections changed
abbrev pub is_redone : Records → List KeptPiece → List ℕ → List SectionKey → Resolved → ℕ → Input → Bool
is_redone base before changed keys r n x =
    is_number_in changed n
    || not (same_numbers (kept_sections_before base before x) (sections_of n r.kept))
    || has_piece_in keys r.kept n

-- the inputs that an update does anew where these changed, by number: the changed ones, those whose kept
-- sections are not the recorded ones, and those with a piece in a sequence section whose list changed
unfoldable pub redone_with : Records → List ℕ → Resolved → List ℕ
redone_with base changed r =
    let before = sections_before base in
    let keys = sequences_changed_from base before r in
    numbers_where (is_redone base before changed keys r) r.inputs

-- the inputs that an update does anew
unfoldable pub redone_of : Records → Resolved → List ℕ
redone_of base r = redone_with base (changed_of base r.inputs) r

-- ---- honest

-- the bytes of a path
abbrev pub bytes_at : FileMap → List ℕ → Option (List ℕ)
bytes_at files path = option_map (λ (row : FileRow). row.bytes) (files path)

-- every input of the command that is not among the changed ones has the same bytes in both maps
abbrev pub Honest : List ℕ → FileMap → FileMap → Command → Type 0
Honest changed before now command =
    AllByRecursion
    (λ (x : ℕ × Input). OnFalse (is_number_in changed x.0) (bytes_at before x.1.path ≡ bytes_at now x.1.path))
    (enumerate_from 0 (inputs_of command now))
