-- The fields of the records of a link fit: each number is below its width, and no text holds a zero byte.
use Rattle.std.proofs.Common.{◌≡◌, ℕ, ◌+◌, ◌^◌, ◌<◌, ◌≤◌, Bool, true, false, List, [], ◌∷◌, ◌++◌, length, refl, arith, sym, subst}
use Rattle.std.specs.Prelude.{Option, Some, None, option_map, map, slice_get, ◌==◌, if◌then◌else◌}
use Rattle.std.specs.List.{flat_map, AllByRecursion, enumerate_from}
use Rattle.std.proofs.lemmas.Option.{slice_get_within}
use Rattle.lk_elf.proofs.Signed.{unsigned64-lt}
use Rattle.lk_report.specs.declared.stamps.Stamp.{Stamp}
use Rattle.lk_model.specs.InputsSection.{bit, inputs_fields, head_fields, section_fields, input_head, piece_fields, piece_section, piece_address, piece_flags, global_fields, group_fields, input_fields, home_number, home_section, stamp_flag, stamp_length, stamp_time}
use Rattle.lk_model.specs.Keys.{piece_row_of}
use Rattle.lk_model.specs.RecordFields.Field.{Short}
use Rattle.lk_model.specs.RecordsOf.{input_record}
use Rattle.lk_model.specs.SectionKeys.{class_number}
use Rattle.lk_model.specs.Views.{Input}
use Rattle.lk_model.specs.declared.layouts.Class.{Class}
use Rattle.lk_model.specs.declared.layouts.Class.TheVariants.{R, X, W, WX, Tdata, Tbss, Bss, N}
use Rattle.lk_model.specs.declared.layouts.PieceId.TheVariants as id
use Rattle.lk_model.specs.declared.layouts.PieceRow.{PieceRow}
use Rattle.lk_model.specs.declared.layouts.Placement.{Placement}
use Rattle.lk_model.specs.declared.layouts.SectionKey.{SectionKey}
use Rattle.lk_model.specs.declared.layouts.SectionRow.{SectionRow}
use Rattle.lk_model.specs.declared.records.InputRecord.{InputRecord}
use Rattle.lk_model.specs.declared.records.Records.{Records}
use Rattle.lk_model.specs.declared.summaries.Global.{Global}
use Rattle.lk_model.specs.declared.summaries.Group.{Group}
use Rattle.lk_model.specs.declared.summaries.Home.{Home}
use Rattle.lk_model.specs.declared.summaries.Home.TheVariants as home
use Rattle.lk_model.specs.declared.summaries.Kind.{Kind}
use Rattle.lk_model.specs.declared.summaries.Kind.TheVariants as kind
use Rattle.lk_model.specs.declared.summaries.PieceInfo.{PieceInfo}
use Rattle.lk_law_records.specs.Recordable.{GlobalFits, GroupFits, HomeFits, InputFits, OptionsFit, PieceFits, RowFits, StampFits}
use Rattle.lk_law_records.proofs.Fields.{AreFieldsFit, EachFit, are-fit-append, are-fit-flat}
use Rattle.lk_law_records.proofs.FoundAgain.{among-has}
use Rattle.lk_law_records.proofs.InputsRead.{AllSuit}
use Rattle.lk_law_records.proofs.Lists.{next-at}
use Rattle.lk_law_records.proofs.RecordValues.{KeyAt, Suits, packed}

-- ---- numbers of choices

bit-low : (b : Bool) → bit b ≤ 1
bit-low true = omega arith
bit-low false = omega arith

class-low : (c : Class) → class_number c ≤ 7
class-low R = omega arith
class-low X = omega arith
class-low W = omega arith
class-low WX = omega arith
class-low Tdata = omega arith
class-low Tbss = omega arith
class-low Bss = omega arith
class-low N = omega arith

-- ---- the head and the output sections

head-fit : (r : Records) → r.version ≡ 1 → OptionsFit r.options → length r.inputs < 2 ^ 32 → length r.placement.sections < 2 ^ 32 → AreFieldsFit (head_fields r)
head-fit r version fits inputs sections =
    let dynamic = bit-low r.options.dynamic in
    let export = bit-low r.options.export_dynamic in
    (omega (arith, version), (omega (arith, dynamic, export), (fits.entry, (fits.interp, (fits.runpath, (fits.patch, (inputs, (sections, tt))))))))

rows-fit : (rows : List SectionRow) → AllByRecursion RowFits rows → EachFit section_fields rows
rows-fit [] fits = tt
rows-fit (row ∷ rows) (here, more) =
    let class = class-low row.key.class in
    ((here.name, (omega (arith, class), (here.addr, (here.offset, (here.size, (here.room, (here.align, tt))))))), rows-fit rows more)

-- ---- pieces

keyed-below : (rows : List SectionRow) (n : ℕ) (key : SectionKey) → KeyAt rows n key → n < length rows
keyed-below rows n key keyed = go (slice_get rows n) refl keyed
  where
    go : (o : Option SectionRow) → slice_get rows n ≡ o → option_map (λ (row : SectionRow). row.key) o ≡ Some key → n < length rows
    go None e h = absurd (cc)
    go (Some row) e h = slice_get_within rows n row e

abbrev AddressFits : Option PieceRow → Type 0
AddressFits None = Unit {0}
AddressFits (Some row) = row.addr < 2 ^ 64

row-fits : (sections : List SectionRow) (n : ℕ) (p : PieceInfo) (row : Option PieceRow) → Suits sections n p row → AddressFits row → length sections < 2 ^ 32
    → (piece_section row < 2 ^ 32) × (piece_address row < 2 ^ 64) × (piece_flags p row < 2 ^ 32)
row-fits sections n p None suits address few =
    let class = class-low p.key.class in
    let t = bit-low p.terminator in
    (omega arith, omega arith, omega (arith, class, t))
row-fits sections n p (Some row) (piece, size, align, key) address few =
    let below = keyed-below sections row.section p.key key in
    let t = bit-low p.terminator in
    (omega (arith, below, few), address, omega (arith, t))

address-fits : (place : Placement) (n s : ℕ) → AllByRecursion (λ (p : PieceRow). p.addr < 2 ^ 64) place.pieces → AddressFits (piece_row_of place (id.Section n s))
address-fits place n s all = go (piece_row_of place (id.Section n s)) refl
  where
    go : (o : Option PieceRow) → piece_row_of place (id.Section n s) ≡ o → AddressFits o
    go None e = tt
    go (Some row) e = (among-has (λ (p : PieceRow). p.addr < 2 ^ 64) place.pieces (id.Section n s) row all e).0

pieces-fit : (place : Placement) (n : ℕ) (ps : List PieceInfo) → AllByRecursion (λ (p : PieceRow). p.addr < 2 ^ 64) place.pieces → length place.sections < 2 ^ 32
    → AllByRecursion PieceFits ps → AllByRecursion (λ (p : PieceInfo). Suits place.sections n p (piece_row_of place (id.Section n p.section))) ps
    → EachFit (piece_fields place n) ps
pieces-fit place n [] addresses few fits suits = tt
pieces-fit place n (p ∷ ps) addresses few (here, more) (own, others) =
    let (section, address, flags) = row-fits place.sections n p (piece_row_of place (id.Section n p.section)) own (address-fits place n p.section addresses) few in
    ((here.section, (section, (address, (here.size, (here.align, (here.name, (flags, tt))))))), pieces-fit place n ps addresses few more others)

-- ---- symbols and groups

home-fits : (h : Home) → HomeFits h → (home_number h < 2 ^ 32) × (home_section h < 2 ^ 32)
home-fits home.Undefined fits = (omega arith, omega arith)
home-fits (home.Section n) fits = (omega arith, fits)
home-fits home.Absolute fits = (omega arith, omega arith)
home-fits home.Common fits = (omega arith, omega arith)
home-fits home.Shared fits = (omega arith, omega arith)

globals-fit : (gs : List Global) → AllByRecursion GlobalFits gs → EachFit global_fields gs
globals-fit [] fits = tt
globals-fit (g ∷ gs) (here, more) =
    let (number, section) = home-fits g.home here.home in
    let binding = here.binding in
    let code = here.code in
    let visibility = here.visibility in
    let word : packed g < 2 ^ 32 = omega (arith, binding, code, visibility) in
    ((here.name, (word, (number, (section, (here.value, (here.size, (here.symbol, (omega arith, tt)))))))), globals-fit gs more)

members-fit : (ms : List ℕ) → AllByRecursion (λ n. n < 2 ^ 32) ms → AreFieldsFit (map Short ms)
members-fit [] fits = tt
members-fit (m ∷ ms) (here, more) = (here, members-fit ms more)

groups-fit : (gs : List Group) → AllByRecursion GroupFits gs → EachFit group_fields gs
groups-fit [] fits = tt
groups-fit (g ∷ gs) (here, more) = ((here.signature, (here.count, members-fit g.members here.members)), groups-fit gs more)

-- ---- an input

kind-low : (k : Kind) (lib : ℕ) (added : Bool) → elim k [ kind.Shared ↦ 4 | kind.Object ↦ if lib == 0 then 1 else (if added then 2 else 3) ] ≤ 4
kind-low kind.Shared lib added = omega arith
kind-low kind.Object lib added = go (lib == 0) added
  where
    go : (outside added : Bool) → (if outside then 1 else (if added then 2 else 3)) ≤ 4
    go true added = omega arith
    go false true = omega arith
    go false false = omega arith

stamp-fits : (stamp : Option Stamp) → StampFits stamp → (stamp_flag stamp < 2 ^ 32) × (stamp_length stamp < 2 ^ 64) × (stamp_time stamp < 2 ^ 64)
stamp-fits None fits = (omega arith, omega arith, omega arith)
stamp-fits (Some s) (low, signed) = (omega arith, low, unsigned64-lt s.modified signed)

-- what a placement's rows keep to
record PlaceFits (place : Placement) : Type 0 where
  addresses : AllByRecursion (λ (p : PieceRow). p.addr < 2 ^ 64) place.pieces
  few : length place.sections < 2 ^ 32

abbrev pub PiecesSuit : Placement → ℕ → Input → Type 0
PiecesSuit place n i = AllByRecursion (λ (p : PieceInfo). Suits place.sections n p (piece_row_of place (id.Section n p.section))) i.summary.pieces

input-fit : (place : Placement) (added : List ℕ) (n : ℕ) (i : Input) → PlaceFits place → InputFits i → PiecesSuit place n i
    → AreFieldsFit (input_fields place (n, input_record added (n, i)))
input-fit place added n i rows fits suits =
    let x = input_record added (n, i) in
    let s = i.summary in
    let own = fits.summary in
    let kind_word = kind-low s.kind i.lib x.added in
    let stack = bit-low s.exec_stack in
    let (flag, long, time) = stamp-fits i.stamp fits.stamp in
    let head : AreFieldsFit (input_head x) = (
      fits.path,
      (
        fits.occurrence,
        (
          omega (arith, kind_word),
          (
            fits.lib,
            (
              flag,
              (own.soname, (long, (time, (own.piece_count, (own.global_count, (own.group_count, (omega (arith, stack), tt))))))),
            ),
          ),
        ),
      ),
    ) in
    let pieces = are-fit-flat (piece_fields place n) s.pieces (pieces-fit place n s.pieces rows.addresses rows.few own.pieces suits) in
    let globals = are-fit-flat global_fields s.globals (globals-fit s.globals own.globals) in
    let groups = are-fit-flat group_fields s.groups (groups-fit s.groups own.groups) in
    let ps = flat_map (piece_fields place n) s.pieces in
    let gs = flat_map global_fields s.globals in
    let cs = flat_map group_fields s.groups in
    are-fit-append (input_head x ++ ps ++ gs) cs (are-fit-append (input_head x ++ ps) gs (are-fit-append (input_head x) ps head pieces) globals) groups

-- each input of a link from a number on, with its record
abbrev pub recorded_from : List ℕ → ℕ → List Input → List (ℕ × InputRecord)
recorded_from added n inputs = enumerate_from n (map (input_record added) (enumerate_from n inputs))

inputs-fit : (place : Placement) (added : List ℕ) (n : ℕ) (inputs : List Input) → PlaceFits place → AllByRecursion InputFits inputs
    → ((j : ℕ) (i : Input) → slice_get inputs j ≡ Some i → PiecesSuit place (n + j) i) → EachFit (input_fields place) (recorded_from added n inputs)
inputs-fit place added n [] rows fits suits = tt
inputs-fit place added n (i ∷ inputs) rows (here, more) suits =
    let (own, others) = next-at (PiecesSuit place) n i inputs suits in
    (input-fit place added n i rows here own, inputs-fit place added (n + 1) inputs rows more others)

pub inputs-suit : (place : Placement) (added : List ℕ) (n : ℕ) (inputs : List Input) → AllByRecursion InputFits inputs
    → ((j : ℕ) (i : Input) → slice_get inputs j ≡ Some i → PiecesSuit place (n + j) i) → AllSuit place (recorded_from added n inputs)
inputs-suit place added n [] fits suits = tt
inputs-suit place added n (i ∷ inputs) (here, more) suits =
    let (own, others) = next-at (PiecesSuit place) n i inputs suits in
    (record { stamp = here.stamp; pieces = own; globals = here.summary.globals }, inputs-suit place added (n + 1) inputs more others)

-- ---- the whole

pub fields-of-records-fit : (r : Records) (added : List ℕ) (inputs : List Input) → r.version ≡ 1 → r.inputs ≡ map (input_record added) (enumerate_from 0 inputs) → OptionsFit r.options
    → length r.inputs < 2 ^ 32 → length r.placement.sections < 2 ^ 32 → AllByRecursion RowFits r.placement.sections
    → AllByRecursion (λ (p : PieceRow). p.addr < 2 ^ 64) r.placement.pieces → AllByRecursion InputFits inputs
    → ((j : ℕ) (i : Input) → slice_get inputs j ≡ Some i → PiecesSuit r.placement j i) → AreFieldsFit (inputs_fields r)
unfolding inputs_fields
fields-of-records-fit r added inputs version made options count few rows addresses fits suits =
    let place = r.placement in
    let head = head_fields r in
    let sections = flat_map section_fields place.sections in
    let from-zero : (j : ℕ) (i : Input) → slice_get inputs j ≡ Some i → PiecesSuit place (0 + j) i =
    λ j i e. let at : j ≡ 0 + j = omega arith in subst (λ k. PiecesSuit place k i) at (suits j i e) in
    let each = inputs-fit place added 0 inputs (record { addresses = addresses; few = few }) fits from-zero in
    let all : AreFieldsFit (flat_map (input_fields place) (enumerate_from 0 r.inputs)) =
    subst (λ l. AreFieldsFit (flat_map (input_fields place) (enumerate_from 0 l))) (sym made) (are-fit-flat (input_fields place) (recorded_from added 0 inputs) each) in
    are-fit-append (head ++ sections) (flat_map (input_fields place) (enumerate_from 0 r.inputs))
    (are-fit-append head sections (head-fit r version options count few) (are-fit-flat section_fields place.sections (rows-fit place.sections rows))) all
