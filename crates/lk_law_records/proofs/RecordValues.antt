-- The values of each record, and that they give the record back.
use Rattle.std.proofs.Common.{◌≡◌, ℕ, ◌+◌, ◌*◌, ◌/◌, ◌%◌, Bool, true, false, if◌then◌else◌, List, length, refl, ap, ◌∙◌, arith}
use Rattle.std.specs.Prelude.{◌==◌, Option, Some, None, option_map, slice_get}
use Rattle.std.proofs.lemmas.Bool.Decides.{nat_tests}
use Rattle.lk_elf.proofs.Signed.{signed64-unsigned64}
use Rattle.lk_report.specs.declared.causes.OptionRecord.{OptionRecord}
use Rattle.lk_report.specs.declared.stamps.Stamp.{Stamp}
use Rattle.lk_model.specs.InputsReading.{Head, head_forms, head_with, options_with, with_value, section_forms, section_with, class_of_number, ReadPiece, piece_forms, piece_with, kept_piece, lost_piece, global_forms, global_with, home_of_number, group_forms, group_head, InputHead, input_forms, input_with, stamp_with, is_kind, truth_of_number}
use Rattle.lk_model.specs.InputsSection.{bit, option_flags, input_kind, stamp_flag, stamp_length, stamp_time, piece_section, piece_address, piece_flags, home_number, home_section}
use Rattle.lk_model.specs.Pieces.{output_name}
use Rattle.lk_model.specs.RecordForms.{Values}
use Rattle.lk_model.specs.SectionKeys.{class_number}
use Rattle.lk_model.specs.declared.layouts.Class.{Class}
use Rattle.lk_model.specs.declared.layouts.Class.TheVariants.{R, X, W, WX, Tdata, Tbss, Bss, N}
use Rattle.lk_model.specs.declared.layouts.PieceId.TheVariants as id
use Rattle.lk_model.specs.declared.layouts.PieceRow.{PieceRow}
use Rattle.lk_model.specs.declared.layouts.SectionKey.{SectionKey}
use Rattle.lk_model.specs.declared.layouts.SectionRow.{SectionRow}
use Rattle.lk_model.specs.declared.records.InputRecord.{InputRecord}
use Rattle.lk_model.specs.declared.records.Records.{Records}
use Rattle.lk_model.specs.declared.summaries.Global.{Global}
use Rattle.lk_model.specs.declared.summaries.Group.{Group}
use Rattle.lk_model.specs.declared.summaries.Home.{Home}
use Rattle.lk_model.specs.declared.summaries.Home.TheVariants as home
use Rattle.lk_model.specs.declared.summaries.Kind.{Kind}
use Rattle.lk_model.specs.declared.summaries.Kind.TheVariants as kind
use Rattle.lk_model.specs.declared.summaries.PieceInfo.{PieceInfo}
use Rattle.lk_law_records.specs.Recordable.{GlobalFits, StampFits}

-- ---- the head

abbrev pub head_values : Records → Values head_forms
head_values r =
    (r.version, (option_flags r.options, (r.options.entry, (r.options.interp, (r.options.runpath, (r.options.patch, (length r.inputs, (length r.placement.sections, tt))))))))

abbrev pub head_of : Records → Head
head_of r = record { options = r.options; inputs = length r.inputs; sections = length r.placement.sections }

options-are : (entry interp runpath : List ℕ) (patch : ℕ) (export dynamic : Bool)
    → options_with (bit dynamic + 2 * bit export) entry interp runpath patch
    ≡ Some (record { entry = entry; interp = interp; runpath = runpath; patch = patch; export_dynamic = export; dynamic = dynamic })
options-are entry interp runpath patch true true = refl
options-are entry interp runpath patch true false = refl
options-are entry interp runpath patch false true = refl
options-are entry interp runpath patch false false = refl

pub head-is : (r : Records) → head_with (head_values r) ≡ Some (head_of r)
head-is r =
    let o = r.options in
    ap (option_map (λ (p : OptionRecord). record { options = p; inputs = length r.inputs; sections = length r.placement.sections }))
    (options-are o.entry o.interp o.runpath o.patch o.export_dynamic o.dynamic)

-- ---- an output section

abbrev pub row_values : SectionRow → Values section_forms
row_values row = (row.key.name, (class_number row.key.class, (row.addr, (row.offset, (row.size, (row.room, (row.align, tt)))))))

class-is : (c : Class) → class_of_number (class_number c) ≡ Some c
class-is R = refl
class-is X = refl
class-is W = refl
class-is WX = refl
class-is Tdata = refl
class-is Tbss = refl
class-is Bss = refl
class-is N = refl

pub row-is : (row : SectionRow) → section_with (row_values row) ≡ Some row
row-is row = rw (class-is row.key.class) refl

-- ---- a piece

abbrev pub piece_values : PieceInfo → Option PieceRow → Values piece_forms
piece_values p row = (p.section, (piece_section row, (piece_address row, (p.size, (p.align, (p.name, (piece_flags p row, tt)))))))

abbrev pub read_as : PieceInfo → Option PieceRow → ReadPiece
read_as p row = record { info = p; placed = row }

-- the row of this number has this key
abbrev pub KeyAt : List SectionRow → ℕ → SectionKey → Type 0
KeyAt rows n key = option_map (λ (row : SectionRow). row.key) (slice_get rows n) ≡ Some key

-- a piece of an input and its row, where it has one, say the same
abbrev pub Suits : List SectionRow → ℕ → PieceInfo → Option PieceRow → Type 0
Suits rows n p None = p.key.name ≡ output_name p.key.class p.name
Suits rows n p (Some row) =
    (row.piece ≡ id.Section n p.section) × (row.size ≡ p.size) × (row.align ≡ p.align) × KeyAt rows row.section p.key

keyed : {B : Type 0} (found : Option SectionRow) (key : SectionKey) (f : SectionKey → Option B)
    → option_map (λ (row : SectionRow). row.key) found ≡ Some key → with_value found (λ row. f row.key) ≡ f key
keyed None key f there = absurd (cc)
keyed (Some row) key f there = let same : row.key ≡ key = cc in ap f same

odd-kept : (t : Bool) → (((1 + 2 * bit t) % 2 == 1) ≡ true) × (truth_of_number ((1 + 2 * bit t) / 2) ≡ Some t)
odd-kept true = (refl, refl)
odd-kept false = (refl, refl)

kept-is : (rows : List SectionRow) (n : ℕ) (p : PieceInfo) (row : PieceRow) → Suits rows n p (Some row)
    → kept_piece rows n p.section row.section row.addr p.size p.align p.name (1 + 2 * bit p.terminator) ≡ Some (read_as p (Some row))
kept-is rows n p row (piece, size, align, key) =
    let made : SectionKey → Option ReadPiece = λ k. Some (record {
      info = record { section = p.section; name = p.name; key = k; size = p.size; align = p.align; terminator = p.terminator };
      placed = Some (record { piece = id.Section n p.section; section = row.section; addr = row.addr; size = p.size; align = p.align });
    }) in
    rw ((odd-kept p.terminator).1) (keyed (slice_get rows row.section) p.key made key ∙ rw (← piece, ← size, ← align) refl)

lost-class : (c : Class) (t : Bool) (section size align : ℕ) (name : List ℕ)
    → lost_piece section size align name (2 * bit t + 256 * class_number c)
    ≡ Some (record { info = record { section = section; name = name; key = record { name = output_name c name; class = c }; size = size; align = align; terminator = t }; placed = None })
lost-class R true section size align name = refl
lost-class R false section size align name = refl
lost-class X true section size align name = refl
lost-class X false section size align name = refl
lost-class W true section size align name = refl
lost-class W false section size align name = refl
lost-class WX true section size align name = refl
lost-class WX false section size align name = refl
lost-class Tdata true section size align name = refl
lost-class Tdata false section size align name = refl
lost-class Tbss true section size align name = refl
lost-class Tbss false section size align name = refl
lost-class Bss true section size align name = refl
lost-class Bss false section size align name = refl
lost-class N true section size align name = refl
lost-class N false section size align name = refl

even-lost : (t : Bool) (c : ℕ) → ((2 * bit t + 256 * c) % 2 == 1) ≡ false
even-lost true c = grind (arith, nat_tests)
even-lost false c = grind (arith, nat_tests)

pub piece-is : (rows : List SectionRow) (n : ℕ) (p : PieceInfo) (row : Option PieceRow) → Suits rows n p row
    → piece_with rows n (piece_values p row) ≡ Some (read_as p row)
piece-is rows n p None suits =
    rw (even-lost p.terminator (class_number p.key.class), lost-class p.key.class p.terminator p.section p.size p.align p.name, ← suits) refl
piece-is rows n p (Some row) suits = rw ((odd-kept p.terminator).0, kept-is rows n p row suits) refl

-- ---- a symbol

abbrev pub packed : Global → ℕ
packed g = g.binding + 256 * g.code + 65536 * g.visibility

abbrev pub global_values : Global → Values global_forms
global_values g = (g.name, (packed g, (home_number g.home, (home_section g.home, (g.value, (g.size, (g.symbol, (0, tt))))))))

home-is : (h : Home) → home_of_number (home_number h) (home_section h) ≡ Some h
home-is home.Undefined = refl
home-is (home.Section n) = refl
home-is home.Absolute = refl
home-is home.Common = refl
home-is home.Shared = refl

pub global-is : (g : Global) → GlobalFits g → global_with (global_values g) ≡ Some g
global-is g fits =
    let binding : packed g % 256 ≡ g.binding = omega (arith, fits.binding) in
    let code : packed g / 256 % 256 ≡ g.code = omega (arith, fits.binding, fits.code) in
    let visibility : packed g / 65536 ≡ g.visibility = omega (arith, fits.binding, fits.code) in
    rw (home-is g.home, binding, code, visibility) refl

-- ---- a group

abbrev pub group_values : Group → Values group_forms
group_values g = (g.signature, (length g.members, tt))

pub group-is : (g : Group) → group_head (group_values g) ≡ Some (g.signature, length g.members)
group-is g = refl

-- ---- an input

abbrev pub input_values : InputRecord → Values input_forms
input_values i = (
  i.path,
  (
    i.occurrence,
    (
      input_kind i,
      (
        i.lib,
        (
          stamp_flag i.stamp,
          (
            i.summary.soname,
            (
              stamp_length i.stamp,
              (
                stamp_time i.stamp,
                (length i.summary.pieces, (length i.summary.globals, (length i.summary.groups, (bit i.summary.exec_stack, tt)))),
              ),
            ),
          ),
        ),
      ),
    ),
  ),
)

abbrev pub head_of_input : InputRecord → InputHead
head_of_input i = record {
  path = i.path;
  occurrence = i.occurrence;
  kind = input_kind i;
  lib = i.lib;
  stamp = i.stamp;
  soname = i.summary.soname;
  pieces = length i.summary.pieces;
  globals = length i.summary.globals;
  groups = length i.summary.groups;
  exec_stack = i.summary.exec_stack;
}

stamp-is : (stamp : Option Stamp) → StampFits stamp → stamp_with (stamp_flag stamp) (stamp_length stamp) (stamp_time stamp) ≡ Some stamp
stamp-is None fits = refl
stamp-is (Some s) (low, signed) = rw (signed64-unsigned64 s.modified signed) refl

stack-is : (b : Bool) → truth_of_number (bit b) ≡ Some b
stack-is true = refl
stack-is false = refl

-- the number of a kind
abbrev kind_in : Kind → ℕ → Bool → ℕ
kind_in k lib added = elim k [
  | kind.Shared ↦ 4
  | kind.Object ↦ if lib == 0 then 1 else (if added then 2 else 3)
]

kind-in-lib : (lib : ℕ) (added outside : Bool) → (lib == 0) ≡ outside → is_kind (if outside then 1 else (if added then 2 else 3)) lib ≡ true
kind-in-lib lib added true here = here
kind-in-lib lib true false here = grind (arith, nat_tests)
kind-in-lib lib false false here = grind (arith, nat_tests)

kind-fits : (k : Kind) (lib : ℕ) (added : Bool) → is_kind (kind_in k lib added) lib ≡ true
kind-fits kind.Shared lib added = refl
kind-fits kind.Object lib added = kind-in-lib lib added (lib == 0) refl

pub input-is : (i : InputRecord) → StampFits i.stamp → input_with (input_values i) ≡ Some (head_of_input i)
input-is i fits = rw (kind-fits i.summary.kind i.lib i.added, stamp-is i.stamp fits, stack-is i.summary.exec_stack) refl

-- the kind that is read
kind-of-number : (lib : ℕ) (added outside : Bool)
    → (if (if outside then 1 else (if added then 2 else 3)) == 4 then kind.Shared else kind.Object) ≡ kind.Object
kind-of-number lib added true = refl
kind-of-number lib true false = refl
kind-of-number lib false false = refl

kind-again : (k : Kind) (lib : ℕ) (added : Bool) → (if kind_in k lib added == 4 then kind.Shared else kind.Object) ≡ k
kind-again kind.Shared lib added = refl
kind-again kind.Object lib added = kind-of-number lib added (lib == 0)

pub kind-is : (i : InputRecord) → (if input_kind i == 4 then kind.Shared else kind.Object) ≡ i.summary.kind
kind-is i = kind-again i.summary.kind i.lib i.added
