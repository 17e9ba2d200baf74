-- This project's own: which output sections exist, and their order in the image (gABI "Special
-- Sections" has their names). Read only sections come first, then those that may be executed, then
-- those that may be written, and last those that are not loaded.
use Rattle.std.specs.Prelude.{ℕ, Bool, true, false, if◌then◌else◌, List, [], ◌∷◌, ◌++◌, ◌==◌, ◌+◌, ◌*◌, codes, bytes_eq, fold, filter, flat_map, map, length, Some}
use Rattle.std.specs.List.{list_any, position_or_len, range_with_len}
use Rattle.lk_model.specs.SectionKeys.{same_key, is_note, got_key, got_plt_key}
pub use Rattle.lk_model.specs.SectionKeys.{is_patched, is_note, least_of, fill_kind, header_type, header_flags, is_alloc, in_file}
use Rattle.lk_model.specs.DynamicSizes.{dynamic_table_sizes}
use Rattle.lk_model.specs.Views.{KeptPiece, Resolved}
use Rattle.lk_model.specs.declared.layouts.Class.{Class}
use Rattle.lk_model.specs.declared.layouts.Class.TheVariants.{R, X, W, WX, Tdata, Tbss, Bss, N}
use Rattle.lk_model.specs.declared.layouts.Needs.{Needs}
use Rattle.lk_model.specs.declared.layouts.SectionKey.{SectionKey}
use Rattle.lk_model.specs.declared.layouts.SlotTable.{SlotTable}

-- the parts of the image: loaded to be read, to be executed, to be written, and not loaded
pub data Segment : Type 0 where
  First : Segment
  Second : Segment
  Third : Segment
  NotLoaded : Segment

-- where the sections of a class are
abbrev pub segment_of : Class → Segment
segment_of R = First
segment_of X = Second
segment_of W = Third
segment_of WX = Third
segment_of Tdata = Third
segment_of Tbss = Third
segment_of Bss = Third
segment_of N = NotLoaded

-- whether two segments are one
abbrev pub same_segment : Segment → Segment → Bool
same_segment First First = true
same_segment Second Second = true
same_segment Third Third = true
same_segment NotLoaded NotLoaded = true
same_segment First Second = false
same_segment First Third = false
same_segment First NotLoaded = false
same_segment Second First = false
same_segment Second Third = false
same_segment Second NotLoaded = false
same_segment Third First = false
same_segment Third Second = false
same_segment Third NotLoaded = false
same_segment NotLoaded First = false
same_segment NotLoaded Second = false
same_segment NotLoaded Third = false

-- the read only sections that have a place after the notes, in their order; others follow
abbrev pub names_after_notes : List (List ℕ)
names_after_notes =
    codes ".hash"
    ∷ codes ".dynsym"
    ∷ codes ".dynstr"
    ∷ codes ".rela.dyn"
    ∷ codes ".rela.plt"
    ∷ codes ".rodata"
    ∷ codes ".gcc_except_table"
    ∷ codes ".eh_frame"
    ∷ []

-- the executable sections that have a place, in their order; others follow
abbrev pub executable_names : List (List ℕ)
executable_names = codes ".init" ∷ codes ".plt" ∷ codes ".text" ∷ codes ".fini" ∷ []

-- the writable sections that have a place before the others, in their order
abbrev pub names_before_others : List (List ℕ)
names_before_others = codes ".preinit_array" ∷ codes ".init_array" ∷ codes ".fini_array" ∷ codes ".ctors" ∷ codes ".dtors" ∷ []

-- the writable sections that have a place after the others, in their order
abbrev pub names_after_others : List (List ℕ)
names_after_others = codes ".dynamic" ∷ codes ".got" ∷ codes ".got.plt" ∷ codes ".data" ∷ []

-- the place of a name in a list; a name that is not in it comes after its last
abbrev pub place_in : List (List ℕ) → List ℕ → ℕ
place_in names name = position_or_len (bytes_eq name) names

-- the rank of a read only section
abbrev pub first_rank : SectionKey → ℕ
first_rank key =
    if bytes_eq key.name (codes ".interp") then 0
    else if is_note key then 1
    else 2 + place_in names_after_notes key.name

-- the rank of a writable section; 23 is that of the others
abbrev pub writable_rank : List ℕ → ℕ
writable_rank name =
    if list_any (bytes_eq name) names_after_others then 24 + place_in names_after_others name
    else 18 + place_in names_before_others name

-- the rank of a section of a class
abbrev pub rank_in : Class → SectionKey → ℕ
rank_in R key = first_rank key
rank_in X key = 11 + place_in executable_names key.name
rank_in Tdata key = 16
rank_in Tbss key = 17
rank_in W key = writable_rank key.name
rank_in WX key = 23
rank_in Bss key = if bytes_eq key.name (codes ".bss") then 28 else 29
rank_in N key = 30

-- the rank of an output section in the image, from 0 to 30
unfoldable pub section_rank : SectionKey → ℕ
section_rank key = rank_in key.class key

-- the keys by rising rank; those of one rank keep their order
unfoldable pub in_order : List SectionKey → List SectionKey
in_order keys = flat_map (λ rank. filter (λ key. section_rank key == rank) keys) (range_with_len 0 31)

-- the keys without repeats, in order of their first place
abbrev pub each_once : List SectionKey → List SectionKey
each_once keys = fold (λ seen key. if list_any (same_key key) seen then seen else seen ++ key ∷ []) [] keys

-- the tables of a dynamic link, where a link is one
abbrev pub dynamic_sizes_where : Bool → Resolved → List SectionKey → SlotTable → List (SectionKey × ℕ)
dynamic_sizes_where true r keys slots = dynamic_table_sizes r keys slots
dynamic_sizes_where false r keys slots = []

-- the tables that a link makes, with their sizes, where output sections of these keys exist: a slot is
-- eight bytes, and the GOT's second part begins with three that the dynamic linker keeps (psABI "Global
-- Offset Table")
abbrev pub table_sizes_among : List SectionKey → Resolved → SlotTable → List (SectionKey × ℕ)
table_sizes_among keys r slots =
    (got_key, 8 * length slots.got)
    ∷ (got_plt_key, 8 * (3 + length slots.plt))
    ∷ dynamic_sizes_where r.options.dynamic r keys slots

-- the keys of the output sections that kept pieces go to, in order of the first piece
abbrev pub piece_keys : Resolved → List SectionKey
piece_keys r = each_once (map (λ (piece : KeptPiece). piece.key) r.kept)

-- the tables that a link made anew makes, with their sizes
unfoldable pub table_sizes : Resolved → SlotTable → List (SectionKey × ℕ)
table_sizes r slots = table_sizes_among (piece_keys r) r slots

-- the slots that references need, in order of first reference
abbrev pub slots_of : Needs → SlotTable
slots_of needs = record { got = map Some needs.got; plt = needs.plt }

-- the output sections that exist: those that a kept piece goes to, in order of the first, and the tables
abbrev pub existing_keys : Resolved → List SectionKey
existing_keys r =
    piece_keys r
    ++ map (λ (row : SectionKey × ℕ). row.0) (table_sizes r (slots_of r.needs))

-- the output sections of a link in their order
unfoldable pub section_keys : Resolved → List SectionKey
section_keys r = in_order (existing_keys r)
