-- This project's own: what the name and the class of an output section say of it. Header types and
-- flags are those of gABI "Sections", "Special Sections".
use Rattle.std.specs.Prelude.{ℕ, Bool, if◌then◌else◌, List, [], ◌∷◌, ◌==◌, ◌&&◌, ◌||◌, not, nat_eq, codes, bytes_eq, ◌+◌, find, option_map, unwrap_or}
use Rattle.std.specs.List.{list_any, starts_with}
use Rattle.lk_elf.specs.Numbers.{sht_progbits, sht_strtab, sht_rela, sht_hash, sht_dynamic, sht_note, sht_nobits, sht_dynsym, sht_init_array, sht_fini_array, sht_preinit_array, shf_write, shf_alloc, shf_execinstr, shf_tls}
use Rattle.lk_model.specs.declared.layouts.Class.{Class}
use Rattle.lk_model.specs.declared.layouts.Class.TheVariants.{R, X, W, WX, Tdata, Tbss, Bss, N}
use Rattle.lk_model.specs.declared.layouts.FillKind.{FillKind}
use Rattle.lk_model.specs.declared.layouts.FillKind.TheVariants as fill
use Rattle.lk_model.specs.declared.layouts.SectionKey.{SectionKey}

-- a class by its number, which is the one in the records
abbrev pub class_number : Class → ℕ
class_number R = 0
class_number X = 1
class_number W = 2
class_number WX = 3
class_number Tdata = 4
class_number Tbss = 5
class_number Bss = 6
class_number N = 7

-- whether two classes are one
abbrev pub same_class : Class → Class → Bool
same_class a b = class_number a == class_number b

-- whether two keys have the same name and the same class
abbrev pub same_key : SectionKey → SectionKey → Bool
same_key a b = same_class a.class b.class && bytes_eq a.name b.name

-- the key of this name and class
abbrev pub named : List ℕ → Class → SectionKey
named name class = record { name = name; class = class }

-- the frame table, whose last entry is four zero bytes
abbrev pub eh_frame : SectionKey
eh_frame = named (codes ".eh_frame") R

-- the debug units
abbrev pub debug_info : SectionKey
debug_info = named (codes ".debug_info") N

-- the global offset table
abbrev pub got_key : SectionKey
got_key = named (codes ".got") W

-- the part of the global offset table that the procedure linkage table jumps through
abbrev pub got_plt_key : SectionKey
got_plt_key = named (codes ".got.plt") W

-- the tables that a link makes: two in every link, the others in dynamic links
abbrev pub table_keys : List SectionKey
table_keys =
    got_key
    ∷ got_plt_key
    ∷ named (codes ".interp") R
    ∷ named (codes ".hash") R
    ∷ named (codes ".dynsym") R
    ∷ named (codes ".dynstr") R
    ∷ named (codes ".rela.dyn") R
    ∷ named (codes ".rela.plt") R
    ∷ named (codes ".plt") X
    ∷ named (codes ".dynamic") W
    ∷ []

-- whether the section is a table that the link makes
abbrev pub is_table : SectionKey → Bool
is_table key = list_any (same_key key) table_keys

-- whether it is loaded into memory
abbrev pub is_alloc : Class → Bool
is_alloc class = not (same_class class N)

-- whether its bytes are in the file
abbrev pub in_file : Class → Bool
in_file class = not (same_class class Bss || same_class class Tbss)

-- whether it may be executed
abbrev pub is_executable : Class → Bool
is_executable class = same_class class X || same_class class WX

-- the loaded sections whose pieces may be anywhere in them
abbrev pub patched_keys : List SectionKey
patched_keys =
    named (codes ".text") X
    ∷ named (codes ".rodata") R
    ∷ named (codes ".gcc_except_table") R
    ∷ eh_frame
    ∷ named (codes ".data") W
    ∷ named (codes ".bss") Bss
    ∷ named (codes ".tdata") Tdata
    ∷ named (codes ".tbss") Tbss
    ∷ []

-- whether its pieces may be anywhere in it, with room to grow; any other section is the sequence of
-- its pieces, or a table
unfoldable pub is_patched : SectionKey → Bool
is_patched key = not (is_alloc key.class) || list_any (same_key key) patched_keys

-- whether it is a note section, which a PT_NOTE header shows
abbrev pub is_note : SectionKey → Bool
is_note key =
    same_class key.class R
    && (bytes_eq key.name (codes ".note") || starts_with nat_eq key.name (codes ".note."))

-- whether it is an array of functions that pieces with a number come first in
abbrev pub is_numbered_array : SectionKey → Bool
is_numbered_array key = same_key key (named (codes ".init_array") W) || same_key key (named (codes ".fini_array") W)

-- the length of the shortest hole that can be filled
abbrev pub least_of : SectionKey → ℕ
least_of key = if same_key key eh_frame then 16 else if same_key key debug_info then 11 else 1

-- the bytes at the end of its room that no piece covers
abbrev pub reserved_of : SectionKey → ℕ
reserved_of key = if same_key key eh_frame then 4 else 0

-- what fills its holes
unfoldable pub fill_kind : SectionKey → FillKind
fill_kind key =
    if is_executable key.class then fill.Trap
    else if same_key key eh_frame then fill.Frame
    else if same_key key debug_info then fill.Unit
    else fill.Zero

-- sh_flags of the sections of a class
abbrev pub header_flags : Class → ℕ
header_flags R = shf_alloc
header_flags X = shf_alloc + shf_execinstr
header_flags W = shf_alloc + shf_write
header_flags WX = shf_alloc + shf_write + shf_execinstr
header_flags Tdata = shf_alloc + shf_write + shf_tls
header_flags Tbss = shf_alloc + shf_write + shf_tls
header_flags Bss = shf_alloc + shf_write
header_flags N = 0

-- the sections whose type their key says, apart from notes
abbrev pub typed_keys : List (SectionKey × ℕ)
typed_keys =
    (named (codes ".init_array") W, sht_init_array)
    ∷ (named (codes ".fini_array") W, sht_fini_array)
    ∷ (named (codes ".preinit_array") W, sht_preinit_array)
    ∷ (named (codes ".hash") R, sht_hash)
    ∷ (named (codes ".dynsym") R, sht_dynsym)
    ∷ (named (codes ".dynstr") R, sht_strtab)
    ∷ (named (codes ".rela.dyn") R, sht_rela)
    ∷ (named (codes ".rela.plt") R, sht_rela)
    ∷ (named (codes ".dynamic") W, sht_dynamic)
    ∷ []

-- sh_type of a section: NOBITS where the file has no bytes of it, the type of an array, a note or a
-- table, and PROGBITS for every other
unfoldable pub header_type : SectionKey → ℕ
header_type key =
    if not (in_file key.class) then sht_nobits
    else if is_note key then sht_note
    else unwrap_or (option_map (λ (row : SectionKey × ℕ). row.1) (find (λ (row : SectionKey × ℕ). same_key key row.0) typed_keys)) sht_progbits
