-- Which input sections may be linked, and the output section of each: its class by type and flags
-- (gABI "Sections", sh_type and sh_flags), its name by this project's own rule.
use Rattle.std.specs.Prelude.{ℕ, ◌+◌, ◌==◌, Bool, not, ◌&&◌, ◌||◌, if◌then◌else◌, nat_eq, nat_lt, List, [], ◌∷◌, ◌++◌, length, codes, bytes_eq, find, Option, unwrap_or}
use Rattle.std.specs.List.{list_any, starts_with}
use Rattle.std.specs.Bool.{then_some}
use Rattle.lk_elf.specs.Numbers.{sht_null, sht_progbits, sht_symtab, sht_strtab, sht_rela, sht_nobits, sht_group, shf_write, shf_alloc, shf_execinstr, shf_tls}
use Rattle.lk_model.specs.declared.layouts.Class.{Class}
use Rattle.lk_model.specs.declared.layouts.Class.TheVariants.{R, X, W, WX, Tdata, Tbss, Bss, N}
use Rattle.lk_model.specs.declared.layouts.SectionKey.{SectionKey}
use Rattle.lk_model.specs.Amounts.{has_flag}

-- the class of an input section, by its type and its flags
unfoldable pub class_of : ℕ → ℕ → Class
class_of code flags =
    if not (has_flag flags shf_alloc) then N
    else if has_flag flags shf_tls then (if code == sht_nobits then Tbss else Tdata)
    else if code == sht_nobits then Bss
    else if has_flag flags shf_execinstr then (if has_flag flags shf_write then WX else X)
    else if has_flag flags shf_write then W
    else R

-- the names that are taken for all names that go on from them after a dot
unfoldable pub common_names : List (List ℕ)
common_names =
    codes ".text" ∷ codes ".rodata" ∷ codes ".data" ∷ codes ".bss" ∷ codes ".init_array" ∷ codes ".fini_array"
    ∷ codes ".ctors" ∷ codes ".dtors" ∷ codes ".gcc_except_table" ∷ []

-- a name is this one, or goes on from it after a dot with at least one byte more
abbrev pub goes_under : List ℕ → List ℕ → Bool
goes_under name base = bytes_eq name base || (starts_with nat_eq name (base ++ codes ".") && nat_lt (length base + 1) (length name))

-- the name of the output section of a loaded section that is not thread-local
abbrev pub common_name : List ℕ → List ℕ
common_name name = unwrap_or (find (goes_under name) common_names) name

-- the name of the output section, by class and the input section's name
unfoldable pub output_name : Class → List ℕ → List ℕ
output_name R name = common_name name
output_name X name = common_name name
output_name W name = common_name name
output_name WX name = common_name name
output_name Tdata name = codes ".tdata"
output_name Tbss name = codes ".tbss"
output_name Bss name = common_name name
output_name N name = name

-- the types whose sections are read and never linked
abbrev pub is_reading_type : ℕ → Bool
is_reading_type code = list_any (λ t. t == code) (sht_null ∷ sht_symtab ∷ sht_strtab ∷ sht_rela ∷ sht_group ∷ [])

-- an input section, by name, type and flags, that may be linked
unfoldable pub is_piece : List ℕ → ℕ → ℕ → Bool
is_piece name code flags =
    not (is_reading_type code)
    && (if has_flag flags shf_alloc
    then not (bytes_eq name (codes ".note.gnu.property"))
    else code == sht_progbits && not (bytes_eq name (codes ".note.GNU-stack")))

-- the output section of an input section; none where it is no piece
unfoldable pub key_of : List ℕ → ℕ → ℕ → Option SectionKey
key_of name code flags =
    then_some (is_piece name code flags)
    (record { name = output_name (class_of code flags) name; class = class_of code flags })

-- the names of the tables that the linker makes
unfoldable pub table_names : List (List ℕ)
table_names =
    codes ".interp" ∷ codes ".hash" ∷ codes ".dynsym" ∷ codes ".dynstr" ∷ codes ".rela.dyn" ∷ codes ".rela.plt"
    ∷ codes ".plt" ∷ codes ".dynamic" ∷ codes ".got" ∷ codes ".got.plt" ∷ []

-- the names of the sections after the output sections: symbols, what an update reads, section names
unfoldable pub tail_names : List (List ℕ)
tail_names =
    codes ".symtab" ∷ codes ".strtab" ∷ codes ".gnu_incremental_inputs" ∷ codes ".gnu_incremental_symtab"
    ∷ codes ".gnu_incremental_relocs" ∷ codes ".gnu_incremental_got_plt" ∷ codes ".gnu_incremental_strtab"
    ∷ codes ".shstrtab" ∷ []

-- the name of a table
abbrev pub is_table_name : List ℕ → Bool
is_table_name name = list_any (bytes_eq name) table_names

-- the name of a section of the tail
abbrev pub is_tail_name : List ℕ → Bool
is_tail_name name = list_any (bytes_eq name) tail_names
