-- Small inputs, of which the examples of resolution speak.
use Rattle.std.specs.Prelude.{ℕ, pos, false, List, [], ◌∷◌, ◌*◌, ◌+◌, ◌^◌, flat_map, length, codes, None}
use Rattle.lk_elf.specs.Numbers.{stb_global, stb_weak, stt_notype, stt_func, stt_object, stv_default, sht_rela, sht_progbits}
use Rattle.lk_elf.specs.Records.{ehdr_at, rela_bytes}
use Rattle.lk_elf.specs.declared.relocation.Rela.{Rela}
use Rattle.lk_elf.specs.declared.section_header.Shdr.{Shdr}
use Rattle.lk_elf.specs.declared.symbol.Sym.{Sym}
use Rattle.lk_report.specs.declared.causes.OptionRecord.{OptionRecord}
use Rattle.lk_model.specs.declared.commands.Mark.TheVariants as mark
use Rattle.lk_model.specs.declared.layouts.Class.{Class}
use Rattle.lk_model.specs.declared.layouts.Class.TheVariants as class
use Rattle.lk_model.specs.declared.summaries.Global.{Global}
use Rattle.lk_model.specs.declared.summaries.Group.{Group}
use Rattle.lk_model.specs.declared.summaries.Home.{Home}
use Rattle.lk_model.specs.declared.summaries.Home.TheVariants as home
use Rattle.lk_model.specs.declared.summaries.Kind.TheVariants as kind
use Rattle.lk_model.specs.declared.summaries.PieceInfo.{PieceInfo}
use Rattle.lk_model.specs.Views.{Elf, Input}

-- the options of a command without words for them
abbrev pub plain_options : OptionRecord
plain_options = record { entry = codes "_start"; interp = []; runpath = []; patch = 10; export_dynamic = false; dynamic = false }

-- a file without parts
abbrev pub no_elf : Elf
no_elf = record { bytes = []; header = ehdr_at [] 0; sections = []; symbols = [] }

-- a section header, of which only type, flags, size and target count here
abbrev pub header : ℕ → ℕ → ℕ → ℕ → Shdr
header code flags size info = record { sh_name = 0; sh_type = code; sh_flags = flags; sh_addr = 0; sh_offset = 0; sh_size = size; sh_link = 0; sh_info = info; sh_addralign = 1; sh_entsize = 0 }

-- a LOCAL symbol of a section
abbrev pub local : ℕ → ℕ → Sym
local code section = record { st_name = 0; st_info = code; st_other = 0; st_shndx = section; st_value = 0; st_size = 0 }

-- a relocation
abbrev pub relocation : ℕ → ℕ → ℕ → Rela
relocation offset symbol code = record { r_offset = offset; r_info = symbol * 2 ^ 32 + code; r_addend = pos 0 }

-- a file that begins with the entries of one RELA section, section 2, of its section 1, which has these
-- flags; section 3 is another one, with flags of its own
abbrev pub elf_with : ℕ → ℕ → List Sym → List Rela → Elf
elf_with flags others symbols relocations =
    let bytes = flat_map rela_bytes relocations in
    record { bytes = bytes; header = ehdr_at [] 0; sections = header 0 0 0 0 ∷ header sht_progbits flags 16 0 ∷ header sht_rela 0 (length bytes) 1 ∷ header sht_progbits others 16 0 ∷ []; symbols = symbols }

-- a symbol that is not LOCAL
abbrev pub symbol : ℕ → List ℕ → ℕ → ℕ → Home → Global
symbol number name binding code place = record { symbol = number; name = name; binding = binding; code = code; visibility = stv_default; home = place; value = 0; size = 0 }

-- a strong definition, a weak one, a reference, a weak reference, a common block
abbrev pub strong : ℕ → List ℕ → ℕ → Global
strong number name section = symbol number name stb_global stt_func (home.Section section)

abbrev pub weak : ℕ → List ℕ → ℕ → Global
weak number name section = symbol number name stb_weak stt_func (home.Section section)

abbrev pub undefined : ℕ → List ℕ → Global
undefined number name = symbol number name stb_global stt_notype home.Undefined

abbrev pub weak_undefined : ℕ → List ℕ → Global
weak_undefined number name = symbol number name stb_weak stt_notype home.Undefined

abbrev pub common : ℕ → List ℕ → ℕ → ℕ → Global
common number name size align = record (symbol number name stb_global stt_object home.Common) { value = align; size = size }

-- an input section that is a piece
abbrev pub piece_named : ℕ → List ℕ → Class → PieceInfo
piece_named section name place = record { section = section; name = name; key = record { name = name; class = place }; size = 16; align = 16; terminator = false }

abbrev pub text : ℕ → PieceInfo
text section = piece_named section (codes ".text") class.X

-- an object outside a lib group, and one of a lib group
abbrev pub object_in : ℕ → List ℕ → List PieceInfo → List Global → List Group → Elf → Input
object_in lib path pieces globals groups elf = record {
  path = path;
  occurrence = 0;
  lib = lib;
  mark = mark.Unknown;
  stamp = None;
  elf = elf;
  summary = record { kind = kind.Object; soname = []; exec_stack = false; pieces = pieces; globals = globals; groups = groups };
}

abbrev pub object : List ℕ → List Global → Input
object path globals = object_in 0 path (text 1 ∷ []) globals [] no_elf

abbrev pub member : ℕ → List ℕ → List Global → Input
member lib path globals = object_in lib path (text 1 ∷ []) globals [] no_elf

-- a shared input
abbrev pub shared : List ℕ → List Global → Input
shared path globals = record {
  path = path;
  occurrence = 0;
  lib = 0;
  mark = mark.Unknown;
  stamp = None;
  elf = no_elf;
  summary = record { kind = kind.Shared; soname = path; exec_stack = false; pieces = []; globals = globals; groups = [] };
}

-- a definition in a shared input
abbrev pub exported : ℕ → List ℕ → ℕ → ℕ → ℕ → Global
exported number name code value size = record (symbol number name stb_global code home.Shared) { value = value; size = size }
