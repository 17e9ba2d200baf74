-- The numbers of ELF64 by name (gABI; psABI x86-64). The tags of the dynamic section are numbers here, and `pos` of them in a record.
use Rattle.std.specs.Prelude.{ℕ, List, [], ◌∷◌}

-- identification (gABI "ELF Identification")
abbrev pub elfmag : List ℕ
elfmag = 127 ∷ 69 ∷ 76 ∷ 70 ∷ []

abbrev pub ei_class : ℕ
ei_class = 4

abbrev pub ei_data : ℕ
ei_data = 5

abbrev pub ei_version : ℕ
ei_version = 6

abbrev pub ei_nident : ℕ
ei_nident = 16

abbrev pub elfclass64 : ℕ
elfclass64 = 2

abbrev pub elfdata2lsb : ℕ
elfdata2lsb = 1

abbrev pub ev_current : ℕ
ev_current = 1

-- file types (gABI "ELF Header", e_type)
abbrev pub et_rel : ℕ
et_rel = 1

abbrev pub et_exec : ℕ
et_exec = 2

abbrev pub et_dyn : ℕ
et_dyn = 3

-- machines (gABI "ELF Header", e_machine)
abbrev pub em_x86_64 : ℕ
em_x86_64 = 62

-- section types (gABI "Sections", sh_type; psABI x86-64 "Section Types")
abbrev pub sht_null : ℕ
sht_null = 0

abbrev pub sht_progbits : ℕ
sht_progbits = 1

abbrev pub sht_symtab : ℕ
sht_symtab = 2

abbrev pub sht_strtab : ℕ
sht_strtab = 3

abbrev pub sht_rela : ℕ
sht_rela = 4

abbrev pub sht_hash : ℕ
sht_hash = 5

abbrev pub sht_dynamic : ℕ
sht_dynamic = 6

abbrev pub sht_note : ℕ
sht_note = 7

abbrev pub sht_nobits : ℕ
sht_nobits = 8

abbrev pub sht_rel : ℕ
sht_rel = 9

abbrev pub sht_dynsym : ℕ
sht_dynsym = 11

abbrev pub sht_init_array : ℕ
sht_init_array = 14

abbrev pub sht_fini_array : ℕ
sht_fini_array = 15

abbrev pub sht_preinit_array : ℕ
sht_preinit_array = 16

abbrev pub sht_group : ℕ
sht_group = 17

abbrev pub sht_symtab_shndx : ℕ
sht_symtab_shndx = 18

abbrev pub sht_x86_64_unwind : ℕ
sht_x86_64_unwind = 1879048193

-- section flags (gABI "Sections", sh_flags)
abbrev pub shf_write : ℕ
shf_write = 1

abbrev pub shf_alloc : ℕ
shf_alloc = 2

abbrev pub shf_execinstr : ℕ
shf_execinstr = 4

abbrev pub shf_merge : ℕ
shf_merge = 16

abbrev pub shf_strings : ℕ
shf_strings = 32

abbrev pub shf_info_link : ℕ
shf_info_link = 64

abbrev pub shf_link_order : ℕ
shf_link_order = 128

abbrev pub shf_group : ℕ
shf_group = 512

abbrev pub shf_tls : ℕ
shf_tls = 1024

abbrev pub shf_compressed : ℕ
shf_compressed = 2048

-- symbol bindings (gABI "Symbol Table", the high four bits of st_info)
abbrev pub stb_local : ℕ
stb_local = 0

abbrev pub stb_global : ℕ
stb_global = 1

abbrev pub stb_weak : ℕ
stb_weak = 2

-- symbol types (gABI "Symbol Table", the low four bits of st_info; STT_GNU_IFUNC of the GNU gABI)
abbrev pub stt_notype : ℕ
stt_notype = 0

abbrev pub stt_object : ℕ
stt_object = 1

abbrev pub stt_func : ℕ
stt_func = 2

abbrev pub stt_section : ℕ
stt_section = 3

abbrev pub stt_file : ℕ
stt_file = 4

abbrev pub stt_common : ℕ
stt_common = 5

abbrev pub stt_tls : ℕ
stt_tls = 6

abbrev pub stt_gnu_ifunc : ℕ
stt_gnu_ifunc = 10

-- symbol visibilities (gABI "Symbol Table", the low two bits of st_other)
abbrev pub stv_default : ℕ
stv_default = 0

abbrev pub stv_internal : ℕ
stv_internal = 1

abbrev pub stv_hidden : ℕ
stv_hidden = 2

abbrev pub stv_protected : ℕ
stv_protected = 3

-- section numbers (gABI "Sections", special section indexes)
abbrev pub shn_undef : ℕ
shn_undef = 0

abbrev pub shn_abs : ℕ
shn_abs = 65521

abbrev pub shn_common : ℕ
shn_common = 65522

abbrev pub shn_xindex : ℕ
shn_xindex = 65535

-- program header types (gABI "Program Header", p_type; PT_GNU_STACK of the GNU gABI)
abbrev pub pt_load : ℕ
pt_load = 1

abbrev pub pt_dynamic : ℕ
pt_dynamic = 2

abbrev pub pt_interp : ℕ
pt_interp = 3

abbrev pub pt_note : ℕ
pt_note = 4

abbrev pub pt_phdr : ℕ
pt_phdr = 6

abbrev pub pt_tls : ℕ
pt_tls = 7

abbrev pub pt_gnu_stack : ℕ
pt_gnu_stack = 1685382481

-- segment flags (gABI "Program Header", p_flags)
abbrev pub pf_x : ℕ
pf_x = 1

abbrev pub pf_w : ℕ
pf_w = 2

abbrev pub pf_r : ℕ
pf_r = 4

-- dynamic tags (gABI "Dynamic Section", d_tag)
abbrev pub dt_null : ℕ
dt_null = 0

abbrev pub dt_needed : ℕ
dt_needed = 1

abbrev pub dt_pltrelsz : ℕ
dt_pltrelsz = 2

abbrev pub dt_pltgot : ℕ
dt_pltgot = 3

abbrev pub dt_hash : ℕ
dt_hash = 4

abbrev pub dt_strtab : ℕ
dt_strtab = 5

abbrev pub dt_symtab : ℕ
dt_symtab = 6

abbrev pub dt_rela : ℕ
dt_rela = 7

abbrev pub dt_relasz : ℕ
dt_relasz = 8

abbrev pub dt_relaent : ℕ
dt_relaent = 9

abbrev pub dt_strsz : ℕ
dt_strsz = 10

abbrev pub dt_syment : ℕ
dt_syment = 11

abbrev pub dt_init : ℕ
dt_init = 12

abbrev pub dt_fini : ℕ
dt_fini = 13

abbrev pub dt_soname : ℕ
dt_soname = 14

abbrev pub dt_pltrel : ℕ
dt_pltrel = 20

abbrev pub dt_debug : ℕ
dt_debug = 21

abbrev pub dt_jmprel : ℕ
dt_jmprel = 23

abbrev pub dt_init_array : ℕ
dt_init_array = 25

abbrev pub dt_fini_array : ℕ
dt_fini_array = 26

abbrev pub dt_init_arraysz : ℕ
dt_init_arraysz = 27

abbrev pub dt_fini_arraysz : ℕ
dt_fini_arraysz = 28

abbrev pub dt_runpath : ℕ
dt_runpath = 29

abbrev pub dt_preinit_array : ℕ
dt_preinit_array = 32

abbrev pub dt_preinit_arraysz : ℕ
dt_preinit_arraysz = 33

-- record sizes (gABI, the sizes in bytes of the records of a 64-bit file)
abbrev pub ehdr_size : ℕ
ehdr_size = 64

abbrev pub shdr_size : ℕ
shdr_size = 64

abbrev pub phdr_size : ℕ
phdr_size = 56

abbrev pub sym_size : ℕ
sym_size = 24

abbrev pub rela_size : ℕ
rela_size = 24

abbrev pub dyn_size : ℕ
dyn_size = 16
