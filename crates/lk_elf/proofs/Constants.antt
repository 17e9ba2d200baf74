-- Each named number of the code is the number of that name in the definitions.
use Rattle.std.proofs.Common.{◌≡◌, refl}
use Rattle.std.specs.Prelude.{pos}
use Rattle.lk_elf.specs.declared.numbers.TheConstants.{ELFMAG, EI_CLASS, EI_DATA, EI_VERSION, EI_NIDENT, ELFCLASS64, ELFDATA2LSB, EV_CURRENT, ET_REL, ET_EXEC, ET_DYN, EM_X86_64, SHT_NULL, SHT_PROGBITS, SHT_SYMTAB, SHT_STRTAB, SHT_RELA, SHT_HASH, SHT_DYNAMIC, SHT_NOTE, SHT_NOBITS, SHT_REL, SHT_DYNSYM, SHT_INIT_ARRAY, SHT_FINI_ARRAY, SHT_PREINIT_ARRAY, SHT_GROUP, SHT_SYMTAB_SHNDX, SHT_X86_64_UNWIND, SHF_WRITE, SHF_ALLOC, SHF_EXECINSTR, SHF_MERGE, SHF_STRINGS, SHF_INFO_LINK, SHF_LINK_ORDER, SHF_GROUP, SHF_TLS, SHF_COMPRESSED, STB_LOCAL, STB_GLOBAL, STB_WEAK, STT_NOTYPE, STT_OBJECT, STT_FUNC, STT_SECTION, STT_FILE, STT_COMMON, STT_TLS, STT_GNU_IFUNC, STV_DEFAULT, STV_INTERNAL, STV_HIDDEN, STV_PROTECTED, SHN_UNDEF, SHN_ABS, SHN_COMMON, SHN_XINDEX, PT_LOAD, PT_DYNAMIC, PT_INTERP, PT_NOTE, PT_PHDR, PT_TLS, PT_GNU_STACK, PF_X, PF_W, PF_R, DT_NULL, DT_NEEDED, DT_PLTRELSZ, DT_PLTGOT, DT_HASH, DT_STRTAB, DT_SYMTAB, DT_RELA, DT_RELASZ, DT_RELAENT, DT_STRSZ, DT_SYMENT, DT_INIT, DT_FINI, DT_SONAME, DT_PLTREL, DT_DEBUG, DT_JMPREL, DT_INIT_ARRAY, DT_FINI_ARRAY, DT_INIT_ARRAYSZ, DT_FINI_ARRAYSZ, DT_RUNPATH, DT_PREINIT_ARRAY, DT_PREINIT_ARRAYSZ, EHDR_SIZE, SHDR_SIZE, PHDR_SIZE, SYM_SIZE, RELA_SIZE, DYN_SIZE}
use Rattle.lk_elf.specs.Numbers.{elfmag, ei_class, ei_data, ei_version, ei_nident, elfclass64, elfdata2lsb, ev_current, et_rel, et_exec, et_dyn, em_x86_64, sht_null, sht_progbits, sht_symtab, sht_strtab, sht_rela, sht_hash, sht_dynamic, sht_note, sht_nobits, sht_rel, sht_dynsym, sht_init_array, sht_fini_array, sht_preinit_array, sht_group, sht_symtab_shndx, sht_x86_64_unwind, shf_write, shf_alloc, shf_execinstr, shf_merge, shf_strings, shf_info_link, shf_link_order, shf_group, shf_tls, shf_compressed, stb_local, stb_global, stb_weak, stt_notype, stt_object, stt_func, stt_section, stt_file, stt_common, stt_tls, stt_gnu_ifunc, stv_default, stv_internal, stv_hidden, stv_protected, shn_undef, shn_abs, shn_common, shn_xindex, pt_load, pt_dynamic, pt_interp, pt_note, pt_phdr, pt_tls, pt_gnu_stack, pf_x, pf_w, pf_r, dt_null, dt_needed, dt_pltrelsz, dt_pltgot, dt_hash, dt_strtab, dt_symtab, dt_rela, dt_relasz, dt_relaent, dt_strsz, dt_syment, dt_init, dt_fini, dt_soname, dt_pltrel, dt_debug, dt_jmprel, dt_init_array, dt_fini_array, dt_init_arraysz, dt_fini_arraysz, dt_runpath, dt_preinit_array, dt_preinit_arraysz, ehdr_size, shdr_size, phdr_size, sym_size, rela_size, dyn_size}

elfmag_lem : ELFMAG ≡ elfmag
elfmag_lem = refl

ei_class_lem : EI_CLASS ≡ ei_class
ei_class_lem = refl

ei_data_lem : EI_DATA ≡ ei_data
ei_data_lem = refl

ei_version_lem : EI_VERSION ≡ ei_version
ei_version_lem = refl

ei_nident_lem : EI_NIDENT ≡ ei_nident
ei_nident_lem = refl

elfclass64_lem : ELFCLASS64 ≡ elfclass64
elfclass64_lem = refl

elfdata2lsb_lem : ELFDATA2LSB ≡ elfdata2lsb
elfdata2lsb_lem = refl

ev_current_lem : EV_CURRENT ≡ ev_current
ev_current_lem = refl

et_rel_lem : ET_REL ≡ et_rel
et_rel_lem = refl

et_exec_lem : ET_EXEC ≡ et_exec
et_exec_lem = refl

et_dyn_lem : ET_DYN ≡ et_dyn
et_dyn_lem = refl

em_x86_64_lem : EM_X86_64 ≡ em_x86_64
em_x86_64_lem = refl

sht_null_lem : SHT_NULL ≡ sht_null
sht_null_lem = refl

sht_progbits_lem : SHT_PROGBITS ≡ sht_progbits
sht_progbits_lem = refl

sht_symtab_lem : SHT_SYMTAB ≡ sht_symtab
sht_symtab_lem = refl

sht_strtab_lem : SHT_STRTAB ≡ sht_strtab
sht_strtab_lem = refl

sht_rela_lem : SHT_RELA ≡ sht_rela
sht_rela_lem = refl

sht_hash_lem : SHT_HASH ≡ sht_hash
sht_hash_lem = refl

sht_dynamic_lem : SHT_DYNAMIC ≡ sht_dynamic
sht_dynamic_lem = refl

sht_note_lem : SHT_NOTE ≡ sht_note
sht_note_lem = refl

sht_nobits_lem : SHT_NOBITS ≡ sht_nobits
sht_nobits_lem = refl

sht_rel_lem : SHT_REL ≡ sht_rel
sht_rel_lem = refl

sht_dynsym_lem : SHT_DYNSYM ≡ sht_dynsym
sht_dynsym_lem = refl

sht_init_array_lem : SHT_INIT_ARRAY ≡ sht_init_array
sht_init_array_lem = refl

sht_fini_array_lem : SHT_FINI_ARRAY ≡ sht_fini_array
sht_fini_array_lem = refl

sht_preinit_array_lem : SHT_PREINIT_ARRAY ≡ sht_preinit_array
sht_preinit_array_lem = refl

sht_group_lem : SHT_GROUP ≡ sht_group
sht_group_lem = refl

sht_symtab_shndx_lem : SHT_SYMTAB_SHNDX ≡ sht_symtab_shndx
sht_symtab_shndx_lem = refl

sht_x86_64_unwind_lem : SHT_X86_64_UNWIND ≡ sht_x86_64_unwind
sht_x86_64_unwind_lem = refl

shf_write_lem : SHF_WRITE ≡ shf_write
shf_write_lem = refl

shf_alloc_lem : SHF_ALLOC ≡ shf_alloc
shf_alloc_lem = refl

shf_execinstr_lem : SHF_EXECINSTR ≡ shf_execinstr
shf_execinstr_lem = refl

shf_merge_lem : SHF_MERGE ≡ shf_merge
shf_merge_lem = refl

shf_strings_lem : SHF_STRINGS ≡ shf_strings
shf_strings_lem = refl

shf_info_link_lem : SHF_INFO_LINK ≡ shf_info_link
shf_info_link_lem = refl

shf_link_order_lem : SHF_LINK_ORDER ≡ shf_link_order
shf_link_order_lem = refl

shf_group_lem : SHF_GROUP ≡ shf_group
shf_group_lem = refl

shf_tls_lem : SHF_TLS ≡ shf_tls
shf_tls_lem = refl

shf_compressed_lem : SHF_COMPRESSED ≡ shf_compressed
shf_compressed_lem = refl

stb_local_lem : STB_LOCAL ≡ stb_local
stb_local_lem = refl

stb_global_lem : STB_GLOBAL ≡ stb_global
stb_global_lem = refl

stb_weak_lem : STB_WEAK ≡ stb_weak
stb_weak_lem = refl

stt_notype_lem : STT_NOTYPE ≡ stt_notype
stt_notype_lem = refl

stt_object_lem : STT_OBJECT ≡ stt_object
stt_object_lem = refl

stt_func_lem : STT_FUNC ≡ stt_func
stt_func_lem = refl

stt_section_lem : STT_SECTION ≡ stt_section
stt_section_lem = refl

stt_file_lem : STT_FILE ≡ stt_file
stt_file_lem = refl

stt_common_lem : STT_COMMON ≡ stt_common
stt_common_lem = refl

stt_tls_lem : STT_TLS ≡ stt_tls
stt_tls_lem = refl

stt_gnu_ifunc_lem : STT_GNU_IFUNC ≡ stt_gnu_ifunc
stt_gnu_ifunc_lem = refl

stv_default_lem : STV_DEFAULT ≡ stv_default
stv_default_lem = refl

stv_internal_lem : STV_INTERNAL ≡ stv_internal
stv_internal_lem = refl

stv_hidden_lem : STV_HIDDEN ≡ stv_hidden
stv_hidden_lem = refl

stv_protected_lem : STV_PROTECTED ≡ stv_protected
stv_protected_lem = refl

shn_undef_lem : SHN_UNDEF ≡ shn_undef
shn_undef_lem = refl

shn_abs_lem : SHN_ABS ≡ shn_abs
shn_abs_lem = refl

shn_common_lem : SHN_COMMON ≡ shn_common
shn_common_lem = refl

shn_xindex_lem : SHN_XINDEX ≡ shn_xindex
shn_xindex_lem = refl

pt_load_lem : PT_LOAD ≡ pt_load
pt_load_lem = refl

pt_dynamic_lem : PT_DYNAMIC ≡ pt_dynamic
pt_dynamic_lem = refl

pt_interp_lem : PT_INTERP ≡ pt_interp
pt_interp_lem = refl

pt_note_lem : PT_NOTE ≡ pt_note
pt_note_lem = refl

pt_phdr_lem : PT_PHDR ≡ pt_phdr
pt_phdr_lem = refl

pt_tls_lem : PT_TLS ≡ pt_tls
pt_tls_lem = refl

pt_gnu_stack_lem : PT_GNU_STACK ≡ pt_gnu_stack
pt_gnu_stack_lem = refl

pf_x_lem : PF_X ≡ pf_x
pf_x_lem = refl

pf_w_lem : PF_W ≡ pf_w
pf_w_lem = refl

pf_r_lem : PF_R ≡ pf_r
pf_r_lem = refl

dt_null_lem : DT_NULL ≡ pos dt_null
dt_null_lem = refl

dt_needed_lem : DT_NEEDED ≡ pos dt_needed
dt_needed_lem = refl

dt_pltrelsz_lem : DT_PLTRELSZ ≡ pos dt_pltrelsz
dt_pltrelsz_lem = refl

dt_pltgot_lem : DT_PLTGOT ≡ pos dt_pltgot
dt_pltgot_lem = refl

dt_hash_lem : DT_HASH ≡ pos dt_hash
dt_hash_lem = refl

dt_strtab_lem : DT_STRTAB ≡ pos dt_strtab
dt_strtab_lem = refl

dt_symtab_lem : DT_SYMTAB ≡ pos dt_symtab
dt_symtab_lem = refl

dt_rela_lem : DT_RELA ≡ pos dt_rela
dt_rela_lem = refl

dt_relasz_lem : DT_RELASZ ≡ pos dt_relasz
dt_relasz_lem = refl

dt_relaent_lem : DT_RELAENT ≡ pos dt_relaent
dt_relaent_lem = refl

dt_strsz_lem : DT_STRSZ ≡ pos dt_strsz
dt_strsz_lem = refl

dt_syment_lem : DT_SYMENT ≡ pos dt_syment
dt_syment_lem = refl

dt_init_lem : DT_INIT ≡ pos dt_init
dt_init_lem = refl

dt_fini_lem : DT_FINI ≡ pos dt_fini
dt_fini_lem = refl

dt_soname_lem : DT_SONAME ≡ pos dt_soname
dt_soname_lem = refl

dt_pltrel_lem : DT_PLTREL ≡ pos dt_pltrel
dt_pltrel_lem = refl

dt_debug_lem : DT_DEBUG ≡ pos dt_debug
dt_debug_lem = refl

dt_jmprel_lem : DT_JMPREL ≡ pos dt_jmprel
dt_jmprel_lem = refl

dt_init_array_lem : DT_INIT_ARRAY ≡ pos dt_init_array
dt_init_array_lem = refl

dt_fini_array_lem : DT_FINI_ARRAY ≡ pos dt_fini_array
dt_fini_array_lem = refl

dt_init_arraysz_lem : DT_INIT_ARRAYSZ ≡ pos dt_init_arraysz
dt_init_arraysz_lem = refl

dt_fini_arraysz_lem : DT_FINI_ARRAYSZ ≡ pos dt_fini_arraysz
dt_fini_arraysz_lem = refl

dt_runpath_lem : DT_RUNPATH ≡ pos dt_runpath
dt_runpath_lem = refl

dt_preinit_array_lem : DT_PREINIT_ARRAY ≡ pos dt_preinit_array
dt_preinit_array_lem = refl

dt_preinit_arraysz_lem : DT_PREINIT_ARRAYSZ ≡ pos dt_preinit_arraysz
dt_preinit_arraysz_lem = refl

ehdr_size_lem : EHDR_SIZE ≡ ehdr_size
ehdr_size_lem = refl

shdr_size_lem : SHDR_SIZE ≡ shdr_size
shdr_size_lem = refl

phdr_size_lem : PHDR_SIZE ≡ phdr_size
phdr_size_lem = refl

sym_size_lem : SYM_SIZE ≡ sym_size
sym_size_lem = refl

rela_size_lem : RELA_SIZE ≡ rela_size
rela_size_lem = refl

dyn_size_lem : DYN_SIZE ≡ dyn_size
dyn_size_lem = refl
