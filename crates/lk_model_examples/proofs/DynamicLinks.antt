-- Links with shared inputs, of which the examples of the tables of a dynamic link speak: what resolution
-- finds of their inputs, and where everything is.
use Rattle.std.specs.Prelude.{ℕ, ◌+◌, ◌*◌, pos, true, false, List, [], ◌∷◌, ◌++◌, Option, Some, find, map, length, option_map, codes}
use Rattle.lk_elf.specs.Fields.{num, number_of, bytes_of, signed64, unsigned64}
use Rattle.lk_elf.specs.Numbers.{shf_alloc, shf_tls, stb_global, stb_weak, stt_func, stt_notype, stt_object, stt_section, stt_tls, stv_hidden, stv_protected}
use Rattle.lk_elf.specs.Records.{rela_at, rela_bytes}
use Rattle.lk_elf.specs.declared.relocation.Rela.{Rela}
use Rattle.lk_elf.specs.declared.symbol.Sym.{Sym}
use Rattle.lk_elf.specs.declared.dynamic_entry.Dyn.{Dyn}
use Rattle.lk_report.specs.declared.causes.OptionRecord.{OptionRecord}
use Rattle.lk_model.specs.declared.layouts.Class.TheVariants as class
use Rattle.lk_model.specs.declared.layouts.GotKey.{GotKey}
use Rattle.lk_model.specs.declared.layouts.GotOwner.TheVariants as owner
use Rattle.lk_model.specs.declared.layouts.PieceId.TheVariants as piece
use Rattle.lk_model.specs.declared.layouts.PieceRow.{PieceRow}
use Rattle.lk_model.specs.declared.layouts.Placement.{Placement}
use Rattle.lk_model.specs.declared.layouts.SectionKey.{SectionKey}
use Rattle.lk_model.specs.declared.layouts.SlotTable.{SlotTable}
use Rattle.lk_model.specs.declared.summaries.Global.{Global}
use Rattle.lk_model.specs.declared.summaries.Home.TheVariants as home
use Rattle.lk_model.specs.declared.summaries.PieceInfo.{PieceInfo}
use Rattle.lk_model.specs.Adding.{added_inputs}
use Rattle.lk_model.specs.DynamicSizes.{dynamic_table_sizes}
use Rattle.lk_model.specs.Finding.{found_of}
use Rattle.lk_model.specs.Forms.{r_x86_64_32s, r_x86_64_gotpcrel, r_x86_64_gotpcrelx, r_x86_64_gottpoff, r_x86_64_pc32, r_x86_64_plt32, r_x86_64_rex_gotpcrelx}
use Rattle.lk_model.specs.FullPlace.{Extent, extent_with, pieces_in, rows_of, piece_rows}
use Rattle.lk_model.specs.NeedsOf.{needs_of}
use Rattle.lk_model.specs.Objects.{relas_under, relocations_in}
use Rattle.lk_model.specs.Resolving.{resolve}
use Rattle.lk_model.specs.SectionKeys.{got_key, got_plt_key, same_key}
use Rattle.lk_model.specs.SectionOrder.{each_once, in_order, slots_of}
use Rattle.lk_model.specs.Views.{Input, KeptPiece, Resolved}
use Rattle.lk_model.specs.Winners.{winner_of}
use Rattle.lk_model_examples.proofs.ResolutionInputs.{common, elf_with, exported, local, object_in, piece_named, plain_options, relocation, shared, strong, symbol, text, undefined, weak_undefined}
use Rattle.lk_model.proofs.SmallLinks.{placed, row}

-- what resolution finds of inputs
unfoldable pub linked : OptionRecord → List Input → Resolved
unfolding resolve found_of added_inputs needs_of winner_of relocations_in relas_under rela_at rela_bytes num number_of bytes_of signed64 unsigned64
linked options inputs = resolve options inputs

-- the keys of the output sections that kept pieces go to
abbrev pub kept_keys : Resolved → List SectionKey
kept_keys r = each_once (map (λ (k : KeptPiece). k.key) r.kept)

-- the tables of a dynamic link with their sizes, the GOT's two among them
abbrev pub tables_with_sizes : Resolved → SlotTable → List (SectionKey × ℕ)
tables_with_sizes r slots =
    (got_key, 8 * length slots.got)
    ∷ (got_plt_key, 8 * (3 + length slots.plt))
    ∷ dynamic_table_sizes r (kept_keys r) slots

-- how many bytes an output section takes, where these are the tables
abbrev extent_beside : Resolved → List (SectionKey × ℕ) → SectionKey → Extent
extent_beside r tables key =
    extent_with
    (option_map (λ (t : SectionKey × ℕ). t.1) (find (λ (t : SectionKey × ℕ). same_key key t.0) tables))
    r.options.patch
    key
    (pieces_in key r.kept)

-- where a dynamic link that is made anew puts everything
abbrev pub dynamic_place : Resolved → Placement
dynamic_place r =
    let slots = slots_of r.needs in
    let tables = tables_with_sizes r slots in
    let rows = rows_of (map (extent_beside r tables) (in_order (each_once (kept_keys r ++ map (λ (t : SectionKey × ℕ). t.0) tables)))) in
    record { sections = rows; pieces = piece_rows rows r.kept; slots = slots }

-- an object with relocations of its section 1; its symbols from 3 on are not LOCAL
abbrev object_with : List ℕ → List PieceInfo → List Global → List Rela → Input
object_with path pieces globals relocations =
    object_in 0 path pieces globals [] (elf_with shf_alloc shf_tls (local 0 0 ∷ local stt_section 1 ∷ local stt_section 3 ∷ []) relocations)

-- the piece of a copy, placed
abbrev copied : ℕ → ℕ → ℕ → ℕ → ℕ → PieceRow
copied name number addr size align = record { piece = piece.Copy name; section = number; addr = addr; size = size; align = align }

-- the piece of a common block, placed
abbrev block : ℕ → ℕ → ℕ → ℕ → ℕ → PieceRow
block name number addr size align = record { piece = piece.Common name; section = number; addr = addr; size = size; align = align }

-- a GOT slot of a name
abbrev pub slot : ℕ → Option GotKey
slot name = Some (record { owner = owner.Global name; thread = false })

abbrev pub thread_slot : ℕ → Option GotKey
thread_slot name = Some (record { owner = owner.Global name; thread = true })

-- entries by their numbers
abbrev pub entry : ℕ → ℕ → ℕ → ℕ → ℕ → ℕ → Sym
entry text info other header value size = record { st_name = text; st_info = info; st_other = other; st_shndx = header; st_value = value; st_size = size }

abbrev pub fill : ℕ → ℕ → Rela
fill address info = record { r_offset = address; r_info = info; r_addend = pos 0 }

abbrev pub tag : ℕ → ℕ → Dyn
tag number value = record { d_tag = pos number; d_un = value }

-- a program over a library: it takes the address of the library's start function from the GOT, calls
-- two functions, and reads a variable
abbrev library : Input
library =
    shared
    (codes "libc.so.6")
    (exported 1 (codes "__libc_start_main") stt_func 0x1000 100
    ∷ exported 2 (codes "puts") stt_func 0x1100 20
    ∷ exported 3 (codes "exit") stt_func 0x1200 30
    ∷ exported 4 (codes "stdout") stt_object 0x2008 8
    ∷ [])

abbrev program_inputs : List Input
program_inputs =
    object_with
    (codes "crt1.o")
    (text 1 ∷ [])
    (strong 3 (codes "_start") 1 ∷ undefined 4 (codes "__libc_start_main") ∷ undefined 5 (codes "main") ∷ [])
    (relocation 2 4 r_x86_64_gotpcrelx ∷ relocation 8 5 r_x86_64_pc32 ∷ [])
    ∷ object_with (codes "crti.o") (piece_named 1 (codes ".init") class.X ∷ []) (strong 3 (codes "_init") 1 ∷ []) []
    ∷ object_with
    (codes "main.o")
    (text 1 ∷ piece_named 3 (codes ".data") class.W ∷ [])
    (strong 3 (codes "main") 1 ∷ undefined 4 (codes "puts") ∷ undefined 5 (codes "stdout") ∷ [])
    (relocation 1 4 r_x86_64_plt32 ∷ relocation 8 5 r_x86_64_pc32 ∷ [])
    ∷ object_with (codes "util.o") (text 1 ∷ []) (strong 3 (codes "util") 1 ∷ undefined 4 (codes "exit") ∷ []) (relocation 1 4 r_x86_64_plt32 ∷ [])
    ∷ library
    ∷ object_with (codes "crtn.o") (piece_named 1 (codes ".init") class.X ∷ []) [] []
    ∷ []

unfoldable pub program : Resolved
unfolding linked
program = linked plain_options program_inputs

-- names by number: 0 _start, 1 __libc_start_main, 2 main, 3 _init, 4 puts, 5 stdout, 6 util, 7 exit
abbrev pub program_place : Placement
program_place = record {
  sections =
      row (codes ".interp") class.R 0x401000 28 64 16
      ∷ row (codes ".hash") class.R 0x401040 32 64 16
      ∷ row (codes ".dynsym") class.R 0x401080 120 192 16
      ∷ row (codes ".dynstr") class.R 0x401140 46 64 16
      ∷ row (codes ".rela.dyn") class.R 0x401180 48 64 16
      ∷ row (codes ".rela.plt") class.R 0x4011c0 48 64 16
      ∷ row (codes ".init") class.X 0x402000 32 64 16
      ∷ row (codes ".plt") class.X 0x402040 48 64 16
      ∷ row (codes ".text") class.X 0x402080 64 64 16
      ∷ row (codes ".dynamic") class.W 0x403000 256 320 16
      ∷ row (codes ".got") class.W 0x403140 8 64 16
      ∷ row (codes ".got.plt") class.W 0x403180 40 64 16
      ∷ row (codes ".data") class.W 0x4031c0 64 64 16
      ∷ row (codes ".bss") class.Bss 0x403200 64 64 16
      ∷ [];
  pieces =
      placed 0 1 8 0x402080 16 16
      ∷ placed 1 1 6 0x402000 16 16
      ∷ placed 2 1 8 0x402090 16 16
      ∷ placed 2 3 12 0x4031c0 16 16
      ∷ placed 3 1 8 0x4020a0 16 16
      ∷ placed 5 1 6 0x402010 16 16
      ∷ copied 5 13 0x403200 8 8
      ∷ [];
  slots = record { got = slot 1 ∷ []; plt = 4 ∷ 7 ∷ [] };
}

-- a shared input with a soname of its own
abbrev shared_as : List ℕ → List ℕ → List Global → Input
shared_as path soname globals = let x = shared path globals in record x { summary = record x.summary { soname = soname } }

-- an object with each kind of symbol, and three shared inputs, two of which have one soname
abbrev kinds_object : Input
kinds_object =
    object_with
    (codes "a.o")
    (text 1 ∷ piece_named 3 (codes ".tdata") class.Tdata ∷ piece_named 4 (codes ".init_array") class.W ∷ [])
    (strong 3 (codes "_start") 1
    ∷ record (symbol 4 (codes "tvar") stb_global stt_tls (home.Section 3)) { value = 8; size = 4 }
    ∷ record (strong 5 (codes "hid") 1) { visibility = stv_hidden; value = 2; size = 6 }
    ∷ record (symbol 6 (codes "prot") stb_weak stt_object (home.Section 1)) { visibility = stv_protected; value = 4; size = 4 }
    ∷ record (symbol 7 (codes "abs") stb_global stt_notype home.Absolute) { value = 0x1234 }
    ∷ common 8 (codes "com") 12 8
    ∷ undefined 9 (codes "ext")
    ∷ undefined 10 (codes "tls_ext")
    ∷ weak_undefined 11 (codes "var")
    ∷ undefined 12 (codes "_GLOBAL_OFFSET_TABLE_")
    ∷ weak_undefined 13 (codes "nowhere")
    ∷ weak_undefined 14 (codes "func")
    ∷ undefined 15 (codes "unneeded")
    ∷ record (strong 16 (codes "_fini") 1) { value = 12 }
    ∷ [])
    (relocation 0 9 r_x86_64_32s
    ∷ relocation 4 10 r_x86_64_gottpoff
    ∷ relocation 8 11 r_x86_64_gotpcrel
    ∷ relocation 12 11 r_x86_64_pc32
    ∷ relocation 16 1 r_x86_64_gotpcrel
    ∷ relocation 20 14 r_x86_64_rex_gotpcrelx
    ∷ relocation 24 4 r_x86_64_gottpoff
    ∷ [])

abbrev kinds_inputs : List Input
kinds_inputs =
    kinds_object
    ∷ shared_as
    (codes "l1.so")
    (codes "l.so")
    (exported 1 (codes "ext") stt_func 0x1000 7
    ∷ exported 2 (codes "tls_ext") stt_tls 0 4
    ∷ exported 3 (codes "var") stt_object 0x30 24
    ∷ record (exported 4 (codes "func") stt_func 0x1100 9) { binding = stb_weak }
    ∷ [])
    ∷ shared_as (codes "l2.so") (codes "l.so") (exported 1 (codes "unneeded") stt_func 0x1000 5 ∷ [])
    ∷ shared_as
    (codes "l3.so")
    (codes "m.so")
    (undefined 1 (codes "hid") ∷ undefined 2 (codes "abs") ∷ exported 3 (codes "com") stt_object 0x40 4 ∷ undefined 4 (codes "_GLOBAL_OFFSET_TABLE_") ∷ [])
    ∷ []

abbrev kinds_options : OptionRecord
kinds_options = record plain_options { interp = codes "/lib/ld.so"; runpath = codes "/opt/lib" }

-- the link with the definitions that shared inputs name, and the link with all of them exported
unfoldable pub kinds : Resolved
unfolding linked
kinds = linked kinds_options kinds_inputs

unfoldable pub kinds_exported : Resolved
unfolding linked
kinds_exported = linked (record kinds_options { export_dynamic = true }) kinds_inputs

-- names by number: 0 _start, 1 tvar, 2 hid, 3 prot, 4 abs, 5 com, 6 ext, 7 tls_ext, 8 var,
-- 9 _GLOBAL_OFFSET_TABLE_, 10 nowhere, 11 func, 12 unneeded, 13 _fini
abbrev pub kinds_place : Placement
kinds_place = record {
  sections =
      row (codes ".interp") class.R 0x401000 11 64 16
      ∷ row (codes ".hash") class.R 0x401040 60 128 16
      ∷ row (codes ".dynsym") class.R 0x4010c0 264 320 16
      ∷ row (codes ".dynstr") class.R 0x401200 72 128 16
      ∷ row (codes ".rela.dyn") class.R 0x401280 72 128 16
      ∷ row (codes ".rela.plt") class.R 0x401300 24 64 16
      ∷ row (codes ".plt") class.X 0x402000 32 64 16
      ∷ row (codes ".text") class.X 0x402040 64 64 16
      ∷ row (codes ".tdata") class.Tdata 0x403000 64 64 16
      ∷ row (codes ".init_array") class.W 0x403040 16 64 16
      ∷ row (codes ".dynamic") class.W 0x403080 320 384 16
      ∷ row (codes ".got") class.W 0x403200 40 64 16
      ∷ row (codes ".got.plt") class.W 0x403240 32 64 16
      ∷ row (codes ".bss") class.Bss 0x403280 64 64 16
      ∷ [];
  pieces =
      placed 0 1 7 0x402040 16 16
      ∷ placed 0 3 8 0x403000 16 16
      ∷ placed 0 4 9 0x403040 16 16
      ∷ block 5 13 0x403280 12 8
      ∷ copied 8 13 0x403290 24 16
      ∷ [];
  slots =
      record {
        got = thread_slot 7 ∷ slot 8 ∷ Some (record { owner = owner.Local 0 1; thread = false }) ∷ slot 11 ∷ thread_slot 1 ∷ [];
        plt = 6 ∷ [];
      };
}
