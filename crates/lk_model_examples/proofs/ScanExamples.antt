-- Links whose references, needs and faults of references are computed.
use Rattle.std.specs.Prelude.{◌≡◌, refl, ℕ, pos, true, false, List, [], ◌∷◌, codes}
use Rattle.lk_elf.specs.Fields.{num, number_of, bytes_of, signed64, unsigned64}
use Rattle.lk_elf.specs.Numbers.{shf_alloc, shf_tls, stb_global, stt_func, stt_object, stt_section, stt_tls}
use Rattle.lk_elf.specs.Records.{rela_at, rela_bytes}
use Rattle.lk_elf.specs.declared.relocation.Rela.{Rela}
use Rattle.lk_report.specs.declared.faults.Fault.{Fault}
use Rattle.lk_report.specs.declared.faults.Fault.TheVariants as fault
use Rattle.lk_report.specs.declared.faults.Site.{Site}
use Rattle.lk_model.specs.declared.layouts.Class.{Class}
use Rattle.lk_model.specs.declared.layouts.Class.TheVariants as class
use Rattle.lk_model.specs.declared.layouts.GotOwner.TheVariants as owner
use Rattle.lk_model.specs.declared.layouts.PieceId.TheVariants as piece
use Rattle.lk_model.specs.declared.summaries.Global.{Global}
use Rattle.lk_model.specs.declared.summaries.Home.TheVariants as home
use Rattle.lk_model.specs.Adding.{added_inputs}
use Rattle.lk_model.specs.Forms.{r_x86_64_32, r_x86_64_64, r_x86_64_dtpoff64, r_x86_64_gotpcrel, r_x86_64_gotpcrelx, r_x86_64_gottpoff, r_x86_64_none, r_x86_64_pc32, r_x86_64_plt32, r_x86_64_size64, r_x86_64_tpoff32}
use Rattle.lk_model.specs.KeptPieces.{copy_align}
use Rattle.lk_model.specs.Finding.{found_of}
use Rattle.lk_model.specs.NeedsOf.{needs_of}
use Rattle.lk_model.specs.Objects.{local_in, relas_under, relocations_in}
use Rattle.lk_model.specs.RelocationTypes.{relocation_type_of, relocation_types}
use Rattle.lk_model.specs.Resolving.{resolve}
use Rattle.lk_model.specs.ScanFaults.{reference_count, scan_faults}
use Rattle.lk_model.specs.Views.{Input, Resolved, Through}
use Rattle.lk_model.specs.Winners.{winner_of}
use Rattle.lk_model_examples.proofs.ResolutionInputs.{elf_with, exported, local, object_in, piece_named, plain_options, relocation, shared, strong, symbol, text, undefined, weak_undefined}

-- what resolution finds of inputs
link : List Input → Resolved
unfolding resolve found_of added_inputs needs_of winner_of relocations_in relas_under rela_at rela_bytes num number_of bytes_of signed64 unsigned64
link inputs = resolve plain_options inputs

-- the faults that its references have
faults_reported : Resolved → List Fault
unfolding scan_faults relocations_in relas_under rela_at num number_of signed64 local_in relocation_type_of relocation_types
faults_reported r = scan_faults r

abbrev start : List ℕ
start = codes "_start"

abbrev g : List ℕ
g = codes "g"

abbrev a : List ℕ
a = codes "a.o"

-- the place in section 1 of a.o
abbrev at : ℕ → Site
at offset = record { path = a; section = 1; offset = offset }

-- an object whose section 1, of this name and class, has relocations; its symbols from 3 on are not
-- LOCAL, and symbols 1 and 2 are those of its sections 1 and 3
abbrev referring : List ℕ → Class → List Global → List Rela → Input
referring name place globals relocations =
    object_in 0 a (piece_named 1 name place ∷ []) globals [] (elf_with shf_alloc shf_alloc (local 0 0 ∷ local stt_section 1 ∷ local stt_section 3 ∷ []) relocations)

-- what resolution finds of an object with relocations in its `.text`, and of others
text_link : List Global → List Rela → List Input → Resolved
unfolding link
text_link globals relocations others = link (referring (codes ".text") class.X globals relocations ∷ others)

-- a GLOBAL reference to a name that nothing defines
undefined_g : faults_reported (text_link (undefined 3 g ∷ []) (relocation 5 3 r_x86_64_pc32 ∷ []) []) ≡ fault.Undefined g (at 5) ∷ []
unfolding text_link faults_reported
undefined_g = refl

-- it is reported once, at its first site; a WEAK one is no fault
undefined_once : faults_reported (text_link (undefined 3 g ∷ weak_undefined 4 (codes "w") ∷ []) (relocation 5 4 r_x86_64_pc32 ∷ relocation 9 3 r_x86_64_none ∷ relocation 13 3 r_x86_64_pc32 ∷ []) []) ≡ fault.Undefined g (at 9) ∷ []
unfolding text_link faults_reported
undefined_once = refl

-- a LOCAL symbol of a section that is no piece
dropped_local : faults_reported (text_link [] (relocation 4 1 r_x86_64_pc32 ∷ relocation 8 2 r_x86_64_pc32 ∷ []) []) ≡ fault.DroppedLocal (at 8) ∷ []
unfolding text_link faults_reported
dropped_local = refl

-- which is none in `.eh_frame` and in what is not loaded
frame_of_dropped : faults_reported (link (referring (codes ".eh_frame") class.R [] (relocation 8 2 r_x86_64_pc32 ∷ []) ∷ [])) ≡ []
unfolding link faults_reported
frame_of_dropped = refl

debug_of_dropped : faults_reported (link (referring (codes ".debug_info") class.N [] (relocation 8 2 r_x86_64_64 ∷ []) ∷ [])) ≡ []
unfolding link faults_reported
debug_of_dropped = refl

-- a type without a rule
unknown_type : faults_reported (text_link [] (relocation 4 1 3 ∷ []) []) ≡ fault.Unsupported 3 (at 4) ∷ []
unfolding text_link faults_reported
unknown_type = refl

-- a slot for what is not loaded, an offset in the thread-local block in what is, a thread form on
-- symbol 0
slot_in_debug : faults_reported (link (referring (codes ".debug_info") class.N [] (relocation 4 1 r_x86_64_gotpcrel ∷ []) ∷ [])) ≡ fault.Unsupported r_x86_64_gotpcrel (at 4) ∷ []
unfolding link faults_reported
slot_in_debug = refl

block_offset_in_text : faults_reported (text_link (symbol 3 g stb_global stt_tls (home.Section 1) ∷ []) (relocation 4 3 r_x86_64_dtpoff64 ∷ []) []) ≡ fault.Unsupported r_x86_64_dtpoff64 (at 4) ∷ []
unfolding text_link faults_reported
block_offset_in_text = refl

thread_form_on_null : faults_reported (text_link [] (relocation 4 0 r_x86_64_tpoff32 ∷ []) []) ≡ fault.Unsupported r_x86_64_tpoff32 (at 4) ∷ []
unfolding text_link faults_reported
thread_form_on_null = refl

-- on a thread-local name a direct form is not taken, but a size, nothing and thread forms are; on one
-- that is made or a function a thread form is not, and on one without winner it is
thread_local_forms :
    faults_reported (text_link (symbol 3 g stb_global stt_tls (home.Section 1) ∷ []) (relocation 0 3 r_x86_64_none ∷ relocation 0 3 r_x86_64_size64 ∷ relocation 8 3 r_x86_64_tpoff32 ∷ relocation 12 3 r_x86_64_32 ∷ []) [])
    ≡ fault.Unsupported r_x86_64_32 (at 12) ∷ []
unfolding text_link faults_reported
thread_local_forms = refl

thread_form_on_others :
    faults_reported (text_link (strong 3 g 1 ∷ undefined 4 (codes "end") ∷ weak_undefined 5 (codes "w") ∷ []) (relocation 0 3 r_x86_64_tpoff32 ∷ relocation 4 4 r_x86_64_gottpoff ∷ relocation 8 5 r_x86_64_tpoff32 ∷ []) [])
    ≡ fault.Unsupported r_x86_64_tpoff32 (at 0) ∷ fault.Unsupported r_x86_64_gottpoff (at 4) ∷ []
unfolding text_link faults_reported
thread_form_on_others = refl

-- a thread form on a LOCAL symbol of a section with the flag of thread-local ones
local_thread_section :
    faults_reported (link (object_in 0 a (text 1 ∷ piece_named 3 (codes ".tdata") class.Tdata ∷ []) [] [] (elf_with shf_alloc shf_tls (local 0 0 ∷ local stt_section 1 ∷ local stt_section 3 ∷ []) (relocation 4 2 r_x86_64_tpoff32 ∷ relocation 8 2 r_x86_64_pc32 ∷ [])) ∷ []))
    ≡ []
unfolding link faults_reported
local_thread_section = refl

-- slots in order of their first reference, each once; a slot of a LOCAL symbol has its input
slots :
    (text_link (strong 3 start 1 ∷ strong 4 g 1 ∷ []) (relocation 0 4 r_x86_64_gotpcrel ∷ relocation 4 1 r_x86_64_gotpcrelx ∷ relocation 8 4 r_x86_64_gotpcrelx ∷ relocation 12 4 r_x86_64_gottpoff ∷ []) []).needs
    ≡ record { got = record { owner = owner.Global 1; thread = false } ∷ record { owner = owner.Local 0 1; thread = false } ∷ record { owner = owner.Global 1; thread = true } ∷ []; plt = []; address = []; copies = [] }
unfolding text_link
slots = refl

-- what is not loaded needs nothing
no_slots : (link (referring (codes ".debug_info") class.N (strong 3 g 1 ∷ []) (relocation 0 3 r_x86_64_gotpcrel ∷ []) ∷ [])).needs ≡ record { got = []; plt = []; address = []; copies = [] }
unfolding link
no_slots = refl

-- the shared input of the examples
abbrev library : Input
library = shared (codes "l.so") (exported 1 (codes "puts") stt_func 4096 32 ∷ exported 2 (codes "exit") stt_func 4128 32 ∷ exported 3 (codes "stdout") stt_object 8200 8 ∷ exported 4 (codes "empty") stt_object 8208 0 ∷ exported 5 (codes "errno") stt_tls 0 4 ∷ [])

-- a call needs an entry, a variable a copy, a function's address an entry that also is the address
imports :
    (text_link (undefined 3 (codes "stdout") ∷ undefined 4 (codes "puts") ∷ undefined 5 (codes "exit") ∷ []) (relocation 0 5 r_x86_64_plt32 ∷ relocation 4 3 r_x86_64_pc32 ∷ relocation 8 4 r_x86_64_32 ∷ relocation 12 5 r_x86_64_plt32 ∷ []) (library ∷ [])).needs
    ≡ record { got = []; plt = 2 ∷ 1 ∷ []; address = 1 ∷ []; copies = 0 ∷ [] }
unfolding text_link
imports = refl

-- the copy is a piece with the variable's size, aligned as its value is
copied :
    (text_link (undefined 3 (codes "stdout") ∷ []) (relocation 4 3 r_x86_64_pc32 ∷ []) (library ∷ [])).kept
    ≡ record { piece = piece.Section 0 1; key = record { name = codes ".text"; class = class.X }; name = codes ".text"; size = 16; align = 16; terminator = false }
    ∷ record { piece = piece.Copy 0; key = record { name = codes ".bss"; class = class.Bss }; name = []; size = 8; align = 8; terminator = false }
    ∷ []
unfolding text_link
copied = refl

copy_at_zero : copy_align 0 ≡ 64
copy_at_zero = refl

-- the faults of imports: the copy of nothing once, a thread offset, and one that is not thread-local
import_faults :
    faults_reported (text_link (undefined 3 (codes "empty") ∷ undefined 4 (codes "errno") ∷ undefined 5 (codes "puts") ∷ []) (relocation 0 3 r_x86_64_pc32 ∷ relocation 4 3 r_x86_64_32 ∷ relocation 8 4 r_x86_64_tpoff32 ∷ relocation 12 5 r_x86_64_tpoff32 ∷ []) (library ∷ []))
    ≡ fault.CopyOfZero (codes "empty") (at 0) ∷ fault.ImportedTlsDirect (codes "errno") (at 8) ∷ fault.Unsupported r_x86_64_tpoff32 (at 12) ∷ fault.ImportedTlsDirect (codes "puts") (at 12) ∷ []
unfolding text_link faults_reported
import_faults = refl

-- references through LOCAL symbols are not recorded
recorded : reference_count (text_link (strong 3 g 1 ∷ []) (relocation 0 3 r_x86_64_pc32 ∷ relocation 4 1 r_x86_64_pc32 ∷ []) []) ≡ 1
unfolding text_link
recorded = refl

-- what a reference reports
one_reference :
    (text_link (strong 3 g 1 ∷ []) (relocation 5 3 r_x86_64_pc32 ∷ []) []).references
    ≡ record { input = 0; section = 1; offset = 5; code = r_x86_64_pc32; addend = pos 0; through = Through.ByName 0 false } ∷ []
unfolding text_link
one_reference = refl
