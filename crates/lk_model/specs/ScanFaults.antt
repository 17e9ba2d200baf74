-- This project's own: the faults that the references of a link have, in their order.
use Rattle.std.specs.Prelude.{ℕ, ◌==◌, Bool, true, false, ◌&&◌, ◌||◌, not, cond, List, [], ◌∷◌, ◌++◌, flat_map, fold, length, codes, Some, None, is_some, slice_get}
use Rattle.std.specs.List.{list_any}
use Rattle.std.specs.Str.{bytes_eq}
use Rattle.lk_elf.specs.Numbers.{shf_tls, stt_tls}
use Rattle.lk_report.specs.declared.faults.Fault.{Fault}
use Rattle.lk_report.specs.declared.faults.Fault.TheVariants as fault
use Rattle.lk_report.specs.declared.faults.Site.{Site}
use Rattle.lk_model.specs.declared.layouts.Class.TheVariants as class
use Rattle.lk_model.specs.declared.layouts.SectionKey.{SectionKey}
use Rattle.lk_model.specs.declared.summaries.Contributions.{Contributions}
use Rattle.lk_model.specs.declared.summaries.Home.TheVariants as home
use Rattle.lk_model.specs.declared.summaries.Local.{Local}
use Rattle.lk_model.specs.declared.summaries.Winner.{Winner}
use Rattle.lk_model.specs.Amounts.{has_flag}
use Rattle.lk_model.specs.Finding.{Found, contributions_in, is_kept_in, path_in, winner_in}
use Rattle.lk_model.specs.Forms.{is_got_form, is_block_offset, is_thread_offset, is_thread_form, is_size_form, is_address_form, r_x86_64_none, r_x86_64_gottpoff}
use Rattle.lk_model.specs.NeedsOf.{import_of, is_variable}
use Rattle.lk_model.specs.Objects.{local_in}
use Rattle.lk_model.specs.RelocationTypes.{relocation_type_of}
use Rattle.lk_model.specs.References.{Sited, recorded_of, sited_of}
use Rattle.lk_model.specs.Resolving.{found_in}
use Rattle.lk_model.specs.Views.{Elf, Input, Ref, Resolved, Through}
use Rattle.lk_model.specs.Winners.{is_nothing, is_tls_winner}
use Rattle.lk_model.specs.SectionKeys.{is_alloc}

-- the place of a reference
abbrev pub site_of : Found → Ref → Site
site_of found x = record { path = path_in found x.input; section = x.section; offset = x.offset }

-- whether a test holds of a name's symbols and winner
abbrev pub of_name : Found → ℕ → (Contributions → Winner → Bool) → Bool
of_name found name passes = elim (contributions_in found name) [ None ↦ false | Some cs ↦ elim (winner_in found name) [ None ↦ false | Some w ↦ passes cs w ] ]

-- whether a test holds of the section that a LOCAL symbol is defined in
abbrev pub of_local_section : Local → (ℕ → Bool) → Bool
of_local_section l passes = elim l.home [ home.Section s ↦ passes s | home.Undefined ↦ false | home.Absolute ↦ false | home.Common ↦ false | home.Shared ↦ false ]

-- whether a section has the flag of thread-local ones (gABI "Sections", SHF_TLS)
abbrev pub is_tls_section : Elf → ℕ → Bool
is_tls_section elf section = elim (slice_get elf.sections section) [ None ↦ false | Some s ↦ has_flag s.sh_flags shf_tls ]

-- whether a LOCAL symbol has the type of thread-local ones
abbrev pub is_tls_local : Local → Bool
is_tls_local l = l.code == stt_tls

-- whether what a reference of this file goes to is thread-local. A LOCAL symbol is its own winner.
abbrev pub is_to_tls : Found → Elf → Ref → Bool
is_to_tls found elf x = elim x.through [
  | Through.ByName name weak ↦ of_name found name is_tls_winner
  | Through.ByLocal symbol ↦ is_tls_local (local_in elf symbol)
]

-- whether what a reference of this file goes to has no thread-local meaning: a winner that is not
-- thread-local, or a LOCAL symbol that neither is nor is in a thread-local section. A name without
-- winner has any meaning.
abbrev pub is_to_no_tls : Found → Elf → Ref → Bool
is_to_no_tls found elf x = elim x.through [
  | Through.ByName name weak ↦ of_name found name (λ cs w. not (is_nothing w) && not (is_tls_winner cs w))
  | Through.ByLocal symbol ↦ not (is_tls_local (local_in elf symbol) || of_local_section (local_in elf symbol) (is_tls_section elf))
]

-- whether a type on what it goes to, in a piece that is loaded or not, is one that the linker does not
-- take: a type without a rule; a slot for a piece that is not loaded; an offset in the thread-local
-- block for one that is; a thread form on what is not thread-local; any form on what is, but none, a
-- size and a thread form
abbrev pub is_unsupported : Found → Elf → Bool → Ref → Bool
is_unsupported found elf loaded x =
    not (is_some (relocation_type_of x.code))
    || ((not loaded && (is_got_form x.code || (x.code == r_x86_64_gottpoff)))
    || ((loaded && is_block_offset x.code)
    || ((is_thread_form x.code && is_to_no_tls found elf x)
    || (is_to_tls found elf x && not ((x.code == r_x86_64_none) || (is_size_form x.code || is_thread_form x.code))))))

-- whether an output section is the read-only `.eh_frame`
abbrev pub is_eh_frame : SectionKey → Bool
is_eh_frame key = bytes_eq key.name (codes ".eh_frame") && elim key.class [ class.R ↦ true | class.X ↦ false | class.W ↦ false | class.WX ↦ false | class.Tdata ↦ false | class.Tbss ↦ false | class.Bss ↦ false | class.N ↦ false ]

-- whether references in an output section must not go to LOCAL symbols of sections that are not
-- linked: it is loaded and not `.eh_frame`
abbrev pub needs_local_sections : SectionKey → Bool
needs_local_sections key = is_alloc key.class && not (is_eh_frame key)

-- whether a reference of this file goes to a LOCAL symbol of a section that is not linked
abbrev pub is_to_dropped : Found → Elf → Ref → Bool
is_to_dropped found elf x = elim x.through [
  | Through.ByName name weak ↦ false
  | Through.ByLocal symbol ↦ of_local_section (local_in elf symbol) (λ s. not (is_kept_in found x.input s))
]

-- the fault of a reference through a GLOBAL symbol to a name without winner; through a WEAK one it is none
abbrev pub undefined_at : Found → Ref → List Fault
undefined_at found x = elim x.through [
  | Through.ByLocal symbol ↦ []
  | Through.ByName name weak ↦ elim (contributions_in found name) [
    | None ↦ []
    | Some cs ↦ cond (not weak && of_name found name (λ others w. is_nothing w)) (fault.Undefined cs.name (site_of found x) ∷ []) []
  ]
]

-- the fault of a reference in a loaded piece that needs the copy of an object of size 0
abbrev pub empty_copy_at : Found → Ref → List Fault
empty_copy_at found x = elim (import_of found x) [
  | None ↦ []
  | Some import ↦ cond (is_address_form x.code && (is_variable import.1 && (import.1.size == 0))) (fault.CopyOfZero import.1.name (site_of found x) ∷ []) []
]

-- the fault of a thread offset of an import in a loaded piece
abbrev pub direct_tls_at : Found → Ref → List Fault
direct_tls_at found x = elim (import_of found x) [
  | None ↦ []
  | Some import ↦ cond (is_thread_offset x.code) (fault.ImportedTlsDirect import.1.name (site_of found x) ∷ []) []
]

-- the faults of a reference of this file, each kind once
abbrev pub faults_at : Found → Elf → Sited → List Fault
faults_at found elf (key, x) =
    undefined_at found x
    ++ cond (needs_local_sections key && is_to_dropped found elf x) (fault.DroppedLocal (site_of found x) ∷ []) []
    ++ cond (is_unsupported found elf (is_alloc key.class) x) (fault.Unsupported x.code (site_of found x) ∷ []) []
    ++ cond (is_alloc key.class) (empty_copy_at found x ++ direct_tls_at found x) []

-- the faults of references of this file, each site by itself
abbrev pub faults_in : Found → Elf → List Sited → List Fault
faults_in found elf sited = flat_map (faults_at found elf) sited

-- whether a fault reports of this name that it is undefined, or that its copy is empty
abbrev pub is_undefined_of : List ℕ → Fault → Bool
is_undefined_of name (fault.Undefined other site) = bytes_eq other name
is_undefined_of name _ = false

abbrev pub is_empty_copy_of : List ℕ → Fault → Bool
is_empty_copy_of name (fault.CopyOfZero other site) = bytes_eq other name
is_empty_copy_of name _ = false

-- whether a fault is one that is reported once per name, and was reported of its name
abbrev pub is_reported : List Fault → Fault → Bool
is_reported reported (fault.Undefined name site) = list_any (is_undefined_of name) reported
is_reported reported (fault.CopyOfZero name site) = list_any (is_empty_copy_of name) reported
is_reported reported _ = false

-- the faults reported with one more, where it is not reported yet
abbrev pub with_fault : List Fault → Fault → List Fault
with_fault reported f = cond (is_reported reported f) reported (reported ++ f ∷ [])

-- faults in their order, with those reported once that are reported once per name
abbrev pub reported_once : List Fault → List Fault
reported_once faults = fold with_fault [] faults

-- the faults of the references that are in the inputs
abbrev pub faults_among : Found → List Input → List Sited → List Fault
faults_among found inputs sited = flat_map (λ (x : Sited). elim (slice_get inputs x.1.input) [ None ↦ [] | Some i ↦ faults_at found i.elf x ]) sited

-- the faults of the references of a link
unfoldable pub scan_faults : Resolved → List Fault
scan_faults r = reported_once (faults_among (found_in r) r.inputs (sited_of r.names r.inputs r.kept))

-- how many references an image records
abbrev pub reference_count : Resolved → ℕ
reference_count r = length (recorded_of r.references)
