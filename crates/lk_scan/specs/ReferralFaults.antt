-- This project's own: the faults of a reference by what it goes to.
use Rattle.std.specs.Prelude.{ℕ, ◌==◌, Bool, ◌&&◌, ◌||◌, not, cond, List, [], ◌∷◌, ◌++◌, Option, Some, None, is_some, slice_get, filter_map}
use Rattle.std.specs.Prelude.{◌≡◌}
use Rattle.lk_elf.specs.Numbers.{stt_object}
use Rattle.lk_report.specs.declared.faults.Fault.{Fault}
use Rattle.lk_report.specs.declared.faults.Fault.TheVariants as fault
use Rattle.lk_report.specs.declared.faults.Site.{Site}
use Rattle.lk_model.specs.Forms.{is_address_form, is_block_offset, is_got_form, is_size_form, is_thread_form, is_thread_offset, r_x86_64_gottpoff, r_x86_64_none}
use Rattle.lk_model.specs.RelocationTypes.{relocation_type_of}
use Rattle.lk_symtab.specs.NameRows.{NameRow}
use Rattle.lk_scan.specs.declared.targets.Import.{Import}
use Rattle.lk_scan.specs.declared.targets.Referral.{Referral}
use Rattle.lk_scan.specs.declared.targets.Setting.{Setting}
use Rattle.lk_scan.specs.declared.targets.Target.{Target}
use Rattle.lk_scan.specs.declared.targets.Way.{Way}
use Rattle.lk_scan.specs.declared.targets.Way.TheVariants as way
use Rattle.lk_scan.specs.Targets.{import_in}

-- the place of a reference in the file with this path
abbrev pub site_in : List ℕ → Referral → Site
site_in path r = record { path = path; section = r.section; offset = r.offset }

-- the faults that name a name, and an import
abbrev pub undefined_name_at : List NameRow → Way → Site → List Fault
undefined_name_at rows (way.Name number weak) site = elim (slice_get rows number) [ None ↦ [] | Some row ↦ fault.Undefined row.contributions.name site ∷ [] ]
undefined_name_at rows (way.Local symbol) site = []

abbrev pub empty_copy_of : List NameRow → ℕ → Site → List Fault
empty_copy_of rows number site = elim (import_in rows number) [ None ↦ [] | Some g ↦ fault.CopyOfZero g.name site ∷ [] ]

abbrev pub direct_tls_of : List NameRow → ℕ → Site → List Fault
direct_tls_of rows number site = elim (import_in rows number) [ None ↦ [] | Some g ↦ fault.ImportedTlsDirect g.name site ∷ [] ]

-- the fault of a reference to a name that nothing defines
abbrev pub undefined_on : List NameRow → List ℕ → Referral → List Fault
undefined_on rows path r = cond r.target.is_undefined (undefined_name_at rows r.target.way (site_in path r)) []

-- the fault of a reference to a LOCAL symbol of a section that is not linked
abbrev pub dropped_on : List ℕ → Setting → Referral → List Fault
dropped_on path setting r = cond (setting.wants_sections && r.target.is_dropped) (fault.DroppedLocal (site_in path r) ∷ []) []

-- whether the linker does not support a relocation of this type to this target
abbrev pub is_refused : Bool → Target → ℕ → Bool
is_refused loaded t code =
    not (is_some (relocation_type_of code))
    || ((not loaded && (is_got_form code || (code == r_x86_64_gottpoff)))
    || ((loaded && is_block_offset code)
    || ((is_thread_form code && t.is_no_tls)
    || (t.is_tls && not ((code == r_x86_64_none) || (is_size_form code || is_thread_form code))))))

abbrev pub unsupported_on : List ℕ → Setting → Referral → List Fault
unsupported_on path setting r = cond (is_refused setting.is_loaded r.target r.code) (fault.Unsupported r.code (site_in path r) ∷ []) []

-- whether a reference of this type to an import needs the copy of an object of size 0
abbrev pub is_empty_copy : ℕ → Import → Bool
is_empty_copy code import = is_address_form code && ((import.code == stt_object) && (import.size == 0))

-- the faults of a reference to an import
abbrev pub of_import : List NameRow → List ℕ → Referral → Import → List Fault
of_import rows path r import =
    cond (is_empty_copy r.code import) (empty_copy_of rows import.name (site_in path r)) []
    ++ cond (is_thread_offset r.code) (direct_tls_of rows import.name (site_in path r)) []

abbrev pub import_faults_on : List NameRow → List ℕ → Setting → Referral → List Fault
import_faults_on rows path setting r = cond setting.is_loaded (elim r.target.import [ None ↦ [] | Some import ↦ of_import rows path r import ]) []

-- the faults of a reference, at most one of each kind
abbrev pub faults_on : List NameRow → List ℕ → Setting → Referral → List Fault
faults_on rows path setting r = undefined_on rows path r ++ dropped_on path setting r ++ unsupported_on path setting r ++ import_faults_on rows path setting r

-- the name that a fault reports as undefined, and the name of an import of size 0 that it reports
abbrev pub undefined_name : Fault → Option (List ℕ)
undefined_name (fault.Undefined name site) = Some name
undefined_name _ = None

abbrev pub empty_copy_name : Fault → Option (List ℕ)
empty_copy_name (fault.CopyOfZero name site) = Some name
empty_copy_name _ = None

-- `undefined` are the names that these faults report as undefined, `copies` those of imports of size 0
pub record IsIndexed (faults : List Fault) (undefined copies : List (List ℕ)) : Type 0 where
  pub undefined_names : undefined ≡ filter_map undefined_name faults
  pub copied_names : copies ≡ filter_map empty_copy_name faults
