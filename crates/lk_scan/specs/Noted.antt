-- This project's own: what is kept while the references of an object are looked at, one after another.
use Rattle.std.specs.Prelude.{ℕ, cond, List, [], ◌++◌, fold, get_or, map}
use Rattle.lk_elf.specs.declared.relocation.Rela.{Rela}
use Rattle.lk_model.specs.declared.summaries.InputSummary.{InputSummary}
use Rattle.lk_model.specs.declared.summaries.PieceInfo.{PieceInfo}
use Rattle.lk_model.specs.Objects.{relocations_in}
use Rattle.lk_model.specs.ScanFaults.{with_fault}
use Rattle.lk_model.specs.Views.{Elf}
use Rattle.lk_resolve.specs.Settling.{ResolutionValue, is_place_kept}
use Rattle.lk_symtab.specs.NameRows.{NameRow}
use Rattle.lk_scan.specs.declared.noting.Scan.{Scan}
use Rattle.lk_scan.specs.declared.targets.Referral.{Referral}
use Rattle.lk_scan.specs.declared.targets.Setting.{Setting}
use Rattle.lk_scan.specs.ReferralFaults.{faults_on}
use Rattle.lk_scan.specs.ReferralNeeds.{needs_with, recorded_on}
use Rattle.lk_scan.specs.Targets.{referral_of, setting_of}

-- the scan of no reference
abbrev pub nothing_noted : Scan
nothing_noted = record { needs = record { got = []; plt = []; address = []; copies = [] }; reported = []; references = [] }

-- a scan with one more reference, in the file with this path
abbrev pub with_referral : List NameRow → List ℕ → Setting → Scan → Referral → Scan
with_referral rows path setting scan r = record {
  needs = cond setting.is_loaded (needs_with scan.needs r) scan.needs;
  reported = fold with_fault scan.reported (faults_on rows path setting r);
  references = scan.references ++ recorded_on r;
}

-- a scan with the relocations of a section
abbrev pub with_relas : ResolutionValue → Elf → InputSummary → ℕ → PieceInfo → Scan → List Rela → Scan
with_relas resolution elf summary input p scan relas = fold (with_referral resolution.rows (get_or resolution.paths input []) (setting_of p.key)) scan (map (referral_of resolution elf summary input p.section) relas)

-- a scan with the references of a piece, where it is kept, and of several pieces
abbrev pub with_piece : ResolutionValue → Elf → InputSummary → ℕ → Scan → PieceInfo → Scan
with_piece resolution elf summary input scan p = cond (is_place_kept resolution.kept input p.section) (with_relas resolution elf summary input p scan (relocations_in elf p.section)) scan

abbrev pub with_pieces : ResolutionValue → Elf → InputSummary → ℕ → Scan → List PieceInfo → Scan
with_pieces resolution elf summary input scan pieces = fold (with_piece resolution elf summary input) scan pieces
