-- The relocations of a piece are looked at by number, one after another.
use Rattle.std.specs.Prelude.{◌≡◌, ℕ, ◌+◌, ◌<◌, ◌≤◌, List, [], ◌∷◌, drop, get_or, length}
use Rattle.std.proofs.Common.{ap, sym, ◌∙◌}
use Rattle.std.proofs.lemmas.List.{at_drop_all, at_drop_more}
use Rattle.lk_elf.specs.declared.relocation.Rela.{Rela}
use Rattle.lk_model.specs.Views.{Elf}
use Rattle.lk_model.specs.declared.summaries.InputSummary.{InputSummary}
use Rattle.lk_model.specs.declared.summaries.PieceInfo.{PieceInfo}
use Rattle.lk_resolve.specs.Settling.{ResolutionValue}
use Rattle.lk_scan.specs.declared.noting.Scan.{Scan}
use Rattle.lk_scan.specs.Noted.{with_referral, with_relas}
use Rattle.lk_scan.specs.Targets.{referral_of, setting_of}

-- the next one
pub next_noted : (resolution : ResolutionValue) (elf : Elf) (summary : InputSummary) (input : ℕ) (p : PieceInfo) (scan : Scan) (relas : List Rela) (k : ℕ) (rela : Rela) → k < length relas → rela ≡ get_or relas k rela → with_relas resolution elf summary input p scan (drop k relas) ≡ with_relas resolution elf summary input p (with_referral resolution.rows (get_or resolution.paths input []) (setting_of p.key) scan (referral_of resolution elf summary input p.section rela)) (drop (k + 1) relas)
next_noted resolution elf summary input p scan relas k rela l e =
    at_drop_more (with_relas resolution elf summary input p scan) relas k rela l
    ∙ ap (λ (x : Rela). with_relas resolution elf summary input p scan (x ∷ drop (k + 1) relas)) (sym e)

-- none is left
pub all_noted : (resolution : ResolutionValue) (elf : Elf) (summary : InputSummary) (input : ℕ) (p : PieceInfo) (scan : Scan) (relas : List Rela) (k : ℕ) → length relas ≤ k → with_relas resolution elf summary input p scan (drop k relas) ≡ scan
all_noted resolution elf summary input p scan relas k l = at_drop_all (with_relas resolution elf summary input p scan) relas k l
