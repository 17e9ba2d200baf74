use Rattle.std.proofs.Common.{◌≡◌, sym, ap, ◌∙◌, cond, Some, None}
use Rattle.lk_model.specs.Elf.{elf_of}
use Rattle.lk_model.specs.Objects.{summary_in}
use Rattle.lk_scan.specs.declared.noting.Scan.{Scan}
use Rattle.lk_scan.specs.Noted.{with_pieces}
use Rattle.lk_scan.proofs.PiecesNoted.{object_joins, some_scan}
use Rattle.lk_scan.proofs.link_scans.LinkScan.add.Goals as goal

pub returns-clause-added : goal.returns-clause-added
returns-clause-added c = λ found before is_found named stored.
    let was : c.self.inside.scan ≡ before =
    some_scan c.self.inside.scan before (ap (λ b. cond b None (Some c.self.inside.scan)) (sym c.if-self.false) ∙ c.self.view_is ∙ stored) in
    let elf = elf_of c.args.object.now in
    let now : c.note_object.new.scan ≡ with_pieces c.args.resolution.now elf (summary_in elf) c.args.input before (summary_in elf).pieces =
    c.in_ok-note_object.ensures ∙ ap (λ (s : Scan). with_pieces c.args.resolution.now elf (summary_in elf) c.args.input s (summary_in elf).pieces) was in
    ap Some (object_joins c.args.resolution.now found elf c.args.input before c.note_object.new.scan is_found named now)
