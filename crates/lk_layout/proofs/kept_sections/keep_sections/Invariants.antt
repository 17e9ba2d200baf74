use Rattle.std.proofs.Common.{◌≡◌, fold, drop}
use Rattle.lk_layout.specs.Grouping.{with_piece}
use Rattle.lk_layout.specs.KeptIn.{sections_in}
use Rattle.lk_layout.proofs.kept_sections.keep_sections.Given as goal

abbrev pub invariant-loop-input : goal.invariant-loop-input
invariant-loop-input l =
    fold with_piece l.kept (sections_in l.resolution.kept l.inputs (drop l.input-index l.resolution.added))
    ≡ fold with_piece l.initial.kept (sections_in l.resolution.kept l.inputs l.resolution.added)
