use Rattle.std.proofs.Common.{◌≡◌, fold, drop}
use Rattle.lk_layout.specs.Grouping.{with_piece}
use Rattle.lk_layout.specs.KeptIn.{names_in}
use Rattle.lk_layout.proofs.name_pieces.keep_all.Given as goal

abbrev pub invariant-loop-name : goal.invariant-loop-name
invariant-loop-name l =
    fold with_piece l.kept (names_in l.copied.keys l.name (drop l.name l.names))
    ≡ fold with_piece l.initial.kept (names_in l.copied.keys 0 l.names)
