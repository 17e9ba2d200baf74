use Rattle.std.proofs.Common.{◌≡◌, ◌++◌, drop}
use Rattle.std.specs.List.{flat_map}
use Rattle.lk_model.specs.InputsSection.{piece_fields}
use Rattle.lk_model.specs.RecordFields.{spelled}
use Rattle.lk_model.specs.Texts.{offset_in}
use Rattle.lk_incr.proofs.putting.put_pieces.Given as goal

-- the bytes put so far, followed by those of the items that are left, are the bytes before and those of all items
abbrev pub invariant-loop-piece : goal.invariant-loop-piece
invariant-loop-piece l =
    l.out.items ++ spelled (offset_in l.table) (flat_map (piece_fields l.placed l.input) (drop l.piece-index l.pieces))
    ≡ l.initial.out.items ++ spelled (offset_in l.table) (flat_map (piece_fields l.placed l.input) l.pieces)
