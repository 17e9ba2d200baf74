use Rattle.std.specs.Prelude.{◌≡◌, false, true, slice_get}
use Rattle.std.proofs.Common.{rules}
use Rattle.lk_model.specs.Checks.{is_some_with}
use Rattle.lk_model.specs.RecordRefusals.{lies_in_room}
use Rattle.lk_records_read.specs.PlacesNoted.{PlaceTaken}
use Rattle.lk_records_read.proofs.PlacesBeside.{place_noted, place_outside}
use Rattle.lk_records_read.proofs.places.note_place.Goals as goal

pub returns-then-not-is_in_room : goal.returns-then-not-is_in_room
returns-then-not-is_in_room c =
    let outside : is_some_with (lies_in_room c.args.piece.now) (slice_get c.args.rows.now c.args.piece.now.section) ≡ false = search rules in
    λ before noted. place_outside c.args.rows.now before c.args.piece.now outside

pub returns : goal.returns
returns c =
    let inside : is_some_with (lies_in_room c.args.piece.now) (slice_get c.args.rows.now c.args.piece.now.section) ≡ true = search rules in
    let taken : PlaceTaken c.args.places.now c.args.piece.now.section c.args.piece.now.addr c.args.piece.now.size c.take_place.result c.take_place.new.places = search rules in
    λ before noted.
    place_noted c.args.rows.now before c.args.piece.now c.args.places.now c.take_place.new.places c.take_place.result noted inside taken
