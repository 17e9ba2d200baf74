use Rattle.std.proofs.Common.{None, Some, refl}
use Rattle.lk_marks.proofs.Items.{written}
use Rattle.lk_relocate.proofs.numbers_of_symbols.note_numbers.Goals as goal

pub returns : goal.returns
returns c =
    written None c.args.numbers_by_symbol.now.items c.make_room.new.items.items _ c.args.symbol (Some c.args.symbol_numbers)
    c.in_ok-make_room.ensures.room c.in_ok-make_room.ensures.same refl
