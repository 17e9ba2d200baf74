use Rattle.std.proofs.Common.{sym, ◌∙◌}
use Rattle.lk_part_tests.proofs.Apart.{none_of_apart}
use Rattle.lk_part_tests.proofs.rooms.give_back.Goals as goal

pub take_back-requires-clause-taken : goal.take_back-requires-clause-taken
take_back-requires-clause-taken g c =
    let none = none_of_apart c.holes.result.now c.args.start c.args.size (sym c.are_apart-apart.ensures ∙ c.if-apart.true) in
    rw c.holes.ensures.same at none
