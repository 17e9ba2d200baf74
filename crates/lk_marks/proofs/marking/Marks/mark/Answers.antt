use Rattle.std.proofs.Common.{ap, ◌∙◌, ◌||◌, ℕ, Bool, List, nat_eq, true, false, refl, slice_get, unwrap_or}
use Rattle.lk_marks.proofs.Items.{written}
use Rattle.lk_marks.proofs.MarksMade.{or_true}
use Rattle.lk_marks.proofs.marking.Marks.mark.Goals as goal

pub returns-clause-marked : goal.returns-clause-marked
returns-clause-marked c = λ (k : ℕ).
    written false c.self.inside.by_number.items c.make_room.new.items.items _ c.args.number true
    c.in_ok-make_room.ensures.room c.in_ok-make_room.ensures.same refl k
    ∙ or_true (nat_eq k c.args.number) (unwrap_or (slice_get c.self.inside.by_number.items k) false)
    ∙ ap (λ (marks : List Bool). unwrap_or (slice_get marks k) false || nat_eq k c.args.number) c.self.view_is
