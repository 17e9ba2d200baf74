-- The first range that ends past the start decides.
use Rattle.std.specs.Prelude.{◌≡◌}
use Rattle.std.proofs.Common.{ap, rules, sym, ◌∙◌}
use Rattle.lk_records_read.specs.TakenRanges.{is_free}
use Rattle.lk_records_read.proofs.RangesRising.{found_after}
use Rattle.lk_records_read.proofs.taken_ranges.TakenRanges.is_free.Goals as goal

pub returns-in-Some : goal.returns-in-Some
returns-in-Some c =
    let same : c.self.inside.starts.entries ≡ c.args.self.now = search rules in
    found_after 0 c.args.start c.args.end _ _ _ c.self.invariant (sym (c.range.ensures.between tt) ∙ c.in-Some.ensures.steps)
    ∙ ap (λ rs. is_free rs c.args.start c.args.end) same
