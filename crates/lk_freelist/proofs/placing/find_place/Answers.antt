use Rattle.std.proofs.Common.{sym, ◌∙◌}
use Rattle.lk_freelist.proofs.Searching.{is_placed_at, hole_below, found_here, not_here, not_anywhere}
use Rattle.lk_freelist.proofs.placing.find_place.Goals as goal

pub place_in-requires-clause-below : goal.place_in-requires-clause-below
place_in-requires-clause-below c = hole_below c.args.holes.now 0 c.loop-index.index _ c.requires.holes c.loop-index-test.true

pub loop-index-preserved : goal.loop-index-preserved
loop-index-preserved c =
    not_here c.args.holes.now c.args.least c.args.size c.args.align c.loop-index.index _ c.loop-index-test.true (sym c.place_in.ensures ∙ c.in_default.is)
    ∙ c.loop-index.invariant

pub returns-in-Some : goal.returns-in-Some
returns-in-Some c =
    let fits = sym c.place_in.ensures ∙ c.in-Some.is in
    record {
      is_at = is_placed_at c.args.holes.now c.loop-index.index _ c.loop-index-test.true;
      fits = fits;
      first = sym c.loop-index.invariant ∙ found_here c.args.holes.now c.args.least c.args.size c.args.align c.loop-index.index _ c.in-Some.at c.loop-index-test.true fits;
    }

pub returns : goal.returns
returns c =
    sym c.loop-index.invariant
    ∙ not_anywhere c.args.holes.now c.args.least c.args.size c.args.align c.loop-index.index c.loop-index-test.false
