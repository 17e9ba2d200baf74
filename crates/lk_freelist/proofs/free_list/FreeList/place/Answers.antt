use Rattle.std.proofs.Common.{◌&&◌, not, sym, ◌∙◌, ap, subst}
use Rattle.lk_model.specs.Holes.{without}
use Rattle.lk_freelist.specs.FreeBytes.{is_free, is_in, AreHoles}
use Rattle.lk_freelist.specs.FreeLists.{Free}
use Rattle.lk_freelist.proofs.FitsFound.{fit_within}
use Rattle.lk_freelist.proofs.Rest.{found_below, found_replaced, without_holes, without_free}
use Rattle.lk_freelist.proofs.free_list.FreeList.place.Goals as goal

pub take_out-requires-clause-below : goal.take_out-requires-clause-below
take_out-requires-clause-below c =
    let first = rw c.as_slice.ensures.value at c.in_ok-found.ensures in
    found_below c.self.inside.holes.items c.self.inside.least c.args.size c.args.align c.in_ok-found.found c.self.invariant first

pub take_out-requires-clause-above : goal.take_out-requires-clause-above
take_out-requires-clause-above c =
    (fit_within c.in_ok-found.found.hole c.self.inside.least c.args.size c.args.align c.in_ok-found.found.at c.requires.aligned c.in_ok-found.ensures.fits).above

pub take_out-requires-clause-inside : goal.take_out-requires-clause-inside
take_out-requires-clause-inside c =
    (fit_within c.in_ok-found.found.hole c.self.inside.least c.args.size c.args.align c.in_ok-found.found.at c.requires.aligned c.in_ok-found.ensures.fits).inside

pub invariant_of-self : goal.invariant_of-self
invariant_of-self c =
    let first = rw c.as_slice.ensures.value at c.in_ok-found.ensures in
    let left = c.take_out.ensures.left ∙ found_replaced c.self.inside.holes.items c.self.inside.least c.args.size c.args.align c.in_ok-found.found c.requires.some c.requires.aligned c.self.invariant first in
    subst AreHoles (sym left) (without_holes c.self.inside.holes.items c.in_ok-found.found.at c.args.size c.requires.some c.self.invariant)

pub returns-clause-left : goal.returns-clause-left
returns-clause-left c =
    let first = rw c.as_slice.ensures.value at c.in_ok-found.ensures in
    c.take_out.ensures.left
    ∙ found_replaced c.self.inside.holes.items c.self.inside.least c.args.size c.args.align c.in_ok-found.found c.requires.some c.requires.aligned c.self.invariant first
    ∙ ap (λ (f : Free). without f.holes (record { start = c.in_ok-found.found.at; length = c.args.size })) c.self.view_is

pub returns-clause-free : goal.returns-clause-free
returns-clause-free c = λ byte.
    let first = rw c.as_slice.ensures.value at c.in_ok-found.ensures in
    ap (λ left. is_free left byte) (c.take_out.ensures.left ∙ found_replaced c.self.inside.holes.items c.self.inside.least c.args.size c.args.align c.in_ok-found.found c.requires.some c.requires.aligned c.self.invariant first)
    ∙ without_free c.self.inside.holes.items c.in_ok-found.found.at c.args.size byte c.requires.some
    ∙ ap (λ (f : Free). is_free f.holes byte && not (is_in c.in_ok-found.found.at c.args.size byte)) c.self.view_is
