use Rattle.std.proofs.Common.{◌||◌, sym, ◌∙◌, ap, subst, arith}
use Rattle.lk_freelist.specs.FreeBytes.{is_free, is_in, AreHoles}
use Rattle.lk_freelist.specs.FreeLists.{Free}
use Rattle.lk_freelist.proofs.FreeAgain.{among_holes, among_free}
use Rattle.lk_freelist.proofs.free_list.FreeList.take_back.Goals as goal

pub invariant_of-self : goal.invariant_of-self
invariant_of-self c =
    let taken = rw (← c.self.view_is) at c.requires.taken in
    subst AreHoles (sym c.put_back.ensures.put)
    (among_holes 0 c.args.start c.args.size c.self.inside.holes.items (omega arith) c.if-size-gt0.true c.requires.within c.self.invariant taken)

pub returns-then-size-gt0-clause-free : goal.returns-then-size-gt0-clause-free
returns-then-size-gt0-clause-free c = λ byte.
    ap (λ holes. is_free holes byte) c.put_back.ensures.put
    ∙ among_free c.args.start c.args.size byte c.self.inside.holes.items
    ∙ ap (λ (f : Free). is_in c.args.start c.args.size byte || is_free f.holes byte) c.self.view_is
