-- The range is put in its place among the others.
use Rattle.std.specs.Prelude.{◌≡◌, ◌+◌, ◌<◌, true}
use Rattle.std.specs.BTreeMap.{insert_entry}
use Rattle.std.specs.Ordering.{nat_cmp}
use Rattle.std.proofs.Common.{refl, rules, subst, sym, ◌∙◌}
use Rattle.lk_records_read.specs.TakenRanges.{AreTaken, Rising, is_free}
use Rattle.lk_records_read.proofs.RangesRising.{free_sized, taken}
use Rattle.lk_records_read.proofs.taken_ranges.TakenRanges.take.Goals as goal

pub returns : goal.returns
returns c =
    let some : 0 < c.args.size = search rules in
    let free : is_free c.args.self.now c.args.start (c.args.start + c.args.size) ≡ true = search rules in
    let rising : Rising 0 c.args.self.now = search rules in
    let put : c.insert.new.self.entries ≡ insert_entry nat_cmp c.args.self.now (c.args.start + c.args.size) c.args.start = search rules in (
      free_sized c.args.start c.args.size (c.args.start + c.args.size) c.args.self.now some refl ∙ free,
      subst (λ new. AreTaken c.args.self.now c.args.start c.args.size new) (sym put)
          (taken c.args.start c.args.size (c.args.start + c.args.size) c.args.self.now rising some refl free),
    )
