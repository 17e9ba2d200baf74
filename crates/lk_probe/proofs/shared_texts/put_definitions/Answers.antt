use Rattle.std.specs.Prelude.{codes}
use Rattle.lk_probe.specs.SharedFacts.{count_text}
use Rattle.lk_probe.proofs.TextsPut.{four_put}
use Rattle.lk_probe.proofs.shared_texts.put_definitions.Goals as goal

pub returns : goal.returns
returns c =
    four_put
    c.put_count-4.result
    c.args.text.now.items
    c.put_count.new.text.items
    c.put_count-2.new.text.items
    c.put_count-3.new.text.items
    c.put_count-4.new.text.items
    (count_text c.args.counts.now.functions (codes " functions, "))
    (count_text c.args.counts.now.objects (codes " objects, "))
    (count_text c.args.counts.now.thread_local (codes " thread-local, "))
    (count_text c.args.counts.now.others (codes " others, "))
    c.in_ok-put_count.ensures
    c.in_ok-put_count-2.ensures
    c.in_ok-put_count-3.ensures
    c.put_count-4.ensures
