use Rattle.std.proofs.Common.{not, ap, ◌∙◌}
use Rattle.lk_so_read.specs.OfferedSymbols.{texts_in}
use Rattle.lk_so_read.proofs.NamesDefined.{name_added, name_known}
use Rattle.lk_so_read.proofs.offered_symbols.note_name.Goals as goal

pub returns : goal.returns
returns c = (
  c.in-Ok.ensures.added ∙ ap not (name_known c.args.defined.now.keys c.args.name),
  ap texts_in c.in-Ok.ensures.keys ∙ name_added c.args.defined.now.keys c.args.name,
)
