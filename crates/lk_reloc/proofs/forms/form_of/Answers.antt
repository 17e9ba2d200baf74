use Rattle.lk_reloc.proofs.FormsFound.{no_form}
use Rattle.lk_reloc.proofs.forms.form_of.Goals as goal

pub returns-in-None : goal.returns-in-None
returns-in-None c = no_form c.args.r_type c.in-None.ensures
