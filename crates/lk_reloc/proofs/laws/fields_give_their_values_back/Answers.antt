use Rattle.lk_reloc.proofs.FieldsRead.{sign_gives_back, whole_gives_back, zeros_give_back}
use Rattle.lk_reloc.proofs.laws.fields_give_their_values_back.Goals as goal

pub returns-clause-zeros : goal.returns-clause-zeros
returns-clause-zeros c = zeros_give_back

pub returns-clause-sign : goal.returns-clause-sign
returns-clause-sign c = sign_gives_back

pub returns-clause-whole : goal.returns-clause-whole
returns-clause-whole c = whole_gives_back
