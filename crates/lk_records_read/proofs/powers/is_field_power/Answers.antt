use Rattle.lk_records_read.proofs.powers.is_field_power.Goals as goal

pub returns : goal.returns
returns c = c.is_among.ensures
