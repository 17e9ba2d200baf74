use Rattle.lk_symbol_values.specs.NameValues.{values_from}
use Rattle.lk_symbol_values.proofs.NamesValued.{given_next, value_next}
use Rattle.lk_symbol_values.proofs.name_values.name_values.Goals as goal

pub loop-number-preserved : goal.loop-number-preserved
loop-number-preserved c = record {
  values =
      value_next c.args.inputs.now c.args.addresses.now c.args.made.now c.loop-number.values c.put_value.new.values (values_from c.args.inputs.now c.args.addresses.now c.args.made.now 0 c.args.names.now) c.args.names.now c.loop-number.number
      c.in_ok-put_value.ensures.added c.loop-number.invariant.values;
  fit = given_next c.args.inputs.now c.args.addresses.now c.args.names.now c.loop-number.number c.loop-number.invariant.fit c.in_ok-put_value.ensures.fits;
}
