use Rattle.lk_symbol_values.proofs.LowNumbers as low
use Rattle.lk_symbol_values.proofs.laws.low_numbers_serve.Goals as goal

pub returns-clause-relocations : goal.returns-clause-relocations
returns-clause-relocations c = low.value_low

pub returns-clause-references : goal.returns-clause-references
returns-clause-references c = low.reference_low
