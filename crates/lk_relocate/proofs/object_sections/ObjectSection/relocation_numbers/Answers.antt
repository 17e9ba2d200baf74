use Rattle.lk_relocate.proofs.NumbersReported.{numbers_here, value_here}
use Rattle.lk_relocate.proofs.object_sections.ObjectSection.relocation_numbers.Goals as goal

pub returns-clause-numbers : goal.returns-clause-numbers
returns-clause-numbers c = λ r is.
    let s = c.args.self.now in
    numbers_here s.values.now r is.link s.input s.object.now s.section c.args.rela.now is.object
    c.r_symbol-symbol.result c.r_symbol-symbol.ensures c.symbol_numbers-symbol_numbers.result c.symbol_numbers-symbol_numbers.ensures
    s.start c.requires.begins c.relocation_at-relocation.result c.relocation_at-relocation.ensures c.numbers.result c.numbers.ensures.reported

pub returns-clause-exact : goal.returns-clause-exact
returns-clause-exact c = λ r is.
    let s = c.args.self.now in
    value_here s.values.now r is.link s.input s.object.now s.section c.args.rela.now is.object
    c.r_symbol-symbol.result c.r_symbol-symbol.ensures c.symbol_numbers-symbol_numbers.result c.symbol_numbers-symbol_numbers.ensures
    c.relocation_at-relocation.result c.numbers.result c.numbers.ensures.by_parts
