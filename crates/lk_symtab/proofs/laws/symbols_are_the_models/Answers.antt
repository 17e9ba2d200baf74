use Rattle.lk_symtab.proofs.RowsStay.{at_number, found, kept, none_made, one_made, stays, without_number}
use Rattle.lk_symtab.proofs.SymbolsFound.{goes_on, table}
use Rattle.lk_symtab.proofs.SymbolsNamed.{symbols_have_names}
use Rattle.lk_symtab.proofs.laws.symbols_are_the_models.Goals as goal

pub returns-clause-table : goal.returns-clause-table
returns-clause-table c = table

pub returns-clause-goes_on : goal.returns-clause-goes_on
returns-clause-goes_on c = goes_on

pub returns-clause-found : goal.returns-clause-found
returns-clause-found c = found

pub returns-clause-at_number : goal.returns-clause-at_number
returns-clause-at_number c = at_number

pub returns-clause-without_number : goal.returns-clause-without_number
returns-clause-without_number c = without_number

pub returns-clause-stays : goal.returns-clause-stays
returns-clause-stays c = stays

pub returns-clause-none_made : goal.returns-clause-none_made
returns-clause-none_made c = none_made

pub returns-clause-one_made : goal.returns-clause-one_made
returns-clause-one_made c = one_made

pub returns-clause-kept : goal.returns-clause-kept
returns-clause-kept c = kept

pub returns-clause-named : goal.returns-clause-named
returns-clause-named c = symbols_have_names
