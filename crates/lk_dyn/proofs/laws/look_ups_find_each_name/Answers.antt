use Rattle.lk_model.proofs.HashTables.{hash_words_are_a_table}
use Rattle.lk_dyn.proofs.NamesLookedUp.{names_found}
use Rattle.lk_dyn.proofs.laws.look_ups_find_each_name.Goals as goal

pub returns : goal.returns
returns c = record { table = hash_words_are_a_table; found = names_found }
