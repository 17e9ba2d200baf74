use Rattle.lk_string_table.proofs.TextsStored.{holds-none}
use Rattle.lk_string_table.proofs.string_tables.StringTable.without_texts.Goals as goal

pub invariant_of-result : goal.invariant_of-result
invariant_of-result c = holds-none _ c.in-Ok.ensures.empty
