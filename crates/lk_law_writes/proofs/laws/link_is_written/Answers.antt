use Rattle.lk_law_writes.proofs.LinkWritten as writes
use Rattle.lk_law_writes.proofs.laws.link_is_written.Goals as goal

pub returns-clause-any_order : goal.returns-clause-any_order
returns-clause-any_order c = writes.link_is_written

pub returns-clause-with_tables : goal.returns-clause-with_tables
returns-clause-with_tables c = writes.tables_are_written

pub returns-clause-in_order : goal.returns-clause-in_order
returns-clause-in_order c = writes.link_is_written_in_order

pub returns-clause-sealed : goal.returns-clause-sealed
returns-clause-sealed c = writes.sealed_link_is_written

pub returns-clause-groups : goal.returns-clause-groups
returns-clause-groups c = writes.groups_are_written
