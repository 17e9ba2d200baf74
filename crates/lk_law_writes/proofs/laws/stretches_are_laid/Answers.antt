use Rattle.lk_law_writes.proofs.LinkApart as apart
use Rattle.lk_law_writes.proofs.LinkWritten as writes
use Rattle.lk_law_writes.proofs.laws.stretches_are_laid.Goals as goal

pub returns-clause-stretches : goal.returns-clause-stretches
returns-clause-stretches c = apart.stretches_are_laid

pub returns-clause-tables : goal.returns-clause-tables
returns-clause-tables c = writes.tables_are_zeros

pub returns-clause-headers : goal.returns-clause-headers
returns-clause-headers c = apart.headers_are_short

pub returns-clause-sections : goal.returns-clause-sections
returns-clause-sections c = apart.sections_end_within
