use Rattle.lk_law_writes.proofs.WrittenBytes as bytes
use Rattle.lk_law_writes.proofs.laws.writes_are_laid_out.Goals as goal

pub returns-clause-length : goal.returns-clause-length
returns-clause-length c = bytes.length_stays

pub returns-clause-in_turn : goal.returns-clause-in_turn
returns-clause-in_turn c = bytes.written_in_turn

pub returns-clause-parts : goal.returns-clause-parts
returns-clause-parts c = bytes.parts_are_whole

pub returns-clause-is_at : goal.returns-clause-is_at
returns-clause-is_at c = bytes.written_is_at

pub returns-clause-laid_out : goal.returns-clause-laid_out
returns-clause-laid_out c = bytes.written_is_laid_out

pub returns-clause-padding : goal.returns-clause-padding
returns-clause-padding c = bytes.padding_is_zeros
