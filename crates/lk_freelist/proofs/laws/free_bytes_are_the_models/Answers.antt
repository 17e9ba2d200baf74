use Rattle.lk_freelist.proofs.ModelLaws.{same, left_holes, left_free, places, enough, least}
use Rattle.lk_freelist.proofs.laws.free_bytes_are_the_models.Goals as goal

pub returns-clause-same : goal.returns-clause-same
returns-clause-same c = same

pub returns-clause-holes : goal.returns-clause-holes
returns-clause-holes c = left_holes

pub returns-clause-free : goal.returns-clause-free
returns-clause-free c = left_free

pub returns-clause-places : goal.returns-clause-places
returns-clause-places c = places

pub returns-clause-enough : goal.returns-clause-enough
returns-clause-enough c = enough

pub returns-clause-least : goal.returns-clause-least
returns-clause-least c = least
