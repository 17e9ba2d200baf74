use Rattle.lk_comdat.proofs.ClaimsFound.{goes_on, claimed, first, dropped, one_by_one}
use Rattle.lk_comdat.proofs.laws.claims_are_the_models.Goals as goal

pub returns-clause-goes_on : goal.returns-clause-goes_on
returns-clause-goes_on c = goes_on

pub returns-clause-claimed : goal.returns-clause-claimed
returns-clause-claimed c = claimed

pub returns-clause-first : goal.returns-clause-first
returns-clause-first c = first

pub returns-clause-dropped : goal.returns-clause-dropped
returns-clause-dropped c = dropped

pub returns-clause-one_by_one : goal.returns-clause-one_by_one
returns-clause-one_by_one c = one_by_one
