use Rattle.lk_inputs.proofs.AnswersReported as reported
use Rattle.lk_inputs.proofs.laws.answers_are_the_models.Goals as goal

pub returns-clause-refused : goal.returns-clause-refused
returns-clause-refused c = reported.refusals_reported

pub returns-clause-faults : goal.returns-clause-faults
returns-clause-faults c = reported.faults_reported

pub returns-clause-limit : goal.returns-clause-limit
returns-clause-limit c = reported.limit_reported

pub returns-clause-goes_on : goal.returns-clause-goes_on
returns-clause-goes_on c = reported.goes_on
