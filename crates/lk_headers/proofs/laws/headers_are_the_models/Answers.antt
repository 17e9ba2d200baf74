use Rattle.lk_headers.proofs.ModelRows as model
use Rattle.lk_headers.proofs.laws.headers_are_the_models.Goals as goal

pub returns-clause-there : goal.returns-clause-there
returns-clause-there c = model.are_there

pub returns-clause-front : goal.returns-clause-front
returns-clause-front c = model.front

pub returns-clause-sections : goal.returns-clause-sections
returns-clause-sections c = model.sections

pub returns-clause-section_bytes : goal.returns-clause-section_bytes
returns-clause-section_bytes c = model.section_bytes
