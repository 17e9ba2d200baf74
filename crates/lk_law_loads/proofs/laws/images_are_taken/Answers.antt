use Rattle.lk_law_loads.proofs.ImagesTaken as taken
use Rattle.lk_law_loads.proofs.laws.images_are_taken.Goals as goal

pub returns-clause-headers : goal.returns-clause-headers
returns-clause-headers c = taken.headers_are_taken

pub returns-clause-places : goal.returns-clause-places
returns-clause-places c = taken.places_are_taken

pub returns-clause-link : goal.returns-clause-link
returns-clause-link c = taken.link_is_taken

pub returns-clause-whole_link : goal.returns-clause-whole_link
returns-clause-whole_link c = taken.whole_link_is_taken
