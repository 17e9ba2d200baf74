use Rattle.lk_law_loading.proofs.FullLoaded as full
use Rattle.lk_law_loading.proofs.PiecesLoaded as pieces
use Rattle.lk_law_loading.proofs.laws.pieces_are_loaded.Goals as goal

pub returns-clause-headers : goal.returns-clause-headers
returns-clause-headers c = pieces.headers_are_read

pub returns-clause-places : goal.returns-clause-places
returns-clause-places c = pieces.all_pieces_loaded

pub returns-clause-inputs : goal.returns-clause-inputs
returns-clause-inputs c = full.inputs_are_loadable

pub returns-clause-link : goal.returns-clause-link
returns-clause-link c = full.link_is_loaded

pub returns-clause-whole_link : goal.returns-clause-whole_link
returns-clause-whole_link c = full.whole_link_is_loaded
