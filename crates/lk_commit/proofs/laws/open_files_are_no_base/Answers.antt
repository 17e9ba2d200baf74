use Rattle.lk_commit.proofs.OpenFiles.{open_is_no_base}
use Rattle.lk_commit.proofs.laws.open_files_are_no_base.Goals as goal

pub returns : goal.returns
returns c = open_is_no_base
