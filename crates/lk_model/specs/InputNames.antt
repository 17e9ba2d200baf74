-- This project's own: what is known of an input before and after its file is read: its name, and what a link
-- keeps of it.
use Rattle.lk_model.specs.declared.input_names.InputName.{InputName}
use Rattle.lk_model.specs.declared.summaries.InputSummary.{InputSummary}
use Rattle.lk_model.specs.Views.{Input}

-- the name of an input: its path, its lib group, its mark and its file's stamp
abbrev pub name_of : Input → InputName
name_of x = record { path = x.path; lib = x.lib; mark = x.mark; stamp = x.stamp }

-- what a link keeps of an input
abbrev pub input_summary : Input → InputSummary
input_summary x = x.summary
