-- This project's own: what the program says of what it is asked, and how it ends: with the text that answers,
-- and 0; or with the text and the number of the status that is reported in its place.
use Rattle.std.specs.Prelude.{ℕ, List, Result, Ok, Err}
use Rattle.lk_report.specs.Exit.{exit_status_of}
use Rattle.lk_report.specs.FileMap.{FileMap}
use Rattle.lk_report.specs.Texts.{text_of}
use Rattle.lk_report.specs.declared.statuses.Status.{Status}
use Rattle.lk_probe.specs.FileTexts.{ReportsFile}
use Rattle.lk_probe.specs.LoadTexts.{ReportsLoad}
use Rattle.lk_probe.specs.Rows.{ReportsPlaces}
use Rattle.lk_probe.specs.ResolutionTexts.{Reports}
use Rattle.lk_probe.specs.declared.arguments.Asked.{Asked}
use Rattle.lk_probe.specs.declared.arguments.Asked.TheVariants as asked

-- what answers, by the map of the files
abbrev pub Answers : Asked → FileMap → Result (List ℕ) Status → Type 0
Answers (asked.Read path) there answer = ReportsFile path there answer
Answers (asked.Load path) there answer = ReportsLoad path there answer
Answers (asked.Resolve words) there answer = Reports words there answer
Answers (asked.Layout words) there answer = ReportsPlaces words there answer

-- what is said
abbrev pub text_said : Result (List ℕ) Status → List ℕ
text_said (Ok text) = text
text_said (Err s) = text_of s

-- the exit status
abbrev pub exit_of : Result (List ℕ) Status → ℕ
exit_of (Ok text) = 0
exit_of (Err s) = exit_status_of s
