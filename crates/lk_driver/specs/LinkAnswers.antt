-- This project's own: what is answered of the link of inputs that were read.
use Rattle.std.specs.Prelude.{◌≡◌, ℕ, List, Result, Ok, Err}
use Rattle.lk_report.specs.declared.statuses.Status.{Status}
use Rattle.lk_report.specs.declared.statuses.Status.TheVariants as status
use Rattle.lk_model.specs.Answers.{full_link, resolved_answer}
use Rattle.lk_model.specs.FullPlace.{full_place}
use Rattle.lk_model.specs.Links.{IsLinkAt}
use Rattle.lk_model.specs.Views.{Resolved}
use Rattle.lk_driver.specs.Committing.{IsSealedImage}

-- an image that is a link of what resolution finds, everything placed anew, where nothing is refused; else the
-- refusal. Out of memory may come at any time.
abbrev pub LinkAnswers : Resolved → Result (List ℕ) Status → Type 0
LinkAnswers r (Ok image) = (resolved_answer r ≡ full_link) × (IsLinkAt r (full_place r) image × IsSealedImage image)
LinkAnswers r (Err status.NoMemory) = Unit {0}
LinkAnswers r (Err (status.Done how)) = ⊥
LinkAnswers r (Err s) = resolved_answer r ≡ s
