-- Each input has one occurrence and one mark.
use Rattle.std.proofs.Common.{◌≡◌, refl, ap, ◌∙◌, ℕ, suc, Bool, List, [], ◌∷◌, length, map}
use Rattle.std.proofs.lemmas.List.{length-map}
use Rattle.lk_marks.specs.Marked.{marks_of}
use Rattle.lk_marks.proofs.MarksMade.{marks_length}
use Rattle.lk_model.specs.declared.input_names.InputName.{InputName}
use Rattle.lk_records.specs.Occurrences.{name_path, occurrences_after}

occurrences_length : (earlier paths : List (List ℕ)) → length (occurrences_after earlier paths) ≡ length paths
occurrences_length earlier [] = refl
occurrences_length earlier (path ∷ paths) = ap suc (occurrences_length (path ∷ earlier) paths)

-- there is one occurrence for each input, and one mark
pub occurrences_as_many : (names : List InputName) (occurrences : List ℕ) → occurrences ≡ occurrences_after [] (map name_path names) → length occurrences ≡ length names
occurrences_as_many names occurrences is = ap length is ∙ occurrences_length [] (map name_path names) ∙ length-map names name_path

pub marks_as_many : (added : List ℕ) (names : List InputName) (marks : List Bool) → marks ≡ marks_of added (length names) → length marks ≡ length names
marks_as_many added names marks is = ap length is ∙ marks_length added (length names)
