-- No place where an input of a command is looked for has a zero byte.
use Rattle.std.proofs.Common.{◌≡◌, refl, ◌∙◌, ℕ, ◌==◌, Bool, true, false, if◌then◌else◌, List, [], ◌∷◌, ◌++◌, map, Some}
use Rattle.std.specs.Prelude.{codes}
use Rattle.std.specs.List.{AllByRecursion}
use Rattle.std.proofs.lemmas.Bool.{or_from}
use Rattle.std.proofs.lemmas.List.Folds.{list_any-append}
use Rattle.lk_report.specs.FileMap.{FileMap}
use Rattle.lk_model.specs.declared.commands.Command.{Command}
use Rattle.lk_model.specs.declared.commands.Word.{Word}
use Rattle.lk_model.specs.Inputs.{candidates_of, input_words, is_there, path_of, places_of, standard_dirs}
use Rattle.lk_inputs.specs.Asked.{all_places}
use Rattle.lk_law_records.specs.CommandFits.{CommandFits}
use Rattle.lk_law_records.specs.Recordable.{has_zero}
use Rattle.lk_law_records.proofs.Lists.{all-append, all-flat, find-all}

abbrev pub IsClean : List ℕ → Type 0
IsClean text = has_zero text ≡ false

joined_clean : (a b : List ℕ) → IsClean a → IsClean b → IsClean (a ++ b)
joined_clean a b first second = list_any-append (λ x. x == 0) a b ∙ or_from (has_zero a) (has_zero b) first second

in_dirs_clean : (name : List ℕ) (dirs : List (List ℕ)) → IsClean name → AllByRecursion IsClean dirs → AllByRecursion IsClean (map (λ dir. dir ++ codes "/lib" ++ name ++ codes ".so") dirs)
in_dirs_clean name [] own all = tt
in_dirs_clean name (dir ∷ dirs) own all =
    (joined_clean (dir ++ codes "/lib" ++ name) (codes ".so") (joined_clean (dir ++ codes "/lib") name (joined_clean dir (codes "/lib") all.0 refl) own) refl, in_dirs_clean name dirs own all.1)

candidates_clean : (c : Command) (name : List ℕ) → IsClean name → AllByRecursion IsClean c.dirs → AllByRecursion IsClean (candidates_of c name)
unfolding candidates_of
candidates_clean c name own dirs = in_dirs_clean name (c.dirs ++ standard_dirs) own (all-append IsClean c.dirs standard_dirs dirs (refl, (refl, tt)))

-- the places of one word
places_clean : (c : Command) (word : Word) → IsClean word.text → AllByRecursion IsClean c.dirs → AllByRecursion IsClean (places_of c word)
places_clean c word own dirs = go word.library
  where
    go : (b : Bool) → AllByRecursion IsClean (if b then candidates_of c word.text else word.text ∷ [])
    go true = candidates_clean c word.text own dirs
    go false = (own, tt)

-- and so the path of its input
pub path_clean : (c : Command) (there : FileMap) (word : Word) (path : List ℕ) → IsClean word.text → AllByRecursion IsClean c.dirs → path_of c there word ≡ Some path → IsClean path
unfolding path_of
path_clean c there word path own dirs e = find-all IsClean (is_there there) (places_of c word) path (places_clean c word own dirs) e

-- the places of all words
pub all_places_clean : (c : Command) → CommandFits c → AllByRecursion IsClean (all_places c)
all_places_clean c fits =
    all-flat IsClean (λ (row : ℕ × Word). IsClean row.1.text) (λ (row : ℕ × Word). places_of c row.1) (λ row own. places_clean c row.1 own fits.dirs) (input_words c) fits.words
