-- What the look-ups of words amount to: an input's word that is found or missing, and one word after another.
use Rattle.std.proofs.Common.{◌≡◌, ◌+◌, ◌<◌, refl, sym, ap, ◌∙◌, ℕ, suc, List, [], ◌∷◌, ◌++◌, length, drop, get_or, Option, Some, None, append_assoc, add-one, drop-cons}
use Rattle.std.specs.Prelude.{find, is_none, option_map, option_and_then}
use Rattle.std.specs.Bool.{then_some}
use Rattle.std.specs.List.{cons_option, filter_map}
use Rattle.lk_report.specs.FileMap.{FileMap, FileRow}
use Rattle.lk_report.specs.declared.faults.Fault.TheVariants as fault
use Rattle.lk_report.specs.declared.stamps.Stamp.{Stamp}
use Rattle.lk_model.specs.declared.commands.Command.{Command}
use Rattle.lk_model.specs.declared.commands.Word.{Word}
use Rattle.lk_model.specs.Inputs.{FoundInput, found_at, is_there, missing_in, missing_path, path_of, places_of}
use Rattle.lk_model.specs.declared.input_names.InputName.{InputName}
use Rattle.lk_inputs.specs.Named.{name_found, named_in}
use Rattle.lk_inputs.specs.FileAnswers.{stamp_at}

-- ---- one word

-- the input of a word with this path
named_at : FileMap → ℕ × Word → Option (List ℕ) → Option InputName
named_at there row path = option_map name_found (option_and_then (found_at there row) path)

named_by : (there : FileMap) (row : ℕ × Word) (path : List ℕ) (stamp : Option Stamp) (o : Option FileRow) → option_map (λ (r : FileRow). r.stamp) o ≡ Some stamp
    → option_map name_found (option_map (λ (file : FileRow). let f : FoundInput = record { lib = row.0; word = row.1; path = path; file = file } in f) o)
    ≡ Some (record { path = path; lib = row.0; mark = row.1.mark; stamp = stamp })
named_by there row path stamp None e = absurd (cc)
named_by there row path stamp (Some file) e =
    let same : file.stamp ≡ stamp = cc in
    ap (λ (s : Option Stamp). let n : InputName = record { path = path; lib = row.0; mark = row.1.mark; stamp = s } in Some n) same

pub found_named : (command : Command) (there : FileMap) (row : ℕ × Word) (path : List ℕ) (stamp : Option Stamp) → find (is_there there) (places_of command row.1) ≡ Some path → stamp_at there path ≡ Some stamp
    → named_in command there row ≡ Some (record { path = path; lib = row.0; mark = row.1.mark; stamp = stamp })
unfolding path_of named_at
found_named command there row path stamp found stamped =
    ap (named_at there row) found ∙ named_by there row path stamp (there path) stamped

-- a word whose file is not there
pub unnamed : (command : Command) (there : FileMap) (row : ℕ × Word) → path_of command there row.1 ≡ None → named_in command there row ≡ None
unfolding named_at
unnamed command there row e = ap (named_at there row) e

pub missed : (command : Command) (there : FileMap) (row : ℕ × Word) → path_of command there row.1 ≡ None → missing_in command there row ≡ Some (fault.Missing (missing_path row.1))
missed command there row e = ap (λ (o : Option (List ℕ)). then_some (is_none o) (fault.Missing (missing_path row.1))) e

pub not_missed : (command : Command) (there : FileMap) (row : ℕ × Word) (name : InputName) → named_in command there row ≡ Some name → missing_in command there row ≡ None
unfolding named_at
not_missed command there row name e = by (path_of command there row.1) e
  where
    by : (o : Option (List ℕ)) → named_at there row o ≡ Some name → then_some (is_none o) (fault.Missing (missing_path row.1)) ≡ None
    by None h = absurd (cc)
    by (Some path) h = refl

-- ---- one word after another

pub next_item : {X : Type 0} (xs : List X) (i : ℕ) (x : X) → i < length xs → x ≡ get_or xs i x → drop i xs ≡ x ∷ drop (i + 1) xs
next_item xs i x h e = rw (add-one) (drop-cons xs i x h ∙ ap (λ y. y ∷ drop (suc i) xs) (sym e))

-- what a word gives is put behind what the words before it gave
pub given_next : {X Y : Type 0} (h : X → Option Y) (got : List Y) (x : X) (xs : List X) (y : Y) → h x ≡ Some y → (got ++ y ∷ []) ++ filter_map h xs ≡ got ++ filter_map h (x ∷ xs)
given_next h got x xs y e =
    append_assoc got (y ∷ []) (filter_map h xs) ∙ ap (λ o. got ++ cons_option o (filter_map h xs)) (sym e)

pub none_next : {X Y : Type 0} (h : X → Option Y) (got : List Y) (x : X) (xs : List X) → h x ≡ None → got ++ filter_map h xs ≡ got ++ filter_map h (x ∷ xs)
none_next h got x xs e = ap (λ o. got ++ cons_option o (filter_map h xs)) (sym e)
