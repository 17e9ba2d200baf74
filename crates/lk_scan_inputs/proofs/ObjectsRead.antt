-- The objects of files that are marked are those of the added inputs, one for each file; each file that is left has
-- no fault, and its summary is at its number.
use Rattle.std.proofs.Common.{◌≡◌, refl, ap, ◌∙◌, sym, arith, ℕ, suc, ◌+◌, Bool, cond, List, [], ◌∷◌, ◌++◌, ◌<◌, drop, get_or, length, map, Option, Some, None, Result, Ok, Err}
use Rattle.std.specs.Prelude.{IfOk, filter_map, option_map}
use Rattle.std.specs.List.{cons_option, range_with_len}
use Rattle.std.proofs.lemmas.List.{append_assoc, drop_more, length-drop, length-map}
use Rattle.lk_report.specs.declared.faults.Fault.TheVariants as fault
use Rattle.lk_report.specs.declared.faults.InputFault.{InputFault}
use Rattle.lk_model.specs.declared.summaries.InputSummary.{InputSummary}
use Rattle.lk_model.specs.Numbered.{is_number_in}
use Rattle.lk_model.specs.ObjectChecks.{object_fault}
use Rattle.lk_inputs.specs.FilesRead.{fault_in, summary_of}
use Rattle.lk_inputs.specs.declared.input_files.InputFile.{InputFile}
use Rattle.lk_model.specs.declared.input_names.InputName.{InputName}
use Rattle.lk_marks.specs.Marked.{marks_of}
use Rattle.lk_scan_inputs.specs.Objects.{HasObjects, input_names, marked_objects, objects_from, objects_of, with_input}
use Rattle.lk_scan_inputs.specs.declared.object_reading.LinkObjects.{LinkObjects}

-- one more file is read, of those that are left
pub names_next : (all : List InputName) (items rest : List InputFile) (file : InputFile) (mark : Bool) (old new : LinkObjects) → items ≡ file ∷ rest → new ≡ with_input old mark file
    → old.names ++ input_names items ≡ all → new.names ++ input_names rest ≡ all
names_next all items rest file mark old new left read so =
    ap (λ (l : LinkObjects). l.names ++ input_names rest) read
    ∙ append_assoc old.names (file.name ∷ []) (input_names rest)
    ∙ ap (λ (fs : List InputFile). old.names ++ input_names fs) (sym left)
    ∙ so

pub objects_next : (all : List (Option (List ℕ))) (marks : List Bool) (i : ℕ) (d : Bool) (items rest : List InputFile) (file : InputFile) (old new : LinkObjects) → i < length marks → items ≡ file ∷ rest → new ≡ with_input old (get_or marks i d) file
    → old.objects ++ marked_objects (drop i marks) items ≡ all → new.objects ++ marked_objects (drop (i + 1) marks) rest ≡ all
objects_next all marks i d items rest file old new h left read so =
    ap (λ (l : LinkObjects). l.objects ++ marked_objects (drop (i + 1) marks) rest) read
    ∙ append_assoc old.objects (cond (get_or marks i d) (Some file.bytes) None ∷ []) (marked_objects (drop (i + 1) marks) rest)
    ∙ ap (λ (ms : List Bool). old.objects ++ marked_objects ms (file ∷ rest)) (sym (drop_more marks i d h))
    ∙ ap (λ (fs : List InputFile). old.objects ++ marked_objects (drop i marks) fs) (sym left)
    ∙ so

-- ---- a file without a fault, and its summary

first_sound : (file : InputFile) (files : List InputFile) → filter_map fault_in (file ∷ files) ≡ [] → (object_fault file.bytes ≡ None) × (filter_map fault_in files ≡ [])
first_sound file files h = by (object_fault file.bytes) refl h
  where
    by : (o : Option InputFault) → object_fault file.bytes ≡ o → cons_option (option_map (λ (f : InputFault). fault.Input file.name.path f) o) (filter_map fault_in files) ≡ []
        → (object_fault file.bytes ≡ None) × (filter_map fault_in files ≡ [])
    by None e h = (e, h)
    by (Some f) e h = absurd (cc)

-- the next of the files that are left has no fault, and neither have those after it
pub file_sound : (items rest : List InputFile) (file : InputFile) → items ≡ file ∷ rest → filter_map fault_in items ≡ [] → object_fault file.bytes ≡ None
file_sound items rest file left none = (first_sound file rest (ap (λ (fs : List InputFile). filter_map fault_in fs) (sym left) ∙ none)).0

pub rest_sound : (items rest : List InputFile) (file : InputFile) → items ≡ file ∷ rest → filter_map fault_in items ≡ [] → filter_map fault_in rest ≡ []
rest_sound items rest file left none = (first_sound file rest (ap (λ (fs : List InputFile). filter_map fault_in fs) (sym left) ∙ none)).1

-- each file that is left has a summary at its number
pub summary_there : (summaries : List InputSummary) (i : ℕ) (items rest : List InputFile) (file : InputFile) → items ≡ file ∷ rest → drop i summaries ≡ map summary_of items → i < length summaries
summary_there summaries i items rest file left kept =
    let size : length (drop i summaries) ≡ suc (length rest) =
    ap (λ (ss : List InputSummary). length ss) (kept ∙ ap (λ (fs : List InputFile). map summary_of fs) left) ∙ ap suc (length-map rest summary_of) in
    omega (arith, size, length-drop i summaries)

both_parts : (x y : InputSummary) (xs ys : List InputSummary) → x ∷ xs ≡ y ∷ ys → (x ≡ y) × (xs ≡ ys)
both_parts x y xs ys e =
    let front : x ≡ y = cc in
    let back : xs ≡ ys = cc in
    (front, back)

summaries_split : (summaries : List InputSummary) (i : ℕ) (d : InputSummary) (items rest : List InputFile) (file : InputFile) → items ≡ file ∷ rest → drop i summaries ≡ map summary_of items
    → (get_or summaries i d ≡ summary_of file) × (drop (i + 1) summaries ≡ map summary_of rest)
summaries_split summaries i d items rest file left kept =
    both_parts (get_or summaries i d) (summary_of file) (drop (i + 1) summaries) (map summary_of rest)
    (sym (drop_more summaries i d (summary_there summaries i items rest file left kept)) ∙ kept ∙ ap (λ (fs : List InputFile). map summary_of fs) left)

-- the summary at a file's number is that of the file, and those after it are those of the later files
pub summary_here : (summaries : List InputSummary) (i : ℕ) (d : InputSummary) (items rest : List InputFile) (file : InputFile) → items ≡ file ∷ rest → drop i summaries ≡ map summary_of items → get_or summaries i d ≡ summary_of file
summary_here summaries i d items rest file left kept = (summaries_split summaries i d items rest file left kept).0

pub summaries_next : (summaries : List InputSummary) (i : ℕ) (items rest : List InputFile) (file : InputFile) → items ≡ file ∷ rest → drop i summaries ≡ map summary_of items → drop (i + 1) summaries ≡ map summary_of rest
summaries_next summaries i items rest file left kept = (summaries_split summaries i (summary_of file) items rest file left kept).1

-- ---- marks

marked_from : (n : ℕ) (added : List ℕ) (files : List InputFile) → marked_objects (map (is_number_in added) (range_with_len n (length files))) files ≡ objects_from n added files
marked_from n added [] = refl
marked_from n added (file ∷ files) = ap (λ (os : List (Option (List ℕ))). cond (is_number_in added n) (Some file.bytes) None ∷ os) (marked_from (n + 1) added files)

pub marked_are_added : (added : List ℕ) (files : List InputFile) (count : ℕ) (marks : List Bool) → count ≡ length files → marks ≡ marks_of added count → marked_objects marks files ≡ objects_of added files
marked_are_added added files count marks size are = ap (λ (ms : List Bool). marked_objects ms files) (are ∙ ap (marks_of added) size) ∙ marked_from 0 added files

objects-length : (n : ℕ) (added : List ℕ) (files : List InputFile) → length (objects_from n added files) ≡ length files
objects-length n added [] = refl
objects-length n added (file ∷ files) = let later : length (objects_from (n + 1) added files) ≡ length files = objects-length (n + 1) added files in omega arith

pub one_for_each : {E : Type 0} (added : List ℕ) (files : List InputFile) (r : Result LinkObjects E) → IfOk r (HasObjects (objects_of added files) files) → IfOk r (λ (read : LinkObjects). length read.objects ≡ length files)
one_for_each added files (Ok read) h = ap (λ (os : List (Option (List ℕ))). length os) h.1 ∙ objects-length 0 added files
one_for_each added files (Err f) h = tt
