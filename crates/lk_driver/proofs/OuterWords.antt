-- What words that are accepted as a command say of the answer, and what words that are not answer.
use Rattle.std.proofs.Common.{◌≡◌, refl, sym, ap, ◌∙◌, ℕ, ◌+◌, Bool, true, false, not, ◌||◌, List, [], ◌∷◌, map, Option, Some, None, Result, Ok, Err}
use Rattle.std.specs.Prelude.{IfOk, codes, if◌then◌else◌}
use Rattle.std.specs.List.{flat_map, list_any}
use Rattle.std.proofs.lemmas.List.Folds.{list_any-append}
use Rattle.lk_report.specs.FileMap.{FileMap}
use Rattle.lk_report.specs.declared.faults.UsageFault.{UsageFault}
use Rattle.lk_report.specs.declared.statuses.Status.{Status}
use Rattle.lk_report.specs.declared.statuses.Status.TheVariants as status
use Rattle.lk_report.specs.declared.statuses.Waiting.TheVariants as waiting
use Rattle.lk_model.specs.Answers.{accepted_command, command_answer, is_full, is_library, resolved_answer, static_answer, waits_words, words_in, words_wait}
use Rattle.lk_model.specs.Grammar.{grammar, output_of_words, output_where}
use Rattle.lk_model.specs.Inputs.{words_from}
use Rattle.lk_model.specs.Links.{resolved_of}
use Rattle.lk_model.specs.declared.commands.Command.{Command}
use Rattle.lk_model.specs.declared.commands.Item.{Item}
use Rattle.lk_model.specs.declared.commands.Item.TheVariants.{One, Lib}
use Rattle.lk_model.specs.declared.commands.Word.{Word}
use Rattle.lk_inputs.specs.AnswerLaws.{answer_unless}
use Rattle.lk_inputs.specs.Asked.{has_library, is_library_row}
use Rattle.lk_inputs.specs.CommandOfWords.{IsCommand}
use Rattle.lk_inputs.specs.LookUps.{inputs_limit}
use Rattle.lk_inputs.specs.Refusals.{inputs_refusal}
use Rattle.lk_inputs.proofs.AnswersReported.{refusals_reported}
use Rattle.lk_driver.specs.ImageGiven.{IsAccepted, OutputBy, OutputUnless}
use Rattle.lk_driver.specs.Outer.{words_answer}

-- ---- libraries

any-flat : {X Y : Type 0} (p : Y → Bool) (f : X → List Y) (xs : List X) → list_any p (flat_map f xs) ≡ list_any (λ x. list_any p (f x)) xs
any-flat p f [] = refl
any-flat p f (x ∷ xs) = list_any-append p (f x) (flat_map f xs) ∙ ap (λ b. list_any p (f x) || b) (any-flat p f xs)

-- a library among the inputs of items
pub item_library : (items : List Item) → list_any is_library (flat_map words_in items) ≡ list_any (λ item. list_any is_library (words_in item)) items
item_library items = any-flat is_library words_in items

numbered-library : (n : ℕ) (words : List Word) → has_library (map (λ word. let row : ℕ × Word = (n, word) in row) words) ≡ list_any is_library words
numbered-library n [] = refl
numbered-library n (w ∷ ws) = ap (λ b. is_library w || b) (numbered-library n ws)

rows-library : (n : ℕ) (items : List Item) → has_library (words_from n items) ≡ list_any is_library (flat_map words_in items)
unfolding words_from
rows-library n [] = refl
rows-library n (One w ∷ items) = ap (λ b. is_library w || b) (rows-library n items)
rows-library n (Lib ws ∷ items) =
    list_any-append is_library_row (map (λ word. let row : ℕ × Word = (n, word) in row) ws) (words_from (n + 1) items)
    ∙ ap (λ b. b || has_library (words_from (n + 1) items)) (numbered-library n ws)
    ∙ ap (λ b. list_any is_library ws || b) (rows-library (n + 1) items)
    ∙ sym (list_any-append is_library ws (flat_map words_in items))

either-false : (a b : Bool) → (a || b) ≡ false → b ≡ false
either-false true b e = absurd (cc)
either-false false b e = e

unless-some : {X : Type 0} (b : Bool) (x : X) → (let o : Option X = if b then Some x else None in o) ≡ None → b ≡ false
unless-some true x e = absurd (cc)
unless-some false x e = refl

-- a command that does not wait has no library
pub no-library : (c : Command) → words_wait c ≡ None → has_library (words_from 1 c.items) ≡ false
no-library c e = rows-library 1 c.items ∙ either-false (not (is_full c.mode)) (list_any is_library (flat_map words_in c.items)) (unless-some (waits_words c) (status.NotYet waiting.Words) e)

-- ---- the words and what they decide

output_of_command : (words : List (List ℕ)) (c : Command) → grammar words ≡ Ok c → output_of_words words ≡ c.output
unfolding output_of_words
output_of_command words c e = ap output_where e

output_of_refused : (words : List (List ℕ)) (u : UsageFault) → grammar words ≡ Err u → output_of_words words ≡ codes "a.out"
unfolding output_of_words
output_of_refused words u e = ap output_where e

unless-reported : {E : Type 0} (words : List (List ℕ)) (s : Status) (result : Result (List ℕ) E) → IsCommand words (Err s) → OutputUnless s result → IfOk result (λ path. path ≡ output_of_words words)
unless-reported words (status.Usage u) (Ok path) is by = by ∙ sym (output_of_refused words u is)
unless-reported words (status.Usage u) (Err e) is by = by
unless-reported words (status.Done how) result is by = absurd is
unless-reported words (status.LinkError faults) result is by = absurd is
unless-reported words (status.ReadFault path) result is by = absurd is
unless-reported words status.DeviceFault result is by = absurd is
unless-reported words status.NoMemory (Ok path) is by = absurd by
unless-reported words status.NoMemory (Err e) is by = by
unless-reported words (status.Limit limit) result is by = absurd is
unless-reported words (status.NotUpdated cause) result is by = absurd is
unless-reported words (status.NotYet what) result is by = absurd is

-- the output by what words are is the one that the words name
pub output_reported : {E : Type 0} (words : List (List ℕ)) (read : Result Command Status) (result : Result (List ℕ) E) → IsCommand words read → OutputBy read result → IfOk result (λ path. path ≡ output_of_words words)
output_reported words (Ok c) (Ok path) is by = by ∙ sym (output_of_command words c is)
output_reported words (Ok c) (Err e) is by = by
output_reported words (Err s) result is by = unless-reported words s result is by

decided : Result Command UsageFault → Option Status
decided (Err u) = Some (status.Usage u)
decided (Ok c) = elim (words_wait c) [ Some s ↦ Some s | None ↦ inputs_limit c ]

decided-is : (words : List (List ℕ)) (r : Result Command UsageFault) → grammar words ≡ r → words_answer words ≡ decided r
unfolding decided
decided-is words r e = ap (λ (x : Result Command UsageFault). elim x [ Err u ↦ Some (status.Usage u) | Ok c ↦ elim (words_wait c) [ Some s ↦ Some s | None ↦ inputs_limit c ] ]) e

waits-or : (c : Command) (o : Option Status) → words_wait c ≡ o → decided (Ok c) ≡ (let d : Option Status = elim o [ Some s ↦ Some s | None ↦ inputs_limit c ] in d)
unfolding decided
waits-or c o e = ap (λ (x : Option Status). let d : Option Status = elim x [ Some s ↦ Some s | None ↦ inputs_limit c ] in d) e

pub words-decide : (words : List (List ℕ)) (c : Command) → IsAccepted words c → words_answer words ≡ inputs_limit c
words-decide words c a = decided-is words (Ok c) a.is ∙ waits-or c None a.waits

pub usage-decides : (words : List (List ℕ)) (u : UsageFault) → grammar words ≡ Err u → words_answer words ≡ Some (status.Usage u)
unfolding decided
usage-decides words u e = decided-is words (Err u) e

pub wait-decides : (words : List (List ℕ)) (c : Command) (s : Status) → grammar words ≡ Ok c → words_wait c ≡ Some s → words_answer words ≡ Some s
wait-decides words c s e w = decided-is words (Ok c) e ∙ waits-or c (Some s) w

-- ---- the answer

pub accepted-is : (words : List (List ℕ)) (c : Command) → IsAccepted words c → accepted_command words ≡ Some c
accepted-is words c a = ap (λ (r : Result Command UsageFault). let o : Option Command = elim r [ Err u ↦ None | Ok c ↦ Some c ] in o) a.is

static-by : (words : List (List ℕ)) (there : FileMap) (r : Result Command UsageFault) → grammar words ≡ r → static_answer words there ≡ (let s : Status = elim r [ Err u ↦ status.Usage u | Ok c ↦ command_answer c there ] in s)
unfolding static_answer
static-by words there r e = ap (λ (x : Result Command UsageFault). let s : Status = elim x [ Err u ↦ status.Usage u | Ok c ↦ command_answer c there ] in s) e

pub usage-static : (words : List (List ℕ)) (u : UsageFault) (there : FileMap) → grammar words ≡ Err u → static_answer words there ≡ status.Usage u
usage-static words u there e = static-by words there (Err u) e

-- what is answered after words that wait
later : Command → FileMap → Status
later c there = answer_unless (inputs_limit c) (answer_unless (inputs_refusal c there) (resolved_answer (resolved_of c there)))

waits-first : (words : List (List ℕ)) (c : Command) (there : FileMap) → grammar words ≡ Ok c → static_answer words there ≡ answer_unless (words_wait c) (later c there)
unfolding later
waits-first words c there e = static-by words there (Ok c) e ∙ refusals_reported c there

pub wait-static : (words : List (List ℕ)) (c : Command) (s : Status) (there : FileMap) → grammar words ≡ Ok c → words_wait c ≡ Some s → static_answer words there ≡ s
wait-static words c s there e w = waits-first words c there e ∙ ap (λ o. answer_unless o (later c there)) w

-- of accepted words: too many inputs, then why they are not resolved, then what they are resolved to
pub static-is : (words : List (List ℕ)) (c : Command) (there : FileMap) → IsAccepted words c
    → static_answer words there ≡ answer_unless (inputs_limit c) (answer_unless (inputs_refusal c there) (resolved_answer (resolved_of c there)))
unfolding later
static-is words c there a = waits-first words c there a.is ∙ ap (λ o. answer_unless o (later c there)) a.waits
