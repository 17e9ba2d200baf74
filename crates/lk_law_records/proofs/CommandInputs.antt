-- The inputs of a command fit: each has a path without a zero byte, small numbers, and a summary that fits.
use Rattle.std.specs.Prelude.{◌≡◌, refl, ℕ, suc, ◌+◌, ◌^◌, ◌<◌, ◌==◌, Bool, true, false, if◌then◌else◌, List, [], ◌∷◌, ◌++◌, bytes_eq, codes, filter_map, length, map, Some, None}
use Rattle.std.specs.List.{AllByRecursion}
use Rattle.std.proofs.Common.{arith, sym, subst, ap, ◌∙◌}
use Rattle.std.proofs.lemmas.Bool.{or_from}
use Rattle.std.proofs.lemmas.List.Elements.{recursion_from_All}
use Rattle.std.proofs.lemmas.List.Folds.{list_any-append}
use Rattle.lk_report.specs.FileMap.{FileMap, FileRow}
use Rattle.lk_model.specs.Elf.{elf_of, elf_under, elf_with}
use Rattle.lk_model.specs.Inputs.{FoundInput, candidates_of, count_of, found_at, found_in, input_with, input_words, inputs_after, inputs_of, is_read_as_shared, is_there, path_of, places_of, standard_dirs, summary_by, words_from}
use Rattle.lk_model.specs.ObjectChecks.{object_fault}
use Rattle.lk_model.specs.Objects.{pieces_in, summary_in}
use Rattle.lk_model.specs.SharedObjects.{shared_summary_in}
use Rattle.lk_model.specs.Views.{Elf, Input}
use Rattle.lk_model.specs.declared.commands.Command.{Command}
use Rattle.lk_model.specs.declared.commands.Item.{Item}
use Rattle.lk_model.specs.declared.commands.Item.TheVariants.{One, Lib}
use Rattle.lk_model.specs.declared.commands.Word.{Word}
use Rattle.lk_model.specs.declared.summaries.PieceInfo.{PieceInfo}
use Rattle.lk_law_records.specs.CommandFits.{FileFits, FilesFit, IsSound}
use Rattle.lk_law_records.specs.Recordable.{HasOtherNames, InputFits, SummaryFits, has_zero, is_record_name}
use Rattle.lk_law_records.specs.RecordedLaws.{InputsOfCommandsFit}
use Rattle.lk_law_records.proofs.ByteNumbers.{AreBytes, IsLowElf, elf-low}
use Rattle.lk_law_records.proofs.Lists.{all-append, all-both, all-first, all-found, all-second, and-then, find-all, found-in-map, length-found, length-passing}
use Rattle.lk_law_records.proofs.ObjectFits.{object-fits}
use Rattle.lk_law_records.proofs.SharedFits.{shared-fits}
use Rattle.lk_law_records.proofs.SoundNames.{pieces-other}

abbrev IsClean : List ℕ → Type 0
IsClean text = has_zero text ≡ false

-- ---- the numbers of lib groups

abbrev IsLowLib : ℕ → ℕ × Word → Type 0
IsLowLib most row = row.0 < most

lib-words : (most n : ℕ) (words : List Word) → n < most → AllByRecursion (IsLowLib most) (map (λ word. (n, word)) words)
lib-words most n [] low = tt
lib-words most n (word ∷ words) low = (low, lib-words most n words low)

words-low : (most n : ℕ) (items : List Item) → n + length items < most → AllByRecursion (IsLowLib most) (words_from n items)
unfolding words_from
words-low most n [] low = tt
words-low most n (One word ∷ items) low = (omega (arith, low), words-low most n items (omega (arith, low)))
words-low most n (Lib words ∷ items) low =
    all-append (IsLowLib most) (map (λ word. (n, word)) words) (words_from (n + 1) items) (lib-words most n words (omega (arith, low))) (words-low most (n + 1) items (omega (arith, low)))

-- ---- paths

clean-append : (a b : List ℕ) → IsClean a → IsClean b → IsClean (a ++ b)
clean-append a b first second = list_any-append (λ x. x == 0) a b ∙ or_from (has_zero a) (has_zero b) first second

places-clean : (name : List ℕ) (dirs : List (List ℕ)) → IsClean name → AllByRecursion IsClean dirs → AllByRecursion IsClean (map (λ dir. dir ++ codes "/lib" ++ name ++ codes ".so") dirs)
places-clean name [] own all = tt
places-clean name (dir ∷ dirs) own (here, more) =
    (clean-append (dir ++ codes "/lib" ++ name) (codes ".so") (clean-append (dir ++ codes "/lib") name (clean-append dir (codes "/lib") here refl) own) refl, places-clean name dirs own more)

candidates-clean : (c : Command) (name : List ℕ) → IsClean name → AllByRecursion IsClean c.dirs → AllByRecursion IsClean (candidates_of c name)
unfolding candidates_of
candidates-clean c name own dirs = places-clean name (c.dirs ++ standard_dirs) own (all-append IsClean c.dirs standard_dirs dirs (refl, (refl, tt)))

path-clean : (c : Command) (files : FileMap) (word : Word) (path : List ℕ) → IsClean word.text → AllByRecursion IsClean c.dirs → path_of c files word ≡ Some path → IsClean path
unfolding path_of
path-clean c files word path own dirs e = find-all IsClean (is_there files) (places_of c word) path (go word.library) e
  where
    go : (b : Bool) → AllByRecursion IsClean (if b then candidates_of c word.text else word.text ∷ [])
    go true = candidates-clean c word.text own dirs
    go false = (own, tt)

-- ---- the files that are found

record FoundFits (found : FoundInput) : Type 0 where
  lib : found.lib < 2 ^ 32
  path : IsClean found.path
  file : FileFits found.file

found-fits : (c : Command) (files : FileMap) (row : ℕ × Word) (found : FoundInput) → FilesFit files → AllByRecursion IsClean c.dirs → row.0 < 2 ^ 32 → IsClean row.1.text
    → found_in c files row ≡ Some found → FoundFits found
found-fits c files row found all dirs lib own e =
    let path = and-then (path_of c files row.1) (found_at files row) found e in
    let made : FileRow → FoundInput = λ file. record { lib = row.0; word = row.1; path = path.0; file = file } in
    let file = found-in-map made (files path.0) found path.1.1 in
    subst FoundFits file.1.1 (record { lib = lib; path = path-clean c files row.1 path.0 own dirs path.1.0; file = all path.0 file.0 file.1.0 })

-- ---- an input

same-bytes : (bytes : List ℕ) → (elf_of bytes).bytes ≡ bytes
unfolding elf_of elf_under elf_with
same-bytes bytes = refl

bytes-are : (file : FileRow) → FileFits file → AreBytes file.bytes
bytes-are file fits = recursion_from_All (λ b. b < 256) file.bytes fits.bytes

file-low : (file : FileRow) → FileFits file → length (elf_of file.bytes).bytes < 2 ^ 32 → IsLowElf (elf_of file.bytes)
file-low file fits short = elf-low file.bytes (bytes-are file fits) (subst (λ l. length l < 2 ^ 32) (same-bytes file.bytes) short)

summary-fits : (shared : Bool) (path : List ℕ) (elf : Elf) → IsClean path → IsLowElf elf → SummaryFits (summary_by shared path elf)
summary-fits true path elf clean low = shared-fits path elf clean low
summary-fits false path elf clean low = object-fits elf low

abbrev AllOther : List PieceInfo → Type 0
AllOther ps = AllByRecursion (λ (p : PieceInfo). is_record_name p.name ≡ false) ps

object-pieces : (elf : Elf) → (summary_in elf).pieces ≡ pieces_in elf
unfolding summary_in
object-pieces elf = refl

shared-pieces : (path : List ℕ) (elf : Elf) → (shared_summary_in path elf).pieces ≡ []
unfolding shared_summary_in
shared-pieces path elf = refl

names-other : (shared : Bool) (path bytes : List ℕ) → (shared ≡ false → object_fault bytes ≡ None) → AllOther (summary_by shared path (elf_of bytes)).pieces
names-other true path bytes none = subst AllOther (sym (shared-pieces path (elf_of bytes))) tt
names-other false path bytes none = subst AllOther (sym (object-pieces (elf_of bytes))) (pieces-other bytes (none refl))

input-fits : (earlier : ℕ) (found : FoundInput) → FoundFits found → earlier < 2 ^ 32 → IsSound (input_with earlier found (elf_of found.file.bytes))
    → InputFits (input_with earlier found (elf_of found.file.bytes)) × HasOtherNames (input_with earlier found (elf_of found.file.bytes))
input-fits earlier found fits few sound =
    let bytes = found.file.bytes in
    let shared = is_read_as_shared found.lib bytes in
    let low = file-low found.file fits.file sound.size in
    let is = same-bytes bytes in
    let none : shared ≡ false → object_fault bytes ≡ None = subst (λ l. is_read_as_shared found.lib l ≡ false → object_fault l ≡ None) is sound.fault in (
      record {
        path = fits.path;
        occurrence = few;
        lib = fits.lib;
        stamp = fits.file.stamp;
        summary = summary-fits shared found.path (elf_of bytes) fits.path low;
      },
      names-other shared found.path bytes none,
    )

-- ---- all inputs

after-fit : (earlier : List (List ℕ)) (founds : List FoundInput) → length earlier + length founds < 2 ^ 32 → AllByRecursion FoundFits founds → AllByRecursion IsSound (inputs_after earlier founds)
    → AllByRecursion (λ (i : Input). InputFits i × HasOtherNames i) (inputs_after earlier founds)
unfolding inputs_after
after-fit earlier [] few fits sound = tt
after-fit earlier (found ∷ founds) few (here, more) (own, others) =
    let passing = length-passing (bytes_eq found.path) earlier in (
      input-fits (count_of found.path earlier) found here (omega (arith, few, passing)) own,
      after-fit (found.path ∷ earlier) founds (omega (arith, few)) more others,
    )

length-after : (earlier : List (List ℕ)) (founds : List FoundInput) → length (inputs_after earlier founds) ≡ length founds
unfolding inputs_after
length-after earlier [] = refl
length-after earlier (found ∷ founds) = ap suc (length-after (found.path ∷ earlier) founds)

pub inputs-of-commands-fit : InputsOfCommandsFit
unfolding inputs_of
inputs-of-commands-fit c files own all sound =
    let words = input_words c in
    let items = own.items in
    let count = own.count in
    let founds = filter_map (found_in c files) words in
    let libs = words-low (2 ^ 32) 1 c.items (omega (arith, items)) in
    let rows = all-both (IsLowLib (2 ^ 32)) (λ (row : ℕ × Word). IsClean row.1.text) words libs own.words in
    let fits : AllByRecursion FoundFits founds =
    all-found (λ (row : ℕ × Word). IsLowLib (2 ^ 32) row × IsClean row.1.text) FoundFits (found_in c files) words
    (λ row good found e. found-fits c files row found all own.dirs good.0 good.1 e) rows in
    let few = length-found (found_in c files) words in
    let long = length-after [] founds in
    let both = after-fit [] founds (omega (arith, few, count)) fits sound in
    record {
      options = own.options;
      count = omega (arith, few, count, long);
      inputs = all-first InputFits HasOtherNames (inputs_after [] founds) both;
      names = all-second InputFits HasOtherNames (inputs_after [] founds) both;
    }
