-- The names in the string table of a dynamic link end in it.
use Rattle.std.specs.Prelude.{◌≡◌, ℕ, zero, suc, Bool, true, false, List, [], ◌∷◌, ◌++◌, Option, Some, None, ◌+◌, ◌*◌, ◌/◌, ◌^◌, ◌<◌, ◌≤◌, ◌==◌, drop, filter_map, flat_map, is_some, length, map, option_map, unwrap_or, zip, refl}
use Rattle.std.specs.Bool.{then_some}
use Rattle.std.specs.List.{AllByRecursion, before_first, enumerate_from, list_all, list_any, range_with_len, slice_get}
use Rattle.std.specs.Str.{bytes_eq}
use Rattle.std.proofs.Common.{ap, append_assoc, arith, length-append, subst, sym, ◌∙◌}
use Rattle.std.proofs.lemmas.Bool.{both_ways, or_left, or_right}
use Rattle.std.proofs.lemmas.List.{append-nil}
use Rattle.std.proofs.lemmas.List.Folds.{list_any-append}
use Rattle.std.proofs.lemmas.Slice.Eq.{bytes_eq-Decides}
use Rattle.lk_elf.specs.Fields.{bytes_of, number_of}
use Rattle.lk_elf.specs.Records.{sym_at, sym_bytes}
use Rattle.lk_elf.specs.declared.symbol.Sym.{Sym}
use Rattle.lk_elf.proofs.Writing.{num_within, number_of-bytes_of}
use Rattle.lk_model.specs.DynamicNames.{RankedName, dynamic_name_texts, dynamic_names, dynamic_rows, name_rows}
use Rattle.lk_model.specs.DynamicSymbols.{dynsym_bytes, dynsym_entries, copy_entry, dynsym_entry, entry_by_winner, import_entry, undefined_entry}
use Rattle.lk_model.specs.DynamicTexts.{dynamic_texts, needed_names}
use Rattle.lk_model.specs.Loads.{LoadedSymbol, loaded_symbol, loaded_symbols, text_of_table}
use Rattle.lk_model.specs.Numbered.{is_number_in}
use Rattle.lk_model.specs.SymbolEntries.{common_entry, definition_entry, null_entry}
use Rattle.lk_model.specs.SymbolValues.{name_of, symbol_of, winner_of_name}
use Rattle.lk_model.specs.Texts.{offset_in, table_bytes}
use Rattle.lk_model.specs.Views.{Resolved}
use Rattle.lk_model.specs.declared.layouts.Placement.{Placement}
use Rattle.lk_model.specs.declared.summaries.Contributions.{Contributions}
use Rattle.lk_model.specs.declared.summaries.Global.{Global}
use Rattle.lk_model.specs.declared.summaries.Winner.{Winner}
use Rattle.lk_model.specs.declared.summaries.Winner.TheVariants as winner
use Rattle.lk_model.proofs.KeysFound.{any_right}
use Rattle.lk_model.proofs.Rising.{all_filter, all_map, all_of_map}
use Rattle.lk_law_placement.proofs.DistinctLists.{all_both, all_mapped}
use Rattle.lk_law_records.proofs.Texts.{in-table, offset-below}
use Rattle.lk_law_loads.proofs.RecordsBack.{ReadsAs, flat_length, records_back}

-- ---- texts end in their table

-- bytes that end with a zero
record EndsWithZero (bytes : List ℕ) : Type 0 where
  start : List ℕ
  is : bytes ≡ start ++ 0 ∷ []

table_ends : (t : List ℕ) (ts : List (List ℕ)) → EndsWithZero (table_bytes (t ∷ ts))
unfolding table_bytes
table_ends t [] = record { start = t; is = append-nil (t ++ 0 ∷ []) }
table_ends t (u ∷ us) =
    let rest = table_ends u us in
    record { start = (t ++ 0 ∷ []) ++ rest.start; is = ap (λ l. (t ++ 0 ∷ []) ++ l) rest.is ∙ sym (append_assoc (t ++ 0 ∷ []) rest.start (0 ∷ [])) }

zero_left : (start : List ℕ) (k : ℕ) → k < length start + 1 → list_any (λ b. b == 0) (drop k (start ++ 0 ∷ [])) ≡ true
zero_left [] zero inside = refl
zero_left [] (suc k) inside = absurd (omega (arith, inside))
zero_left (b ∷ bs) zero inside = or_right (b == 0) (list_any (λ c. c == 0) (bs ++ 0 ∷ [])) (zero_left bs zero (omega arith))
zero_left (b ∷ bs) (suc k) inside = zero_left bs k (omega (arith, inside))

some_then : {X : Type 0} (b : Bool) (x : X) → b ≡ true → is_some (then_some b x) ≡ true
some_then true x e = refl
some_then false x e = absurd (both_ways false refl e)

-- a text that begins in the table ends in it
pub closes : (texts : List (List ℕ)) (k : ℕ) → k < length (table_bytes texts) → is_some (text_of_table (table_bytes texts) k) ≡ true
unfolding table_bytes
closes [] k inside = absurd (omega (arith, inside))
closes (t ∷ ts) k inside =
    let ends = table_ends t ts in
    let size : length (table_bytes (t ∷ ts)) ≡ length ends.start + 1 = ap length ends.is ∙ length-append ends.start (0 ∷ []) in
    let zero_there : list_any (λ b. b == 0) (drop k (table_bytes (t ∷ ts))) ≡ true =
    ap (λ l. list_any (λ b. b == 0) (drop k l)) ends.is ∙ zero_left ends.start k (omega (arith, inside, size)) in
    some_then (list_any (λ b. b == 0) (drop k (table_bytes (t ∷ ts)))) (before_first (λ b. b == 0) (drop k (table_bytes (t ∷ ts)))) zero_there

-- ---- which texts the table has

abbrev pub HasText : Resolved → List ℕ → Type 0
HasText r text = list_any (bytes_eq text) (dynamic_texts r) ≡ true

among : (before xs : List (List ℕ)) → AllByRecursion (λ x. list_any (bytes_eq x) (before ++ xs) ≡ true) xs
among before [] = tt
among before (x ∷ xs) =
    let own : bytes_eq x x ≡ true = (bytes_eq-Decides x x).1 refl in (
      any_right (bytes_eq x) before (x ∷ xs) (or_left (bytes_eq x x) (list_any (bytes_eq x) xs) own),
      subst (λ ts. AllByRecursion (λ y. list_any (bytes_eq y) ts ≡ true) xs) (append_assoc before (x ∷ []) xs) (among (before ++ x ∷ []) xs),
    )

any_left : (p : List ℕ → Bool) (xs ys : List (List ℕ)) → list_any p xs ≡ true → list_any p (xs ++ ys) ≡ true
any_left p xs ys there = list_any-append p xs ys ∙ or_left (list_any p xs) (list_any p ys) there

-- the texts of the dynamic names, those of needed names, and the run path
names_there : (r : Resolved) → AllByRecursion (HasText r) (dynamic_name_texts r)
unfolding dynamic_texts
names_there r =
    all_map {P = λ x. list_any (bytes_eq x) (dynamic_name_texts r) ≡ true}
    (λ x there. in-table (dynamic_name_texts r ++ needed_names r ++ r.options.runpath ∷ []) x
    (any_left (bytes_eq x) (dynamic_name_texts r ++ needed_names r) (r.options.runpath ∷ []) (any_left (bytes_eq x) (dynamic_name_texts r) (needed_names r) there)))
    (dynamic_name_texts r) (among [] (dynamic_name_texts r))

pub needed_there : (r : Resolved) → AllByRecursion (HasText r) (needed_names r)
unfolding dynamic_texts
needed_there r =
    all_map {P = λ x. list_any (bytes_eq x) (dynamic_name_texts r ++ needed_names r) ≡ true}
    (λ x there. in-table (dynamic_name_texts r ++ needed_names r ++ r.options.runpath ∷ []) x (any_left (bytes_eq x) (dynamic_name_texts r ++ needed_names r) (r.options.runpath ∷ []) there))
    (needed_names r) (among (dynamic_name_texts r) (needed_names r))

runpath_there : (r : Resolved) → HasText r r.options.runpath
unfolding dynamic_texts
runpath_there r =
    let path = r.options.runpath in
    in-table (dynamic_name_texts r ++ needed_names r ++ path ∷ []) path
    (any_right (bytes_eq path) (dynamic_name_texts r ++ needed_names r) (path ∷ []) (or_left (bytes_eq path path) false ((bytes_eq-Decides path path).1 refl)))

pub text_below : (r : Resolved) (text : List ℕ) → HasText r text → offset_in (dynamic_texts r) text < length (table_bytes (dynamic_texts r))
text_below r text there = offset-below (dynamic_texts r) text there

pub some_text : (r : Resolved) → 0 < length (table_bytes (dynamic_texts r))
some_text r = let below = text_below r r.options.runpath (runpath_there r) in omega (arith, below)

-- ---- the name of a dynamic name's number

-- each name is at its number
numbered_names : {Y : Type 0} (all xs : List Contributions) (ys : List Y) (i : ℕ) → ((j : ℕ) → slice_get all (i + j) ≡ slice_get xs j) → AllByRecursion (λ (x : ℕ × (Contributions × Y)). slice_get all x.0 ≡ Some x.1.0) (enumerate_from i (zip xs ys))
numbered_names all [] ys i at = tt
numbered_names all (x ∷ xs) [] i at = tt
numbered_names all (x ∷ xs) (y ∷ ys) i at =
    let same : i + 0 ≡ i = omega arith in (
      ap (slice_get all) (sym same) ∙ at 0,
      numbered_names all xs ys (i + 1) (λ j. let next : i + 1 + j ≡ i + suc j = omega arith in ap (slice_get all) next ∙ at (suc j)),
    )

abbrev IsNumbered : Resolved → RankedName → Type 0
IsNumbered r x = slice_get r.names x.0 ≡ Some x.1.0

rows_numbered : (r : Resolved) → AllByRecursion (IsNumbered r) (name_rows r)
rows_numbered r = numbered_names r.names r.names (zip r.winners r.visibilities) 0 (λ j. let same : 0 + j ≡ j = omega arith in ap (slice_get r.names) same)

dynamic_numbered : (r : Resolved) → r.options.dynamic ≡ true → AllByRecursion (IsNumbered r) (dynamic_rows r)
unfolding dynamic_rows
dynamic_numbered r e = rw e (all_filter (IsNumbered r) _ (name_rows r) (rows_numbered r))

name_at : (r : Resolved) (n : ℕ) (c : Contributions) → slice_get r.names n ≡ Some c → name_of r n ≡ c.name
name_at r n c e = ap (λ (o : Option Contributions). elim o [ None ↦ [] | Some c ↦ c.name ]) e

-- the names of the dynamic names' numbers are in the table
pub numbers_named : (r : Resolved) → r.options.dynamic ≡ true → AllByRecursion (λ n. HasText r (name_of r n)) (dynamic_names r)
unfolding dynamic_names
numbers_named r e =
    all_mapped (λ (x : RankedName). x.0) (λ n. HasText r (name_of r n)) (dynamic_rows r)
    (all_both {R = λ (x : RankedName). HasText r (name_of r x.0)}
    (λ x numbered there. subst (HasText r) (sym (name_at r x.0 x.1.0 numbered)) there)
    (dynamic_rows r) (dynamic_numbered r e) (all_of_map (λ (x : RankedName). x.1.0.name) (HasText r) (dynamic_rows r) (names_there r)))

-- ---- symbols

-- the name of a symbol begins in a table of so many bytes
abbrev Begins : ℕ → Sym → Type 0
Begins size symbol = symbol.st_name < size

import_begins : (r : Resolved) (place : Placement) (size n text : ℕ) (g : Global) (copied : Bool) → text < size → is_number_in r.needs.copies n ≡ copied → Begins size (import_entry r place text n g)
unfolding copy_entry undefined_entry
import_begins r place size n text g true below e = rw e below
import_begins r place size n text g false below e = rw e below

entry_begins :
    (r : Resolved) (place : Placement) (size n text : ℕ) (w : Winner)
    → text < size
    → Begins size (unwrap_or (entry_by_winner r place text n w) null_entry)
unfolding definition_entry common_entry
entry_begins r place size n text (winner.Strong i k) below = go (symbol_of r i k)
  where
    go : (o : Option Global) → Begins size (unwrap_or (option_map (definition_entry r place text n i) o) null_entry)
    go None = omega (arith, below)
    go (Some g) = below
entry_begins r place size n text (winner.Weak i k) below = go (symbol_of r i k)
  where
    go : (o : Option Global) → Begins size (unwrap_or (option_map (definition_entry r place text n i) o) null_entry)
    go None = omega (arith, below)
    go (Some g) = below
entry_begins r place size n text (winner.Common bytes align) below = below
entry_begins r place size n text (winner.Import i k) below = go (symbol_of r i k)
  where
    go : (o : Option Global) → Begins size (unwrap_or (option_map (import_entry r place text n) o) null_entry)
    go None = omega (arith, below)
    go (Some g) = import_begins r place size n text g (is_number_in r.needs.copies n) below refl
entry_begins r place size n text winner.Made below = omega (arith, below)
entry_begins r place size n text winner.Nothing below = omega (arith, below)

-- those of all entries of a dynamic link
entries_begin : (r : Resolved) (place : Placement) → r.options.dynamic ≡ true → AllByRecursion (Begins (length (table_bytes (dynamic_texts r)))) (dynsym_entries r place)
unfolding dynsym_entries
entries_begin r place e = (
  some_text r,
  all_mapped (dynsym_entry r place (dynamic_texts r)) (Begins (length (table_bytes (dynamic_texts r)))) (dynamic_names r)
      (all_map {Q = λ n. Begins (length (table_bytes (dynamic_texts r))) (dynsym_entry r place (dynamic_texts r) n)}
      (λ n there. entry_begins r place (length (table_bytes (dynamic_texts r))) n (offset_in (dynamic_texts r) (name_of r n)) (winner_of_name r n) (text_below r (name_of r n) there))
      (dynamic_names r) (numbers_named r e)),
)

-- ---- symbols read back

-- the number that four bytes hold of one
abbrev short : ℕ → ℕ
short n = number_of (bytes_of 4 n)

some_mapped : {X Y : Type 0} (f : X → Y) (o : Option X) → is_some (option_map f o) ≡ is_some o
some_mapped f None = refl
some_mapped f (Some x) = refl

symbol_name : (at : ℕ) (pre post : List ℕ) (s : Sym) → length pre ≡ at → (sym_at (pre ++ sym_bytes s ++ post) at).st_name ≡ short s.st_name
unfolding sym_at sym_bytes bytes_of
symbol_name at pre post s long = num_within at 0 at 4 pre (sym_bytes s) post long (omega arith)

-- whether a name ends in the string table
abbrev ends_in : List ℕ → Sym → Bool
ends_in strings s = is_some (text_of_table strings (short s.st_name))

symbol_read : (strings : List ℕ) → ReadsAs sym_bytes (λ bytes at. is_some (loaded_symbol strings (sym_at bytes at))) (ends_in strings)
symbol_read strings at pre post s long =
    some_mapped _ (text_of_table strings (sym_at (pre ++ sym_bytes s ++ post) at).st_name)
    ∙ ap (λ n. is_some (text_of_table strings n)) (symbol_name at pre post s long)

symbol_wide : (s : Sym) → length (sym_bytes s) ≡ 24
unfolding sym_bytes bytes_of
symbol_wide s = refl

all_tested : {X Y : Type 0} (f : X → Option Y) (xs : List X) → list_all is_some (map f xs) ≡ list_all (λ (b : Bool). b) (map (λ x. is_some (f x)) xs)
all_tested f [] = refl
all_tested f (x ∷ xs) = rw (all_tested f xs) refl

all_there : (test : Sym → Bool) (xs : List Sym) → AllByRecursion (λ s. test s ≡ true) xs → list_all (λ (b : Bool). b) (map test xs) ≡ true
all_there test [] all = refl
all_there test (x ∷ xs) all = rw (all.0) (all_there test xs all.1)

part : (n size : ℕ) → size ≡ 24 * n → size / 24 ≡ n
part n size e = omega (arith, e)

-- all symbols of a dynamic link are read
pub symbols_read :
    (r : Resolved) (place : Placement)
    → r.options.dynamic ≡ true
    → length (table_bytes (dynamic_texts r)) ≤ 2 ^ 31
    → is_some (loaded_symbols (table_bytes (dynamic_texts r)) (dynsym_bytes r place)) ≡ true
unfolding dynsym_bytes
symbols_read r place e few =
    let strings : List ℕ = table_bytes (dynamic_texts r) in
    let xs : List Sym = dynsym_entries r place in
    let bytes : List ℕ = flat_map sym_bytes xs in
    let read : ℕ → Option LoadedSymbol = λ k. loaded_symbol strings (sym_at bytes (24 * k)) in
    let count : length bytes / 24 ≡ length xs = part (length xs) (length bytes) (flat_length 24 sym_bytes symbol_wide xs) in
    let back : map (λ k. is_some (read k)) (range_with_len 0 (length xs)) ≡ map (ends_in strings) xs =
    records_back 24 sym_bytes (λ l at. is_some (loaded_symbol strings (sym_at l at))) (ends_in strings) symbol_wide (symbol_read strings) xs in
    let ended : AllByRecursion (λ s. ends_in strings s ≡ true) xs =
    all_map {Q = λ s. ends_in strings s ≡ true} (λ s begins. name_ends s begins) xs (entries_begin r place e) in
    let all : list_all is_some (map read (range_with_len 0 (length bytes / 24))) ≡ true =
    ap (λ n. list_all is_some (map read (range_with_len 0 n))) count
    ∙ (all_tested read (range_with_len 0 (length xs))
    ∙ (ap (list_all (λ (b : Bool). b)) back ∙ all_there (ends_in strings) xs ended)) in
    some_then (list_all is_some (map read (range_with_len 0 (length bytes / 24)))) (filter_map (λ x. x) (map read (range_with_len 0 (length bytes / 24)))) all
  where
    name_ends : (s : Sym) → Begins (length (table_bytes (dynamic_texts r))) s → ends_in (table_bytes (dynamic_texts r)) s ≡ true
    name_ends s begins =
        let same : short s.st_name ≡ s.st_name = number_of-bytes_of 4 s.st_name (omega (arith, begins, few)) in
        ap (λ n. is_some (text_of_table (table_bytes (dynamic_texts r)) n)) same ∙ closes (dynamic_texts r) s.st_name begins
