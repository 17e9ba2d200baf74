-- The faults of the rows, one after another, are the model's.
use Rattle.std.proofs.Common.{◌≡◌, refl, sym, ap, ◌∙◌, ℕ, zero, suc, ◌+◌, add-one, Bool, true, false, cond, List, [], ◌∷◌, ◌++◌, map, flat_map, filter, zip, drop, Option, None, Some, option_map, option_and_then, slice_get}
use Rattle.std.proofs.lemmas.List.{append_assoc}
use Rattle.std.proofs.lemmas.Option.{slice_get-map}
use Rattle.lk_report.specs.declared.faults.Fault.{Fault}
use Rattle.lk_report.specs.declared.faults.Fault.TheVariants as fault
use Rattle.lk_model.specs.declared.summaries.Contribution.{Contribution}
use Rattle.lk_model.specs.declared.summaries.Contributions.{Contributions}
use Rattle.lk_model.specs.declared.summaries.Winner.{Winner}
use Rattle.lk_model.specs.Finding.{Found, number_among, path_in}
use Rattle.lk_model.specs.ResolveFaults.{doubled, faults_of, has_entry, multiple_definitions, tls_mismatches}
use Rattle.lk_model.specs.Symbols.{is_strong_definition}
use Rattle.lk_model.specs.Winners.{is_in_object}
use Rattle.lk_resolve.specs.RowFaults.{doubled_in, doubled_on, faults_in, is_some_in_object, mismatched_in, of_row}
use Rattle.lk_symtab.specs.NameRows.{NameRow, all_symbols, number_of, row_winner, symbols_in}

-- what the table has of a row that is there
pub doubled_of : (paths : List (List ℕ)) (o : Option NameRow) (cs : Contributions) → option_map symbols_in o ≡ Some cs → doubled_on paths cs.name None cs.list ≡ of_row (doubled_in paths) o
doubled_of paths None cs e = absurd (cc)
doubled_of paths (Some row) cs e =
    let same : row.contributions ≡ cs = cc in
    ap (λ (x : Contributions). doubled_on paths x.name None x.list) (sym same)

pub mismatched_of : (o : Option NameRow) (cs : Contributions) (w : Winner) → option_map symbols_in o ≡ Some cs → option_map row_winner o ≡ Some w → tls_mismatches (cs, w) ≡ of_row mismatched_in o
mismatched_of None cs w e f = absurd (cc)
mismatched_of (Some row) cs w e f =
    let same : row.contributions ≡ cs = cc in
    let wins : row_winner row ≡ w = cc in
    λ i. tls_mismatches (sym same i, sym wins i)

pub in_object_of : (o : Option NameRow) (w : Winner) → option_map row_winner o ≡ Some w → is_in_object w ≡ is_some_in_object o
in_object_of None w e = absurd (cc)
in_object_of (Some row) w e =
    let wins : row_winner row ≡ w = cc in
    ap is_in_object (sym wins)

-- the faults of the next row
next_row : (f : NameRow → List Fault) (rows : List NameRow) (n : ℕ) → flat_map f (drop n rows) ≡ of_row f (slice_get rows n) ++ flat_map f (drop (suc n) rows)
next_row f [] zero = refl
next_row f [] (suc n) = refl
next_row f (row ∷ rows) zero = refl
next_row f (row ∷ rows) (suc n) = next_row f rows n

pub noted_next : (f : NameRow → List Fault) (faults new whole : List Fault) (rows : List NameRow) (n : ℕ) → new ≡ faults ++ of_row f (slice_get rows n) → faults ++ flat_map f (drop n rows) ≡ whole → new ++ flat_map f (drop (n + 1) rows) ≡ whole
noted_next f faults new whole rows n noted h =
    ap (λ l. l ++ flat_map f (drop (n + 1) rows)) noted
    ∙ append_assoc faults (of_row f (slice_get rows n)) (flat_map f (drop (n + 1) rows))
    ∙ ap (λ m. faults ++ (of_row f (slice_get rows n) ++ flat_map f (drop m rows))) (add-one n)
    ∙ ap (λ l. faults ++ l) (sym (next_row f rows n))
    ∙ h

-- later strong definitions against the first
doubled_after : (found : Found) (name : List ℕ) (first : ℕ) (cs : List Contribution)
    → doubled_on found.paths name (Some first) cs ≡ map (λ (c : Contribution). fault.MultipleDefinition name (path_in found first) (path_in found c.input)) (filter is_strong_definition cs)
doubled_after found name first [] = refl
doubled_after found name first (c ∷ cs) = by (is_strong_definition c) (doubled_after found name first cs)
  where
    later : List Contribution
    later = filter is_strong_definition cs

    reported : Contribution → Fault
    reported d = fault.MultipleDefinition name (path_in found first) (path_in found d.input)

    by : (b : Bool) → doubled_on found.paths name (Some first) cs ≡ map reported later → cond b (reported c ∷ []) [] ++ doubled_on found.paths name (Some first) cs ≡ map reported (cond b (c ∷ later) later)
    by true h = ap (λ l. reported c ∷ l) h
    by false h = h

doubled_is : (found : Found) (name : List ℕ) (cs : List Contribution) → doubled_on found.paths name None cs ≡ doubled found name (filter is_strong_definition cs)
doubled_is found name [] = refl
doubled_is found name (c ∷ cs) = by (is_strong_definition c) (doubled_after found name c.input cs) (doubled_is found name cs)
  where
    later : List Contribution
    later = filter is_strong_definition cs

    by : (b : Bool) → doubled_on found.paths name (Some c.input) cs ≡ map (λ (d : Contribution). fault.MultipleDefinition name (path_in found c.input) (path_in found d.input)) later → doubled_on found.paths name None cs ≡ doubled found name later
        → doubled_on found.paths name (cond b (Some c.input) None) cs ≡ doubled found name (cond b (c ∷ later) later)
    by true h k = h
    by false h k = k

all_doubled : (found : Found) (rows : List NameRow) → flat_map (doubled_in found.paths) rows ≡ flat_map (multiple_definitions found) (all_symbols rows)
all_doubled found [] = refl
all_doubled found (row ∷ rows) = λ i. doubled_is found row.contributions.name row.contributions.list i ++ all_doubled found rows i

all_mismatched : (rows : List NameRow) → flat_map mismatched_in rows ≡ flat_map tls_mismatches (zip (all_symbols rows) (map row_winner rows))
all_mismatched [] = refl
all_mismatched (row ∷ rows) = ap (λ l. mismatched_in row ++ l) (all_mismatched rows)

-- the winner of the entry
is_some_winner : Option Winner → Bool
is_some_winner o = elim o [ None ↦ false | Some w ↦ is_in_object w ]

winner-some : (o : Option NameRow) → is_some_in_object o ≡ is_some_winner (option_map row_winner o)
unfolding is_some_winner
winner-some None = refl
winner-some (Some row) = refl

entry-some : (rows : List NameRow) (o : Option ℕ) → is_some_in_object (option_and_then (slice_get rows) o) ≡ is_some_winner (option_and_then (slice_get (map row_winner rows)) o)
unfolding is_some_winner
entry-some rows None = refl
entry-some rows (Some n) = winner-some (slice_get rows n) ∙ ap is_some_winner (sym (slice_get-map row_winner rows n))

entry_is : (found : Found) (rows : List NameRow) → found.names ≡ all_symbols rows → found.winners ≡ map row_winner rows → is_some_in_object (option_and_then (slice_get rows) (number_of rows found.entry)) ≡ has_entry found
unfolding is_some_winner
entry_is found rows names winners =
    entry-some rows (number_of rows found.entry)
    ∙ (λ i. is_some_winner (option_and_then (slice_get (sym winners i)) (number_among (sym names i) found.entry)))

pub faults_are : (found : Found) (rows : List NameRow) → found.names ≡ all_symbols rows → found.winners ≡ map row_winner rows → faults_in found.paths found.entry rows ≡ faults_of found
unfolding faults_of
faults_are found rows names winners =
    let multiple = all_doubled found rows ∙ ap (flat_map (multiple_definitions found)) (sym names) in
    let mismatched = all_mismatched rows ∙ (λ i. flat_map tls_mismatches (zip (sym names i) (sym winners i))) in
    let entry = entry_is found rows names winners in
    λ i. multiple i ++ mismatched i ++ cond (entry i) [] (fault.NoEntry found.entry ∷ [])
