-- The dynamic names, their texts and the copies are those of lk_model.
use Rattle.std.proofs.Common.{◌≡◌, refl, sym, ap, ◌∙◌, arith, ℕ, zero, suc, ◌+◌, add-zero, zero-add, nat_eq, Bool, true, false, ◌||◌, cond, if◌then◌else◌, List, [], ◌∷◌, ◌++◌, length, map, filter, flat_map, zip, Some, slice_get, Result, Ok, Err, IfOk}
use Rattle.std.specs.Cmp.{nat_eq_equiv}
use Rattle.std.specs.List.{enumerate_from, list_any, range_with_len}
use Rattle.std.proofs.lemmas.List.Folds.{list_any-append}
use Rattle.lk_report.specs.declared.causes.OptionRecord.{OptionRecord}
use Rattle.lk_report.specs.declared.memory.NoMemory.{NoMemory}
use Rattle.lk_model.specs.declared.layouts.GotKey.{GotKey}
use Rattle.lk_model.specs.declared.layouts.GotOwner.{GotOwner}
use Rattle.lk_model.specs.declared.layouts.GotOwner.TheVariants as owner
use Rattle.lk_model.specs.declared.layouts.Needs.{Needs}
use Rattle.lk_model.specs.declared.summaries.Contributions.{Contributions}
use Rattle.lk_model.specs.declared.summaries.InputSummary.{InputSummary}
use Rattle.lk_model.specs.declared.summaries.Winner.{Winner}
use Rattle.lk_model.specs.declared.summaries.Winner.TheVariants as winner
use Rattle.lk_model.specs.DynamicNames.{RankedName, dynamic_name_texts, dynamic_names, dynamic_rows, is_dynamic_name, is_needed_import, is_slot_of_name, name_rows}
use Rattle.lk_model.specs.DynamicSlots.{copied_names}
use Rattle.lk_model.specs.Numbered.{is_number_in}
use Rattle.lk_model.specs.Resolving.{resolve}
use Rattle.lk_model.specs.Views.{Input, Resolved}
use Rattle.lk_resolve.specs.Given.{IsGiven}
use Rattle.lk_resolve.proofs.ListSets.{any-distinct, or_assoc}
use Rattle.lk_resolve.specs.Settling.{ResolutionValue}
use Rattle.lk_symtab.specs.NameRows.{NameRow, all_symbols, row_visibility, row_winner}
use Rattle.lk_dyn_sizes.specs.DynamicRows.{copied_in, copied_numbers, dynamic_in, is_copied_row, is_dynamic_as, is_dynamic_row, needed_numbers, numbers_where, slot_names}
use Rattle.lk_dyn_sizes.specs.DynamicStrings.{number_texts, row_texts, texts_at}
use Rattle.lk_resolve.proofs.Seen.{Sees, seen}

-- the names of slots
one_slot : (n : ℕ) (o : GotOwner) (thread : Bool) (rest : List ℕ) (later : Bool) → list_any (nat_eq n) rest ≡ later
    → list_any (nat_eq n) (slot_names (record { owner = o; thread = thread }) ++ rest) ≡ (is_slot_of_name n (record { owner = o; thread = thread }) || later)
one_slot n (owner.Global m) thread rest later h = ap (λ b. nat_eq n m || b) h
one_slot n (owner.Local i k) thread rest later h = h

slot_any : (n : ℕ) (keys : List GotKey) → list_any (nat_eq n) (flat_map slot_names keys) ≡ list_any (is_slot_of_name n) keys
slot_any n [] = refl
slot_any n (key ∷ keys) = one_slot n key.owner key.thread (flat_map slot_names keys) (list_any (is_slot_of_name n) keys) (slot_any n keys)

-- a name is among the needed ones where it has an entry, a slot or a copy
needed_is : (needs : Needs) (n : ℕ) → is_number_in (needed_numbers needs) n ≡ is_needed_import needs n
needed_is needs n =
    let slots : List ℕ = flat_map slot_names needs.got in
    any-distinct nat_eq nat_eq_equiv n (needs.plt ++ slots ++ needs.copies)
    ∙ list_any-append (nat_eq n) (needs.plt ++ slots) needs.copies
    ∙ ap (λ b. b || is_number_in needs.copies n) (list_any-append (nat_eq n) needs.plt slots)
    ∙ ap (λ b. (is_number_in needs.plt n || b) || is_number_in needs.copies n) (slot_any n needs.got)
    ∙ or_assoc (is_number_in needs.plt n) (list_any (is_slot_of_name n) needs.got) (is_number_in needs.copies n)

-- a name is among the copied ones where it is one of the needs' copies
pub copied_is : (needs : Needs) (n : ℕ) → is_number_in (copied_numbers needs) n ≡ is_number_in needs.copies n
copied_is needs n = any-distinct nat_eq nat_eq_equiv n needs.copies

-- whether a name is a dynamic one
dynamic_is : (r : Resolved) (n : ℕ) (cs : Contributions) (w : Winner) (v : ℕ) → is_dynamic_name r n cs w v ≡ is_dynamic_as (needed_numbers r.needs) r.options.export_dynamic n cs w v
dynamic_is r n cs (winner.Import i k) v = sym (needed_is r.needs n)
dynamic_is r n cs (winner.Strong i k) v = refl
dynamic_is r n cs (winner.Common size align) v = refl
dynamic_is r n cs (winner.Weak i k) v = refl
dynamic_is r n cs winner.Made v = refl
dynamic_is r n cs winner.Nothing v = refl

-- a list with one more item, or without it
picked : {A B : Type 0} (f : A → B) (b : Bool) (x : A) (rest : List A) → map f (cond b (x ∷ rest) rest) ≡ cond b (f x ∷ []) [] ++ map f rest
picked f true x rest = refl
picked f false x rest = refl

kept : {A : Type 0} (b : Bool) (x : A) (rest : List A) → cond b (x ∷ rest) rest ≡ cond b (x ∷ []) [] ++ rest
kept true x rest = refl
kept false x rest = refl

mapped_where : {A B : Type 0} (f : A → B) (b : Bool) (xs : List A) → map f (if b then xs else []) ≡ cond b (map f xs) []
mapped_where f true xs = refl
mapped_where f false xs = refl

-- the ranked names of rows, and whether one is a dynamic one
abbrev ranked_from : ℕ → List NameRow → List RankedName
ranked_from n rows = enumerate_from n (zip (all_symbols rows) (zip (map row_winner rows) (map row_visibility rows)))

abbrev is_ranked : Resolved → RankedName → Bool
is_ranked r x = is_dynamic_name r x.0 x.1.0 x.1.1.0 x.1.1.1

abbrev rank_of : RankedName → ℕ
rank_of x = x.0

abbrev name_of : RankedName → List ℕ
name_of x = x.1.0.name

-- their numbers
abbrev numbers_of : Resolved → ℕ → List NameRow → List ℕ
numbers_of r n rows = numbers_where (is_dynamic_row (needed_numbers r.needs) r.options.export_dynamic) n rows

numbers_are : (r : Resolved) (n : ℕ) (rows : List NameRow) → map rank_of (filter (is_ranked r) (ranked_from n rows)) ≡ numbers_of r n rows
numbers_are r n [] = refl
numbers_are r n (row ∷ rows) =
    let same = dynamic_is r n row.contributions (row_winner row) (row_visibility row) in
    let rest = numbers_are r (n + 1) rows in
    picked rank_of (is_dynamic_name r n row.contributions (row_winner row) (row_visibility row)) (n, (row.contributions, (row_winner row, row_visibility row))) (filter (is_ranked r) (ranked_from (n + 1) rows))
    ∙ (λ i. cond (same i) (n ∷ []) [] ++ rest i)

names_ranked : (resolution : ResolutionValue) (summaries : List InputSummary) (needs : Needs) (options : OptionRecord) (r : Resolved) → Sees resolution summaries needs options r → name_rows r ≡ ranked_from 0 resolution.rows
names_ranked resolution summaries needs options r s = λ i. enumerate_from 0 (zip (s.names i) (zip (s.winners i) (s.visibilities i)))

pub dynamic_seen : (resolution : ResolutionValue) (summaries : List InputSummary) (needs : Needs) (options : OptionRecord) (r : Resolved) → Sees resolution summaries needs options r → dynamic_names r ≡ dynamic_in resolution needs options
unfolding dynamic_names dynamic_rows
dynamic_seen resolution summaries needs options r s =
    let dynamic : r.options.dynamic ≡ resolution.dynamic = ap (λ (o : OptionRecord). o.dynamic) s.chosen in
    let rows = names_ranked resolution summaries needs options r s in
    (λ i. map rank_of (if dynamic i then filter (is_ranked r) (rows i) else []))
    ∙ mapped_where rank_of resolution.dynamic (filter (is_ranked r) (ranked_from 0 resolution.rows))
    ∙ ap (λ l. cond resolution.dynamic l []) (numbers_are r 0 resolution.rows)
    ∙ (λ i. cond resolution.dynamic (numbers_where (is_dynamic_row (needed_numbers (s.needed i)) (s.chosen i).export_dynamic) 0 resolution.rows) [])

pub dynamic_given : (resolution : ResolutionValue) (summaries : List InputSummary) (needs : Needs) (options : OptionRecord) (xs : List Input) (r : Result (List ℕ) NoMemory) → IsGiven resolution summaries needs options xs → IfOk r (λ numbers. numbers ≡ dynamic_in resolution needs options)
    → IfOk r (λ numbers. numbers ≡ dynamic_names (resolve options xs))
dynamic_given resolution summaries needs options xs (Ok numbers) given is = is ∙ sym (dynamic_seen resolution summaries needs options (resolve options xs) (seen resolution summaries needs options xs given))
dynamic_given resolution summaries needs options xs (Err want) given is = tt

-- their texts
text_here : (all : List NameRow) (n : ℕ) (row : NameRow) (b : Bool) (x : RankedName) (rest : List RankedName) → slice_get all n ≡ Some row → x.0 ≡ n → x.1.0.name ≡ row.contributions.name → texts_at all (map rank_of rest) ≡ map name_of rest
    → texts_at all (map rank_of (cond b (x ∷ rest) rest)) ≡ map name_of (cond b (x ∷ rest) rest)
text_here all n row true x rest at number name h = λ i. (ap (number_texts all) number ∙ ap row_texts at ∙ ap (λ t. t ∷ []) (sym name)) i ++ h i
text_here all n row false x rest at number name h = h

texts_are : (r : Resolved) (all : List NameRow) (n : ℕ) (rows : List NameRow) → ((k : ℕ) → slice_get all (n + k) ≡ slice_get rows k) → texts_at all (map rank_of (filter (is_ranked r) (ranked_from n rows))) ≡ map name_of (filter (is_ranked r) (ranked_from n rows))
texts_are r all n [] same = refl
texts_are r all n (row ∷ rows) same =
    let here : slice_get all n ≡ Some row = ap (slice_get all) (sym (add-zero n)) ∙ same zero in
    let later : (k : ℕ) → slice_get all (n + 1 + k) ≡ slice_get rows k = λ k. ap (slice_get all) (let e : n + 1 + k ≡ n + suc k = omega arith in e) ∙ same (suc k) in
    text_here all n row (is_dynamic_name r n row.contributions (row_winner row) (row_visibility row)) (n, (row.contributions, (row_winner row, row_visibility row))) (filter (is_ranked r) (ranked_from (n + 1) rows))
    here refl refl (texts_are r all (n + 1) rows later)

texts_where : (all : List NameRow) (b : Bool) (xs : List RankedName) → texts_at all (map rank_of xs) ≡ map name_of xs → texts_at all (cond b (map rank_of xs) []) ≡ map name_of (if b then xs else [])
texts_where all true xs h = h
texts_where all false xs h = refl

pub dynamic_texts_seen : (resolution : ResolutionValue) (summaries : List InputSummary) (needs : Needs) (options : OptionRecord) (r : Resolved) → Sees resolution summaries needs options r → dynamic_name_texts r ≡ texts_at resolution.rows (dynamic_in resolution needs options)
unfolding dynamic_rows
dynamic_texts_seen resolution summaries needs options r s =
    let dynamic : r.options.dynamic ≡ resolution.dynamic = ap (λ (o : OptionRecord). o.dynamic) s.chosen in
    let rows = names_ranked resolution summaries needs options r s in
    let chosen : List RankedName = filter (is_ranked r) (ranked_from 0 resolution.rows) in
    (λ i. map name_of (if dynamic i then filter (is_ranked r) (rows i) else []))
    ∙ sym (texts_where resolution.rows resolution.dynamic chosen (texts_are r resolution.rows 0 resolution.rows (λ k. ap (slice_get resolution.rows) (zero-add k))))
    ∙ ap (λ l. texts_at resolution.rows (cond resolution.dynamic l [])) (numbers_are r 0 resolution.rows)
    ∙ (λ i. texts_at resolution.rows (cond resolution.dynamic (numbers_where (is_dynamic_row (needed_numbers (s.needed i)) (s.chosen i).export_dynamic) 0 resolution.rows) []))

-- the copies
copies_are : (needs : Needs) (n : ℕ) (rows : List NameRow) → filter (is_number_in needs.copies) (range_with_len n (length (all_symbols rows))) ≡ numbers_where (is_copied_row (copied_numbers needs)) n rows
copies_are needs n [] = refl
copies_are needs n (row ∷ rows) =
    let same = sym (copied_is needs n) in
    let rest = copies_are needs (n + 1) rows in
    kept (is_number_in needs.copies n) n (filter (is_number_in needs.copies) (range_with_len (n + 1) (length (all_symbols rows))))
    ∙ (λ i. cond (same i) (n ∷ []) [] ++ rest i)

pub copied_seen : (resolution : ResolutionValue) (summaries : List InputSummary) (needs : Needs) (options : OptionRecord) (r : Resolved) → Sees resolution summaries needs options r → copied_names r ≡ copied_in resolution needs
copied_seen resolution summaries needs options r s =
    (λ i. filter (is_number_in (s.needed i).copies) (range_with_len 0 (length (s.names i))))
    ∙ copies_are needs 0 resolution.rows

pub copied_given : (resolution : ResolutionValue) (summaries : List InputSummary) (needs : Needs) (options : OptionRecord) (xs : List Input) (r : Result (List ℕ) NoMemory) → IsGiven resolution summaries needs options xs → IfOk r (λ numbers. numbers ≡ copied_in resolution needs)
    → IfOk r (λ numbers. numbers ≡ copied_names (resolve options xs))
copied_given resolution summaries needs options xs (Ok numbers) given is = is ∙ sym (copied_seen resolution summaries needs options (resolve options xs) (seen resolution summaries needs options xs given))
copied_given resolution summaries needs options xs (Err want) given is = tt
