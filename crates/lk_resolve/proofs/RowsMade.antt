-- The rows that the linker makes, one after another, and what they mean to the model.
use Rattle.std.proofs.Common.{◌≡◌, refl, sym, ap, ◌∙◌, arith, ℕ, zero, suc, ◌+◌, ◌≤◌, add-one, nat_eq, Bool, true, false, cond, ◌||◌, ◌&&◌, List, [], ◌∷◌, ◌++◌, map, length, drop, codes, Option, None, Some, option_map, slice_get}
use Rattle.std.specs.Cmp.Lexicographic.{nat_list_eq_equiv}
use Rattle.std.specs.List.{starts_with}
use Rattle.std.specs.Str.{bytes_eq}
use Rattle.std.proofs.lemmas.List.Folds.{list_any-append}
use Rattle.lk_model.specs.declared.summaries.Contributions.{Contributions}
use Rattle.lk_model.specs.Finding.{winners_of}
use Rattle.lk_model.specs.MadeNames.{always_made, is_bound, is_c_identifier, is_made, is_made_name}
use Rattle.lk_model.specs.Numbered.{distinct, is_text_in}
use Rattle.lk_model.specs.Winners.{visibility_of, winner_of}
use Rattle.lk_resolve.specs.MadeRows.{array_names, end_names, is_bound_in, is_made_name_in, is_row_made, made_before, rows_made, table_names, with_making}
use Rattle.lk_resolve.proofs.ListSets.{any-alike, any-distinct}
use Rattle.lk_symtab.specs.NameRows.{NameRow, all_symbols, made_row, row_referred, row_visibility, row_winner, symbols_in, with_made, with_row}
use Rattle.lk_symtab.specs.SymbolLaws.{plain_row}

-- the names that every link makes are those of the three parts
pub made_parts : (name : List ℕ) → ((is_text_in table_names name || is_text_in array_names name) || is_text_in end_names name) ≡ is_text_in always_made name
made_parts name =
    ap (λ b. b || is_text_in end_names name) (sym (list_any-append (λ t. bytes_eq t name) table_names array_names))
    ∙ sym (list_any-append (λ t. bytes_eq t name) (table_names ++ array_names) end_names)

-- one row is looked at
stays : (change : NameRow → NameRow) (rows : List NameRow) (n : ℕ) (row : NameRow) → slice_get rows n ≡ Some row → change row ≡ row → with_row change rows n ≡ rows
stays change [] n row at same = refl
stays change (r ∷ rows) zero row at same =
    let here : r ≡ row = cc in
    ap (λ x. x ∷ rows) (ap change here ∙ same ∙ sym here)
stays change (r ∷ rows) (suc n) row at same = ap (λ l. r ∷ l) (stays change rows n row at same)

alike : (change other : NameRow → NameRow) (rows : List NameRow) (n : ℕ) (row : NameRow) → slice_get rows n ≡ Some row → change row ≡ other row → with_row change rows n ≡ with_row other rows n
alike change other [] n row at same = refl
alike change other (r ∷ rows) zero row at same =
    let here : r ≡ row = cc in
    ap (λ x. x ∷ rows) (ap change here ∙ same ∙ ap other (sym here))
alike change other (r ∷ rows) (suc n) row at same = ap (λ l. r ∷ l) (alike change other rows n row at same)

-- what the table has of a row that is there
pub not_referred : (dynamic : Bool) (sections : List (List ℕ)) (rows : List NameRow) (n : ℕ) → option_map row_referred (slice_get rows n) ≡ Some false → rows ≡ with_row (with_making dynamic sections) rows n
not_referred dynamic sections rows n reports = by (slice_get rows n) refl reports
  where
    by : (o : Option NameRow) → slice_get rows n ≡ o → option_map row_referred o ≡ Some false → rows ≡ with_row (with_making dynamic sections) rows n
    by None at e = absurd (cc)
    by (Some row) at e =
        let is : row_referred row ≡ false = cc in
        sym (stays (with_making dynamic sections) rows n row at (ap (λ b. cond (b && is_made_name_in dynamic sections row.contributions.name) (made_row row) row) is))

pub not_made : (dynamic : Bool) (sections : List (List ℕ)) (rows : List NameRow) (n : ℕ) (cs : Contributions) → option_map row_referred (slice_get rows n) ≡ Some true → option_map symbols_in (slice_get rows n) ≡ Some cs → is_made_name_in dynamic sections cs.name ≡ false
    → rows ≡ with_row (with_making dynamic sections) rows n
not_made dynamic sections rows n cs reports symbols made = by (slice_get rows n) refl reports symbols
  where
    by : (o : Option NameRow) → slice_get rows n ≡ o → option_map row_referred o ≡ Some true → option_map symbols_in o ≡ Some cs → rows ≡ with_row (with_making dynamic sections) rows n
    by None at e s = absurd (cc)
    by (Some row) at e s =
        let is : row_referred row ≡ true = cc in
        let same : row.contributions ≡ cs = cc in
        let no : is_made_name_in dynamic sections row.contributions.name ≡ false = ap (λ (x : Contributions). is_made_name_in dynamic sections x.name) same ∙ made in
        sym (stays (with_making dynamic sections) rows n row at ((λ i. cond (is i && no i) (made_row row) row)))

pub made_at : (dynamic : Bool) (sections : List (List ℕ)) (rows : List NameRow) (n : ℕ) (cs : Contributions) → option_map row_referred (slice_get rows n) ≡ Some true → option_map symbols_in (slice_get rows n) ≡ Some cs → is_made_name_in dynamic sections cs.name ≡ true
    → with_made rows n ≡ with_row (with_making dynamic sections) rows n
made_at dynamic sections rows n cs reports symbols made = by (slice_get rows n) refl reports symbols
  where
    by : (o : Option NameRow) → slice_get rows n ≡ o → option_map row_referred o ≡ Some true → option_map symbols_in o ≡ Some cs → with_made rows n ≡ with_row (with_making dynamic sections) rows n
    by None at e s = absurd (cc)
    by (Some row) at e s =
        let is : row_referred row ≡ true = cc in
        let same : row.contributions ≡ cs = cc in
        let yes : is_made_name_in dynamic sections row.contributions.name ≡ true = ap (λ (x : Contributions). is_made_name_in dynamic sections x.name) same ∙ made in
        alike made_row (with_making dynamic sections) rows n row at (sym (λ i. cond (is i && yes i) (made_row row) row))

-- then all
pub made_next : (change : NameRow → NameRow) (n : ℕ) (rows : List NameRow) → with_row change (made_before change n rows) n ≡ made_before change (n + 1) rows
made_next change n rows = go n rows ∙ ap (λ m. made_before change m rows) (sym (add-one n))
  where
    go : (m : ℕ) (rs : List NameRow) → with_row change (made_before change m rs) m ≡ made_before change (suc m) rs
    go zero [] = refl
    go zero (r ∷ rs) = refl
    go (suc m) [] = refl
    go (suc m) (r ∷ rs) = ap (λ l. change r ∷ l) (go m rs)

pub made_all : (change : NameRow → NameRow) (n : ℕ) (rows : List NameRow) → length rows ≤ n → made_before change n rows ≡ map change rows
made_all change zero [] fits = refl
made_all change zero (r ∷ rows) fits = absurd (omega arith)
made_all change (suc n) [] fits = refl
made_all change (suc n) (r ∷ rows) fits = ap (λ l. change r ∷ l) (made_all change n rows (omega arith))

pub made_length : (change : NameRow → NameRow) (n : ℕ) (rows : List NameRow) → length (made_before change n rows) ≡ length rows
made_length change zero rows = refl
made_length change (suc n) [] = refl
made_length change (suc n) (r ∷ rows) = ap suc (made_length change n rows)

-- the model's test looks at all names of sections
bound_is : (prefix : List ℕ) (sections : List (List ℕ)) (name : List ℕ) → is_bound_in prefix (distinct bytes_eq sections) name ≡ is_bound prefix sections name
bound_is prefix sections name =
    let rest : List ℕ = drop (length prefix) name in
    ap (λ b. starts_with nat_eq name prefix && (is_c_identifier rest && b)) (any-distinct bytes_eq nat_list_eq_equiv rest sections ∙ any-alike (bytes_eq rest) (λ t. bytes_eq t rest) (λ t. nat_list_eq_equiv.symm rest t) sections)

pub made_is : (dynamic : Bool) (sections : List (List ℕ)) (cs : Contributions) → is_row_made dynamic (distinct bytes_eq sections) (plain_row cs) ≡ is_made dynamic sections cs
made_is dynamic sections cs =
    ap (λ b. row_referred (plain_row cs) && b) names ∙ and_swap (row_referred (plain_row cs)) (is_made_name dynamic sections cs.name)
  where
    names : is_made_name_in dynamic (distinct bytes_eq sections) cs.name ≡ is_made_name dynamic sections cs.name
    names = λ i. is_text_in always_made cs.name || ((dynamic && bytes_eq cs.name (codes "_DYNAMIC")) || (bound_is (codes "__start_") sections cs.name i || bound_is (codes "__stop_") sections cs.name i))

    and_swap : (a b : Bool) → (a && b) ≡ (b && a)
    and_swap true true = refl
    and_swap true false = refl
    and_swap false true = refl
    and_swap false false = refl

-- so the winners, visibilities and symbols are the model's
pub winners_are : (dynamic : Bool) (sections : List (List ℕ)) (css : List Contributions) → map row_winner (rows_made dynamic (distinct bytes_eq sections) (map plain_row css)) ≡ winners_of dynamic sections css
winners_are dynamic sections [] = refl
winners_are dynamic sections (cs ∷ css) =
    λ i. head i ∷ winners_are dynamic sections css i
  where
    by : (b : Bool) → row_winner (cond b (made_row (plain_row cs)) (plain_row cs)) ≡ winner_of cs b (visibility_of cs)
    by true = refl
    by false = refl

    head : row_winner (with_making dynamic (distinct bytes_eq sections) (plain_row cs)) ≡ winner_of cs (is_made dynamic sections cs) (visibility_of cs)
    head = by (is_row_made dynamic (distinct bytes_eq sections) (plain_row cs)) ∙ ap (λ b. winner_of cs b (visibility_of cs)) (made_is dynamic sections cs)

pub symbols_stay : (dynamic : Bool) (sections : List (List ℕ)) (css : List Contributions) → all_symbols (rows_made dynamic sections (map plain_row css)) ≡ css
symbols_stay dynamic sections [] = refl
symbols_stay dynamic sections (cs ∷ css) =
    λ i. by (is_row_made dynamic sections (plain_row cs)) i ∷ symbols_stay dynamic sections css i
  where
    by : (b : Bool) → symbols_in (cond b (made_row (plain_row cs)) (plain_row cs)) ≡ cs
    by true = refl
    by false = refl

pub visibilities_stay : (dynamic : Bool) (sections : List (List ℕ)) (css : List Contributions) → map row_visibility (rows_made dynamic sections (map plain_row css)) ≡ map visibility_of css
visibilities_stay dynamic sections [] = refl
visibilities_stay dynamic sections (cs ∷ css) =
    λ i. by (is_row_made dynamic sections (plain_row cs)) i ∷ visibilities_stay dynamic sections css i
  where
    by : (b : Bool) → row_visibility (cond b (made_row (plain_row cs)) (plain_row cs)) ≡ visibility_of cs
    by true = refl
    by false = refl
