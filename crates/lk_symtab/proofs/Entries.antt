-- The entries of the map as rows: a symbol under a name that the map has, or under a new one, gives the rows with one
-- more symbol, and each name is beside its own row.
use Rattle.std.proofs.Common.{◌≡◌, refl, sym, ap, ◌∙◌, arith, ℕ, zero, suc, ◌+◌, ◌-◌, ◌<◌, ◌^◌, Bool, true, false, cond, List, [], ◌∷◌, ◌++◌, length, Option, None, Some, is_some, Result, Ok, Err, IsErr, not, nat_lt, position, slice_get, length-append}
use Rattle.std.specs.List.{position_or_len}
use Rattle.std.specs.Cmp.Lexicographic.{nat_list_eq_equiv}
use Rattle.std.specs.Option.{option_map, unwrap_or}
use Rattle.std.specs.Map.{keys_of, values_of, lookup}
use Rattle.std.specs.Str.{bytes_eq}
use Rattle.std.proofs.Math.ListN.{length-map}
use Rattle.lk_report.specs.declared.memory.NoMemory.{NoMemory}
use Rattle.std.proofs.lemmas.Option.{slice_get-map}
use Rattle.indexmap.specs.IndexMap.{insert_entry, set_value_at}
use Rattle.indexmap.specs.Layout.{length-set_value_at}
use Rattle.indexmap.proofs.MapLemmas.{Found-position, insert_entry-first, insert_entry-absent, Missing-position, some_index}
use Rattle.lk_model.specs.declared.summaries.Contribution.{Contribution}
use Rattle.lk_model.specs.declared.summaries.Contributions.{Contributions}
use Rattle.lk_symtab.specs.NameRows.{NameRow, all_symbols, new_row, number_for, number_of, row_names, row_with, symbols_in, with_row, with_symbol, AddGives, AddsAt}
use Rattle.lk_symtab.specs.RowEntries.{IsTable}

-- the entries after one under a name have the rows with one more symbol, and are named
record Grows (es : List (List ℕ × NameRow)) (name : List ℕ) (c : Contribution) (new : List (List ℕ × NameRow)) : Type 0 where
  rows : values_of new ≡ with_symbol (values_of es) name c
  named : keys_of new ≡ row_names (values_of new)

-- one entry before the others
there : (e : List ℕ × NameRow) (es : List (List ℕ × NameRow)) (name : List ℕ) (r : NameRow) (c : Contribution) (b : Bool) → keys_of (e ∷ es) ≡ row_names (values_of (e ∷ es)) → bytes_eq name e.1.contributions.name ≡ b → e.0 ≡ e.1.contributions.name
    → cond b (Some e.1) (lookup (bytes_eq name) es) ≡ Some r → (b ≡ false → Grows es name c (insert_entry bytes_eq es name (row_with r c)))
    → Grows (e ∷ es) name c (cond b ((e.0, row_with r c) ∷ es) (e ∷ insert_entry bytes_eq es name (row_with r c)))
there e es name r c true named t head h rest =
    let same : e.1 ≡ r = cc in
    record { rows = ap (λ w. row_with w c ∷ values_of es) (sym same) ∙ sym (ap (λ b. cond b (row_with e.1 c ∷ values_of es) (e.1 ∷ with_symbol (values_of es) name c)) t); named = named ∙ ap (λ (w : NameRow). w.contributions.name ∷ row_names (values_of es)) same }
there e es name r c false named t head h rest =
    let more = rest refl in
    record { rows = ap (λ l. e.1 ∷ l) more.rows ∙ sym (ap (λ b. cond b (row_with e.1 c ∷ values_of es) (e.1 ∷ with_symbol (values_of es) name c)) t); named = (λ i. head i ∷ more.named i) }

-- a symbol of a name that the map has
grows-there : (es : List (List ℕ × NameRow)) (name : List ℕ) (r : NameRow) (c : Contribution) → keys_of es ≡ row_names (values_of es) → lookup (bytes_eq name) es ≡ Some r
    → Grows es name c (insert_entry bytes_eq es name (row_with r c))
grows-there [] name r c named h = absurd (cc)
grows-there (e ∷ es) name r c named h =
    let head : e.0 ≡ e.1.contributions.name = cc in
    let tail : keys_of es ≡ row_names (values_of es) = cc in
    let test : bytes_eq name e.0 ≡ bytes_eq name e.1.contributions.name = ap (bytes_eq name) head in
    there e es name r c (bytes_eq name e.0) named (sym test) head h (λ f. grows-there es name r c tail (ap (λ b. cond b (Some e.1) (lookup (bytes_eq name) es)) (sym f) ∙ h))

-- a symbol of a name that the map does not have
last : (e : List ℕ × NameRow) (es new : List (List ℕ × NameRow)) (name : List ℕ) (c : Contribution) (b : Bool) → bytes_eq name e.1.contributions.name ≡ b → e.0 ≡ e.1.contributions.name
    → cond b (Some e.1) (lookup (bytes_eq name) es) ≡ None → (b ≡ false → Grows es name c new) → Grows (e ∷ es) name c (e ∷ new)
last e es new name c true t head h rest = absurd (cc)
last e es new name c false t head h rest =
    let more = rest refl in
    record { rows = ap (λ l. e.1 ∷ l) more.rows ∙ sym (ap (λ b. cond b (row_with e.1 c ∷ values_of es) (e.1 ∷ with_symbol (values_of es) name c)) t); named = (λ i. head i ∷ more.named i) }

grows-last : (es : List (List ℕ × NameRow)) (name : List ℕ) (c : Contribution) → keys_of es ≡ row_names (values_of es) → lookup (bytes_eq name) es ≡ None
    → Grows es name c (es ++ (name, new_row name c) ∷ [])
grows-last [] name c named h = record { rows = refl; named = refl }
grows-last (e ∷ es) name c named h =
    let head : e.0 ≡ e.1.contributions.name = cc in
    let tail : keys_of es ≡ row_names (values_of es) = cc in
    let test : bytes_eq name e.0 ≡ bytes_eq name e.1.contributions.name = ap (bytes_eq name) head in
    last e es (es ++ (name, new_row name c) ∷ []) name c (bytes_eq name e.0) (sym test) head h (λ f. grows-last es name c tail (ap (λ b. cond b (Some e.1) (lookup (bytes_eq name) es)) (sym f) ∙ h))

-- the row with a number is changed, and its name is not
record Changes (change : NameRow → NameRow) (es : List (List ℕ × NameRow)) (n : ℕ) (w : NameRow) : Type 0 where
  rows : values_of (set_value_at es n w) ≡ with_row change (values_of es) n
  named : keys_of (set_value_at es n w) ≡ row_names (values_of (set_value_at es n w))

changes : (change : NameRow → NameRow) (es : List (List ℕ × NameRow)) (n : ℕ) (r w : NameRow) → slice_get (values_of es) n ≡ Some r → w ≡ change r → w.contributions.name ≡ r.contributions.name → keys_of es ≡ row_names (values_of es) → Changes change es n w
changes change [] n r w at is same named = absurd (cc)
changes change (e ∷ es) zero r w at is same named =
    let here : e.1 ≡ r = cc in
    let head : e.0 ≡ e.1.contributions.name = cc in
    let tail : keys_of es ≡ row_names (values_of es) = cc in
    let row : w ≡ change e.1 = is ∙ ap change (sym here) in
    let name : e.0 ≡ w.contributions.name = head ∙ ap (λ (x : NameRow). x.contributions.name) here ∙ sym same in
    record { rows = (λ i. row i ∷ values_of es); named = (λ i. name i ∷ tail i) }
changes change (e ∷ es) (suc n) r w at is same named =
    let head : e.0 ≡ e.1.contributions.name = cc in
    let tail : keys_of es ≡ row_names (values_of es) = cc in
    let more = changes change es n r w at is same tail in
    record { rows = (λ i. e.1 ∷ more.rows i); named = (λ i. head i ∷ more.named i) }

-- what a write to the row with a number makes of the table
pub record Writes (change : NameRow → NameRow) (es : List (List ℕ × NameRow)) (n : ℕ) (w : NameRow) : Type 0 where
  pub table : IsTable (set_value_at es n w)
  pub rows : values_of (set_value_at es n w) ≡ with_row change (values_of es) n

value_there : (es : List (List ℕ × NameRow)) (n : ℕ) (k : List ℕ) (r : NameRow) → slice_get es n ≡ Some (k, r) → slice_get (values_of es) n ≡ Some r
value_there es n k r at = slice_get-map (λ (e : List ℕ × NameRow). e.1) es n ∙ ap (option_map (λ (e : List ℕ × NameRow). e.1)) at

pub written : (change : NameRow → NameRow) (es : List (List ℕ × NameRow)) (n : ℕ) (k : List ℕ) (r w : NameRow) → IsTable es → slice_get es n ≡ Some (k, r) → w ≡ change r → w.contributions.name ≡ r.contributions.name → Writes change es n w
written change es n k r w table at is same =
    let done = changes change es n r w (value_there es n k r at) is same table.named in
    let size = length-set_value_at es n w in
    let few = table.few in
    record { table = record { named = done.named; few = omega arith }; rows = done.rows }

-- the row with a number is written again as it was
pub written_again : (es : List (List ℕ × NameRow)) (n : ℕ) (k : List ℕ) (r w : NameRow) → slice_get es n ≡ Some (k, r) → w ≡ r → set_value_at es n w ≡ es
written_again [] n k r w at same = refl
written_again (e ∷ es) zero k r w at same =
    let here : e ≡ (k, r) = cc in
    λ i. ((e.0, (same ∙ sym (ap (λ (x : List ℕ × NameRow). x.1) here)) i) ∷ es)
written_again (e ∷ es) (suc n) k r w at same = ap (λ l. e ∷ l) (written_again es n k r w at same)

-- a symbol at the end of the row that has a name's number
pub found_row : (es : List (List ℕ × NameRow)) (name : List ℕ) (n : ℕ) (c : Contribution) → IsTable es → position (bytes_eq name) (keys_of es) ≡ Some n → with_row (λ (row : NameRow). row_with row c) (values_of es) n ≡ with_symbol (values_of es) name c
found_row es name n c table at = by (lookup (bytes_eq name) es) refl
  where
    by : (o : Option NameRow) → lookup (bytes_eq name) es ≡ o → with_row (λ (row : NameRow). row_with row c) (values_of es) n ≡ with_symbol (values_of es) name c
    by None e = absurd (let none = sym (ap is_some at) ∙ some_index (bytes_eq name) es ∙ ap is_some e in cc)
    by (Some r) e =
        let found = Found-position (bytes_eq name) es n at in
        let done = changes (λ (row : NameRow). row_with row c) es n r (row_with r c) (sym found.value ∙ e) refl refl table.named in
        sym done.rows ∙ ap values_of (sym (insert_entry-first bytes_eq name (row_with r c) es n found.first)) ∙ (grows-there es name r c table.named e).rows

-- a name's place among the keys is its number
place_is : (rows : List NameRow) (name : List ℕ) → position_or_len (bytes_eq name) (row_names rows) ≡ position_or_len (λ (cs : Contributions). bytes_eq cs.name name) (all_symbols rows)
place_is [] name = refl
place_is (row ∷ rows) name = λ i. cond (not (nat_list_eq_equiv.symm name row.contributions.name i)) (1 + place_is rows name i) 0

pub number_is : (es : List (List ℕ × NameRow)) (rows : List NameRow) (name : List ℕ) → IsTable es → values_of es ≡ rows → position (bytes_eq name) (keys_of es) ≡ number_of rows name
number_is es rows name table view =
    let names : keys_of es ≡ row_names rows = table.named ∙ ap row_names view in
    let place : position_or_len (bytes_eq name) (keys_of es) ≡ position_or_len (λ (cs : Contributions). bytes_eq cs.name name) (all_symbols rows) = ap (position_or_len (bytes_eq name)) names ∙ place_is rows name in
    let size : length (keys_of es) ≡ length (all_symbols rows) = ap length names ∙ length-map rows (λ (row : NameRow). row.contributions.name) ∙ sym (length-map rows symbols_in) in
    λ i. cond (nat_lt (place i) (size i)) (Some (place i)) None

-- so adding at that number is adding under that name
pub found_adds : (es : List (List ℕ × NameRow)) (rows new : List NameRow) (name : List ℕ) (n : ℕ) (c copy : Contribution) (answer : Result ℕ NoMemory) → IsTable es → values_of es ≡ rows → position (bytes_eq name) (keys_of es) ≡ Some n → copy ≡ c → AddsAt rows n copy answer new → AddGives rows name c answer new
found_adds es rows new name n c copy (Ok number) table view at same adds = (
  adds.0 ∙ ap (λ (o : Option ℕ). unwrap_or o (length rows)) (sym at ∙ number_is es rows name table view),
  adds.1 ∙ (λ i. with_row (λ (row : NameRow). row_with row (same i)) (sym view i) n) ∙ found_row es name n c table at ∙ ap (λ l. with_symbol l name c) view,
)
found_adds es rows new name n c copy (Err want) table view at same adds = adds

-- after out of memory the row was written again as it was
pub kept_adds : (old new : List NameRow) (n : ℕ) (c : Contribution) (answer : Result ℕ NoMemory) → IsErr answer → new ≡ old → AddsAt old n c answer new
kept_adds old new n c (Ok number) err same = absurd (cc)
kept_adds old new n c (Err want) err same = same

-- what a row for a new name makes of the table
pub record Adds (rows : List NameRow) (name : List ℕ) (c : Contribution) (number : ℕ) (new : List (List ℕ × NameRow)) : Type 0 where
  pub table : IsTable new
  pub number_is : number ≡ number_for rows name
  pub rows_are : values_of new ≡ with_symbol rows name c

-- a row for a new name is last
pub added_last : (es new : List (List ℕ × NameRow)) (rows : List NameRow) (key name : List ℕ) (row : NameRow) (n : ℕ) (c : Contribution) → IsTable es → values_of es ≡ rows → length rows < 2 ^ 32 - 1 → number_of rows name ≡ None → key ≡ name → row ≡ new_row name c
    → new ≡ insert_entry bytes_eq es key row → n ≡ position_or_len (bytes_eq key) (keys_of es) → Adds rows name c n new
added_last es new rows key name row n c table view few at same first put number =
    let missing = Missing-position (bytes_eq name) es (number_is es rows name table view ∙ at) in
    let put_so : new ≡ es ++ (name, new_row name c) ∷ [] = put ∙ (λ i. insert_entry bytes_eq es (same i) (first i)) ∙ insert_entry-absent bytes_eq name (new_row name c) es missing.absent in
    let grown = grows-last es name c table.named missing.value in
    let size : length new ≡ length es + 1 = ap length put_so ∙ length-append es ((name, new_row name c) ∷ []) in
    let rows_len : length rows ≡ length es = ap length (sym view) ∙ length-map es (λ (e : List ℕ × NameRow). e.1) in
    record {
      table = record { named = ap keys_of put_so ∙ grown.named ∙ ap (λ (l : List (List ℕ × NameRow)). row_names (values_of l)) (sym put_so); few = omega arith };
      number_is = number ∙ ap (λ (k : List ℕ). position_or_len (bytes_eq k) (keys_of es)) same ∙ missing.or_len ∙ sym rows_len ∙ ap (λ (o : Option ℕ). unwrap_or o (length rows)) (sym at);
      rows_are = ap values_of put_so ∙ grown.rows ∙ ap (λ l. with_symbol l name c) view;
    }
