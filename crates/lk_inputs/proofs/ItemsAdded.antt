-- The inputs of a link as items: how many of them the first item has, what it adds, and what is left.
use Rattle.std.proofs.Common.{◌≡◌, ◌+◌, ◌<◌, ◌≤◌, refl, sym, ap, ◌∙◌, subst, arith, ℕ, zero, suc, ◌==◌, Bool, true, false, cond, List, [], ◌∷◌, ◌++◌, length, take, drop, map, fold, get_or, Option, Some}
use Rattle.std.specs.Prelude.{take_while}
use Rattle.std.specs.List.{prefix_len}
use Rattle.std.proofs.lemmas.Bool.{eq-eqb, eqb-true}
use Rattle.std.proofs.lemmas.List.{drop-drop, drop_all}
use Rattle.lk_model.specs.declared.summaries.InputSummary.{InputSummary}
use Rattle.lk_model.specs.Adding.{added_inputs, is_wanted_member, items_among, with_front, with_item, with_one}
use Rattle.lk_model.specs.Numbered.{Numbered, numbered_from}
use Rattle.lk_model.specs.Queues.{listed_of}
use Rattle.lk_model.specs.Views.{Input}
use Rattle.lk_model.specs.InputNames.{input_summary}
use Rattle.lk_resolve.specs.Searches.{numbered_on}
use Rattle.lk_resolve.specs.States.{State, state_of}
use Rattle.lk_inputs.specs.declared.input_files.InputFile.{InputFile}
use Rattle.lk_inputs.specs.Adding.{IsItemAdded, is_in_lib, item_at, lib_length, members_in, rows_from}
use Rattle.lk_inputs.specs.Named.{files_of}

-- ---- inputs in rows

-- the rows of inputs are their numbers with their lib groups
pub rows_are : (n : ℕ) (xs : List Input) → rows_from n (files_of xs) (map input_summary xs) ≡ numbered_from n xs
rows_are n [] = refl
rows_are n (x ∷ xs) = ap (λ (rows : List (ℕ × Numbered)). (x.lib, record { number = n; summary = x.summary }) ∷ rows) (rows_are (n + 1) xs)

take_none : {X : Type 0} (n : ℕ) → take n (let l : List X = [] in l) ≡ []
take_none zero = refl
take_none (suc n) = refl

drop_none : {X : Type 0} (n : ℕ) → drop n (let l : List X = [] in l) ≡ []
drop_none zero = refl
drop_none (suc n) = refl

-- those behind the first ones
pub rows_behind : (k n : ℕ) (files : List InputFile) (summaries : List InputSummary) → drop k (rows_from n files summaries) ≡ rows_from (n + k) (drop k files) (drop k summaries)
rows_behind zero n files summaries = ap (λ (m : ℕ). rows_from m files summaries) (let e : n ≡ n + 0 = omega arith in e)
rows_behind (suc k) n [] summaries = refl
rows_behind (suc k) n (file ∷ files) [] = sym (by (drop k files))
  where
    by : (fs : List InputFile) → rows_from (n + suc k) fs [] ≡ []
    by [] = refl
    by (f ∷ fs) = refl
rows_behind (suc k) n (file ∷ files) (summary ∷ summaries) =
    rows_behind k (n + 1) files summaries ∙ ap (λ (m : ℕ). rows_from m (drop k files) (drop k summaries)) (let e : (n + 1) + k ≡ n + suc k = omega arith in e)

-- and the first ones themselves
members_front : (k n : ℕ) (files : List InputFile) (summaries : List InputSummary) → length files ≡ length summaries → members_in (take k (rows_from n files summaries)) ≡ numbered_on n (take k summaries)
members_front zero n files summaries h = refl
members_front (suc k) n [] [] h = refl
members_front (suc k) n [] (summary ∷ summaries) h = absurd (cc)
members_front (suc k) n (file ∷ files) [] h = absurd (cc)
members_front (suc k) n (file ∷ files) (summary ∷ summaries) h =
    let x : Numbered = record { number = n; summary = summary } in
    ap (λ (xs : List Numbered). x ∷ xs) (members_front k (n + 1) files summaries (let e : length files ≡ length summaries = omega (arith, h) in e))

-- ---- the first item

same_number : (n : ℕ) → (n == n) ≡ true
same_number n = eq-eqb n n refl

-- an input in front of an item of its own lib group, and of another
joins : (n : ℕ) (x : Numbered) (members : List Numbered) (items : List (ℕ × List Numbered)) → with_front (suc n) x ((suc n, members) ∷ items) ≡ (suc n, x ∷ members) ∷ items
joins n x members items = ap (λ b. cond b ((suc n, x ∷ members) ∷ items) ((suc n, x ∷ []) ∷ (suc n, members) ∷ items)) (same_number (suc n))

is_apart : (n : ℕ) (x : Numbered) (lib : ℕ) (members : List Numbered) (items : List (ℕ × List Numbered)) → (lib == suc n) ≡ false → with_front (suc n) x ((lib, members) ∷ items) ≡ (suc n, x ∷ []) ∷ (lib, members) ∷ items
is_apart n x lib members items h = ap (λ b. cond b ((lib, x ∷ members) ∷ items) ((suc n, x ∷ []) ∷ (lib, members) ∷ items)) h

begins_anew : (n : ℕ) (x y : Numbered) (lib : ℕ) (items : List (ℕ × List Numbered)) → (lib == suc n) ≡ false → with_front (suc n) x (with_front lib y items) ≡ (suc n, x ∷ []) ∷ with_front lib y items
begins_anew n x y zero items h = is_apart n x zero (y ∷ []) items h
begins_anew n x y (suc m) [] h = is_apart n x (suc m) (y ∷ []) [] h
begins_anew n x y (suc m) ((lib, members) ∷ items) h = by (lib == suc m) refl
  where
    by : (b : Bool) → (lib == suc m) ≡ b
        → with_front (suc n) x (cond b ((lib, y ∷ members) ∷ items) ((suc m, y ∷ []) ∷ (lib, members) ∷ items)) ≡ (suc n, x ∷ []) ∷ cond b ((lib, y ∷ members) ∷ items) ((suc m, y ∷ []) ∷ (lib, members) ∷ items)
    by true e = is_apart n x lib (y ∷ members) items (ap (λ (l : ℕ). l == suc n) (eqb-true lib (suc m) e) ∙ h)
    by false e = is_apart n x (suc m) (y ∷ []) ((lib, members) ∷ items) h

-- how many inputs in front are members of a lib group
in_front : ℕ → List InputFile → ℕ
in_front lib [] = 0
in_front lib (file ∷ files) = cond (is_in_lib lib file) (suc (in_front lib files)) 0

front_length : (lib : ℕ) (files : List InputFile) → lib_length lib files ≡ in_front lib files
unfolding in_front
front_length lib [] = refl
front_length lib (file ∷ files) = by (is_in_lib lib file) (front_length lib files)
  where
    by : (b : Bool) → length (take_while (is_in_lib lib) files) ≡ in_front lib files
        → length (take (cond b (1 + prefix_len (is_in_lib lib) files) 0) (file ∷ files)) ≡ cond b (suc (in_front lib files)) 0
    by true h =
        let one : 1 + prefix_len (is_in_lib lib) files ≡ suc (prefix_len (is_in_lib lib) files) = omega arith in
        ap (λ n. length (take n (file ∷ files))) one ∙ ap (λ n. suc n) h
    by false h = refl

-- a member of a lib group in front of inputs: with those of its group that come next it is the first item
first_group : (n first : ℕ) (x : Numbered) (files : List InputFile) (summaries : List InputSummary)
    → with_front (suc n) x (items_among (rows_from first files summaries))
    ≡ (suc n, x ∷ members_in (take (in_front (suc n) files) (rows_from first files summaries))) ∷ items_among (drop (in_front (suc n) files) (rows_from first files summaries))
unfolding in_front
first_group n first x [] summaries = refl
first_group n first x (file ∷ files) [] =
    (λ i. (suc n, x ∷ members_in (sym (take_none (in_front (suc n) (file ∷ files))) i)) ∷ items_among (sym (drop_none (in_front (suc n) (file ∷ files))) i))
first_group n first x (file ∷ files) (summary ∷ summaries) =
    by (file.name.lib == suc n) refl (record { number = first; summary = summary }) (λ y. first_group n (first + 1) y files summaries)
  where
    by : (b : Bool) → (file.name.lib == suc n) ≡ b → (y : Numbered)
        → ((y : Numbered) → with_front (suc n) y (items_among (rows_from (first + 1) files summaries))
        ≡ (suc n, y ∷ members_in (take (in_front (suc n) files) (rows_from (first + 1) files summaries))) ∷ items_among (drop (in_front (suc n) files) (rows_from (first + 1) files summaries)))
        → with_front (suc n) x (with_front file.name.lib y (items_among (rows_from (first + 1) files summaries)))
        ≡ (suc n, x ∷ members_in (take (cond b (suc (in_front (suc n) files)) 0) ((file.name.lib, y) ∷ rows_from (first + 1) files summaries)))
        ∷ items_among (drop (cond b (suc (in_front (suc n) files)) 0) ((file.name.lib, y) ∷ rows_from (first + 1) files summaries))
    by true e y later =
        ap (λ (l : ℕ). with_front (suc n) x (with_front l y (items_among (rows_from (first + 1) files summaries)))) (eqb-true file.name.lib (suc n) e)
        ∙ ap (with_front (suc n) x) (later y)
        ∙ joins n x (y ∷ members_in (take (in_front (suc n) files) (rows_from (first + 1) files summaries))) (items_among (drop (in_front (suc n) files) (rows_from (first + 1) files summaries)))
    by false e y later = begins_anew n x y file.name.lib (items_among (rows_from (first + 1) files summaries)) e

-- ---- one item is added

one_member : (lib : ℕ) (x : Numbered) (rows : List (ℕ × Numbered)) → item_at 1 ((lib, x) ∷ rows) ≡ (lib, x ∷ [])
one_member lib x rows = ap (λ (ms : List Numbered). (lib, x ∷ ms)) (ap members_in (let e : take 0 rows ≡ [] = refl in e))

alone : (entry : List ℕ) (paths : List (List ℕ)) (added : List Numbered) (lib : ℕ) (x : Numbered) (rows : List (ℕ × Numbered)) (new : Option State) → lib ≡ 0 → new ≡ Some (state_of entry paths (added ++ x ∷ []))
    → IsItemAdded entry paths added ((lib, x) ∷ rows) 1 new
alone entry paths added lib x rows new none is =
    let P : ℕ → Type 0 = λ l. IsItemAdded entry paths added ((l, x) ∷ rows) 1 new in
    subst P (sym none) (let h : P 0 = record { state = is; items = refl } in h)

pub alone_added : (entry : List ℕ) (paths : List (List ℕ)) (added : List Numbered) (first : ℕ) (files : List InputFile) (summaries : List InputSummary) (file : InputFile) (summary : InputSummary) (new : Option State)
    → 0 < length files → 0 < length summaries → file ≡ get_or files 0 file → summary ≡ get_or summaries 0 summary → file.name.lib ≡ 0
    → new ≡ Some (state_of entry paths (added ++ record { number = first; summary = summary } ∷ []))
    → IsItemAdded entry paths added (rows_from first files summaries) 1 new
alone_added entry paths added first [] summaries file summary new some others is_file is_summary none is = absurd (omega arith)
alone_added entry paths added first (f ∷ fs) [] file summary new some others is_file is_summary none is = absurd (omega arith)
alone_added entry paths added first (f ∷ fs) (s ∷ ss) file summary new some others is_file is_summary none is =
    let x : Numbered = record { number = first; summary = s } in
    alone entry paths added f.name.lib x (rows_from (first + 1) fs ss) new (ap (λ (g : InputFile). g.name.lib) (sym is_file) ∙ none)
    (is ∙ ap (λ (t : InputSummary). Some (state_of entry paths (added ++ record { number = first; summary = t } ∷ []))) is_summary)

grouped : (entry : List ℕ) (paths : List (List ℕ)) (added : List Numbered) (n lib first : ℕ) (x : Numbered) (files : List InputFile) (summaries : List InputSummary) (new : Option State)
    → lib ≡ suc n
    → new ≡ Some (state_of entry paths (added ++ listed_of (is_wanted_member entry) with_one added (x ∷ members_in (take (in_front (suc n) files) (rows_from first files summaries)))))
    → IsItemAdded entry paths added ((lib, x) ∷ rows_from first files summaries) (suc (in_front (suc n) files)) new
grouped entry paths added n lib first x files summaries new same is =
    let P : ℕ → Type 0 = λ l. IsItemAdded entry paths added ((l, x) ∷ rows_from first files summaries) (suc (in_front (suc n) files)) new in
    subst P (sym same) (let h : P (suc n) = record { state = is; items = first_group n first x files summaries } in h)

-- the members of a group in front
counted : (lib : ℕ) (file : InputFile) (files : List InputFile) → file.name.lib ≡ lib → in_front lib (file ∷ files) ≡ suc (in_front lib files)
unfolding in_front
counted lib file files same = ap (λ b. cond b (suc (in_front lib files)) 0) (eq-eqb file.name.lib lib same)

group_at : (entry : List ℕ) (paths : List (List ℕ)) (added : List Numbered) (lib first : ℕ) (file : InputFile) (files : List InputFile) (summary : InputSummary) (summaries : List InputSummary) (new : Option State)
    → (lib ≡ 0 → ⊥) → file.name.lib ≡ lib → length files ≡ length summaries
    → new ≡ Some (state_of entry paths (added ++ listed_of (is_wanted_member entry) with_one added (numbered_on first (take (in_front lib (file ∷ files)) (summary ∷ summaries)))))
    → IsItemAdded entry paths added (rows_from first (file ∷ files) (summary ∷ summaries)) (in_front lib (file ∷ files)) new
group_at entry paths added zero first file files summary summaries new is_lib same alike is = absurd (is_lib refl)
group_at entry paths added (suc n) first file files summary summaries new is_lib same alike is =
    let x : Numbered = record { number = first; summary = summary } in
    let count : in_front (suc n) (file ∷ files) ≡ suc (in_front (suc n) files) = counted (suc n) file files same in
    let P : ℕ → Type 0 = λ k. IsItemAdded entry paths added (rows_from first (file ∷ files) (summary ∷ summaries)) k new in
    let Q : List Numbered → Option State = λ ms. Some (state_of entry paths (added ++ listed_of (is_wanted_member entry) with_one added ms)) in
    subst P (sym count)
    (grouped entry paths added n file.name.lib (first + 1) x files summaries new same
    (is ∙ ap (λ k. Q (numbered_on first (take k (summary ∷ summaries)))) count
    ∙ ap (λ ms. Q (x ∷ ms)) (sym (members_front (in_front (suc n) files) (first + 1) files summaries alike))))

pub group_added : (entry : List ℕ) (paths : List (List ℕ)) (added : List Numbered) (lib first count : ℕ) (files : List InputFile) (summaries members : List InputSummary) (file : InputFile) (new : Option State)
    → 0 < length files → length files ≡ length summaries → file ≡ get_or files 0 file → lib ≡ file.name.lib → (lib ≡ 0 → ⊥) → count ≡ lib_length lib files → members ≡ take count summaries
    → new ≡ Some (state_of entry paths (added ++ listed_of (is_wanted_member entry) with_one added (numbered_on first members)))
    → IsItemAdded entry paths added (rows_from first files summaries) count new
group_added entry paths added lib first count [] summaries members file new some alike is_file of_file is_lib counts are is = absurd (omega arith)
group_added entry paths added lib first count (f ∷ fs) [] members file new some alike is_file of_file is_lib counts are is = absurd (cc)
group_added entry paths added lib first count (f ∷ fs) (s ∷ ss) members file new some alike is_file of_file is_lib counts are is =
    let P : ℕ → Type 0 = λ k. IsItemAdded entry paths added (rows_from first (f ∷ fs) (s ∷ ss)) k new in
    let Q : List InputSummary → Option State = λ ms. Some (state_of entry paths (added ++ listed_of (is_wanted_member entry) with_one added (numbered_on first ms))) in
    let same : f.name.lib ≡ lib = ap (λ (g : InputFile). g.name.lib) (sym is_file) ∙ sym of_file in
    let behind : length fs ≡ length ss = omega (arith, alike) in
    let long : count ≡ in_front lib (f ∷ fs) = counts ∙ front_length lib (f ∷ fs) in
    subst P (sym long) (group_at entry paths added lib first f fs s ss new is_lib same behind (is ∙ ap Q (are ∙ ap (λ k. take k (s ∷ ss)) long)))

-- ---- one item after another

-- all inputs with their lib groups, and those that are left when so many were added: what is added of these
-- after some is what is added of all after others
pub record AddedSoFar (entry : List ℕ) (paths : List (List ℕ)) (before : List Numbered) (rows left : List (ℕ × Numbered)) (now : Option State) : Type 0 where
  pub added : List Numbered
  pub state : now ≡ Some (state_of entry paths added)
  pub rest : fold (with_item entry) added (items_among left) ≡ fold (with_item entry) before (items_among rows)

pub none_added : (entry : List ℕ) (paths : List (List ℕ)) (before : List Numbered) (rows : List (ℕ × Numbered)) (now : Option State) → now ≡ Some (state_of entry paths before) → AddedSoFar entry paths before rows rows now
none_added entry paths before rows now e = record { added = before; state = e; rest = refl }

pub item_more : (entry : List ℕ) (paths : List (List ℕ)) (before : List Numbered) (files left : List InputFile) (summaries others : List InputSummary) (rows : List (ℕ × Numbered)) (done count : ℕ) (now new : Option State)
    → left ≡ drop done files → others ≡ drop done summaries
    → AddedSoFar entry paths before rows (rows_from done (drop done files) (drop done summaries)) now
    → ((added : List Numbered) → now ≡ Some (state_of entry paths added) → IsItemAdded entry paths added (rows_from done left others) count new)
    → AddedSoFar entry paths before rows (rows_from (done + count) (drop (done + count) files) (drop (done + count) summaries)) new
item_more entry paths before files left summaries others rows done count now new are_left are_others so_far steps =
    let waiting : List (ℕ × Numbered) = rows_from done left others in
    let same : waiting ≡ rows_from done (drop done files) (drop done summaries) = λ i. rows_from done (are_left i) (are_others i) in
    let step : IsItemAdded entry paths so_far.added waiting count new = steps so_far.added so_far.state in
    let behind : drop count waiting ≡ rows_from (done + count) (drop (done + count) files) (drop (done + count) summaries) =
    ap (drop count) same
    ∙ rows_behind count done (drop done files) (drop done summaries)
    ∙ (λ i. rows_from (done + count) (drop-drop count done files i) (drop-drop count done summaries i)) in
    record {
      added = with_item entry so_far.added (item_at count waiting);
      state = step.state;
      rest =
          ap (λ (l : List (ℕ × Numbered)). fold (with_item entry) (with_item entry so_far.added (item_at count waiting)) (items_among l)) (sym behind)
          ∙ ap (fold (with_item entry) so_far.added) (sym step.items)
          ∙ ap (λ (l : List (ℕ × Numbered)). fold (with_item entry) so_far.added (items_among l)) same
          ∙ so_far.rest;
    }

pub all_added : (entry : List ℕ) (paths : List (List ℕ)) (xs : List Input) (files : List InputFile) (summaries : List InputSummary) (done : ℕ) (now : Option State)
    → files ≡ files_of xs → summaries ≡ map input_summary xs → length files ≤ done
    → AddedSoFar entry paths [] (rows_from 0 files summaries) (rows_from done (drop done files) (drop done summaries)) now
    → now ≡ Some (state_of entry paths (added_inputs entry xs))
unfolding added_inputs
all_added entry paths xs files summaries done now are kept past so_far =
    let ends : drop done files ≡ [] = drop_all done files past in
    let left : rows_from done (drop done files) (drop done summaries) ≡ [] = ap (λ (fs : List InputFile). rows_from done fs (drop done summaries)) ends in
    let whole : rows_from 0 files summaries ≡ numbered_from 0 xs = (λ i. rows_from 0 (are i) (kept i)) ∙ rows_are 0 xs in
    so_far.state
    ∙ ap (λ (a : List Numbered). Some (state_of entry paths a))
    (ap (λ (l : List (ℕ × Numbered)). fold (with_item entry) so_far.added (items_among l)) (sym left)
    ∙ so_far.rest
    ∙ ap (λ (rows : List (ℕ × Numbered)). fold (with_item entry) [] (items_among rows)) whole)
