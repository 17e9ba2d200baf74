-- A name is wanted by the table of the names where it is wanted by their symbols, and a member where it is
-- by the model.
use Rattle.std.proofs.Common.{◌≡◌, refl, sym, ap, ◌∙◌, ℕ, nat_lt, ◌==◌, Bool, true, false, cond, not, ◌||◌, ◌&&◌, List, [], ◌∷◌, map, filter, find, length, Option, Some, None, is_some, option_map, option_and_then, slice_get, position}
use Rattle.std.specs.Cmp.Lexicographic.{bytes_decides, nat_list_eq_equiv}
use Rattle.std.specs.List.{list_any, position_or_len}
use Rattle.std.specs.Str.{bytes_eq}
use Rattle.std.proofs.lemmas.List.Folds.{find_at}
use Rattle.std.proofs.lemmas.Option.{slice_get-map, slice_get_past}
use borrow.Author.Tests.{ltb-false}
use Rattle.lk_elf.specs.Numbers.{stb_global, stv_default}
use Rattle.lk_comdat.specs.Claims.{signatures_of}
use Rattle.lk_comdat.specs.ClaimLaws.{claims_after}
use Rattle.lk_model.specs.declared.summaries.Contribution.{Contribution}
use Rattle.lk_model.specs.declared.summaries.Contributions.{Contributions}
use Rattle.lk_model.specs.declared.summaries.Global.{Global}
use Rattle.lk_model.specs.declared.summaries.Home.{Home}
use Rattle.lk_model.specs.declared.summaries.Home.TheVariants as home
use Rattle.lk_model.specs.declared.summaries.InputSummary.{InputSummary}
use Rattle.lk_model.specs.declared.summaries.Kind.{Kind}
use Rattle.lk_model.specs.declared.summaries.Winner.{Winner}
use Rattle.lk_model.specs.declared.summaries.Winner.TheVariants as winner
use Rattle.lk_model.specs.Adding.{is_wanted_among, is_wanted_member}
use Rattle.lk_model.specs.Groups.{claimed_by, is_left}
use Rattle.lk_model.specs.Numbered.{Numbered, is_number_in}
use Rattle.lk_model.specs.Symbols.{contributions_of, contributions_to, home_left, is_named, is_object_common, is_object_reference, is_of_object, is_placed, is_shared_definition, is_strong_definition, is_weak, is_weak_definition, is_common, names_in_order, symbols_of}
use Rattle.lk_model.specs.Winners.{first_offered, is_nothing, merged, visibility_of, winner_of}
use Rattle.lk_resolve.specs.LeftSections.{left_in}
use Rattle.lk_resolve.specs.States.{asked_by_all, state_of}
use Rattle.lk_resolve.specs.Wanted.{is_home_placed, is_placed_in, is_row_wanted, places_wanted, defines_wanted, wants, wants_name, wants_row}
use Rattle.lk_resolve.proofs.ListSets.{any-alike, any-or}
use Rattle.lk_resolve.proofs.SectionsLeft.{left_is}
use Rattle.lk_symtab.specs.NameRows.{NameRow, all_symbols, number_of, row_needed, row_winner}
use Rattle.lk_symtab.specs.SymbolLaws.{plain_row}
use Rattle.lk_symtab.proofs.SymbolsFound.{names_have}

-- the row of a name is the one found by its name
all-plain : (css : List Contributions) → all_symbols (map plain_row css) ≡ css
all-plain [] = refl
all-plain (cs ∷ css) = ap (λ (l : List Contributions). cs ∷ l) (all-plain css)

found-row : (css : List Contributions) (test : Contributions → Bool) → option_and_then (slice_get (map plain_row css)) (position test css) ≡ option_map plain_row (find test css)
found-row css test =
    by (nat_lt (position_or_len test css) (length css)) refl ∙ ap (option_map plain_row) (sym (find_at test css))
  where
    by : (b : Bool) → nat_lt (position_or_len test css) (length css) ≡ b → option_and_then (slice_get (map plain_row css)) (cond b (Some (position_or_len test css)) None) ≡ option_map plain_row (slice_get css (position_or_len test css))
    by true e = slice_get-map plain_row css (position_or_len test css)
    by false e = ap (option_map plain_row) (sym (slice_get_past css (position_or_len test css) (ltb-false (position_or_len test css) (length css) e)))

row-numbered : (css : List Contributions) (name : List ℕ) → option_and_then (slice_get (map plain_row css)) (number_of (map plain_row css) name) ≡ option_map plain_row (find (λ (cs : Contributions). bytes_eq cs.name name) css)
row-numbered css name =
    ap (λ (l : List Contributions). option_and_then (slice_get (map plain_row css)) (position (λ (cs : Contributions). bytes_eq cs.name name) l)) (all-plain css)
    ∙ found-row css (λ (cs : Contributions). bytes_eq cs.name name)

-- and holds the symbols of the name
found-symbols : (symbols : List Contribution) (ns : List (List ℕ)) (name : List ℕ) → find (λ (cs : Contributions). bytes_eq cs.name name) (map (contributions_to symbols) ns) ≡ cond (list_any (bytes_eq name) ns) (Some (contributions_to symbols name)) None
found-symbols symbols [] name = refl
found-symbols symbols (n ∷ ns) name =
    by (bytes_eq n name) refl (found-symbols symbols ns name)
    ∙ ap (λ b. cond (b || list_any (bytes_eq name) ns) (Some (contributions_to symbols name)) None) (nat_list_eq_equiv.symm n name)
  where
    by : (b : Bool) → bytes_eq n name ≡ b → find (λ (cs : Contributions). bytes_eq cs.name name) (map (contributions_to symbols) ns) ≡ cond (list_any (bytes_eq name) ns) (Some (contributions_to symbols name)) None
        → cond b (Some (contributions_to symbols n)) (find (λ (cs : Contributions). bytes_eq cs.name name) (map (contributions_to symbols) ns)) ≡ cond (b || list_any (bytes_eq name) ns) (Some (contributions_to symbols name)) None
    by true e rest = ap (λ m. Some (contributions_to symbols m)) ((bytes_decides n name).0 e)
    by false e rest = rest

-- a name means nothing where no object defines it and it cannot be an import
has_some : List Contribution → Bool
has_some [] = false
has_some (c ∷ cs) = true

nothing_offered : (strong : Option Contribution) (commons : List Contribution) (weak shared : Option Contribution) (default : Bool)
    → is_nothing (first_offered (option_map (λ (c : Contribution). winner.Strong c.input c.global.symbol) strong ∷ merged commons ∷ option_map (λ (c : Contribution). winner.Weak c.input c.global.symbol) weak ∷ None ∷ cond default (option_map (λ (c : Contribution). winner.Import c.input c.global.symbol) shared) None ∷ []))
    ≡ (not (is_some strong || (has_some commons || is_some weak)) && not (is_some shared && default))
unfolding has_some
nothing_offered (Some s) commons weak shared default = refl
nothing_offered None (c ∷ cs) weak shared default = refl
nothing_offered None [] (Some w) shared default = refl
nothing_offered None [] None (Some s) true = refl
nothing_offered None [] None (Some s) false = refl
nothing_offered None [] None None true = refl
nothing_offered None [] None None false = refl

found-any : (p : Contribution → Bool) (cs : List Contribution) → is_some (find p cs) ≡ list_any p cs
found-any p [] = refl
found-any p (c ∷ cs) = by (p c) (found-any p cs)
  where
    by : (b : Bool) → is_some (find p cs) ≡ list_any p cs → is_some (cond b (Some c) (find p cs)) ≡ (b || list_any p cs)
    by true h = refl
    by false h = h

filter-any : (p : Contribution → Bool) (cs : List Contribution) → has_some (filter p cs) ≡ list_any p cs
unfolding has_some
filter-any p [] = refl
filter-any p (c ∷ cs) = by (p c) (filter-any p cs)
  where
    by : (b : Bool) → has_some (filter p cs) ≡ list_any p cs → has_some (cond b (c ∷ filter p cs) (filter p cs)) ≡ (b || list_any p cs)
    by true h = refl
    by false h = h

-- a definition in an object is strong, common or weak
of_three : (object placed weak common : Bool) → ((object && (placed && not weak)) || ((object && common) || (object && (placed && weak)))) ≡ (object && (placed || (object && common)))
of_three false placed weak common = refl
of_three true true true true = refl
of_three true true true false = refl
of_three true true false common = refl
of_three true false weak true = refl
of_three true false weak false = refl

defined-any : (cs : List Contribution) → (list_any is_strong_definition cs || (list_any is_object_common cs || list_any is_weak_definition cs)) ≡ list_any (λ (c : Contribution). is_of_object c && (is_placed c || is_object_common c)) cs
defined-any cs =
    ap (λ b. list_any is_strong_definition cs || b) (sym (any-or is_object_common is_weak_definition cs))
    ∙ sym (any-or is_strong_definition (λ (c : Contribution). is_object_common c || is_weak_definition c) cs)
    ∙ any-alike (λ (c : Contribution). is_strong_definition c || (is_object_common c || is_weak_definition c)) (λ (c : Contribution). is_of_object c && (is_placed c || is_object_common c))
    (λ c. of_three (is_of_object c) (is_placed c) (is_weak c) (is_common c)) cs

nothing_is : (cs : Contributions) → is_nothing (winner_of cs false (visibility_of cs)) ≡ (not (list_any (λ (c : Contribution). is_of_object c && (is_placed c || is_object_common c)) cs.list) && not (list_any is_shared_definition cs.list && (visibility_of cs == stv_default)))
unfolding winner_of
nothing_is cs =
    nothing_offered (find is_strong_definition cs.list) (filter is_object_common cs.list) (find is_weak_definition cs.list) (find is_shared_definition cs.list) (visibility_of cs == stv_default)
    ∙ (λ i. not (found-any is_strong_definition cs.list i || (filter-any is_object_common cs.list i || found-any is_weak_definition cs.list i)) && not (found-any is_shared_definition cs.list i && (visibility_of cs == stv_default)))
    ∙ ap (λ b. not b && not (list_any is_shared_definition cs.list && (visibility_of cs == stv_default))) (defined-any cs.list)

-- whether a name with these symbols is wanted
abbrev wanted_with : List ℕ → Contributions → Bool
wanted_with entry cs =
    (bytes_eq entry cs.name || list_any (λ (c : Contribution). is_object_reference c && (c.global.binding == stb_global)) cs.list)
    && (not (list_any (λ (c : Contribution). is_of_object c && (is_placed c || is_object_common c)) cs.list)
    && not (list_any is_shared_definition cs.list && (visibility_of cs == stv_default)))

row-wanted : (entry : List ℕ) (cs : Contributions) → is_row_wanted entry cs.name (plain_row cs) ≡ wanted_with entry cs
row-wanted entry cs =
    ap (λ b. (bytes_eq entry cs.name || list_any (λ (c : Contribution). is_object_reference c && (c.global.binding == stb_global)) cs.list) && b) (nothing_is cs)

without_symbols : (b : Bool) → b ≡ ((b || false) && true)
without_symbols true = refl
without_symbols false = refl

none_named : (name : List ℕ) (symbols : List Contribution) → list_any (is_named name) symbols ≡ false → filter (is_named name) symbols ≡ []
none_named name [] h = refl
none_named name (c ∷ cs) h = by (is_named name c) h (none_named name cs)
  where
    by : (b : Bool) → (b || list_any (is_named name) cs) ≡ false → (list_any (is_named name) cs ≡ false → filter (is_named name) cs ≡ []) → cond b (c ∷ filter (is_named name) cs) (filter (is_named name) cs) ≡ []
    by true any rest = absurd (cc)
    by false any rest = rest any

pub name_is_wanted : (entry : List ℕ) (symbols : List Contribution) (name : List ℕ) → wants_name entry (map plain_row (contributions_of symbols)) name ≡ is_wanted_among entry symbols name
name_is_wanted entry symbols name =
    ap (wants_row entry name) (row-numbered (contributions_of symbols) name ∙ ap (option_map plain_row) (found-symbols symbols (names_in_order symbols) name ∙ ap (λ b. cond b (Some (contributions_to symbols name)) None) (names_have name symbols)))
    ∙ by (list_any (is_named name) symbols) refl
  where
    by : (b : Bool) → list_any (is_named name) symbols ≡ b → wants_row entry name (option_map plain_row (cond b (Some (contributions_to symbols name)) None)) ≡ wanted_with entry (contributions_to symbols name)
    by true e = row-wanted entry (contributions_to symbols name)
    by false e =
        without_symbols (bytes_eq entry name) ∙ ap (λ (l : List Contribution). wanted_with entry (record { name = name; list = l })) (sym (none_named name symbols e))

-- a symbol has a place where it counts as having one
placed_is : (left : List ℕ) (claimed : List (List ℕ)) (summary : InputSummary) (h : Home) → ((s : ℕ) → is_number_in left s ≡ is_left claimed summary s) → (input : ℕ) (k : Kind) (g : Global) → is_placed_in left h ≡ is_placed (record { input = input; kind = k; global = record g { home = home_left claimed summary h } })
placed_is left claimed summary (home.Section s) same input k g = same s ∙ by (is_left claimed summary s)
  where
    by : (b : Bool) → b ≡ is_placed (record { input = input; kind = k; global = record g { home = cond b (home.Section s) home.Undefined } })
    by true = refl
    by false = refl
placed_is left claimed summary home.Undefined same input k g = refl
placed_is left claimed summary home.Absolute same input k g = refl
placed_is left claimed summary home.Common same input k g = refl
placed_is left claimed summary home.Shared same input k g = refl

defines_is : (entry : List ℕ) (symbols : List Contribution) (left : List ℕ) (claimed : List (List ℕ)) (summary : InputSummary) → ((s : ℕ) → is_number_in left s ≡ is_left claimed summary s) → (input : ℕ) (k : Kind) (gs : List Global)
    → defines_wanted entry (map plain_row (contributions_of symbols)) left gs
    ≡ list_any (λ (c : Contribution). is_placed c && is_wanted_among entry symbols c.global.name) (map (λ (g : Global). let c : Contribution = record { input = input; kind = k; global = record g { home = home_left claimed summary g.home } } in c) gs)
defines_is entry symbols left claimed summary same input k [] = refl
defines_is entry symbols left claimed summary same input k (g ∷ gs) =
    λ i. (placed_is left claimed summary g.home same input k g i && name_is_wanted entry symbols g.name i) || defines_is entry symbols left claimed summary same input k gs i

-- a member is wanted as the model says
pub wants_is : (entry : List ℕ) (paths : List (List ℕ)) (added : List Numbered) (m : Numbered) → wants (state_of entry paths added) m ≡ is_wanted_member entry added m
unfolding wants state_of
wants_is entry paths added m =
    defines_is entry (symbols_of added) (left_in (signatures_of (claims_after (asked_by_all added))) m.summary) (claimed_by added) m.summary (left_is added m.summary) m.number m.summary.kind m.summary.globals

-- where no symbol with a place has a wanted name none defines one
home_placed : (left : List ℕ) (h : Home) (b : Bool) → (is_home_placed h && b) ≡ false → (is_placed_in left h && b) ≡ false
home_placed left home.Undefined b e = refl
home_placed left (home.Section s) b e = by (is_number_in left s) e
  where
    by : (a : Bool) → b ≡ false → (a && b) ≡ false
    by true f = f
    by false f = refl
home_placed left home.Absolute b e = e
home_placed left home.Common b e = refl
home_placed left home.Shared b e = refl

none_both : (a b : Bool) → (a || b) ≡ false → (a ≡ false) × (b ≡ false)
none_both true b e = absurd (cc)
none_both false b e = (refl, e)

pub none_placed : (entry : List ℕ) (rows : List NameRow) (left : List ℕ) (gs : List Global) → places_wanted entry rows gs ≡ false → defines_wanted entry rows left gs ≡ false
none_placed entry rows left [] e = refl
none_placed entry rows left (g ∷ gs) e =
    let both : ((is_home_placed g.home && wants_name entry rows g.name) ≡ false) × (places_wanted entry rows gs ≡ false) = none_both (is_home_placed g.home && wants_name entry rows g.name) (places_wanted entry rows gs) e in
    λ i. home_placed left g.home (wants_name entry rows g.name) both.0 i || none_placed entry rows left gs both.1 i

-- a row is wanted by what the table has of it
pub row_wanted_at : (entry name : List ℕ) (o : Option NameRow) (needed : Bool) (w : Winner) → option_map row_needed o ≡ Some needed → option_map row_winner o ≡ Some w → wants_row entry name o ≡ ((bytes_eq entry name || needed) && is_nothing w)
row_wanted_at entry name None needed w n e = absurd (cc)
row_wanted_at entry name (Some row) needed w n e =
    let is : row_needed row ≡ needed = cc in
    let wins : row_winner row ≡ w = cc in
    λ i. (bytes_eq entry name || is i) && is_nothing (wins i)
