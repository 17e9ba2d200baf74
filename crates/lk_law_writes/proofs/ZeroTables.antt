-- The tables of a static link that needs no slot and no entry hold zeros alone.
use Rattle.std.specs.Prelude.{◌≡◌, ℕ, Bool, true, false, IsTrue, List, [], ◌∷◌, ◌++◌, Option, Some, None, ◌==◌, ◌&&◌, find, flat_map, length, replicate, refl}
use Rattle.std.specs.List.{AllByRecursion, enumerate_from, list_all, list_any}
use Rattle.std.proofs.Common.{ap, subst, sym, ◌∙◌}
use Rattle.std.proofs.lemmas.Bool.{and_parts, both_ways, false_from_ne_true}
use Rattle.std.proofs.lemmas.List.{length-append, replicate-append-replicate}
use Rattle.lk_elf.specs.Fields.{bytes_of}
use Rattle.lk_model.specs.Answers.{is_empty, needs_nothing}
use Rattle.lk_model.specs.DynamicKeys.{dynamic_key}
use Rattle.lk_model.specs.Keys.{row_of}
use Rattle.lk_model.specs.Lawful.{Lawful, entries_are, is_free_or_of, is_no_strange_table, slots_are, table_sizes_at}
use Rattle.lk_model.specs.SectionKeys.{got_key, got_plt_key, is_table, same_key}
use Rattle.lk_model.specs.Tables.{dynamic_address, got_bytes, got_plt_bytes, jump_bytes, slot_bytes, table_of_key}
use Rattle.lk_model.specs.Views.{Resolved}
use Rattle.lk_model.specs.declared.layouts.GotKey.{GotKey}
use Rattle.lk_model.specs.declared.layouts.Placement.{Placement}
use Rattle.lk_model.specs.declared.layouts.SectionKey.{SectionKey}
use Rattle.lk_model.specs.declared.layouts.SectionRow.{SectionRow}
use Rattle.lk_model.proofs.KeysFound.{same_key_reports}
use Rattle.lk_model.proofs.Rising.{all_map}
use Rattle.lk_law_placement.proofs.DistinctLists.{all_both}
use Rattle.lk_law_writes.proofs.TableLengths.{NoPieceIn, is_made, keys_of, table_length}

-- ---- lists of zeros

abbrev ZerosAlone : List ℕ → Type 0
ZerosAlone bytes = bytes ≡ replicate (length bytes) 0

zeros_joined : (xs ys : List ℕ) → ZerosAlone xs → ZerosAlone ys → ZerosAlone (xs ++ ys)
zeros_joined xs ys one other =
    ap (λ l. l ++ ys) one
    ∙ (ap (λ l. replicate (length xs) 0 ++ l) other
    ∙ (replicate-append-replicate (length xs) (length ys) 0
    ∙ ap (λ n. replicate n 0) (sym (length-append xs ys))))

-- ---- what is needed

-- a list that has no item is empty
empty_is : {X : Type 0} (xs : List X) → is_empty xs ≡ true → xs ≡ []
empty_is [] empty = refl
empty_is (x ∷ xs) empty = absurd (both_ways false refl empty)

-- slots that no key has are free, and hold zeros
free_slots : (r : Resolved) (place : Placement) (slots : List (Option GotKey)) → list_all (is_free_or_of []) slots ≡ true → ZerosAlone (flat_map (slot_bytes r place) slots)
unfolding bytes_of
free_slots r place [] all = refl
free_slots r place (None ∷ slots) all = zeros_joined (slot_bytes r place None) (flat_map (slot_bytes r place) slots) refl (free_slots r place slots all)
free_slots r place (Some key ∷ slots) all = absurd (both_ways false refl all)

-- where no name needs an entry, there are no entries
no_entries : (entries : List ℕ) → list_all (λ entry. list_any (λ name. name == entry) []) entries ≡ true → entries ≡ []
no_entries [] all = refl
no_entries (e ∷ es) all = absurd (both_ways false refl all)

-- what a static link needs that needs nothing
pub record NothingNeeded (r : Resolved) (place : Placement) : Type 0 where
  pub slots : list_all (is_free_or_of []) place.slots.got ≡ true
  pub entries : place.slots.plt ≡ []

nothing_needed : (r : Resolved) (place : Placement) → Lawful r place → needs_nothing r.needs ≡ true → NothingNeeded r place
nothing_needed r place l none =
    let three = and_parts (is_empty r.needs.got && is_empty r.needs.plt && is_empty r.needs.address) (is_empty r.needs.copies) none in
    let two = and_parts (is_empty r.needs.got && is_empty r.needs.plt) (is_empty r.needs.address) three.0 in
    let one = and_parts (is_empty r.needs.got) (is_empty r.needs.plt) two.0 in
    let got : IsTrue (slots_are [] place.slots.got) = subst (λ (keys : List GotKey). IsTrue (slots_are keys place.slots.got)) (empty_is r.needs.got one.0) l.slots in
    let plt : IsTrue (entries_are [] place.slots.plt) = subst (λ (names : List ℕ). IsTrue (entries_are names place.slots.plt)) (empty_is r.needs.plt one.1) l.entries in
    record { slots = got; entries = no_entries place.slots.plt plt }

-- ---- the tables of a static link

static_tables : (r : Resolved) (place : Placement) → r.options.dynamic ≡ false → keys_of (table_sizes_at r place) ≡ got_key ∷ got_plt_key ∷ []
static_tables r place static = rw static refl

-- a row that is a table is one of two
made_static :
    (r : Resolved) (place : Placement) (row : SectionRow)
    → NoPieceIn r.kept
    → r.options.dynamic ≡ false
    → is_table row.key ≡ true
    → IsTrue (is_no_strange_table r place.slots row)
    → list_any (same_key row.key) (got_key ∷ got_plt_key ∷ []) ≡ true
made_static r place row none static table known =
    sym (ap (list_any (same_key row.key)) (static_tables r place static)) ∙ is_made r place row none table known

-- no row is that of a dynamic section
not_dynamic : (r : Resolved) (place : Placement) (row : SectionRow) → NoPieceIn r.kept → r.options.dynamic ≡ false → IsTrue (is_no_strange_table r place.slots row) → same_key row.key dynamic_key ≡ false
not_dynamic r place row none static known = false_from_ne_true (same_key row.key dynamic_key) (λ e. there (same_key_reports row.key dynamic_key e))
  where
    there : row.key ≡ dynamic_key → ⊥
    there own = both_ways false refl (subst (λ (key : SectionKey). list_any (same_key key) (got_key ∷ got_plt_key ∷ []) ≡ true) own (made_static r place row none static (ap is_table own) known))

find_none : (p : SectionRow → Bool) (rows : List SectionRow) → AllByRecursion (λ row. p row ≡ false) rows → find p rows ≡ None
find_none p [] none = refl
find_none p (row ∷ rows) none = rw none.0 (find_none p rows none.1)

no_dynamic : (r : Resolved) (place : Placement) → Lawful r place → NoPieceIn r.kept → r.options.dynamic ≡ false → row_of place dynamic_key ≡ None
no_dynamic r place l none static =
    find_none (λ row. same_key row.key dynamic_key) place.sections
    (all_map {Q = λ (row : SectionRow). same_key row.key dynamic_key ≡ false} (λ row known. not_dynamic r place row none static known) place.sections l.no_other_tables)

no_address : (place : Placement) → row_of place dynamic_key ≡ None → dynamic_address place ≡ 0
no_address place none = ap (λ (o : Option SectionRow). elim o [ None ↦ 0 | Some row ↦ row.addr ]) none

-- three words of zeros
abbrev three_words : Placement → ℕ → List ℕ → List ℕ
three_words place address entries = bytes_of 8 address ++ bytes_of 8 0 ++ bytes_of 8 0 ++ flat_map (jump_bytes place) (enumerate_from 0 entries)

zero_words : (place : Placement) (entries : List ℕ) → entries ≡ [] → ZerosAlone (three_words place 0 entries)
unfolding bytes_of
zero_words place [] empty = refl
zero_words place (e ∷ es) empty = absurd (cc)

got_plt_zeros : (r : Resolved) (place : Placement) → row_of place dynamic_key ≡ None → place.slots.plt ≡ [] → ZerosAlone (got_plt_bytes place)
got_plt_zeros r place none empty =
    subst (λ (n : ℕ). ZerosAlone (three_words place n place.slots.plt)) (sym (no_address place none)) (zero_words place place.slots.plt empty)

-- both hold zeros
two_tables : (r : Resolved) (place : Placement) (key : SectionKey) → ZerosAlone (got_bytes r place) → ZerosAlone (got_plt_bytes place) → list_any (same_key key) (got_key ∷ got_plt_key ∷ []) ≡ true → ZerosAlone (table_of_key r place key)
unfolding table_of_key
two_tables r place key got plt there = go (same_key key got_key) (same_key key got_plt_key) refl refl
  where
    go : (a b : Bool) → same_key key got_key ≡ a → same_key key got_plt_key ≡ b → ZerosAlone (table_of_key r place key)
    go true b e f = rw e got
    go false true e f = rw e (rw f plt)
    go false false e f = absurd (both_ways false refl (rw e at (rw f at there)))

-- the tables of a static link that needs nothing hold zeros
pub zero_tables :
    (r : Resolved) (place : Placement)
    → Lawful r place
    → NoPieceIn r.kept
    → r.options.dynamic ≡ false
    → needs_nothing r.needs ≡ true
    → AllByRecursion (λ (row : SectionRow). is_table row.key ≡ true → table_of_key r place row.key ≡ replicate row.size 0) place.sections
zero_tables r place l none static nothing =
    let needed = nothing_needed r place l nothing in
    let got : ZerosAlone (got_bytes r place) = free_slots r place place.slots.got needed.slots in
    let plt : ZerosAlone (got_plt_bytes place) = got_plt_zeros r place (no_dynamic r place l none static) needed.entries in
    all_both
    {R = λ (row : SectionRow). is_table row.key ≡ true → table_of_key r place row.key ≡ replicate row.size 0}
    (λ row known sized table.
    two_tables r place row.key got plt (made_static r place row none static table known) ∙ ap (λ n. replicate n 0) (table_length r place row none table known sized))
    place.sections l.no_other_tables l.sizes
