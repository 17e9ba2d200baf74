-- The values of names are numbers that fields hold, at a lawful placement within the limit on memory.
use Rattle.std.proofs.Common.{◌≡◌, refl, sym, ap, ◌∙◌, subst, arith, mod-eq_of_lt, ℕ, ◌+◌, ◌*◌, ◌%◌, ◌^◌, ◌<◌, ◌≤◌, ◌==◌, nat_eq, nat_le, nat_lt, ◌&&◌, Bool, true, false, cond, if◌then◌else◌, List, [], ◌∷◌, length, drop, find, map, slice_get, unwrap_or, Option, Some, None, option_map, codes}
use Rattle.std.specs.Prelude.{IsTrue}
use Rattle.std.specs.List.{AllByRecursion, position_or_len, starts_with}
use Rattle.std.specs.Str.{bytes_eq}
use Rattle.std.proofs.lemmas.Bool.{and_parts}
use Rattle.std.proofs.lemmas.Bool.Decides.{nat_tests}
use Rattle.lk_report.specs.declared.causes.OptionRecord.{OptionRecord}
use Rattle.lk_model.specs.DynamicKeys.{plt_key}
use Rattle.lk_model.specs.DynamicSizes.{dynamic_table_sizes}
use Rattle.lk_model.specs.FullPlace.{load_base, memory_of, size_among}
use Rattle.lk_model.specs.Keys.{piece_row_of, plt_number, row_of}
use Rattle.lk_model.specs.Lawful.{Lawful, size_of, size_with, table_sizes_at}
use Rattle.lk_model.specs.MadeSymbols.{MadeSymbol, bound_value, bss_start, end_of, fixed_made, row_with_piece, made_value, start_of}
use Rattle.lk_model.specs.Resolving.{resolve}
use Rattle.lk_model.specs.SectionKeys.{is_alloc, named, same_key}
use Rattle.lk_model.specs.Segments.{second_segment_end, third_segment_end}
use Rattle.lk_model.specs.SymbolValues.{definition_value, home_value, import_value, name_of, name_value, placed_address, plt_address, symbol_of, winner_of_name, winner_value}
use Rattle.lk_model.specs.Views.{Input, Resolved}
use Rattle.lk_model.specs.declared.layouts.Class.TheVariants.{Bss, W, X}
use Rattle.lk_model.specs.declared.layouts.Needs.{Needs}
use Rattle.lk_model.specs.declared.layouts.PieceId.TheVariants as id
use Rattle.lk_model.specs.declared.layouts.PieceRow.{PieceRow}
use Rattle.lk_model.specs.declared.layouts.Placement.{Placement}
use Rattle.lk_model.specs.declared.layouts.SectionKey.{SectionKey}
use Rattle.lk_model.specs.declared.layouts.SectionRow.{SectionRow}
use Rattle.lk_model.specs.declared.summaries.Global.{Global}
use Rattle.lk_model.specs.declared.summaries.Winner.{Winner}
use Rattle.lk_model.specs.declared.summaries.Winner.TheVariants as winner
use Rattle.lk_model.proofs.KeysFound.{same_key_reports}
use Rattle.lk_symtab.specs.NameRows.{NameRow}
use Rattle.lk_resolve.proofs.Seen.{Sees}
use Rattle.lk_symbol_values.specs.NameValues.{given_at, given_in}
use Rattle.lk_symbol_values.specs.Sections.{low_64}
use Rattle.lk_symbol_values.specs.SymbolNumbering.{ValueInputs, value_at}
use Rattle.lk_symbol_values.specs.declared.name_values.SymbolValue.{SymbolValue}
use Rattle.lk_symbol_values.proofs.Ends.{Ends, EndsLoaded, stored_small, row_small, rows_end, second_small, third_small}
use Rattle.lk_symbol_values.proofs.ImportsShared.{imports_dynamic, is_import}
use Rattle.lk_symbol_values.proofs.Lists.{all_found}
use Rattle.lk_symbol_values.proofs.ValuesGiven.{name_with, symbol_seen, value_of_name, winner_seen, winner_with}

-- made names
abbrev IsSmall : MadeSymbol → Type 0
IsSmall m = m.value < 2 ^ 64

bss_small : (place : Placement) → third_segment_end place < 2 ^ 64 → (o : Option SectionRow) → start_of o < 2 ^ 64 → elim o [ Some row ↦ row.addr | None ↦ third_segment_end place ] < 2 ^ 64
bss_small place end None start = end
bss_small place end (Some row) start = start

fixed_small : (place : Placement) → AllByRecursion EndsLoaded place.sections → AllByRecursion IsSmall (fixed_made place)
fixed_small place all =
    let row = λ (name : List ℕ). row_small place all (named name W) refl in
    let code = second_small place all in
    let end = third_small place all in
    let bss = bss_small place end (row_of place (named (codes ".bss") Bss)) (row_small place all (named (codes ".bss") Bss) refl).0 in (
      (row (codes ".got.plt")).0,
      (
        (row (codes ".dynamic")).0,
        (
          omega arith,
          (
            omega arith,
            (
              (row (codes ".preinit_array")).0,
              (
                (row (codes ".preinit_array")).1,
                (
                  (row (codes ".init_array")).0,
                  (
                    (row (codes ".init_array")).1,
                    (
                      (row (codes ".fini_array")).0,
                      ((row (codes ".fini_array")).1, (code, (code, (code, (bss, (bss, (bss, (end, (end, tt))))))))),
                    ),
                  ),
                ),
              ),
            ),
          ),
        ),
      ),
    )

by_prefix : (a b : Bool) (x y : ℕ) → x < 2 ^ 64 → y < 2 ^ 64 → (if a then x else (if b then y else 0)) < 2 ^ 64
by_prefix true b x y first second = first
by_prefix false true x y first second = second
by_prefix false false x y first second = omega arith

bound_small : (r : Resolved) (place : Placement) → AllByRecursion EndsLoaded place.sections → (name : List ℕ) → bound_value r place name < 2 ^ 64
bound_small r place all name =
    by_prefix (starts_with nat_eq name (codes "__start_")) (starts_with nat_eq name (codes "__stop_"))
    (start_of (row_with_piece r place (drop 8 name))) (end_of (row_with_piece r place (drop 7 name)))
    (stored_small r place all (drop 8 name)).0 (stored_small r place all (drop 7 name)).1

made_small : (r : Resolved) (place : Placement) → AllByRecursion EndsLoaded place.sections → (name : List ℕ) → made_value r place name < 2 ^ 64
made_small r place all name = by (find (λ m. bytes_eq m.name name) (fixed_made place)) refl
  where
    by : (o : Option MadeSymbol) → find (λ m. bytes_eq m.name name) (fixed_made place) ≡ o → elim o [ Some m ↦ m.value | None ↦ bound_value r place name ] < 2 ^ 64
    by None at = bound_small r place all name
    by (Some m) at = (all_found IsSmall (λ m. bytes_eq m.name name) (fixed_made place) m (fixed_small place all) at).0

-- entries of the procedure linkage table
number_within : (test : ℕ → Bool) (xs : List ℕ) (k : ℕ) → cond (nat_lt (position_or_len test xs) (length xs)) (Some (position_or_len test xs)) None ≡ Some k → k < length xs
number_within test xs k is = by (nat_lt (position_or_len test xs) (length xs)) refl is
  where
    lt_reports : (a b : ℕ) → nat_lt a b ≡ true → a < b
    lt_reports a b h = grind (arith, nat_tests)

    by : (b : Bool) → nat_lt (position_or_len test xs) (length xs) ≡ b → cond b (Some (position_or_len test xs)) None ≡ Some k → k < length xs
    by true e at = let same : position_or_len test xs ≡ k = cc in subst (λ m. m < length xs) same (lt_reports (position_or_len test xs) (length xs) e)
    by false e at = absurd (cc)

plt_size : (r : Resolved) (place : Placement) → r.options.dynamic ≡ true → size_among (table_sizes_at r place) plt_key ≡ Some (16 * (1 + length place.slots.plt))
unfolding dynamic_table_sizes
plt_size r place is = rw is refl

eq_reports : (a b : ℕ) → (a == b) ≡ true → a ≡ b
eq_reports a b h = grind (arith, nat_tests)

row_size : (r : Resolved) (place : Placement) → r.options.dynamic ≡ true → (row : SectionRow) → row.key ≡ plt_key → IsTrue (row.size == size_of r place row && nat_le row.size row.room) → row.size ≡ 16 * (1 + length place.slots.plt)
row_size r place is row same passes =
    eq_reports row.size (size_of r place row) (and_parts (row.size == size_of r place row) (nat_le row.size row.room) passes).0
    ∙ ap (λ o. size_with o r row) (ap (size_among (table_sizes_at r place)) same ∙ plt_size r place is)

entry_small : (r : Resolved) (place : Placement) → Lawful r place → AllByRecursion EndsLoaded place.sections → r.options.dynamic ≡ true → (n : ℕ) → unwrap_or (plt_address place n) 0 < 2 ^ 64
entry_small r place lawful all is n = by (plt_number place n) refl (row_of place (named (codes ".plt") X)) refl
  where
    by : (k : Option ℕ) → plt_number place n ≡ k → (o : Option SectionRow) → row_of place (named (codes ".plt") X) ≡ o
        → unwrap_or (elim k [ None ↦ None | Some k ↦ option_map (λ (row : SectionRow). row.addr + 16 * (k + 1)) o ]) 0 < 2 ^ 64
    by None at o found = omega arith
    by (Some k) at None found = omega arith
    by (Some k) at (Some row) found =
        let within = number_within (λ m. m == n) place.slots.plt k at in
        let ends = all_found EndsLoaded (λ (row : SectionRow). same_key row.key plt_key) place.sections row all found in
        let same = same_key_reports row.key plt_key ends.1 in
        let here = ends.0 (ap (λ (k : SectionKey). is_alloc k.class) same) in
        let size = row_size r place is row same (all_found (λ (row : SectionRow). IsTrue (row.size == size_of r place row && nat_le row.size row.room)) (λ (row : SectionRow). same_key row.key plt_key) place.sections row lawful.sizes found).0 in
        let room = here.room in
        let sized = here.size in
        omega (arith, within, size, room, sized)

-- imports
import_small : (place : Placement) (n : ℕ) → placed_address place (id.Copy n) < 2 ^ 64 → unwrap_or (plt_address place n) 0 < 2 ^ 64 → import_value place n < 2 ^ 64
import_small place n copy entry = by (piece_row_of place (id.Copy n)) copy
  where
    by : (o : Option PieceRow) → elim o [ None ↦ 0 | Some row ↦ row.addr ] < 2 ^ 64 → elim o [ Some row ↦ row.addr | None ↦ unwrap_or (plt_address place n) 0 ] < 2 ^ 64
    by None fits = entry
    by (Some row) fits = fits

module _ (known : ValueInputs) (needs : Needs) (options : OptionRecord) (xs : List Input) (s : Sees known.resolution known.summaries needs options (resolve options xs)) (lawful : Lawful (resolve options xs) known.place) (memory : memory_of known.place ≤ 2 ^ 31) where
  winner_small : (n : ℕ) (name : List ℕ) (w : Winner) → given_in known.summaries known.place n w < 2 ^ 64 → (is_import w ≡ true → (resolve options xs).options.dynamic ≡ true) → winner_value (resolve options xs) known.place n name w < 2 ^ 64
  winner_small n name winner.Nothing fits dynamic = omega arith
  winner_small n name (winner.Strong i k) fits dynamic =
      subst (λ (o : Option Global). elim o [ None ↦ 0 | Some g ↦ home_value known.place i g.home g.value ] < 2 ^ 64) (symbol_seen known needs options (resolve options xs) s lawful i k) fits
  winner_small n name (winner.Common size align) fits dynamic = fits
  winner_small n name (winner.Weak i k) fits dynamic =
      subst (λ (o : Option Global). elim o [ None ↦ 0 | Some g ↦ home_value known.place i g.home g.value ] < 2 ^ 64) (symbol_seen known needs options (resolve options xs) s lawful i k) fits
  winner_small n name winner.Made fits dynamic = made_small (resolve options xs) known.place (rows_end (resolve options xs) known.place lawful memory) name
  winner_small n name (winner.Import i k) fits dynamic =
      import_small known.place n fits (entry_small (resolve options xs) known.place lawful (rows_end (resolve options xs) known.place lawful memory) (dynamic refl) n)

  row_given : (n : ℕ) (o : Option NameRow) → given_at known.summaries known.place n o < 2 ^ 64 → given_in known.summaries known.place n (winner_with o) < 2 ^ 64
  row_given n None fits = fits
  row_given n (Some row) fits = fits

  name_small : (n : ℕ) → given_at known.summaries known.place n (slice_get known.resolution.rows n) < 2 ^ 64 → name_value (resolve options xs) known.place n < 2 ^ 64
  name_small n fits =
      let w = winner_of_name (resolve options xs) n in
      let given : given_in known.summaries known.place n w < 2 ^ 64 =
      subst (λ w. given_in known.summaries known.place n w < 2 ^ 64) (winner_seen known needs options (resolve options xs) s lawful n) (row_given n (slice_get known.resolution.rows n) fits) in
      winner_small n (name_of (resolve options xs) n) w given (imports_dynamic options xs n)

  -- what is reported of a name is its value
  pub value_exact : (v : SymbolValue) (n : ℕ) → v ≡ value_at known n → given_at known.summaries known.place n (slice_get known.resolution.rows n) < 2 ^ 64 → v.value ≡ name_value (resolve options xs) known.place n
  value_exact v n is fits =
      ap (λ (v : SymbolValue). v.value) is
      ∙ value_of_name known needs options (resolve options xs) s lawful n
      ∙ mod-eq_of_lt (name_small n fits)
