-- The entries of symbol tables are lk_model's.
use Rattle.std.proofs.Common.{◌≡◌, refl, sym, ap, ◌∙◌, arith, ℕ, zero, suc, ◌≤◌, Bool, true, false, cond, if◌then◌else◌, List, [], ◌∷◌, length, Option, Some, None, option_map, slice_get, unwrap_or}
use Rattle.std.proofs.lemmas.Option.{slice_get-map}
use Rattle.lk_elf.proofs.LowBits.{low-long}
use Rattle.lk_elf.specs.Fields.{bytes_of}
use Rattle.lk_elf.specs.Numbers.{shn_undef, stb_global, stb_weak, stv_default}
use Rattle.lk_elf.specs.Records.{sym_bytes}
use Rattle.lk_elf.specs.declared.symbol.Sym.{Sym}
use Rattle.lk_report.specs.declared.causes.OptionRecord.{OptionRecord}
use Rattle.lk_model.specs.DynamicSymbols.{copy_entry, entry_by_winner, import_binding, import_entry, is_global_in_object, uncopied_value, undefined_entry}
use Rattle.lk_model.specs.Lawful.{Lawful}
use Rattle.lk_model.specs.Numbered.{is_number_in}
use Rattle.lk_model.specs.SymbolEntries.{common_entry, definition_entry, name_visibility, null_entry, piece_header_number, symbol_info, tabled_value}
use Rattle.lk_model.specs.SymbolTable.{imported_entry, made_entry, symtab_entry_by_winner}
use Rattle.lk_model.specs.SymbolValues.{name_of, name_value, placed_address, plt_address, symbol_of, winner_of_name}
use Rattle.lk_model.specs.Texts.{offset_in}
use Rattle.lk_model.specs.Views.{Resolved}
use Rattle.lk_model.specs.declared.layouts.Needs.{Needs}
use Rattle.lk_model.specs.declared.layouts.PieceId.TheVariants as id
use Rattle.lk_model.specs.declared.summaries.Contributions.{Contributions}
use Rattle.lk_model.specs.declared.summaries.Global.{Global}
use Rattle.lk_model.specs.declared.summaries.Winner.{Winner}
use Rattle.lk_model.specs.declared.summaries.Winner.TheVariants as winner
use Rattle.lk_symtab.specs.NameRows.{NameRow, row_visibility, row_winner, symbols_in}
use Rattle.lk_resolve.proofs.Seen.{Sees}
use Rattle.lk_symbol_values.specs.InputSymbols.{symbol_in}
use Rattle.lk_symbol_values.proofs.ValuesGiven.{symbol_seen}
use Rattle.lk_dyn.specs.LowBits.{low_64}
use Rattle.lk_dyn_tables.specs.SymbolEntries.{as_sym, copy_of, imported_of, null_of, undefined_of}
use Rattle.lk_dyn_tables.specs.SymbolTables.{SymbolInputs, binding_of, definition_in, dynsym_import_in, entry_bytes, entry_in, fields_of, import_in, known_of, symtab_import_in, uncopied_in}
use Rattle.lk_dyn_tables.specs.declared.symbol_entries.NameFields.{NameFields}
use Rattle.lk_dyn_tables.specs.declared.symbols.SymbolTable.{SymbolTable}
use Rattle.lk_dyn_tables.specs.declared.symbols.SymbolTable.TheVariants as table
use Rattle.lk_dyn_tables.proofs.EntriesLow.{low_value, tabled_low}

none_past : (rows : List NameRow) (n : ℕ) → length rows ≤ n → slice_get rows n ≡ None
none_past [] n past = refl
none_past (row ∷ rows) zero past = absurd (omega (arith, past))
none_past (row ∷ rows) (suc n) past = none_past rows n (omega (arith, past))

-- an entry of lk_model by the name's winner
abbrev entry_with : SymbolTable → Resolved → SymbolInputs → ℕ → ℕ → Winner → Sym
entry_with table.Dynsym r s text n w = unwrap_or (entry_by_winner r s.place text n w) null_entry
entry_with table.Symtab r s text n w = unwrap_or (symtab_entry_by_winner r s.place text n w) null_entry

by_addressed : (b : Bool) (value : ℕ) → bytes_of 8 (cond b (low_64 value) 0) ≡ bytes_of 8 (cond b value 0)
by_addressed true value = low-long value
by_addressed false value = refl

module _ (s : SymbolInputs) (options : OptionRecord) (r : Resolved) (sees : Sees s.resolution s.summaries s.needs options r) (lawful : Lawful r s.place) where
  symbol_is : (input symbol : ℕ) → symbol_in s.summaries input symbol ≡ symbol_of r input symbol
  symbol_is input symbol = symbol_seen (known_of s) s.needs options r sees lawful input symbol

  -- definitions
  definition_given : (text n input : ℕ) (o : Option Global)
      → sym_bytes (as_sym (definition_in s (fields_of r s.place text n) input o)) ≡ sym_bytes (unwrap_or (option_map (definition_entry r s.place text n input) o) null_entry)
  unfolding definition_entry
  definition_given text n input None = refl
  definition_given text n input (Some g) =
      low_value (definition_entry r s.place text n input g) (tabled_value s.place g.code (low_64 (name_value r s.place n))) (tabled_low s.place g.code (name_value r s.place n))

  defined : (text n input symbol : ℕ)
      → sym_bytes (as_sym (definition_in s (fields_of r s.place text n) input (symbol_in s.summaries input symbol))) ≡ sym_bytes (unwrap_or (option_map (definition_entry r s.place text n input) (symbol_of r input symbol)) null_entry)
  defined text n input symbol =
      ap (λ o. sym_bytes (as_sym (definition_in s (fields_of r s.place text n) input o))) (symbol_is input symbol)
      ∙ definition_given text n input (symbol_of r input symbol)

  -- common blocks
  common_given : (t : SymbolTable) (text n size align : ℕ)
      → sym_bytes (as_sym (entry_in s t (fields_of r s.place text n) (import_binding r n) n (winner.Common size align))) ≡ sym_bytes (common_entry r s.place text n size)
  unfolding common_entry
  common_given t text n size align = low_value (common_entry r s.place text n size) (low_64 (name_value r s.place n)) (low-long (name_value r s.place n))

  -- symbols that the linker makes
  made_given : (text n : ℕ)
      → sym_bytes (as_sym (entry_in s table.Symtab (fields_of r s.place text n) (import_binding r n) n winner.Made)) ≡ sym_bytes (made_entry r s.place text n)
  unfolding made_entry
  made_given text n = low_value (made_entry r s.place text n) (low_64 (name_value r s.place n)) (low-long (name_value r s.place n))

  -- imports
  uncopied_low : (n : ℕ) → bytes_of 8 (uncopied_in s n) ≡ bytes_of 8 (uncopied_value r s.place n)
  uncopied_low n =
      let value = unwrap_or (plt_address s.place n) 0 in
      by_addressed (is_number_in s.needs.address n) value
      ∙ ap (λ (needs : Needs). bytes_of 8 (cond (is_number_in needs.address n) value 0)) (sym sees.needed)

  by_copied : (text n : ℕ) (g : Global) (b : Bool)
      → sym_bytes (as_sym (cond b (copy_of s.place text (import_binding r n) n g) (undefined_of text (import_binding r n) (uncopied_in s n) g)))
      ≡ sym_bytes (cond b (copy_entry r s.place text n g) (undefined_entry r s.place text n g))
  unfolding copy_entry undefined_entry
  by_copied text n g true = refl
  by_copied text n g false = low_value (undefined_entry r s.place text n g) (uncopied_in s n) (uncopied_low n)

  dynsym_given : (text n : ℕ) (g : Global) → sym_bytes (as_sym (dynsym_import_in s text (import_binding r n) n g)) ≡ sym_bytes (import_entry r s.place text n g)
  dynsym_given text n g =
      by_copied text n g (is_number_in s.needs.copies n)
      ∙ ap (λ (needs : Needs). sym_bytes (cond (is_number_in needs.copies n) (copy_entry r s.place text n g) (undefined_entry r s.place text n g))) (sym sees.needed)

  imported_with : ℕ → ℕ → Global → ℕ → ℕ → Sym
  imported_with text n g shndx value = record {
    st_name = text;
    st_info = symbol_info g.binding g.code;
    st_other = name_visibility r n;
    st_shndx = shndx;
    st_value = value;
    st_size = g.size;
  }

  where_copied : (text n : ℕ) (g : Global) (b : Bool) (number address : ℕ)
      → sym_bytes (as_sym (cond b (imported_of (fields_of r s.place text n) number address g) (imported_of (fields_of r s.place text n) shn_undef (uncopied_in s n) g)))
      ≡ sym_bytes (imported_with text n g (cond b number shn_undef) (cond b address (uncopied_value r s.place n)))
  unfolding imported_with
  where_copied text n g true number address = refl
  where_copied text n g false number address = low_value (imported_with text n g shn_undef (uncopied_value r s.place n)) (uncopied_in s n) (uncopied_low n)

  symtab_given : (text n : ℕ) (g : Global) → sym_bytes (as_sym (symtab_import_in s (fields_of r s.place text n) n g)) ≡ sym_bytes (imported_entry r s.place text n g)
  unfolding imported_entry imported_with
  symtab_given text n g =
      let number = piece_header_number s.place (id.Copy n) in
      let address = placed_address s.place (id.Copy n) in
      where_copied text n g (is_number_in s.needs.copies n) number address
      ∙ ap (λ (needs : Needs). sym_bytes (imported_with text n g (cond (is_number_in needs.copies n) number shn_undef) (cond (is_number_in needs.copies n) address (uncopied_value r s.place n)))) (sym sees.needed)

  import_given : (t : SymbolTable) (text n input symbol : ℕ) (o : Option Global) → symbol_of r input symbol ≡ o
      → sym_bytes (as_sym (import_in s t (fields_of r s.place text n) (import_binding r n) n o)) ≡ sym_bytes (entry_with t r s text n (winner.Import input symbol))
  import_given table.Dynsym text n input symbol None is = ap (λ o. sym_bytes (unwrap_or (option_map (import_entry r s.place text n) o) null_entry)) (sym is)
  import_given table.Dynsym text n input symbol (Some g) is = dynsym_given text n g ∙ ap (λ o. sym_bytes (unwrap_or (option_map (import_entry r s.place text n) o) null_entry)) (sym is)
  import_given table.Symtab text n input symbol None is = ap (λ o. sym_bytes (unwrap_or (option_map (imported_entry r s.place text n) o) null_entry)) (sym is)
  import_given table.Symtab text n input symbol (Some g) is = symtab_given text n g ∙ ap (λ o. sym_bytes (unwrap_or (option_map (imported_entry r s.place text n) o) null_entry)) (sym is)

  imported : (t : SymbolTable) (text n input symbol : ℕ)
      → sym_bytes (as_sym (import_in s t (fields_of r s.place text n) (import_binding r n) n (symbol_in s.summaries input symbol))) ≡ sym_bytes (entry_with t r s text n (winner.Import input symbol))
  imported t text n input symbol =
      ap (λ o. sym_bytes (as_sym (import_in s t (fields_of r s.place text n) (import_binding r n) n o))) (symbol_is input symbol)
      ∙ import_given t text n input symbol (symbol_of r input symbol) refl

  -- by the winner
  entry_given : (t : SymbolTable) (text n : ℕ) (w : Winner)
      → sym_bytes (as_sym (entry_in s t (fields_of r s.place text n) (import_binding r n) n w)) ≡ sym_bytes (entry_with t r s text n w)
  entry_given table.Dynsym text n winner.Nothing = refl
  entry_given table.Symtab text n winner.Nothing = refl
  entry_given table.Dynsym text n (winner.Strong i k) = defined text n i k
  entry_given table.Symtab text n (winner.Strong i k) = defined text n i k
  entry_given table.Dynsym text n (winner.Common size align) = common_given table.Dynsym text n size align
  entry_given table.Symtab text n (winner.Common size align) = common_given table.Symtab text n size align
  entry_given table.Dynsym text n (winner.Weak i k) = defined text n i k
  entry_given table.Symtab text n (winner.Weak i k) = defined text n i k
  entry_given table.Dynsym text n winner.Made = refl
  entry_given table.Symtab text n winner.Made = made_given text n
  entry_given table.Dynsym text n (winner.Import i k) = imported table.Dynsym text n i k
  entry_given table.Symtab text n (winner.Import i k) = imported table.Symtab text n i k

  -- what the table of names says of a name
  winner_is : (n : ℕ) (o : Option Winner) → option_map row_winner (slice_get s.resolution.rows n) ≡ o → elim o [ None ↦ winner.Nothing | Some w ↦ w ] ≡ winner_of_name r n
  winner_is n o is =
      ap (λ (o : Option Winner). elim o [ None ↦ winner.Nothing | Some w ↦ w ])
      (sym is ∙ sym (ap (λ l. slice_get l n) sees.winners ∙ slice_get-map row_winner s.resolution.rows n))

  names_at : (n : ℕ) (cs : Contributions) → option_map symbols_in (slice_get s.resolution.rows n) ≡ Some cs → slice_get r.names n ≡ Some cs
  names_at n cs is = ap (λ l. slice_get l n) sees.names ∙ slice_get-map symbols_in s.resolution.rows n ∙ is

  pub binding_is : (n : ℕ) (cs : Contributions) → option_map symbols_in (slice_get s.resolution.rows n) ≡ Some cs → binding_of cs ≡ import_binding r n
  binding_is n cs is =
      sym (ap (λ (o : Option Contributions). elim o [ None ↦ stb_weak | Some cs ↦ if is_global_in_object cs then stb_global else stb_weak ]) (names_at n cs is))

  name_is : (n : ℕ) (cs : Contributions) → option_map symbols_in (slice_get s.resolution.rows n) ≡ Some cs → cs.name ≡ name_of r n
  name_is n cs is = sym (ap (λ (o : Option Contributions). elim o [ None ↦ [] | Some c ↦ c.name ]) (names_at n cs is))

  visibility_is : (n visibility : ℕ) → option_map row_visibility (slice_get s.resolution.rows n) ≡ Some visibility → visibility ≡ name_visibility r n
  visibility_is n visibility is =
      sym (ap (λ (o : Option ℕ). elim o [ None ↦ stv_default | Some v ↦ v ]) (ap (λ l. slice_get l n) sees.visibilities ∙ slice_get-map row_visibility s.resolution.rows n ∙ is))

  pub fields_given : (texts : List (List ℕ)) (n text visibility value : ℕ) (cs : Contributions)
      → option_map symbols_in (slice_get s.resolution.rows n) ≡ Some cs → text ≡ offset_in texts cs.name
      → option_map row_visibility (slice_get s.resolution.rows n) ≡ Some visibility
      → value ≡ low_64 (name_value r s.place n)
      → record { text = text; visibility = visibility; value = value } ≡ fields_of r s.place (offset_in texts (name_of r n)) n
  fields_given texts n text visibility value cs named offset seen valued =
      let first : text ≡ offset_in texts (name_of r n) = offset ∙ ap (offset_in texts) (name_is n cs named) in
      let second = visibility_is n visibility seen in
      λ i. record { text = first i; visibility = second i; value = valued i }

  -- the entry of the name with a number
  by_table : (t : SymbolTable) (texts : List (List ℕ)) (n : ℕ) → sym_bytes (entry_with t r s (offset_in texts (name_of r n)) n (winner_of_name r n)) ≡ entry_bytes t r s.place texts n
  by_table table.Dynsym texts n = refl
  by_table table.Symtab texts n = refl

  pub named_entry : (t : SymbolTable) (texts : List (List ℕ)) (n binding : ℕ) (fields : NameFields) (w : Winner)
      → fields ≡ fields_of r s.place (offset_in texts (name_of r n)) n → binding ≡ import_binding r n → option_map row_winner (slice_get s.resolution.rows n) ≡ Some w
      → sym_bytes (as_sym (entry_in s t fields binding n w)) ≡ entry_bytes t r s.place texts n
  named_entry t texts n binding fields w named bound wins =
      (λ i. sym_bytes (as_sym (entry_in s t (named i) (bound i) n (winner_is n (Some w) wins i))))
      ∙ entry_given t (offset_in texts (name_of r n)) n (winner_of_name r n)
      ∙ by_table t texts n

  no_winner : (t : SymbolTable) (texts : List (List ℕ)) (n : ℕ) → sym_bytes (as_sym null_of) ≡ sym_bytes (entry_with t r s (offset_in texts (name_of r n)) n winner.Nothing)
  no_winner table.Dynsym texts n = refl
  no_winner table.Symtab texts n = refl

  pub no_entry : (t : SymbolTable) (texts : List (List ℕ)) (n : ℕ) → length s.resolution.rows ≤ n → sym_bytes (as_sym null_of) ≡ entry_bytes t r s.place texts n
  no_entry t texts n past =
      no_winner t texts n
      ∙ ap (λ w. sym_bytes (entry_with t r s (offset_in texts (name_of r n)) n w)) (winner_is n None (ap (option_map row_winner) (none_past s.resolution.rows n past)))
      ∙ by_table t texts n
