-- The symbol tables, entry by entry, are lk_model's.
use Rattle.std.proofs.Common.{◌≡◌, refl, ap, ◌∙◌, ℕ, List, [], ◌∷◌, ◌++◌, map}
use Rattle.std.specs.Prelude.{flat_map}
use Rattle.lk_elf.specs.Records.{sym_bytes}
use Rattle.lk_elf.specs.declared.symbol.Sym.{Sym}
use Rattle.lk_model.specs.DynamicNames.{dynamic_names}
use Rattle.lk_model.specs.DynamicSymbols.{dynsym_bytes, dynsym_entries, dynsym_entry}
use Rattle.lk_model.specs.DynamicTexts.{dynamic_texts}
use Rattle.lk_model.specs.SymbolEntries.{null_entry}
use Rattle.lk_model.specs.SymbolTable.{names_with_winner, symbol_table_bytes, symbol_texts, symtab_entries, symtab_entry}
use Rattle.lk_model.specs.Views.{Resolved}
use Rattle.lk_model.specs.declared.layouts.Placement.{Placement}
use Rattle.lk_dyn_tables.specs.SymbolTables.{entry_bytes}
use Rattle.lk_dyn_tables.specs.declared.symbols.SymbolTable.TheVariants as table

spelled : (f : ℕ → Sym) (numbers : List ℕ) → flat_map (λ n. sym_bytes (f n)) numbers ≡ flat_map sym_bytes (map f numbers)
spelled f [] = refl
spelled f (n ∷ ns) = ap (λ l. sym_bytes (f n) ++ l) (spelled f ns)

pub dynsym_is : (r : Resolved) (place : Placement) (texts : List (List ℕ)) (numbers : List ℕ) → numbers ≡ dynamic_names r → texts ≡ dynamic_texts r
    → sym_bytes null_entry ++ flat_map (entry_bytes table.Dynsym r place texts) numbers ≡ dynsym_bytes r place
unfolding dynsym_bytes dynsym_entries
dynsym_is r place texts numbers chosen noted =
    ap (λ l. sym_bytes null_entry ++ l) (spelled (dynsym_entry r place texts) numbers)
    ∙ (λ i. sym_bytes null_entry ++ flat_map sym_bytes (map (dynsym_entry r place (noted i)) (chosen i)))

pub symtab_is : (r : Resolved) (place : Placement) (texts : List (List ℕ)) (numbers : List ℕ) → numbers ≡ names_with_winner r → texts ≡ symbol_texts r
    → sym_bytes null_entry ++ flat_map (entry_bytes table.Symtab r place texts) numbers ≡ symbol_table_bytes r place
unfolding symbol_table_bytes symtab_entries
symtab_is r place texts numbers chosen noted =
    ap (λ l. sym_bytes null_entry ++ l) (spelled (symtab_entry r place texts) numbers)
    ∙ (λ i. sym_bytes null_entry ++ flat_map sym_bytes (map (symtab_entry r place (noted i)) (chosen i)))
