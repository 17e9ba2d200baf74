-- What entries name, in two steps.
use Rattle.std.specs.Prelude.{◌≡◌, refl, ℕ, ◌*◌, List, ◌++◌, map, Option, Some, None, option_map}
use Rattle.std.proofs.Common.{ap, ◌∙◌, sym}
use Rattle.lk_elf.specs.Numbers.{dt_hash, dt_strtab, dt_symtab, dt_rela, dt_relasz, dt_strsz, dt_jmprel, dt_pltrelsz, dt_needed, sym_size}
use Rattle.lk_elf.specs.declared.dynamic_entry.Dyn.{Dyn}
use Rattle.lk_elf.specs.Fields.{num, number_of}
use Rattle.lk_model.specs.DynamicEntries.{all_with_tag, first_with_tag}
use Rattle.lk_model.specs.InputsReading.{with_value}
use Rattle.lk_model.specs.Loads.{NamedParts, all_of, hash_at, loaded_relas, loaded_symbols, named_by, named_size, symbol_count, table_at, text_of_table}
use Rattle.lk_loader.specs.NamedTables.{reported, said_by, tables_by}
use Rattle.lk_loader.specs.declared.parts.Tables.{Tables}

-- what tables say, where all are there
abbrev said_of : List Dyn → List ℕ → List ℕ → List ℕ → List ℕ → Option NamedParts
said_of entries records strings relas jumps =
    with_value (all_of (map (text_of_table strings) (all_with_tag dt_needed entries))) (λ needed.
    with_value (loaded_symbols strings records) (λ symbols.
    Some (record { needed = needed; symbols = symbols; relocations = loaded_relas relas ++ loaded_relas jumps })))

after_records :
    (entries : List Dyn) (t s r j : Option (List ℕ))
    → with_value t (λ records. with_value s (λ strings. with_value r (λ relas. with_value j (λ jumps. said_of entries records strings relas jumps))))
    ≡ with_value (with_value t (λ records. with_value s (λ strings. with_value r (λ relas. with_value j (λ jumps. Some (record { records = records; strings = strings; relas = relas; jumps = jumps })))))) (said_by entries)
unfolding said_by
after_records entries None s r j = refl
after_records entries (Some records) None r j = refl
after_records entries (Some records) (Some strings) None j = refl
after_records entries (Some records) (Some strings) (Some relas) None = refl
after_records entries (Some records) (Some strings) (Some relas) (Some jumps) = refl

after_hash :
    (entries : List Dyn) (h : Option (List ℕ)) (t : ℕ → Option (List ℕ)) (s r j : Option (List ℕ))
    → with_value h (λ hash. with_value (t (symbol_count hash)) (λ records. with_value s (λ strings. with_value r (λ relas. with_value j (λ jumps. said_of entries records strings relas jumps)))))
    ≡ with_value (with_value (option_map symbol_count h) (λ count. with_value (t count) (λ records. with_value s (λ strings. with_value r (λ relas. with_value j (λ jumps. Some (record { records = records; strings = strings; relas = relas; jumps = jumps }))))))) (said_by entries)
after_hash entries None t s r j = refl
after_hash entries (Some hash) t s r j = after_records entries (t (symbol_count hash)) s r j

pub named_in_steps : (memory : ℕ → Option ℕ) (entries : List Dyn) → named_by memory entries ≡ with_value (tables_by memory entries) (said_by entries)
unfolding named_by tables_by
named_in_steps memory entries =
    after_hash entries (hash_at memory (first_with_tag dt_hash entries)) (λ count. table_at memory (first_with_tag dt_symtab entries) (sym_size * count))
    (table_at memory (first_with_tag dt_strtab entries) (named_size dt_strsz entries))
    (table_at memory (first_with_tag dt_rela entries) (named_size dt_relasz entries))
    (table_at memory (first_with_tag dt_jmprel entries) (named_size dt_pltrelsz entries))

pub tables_missing : (memory : ℕ → Option ℕ) (entries : List Dyn) → None ≡ tables_by memory entries → option_map reported (named_by memory entries) ≡ None
tables_missing memory entries e =
    ap (option_map reported) (named_in_steps memory entries ∙ ap (λ (o : Option Tables). with_value o (said_by entries)) (sym e))

pub tables_found : (memory : ℕ → Option ℕ) (entries : List Dyn) (tables : Tables) → Some tables ≡ tables_by memory entries → option_map reported (named_by memory entries) ≡ option_map reported (said_by entries tables)
tables_found memory entries tables e =
    ap (option_map reported) (named_in_steps memory entries ∙ ap (λ (o : Option Tables). with_value o (said_by entries)) (sym e))

-- what a segment names, by its entries
pub entries_missing : (memory : ℕ → Option ℕ) (o : Option (List ℕ)) (f : List ℕ → List Dyn) → None ≡ option_map f o → option_map reported (with_value o (λ bytes. named_by memory (f bytes))) ≡ None
entries_missing memory None f e = refl
entries_missing memory (Some bytes) f e = absurd (cc)

pub entries_found : (memory : ℕ → Option ℕ) (o : Option (List ℕ)) (f : List ℕ → List Dyn) (entries : List Dyn) → Some entries ≡ option_map f o → option_map reported (with_value o (λ bytes. named_by memory (f bytes))) ≡ option_map reported (named_by memory entries)
entries_found memory None f entries e = absurd (cc)
entries_found memory (Some bytes) f entries e =
    let same : f bytes ≡ entries = cc in
    ap (λ es. option_map reported (named_by memory es)) same

-- no hash table, and so no symbol
pub no_hash : (memory : ℕ → Option ℕ) (address : Option ℕ) → address ≡ None → option_map symbol_count (hash_at memory address) ≡ Some 0
unfolding num number_of
no_hash memory None e = refl
no_hash memory (Some a) e = absurd (cc)
