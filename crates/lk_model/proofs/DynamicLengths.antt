-- Each table of a dynamic link has as many bytes as its size says, which is reported before anything is
-- placed.
use Rattle.std.specs.Prelude.{◌≡◌, ℕ, ◌+◌, ◌*◌, Bool, true, false, if◌then◌else◌, List, [], ◌∷◌, ◌++◌, map, filter, length, flat_map, find, Option, Some, None, is_some, refl}
use Rattle.std.specs.List.{AllByRecursion, list_any, enumerate_from, range_with_len}
use Rattle.std.proofs.Common.{arith, subst, ◌∙◌, sym}
use Rattle.std.proofs.lemmas.List.{length-append, length-map}
use Rattle.std.proofs.lemmas.List.FromFn.{length-enumerate_from, length-range_with_len}
use Rattle.lk_elf.specs.Fields.{bytes_of}
use Rattle.lk_elf.specs.Numbers.{dt_needed, dt_init, dt_fini, dt_preinit_array, dt_preinit_arraysz, dt_init_array, dt_init_arraysz, dt_fini_array, dt_fini_arraysz}
use Rattle.lk_elf.specs.Records.{sym_bytes, rela_bytes, dyn_bytes}
use Rattle.lk_elf.specs.declared.symbol.Sym.{Sym}
use Rattle.lk_elf.specs.declared.relocation.Rela.{Rela}
use Rattle.lk_elf.specs.declared.dynamic_entry.Dyn.{Dyn}
use Rattle.lk_model.specs.DynamicKeys.{plt_key}
use Rattle.lk_model.specs.DynamicNames.{RankedName, dynamic_rows, dynamic_names, dynamic_name_texts}
use Rattle.lk_model.specs.DynamicRelocations.{slot_relocation, copy_relocation, jump_relocation, rela_dyn_entries, rela_plt_entries, rela_dyn_bytes, rela_plt_bytes}
use Rattle.lk_model.specs.DynamicSection.{tagged, needed_entries, runpath_entries, function_entries, array_entries, usual_dynamic_entries, dynamic_entries, dynamic_bytes}
use Rattle.lk_model.specs.DynamicSizes.{name_in_object, init_name, fini_name, preinit_array_key, init_array_key, fini_array_key, array_count, count_of_option, count_of_text, usual_entries, dynamic_entry_count, dynamic_table_sizes}
use Rattle.lk_model.specs.DynamicSlots.{slot_fills, copied_names}
use Rattle.lk_model.specs.DynamicSymbols.{dynsym_entry, dynsym_entries, dynsym_bytes}
use Rattle.lk_model.specs.DynamicTables.{dynamic_table_of_key}
use Rattle.lk_model.specs.DynamicTexts.{needed_names, dynamic_texts}
use Rattle.lk_model.specs.HashTable.{word_count, hash_words, hash_bytes}
use Rattle.lk_model.specs.Keys.{row_of}
use Rattle.lk_model.specs.MadeSymbols.{start_of}
use Rattle.lk_model.specs.PltEntries.{first_entry_bytes, plt_entry_bytes, plt_bytes}
use Rattle.lk_model.specs.SectionKeys.{got_key, same_key}
use Rattle.lk_model.specs.SymbolValues.{got_address}
use Rattle.lk_model.specs.Texts.{offset_in}
use Rattle.lk_model.specs.Views.{Resolved}
use Rattle.lk_model.specs.declared.layouts.Placement.{Placement}
use Rattle.lk_model.specs.declared.layouts.SectionKey.{SectionKey}
use Rattle.lk_model.specs.declared.layouts.SectionRow.{SectionRow}
use Rattle.lk_model.proofs.KeysFound.{same_key_reports}
use Rattle.lk_model.proofs.HashTables.{hash_words_are_a_table}

-- records of one width, one after another
flat_length : {A : Type 0} (f : A → List ℕ) (w : ℕ) → ((x : A) → length (f x) ≡ w) → (xs : List A) → length (flat_map f xs) ≡ w * length xs
flat_length f w each [] = omega arith
flat_length f w each (x ∷ xs) = length-append (f x) (flat_map f xs) ∙ rw (each x) (rw (flat_length f w each xs) (grind (arith)))

-- how many bytes a word, a symbol, a relocation and a dynamic entry have
word_length : (n : ℕ) → length (bytes_of 4 n) ≡ 4
unfolding bytes_of
word_length n = refl

symbol_length : (s : Sym) → length (sym_bytes s) ≡ 24
unfolding sym_bytes bytes_of
symbol_length s = refl

relocation_length : (x : Rela) → length (rela_bytes x) ≡ 24
unfolding rela_bytes bytes_of
relocation_length x = refl

entry_length : (x : Dyn) → length (dyn_bytes x) ≡ 16
unfolding dyn_bytes bytes_of
entry_length x = refl

-- there are as many texts as dynamic names
text_count : (r : Resolved) → length (dynamic_name_texts r) ≡ length (dynamic_names r)
unfolding dynamic_names
text_count r = length-map (dynamic_rows r) (λ (x : RankedName). x.1.0.name) ∙ sym (length-map (dynamic_rows r) (λ (x : RankedName). x.0))

-- the hash table
pub hash_length : (r : Resolved) → length (hash_bytes (dynamic_name_texts r)) ≡ 4 * word_count (length (dynamic_names r) + 1)
unfolding hash_bytes
hash_length r =
    flat_length (bytes_of 4) 4 word_length (hash_words (dynamic_name_texts r))
    ∙ rw ((hash_words_are_a_table (dynamic_name_texts r)).size) (rw (text_count r) refl)

-- the dynamic symbols
pub dynsym_length : (r : Resolved) (place : Placement) → length (dynsym_bytes r place) ≡ 24 * (length (dynamic_names r) + 1)
unfolding dynsym_bytes dynsym_entries
dynsym_length r place =
    flat_length sym_bytes 24 symbol_length (dynsym_entries r place)
    ∙ rw (length-map (dynamic_names r) (dynsym_entry r place (dynamic_texts r))) (omega arith)

-- the relocations of slots and copies
pub rela_dyn_length : (r : Resolved) (place : Placement) → length (rela_dyn_bytes r place) ≡ 24 * (length (slot_fills r place.slots) + length (copied_names r))
unfolding rela_dyn_bytes rela_dyn_entries
rela_dyn_length r place =
    let names : List ℕ = dynamic_names r in
    let slots : List Rela = map (slot_relocation names (start_of (row_of place got_key))) (slot_fills r place.slots) in
    let copies : List Rela = map (copy_relocation names place) (copied_names r) in
    flat_length rela_bytes 24 relocation_length (rela_dyn_entries r place)
    ∙ rw (length-append slots copies)
    (rw (length-map (slot_fills r place.slots) (slot_relocation names (start_of (row_of place got_key))))
    (rw (length-map (copied_names r) (copy_relocation names place)) refl))

-- those of the procedure linkage table
pub rela_plt_length : (r : Resolved) (place : Placement) → length (rela_plt_bytes r place) ≡ 24 * length place.slots.plt
unfolding rela_plt_bytes rela_plt_entries
rela_plt_length r place =
    flat_length rela_bytes 24 relocation_length (rela_plt_entries r place)
    ∙ rw (length-map (enumerate_from 0 place.slots.plt) (jump_relocation (dynamic_names r) place)) (rw (length-enumerate_from 0 place.slots.plt) refl)

-- the procedure linkage table
plt_entry_length : (plt got n : ℕ) → length (plt_entry_bytes plt got n) ≡ 16
unfolding bytes_of
plt_entry_length plt got n = refl

first_entry_length : (plt got : ℕ) → length (first_entry_bytes plt got) ≡ 16
unfolding bytes_of
first_entry_length plt got = refl

-- sixteen bytes, and sixteen for each of so many
one_more : (a b n : ℕ) → a ≡ 16 → b ≡ 16 * n → a + b ≡ 16 * (1 + n)
one_more a b n first others = omega arith

pub plt_length : (r : Resolved) (place : Placement) → length (plt_bytes r place) ≡ 16 * (1 + length place.slots.plt)
unfolding plt_bytes
plt_length r place =
    let plt : ℕ = start_of (row_of place plt_key) in
    let got : ℕ = got_address place in
    let numbers : List ℕ = range_with_len 0 (length place.slots.plt) in
    length-append (first_entry_bytes plt got) (flat_map (plt_entry_bytes plt got) numbers)
    ∙ one_more
    (length (first_entry_bytes plt got))
    (length (flat_map (plt_entry_bytes plt got) numbers))
    (length place.slots.plt)
    (first_entry_length plt got)
    (flat_length (plt_entry_bytes plt got) 16 (plt_entry_length plt got) numbers ∙ rw (length-range_with_len 0 (length place.slots.plt)) refl)

-- the parts of the dynamic section
runpath_length : (texts : List (List ℕ)) (path : List ℕ) → length (runpath_entries texts path) ≡ count_of_text path
runpath_length texts [] = refl
runpath_length texts (b ∷ bs) = refl

function_length : (r : Resolved) (place : Placement) (tag : ℕ) (n : Option ℕ) → length (function_entries r place tag n) ≡ count_of_option n
function_length r place tag None = refl
function_length r place tag (Some n) = refl

usual_length : (place : Placement) → length (usual_dynamic_entries place) ≡ usual_entries
unfolding usual_dynamic_entries
usual_length place = refl

-- three arrays have two entries each where they are there
arrays_length :
    (p : SectionKey → Bool) (a b c : Option SectionRow)
    → p preinit_array_key ≡ is_some a
    → p init_array_key ≡ is_some b
    → p fini_array_key ≡ is_some c
    → length (array_entries dt_preinit_array dt_preinit_arraysz a) + length (array_entries dt_init_array dt_init_arraysz b) + length (array_entries dt_fini_array dt_fini_arraysz c)
    ≡ 2 * length (filter p (preinit_array_key ∷ init_array_key ∷ fini_array_key ∷ []))
arrays_length p None None None x y z = rw x (rw y (rw z refl))
arrays_length p None None (Some c) x y z = rw x (rw y (rw z refl))
arrays_length p None (Some b) None x y z = rw x (rw y (rw z refl))
arrays_length p None (Some b) (Some c) x y z = rw x (rw y (rw z refl))
arrays_length p (Some a) None None x y z = rw x (rw y (rw z refl))
arrays_length p (Some a) None (Some c) x y z = rw x (rw y (rw z refl))
arrays_length p (Some a) (Some b) None x y z = rw x (rw y (rw z refl))
arrays_length p (Some a) (Some b) (Some c) x y z = rw x (rw y (rw z refl))

-- whether two keys are the same does not ask for their order
same_key_turned : (a b : SectionKey) → same_key a b ≡ same_key b a
same_key_turned a b = go (same_key a b) (same_key b a) refl refl
  where
    go : (one other : Bool) → same_key a b ≡ one → same_key b a ≡ other → same_key a b ≡ same_key b a
    go true true x y = x ∙ sym y
    go false false x y = x ∙ sym y
    go true false x y = subst (λ k. same_key a k ≡ same_key k a) (same_key_reports a b x) refl
    go false true x y = subst (λ k. same_key k b ≡ same_key b k) (same_key_reports b a y) refl

-- a key is among those of rows where it has a row
has_row : (key : SectionKey) (rows : List SectionRow) → list_any (same_key key) (map (λ (row : SectionRow). row.key) rows) ≡ is_some (find (λ (row : SectionRow). same_key row.key key) rows)
has_row key [] = refl
has_row key (row ∷ rows) = go (same_key row.key key) refl (has_row key rows)
  where
    go :
        (b : Bool)
        → same_key row.key key ≡ b
        → list_any (same_key key) (map (λ (x : SectionRow). x.key) rows) ≡ is_some (find (λ (x : SectionRow). same_key x.key key) rows)
        → list_any (same_key key) (map (λ (x : SectionRow). x.key) (row ∷ rows)) ≡ is_some (find (λ (x : SectionRow). same_key x.key key) (row ∷ rows))
    go true e rest = rw (same_key_turned key row.key) (rw e refl)
    go false e rest = rw (same_key_turned key row.key) (rw e rest)

-- lists one after another
lengths : (a b c d e f g h : List Dyn) → length (a ++ b ++ c ++ d ++ e ++ f ++ g ++ h) ≡ length a + length b + length c + length d + (length e + length f + length g) + length h
lengths a b c d e f g h = grind (arith, length-append {A = Dyn})

-- as many entries as are counted
counted : (a b c d arrays usual n : ℕ) → arrays ≡ 2 * n → usual ≡ usual_entries → a + b + c + d + arrays + usual ≡ a + b + c + d + 2 * n + usual_entries
counted a b c d arrays usual n one two = rw one (rw two refl)

-- the dynamic section, where the output sections are those of the rows
pub dynamic_length :
    (r : Resolved) (place : Placement)
    → length (dynamic_bytes r place) ≡ 16 * dynamic_entry_count r (map (λ (row : SectionRow). row.key) place.sections)
unfolding dynamic_bytes dynamic_entries
dynamic_length r place =
    let keys : List SectionKey = map (λ (row : SectionRow). row.key) place.sections in
    let texts : List (List ℕ) = dynamic_texts r in
    let needed : List Dyn = needed_entries texts (needed_names r) in
    let runpath : List Dyn = runpath_entries texts r.options.runpath in
    let init : List Dyn = function_entries r place dt_init (name_in_object r init_name) in
    let fini : List Dyn = function_entries r place dt_fini (name_in_object r fini_name) in
    let preinit_array : List Dyn = array_entries dt_preinit_array dt_preinit_arraysz (row_of place preinit_array_key) in
    let init_array : List Dyn = array_entries dt_init_array dt_init_arraysz (row_of place init_array_key) in
    let fini_array : List Dyn = array_entries dt_fini_array dt_fini_arraysz (row_of place fini_array_key) in
    let arrays : length preinit_array + length init_array + length fini_array ≡ 2 * array_count keys =
    arrays_length
    (λ array. list_any (same_key array) keys)
    (row_of place preinit_array_key)
    (row_of place init_array_key)
    (row_of place fini_array_key)
    (has_row preinit_array_key place.sections)
    (has_row init_array_key place.sections)
    (has_row fini_array_key place.sections) in
    flat_length dyn_bytes 16 entry_length (dynamic_entries r place)
    ∙ rw (lengths needed runpath init fini preinit_array init_array fini_array (usual_dynamic_entries place))
    (rw (length-map (needed_names r) (λ name. tagged dt_needed (offset_in texts name)))
    (rw (runpath_length texts r.options.runpath)
    (rw (function_length r place dt_init (name_in_object r init_name))
    (rw (function_length r place dt_fini (name_in_object r fini_name))
    (rw arrays (rw (usual_length place) refl))))))

-- what holds of all items holds of them where they are there
all_where : {A : Type 0} (P : A → Type 0) (b : Bool) (xs : List A) → AllByRecursion P xs → AllByRecursion P (if b then xs else [])
all_where P true xs all = all
all_where P false xs all = tt

-- the bytes of each table are as many as its size says, where the output sections are those of the rows
pub dynamic_lengths :
    (r : Resolved) (place : Placement)
    → AllByRecursion
    (λ (table : SectionKey × ℕ). length (dynamic_table_of_key r place table.0) ≡ table.1)
    (dynamic_table_sizes r (map (λ (row : SectionRow). row.key) place.sections) place.slots)
unfolding dynamic_table_sizes dynamic_table_of_key
dynamic_lengths r place =
    all_where
    (λ (table : SectionKey × ℕ). length (dynamic_table_of_key r place table.0) ≡ table.1)
    r.options.dynamic
    _
    (refl, (hash_length r, (dynsym_length r place, (refl, (rela_dyn_length r place, (rela_plt_length r place, (plt_length r place, (dynamic_length r place, tt))))))))
