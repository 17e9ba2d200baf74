-- A loader takes the images of dynamic links: DYNAMIC is found, and what it names is loaded.
use Rattle.std.specs.Prelude.{◌≡◌, ℕ, Bool, true, false, List, [], ◌∷◌, ◌++◌, Option, Some, None, ◌+◌, ◌*◌, ◌^◌, ◌<◌, ◌≤◌, ◌==◌, filter, filter_map, find, is_none, is_some, length, map, slice_index, take, unwrap_or, refl}
use Rattle.std.specs.Bool.{then_some}
use Rattle.std.specs.List.{AllByRecursion, list_all}
use Rattle.std.proofs.Common.{ap, arith, subst, sym, ◌∙◌}
use Rattle.std.proofs.lemmas.Bool.{both_ways}
use Rattle.std.proofs.lemmas.List.{length-map}
use Rattle.lk_elf.specs.Fields.{bytes_of, num, number_of}
use Rattle.lk_elf.specs.Numbers.{pt_dynamic, pf_r, pf_w}
use Rattle.lk_elf.specs.declared.dynamic_entry.Dyn.{Dyn}
use Rattle.lk_elf.specs.declared.program_header.Phdr.{Phdr}
use Rattle.lk_elf.proofs.Writing.{number_of-bytes_of}
use Rattle.lk_model.specs.DynamicEntries.{all_with_tag, counted_entries, first_with_tag}
use Rattle.lk_model.specs.DynamicKeys.{dynamic_key, dynstr_key, dynsym_key, hash_key, rela_dyn_key, rela_plt_key}
use Rattle.lk_model.specs.DynamicNames.{RankedName, dynamic_name_texts, dynamic_names, dynamic_rows}
use Rattle.lk_model.specs.DynamicSection.{dynamic_bytes, table_length, table_start}
use Rattle.lk_model.specs.DynamicSymbols.{dynsym_bytes}
use Rattle.lk_model.specs.DynamicTables.{dynamic_table_of_key}
use Rattle.lk_model.specs.DynamicTexts.{dynamic_texts, needed_names}
use Rattle.lk_model.specs.FileHeader.{exec_stack_of}
use Rattle.lk_model.specs.HashTable.{bucket_count, entry_count, hash_bytes, hash_words, word_count}
use Rattle.lk_model.specs.InputsReading.{with_value}
use Rattle.lk_model.specs.Loading.{headers_in}
use Rattle.lk_model.specs.Loads.{LoadedSymbol, NamedParts, all_of, byte_in_memory, bytes_in_memory, hash_at, hash_size, loaded_relas, loaded_symbols, named_by, named_in, named_size, segment_bytes, symbol_count, table_at, text_of_table}
use Rattle.lk_model.specs.MadeSymbols.{start_of}
use Rattle.lk_model.specs.SectionKeys.{same_key}
use Rattle.lk_model.specs.SectionOrder.{Second}
use Rattle.lk_model.specs.Segments.{program_headers, second_load, section_header_of, segment_rows, third_load}
use Rattle.lk_model.specs.Tables.{table_of_key}
use Rattle.lk_model.specs.Tail.{Part}
use Rattle.lk_model.specs.Texts.{offset_in, table_bytes}
use Rattle.lk_model.specs.Views.{Resolved}
use Rattle.lk_model.specs.declared.layouts.Placement.{Placement}
use Rattle.lk_model.specs.declared.layouts.SectionKey.{SectionKey}
use Rattle.lk_model.specs.declared.layouts.SectionRow.{SectionRow}
use Rattle.lk_model.proofs.DynamicLengths.{dynsym_length}
use Rattle.lk_model.proofs.HashTables.{hash_words_are_a_table}
use Rattle.lk_model.proofs.Rising.{all_map}
use Rattle.lk_law_loading.proofs.HeadersFound.{before_loads, behind_loads, find_behind, in_groups, loads}
use Rattle.lk_law_loading.proofs.PiecesLoaded.{headers_are_read}
use Rattle.lk_law_loads.proofs.EntriesRead.{TagsRead, entries_read, kept, kept_small, needed_read, read_entries, tags_read}
use Rattle.lk_law_loads.proofs.HeaderTypes.{none_before, none_second}
use Rattle.lk_law_loads.proofs.NamesClosed.{closes, needed_there, symbols_read, text_below, HasText}
use Rattle.lk_law_loads.proofs.RecordsBack.{flat_length}
use Rattle.lk_law_loads.proofs.TablesLoaded.{Image, TableLoaded, front_read, table_loaded, tables_there, whole_read}

-- ---- the header of the dynamic section

abbrev is_dynamic_header : Phdr → Bool
is_dynamic_header h = h.p_type == 2

abbrev shown : SectionRow → Phdr
shown row = section_header_of pt_dynamic (pf_r + pf_w) row

shown_first :
    (test : SectionRow → Bool) (rows : List SectionRow) (row : SectionRow) (rest : List Phdr)
    → find test rows ≡ Some row
    → find is_dynamic_header (map shown (filter test rows) ++ rest) ≡ Some (shown row)
shown_first test [] row rest e = absurd (cc)
shown_first test (x ∷ xs) row rest e = go (test x) refl (shown_first test xs row rest)
  where
    go :
        (b : Bool)
        → test x ≡ b
        → (find test xs ≡ Some row → find is_dynamic_header (map shown (filter test xs) ++ rest) ≡ Some (shown row))
        → find is_dynamic_header (map shown (filter test (x ∷ xs)) ++ rest) ≡ Some (shown row)
    go true t later =
        let first : Some x ≡ Some row = rw t at e in
        let same : x ≡ row = cc in
        rw t (ap (λ y. Some (shown y)) same)
    go false t later = rw t (later (rw t at e))

dynamic_header_found : (place : Placement) (exec_stack : Bool) (row : SectionRow) → find (λ (row : SectionRow). same_key row.key dynamic_key) place.sections ≡ Some row → find is_dynamic_header (program_headers place exec_stack) ≡ Some (shown row)
dynamic_header_found place exec_stack row found =
    ap (find is_dynamic_header) (in_groups place exec_stack)
    ∙ (find_behind is_dynamic_header (before_loads place exec_stack) (loads place exec_stack) (none_before 2 place exec_stack refl refl)
    ∙ (find_behind is_dynamic_header (second_load place (segment_rows Second place)) (third_load place ∷ behind_loads place exec_stack) (none_second place (segment_rows Second place))
    ∙ shown_first (λ (row : SectionRow). same_key row.key dynamic_key) place.sections row _ found))

-- ---- tables by their entries

abbrev memory_of_image : List ℕ → ℕ → Option ℕ
memory_of_image image = byte_in_memory image (headers_in image)

start_read : (r : Resolved) (place : Placement) (image : List ℕ) (key : SectionKey) (t : TableLoaded r place image key) → kept (table_start place key) ≡ t.found.row.addr
start_read r place image key t = ap (λ (o : Option SectionRow). kept (start_of o)) t.found.found ∙ kept_small t.found.row.addr t.fits.addr

size_read : (r : Resolved) (place : Placement) (image : List ℕ) (key : SectionKey) (t : TableLoaded r place image key) → kept (table_length place key) ≡ length (table_of_key r place key)
size_read r place image key t =
    ap (λ (o : Option SectionRow). kept (elim o [ None ↦ 0 | Some row ↦ row.size ])) t.found.found
    ∙ (kept_small t.found.row.size t.fits.size ∙ sym t.size)

table_found :
    (r : Resolved) (place : Placement) (image : List ℕ) (key : SectionKey) (entries : List Dyn) (code size : ℕ)
    → TableLoaded r place image key
    → first_with_tag code entries ≡ Some (kept (table_start place key))
    → size ≡ length (table_of_key r place key)
    → table_at (memory_of_image image) (first_with_tag code entries) size ≡ Some (table_of_key r place key)
table_found r place image key entries code size t tag same =
    ap (λ o. table_at (memory_of_image image) o size) (tag ∙ ap Some (start_read r place image key t))
    ∙ whole_read (memory_of_image image) t.found.row.addr size (table_of_key r place key) t.bytes same

sized_found :
    (r : Resolved) (place : Placement) (image : List ℕ) (key : SectionKey) (entries : List Dyn) (code size_code : ℕ)
    → TableLoaded r place image key
    → first_with_tag code entries ≡ Some (kept (table_start place key))
    → first_with_tag size_code entries ≡ Some (kept (table_length place key))
    → table_at (memory_of_image image) (first_with_tag code entries) (named_size size_code entries) ≡ Some (table_of_key r place key)
sized_found r place image key entries code size_code t tag size =
    table_found r place image key entries code (named_size size_code entries) t tag (ap (λ o. unwrap_or o 0) size ∙ size_read r place image key t)

-- ---- the hash table

head_buckets : (names : List (List ℕ)) → num (take 8 (hash_bytes names)) 0 4 ≡ number_of (bytes_of 4 (bucket_count (entry_count names)))
unfolding num hash_bytes hash_words bytes_of
head_buckets names = refl

head_entries : (names : List (List ℕ)) → num (take 8 (hash_bytes names)) 4 4 ≡ number_of (bytes_of 4 (entry_count names))
unfolding num hash_bytes hash_words bytes_of
head_entries names = refl

whole_entries : (names : List (List ℕ)) → num (hash_bytes names) 4 4 ≡ number_of (bytes_of 4 (entry_count names))
unfolding num hash_bytes hash_words bytes_of
whole_entries names = refl

word_wide : (n : ℕ) → length (bytes_of 4 n) ≡ 4
unfolding bytes_of
word_wide n = refl

hash_sized : (names : List (List ℕ)) → length (hash_bytes names) ≡ 4 * word_count (entry_count names)
unfolding hash_bytes
hash_sized names = flat_length 4 (bytes_of 4) word_wide (hash_words names) ∙ ap (λ n. 4 * n) (hash_words_are_a_table names).size

both_small : (b n size : ℕ) → size ≡ 4 * (2 + b + n) → size ≤ 2 ^ 31 → (b < 256 ^ 4) × (n < 256 ^ 4)
both_small b n size e most = (omega (arith, e, most), omega (arith, e, most))

at_least : (b n size : ℕ) → size ≡ 4 * (2 + b + n) → 8 ≤ size
at_least b n size e = omega (arith, e)

hash_whole : (names : List (List ℕ)) → length (hash_bytes names) ≤ 2 ^ 31 → hash_size (take 8 (hash_bytes names)) ≡ length (hash_bytes names)
hash_whole names most =
    let size = hash_sized names in
    let small = both_small (bucket_count (entry_count names)) (entry_count names) (length (hash_bytes names)) size most in
    let buckets = head_buckets names ∙ number_of-bytes_of 4 (bucket_count (entry_count names)) small.0 in
    let entries = head_entries names ∙ number_of-bytes_of 4 (entry_count names) small.1 in
    ap (λ b. 4 * (2 + b + num (take 8 (hash_bytes names)) 4 4)) buckets
    ∙ (ap (λ n. 4 * (2 + bucket_count (entry_count names) + n)) entries ∙ sym size)

hash_count : (names : List (List ℕ)) → length (hash_bytes names) ≤ 2 ^ 31 → symbol_count (hash_bytes names) ≡ entry_count names
hash_count names most =
    whole_entries names
    ∙ number_of-bytes_of 4 (entry_count names) (both_small (bucket_count (entry_count names)) (entry_count names) (length (hash_bytes names)) (hash_sized names) most).1

hash_found :
    (image : List ℕ) (names : List (List ℕ)) (a : ℕ)
    → ((k : ℕ) → k < length (hash_bytes names) → memory_of_image image (a + k) ≡ Some (slice_index (hash_bytes names) k))
    → length (hash_bytes names) ≤ 2 ^ 31
    → hash_at (memory_of_image image) (Some a) ≡ Some (hash_bytes names)
hash_found image names a bytes most =
    let long : 8 ≤ length (hash_bytes names) = at_least (bucket_count (entry_count names)) (entry_count names) (length (hash_bytes names)) (hash_sized names) in
    ap (λ o. with_value o (λ head. bytes_in_memory (memory_of_image image) a (hash_size head))) (front_read (memory_of_image image) a 8 (hash_bytes names) bytes long)
    ∙ whole_read (memory_of_image image) a (hash_size (take 8 (hash_bytes names))) (hash_bytes names) bytes (hash_whole names most)

-- ---- all that is named

no_none : {X : Type 0} (o : Option X) → is_some o ≡ true → is_none o ≡ false
no_none None e = absurd (both_ways false refl e)
no_none (Some x) e = refl

abbrev parts_of : List ℕ → List ℕ → List (List ℕ) → List LoadedSymbol → NamedParts
parts_of relas jumps needed symbols = record { needed = needed; symbols = symbols; relocations = loaded_relas relas ++ loaded_relas jumps }

all_parts :
    (memory : ℕ → Option ℕ) (entries : List Dyn) (hash records strings relas jumps : List ℕ)
    → hash_at memory (first_with_tag 4 entries) ≡ Some hash
    → table_at memory (first_with_tag 6 entries) (24 * symbol_count hash) ≡ Some records
    → table_at memory (first_with_tag 5 entries) (named_size 10 entries) ≡ Some strings
    → table_at memory (first_with_tag 7 entries) (named_size 8 entries) ≡ Some relas
    → table_at memory (first_with_tag 23 entries) (named_size 2 entries) ≡ Some jumps
    → is_some (all_of (map (text_of_table strings) (all_with_tag 1 entries))) ≡ true
    → is_some (loaded_symbols strings records) ≡ true
    → is_some (named_by memory entries) ≡ true
unfolding named_by
all_parts memory entries hash records strings relas jumps h s t a j needed symbols =
    rw (h, s, t, a, j) (go (all_of (map (text_of_table strings) (all_with_tag 1 entries))) (loaded_symbols strings records) needed symbols)
  where
    go :
        (o : Option (List (List ℕ))) (p : Option (List LoadedSymbol))
        → is_some o ≡ true
        → is_some p ≡ true
        → is_some (with_value o (λ needed. with_value p (λ symbols. Some (parts_of relas jumps needed symbols)))) ≡ true
    go None p x y = absurd (both_ways false refl x)
    go (Some xs) None x y = absurd (both_ways false refl y)
    go (Some xs) (Some ys) x y = refl

all_closed : (strings : List ℕ) (ns : List ℕ) → AllByRecursion (λ n. is_some (text_of_table strings n) ≡ true) ns → list_all is_some (map (text_of_table strings) ns) ≡ true
all_closed strings [] all = refl
all_closed strings (n ∷ ns) all = rw (all.0) (all_closed strings ns all.1)

some_then : {X : Type 0} (b : Bool) (x : X) → b ≡ true → is_some (then_some b x) ≡ true
some_then true x e = refl
some_then false x e = absurd (both_ways false refl e)

-- the names of needed shared objects end in the string table
needed_closed : (r : Resolved) (place : Placement) → length (table_bytes (dynamic_texts r)) ≤ 2 ^ 31 → is_some (all_of (map (text_of_table (table_bytes (dynamic_texts r))) (all_with_tag 1 (read_entries r place)))) ≡ true
needed_closed r place most =
    let strings : List ℕ = table_bytes (dynamic_texts r) in
    let places : AllByRecursion (λ n. is_some (text_of_table strings n) ≡ true) (all_with_tag 1 (read_entries r place)) =
    needed_read (λ n. is_some (text_of_table strings n) ≡ true) r place
    (all_map {P = HasText r} {Q = λ name. is_some (text_of_table strings (kept (offset_in (dynamic_texts r) name))) ≡ true} (λ name there. one name there) (needed_names r) (needed_there r)) in
    some_then (list_all is_some (map (text_of_table strings) (all_with_tag 1 (read_entries r place)))) (filter_map (λ x. x) (map (text_of_table strings) (all_with_tag 1 (read_entries r place)))) (all_closed strings (all_with_tag 1 (read_entries r place)) places)
  where
    one : (name : List ℕ) → HasText r name → is_some (text_of_table (table_bytes (dynamic_texts r)) (kept (offset_in (dynamic_texts r) name))) ≡ true
    one name there =
        let below = text_below r name there in
        let same : kept (offset_in (dynamic_texts r) name) ≡ offset_in (dynamic_texts r) name = kept_small (offset_in (dynamic_texts r) name) (omega (arith, below, most)) in
        ap (λ n. is_some (text_of_table (table_bytes (dynamic_texts r)) n)) same ∙ closes (dynamic_texts r) (offset_in (dynamic_texts r) name) below

-- which bytes the tables are
hash_is : (r : Resolved) (place : Placement) → table_of_key r place hash_key ≡ hash_bytes (dynamic_name_texts r)
unfolding table_of_key dynamic_table_of_key
hash_is r place = refl

dynsym_is : (r : Resolved) (place : Placement) → table_of_key r place dynsym_key ≡ dynsym_bytes r place
unfolding table_of_key dynamic_table_of_key
dynsym_is r place = refl

dynstr_is : (r : Resolved) (place : Placement) → table_of_key r place dynstr_key ≡ table_bytes (dynamic_texts r)
unfolding table_of_key dynamic_table_of_key
dynstr_is r place = refl

dynamic_is : (r : Resolved) (place : Placement) → table_of_key r place dynamic_key ≡ dynamic_bytes r place
unfolding table_of_key dynamic_table_of_key
dynamic_is r place = refl

-- there are as many texts as dynamic names
text_count : (r : Resolved) → length (dynamic_name_texts r) ≡ length (dynamic_names r)
unfolding dynamic_names
text_count r = length-map (dynamic_rows r) (λ (x : RankedName). x.1.0.name) ∙ sym (length-map (dynamic_rows r) (λ (x : RankedName). x.0))

-- what the entries of a dynamic link name is all loaded
parts_named :
    (r : Resolved) (place : Placement) (tail : List Part) (image : List ℕ)
    → Image r place tail image
    → r.options.dynamic ≡ true
    → is_some (named_by (memory_of_image image) (read_entries r place)) ≡ true
parts_named r place tail image i dynamic =
    let rows = tables_there r place dynamic i.loadable.lawful in
    let hash : TableLoaded r place image hash_key = table_loaded r place tail image hash_key i rows.1.1.1.0 refl refl refl in
    let dynsym : TableLoaded r place image dynsym_key = table_loaded r place tail image dynsym_key i rows.1.1.1.1.0 refl refl refl in
    let dynstr : TableLoaded r place image dynstr_key = table_loaded r place tail image dynstr_key i rows.1.1.1.1.1.0 refl refl refl in
    let rela_dyn : TableLoaded r place image rela_dyn_key = table_loaded r place tail image rela_dyn_key i rows.1.1.1.1.1.1.0 refl refl refl in
    let rela_plt : TableLoaded r place image rela_plt_key = table_loaded r place tail image rela_plt_key i rows.1.1.1.1.1.1.1.0 refl refl refl in
    let entries : List Dyn = read_entries r place in
    let tags : TagsRead place entries = tags_read r place in
    let names : List (List ℕ) = dynamic_name_texts r in
    let hash_most : length (hash_bytes names) ≤ 2 ^ 31 =
    subst (λ n. n ≤ 2 ^ 31) (sym hash.size ∙ ap length (hash_is r place)) hash.short in
    let strings_most : length (table_bytes (dynamic_texts r)) ≤ 2 ^ 31 =
    subst (λ n. n ≤ 2 ^ 31) (sym dynstr.size ∙ ap length (dynstr_is r place)) dynstr.short in
    let hash_there : hash_at (memory_of_image image) (first_with_tag 4 entries) ≡ Some (hash_bytes names) =
    ap (hash_at (memory_of_image image)) (tags.hash ∙ ap Some (start_read r place image hash_key hash))
    ∙ hash_found image names hash.found.row.addr (subst (λ l. (k : ℕ) → k < length l → memory_of_image image (hash.found.row.addr + k) ≡ Some (slice_index l k)) (hash_is r place) hash.bytes) hash_most in
    let symbols_sized : 24 * symbol_count (hash_bytes names) ≡ length (table_of_key r place dynsym_key) =
    ap (λ n. 24 * n) (hash_count names hash_most ∙ ap (λ n. n + 1) (text_count r)) ∙ (sym (dynsym_length r place) ∙ ap length (sym (dynsym_is r place))) in
    let records_there : table_at (memory_of_image image) (first_with_tag 6 entries) (24 * symbol_count (hash_bytes names)) ≡ Some (dynsym_bytes r place) =
    table_found r place image dynsym_key entries 6 (24 * symbol_count (hash_bytes names)) dynsym tags.symtab symbols_sized ∙ ap Some (dynsym_is r place) in
    let strings_there : table_at (memory_of_image image) (first_with_tag 5 entries) (named_size 10 entries) ≡ Some (table_bytes (dynamic_texts r)) =
    sized_found r place image dynstr_key entries 5 10 dynstr tags.strtab tags.strsz ∙ ap Some (dynstr_is r place) in
    all_parts (memory_of_image image) entries (hash_bytes names) (dynsym_bytes r place) (table_bytes (dynamic_texts r)) (table_of_key r place rela_dyn_key) (table_of_key r place rela_plt_key)
    hash_there records_there strings_there
    (sized_found r place image rela_dyn_key entries 7 8 rela_dyn tags.rela tags.relasz)
    (sized_found r place image rela_plt_key entries 23 2 rela_plt tags.jmprel tags.pltrelsz)
    (needed_closed r place strings_most)
    (symbols_read r place dynamic strings_most)

pub dynamic_named :
    (r : Resolved) (place : Placement) (tail : List Part) (image : List ℕ)
    → Image r place tail image
    → r.options.dynamic ≡ true
    → is_none (named_in image) ≡ false
unfolding named_in
dynamic_named r place tail image i dynamic =
    let rows = tables_there r place dynamic i.loadable.lawful in
    let t : TableLoaded r place image dynamic_key = table_loaded r place tail image dynamic_key i rows.1.1.1.1.1.1.1.1.1.0 refl refl refl in
    let memory : ℕ → Option ℕ = memory_of_image image in
    let header : find is_dynamic_header (headers_in image) ≡ Some (shown t.found.row) =
    ap (find is_dynamic_header) (headers_are_read r place tail image i.loadable i.laid) ∙ dynamic_header_found place (exec_stack_of r) t.found.row t.found.found in
    let segment : segment_bytes memory (find is_dynamic_header (headers_in image)) ≡ Some (dynamic_bytes r place) =
    ap (segment_bytes memory) header
    ∙ (whole_read memory t.found.row.addr t.found.row.size (table_of_key r place dynamic_key) t.bytes (sym t.size) ∙ ap Some (dynamic_is r place)) in
    no_none (named_in image)
    (ap (λ o. is_some (with_value o (λ bytes. named_by memory (counted_entries bytes 0 (length bytes))))) segment
    ∙ (ap (λ es. is_some (named_by memory es)) (entries_read r place)
    ∙ parts_named r place tail image i dynamic))
