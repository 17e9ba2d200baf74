-- The sizes of the tables are those of lk_model.
use Rattle.std.proofs.Common.{◌≡◌, refl, sym, ap, ◌∙◌, ℕ, ◌+◌, ◌*◌, Bool, true, false, cond, if◌then◌else◌, List, [], ◌∷◌, length, length-append, map, Option, Some, None, option_map, option_and_then, slice_get, Result, Ok, Err, IfOk}
use Rattle.std.proofs.Math.ListN.{length-map}
use Rattle.std.proofs.lemmas.Option.{slice_get-map}
use Rattle.lk_report.specs.declared.causes.OptionRecord.{OptionRecord}
use Rattle.lk_report.specs.declared.memory.NoMemory.{NoMemory}
use Rattle.lk_elf.specs.Numbers.{sym_size, rela_size, dyn_size}
use Rattle.lk_model.specs.declared.layouts.Needs.{Needs}
use Rattle.lk_model.specs.declared.layouts.SectionKey.{SectionKey}
use Rattle.lk_model.specs.declared.summaries.InputSummary.{InputSummary}
use Rattle.lk_model.specs.declared.summaries.Winner.{Winner}
use Rattle.lk_model.specs.DynamicKeys.{interp_key, hash_key, dynsym_key, dynstr_key, rela_dyn_key, rela_plt_key, plt_key, dynamic_key}
use Rattle.lk_model.specs.DynamicNames.{dynamic_names}
use Rattle.lk_model.specs.DynamicSizes.{array_count, count_of_option, count_of_text, dynamic_entry_count, dynamic_table_sizes, fini_name, init_name, name_in_object, plt_entry_size, usual_entries}
use Rattle.lk_model.specs.DynamicTexts.{interp_bytes, interpreter_path}
use Rattle.lk_model.specs.Finding.{number_among}
use Rattle.lk_model.specs.HashTable.{word_count}
use Rattle.lk_model.specs.Resolving.{resolve}
use Rattle.lk_model.specs.SectionKeys.{got_key, got_plt_key}
use Rattle.lk_model.specs.SectionOrder.{dynamic_sizes_where, slots_of, table_sizes_among}
use Rattle.lk_model.specs.Texts.{table_bytes}
use Rattle.lk_model.specs.Views.{Input, Resolved}
use Rattle.lk_model.specs.Winners.{is_in_object}
use Rattle.lk_resolve.specs.Given.{IsGiven}
use Rattle.lk_resolve.specs.RowFaults.{is_some_in_object}
use Rattle.lk_resolve.specs.Settling.{ResolutionValue}
use Rattle.lk_symtab.specs.NameRows.{NameRow, number_of, row_winner}
use Rattle.lk_dyn_sizes.specs.DynamicRows.{dynamic_in}
use Rattle.lk_dyn_sizes.specs.DynamicStrings.{needed_in}
use Rattle.lk_dyn_sizes.specs.EntryCounts.{count_where, entry_count_in, is_defined_in}
use Rattle.lk_dyn_sizes.specs.declared.size_rows.TableSize.{TableSize}
use Rattle.lk_dyn_sizes.specs.SizeRows.{as_pairs}
use Rattle.lk_dyn_sizes.specs.SizesIn.{counts_in, dynamic_pairs, sizes_in, sizes_of}
use Rattle.lk_dyn_sizes.proofs.FillsGiven.{filled_seen}
use Rattle.lk_dyn_sizes.proofs.NamesGiven.{copied_seen, dynamic_seen}
use Rattle.lk_resolve.proofs.Seen.{Sees, seen}
use Rattle.lk_dyn_sizes.proofs.StringsGiven.{needed_seen, strings_seen}

-- a number where an object has the winner, else none
abbrev in_object : ℕ → Winner → Option ℕ
in_object n w = if is_in_object w then Some n else None

count_there : (n : ℕ) (b : Bool) → count_of_option (if b then Some n else None) ≡ count_where b
count_there n true = refl
count_there n false = refl

winner_there : (n : ℕ) (o : Option NameRow) → count_of_option (option_and_then (in_object n) (option_map row_winner o)) ≡ count_where (is_some_in_object o)
winner_there n None = refl
winner_there n (Some row) = count_there n (is_in_object (row_winner row))

number_there : (rows : List NameRow) (o : Option ℕ) → count_of_option (option_and_then (λ n. option_and_then (in_object n) (slice_get (map row_winner rows) n)) o) ≡ count_where (is_some_in_object (option_and_then (slice_get rows) o))
number_there rows None = refl
number_there rows (Some n) =
    ap (λ w. count_of_option (option_and_then (in_object n) w)) (slice_get-map row_winner rows n)
    ∙ winner_there n (slice_get rows n)

module _ (resolution : ResolutionValue) (summaries : List InputSummary) (needs : Needs) (options : OptionRecord) (r : Resolved) (s : Sees resolution summaries needs options r) where
  defined_seen : (name : List ℕ) → count_of_option (name_in_object r name) ≡ count_where (is_defined_in resolution.rows name)
  defined_seen name =
      (λ i. count_of_option (option_and_then (λ n. option_and_then (in_object n) (slice_get (s.winners i) n)) (number_among (s.names i) name)))
      ∙ number_there resolution.rows (number_of resolution.rows name)

  -- the entries of the dynamic section
  entries_seen : (keys : List SectionKey) → dynamic_entry_count r keys ≡ entry_count_in (length (needed_in resolution summaries)) options.runpath resolution.rows keys
  entries_seen keys =
      let needed = ap length (needed_seen resolution summaries needs options r s) in
      let init = defined_seen init_name in
      let fini = defined_seen fini_name in
      λ i. needed i + count_of_text (s.chosen i).runpath + init i + fini i + 2 * array_count keys + usual_entries

  -- the path of the dynamic linker
  interp_seen : length (interp_bytes r) ≡ length (interpreter_path options.interp) + 1
  unfolding interp_bytes
  interp_seen =
      length-append (interpreter_path r.options.interp) (0 ∷ [])
      ∙ (λ i. length (interpreter_path (s.chosen i).interp) + 1)

  -- the tables of a dynamic link
  dynamic_sizes_seen : (keys : List SectionKey) → r.options.dynamic ≡ true → dynamic_table_sizes r keys (slots_of r.needs) ≡ dynamic_pairs (sizes_of (counts_in keys resolution summaries needs options))
  unfolding dynamic_table_sizes
  dynamic_sizes_seen keys dynamic =
      let symbols : length (dynamic_names r) + 1 ≡ length (dynamic_in resolution needs options) + 1 = ap (λ l. length l + 1) (dynamic_seen resolution summaries needs options r s) in
      let strings = strings_seen resolution summaries needs options r s in
      let filled = filled_seen resolution summaries needs options r s in
      let copied = copied_seen resolution summaries needs options r s in
      let entries = entries_seen keys in
      λ i. if dynamic i then
      (interp_key, interp_seen i)
      ∷ (hash_key, 4 * word_count (symbols i))
      ∷ (dynsym_key, sym_size * symbols i)
      ∷ (dynstr_key, length (table_bytes (strings i)))
      ∷ (rela_dyn_key, rela_size * (filled i + length (copied i)))
      ∷ (rela_plt_key, rela_size * length (s.needed i).plt)
      ∷ (plt_key, plt_entry_size * (1 + length (s.needed i).plt))
      ∷ (dynamic_key, dyn_size * entries i)
      ∷ []
      else []

  where_dynamic : (keys : List SectionKey) (b : Bool) → r.options.dynamic ≡ b → dynamic_sizes_where b r keys (slots_of r.needs) ≡ cond b (dynamic_pairs (sizes_of (counts_in keys resolution summaries needs options))) []
  where_dynamic keys true e = dynamic_sizes_seen keys e
  where_dynamic keys false e = refl

  -- the tables of a link
  pub sizes_seen : (keys : List SectionKey) → table_sizes_among keys r (slots_of r.needs) ≡ sizes_in keys resolution summaries needs options
  sizes_seen keys =
      let got : length (map Some r.needs.got) ≡ length needs.got = length-map r.needs.got Some ∙ ap (λ (n : Needs). length n.got) s.needed in
      let dynamic : r.options.dynamic ≡ resolution.dynamic = ap (λ (o : OptionRecord). o.dynamic) s.chosen in
      let others =
      ap (λ b. dynamic_sizes_where b r keys (slots_of r.needs)) dynamic
      ∙ where_dynamic keys resolution.dynamic dynamic in
      λ i. (got_key, 8 * got i) ∷ (got_plt_key, 8 * (3 + length (s.needed i).plt)) ∷ others i

pub sizes_given : (keys : List SectionKey) (resolution : ResolutionValue) (summaries : List InputSummary) (needs : Needs) (options : OptionRecord) (r : Result (List TableSize) NoMemory)
    → IfOk r (λ tables. as_pairs tables ≡ sizes_in keys resolution summaries needs options) → (xs : List Input) → IsGiven resolution summaries needs options xs → IfOk r (λ tables. as_pairs tables ≡ table_sizes_among keys (resolve options xs) (slots_of (resolve options xs).needs))
sizes_given keys resolution summaries needs options (Ok tables) is xs given = is ∙ sym (sizes_seen resolution summaries needs options (resolve options xs) (seen resolution summaries needs options xs given) keys)
sizes_given keys resolution summaries needs options (Err want) is xs given = tt
