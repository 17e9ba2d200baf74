-- What is kept of a shared object, by its symbols and its name.
use Rattle.std.specs.Prelude.{◌≡◌, ℕ, List, flat_map, option_and_then, option_to_list, unwrap_or, Some, Option}
use Rattle.std.proofs.Common.{ap, append-nil, sym, ◌∙◌}
use Rattle.lk_elf.specs.declared.section_header.Shdr.{Shdr}
use Rattle.lk_model.specs.declared.summaries.Global.{Global}
use Rattle.lk_model.specs.SharedObjects.{dynamic_section, dynamic_symbol_table, last_part, offered_under, shared_globals_in, shared_summary_in, soname_of, soname_under, without_repeated}
use Rattle.lk_model.specs.Views.{Elf}
use Rattle.lk_so_read.specs.SharedParts.{summary_with}

globals-read : (elf : Elf) (symbols : ℕ × Shdr) → dynamic_symbol_table elf ≡ Some symbols → shared_globals_in elf ≡ without_repeated (offered_under elf symbols)
unfolding shared_globals_in
globals-read elf symbols s =
    ap (λ (o : Option (ℕ × Shdr)). flat_map (λ (table : ℕ × Shdr). without_repeated (offered_under elf table)) (option_to_list o)) s
    ∙ append-nil (without_repeated (offered_under elf symbols))

soname-read : (path : List ℕ) (elf : Elf) (dynamic : ℕ × Shdr) → dynamic_section elf ≡ Some dynamic → soname_of path elf ≡ unwrap_or (soname_under elf dynamic) (last_part path)
unfolding soname_of
soname-read path elf dynamic d = ap (λ (o : Option (ℕ × Shdr)). unwrap_or (option_and_then (soname_under elf) o) (last_part path)) d

pub summary_read : (path : List ℕ) (elf : Elf) (symbols dynamic : ℕ × Shdr) (soname : List ℕ) (globals : List Global) → dynamic_symbol_table elf ≡ Some symbols → dynamic_section elf ≡ Some dynamic → globals ≡ without_repeated (offered_under elf symbols) → soname ≡ unwrap_or (soname_under elf dynamic) (last_part path) → summary_with soname globals ≡ shared_summary_in path elf
unfolding summary_with shared_summary_in
summary_read path elf symbols dynamic soname globals s d g n =
    ap (λ (name : List ℕ). summary_with name globals) (n ∙ sym (soname-read path elf dynamic d))
    ∙ ap (summary_with (soname_of path elf)) (g ∙ sym (globals-read elf symbols s))
