-- What is said of a shared object (this project's own): its soname, the names of the files that it needs, and how
-- many of the symbols that other files may mean are of each kind.
use Rattle.std.specs.Prelude.{ℕ, ◌==◌, Bool, not, ◌&&◌, ◌||◌, List, ◌++◌, codes, filter, flat_map, length}
use Rattle.std.specs.Fmt.{decimal}
use Rattle.lk_elf.specs.Numbers.{stb_weak, stt_func, stt_object, stt_tls}
use Rattle.lk_model.specs.declared.summaries.Global.{Global}
use Rattle.lk_model.specs.Elf.{elf_of}
use Rattle.lk_model.specs.SharedObjects.{is_definition, shared_globals_in, soname_of}
use Rattle.lk_so_read.specs.Needs.{needs_in}
use Rattle.lk_probe.specs.declared.shared_facts.SharedFacts.{SharedFacts}
use Rattle.lk_probe.specs.declared.shared_facts.SymbolCounts.{SymbolCounts}

-- a symbol that the shared object does not define
abbrev pub is_reference : Global → Bool
is_reference g = not (is_definition g)

-- a definition of a type (gABI "Symbol Table", the type of st_info)
abbrev pub is_definition_of : ℕ → Global → Bool
is_definition_of code g = is_definition g && g.code == code

-- a type of which there is a count
abbrev pub is_counted_type : ℕ → Bool
is_counted_type code = code == stt_func || code == stt_object || code == stt_tls

-- a definition of any other type
abbrev pub is_other_definition : Global → Bool
is_other_definition g = is_definition g && not (is_counted_type g.code)

-- a symbol of binding WEAK
abbrev pub is_weak : Global → Bool
is_weak g = g.binding == stb_weak

-- how many symbols there are of each kind
unfoldable pub symbol_counts : List Global → SymbolCounts
symbol_counts globals = record {
  functions = length (filter (is_definition_of stt_func) globals);
  objects = length (filter (is_definition_of stt_object) globals);
  thread_local = length (filter (is_definition_of stt_tls) globals);
  others = length (filter is_other_definition globals);
  references = length (filter is_reference globals);
  weak = length (filter is_weak globals);
}

-- the facts of the shared object of these bytes at a path
unfoldable pub facts_of : List ℕ → List ℕ → SharedFacts
facts_of path bytes = record {
  soname = soname_of path (elf_of bytes);
  needs = needs_in (elf_of bytes);
  symbols = symbol_counts (shared_globals_in (elf_of bytes));
}

-- a line that begins with a word and ends with a name
abbrev pub name_line : List ℕ → List ℕ → List ℕ
name_line word name = word ++ name ++ codes "\n"

-- a number and the word of what it counts
unfoldable pub count_text : ℕ → List ℕ → List ℕ
count_text count word = decimal count ++ word

-- the numbers of definitions, by type
abbrev pub definitions_text : SymbolCounts → List ℕ
definitions_text counts =
    count_text counts.functions (codes " functions, ")
    ++ count_text counts.objects (codes " objects, ")
    ++ count_text counts.thread_local (codes " thread-local, ")
    ++ count_text counts.others (codes " others, ")

-- the line of the numbers of symbols
abbrev pub counts_line : SymbolCounts → List ℕ
counts_line counts =
    codes "symbols: "
    ++ definitions_text counts
    ++ count_text counts.references (codes " references, ")
    ++ count_text counts.weak (codes " weak\n")

-- what is said of a shared object with these facts
unfoldable pub shared_text : SharedFacts → List ℕ
shared_text facts =
    name_line (codes "shared object: ") facts.soname ++ flat_map (name_line (codes "needs: ")) facts.needs ++ counts_line facts.symbols
