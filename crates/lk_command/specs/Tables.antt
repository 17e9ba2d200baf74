-- This project's own: the meaning that a table of words gives a word.
use Rattle.std.specs.Prelude.{ℕ, List, find, length, drop, bytes_eq, nat_eq, option_map, Option}
use Rattle.std.specs.List.{starts_with}
use Rattle.std.specs.Borrow.{Bor}
use Rattle.lk_model.specs.Grammar as grammar
use Rattle.lk_command.specs.declared.meanings.Valued.{Valued}
use Rattle.lk_command.specs.declared.word_tables.WholeWord.{WholeWord}
use Rattle.lk_command.specs.declared.word_tables.Beginning.{Beginning}
use Rattle.lk_command.specs.Seen.{meaning_seen, valued_seen}

-- a row for a whole word
abbrev pub row_seen : WholeWord → List ℕ × grammar.Meaning
row_seen row = (row.text.now, meaning_seen row.meaning)

-- a row for a word's beginning
abbrev pub beginning_seen : Beginning → List ℕ × grammar.Valued
beginning_seen row = (row.text.now, valued_seen row.option)

-- an option with its value
abbrev pub pair_seen : Valued × Bor (List ℕ) → grammar.Valued × List ℕ
pair_seen pair = (valued_seen pair.0, pair.1.now)

-- the meaning in the first row of a word
abbrev pub meaning_in : List (List ℕ × grammar.Meaning) → List ℕ → Option grammar.Meaning
meaning_in rows word =
    option_map (λ (row : List ℕ × grammar.Meaning). row.1) (find (λ (row : List ℕ × grammar.Meaning). bytes_eq row.0 word) rows)

-- the option of a row that a word begins with, and the rest of the word
abbrev pub value_after : List ℕ → List ℕ × grammar.Valued → grammar.Valued × List ℕ
value_after word row = (row.1, drop (length row.0) word)

-- the option of the first row that a word begins with, and the rest of the word
abbrev pub value_in : List (List ℕ × grammar.Valued) → List ℕ → Option (grammar.Valued × List ℕ)
value_in rows word =
    option_map (value_after word) (find (λ (row : List ℕ × grammar.Valued). starts_with nat_eq word row.0) rows)
