-- The symbols of a table one after another, each with its number (gABI "Symbol Table"): the first that has no
-- name, and what is kept of them.
use Rattle.std.specs.Prelude.{ℕ, zero, suc, ◌+◌, ◌*◌, ◌/◌, if◌then◌else◌, List, [], ◌∷◌, fold, is_none, map, Option, Some, None}
use Rattle.lk_elf.specs.Numbers.{sym_size}
use Rattle.lk_elf.specs.Records.{sym_at}
use Rattle.lk_elf.specs.declared.section_header.Shdr.{Shdr}
use Rattle.lk_elf.specs.declared.symbol.Sym.{Sym}
use Rattle.lk_report.specs.declared.faults.InputFault.{InputFault}
use Rattle.lk_report.specs.declared.faults.InputFault.TheVariants.{BadName}
use Rattle.lk_model.specs.Checks.{first_fault}
use Rattle.lk_model.specs.Elf.{lies_in, name_of_symbol}
use Rattle.lk_model.specs.Views.{Elf}
use Rattle.lk_so_read.specs.OfferedSymbols.{Kept, with_symbol}

-- how many symbols a table has in the file; none where its bytes do not lie in it
abbrev pub symbol_count : List ℕ → Shdr → ℕ
symbol_count bytes header = if lies_in bytes header.sh_offset header.sh_size then header.sh_size / sym_size else 0

-- so many symbols from this one on, with their numbers
abbrev pub rows_from : List ℕ → Shdr → ℕ → ℕ → List (ℕ × Sym)
rows_from bytes header k zero = []
rows_from bytes header k (suc m) = (k, sym_at bytes (header.sh_offset + sym_size * k)) ∷ rows_from bytes header (k + 1) m

-- the fault of the first of these that has no name
unfoldable pub name_fault : Elf → ℕ × Shdr → List (ℕ × Sym) → Option InputFault
name_fault elf table rows =
    first_fault (map (λ (row : ℕ × Sym). (is_none (name_of_symbol elf table.1.sh_link row.1), BadName table.0)) rows)

-- what is kept with one more of these, if it has a name
abbrev pub kept_named : Kept → ℕ × Sym → Option (List ℕ) → Kept
kept_named kept row None = kept
kept_named kept row (Some name) = with_symbol kept row.0 row.1 name

-- what is kept after these, whose names are in this string section
unfoldable pub kept_after : Elf → ℕ → Kept → List (ℕ × Sym) → Kept
kept_after elf strings kept rows =
    fold (λ (now : Kept) (row : ℕ × Sym). kept_named now row (name_of_symbol elf strings row.1)) kept rows
