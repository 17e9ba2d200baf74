-- This project's own: the targets of the symbols of an object, in a list by their numbers (gABI "Symbol Table").
use Rattle.std.specs.Prelude.{ℕ, ◌+◌, ◌==◌, List, [], ◌∷◌, fold, map, max, set}
use Rattle.std.specs.List.{range_with_len}
use Rattle.lk_elf.specs.Numbers.{stb_weak}
use Rattle.lk_model.specs.declared.summaries.Global.{Global}
use Rattle.lk_model.specs.declared.summaries.InputSummary.{InputSummary}
use Rattle.lk_model.specs.Views.{Elf}
use Rattle.lk_resolve.specs.Settling.{ResolutionValue}
use Rattle.lk_symtab.specs.NameRows.{NameRow}
use Rattle.lk_scan.specs.declared.targets.Target.{Target}
use Rattle.lk_scan.specs.Targets.{local_target, name_target, number_of_symbol}

-- the target of a symbol of an input that is not LOCAL
abbrev pub global_target : List NameRow → ℕ → Global → Target
global_target rows input g = name_target rows (number_of_symbol rows input g.symbol) (g.binding == stb_weak)

-- a count that is also above the number of this symbol, and one above the numbers of all these symbols
abbrev pub with_number : ℕ → Global → ℕ
with_number count g = max count (g.symbol + 1)

abbrev pub count_for : List Global → ℕ
count_for globals = fold with_number 0 globals

-- targets with those of these symbols put in; where several have one number, that of the first counts
abbrev pub with_globals : List NameRow → ℕ → List Global → List Target → List Target
with_globals rows input [] targets = targets
with_globals rows input (g ∷ gs) targets = set (with_globals rows input gs targets) g.symbol (global_target rows input g)

-- the targets of an object's symbols, up to the last that is not LOCAL
abbrev pub targets_of : ResolutionValue → Elf → InputSummary → ℕ → List Target
targets_of resolution elf summary input = with_globals resolution.rows input summary.globals (map (local_target resolution elf input) (range_with_len 0 (count_for summary.globals)))
