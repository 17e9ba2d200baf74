use Rattle.std.proofs.Common.{◌≡◌, drop, fold, map}
use Rattle.lk_model.specs.Texts.{with_text}
use Rattle.lk_incr.specs.NotedTexts.{global_name}
use Rattle.lk_incr.proofs.noting.note_globals.Given as goal

-- the table with the names that are left is the table with all names
abbrev pub invariant-loop-global : goal.invariant-loop-global
invariant-loop-global l = fold with_text l.table (map global_name (drop l.global-index l.globals)) ≡ fold with_text l.initial.table (map global_name l.globals)
