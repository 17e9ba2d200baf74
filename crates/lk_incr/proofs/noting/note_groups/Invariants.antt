use Rattle.std.proofs.Common.{◌≡◌, drop, fold, map}
use Rattle.lk_model.specs.Texts.{with_text}
use Rattle.lk_incr.specs.NotedTexts.{group_name}
use Rattle.lk_incr.proofs.noting.note_groups.Given as goal

-- the table with the names that are left is the table with all names
abbrev pub invariant-loop-group : goal.invariant-loop-group
invariant-loop-group l = fold with_text l.table (map group_name (drop l.group-index l.groups)) ≡ fold with_text l.initial.table (map group_name l.groups)
