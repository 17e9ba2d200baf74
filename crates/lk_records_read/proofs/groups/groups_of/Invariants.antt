use Rattle.std.specs.Prelude.{◌≡◌, ◌-◌}
use Rattle.lk_model.specs.RecordForms.{read_many}
use Rattle.lk_model.specs.RecordReaders.{read_among}
use Rattle.lk_records_read.specs.InputParts.{read_group}
use Rattle.lk_records_read.proofs.groups.groups_of.Given as goal

abbrev pub invariant-loop-k : goal.invariant-loop-k
invariant-loop-k l =
    read_among (λ _ b. read_group l.strtab b) l.groups (l.count - l.k) l.cursor ≡ read_many (read_group l.strtab) l.count l.fn.cursor
