use Rattle.std.specs.Prelude.{◌≡◌, ◌-◌}
use Rattle.lk_model.specs.RecordForms.{read_many}
use Rattle.lk_model.specs.RecordReaders.{read_among}
use Rattle.lk_records_read.specs.InputParts.{read_member}
use Rattle.lk_records_read.proofs.groups.members_of.Given as goal

abbrev pub invariant-loop-k : goal.invariant-loop-k
invariant-loop-k l =
    read_among (λ _ b. read_member l.strtab b) l.members (l.count - l.k) l.cursor ≡ read_many (read_member l.strtab) l.count l.fn.cursor
