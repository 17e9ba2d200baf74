use Rattle.std.specs.Prelude.{◌≡◌, ◌-◌}
use Rattle.lk_model.specs.RecordForms.{read_many}
use Rattle.lk_model.specs.RecordReaders.{read_among}
use Rattle.lk_records_read.specs.InputParts.{read_global}
use Rattle.lk_records_read.proofs.globals.globals_of.Given as goal

abbrev pub invariant-loop-k : goal.invariant-loop-k
invariant-loop-k l =
    read_among (λ _ b. read_global l.strtab b) l.globals (l.count - l.k) l.cursor ≡ read_many (read_global l.strtab) l.count l.fn.cursor
