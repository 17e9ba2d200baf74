-- Whether the counts of `.gnu_incremental_inputs` fit (this project's own): the heads alone are looked
-- at, each at its bytes. A count fits where all that it counts has its bytes, the heads of what it
-- counts included; what those heads count is a matter of their own.
use Rattle.std.specs.Prelude.{ℕ, ◌+◌, List, length, drop}
use Rattle.lk_elf.specs.Fields.{num}
use Rattle.lk_model.specs.InputsReading.{head_forms, section_forms, input_forms, piece_forms, group_forms}
use Rattle.lk_model.specs.RecordForms.{record_width}
use Rattle.lk_model.specs.RecordReaders.{After, after_then, after_rows, after_many}

-- after a group: its members are counted in its last word
abbrev pub after_group : List ℕ → After
after_group bytes = after_rows (length bytes) 4 (num bytes 4 4) (drop (record_width group_forms) bytes)

-- after an input: its pieces, symbols and groups are counted in the words at 40, 44 and 48; a symbol is
-- as wide as a piece
abbrev pub after_input : List ℕ → After
after_input bytes =
    after_then (after_rows (length bytes) (record_width piece_forms) (num bytes 40 4 + num bytes 44 4) (drop (record_width input_forms) bytes)) (λ groups.
    after_many (length bytes) (record_width group_forms) after_group (num bytes 48 4) groups)

-- after the section's last input: inputs and output sections are counted in the words at 24 and 28
abbrev pub after_inputs : List ℕ → After
after_inputs bytes =
    after_then (after_rows (length bytes) (record_width section_forms) (num bytes 28 4) (drop (record_width head_forms) bytes)) (λ inputs.
    after_many (length bytes) (record_width input_forms) after_input (num bytes 24 4) inputs)
