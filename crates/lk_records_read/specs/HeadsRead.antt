-- The heads of the section of inputs (this project's own): the section's and each input's.
use Rattle.std.specs.Prelude.{ℕ, List, Option}
use Rattle.lk_elf.specs.Fields.{num}
use Rattle.lk_model.specs.InputsReading.{Head, InputHead, head_forms, head_with, input_forms, input_with}
use Rattle.lk_model.specs.RecordForms.{Given, read_record}
use Rattle.lk_model.specs.Texts.{text_at}
use Rattle.lk_records_read.specs.ReadAnswers.{record_in}

-- the head of the section with these texts and the numbers of its record
abbrev pub head_named : List ℕ → List ℕ → List ℕ → List ℕ → Option Head
head_named entry interp runpath bytes =
    head_with (num bytes 0 4, (num bytes 4 4, (entry, (interp, (runpath, (num bytes 20 4, (num bytes 24 4, (num bytes 28 4, tt))))))))

-- the head whose record begins these bytes
unfoldable pub head_in : List ℕ → List ℕ → Option Head
head_in strtab bytes = record_in (text_at strtab) head_forms head_with bytes

-- the head that is read there
unfoldable pub read_head : List ℕ → List ℕ → Given Head
read_head strtab bytes = read_record (text_at strtab) head_forms head_with bytes

-- an input's head with these texts and the numbers of its record
abbrev pub input_head_named : List ℕ → List ℕ → List ℕ → Option InputHead
input_head_named path soname bytes =
    input_with (path, (num bytes 4 4, (num bytes 8 4, (num bytes 12 4, (num bytes 16 4, (soname, (num bytes 24 8, (num bytes 32 8, (num bytes 40 4, (num bytes 44 4, (num bytes 48 4, (num bytes 52 4, tt))))))))))))

-- the input's head whose record begins these bytes
unfoldable pub input_head_in : List ℕ → List ℕ → Option InputHead
input_head_in strtab bytes = record_in (text_at strtab) input_forms input_with bytes

-- the input's head that is read there
unfoldable pub read_input_head : List ℕ → List ℕ → Given InputHead
read_input_head strtab bytes = read_record (text_at strtab) input_forms input_with bytes
