-- The law of the records (this project's own): what is spelled reads back as what it was. It holds for
-- records that could have been read at all, and whose sections are not too long for offsets in them.
use Rattle.std.specs.Prelude.{◌≡◌, ℕ, ◌^◌, ◌&&◌, Bool, IsTrue, List, length, nat_lt, Ok}
use Rattle.std.specs.List.{list_all}
use Rattle.lk_model.specs.RecordSections.{spelling}
use Rattle.lk_model.specs.RecordsReading.{reads}
use Rattle.lk_model.specs.declared.records.Five.{Five}
use Rattle.lk_model.specs.declared.records.Records.{Records}

-- whether a section is short enough for offsets of four bytes
abbrev pub is_short : List ℕ → Bool
is_short bytes = nat_lt (length bytes) (2 ^ 32)

abbrev pub are_short : Five → Bool
are_short five =
    is_short five.inputs && is_short five.symtab && is_short five.relocs && is_short five.got_plt && is_short five.strtab

-- whether a section is bytes
abbrev pub is_bytes : List ℕ → Bool
is_bytes section = list_all (λ b. nat_lt b 256) section

abbrev pub are_bytes : Five → Bool
are_bytes five =
    is_bytes five.inputs && is_bytes five.symtab && is_bytes five.relocs && is_bytes five.got_plt && is_bytes five.strtab

-- records that meet no refusal: some five sections of bytes are read as them, and each of the five that
-- spell them is shorter than 2^32 bytes
pub record MeetsNoRefusal (r : Records) : Type 0 where
  pub five : Five
  pub bytes : IsTrue (are_bytes five)
  pub read : reads five ≡ Ok r
  pub short : IsTrue (are_short (spelling r))

-- records that meet no refusal are read back from the sections that spell them
abbrev pub ReadsBack : Type 0
ReadsBack = (r : Records) → MeetsNoRefusal r → reads (spelling r) ≡ Ok r
