-- The bytes before the seal of an image (gABI "ELF Header", "Program Header"), by the rows of its
-- sections and of its tail's parts and by the value of its entry: the file header, the program headers,
-- and zeros up to the seal.
use Rattle.std.specs.Prelude.{◌≡◌, ℕ, ◌+◌, ◌-◌, ◌≤◌, ◌<◌, Bool, List, ◌++◌, length, replicate, Result, Ok, Err}
use Rattle.std.specs.List.{flat_map}
use Rattle.lk_elf.specs.Numbers.{em_x86_64, et_exec}
use Rattle.lk_elf.specs.Records.{ehdr_bytes, phdr_bytes}
use Rattle.lk_elf.specs.declared.file_header.Ehdr.{Ehdr}
use Rattle.lk_report.specs.declared.statuses.LimitKind.TheVariants as limit
use Rattle.lk_model.specs.FileHeader.{identification}
use Rattle.lk_model.specs.Images.{seal_offset}
use Rattle.lk_model.specs.Segments.{program_headers}
use Rattle.lk_model.specs.declared.layouts.LayoutFault.{LayoutFault}
use Rattle.lk_model.specs.declared.layouts.LayoutFault.TheVariants as fault
use Rattle.lk_model.specs.declared.layouts.Placement.{Placement}
use Rattle.lk_model.specs.declared.layouts.SectionRow.{SectionRow}
use Rattle.lk_headers.specs.TailRows.{headers_at, last_number}

-- the header of an image with these rows
unfoldable pub front_header : Placement → List SectionRow → ℕ → Bool → Ehdr
front_header place tail entry exec_stack = record {
  e_ident = identification;
  e_type = et_exec;
  e_machine = em_x86_64;
  e_version = 1;
  e_entry = entry;
  e_phoff = 64;
  e_shoff = headers_at place tail;
  e_flags = 0;
  e_ehsize = 64;
  e_phentsize = 56;
  e_phnum = length (program_headers place exec_stack);
  e_shentsize = 64;
  e_shnum = last_number place tail + 1;
  e_shstrndx = last_number place tail;
}

-- the file header and the program headers
unfoldable pub front_bytes : Placement → List SectionRow → ℕ → Bool → List ℕ
front_bytes place tail entry exec_stack =
    ehdr_bytes (front_header place tail entry exec_stack) ++ flat_map phdr_bytes (program_headers place exec_stack)

-- headers with zeros after them, up to the seal
abbrev pub up_to_seal : List ℕ → List ℕ
up_to_seal bytes = bytes ++ replicate (seal_offset - length bytes) 0

-- the most program headers of an image (own): as many have room before the seal
abbrev pub most_headers : ℕ
most_headers = 64

-- the answer for the front of an image: its bytes; or, exactly where there are too many program
-- headers, the limit with their whole number. Out of memory may come at any time.
abbrev pub FrontGives : Placement → List SectionRow → ℕ → Bool → Result (List ℕ) LayoutFault → Type 0
FrontGives place tail entry exec_stack (Ok bytes) =
    (length (program_headers place exec_stack) ≤ most_headers) × (bytes ≡ up_to_seal (front_bytes place tail entry exec_stack))
FrontGives place tail entry exec_stack (Err (fault.Limit f)) =
    (most_headers < length (program_headers place exec_stack))
    × (f ≡ record { which = limit.Headers; number = length (program_headers place exec_stack) })
FrontGives place tail entry exec_stack (Err fault.NoMemory) = Unit {0}
