-- The first bytes of an image (gABI "ELF Header", "Program Header"): the file header and the program
-- headers after it.
use Rattle.std.specs.Prelude.{ℕ, ◌+◌, Bool, false, List, ◌∷◌, ◌++◌, length, replicate, Some, None, slice_get, position}
use Rattle.std.specs.List.{list_any, flat_map}
use Rattle.std.specs.Str.{bytes_eq}
use Rattle.lk_elf.specs.declared.file_header.Ehdr.{Ehdr}
use Rattle.lk_elf.specs.Numbers.{et_exec, em_x86_64}
use Rattle.lk_elf.specs.Records.{ehdr_bytes, phdr_bytes}
use Rattle.lk_model.specs.Segments.{program_headers}
use Rattle.lk_model.specs.SymbolValues.{name_value}
use Rattle.lk_model.specs.Tail.{Part, headers_offset}
use Rattle.lk_model.specs.Views.{Resolved}
use Rattle.lk_model.specs.declared.layouts.Placement.{Placement}
use Rattle.lk_model.specs.declared.summaries.Contributions.{Contributions}

-- whether an added object asks for an executable stack
abbrev pub asks_exec_stack : Resolved → ℕ → Bool
asks_exec_stack r n = elim (slice_get r.inputs n) [ None ↦ false | Some i ↦ i.summary.exec_stack ]

abbrev pub exec_stack_of : Resolved → Bool
exec_stack_of r = list_any (asks_exec_stack r) r.added

-- the address where the program begins: the entry symbol's value
abbrev pub entry_value : Resolved → Placement → ℕ
entry_value r place =
    elim (position (λ (c : Contributions). bytes_eq c.name r.options.entry) r.names) [ None ↦ 0 | Some n ↦ name_value r place n ]

-- the identification: ELF64, little-endian, version 1
abbrev pub identification : List ℕ
identification = 127 ∷ 69 ∷ 76 ∷ 70 ∷ 2 ∷ 1 ∷ 1 ∷ replicate 9 0

unfoldable pub file_header : Resolved → Placement → List Part → Ehdr
file_header r place parts = record {
  e_ident = identification;
  e_type = et_exec;
  e_machine = em_x86_64;
  e_version = 1;
  e_entry = entry_value r place;
  e_phoff = 64;
  e_shoff = headers_offset place parts;
  e_flags = 0;
  e_ehsize = 64;
  e_phentsize = 56;
  e_phnum = length (program_headers place (exec_stack_of r));
  e_shentsize = 64;
  e_shnum = length place.sections + length parts + 1;
  e_shstrndx = length place.sections + length parts;
}

-- the file header and the program headers
unfoldable pub header_bytes : Resolved → Placement → List Part → List ℕ
header_bytes r place parts =
    ehdr_bytes (file_header r place parts) ++ flat_map phdr_bytes (program_headers place (exec_stack_of r))
