-- The program headers in the groups in which they are written (gABI "Program Header").
use Rattle.std.specs.Prelude.{ℕ, Bool, List, [], ◌∷◌, ◌++◌, ◌+◌, ◌*◌}
use Rattle.lk_elf.specs.Numbers.{ehdr_size, pf_r, pf_x, phdr_size, pt_phdr}
use Rattle.lk_elf.specs.declared.program_header.Phdr.{Phdr}
use Rattle.lk_model.specs.FullPlace.{load_base}
use Rattle.lk_model.specs.SectionOrder.{Second}
use Rattle.lk_model.specs.Segments.{first_load, stored_end, load_header, memory_end, second_load, second_segment_start, segment_rows, stack_header, third_load, tls_header, tls_segment}
use Rattle.lk_model.specs.declared.layouts.Placement.{Placement}
use Rattle.lk_headers.specs.Shown.{shown_headers}
use Rattle.lk_headers.specs.declared.shown.Shown.TheVariants as shown

-- the header that shows this many headers, itself among them, after the file header
abbrev pub table_phdr : ℕ → Phdr
table_phdr count = record {
  p_type = pt_phdr;
  p_flags = pf_r;
  p_offset = ehdr_size;
  p_vaddr = load_base + ehdr_size;
  p_paddr = load_base + ehdr_size;
  p_filesz = phdr_size * count;
  p_memsz = phdr_size * count;
  p_align = 8;
}

-- the header of the second segment, where it has a section
abbrev pub second_header : Placement → Phdr
second_header place =
    load_header (pf_r + pf_x) (second_segment_start place) (stored_end (segment_rows Second place)) (memory_end (segment_rows Second place))

-- the headers of the loaded segments
unfoldable pub loads_of : Placement → List Phdr
loads_of place = first_load place ∷ second_load place (segment_rows Second place) ++ third_load place ∷ []

-- the headers after them
unfoldable pub others_of : Placement → Bool → List Phdr
others_of place exec_stack =
    shown_headers shown.Dynamic place.sections
    ++ shown_headers shown.Note place.sections
    ++ tls_header (tls_segment place)
    ++ stack_header exec_stack
    ∷ []
