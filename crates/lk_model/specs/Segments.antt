-- The program headers of an image (gABI "Program Header", "Program Loading"; p_flags there), from its
-- section rows alone, and the ends of its segments.
use Rattle.std.specs.Prelude.{ℕ, Bool, if◌then◌else◌, List, [], ◌∷◌, ◌++◌, Option, Some, None, ◌+◌, ◌-◌, ◌*◌, not, max, length, map, filter, find, codes}
use Rattle.std.specs.List.{list_any}
use Rattle.lk_elf.specs.Numbers.{pt_load, pt_dynamic, pt_interp, pt_note, pt_phdr, pt_tls, pt_gnu_stack, pf_r, pf_w, pf_x, phdr_size, ehdr_size}
use Rattle.lk_elf.specs.declared.program_header.Phdr.{Phdr}
use Rattle.lk_model.specs.Amounts.{round_up}
use Rattle.lk_model.specs.SectionKeys.{same_key, same_class, named, in_file, is_note}
use Rattle.lk_model.specs.SectionOrder.{Segment, First, Second, Third, segment_of, same_segment}
use Rattle.lk_model.specs.FullPlace.{load_base, first_address, page, greatest}
use Rattle.lk_model.specs.declared.layouts.Class.{Class}
use Rattle.lk_model.specs.declared.layouts.Class.TheVariants.{R, W, WX, Tdata, Tbss}
use Rattle.lk_model.specs.declared.layouts.Placement.{Placement}
use Rattle.lk_model.specs.declared.layouts.SectionRow.{SectionRow}
use Rattle.lk_model.specs.declared.layouts.TlsSegment.{TlsSegment}

-- the rows of a segment
abbrev pub segment_rows : Segment → Placement → List SectionRow
segment_rows segment place = filter (λ (row : SectionRow). same_segment (segment_of row.key.class) segment) place.sections

-- where the last of these rooms ends in memory, or 0; the thread-local zeros take no addresses
abbrev pub memory_end : List SectionRow → ℕ
memory_end rows =
    greatest (map (λ (row : SectionRow). row.addr + row.room) (filter (λ (row : SectionRow). not (same_class row.key.class Tbss)) rows))

-- where the last of these rooms that the file holds ends in memory, or 0
abbrev pub stored_end : List SectionRow → ℕ
stored_end rows = greatest (map (λ (row : SectionRow). row.addr + row.room) (filter (λ (row : SectionRow). in_file row.key.class) rows))

-- where the first segment ends: at the first section's address where it has no section
abbrev pub first_segment_end : Placement → ℕ
first_segment_end place = max first_address (memory_end (segment_rows First place))

-- the page at which the second segment begins
abbrev pub second_segment_start : Placement → ℕ
second_segment_start place = round_up (first_segment_end place) page

-- the page at which the third segment begins
abbrev pub third_segment_start : Placement → ℕ
third_segment_start place = round_up (max (first_segment_end place) (memory_end (segment_rows Second place))) page

-- where the second segment ends; without a section in it, the first section's address
unfoldable pub second_segment_end : Placement → ℕ
second_segment_end place = max first_address (memory_end (segment_rows Second place))

-- where the third segment ends
unfoldable pub third_segment_end : Placement → ℕ
third_segment_end place = memory_end (segment_rows Third place)

-- a header of a segment that is loaded at its place in the file, from an address to two ends
abbrev pub load_header : ℕ → ℕ → ℕ → ℕ → Phdr
load_header flags address stored end =
    record {
      p_type = pt_load;
      p_flags = flags;
      p_offset = address - load_base;
      p_vaddr = address;
      p_paddr = address;
      p_filesz = stored - address;
      p_memsz = end - address;
      p_align = page;
    }

-- the first segment, with the headers of the file
abbrev pub first_load : Placement → Phdr
first_load place = load_header pf_r load_base (first_segment_end place) (first_segment_end place)

-- the rights of the third segment
abbrev pub third_flags : Placement → ℕ
third_flags place =
    if list_any (λ (row : SectionRow). same_class row.key.class WX) place.sections then pf_r + pf_w + pf_x else pf_r + pf_w

-- the second segment, where it has a section
abbrev pub second_load : Placement → List SectionRow → List Phdr
second_load place [] = []
second_load place (row ∷ rows) =
    load_header (pf_r + pf_x) (second_segment_start place) (stored_end (row ∷ rows)) (memory_end (row ∷ rows)) ∷ []

-- the third segment
abbrev pub third_load : Placement → Phdr
third_load place =
    let rows = segment_rows Third place in
    load_header (third_flags place) (third_segment_start place) (stored_end rows) (memory_end rows)

-- the header of one section
abbrev pub section_header_of : ℕ → ℕ → SectionRow → Phdr
section_header_of type flags row =
    record {
      p_type = type;
      p_flags = flags;
      p_offset = row.offset;
      p_vaddr = row.addr;
      p_paddr = row.addr;
      p_filesz = row.size;
      p_memsz = row.size;
      p_align = row.align;
    }

-- a header for each section that passes the test
abbrev pub headers_where : ℕ → ℕ → (SectionRow → Bool) → Placement → List Phdr
headers_where type flags test place = map (section_header_of type flags) (filter test place.sections)

-- the notes, one header each
abbrev pub note_headers : Placement → List Phdr
note_headers place = headers_where pt_note pf_r (λ (row : SectionRow). is_note row.key) place

-- the thread-local segment of the two sections that it may have
abbrev pub thread_segment : Option SectionRow → Option SectionRow → Option TlsSegment
thread_segment None None = None
thread_segment (Some data_row) None =
    Some (record { addr = data_row.addr; file = data_row.room; memory = data_row.room; align = data_row.align })
thread_segment None (Some zero_row) =
    Some (record { addr = zero_row.addr; file = 0; memory = zero_row.room; align = zero_row.align })
thread_segment (Some data_row) (Some zero_row) =
    Some (record {
      addr = data_row.addr;
      file = data_row.room;
      memory = zero_row.addr + zero_row.room - data_row.addr;
      align = max data_row.align zero_row.align;
    })

-- the section of a class
abbrev pub row_of_class : Class → Placement → Option SectionRow
row_of_class class place = find (λ (row : SectionRow). same_class row.key.class class) place.sections

-- the thread-local segment (gABI "Thread-Local Storage"), where a section of it is there
unfoldable pub tls_segment : Placement → Option TlsSegment
tls_segment place = thread_segment (row_of_class Tdata place) (row_of_class Tbss place)

abbrev pub start_of_tls : Option TlsSegment → ℕ
start_of_tls None = 0
start_of_tls (Some segment) = segment.addr

abbrev pub end_of_tls : Option TlsSegment → ℕ
end_of_tls None = 0
end_of_tls (Some segment) = segment.addr + round_up segment.memory segment.align

-- where the thread-local segment begins, and 0 without it
abbrev pub tls_start : Placement → ℕ
tls_start place = start_of_tls (tls_segment place)

-- where it ends, its size rounded up to its alignment (psABI "Thread-Local Storage": the thread pointer
-- is there), and 0 without it
abbrev pub tls_end : Placement → ℕ
tls_end place = end_of_tls (tls_segment place)

abbrev pub tls_header : Option TlsSegment → List Phdr
tls_header None = []
tls_header (Some segment) =
    let header : Phdr = record {
      p_type = pt_tls;
      p_flags = pf_r;
      p_offset = segment.addr - load_base;
      p_vaddr = segment.addr;
      p_paddr = segment.addr;
      p_filesz = segment.file;
      p_memsz = segment.memory;
      p_align = segment.align;
    } in
    header ∷ []

-- whether the stack may be executed
abbrev pub stack_header : Bool → Phdr
stack_header exec_stack =
    record {
      p_type = pt_gnu_stack;
      p_flags = if exec_stack then pf_r + pf_w + pf_x else pf_r + pf_w;
      p_offset = 0;
      p_vaddr = 0;
      p_paddr = 0;
      p_filesz = 0;
      p_memsz = 0;
      p_align = 16;
    }

-- the header that shows the program headers, where there is one that names an interpreter; `others` is
-- the number of the other headers
abbrev pub table_header : List Phdr → ℕ → List Phdr
table_header [] others = []
table_header (interp ∷ _) others =
    let header : Phdr = record {
      p_type = pt_phdr;
      p_flags = pf_r;
      p_offset = ehdr_size;
      p_vaddr = load_base + ehdr_size;
      p_paddr = load_base + ehdr_size;
      p_filesz = phdr_size * (others + 1);
      p_memsz = phdr_size * (others + 1);
      p_align = 8;
    } in
    header ∷ []

-- the headers from the first segment on
abbrev pub headers_from_loads : Placement → Bool → List Phdr
headers_from_loads place exec_stack =
    first_load place
    ∷ second_load place (segment_rows Second place)
    ++ third_load place
    ∷ headers_where pt_dynamic (pf_r + pf_w) (λ (row : SectionRow). same_key row.key (named (codes ".dynamic") W)) place
    ++ note_headers place
    ++ tls_header (tls_segment place)
    ++ stack_header exec_stack
    ∷ []

-- the program headers, in their order; those of the interpreter, of the dynamic section and of the
-- headers themselves come where the rows have those sections
unfoldable pub program_headers : Placement → Bool → List Phdr
program_headers place exec_stack =
    let interp = headers_where pt_interp pf_r (λ (row : SectionRow). same_key row.key (named (codes ".interp") R)) place in
    let rest = interp ++ headers_from_loads place exec_stack in
    table_header interp (length rest) ++ rest
