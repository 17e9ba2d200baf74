-- The sections that have a program header of their own (gABI "Program Header": PT_INTERP, PT_DYNAMIC,
-- PT_NOTE), and the thread-local segment (gABI "Thread-Local Storage").
use Rattle.std.specs.Prelude.{ℕ, Bool, List, ◌-◌, ◌+◌, codes, filter, map}
use Rattle.lk_elf.specs.Numbers.{pf_r, pf_w, pt_dynamic, pt_interp, pt_note, pt_tls}
use Rattle.lk_elf.specs.Records.{phdr_bytes}
use Rattle.lk_elf.specs.declared.program_header.Phdr.{Phdr}
use Rattle.lk_model.specs.FullPlace.{load_base}
use Rattle.lk_model.specs.SectionKeys.{is_note, named, same_key}
use Rattle.lk_model.specs.Segments.{section_header_of}
use Rattle.lk_model.specs.declared.layouts.Class.TheVariants.{R, W}
use Rattle.lk_model.specs.declared.layouts.SectionRow.{SectionRow}
use Rattle.lk_model.specs.declared.layouts.TlsSegment.{TlsSegment}
use Rattle.lk_headers.specs.declared.shown.Shown.{Shown}
use Rattle.lk_headers.specs.declared.shown.Shown.TheVariants as shown

-- the type of such a header
abbrev pub shown_type : Shown → ℕ
shown_type shown.Interpreter = pt_interp
shown_type shown.Dynamic = pt_dynamic
shown_type shown.Note = pt_note

-- the flags of such a header
abbrev pub shown_flags : Shown → ℕ
shown_flags shown.Interpreter = pf_r
shown_flags shown.Dynamic = pf_r + pf_w
shown_flags shown.Note = pf_r

-- whether a section has such a header
abbrev pub is_shown : Shown → SectionRow → Bool
is_shown shown.Interpreter row = same_key row.key (named (codes ".interp") R)
is_shown shown.Dynamic row = same_key row.key (named (codes ".dynamic") W)
is_shown shown.Note row = is_note row.key

-- the headers of the sections of a kind
abbrev pub shown_headers : Shown → List SectionRow → List Phdr
shown_headers kind rows = map (section_header_of (shown_type kind) (shown_flags kind)) (filter (is_shown kind) rows)

-- the header of a thread-local segment at an address, with so many bytes in the file and in memory
abbrev pub thread_header : ℕ → ℕ → ℕ → ℕ → Phdr
thread_header addr file memory align = record {
  p_type = pt_tls;
  p_flags = pf_r;
  p_offset = addr - load_base;
  p_vaddr = addr;
  p_paddr = addr;
  p_filesz = file;
  p_memsz = memory;
  p_align = align;
}

-- the bytes of the header of a thread-local segment
abbrev pub thread_bytes : TlsSegment → List ℕ
thread_bytes segment = phdr_bytes (thread_header segment.addr segment.file segment.memory segment.align)
