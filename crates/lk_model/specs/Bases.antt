-- Whether a file is a base that an update starts from (this project's own; gABI "ELF Header",
-- "Sections" for what an image is): a sealed image whose own record sections are read as records.
use Rattle.std.specs.Prelude.{ℕ, ◌+◌, ◌*◌, ◌^◌, ◌==◌, ◌&&◌, ◌||◌, not, Bool, List, [], ◌∷◌, length, map, filter, take, drop, is_some, Option, Some, None, option_map, Result, Ok, Err, nat_le, if◌then◌else◌, codes, bytes_eq}
use Rattle.std.specs.List.{list_all}
use Rattle.std.specs.Result.{result_ok}
use Rattle.lk_elf.specs.Numbers.{em_x86_64, et_exec, ehdr_size, shdr_size, sht_progbits, sht_strtab}
use Rattle.lk_elf.specs.declared.file_header.Ehdr.{Ehdr}
use Rattle.lk_elf.specs.declared.section_header.Shdr.{Shdr}
use Rattle.lk_report.specs.declared.causes.Cause.{Cause}
use Rattle.lk_report.specs.declared.causes.Cause.TheVariants.{NoBase, BaseOpen, NotIncremental, OtherVersion}
use Rattle.lk_model.specs.Elf.{elf_of, lies_in, numbered, section_name, bytes_under}
use Rattle.lk_model.specs.Images.{seal, seal_offset}
use Rattle.lk_model.specs.InputsReading.{with_value}
use Rattle.lk_model.specs.Kinds.{has_magic, is_known_class}
use Rattle.lk_model.specs.ObjectChecks.{is_of_type, is_cut_off}
use Rattle.lk_model.specs.RecordedPlace.{has_name}
use Rattle.lk_model.specs.RecordsReading.{reads}
use Rattle.lk_model.specs.SectionKeys.{in_file}
use Rattle.lk_model.specs.Views.{Elf}
use Rattle.lk_model.specs.declared.layouts.Placement.{Placement}
use Rattle.lk_model.specs.declared.layouts.SectionRow.{SectionRow}
use Rattle.lk_model.specs.declared.records.Five.{Five}
use Rattle.lk_model.specs.declared.records.RecordFault.{RecordFault}
use Rattle.lk_model.specs.declared.records.RecordFault.TheVariants as fault
use Rattle.lk_model.specs.declared.records.Records.{Records}

-- ---- an image with its five sections

-- the first bytes are those of an executable file for this machine
abbrev pub begins_image : List ℕ → Ehdr → Bool
begins_image bytes header =
    has_magic bytes
    && nat_le ehdr_size (length bytes)
    && is_known_class header
    && header.e_machine == em_x86_64
    && header.e_type == et_exec

-- there is a table of section headers, with a section of their names
abbrev pub has_sections : Elf → Bool
has_sections elf =
    elf.header.e_shentsize == shdr_size
    && not (elf.header.e_shnum == 0)
    && lies_in elf.bytes elf.header.e_shoff (shdr_size * elf.header.e_shnum)
    && is_of_type elf sht_strtab elf.header.e_shstrndx

-- a section header with the section's name
abbrev pub Titled : Type 0
Titled = Option (List ℕ) × Shdr

-- the sections of a file from the first on, each with its name
abbrev pub titled : Elf → List Titled
titled elf = map (λ (row : ℕ × Shdr). (section_name elf row.0, row.1)) (numbered elf.sections)

-- a section has its bytes in the file, and a good name
abbrev pub is_good_section : Elf → Titled → Bool
is_good_section elf (name, header) = not (is_cut_off elf header) && is_some name

-- the bytes of the one section of a name, which has type PROGBITS
abbrev pub is_titled : List ℕ → Titled → Bool
is_titled name section = has_name name section.0

abbrev pub progbits_bytes : Elf → List Titled → Option (List ℕ)
progbits_bytes elf [] = None
progbits_bytes elf (section ∷ []) = if section.1.sh_type == sht_progbits then Some (bytes_under elf section.1) else None
progbits_bytes elf (a ∷ b ∷ more) = None

abbrev pub bytes_titled : Elf → List Titled → List ℕ → Option (List ℕ)
bytes_titled elf sections name = progbits_bytes elf (filter (is_titled name) sections)

-- the bytes of the five
abbrev pub five_titled : Elf → List Titled → Option Five
five_titled elf sections =
    with_value (bytes_titled elf sections (codes ".gnu_incremental_inputs")) (λ inputs.
    with_value (bytes_titled elf sections (codes ".gnu_incremental_symtab")) (λ symtab.
    with_value (bytes_titled elf sections (codes ".gnu_incremental_relocs")) (λ relocs.
    with_value (bytes_titled elf sections (codes ".gnu_incremental_got_plt")) (λ got_plt.
    option_map
    (λ strtab. record { inputs = inputs; symtab = symtab; relocs = relocs; got_plt = got_plt; strtab = strtab })
    (bytes_titled elf sections (codes ".gnu_incremental_strtab"))))))

-- the five of an executable file with a table of sections, each of them good
abbrev pub five_among : Elf → List Titled → Option Five
five_among elf sections = if list_all (is_good_section elf) sections then five_titled elf sections else None

-- the five record sections of an image; none where the file is no image with these five
unfoldable pub five_in : List ℕ → Option Five
five_in image =
    let elf = elf_of image in
    if begins_image image elf.header && has_sections elf then five_among elf (titled elf) else None

-- ---- what an image records

-- whether the room of a row ends in a file of so many bytes, where the file holds it
abbrev pub room_ends_in : ℕ → SectionRow → Bool
room_ends_in size row = not (in_file row.key.class) || nat_le (row.offset + row.room) size

-- the records as they are read, in a file of so many bytes, or why there are none
abbrev pub records_judged : ℕ → Result Records RecordFault → Result Records Cause
records_judged size (Err (fault.Bad section offset)) = Err NotIncremental
records_judged size (Err (fault.Version version)) = Err (OtherVersion version)
records_judged size (Err fault.NoMemory) = Err NotIncremental
records_judged size (Ok r) = if list_all (room_ends_in size) r.placement.sections then Ok r else Err NotIncremental

abbrev pub five_judged : ℕ → Option Five → Result Records Cause
five_judged size None = Err NotIncremental
five_judged size (Some five) = records_judged size (reads five)

-- what an image records, or why it is no incremental image of this version
unfoldable pub records_of_image : List ℕ → Result Records Cause
records_of_image image = five_judged (length image) (five_in image)

-- the placement that an image records, found in its own five sections
unfoldable pub placement_in : List ℕ → Option Placement
placement_in image = option_map (λ (r : Records). r.placement) (result_ok (records_of_image image))

-- ---- a base

-- the greatest length of an image: 512 MiB
abbrev pub greatest_image : ℕ
greatest_image = 2 ^ 29

-- whether the seal is at its place
abbrev pub is_sealed : List ℕ → Bool
is_sealed image = bytes_eq (take (length seal) (drop seal_offset image)) seal

-- the records of a file that is long enough for a seal
abbrev pub base_with : List ℕ → Result Records Cause
base_with image =
    if is_sealed image then (if nat_le (length image) greatest_image then records_of_image image else Err NotIncremental)
    else Err BaseOpen

-- the records of a base, or the first cause why a file, or none, is no base
unfoldable pub base_of : Option (List ℕ) → Result Records Cause
base_of None = Err NoBase
base_of (Some image) = if nat_le (length image) 4096 then Err NoBase else base_with image
