-- Worked examples: records and the five sections that spell them, both ways; the law of the records on
-- them; and their text.
use Rattle.std.specs.Prelude.{◌≡◌, true, false, [], ◌∷◌, ◌++◌, length, take, Ok, codes, refl}
use Rattle.lk_model_examples.proofs.RecordCases.{smallest_records, smallest_five, larger_records, larger_five}
use Rattle.lk_model_examples.proofs.RecordsComputed.{spelled_of, read_of, text_of_records}
use Rattle.lk_elf.specs.Fields.{number_of, bytes_of, num, signed64, unsigned64}
use Rattle.lk_model.specs.CheckedInputs.{inputs_checked}
use Rattle.lk_model.specs.InputsSection.{inputs_fields}
use Rattle.lk_model.specs.NamesReading.{names_read}
use Rattle.lk_model.specs.Pieces.{common_names, output_name}
use Rattle.lk_model.specs.RecordFields.{spelled}
use Rattle.lk_model.specs.RecordRefusals.{is_good_row, is_good_place, is_good_piece, is_good_global}
use Rattle.lk_model.specs.RecordSections.{symtab_fields, relocs_fields, got_plt_fields, spelling}
use Rattle.lk_model.specs.RecordsLaw.{MeetsNoRefusal}
use Rattle.lk_model.specs.RecordsReading.{records_with, reads_this_version, reads}
use Rattle.lk_model.specs.ReferencesReading.{is_good_reference, references_read}
use Rattle.lk_model.specs.RelocationTypes.{relocation_types, relocation_type_of, width_of}
use Rattle.lk_model.specs.SlotsReading.{is_good_made, slots_read}
use Rattle.lk_model.specs.Texts.{table_bytes}
use Rattle.lk_model.specs.TextsReading.{texts_read}

-- the sections that spell the records of the smallest link
smallest_spelled : spelled_of smallest_records ≡ smallest_five
unfolding spelled_of
smallest_spelled = refl

-- their lengths
smallest_lengths :
    (length (spelled_of smallest_records).inputs ≡ 312)
    × (length (spelled_of smallest_records).symtab ≡ 16)
    × (length (spelled_of smallest_records).relocs ≡ 0)
    × (length (spelled_of smallest_records).got_plt ≡ 16)
    × (length (spelled_of smallest_records).strtab ≡ 32)
unfolding spelled_of
smallest_lengths = (refl, refl, refl, refl, refl)

-- the head of the inputs
smallest_head :
    take 32 (spelled_of smallest_records).inputs
    ≡ 1 ∷ 0 ∷ 0 ∷ 0 ∷ 0 ∷ 0 ∷ 0 ∷ 0 ∷ 1 ∷ 0 ∷ 0 ∷ 0 ∷ 0 ∷ 0 ∷ 0 ∷ 0 ∷ 0 ∷ 0 ∷ 0 ∷ 0 ∷ 10 ∷ 0 ∷ 0 ∷ 0 ∷ 1 ∷ 0 ∷ 0 ∷ 0 ∷ 3 ∷ 0 ∷ 0 ∷ 0 ∷ []
unfolding spelled_of
smallest_head = refl

-- the sections that spell the records of the larger link
larger_spelled : spelled_of larger_records ≡ larger_five
unfolding spelled_of
larger_spelled = refl

-- both are read back as what they were
smallest_read : read_of (spelled_of smallest_records) ≡ Ok smallest_records
unfolding spelled_of read_of
smallest_read = refl

larger_read : read_of (spelled_of larger_records) ≡ Ok larger_records
unfolding spelled_of read_of
larger_read = refl

-- the two lines of the short text
smallest_short : text_of_records true smallest_records ≡ codes "version 1\noptions flags 0 patch 10 entry _start\n"
unfolding text_of_records
smallest_short = refl

-- the lines of the long text
larger_text :
    text_of_records false larger_records
    ≡ codes "version 1\n"
    ++ codes "options flags 3 patch 10 entry _start\n"
    ++ codes "section .text class 1 addr 0x401000 size 0x40 room 0x40\n"
    ++ codes "section .got class 2 addr 0x402000 size 0x18 room 0x40\n"
    ++ codes "section .got.plt class 2 addr 0x402040 size 0x20 room 0x40\n"
    ++ codes "section .bss class 6 addr 0x402080 size 0x40 room 0x40\n"
    ++ codes "input a.o kind 1\n"
    ++ codes "piece 1 addr 0x401000 size 0x10\n"
    ++ codes "piece 2 addr 0x401010 size 0x4\n"
    ++ codes "input m1.o kind 2\n"
    ++ codes "piece 1 addr 0x40101c size 0x4\n"
    ++ codes "input m2.o kind 2\n"
    ++ codes "piece 1 addr 0x401014 size 0x8\n"
    ++ codes "input libc.so kind 4\n"
    ++ codes "name _start winner 1\n"
    ++ codes "name c winner 2\n"
    ++ codes "name f winner 3\n"
    ++ codes "name g winner 1\n"
    ++ codes "name puts winner 5\n"
    ++ codes "reference a.o:1+0x1 type 4 name puts\n"
    ++ codes "reference a.o:1+0x6 type 2 name f\n"
    ++ codes "reference a.o:1+0xb type 9 name puts\n"
    ++ codes "reference m2.o:1+0x1 type 4 name g\n"
    ++ codes "got 0 kind 1\n"
    ++ codes "got 1 kind 0\n"
    ++ codes "got 2 kind 2\n"
    ++ codes "plt 0 puts\n"
unfolding text_of_records
larger_text = refl

-- both meet no refusal, and are read back from what spells them
smallest_meets : MeetsNoRefusal smallest_records
unfolding number_of bytes_of num signed64 unsigned64 common_names output_name relocation_types relocation_type_of width_of inputs_fields symtab_fields relocs_fields got_plt_fields spelled spelling table_bytes is_good_row is_good_place is_good_piece is_good_global inputs_checked names_read is_good_reference references_read is_good_made slots_read texts_read records_with reads_this_version reads
smallest_meets = record { five = smallest_five; read = refl; short = refl; bytes = refl }

smallest_reads_back : reads (spelling smallest_records) ≡ Ok smallest_records
unfolding number_of bytes_of num signed64 unsigned64 common_names output_name relocation_types relocation_type_of width_of inputs_fields symtab_fields relocs_fields got_plt_fields spelled spelling table_bytes is_good_row is_good_place is_good_piece is_good_global inputs_checked names_read is_good_reference references_read is_good_made slots_read texts_read records_with reads_this_version reads
smallest_reads_back = refl

larger_meets : MeetsNoRefusal larger_records
unfolding number_of bytes_of num signed64 unsigned64 common_names output_name relocation_types relocation_type_of width_of inputs_fields symtab_fields relocs_fields got_plt_fields spelled spelling table_bytes is_good_row is_good_place is_good_piece is_good_global inputs_checked names_read is_good_reference references_read is_good_made slots_read texts_read records_with reads_this_version reads
larger_meets = record { five = larger_five; read = refl; short = refl; bytes = refl }

larger_reads_back : reads (spelling larger_records) ≡ Ok larger_records
unfolding number_of bytes_of num signed64 unsigned64 common_names output_name relocation_types relocation_type_of width_of inputs_fields symtab_fields relocs_fields got_plt_fields spelled spelling table_bytes is_good_row is_good_place is_good_piece is_good_global inputs_checked names_read is_good_reference references_read is_good_made slots_read texts_read records_with reads_this_version reads
larger_reads_back = refl
