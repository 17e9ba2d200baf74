-- What the definitions give of records and their sections, opened whole, so that examples compute.
use Rattle.std.specs.Prelude.{ℕ, Bool, List, Option, Result}
use Rattle.std.specs.Fmt.{digits}
use Rattle.lk_elf.specs.Fields.{number_of, bytes_of, num, signed64, unsigned64}
use Rattle.lk_elf.specs.Records.{ehdr_at, shdr_at, sym_at}
use Rattle.lk_report.specs.Texts.{hex_text, site_text}
use Rattle.lk_report.specs.declared.causes.Cause.{Cause}
use Rattle.lk_model.specs.Bases.{five_in, records_of_image, placement_in, base_of}
use Rattle.lk_model.specs.CheckedInputs.{inputs_checked}
use Rattle.lk_model.specs.Dumps.{head_lines, section_line, piece_line_at, input_lines, name_line, reference_line, slot_line, entry_line, rest_lines, records_text}
use Rattle.lk_model.specs.Elf.{section_headers_of, symbols_of, elf_with, elf_under, elf_of, name_at, section_name}
use Rattle.lk_model.specs.InputsSection.{inputs_fields}
use Rattle.lk_model.specs.NamesReading.{names_read}
use Rattle.lk_model.specs.Pieces.{common_names, output_name}
use Rattle.lk_model.specs.RecordFields.{spelled}
use Rattle.lk_model.specs.RecordRefusals.{is_good_row, is_good_place, is_good_piece, is_good_global}
use Rattle.lk_model.specs.RecordSections.{symtab_fields, relocs_fields, got_plt_fields, spelling}
use Rattle.lk_model.specs.RecordsReading.{records_with, reads_this_version, reads}
use Rattle.lk_model.specs.ReferencesReading.{is_good_reference, references_read}
use Rattle.lk_model.specs.RelocationTypes.{relocation_types, relocation_type_of, width_of}
use Rattle.lk_model.specs.SlotsReading.{is_good_made, slots_read}
use Rattle.lk_model.specs.Texts.{table_bytes}
use Rattle.lk_model.specs.TextsReading.{texts_read}
use Rattle.lk_model.specs.declared.layouts.Placement.{Placement}
use Rattle.lk_model.specs.declared.records.Five.{Five}
use Rattle.lk_model.specs.declared.records.RecordFault.{RecordFault}
use Rattle.lk_model.specs.declared.records.Records.{Records}

-- the sections that spell records
unfoldable pub spelled_of : Records → Five
unfolding bytes_of unsigned64 inputs_fields symtab_fields relocs_fields got_plt_fields spelled spelling table_bytes
spelled_of r = spelling r

-- what sections are read as
unfoldable pub read_of : Five → Result Records RecordFault
unfolding number_of num signed64 common_names output_name relocation_types relocation_type_of width_of is_good_row is_good_place is_good_piece is_good_global inputs_checked names_read is_good_reference references_read is_good_made slots_read texts_read records_with reads_this_version reads
read_of five = reads five

-- the text of records
unfoldable pub text_of_records : Bool → Records → List ℕ
unfolding digits hex_text site_text head_lines section_line piece_line_at input_lines name_line reference_line slot_line entry_line rest_lines records_text
text_of_records short r = records_text short r

-- the five sections of an image, its placement, and the records of a base
unfoldable pub five_found : List ℕ → Option Five
unfolding number_of num ehdr_at shdr_at sym_at section_headers_of symbols_of elf_with elf_under elf_of name_at section_name five_in
five_found image = five_in image

unfoldable pub place_found : List ℕ → Option Placement
unfolding number_of num signed64 common_names output_name relocation_types relocation_type_of width_of is_good_row is_good_place is_good_piece is_good_global inputs_checked names_read is_good_reference references_read is_good_made slots_read texts_read records_with reads_this_version reads ehdr_at shdr_at sym_at section_headers_of symbols_of elf_with elf_under elf_of name_at section_name five_in records_of_image placement_in
place_found image = placement_in image

unfoldable pub base_found : Option (List ℕ) → Result Records Cause
unfolding number_of num signed64 common_names output_name relocation_types relocation_type_of width_of is_good_row is_good_place is_good_piece is_good_global inputs_checked names_read is_good_reference references_read is_good_made slots_read texts_read records_with reads_this_version reads ehdr_at shdr_at sym_at section_headers_of symbols_of elf_with elf_under elf_of name_at section_name five_in records_of_image base_of
base_found base = base_of base
