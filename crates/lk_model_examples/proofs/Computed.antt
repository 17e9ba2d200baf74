-- What the definitions give of words and files, opened whole, so that examples compute: the text of
-- the answer, and the image of the link, in the form that links have so far and with its whole tail.
use Rattle.std.specs.Prelude.{ℕ, List, [], map, Option, Some, None}
use Rattle.std.specs.Fmt.{digits}
use Rattle.lk_report.specs.FileMap.{FileMap}
use Rattle.lk_elf.specs.declared.relocation.Rela.{Rela}
use Rattle.lk_model.specs.declared.layouts.Placement.{Placement}
use Rattle.lk_model.specs.declared.records.Records.{Records}
use Rattle.lk_elf.specs.Fields.{number_of, bytes_of, num, signed64, unsigned64}
use Rattle.lk_elf.specs.Records.{ehdr_at, ehdr_bytes, shdr_at, shdr_bytes, phdr_at, phdr_bytes, sym_at, sym_bytes, rela_at, rela_bytes, dyn_at, dyn_bytes}
use Rattle.lk_report.specs.Texts.{hex_text, site_text, cause_text, word_text, usage_text, input_fault_text, fault_text, fault_line, limit_kind_name, waiting_text, outcome_text, text_of}
use Rattle.lk_model.specs.Adding.{added_inputs, added_of}
use Rattle.lk_model.specs.Answers.{command_answer, static_answer, accepted_command}
use Rattle.lk_model.specs.Bases.{five_in, records_of_image, placement_in, base_of}
use Rattle.lk_model.specs.Causes.{planned, update_overflow, cause_with, cause_of}
use Rattle.lk_model.specs.Changes.{changed_of, sections_before, sequences_changed, redone_with, redone_of}
use Rattle.lk_model.specs.CheckedInputs.{inputs_checked}
use Rattle.lk_model.specs.Dumps.{head_lines, section_line, piece_line_at, input_lines, name_line, reference_line, slot_line, entry_line, rest_lines, records_text}
use Rattle.lk_model.specs.DynamicEntries.{counted_entries}
use Rattle.lk_model.specs.DynamicNames.{dynamic_rows, dynamic_names}
use Rattle.lk_model.specs.DynamicRelocations.{rela_dyn_entries, rela_plt_entries, rela_dyn_bytes, rela_plt_bytes}
use Rattle.lk_model.specs.DynamicSection.{usual_dynamic_entries, dynamic_entries, dynamic_bytes}
use Rattle.lk_model.specs.DynamicSizes.{dynamic_table_sizes}
use Rattle.lk_model.specs.DynamicSlots.{slot_fills}
use Rattle.lk_model.specs.DynamicSymbols.{copy_entry, undefined_entry, dynsym_entries, dynsym_bytes}
use Rattle.lk_model.specs.DynamicTables.{dynamic_table_of_key}
use Rattle.lk_model.specs.DynamicTexts.{needed_names, dynamic_texts, interp_bytes}
use Rattle.lk_model.specs.Elf.{section_headers_of, symbols_of, elf_with, elf_under, elf_of, name_at, section_name, symbol_name}
use Rattle.lk_model.specs.FileHeader.{file_header, header_bytes}
use Rattle.lk_model.specs.Finding.{found_of}
use Rattle.lk_model.specs.FirstFit.{first_fit}
use Rattle.lk_model.specs.FullPlace.{extent_of, rows_of, piece_rows, full_place, memory_of}
use Rattle.lk_model.specs.Grammar.{whole_words, beginnings, meaning_of, phrases_from, phrase_checks, checks_after, put_word, with_input, options_of, command_of, usage_checks, grammar, output_of_words}
use Rattle.lk_model.specs.HashTable.{sysv_hash, hash_words, hash_bytes}
use Rattle.lk_model.specs.Holes.{holes_of, fill_bytes, hole_bytes}
use Rattle.lk_model.specs.ImageViews.{sections_with_pieces_of, view_in, sections_kept, view_of, View}
use Rattle.lk_model.specs.Images.{stretches_of, image_of}
use Rattle.lk_model.specs.Inputs.{candidates_of, path_of, words_from, missing_of, inputs_after, inputs_of, reads_as_shared, input_fault_in, input_faults_of}
use Rattle.lk_model.specs.InputsReading.{inputs_read}
use Rattle.lk_model.specs.InputsSection.{inputs_fields}
use Rattle.lk_model.specs.Kinds.{header_checks, kind_checks, kind_of}
use Rattle.lk_model.specs.LinkedBytes.{linked_bytes}
use Rattle.lk_model.specs.Links.{resolved_of}
use Rattle.lk_model.specs.Loading.{headers_in, loaded, tls_in}
use Rattle.lk_model.specs.Loads.{load_checks, entry_in, named_by, named_in, needed_in, dynamic_symbols_in, dynamic_relocations_in, load_refusal, LoadRefusal, LoadedSymbol}
use Rattle.lk_model.specs.NamesReading.{names_read}
use Rattle.lk_model.specs.NeedsOf.{needs_of}
use Rattle.lk_model.specs.ObjectChecks.{table_checks, section_checks_named, symbol_table_checks, symbol_checks_named, rela_checks, rela_section_checks, overlap_checks_after, group_checks, group_checks_after, object_checks, object_fault}
use Rattle.lk_model.specs.Objects.{relas_under, relocations_in, piece_bytes_in, is_terminator_where, piece_with, piece_named, pieces_in, global_with, globals_in, words_under, signature_of, groups_in, asks_exec_stack, summary_in, local_in}
use Rattle.lk_model.specs.Overflows.{overflow_faults}
use Rattle.lk_model.specs.Pieces.{class_of, common_names, output_name, is_piece, key_of, table_names, tail_names}
use Rattle.lk_model.specs.Placing.{staying_pieces, attempt_of}
use Rattle.lk_model.specs.PltEntries.{plt_bytes}
use Rattle.lk_model.specs.RecordFields.{spelled}
use Rattle.lk_model.specs.RecordRefusals.{is_good_row, is_good_place, is_good_piece, is_good_global}
use Rattle.lk_model.specs.RecordSections.{symtab_fields, relocs_fields, got_plt_fields, spelling}
use Rattle.lk_model.specs.RecordedPlace.{records_in, recorded_place}
use Rattle.lk_model.specs.RecordsOf.{records_of}
use Rattle.lk_model.specs.RecordsReading.{records_with, reads_this_version, reads}
use Rattle.lk_model.specs.ReferencesReading.{is_good_reference, references_read}
use Rattle.lk_model.specs.RelocationTypes.{relocation_types, relocation_type_of, width_of}
use Rattle.lk_model.specs.ResolveFaults.{faults_of, resolve_faults}
use Rattle.lk_model.specs.Resolving.{resolve}
use Rattle.lk_model.specs.Rewrites.{resolved_before, rewritten_of}
use Rattle.lk_model.specs.Rooms.{room_of, step_to, patched_room}
use Rattle.lk_model.specs.ScanFaults.{scan_faults}
use Rattle.lk_model.specs.SectionKeys.{is_patched, fill_kind, header_type}
use Rattle.lk_model.specs.SectionOrder.{section_rank, in_order, table_sizes, section_keys}
use Rattle.lk_model.specs.Segments.{second_segment_end, third_segment_end, tls_segment, program_headers}
use Rattle.lk_model.specs.SharedChecks.{shared_header_checks, two_table_checks, shared_name_checks, soname_checks, shared_checks, shared_fault}
use Rattle.lk_model.specs.SharedObjects.{entries_under, shared_global, shared_globals_in, soname_of, shared_summary_in}
use Rattle.lk_model.specs.SlotUpdate.{updated_plt, updated_got, updated_slots}
use Rattle.lk_model.specs.SlotsReading.{is_good_made, slots_read}
use Rattle.lk_model.specs.Spans.{full_spans, update_spans}
use Rattle.lk_model.specs.Stretches.{laid_out}
use Rattle.lk_model.specs.SymbolEntries.{definition_entry, common_entry}
use Rattle.lk_model.specs.SymbolTable.{symbol_texts, imported_entry, made_entry, symtab_entries, symbol_table_bytes, symbol_names_bytes}
use Rattle.lk_model.specs.SymbolValues.{reference_value, reference_fits}
use Rattle.lk_model.specs.Tables.{table_of_key}
use Rattle.lk_model.specs.Tail.{record_parts, tail_parts, section_headers}
use Rattle.lk_model.specs.Texts.{table_bytes}
use Rattle.lk_model.specs.TextsReading.{texts_read}
use Rattle.lk_model.specs.Touched.{touched_spans, is_touched}
use Rattle.lk_model.specs.UpdateAnswers.{full_answer, full_answer_after, update_answer, reads_of, answer_by, answer}
use Rattle.lk_model.specs.UpdateInputs.{update_inputs_after, update_inputs, update_sited, update_resolved, update_scan_faults}
use Rattle.lk_model.specs.UpdatePlace.{attempt_causes, update_place_with, update_place}
use Rattle.lk_model.specs.WholeLinks.{whole_stretches_of, whole_image_of}
use Rattle.lk_model.specs.WholeTail.{whole_parts}
use Rattle.lk_model.specs.Winners.{winner_of}

-- the text of the answer of a static link
unfoldable pub static_said_of : List (List ℕ) → FileMap → List ℕ
unfolding digits number_of bytes_of num signed64 unsigned64 ehdr_at ehdr_bytes shdr_at shdr_bytes phdr_at phdr_bytes sym_at sym_bytes rela_at rela_bytes dyn_at dyn_bytes hex_text site_text cause_text word_text usage_text input_fault_text fault_text fault_line limit_kind_name waiting_text outcome_text text_of added_inputs added_of command_answer static_answer five_in records_of_image placement_in base_of planned update_overflow cause_with cause_of changed_of sections_before sequences_changed redone_with redone_of inputs_checked head_lines section_line piece_line_at input_lines name_line reference_line slot_line entry_line rest_lines records_text counted_entries dynamic_rows dynamic_names rela_dyn_entries rela_plt_entries rela_dyn_bytes rela_plt_bytes usual_dynamic_entries dynamic_entries dynamic_bytes dynamic_table_sizes slot_fills copy_entry undefined_entry dynsym_entries dynsym_bytes dynamic_table_of_key needed_names dynamic_texts interp_bytes section_headers_of symbols_of elf_with elf_under elf_of name_at section_name symbol_name file_header header_bytes found_of first_fit extent_of rows_of piece_rows full_place memory_of whole_words beginnings meaning_of phrases_from phrase_checks checks_after put_word with_input options_of command_of usage_checks grammar output_of_words sysv_hash hash_words hash_bytes holes_of fill_bytes hole_bytes sections_with_pieces_of view_in sections_kept view_of stretches_of image_of candidates_of path_of words_from missing_of inputs_after inputs_of reads_as_shared input_fault_in input_faults_of inputs_read inputs_fields header_checks kind_checks kind_of linked_bytes resolved_of headers_in loaded tls_in load_checks entry_in named_by named_in needed_in dynamic_symbols_in dynamic_relocations_in load_refusal names_read needs_of table_checks section_checks_named symbol_table_checks symbol_checks_named rela_checks rela_section_checks overlap_checks_after group_checks group_checks_after object_checks object_fault relas_under relocations_in piece_bytes_in is_terminator_where piece_with piece_named pieces_in global_with globals_in words_under signature_of groups_in asks_exec_stack summary_in local_in overflow_faults class_of common_names output_name is_piece key_of table_names tail_names staying_pieces attempt_of plt_bytes spelled is_good_row is_good_place is_good_piece is_good_global symtab_fields relocs_fields got_plt_fields spelling records_in recorded_place records_of records_with reads_this_version reads is_good_reference references_read relocation_types relocation_type_of width_of faults_of resolve_faults resolve resolved_before rewritten_of room_of step_to patched_room scan_faults is_patched fill_kind header_type section_rank in_order table_sizes section_keys second_segment_end third_segment_end tls_segment program_headers shared_header_checks two_table_checks shared_name_checks soname_checks shared_checks shared_fault entries_under shared_global shared_globals_in soname_of shared_summary_in updated_plt updated_got updated_slots is_good_made slots_read full_spans update_spans laid_out definition_entry common_entry symbol_texts imported_entry made_entry symtab_entries symbol_table_bytes symbol_names_bytes reference_value reference_fits table_of_key record_parts tail_parts section_headers table_bytes texts_read touched_spans is_touched full_answer full_answer_after update_answer reads_of answer_by answer update_inputs_after update_inputs update_sited update_resolved update_scan_faults attempt_causes update_place_with update_place whole_stretches_of whole_image_of whole_parts winner_of
static_said_of words files = text_of (static_answer words files)

-- the image of the link of words that are accepted
unfoldable pub linked_of : List (List ℕ) → FileMap → List ℕ
unfolding number_of bytes_of num signed64 unsigned64 ehdr_at ehdr_bytes shdr_at shdr_bytes phdr_at phdr_bytes sym_at sym_bytes rela_at rela_bytes dyn_at dyn_bytes hex_text site_text cause_text word_text usage_text input_fault_text fault_text fault_line limit_kind_name waiting_text outcome_text text_of added_inputs added_of command_answer static_answer five_in records_of_image placement_in base_of planned update_overflow cause_with cause_of changed_of sections_before sequences_changed redone_with redone_of inputs_checked head_lines section_line piece_line_at input_lines name_line reference_line slot_line entry_line rest_lines records_text counted_entries dynamic_rows dynamic_names rela_dyn_entries rela_plt_entries rela_dyn_bytes rela_plt_bytes usual_dynamic_entries dynamic_entries dynamic_bytes dynamic_table_sizes slot_fills copy_entry undefined_entry dynsym_entries dynsym_bytes dynamic_table_of_key needed_names dynamic_texts interp_bytes section_headers_of symbols_of elf_with elf_under elf_of name_at section_name symbol_name file_header header_bytes found_of first_fit extent_of rows_of piece_rows full_place memory_of whole_words beginnings meaning_of phrases_from phrase_checks checks_after put_word with_input options_of command_of usage_checks grammar output_of_words sysv_hash hash_words hash_bytes holes_of fill_bytes hole_bytes sections_with_pieces_of view_in sections_kept view_of stretches_of image_of candidates_of path_of words_from missing_of inputs_after inputs_of reads_as_shared input_fault_in input_faults_of inputs_read inputs_fields header_checks kind_checks kind_of linked_bytes resolved_of headers_in loaded tls_in load_checks entry_in named_by named_in needed_in dynamic_symbols_in dynamic_relocations_in load_refusal names_read needs_of table_checks section_checks_named symbol_table_checks symbol_checks_named rela_checks rela_section_checks overlap_checks_after group_checks group_checks_after object_checks object_fault relas_under relocations_in piece_bytes_in is_terminator_where piece_with piece_named pieces_in global_with globals_in words_under signature_of groups_in asks_exec_stack summary_in local_in overflow_faults class_of common_names output_name is_piece key_of table_names tail_names staying_pieces attempt_of plt_bytes spelled is_good_row is_good_place is_good_piece is_good_global symtab_fields relocs_fields got_plt_fields spelling records_in recorded_place records_of records_with reads_this_version reads is_good_reference references_read relocation_types relocation_type_of width_of faults_of resolve_faults resolve resolved_before rewritten_of room_of step_to patched_room scan_faults is_patched fill_kind header_type section_rank in_order table_sizes section_keys second_segment_end third_segment_end tls_segment program_headers shared_header_checks two_table_checks shared_name_checks soname_checks shared_checks shared_fault entries_under shared_global shared_globals_in soname_of shared_summary_in updated_plt updated_got updated_slots is_good_made slots_read full_spans update_spans laid_out definition_entry common_entry symbol_texts imported_entry made_entry symtab_entries symbol_table_bytes symbol_names_bytes reference_value reference_fits table_of_key record_parts tail_parts section_headers table_bytes texts_read touched_spans is_touched full_answer full_answer_after update_answer reads_of answer_by answer update_inputs_after update_inputs update_sited update_resolved update_scan_faults attempt_causes update_place_with update_place whole_stretches_of whole_image_of whole_parts winner_of
linked_of words files =
    elim (accepted_command words) [ None ↦ [] | Some c ↦ (let r = resolved_of c files in image_of r (full_place r)) ]

-- its placement
unfoldable pub placed_of : List (List ℕ) → FileMap → Option Placement
unfolding number_of bytes_of num signed64 unsigned64 ehdr_at ehdr_bytes shdr_at shdr_bytes phdr_at phdr_bytes sym_at sym_bytes rela_at rela_bytes dyn_at dyn_bytes hex_text site_text cause_text word_text usage_text input_fault_text fault_text fault_line limit_kind_name waiting_text outcome_text text_of added_inputs added_of command_answer static_answer five_in records_of_image placement_in base_of planned update_overflow cause_with cause_of changed_of sections_before sequences_changed redone_with redone_of inputs_checked head_lines section_line piece_line_at input_lines name_line reference_line slot_line entry_line rest_lines records_text counted_entries dynamic_rows dynamic_names rela_dyn_entries rela_plt_entries rela_dyn_bytes rela_plt_bytes usual_dynamic_entries dynamic_entries dynamic_bytes dynamic_table_sizes slot_fills copy_entry undefined_entry dynsym_entries dynsym_bytes dynamic_table_of_key needed_names dynamic_texts interp_bytes section_headers_of symbols_of elf_with elf_under elf_of name_at section_name symbol_name file_header header_bytes found_of first_fit extent_of rows_of piece_rows full_place memory_of whole_words beginnings meaning_of phrases_from phrase_checks checks_after put_word with_input options_of command_of usage_checks grammar output_of_words sysv_hash hash_words hash_bytes holes_of fill_bytes hole_bytes sections_with_pieces_of view_in sections_kept view_of stretches_of image_of candidates_of path_of words_from missing_of inputs_after inputs_of reads_as_shared input_fault_in input_faults_of inputs_read inputs_fields header_checks kind_checks kind_of linked_bytes resolved_of headers_in loaded tls_in load_checks entry_in named_by named_in needed_in dynamic_symbols_in dynamic_relocations_in load_refusal names_read needs_of table_checks section_checks_named symbol_table_checks symbol_checks_named rela_checks rela_section_checks overlap_checks_after group_checks group_checks_after object_checks object_fault relas_under relocations_in piece_bytes_in is_terminator_where piece_with piece_named pieces_in global_with globals_in words_under signature_of groups_in asks_exec_stack summary_in local_in overflow_faults class_of common_names output_name is_piece key_of table_names tail_names staying_pieces attempt_of plt_bytes spelled is_good_row is_good_place is_good_piece is_good_global symtab_fields relocs_fields got_plt_fields spelling records_in recorded_place records_of records_with reads_this_version reads is_good_reference references_read relocation_types relocation_type_of width_of faults_of resolve_faults resolve resolved_before rewritten_of room_of step_to patched_room scan_faults is_patched fill_kind header_type section_rank in_order table_sizes section_keys second_segment_end third_segment_end tls_segment program_headers shared_header_checks two_table_checks shared_name_checks soname_checks shared_checks shared_fault entries_under shared_global shared_globals_in soname_of shared_summary_in updated_plt updated_got updated_slots is_good_made slots_read full_spans update_spans laid_out definition_entry common_entry symbol_texts imported_entry made_entry symtab_entries symbol_table_bytes symbol_names_bytes reference_value reference_fits table_of_key record_parts tail_parts section_headers table_bytes texts_read touched_spans is_touched full_answer full_answer_after update_answer reads_of answer_by answer update_inputs_after update_inputs update_sited update_resolved update_scan_faults attempt_causes update_place_with update_place whole_stretches_of whole_image_of whole_parts winner_of
placed_of words files = elim (accepted_command words) [ None ↦ None | Some c ↦ Some (full_place (resolved_of c files)) ]

-- the image with its whole tail
unfoldable pub whole_linked_of : List (List ℕ) → FileMap → List ℕ
unfolding number_of bytes_of num signed64 unsigned64 ehdr_at ehdr_bytes shdr_at shdr_bytes phdr_at phdr_bytes sym_at sym_bytes rela_at rela_bytes dyn_at dyn_bytes hex_text site_text cause_text word_text usage_text input_fault_text fault_text fault_line limit_kind_name waiting_text outcome_text text_of added_inputs added_of command_answer static_answer five_in records_of_image placement_in base_of planned update_overflow cause_with cause_of changed_of sections_before sequences_changed redone_with redone_of inputs_checked head_lines section_line piece_line_at input_lines name_line reference_line slot_line entry_line rest_lines records_text counted_entries dynamic_rows dynamic_names rela_dyn_entries rela_plt_entries rela_dyn_bytes rela_plt_bytes usual_dynamic_entries dynamic_entries dynamic_bytes dynamic_table_sizes slot_fills copy_entry undefined_entry dynsym_entries dynsym_bytes dynamic_table_of_key needed_names dynamic_texts interp_bytes section_headers_of symbols_of elf_with elf_under elf_of name_at section_name symbol_name file_header header_bytes found_of first_fit extent_of rows_of piece_rows full_place memory_of whole_words beginnings meaning_of phrases_from phrase_checks checks_after put_word with_input options_of command_of usage_checks grammar output_of_words sysv_hash hash_words hash_bytes holes_of fill_bytes hole_bytes sections_with_pieces_of view_in sections_kept view_of stretches_of image_of candidates_of path_of words_from missing_of inputs_after inputs_of reads_as_shared input_fault_in input_faults_of inputs_read inputs_fields header_checks kind_checks kind_of linked_bytes resolved_of headers_in loaded tls_in load_checks entry_in named_by named_in needed_in dynamic_symbols_in dynamic_relocations_in load_refusal names_read needs_of table_checks section_checks_named symbol_table_checks symbol_checks_named rela_checks rela_section_checks overlap_checks_after group_checks group_checks_after object_checks object_fault relas_under relocations_in piece_bytes_in is_terminator_where piece_with piece_named pieces_in global_with globals_in words_under signature_of groups_in asks_exec_stack summary_in local_in overflow_faults class_of common_names output_name is_piece key_of table_names tail_names staying_pieces attempt_of plt_bytes spelled is_good_row is_good_place is_good_piece is_good_global symtab_fields relocs_fields got_plt_fields spelling records_in recorded_place records_of records_with reads_this_version reads is_good_reference references_read relocation_types relocation_type_of width_of faults_of resolve_faults resolve resolved_before rewritten_of room_of step_to patched_room scan_faults is_patched fill_kind header_type section_rank in_order table_sizes section_keys second_segment_end third_segment_end tls_segment program_headers shared_header_checks two_table_checks shared_name_checks soname_checks shared_checks shared_fault entries_under shared_global shared_globals_in soname_of shared_summary_in updated_plt updated_got updated_slots is_good_made slots_read full_spans update_spans laid_out definition_entry common_entry symbol_texts imported_entry made_entry symtab_entries symbol_table_bytes symbol_names_bytes reference_value reference_fits table_of_key record_parts tail_parts section_headers table_bytes texts_read touched_spans is_touched full_answer full_answer_after update_answer reads_of answer_by answer update_inputs_after update_inputs update_sited update_resolved update_scan_faults attempt_causes update_place_with update_place whole_stretches_of whole_image_of whole_parts winner_of
whole_linked_of words files =
    elim (accepted_command words) [ None ↦ [] | Some c ↦ (let r = resolved_of c files in whole_image_of r (full_place r)) ]

-- the placement that such an image records
unfoldable pub recorded_of : List ℕ → Option Placement
unfolding number_of bytes_of num signed64 unsigned64 ehdr_at ehdr_bytes shdr_at shdr_bytes phdr_at phdr_bytes sym_at sym_bytes rela_at rela_bytes dyn_at dyn_bytes hex_text site_text cause_text word_text usage_text input_fault_text fault_text fault_line limit_kind_name waiting_text outcome_text text_of added_inputs added_of command_answer static_answer five_in records_of_image placement_in base_of planned update_overflow cause_with cause_of changed_of sections_before sequences_changed redone_with redone_of inputs_checked head_lines section_line piece_line_at input_lines name_line reference_line slot_line entry_line rest_lines records_text counted_entries dynamic_rows dynamic_names rela_dyn_entries rela_plt_entries rela_dyn_bytes rela_plt_bytes usual_dynamic_entries dynamic_entries dynamic_bytes dynamic_table_sizes slot_fills copy_entry undefined_entry dynsym_entries dynsym_bytes dynamic_table_of_key needed_names dynamic_texts interp_bytes section_headers_of symbols_of elf_with elf_under elf_of name_at section_name symbol_name file_header header_bytes found_of first_fit extent_of rows_of piece_rows full_place memory_of whole_words beginnings meaning_of phrases_from phrase_checks checks_after put_word with_input options_of command_of usage_checks grammar output_of_words sysv_hash hash_words hash_bytes holes_of fill_bytes hole_bytes sections_with_pieces_of view_in sections_kept view_of stretches_of image_of candidates_of path_of words_from missing_of inputs_after inputs_of reads_as_shared input_fault_in input_faults_of inputs_read inputs_fields header_checks kind_checks kind_of linked_bytes resolved_of headers_in loaded tls_in load_checks entry_in named_by named_in needed_in dynamic_symbols_in dynamic_relocations_in load_refusal names_read needs_of table_checks section_checks_named symbol_table_checks symbol_checks_named rela_checks rela_section_checks overlap_checks_after group_checks group_checks_after object_checks object_fault relas_under relocations_in piece_bytes_in is_terminator_where piece_with piece_named pieces_in global_with globals_in words_under signature_of groups_in asks_exec_stack summary_in local_in overflow_faults class_of common_names output_name is_piece key_of table_names tail_names staying_pieces attempt_of plt_bytes spelled is_good_row is_good_place is_good_piece is_good_global symtab_fields relocs_fields got_plt_fields spelling records_in recorded_place records_of records_with reads_this_version reads is_good_reference references_read relocation_types relocation_type_of width_of faults_of resolve_faults resolve resolved_before rewritten_of room_of step_to patched_room scan_faults is_patched fill_kind header_type section_rank in_order table_sizes section_keys second_segment_end third_segment_end tls_segment program_headers shared_header_checks two_table_checks shared_name_checks soname_checks shared_checks shared_fault entries_under shared_global shared_globals_in soname_of shared_summary_in updated_plt updated_got updated_slots is_good_made slots_read full_spans update_spans laid_out definition_entry common_entry symbol_texts imported_entry made_entry symtab_entries symbol_table_bytes symbol_names_bytes reference_value reference_fits table_of_key record_parts tail_parts section_headers table_bytes texts_read touched_spans is_touched full_answer full_answer_after update_answer reads_of answer_by answer update_inputs_after update_inputs update_sited update_resolved update_scan_faults attempt_causes update_place_with update_place whole_stretches_of whole_image_of whole_parts winner_of
recorded_of image = placement_in image

-- the text of the answer in all modes, where the output's file holds these bytes
unfoldable pub answered_of : List (List ℕ) → FileMap → Option (List ℕ) → List ℕ
unfolding digits number_of bytes_of num signed64 unsigned64 ehdr_at ehdr_bytes shdr_at shdr_bytes phdr_at phdr_bytes sym_at sym_bytes rela_at rela_bytes dyn_at dyn_bytes hex_text site_text cause_text word_text usage_text input_fault_text fault_text fault_line limit_kind_name waiting_text outcome_text text_of added_inputs added_of command_answer static_answer five_in records_of_image placement_in base_of planned update_overflow cause_with cause_of changed_of sections_before sequences_changed redone_with redone_of inputs_checked head_lines section_line piece_line_at input_lines name_line reference_line slot_line entry_line rest_lines records_text counted_entries dynamic_rows dynamic_names rela_dyn_entries rela_plt_entries rela_dyn_bytes rela_plt_bytes usual_dynamic_entries dynamic_entries dynamic_bytes dynamic_table_sizes slot_fills copy_entry undefined_entry dynsym_entries dynsym_bytes dynamic_table_of_key needed_names dynamic_texts interp_bytes section_headers_of symbols_of elf_with elf_under elf_of name_at section_name symbol_name file_header header_bytes found_of first_fit extent_of rows_of piece_rows full_place memory_of whole_words beginnings meaning_of phrases_from phrase_checks checks_after put_word with_input options_of command_of usage_checks grammar output_of_words sysv_hash hash_words hash_bytes holes_of fill_bytes hole_bytes sections_with_pieces_of view_in sections_kept view_of stretches_of image_of candidates_of path_of words_from missing_of inputs_after inputs_of reads_as_shared input_fault_in input_faults_of inputs_read inputs_fields header_checks kind_checks kind_of linked_bytes resolved_of headers_in loaded tls_in load_checks entry_in named_by named_in needed_in dynamic_symbols_in dynamic_relocations_in load_refusal names_read needs_of table_checks section_checks_named symbol_table_checks symbol_checks_named rela_checks rela_section_checks overlap_checks_after group_checks group_checks_after object_checks object_fault relas_under relocations_in piece_bytes_in is_terminator_where piece_with piece_named pieces_in global_with globals_in words_under signature_of groups_in asks_exec_stack summary_in local_in overflow_faults class_of common_names output_name is_piece key_of table_names tail_names staying_pieces attempt_of plt_bytes spelled is_good_row is_good_place is_good_piece is_good_global symtab_fields relocs_fields got_plt_fields spelling records_in recorded_place records_of records_with reads_this_version reads is_good_reference references_read relocation_types relocation_type_of width_of faults_of resolve_faults resolve resolved_before rewritten_of room_of step_to patched_room scan_faults is_patched fill_kind header_type section_rank in_order table_sizes section_keys second_segment_end third_segment_end tls_segment program_headers shared_header_checks two_table_checks shared_name_checks soname_checks shared_checks shared_fault entries_under shared_global shared_globals_in soname_of shared_summary_in updated_plt updated_got updated_slots is_good_made slots_read full_spans update_spans laid_out definition_entry common_entry symbol_texts imported_entry made_entry symtab_entries symbol_table_bytes symbol_names_bytes reference_value reference_fits table_of_key record_parts tail_parts section_headers table_bytes texts_read touched_spans is_touched full_answer full_answer_after update_answer reads_of answer_by answer update_inputs_after update_inputs update_sited update_resolved update_scan_faults attempt_causes update_place_with update_place whole_stretches_of whole_image_of whole_parts winner_of
answered_of words files out = text_of (answer words files out)

-- what a link of words that are accepted records, where everything is placed anew
unfoldable pub records_anew : List (List ℕ) → FileMap → Option Records
unfolding number_of bytes_of num signed64 unsigned64 ehdr_at ehdr_bytes shdr_at shdr_bytes phdr_at phdr_bytes sym_at sym_bytes rela_at rela_bytes dyn_at dyn_bytes hex_text site_text cause_text word_text usage_text input_fault_text fault_text fault_line limit_kind_name waiting_text outcome_text text_of added_inputs added_of command_answer static_answer five_in records_of_image placement_in base_of planned update_overflow cause_with cause_of changed_of sections_before sequences_changed redone_with redone_of inputs_checked head_lines section_line piece_line_at input_lines name_line reference_line slot_line entry_line rest_lines records_text counted_entries dynamic_rows dynamic_names rela_dyn_entries rela_plt_entries rela_dyn_bytes rela_plt_bytes usual_dynamic_entries dynamic_entries dynamic_bytes dynamic_table_sizes slot_fills copy_entry undefined_entry dynsym_entries dynsym_bytes dynamic_table_of_key needed_names dynamic_texts interp_bytes section_headers_of symbols_of elf_with elf_under elf_of name_at section_name symbol_name file_header header_bytes found_of first_fit extent_of rows_of piece_rows full_place memory_of whole_words beginnings meaning_of phrases_from phrase_checks checks_after put_word with_input options_of command_of usage_checks grammar output_of_words sysv_hash hash_words hash_bytes holes_of fill_bytes hole_bytes sections_with_pieces_of view_in sections_kept view_of stretches_of image_of candidates_of path_of words_from missing_of inputs_after inputs_of reads_as_shared input_fault_in input_faults_of inputs_read inputs_fields header_checks kind_checks kind_of linked_bytes resolved_of headers_in loaded tls_in load_checks entry_in named_by named_in needed_in dynamic_symbols_in dynamic_relocations_in load_refusal names_read needs_of table_checks section_checks_named symbol_table_checks symbol_checks_named rela_checks rela_section_checks overlap_checks_after group_checks group_checks_after object_checks object_fault relas_under relocations_in piece_bytes_in is_terminator_where piece_with piece_named pieces_in global_with globals_in words_under signature_of groups_in asks_exec_stack summary_in local_in overflow_faults class_of common_names output_name is_piece key_of table_names tail_names staying_pieces attempt_of plt_bytes spelled is_good_row is_good_place is_good_piece is_good_global symtab_fields relocs_fields got_plt_fields spelling records_in recorded_place records_of records_with reads_this_version reads is_good_reference references_read relocation_types relocation_type_of width_of faults_of resolve_faults resolve resolved_before rewritten_of room_of step_to patched_room scan_faults is_patched fill_kind header_type section_rank in_order table_sizes section_keys second_segment_end third_segment_end tls_segment program_headers shared_header_checks two_table_checks shared_name_checks soname_checks shared_checks shared_fault entries_under shared_global shared_globals_in soname_of shared_summary_in updated_plt updated_got updated_slots is_good_made slots_read full_spans update_spans laid_out definition_entry common_entry symbol_texts imported_entry made_entry symtab_entries symbol_table_bytes symbol_names_bytes reference_value reference_fits table_of_key record_parts tail_parts section_headers table_bytes texts_read touched_spans is_touched full_answer full_answer_after update_answer reads_of answer_by answer update_inputs_after update_inputs update_sited update_resolved update_scan_faults attempt_causes update_place_with update_place whole_stretches_of whole_image_of whole_parts winner_of
records_anew words files =
    elim (accepted_command words) [ None ↦ None | Some c ↦ (let r = resolved_of c files in Some (records_of r (full_place r))) ]

-- what a loader finds in an image: whether it refuses it, the shared objects that it needs, the names
-- and values of its dynamic symbols, and the types and places of its dynamic relocations
unfoldable pub refusal_of : List ℕ → Option LoadRefusal
unfolding number_of bytes_of num signed64 unsigned64 ehdr_at ehdr_bytes shdr_at shdr_bytes phdr_at phdr_bytes sym_at sym_bytes rela_at rela_bytes dyn_at dyn_bytes hex_text site_text cause_text word_text usage_text input_fault_text fault_text fault_line limit_kind_name waiting_text outcome_text text_of added_inputs added_of command_answer static_answer five_in records_of_image placement_in base_of planned update_overflow cause_with cause_of changed_of sections_before sequences_changed redone_with redone_of inputs_checked head_lines section_line piece_line_at input_lines name_line reference_line slot_line entry_line rest_lines records_text counted_entries dynamic_rows dynamic_names rela_dyn_entries rela_plt_entries rela_dyn_bytes rela_plt_bytes usual_dynamic_entries dynamic_entries dynamic_bytes dynamic_table_sizes slot_fills copy_entry undefined_entry dynsym_entries dynsym_bytes dynamic_table_of_key needed_names dynamic_texts interp_bytes section_headers_of symbols_of elf_with elf_under elf_of name_at section_name symbol_name file_header header_bytes found_of first_fit extent_of rows_of piece_rows full_place memory_of whole_words beginnings meaning_of phrases_from phrase_checks checks_after put_word with_input options_of command_of usage_checks grammar output_of_words sysv_hash hash_words hash_bytes holes_of fill_bytes hole_bytes sections_with_pieces_of view_in sections_kept view_of stretches_of image_of candidates_of path_of words_from missing_of inputs_after inputs_of reads_as_shared input_fault_in input_faults_of inputs_read inputs_fields header_checks kind_checks kind_of linked_bytes resolved_of headers_in loaded tls_in load_checks entry_in named_by named_in needed_in dynamic_symbols_in dynamic_relocations_in load_refusal names_read needs_of table_checks section_checks_named symbol_table_checks symbol_checks_named rela_checks rela_section_checks overlap_checks_after group_checks group_checks_after object_checks object_fault relas_under relocations_in piece_bytes_in is_terminator_where piece_with piece_named pieces_in global_with globals_in words_under signature_of groups_in asks_exec_stack summary_in local_in overflow_faults class_of common_names output_name is_piece key_of table_names tail_names staying_pieces attempt_of plt_bytes spelled is_good_row is_good_place is_good_piece is_good_global symtab_fields relocs_fields got_plt_fields spelling records_in recorded_place records_of records_with reads_this_version reads is_good_reference references_read relocation_types relocation_type_of width_of faults_of resolve_faults resolve resolved_before rewritten_of room_of step_to patched_room scan_faults is_patched fill_kind header_type section_rank in_order table_sizes section_keys second_segment_end third_segment_end tls_segment program_headers shared_header_checks two_table_checks shared_name_checks soname_checks shared_checks shared_fault entries_under shared_global shared_globals_in soname_of shared_summary_in updated_plt updated_got updated_slots is_good_made slots_read full_spans update_spans laid_out definition_entry common_entry symbol_texts imported_entry made_entry symtab_entries symbol_table_bytes symbol_names_bytes reference_value reference_fits table_of_key record_parts tail_parts section_headers table_bytes texts_read touched_spans is_touched full_answer full_answer_after update_answer reads_of answer_by answer update_inputs_after update_inputs update_sited update_resolved update_scan_faults attempt_causes update_place_with update_place whole_stretches_of whole_image_of whole_parts winner_of
refusal_of image = load_refusal image

unfoldable pub needed_of : List ℕ → List (List ℕ)
unfolding number_of bytes_of num signed64 unsigned64 ehdr_at ehdr_bytes shdr_at shdr_bytes phdr_at phdr_bytes sym_at sym_bytes rela_at rela_bytes dyn_at dyn_bytes hex_text site_text cause_text word_text usage_text input_fault_text fault_text fault_line limit_kind_name waiting_text outcome_text text_of added_inputs added_of command_answer static_answer five_in records_of_image placement_in base_of planned update_overflow cause_with cause_of changed_of sections_before sequences_changed redone_with redone_of inputs_checked head_lines section_line piece_line_at input_lines name_line reference_line slot_line entry_line rest_lines records_text counted_entries dynamic_rows dynamic_names rela_dyn_entries rela_plt_entries rela_dyn_bytes rela_plt_bytes usual_dynamic_entries dynamic_entries dynamic_bytes dynamic_table_sizes slot_fills copy_entry undefined_entry dynsym_entries dynsym_bytes dynamic_table_of_key needed_names dynamic_texts interp_bytes section_headers_of symbols_of elf_with elf_under elf_of name_at section_name symbol_name file_header header_bytes found_of first_fit extent_of rows_of piece_rows full_place memory_of whole_words beginnings meaning_of phrases_from phrase_checks checks_after put_word with_input options_of command_of usage_checks grammar output_of_words sysv_hash hash_words hash_bytes holes_of fill_bytes hole_bytes sections_with_pieces_of view_in sections_kept view_of stretches_of image_of candidates_of path_of words_from missing_of inputs_after inputs_of reads_as_shared input_fault_in input_faults_of inputs_read inputs_fields header_checks kind_checks kind_of linked_bytes resolved_of headers_in loaded tls_in load_checks entry_in named_by named_in needed_in dynamic_symbols_in dynamic_relocations_in load_refusal names_read needs_of table_checks section_checks_named symbol_table_checks symbol_checks_named rela_checks rela_section_checks overlap_checks_after group_checks group_checks_after object_checks object_fault relas_under relocations_in piece_bytes_in is_terminator_where piece_with piece_named pieces_in global_with globals_in words_under signature_of groups_in asks_exec_stack summary_in local_in overflow_faults class_of common_names output_name is_piece key_of table_names tail_names staying_pieces attempt_of plt_bytes spelled is_good_row is_good_place is_good_piece is_good_global symtab_fields relocs_fields got_plt_fields spelling records_in recorded_place records_of records_with reads_this_version reads is_good_reference references_read relocation_types relocation_type_of width_of faults_of resolve_faults resolve resolved_before rewritten_of room_of step_to patched_room scan_faults is_patched fill_kind header_type section_rank in_order table_sizes section_keys second_segment_end third_segment_end tls_segment program_headers shared_header_checks two_table_checks shared_name_checks soname_checks shared_checks shared_fault entries_under shared_global shared_globals_in soname_of shared_summary_in updated_plt updated_got updated_slots is_good_made slots_read full_spans update_spans laid_out definition_entry common_entry symbol_texts imported_entry made_entry symtab_entries symbol_table_bytes symbol_names_bytes reference_value reference_fits table_of_key record_parts tail_parts section_headers table_bytes texts_read touched_spans is_touched full_answer full_answer_after update_answer reads_of answer_by answer update_inputs_after update_inputs update_sited update_resolved update_scan_faults attempt_causes update_place_with update_place whole_stretches_of whole_image_of whole_parts winner_of
needed_of image = needed_in image

unfoldable pub dynamic_symbols_of : List ℕ → List (List ℕ × ℕ)
unfolding number_of bytes_of num signed64 unsigned64 ehdr_at ehdr_bytes shdr_at shdr_bytes phdr_at phdr_bytes sym_at sym_bytes rela_at rela_bytes dyn_at dyn_bytes hex_text site_text cause_text word_text usage_text input_fault_text fault_text fault_line limit_kind_name waiting_text outcome_text text_of added_inputs added_of command_answer static_answer five_in records_of_image placement_in base_of planned update_overflow cause_with cause_of changed_of sections_before sequences_changed redone_with redone_of inputs_checked head_lines section_line piece_line_at input_lines name_line reference_line slot_line entry_line rest_lines records_text counted_entries dynamic_rows dynamic_names rela_dyn_entries rela_plt_entries rela_dyn_bytes rela_plt_bytes usual_dynamic_entries dynamic_entries dynamic_bytes dynamic_table_sizes slot_fills copy_entry undefined_entry dynsym_entries dynsym_bytes dynamic_table_of_key needed_names dynamic_texts interp_bytes section_headers_of symbols_of elf_with elf_under elf_of name_at section_name symbol_name file_header header_bytes found_of first_fit extent_of rows_of piece_rows full_place memory_of whole_words beginnings meaning_of phrases_from phrase_checks checks_after put_word with_input options_of command_of usage_checks grammar output_of_words sysv_hash hash_words hash_bytes holes_of fill_bytes hole_bytes sections_with_pieces_of view_in sections_kept view_of stretches_of image_of candidates_of path_of words_from missing_of inputs_after inputs_of reads_as_shared input_fault_in input_faults_of inputs_read inputs_fields header_checks kind_checks kind_of linked_bytes resolved_of headers_in loaded tls_in load_checks entry_in named_by named_in needed_in dynamic_symbols_in dynamic_relocations_in load_refusal names_read needs_of table_checks section_checks_named symbol_table_checks symbol_checks_named rela_checks rela_section_checks overlap_checks_after group_checks group_checks_after object_checks object_fault relas_under relocations_in piece_bytes_in is_terminator_where piece_with piece_named pieces_in global_with globals_in words_under signature_of groups_in asks_exec_stack summary_in local_in overflow_faults class_of common_names output_name is_piece key_of table_names tail_names staying_pieces attempt_of plt_bytes spelled is_good_row is_good_place is_good_piece is_good_global symtab_fields relocs_fields got_plt_fields spelling records_in recorded_place records_of records_with reads_this_version reads is_good_reference references_read relocation_types relocation_type_of width_of faults_of resolve_faults resolve resolved_before rewritten_of room_of step_to patched_room scan_faults is_patched fill_kind header_type section_rank in_order table_sizes section_keys second_segment_end third_segment_end tls_segment program_headers shared_header_checks two_table_checks shared_name_checks soname_checks shared_checks shared_fault entries_under shared_global shared_globals_in soname_of shared_summary_in updated_plt updated_got updated_slots is_good_made slots_read full_spans update_spans laid_out definition_entry common_entry symbol_texts imported_entry made_entry symtab_entries symbol_table_bytes symbol_names_bytes reference_value reference_fits table_of_key record_parts tail_parts section_headers table_bytes texts_read touched_spans is_touched full_answer full_answer_after update_answer reads_of answer_by answer update_inputs_after update_inputs update_sited update_resolved update_scan_faults attempt_causes update_place_with update_place whole_stretches_of whole_image_of whole_parts winner_of
dynamic_symbols_of image = map (λ (s : LoadedSymbol). (s.name, s.value)) (dynamic_symbols_in image)

unfoldable pub dynamic_fixes_of : List ℕ → List (ℕ × ℕ)
unfolding number_of bytes_of num signed64 unsigned64 ehdr_at ehdr_bytes shdr_at shdr_bytes phdr_at phdr_bytes sym_at sym_bytes rela_at rela_bytes dyn_at dyn_bytes hex_text site_text cause_text word_text usage_text input_fault_text fault_text fault_line limit_kind_name waiting_text outcome_text text_of added_inputs added_of command_answer static_answer five_in records_of_image placement_in base_of planned update_overflow cause_with cause_of changed_of sections_before sequences_changed redone_with redone_of inputs_checked head_lines section_line piece_line_at input_lines name_line reference_line slot_line entry_line rest_lines records_text counted_entries dynamic_rows dynamic_names rela_dyn_entries rela_plt_entries rela_dyn_bytes rela_plt_bytes usual_dynamic_entries dynamic_entries dynamic_bytes dynamic_table_sizes slot_fills copy_entry undefined_entry dynsym_entries dynsym_bytes dynamic_table_of_key needed_names dynamic_texts interp_bytes section_headers_of symbols_of elf_with elf_under elf_of name_at section_name symbol_name file_header header_bytes found_of first_fit extent_of rows_of piece_rows full_place memory_of whole_words beginnings meaning_of phrases_from phrase_checks checks_after put_word with_input options_of command_of usage_checks grammar output_of_words sysv_hash hash_words hash_bytes holes_of fill_bytes hole_bytes sections_with_pieces_of view_in sections_kept view_of stretches_of image_of candidates_of path_of words_from missing_of inputs_after inputs_of reads_as_shared input_fault_in input_faults_of inputs_read inputs_fields header_checks kind_checks kind_of linked_bytes resolved_of headers_in loaded tls_in load_checks entry_in named_by named_in needed_in dynamic_symbols_in dynamic_relocations_in load_refusal names_read needs_of table_checks section_checks_named symbol_table_checks symbol_checks_named rela_checks rela_section_checks overlap_checks_after group_checks group_checks_after object_checks object_fault relas_under relocations_in piece_bytes_in is_terminator_where piece_with piece_named pieces_in global_with globals_in words_under signature_of groups_in asks_exec_stack summary_in local_in overflow_faults class_of common_names output_name is_piece key_of table_names tail_names staying_pieces attempt_of plt_bytes spelled is_good_row is_good_place is_good_piece is_good_global symtab_fields relocs_fields got_plt_fields spelling records_in recorded_place records_of records_with reads_this_version reads is_good_reference references_read relocation_types relocation_type_of width_of faults_of resolve_faults resolve resolved_before rewritten_of room_of step_to patched_room scan_faults is_patched fill_kind header_type section_rank in_order table_sizes section_keys second_segment_end third_segment_end tls_segment program_headers shared_header_checks two_table_checks shared_name_checks soname_checks shared_checks shared_fault entries_under shared_global shared_globals_in soname_of shared_summary_in updated_plt updated_got updated_slots is_good_made slots_read full_spans update_spans laid_out definition_entry common_entry symbol_texts imported_entry made_entry symtab_entries symbol_table_bytes symbol_names_bytes reference_value reference_fits table_of_key record_parts tail_parts section_headers table_bytes texts_read touched_spans is_touched full_answer full_answer_after update_answer reads_of answer_by answer update_inputs_after update_inputs update_sited update_resolved update_scan_faults attempt_causes update_place_with update_place whole_stretches_of whole_image_of whole_parts winner_of
dynamic_fixes_of image = map (λ (r : Rela). (r.r_info, r.r_offset)) (dynamic_relocations_in image)

-- the view of an image, and that of the inputs of words that are accepted
unfoldable pub view_read : List ℕ → Option View
unfolding number_of bytes_of num signed64 unsigned64 ehdr_at ehdr_bytes shdr_at shdr_bytes phdr_at phdr_bytes sym_at sym_bytes rela_at rela_bytes dyn_at dyn_bytes hex_text site_text cause_text word_text usage_text input_fault_text fault_text fault_line limit_kind_name waiting_text outcome_text text_of added_inputs added_of command_answer static_answer five_in records_of_image placement_in base_of planned update_overflow cause_with cause_of changed_of sections_before sequences_changed redone_with redone_of inputs_checked head_lines section_line piece_line_at input_lines name_line reference_line slot_line entry_line rest_lines records_text counted_entries dynamic_rows dynamic_names rela_dyn_entries rela_plt_entries rela_dyn_bytes rela_plt_bytes usual_dynamic_entries dynamic_entries dynamic_bytes dynamic_table_sizes slot_fills copy_entry undefined_entry dynsym_entries dynsym_bytes dynamic_table_of_key needed_names dynamic_texts interp_bytes section_headers_of symbols_of elf_with elf_under elf_of name_at section_name symbol_name file_header header_bytes found_of first_fit extent_of rows_of piece_rows full_place memory_of whole_words beginnings meaning_of phrases_from phrase_checks checks_after put_word with_input options_of command_of usage_checks grammar output_of_words sysv_hash hash_words hash_bytes holes_of fill_bytes hole_bytes sections_with_pieces_of view_in sections_kept view_of stretches_of image_of candidates_of path_of words_from missing_of inputs_after inputs_of reads_as_shared input_fault_in input_faults_of inputs_read inputs_fields header_checks kind_checks kind_of linked_bytes resolved_of headers_in loaded tls_in load_checks entry_in named_by named_in needed_in dynamic_symbols_in dynamic_relocations_in load_refusal names_read needs_of table_checks section_checks_named symbol_table_checks symbol_checks_named rela_checks rela_section_checks overlap_checks_after group_checks group_checks_after object_checks object_fault relas_under relocations_in piece_bytes_in is_terminator_where piece_with piece_named pieces_in global_with globals_in words_under signature_of groups_in asks_exec_stack summary_in local_in overflow_faults class_of common_names output_name is_piece key_of table_names tail_names staying_pieces attempt_of plt_bytes spelled is_good_row is_good_place is_good_piece is_good_global symtab_fields relocs_fields got_plt_fields spelling records_in recorded_place records_of records_with reads_this_version reads is_good_reference references_read relocation_types relocation_type_of width_of faults_of resolve_faults resolve resolved_before rewritten_of room_of step_to patched_room scan_faults is_patched fill_kind header_type section_rank in_order table_sizes section_keys second_segment_end third_segment_end tls_segment program_headers shared_header_checks two_table_checks shared_name_checks soname_checks shared_checks shared_fault entries_under shared_global shared_globals_in soname_of shared_summary_in updated_plt updated_got updated_slots is_good_made slots_read full_spans update_spans laid_out definition_entry common_entry symbol_texts imported_entry made_entry symtab_entries symbol_table_bytes symbol_names_bytes reference_value reference_fits table_of_key record_parts tail_parts section_headers table_bytes texts_read touched_spans is_touched full_answer full_answer_after update_answer reads_of answer_by answer update_inputs_after update_inputs update_sited update_resolved update_scan_faults attempt_causes update_place_with update_place whole_stretches_of whole_image_of whole_parts winner_of
view_read image = view_in image

unfoldable pub view_linked : List (List ℕ) → FileMap → Option View
unfolding number_of bytes_of num signed64 unsigned64 ehdr_at ehdr_bytes shdr_at shdr_bytes phdr_at phdr_bytes sym_at sym_bytes rela_at rela_bytes dyn_at dyn_bytes hex_text site_text cause_text word_text usage_text input_fault_text fault_text fault_line limit_kind_name waiting_text outcome_text text_of added_inputs added_of command_answer static_answer five_in records_of_image placement_in base_of planned update_overflow cause_with cause_of changed_of sections_before sequences_changed redone_with redone_of inputs_checked head_lines section_line piece_line_at input_lines name_line reference_line slot_line entry_line rest_lines records_text counted_entries dynamic_rows dynamic_names rela_dyn_entries rela_plt_entries rela_dyn_bytes rela_plt_bytes usual_dynamic_entries dynamic_entries dynamic_bytes dynamic_table_sizes slot_fills copy_entry undefined_entry dynsym_entries dynsym_bytes dynamic_table_of_key needed_names dynamic_texts interp_bytes section_headers_of symbols_of elf_with elf_under elf_of name_at section_name symbol_name file_header header_bytes found_of first_fit extent_of rows_of piece_rows full_place memory_of whole_words beginnings meaning_of phrases_from phrase_checks checks_after put_word with_input options_of command_of usage_checks grammar output_of_words sysv_hash hash_words hash_bytes holes_of fill_bytes hole_bytes sections_with_pieces_of view_in sections_kept view_of stretches_of image_of candidates_of path_of words_from missing_of inputs_after inputs_of reads_as_shared input_fault_in input_faults_of inputs_read inputs_fields header_checks kind_checks kind_of linked_bytes resolved_of headers_in loaded tls_in load_checks entry_in named_by named_in needed_in dynamic_symbols_in dynamic_relocations_in load_refusal names_read needs_of table_checks section_checks_named symbol_table_checks symbol_checks_named rela_checks rela_section_checks overlap_checks_after group_checks group_checks_after object_checks object_fault relas_under relocations_in piece_bytes_in is_terminator_where piece_with piece_named pieces_in global_with globals_in words_under signature_of groups_in asks_exec_stack summary_in local_in overflow_faults class_of common_names output_name is_piece key_of table_names tail_names staying_pieces attempt_of plt_bytes spelled is_good_row is_good_place is_good_piece is_good_global symtab_fields relocs_fields got_plt_fields spelling records_in recorded_place records_of records_with reads_this_version reads is_good_reference references_read relocation_types relocation_type_of width_of faults_of resolve_faults resolve resolved_before rewritten_of room_of step_to patched_room scan_faults is_patched fill_kind header_type section_rank in_order table_sizes section_keys second_segment_end third_segment_end tls_segment program_headers shared_header_checks two_table_checks shared_name_checks soname_checks shared_checks shared_fault entries_under shared_global shared_globals_in soname_of shared_summary_in updated_plt updated_got updated_slots is_good_made slots_read full_spans update_spans laid_out definition_entry common_entry symbol_texts imported_entry made_entry symtab_entries symbol_table_bytes symbol_names_bytes reference_value reference_fits table_of_key record_parts tail_parts section_headers table_bytes texts_read touched_spans is_touched full_answer full_answer_after update_answer reads_of answer_by answer update_inputs_after update_inputs update_sited update_resolved update_scan_faults attempt_causes update_place_with update_place whole_stretches_of whole_image_of whole_parts winner_of
view_linked words files = elim (accepted_command words) [ None ↦ None | Some c ↦ Some (view_of (resolved_of c files)) ]
