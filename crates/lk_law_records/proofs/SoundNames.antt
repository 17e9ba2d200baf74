-- The pieces of an object without a fault are not named as the sections of records: a check refuses the
-- names of the tail.
use Rattle.std.specs.Prelude.{◌≡◌, ℕ, ◌==◌, true, false, ◌&&◌, ◌||◌, List, [], ◌++◌, codes, flat_map, Option, Some, None}
use Rattle.std.specs.List.{AllByRecursion}
use Rattle.std.specs.Str.{bytes_eq}
use Rattle.std.proofs.Common.{sym, subst, ap, ◌∙◌}
use Rattle.std.proofs.lemmas.Bool.{or_parts, or_from}
use Rattle.lk_elf.specs.declared.section_header.Shdr.{Shdr}
use Rattle.lk_report.specs.declared.faults.InputFault.{InputFault}
use Rattle.lk_model.specs.Checks.{first_fault, is_some_with}
use Rattle.lk_model.specs.Elf.{elf_of, numbered, section_name, symbol_table}
use Rattle.lk_model.specs.Kinds.{kind_checks}
use Rattle.lk_model.specs.ObjectChecks.{group_checks_after, is_unsupported, object_checks, object_fault, object_fault_after, overlap_checks, rela_section_checks, rela_sections, section_checks, section_checks_named, symbol_checks, symbol_table_checks, table_checks}
use Rattle.lk_model.specs.Objects.{group_sections, is_piece_in, pieces_in}
use Rattle.lk_model.specs.Pieces.{is_piece, is_table_name, is_tail_name, tail_names}
use Rattle.lk_model.specs.Views.{Elf}
use Rattle.lk_model.specs.declared.summaries.PieceInfo.{PieceInfo}
use Rattle.lk_law_records.specs.Recordable.{is_record_name}
use Rattle.lk_law_records.proofs.Lists.{all-found, none-any}
use Rattle.lk_law_records.proofs.NoFaults.{NoFault, all-false, none-both, none-each}
use Rattle.lk_law_records.proofs.ObjectFits.{IsPieceOf, found_piece, piece-found}

-- ---- the names of sections

sections-checked : (elf : Elf) → NoFault (object_checks elf) → AllByRecursion (λ (row : ℕ × Shdr). NoFault (section_checks elf row)) (numbered elf.sections)
unfolding object_checks
sections-checked elf none =
    let a = table_checks elf in
    let b = flat_map (section_checks elf) (numbered elf.sections) in
    let c = symbol_table_checks elf (symbol_table elf) in
    let d = symbol_checks elf (symbol_table elf) in
    let e = flat_map (rela_section_checks elf) (rela_sections elf) in
    let f = flat_map (λ (row : ℕ × Shdr). overlap_checks elf (is_piece_in elf row.0) row.0) (numbered elf.sections) in
    let g = group_checks_after elf [] (group_sections elf) in
    let one = (none-both (a ++ b ++ c ++ d ++ e ++ f) g none).0 in
    let two = (none-both (a ++ b ++ c ++ d ++ e) f one).0 in
    let three = (none-both (a ++ b ++ c ++ d) e two).0 in
    let four = (none-both (a ++ b ++ c) d three).0 in
    let five = (none-both (a ++ b) c four).0 in
    none-each (section_checks elf) (numbered elf.sections) (none-both a b five).1

no-fault : (bytes : List ℕ) → object_fault bytes ≡ None → NoFault (object_checks (elf_of bytes))
unfolding object_fault
no-fault bytes none = go (first_fault (kind_checks bytes)) none
  where
    go : (o : Option InputFault) → object_fault_after o bytes ≡ None → NoFault (object_checks (elf_of bytes))
    go None e = e
    go (Some f) e = absurd (cc)

unsupported-not : (elf : Elf) (n : ℕ) (h : Shdr) (name : Option (List ℕ)) → NoFault (section_checks_named elf n h name) → is_some_with (is_unsupported h) name ≡ false
unfolding section_checks_named
unsupported-not elf n h name none = (all-false (section_checks_named elf n h name) none).1.1.1.1.0

-- a name of the tail is none of a piece
supported-name : (h : Shdr) (name : List ℕ) → is_unsupported h name ≡ false → is_piece name h.sh_type h.sh_flags ≡ true → is_tail_name name ≡ false
supported-name h name none piece =
    let last = (or_parts (h.sh_type == 9 || h.sh_type == 18) (is_piece name h.sh_type h.sh_flags && (is_table_name name || is_tail_name name)) none).1 in
    let both : (is_table_name name || is_tail_name name) ≡ false = ap (λ b. b && (is_table_name name || is_tail_name name)) (sym piece) ∙ last in
    (or_parts (is_table_name name) (is_tail_name name) both).1

other-name : (name : List ℕ) → is_tail_name name ≡ false → is_record_name name ≡ false
unfolding tail_names
other-name name none =
    let each = none-any (bytes_eq name) tail_names none in
    or_from (bytes_eq name (codes ".gnu_incremental_inputs")) (bytes_eq name (codes ".gnu_incremental_strtab")) each.1.1.0 each.1.1.1.1.1.1.0

piece-other : (elf : Elf) (n : ℕ) (h : Shdr) (p : PieceInfo) → NoFault (section_checks_named elf n h (section_name elf n)) → IsPieceOf elf n h p → is_record_name p.name ≡ false
piece-other elf n h p none is =
    let named : NoFault (section_checks_named elf n h (Some p.name)) = subst (λ o. NoFault (section_checks_named elf n h o)) is.named none in
    other-name p.name (supported-name h p.name (unsupported-not elf n h (Some p.name) named) is.linked)

-- the pieces of an object without a fault
pub pieces-other : (bytes : List ℕ) → object_fault bytes ≡ None → AllByRecursion (λ (p : PieceInfo). is_record_name p.name ≡ false) (pieces_in (elf_of bytes))
unfolding pieces_in
pieces-other bytes none =
    let elf = elf_of bytes in
    all-found (λ (row : ℕ × Shdr). NoFault (section_checks elf row)) (λ (p : PieceInfo). is_record_name p.name ≡ false) (found_piece elf) (numbered elf.sections)
    (λ row own p e. piece-other elf row.0 row.1 p own (piece-found elf row.0 row.1 p e))
    (sections-checked elf (no-fault bytes none))
