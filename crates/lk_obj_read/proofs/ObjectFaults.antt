-- The first fault of an object by the first faults of its parts.
use Rattle.std.specs.Prelude.{◌≡◌, ◌<◌, ◌==◌, refl, ℕ, Bool, true, false, if◌then◌else◌, List, [], ◌∷◌, ◌++◌, flat_map, length, Option, Some, None, Ok, Err}
use Rattle.std.proofs.Common.{ap, append_assoc, subst, sym, ◌∙◌}
use Rattle.lk_elf.specs.Numbers.{et_rel, sht_symtab}
use Rattle.lk_elf.specs.Records.{ehdr_at}
use Rattle.lk_elf.specs.declared.file_header.Ehdr.{Ehdr}
use Rattle.lk_elf.specs.declared.section_header.Shdr.{Shdr}
use Rattle.lk_elf.specs.declared.symbol.Sym.{Sym}
use Rattle.lk_report.specs.declared.faults.InputFault.{InputFault}
use Rattle.lk_model.specs.Checks.{first_fault}
use Rattle.lk_model.specs.Elf.{elf_of, first_of_type, numbered, section_headers_of, symbol_table, symbols_of}
use Rattle.lk_model.specs.Kinds.{kind_checks, kind_of, kind_with}
use Rattle.lk_model.specs.ObjectChecks.{group_checks_after, object_checks, object_fault, object_fault_after, overlap_checks, rela_section_checks, rela_sections, section_checks, symbol_checks, symbol_table_checks, table_checks}
use Rattle.lk_model.specs.Objects.{group_sections, is_piece_in}
use Rattle.lk_model.specs.Views.{Elf}
use Rattle.lk_model.specs.declared.summaries.Kind.{Kind}
use Rattle.lk_model.specs.declared.summaries.Kind.TheVariants.{Object, Shared}
use Rattle.lk_obj_parts.specs.ElfViews.{elf_from}
use Rattle.lk_summary.proofs.KindsKnown.{after_kind, fault_of_kind, no_header}
use Rattle.lk_obj_read.specs.ObjectParts.{reference_half, table_half}
use Rattle.lk_obj_parts.proofs.SymbolsUnread.{elf_parts, sections_unread, table_unread}

-- the fault of two lists of checks is that of the first, or else that of the second
abbrev or_fault : Option InputFault → Option InputFault → Option InputFault
or_fault (Some f) other = Some f
or_fault None other = other

joined : (xs ys : List (Bool × InputFault)) → first_fault (xs ++ ys) ≡ or_fault (first_fault xs) (first_fault ys)
joined [] ys = refl
joined ((true, g) ∷ xs) ys = refl
joined ((false, g) ∷ xs) ys = joined xs ys

stops : (xs ys : List (Bool × InputFault)) (f : InputFault) → first_fault xs ≡ Some f → first_fault (xs ++ ys) ≡ Some f
stops xs ys f e = joined xs ys ∙ ap (λ o. or_fault o (first_fault ys)) e

passes : (xs ys : List (Bool × InputFault)) → first_fault xs ≡ None → first_fault (xs ++ ys) ≡ first_fault ys
passes xs ys e = joined xs ys ∙ ap (λ o. or_fault o (first_fault ys)) e

-- four lists of checks, one after another
module _ (a b c d : List (Bool × InputFault)) where
  first_stops : (f : InputFault) → first_fault a ≡ Some f → first_fault (a ++ b ++ c ++ d) ≡ Some f
  first_stops f e = stops (a ++ b ++ c) d f (stops (a ++ b) c f (stops a b f e))

  second_stops : (f : InputFault) → first_fault a ≡ None → first_fault b ≡ Some f → first_fault (a ++ b ++ c ++ d) ≡ Some f
  second_stops f ea e = stops (a ++ b ++ c) d f (stops (a ++ b) c f (passes a b ea ∙ e))

  third_stops : (f : InputFault) → first_fault a ≡ None → first_fault b ≡ None → first_fault c ≡ Some f → first_fault (a ++ b ++ c ++ d) ≡ Some f
  third_stops f ea eb e = stops (a ++ b ++ c) d f (passes (a ++ b) c (passes a b ea ∙ eb) ∙ e)

  fourth_ends : first_fault a ≡ None → first_fault b ≡ None → first_fault c ≡ None → first_fault (a ++ b ++ c ++ d) ≡ first_fault d
  fourth_ends ea eb ec = passes (a ++ b ++ c) d (passes (a ++ b) c (passes a b ea ∙ eb) ∙ ec)

-- three
module _ (a b c : List (Bool × InputFault)) where
  one_stops : (f : InputFault) → first_fault a ≡ Some f → first_fault (a ++ b ++ c) ≡ Some f
  one_stops f e = stops (a ++ b) c f (stops a b f e)

  two_stops : (f : InputFault) → first_fault a ≡ None → first_fault b ≡ Some f → first_fault (a ++ b ++ c) ≡ Some f
  two_stops f ea e = stops (a ++ b) c f (passes a b ea ∙ e)

  three_ends : first_fault a ≡ None → first_fault b ≡ None → first_fault (a ++ b ++ c) ≡ first_fault c
  three_ends ea eb = passes (a ++ b) c (passes a b ea ∙ eb)

-- ---- the tables

module _ (b : List ℕ) (h : Ehdr) (s : List Shdr) (ys : List Sym) where
  abbrev full : Elf
  full = elf_from b h s ys

  abbrev unread : Elf
  unread = elf_from b h s []

  table_same : first_fault (table_checks full) ≡ first_fault (table_checks unread)
  table_same = ap (λ cs. first_fault cs) (table_unread b h s ys)

  sections_same : first_fault (flat_map (section_checks full) (numbered s)) ≡ first_fault (flat_map (section_checks unread) (numbered s))
  sections_same = ap (λ cs. first_fault cs) (sections_unread b h s ys (numbered s))

  pub table_stops : (f : InputFault) → first_fault (table_checks unread) ≡ Some f → first_fault (table_half full) ≡ Some f
  unfolding table_half
  table_stops f e =
      first_stops (table_checks full) (flat_map (section_checks full) (numbered s)) (symbol_table_checks full (symbol_table full)) (symbol_checks full (symbol_table full))
      f (table_same ∙ e)

  pub sections_stop : (f : InputFault) → first_fault (table_checks unread) ≡ None → first_fault (flat_map (section_checks unread) (numbered s)) ≡ Some f → first_fault (table_half full) ≡ Some f
  unfolding table_half
  sections_stop f et e =
      second_stops (table_checks full) (flat_map (section_checks full) (numbered s)) (symbol_table_checks full (symbol_table full)) (symbol_checks full (symbol_table full))
      f (table_same ∙ et) (sections_same ∙ e)

  pub symtab_stops : (f : InputFault) → first_fault (table_checks unread) ≡ None → first_fault (flat_map (section_checks unread) (numbered s)) ≡ None → first_fault (symbol_table_checks full (symbol_table full)) ≡ Some f → first_fault (table_half full) ≡ Some f
  unfolding table_half
  symtab_stops f et es e =
      third_stops (table_checks full) (flat_map (section_checks full) (numbered s)) (symbol_table_checks full (symbol_table full)) (symbol_checks full (symbol_table full))
      f (table_same ∙ et) (sections_same ∙ es) e

  pub symbols_end : first_fault (table_checks unread) ≡ None → first_fault (flat_map (section_checks unread) (numbered s)) ≡ None → first_fault (symbol_table_checks full (symbol_table full)) ≡ None → first_fault (table_half full) ≡ first_fault (symbol_checks full (symbol_table full))
  unfolding table_half
  symbols_end et es ey =
      fourth_ends (table_checks full) (flat_map (section_checks full) (numbered s)) (symbol_table_checks full (symbol_table full)) (symbol_checks full (symbol_table full))
      (table_same ∙ et) (sections_same ∙ es) ey

-- ---- what refers to them

module _ (elf : Elf) where
  abbrev pub relas : List (Bool × InputFault)
  relas = flat_map (rela_section_checks elf) (rela_sections elf)

  abbrev pub overlaps : List (Bool × InputFault)
  overlaps = flat_map (λ (row : ℕ × Shdr). overlap_checks elf (is_piece_in elf row.0) row.0) (numbered elf.sections)

  abbrev pub groups : List (Bool × InputFault)
  groups = group_checks_after elf [] (group_sections elf)

  pub relas_stop : (f : InputFault) → first_fault relas ≡ Some f → first_fault (reference_half elf) ≡ Some f
  unfolding reference_half
  relas_stop f e = one_stops relas overlaps groups f e

  pub overlaps_stop : (f : InputFault) → first_fault relas ≡ None → first_fault overlaps ≡ Some f → first_fault (reference_half elf) ≡ Some f
  unfolding reference_half
  overlaps_stop f er e = two_stops relas overlaps groups f er e

  pub groups_end : first_fault relas ≡ None → first_fault overlaps ≡ None → first_fault (reference_half elf) ≡ first_fault groups
  unfolding reference_half
  groups_end er eo = three_ends relas overlaps groups er eo

-- ---- both halves

-- seven lists joined one by one are the first four and the last three
two_halves : (front a b c : List (Bool × InputFault)) → front ++ a ++ b ++ c ≡ front ++ (a ++ b ++ c)
two_halves front a b c =
    append_assoc (front ++ a) b c ∙ append_assoc front a (b ++ c) ∙ ap (λ rest. front ++ rest) (sym (append_assoc a b c))

pub halves : (elf : Elf) → object_checks elf ≡ table_half elf ++ reference_half elf
unfolding object_checks table_half reference_half
halves elf = two_halves (table_checks elf ++ flat_map (section_checks elf) (numbered elf.sections) ++ symbol_table_checks elf (symbol_table elf) ++ symbol_checks elf (symbol_table elf)) (relas elf) (overlaps elf) (groups elf)

pub tables_reported : (elf : Elf) (f : InputFault) → first_fault (table_half elf) ≡ Some f → first_fault (object_checks elf) ≡ Some f
tables_reported elf f e = ap (λ cs. first_fault cs) (halves elf) ∙ stops (table_half elf) (reference_half elf) f e

pub references_reported : (elf : Elf) → first_fault (table_half elf) ≡ None → first_fault (object_checks elf) ≡ first_fault (reference_half elf)
references_reported elf e = ap (λ cs. first_fault cs) (halves elf) ∙ passes (table_half elf) (reference_half elf) e

-- ---- the kind

-- a file that has a fault of its kind has it as an object
pub kind_reported : (bytes : List ℕ) (f : InputFault) → kind_of bytes ≡ Err f → object_fault bytes ≡ Some f
unfolding kind_of object_fault
kind_reported bytes f e = ap (λ o. object_fault_after o bytes) (fault_of_kind (first_fault (kind_checks bytes)) (ehdr_at bytes 0) f e)

-- any other has the fault of its checks
pub checks_reported : (bytes : List ℕ) (k : Kind) → kind_of bytes ≡ Ok k → object_fault bytes ≡ first_fault (object_checks (elf_of bytes))
unfolding kind_of object_fault
checks_reported bytes k e = ap (λ o. object_fault_after o bytes) (after_kind (first_fault (kind_checks bytes)) (ehdr_at bytes 0) k e)

-- the first fault of a kind is one of the file
kind_sound : (o : Option InputFault) (bytes : List ℕ) → object_fault_after o bytes ≡ None → o ≡ None
kind_sound None bytes e = refl
kind_sound (Some f) bytes e = cc

-- a file without a fault has a header
pub header_there : (bytes : List ℕ) → object_fault bytes ≡ None → length bytes < 64 → ⊥
unfolding object_fault kind_of
header_there bytes e short =
    no_header bytes (if (ehdr_at bytes 0).e_type == et_rel then Object else Shared)
    (ap (λ o. kind_with o (ehdr_at bytes 0)) (kind_sound (first_fault (kind_checks bytes)) bytes e)) short

-- ---- the file

-- the file that bytes are, of the parts that were read
pub elf_is :
    (bytes : List ℕ) (h : Ehdr) (s : List Shdr) (ys : List Sym)
    → h ≡ ehdr_at bytes 0 → s ≡ section_headers_of bytes h → ys ≡ symbols_of bytes (first_of_type sht_symtab s)
    → elf_of bytes ≡ elf_from bytes h s ys
elf_is bytes h s ys eh es ey =
    subst (λ y. elf_of bytes ≡ elf_from bytes h s y) (sym ey)
    (subst (λ x. elf_of bytes ≡ elf_from bytes h x (symbols_of bytes (first_of_type sht_symtab x))) (sym es)
    (subst (λ k. elf_of bytes ≡ elf_from bytes k (section_headers_of bytes k) (symbols_of bytes (first_of_type sht_symtab (section_headers_of bytes k)))) (sym eh) (elf_parts bytes)))
