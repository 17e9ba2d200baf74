-- The fields of the relocations of a section by number, one after another.
use Rattle.std.specs.Prelude.{◌≡◌, ℕ, ◌+◌, ◌<◌, ◌≤◌, List, [], ◌∷◌, ◌++◌, drop, get_or, length, Option, Some, None}
use Rattle.std.specs.List.{cons_option}
use Rattle.std.specs.Option.{option_to_list}
use Rattle.std.proofs.Common.{ap, append_assoc, sym, ◌∙◌}
use Rattle.std.proofs.lemmas.List.{append-nil, drop_all}
use Rattle.lk_elf.specs.declared.relocation.Rela.{Rela}
use Rattle.lk_report.specs.declared.faults.Fault.{Fault}
use Rattle.lk_model.specs.Overflows.{overflow_of}
use Rattle.lk_model.specs.Views.{Resolved}
use Rattle.lk_relocate.specs.declared.object_sections.ObjectSection.{ObjectSection}
use Rattle.lk_relocate.specs.Faults.{overflows}
use Rattle.lk_relocate.specs.Fields.{all_filled, filled_at}
use Rattle.lk_relocate.specs.ObjectSections.{references_among, section_reference}
use Rattle.lk_relocate.proofs.Lists.{next_item}

-- ---- the bytes

pub next_filled : (r : Resolved) (s : ObjectSection) (bytes : List ℕ) (relas : List Rela) (k : ℕ) (rela : Rela) → k < length relas → rela ≡ get_or relas k rela → all_filled r s.values.now.place bytes (references_among r s (drop k relas)) ≡ all_filled r s.values.now.place (filled_at r s.values.now.place rela.r_offset bytes (section_reference r s rela)) (references_among r s (drop (k + 1) relas))
next_filled r s bytes relas k rela l e =
    ap (λ (rs : List Rela). all_filled r s.values.now.place bytes (references_among r s rs)) (next_item relas k rela l e)

pub all_filled_in : (r : Resolved) (s : ObjectSection) (bytes : List ℕ) (relas : List Rela) (k : ℕ) → length relas ≤ k → all_filled r s.values.now.place bytes (references_among r s (drop k relas)) ≡ bytes
all_filled_in r s bytes relas k l =
    ap (λ (rs : List Rela). all_filled r s.values.now.place bytes (references_among r s rs)) (drop_all k relas l)

-- ---- the values that do not fit

one_more : (o : Option Fault) (faults rest : List Fault) → faults ++ cons_option o rest ≡ (faults ++ option_to_list o) ++ rest
one_more None faults rest = ap (λ (fs : List Fault). fs ++ rest) (sym (append-nil faults))
one_more (Some fault) faults rest = sym (append_assoc faults (fault ∷ []) rest)

pub next_reported : (r : Resolved) (s : ObjectSection) (faults : List Fault) (relas : List Rela) (k : ℕ) (rela : Rela) → k < length relas → rela ≡ get_or relas k rela → faults ++ overflows r s.values.now.place (references_among r s (drop k relas)) ≡ (faults ++ option_to_list (overflow_of r s.values.now.place (section_reference r s rela))) ++ overflows r s.values.now.place (references_among r s (drop (k + 1) relas))
next_reported r s faults relas k rela l e =
    ap (λ (rs : List Rela). faults ++ overflows r s.values.now.place (references_among r s rs)) (next_item relas k rela l e)
    ∙ one_more (overflow_of r s.values.now.place (section_reference r s rela)) faults (overflows r s.values.now.place (references_among r s (drop (k + 1) relas)))

pub all_reported : (r : Resolved) (s : ObjectSection) (faults : List Fault) (relas : List Rela) (k : ℕ) → length relas ≤ k → faults ++ overflows r s.values.now.place (references_among r s (drop k relas)) ≡ faults
all_reported r s faults relas k l =
    ap (λ (rs : List Rela). faults ++ overflows r s.values.now.place (references_among r s rs)) (drop_all k relas l)
    ∙ append-nil faults
