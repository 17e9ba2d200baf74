-- The kept pieces of the code's `Resolution` are those of lk_model.
use Rattle.std.specs.Prelude.{◌≡◌, refl, ℕ, List, ◌++◌, Result}
use Rattle.std.proofs.Common.{sym, ap, subst, ◌∙◌}
use Rattle.lk_report.specs.declared.causes.OptionRecord.{OptionRecord}
use Rattle.lk_model.specs.declared.layouts.LayoutFault.{LayoutFault}
use Rattle.lk_model.specs.declared.layouts.Needs.{Needs}
use Rattle.lk_model.specs.declared.layouts.Placement.{Placement}
use Rattle.lk_model.specs.declared.layouts.SectionKey.{SectionKey}
use Rattle.lk_model.specs.declared.layouts.SlotTable.{SlotTable}
use Rattle.lk_model.specs.declared.summaries.InputSummary.{InputSummary}
use Rattle.lk_model.specs.Adding.{added_inputs, numbers_in}
use Rattle.lk_model.specs.Finding.{Found, found_of}
use Rattle.lk_model.specs.FullPlace.{full_place}
use Rattle.lk_model.specs.KeptPieces.{kept_sections, name_pieces}
use Rattle.lk_model.specs.Numbered.{Numbered}
use Rattle.lk_model.specs.Resolving.{paths_of, resolve}
use Rattle.lk_model.specs.SectionOrder.{piece_keys, slots_of, table_sizes, table_sizes_among}
use Rattle.lk_model.specs.Views.{Input, KeptPiece, Resolved}
use Rattle.lk_resolve.specs.Given.{IsGiven}
use Rattle.lk_resolve.specs.Settling.{IsFound, ResolutionValue}
use Rattle.lk_symtab.specs.NameRows.{all_symbols, row_winner}
use Rattle.lk_layout.specs.Grouping.{Groups, groups_of, keys_in, keys_of}
use Rattle.lk_layout.specs.KeptIn.{kept_in, names_in, sections_in}
use Rattle.lk_layout.specs.Layouts.{LayoutGives, PlaceGives, placement_of}
use Rattle.lk_model.proofs.AddedOnce.{Apart, HaveSummaries, added_apart, added_summaries}
use Rattle.lk_layout.proofs.GroupsGrow.{keys_again}
use Rattle.lk_layout.proofs.NamesReported.{names_are}
use Rattle.lk_layout.proofs.PlacesReported.{full_is}
use Rattle.lk_layout.proofs.SectionsReported.{sections_are}

-- the sections
sections_reported : (resolution : ResolutionValue) (summaries : List InputSummary) (paths : List (List ℕ)) (entry : List ℕ) (added : List Numbered) → IsFound resolution (found_of paths entry added) → HaveSummaries summaries added → Apart added → sections_in resolution.kept summaries resolution.added ≡ kept_sections added
unfolding found_of
sections_reported resolution summaries paths entry added found have apart =
    ap (sections_in resolution.kept summaries) found.added ∙ sections_are resolution.kept summaries added found.kept have apart

-- the common blocks and copies
names_reported : (resolution : ResolutionValue) (copies : List ℕ) (found : Found) → IsFound resolution found → names_in copies 0 resolution.rows ≡ name_pieces copies found.names found.winners
names_reported resolution copies found is = names_are copies resolution.rows ∙ (λ i. name_pieces copies (is.names i) (is.winners i))

resolved_kept : (options : OptionRecord) (xs : List Input) → (resolve options xs).kept ≡ kept_sections (added_inputs options.entry xs) ++ name_pieces (resolve options xs).needs.copies (found_of (paths_of xs) options.entry (added_inputs options.entry xs)).names (found_of (paths_of xs) options.entry (added_inputs options.entry xs)).winners
unfolding resolve found_of
resolved_kept options xs = refl

-- the kept pieces are those of the link
pub kept_reported : (resolution : ResolutionValue) (summaries : List InputSummary) (needs : Needs) (options : OptionRecord) (xs : List Input) → IsGiven resolution summaries needs options xs → kept_in resolution summaries needs.copies ≡ (resolve options xs).kept
kept_reported resolution summaries needs options xs given =
    let added : List Numbered = added_inputs options.entry xs in
    let found : Found = found_of (paths_of xs) options.entry added in
    let have : HaveSummaries summaries added = subst (λ (ss : List InputSummary). HaveSummaries ss added) given.summarized (added_summaries options.entry xs) in
    let sections : sections_in resolution.kept summaries resolution.added ≡ kept_sections added = sections_reported resolution summaries (paths_of xs) options.entry added given.found have (added_apart options.entry xs) in
    let names : names_in needs.copies 0 resolution.rows ≡ name_pieces (resolve options xs).needs.copies found.names found.winners =
    names_reported resolution needs.copies found given.found ∙ ap (λ (n : Needs). name_pieces n.copies found.names found.winners) (sym given.needed) in
    (λ i. sections i ++ names i) ∙ sym (resolved_kept options xs)

-- the tables of a link have the sizes that its output sections with pieces give them
pub tables_reported : (r : Resolved) (needs : Needs) (g : Groups) (keys : List SectionKey) (sizes : List (SectionKey × ℕ)) → r.needs ≡ needs → g ≡ groups_of r.kept → keys ≡ keys_in g.sections → sizes ≡ table_sizes_among keys r (slots_of r.needs) → sizes ≡ table_sizes r (slots_of needs)
unfolding table_sizes groups_of
tables_reported r needs g keys sizes needed groups keys_so reported =
    let own : keys ≡ piece_keys r = keys_so ∙ ap (λ (h : Groups). keys_in h.sections) groups ∙ keys_again r.kept (keys_of r.kept) in
    reported ∙ (λ i. table_sizes_among (own i) r (slots_of (needed i)))

resolved_patch : (options : OptionRecord) (xs : List Input) → (resolve options xs).options.patch ≡ options.patch
unfolding resolve
resolved_patch options xs = refl

-- the code's placement is lk_model's full placement
pub layout_reported : (options : OptionRecord) (xs : List Input) (needs : Needs) (kept : List KeptPiece) (sizes : List (SectionKey × ℕ)) (slots : SlotTable) (result : Result Placement LayoutFault)
    → (resolve options xs).needs ≡ needs
    → kept ≡ (resolve options xs).kept
    → sizes ≡ table_sizes (resolve options xs) (slots_of needs)
    → slots ≡ slots_of needs
    → PlaceGives (placement_of options.patch kept sizes slots) result
    → LayoutGives (resolve options xs) result
layout_reported options xs needs kept sizes slots result needed kept_so sizes_so slots_so gives =
    let r : Resolved = resolve options xs in
    let place : placement_of options.patch kept sizes slots ≡ full_place r =
    (λ i. placement_of (sym (resolved_patch options xs) i) (kept_so i) (sizes_so i) (slots_so i))
    ∙ ap (λ (n : Needs). placement_of r.options.patch r.kept (table_sizes r (slots_of n)) (slots_of n)) (sym needed)
    ∙ sym (full_is r) in
    subst (λ (full : Placement). PlaceGives full result) place gives
