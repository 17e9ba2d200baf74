-- A loader finds every piece of a link made anew of inputs without a fault.
use Rattle.std.specs.Prelude.{◌≡◌, ℕ, Bool, true, false, List, [], ◌∷◌, if◌then◌else◌, map, refl}
use Rattle.std.specs.List.{AllByRecursion}
use Rattle.std.proofs.Common.{ap, subst, sym}
use Rattle.std.proofs.lemmas.Bool.{both_ways}
use Rattle.lk_model.specs.DynamicSizes.{dynamic_table_sizes}
use Rattle.lk_model.specs.FullPlace.{full_place, is_thread}
use Rattle.lk_model.specs.Images.{stretches_of}
use Rattle.lk_model.specs.Inputs.{inputs_of}
use Rattle.lk_model.specs.Links.{resolved_of}
use Rattle.lk_model.specs.Resolving.{resolve}
use Rattle.lk_model.specs.SectionKeys.{got_key, got_plt_key, table_keys}
use Rattle.lk_model.specs.SectionOrder.{existing_keys, piece_keys, section_keys, slots_of, table_sizes}
use Rattle.lk_model.specs.Tail.{tail_parts}
use Rattle.lk_model.specs.Views.{Input, KeptPiece, Resolved}
use Rattle.lk_model.specs.WholeLinks.{whole_stretches_of}
use Rattle.lk_model.specs.WholeTail.{whole_parts}
use Rattle.lk_model.specs.declared.layouts.SectionKey.{SectionKey}
use Rattle.lk_model.specs.declared.layouts.SectionRow.{SectionRow}
use Rattle.lk_model.specs.declared.layouts.SlotTable.{SlotTable}
use Rattle.lk_model.proofs.InOrder.{full_keys}
use Rattle.lk_model.proofs.Rising.{all_map, all_of_map}
use Rattle.lk_law_placement.proofs.DistinctLists.{all_both, all_joined}
use Rattle.lk_law_placement.proofs.PiecesLawful.{inputs_are_lawful}
use Rattle.lk_law_placement.proofs.RowKeysDistinct.{piece_keys_keep}
use Rattle.lk_law_placement.proofs.RowKeysKnown.{in_order_keeps}
use Rattle.lk_law_placement.proofs.SoundInputsKept.{inputs_without_faults, pieces_of_sound_inputs}
use Rattle.lk_law_placement.specs.SoundPieces.{SoundPiece}
use Rattle.lk_law_loading.specs.Loadable.{IsWhole, ThreadNamed}
use Rattle.lk_law_loading.specs.LoadedPlaces.{InputsAreLoadable, LinkIsLoaded, WholeLinkIsLoaded}
use Rattle.lk_law_loading.proofs.KeptRead.{FieldInside, KeptRead, link_read}
use Rattle.lk_law_loading.proofs.LinkedLengths.{kept_whole}
use Rattle.lk_law_loading.proofs.PiecesLoaded.{all_pieces_loaded}

-- ---- thread-local sections

no_thread : (key : SectionKey) → is_thread key.class ≡ false → ThreadNamed key
no_thread key none = record {
  bytes = λ e. absurd (both_ways (is_thread key.class) none (ap is_thread e));
  zeros = λ e. absurd (both_ways (is_thread key.class) none (ap is_thread e));
}

-- no table is thread-local
tables_no_threads : AllByRecursion ThreadNamed table_keys
tables_no_threads = all_map {P = λ key. is_thread key.class ≡ false} {Q = ThreadNamed} no_thread table_keys (refl, (refl, (refl, (refl, (refl, (refl, (refl, (refl, (refl, (refl, tt))))))))))

-- the keys of the tables that a link makes
abbrev made_keys : Resolved → SlotTable → List SectionKey
made_keys r slots = map (λ (table : SectionKey × ℕ). table.0) (table_sizes r slots)

made_keys_where : (r : Resolved) (slots : SlotTable) (dynamic : Bool) → r.options.dynamic ≡ dynamic → made_keys r slots ≡ (if dynamic then table_keys else got_key ∷ got_plt_key ∷ [])
unfolding table_sizes dynamic_table_sizes
made_keys_where r slots true e = rw e refl
made_keys_where r slots false e = rw e refl

made_no_threads : (r : Resolved) (slots : SlotTable) → AllByRecursion ThreadNamed (made_keys r slots)
made_no_threads r slots = go r.options.dynamic refl
  where
    go : (b : Bool) → r.options.dynamic ≡ b → AllByRecursion ThreadNamed (made_keys r slots)
    go true e = subst (AllByRecursion ThreadNamed) (sym (made_keys_where r slots true e)) tables_no_threads
    go false e = subst (AllByRecursion ThreadNamed) (sym (made_keys_where r slots false e)) (tables_no_threads.0, (tables_no_threads.1.0, tt))

-- the rows of a full placement are those of kept pieces and of tables
full_threads : (r : Resolved) → AllByRecursion (λ (kept : KeptPiece). ThreadNamed kept.key) r.kept → AllByRecursion (λ (row : SectionRow). ThreadNamed row.key) (full_place r).sections
unfolding section_keys
full_threads r kept =
    let existing = all_joined ThreadNamed (piece_keys r) (made_keys r (slots_of r.needs)) (piece_keys_keep ThreadNamed r kept) (made_no_threads r (slots_of r.needs)) in
    all_of_map (λ (row : SectionRow). row.key) ThreadNamed (full_place r).sections
    (subst (AllByRecursion ThreadNamed) (sym (full_keys r)) (in_order_keeps ThreadNamed (existing_keys r) existing))

-- ---- links

-- the full placement of inputs without a fault
pub inputs_are_loadable : InputsAreLoadable
inputs_are_loadable options inputs sound limits =
    let r = resolve options inputs in
    let read = link_read options inputs sound in
    let same : r.inputs ≡ inputs = read.inputs_are in
    let kept : AllByRecursion (KeptRead r.inputs) r.kept = subst (λ (xs : List Input). AllByRecursion (KeptRead xs) r.kept) (sym same) read.kept in
    let inside : AllByRecursion (FieldInside r.inputs) r.references = subst (λ (xs : List Input). AllByRecursion (FieldInside xs) r.references) (sym same) read.references in
    record {
      lawful = inputs_are_lawful options inputs sound;
      limits = limits;
      threads = full_threads r (all_map (λ (k : KeptPiece) (known : KeptRead r.inputs k). known.thread) r.kept kept);
      whole =
          all_both {R = IsWhole r (full_place r)} (λ (k : KeptPiece) (s : SoundPiece k) (known : KeptRead r.inputs k). kept_whole r (full_place r) k s known inside) r.kept
          (pieces_of_sound_inputs options inputs sound) kept;
    }

-- the images of links
pub link_is_loaded : LinkIsLoaded
unfolding stretches_of resolved_of
link_is_loaded command files image none limits laid =
    let r = resolved_of command files in
    all_pieces_loaded r (full_place r) (tail_parts r (full_place r)) image (inputs_are_loadable command.options (inputs_of command files) (inputs_without_faults command files none) limits) laid

pub whole_link_is_loaded : WholeLinkIsLoaded
unfolding whole_stretches_of resolved_of
whole_link_is_loaded command files image none limits laid =
    let r = resolved_of command files in
    all_pieces_loaded r (full_place r) (whole_parts r (full_place r)) image (inputs_are_loadable command.options (inputs_of command files) (inputs_without_faults command files none) limits) laid
