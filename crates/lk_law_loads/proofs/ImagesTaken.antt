-- A loader takes the images of links.
use Rattle.std.specs.Prelude.{◌≡◌, ℕ, Bool, true, false, not, List, [], ◌∷◌, ◌++◌, Option, Some, None, ◌+◌, ◌*◌, ◌≤◌, ◌==◌, ◌&&◌, ◌||◌, IsTrue, find, flat_map, is_none, is_some, length, refl}
use Rattle.std.specs.Bool.{then_some}
use Rattle.std.specs.List.{AllByRecursion, enumerate_from, list_any}
use Rattle.std.proofs.Common.{ap, arith, subst, ⊎_elim, ◌∙◌}
use Rattle.std.proofs.lemmas.Bool.{both_ways, false_from_ne_true}
use Rattle.std.proofs.lemmas.Bool.Decides.{nat_tests}
use Rattle.lk_elf.specs.Records.{ehdr_at}
use Rattle.lk_elf.specs.declared.program_header.Phdr.{Phdr}
use Rattle.lk_model.specs.Checks.{first_fault}
use Rattle.lk_model.specs.DynamicEntries.{counted_entries}
use Rattle.lk_model.specs.DynamicKeys.{dynamic_key}
use Rattle.lk_model.specs.Elf.{lies_in}
use Rattle.lk_model.specs.FileHeader.{exec_stack_of}
use Rattle.lk_model.specs.FullPlace.{full_place, table_size}
use Rattle.lk_model.specs.Images.{stretches_of, stretches_with}
use Rattle.lk_model.specs.Inputs.{inputs_of}
use Rattle.lk_model.specs.InputsReading.{with_value}
use Rattle.lk_model.specs.Lawful.{Lawful, is_no_strange_table}
use Rattle.lk_model.specs.Links.{resolved_of}
use Rattle.lk_model.specs.Loading.{headers_in}
use Rattle.lk_model.specs.Loads.{LoadRefusal, byte_in_memory, header_refusals, is_executable_file, load_checks, load_refusal, named_by, named_in, numbered_loads, overlap_refusals, segment_bytes}
use Rattle.lk_model.specs.SectionKeys.{is_table, same_key}
use Rattle.lk_model.specs.SectionOrder.{table_sizes}
use Rattle.lk_model.specs.Segments.{program_headers}
use Rattle.lk_model.specs.Stretches.{IsLaidOut}
use Rattle.lk_model.specs.Tail.{Part, tail_parts}
use Rattle.lk_model.specs.Views.{KeptPiece, Resolved}
use Rattle.lk_model.specs.WholeLinks.{whole_stretches_of}
use Rattle.lk_model.specs.WholeTail.{whole_parts}
use Rattle.lk_model.specs.declared.layouts.Placement.{Placement}
use Rattle.lk_model.specs.declared.layouts.SectionKey.{SectionKey}
use Rattle.lk_model.specs.declared.layouts.SectionRow.{SectionRow}
use Rattle.lk_model.specs.declared.layouts.SlotTable.{SlotTable}
use Rattle.lk_model.proofs.Checks.{first_fault-after}
use Rattle.lk_model.proofs.KeysFound.{same_key_reports}
use Rattle.lk_model.proofs.Rising.{all_map}
use Rattle.lk_law_placement.proofs.DistinctLists.{none_of_all}
use Rattle.lk_law_placement.proofs.SoundInputsKept.{inputs_without_faults, pieces_of_sound_inputs}
use Rattle.lk_law_placement.specs.SoundPieces.{SoundPiece, SoundPieces}
use Rattle.lk_law_loading.specs.Loadable.{Loadable}
use Rattle.lk_law_loading.proofs.FullLoaded.{inputs_are_loadable, link_is_loaded, whole_link_is_loaded}
use Rattle.lk_law_loading.proofs.PiecesLoaded.{headers_are_read}
use Rattle.lk_law_loads.specs.TakenImages.{HeadersAreTaken, KeepsNoTable, LinkIsTaken, PlacesAreTaken, WholeLinkIsTaken}
use Rattle.lk_law_loads.proofs.DynamicTaken.{dynamic_named}
use Rattle.lk_law_loads.proofs.FrontRead.{executable, front_inside, table_place, tail_inside}
use Rattle.lk_law_loads.proofs.HeaderTypes.{HasNoDynamic, no_dynamic_header}
use Rattle.lk_law_loads.proofs.HeadersInFile.{EndsIn, headers_end}
use Rattle.lk_law_loads.proofs.LoadsApart.{loads_apart}

-- ---- the checks of headers

-- a range that has no byte, or lies in the file
lies_or_empty : (image : List ℕ) (h : Phdr) → EndsIn (length image) h → (not (h.p_filesz == 0) && not (lies_in image h.p_offset h.p_filesz)) ≡ false
lies_or_empty image h ends =
    ⊎_elim
    (λ (e : h.p_filesz ≡ 0). let empty : (h.p_filesz == 0) ≡ true = grind (arith, nat_tests) in rw empty refl)
    (λ (l : h.p_offset + h.p_filesz ≤ length image).
    let inside : lies_in image h.p_offset h.p_filesz ≡ true = grind (arith, nat_tests) in
    rw inside (and_false (not (h.p_filesz == 0))))
    ends
  where
    and_false : (b : Bool) → (b && false) ≡ false
    and_false true = refl
    and_false false = refl

header_clear : (image : List ℕ) (n : ℕ) (h : Phdr) → (ehdr_at image 0).e_phoff ≡ 64 → 64 + 56 * n + 56 ≤ length image → EndsIn (length image) h → first_fault (header_refusals image (n, h)) ≡ None
header_clear image n h table inside ends =
    let place : (ehdr_at image 0).e_phoff + 56 * n + 56 ≤ length image = omega (arith, table, inside) in
    let own : lies_in image ((ehdr_at image 0).e_phoff + 56 * n) 56 ≡ true = grind (arith, nat_tests) in
    rw (own, lies_or_empty image h ends) refl

headers_clear :
    (image : List ℕ) (n : ℕ) (hs : List Phdr)
    → (ehdr_at image 0).e_phoff ≡ 64
    → 64 + 56 * (n + length hs) ≤ length image
    → AllByRecursion (EndsIn (length image)) hs
    → first_fault (flat_map (header_refusals image) (enumerate_from n hs)) ≡ None
headers_clear image n [] table inside ends = refl
headers_clear image n (h ∷ hs) table inside ends =
    first_fault-after (header_refusals image (n, h)) (flat_map (header_refusals image) (enumerate_from (n + 1) hs)) (header_clear image n h table (omega (arith, inside)) ends.0)
    ∙ headers_clear image (n + 1) hs table (omega (arith, inside)) ends.1

all_checks :
    (image : List ℕ) (hs : List Phdr)
    → headers_in image ≡ hs
    → is_executable_file image ≡ true
    → first_fault (flat_map (header_refusals image) (enumerate_from 0 hs)) ≡ None
    → first_fault (overlap_refusals (numbered_loads hs)) ≡ None
    → first_fault (load_checks image) ≡ None
unfolding load_checks
all_checks image hs read executable first second =
    ap (λ (xs : List Phdr). first_fault ((not (is_executable_file image), LoadRefusal.NotElf) ∷ flat_map (header_refusals image) (enumerate_from 0 xs) ++ overlap_refusals (numbered_loads xs))) read
    ∙ rw executable (first_fault-after (flat_map (header_refusals image) (enumerate_from 0 hs)) (overlap_refusals (numbered_loads hs)) first ∙ second)

pub headers_are_taken : HeadersAreTaken
headers_are_taken r place tail image l laid =
    let stack = exec_stack_of r in
    let hs = program_headers place stack in
    let front = front_inside r place tail image laid.is_at in
    all_checks image hs (headers_are_read r place tail image l laid) (executable r place tail image laid.is_at)
    (headers_clear image 0 hs (table_place r place tail image laid.is_at) (omega (arith, front)) (headers_end r place stack (length image) l.lawful (tail_inside r place tail image laid.is_at) front))
    (loads_apart place stack)

-- ---- images without a dynamic section

nothing_named : (memory : ℕ → Option ℕ) (o : Option Phdr) → o ≡ None → is_none (with_value (segment_bytes memory o) (λ bytes. named_by memory (counted_entries bytes 0 (length bytes)))) ≡ false
unfolding named_by counted_entries
nothing_named memory None e = refl
nothing_named memory (Some h) e = absurd (cc)

taken : (image : List ℕ) → first_fault (load_checks image) ≡ None → is_none (named_in image) ≡ false → load_refusal image ≡ None
unfolding load_refusal
taken image checks named = rw checks (ap (λ b. then_some b LoadRefusal.BadDynamic) named)

none_named : (image : List ℕ) → find (λ (h : Phdr). h.p_type == 2) (headers_in image) ≡ None → is_none (named_in image) ≡ false
unfolding named_in
none_named image none = nothing_named (byte_in_memory image (headers_in image)) (find (λ (h : Phdr). h.p_type == 2) (headers_in image)) none

static_named : (r : Resolved) (place : Placement) (tail : List Part) (image : List ℕ) → Loadable r place → HasNoDynamic place → IsLaidOut (stretches_with r place tail) image → is_none (named_in image) ≡ false
static_named r place tail image l none laid =
    none_named image (ap (find (λ (h : Phdr). h.p_type == 2)) (headers_are_read r place tail image l laid) ∙ no_dynamic_header place (exec_stack_of r) none)

-- ---- static links have none

static_size : (r : Resolved) (slots : SlotTable) → r.options.dynamic ≡ false → is_some (table_size r slots dynamic_key) ≡ false
unfolding table_sizes
static_size r slots e = rw e refl

not_dynamic_piece : (piece : KeptPiece) → is_table piece.key ≡ false → same_key piece.key dynamic_key ≡ false
not_dynamic_piece piece no_table =
    false_from_ne_true (same_key piece.key dynamic_key)
    (λ e. let same = same_key_reports piece.key dynamic_key e in both_ways (is_table piece.key) no_table (ap is_table same))

no_dynamic_row : (r : Resolved) (place : Placement) → KeepsNoTable r → r.options.dynamic ≡ false → (row : SectionRow) → IsTrue (is_no_strange_table r place.slots row) → same_key row.key dynamic_key ≡ false
no_dynamic_row r place sound static row known =
    false_from_ne_true (same_key row.key dynamic_key)
    (λ e.
    let same = same_key_reports row.key dynamic_key e in
    let pieces = none_of_all (λ (piece : KeptPiece). same_key piece.key dynamic_key) r.kept (all_map {Q = λ (piece : KeptPiece). same_key piece.key dynamic_key ≡ false} not_dynamic_piece r.kept sound) in
    let size = static_size r place.slots static in
    let all : (not (is_table dynamic_key) || is_some (table_size r place.slots dynamic_key) || list_any (λ (piece : KeptPiece). same_key piece.key dynamic_key) r.kept) ≡ true =
    subst (λ (key : SectionKey). (not (is_table key) || is_some (table_size r place.slots key) || list_any (λ (piece : KeptPiece). same_key piece.key key) r.kept) ≡ true) same known in
    let none : (not (is_table dynamic_key) || is_some (table_size r place.slots dynamic_key) || list_any (λ (piece : KeptPiece). same_key piece.key dynamic_key) r.kept) ≡ false = rw (size, pieces) refl in
    both_ways (not (is_table dynamic_key) || is_some (table_size r place.slots dynamic_key) || list_any (λ (piece : KeptPiece). same_key piece.key dynamic_key) r.kept) none all)

no_dynamic_section : (r : Resolved) (place : Placement) → Lawful r place → KeepsNoTable r → r.options.dynamic ≡ false → HasNoDynamic place
no_dynamic_section r place l sound static =
    all_map {Q = λ (row : SectionRow). same_key row.key dynamic_key ≡ false} (λ row known. no_dynamic_row r place sound static row known) place.sections l.no_other_tables

-- ---- links of either kind

pub places_are_taken : PlacesAreTaken
places_are_taken r place tail image l no_tables laid = go r.options.dynamic refl
  where
    go : (b : Bool) → r.options.dynamic ≡ b → load_refusal image ≡ None
    go true e =
        taken image (headers_are_taken r place tail image l laid)
        (dynamic_named r place tail image (record { loadable = l; no_pieces = no_tables; laid = laid }) e)
    go false e =
        taken image (headers_are_taken r place tail image l laid)
        (static_named r place tail image l (no_dynamic_section r place l.lawful no_tables e) laid)

-- sound pieces are of no section that the link makes
no_tables_kept : (r : Resolved) → SoundPieces r → KeepsNoTable r
no_tables_kept r sound = all_map {P = SoundPiece} {Q = λ (piece : KeptPiece). is_table piece.key ≡ false} (λ piece sound. sound.no_table) r.kept sound

pub link_is_taken : LinkIsTaken
unfolding stretches_of resolved_of
link_is_taken command files image none limits laid =
    let r = resolved_of command files in
    let sound = inputs_without_faults command files none in
    let l = inputs_are_loadable command.options (inputs_of command files) sound limits in
    record {
      taken = places_are_taken r (full_place r) (tail_parts r (full_place r)) image l (no_tables_kept r (pieces_of_sound_inputs command.options (inputs_of command files) sound)) laid;
      loaded = link_is_loaded command files image none limits laid;
    }

pub whole_link_is_taken : WholeLinkIsTaken
unfolding whole_stretches_of resolved_of
whole_link_is_taken command files image none limits laid =
    let r = resolved_of command files in
    let sound = inputs_without_faults command files none in
    let l = inputs_are_loadable command.options (inputs_of command files) sound limits in
    record {
      taken = places_are_taken r (full_place r) (whole_parts r (full_place r)) image l (no_tables_kept r (pieces_of_sound_inputs command.options (inputs_of command files) sound)) laid;
      loaded = whole_link_is_loaded command files image none limits laid;
    }
