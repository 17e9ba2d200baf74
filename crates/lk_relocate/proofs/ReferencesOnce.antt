-- The references in a section of an input are those that its relocations are: no other kept piece is that section.
use Rattle.std.proofs.Common.{◌≡◌, refl, ap, ◌∙◌, arith, ℕ, ◌+◌, ◌≤◌, ◌==◌, Bool, true, false, cond, ◌&&◌, List, [], ◌∷◌, ◌++◌, filter, flat_map, map, Option, None, Some, slice_get}
use Rattle.std.proofs.lemmas.Bool.Decides.{nat_tests}
use Rattle.std.proofs.lemmas.Simd.{map-map}
use Rattle.std.specs.List.{AllByRecursion}
use Rattle.lk_elf.specs.declared.relocation.Rela.{Rela}
use Rattle.lk_model.specs.declared.layouts.PieceId.{PieceId}
use Rattle.lk_model.specs.declared.layouts.PieceId.TheVariants as id
use Rattle.lk_model.specs.declared.layouts.SectionKey.{SectionKey}
use Rattle.lk_model.specs.declared.summaries.Contributions.{Contributions}
use Rattle.lk_model.specs.declared.summaries.InputSummary.{InputSummary}
use Rattle.lk_model.specs.declared.summaries.PieceInfo.{PieceInfo}
use Rattle.lk_model.specs.Groups.{is_left, signatures_in, with_claims}
use Rattle.lk_model.specs.KeptPieces.{is_section_piece, kept_sections, pieces_left, section_piece}
use Rattle.lk_model.specs.LinkedBytes.{is_reference_in, references_in}
use Rattle.lk_model.specs.Numbered.{Numbered}
use Rattle.lk_model.specs.Objects.{relocations_in}
use Rattle.lk_model.specs.References.{Sited, reference_of, references_of, sited_at, sited_in, sited_of}
use Rattle.lk_model.specs.Views.{Elf, Input, KeptPiece, Ref, Resolved}
use Rattle.lk_model.proofs.AddedOnce.{is_numbered, times, times-append}
use Rattle.lk_relocate.specs.References.{piece_references, section_references}
use Rattle.lk_relocate.proofs.Lists.{IsAlone, all_alone, filter-flat_map, filter_map_whole, flat_map-same, map-flat_map}

-- ---- references by kept pieces

-- the references of a kept piece
abbrev pub of_kept : Resolved → KeptPiece → List Ref
of_kept r k = piece_references r k.piece

sited_references : (names : List Contributions) (elf : Elf) (summary : InputSummary) (key : SectionKey) (n section : ℕ) → references_of (sited_in names elf summary key n section) ≡ map (reference_of names summary n section) (relocations_in elf section)
sited_references names elf summary key n section =
    map-map (λ (x : Sited). x.1) (λ (rela : Rela). (key, reference_of names summary n section rela)) (relocations_in elf section)

kept_references : (r : Resolved) (key : SectionKey) (p : PieceId) → references_of (sited_at r.names r.inputs key p) ≡ piece_references r p
kept_references r key (id.Section n section) = by (slice_get r.inputs n)
  where
    by : (o : Option Input) → references_of (elim o [ None ↦ [] | Some x ↦ sited_in r.names x.elf x.summary key n section ]) ≡ elim o [ None ↦ [] | Some x ↦ section_references r n section x ]
    by None = refl
    by (Some x) = sited_references r.names x.elf x.summary key n section
kept_references r key (id.Common name) = refl
kept_references r key (id.Copy name) = refl

pub references_by_kept : (r : Resolved) (kept : List KeptPiece) → references_of (sited_of r.names r.inputs kept) ≡ flat_map (of_kept r) kept
references_by_kept r kept =
    map-flat_map (λ (x : Sited). x.1) (λ (k : KeptPiece). sited_at r.names r.inputs k.key k.piece) kept
    ∙ flat_map-same (λ (k : KeptPiece). references_of (sited_at r.names r.inputs k.key k.piece)) (of_kept r) (λ k. kept_references r k.key k.piece) kept

-- ---- those in a section

abbrev is_own : ℕ → ℕ → KeptPiece → Bool
is_own n section k = is_section_piece n section k

own_references : (r : Resolved) (n section : ℕ) (p : PieceId) → filter (is_reference_in n section) (piece_references r p) ≡ cond (elim p [ id.Section i s ↦ (i == n) && (s == section) | id.Common name ↦ false | id.Copy name ↦ false ]) (piece_references r p) []
own_references r n section (id.Section i s) = by (slice_get r.inputs i)
  where
    nothing : (b : Bool) → ◌≡◌ {A = List Ref} [] (cond b [] [])
    nothing true = refl
    nothing false = refl

    by : (o : Option Input) → filter (is_reference_in n section) (elim o [ None ↦ [] | Some x ↦ section_references r i s x ]) ≡ cond ((i == n) && (s == section)) (elim o [ None ↦ [] | Some x ↦ section_references r i s x ]) []
    by None = nothing ((i == n) && (s == section))
    by (Some x) = filter_map_whole (is_reference_in n section) (reference_of r.names x.summary i s) ((i == n) && (s == section)) (λ rela. refl) (relocations_in x.elf s)
own_references r n section (id.Common name) = refl
own_references r n section (id.Copy name) = refl

-- the references in a section are those of the kept pieces that are this section
pub in_section : (r : Resolved) (kept : List KeptPiece) (n section : ℕ) → r.references ≡ flat_map (of_kept r) kept → references_in r n section ≡ flat_map (λ (k : KeptPiece). cond (is_section_piece n section k) (of_kept r k) []) kept
in_section r kept n section same =
    ap (filter (is_reference_in n section)) same
    ∙ filter-flat_map (is_reference_in n section) (of_kept r) kept
    ∙ flat_map-same (λ (k : KeptPiece). filter (is_reference_in n section) (of_kept r k)) (λ (k : KeptPiece). cond (is_section_piece n section k) (of_kept r k) []) (λ k. own_references r n section k.piece) kept

-- ---- a section is kept once

same_number : (n : ℕ) → (n == n) ≡ true
same_number n = grind (arith, nat_tests)

both_same : (n section : ℕ) → ((n == n) && (section == section)) ≡ true
both_same n section = λ i. same_number n i && same_number section i

pub is_itself : (n section : ℕ) (k : KeptPiece) → k.piece ≡ id.Section n section → is_section_piece n section k ≡ true
is_itself n section k e =
    ap (λ (p : PieceId). elim p [ id.Section i s ↦ (i == n) && (s == section) | id.Common name ↦ false | id.Copy name ↦ false ]) e ∙ both_same n section

times_left : (b : Bool) (P : KeptPiece → Bool) (input section : ℕ) (q : ℕ → Bool) (ps : List PieceInfo) → ((p : PieceInfo) → P (section_piece input p) ≡ (b && (p.section == section)))
    → times P (map (section_piece input) (filter (λ (p : PieceInfo). q p.section) ps)) ≤ cond b (times (λ (p : PieceInfo). p.section == section) ps) 0
times_left true P input section q [] h = omega arith
times_left false P input section q [] h = omega arith
times_left true P input section q (p ∷ ps) h = by (q p.section) (times_left true P input section q ps h)
  where
    here : ◌≡◌ {A = ℕ} (cond (P (section_piece input p)) 1 0) (cond (p.section == section) 1 0)
    here = ap (λ b. cond b 1 0) (h p)

    by : (keeps : Bool) → times P (map (section_piece input) (filter (λ (p : PieceInfo). q p.section) ps)) ≤ times (λ (p : PieceInfo). p.section == section) ps
        → times P (map (section_piece input) (cond keeps (p ∷ filter (λ (p : PieceInfo). q p.section) ps) (filter (λ (p : PieceInfo). q p.section) ps))) ≤ cond (p.section == section) 1 0 + times (λ (p : PieceInfo). p.section == section) ps
    by true later = omega (arith, here)
    by false later = omega arith
times_left false P input section q (p ∷ ps) h = by (q p.section) (times_left false P input section q ps h)
  where
    here : ◌≡◌ {A = ℕ} (cond (P (section_piece input p)) 1 0) 0
    here = ap (λ b. cond b 1 0) (h p)

    by : (keeps : Bool) → times P (map (section_piece input) (filter (λ (p : PieceInfo). q p.section) ps)) ≤ 0
        → times P (map (section_piece input) (cond keeps (p ∷ filter (λ (p : PieceInfo). q p.section) ps) (filter (λ (p : PieceInfo). q p.section) ps))) ≤ 0
    by true later = omega (arith, here)
    by false later = later

-- an added input whose sections differ
abbrev pub HasOnce : Numbered → Type 0
HasOnce x = (section : ℕ) → times (λ (q : PieceInfo). q.section == section) x.summary.pieces ≤ 1

times_kept : (n section : ℕ) (claimed : List (List ℕ)) (added : List Numbered) → AllByRecursion HasOnce added
    → times (is_section_piece n section) (flat_map (λ (c : List (List ℕ) × Numbered). pieces_left c.0 c.1) (with_claims claimed added)) ≤ times (is_numbered n) added
times_kept n section claimed [] all = omega arith
times_kept n section claimed (x ∷ xs) all =
    let left : List KeptPiece = pieces_left claimed x in
    let rest : List KeptPiece = flat_map (λ (c : List (List ℕ) × Numbered). pieces_left c.0 c.1) (with_claims (claimed ++ signatures_in x.summary) xs) in
    let size : times (is_section_piece n section) (left ++ rest) ≡ times (is_section_piece n section) left + times (is_section_piece n section) rest = times-append (is_section_piece n section) left rest in
    let later : times (is_section_piece n section) rest ≤ times (is_numbered n) xs = times_kept n section (claimed ++ signatures_in x.summary) xs all.1 in
    let most : times (is_section_piece n section) left ≤ cond (x.number == n) (times (λ (q : PieceInfo). q.section == section) x.summary.pieces) 0 =
    times_left (x.number == n) (is_section_piece n section) x.number section (is_left claimed x.summary) x.summary.pieces (λ p. refl) in
    let first : cond (x.number == n) (times (λ (q : PieceInfo). q.section == section) x.summary.pieces) 0 ≤ cond (x.number == n) 1 0 = by (x.number == n) (all.0 section) in
    omega (arith, size, later, most, first)
  where
    by : (b : Bool) → times (λ (q : PieceInfo). q.section == section) x.summary.pieces ≤ 1 → cond b (times (λ (q : PieceInfo). q.section == section) x.summary.pieces) 0 ≤ cond b 1 0
    by true once = once
    by false once = omega arith

-- the references in the section that a kept piece is are its own
abbrev pub HasOwn : Resolved → KeptPiece → Type 0
HasOwn r k = (n section : ℕ) → k.piece ≡ id.Section n section → references_in r n section ≡ of_kept r k

pub all_own : (r : Resolved) (added : List Numbered) → r.references ≡ references_of (sited_of r.names r.inputs (kept_sections added)) → ((n : ℕ) → times (is_numbered n) added ≤ 1) → AllByRecursion HasOnce added → AllByRecursion (HasOwn r) (kept_sections added)
all_own r added same once distinct = go (kept_sections added) (all_alone (of_kept r) (kept_sections added))
  where
    whole : List KeptPiece
    whole = kept_sections added

    go : (ks : List KeptPiece) → AllByRecursion (IsAlone (of_kept r) whole) ks → AllByRecursion (HasOwn r) ks
    go [] h = tt
    go (k ∷ ks) h = (
      λ n section e.
          let most : times (is_section_piece n section) whole ≤ times (is_numbered n) added = times_kept n section [] added distinct in
          let single : times (is_numbered n) added ≤ 1 = once n in
          let alone : times (is_section_piece n section) whole ≤ 1 → flat_map (λ (y : KeptPiece). cond (is_section_piece n section y) (of_kept r y) []) whole ≡ of_kept r k = (h.0 (is_section_piece n section) (is_itself n section k e)).1 in
          in_section r whole n section (same ∙ references_by_kept r whole) ∙ alone (omega arith),
      go ks h.1,
    )
