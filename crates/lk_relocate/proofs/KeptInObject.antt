-- Every kept piece of a link is kept by the object of its input, and the references in its section are its own.
use Rattle.std.proofs.Common.{◌≡◌, refl, sym, ap, subst, ◌∙◌, ℕ, ◌+◌, ◌<◌, ◌≤◌, ◌==◌, Bool, true, false, cond, List, [], ◌∷◌, ◌++◌, filter, flat_map, length, zip, Option, None, Some, option_map}
use Rattle.std.specs.List.{AllByRecursion, cons_option, enumerate_from, filter_map}
use Rattle.lk_report.specs.declared.causes.OptionRecord.{OptionRecord}
use Rattle.lk_model.specs.declared.layouts.PieceId.{PieceId}
use Rattle.lk_model.specs.declared.layouts.PieceId.TheVariants as id
use Rattle.lk_model.specs.declared.summaries.Contributions.{Contributions}
use Rattle.lk_model.specs.declared.summaries.Global.{Global}
use Rattle.lk_model.specs.declared.summaries.InputSummary.{InputSummary}
use Rattle.lk_model.specs.declared.summaries.PieceInfo.{PieceInfo}
use Rattle.lk_model.specs.declared.summaries.Winner.{Winner}
use Rattle.lk_model.specs.declared.summaries.Winner.TheVariants as winner
use Rattle.lk_model.specs.Adding.{added_inputs, numbers_in}
use Rattle.lk_model.specs.Elf.{elf_of}
use Rattle.lk_model.specs.Finding.{Found, found_of}
use Rattle.lk_model.specs.Groups.{is_left, signatures_in, with_claims}
use Rattle.lk_model.specs.KeptPieces.{copy_piece, kept_sections, name_piece, name_pieces, pieces_left, section_piece}
use Rattle.lk_model.specs.NeedsOf.{needs_of}
use Rattle.lk_model.specs.Numbered.{Numbered, is_number_in}
use Rattle.lk_model.specs.Objects.{piece_bytes_in, pieces_in, summary_in}
use Rattle.lk_model.specs.References.{references_of, sited_of}
use Rattle.lk_model.specs.Resolving.{paths_of, resolve}
use Rattle.lk_model.specs.Views.{Elf, Input, KeptPiece, Resolved}
use Rattle.lk_model.specs.Winners.{symbol_among}
use Rattle.lk_model.proofs.Rising.{all_filter, all_map}
use Rattle.lk_model.proofs.AddedOnce.{IsIn, added_once, added_are_at, is_numbered, times}
use Rattle.lk_relocate.specs.ObjectsOfInputs.{HoldsObject, IsObjectOf, object_in}
use Rattle.lk_relocate.specs.PieceLists.{is_listed}
use Rattle.lk_relocate.specs.Places.{KnownSection}
use Rattle.lk_relocate.proofs.Lists.{all_append, all_both, all_mapped}
use Rattle.lk_relocate.proofs.PiecesOfObjects.{InfoRead, all_listed, infos_read, sections_once}
use Rattle.lk_relocate.proofs.ReferencesOnce.{HasOnce, HasOwn, all_own}

-- ---- what is known of a kept piece

-- a section of an input: its object has the piece, and what its file has of bytes
pub record SectionStored (objects : List (Option (List ℕ))) (r : Resolved) (k : KeptPiece) (n section : ℕ) : Type 0 where
  pub known : KnownSection objects r n section
  pub short : k.terminator ≡ false → length (piece_bytes_in (elf_of known.bytes) section) ≤ k.size
  pub long : k.terminator ≡ true → k.size < length (piece_bytes_in (elf_of known.bytes) section)

abbrev pub StoredAs : List (Option (List ℕ)) → Resolved → KeptPiece → PieceId → Type 0
StoredAs objects r k (id.Section n section) = SectionStored objects r k n section
StoredAs objects r k (id.Common name) = Unit {0}
StoredAs objects r k (id.Copy name) = Unit {0}

pub record KeptInObject (objects : List (Option (List ℕ))) (r : Resolved) (k : KeptPiece) : Type 0 where
  pub in_object : StoredAs objects r k k.piece
  pub own : HasOwn r k

-- ---- added inputs

-- the object of an added input
record AddedStored (objects : List (Option (List ℕ))) (r : Resolved) (x : Numbered) : Type 0 where
  bytes : List ℕ
  in_object : object_in objects x.number ≡ Some bytes
  object : IsObjectOf r.inputs x.number bytes
  same : x.summary ≡ summary_in (elf_of bytes)

-- what holds of the numbers of inputs holds of the inputs by their numbers
sections_of_pieces : (P : ℕ → Type 0) (added : List Numbered) → AllByRecursion P (numbers_in added) → AllByRecursion (λ (x : Numbered). P x.number) added
sections_of_pieces P [] h = tt
sections_of_pieces P (x ∷ xs) h = (h.0, sections_of_pieces P xs h.1)

same_input : (x y : Input) → Some x ≡ Some y → x ≡ y
same_input x y e = cc

added_stored : (objects : List (Option (List ℕ))) (r : Resolved) (x : Numbered) → HoldsObject objects r.inputs x.number → IsIn r.inputs x → AddedStored objects r x
added_stored objects r x h is_at =
    let o = h.object in
    let one : o.input ≡ is_at.0 = same_input o.input is_at.0 (sym o.there ∙ is_at.1) in
    record {
      bytes = h.bytes;
      in_object = h.in_object;
      object = h.object;
      same = sym is_at.2 ∙ ap (λ (y : Input). y.summary) (sym one) ∙ o.summary ∙ ap summary_in o.file;
    }

pieces_of_summary : (elf : Elf) → (summary_in elf).pieces ≡ pieces_in elf
unfolding summary_in
pieces_of_summary elf = refl

summary_pieces : (bytes : List ℕ) (summary : InputSummary) → summary ≡ summary_in (elf_of bytes) → summary.pieces ≡ pieces_in (elf_of bytes)
summary_pieces bytes summary e = ap (λ (s : InputSummary). s.pieces) e ∙ pieces_of_summary (elf_of bytes)

has_once : (objects : List (Option (List ℕ))) (r : Resolved) (x : Numbered) → AddedStored objects r x → HasOnce x
has_once objects r x h = λ section. subst (λ (ps : List PieceInfo). times (λ (q : PieceInfo). q.section == section) ps ≤ 1) (sym (summary_pieces h.bytes x.summary h.same)) (sections_once (elf_of h.bytes) section)

-- ---- kept sections

info_stored : (objects : List (Option (List ℕ))) (r : Resolved) (x : Numbered) (h : AddedStored objects r x) (q : PieceInfo) → InfoRead (elf_of h.bytes) q → is_listed q.section x.summary.pieces ≡ true → StoredAs objects r (section_piece x.number q) (section_piece x.number q).piece
info_stored objects r x h q read listed = record {
  known = record {
    bytes = h.bytes;
    in_object = h.in_object;
    object = h.object;
    listed = ap (λ (s : InputSummary). is_listed q.section s.pieces) (sym h.same) ∙ listed;
  };
  short = read.short;
  long = read.long;
}

abbrev IsStored : List (Option (List ℕ)) → Resolved → KeptPiece → Type 0
IsStored objects r k = StoredAs objects r k k.piece

left_stored : (objects : List (Option (List ℕ))) (r : Resolved) (claimed : List (List ℕ)) (x : Numbered) → AddedStored objects r x → AllByRecursion (IsStored objects r) (pieces_left claimed x)
left_stored objects r claimed x h =
    let left : PieceInfo → Bool = λ (p : PieceInfo). is_left claimed x.summary p.section in
    let read : AllByRecursion (InfoRead (elf_of h.bytes)) x.summary.pieces = subst (AllByRecursion (InfoRead (elf_of h.bytes))) (sym (summary_pieces h.bytes x.summary h.same)) (infos_read (elf_of h.bytes)) in
    all_mapped (section_piece x.number) (IsStored objects r) (filter left x.summary.pieces)
    (all_filter (λ (q : PieceInfo). IsStored objects r (section_piece x.number q)) left x.summary.pieces
    (all_both (info_stored objects r x h) x.summary.pieces read (all_listed x.summary.pieces)))

sections_in_objects : (objects : List (Option (List ℕ))) (r : Resolved) (claimed : List (List ℕ)) (added : List Numbered) → AllByRecursion (AddedStored objects r) added
    → AllByRecursion (IsStored objects r) (flat_map (λ (c : List (List ℕ) × Numbered). pieces_left c.0 c.1) (with_claims claimed added))
sections_in_objects objects r claimed [] h = tt
sections_in_objects objects r claimed (x ∷ xs) h =
    all_append (IsStored objects r) (pieces_left claimed x) (flat_map (λ (c : List (List ℕ) × Numbered). pieces_left c.0 c.1) (with_claims (claimed ++ signatures_in x.summary) xs))
    (left_stored objects r claimed x h.0)
    (sections_in_objects objects r (claimed ++ signatures_in x.summary) xs h.1)

kept_sections_stored : (objects : List (Option (List ℕ))) (r : Resolved) (added : List Numbered) → r.references ≡ references_of (sited_of r.names r.inputs (kept_sections added)) → ((n : ℕ) → times (is_numbered n) added ≤ 1) → AllByRecursion (AddedStored objects r) added → AllByRecursion (KeptInObject objects r) (kept_sections added)
kept_sections_stored objects r added same once in_object =
    all_both {P = IsStored objects r} {Q = HasOwn r} {R = KeptInObject objects r} (λ k h own. record { in_object = h; own = own }) (kept_sections added)
    (sections_in_objects objects r [] added in_object)
    (all_own r added same once (all_map (has_once objects r) added in_object))

-- ---- common blocks and copies

no_section : (objects : List (Option (List ℕ))) (r : Resolved) (k : KeptPiece) (name : ℕ) → k.piece ≡ id.Common name → KeptInObject objects r k
no_section objects r k name e = record {
  in_object = subst (StoredAs objects r k) (sym e) tt;
  own = λ n section is. absurd (let both : id.Section n section ≡ id.Common name = sym is ∙ e in cc);
}

no_section_copy : (objects : List (Option (List ℕ))) (r : Resolved) (k : KeptPiece) (name : ℕ) → k.piece ≡ id.Copy name → KeptInObject objects r k
no_section_copy objects r k name e = record {
  in_object = subst (StoredAs objects r k) (sym e) tt;
  own = λ n section is. absurd (let both : id.Section n section ≡ id.Copy name = sym is ∙ e in cc);
}

with_name : (objects : List (Option (List ℕ))) (r : Resolved) (copies : List ℕ) (name : ℕ) (cs : Contributions) (w : Winner) (others : List KeptPiece) → AllByRecursion (KeptInObject objects r) others → AllByRecursion (KeptInObject objects r) (cons_option (name_piece copies name cs w) others)
with_name objects r copies name cs (winner.Common size align) others h = (no_section objects r _ name refl, h)
with_name objects r copies name cs (winner.Import input symbol) others h = go (is_number_in copies name) (symbol_among cs.list input symbol)
  where
    go : (copied : Bool) (found : Option Global) → AllByRecursion (KeptInObject objects r) (cons_option (cond copied (option_map (copy_piece name) found) None) others)
    go false found = h
    go true None = h
    go true (Some g) = (no_section_copy objects r (copy_piece name g) name refl, h)
with_name objects r copies name cs winner.Nothing others h = h
with_name objects r copies name cs (winner.Strong input symbol) others h = h
with_name objects r copies name cs (winner.Weak input symbol) others h = h
with_name objects r copies name cs winner.Made others h = h

names_stored : (objects : List (Option (List ℕ))) (r : Resolved) (copies : List ℕ) (n : ℕ) (rows : List Contributions) (winners : List Winner) → AllByRecursion (KeptInObject objects r) (filter_map (λ (x : ℕ × (Contributions × Winner)). name_piece copies x.0 x.1.0 x.1.1) (enumerate_from n (zip rows winners)))
names_stored objects r copies n [] winners = tt
names_stored objects r copies n (cs ∷ rows) [] = tt
names_stored objects r copies n (cs ∷ rows) (w ∷ winners) =
    with_name objects r copies n cs w (filter_map (λ (x : ℕ × (Contributions × Winner)). name_piece copies x.0 x.1.0 x.1.1) (enumerate_from (n + 1) (zip rows winners)))
    (names_stored objects r copies (n + 1) rows winners)

-- ---- all kept pieces of a link

pub kept_stored : (objects : List (Option (List ℕ))) (options : OptionRecord) (xs : List Input) → AllByRecursion (HoldsObject objects (resolve options xs).inputs) (resolve options xs).added → AllByRecursion (KeptInObject objects (resolve options xs)) (resolve options xs).kept
unfolding resolve found_of
kept_stored objects options xs in_object =
    let added : List Numbered = added_inputs options.entry xs in
    let found : Found = found_of (paths_of xs) options.entry added in
    let copies : List ℕ = (needs_of found (sited_of found.names xs found.sections)).copies in
    let r : Resolved = resolve options xs in
    all_append (KeptInObject objects r) (kept_sections added) (name_pieces copies found.names found.winners)
    (kept_sections_stored objects r added refl (added_once options.entry xs)
    (all_both {P = λ (x : Numbered). HoldsObject objects xs x.number} {Q = IsIn xs} {R = AddedStored objects r} (added_stored objects r) added
    (sections_of_pieces (HoldsObject objects xs) added in_object)
    (added_are_at options.entry xs)))
    (names_stored objects r copies 0 found.names found.winners)
