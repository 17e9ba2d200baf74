-- The names of the output sections of a full placement hold no zero byte and are not those of the sections
-- of records, where the names of the pieces are so.
use Rattle.std.specs.Prelude.{◌≡◌, refl, ℕ, ◌==◌, Bool, true, false, if◌then◌else◌, List, [], ◌∷◌, ◌++◌, codes, cond, filter, find, Some, flat_map, fold, map, unwrap_or}
use Rattle.std.specs.List.{AllByRecursion, list_any, range_with_len}
use Rattle.std.proofs.Common.{sym, subst}
use Rattle.lk_model.specs.Adding.{added_inputs}
use Rattle.lk_model.specs.DynamicSizes.{dynamic_table_sizes}
use Rattle.lk_model.specs.FullPlace.{full_place}
use Rattle.lk_model.specs.KeptPieces.{kept_sections}
use Rattle.lk_model.specs.Numbered.{Numbered}
use Rattle.lk_model.specs.Pieces.{common_names, goes_under, output_name}
use Rattle.lk_model.specs.SectionKeys.{same_key}
use Rattle.lk_model.specs.SectionOrder.{dynamic_sizes_where, each_once, existing_keys, in_order, section_keys, section_rank, slots_of, table_sizes}
use Rattle.lk_model.specs.Views.{Input, KeptPiece, Resolved}
use Rattle.lk_model.specs.declared.layouts.Class.{Class}
use Rattle.lk_model.specs.declared.layouts.Class.TheVariants.{R, X, W, WX, Tdata, Tbss, Bss, N}
use Rattle.lk_model.specs.declared.layouts.Placement.{Placement}
use Rattle.lk_model.specs.declared.layouts.SectionKey.{SectionKey}
use Rattle.lk_model.specs.declared.layouts.SectionRow.{SectionRow}
use Rattle.lk_model.specs.declared.layouts.SlotTable.{SlotTable}
use Rattle.lk_model.specs.declared.summaries.InputSummary.{InputSummary}
use Rattle.lk_model.specs.declared.summaries.PieceInfo.{PieceInfo}
use Rattle.lk_model.proofs.InOrder.{full_keys}
use Rattle.lk_model.proofs.Rising.{all_filter, all_of_map}
use Rattle.lk_law_records.specs.Recordable.{InputFits, PieceFits, has_zero, is_record_name}
use Rattle.lk_model.proofs.AddedOnce.{IsOf, added_of}
use Rattle.lk_law_records.proofs.Candidates.{candidates, kept-within, sections_of}
use Rattle.lk_law_records.proofs.LinkRead.{IsFull}
use Rattle.lk_law_records.proofs.Lists.{all-append, all-at, all-mapped, all-placed}
use Rattle.lk_law_records.proofs.PlacedAgain.{found-there}
use Rattle.lk_law_records.proofs.Within.{Same, within-all}

-- a name that is neither cut short nor that of a section of records
abbrev pub IsPlainName : List ℕ → Type 0
IsPlainName name = (has_zero name ≡ false) × (is_record_name name ≡ false)

abbrev pub IsPlainKey : SectionKey → Type 0
IsPlainKey key = IsPlainName key.name

-- ---- the name of an output section

among-plain : (test : List ℕ → Bool) (names : List (List ℕ)) (other : List ℕ) → AllByRecursion IsPlainName names → IsPlainName other → IsPlainName (unwrap_or (find test names) other)
among-plain test [] other all own = own
among-plain test (name ∷ names) other (here, more) own = go (test name) (among-plain test names other more own)
  where
    go : (b : Bool) → IsPlainName (unwrap_or (find test names) other) → IsPlainName (unwrap_or (cond b (Some name) (find test names)) other)
    go true rest = here
    go false rest = rest

common-plain : AllByRecursion IsPlainName common_names
unfolding common_names
common-plain =
    ((refl, refl), ((refl, refl), ((refl, refl), ((refl, refl), ((refl, refl), ((refl, refl), ((refl, refl), ((refl, refl), ((refl, refl), tt)))))))))

output-plain : (class : Class) (name : List ℕ) → IsPlainName name → IsPlainName (output_name class name)
unfolding output_name
output-plain R name own = among-plain (goes_under name) common_names name common-plain own
output-plain X name own = among-plain (goes_under name) common_names name common-plain own
output-plain W name own = among-plain (goes_under name) common_names name common-plain own
output-plain WX name own = among-plain (goes_under name) common_names name common-plain own
output-plain Tdata name own = (refl, refl)
output-plain Tbss name own = (refl, refl)
output-plain Bss name own = among-plain (goes_under name) common_names name common-plain own
output-plain N name own = own

piece-plain : (p : PieceInfo) → PieceFits p → is_record_name p.name ≡ false → IsPlainKey p.key
piece-plain p fits other = subst IsPlainName (sym fits.key) (output-plain p.key.class p.name (fits.name, other))

-- ---- the keys of kept pieces

abbrev pub HasPlainPieces : Input → Type 0
HasPlainPieces i = AllByRecursion (λ (p : PieceInfo). IsPlainKey p.key) i.summary.pieces

sections-plain : (n : ℕ) (ps : List PieceInfo) → AllByRecursion (λ (p : PieceInfo). IsPlainKey p.key) ps → AllByRecursion (λ (c : KeptPiece). (k : KeptPiece) → Same k c → IsPlainKey k.key) (sections_of n ps)
sections-plain n [] all = tt
sections-plain n (p ∷ ps) (here, more) = (λ k same. subst (λ (x : KeptPiece). IsPlainKey x.key) (sym same) here, sections-plain n ps more)

candidates-plain : (inputs : List Input) (added : List Numbered) → AllByRecursion HasPlainPieces inputs → AllByRecursion (IsOf inputs) added
    → AllByRecursion (λ (c : KeptPiece). (k : KeptPiece) → Same k c → IsPlainKey k.key) (candidates added)
candidates-plain inputs [] all each = tt
candidates-plain inputs (m ∷ ms) all (here, more) =
    let there = found-there inputs m here in
    let own : AllByRecursion (λ (p : PieceInfo). IsPlainKey p.key) m.summary.pieces =
    subst (λ (s : InputSummary). AllByRecursion (λ (p : PieceInfo). IsPlainKey p.key) s.pieces) there.1.1 (all-at HasPlainPieces inputs m.number there.0 all there.1.0) in
    all-append (λ (c : KeptPiece). (k : KeptPiece) → Same k c → IsPlainKey k.key) (sections_of m.number m.summary.pieces) (candidates ms)
    (sections-plain m.number m.summary.pieces own) (candidates-plain inputs ms all more)

bss-plain : (ks : List KeptPiece) → AllByRecursion (λ (k : KeptPiece). k.key ≡ record { name = codes ".bss"; class = Bss }) ks → AllByRecursion (λ (k : KeptPiece). IsPlainKey k.key) ks
bss-plain [] all = tt
bss-plain (k ∷ ks) (here, more) = (subst IsPlainKey (sym here) (refl, refl), bss-plain ks more)

kept-plain : (r : Resolved) (place : Placement) → IsFull r place → AllByRecursion HasPlainPieces r.inputs → AllByRecursion (λ (k : KeptPiece). IsPlainKey k.key) r.kept
kept-plain r place full all =
    let added = added_inputs r.options.entry r.inputs in
    let sections : AllByRecursion (λ (k : KeptPiece). IsPlainKey k.key) (kept_sections added) =
    within-all Same (λ (k : KeptPiece). IsPlainKey k.key) (kept_sections added) (candidates added) (kept-within added) (candidates-plain r.inputs added all (added_of r.options.entry r.inputs)) in
    subst (AllByRecursion (λ (k : KeptPiece). IsPlainKey k.key)) (sym full.kept)
    (all-append (λ (k : KeptPiece). IsPlainKey k.key) (kept_sections added) full.names sections (bss-plain full.names full.bss))

-- ---- the keys of output sections

once-plain : (seen keys : List SectionKey) → AllByRecursion IsPlainKey seen → AllByRecursion IsPlainKey keys
    → AllByRecursion IsPlainKey (fold (λ seen key. if list_any (same_key key) seen then seen else seen ++ key ∷ []) seen keys)
once-plain seen [] all more = all
once-plain seen (key ∷ keys) all (here, more) =
    once-plain (if list_any (same_key key) seen then seen else seen ++ key ∷ []) keys (go (list_any (same_key key) seen)) more
  where
    go : (b : Bool) → AllByRecursion IsPlainKey (if b then seen else seen ++ key ∷ [])
    go true = all
    go false = all-append IsPlainKey seen (key ∷ []) all (here, tt)

if-all : {X : Type 0} (P : X → Type 0) (b : Bool) (xs ys : List X) → AllByRecursion P xs → AllByRecursion P ys → AllByRecursion P (if b then xs else ys)
if-all P true xs ys first second = first
if-all P false xs ys first second = second

dynamic-plain : (b : Bool) (r : Resolved) (keys : List SectionKey) (slots : SlotTable) → AllByRecursion (λ (t : SectionKey × ℕ). IsPlainKey t.0) (dynamic_sizes_where b r keys slots)
unfolding dynamic_table_sizes
dynamic-plain true r keys slots =
    if-all (λ (t : SectionKey × ℕ). IsPlainKey t.0) r.options.dynamic _ []
    ((refl, refl), ((refl, refl), ((refl, refl), ((refl, refl), ((refl, refl), ((refl, refl), ((refl, refl), ((refl, refl), tt)))))))) tt
dynamic-plain false r keys slots = tt

tables-plain : (r : Resolved) (slots : SlotTable) → AllByRecursion (λ (t : SectionKey × ℕ). IsPlainKey t.0) (table_sizes r slots)
unfolding table_sizes
tables-plain r slots =
    ((refl, refl), ((refl, refl), dynamic-plain r.options.dynamic r (each_once (map (λ (piece : KeptPiece). piece.key) r.kept)) slots))

ranks-plain : (keys : List SectionKey) (ranks : List ℕ) → AllByRecursion IsPlainKey keys → AllByRecursion IsPlainKey (flat_map (λ rank. filter (λ key. section_rank key == rank) keys) ranks)
ranks-plain keys [] all = tt
ranks-plain keys (rank ∷ ranks) all =
    all-append IsPlainKey (filter (λ key. section_rank key == rank) keys) (flat_map (λ rank. filter (λ key. section_rank key == rank) keys) ranks)
    (all_filter IsPlainKey (λ key. section_rank key == rank) keys all) (ranks-plain keys ranks all)

keys-plain : (r : Resolved) → AllByRecursion (λ (k : KeptPiece). IsPlainKey k.key) r.kept → AllByRecursion IsPlainKey (section_keys r)
unfolding section_keys in_order
keys-plain r all =
    let pieces = once-plain [] (map (λ (piece : KeptPiece). piece.key) r.kept) tt (all-mapped (λ (piece : KeptPiece). piece.key) IsPlainKey r.kept all) in
    let slots = slots_of r.needs in
    let tables = all-mapped (λ (row : SectionKey × ℕ). row.0) IsPlainKey (table_sizes r slots) (tables-plain r slots) in
    ranks-plain (existing_keys r) (range_with_len 0 31)
    (all-append IsPlainKey (each_once (map (λ (piece : KeptPiece). piece.key) r.kept)) (map (λ (row : SectionKey × ℕ). row.0) (table_sizes r slots)) pieces tables)

-- an input whose pieces fit and have other names than the sections of records
pub inputs-plain : (inputs : List Input) → AllByRecursion InputFits inputs → AllByRecursion (λ (i : Input). AllByRecursion (λ (p : PieceInfo). is_record_name p.name ≡ false) i.summary.pieces) inputs
    → AllByRecursion HasPlainPieces inputs
inputs-plain inputs fits other =
    all-placed HasPlainPieces inputs (λ n i found.
    let own = all-at InputFits inputs n i fits found in
    let names = all-at (λ (x : Input). AllByRecursion (λ (p : PieceInfo). is_record_name p.name ≡ false) x.summary.pieces) inputs n i other found in
    all-placed (λ (p : PieceInfo). IsPlainKey p.key) i.summary.pieces (λ k p at.
    piece-plain p (all-at PieceFits i.summary.pieces k p own.summary.pieces at) (all-at (λ (x : PieceInfo). is_record_name x.name ≡ false) i.summary.pieces k p names at)))

-- the rows of a full placement
pub rows-plain : (r : Resolved) → IsFull r (full_place r) → AllByRecursion HasPlainPieces r.inputs → AllByRecursion (λ (row : SectionRow). IsPlainKey row.key) (full_place r).sections
rows-plain r full all =
    all_of_map (λ (row : SectionRow). row.key) IsPlainKey (full_place r).sections
    (subst (AllByRecursion IsPlainKey) (sym (full_keys r)) (keys-plain r (kept-plain r (full_place r) full all)))
