-- No two pieces of a full placement share a byte of an output section.
use Rattle.std.specs.Prelude.{◌≡◌, ℕ, Bool, true, false, IsTrue, List, ◌∷◌, ◌++◌, Some, ◌+◌, ◌==◌, ◌<◌, ◌≤◌, ◌⊎◌, refl}
use Rattle.std.specs.List.{AllByRecursion, slice_get}
use Rattle.std.proofs.Common.{arith, inl, inr, sym, ap, subst, ◌∙◌}
use Rattle.std.proofs.lemmas.Bool.{eqb-true}
use Rattle.std.proofs.lemmas.Bool.Decides.{nat_tests}
use Rattle.std.proofs.lemmas.List.{append_assoc}
use Rattle.std.proofs.lemmas.List.Elements.{filter-append}
use Rattle.lk_model.specs.SectionKeys.{same_key, is_numbered_array, is_patched, least_of}
use Rattle.lk_model.specs.FullPlace.{full_place, offset_in, piece_rows, pieces_in}
use Rattle.lk_model.specs.Lawful.{Pairs, pieces_apart, share_nothing}
use Rattle.lk_model.specs.Views.{KeptPiece, Resolved}
use Rattle.lk_model.specs.declared.layouts.SectionKey.{SectionKey}
use Rattle.lk_model.specs.declared.layouts.SectionRow.{SectionRow}
use Rattle.lk_model.proofs.KeysFound.{kept_has_row, same_key_self}
use Rattle.lk_model.proofs.PiecesPlaced.{FoundRow}
use Rattle.lk_law_placement.specs.SoundPieces.{SoundPiece, SoundPieces}
use Rattle.lk_law_placement.proofs.PiecesFit.{IsPlaced, is_placed}
use Rattle.lk_law_placement.proofs.PiecesLists.{all_behind, all_front}
use Rattle.lk_law_placement.proofs.PiecesPatched.{none_or_some, patched_behind}
use Rattle.lk_law_placement.proofs.PiecesWalk.{all_pairs, found_at}
use Rattle.lk_law_placement.proofs.SequencesParted.{sequence_pair}

-- bytes of one of two pieces end where those of the other begin, or before
abbrev Apart : ℕ → ℕ → ℕ → ℕ → Type 0
Apart start size other other_size = (start + size ≤ other) ⊎ (other + other_size ≤ start)

-- what is apart in a section shares no address
share_reported : (base start size other other_size : ℕ) → (0 < size → 0 < other_size → Apart start size other other_size) → IsTrue (share_nothing (base + start) size (base + other) other_size)
share_reported base start size other other_size apart =
    elim (none_or_some size) [
      | inl none ↦ grind (arith, nat_tests, none)
      | inr some ↦
          elim (none_or_some other_size) [
            | inl none ↦ grind (arith, nat_tests, none)
            | inr other_some ↦ reported (apart some other_some)
          ]
    ]
  where
    reported : Apart start size other other_size → IsTrue (share_nothing (base + start) size (base + other) other_size)
    reported (inl before) = grind (arith, nat_tests, before)
    reported (inr behind) = grind (arith, nat_tests, behind)

-- the pieces of a section before the second of two
before_second :
    (key : SectionKey) (earlier : List KeptPiece) (a : KeptPiece) (middle : List KeptPiece)
    → same_key a.key key ≡ true
    → pieces_in key (earlier ++ a ∷ middle) ≡ pieces_in key earlier ++ a ∷ pieces_in key middle
before_second key earlier a middle same =
    filter-append (λ (p : KeptPiece). same_key p.key key) earlier (a ∷ middle) ∙ ap (λ xs. pieces_in key earlier ++ xs) (rw same refl)

-- two pieces of one section
same_section :
    (r : Resolved) (earlier : List KeptPiece) (a : KeptPiece) (middle : List KeptPiece) (b : KeptPiece) (more : List KeptPiece) (row : SectionRow)
    → IsPlaced r earlier a (middle ++ b ∷ more) row
    → IsPlaced r (earlier ++ a ∷ middle) b more row
    → 0 < a.size
    → 0 < b.size
    → Apart (offset_in row r.kept earlier a) a.size (offset_in row r.kept (earlier ++ a ∷ middle) b) b.size
same_section r earlier a middle b more row p q filled_a filled_b = go (is_patched row.key) refl
  where
    before : pieces_in row.key (earlier ++ a ∷ middle) ≡ pieces_in row.key earlier ++ a ∷ pieces_in row.key middle
    before = before_second row.key earlier a middle (rw (p.keys) (same_key_self a.key))

    split : pieces_in row.key r.kept ≡ (pieces_in row.key earlier ++ a ∷ pieces_in row.key middle) ++ b ∷ pieces_in row.key more
    split = q.split ∙ ap (λ xs. xs ++ b ∷ pieces_in row.key more) before

    sound_middle : AllByRecursion SoundPiece (pieces_in row.key middle)
    sound_middle =
        let all = subst (AllByRecursion SoundPiece) split q.all_sound in
        all_behind SoundPiece (pieces_in row.key earlier ++ a ∷ pieces_in row.key middle) (pieces_in row.key earlier) a (pieces_in row.key middle) refl
        (all_front SoundPiece (pieces_in row.key earlier ++ a ∷ pieces_in row.key middle) (b ∷ pieces_in row.key more) all)

    go : (k : Bool) → is_patched row.key ≡ k → Apart (offset_in row r.kept earlier a) a.size (offset_in row r.kept (earlier ++ a ∷ middle) b) b.size
    go true e =
        let behind = patched_behind row.room (least_of row.key) (pieces_in row.key earlier) a (pieces_in row.key middle) b p.sound sound_middle q.sound filled_a filled_b in
        rw e (rw before (inl behind))
    go false e =
        let pair = sequence_pair (is_numbered_array row.key) (pieces_in row.key r.kept) (pieces_in row.key earlier) a (pieces_in row.key middle) b (pieces_in row.key more) split q.all_sound p.sound q.sound in
        rw e (rw before pair)

-- rows of one number are one
one_row : (rows : List SectionRow) (m n : ℕ) (row other : SectionRow) → slice_get rows m ≡ Some row → slice_get rows n ≡ Some other → m ≡ n → other ≡ row
one_row rows m n row other first second same = cc

-- two pieces share no byte
pair_reported :
    (r : Resolved) (earlier : List KeptPiece) (a : KeptPiece) (middle : List KeptPiece) (b : KeptPiece) (more : List KeptPiece)
    → SoundPieces r
    → r.kept ≡ (earlier ++ a ∷ middle) ++ b ∷ more
    → (f : FoundRow (full_place r).sections a.key 0)
    → (g : FoundRow (full_place r).sections b.key 0)
    → IsTrue (pieces_apart (found_at (full_place r).sections r.kept earlier a f) (found_at (full_place r).sections r.kept (earlier ++ a ∷ middle) b g))
pair_reported r earlier a middle b more sound split f g = go (f.number == g.number) refl
  where
    go : (same : Bool) → (f.number == g.number) ≡ same → IsTrue (pieces_apart (found_at (full_place r).sections r.kept earlier a f) (found_at (full_place r).sections r.kept (earlier ++ a ∷ middle) b g))
    go false e = rw e refl
    go true e =
        let numbers = eqb-true f.number g.number e in
        let rows : g.row ≡ f.row = one_row (full_place r).sections f.number g.number f.row g.row f.there g.there numbers in
        let p = is_placed r earlier a (middle ++ b ∷ more) sound (split ∙ append_assoc earlier (a ∷ middle) (b ∷ more)) f in
        let q = subst (IsPlaced r (earlier ++ a ∷ middle) b more) rows (is_placed r (earlier ++ a ∷ middle) b more sound split g) in
        let reported =
        share_reported f.row.addr (offset_in f.row r.kept earlier a) a.size (offset_in f.row r.kept (earlier ++ a ∷ middle) b) b.size
        (same_section r earlier a middle b more f.row p q) in
        rw e (subst (λ (row : SectionRow). IsTrue (share_nothing (f.row.addr + offset_in f.row r.kept earlier a) a.size (row.addr + offset_in row r.kept (earlier ++ a ∷ middle) b) b.size)) (sym rows) reported)

-- no two pieces of a full placement do
pub full_pieces_share_nothing : (r : Resolved) → SoundPieces r → Pairs (λ a b. IsTrue (pieces_apart a b)) (full_place r).pieces
unfolding full_place piece_rows
full_pieces_share_nothing r sound =
    all_pairs (full_place r).sections r.kept (λ a b. IsTrue (pieces_apart a b))
    (λ earlier a middle b more split f g. pair_reported r earlier a middle b more sound split f g)
    (kept_has_row r)
