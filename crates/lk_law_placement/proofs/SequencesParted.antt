-- A piece in the sequence of its section's pieces: it is behind those that are before it there, ends
-- where the sequence ends or before, and of two pieces one is behind the other.
use Rattle.std.specs.Prelude.{◌≡◌, ℕ, Bool, true, false, List, ◌∷◌, ◌++◌, ◌+◌, ◌<◌, ◌≤◌, ◌==◌, ◌⊎◌, nat_lt, filter, take_while, refl}
use Rattle.std.specs.List.{AllByRecursion}
use Rattle.std.proofs.Common.{arith, inl, inr, sym, ap, subst, ◌∙◌}
use Rattle.std.proofs.lemmas.Bool.{cases_lt, eq-eqb}
use Rattle.std.proofs.lemmas.Bool.Decides.{nat_tests}
use Rattle.std.proofs.lemmas.List.{append_assoc}
use Rattle.std.proofs.lemmas.List.Elements.{filter-append}
use Rattle.lk_model.specs.Rooms.{array_rank, before_in_sequence, by_number, sequence_end, sequence_of, sequence_offset}
use Rattle.lk_model.specs.Views.{KeptPiece}
use Rattle.lk_model.proofs.PiecesApart.{sequence_apart, sequence_ends_below}
use Rattle.lk_model.proofs.RowsAgain.{filter_under}
use Rattle.lk_law_placement.specs.SoundPieces.{SoundPiece}
use Rattle.lk_law_placement.proofs.PiecesLists.{all_front, all_behind}
use Rattle.lk_law_placement.proofs.PiecesPatched.{sound_aligned}
use Rattle.lk_law_placement.proofs.PiecesPowers.{power_positive}
use Rattle.lk_law_placement.proofs.SequencesByNumber.{by_number_among, by_number_ordered, front_below, ordered_filter, ordered_in_three, sequence_all}
use Rattle.lk_law_placement.proofs.SequencesSorted.{is_above, is_below, is_of}

regroup : (front earlier : List KeptPiece) (piece : KeptPiece) (more behind : List KeptPiece) → front ++ ((earlier ++ piece ∷ more) ++ behind) ≡ (front ++ earlier) ++ piece ∷ (more ++ behind)
regroup front earlier piece more behind = simp append_assoc

of_itself : (piece : KeptPiece) → is_of (array_rank piece) piece ≡ true
of_itself piece = eq-eqb (array_rank piece) (array_rank piece) refl

-- those of a piece's number, where the piece is among all
among_its_number :
    (pieces earlier : List KeptPiece) (piece : KeptPiece) (more : List KeptPiece)
    → pieces ≡ earlier ++ piece ∷ more
    → filter (is_of (array_rank piece)) pieces ≡ filter (is_of (array_rank piece)) earlier ++ piece ∷ filter (is_of (array_rank piece)) more
among_its_number pieces earlier piece more split =
    ap (filter (is_of (array_rank piece))) split
    ∙ (filter-append (is_of (array_rank piece)) earlier (piece ∷ more)
    ∙ ap (λ xs. filter (is_of (array_rank piece)) earlier ++ xs) (rw (of_itself piece) refl))

-- ---- a piece in its sequence

-- the pieces of the sequence are those before the piece, the piece and others
pub record IsIn (numbered : Bool) (pieces earlier : List KeptPiece) (piece : KeptPiece) : Type 0 where
  pub after : List KeptPiece
  pub whole : sequence_of numbered pieces ≡ before_in_sequence numbered pieces earlier piece ++ piece ∷ after

pub is_in : (numbered : Bool) (pieces earlier : List KeptPiece) (piece : KeptPiece) (more : List KeptPiece) → pieces ≡ earlier ++ piece ∷ more → IsIn numbered pieces earlier piece
is_in false pieces earlier piece more split = record { after = more; whole = split }
is_in true pieces earlier piece more split =
    let rank : ℕ = array_rank piece in
    let sorted : List KeptPiece = by_number pieces in
    let front : List KeptPiece = take_while (is_below rank) sorted in
    let among = among_its_number pieces earlier piece more split in
    record {
      after = filter (is_of rank) more ++ filter (is_above rank) sorted;
      whole =
          ordered_in_three rank sorted (by_number_ordered pieces)
          ∙ (ap (λ xs. xs ++ (filter (is_of rank) sorted ++ filter (is_above rank) sorted)) (sym (front_below rank sorted (by_number_ordered pieces)))
          ∙ (ap (λ xs. front ++ (xs ++ filter (is_above rank) sorted)) (by_number_among rank pieces ∙ among)
          ∙ regroup front (filter (is_of rank) earlier) piece (filter (is_of rank) more) (filter (is_above rank) sorted)));
    }

-- ---- two pieces

-- b is behind a: what is before it is what is before a, a and others
abbrev pub IsBehind : Bool → List KeptPiece → List KeptPiece → KeptPiece → List KeptPiece → KeptPiece → Type 0
IsBehind numbered pieces earlier_a a earlier_b b =
    (between : List KeptPiece) × (before_in_sequence numbered pieces earlier_b b ≡ before_in_sequence numbered pieces earlier_a a ++ a ∷ between)

below_further : (n rank more : ℕ) → rank < more → nat_lt n rank ≡ true → nat_lt n more ≡ true
below_further n rank more under below = grind (arith, nat_tests)

of_below : (n rank more : ℕ) → rank < more → (n == rank) ≡ true → nat_lt n more ≡ true
of_below n rank more under same = grind (arith, nat_tests)

-- what is below a greater number begins with what is before a piece, and the piece
below_greater :
    (pieces earlier : List KeptPiece) (piece : KeptPiece) (more : List KeptPiece) (greater : ℕ)
    → pieces ≡ earlier ++ piece ∷ more
    → array_rank piece < greater
    → (between : List KeptPiece) × (take_while (is_below greater) (by_number pieces) ≡ before_in_sequence true pieces earlier piece ++ piece ∷ between)
below_greater pieces earlier piece more greater split under =
    let rank : ℕ = array_rank piece in
    let sorted : List KeptPiece = by_number pieces in
    let ordered = by_number_ordered pieces in
    let low : List KeptPiece = filter (is_below greater) sorted in
    let behind : List KeptPiece = filter (is_above rank) low in
    let among = among_its_number pieces earlier piece more split in
    let first : filter (is_below rank) low ≡ take_while (is_below rank) sorted =
    filter_under (is_below rank) (is_below greater) sorted (λ (x : KeptPiece) e. below_further (array_rank x) rank greater under e) ∙ sym (front_below rank sorted ordered) in
    let second : filter (is_of rank) low ≡ filter (is_of rank) earlier ++ piece ∷ filter (is_of rank) more =
    filter_under (is_of rank) (is_below greater) sorted (λ (x : KeptPiece) e. of_below (array_rank x) rank greater under e) ∙ (by_number_among rank pieces ∙ among) in (
      filter (is_of rank) more ++ behind,
      front_below greater sorted ordered
          ∙ (ordered_in_three rank low (ordered_filter (is_below greater) sorted ordered)
          ∙ (ap (λ xs. xs ++ (filter (is_of rank) low ++ behind)) first
          ∙ (ap (λ xs. take_while (is_below rank) sorted ++ (xs ++ behind)) second
          ∙ regroup (take_while (is_below rank) sorted) (filter (is_of rank) earlier) piece (filter (is_of rank) more) behind))),
    )

-- so a piece is behind one of a less number
behind_less :
    (pieces earlier_a : List KeptPiece) (a : KeptPiece) (more_a earlier_b : List KeptPiece) (b : KeptPiece)
    → pieces ≡ earlier_a ++ a ∷ more_a
    → array_rank a < array_rank b
    → IsBehind true pieces earlier_a a earlier_b b
behind_less pieces earlier_a a more_a earlier_b b split less =
    let low = below_greater pieces earlier_a a more_a (array_rank b) split less in
    let own : List KeptPiece = filter (is_of (array_rank b)) earlier_b in (
      low.0 ++ own,
      ap (λ xs. xs ++ own) low.1 ∙ append_assoc (before_in_sequence true pieces earlier_a a) (a ∷ low.0) own,
    )

-- and behind one of its own number that was added before it
behind_same :
    (pieces earlier : List KeptPiece) (a : KeptPiece) (middle : List KeptPiece) (b : KeptPiece)
    → array_rank a ≡ array_rank b
    → IsBehind true pieces earlier a (earlier ++ a ∷ middle) b
behind_same pieces earlier a middle b same =
    let rank : ℕ = array_rank a in
    let front : List KeptPiece = take_while (is_below rank) (by_number pieces) in (
      filter (is_of rank) middle,
      ap (λ n. take_while (is_below n) (by_number pieces) ++ filter (is_of n) (earlier ++ a ∷ middle)) (sym same)
          ∙ (ap (λ xs. front ++ xs) (among_its_number (earlier ++ a ∷ middle) earlier a middle refl)
          ∙ sym (append_assoc front (filter (is_of rank) earlier) (a ∷ filter (is_of rank) middle))),
    )

-- of two pieces one is behind the other
pub one_behind :
    (numbered : Bool) (pieces earlier : List KeptPiece) (a : KeptPiece) (middle : List KeptPiece) (b : KeptPiece) (more : List KeptPiece)
    → pieces ≡ (earlier ++ a ∷ middle) ++ b ∷ more
    → IsBehind numbered pieces earlier a (earlier ++ a ∷ middle) b ⊎ IsBehind numbered pieces (earlier ++ a ∷ middle) b earlier a
one_behind false pieces earlier a middle b more split = inl (middle, refl)
one_behind true pieces earlier a middle b more split =
    elim (cases_lt (array_rank a) (array_rank b)) [
      | inl less ↦ inl (behind_less pieces earlier a (middle ++ b ∷ more) (earlier ++ a ∷ middle) b (split ∙ append_assoc earlier (a ∷ middle) (b ∷ more)) less)
      | inr not_less ↦
          elim (cases_lt (array_rank b) (array_rank a)) [
            | inl greater ↦ inr (behind_less pieces (earlier ++ a ∷ middle) b more earlier a split greater)
            | inr not_greater ↦ inl (behind_same pieces earlier a middle b (omega (arith, not_less, not_greater)))
          ]
    ]

-- ---- in numbers

-- the offset of a piece in its sequence
abbrev pub place_of : Bool → List KeptPiece → List KeptPiece → KeptPiece → ℕ
place_of numbered pieces earlier piece = sequence_offset (sequence_end (before_in_sequence numbered pieces earlier piece)) piece

-- a piece ends where the sequence ends or before
pub sequence_fits :
    (numbered : Bool) (pieces earlier : List KeptPiece) (piece : KeptPiece) (more : List KeptPiece)
    → pieces ≡ earlier ++ piece ∷ more
    → AllByRecursion SoundPiece pieces
    → place_of numbered pieces earlier piece + piece.size ≤ sequence_end (sequence_of numbered pieces)
sequence_fits numbered pieces earlier piece more split sound =
    let is_at = is_in numbered pieces earlier piece more split in
    let before : List KeptPiece = before_in_sequence numbered pieces earlier piece in
    let sound_after = all_behind SoundPiece (sequence_of numbered pieces) before piece is_at.after is_at.whole (sequence_all SoundPiece numbered pieces sound) in
    let below = sequence_ends_below before piece is_at.after (sound_aligned is_at.after sound_after) in
    let ends : sequence_end (sequence_of numbered pieces) ≡ sequence_end (before ++ piece ∷ is_at.after) = ap sequence_end is_at.whole in
    omega (arith, below, ends)

behind_in_numbers :
    (numbered : Bool) (pieces earlier_a : List KeptPiece) (a : KeptPiece) (earlier_b : List KeptPiece) (b : KeptPiece) (more_b : List KeptPiece)
    → pieces ≡ earlier_b ++ b ∷ more_b
    → AllByRecursion SoundPiece pieces
    → SoundPiece b
    → IsBehind numbered pieces earlier_a a earlier_b b
    → place_of numbered pieces earlier_a a + a.size ≤ place_of numbered pieces earlier_b b
behind_in_numbers numbered pieces earlier_a a earlier_b b more_b split sound sound_b behind =
    let is_at = is_in numbered pieces earlier_b b more_b split in
    let before_a : List KeptPiece = before_in_sequence numbered pieces earlier_a a in
    let before_b : List KeptPiece = before_in_sequence numbered pieces earlier_b b in
    let all = subst (AllByRecursion SoundPiece) is_at.whole (sequence_all SoundPiece numbered pieces sound) in
    let sound_before = all_front SoundPiece before_b (b ∷ is_at.after) all in
    let sound_between = all_behind SoundPiece before_b before_a a behind.0 behind.1 sound_before in
    let apart = sequence_apart before_a a behind.0 b (sound_aligned behind.0 sound_between) (power_positive b.align sound_b.aligned) in
    let place : place_of numbered pieces earlier_b b ≡ sequence_offset (sequence_end (before_a ++ a ∷ behind.0)) b = ap (λ xs. sequence_offset (sequence_end xs) b) behind.1 in
    omega (arith, apart, place)

-- two pieces of a sequence share no byte
pub sequence_pair :
    (numbered : Bool) (pieces earlier : List KeptPiece) (a : KeptPiece) (middle : List KeptPiece) (b : KeptPiece) (more : List KeptPiece)
    → pieces ≡ (earlier ++ a ∷ middle) ++ b ∷ more
    → AllByRecursion SoundPiece pieces
    → SoundPiece a
    → SoundPiece b
    → (place_of numbered pieces earlier a + a.size ≤ place_of numbered pieces (earlier ++ a ∷ middle) b)
    ⊎ (place_of numbered pieces (earlier ++ a ∷ middle) b + b.size ≤ place_of numbered pieces earlier a)
sequence_pair numbered pieces earlier a middle b more split sound sound_a sound_b =
    elim (one_behind numbered pieces earlier a middle b more split) [
      | inl behind ↦ inl (behind_in_numbers numbered pieces earlier a (earlier ++ a ∷ middle) b more split sound sound_b behind)
      | inr before ↦ inr (behind_in_numbers numbered pieces (earlier ++ a ∷ middle) b earlier a (middle ++ b ∷ more) (split ∙ append_assoc earlier (a ∷ middle) (b ∷ more)) sound sound_a before)
    ]
