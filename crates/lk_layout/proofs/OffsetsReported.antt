-- The offsets that a cursor gives are those behind the earlier pieces.
use Rattle.std.specs.Prelude.{◌≡◌, refl, ℕ, Bool, true, false, if◌then◌else◌, List, [], ◌∷◌, ◌++◌, fold}
use Rattle.std.proofs.Common.{sym, ap, ◌∙◌}
use Rattle.std.proofs.lemmas.List.Sums.{fold-append}
use Rattle.lk_model.specs.declared.layouts.SectionKey.{SectionKey}
use Rattle.lk_model.specs.FullPlace.{offset_in_sequence}
use Rattle.lk_model.specs.Rooms.{before_in_sequence, patched_end, patched_next, patched_offset, sequence_end, sequence_offset}
use Rattle.lk_model.specs.SectionKeys.{is_numbered_array, is_patched, least_of}
use Rattle.lk_model.specs.Views.{KeptPiece}
use Rattle.lk_layout.specs.Walked.{array_offsets, offsets_after, patched_offsets, sequence_next, sequence_offsets}

patched_on : (key : SectionKey) (all earlier pieces : List KeptPiece) → is_patched key ≡ true → patched_offsets (least_of key) (patched_end (least_of key) earlier) pieces ≡ offsets_after key all earlier pieces
patched_on key all earlier [] patched = refl
patched_on key all earlier (p ∷ ps) patched =
    let least = least_of key in
    let next : patched_next least (patched_end least earlier) p ≡ patched_end least (earlier ++ p ∷ []) = sym (fold-append (patched_next least) 0 earlier (p ∷ [])) in
    let rest : patched_offsets least (patched_next least (patched_end least earlier) p) ps ≡ offsets_after key all (earlier ++ p ∷ []) ps = ap (λ cursor. patched_offsets least cursor ps) next ∙ patched_on key all (earlier ++ p ∷ []) ps patched in
    rw patched (ap (λ (os : List ℕ). patched_offset least (patched_end least earlier) p ∷ os) rest)

pub patched_reported : (key : SectionKey) (pieces : List KeptPiece) → is_patched key ≡ true → patched_offsets (least_of key) 0 pieces ≡ offsets_after key pieces [] pieces
patched_reported key pieces patched = patched_on key pieces [] pieces patched

-- of a sequence, and of an array of functions
abbrev end_before : Bool → List KeptPiece → List KeptPiece → KeptPiece → ℕ
end_before array all earlier p = sequence_end (before_in_sequence array all earlier p)

unpatched : (key : SectionKey) (all earlier : List KeptPiece) (p : KeptPiece) (ps : List KeptPiece) (array : Bool) → is_patched key ≡ false → is_numbered_array key ≡ array → offsets_after key all earlier (p ∷ ps) ≡ sequence_offset (end_before array all earlier p) p ∷ offsets_after key all (earlier ++ p ∷ []) ps
unpatched key all earlier p ps array patched is =
    ap (λ b. (if b then patched_offset (least_of key) (patched_end (least_of key) earlier) p else offset_in_sequence key all earlier p) ∷ offsets_after key all (earlier ++ p ∷ []) ps) patched
    ∙ ap (λ a. sequence_offset (end_before a all earlier p) p ∷ offsets_after key all (earlier ++ p ∷ []) ps) is

array_on : (key : SectionKey) (all earlier pieces : List KeptPiece) → is_patched key ≡ false → is_numbered_array key ≡ true → array_offsets all earlier pieces ≡ offsets_after key all earlier pieces
array_on key all earlier [] patched array = refl
array_on key all earlier (p ∷ ps) patched array =
    ap (λ (os : List ℕ). sequence_offset (end_before true all earlier p) p ∷ os) (array_on key all (earlier ++ p ∷ []) ps patched array)
    ∙ sym (unpatched key all earlier p ps true patched array)

pub array_reported : (key : SectionKey) (pieces : List KeptPiece) → is_patched key ≡ false → is_numbered_array key ≡ true → array_offsets pieces [] pieces ≡ offsets_after key pieces [] pieces
array_reported key pieces patched array = array_on key pieces [] pieces patched array

sequence_on : (key : SectionKey) (all earlier pieces : List KeptPiece) → is_patched key ≡ false → is_numbered_array key ≡ false → sequence_offsets (sequence_end earlier) pieces ≡ offsets_after key all earlier pieces
sequence_on key all earlier [] patched array = refl
sequence_on key all earlier (p ∷ ps) patched array =
    let next : sequence_next (sequence_end earlier) p ≡ sequence_end (earlier ++ p ∷ []) = sym (fold-append sequence_next 0 earlier (p ∷ [])) in
    ap (λ (os : List ℕ). sequence_offset (sequence_end earlier) p ∷ os) (ap (λ cursor. sequence_offsets cursor ps) next ∙ sequence_on key all (earlier ++ p ∷ []) ps patched array)
    ∙ sym (unpatched key all earlier p ps false patched array)

pub sequence_reported : (key : SectionKey) (pieces : List KeptPiece) → is_patched key ≡ false → is_numbered_array key ≡ false → sequence_offsets 0 pieces ≡ offsets_after key pieces [] pieces
sequence_reported key pieces patched array = sequence_on key pieces [] pieces patched array
