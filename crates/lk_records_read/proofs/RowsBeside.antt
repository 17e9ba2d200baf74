-- An output section beside those before it, by what is noted of them.
use Rattle.std.specs.Prelude.{◌≡◌, refl, ℕ, ◌&&◌, ◌||◌, not, Bool, true, false, List, [], ◌∷◌, ◌++◌, map, Result, Ok, Err}
use Rattle.std.specs.List.{list_all, list_any}
use Rattle.std.proofs.Common.{ap, sym, subst, ◌∙◌}
use Rattle.lk_model.specs.Lawful.{share_nothing}
use Rattle.lk_model.specs.RecordRefusals.{has_own_addresses, row_is_beside, share_no_address, share_no_file_byte}
use Rattle.lk_model.specs.SectionKeys.{in_file, same_key}
use Rattle.lk_model.specs.declared.layouts.SectionKey.{SectionKey}
use Rattle.lk_model.specs.declared.layouts.SectionRow.{SectionRow}
use Rattle.lk_report.specs.declared.memory.NoMemory.{NoMemory}
use Rattle.lk_records_read.specs.RowsNoted.{AreRowsNoted, IsKeyNoted, RowNoted, addr_of, is_in_file, key_of, offset_of, room_of}
use Rattle.lk_records_read.specs.TakenRanges.{AreNoted, CountedAnswers}
use Rattle.lk_records_read.proofs.NotedRanges.{all_true, and_both, and_first, and_second, not_all, noted_none, noted_same, noted_taken, or_true}

pub none_noted : AreRowsNoted [] [] [] []
none_noted = (
  refl,
  noted_none has_own_addresses addr_of room_of share_no_address,
  noted_none is_in_file offset_of room_of share_no_file_byte,
)

-- ---- keys

abbrev other_key : SectionRow → SectionRow → Bool
other_key row earlier = not (same_key row.key earlier.key)

not-either : (a b : Bool) → not (a || b) ≡ (not a && not b)
not-either true b = refl
not-either false b = refl

other-keys : (row : SectionRow) (before : List SectionRow) → not (list_any (same_key row.key) (map key_of before)) ≡ list_all (other_key row) before
other-keys row [] = refl
other-keys row (b ∷ bs) =
    not-either (same_key row.key b.key) (list_any (same_key row.key) (map key_of bs)) ∙ ap (λ d. other_key row b && d) (other-keys row bs)

keys-push : (before : List SectionRow) (row : SectionRow) → map key_of before ++ row.key ∷ [] ≡ map key_of (before ++ row ∷ [])
keys-push [] row = refl
keys-push (b ∷ bs) row = ap (λ (ks : List SectionKey). b.key ∷ ks) (keys-push bs row)

-- ---- one thing of a row that counts or not, beside those of the rows before it

-- whether what counts of a row is apart from what counts of an earlier one
abbrev either : Bool → Bool → Bool → Bool
either x y apart = not x || not y || apart

counted : (x y apart : Bool) → x ≡ true → y ≡ true → either x y apart ≡ apart
counted x y apart p q = ap (λ b. either b y apart) p ∙ ap (λ b. either true b apart) q

earlier-free : (x y apart : Bool) → y ≡ false → either x y apart ≡ true
earlier-free x y apart q = ap (λ b. either x b apart) q ∙ ap (λ b. b || apart) (or_true (not x))

itself-free : (x y apart : Bool) → x ≡ false → either x y apart ≡ true
itself-free x y apart p = ap (λ b. either b y apart) p

-- what `take_where` answers of a row, by the rows before it
abbrev ThingNoted : (SectionRow → SectionRow → Bool) → List SectionRow → SectionRow → Bool → Type 0
ThingNoted apart before row free = list_all (apart row) before ≡ free

module _ (counts : SectionRow → Bool) (start : SectionRow → ℕ) (before : List SectionRow) (row : SectionRow) where
  abbrev apart : SectionRow → SectionRow → Bool
  apart x y = either (counts x) (counts y) (share_nothing (start x) (room_of x) (start y) (room_of y))

  taken-so : (c : Bool) (old new : List (ℕ × ℕ)) → counts row ≡ c → CountedAnswers c old (start row) (room_of row) (Ok true) new → AreNoted counts start room_of apart old before → (list_all (apart row) before ≡ true) × AreNoted counts start room_of apart new (before ++ row ∷ [])
  taken-so true old new p t noted = (
    sym (noted row p) ∙ t.0,
    noted_taken counts start room_of apart old new before row (λ x q. counted (counts x) (counts row) (share_nothing (start x) (room_of x) (start row) (room_of row)) q p) noted t.1,
  )
  taken-so false old new p t noted = (
    all_true (apart row) before (λ b. itself-free (counts row) (counts b) (share_nothing (start row) (room_of row) (start b) (room_of b)) p),
    subst (λ (rs : List (ℕ × ℕ)). AreNoted counts start room_of apart rs (before ++ row ∷ [])) (sym t.1)
        (noted_same counts start room_of apart old before row (λ x. earlier-free (counts x) (counts row) (share_nothing (start x) (room_of x) (start row) (room_of row)) p) noted),
  )

  refused-so : (c : Bool) (old new : List (ℕ × ℕ)) → counts row ≡ c → CountedAnswers c old (start row) (room_of row) (Ok false) new → AreNoted counts start room_of apart old before → list_all (apart row) before ≡ false
  refused-so true old new p t noted = sym (noted row p) ∙ t
  refused-so false old new p t noted = absurd (let q = t.0 in cc)

-- ---- all three

module _ (before : List SectionRow) (row : SectionRow) where
  key-of-beside : (b : SectionRow) → row_is_beside row b ≡ true → other_key row b ≡ true
  key-of-beside b p = and_first (other_key row b) (share_no_address row b) (and_first (other_key row b && share_no_address row b) (share_no_file_byte row b) p)

  addresses-of-beside : (b : SectionRow) → row_is_beside row b ≡ true → share_no_address row b ≡ true
  addresses-of-beside b p = and_second (other_key row b) (share_no_address row b) (and_first (other_key row b && share_no_address row b) (share_no_file_byte row b) p)

  offsets-of-beside : (b : SectionRow) → row_is_beside row b ≡ true → share_no_file_byte row b ≡ true
  offsets-of-beside b p = and_second (other_key row b && share_no_address row b) (share_no_file_byte row b) p

  beside-all : (bs : List SectionRow) → list_all (other_key row) bs ≡ true → list_all (share_no_address row) bs ≡ true → list_all (share_no_file_byte row) bs ≡ true → list_all (row_is_beside row) bs ≡ true
  beside-all [] k a o = refl
  beside-all (b ∷ bs) k a o =
      and_both (row_is_beside row b) (list_all (row_is_beside row) bs)
      (and_both (other_key row b && share_no_address row b) (share_no_file_byte row b)
      (and_both (other_key row b) (share_no_address row b) (and_first (other_key row b) (list_all (other_key row) bs) k) (and_first (share_no_address row b) (list_all (share_no_address row) bs) a))
      (and_first (share_no_file_byte row b) (list_all (share_no_file_byte row) bs) o))
      (beside-all bs (and_second (other_key row b) (list_all (other_key row) bs) k) (and_second (share_no_address row b) (list_all (share_no_address row) bs) a) (and_second (share_no_file_byte row b) (list_all (share_no_file_byte row) bs) o))

  module _ (keys keys_after : List SectionKey) (addresses addresses_after offsets offsets_after : List (ℕ × ℕ)) (noted : AreRowsNoted keys addresses offsets before) where
    known-keys : (is_first : Bool) → IsKeyNoted keys row.key is_first keys_after → list_all (other_key row) before ≡ is_first
    known-keys is_first k = sym (other-keys row before) ∙ ap (λ (ks : List SectionKey). not (list_any (same_key row.key) ks)) (sym noted.0) ∙ sym k.0

    pub key_again : IsKeyNoted keys row.key false keys_after → list_all (row_is_beside row) before ≡ false
    key_again k = not_all (row_is_beside row) (other_key row) before key-of-beside (known-keys false k)

    pub addresses_shared : CountedAnswers (has_own_addresses row) addresses row.addr row.room (Ok false) addresses_after → list_all (row_is_beside row) before ≡ false
    addresses_shared t =
        not_all (row_is_beside row) (share_no_address row) before addresses-of-beside
        (refused-so has_own_addresses addr_of before row (has_own_addresses row) addresses addresses_after refl t noted.1)

    pub offsets_shared : CountedAnswers (in_file row.key.class) offsets row.offset row.room (Ok false) offsets_after → list_all (row_is_beside row) before ≡ false
    offsets_shared t =
        not_all (row_is_beside row) (share_no_file_byte row) before offsets-of-beside
        (refused-so is_in_file offset_of before row (is_in_file row) offsets offsets_after refl t noted.2)

    pub row_beside : IsKeyNoted keys row.key true keys_after → CountedAnswers (has_own_addresses row) addresses row.addr row.room (Ok true) addresses_after → CountedAnswers (in_file row.key.class) offsets row.offset row.room (Ok true) offsets_after → RowNoted before row (Ok true) keys_after addresses_after offsets_after
    row_beside k t u =
        let a = taken-so has_own_addresses addr_of before row (has_own_addresses row) addresses addresses_after refl t noted.1 in
        let o = taken-so is_in_file offset_of before row (is_in_file row) offsets offsets_after refl u noted.2 in (
          beside-all before (known-keys true k) a.0 o.0,
          (k.1 refl ∙ ap (λ (ks : List SectionKey). ks ++ row.key ∷ []) noted.0 ∙ keys-push before row, a.1, o.1),
        )

    pub row_noted : (r : Result Bool NoMemory) → IsKeyNoted keys row.key true keys_after → CountedAnswers (has_own_addresses row) addresses row.addr row.room (Ok true) addresses_after → CountedAnswers (in_file row.key.class) offsets row.offset row.room r offsets_after → RowNoted before row r keys_after addresses_after offsets_after
    row_noted (Ok true) k t u = row_beside k t u
    row_noted (Ok false) k t u = offsets_shared u
    row_noted (Err e) k t u = tt
