-- A piece beside those that are placed before it, by the bytes that are taken of output sections.
use Rattle.std.specs.Prelude.{◌≡◌, refl, ℕ, ◌+◌, ◌*◌, ◌<◌, ◌≤◌, ◌==◌, ◌&&◌, ◌||◌, ◌⊎◌, not, Bool, true, false, List, nat_le, slice_get, Result, Ok, Err}
use Rattle.std.specs.List.{list_all}
use Rattle.std.proofs.Common.{ap, arith, inl, inr, sym, ◌∙◌}
use Rattle.std.proofs.lemmas.Bool.{le-leb}
use Rattle.std.proofs.lemmas.Bool.Decides.{nat_tests}
use Rattle.lk_model.specs.Checks.{is_some_with}
use Rattle.lk_model.specs.Lawful.{pieces_apart, share_nothing}
use Rattle.lk_model.specs.RecordRefusals.{is_good_place, lies_in_room}
use Rattle.lk_model.specs.declared.layouts.PieceRow.{PieceRow}
use Rattle.lk_model.specs.declared.layouts.SectionRow.{SectionRow}
use Rattle.lk_report.specs.declared.memory.NoMemory.{NoMemory}
use Rattle.lk_records_read.specs.PlacesNoted.{ArePlacesNoted, PlaceNoted, PlaceTaken, ends_in_line, line_at, piece_size, place_start, stride}
use Rattle.lk_records_read.proofs.NotedRanges.{noted_taken, or_true}

-- ---- two pieces on the line of all bytes

shifted : (c x n y : ℕ) → nat_le (x + n) y ≡ nat_le (c + x + n) (c + y)
shifted c x n y = grind (arith, nat_tests)

in-one : (c a n b m : ℕ) → share_nothing a n b m ≡ share_nothing (c + a) n (c + b) m
in-one c a n b m =
    ap (λ p. (n == 0) || (m == 0) || p || nat_le (b + m) a) (shifted c a n b)
    ∙ ap (λ q. (n == 0) || (m == 0) || nat_le (c + a + n) (c + b) || q) (shifted c b m a)

third : (x y p q : Bool) → p ≡ true → (x || y || p || q) ≡ true
third x y p q e = ap (λ b. x || y || b || q) e ∙ ap (λ b. b || q) (or_true (x || y))

fourth : (x y p q : Bool) → q ≡ true → (x || y || p || q) ≡ true
fourth x y p q e = ap (λ b. x || y || p || b) e ∙ or_true (x || y || p)

small : (a n : ℕ) → nat_le (a + n) stride ≡ true → a + n ≤ stride
small a n e = grind (arith, nat_tests, e)

ahead : (s t a n b m : ℕ) → s < t → a + n ≤ stride → share_nothing (line_at s a) n (line_at t b) m ≡ true
ahead s t a n b m l e =
    let before : s * stride + a + n ≤ t * stride + b = omega (arith, l, e) in
    third (n == 0) (m == 0) (nat_le (s * stride + a + n) (t * stride + b)) (nat_le (t * stride + b + m) (s * stride + a)) (le-leb (s * stride + a + n) (t * stride + b) before)

behind : (s t a n b m : ℕ) → t < s → b + m ≤ stride → share_nothing (line_at s a) n (line_at t b) m ≡ true
behind s t a n b m l e =
    let before : t * stride + b + m ≤ s * stride + a = omega (arith, l, e) in
    fourth (n == 0) (m == 0) (nat_le (s * stride + a + n) (t * stride + b)) (nat_le (t * stride + b + m) (s * stride + a)) (le-leb (t * stride + b + m) (s * stride + a) before)

one-of : (s t : ℕ) → (s == t) ≡ false → (s < t) ⊎ (t < s)
one-of s t e = grind (arith, nat_tests, e)

equal : (s t : ℕ) → (s == t) ≡ true → s ≡ t
equal s t e = grind (arith, nat_tests, e)

in-two : (s t a n b m : ℕ) → (s < t) ⊎ (t < s) → a + n ≤ stride → b + m ≤ stride → share_nothing (line_at s a) n (line_at t b) m ≡ true
in-two s t a n b m (inl l) e f = ahead s t a n b m l e
in-two s t a n b m (inr l) e f = behind s t a n b m l f

on-line : (d : Bool) (s t a n b m : ℕ) → (s == t) ≡ d → nat_le (a + n) stride ≡ true → nat_le (b + m) stride ≡ true → (not d || share_nothing a n b m) ≡ share_nothing (line_at s a) n (line_at t b) m
on-line true s t a n b m p e f =
    in-one (s * stride) a n b m ∙ ap (λ u. share_nothing (s * stride + a) n (u * stride + b) m) (equal s t p)
on-line false s t a n b m p e f = sym (in-two s t a n b m (one-of s t p) (small a n e) (small b m f))

pieces-share : (x y : PieceRow) → ends_in_line x ≡ true → ends_in_line y ≡ true → pieces_apart x y ≡ share_nothing (place_start x) (piece_size x) (place_start y) (piece_size y)
pieces-share x y e f = on-line (x.section == y.section) x.section y.section x.addr x.size y.addr y.size refl e f

-- ---- one piece more

module _ (rows : List SectionRow) (before : List PieceRow) (piece : PieceRow) where
  abbrev is_in_room : Bool
  is_in_room = is_some_with (lies_in_room piece) (slice_get rows piece.section)

  placed-so : is_in_room ≡ true → is_good_place rows before piece ≡ list_all (pieces_apart piece) before
  unfolding is_good_place
  placed-so e = ap (λ b. b && list_all (pieces_apart piece) before) e

  pub place_outside : is_in_room ≡ false → is_good_place rows before piece ≡ false
  unfolding is_good_place
  place_outside e = ap (λ b. b && list_all (pieces_apart piece) before) e

  pub place_noted : (places new : List (ℕ × ℕ)) (r : Result Bool NoMemory) → ArePlacesNoted places before → is_in_room ≡ true → PlaceTaken places piece.section piece.addr piece.size r new → PlaceNoted rows before piece r new
  place_noted places new (Ok true) noted e t = (
    placed-so e ∙ sym (noted piece t.0) ∙ t.1.0,
    noted_taken ends_in_line place_start piece_size pieces_apart places new before piece (λ x q. pieces-share x piece q t.0) noted t.1.1,
  )
  place_noted places new (Ok false) noted e t = placed-so e ∙ sym (noted piece t.0) ∙ t.1
  place_noted places new (Err x) noted e t = tt
