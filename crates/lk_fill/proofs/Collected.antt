-- The ranges of a placement, collected from its pieces and its rows, and put in their order.
use Rattle.std.proofs.Common.{◌≡◌, Bool, ◌+◌, List, [], ◌++◌, get_or, sym, ap, ◌∙◌}
use Rattle.std.specs.List.{enumerate_from, flat_map, list_any}
use Rattle.std.specs.List.Sorted.{IsPermutation, IsSortedBy}
use Rattle.std.specs.Ordering.{is_lt, nat_cmp, ordering_then}
use Rattle.std.proofs.lemmas.List.Sorted.{list_any-IsPermutation}
use Rattle.lk_model.specs.declared.layouts.PieceRow.{PieceRow}
use Rattle.lk_model.specs.declared.layouts.Placement.{Placement}
use Rattle.lk_model.specs.declared.layouts.SectionRow.{SectionRow}
use Rattle.lk_fill.specs.Covering.{all_covers, piece_covers, row_covers, IsCovering}
use Rattle.lk_fill.specs.declared.covering.Covered.{Covered}
use Rattle.lk_fill.proofs.Rising.{before_is}

pub collected :
    (place : Placement) (rows : List SectionRow) (pieces : List PieceRow) (start middle all : List Covered)
    → rows ≡ place.sections
    → pieces ≡ place.pieces
    → start ≡ []
    → middle ≡ start ++ flat_map (piece_covers rows) pieces
    → all ≡ middle ++ flat_map row_covers (enumerate_from 0 rows)
    → all ≡ all_covers place
collected place rows pieces start middle all rows_are pieces_are start_is middle_is all_is =
    all_is
    ∙ ap (λ m. m ++ flat_map row_covers (enumerate_from 0 rows)) (middle_is ∙ ap (λ s. s ++ flat_map (piece_covers rows) pieces) start_is)
    ∙ ap (λ rs. flat_map (piece_covers rs) pieces ++ flat_map row_covers (enumerate_from 0 rs)) rows_are
    ∙ ap (λ ps. flat_map (piece_covers place.sections) ps ++ flat_map row_covers (enumerate_from 0 place.sections)) pieces_are

-- the order of the pair of a range's row and start
abbrev pub comes_lower : Covered → Covered → Bool
comes_lower a b = is_lt (ordering_then (nat_cmp a.section b.section) (nat_cmp a.start b.start))

pub put_in_order : (place : Placement) (all ranges : List Covered) → all ≡ all_covers place → IsPermutation all ranges → IsSortedBy comes_lower ranges → IsCovering place ranges
put_in_order place all ranges all_is permuted sorted = record {
  same = λ test. sym (list_any-IsPermutation test all ranges permuted) ∙ ap (list_any test) all_is;
  rise = λ k d low high.
      let a = get_or ranges (k + 1) d in
      let b = get_or ranges k d in
      sym (before_is a.section a.start b.section b.start) ∙ sorted k d low high;
}
