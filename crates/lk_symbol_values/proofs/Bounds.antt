-- The sections that hold pieces, and their bounds.
use Rattle.std.proofs.Common.{◌≡◌, refl, sym, ap, ◌∙◌, arith, ℕ, ◌+◌, ◌<◌, ◌≤◌, ◌==◌, nat_eq, ◌&&◌, ◌||◌, not, Bool, true, false, cond, if◌then◌else◌, List, [], ◌∷◌, drop, get_or, length, Option, Some, codes}
use Rattle.std.proofs.lemmas.Bool.Decides.{nat_tests}
use Rattle.std.specs.List.{starts_with}
use Rattle.std.proofs.lemmas.List.{drop_all, drop_more}
use Rattle.std.specs.Str.{bytes_eq}
use Rattle.lk_marks.specs.Marked.{is_marked}
use Rattle.lk_model.specs.SectionKeys.{same_class}
use Rattle.lk_model.specs.declared.layouts.Class.TheVariants.{N}
use Rattle.lk_model.specs.declared.layouts.PieceRow.{PieceRow}
use Rattle.lk_model.specs.declared.layouts.SectionRow.{SectionRow}
use Rattle.lk_symbol_values.specs.MadeValues.{bound_from, bound_of, bound_of_row, bound_value_by, end_or_zero, has_piece_at, start_or_zero, FindsBounds}
use Rattle.lk_symbol_values.specs.declared.made_places.Bound.{Bound}

eq_turned : (a b : ℕ) → (a == b) ≡ (b == a)
eq_turned a b = grind (arith, nat_tests)

or_assoc : (a b c : Bool) → ((a || b) || c) ≡ (a || (b || c))
or_assoc true b c = refl
or_assoc false b c = refl

or_none : (b : Bool) → b ≡ (b || false)
or_none true = refl
or_none false = refl

-- marks of the sections of pieces, one after another
pub marked_more : (pieces : List PieceRow) (i : ℕ) (d : PieceRow) (n : ℕ) (old new whole : Bool) → i < length pieces → new ≡ (old || (n == (get_or pieces i d).section))
    → (old || has_piece_at (drop i pieces) n) ≡ whole → (new || has_piece_at (drop (i + 1) pieces) n) ≡ whole
marked_more pieces i d n old new whole less put before =
    let rest : Bool = has_piece_at (drop (i + 1) pieces) n in
    ap (λ b. b || rest) put
    ∙ or_assoc old (n == (get_or pieces i d).section) rest
    ∙ ap (λ b. old || (b || rest)) (eq_turned n (get_or pieces i d).section)
    ∙ ap (λ l. old || has_piece_at l n) (sym (drop_more pieces i d less))
    ∙ before

pub marked_all : (pieces : List PieceRow) (i n : ℕ) (marked whole : Bool) → length pieces ≤ i → (marked || has_piece_at (drop i pieces) n) ≡ whole → marked ≡ whole
marked_all pieces i n marked whole done before =
    or_none marked ∙ ap (λ (l : List PieceRow). marked || has_piece_at l n) (sym (drop_all i pieces done)) ∙ before

bounds_alike : (f g : ℕ → Bool) → ((n : ℕ) → f n ≡ g n) → (n : ℕ) (rows : List SectionRow) (name : List ℕ) → bound_from f n rows name ≡ bound_from g n rows name
bounds_alike f g same n [] name = refl
bounds_alike f g same n (row ∷ rows) name =
    λ i. cond ((not (same_class row.key.class N) && same n i) && bytes_eq row.key.name name) (Some (bound_of_row row)) (bounds_alike f g same (n + 1) rows name i)

pub bounds_found : (marks : List Bool) (entries : List (List ℕ × Bound)) (pieces : List PieceRow) (rows : List SectionRow) → ((n : ℕ) → is_marked marks n ≡ has_piece_at pieces n)
    → FindsBounds (is_marked marks) entries rows → (name : List ℕ) → bound_of entries name ≡ bound_from (has_piece_at pieces) 0 rows name
bounds_found marks entries pieces rows is found name = found name ∙ bounds_alike (is_marked marks) (has_piece_at pieces) is 0 rows name

-- equal bounds give equal values
pub values_alike : (f g : List ℕ → Option Bound) → ((name : List ℕ) → f name ≡ g name) → (name : List ℕ) → bound_value_by f name ≡ bound_value_by g name
values_alike f g same name =
    λ i. if starts_with nat_eq name (codes "__start_") then start_or_zero (same (drop 8 name) i)
    else (if starts_with nat_eq name (codes "__stop_") then end_or_zero (same (drop 7 name) i) else 0)
