-- This project's own: which sections the pieces of an object are, and marks of them.
use Rattle.std.specs.Prelude.{◌≡◌, ℕ, nat_eq, Bool, List}
use Rattle.std.specs.List.{list_any}
use Rattle.lk_marks.specs.Marked.{is_marked}
use Rattle.lk_model.specs.declared.summaries.PieceInfo.{PieceInfo}

-- whether a section is one of these pieces
abbrev pub is_listed : ℕ → List PieceInfo → Bool
is_listed section pieces = list_any (λ (q : PieceInfo). nat_eq section q.section) pieces

-- the sections of these pieces are marked, and no other ones
abbrev pub AreMarksOf : List Bool → List PieceInfo → Type 0
AreMarksOf marks pieces = (section : ℕ) → is_marked marks section ≡ is_listed section pieces
