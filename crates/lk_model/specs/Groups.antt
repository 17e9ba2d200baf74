-- COMDAT groups (gABI "Section Groups"). That the first added group of a signature is the one kept is
-- this project's own choice.
use Rattle.std.specs.Prelude.{ℕ, ◌==◌, Bool, ◌&&◌, not, cond, List, [], ◌∷◌, ◌++◌, map, flat_map}
use Rattle.std.specs.List.{list_any}
use Rattle.lk_model.specs.declared.summaries.Group.{Group}
use Rattle.lk_model.specs.declared.summaries.InputSummary.{InputSummary}
use Rattle.lk_model.specs.declared.summaries.PieceInfo.{PieceInfo}
use Rattle.lk_model.specs.Numbered.{Numbered, is_text_in, is_number_in}

-- the signatures of the groups of an input
abbrev pub signatures_in : InputSummary → List (List ℕ)
signatures_in summary = map (λ (g : Group). g.signature) summary.groups

-- the signatures that the inputs claim, in adding order
abbrev pub claimed_by : List Numbered → List (List ℕ)
claimed_by added = flat_map (λ (x : Numbered). signatures_in x.summary) added

-- the sections that an input's groups drop: the members of each group whose signature is claimed
-- already, by an input added earlier or by an earlier group of the same input
abbrev pub dropped_by : List (List ℕ) → List Group → List ℕ
dropped_by claimed [] = []
dropped_by claimed (g ∷ gs) = cond (is_text_in claimed g.signature) g.members [] ++ dropped_by (claimed ++ g.signature ∷ []) gs

-- whether a section of an input is one of its pieces
abbrev pub is_piece : InputSummary → ℕ → Bool
is_piece summary section = list_any (λ (p : PieceInfo). p.section == section) summary.pieces

-- whether a section of an input is a piece that the signatures claimed before leave in the link
abbrev pub is_left : List (List ℕ) → InputSummary → ℕ → Bool
is_left claimed summary section = is_piece summary section && not (is_number_in (dropped_by claimed summary.groups) section)

-- an input with what the inputs added before it claimed
abbrev pub with_claims : List (List ℕ) → List Numbered → List (List (List ℕ) × Numbered)
with_claims claimed [] = []
with_claims claimed (x ∷ xs) = (claimed, x) ∷ with_claims (claimed ++ signatures_in x.summary) xs

-- whether a section of an added input is a member of a group that is not kept
abbrev pub is_dropped : List Numbered → ℕ → ℕ → Bool
is_dropped added input section = list_any (λ (c : List (List ℕ) × Numbered). (c.1.number == input) && is_number_in (dropped_by c.0 c.1.summary.groups) section) (with_claims [] added)
