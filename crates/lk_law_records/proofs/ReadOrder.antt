-- What is read of the inputs: the summary of each is its own, and the rule of adding gives the same order
-- again.
use Rattle.std.specs.Prelude.{◌≡◌, refl, ℕ, zero, suc, ◌+◌, List, [], ◌∷◌, map, fold, Some, slice_get}
use Rattle.std.specs.List.{enumerate_from}
use Rattle.std.proofs.Common.{arith}
use mathlib.Core.Path.{ap, ◌∙◌}
use Rattle.lk_model.specs.Adding.{added_inputs, items_among, numbers_in, with_item}
use Rattle.lk_model.specs.InputsReading.{ReadInput, ReadInputs, info_of}
use Rattle.lk_model.specs.Numbered.{Numbered, numbered_from}
use Rattle.lk_model.specs.RecordedPlace.{numbered_inputs, recorded_order}
use Rattle.lk_model.specs.RecordsOf.{input_record}
use Rattle.lk_model.specs.Views.{Input}
use Rattle.lk_model.specs.declared.layouts.Placement.{Placement}
use Rattle.lk_model.specs.declared.records.InputRecord.{InputRecord}
use Rattle.lk_model.specs.declared.summaries.InputSummary.{InputSummary}
use Rattle.lk_model.specs.declared.summaries.Kind.{Kind}
use Rattle.lk_model.specs.declared.summaries.PieceInfo.{PieceInfo}
use Rattle.lk_law_records.proofs.InputsRead.{read_in, read_of}
use Rattle.lk_law_records.proofs.RecordValues.{kind-is}

-- ---- the summary of an input

infos-are : (place : Placement) (n : ℕ) (ps : List PieceInfo) → map info_of (map (read_in place n) ps) ≡ ps
infos-are place n [] = refl
infos-are place n (p ∷ ps) = ap (λ l. p ∷ l) (infos-are place n ps)

pub summary-is : (place : Placement) (n : ℕ) (i : InputRecord) → (read_of place (n, i)).record_of.summary ≡ i.summary
summary-is place n i =
    let s = i.summary in
    let made : Kind → List PieceInfo → InputSummary =
    λ k ps. record { kind = k; soname = s.soname; exec_stack = s.exec_stack; pieces = ps; globals = s.globals; groups = s.groups } in
    ap (λ k. made k (map info_of (map (read_in place n) s.pieces))) (kind-is i) ∙ ap (made s.kind) (infos-are place n s.pieces)

-- ---- the inputs by number

-- what is read of the inputs of a link
abbrev pub read_from : Placement → List ℕ → ℕ → List Input → List ReadInput
read_from place added n inputs = map (read_of place) (enumerate_from n (map (input_record added) (enumerate_from n inputs)))

pub numbered-again : (place : Placement) (added : List ℕ) (n : ℕ) (inputs : List Input) → map numbered_inputs (enumerate_from n (read_from place added n inputs)) ≡ numbered_from n inputs
numbered-again place added n [] = refl
numbered-again place added n (i ∷ inputs) =
    let one : ℕ × Numbered = (i.lib, record { number = n; summary = i.summary }) in
    ap (λ (s : InputSummary). (i.lib, record { number = n; summary = s }) ∷ map numbered_inputs (enumerate_from (n + 1) (read_from place added (n + 1) inputs))) (summary-is place n (input_record added (n, i)))
    ∙ ap (λ l. one ∷ l) (numbered-again place added (n + 1) inputs)

pub read-at : (place : Placement) (added : List ℕ) (n : ℕ) (inputs : List Input) (k : ℕ) (i : Input) → slice_get inputs k ≡ Some i
    → slice_get (read_from place added n inputs) k ≡ Some (read_of place (n + k, input_record added (n + k, i)))
read-at place added n [] k i e = absurd (cc)
read-at place added n (x ∷ inputs) zero i e =
    let is : x ≡ i = cc in
    let at : n ≡ n + 0 = omega arith in
    ap (λ (y : Input). Some (read_of place (n, input_record added (n, y)))) is ∙ ap (λ (m : ℕ). Some (read_of place (m, input_record added (m, i)))) at
read-at place added n (x ∷ inputs) (suc k) i e =
    let at : n + 1 + k ≡ n + suc k = omega arith in
    read-at place added (n + 1) inputs k i e ∙ ap (λ (m : ℕ). Some (read_of place (m, input_record added (m, i)))) at

-- the order of adding is found again
pub order-again : (x : ReadInputs) (place : Placement) (added : List ℕ) (entry : List ℕ) (inputs : List Input) → x.options.entry ≡ entry → x.inputs ≡ read_from place added 0 inputs
    → recorded_order x ≡ numbers_in (added_inputs entry inputs)
unfolding added_inputs
order-again x place added entry inputs same read =
    let added_by : List ℕ → List (ℕ × Numbered) → List ℕ = λ e rows. numbers_in (fold (with_item e) [] (items_among rows)) in
    ap (λ e. added_by e (map numbered_inputs (enumerate_from 0 x.inputs))) same
    ∙ ap (λ l. added_by entry (map numbered_inputs (enumerate_from 0 l))) read
    ∙ ap (added_by entry) (numbered-again place added 0 inputs)
