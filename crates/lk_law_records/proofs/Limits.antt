-- A lawful full placement within the limits can be recorded, where options and inputs fit.
use Rattle.std.specs.Prelude.{◌≡◌, refl, ℕ, ◌+◌, ◌*◌, ◌^◌, ◌<◌, ◌≤◌, Bool, true, false, ◌&&◌, IsTrue, List, [], ◌∷◌, length, nat_le, nat_lt, slice_get, if◌then◌else◌, Option, Some, None}
use Rattle.std.specs.List.{AllByRecursion}
use Rattle.std.proofs.Common.{arith, sym, subst}
use Rattle.std.proofs.lemmas.Bool.{and_parts, leb-true, ltb-false}
use Rattle.lk_report.specs.declared.causes.OptionRecord.{OptionRecord}
use Rattle.lk_report.specs.declared.statuses.LimitKind.{LimitKind}
use Rattle.lk_report.specs.declared.statuses.LimitKind.TheVariants as limit
use Rattle.lk_report.specs.declared.statuses.Status.{Status}
use Rattle.lk_report.specs.declared.statuses.Status.TheVariants as status
use Rattle.lk_model.specs.Answers.{image_length, limit_fault, placement_limit}
use Rattle.lk_model.specs.FileHeader.{exec_stack_of}
use Rattle.lk_model.specs.FullPlace.{full_place, memory_of, section_count, tail_start}
use Rattle.lk_model.specs.Lawful.{RowOf, row_passes}
use Rattle.lk_model.specs.Resolving.{resolve}
use Rattle.lk_model.specs.Segments.{program_headers}
use Rattle.lk_model.specs.Tail.{Part, headers_offset}
use Rattle.lk_model.specs.Views.{Input, Resolved}
use Rattle.lk_model.specs.declared.layouts.PieceRow.{PieceRow}
use Rattle.lk_model.specs.declared.layouts.Placement.{Placement}
use Rattle.lk_model.specs.declared.layouts.SectionRow.{SectionRow}
use Rattle.lk_model.proofs.Multiples.{round_up_above}
use Rattle.lk_law_records.specs.Recordable.{InputFits, OptionsFit, RowFits}
use Rattle.lk_law_records.specs.RecordedLaws.{LimitsMakeRecordable}
use Rattle.lk_law_records.proofs.LinkRead.{full-link, link_inputs, link_texts}
use Rattle.lk_law_records.proofs.Lists.{all-at, all-imply, first-none}
use Rattle.lk_law_records.proofs.RowNames.{HasPlainPieces, IsPlainKey, inputs-plain, rows-plain}
use Rattle.lk_law_records.proofs.RowNumbers.{IsSmallRow, small-rows}
use Rattle.lk_law_records.proofs.TailHeaders.{first_at, headers_at, parts-are, parts-below, strings_of, three_parts}

-- ---- what follows where no limit is exceeded

pub limit-reports : (which : LimitKind) (most number : ℕ) → limit_fault which most number ≡ None → number ≤ most
limit-reports which most number none = go (nat_lt most number) refl none
  where
    go : (b : Bool) → nat_lt most number ≡ b → (if b then Some (status.Limit (record { which = which; number = number })) else None) ≡ None → number ≤ most
    go true e h = absurd (cc)
    go false e h = ltb-false most number e

pub record WithinLimits (r : Resolved) (place : Placement) : Type 0 where
  pub sections : section_count place ≤ 60000
  pub memory : memory_of place ≤ 2 ^ 31
  pub image : image_length r place ≤ 2 ^ 29

within-limits : (r : Resolved) (place : Placement) → placement_limit r place ≡ None → WithinLimits r place
within-limits r place none =
    let headers = limit_fault limit.Headers 64 (length (program_headers place (exec_stack_of r))) in
    let image = limit_fault limit.Image (2 ^ 29) (image_length r place) in
    let memory = limit_fault limit.Memory (2 ^ 31) (memory_of place) in
    let later : Option Status = elim headers [ Some s ↦ Some s | None ↦ image ] in
    let first = first-none (limit_fault limit.Sections 60000 (section_count place)) (elim memory [ Some s ↦ Some s | None ↦ later ]) none in
    let second = first-none memory later first.1 in
    let third = first-none headers image second.1 in
    record {
      sections = limit-reports limit.Sections 60000 (section_count place) first.0;
      memory = limit-reports limit.Memory (2 ^ 31) (memory_of place) second.0;
      image = limit-reports limit.Image (2 ^ 29) (image_length r place) third.1;
    }

-- the tail begins below the image's end
tail-below : (r : Resolved) (place : Placement) → image_length r place ≤ 2 ^ 29 → tail_start place ≤ 2 ^ 29
tail-below r place short =
    let inputs = link_inputs r place in
    let texts = link_texts r place in
    let strings = strings_of place in
    let size = subst (λ (l : List Part). headers_offset place l + 64 * (length place.sections + length l + 1) ≤ 2 ^ 29) (parts-are r place) short in
    let ends = parts-below (tail_start place) (length inputs) (length texts) (length strings) in
    let first = ends.first in
    let above : tail_start place ≤ first_at (tail_start place) = round_up_above (tail_start place) 8 (omega arith) in
    let headers : headers_offset place (three_parts inputs texts strings) ≡ headers_at (tail_start place) (length inputs) (length texts) (length strings) = refl in
    omega (arith, size, first, above, headers)

-- ---- rows and pieces

rows-fit : (rows : List SectionRow) → AllByRecursion IsSmallRow rows → AllByRecursion (λ (row : SectionRow). IsPlainKey row.key) rows → AllByRecursion RowFits rows
rows-fit [] small plain = tt
rows-fit (row ∷ rows) (here, more) (own, others) =
    let end = here.end in
    let offset = here.offset in
    let size = here.size in
    let align = here.align in (
      record {
        name = own.0;
        other = own.1;
        addr = omega (arith, end);
        offset = omega (arith, offset);
        size = omega (arith, size, end);
        room = omega (arith, end);
        align = omega (arith, align);
      },
      rows-fit rows more others,
    )

-- a piece lies in the room of a row
piece-low : (place : Placement) (piece : PieceRow) → AllByRecursion IsSmallRow place.sections
    → RowOf place piece (λ row. nat_le row.addr piece.addr && nat_le (piece.addr + piece.size) (row.addr + row.room)) → piece.addr < 2 ^ 64
piece-low place piece small within = go (slice_get place.sections piece.section) refl within
  where
    go : (o : Option SectionRow) → slice_get place.sections piece.section ≡ o
        → IsTrue (row_passes (λ row. nat_le row.addr piece.addr && nat_le (piece.addr + piece.size) (row.addr + row.room)) o) → piece.addr < 2 ^ 64
    go None e h = absurd (cc)
    go (Some row) e h =
        let below = leb-true (piece.addr + piece.size) (row.addr + row.room) (and_parts (nat_le row.addr piece.addr) (nat_le (piece.addr + piece.size) (row.addr + row.room)) h).1 in
        let is = all-at IsSmallRow place.sections piece.section row small e in
        let end = is.end in
        omega (arith, below, end)

-- ---- the whole

same-options : (options : OptionRecord) (inputs : List Input) → OptionsFit options → OptionsFit (resolve options inputs).options
unfolding resolve
same-options options inputs fits = record { entry = fits.entry; interp = fits.interp; runpath = fits.runpath; patch = fits.patch }

same-inputs : (options : OptionRecord) (inputs : List Input) → (resolve options inputs).inputs ≡ inputs
unfolding resolve
same-inputs options inputs = refl

pub limits-make-recordable : LimitsMakeRecordable
limits-make-recordable options inputs fits lawful none =
    let r = resolve options inputs in
    let place = full_place r in
    let limits = within-limits r place none in
    let small = small-rows r limits.memory (tail-below r place limits.image) in
    let are = sym (same-inputs options inputs) in
    let plain = rows-plain r (full-link options inputs) (subst (AllByRecursion HasPlainPieces) are (inputs-plain inputs fits.inputs fits.names)) in
    let few = limits.sections in
    let short = limits.image in
    let count = fits.count in
    record {
      options = same-options options inputs fits.options;
      input_count = subst (λ (l : List Input). length l < 2 ^ 32) are count;
      inputs = subst (AllByRecursion InputFits) are fits.inputs;
      section_count = omega (arith, few);
      sections = rows-fit place.sections small plain;
      pieces = all-imply (λ piece within. piece-low place piece small within) place.pieces lawful.in_room;
      image = omega (arith, short);
    }
