-- A row's record, and whether the row may follow those before it.
use Rattle.std.specs.Prelude.{◌≡◌, ℕ, List, length, false, true, None, Some, Ok, Err}
use Rattle.std.proofs.Common.{ap, rules, subst, sym, ◌∙◌}
use Rattle.std.proofs.lemmas.Result.{err_from_is_err_and}
use Rattle.lk_records_read.specs.ReadAnswers.{ReadGives}
use Rattle.lk_records_read.specs.RowsNoted.{RowPassed, RowRead, read_row, row_in}
use Rattle.lk_records_read.proofs.RowsRead.{row_bad, row_good, row_refused, row_short}
use Rattle.lk_records_read.proofs.section_rows.read_row.Goals as goal

pub returns-in_err-bytes : goal.returns-in_err-bytes
returns-in_err-bytes c =
    let p = err_from_is_err_and c.from_residual.result c.from_residual.ensures.1 in
    λ before noted.
    subst (λ r. ReadGives (read_row c.args.strtab.now before c.args.cursor.now) r c.take.new.self × RowRead before r c.args.noted.now.keys.keys c.args.noted.now.addresses c.args.noted.now.offsets) (sym (p.1 ∙ ap (λ s. Err s) (p.2 ∙ c.in_err-bytes.ensures.short.1)))
    (row_short c.args.strtab.now c.args.cursor.now before c.in_err-bytes.ensures.short.0, tt)

pub returns-in_default : goal.returns-in_default
returns-in_default c =
    let none : row_in c.args.strtab.now c.args.cursor.now ≡ None = search rules in
    let taken = c.in_ok-bytes.ensures.taken in
    λ before noted.
    (row_bad c.args.strtab.now c.args.cursor.now before taken.0 none ∙ ap (λ (b : List ℕ). Err (length b)) (sym taken.1), tt)

pub returns-then-not-branch : goal.returns-then-not-branch
returns-then-not-branch c =
    let there : row_in c.args.strtab.now c.args.cursor.now ≡ Some c.in-Some.row = search rules in
    let refused : c.pass_row.result ≡ Ok false = search rules in
    let taken = c.in_ok-bytes.ensures.taken in
    λ before noted.
    let passed = subst (λ r. RowPassed before c.in-Some.row r c.pass_row.new.noted.keys.keys c.pass_row.new.noted.addresses c.pass_row.new.noted.offsets) refused (c.pass_row.ensures before noted) in (
      row_refused c.args.strtab.now c.args.cursor.now before c.in-Some.row taken.0 there passed ∙ ap (λ (b : List ℕ). Err (length b)) (sym taken.1),
      tt,
    )

pub returns : goal.returns
returns c =
    let there : row_in c.args.strtab.now c.args.cursor.now ≡ Some c.in-Some.row = search rules in
    let fine : c.pass_row.result ≡ Ok true = search rules in
    let taken = c.in_ok-bytes.ensures.taken in
    λ before noted.
    let passed = subst (λ r. RowPassed before c.in-Some.row r c.pass_row.new.noted.keys.keys c.pass_row.new.noted.addresses c.pass_row.new.noted.offsets) fine (c.pass_row.ensures before noted) in (
      row_good c.args.strtab.now c.args.cursor.now before c.in-Some.row taken.0 there passed.0 ∙ ap (λ (rest : List ℕ). Ok (c.in-Some.row, rest)) (sym taken.2),
      passed.1,
    )
