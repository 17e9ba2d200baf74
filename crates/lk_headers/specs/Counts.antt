-- The number of program headers (gABI "Program Header"): of those that every image has, of those that
-- sections ask for, and of the one that describes the others.
use Rattle.std.specs.Prelude.{ℕ, ◌+◌, Bool, true, false, count_by, nat_lt, is_some}
use Rattle.lk_model.specs.Segments.{tls_segment}
use Rattle.lk_model.specs.declared.layouts.Placement.{Placement}
use Rattle.lk_headers.specs.Ends.{has_items, rows_in}
use Rattle.lk_headers.specs.Shown.{is_shown}
use Rattle.lk_headers.specs.declared.segments.Loaded.TheVariants as loaded
use Rattle.lk_headers.specs.declared.shown.Shown.{Shown}
use Rattle.lk_headers.specs.declared.shown.Shown.TheVariants as shown

-- 1 where something is present, else 0
abbrev pub one_if : Bool → ℕ
one_if true = 1
one_if false = 0

-- how many sections have a header of a kind
abbrev pub shown_in : Shown → Placement → ℕ
shown_in kind place = count_by (is_shown kind) place.sections

-- the loads of the first and the third segment and the stack, the sections with a header of their
-- own, the second and the thread-local segment where they are present, and the header of the headers
unfoldable pub count_over : Placement → ℕ
count_over place =
    one_if (nat_lt 0 (shown_in shown.Interpreter place))
    + (shown_in shown.Interpreter place + shown_in shown.Dynamic place + shown_in shown.Note place)
    + (one_if (has_items (rows_in loaded.Second place.sections)) + one_if (is_some (tls_segment place)))
    + 3
