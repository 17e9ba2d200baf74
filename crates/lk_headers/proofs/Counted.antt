-- The program headers are as many as their parts ask for.
use Rattle.std.proofs.Common.{◌≡◌, ℕ, ◌+◌, ◌-◌, Bool, true, List, [], ◌∷◌, ◌++◌, Option, None, Some, is_some, refl, sym, ap, ◌∙◌, arith, length, length-append, filter, suc}
use Rattle.std.specs.Prelude.{nat_lt, count_by}
use Rattle.std.proofs.lemmas.List.Sums.{length-filter}
use Rattle.std.proofs.lemmas.List.{length-map}
use Rattle.std.proofs.lemmas.Bool.{lt-ltb}
use Rattle.std.proofs.lemmas.Grind.{common_steps}
use Rattle.lk_elf.specs.declared.program_header.Phdr.{Phdr}
use Rattle.lk_model.specs.SectionOrder.{Second}
use Rattle.lk_model.specs.Segments.{first_load, second_load, third_load, segment_rows, tls_header, tls_segment, stack_header, headers_from_loads, program_headers, section_header_of, table_header}
use Rattle.lk_model.specs.declared.layouts.Placement.{Placement}
use Rattle.lk_model.specs.declared.layouts.SectionRow.{SectionRow}
use Rattle.lk_model.specs.declared.layouts.TlsSegment.{TlsSegment}
use Rattle.lk_headers.specs.Counts.{count_over, one_if, shown_in}
use Rattle.lk_headers.specs.Ends.{has_items}
use Rattle.lk_headers.specs.ProgramHeaders.{loads_of, others_of}
use Rattle.lk_headers.specs.Shown.{is_shown, shown_type, shown_flags, shown_headers}
use Rattle.lk_headers.specs.declared.shown.Shown.{Shown}
use Rattle.lk_headers.specs.declared.shown.Shown.TheVariants as shown

-- the headers of the sections of a kind
pub shown_long : (kind : Shown) (rows : List SectionRow) → length (shown_headers kind rows) ≡ count_by (is_shown kind) rows
shown_long kind rows =
    length-map (filter (is_shown kind) rows) (section_header_of (shown_type kind) (shown_flags kind)) ∙ length-filter (is_shown kind) rows

second_long : (place : Placement) (rows : List SectionRow) → length (second_load place rows) ≡ one_if (has_items rows)
second_long place [] = refl
second_long place (r ∷ rs) = refl

thread_long : (segment : Option TlsSegment) → length (tls_header segment) ≡ one_if (is_some segment)
thread_long None = refl
thread_long (Some s) = refl

table_long : (interps : List Phdr) (n : ℕ) → length (table_header interps n) ≡ one_if (nat_lt 0 (length interps))
table_long [] n = refl
table_long (h ∷ hs) n = let e : nat_lt 0 (length (h ∷ hs)) ≡ true = lt-ltb 0 (length (h ∷ hs)) (omega arith) in ap one_if (sym e)

pub loads_long : (place : Placement) → length (loads_of place) ≡ one_if (has_items (segment_rows Second place)) + 2
unfolding loads_of
loads_long place =
    let a = length-append (second_load place (segment_rows Second place)) (third_load place ∷ []) in
    let b = second_long place (segment_rows Second place) in omega (arith, a, b)

four_long : (a b d : List Phdr) (x : Phdr) → length (((a ++ b) ++ d) ++ x ∷ []) ≡ length a + length b + length d + 1
four_long a b d x =
    let e = length-append ((a ++ b) ++ d) (x ∷ []) in
    let f = length-append (a ++ b) d in
    let g = length-append a b in omega (arith, e, f, g)

sums : (a b d x y z : ℕ) → a ≡ x → b ≡ y → d ≡ z → a + b + d + 1 ≡ x + y + z + 1
sums a b d x y z e f g = omega arith

pub others_long : (place : Placement) (exec_stack : Bool) → length (others_of place exec_stack) ≡ shown_in shown.Dynamic place + shown_in shown.Note place + one_if (is_some (tls_segment place)) + 1
unfolding others_of
others_long place exec_stack =
    let dynamic : List Phdr = shown_headers shown.Dynamic place.sections in
    let notes : List Phdr = shown_headers shown.Note place.sections in
    four_long dynamic notes (tls_header (tls_segment place)) (stack_header exec_stack)
    ∙ sums (length dynamic) (length notes) (length (tls_header (tls_segment place))) _ _ _
    (shown_long shown.Dynamic place.sections) (shown_long shown.Note place.sections) (thread_long (tls_segment place))

-- the headers in the groups in which they are written
regrouped : (a : List Phdr) (t : Phdr) (d n l s : List Phdr) → (((a ++ t ∷ d) ++ n) ++ l) ++ s ≡ (a ++ t ∷ []) ++ (((d ++ n) ++ l) ++ s)
regrouped a t d n l s = grind (arith, common_steps)

pub in_groups : (place : Placement) (exec_stack : Bool) → headers_from_loads place exec_stack ≡ loads_of place ++ others_of place exec_stack
unfolding loads_of others_of
in_groups place exec_stack =
    regrouped (first_load place ∷ second_load place (segment_rows Second place)) (third_load place)
    (shown_headers shown.Dynamic place.sections) (shown_headers shown.Note place.sections) (tls_header (tls_segment place)) (stack_header exec_stack ∷ [])

-- the header that describes the headers is there exactly where a section is the path of the interpreter
table_at : (interps : List Phdr) (n m : ℕ) → n ≡ m → table_header interps n ≡ table_header interps m
table_at interps n m e = ap (table_header interps) e

counted_but_one : (interps rest : List Phdr) (n : ℕ) → table_header interps (length rest) ++ rest ≡ table_header interps (length (table_header interps (length rest) ++ rest) - 1) ++ rest
counted_but_one [] rest n = refl
counted_but_one (h ∷ hs) rest n =
    let e : length rest ≡ suc (length rest) - 1 = omega arith in
    ap (λ k. table_header (h ∷ hs) k ++ rest) e

pub headers_are : (place : Placement) (exec_stack : Bool) → program_headers place exec_stack
    ≡ table_header (shown_headers shown.Interpreter place.sections) (length (program_headers place exec_stack) - 1)
    ++ (shown_headers shown.Interpreter place.sections ++ (loads_of place ++ others_of place exec_stack))
unfolding program_headers
headers_are place exec_stack =
    let interps : List Phdr = shown_headers shown.Interpreter place.sections in
    let made : headers_from_loads place exec_stack ≡ loads_of place ++ others_of place exec_stack = in_groups place exec_stack in
    counted_but_one interps (interps ++ headers_from_loads place exec_stack) 0
    ∙ ap (λ l. table_header interps (length (program_headers place exec_stack) - 1) ++ (interps ++ l)) made

pub counted : (place : Placement) (exec_stack : Bool) → count_over place ≡ length (program_headers place exec_stack)
unfolding count_over program_headers
counted place exec_stack =
    let interps : List Phdr = shown_headers shown.Interpreter place.sections in
    let rest : List Phdr = interps ++ headers_from_loads place exec_stack in
    let a = length-append (table_header interps (length rest)) rest in
    let b = length-append interps (headers_from_loads place exec_stack) in
    let d = ap length (in_groups place exec_stack) in
    let e = length-append (loads_of place) (others_of place exec_stack) in
    let f = loads_long place in
    let g = others_long place exec_stack in
    let h = shown_long shown.Interpreter place.sections in
    let i = table_long interps (length rest) in
    let j : one_if (nat_lt 0 (length interps)) ≡ one_if (nat_lt 0 (shown_in shown.Interpreter place)) = ap (λ n. one_if (nat_lt 0 n)) h in
    omega (arith, a, b, d, e, f, g, h, i, j)
