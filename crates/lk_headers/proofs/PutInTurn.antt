-- Headers that are put one after another are the headers of the list.
use Rattle.std.proofs.Common.{◌≡◌, ℕ, ◌+◌, ◌-◌, ◌<◌, ◌≤◌, Bool, true, false, List, [], ◌∷◌, ◌++◌, Option, None, Some, refl, sym, ap, ◌∙◌, arith, length}
use Rattle.std.specs.Prelude.{option_map, count_by}
use Rattle.std.specs.List.{flat_map}
use Rattle.std.proofs.lemmas.Grind.{common_steps, flat_map-append}
use Rattle.lk_elf.specs.Records.{phdr_bytes}
use Rattle.lk_elf.specs.declared.program_header.Phdr.{Phdr}
use Rattle.lk_model.specs.SectionOrder.{Second}
use Rattle.lk_model.specs.Segments.{first_load, second_load, third_load, stored_end, memory_end, load_header, second_segment_start, segment_rows, stack_header, tls_header, tls_segment, program_headers, table_header}
use Rattle.lk_model.specs.declared.layouts.Placement.{Placement}
use Rattle.lk_model.specs.declared.layouts.SectionRow.{SectionRow}
use Rattle.lk_model.specs.declared.layouts.TlsSegment.{TlsSegment}
use Rattle.lk_headers.specs.Counts.{count_over}
use Rattle.lk_headers.specs.Ends.{has_items}
use Rattle.lk_headers.specs.ProgramHeaders.{loads_of, others_of, second_header, table_phdr}
use Rattle.lk_headers.specs.Shown.{is_shown, shown_headers, thread_bytes}
use Rattle.lk_headers.specs.declared.shown.Shown.TheVariants as shown
use Rattle.lk_headers.proofs.Counted.{counted, headers_are, shown_long}

append_none : (xs : List ℕ) → xs ≡ xs ++ []
append_none xs = grind (arith, common_steps)

one : (bytes : List ℕ) (h : Phdr) → bytes ≡ phdr_bytes h → bytes ≡ flat_map phdr_bytes (h ∷ [])
one bytes h e = e ∙ append_none (phdr_bytes h)

-- the header that describes the headers
table_here : (interps : List Phdr) (count : ℕ) → 0 < length interps → 0 < count → table_header interps (count - 1) ≡ table_phdr count ∷ []
table_here [] count h k = absurd (omega arith)
table_here (i ∷ is) count h k = let e : count - 1 + 1 ≡ count = omega arith in rw e refl

pub table_put : (old new : List ℕ) (h : Phdr) (rows : List SectionRow) (n count : ℕ) → new ≡ old ++ phdr_bytes h → h ≡ table_phdr count
    → n ≡ count_by (is_shown shown.Interpreter) rows → 0 < n → 0 < count → new ≡ old ++ flat_map phdr_bytes (table_header (shown_headers shown.Interpreter rows) (count - 1))
table_put old new h rows n count put is many some more =
    let long = shown_long shown.Interpreter rows in
    let e = table_here (shown_headers shown.Interpreter rows) count (omega (arith, long, many, some)) more in
    put ∙ ap (λ l. old ++ l) (one (phdr_bytes h) (table_phdr count) (ap phdr_bytes is) ∙ ap (flat_map phdr_bytes) (sym e))

no_table : (interps : List Phdr) (n : ℕ) → length interps ≤ 0 → table_header interps n ≡ []
no_table [] n h = refl
no_table (i ∷ is) n h = absurd (omega arith)

pub no_table_put : (old : List ℕ) (rows : List SectionRow) (n count : ℕ) → n ≡ count_by (is_shown shown.Interpreter) rows → n ≤ 0
    → old ≡ old ++ flat_map phdr_bytes (table_header (shown_headers shown.Interpreter rows) count)
no_table_put old rows n count many none =
    let long = shown_long shown.Interpreter rows in
    append_none old ∙ ap (λ l. old ++ flat_map phdr_bytes l) (sym (no_table (shown_headers shown.Interpreter rows) count (omega (arith, long, many, none))))

-- the second segment
second_here : (place : Placement) (rows : List SectionRow) → has_items rows ≡ true
    → second_load place rows ≡ load_header 5 (second_segment_start place) (stored_end rows) (memory_end rows) ∷ []
second_here place [] h = absurd (cc)
second_here place (r ∷ rs) h = refl

no_second : (place : Placement) (rows : List SectionRow) → has_items rows ≡ false → second_load place rows ≡ []
no_second place [] h = refl
no_second place (r ∷ rs) h = absurd (cc)

pub second_put : (old new made : List ℕ) (place : Placement) (b : Bool) → new ≡ old ++ made
    → made ≡ phdr_bytes (second_header place)
    → b ≡ has_items (segment_rows Second place) → b ≡ true → new ≡ old ++ flat_map phdr_bytes (second_load place (segment_rows Second place))
second_put old new made place b put is there some =
    let rows : List SectionRow = segment_rows Second place in
    put ∙ ap (λ l. old ++ l) (one made (second_header place) is ∙ ap (flat_map phdr_bytes) (sym (second_here place rows (sym there ∙ some))))

pub no_second_put : (old : List ℕ) (place : Placement) (b : Bool) → b ≡ has_items (segment_rows Second place) → b ≡ false
    → old ≡ old ++ flat_map phdr_bytes (second_load place (segment_rows Second place))
no_second_put old place b there none =
    append_none old ∙ ap (λ l. old ++ flat_map phdr_bytes l) (sym (no_second place (segment_rows Second place) (sym there ∙ none)))

-- the thread-local segment
pub thread_put : (old new : List ℕ) (h : Phdr) (segment : Option TlsSegment) → new ≡ old ++ phdr_bytes h → option_map phdr_bytes (Some h) ≡ option_map thread_bytes segment
    → new ≡ old ++ flat_map phdr_bytes (tls_header segment)
thread_put old new h None put is = absurd (cc)
thread_put old new h (Some s) put is =
    let e : phdr_bytes h ≡ thread_bytes s = cc in
    put ∙ ap (λ l. old ++ l) (e ∙ append_none (thread_bytes s))

pub no_thread_put : (old : List ℕ) (made : Option Phdr) (segment : Option TlsSegment) → option_map phdr_bytes made ≡ option_map thread_bytes segment → made ≡ None
    → old ≡ old ++ flat_map phdr_bytes (tls_header segment)
no_thread_put old made None is none = append_none old
no_thread_put old None (Some s) is none = absurd (cc)
no_thread_put old (Some h) (Some s) is none = absurd (cc)

-- four lists, joined from the front or from the end
in_pairs : (x y z w : List Phdr) → ((x ++ y) ++ z) ++ w ≡ x ++ (y ++ (z ++ w))
in_pairs x y z w = grind (arith, common_steps)

-- several in turn
three_put : (a b c d e g s : List ℕ) → b ≡ a ++ e → c ≡ b ++ s → d ≡ c ++ g → d ≡ a ++ ((e ++ s) ++ (g ++ []))
three_put a b c d e g s p q r =
    let shape : ((a ++ e) ++ s) ++ g ≡ a ++ ((e ++ s) ++ (g ++ [])) = grind (arith, common_steps) in
    r ∙ ap (λ l. l ++ g) (q ∙ ap (λ l. l ++ s) p) ∙ shape

pub loads_put : (a b c d e g : List ℕ) (place : Placement) → b ≡ a ++ e → e ≡ phdr_bytes (first_load place)
    → c ≡ b ++ flat_map phdr_bytes (second_load place (segment_rows Second place)) → d ≡ c ++ g → g ≡ phdr_bytes (third_load place)
    → d ≡ a ++ flat_map phdr_bytes (loads_of place)
unfolding loads_of
loads_put a b c d e g place first is second third also =
    let seconds : List Phdr = second_load place (segment_rows Second place) in
    three_put a b c d (phdr_bytes (first_load place)) (phdr_bytes (third_load place)) (flat_map phdr_bytes seconds)
    (first ∙ ap (λ l. a ++ l) is) second (third ∙ ap (λ l. c ++ l) also)
    ∙ ap (λ l. a ++ l) (sym (flat_map-append phdr_bytes (first_load place ∷ seconds) (third_load place ∷ [])))

four_put : (a b c d e x y z w : List ℕ) → b ≡ a ++ x → c ≡ b ++ y → d ≡ c ++ z → e ≡ d ++ w → e ≡ a ++ (((x ++ y) ++ z) ++ w)
four_put a b c d e x y z w p q r s =
    let shape : (((a ++ x) ++ y) ++ z) ++ w ≡ a ++ (((x ++ y) ++ z) ++ w) = grind (arith, common_steps) in
    s ∙ ap (λ l. l ++ w) (r ∙ ap (λ l. l ++ z) (q ∙ ap (λ l. l ++ y) p)) ∙ shape

-- the bytes of four lists of headers
four_parts : (x y z w : List Phdr) → ((flat_map phdr_bytes x ++ flat_map phdr_bytes y) ++ flat_map phdr_bytes z) ++ flat_map phdr_bytes w ≡ flat_map phdr_bytes (((x ++ y) ++ z) ++ w)
four_parts x y z w =
    sym (flat_map-append phdr_bytes ((x ++ y) ++ z) w
    ∙ ap (λ l. l ++ flat_map phdr_bytes w)
    (flat_map-append phdr_bytes (x ++ y) z ∙ ap (λ l. l ++ flat_map phdr_bytes z) (flat_map-append phdr_bytes x y)))

pub others_put : (a b c d e : List ℕ) (h : Phdr) (place : Placement) (rows : List SectionRow) (exec_stack : Bool) → rows ≡ place.sections
    → b ≡ a ++ flat_map phdr_bytes (shown_headers shown.Dynamic rows) → c ≡ b ++ flat_map phdr_bytes (shown_headers shown.Note rows)
    → d ≡ c ++ flat_map phdr_bytes (tls_header (tls_segment place)) → e ≡ d ++ phdr_bytes h → h ≡ stack_header exec_stack
    → e ≡ a ++ flat_map phdr_bytes (others_of place exec_stack)
unfolding others_of
others_put a b c d e h place rows exec_stack same dynamic notes thread stack is =
    let last : e ≡ d ++ flat_map phdr_bytes (stack_header exec_stack ∷ []) = stack ∙ ap (λ l. d ++ l) (one (phdr_bytes h) (stack_header exec_stack) (ap phdr_bytes is)) in
    four_put a b c d e _ _ _ _
    (dynamic ∙ ap (λ l. a ++ flat_map phdr_bytes (shown_headers shown.Dynamic l)) same)
    (notes ∙ ap (λ l. b ++ flat_map phdr_bytes (shown_headers shown.Note l)) same)
    thread last
    ∙ ap (λ l. a ++ l)
    (four_parts (shown_headers shown.Dynamic place.sections) (shown_headers shown.Note place.sections) (tls_header (tls_segment place)) (stack_header exec_stack ∷ []))

pub all_put : (a b c d e : List ℕ) (place : Placement) (rows : List SectionRow) (exec_stack : Bool) (count : ℕ) → rows ≡ place.sections
    → count ≡ length (program_headers place exec_stack)
    → b ≡ a ++ flat_map phdr_bytes (table_header (shown_headers shown.Interpreter place.sections) (count - 1))
    → c ≡ b ++ flat_map phdr_bytes (shown_headers shown.Interpreter rows)
    → d ≡ c ++ flat_map phdr_bytes (loads_of place) → e ≡ d ++ flat_map phdr_bytes (others_of place exec_stack)
    → e ≡ a ++ flat_map phdr_bytes (program_headers place exec_stack)
all_put a b c d e place rows exec_stack count same many table interp loads others =
    let interps : List Phdr = shown_headers shown.Interpreter place.sections in
    let shows : List Phdr = table_header interps (length (program_headers place exec_stack) - 1) in
    let shape : ((shows ++ interps) ++ loads_of place) ++ others_of place exec_stack ≡ shows ++ (interps ++ (loads_of place ++ others_of place exec_stack)) = in_pairs shows interps (loads_of place) (others_of place exec_stack) in
    four_put a b c d e _ _ _ _
    (table ∙ ap (λ n. a ++ flat_map phdr_bytes (table_header interps (n - 1))) many)
    (interp ∙ ap (λ l. b ++ flat_map phdr_bytes (shown_headers shown.Interpreter l)) same)
    loads others
    ∙ ap (λ l. a ++ l)
    (four_parts shows interps (loads_of place) (others_of place exec_stack)
    ∙ ap (flat_map phdr_bytes) (shape ∙ sym (headers_are place exec_stack)))

-- there is at least one program header
pub some_headers : (place : Placement) (exec_stack : Bool) → 0 < length (program_headers place exec_stack)
unfolding count_over
some_headers place exec_stack = let e = counted place exec_stack in omega (arith, e)
