-- No LOAD of a placement begins below the end of an earlier one.
use Rattle.std.specs.Prelude.{◌≡◌, ℕ, Bool, true, false, List, [], ◌∷◌, ◌++◌, None, ◌+◌, ◌≤◌, ◌==◌, filter, length, nat_lt, refl}
use Rattle.std.specs.List.{enumerate_from}
use Rattle.std.proofs.Common.{arith, ap, ◌∙◌}
use Rattle.std.proofs.lemmas.Bool.Decides.{nat_tests}
use Rattle.lk_elf.specs.Numbers.{pf_r, pf_x}
use Rattle.lk_elf.specs.declared.program_header.Phdr.{Phdr}
use Rattle.lk_model.specs.Checks.{first_fault}
use Rattle.lk_model.specs.FullPlace.{load_base}
use Rattle.lk_model.specs.Loads.{numbered_loads, overlap_refusals}
use Rattle.lk_model.specs.SectionOrder.{Second}
use Rattle.lk_model.specs.Segments.{first_load, first_segment_end, load_header, memory_end, program_headers, second_load, second_segment_start, segment_rows, stored_end, third_load, third_segment_start}
use Rattle.lk_model.specs.declared.layouts.Placement.{Placement}
use Rattle.lk_model.specs.declared.layouts.SectionRow.{SectionRow}
use Rattle.lk_law_loading.proofs.HeadersFound.{NoneOf, before_loads, behind_loads, in_groups, loads, second_above, third_above}
use Rattle.lk_law_loads.proofs.HeaderTypes.{no_load_behind, none_before}

-- the LOADs among headers, the first of which has this number
abbrev loads_from : ℕ → List Phdr → List (ℕ × Phdr)
loads_from n hs = filter (λ (row : ℕ × Phdr). row.1.p_type == 1) (enumerate_from n hs)

-- headers of other types are passed over
passed : (n : ℕ) (xs ys : List Phdr) → NoneOf 1 xs → loads_from n (xs ++ ys) ≡ loads_from (n + length xs) ys
passed n [] ys none = let e : n ≡ n + 0 = omega arith in ap (λ m. loads_from m ys) e
passed n (x ∷ xs) ys none =
    let e : n + 1 + length xs ≡ n + length (x ∷ xs) = omega arith in
    rw (none.0) (passed (n + 1) xs ys none.1 ∙ ap (λ m. loads_from m ys) e)

no_load : (n : ℕ) (xs : List Phdr) → NoneOf 1 xs → loads_from n xs ≡ []
no_load n [] none = refl
no_load n (x ∷ xs) none = rw (none.0) (no_load (n + 1) xs none.1)

-- where a LOAD ends
abbrev end_in_memory : Phdr → ℕ
end_in_memory h = h.p_vaddr + h.p_memsz

two_apart : (k : ℕ) (a b : Phdr) → end_in_memory a ≤ b.p_vaddr → first_fault (overlap_refusals ((k, a) ∷ (k + 1, b) ∷ [])) ≡ None
two_apart k a b first =
    let e1 : nat_lt k k ≡ false = grind (arith, nat_tests) in
    let e2 : nat_lt (k + 1) k ≡ false = grind (arith, nat_tests) in
    let e3 : nat_lt k (k + 1) ≡ true = grind (arith, nat_tests) in
    let e4 : nat_lt b.p_vaddr (a.p_vaddr + a.p_memsz) ≡ false = grind (arith, nat_tests) in
    let e5 : nat_lt (k + 1) (k + 1) ≡ false = grind (arith, nat_tests) in
    rw (e1, e2, e3, e4, e5) refl

three_apart :
    (k : ℕ) (a b c : Phdr)
    → end_in_memory a ≤ b.p_vaddr
    → end_in_memory a ≤ c.p_vaddr
    → end_in_memory b ≤ c.p_vaddr
    → first_fault (overlap_refusals ((k, a) ∷ (k + 1, b) ∷ (k + 1 + 1, c) ∷ [])) ≡ None
three_apart k a b c first second third =
    let e1 : nat_lt k k ≡ false = grind (arith, nat_tests) in
    let e2 : nat_lt (k + 1) k ≡ false = grind (arith, nat_tests) in
    let e3 : nat_lt (k + 1 + 1) k ≡ false = grind (arith, nat_tests) in
    let e4 : nat_lt k (k + 1) ≡ true = grind (arith, nat_tests) in
    let e5 : nat_lt b.p_vaddr (a.p_vaddr + a.p_memsz) ≡ false = grind (arith, nat_tests) in
    let e6 : nat_lt (k + 1) (k + 1) ≡ false = grind (arith, nat_tests) in
    let e7 : nat_lt (k + 1 + 1) (k + 1) ≡ false = grind (arith, nat_tests) in
    let e8 : nat_lt k (k + 1 + 1) ≡ true = grind (arith, nat_tests) in
    let e9 : nat_lt c.p_vaddr (a.p_vaddr + a.p_memsz) ≡ false = grind (arith, nat_tests) in
    let e10 : nat_lt (k + 1) (k + 1 + 1) ≡ true = grind (arith, nat_tests) in
    let e11 : nat_lt c.p_vaddr (b.p_vaddr + b.p_memsz) ≡ false = grind (arith, nat_tests) in
    let e12 : nat_lt (k + 1 + 1) (k + 1 + 1) ≡ false = grind (arith, nat_tests) in
    rw (e1, e2, e3, e4, e5, e6, e7, e8, e9, e10, e11, e12) refl

-- the end of a segment is no further than its start or its end
load_end : (flags start stored end bound : ℕ) → start ≤ bound → end ≤ bound → end_in_memory (load_header flags start stored end) ≤ bound
load_end flags start stored end bound first second = omega (arith, first, second)

-- the LOADs of the segments, the first of which has this number
of_segments : (place : Placement) (exec_stack : Bool) (k : ℕ) (rows : List SectionRow) → memory_end rows ≤ third_segment_start place → first_fault (overlap_refusals (loads_from k (first_load place ∷ (second_load place rows ++ third_load place ∷ behind_loads place exec_stack)))) ≡ None
of_segments place exec_stack k [] low =
    let none : loads_from (k + 1 + 1) (behind_loads place exec_stack) ≡ [] = no_load (k + 1 + 1) (behind_loads place exec_stack) (no_load_behind place exec_stack) in
    let base : load_base ≤ first_segment_end place = omega arith in
    let up = second_above place in
    let next = third_above place in
    let further = next.0 in
    ap (λ rest. first_fault (overlap_refusals ((k, first_load place) ∷ (k + 1, third_load place) ∷ rest))) none
    ∙ two_apart k (first_load place) (third_load place) (load_end pf_r load_base (first_segment_end place) (first_segment_end place) (third_segment_start place) (omega (arith, base, up, further)) (omega (arith, up, further)))
of_segments place exec_stack k (row ∷ rows) low =
    let none : loads_from (k + 1 + 1 + 1) (behind_loads place exec_stack) ≡ [] = no_load (k + 1 + 1 + 1) (behind_loads place exec_stack) (no_load_behind place exec_stack) in
    let base : load_base ≤ first_segment_end place = omega arith in
    let up = second_above place in
    let next = third_above place in
    let further = next.0 in
    let second : Phdr = load_header (pf_r + pf_x) (second_segment_start place) (stored_end (row ∷ rows)) (memory_end (row ∷ rows)) in
    ap (λ rest. first_fault (overlap_refusals ((k, first_load place) ∷ (k + 1, second) ∷ (k + 1 + 1, third_load place) ∷ rest))) none
    ∙ three_apart k (first_load place) second (third_load place)
    (load_end pf_r load_base (first_segment_end place) (first_segment_end place) (second_segment_start place) (omega (arith, base, up)) up)
    (load_end pf_r load_base (first_segment_end place) (first_segment_end place) (third_segment_start place) (omega (arith, base, up, further)) (omega (arith, up, further)))
    (load_end (pf_r + pf_x) (second_segment_start place) (stored_end (row ∷ rows)) (memory_end (row ∷ rows)) (third_segment_start place) further low)

pub loads_apart : (place : Placement) (exec_stack : Bool) → first_fault (overlap_refusals (numbered_loads (program_headers place exec_stack))) ≡ None
loads_apart place exec_stack =
    ap (λ hs. first_fault (overlap_refusals (loads_from 0 hs))) (in_groups place exec_stack)
    ∙ (ap (λ rows. first_fault (overlap_refusals rows)) (passed 0 (before_loads place exec_stack) (loads place exec_stack) (none_before 1 place exec_stack refl refl))
    ∙ of_segments place exec_stack (0 + length (before_loads place exec_stack)) (segment_rows Second place) (third_above place).1)
