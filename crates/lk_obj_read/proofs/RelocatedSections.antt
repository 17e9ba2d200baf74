-- Marks on the targets of relocations say which sections have relocations.
use Rattle.std.specs.Prelude.{◌≡◌, refl, ℕ, suc, ◌+◌, ◌*◌, ◌<◌, ◌≤◌, ◌==◌, Bool, true, false, cond, not, ◌||◌, ◌&&◌, nat_eq, List, [], ◌∷◌, ◌++◌, drop, filter, flat_map, length, slice_get, Some, ◌≢◌}
use mathlib.Core.Logic.{⊎_elim}
use Rattle.std.specs.List.{enumerate_from, list_any}
use Rattle.std.proofs.Common.{ap, ◌∙◌, sym, arith, add-one, drop-cons, get_or}
use Rattle.std.proofs.lemmas.Bool.Decides.{eqb_tells}
use Rattle.std.proofs.lemmas.List.{drop_all}
use Rattle.std.proofs.lemmas.List.FromFn.{length-map-range_with_len}
use Rattle.std.proofs.lemmas.Option.{slice_get-get_or}
use Rattle.lk_elf.specs.Numbers.{sht_rela, rela_size}
use Rattle.lk_elf.specs.Records.{rela_at}
use Rattle.lk_elf.specs.declared.section_header.Shdr.{Shdr}
use Rattle.lk_elf.specs.declared.relocation.Rela.{Rela}
use Rattle.lk_marks.specs.Marked.{is_marked, marks_of, with_mark}
use Rattle.lk_marks.proofs.MarksMade.{mark_got, mark_length, mark_set, marks_length}
use Rattle.lk_model.specs.Objects.{rela_count, relas_under, relocations_in}
use Rattle.lk_model.specs.Views.{Elf}
use Rattle.lk_obj_read.specs.RelocatedSections.{entries_in, has_entries, is_relocated, marked_after, marked_by}

-- ---- the loop

pub next_target : (bytes : List ℕ) (marks : List Bool) (i : ℕ) (headers : List Shdr) (d : Shdr) → i < length headers → marked_by bytes marks (drop i headers) ≡ marked_by bytes (marked_after bytes marks (get_or headers i d)) (drop (i + 1) headers)
next_target bytes marks i headers d l =
    ap (λ (hs : List Shdr). marked_by bytes marks hs) (drop-cons headers i d l)
    ∙ ap (λ n. marked_by bytes (marked_after bytes marks (get_or headers i d)) (drop n headers)) (sym (add-one i))

pub no_target_left : (bytes : List ℕ) (marks : List Bool) (i : ℕ) (headers : List Shdr) → length headers ≤ i → marked_by bytes marks (drop i headers) ≡ marks
no_target_left bytes marks i headers l = ap (λ (hs : List Shdr). marked_by bytes marks hs) (drop_all i headers l)

-- ---- what is marked

-- a section with entries on this target
abbrev hits : List ℕ → ℕ → Shdr → Bool
hits bytes n header = has_entries bytes header && nat_eq n header.sh_info

or-assoc : (a b c : Bool) → ((a || b) || c) ≡ (a || (b || c))
or-assoc true b c = refl
or-assoc false b c = refl

or-swap : (a b : Bool) → (a || b) ≡ (b || a)
or-swap true true = refl
or-swap true false = refl
or-swap false true = refl
or-swap false false = refl

after_reported : (t : Bool) (marks : List Bool) (m n : ℕ) → n < length marks → get_or (cond t (with_mark marks m) marks) n false ≡ (get_or marks n false || (t && nat_eq n m))
after_reported true marks m n l = mark_set marks m n l
after_reported false marks m n l = or-swap false (get_or marks n false)

after_length : (t : Bool) (marks : List Bool) (m : ℕ) → length (cond t (with_mark marks m) marks) ≡ length marks
after_length true marks m = mark_length marks m
after_length false marks m = refl

by_reported : (bytes : List ℕ) (marks : List Bool) (n : ℕ) (headers : List Shdr) → n < length marks → get_or (marked_by bytes marks headers) n false ≡ (get_or marks n false || list_any (hits bytes n) headers)
by_reported bytes marks n [] l = or-swap false (get_or marks n false)
by_reported bytes marks n (h ∷ hs) l =
    let more : n < length (marked_after bytes marks h) = omega (arith, l, after_length (has_entries bytes h) marks h.sh_info) in
    by_reported bytes (marked_after bytes marks h) n hs more
    ∙ ap (λ t. t || list_any (hits bytes n) hs) (after_reported (has_entries bytes h) marks h.sh_info n l)
    ∙ or-assoc (get_or marks n false) (hits bytes n h) (list_any (hits bytes n) hs)

by_length : (bytes : List ℕ) (marks : List Bool) (headers : List Shdr) → length (marked_by bytes marks headers) ≡ length marks
by_length bytes marks [] = refl
by_length bytes marks (h ∷ hs) = by_length bytes (marked_after bytes marks h) hs ∙ after_length (has_entries bytes h) marks h.sh_info

-- ---- what has relocations

abbrev is_on : ℕ → ℕ × Shdr → Bool
is_on n row = row.1.sh_type == sht_rela && row.1.sh_info == n

eq_sym : (a b : ℕ) → nat_eq a b ≡ nat_eq b a
eq_sym a b = ⊎_elim (λ p. same p.0 p.1) (λ p. apart p.0 p.1) (eqb_tells a b)
  where
    same : nat_eq a b ≡ true → a ≡ b → nat_eq a b ≡ nat_eq b a
    same e is = ap (λ k. nat_eq k b) is ∙ ap (λ k. nat_eq b k) (sym is)

    apart : nat_eq a b ≡ false → a ≢ b → nat_eq a b ≡ nat_eq b a
    apart e differ = e ∙ sym (⊎_elim (λ p. absurd (differ (sym p.1))) (λ p. p.0) (eqb_tells b a))

not_zero : (n : ℕ) → nat_eq (suc n) 0 ≡ false
not_zero n = ⊎_elim (λ p. absurd (omega (arith, p.1))) (λ p. p.0) (eqb_tells (suc n) 0)

and_false : (a : Bool) → (a && false) ≡ false
and_false true = refl
and_false false = refl

joined : (t u : Bool) (xs ys : List Rela) → (((t && not (length xs == 0)) && u) || not (length ys == 0)) ≡ not (length (cond (t && u) (xs ++ ys) ys) == 0)
joined false u xs ys = refl
joined true true [] ys = refl
joined true false xs ys = ap (λ b. b || not (length ys == 0)) (and_false (not (length xs == 0)))
joined true true (x ∷ xs) ys =
    ap (λ b. (not b && true) || not (length ys == 0)) (not_zero (length xs)) ∙ ap not (sym (not_zero (length (xs ++ ys))))

flat_cond : (elf : Elf) (t : Bool) (row : ℕ × Shdr) (rows : List (ℕ × Shdr)) → flat_map (λ (r : ℕ × Shdr). relas_under elf r.1) (cond t (row ∷ rows) rows) ≡ cond t (relas_under elf row.1 ++ flat_map (λ (r : ℕ × Shdr). relas_under elf r.1) rows) (flat_map (λ (r : ℕ × Shdr). relas_under elf r.1) rows)
flat_cond elf true row rows = refl
flat_cond elf false row rows = refl

relas_length : (elf : Elf) (h : Shdr) → length (relas_under elf h) ≡ entries_in elf.bytes h
unfolding relas_under
relas_length elf h = length-map-range_with_len (λ k. rela_at elf.bytes (h.sh_offset + rela_size * k)) 0 (rela_count elf h)

abbrev on_rows : Elf → ℕ → List (ℕ × Shdr) → List Rela
on_rows elf n rows = flat_map (λ (r : ℕ × Shdr). relas_under elf r.1) (filter (is_on n) rows)

counted : (elf : Elf) (n k : ℕ) (hs : List Shdr) → list_any (hits elf.bytes n) hs ≡ not (length (on_rows elf n (enumerate_from k hs)) == 0)
counted elf n k [] = refl
counted elf n k (h ∷ hs) =
    ap (λ c. ((h.sh_type == sht_rela && not (c == 0)) && nat_eq n h.sh_info) || list_any (hits elf.bytes n) hs) (sym (relas_length elf h))
    ∙ ap (λ u. ((h.sh_type == sht_rela && not (length (relas_under elf h) == 0)) && u) || list_any (hits elf.bytes n) hs) (eq_sym n h.sh_info)
    ∙ ap (λ z. ((h.sh_type == sht_rela && not (length (relas_under elf h) == 0)) && (h.sh_info == n)) || z) (counted elf n (k + 1) hs)
    ∙ joined (h.sh_type == sht_rela) (h.sh_info == n) (relas_under elf h) (on_rows elf n (enumerate_from (k + 1) hs))
    ∙ ap (λ (zs : List Rela). not (length zs == 0)) (sym (flat_cond elf (h.sh_type == sht_rela && h.sh_info == n) (k, h) (filter (is_on n) (enumerate_from (k + 1) hs))))

abbrev all_marks : Elf → List Bool
all_marks elf = marked_by elf.bytes (marks_of [] (length elf.sections)) (drop 1 elf.sections)

got : (elf : Elf) (n : ℕ) → n < length elf.sections → get_or (all_marks elf) n false ≡ list_any (hits elf.bytes n) (drop 1 elf.sections)
got elf n l =
    by_reported elf.bytes (marks_of [] (length elf.sections)) n (drop 1 elf.sections) (omega (arith, l, marks_length [] (length elf.sections)))
    ∙ ap (λ t. t || list_any (hits elf.bytes n) (drop 1 elf.sections)) (mark_got [] (length elf.sections) n l)

marked : (elf : Elf) (n : ℕ) → n < length elf.sections → is_marked (all_marks elf) n ≡ is_relocated elf n
unfolding relocations_in
marked elf n l =
    let long : n < length (all_marks elf) = omega (arith, l, by_length elf.bytes (marks_of [] (length elf.sections)) (drop 1 elf.sections), marks_length [] (length elf.sections)) in
    let there : slice_get (all_marks elf) n ≡ Some (get_or (all_marks elf) n false) = slice_get-get_or (all_marks elf) n false long in
    rw there (got elf n l ∙ counted elf n 1 (drop 1 elf.sections))

pub reported : (elf : Elf) (marks : List Bool) (n : ℕ) → n < length elf.sections → marks ≡ marked_by elf.bytes (marks_of [] (length elf.sections)) (drop 1 elf.sections) → is_marked marks n ≡ is_relocated elf n
reported elf marks n l e = ap (λ (ms : List Bool). is_marked ms n) e ∙ marked elf n l
