-- The NEEDED entries of a dynamic section one after another.
use Rattle.std.specs.Prelude.{◌≡◌, refl, ℕ, suc, ◌+◌, ◌-◌, ◌<◌, ◌≤◌, Bool, true, false, cond, if◌then◌else◌, List, [], ◌∷◌, ◌++◌, filter, filter_map, flat_map, map, option_to_list, Option, Some, None}
use Rattle.std.specs.List.{before_first, cons_option}
use Rattle.std.proofs.Common.{ap, append_assoc, append-nil, arith, sym, ◌∙◌}
use Rattle.lk_elf.specs.Numbers.{dt_needed, dt_null}
use Rattle.lk_elf.specs.declared.dynamic_entry.Dyn.{Dyn}
use Rattle.lk_elf.specs.declared.section_header.Shdr.{Shdr}
use Rattle.lk_model.specs.DynamicEntries.{all_with_tag, has_tag}
use Rattle.lk_model.specs.Elf.{elf_of, name_at}
use Rattle.lk_model.specs.SharedObjects.{dynamic_section}
use Rattle.lk_model.specs.Views.{Elf}
use Rattle.lk_so_read.specs.DynamicParts.{entries_from, entry_at, entry_count}
use Rattle.lk_so_read.specs.Needs.{need_of, needs_among, needs_in, needs_under}
use Rattle.lk_so_read.proofs.EntriesFound.{before-cons, entries_read}

-- ---- one entry more

listed : (o : Option (List ℕ)) (rest : List (List ℕ)) → cons_option o rest ≡ option_to_list o ++ rest
listed None rest = refl
listed (Some text) rest = refl

needed-cons : (elf : Elf) (strings : ℕ) (b : Bool) (e : Dyn) (es : List Dyn) → filter_map (name_at elf strings) (map (λ (entry : Dyn). entry.d_un) (cond b (e ∷ filter (has_tag dt_needed) es) (filter (has_tag dt_needed) es))) ≡ (if b then option_to_list (name_at elf strings e.d_un) else []) ++ filter_map (name_at elf strings) (all_with_tag dt_needed es)
needed-cons elf strings true e es = listed (name_at elf strings e.d_un) (filter_map (name_at elf strings) (all_with_tag dt_needed es))
needed-cons elf strings false e es = refl

found-cons : (elf : Elf) (strings : ℕ) (b : Bool) (e : Dyn) (es : List Dyn) → filter_map (name_at elf strings) (all_with_tag dt_needed (cond b [] (e ∷ es))) ≡ cond b [] (need_of elf strings e ++ filter_map (name_at elf strings) (all_with_tag dt_needed es))
found-cons elf strings true e es = refl
found-cons elf strings false e es = needed-cons elf strings (has_tag dt_needed e) e es

among-cons : (elf : Elf) (strings : ℕ) (e : Dyn) (es : List Dyn) → needs_among elf strings (e ∷ es) ≡ cond (has_tag dt_null e) [] (need_of elf strings e ++ needs_among elf strings es)
unfolding needs_among
among-cons elf strings e es =
    ap (λ (entries : List Dyn). filter_map (name_at elf strings) (all_with_tag dt_needed entries)) (before-cons (has_tag dt_null) e es)
    ∙ found-cons elf strings (has_tag dt_null e) e (before_first (has_tag dt_null) es)

-- ---- entry by entry

next : (elf : Elf) (bytes : List ℕ) (header : Shdr) (k m : ℕ) (entry : Dyn) → k < m → entry ≡ entry_at bytes header k → needs_among elf header.sh_link (entries_from bytes header k (m - k)) ≡ cond (has_tag dt_null entry) [] (need_of elf header.sh_link entry ++ needs_among elf header.sh_link (entries_from bytes header (k + 1) (m - (k + 1))))
next elf bytes header k m entry l e =
    let more : m - k ≡ suc (m - (k + 1)) = omega (arith, l) in
    let rest : List Dyn = entries_from bytes header (k + 1) (m - (k + 1)) in
    ap (λ n. needs_among elf header.sh_link (entries_from bytes header k n)) more
    ∙ among-cons elf header.sh_link (entry_at bytes header k) rest
    ∙ ap (λ (x : Dyn). cond (has_tag dt_null x) [] (need_of elf header.sh_link x ++ needs_among elf header.sh_link rest)) (sym e)

null_ends : (elf : Elf) (bytes : List ℕ) (header : Shdr) (k m : ℕ) (entry : Dyn) → k < m → entry ≡ entry_at bytes header k → has_tag dt_null entry ≡ true → needs_among elf header.sh_link (entries_from bytes header k (m - k)) ≡ []
null_ends elf bytes header k m entry l e n =
    next elf bytes header k m entry l e
    ∙ ap (λ b. cond b [] (need_of elf header.sh_link entry ++ needs_among elf header.sh_link (entries_from bytes header (k + 1) (m - (k + 1))))) n

pub need_here : (elf : Elf) (bytes : List ℕ) (header : Shdr) (k m : ℕ) (entry : Dyn) (needs new : List (List ℕ)) → k < m → entry ≡ entry_at bytes header k → has_tag dt_null entry ≡ false → new ≡ needs ++ need_of elf header.sh_link entry → new ++ needs_among elf header.sh_link (entries_from bytes header (k + 1) (m - (k + 1))) ≡ needs ++ needs_among elf header.sh_link (entries_from bytes header k (m - k))
need_here elf bytes header k m entry needs new l e n put =
    let rest : List (List ℕ) = needs_among elf header.sh_link (entries_from bytes header (k + 1) (m - (k + 1))) in
    ap (λ (xs : List (List ℕ)). xs ++ rest) put
    ∙ append_assoc needs (need_of elf header.sh_link entry) rest
    ∙ sym (ap (λ (xs : List (List ℕ)). needs ++ xs) (next elf bytes header k m entry l e ∙ ap (λ b. cond b [] (need_of elf header.sh_link entry ++ rest)) n))

none_left : (elf : Elf) (bytes : List ℕ) (header : Shdr) (k m : ℕ) → m ≤ k → needs_among elf header.sh_link (entries_from bytes header k (m - k)) ≡ []
unfolding needs_among
none_left elf bytes header k m l = let none : m - k ≡ 0 = omega (arith, l) in ap (λ n. needs_among elf header.sh_link (entries_from bytes header k n)) none

-- ---- of the file that bytes are

needs_read : (bytes : List ℕ) (header : Shdr) → needs_under (elf_of bytes) header ≡ needs_among (elf_of bytes) header.sh_link (entries_from bytes header 0 (entry_count bytes header))
unfolding needs_under needs_among
needs_read bytes header =
    ap (λ (entries : List Dyn). filter_map (name_at (elf_of bytes) header.sh_link) (all_with_tag dt_needed entries)) (entries_read bytes header)

-- what was found is all where the entries that are left need nothing
all_found : (bytes : List ℕ) (header : Shdr) (k m : ℕ) (needs : List (List ℕ)) → m ≡ entry_count bytes header → needs ++ needs_among (elf_of bytes) header.sh_link (entries_from bytes header k (m - k)) ≡ needs_among (elf_of bytes) header.sh_link (entries_from bytes header 0 m) → needs_among (elf_of bytes) header.sh_link (entries_from bytes header k (m - k)) ≡ [] → needs ≡ needs_under (elf_of bytes) header
all_found bytes header k m needs count found none =
    sym (append-nil needs)
    ∙ sym (ap (λ (xs : List (List ℕ)). needs ++ xs) none)
    ∙ found
    ∙ ap (λ n. needs_among (elf_of bytes) header.sh_link (entries_from bytes header 0 n)) count
    ∙ sym (needs_read bytes header)

pub found_at_null : (bytes : List ℕ) (header : Shdr) (k m : ℕ) (entry : Dyn) (needs : List (List ℕ)) → m ≡ entry_count bytes header → needs ++ needs_among (elf_of bytes) header.sh_link (entries_from bytes header k (m - k)) ≡ needs_among (elf_of bytes) header.sh_link (entries_from bytes header 0 m) → k < m → entry ≡ entry_at bytes header k → has_tag dt_null entry ≡ true → needs ≡ needs_under (elf_of bytes) header
found_at_null bytes header k m entry needs count found l e n =
    all_found bytes header k m needs count found (null_ends (elf_of bytes) bytes header k m entry l e n)

pub found_at_end : (bytes : List ℕ) (header : Shdr) (k m : ℕ) (needs : List (List ℕ)) → m ≡ entry_count bytes header → needs ++ needs_among (elf_of bytes) header.sh_link (entries_from bytes header k (m - k)) ≡ needs_among (elf_of bytes) header.sh_link (entries_from bytes header 0 m) → m ≤ k → needs ≡ needs_under (elf_of bytes) header
found_at_end bytes header k m needs count found l =
    all_found bytes header k m needs count found (none_left (elf_of bytes) bytes header k m l)

pub needs_of_section : (elf : Elf) (n : ℕ) (header : Shdr) → dynamic_section elf ≡ Some (n, header) → needs_in elf ≡ needs_under elf header
needs_of_section elf n header e =
    ap (λ (o : Option (ℕ × Shdr)). flat_map (λ (table : ℕ × Shdr). needs_under elf table.1) (option_to_list o)) e ∙ append-nil (needs_under elf header)

pub needs_of_none : (elf : Elf) → dynamic_section elf ≡ None → needs_in elf ≡ []
needs_of_none elf e = ap (λ (o : Option (ℕ × Shdr)). flat_map (λ (table : ℕ × Shdr). needs_under elf table.1) (option_to_list o)) e
