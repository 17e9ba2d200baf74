-- The COMDAT groups of an object, section by section.
use Rattle.std.specs.Prelude.{◌≡◌, refl, ℕ, suc, ◌+◌, ◌<◌, ◌≤◌, ◌==◌, Bool, true, false, cond, ◌&&◌, ◌||◌, List, [], ◌∷◌, ◌++◌, drop, filter, filter_map, length, take, Option, Some, None, option_map, option_to_list}
use Rattle.std.specs.List.{cons_option, enumerate_from, list_any}
use Rattle.std.proofs.Common.{ap, ◌∙◌, sym, arith, add-one, append_assoc, append-nil, drop-cons, get_or}
use Rattle.std.proofs.lemmas.List.{drop_all}
use Rattle.lk_elf.specs.Numbers.{sht_group}
use Rattle.lk_elf.specs.declared.section_header.Shdr.{Shdr}
use Rattle.lk_model.specs.Objects.{groups_in, is_comdat, members_under, signature_of}
use Rattle.lk_model.specs.Views.{Elf}
use Rattle.lk_model.specs.declared.summaries.Group.{Group}
use Rattle.lk_obj_parts.specs.GroupLists.{group_in, group_with, groups_among, is_comdat_in}
use Rattle.lk_obj_parts.specs.GroupParts.{members_in, word_in, words_in}
use Rattle.lk_obj_parts.proofs.GroupWords.{words_step, words_reported}

-- ---- the flag word

or-none : (a : Bool) → (a || false) ≡ a
or-none true = refl
or-none false = refl

pub comdat_first : (bytes : List ℕ) (header : Shdr) → 0 < length (words_in bytes header) → is_comdat_in bytes header ≡ (word_in bytes header 0 == 1)
comdat_first bytes header l =
    ap (λ (words : List ℕ). list_any (λ word. word == 1) (take 1 words)) (words_step bytes header 0 l) ∙ or-none (word_in bytes header 0 == 1)

none-comdat : (words : List ℕ) → length words ≡ 0 → list_any (λ word. word == 1) (take 1 words) ≡ false
none-comdat [] e = refl
none-comdat (w ∷ ws) e = absurd (omega (arith, e))

pub no_comdat : (bytes : List ℕ) (header : Shdr) → length (words_in bytes header) ≡ 0 → is_comdat_in bytes header ≡ false
no_comdat bytes header e = none-comdat (words_in bytes header) e

-- ---- members

pub member_pushed : (members : List ℕ) (bytes : List ℕ) (header : Shdr) (k : ℕ) → k < length (words_in bytes header) → members ++ drop k (words_in bytes header) ≡ (members ++ word_in bytes header k ∷ []) ++ drop (k + 1) (words_in bytes header)
member_pushed members bytes header k l =
    ap (λ (ws : List ℕ). members ++ ws) (words_step bytes header k l)
    ∙ sym (append_assoc members (word_in bytes header k ∷ []) (drop (k + 1) (words_in bytes header)))

pub members_left : (members : List ℕ) (bytes : List ℕ) (header : Shdr) (k : ℕ) → length (words_in bytes header) ≤ k → members ++ drop k (words_in bytes header) ≡ members
members_left members bytes header k l = ap (λ (ws : List ℕ). members ++ ws) (drop_all k (words_in bytes header) l) ∙ append-nil members

-- ---- groups

option_first : (groups : List Group) (o : Option Group) (rest : List Group) → groups ++ cons_option o rest ≡ (groups ++ option_to_list o) ++ rest
option_first groups None rest = ap (λ (gs : List Group). gs ++ rest) (sym (append-nil groups))
option_first groups (Some g) rest = sym (append_assoc groups (g ∷ []) rest)

pub group_put : (elf : Elf) (groups : List Group) (i : ℕ) (headers : List Shdr) (d : Shdr) → i < length headers → groups ++ groups_among elf (drop i headers) ≡ (groups ++ option_to_list (group_in elf (get_or headers i d))) ++ groups_among elf (drop (i + 1) headers)
unfolding groups_among
group_put elf groups i headers d l =
    ap (λ (hs : List Shdr). groups ++ groups_among elf hs) (drop-cons headers i d l)
    ∙ option_first groups (group_in elf (get_or headers i d)) (groups_among elf (drop (suc i) headers))
    ∙ ap (λ n. (groups ++ option_to_list (group_in elf (get_or headers i d))) ++ groups_among elf (drop n headers)) (sym (add-one i))

pub no_groups_left : (elf : Elf) (groups : List Group) (i : ℕ) (headers : List Shdr) → length headers ≤ i → groups ++ groups_among elf (drop i headers) ≡ groups
unfolding groups_among
no_groups_left elf groups i headers l =
    ap (λ (hs : List Shdr). groups ++ groups_among elf hs) (drop_all i headers l) ∙ append-nil groups

abbrev is_group : ℕ × Shdr → Bool
is_group row = row.1.sh_type == sht_group

abbrev is_comdat_row : Elf → ℕ × Shdr → Bool
is_comdat_row elf row = is_comdat elf row.1

abbrev group_of_row : Elf → ℕ × Shdr → Option Group
group_of_row elf row = option_map (λ signature. record { signature = signature; members = members_under elf row.1 }) (signature_of elf row.1.sh_info)

group_same : (elf : Elf) (row : ℕ × Shdr) → group_of_row elf row ≡ option_map (group_with (members_in elf.bytes row.1)) (signature_of elf row.1.sh_info)
group_same elf row =
    ap (λ (words : List ℕ). option_map (group_with (drop 1 words)) (signature_of elf row.1.sh_info)) (words_reported elf row.1)

comdat_same : (elf : Elf) (header : Shdr) → is_comdat elf header ≡ is_comdat_in elf.bytes header
comdat_same elf header = ap (λ (words : List ℕ). list_any (λ word. word == 1) (take 1 words)) (words_reported elf header)

kept : (elf : Elf) (row : ℕ × Shdr) (rows : List (ℕ × Shdr)) (rest : List Group) (t u : Bool) (o : Option Group) → group_of_row elf row ≡ o → is_comdat elf row.1 ≡ u → filter_map (group_of_row elf) (filter (is_comdat_row elf) rows) ≡ rest
    → filter_map (group_of_row elf) (filter (is_comdat_row elf) (cond t (row ∷ rows) rows)) ≡ cons_option (cond (t && u) o None) rest
kept elf row rows rest false u o same comdat on = on
kept elf row rows rest true false o same comdat on =
    ap (λ (t : Bool). filter_map (group_of_row elf) (cond t (row ∷ filter (is_comdat_row elf) rows) (filter (is_comdat_row elf) rows))) comdat ∙ on
kept elf row rows rest true true o same comdat on =
    ap (λ (t : Bool). filter_map (group_of_row elf) (cond t (row ∷ filter (is_comdat_row elf) rows) (filter (is_comdat_row elf) rows))) comdat
    ∙ ap (λ (p : Option Group). cons_option p (filter_map (group_of_row elf) (filter (is_comdat_row elf) rows))) same
    ∙ ap (cons_option o) on

among : (elf : Elf) (n : ℕ) (headers : List Shdr) → filter_map (group_of_row elf) (filter (is_comdat_row elf) (filter is_group (enumerate_from n headers))) ≡ groups_among elf headers
unfolding groups_among group_in
among elf n [] = refl
among elf n (header ∷ headers) =
    kept elf (n, header) (filter is_group (enumerate_from (n + 1) headers)) (groups_among elf headers) (header.sh_type == sht_group) (is_comdat_in elf.bytes header) (option_map (group_with (members_in elf.bytes header)) (signature_of elf header.sh_info)) (group_same elf (n, header)) (comdat_same elf header) (among elf (n + 1) headers)

pub groups_reported : (elf : Elf) → groups_in elf ≡ groups_among elf (drop 1 elf.sections)
unfolding groups_in
groups_reported elf = among elf 1 (drop 1 elf.sections)
