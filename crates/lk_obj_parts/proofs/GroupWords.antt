-- The words of a section.
use Rattle.std.specs.Prelude.{◌≡◌, refl, ℕ, suc, ◌+◌, ◌*◌, ◌<◌, ◌≤◌, ◌==◌, Bool, true, false, ◌&&◌, ◌||◌, List, [], ◌∷◌, drop, fold, length, slice_get, Some, None}
use Rattle.std.specs.List.{list_all, list_any}
use Rattle.std.proofs.Common.{ap, ◌∙◌, sym, arith, add-one, get_or, drop-cons}
use Rattle.std.proofs.lemmas.List.FromFn.{length-map-range_with_len, get_or-map-range_with_len}
use Rattle.std.proofs.lemmas.Option.{slice_get-get_or, slice_get_past}
use Rattle.std.proofs.lemmas.List.{drop_all}
use Rattle.lk_elf.specs.Fields.{num, number_of}
use Rattle.lk_elf.specs.declared.section_header.Shdr.{Shdr}
use Rattle.lk_model.specs.ObjectChecks.{has_group_flag}
use Rattle.lk_model.specs.Objects.{words_under}
use Rattle.lk_model.specs.Views.{Elf}
use Rattle.lk_obj_parts.specs.GroupParts.{word_count_in, word_in, words_in}

-- ---- a number of four bytes

byte_step : (bytes : List ℕ) (i j : ℕ) → i + 1 ≡ j → j ≤ length bytes → drop i bytes ≡ get_or bytes i 0 ∷ drop j bytes
byte_step bytes i j e room =
    drop-cons bytes i 0 (omega (arith, e, room)) ∙ ap (λ n. get_or bytes i 0 ∷ drop n bytes) (sym (add-one i) ∙ e)

pub four_bytes : (bytes : List ℕ) (at : ℕ) → at + 4 ≤ length bytes → num bytes at 4 ≡ get_or bytes at 0 + 256 * (get_or bytes (at + 1) 0 + 256 * (get_or bytes (at + 2) 0 + 256 * get_or bytes (at + 3) 0))
unfolding num number_of
four_bytes bytes at room =
    let a = byte_step bytes at (at + 1) refl (omega (arith, room)) in
    let b = byte_step bytes (at + 1) (at + 2) (omega arith) (omega (arith, room)) in
    let c = byte_step bytes (at + 2) (at + 3) (omega arith) (omega (arith, room)) in
    let d = byte_step bytes (at + 3) (at + 4) (omega arith) (omega (arith, room)) in
    rw (a, b, c, d) (omega arith)

-- ---- the words of a section, one by one

pub words_count : (bytes : List ℕ) (header : Shdr) → length (words_in bytes header) ≡ word_count_in bytes header
unfolding words_in
words_count bytes header = length-map-range_with_len (word_in bytes header) 0 (word_count_in bytes header)

word_got : (bytes : List ℕ) (header : Shdr) (k d : ℕ) → k < length (words_in bytes header) → get_or (words_in bytes header) k d ≡ word_in bytes header k
unfolding words_in
word_got bytes header k d l =
    get_or-map-range_with_len (word_in bytes header) 0 (word_count_in bytes header) k k d (omega (arith, l, words_count bytes header)) (omega arith)

pub word_there : (bytes : List ℕ) (header : Shdr) (k : ℕ) → k < length (words_in bytes header) → slice_get (words_in bytes header) k ≡ Some (word_in bytes header k)
word_there bytes header k l =
    slice_get-get_or (words_in bytes header) k 0 l ∙ ap Some (word_got bytes header k 0 l)

pub no_word : (bytes : List ℕ) (header : Shdr) (k : ℕ) → length (words_in bytes header) ≤ k → slice_get (words_in bytes header) k ≡ None
no_word bytes header k l = slice_get_past (words_in bytes header) k l

pub words_step : (bytes : List ℕ) (header : Shdr) (k : ℕ) → k < length (words_in bytes header) → drop k (words_in bytes header) ≡ word_in bytes header k ∷ drop (k + 1) (words_in bytes header)
words_step bytes header k l =
    drop-cons (words_in bytes header) k 0 l
    ∙ ap (λ w. w ∷ drop (suc k) (words_in bytes header)) (word_got bytes header k 0 l)
    ∙ ap (λ n. word_in bytes header k ∷ drop n (words_in bytes header)) (sym (add-one k))

pub words_reported : (elf : Elf) (header : Shdr) → words_under elf header ≡ words_in elf.bytes header
unfolding words_under words_in word_in
words_reported elf header = refl

-- ---- the flag word

words_first : (bytes : List ℕ) (header : Shdr) → 0 < length (words_in bytes header) → words_in bytes header ≡ word_in bytes header 0 ∷ drop 1 (words_in bytes header)
words_first bytes header l = words_step bytes header 0 l

pub flag_first : (bytes : List ℕ) (header : Shdr) → 0 < length (words_in bytes header) → has_group_flag (words_in bytes header) ≡ (word_in bytes header 0 == 0 || word_in bytes header 0 == 1)
flag_first bytes header l = ap has_group_flag (words_first bytes header l)

none-flag : (words : List ℕ) → length words ≡ 0 → has_group_flag words ≡ false
none-flag [] e = refl
none-flag (w ∷ ws) e = absurd (omega (arith, e))

pub no_flag : (bytes : List ℕ) (header : Shdr) → length (words_in bytes header) ≡ 0 → has_group_flag (words_in bytes header) ≡ false
no_flag bytes header e = none-flag (words_in bytes header) e

-- ---- tests and steps of one word after another

module _ (p : ℕ → Bool) (bytes : List ℕ) (header : Shdr) (k : ℕ) where
  all_step : k < length (words_in bytes header) → list_all p (drop k (words_in bytes header)) ≡ (p (word_in bytes header k) && list_all p (drop (k + 1) (words_in bytes header)))
  all_step l = ap (list_all p) (words_step bytes header k l)

  pub all_here : k < length (words_in bytes header) → p (word_in bytes header k) ≡ true → list_all p (drop k (words_in bytes header)) ≡ list_all p (drop (k + 1) (words_in bytes header))
  all_here l e = all_step l ∙ ap (λ t. t && list_all p (drop (k + 1) (words_in bytes header))) e

  pub not_all_here : k < length (words_in bytes header) → p (word_in bytes header k) ≡ false → list_all p (drop k (words_in bytes header)) ≡ false
  not_all_here l e = all_step l ∙ ap (λ t. t && list_all p (drop (k + 1) (words_in bytes header))) e

  pub all_left : length (words_in bytes header) ≤ k → list_all p (drop k (words_in bytes header)) ≡ true
  all_left l = ap (list_all p) (drop_all k (words_in bytes header) l)

  any_step : k < length (words_in bytes header) → list_any p (drop k (words_in bytes header)) ≡ (p (word_in bytes header k) || list_any p (drop (k + 1) (words_in bytes header)))
  any_step l = ap (list_any p) (words_step bytes header k l)

  pub any_here : k < length (words_in bytes header) → p (word_in bytes header k) ≡ true → list_any p (drop k (words_in bytes header)) ≡ true
  any_here l e = any_step l ∙ ap (λ t. t || list_any p (drop (k + 1) (words_in bytes header))) e

  pub none_here : k < length (words_in bytes header) → p (word_in bytes header k) ≡ false → list_any p (drop k (words_in bytes header)) ≡ list_any p (drop (k + 1) (words_in bytes header))
  none_here l e = any_step l ∙ ap (λ t. t || list_any p (drop (k + 1) (words_in bytes header))) e

  pub none_left : length (words_in bytes header) ≤ k → list_any p (drop k (words_in bytes header)) ≡ false
  none_left l = ap (list_any p) (drop_all k (words_in bytes header) l)

module _ (f : List Bool → ℕ → List Bool) (marks : List Bool) (bytes : List ℕ) (header : Shdr) (k : ℕ) where
  pub fold_here : k < length (words_in bytes header) → fold f marks (drop k (words_in bytes header)) ≡ fold f (f marks (word_in bytes header k)) (drop (k + 1) (words_in bytes header))
  fold_here l = ap (fold f marks) (words_step bytes header k l)

  pub fold_left : length (words_in bytes header) ≤ k → fold f marks (drop k (words_in bytes header)) ≡ marks
  fold_left l = ap (fold f marks) (drop_all k (words_in bytes header) l)
