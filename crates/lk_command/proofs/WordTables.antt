-- What a word means, by its row in the tables of words: a word without a dash is in none.
use Rattle.std.specs.Prelude.{◌≡◌, refl, ℕ, ◌==◌, nat_eq, Bool, true, false, not, cond, List, [], ◌∷◌, find, bytes_eq, Option, Some, None, option_map}
use Rattle.std.specs.List.{starts_with}
use Rattle.std.proofs.Common.{arith, sym, ap, ◌∙◌}
use Rattle.std.proofs.lemmas.Bool.{not-true, false≢true}
use Rattle.lk_model.specs.Grammar as grammar
use Rattle.lk_model.specs.Grammar.{whole_words, beginnings, meaning_of, word_meaning, joined_meaning, holds_zero, is_path}
use Rattle.lk_command.specs.Tables.{meaning_in, value_after, value_in}

-- the row of a word among the options that are as they are, and among their beginnings
abbrev whole_row : List ℕ → Option (List ℕ × grammar.Meaning)
whole_row word = find (λ (row : List ℕ × grammar.Meaning). bytes_eq row.0 word) whole_words

abbrev beginning_row : List ℕ → Option (List ℕ × grammar.Valued)
beginning_row word = find (λ (row : List ℕ × grammar.Valued). starts_with nat_eq word row.0) beginnings

-- a word without a zero byte means what its row says
by_row : (word : List ℕ) → holds_zero word ≡ false → word_meaning word (whole_row word) ≡ meaning_of word
unfolding meaning_of
by_row word whole = sym (ap (λ (z : Bool). cond z grammar.Meaningless (word_meaning word (whole_row word))) whole)

pub zero_means : (word : List ℕ) → holds_zero word ≡ true → grammar.Meaningless ≡ meaning_of word
unfolding meaning_of
zero_means word holds = sym (ap (λ (z : Bool). cond z grammar.Meaningless (word_meaning word (whole_row word))) holds)

-- ---- a path

apart_back : (a b : ℕ) → (b == a) ≡ false → (a == b) ≡ false
apart_back a b e = grind (arith, e)

no_whole_row : (b : ℕ) (bs : List ℕ) → (45 == b) ≡ false → whole_row (b ∷ bs) ≡ None
unfolding whole_words
no_whole_row b bs apart = rw apart refl

no_beginning_row : (b : ℕ) (bs : List ℕ) → (45 == b) ≡ false → beginning_row (b ∷ bs) ≡ None
unfolding beginnings
no_beginning_row b bs apart = rw apart refl

pub path_means : (word : List ℕ) → holds_zero word ≡ false → is_path word ≡ true → grammar.Path ≡ meaning_of word
path_means [] whole path = absurd (false≢true path)
path_means (b ∷ bs) whole path =
    let dash : (b == 45) ≡ false = not-true (b == 45) path in
    let apart : (45 == b) ≡ false = apart_back 45 b dash in
    sym (ap (λ (d : Bool). cond (not d) grammar.Path grammar.Meaningless) dash)
    ∙ sym (ap (joined_meaning (b ∷ bs)) (no_beginning_row b bs apart))
    ∙ sym (ap (word_meaning (b ∷ bs)) (no_whole_row b bs apart))
    ∙ by_row (b ∷ bs) whole

-- ---- a word that is an option as it is

of_row : (word : List ℕ) (row : Option (List ℕ × grammar.Meaning)) (m : grammar.Meaning) → option_map (λ (r : List ℕ × grammar.Meaning). r.1) row ≡ Some m → m ≡ word_meaning word row
of_row word None m e = absurd (cc)
of_row word (Some r) m e = cc

pub whole_means : (word : List ℕ) (m : grammar.Meaning) → holds_zero word ≡ false → Some m ≡ meaning_in whole_words word → m ≡ meaning_of word
whole_means word m whole e =
    of_row word (whole_row word) m (sym e) ∙ by_row word whole

-- ---- a word that begins with an option

by_beginning : (word : List ℕ) (row : Option (List ℕ × grammar.Meaning)) → option_map (λ (r : List ℕ × grammar.Meaning). r.1) row ≡ None → joined_meaning word (beginning_row word) ≡ word_meaning word row
by_beginning word None e = refl
by_beginning word (Some r) e = absurd (cc)

not_whole : (word : List ℕ) → holds_zero word ≡ false → None ≡ meaning_in whole_words word → joined_meaning word (beginning_row word) ≡ meaning_of word
not_whole word whole e =
    by_beginning word (whole_row word) (sym e) ∙ by_row word whole

of_beginning : (word : List ℕ) (row : Option (List ℕ × grammar.Valued)) (p : grammar.Valued × List ℕ) → option_map (value_after word) row ≡ Some p → grammar.Joined p.0 p.1 ≡ joined_meaning word row
of_beginning word None p e = absurd (cc)
of_beginning word (Some r) p e = let same : p ≡ value_after word r = cc in ap (λ (q : grammar.Valued × List ℕ). grammar.Joined q.0 q.1) same

pub joined_means : (word : List ℕ) (p : grammar.Valued × List ℕ) → holds_zero word ≡ false → None ≡ meaning_in whole_words word → Some p ≡ value_in beginnings word → grammar.Joined p.0 p.1 ≡ meaning_of word
joined_means word p whole none e =
    of_beginning word (beginning_row word) p (sym e) ∙ not_whole word whole none

of_nothing : (word : List ℕ) (row : Option (List ℕ × grammar.Valued)) → is_path word ≡ false → option_map (value_after word) row ≡ None → grammar.Meaningless ≡ joined_meaning word row
of_nothing word None path e = sym (ap (λ (p : Bool). cond p grammar.Path grammar.Meaningless) path)
of_nothing word (Some r) path e = absurd (cc)

pub nothing_means : (word : List ℕ) → holds_zero word ≡ false → is_path word ≡ false → None ≡ meaning_in whole_words word → None ≡ value_in beginnings word → grammar.Meaningless ≡ meaning_of word
nothing_means word whole path none e =
    of_nothing word (beginning_row word) path (sym e) ∙ not_whole word whole none
