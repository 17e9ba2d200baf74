-- A run path is joined directory after directory.
use Rattle.std.specs.Prelude.{◌≡◌, ℕ, ◌+◌, ◌<◌, Bool, true, false, if◌then◌else◌, List, [], ◌∷◌, ◌++◌, drop, flat_map, length, map}
use Rattle.std.specs.List.{join_with_byte}
use Rattle.std.proofs.Common.{sym, ap, add-one, append_assoc, append-nil, drop-cons, get_or, ◌∙◌}
use Rattle.lk_model.specs.Grammar.{run_dirs_of}
use Rattle.lk_command.specs.declared.phrases.Phrase.{Phrase}
use Rattle.lk_command.specs.RunPaths.{joined_after}
use Rattle.lk_command.specs.Seen.{phrase_seen}

joined_first : (dir : List ℕ) (dirs : List (List ℕ)) → dir ++ joined_after false dirs ≡ join_with_byte 58 (dir ∷ dirs)
joined_first dir [] = append-nil dir
joined_first dir (next ∷ dirs) = ap (λ rest. dir ++ 58 ∷ rest) (joined_first next dirs)

-- one directory more
joined_more : (path : List ℕ) (first : Bool) (dir : List ℕ) (dirs : List (List ℕ)) → (path ++ (if first then dir else 58 ∷ dir)) ++ joined_after false dirs ≡ path ++ joined_after first (dir ∷ dirs)
joined_more path true dir dirs = append_assoc path dir (joined_after false dirs) ∙ ap (λ rest. path ++ rest) (joined_first dir dirs)
joined_more path false dir dirs = append_assoc path (58 ∷ dir) (joined_after false dirs)

-- the directories of the phrases from a place on
abbrev dirs_from : ℕ → List Phrase → List (List ℕ)
dirs_from i phrases = flat_map run_dirs_of (map phrase_seen (drop i phrases))

dirs_next : (phrases : List Phrase) (i : ℕ) (d : Phrase) → i < length phrases → dirs_from i phrases ≡ run_dirs_of (phrase_seen (get_or phrases i d)) ++ dirs_from (i + 1) phrases
dirs_next phrases i d l =
    ap (λ ps. flat_map run_dirs_of (map phrase_seen ps)) (drop-cons phrases i d l)
    ∙ ap (λ n. run_dirs_of (phrase_seen (get_or phrases i d)) ++ dirs_from n phrases) (sym (add-one i))

-- a phrase that adds a directory, and one that does not
pub one_dir : (phrases : List Phrase) (i : ℕ) (d : Phrase) (path new : List ℕ) (first more : Bool) (dir : List ℕ) → i < length phrases → dir ∷ [] ≡ run_dirs_of (phrase_seen (get_or phrases i d)) → new ≡ path ++ (if first then dir else 58 ∷ dir) → more ≡ false
    → new ++ joined_after more (dirs_from (i + 1) phrases) ≡ path ++ joined_after first (dirs_from i phrases)
one_dir phrases i d path new first more dir l here put next =
    ap (λ (b : Bool). new ++ joined_after b (dirs_from (i + 1) phrases)) next
    ∙ ap (λ (p : List ℕ). p ++ joined_after false (dirs_from (i + 1) phrases)) put
    ∙ joined_more path first dir (dirs_from (i + 1) phrases)
    ∙ ap (λ (ds : List (List ℕ)). path ++ joined_after first (ds ++ dirs_from (i + 1) phrases)) here
    ∙ sym (ap (λ (ds : List (List ℕ)). path ++ joined_after first ds) (dirs_next phrases i d l))

pub no_dir : (phrases : List Phrase) (i : ℕ) (d : Phrase) (path new : List ℕ) (first more : Bool) → i < length phrases → [] ≡ run_dirs_of (phrase_seen (get_or phrases i d)) → new ≡ path → more ≡ first
    → new ++ joined_after more (dirs_from (i + 1) phrases) ≡ path ++ joined_after first (dirs_from i phrases)
no_dir phrases i d path new first more l here same next =
    ap (λ (b : Bool). new ++ joined_after b (dirs_from (i + 1) phrases)) next
    ∙ ap (λ (p : List ℕ). p ++ joined_after first (dirs_from (i + 1) phrases)) same
    ∙ ap (λ (ds : List (List ℕ)). path ++ joined_after first (ds ++ dirs_from (i + 1) phrases)) here
    ∙ sym (ap (λ (ds : List (List ℕ)). path ++ joined_after first ds) (dirs_next phrases i d l))
