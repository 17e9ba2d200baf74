-- A row that is set in the list of files in memory, as the map sees it.
use Rattle.std.proofs.Common.{◌≡◌, ◌≤◌, ◌++◌, ◌∷◌, [], ℕ, List, length, set, get_or, Option, Some, None, Result, Ok, Err, OnOk, subst, Bool, cond, true, false, find, position, bytes_eq, option_map, refl, ◌∙◌, sym, ap, arith}
use Rattle.std.specs.List.{position_or_len}
use Rattle.std.specs.Option.{option_or}
use Rattle.std.proofs.lemmas.List.Folds.{find_at, find-set, find_past, find-append}
use Rattle.std.proofs.lemmas.List.Quantifiers.{position-Some}
use Rattle.std.proofs.lemmas.Option.{slice_get_past}
use Rattle.std.proofs.lemmas.Slice.Eq.{bytes_eq-Decides}
use Rattle.lk_outside.specs.declared.file_entries.FileEntry.{FileEntry}
use Rattle.lk_outside.specs.FilesInMemory.{row_of, SetsRow}

-- whether a file has this path
abbrev pub has_path : List ℕ → FileEntry → Bool
has_path path e = bytes_eq e.path path

bytes_eq-same : (p : List ℕ) → bytes_eq p p ≡ true
bytes_eq-same p = (bytes_eq-Decides p p).1 refl

bytes_eq-apart : (p q : List ℕ) → (q ≡ p → ⊥) → bytes_eq p q ≡ false
bytes_eq-apart p q apart =
    elim (bytes_eq p q) as (λ b. bytes_eq p q ≡ b → b ≡ false)
    [ true ↦ λ is. absurd (apart (sym ((bytes_eq-Decides p q).0 is))) | false ↦ λ _. refl ] refl

position_or_len-at : {X : Type 0} (p : X → Bool) (xs : List X) (i : ℕ) → position p xs ≡ Some i → i ≡ position_or_len p xs
position_or_len-at p xs i is = grind arith

-- a file that takes the place of one of the same path
pub row_set : (xs : List FileEntry) (i : ℕ) (e : FileEntry) → position (has_path e.path) xs ≡ Some i → SetsRow xs (set xs i e) e.path (row_of e)
row_set xs i e is =
    let here = position-Some (has_path e.path) xs i e is in
    let same_path : (get_or xs i e).path ≡ e.path = (bytes_eq-Decides (get_or xs i e).path e.path).0 here.1 in (
      ap (option_map row_of) (find-set (has_path e.path) xs i e (position_or_len-at (has_path e.path) xs i is) here.0 (bytes_eq-same e.path)),
      λ other apart.
          ap (option_map row_of)
          (find_past (has_path other) xs i e e
          (ap (λ p. bytes_eq p other) same_path ∙ bytes_eq-apart e.path other apart)
          (bytes_eq-apart e.path other apart)),
    )

find-none : {X : Type 0} (p : X → Bool) (xs : List X) → position p xs ≡ None → find p xs ≡ None
find-none p xs none =
    let past : length xs ≤ position_or_len p xs = grind arith in
    find_at p xs ∙ slice_get_past xs (position_or_len p xs) past

option_or-None : {X : Type 0} (o : Option X) → option_or o None ≡ o
option_or-None None = refl
option_or-None (Some x) = refl

-- a file put at the end, where none has its path
pub row_appended : (xs : List FileEntry) (e : FileEntry) → position (has_path e.path) xs ≡ None → SetsRow xs (xs ++ e ∷ []) e.path (row_of e)
row_appended xs e none = (
  ap (option_map row_of)
      (find-append (has_path e.path) xs (e ∷ []) ∙ ap (λ o. option_or o (find (has_path e.path) (e ∷ []))) (find-none (has_path e.path) xs none) ∙ found),
  λ other apart.
      ap (option_map row_of)
      (find-append (has_path other) xs (e ∷ []) ∙ ap (option_or (find (has_path other) xs)) (passed other apart) ∙ option_or-None (find (has_path other) xs)),
)
  where
    found : find (has_path e.path) (e ∷ []) ≡ Some e
    found = ap (λ b. cond b (Some e) None) (bytes_eq-same e.path)

    passed : (other : List ℕ) → (other ≡ e.path → ⊥) → find (has_path other) (e ∷ []) ≡ None
    passed other apart = ap (λ b. cond b (Some e) None) (bytes_eq-apart e.path other apart)

-- the same where it was put at the end only if there was memory
pub row_appended_or_not : {T E : Type 0} (r : Result T E) (xs ys : List FileEntry) (e : FileEntry) → position (has_path e.path) xs ≡ None → OnOk r (ys ≡ xs ++ e ∷ []) → OnOk r (SetsRow xs ys e.path (row_of e))
row_appended_or_not (Ok _) xs ys e none is =
    subst (λ zs. SetsRow xs zs e.path (row_of e)) (sym is) (row_appended xs e none)
row_appended_or_not (Err _) xs ys e none is = is
