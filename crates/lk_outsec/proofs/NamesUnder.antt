-- Names that go on from others.
use Rattle.std.specs.Prelude.{◌≡◌, refl, ℕ, Bool, true, false, ◌&&◌, ◌||◌, ◌+◌, bytes_eq, codes, nat_lt, List, [], ◌∷◌, ◌++◌, cond, drop, find, length, nat_eq, Option, Some, None, unwrap_or}
use Rattle.std.specs.List.{starts_with}
use Rattle.std.proofs.Common.{ap, ◌∙◌}
use Rattle.lk_model.specs.Pieces.{common_name, common_names, goes_under}
use Rattle.lk_outsec.specs.CommonNames.{array_names, first_names, name_of_parts, older_names}

and-assoc : (a b c : Bool) → (a && (b && c)) ≡ ((a && b) && c)
and-assoc true b c = refl
and-assoc false b c = refl

-- a text begins with one and a byte after it
pub dotted : (name base : List ℕ) (c : ℕ) → starts_with nat_eq name (base ++ c ∷ []) ≡ (starts_with nat_eq name base && starts_with nat_eq (drop (length base) name) (c ∷ []))
dotted name [] c = refl
dotted [] (b ∷ base) c = refl
dotted (x ∷ name) (b ∷ base) c =
    ap (λ t. nat_eq b x && t) (dotted name base c)
    ∙ and-assoc (nat_eq b x) (starts_with nat_eq name base) (starts_with nat_eq (drop (length base) name) (c ∷ []))

-- a name that goes on by less than two bytes is under another only where it is the other
pub short : (name base : List ℕ) → nat_lt (length base + 1) (length name) ≡ false → goes_under name base ≡ bytes_eq name base
short name base e = go (bytes_eq name base) (starts_with nat_eq name (base ++ codes ".")) (nat_lt (length base + 1) (length name)) e
  where
    go : (same begins longer : Bool) → longer ≡ false → (same || (begins && longer)) ≡ same
    go true begins longer e = refl
    go false true longer e = e
    go false false longer e = refl

-- ---- the names that are taken for others, in three parts

abbrev or_else : Option (List ℕ) → Option (List ℕ) → Option (List ℕ)
or_else (Some x) other = Some x
or_else None other = other

found_step : (t : Bool) (x : List ℕ) (o a b : Option (List ℕ)) → o ≡ or_else a b → cond t (Some x) o ≡ or_else (cond t (Some x) a) b
found_step true x o a b e = refl
found_step false x o a b e = e

found_joined : (p : List ℕ → Bool) (xs ys : List (List ℕ)) → find p (xs ++ ys) ≡ or_else (find p xs) (find p ys)
found_joined p [] ys = refl
found_joined p (x ∷ xs) ys = found_step (p x) x (find p (xs ++ ys)) (find p xs) (find p ys) (found_joined p xs ys)

parts : (a b c : Option (List ℕ)) (name : List ℕ) → unwrap_or (or_else a (or_else b c)) name ≡ name_of_parts a b c name
parts (Some x) b c name = refl
parts None (Some x) c name = refl
parts None None (Some x) name = refl
parts None None None name = refl

pub common_reported : (name : List ℕ) → common_name name ≡ name_of_parts (find (goes_under name) first_names) (find (goes_under name) array_names) (find (goes_under name) older_names) name
unfolding common_names first_names array_names older_names
common_reported name =
    ap (λ (o : Option (List ℕ)). unwrap_or o name) (found_joined (goes_under name) first_names (array_names ++ older_names))
    ∙ ap (λ (o : Option (List ℕ)). unwrap_or (or_else (find (goes_under name) first_names) o) name) (found_joined (goes_under name) array_names older_names)
    ∙ parts (find (goes_under name) first_names) (find (goes_under name) array_names) (find (goes_under name) older_names) name
