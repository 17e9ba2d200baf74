-- Fields whose numbers are below their widths and whose texts hold no zero byte are read back with the
-- table of their texts.
use Rattle.std.proofs.Common.{◌≡◌, ℕ, ◌^◌, ◌<◌, true, false, List, [], ◌∷◌, ◌++◌, length, refl, arith}
use Rattle.std.specs.List.{flat_map, list_any}
use Rattle.std.specs.Str.{bytes_eq}
use Rattle.std.proofs.lemmas.Bool.{or_right, or_left}
use Rattle.std.proofs.lemmas.Slice.Eq.{bytes_eq-Decides}
use Rattle.lk_model.specs.RecordFields.{Field, texts_of}
use Rattle.lk_model.specs.RecordFields.Field.{Short, Long, Text}
use Rattle.lk_model.specs.Texts.{table_of, offset_in, table_bytes, text_at}
use Rattle.lk_law_records.specs.Recordable.{has_zero}
use Rattle.lk_law_records.proofs.Records.{FieldsFit}
use Rattle.lk_law_records.proofs.Texts.{text-found, offset-below, in-table}

-- a number is below its field's width, a text holds no zero byte
abbrev pub IsFieldFit : Field → Type 0
IsFieldFit (Short n) = n < 2 ^ 32
IsFieldFit (Long n) = n < 2 ^ 64
IsFieldFit (Text t) = has_zero t ≡ false

abbrev pub AreFieldsFit : List Field → Type 0
AreFieldsFit [] = Unit {0}
AreFieldsFit (f ∷ fs) = IsFieldFit f × AreFieldsFit fs

pub are-fit-append : (xs ys : List Field) → AreFieldsFit xs → AreFieldsFit ys → AreFieldsFit (xs ++ ys)
are-fit-append [] ys first second = second
are-fit-append (x ∷ xs) ys (here, more) second = (here, are-fit-append xs ys more second)

-- the lists that an item makes, one after another
abbrev pub EachFit : {X : Type 0} → (X → List Field) → List X → Type 0
EachFit f [] = Unit {0}
EachFit f (x ∷ xs) = AreFieldsFit (f x) × EachFit f xs

pub are-fit-flat : {X : Type 0} (f : X → List Field) (xs : List X) → EachFit f xs → AreFieldsFit (flat_map f xs)
are-fit-flat f [] each = tt
are-fit-flat f (x ∷ xs) (here, more) = are-fit-append (f x) (flat_map f xs) here (are-fit-flat f xs more)

same-text : (t : List ℕ) → bytes_eq t t ≡ true
same-text t = (bytes_eq-Decides t t).1 refl

-- the texts of a list are those of its first field and of the others
abbrev Holds : List (List ℕ) → List Field → Type 0
Holds table fs = (t : List ℕ) → list_any (bytes_eq t) (texts_of fs) ≡ true → list_any (bytes_eq t) table ≡ true

fits-in : (table : List (List ℕ)) (fs : List Field) → length (table_bytes table) < 2 ^ 32 → Holds table fs → AreFieldsFit fs
    → FieldsFit (text_at (table_bytes table)) (offset_in table) fs
fits-in table [] low holds fit = tt
fits-in table (Short n ∷ fs) low holds (here, more) = (here, fits-in table fs low holds more)
fits-in table (Long n ∷ fs) low holds (here, more) = (here, fits-in table fs low holds more)
fits-in table (Text t ∷ fs) low holds (here, more) =
    let there : list_any (bytes_eq t) table ≡ true = holds t (or_left (bytes_eq t t) (list_any (bytes_eq t) (texts_of fs)) (same-text t)) in
    let below = offset-below table t there in (
      (omega (arith, below), text-found table t here there),
      fits-in table fs low (λ u e. holds u (or_right (bytes_eq u t) (list_any (bytes_eq u) (texts_of fs)) e)) more,
    )

-- fields fit with the table of their own texts
pub fields-fit : (fs : List Field) → length (table_bytes (table_of (texts_of fs))) < 2 ^ 32 → AreFieldsFit fs
    → FieldsFit (text_at (table_bytes (table_of (texts_of fs)))) (offset_in (table_of (texts_of fs))) fs
fields-fit fs low fit = fits-in (table_of (texts_of fs)) fs low (λ t e. in-table (texts_of fs) t e) fit
