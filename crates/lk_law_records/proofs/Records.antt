-- What is spelled of records is read back: one record of any forms, and so many records in a row. A
-- field fits where its number is below its width, or where its text is found again at its offset.
use Rattle.std.proofs.Common.{◌≡◌, ℕ, ◌^◌, ◌<◌, List, [], ◌∷◌, ◌++◌, length, take, drop, refl, ap, ◌∙◌, arith, append_assoc, length-append}
use Rattle.std.specs.Prelude.{true, map, Option, Some, Ok, nat_le}
use Rattle.std.specs.List.{flat_map}
use Rattle.std.proofs.lemmas.List.{drop_at, take_at}
use Rattle.std.proofs.lemmas.List.Concat.{flat_map-append}
use Rattle.std.proofs.lemmas.Bool.{le-leb}
use Rattle.lk_elf.specs.Fields.{bytes_of, number_of}
use Rattle.lk_elf.proofs.Widths.{length-bytes_of}
use Rattle.lk_elf.proofs.Writing.{number_of-bytes_of}
use Rattle.lk_model.specs.RecordFields.{Field, spelled, field_bytes}
use Rattle.lk_model.specs.RecordFields.Field.{Short, Long, Text}
use Rattle.lk_model.specs.RecordForms.{Form, Values, Given, given_then, record_width, raw_numbers, values_with, read_record, read_many}
use Rattle.lk_model.specs.RecordForms.Form.{Num32, Num64, Text32}

-- the fields that hold these values
abbrev pub flat : (fs : List Form) → Values fs → List Field
flat [] vs = []
flat (Num32 ∷ fs) (n, vs) = Short n ∷ flat fs vs
flat (Num64 ∷ fs) (n, vs) = Long n ∷ flat fs vs
flat (Text32 ∷ fs) (t, vs) = Text t ∷ flat fs vs

-- a field is read back where its texts have these offsets
abbrev pub FieldFits : (ℕ → Option (List ℕ)) → (List ℕ → ℕ) → Field → Type 0
FieldFits texts offset (Short n) = n < 2 ^ 32
FieldFits texts offset (Long n) = n < 2 ^ 64
FieldFits texts offset (Text t) = (offset t < 2 ^ 32) × (texts (offset t) ≡ Some t)

abbrev pub FieldsFit : (ℕ → Option (List ℕ)) → (List ℕ → ℕ) → List Field → Type 0
FieldsFit texts offset [] = Unit {0}
FieldsFit texts offset (f ∷ fs) = FieldFits texts offset f × FieldsFit texts offset fs

-- the fields of two lists in a row fit where those of each do
pub fit-first : (texts : ℕ → Option (List ℕ)) (offset : List ℕ → ℕ) (xs ys : List Field) → FieldsFit texts offset (xs ++ ys) → FieldsFit texts offset xs
fit-first texts offset [] ys fit = tt
fit-first texts offset (x ∷ xs) ys (here, more) = (here, fit-first texts offset xs ys more)

pub fit-second : (texts : ℕ → Option (List ℕ)) (offset : List ℕ → ℕ) (xs ys : List Field) → FieldsFit texts offset (xs ++ ys) → FieldsFit texts offset ys
fit-second texts offset [] ys fit = fit
fit-second texts offset (x ∷ xs) ys (here, more) = fit-second texts offset xs ys more

-- two lists of fields are spelled one after another
pub spelled-append : (offset : List ℕ → ℕ) (xs ys : List Field) → spelled offset (xs ++ ys) ≡ spelled offset xs ++ spelled offset ys
unfolding spelled
spelled-append offset xs ys = flat_map-append (field_bytes offset) xs ys

-- a number at the front of bytes, and what is behind it
pub front-number : (w n : ℕ) (xs rest : List ℕ) → n < 256 ^ w → number_of (take w ((bytes_of w n ++ xs) ++ rest)) ≡ n
front-number w n xs rest fits =
    ap (λ l. number_of (take w l)) (append_assoc (bytes_of w n) xs rest)
    ∙ ap number_of (take_at (bytes_of w n) (xs ++ rest) w (length-bytes_of w n))
    ∙ number_of-bytes_of w n fits

pub front-rest : (w n : ℕ) (xs rest : List ℕ) → drop w ((bytes_of w n ++ xs) ++ rest) ≡ xs ++ rest
front-rest w n xs rest = ap (drop w) (append_assoc (bytes_of w n) xs rest) ∙ drop_at (bytes_of w n) (xs ++ rest) w (length-bytes_of w n)

-- the values of a record are read back
pub values-back : (texts : ℕ → Option (List ℕ)) (offset : List ℕ → ℕ) (fs : List Form) (vs : Values fs) (rest : List ℕ)
    → FieldsFit texts offset (flat fs vs) → values_with texts fs (raw_numbers fs (spelled offset (flat fs vs) ++ rest)) ≡ Some vs
unfolding spelled
values-back texts offset [] vs rest fit = refl
values-back texts offset (Num32 ∷ fs) (n, vs) rest (here, more) =
    let s = spelled offset (flat fs vs) in
    let first = front-number 4 n s rest here in
    let behind = front-rest 4 n s rest in
    rw (first, behind, values-back texts offset fs vs rest more) refl
values-back texts offset (Num64 ∷ fs) (n, vs) rest (here, more) =
    let s = spelled offset (flat fs vs) in
    let first = front-number 8 n s rest here in
    let behind = front-rest 8 n s rest in
    rw (first, behind, values-back texts offset fs vs rest more) refl
values-back texts offset (Text32 ∷ fs) (t, vs) rest ((low, found), more) =
    let s = spelled offset (flat fs vs) in
    let first = front-number 4 (offset t) s rest low in
    let behind = front-rest 4 (offset t) s rest in
    rw (first, behind, found, values-back texts offset fs vs rest more) refl

-- so many bytes are spelled of a record
pub length-record : (offset : List ℕ → ℕ) (fs : List Form) (vs : Values fs) → length (spelled offset (flat fs vs)) ≡ record_width fs
unfolding spelled
length-record offset [] vs = refl
length-record offset (Num32 ∷ fs) (n, vs) =
    length-append (bytes_of 4 n) (spelled offset (flat fs vs)) ∙ rw (length-bytes_of 4 n, length-record offset fs vs) refl
length-record offset (Num64 ∷ fs) (n, vs) =
    length-append (bytes_of 8 n) (spelled offset (flat fs vs)) ∙ rw (length-bytes_of 8 n, length-record offset fs vs) refl
length-record offset (Text32 ∷ fs) (t, vs) =
    length-append (bytes_of 4 (offset t)) (spelled offset (flat fs vs)) ∙ rw (length-bytes_of 4 (offset t), length-record offset fs vs) refl

-- one record is read back
pub record-back : {X : Type 0} (texts : ℕ → Option (List ℕ)) (offset : List ℕ → ℕ) (fs : List Form) (row : Values fs → Option X) (vs : Values fs) (x : X) (rest : List ℕ)
    → FieldsFit texts offset (flat fs vs) → row vs ≡ Some x → read_record texts fs row (spelled offset (flat fs vs) ++ rest) ≡ Ok (x, rest)
record-back texts offset fs row vs x rest fit good =
    let s = spelled offset (flat fs vs) in
    let long : length s ≡ record_width fs = length-record offset fs vs in
    let room : nat_le (record_width fs) (length (s ++ rest)) ≡ true = le-leb (record_width fs) (length (s ++ rest)) (omega (arith, length-append s rest, long)) in
    let back = values-back texts offset fs vs rest fit in
    let behind : drop (record_width fs) (s ++ rest) ≡ rest = drop_at s rest (record_width fs) long in
    rw (room, back, behind, good) refl

-- one reader after another
pub given-ok : {A B : Type 0} (g : Given A) (f : A → List ℕ → Given B) (x : A) (rest : List ℕ) (y : Given B) → g ≡ Ok (x, rest) → f x rest ≡ y → given_then g f ≡ y
given-ok g f x rest y first then = rw first then

-- so many records are read back, where each one is
abbrev pub EachBack : {X Y : Type 0} → (List ℕ → Given Y) → (X → List ℕ) → (X → Y) → List X → Type 0
EachBack one bytes value [] = Unit {0}
EachBack one bytes value (x ∷ xs) = ((rest : List ℕ) → one (bytes x ++ rest) ≡ Ok (value x, rest)) × EachBack one bytes value xs

pub many-back : {X Y : Type 0} (one : List ℕ → Given Y) (bytes : X → List ℕ) (value : X → Y) (xs : List X) (rest : List ℕ) → EachBack one bytes value xs
    → read_many one (length xs) (flat_map bytes xs ++ rest) ≡ Ok (map value xs, rest)
many-back one bytes value [] rest each = refl
many-back one bytes value (x ∷ xs) rest (here, more) =
    rw (append_assoc (bytes x) (flat_map bytes xs) rest, here (flat_map bytes xs ++ rest), many-back one bytes value xs rest more) refl
