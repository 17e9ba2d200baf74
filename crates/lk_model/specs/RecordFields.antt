-- The spelling of records as fields (this project's own): numbers of four and of eight bytes, and
-- texts by their offset in the table of texts.
use Rattle.std.specs.Prelude.{ℕ, List, Option, Some, None}
use Rattle.std.specs.List.{flat_map, filter_map}
use Rattle.lk_elf.specs.Fields.{bytes_of}

-- one field of a record
pub data Field : Type 0 where
  Short : (n : ℕ) → Field
  Long : (n : ℕ) → Field
  Text : (t : List ℕ) → Field

-- the bytes of a field, where each text has this offset
abbrev pub field_bytes : (List ℕ → ℕ) → Field → List ℕ
field_bytes offset (Short n) = bytes_of 4 n
field_bytes offset (Long n) = bytes_of 8 n
field_bytes offset (Text t) = bytes_of 4 (offset t)

-- the bytes of fields, one after another
unfoldable pub spelled : (List ℕ → ℕ) → List Field → List ℕ
spelled offset fields = flat_map (field_bytes offset) fields

-- the texts of fields, in their order
abbrev pub field_text : Field → Option (List ℕ)
field_text (Short n) = None
field_text (Long n) = None
field_text (Text t) = Some t

abbrev pub texts_of : List Field → List (List ℕ)
texts_of fields = filter_map field_text fields
