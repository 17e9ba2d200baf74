-- Records as words of eight bytes (this project's own): a long number is a word, and two shorter fields in a
-- row are one.
use Rattle.std.specs.Prelude.{ℕ, List, [], ◌∷◌, ◌++◌, length, Option, Some, None}
use Rattle.lk_elf.specs.Fields.{bytes_of}
use Rattle.lk_model.specs.RecordFields.{Field, field_bytes}
use Rattle.lk_model.specs.RecordFields.Field.{Short, Long, Text}
use Rattle.lk_model.specs.declared.summaries.Group.{Group}

-- the words of fields, after this half of the first word
abbrev pub words_from : (List ℕ → ℕ) → Option (List ℕ) → List Field → List (List ℕ)
words_from offset None [] = []
words_from offset (Some half) [] = half ∷ []
words_from offset None (Short n ∷ fields) = words_from offset (Some (bytes_of 4 n)) fields
words_from offset None (Long n ∷ fields) = bytes_of 8 n ∷ words_from offset None fields
words_from offset None (Text t ∷ fields) = words_from offset (Some (bytes_of 4 (offset t))) fields
words_from offset (Some half) (field ∷ fields) = (half ++ field_bytes offset field) ∷ words_from offset None fields

-- the words of fields
abbrev pub words_of : (List ℕ → ℕ) → List Field → List (List ℕ)
words_of offset fields = words_from offset None fields

-- a group before its members
abbrev pub group_head : Group → List Field
group_head g = Text g.signature ∷ Short (length g.members) ∷ []
