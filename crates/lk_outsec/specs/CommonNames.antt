-- The names that are taken for all names that go on from them, in three parts, and the name under which
-- another goes, by what the parts hold (this project's own rule).
use Rattle.std.specs.Prelude.{ℕ, List, [], ◌∷◌, codes, Option, Some, None}

-- code and data
unfoldable pub first_names : List (List ℕ)
first_names = codes ".text" ∷ codes ".rodata" ∷ codes ".data" ∷ []

-- zeros, and functions to be called
unfoldable pub array_names : List (List ℕ)
array_names = codes ".bss" ∷ codes ".init_array" ∷ codes ".fini_array" ∷ []

-- older tables of functions, and exception tables
unfoldable pub older_names : List (List ℕ)
older_names = codes ".ctors" ∷ codes ".dtors" ∷ codes ".gcc_except_table" ∷ []

-- the name that was found, of the first part that has one, or else the name itself
abbrev pub name_of_parts : Option (List ℕ) → Option (List ℕ) → Option (List ℕ) → List ℕ → List ℕ
name_of_parts (Some base) second third name = base
name_of_parts None (Some base) third name = base
name_of_parts None None (Some base) name = base
name_of_parts None None None name = name
