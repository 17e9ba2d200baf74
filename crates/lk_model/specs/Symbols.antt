-- The symbols of the added inputs by name (gABI "Symbol Table"). That a definition in a section which
-- the link drops counts as a reference is this project's own reading of "Section Groups".
use Rattle.std.specs.Prelude.{ℕ, Bool, true, false, ◌&&◌, not, cond, ◌==◌, List, [], map, flat_map, filter}
use Rattle.std.specs.Str.{bytes_eq}
use Rattle.lk_elf.specs.Numbers.{stb_weak}
use Rattle.lk_model.specs.declared.summaries.Contribution.{Contribution}
use Rattle.lk_model.specs.declared.summaries.Contributions.{Contributions}
use Rattle.lk_model.specs.declared.summaries.Global.{Global}
use Rattle.lk_model.specs.declared.summaries.Home.{Home}
use Rattle.lk_model.specs.declared.summaries.Home.TheVariants as home
use Rattle.lk_model.specs.declared.summaries.InputSummary.{InputSummary}
use Rattle.lk_model.specs.declared.summaries.Kind.TheVariants as kind
use Rattle.lk_model.specs.Groups.{is_left, with_claims}
use Rattle.lk_model.specs.Numbered.{Numbered, distinct}

-- where a symbol counts as defined: a section that the link does not keep defines nothing
abbrev pub home_left : List (List ℕ) → InputSummary → Home → Home
home_left claimed summary (home.Section s) = cond (is_left claimed summary s) (home.Section s) home.Undefined
home_left claimed summary home.Undefined = home.Undefined
home_left claimed summary home.Absolute = home.Absolute
home_left claimed summary home.Common = home.Common
home_left claimed summary home.Shared = home.Shared

-- the symbols of an input as they count after the signatures claimed before it, in symbol order
abbrev pub contributions_by : List (List ℕ) → Numbered → List Contribution
contributions_by claimed x = map (λ (g : Global). record { input = x.number; kind = x.summary.kind; global = record g { home = home_left claimed x.summary g.home } }) x.summary.globals

-- the symbols of the added inputs, in adding order and symbol order
abbrev pub symbols_of : List Numbered → List Contribution
symbols_of added = flat_map (λ (c : List (List ℕ) × Numbered). contributions_by c.0 c.1) (with_claims [] added)

-- whether a symbol is one of an object
abbrev pub is_of_object : Contribution → Bool
is_of_object c = elim c.kind [ kind.Object ↦ true | kind.Shared ↦ false ]

-- whether a symbol has a place of its own, which a common has not
abbrev pub is_placed : Contribution → Bool
is_placed c = elim c.global.home [ home.Undefined ↦ false | home.Section s ↦ true | home.Absolute ↦ true | home.Common ↦ false | home.Shared ↦ false ]

-- whether a symbol is a reference
abbrev pub is_undefined : Contribution → Bool
is_undefined c = elim c.global.home [ home.Undefined ↦ true | home.Section s ↦ false | home.Absolute ↦ false | home.Common ↦ false | home.Shared ↦ false ]

-- whether a symbol is a common block
abbrev pub is_common : Contribution → Bool
is_common c = elim c.global.home [ home.Undefined ↦ false | home.Section s ↦ false | home.Absolute ↦ false | home.Common ↦ true | home.Shared ↦ false ]

-- whether a symbol is WEAK
abbrev pub is_weak : Contribution → Bool
is_weak c = c.global.binding == stb_weak

-- whether a symbol is a strong definition in an object
abbrev pub is_strong_definition : Contribution → Bool
is_strong_definition c = is_of_object c && (is_placed c && not (is_weak c))

-- whether a symbol is a weak definition in an object
abbrev pub is_weak_definition : Contribution → Bool
is_weak_definition c = is_of_object c && (is_placed c && is_weak c)

-- whether a symbol is a common block of an object
abbrev pub is_object_common : Contribution → Bool
is_object_common c = is_of_object c && is_common c

-- whether a symbol is a definition in a shared input
abbrev pub is_shared_definition : Contribution → Bool
is_shared_definition c = not (is_of_object c) && not (is_undefined c)

-- whether a symbol is a reference of an object
abbrev pub is_object_reference : Contribution → Bool
is_object_reference c = is_of_object c && is_undefined c

-- whether a symbol has this name
abbrev pub is_named : List ℕ → Contribution → Bool
is_named name c = bytes_eq c.global.name name

-- the symbols of one name
abbrev pub contributions_to : List Contribution → List ℕ → Contributions
contributions_to symbols name = record { name = name; list = filter (is_named name) symbols }

-- the names in order of their first symbol
abbrev pub names_in_order : List Contribution → List (List ℕ)
names_in_order symbols = distinct bytes_eq (map (λ (c : Contribution). c.global.name) symbols)

-- each name with its symbols, in order of names
abbrev pub contributions_of : List Contribution → List Contributions
contributions_of symbols = map (contributions_to symbols) (names_in_order symbols)
