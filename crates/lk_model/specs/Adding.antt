-- This project's own: which inputs of a command are added, and in which order. Inputs outside a lib
-- group are added as the command has them; of a lib group those members that define a wanted name are
-- added, each when its turn comes.
use Rattle.std.specs.Prelude.{◌≡◌, ℕ, zero, suc, ◌==◌, Bool, ◌&&◌, ◌||◌, not, cond, List, [], ◌∷◌, ◌++◌, map, flat_map, fold}
use Rattle.std.specs.List.{list_any}
use Rattle.std.specs.Bool.{⊤}
use Rattle.std.specs.Str.{bytes_eq}
use Rattle.lk_elf.specs.Numbers.{stb_global, stv_default}
use Rattle.lk_model.specs.declared.summaries.Contribution.{Contribution}
use Rattle.lk_model.specs.Groups.{claimed_by}
use Rattle.lk_model.specs.Numbered.{Numbered, numbered_from}
use Rattle.lk_model.specs.Queues.{IsListed, listed_of}
use Rattle.lk_model.specs.Symbols.{contributions_by, contributions_to, symbols_of, is_of_object, is_object_common, is_object_reference, is_placed, is_shared_definition}
use Rattle.lk_model.specs.Views.{Input}
use Rattle.lk_model.specs.Winners.{visibility_of}

-- whether a name is wanted, where its symbols in the added inputs are these: it is the entry name or
-- an object has an undefined GLOBAL symbol of it, no object defines it, and no shared input defines it
-- while its visibility is default
abbrev pub is_wanted_among : List ℕ → List Contribution → List ℕ → Bool
is_wanted_among entry symbols name =
    let cs = contributions_to symbols name in
    (bytes_eq entry name || list_any (λ (c : Contribution). is_object_reference c && (c.global.binding == stb_global)) cs.list)
    && (not (list_any (λ (c : Contribution). is_of_object c && (is_placed c || is_object_common c)) cs.list)
    && not (list_any is_shared_definition cs.list && (visibility_of cs == stv_default)))

-- whether a name is wanted at the moment when these inputs are added
abbrev pub is_wanted : List ℕ → List Numbered → List ℕ → Bool
is_wanted entry added name = is_wanted_among entry (symbols_of added) name

-- whether a member of a lib group is to be added at the moment when these inputs are: it defines a
-- wanted name, other than as common, with its groups claimed as if it came next
abbrev pub is_wanted_member : List ℕ → List Numbered → Numbered → Bool
is_wanted_member entry added member =
    let symbols = symbols_of added in
    list_any (λ (c : Contribution). is_placed c && is_wanted_among entry symbols c.global.name) (contributions_by (claimed_by added) member)

-- the added inputs with one more
abbrev pub with_one : List Numbered → Numbered → List Numbered
with_one added member = added ++ member ∷ []

-- the items of a command before which one more input is, with its lib group's number
abbrev pub with_front : ℕ → Numbered → List (ℕ × List Numbered) → List (ℕ × List Numbered)
with_front zero x items = (0, x ∷ []) ∷ items
with_front (suc n) x [] = (suc n, x ∷ []) ∷ []
with_front (suc n) x ((lib, members) ∷ items) = cond (lib == suc n) ((lib, x ∷ members) ∷ items) ((suc n, x ∷ []) ∷ (lib, members) ∷ items)

-- the items that inputs make: each input outside a lib group with 0, each lib group with its number
-- and its members
abbrev pub items_among : List (ℕ × Numbered) → List (ℕ × List Numbered)
items_among [] = []
items_among ((lib, x) ∷ inputs) = with_front lib x (items_among inputs)

-- the items of a command
abbrev pub items_of : List Input → List (ℕ × List Numbered)
items_of inputs = items_among (numbered_from 0 inputs)

-- these are the inputs that an item adds: its input, or of a lib group those that the search round
-- its members lists
abbrev pub AddsItem : List ℕ → List Numbered → ℕ × List Numbered → List Numbered → Type 0
AddsItem entry added (zero, members) new = new ≡ members
AddsItem entry added (suc n, members) new = IsListed (is_wanted_member entry) with_one added members new

-- each item adds its part, after what the items before it added
abbrev pub AddsItems : List ℕ → List Numbered → List (ℕ × List Numbered) → List (List Numbered) → Type 0
AddsItems entry added [] [] = ⊤
AddsItems entry added [] (new ∷ parts) = ⊥
AddsItems entry added (item ∷ items) [] = ⊥
AddsItems entry added (item ∷ items) (new ∷ parts) = AddsItem entry added item new × AddsItems entry (added ++ new) items parts

-- the numbers of inputs
abbrev pub numbers_in : List Numbered → List ℕ
numbers_in xs = map (λ (x : Numbered). x.number) xs

-- these are the added inputs of a command in adding order: they fall into parts, one an item
abbrev pub IsAdded : List ℕ → List Input → List ℕ → Type 0
IsAdded entry inputs added = (parts : List (List Numbered)) × AddsItems entry [] (items_of inputs) parts × (added ≡ flat_map numbers_in parts)

-- the inputs that an item adds
abbrev pub item_added : List ℕ → List Numbered → ℕ × List Numbered → List Numbered
item_added entry added (zero, members) = members
item_added entry added (suc n, members) = listed_of (is_wanted_member entry) with_one added members

-- the added inputs after one more item
abbrev pub with_item : List ℕ → List Numbered → ℕ × List Numbered → List Numbered
with_item entry added item = added ++ item_added entry added item

-- the added inputs of a command, with their numbers
unfoldable pub added_inputs : List ℕ → List Input → List Numbered
added_inputs entry inputs = fold (with_item entry) [] (items_of inputs)

-- the numbers of the added inputs of a command
unfoldable pub added_of : List ℕ → List Input → List ℕ
added_of entry inputs = numbers_in (added_inputs entry inputs)
