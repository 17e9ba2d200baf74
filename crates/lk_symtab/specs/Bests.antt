-- The best of a name's symbols, kind by kind: what its winner is picked from (gABI "Symbol Table",
-- "Common Symbols").
use Rattle.std.specs.Prelude.{ℕ, Bool, false, ◌&&◌, ◌||◌, cond, ◌==◌, max, List, [], ◌∷◌, ◌++◌, filter, find, fold, Option, Some, None, option_map}
use Rattle.std.specs.List.{list_any}
use Rattle.std.specs.Option.{option_or}
use Rattle.lk_model.specs.declared.summaries.Contribution.{Contribution}
use Rattle.lk_model.specs.declared.summaries.Contributions.{Contributions}
use Rattle.lk_model.specs.declared.summaries.Winner.{Winner}
use Rattle.lk_model.specs.declared.summaries.Winner.TheVariants as winner
use Rattle.lk_elf.specs.Numbers.{stb_global, stv_default}
use Rattle.lk_model.specs.Symbols.{is_of_object, is_strong_definition, is_weak_definition, is_object_common, is_object_reference, is_shared_definition}
use Rattle.lk_model.specs.Winners.{first_offered, made_where, stricter, visibility_of}
use Rattle.lk_symtab.specs.declared.bests.Best.{Best}
use Rattle.lk_symtab.specs.declared.bests.Block.{Block}
use Rattle.lk_symtab.specs.declared.bests.SymbolId.{SymbolId}

-- where a symbol is: its input and its number there
abbrev pub place_of : Contribution → SymbolId
place_of c = record { input = c.input; symbol = c.global.symbol }

-- where the first symbol is that passes a test
abbrev pub first_place : (Contribution → Bool) → List Contribution → Option SymbolId
first_place test list = option_map place_of (find test list)

-- the common blocks merged: the greatest size and the greatest alignment, which is a common's value
abbrev pub merged_block : List Contribution → Option Block
merged_block [] = None
merged_block (c ∷ cs) = Some (record { size = fold (λ n (d : Contribution). max n d.global.size) c.global.size cs; align = fold (λ n (d : Contribution). max n d.global.value) c.global.value cs })

-- whether a symbol is a reference of an object that wants a definition: an undefined GLOBAL symbol
abbrev pub is_global_reference : Contribution → Bool
is_global_reference c = is_object_reference c && (c.global.binding == stb_global)

-- the best of a name's symbols
unfoldable pub best_of : Contributions → Best
best_of cs = record { strong = first_place is_strong_definition cs.list; common = merged_block (filter is_object_common cs.list); weak = first_place is_weak_definition cs.list; import = first_place is_shared_definition cs.list; visibility = visibility_of cs; is_referred = list_any is_object_reference cs.list; is_needed = list_any is_global_reference cs.list }

-- the symbols of a name with one more at the end
abbrev pub with_last : Contributions → Contribution → Contributions
with_last cs c = record cs { list = cs.list ++ c ∷ [] }

-- the first place, where one more symbol passes the test or not
abbrev pub place_with : Option SymbolId → Bool → Contribution → Option SymbolId
place_with place passes c = option_or place (cond passes (Some (place_of c)) None)

-- a merged block with one more common of this size and alignment
abbrev pub block_and : Option Block → ℕ → ℕ → Block
block_and None size align = record { size = size; align = align }
block_and (Some b) size align = record { size = max b.size size; align = max b.align align }

-- a merged block with one more symbol, which is a common of an object or not
abbrev pub block_with : Option Block → Bool → Contribution → Option Block
block_with block is_more c = cond is_more (Some (block_and block c.global.size c.global.value)) block

-- a visibility with one more symbol, which is one of an object or not
abbrev pub visibility_with : ℕ → Bool → Contribution → ℕ
visibility_with visibility is_more c = cond is_more (stricter visibility c.global.visibility) visibility

-- the best of no symbols
abbrev pub none : Best
none = record { strong = None; common = None; weak = None; import = None; visibility = stv_default; is_referred = false; is_needed = false }

-- the best with one more symbol after the others
unfoldable pub best_with : Best → Contribution → Best
best_with best c = record { strong = place_with best.strong (is_strong_definition c) c; common = block_with best.common (is_object_common c) c; weak = place_with best.weak (is_weak_definition c) c; import = place_with best.import (is_shared_definition c) c; visibility = visibility_with best.visibility (is_of_object c) c; is_referred = best.is_referred || is_object_reference c; is_needed = best.is_needed || is_global_reference c }

-- the definition at a place or of a block, as a winner
abbrev pub strong_at : SymbolId → Winner
strong_at place = winner.Strong place.input place.symbol

abbrev pub common_of : Block → Winner
common_of block = winner.Common block.size block.align

abbrev pub weak_at : SymbolId → Winner
weak_at place = winner.Weak place.input place.symbol

abbrev pub import_at : SymbolId → Winner
import_at place = winner.Import place.input place.symbol

-- an import, which only a name of default visibility can mean
abbrev pub import_with : ℕ → Option SymbolId → Option Winner
import_with visibility import = cond (visibility == stv_default) (option_map import_at import) None

-- the winner that is picked from the best: strong, common, weak, made, import
unfoldable pub picked : Best → Bool → Winner
picked best is_made = first_offered (option_map strong_at best.strong ∷ option_map common_of best.common ∷ option_map weak_at best.weak ∷ made_where is_made ∷ import_with best.visibility best.import ∷ [])
