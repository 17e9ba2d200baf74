-- This project's own: which members of a lib group define a name.
use Rattle.std.specs.Prelude.{◌≡◌, ℕ, nat_eq, Bool, false, ◌&&◌, ◌||◌, List, [], ◌∷◌, ◌++◌, unwrap_or, get_or, slice_get, Option, Some, None}
use Rattle.std.specs.Borrow.{Bor}
use Rattle.std.specs.List.{list_any}
use Rattle.std.specs.Map.{lookup}
use Rattle.std.specs.Str.{bytes_eq}
use Rattle.indexmap.specs.IndexMap.{insert_entry, set_value_at}
use Rattle.lk_model.specs.declared.summaries.Global.{Global}
use Rattle.lk_resolve.specs.declared.definers.Definers.{Definers}
use Rattle.lk_resolve.specs.declared.members.Member.{Member}
use Rattle.lk_resolve.specs.Wanted.{is_home_placed}

-- the places of the members that define a name
abbrev pub places_under : List (Bor (List ℕ) × List ℕ) → List ℕ → List ℕ
places_under entries name = unwrap_or (lookup (λ (key : Bor (List ℕ)). bytes_eq name key.now) entries) []

-- whether the member at a place is known to define a name
abbrev pub is_definer : Definers → List ℕ → ℕ → Bool
is_definer definers name i = list_any (nat_eq i) (places_under definers.places.entries name)

-- whether a symbol with a place, in whatever section, has a name; some symbol; one of a member, where there is one
abbrev pub defines : List ℕ → Global → Bool
defines name g = is_home_placed g.home && bytes_eq name g.name

abbrev pub defines_among : List Global → List ℕ → Bool
defines_among globals name = list_any (defines name) globals

abbrev pub defines_in : Option Member → List ℕ → Bool
defines_in None name = false
defines_in (Some m) name = defines_among m.summary.now.globals name

-- what is known of the names, where a member at a place was noted to define one, or these of its symbols
abbrev pub IsNoted : Definers → Definers → List ℕ → ℕ → Type 0
IsNoted old new name place = (other : List ℕ) (i : ℕ) → is_definer new other i ≡ (is_definer old other i || (bytes_eq other name && nat_eq i place))

abbrev pub AreNoted : Definers → Definers → List Global → ℕ → Type 0
AreNoted old new globals place = (other : List ℕ) (i : ℕ) → is_definer new other i ≡ (is_definer old other i || (defines_among globals other && nat_eq i place))

-- the members that are known to define a name are those of these that do
abbrev pub DefinersAre : Definers → List (Option Member) → Type 0
DefinersAre definers members = (name : List ℕ) (i : ℕ) → is_definer definers name i ≡ defines_in (get_or members i None) name

-- the entries with these places under a name, and with one more under the name that is at a number
abbrev pub with_places : List (Bor (List ℕ) × List ℕ) → Bor (List ℕ) → List ℕ → List (Bor (List ℕ) × List ℕ)
with_places entries name places = insert_entry (λ (x y : Bor (List ℕ)). bytes_eq x.now y.now) entries name places

abbrev pub IsPutAt : List (Bor (List ℕ) × List ℕ) → List (Bor (List ℕ) × List ℕ) → ℕ → ℕ → Type 0
IsPutAt old new n place = (key : Bor (List ℕ)) (places : List ℕ) → slice_get old n ≡ Some (key, places) → new ≡ set_value_at old n (places ++ place ∷ [])
