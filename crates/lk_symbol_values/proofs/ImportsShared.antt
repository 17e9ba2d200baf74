-- Only in a dynamic link does a name mean a definition in a shared input.
use Rattle.std.proofs.Common.{◌≡◌, refl, sym, ap, ◌∙◌, ℕ, ◌==◌, ◌&&◌, ◌||◌, not, Bool, true, false, cond, List, [], ◌∷◌, ◌++◌, map, filter, find, flat_map, slice_get, Option, Some, None, option_map}
use Rattle.std.specs.List.{AllByRecursion}
use Rattle.std.proofs.lemmas.Bool.{both_ways, or_parts}
use Rattle.lk_report.specs.declared.causes.OptionRecord.{OptionRecord}
use Rattle.lk_elf.specs.Numbers.{stv_default}
use Rattle.lk_model.specs.Adding.{added_inputs}
use Rattle.lk_model.specs.Finding.{found_of, is_dynamic, names_of, winners_of}
use Rattle.lk_model.specs.Groups.{signatures_in, with_claims}
use Rattle.lk_model.specs.KeptPieces.{kept_sections, loaded_names}
use Rattle.lk_model.specs.MadeNames.{is_made}
use Rattle.lk_model.specs.Numbered.{Numbered}
use Rattle.lk_model.specs.Resolving.{resolve}
use Rattle.lk_model.specs.SymbolValues.{winner_of_name}
use Rattle.lk_model.specs.Symbols.{contributions_by, contributions_to, home_left, is_named, is_object_common, is_of_object, is_shared_definition, is_strong_definition, is_undefined, is_weak_definition, names_in_order, symbols_of}
use Rattle.lk_model.specs.Views.{Input}
use Rattle.lk_model.specs.Winners.{common_among, first_offered, import_among, made_where, merged, strong_among, visibility_of, weak_among, winner_of}
use Rattle.lk_model.specs.declared.summaries.Contribution.{Contribution}
use Rattle.lk_model.specs.declared.summaries.Contributions.{Contributions}
use Rattle.lk_model.specs.declared.summaries.Global.{Global}
use Rattle.lk_model.specs.declared.summaries.Kind.{Kind}
use Rattle.lk_model.specs.declared.summaries.Kind.TheVariants as kind
use Rattle.lk_model.specs.declared.summaries.Winner.{Winner}
use Rattle.lk_model.specs.declared.summaries.Winner.TheVariants as winner
use Rattle.lk_model.proofs.Rising.{all_filter}
use Rattle.lk_symbol_values.proofs.Lists.{all_always, all_at, all_joined, all_mapped}

abbrev is_object : Kind → Bool
is_object k = elim k [ kind.Object ↦ true | kind.Shared ↦ false ]

abbrev IsObject : Numbered → Type 0
IsObject x = is_object x.summary.kind ≡ true

abbrev OfObject : Contribution → Type 0
OfObject c = is_of_object c ≡ true

abbrev pub is_import : Winner → Bool
is_import winner.Nothing = false
is_import (winner.Strong i k) = false
is_import (winner.Common size align) = false
is_import (winner.Weak i k) = false
is_import winner.Made = false
is_import (winner.Import i k) = true

abbrev is_offered_import : Option Winner → Bool
is_offered_import None = false
is_offered_import (Some w) = is_import w

-- the inputs and their symbols
object_kind : (k : Kind) → elim k [ kind.Object ↦ false | kind.Shared ↦ true ] ≡ false → is_object k ≡ true
object_kind kind.Object is = refl
object_kind kind.Shared is = absurd (both_ways true is refl)

all_objects : (added : List Numbered) → is_dynamic added ≡ false → AllByRecursion IsObject added
all_objects [] none = tt
all_objects (x ∷ xs) none =
    let parts = or_parts (elim x.summary.kind [ kind.Object ↦ false | kind.Shared ↦ true ]) (is_dynamic xs) none in
    (object_kind x.summary.kind parts.0, all_objects xs parts.1)

symbols_by : (claimed : List (List ℕ)) (x : Numbered) → IsObject x → AllByRecursion OfObject (contributions_by claimed x)
symbols_by claimed x object =
    all_mapped (λ (g : Global). record { input = x.number; kind = x.summary.kind; global = record g { home = home_left claimed x.summary g.home } }) OfObject x.summary.globals
    (all_always (λ (g : Global). object) x.summary.globals)

symbols_from : (claimed : List (List ℕ)) (added : List Numbered) → AllByRecursion IsObject added
    → AllByRecursion OfObject (flat_map (λ (c : List (List ℕ) × Numbered). contributions_by c.0 c.1) (with_claims claimed added))
symbols_from claimed [] all = tt
symbols_from claimed (x ∷ xs) all =
    all_joined OfObject (contributions_by claimed x) (flat_map (λ (c : List (List ℕ) × Numbered). contributions_by c.0 c.1) (with_claims (claimed ++ signatures_in x.summary) xs))
    (symbols_by claimed x all.0)
    (symbols_from (claimed ++ signatures_in x.summary) xs all.1)

names_from : (added : List Numbered) → AllByRecursion IsObject added → AllByRecursion (λ (cs : Contributions). AllByRecursion OfObject cs.list) (names_of added)
names_from added all =
    all_mapped (contributions_to (symbols_of added)) (λ (cs : Contributions). AllByRecursion OfObject cs.list) (names_in_order (symbols_of added))
    (all_always (λ (name : List ℕ). all_filter OfObject (is_named name) (symbols_of added) (symbols_from [] added all)) (names_in_order (symbols_of added)))

-- winners
none_shared : (list : List Contribution) → AllByRecursion OfObject list → find is_shared_definition list ≡ None
none_shared [] all = refl
none_shared (c ∷ cs) all = ap (λ b. cond (not b && not (is_undefined c)) (Some c) (find is_shared_definition cs)) all.0 ∙ none_shared cs all.1

strong_own : (o : Option Contribution) → is_offered_import (option_map (λ (c : Contribution). winner.Strong c.input c.global.symbol) o) ≡ false
strong_own None = refl
strong_own (Some c) = refl

weak_own : (o : Option Contribution) → is_offered_import (option_map (λ (c : Contribution). winner.Weak c.input c.global.symbol) o) ≡ false
weak_own None = refl
weak_own (Some c) = refl

common_own : (list : List Contribution) → is_offered_import (merged list) ≡ false
common_own [] = refl
common_own (c ∷ cs) = refl

made_own : (b : Bool) → is_offered_import (made_where b) ≡ false
made_own true = refl
made_own false = refl

no_import : (b : Bool) → is_offered_import (cond b (option_map (λ (c : Contribution). winner.Import c.input c.global.symbol) None) None) ≡ false
no_import true = refl
no_import false = refl

offered_own : (offers : List (Option Winner)) → AllByRecursion (λ o. is_offered_import o ≡ false) offers → is_import (first_offered offers) ≡ false
offered_own [] all = refl
offered_own (None ∷ offers) all = offered_own offers all.1
offered_own (Some w ∷ offers) all = all.0

winner_own : (cs : Contributions) (made : Bool) (visibility : ℕ) → AllByRecursion OfObject cs.list → is_import (winner_of cs made visibility) ≡ false
unfolding winner_of
winner_own cs made visibility own =
    let none : is_offered_import (import_among visibility cs.list) ≡ false =
    ap (λ (o : Option Contribution). is_offered_import (cond (visibility == stv_default) (option_map (λ (c : Contribution). winner.Import c.input c.global.symbol) o) None)) (none_shared cs.list own)
    ∙ no_import (visibility == stv_default) in
    offered_own (strong_among cs.list ∷ common_among cs.list ∷ weak_among cs.list ∷ made_where made ∷ import_among visibility cs.list ∷ []) (
      strong_own (find is_strong_definition cs.list),
      (
        common_own (filter is_object_common cs.list),
        (weak_own (find is_weak_definition cs.list), (made_own made, (none, tt))),
      ),
    )

winners_own : (dynamic : Bool) (sections : List (List ℕ)) (names : List Contributions) → AllByRecursion (λ (cs : Contributions). AllByRecursion OfObject cs.list) names → AllByRecursion (λ w. is_import w ≡ false) (winners_of dynamic sections names)
winners_own dynamic sections [] all = tt
winners_own dynamic sections (cs ∷ names) all = (winner_own cs (is_made dynamic sections cs) (visibility_of cs) all.0, winners_own dynamic sections names all.1)

number_own : (winners : List Winner) (n : ℕ) → AllByRecursion (λ w. is_import w ≡ false) winners → is_import (elim (slice_get winners n) [ None ↦ winner.Nothing | Some w ↦ w ]) ≡ false
number_own winners n all = by (slice_get winners n) refl
  where
    by : (o : Option Winner) → slice_get winners n ≡ o → is_import (elim o [ None ↦ winner.Nothing | Some w ↦ w ]) ≡ false
    by None at = refl
    by (Some w) at = all_at (λ w. is_import w ≡ false) winners n w all at

pub imports_dynamic : (options : OptionRecord) (xs : List Input) (n : ℕ) → is_import (winner_of_name (resolve options xs) n) ≡ true → (resolve options xs).options.dynamic ≡ true
unfolding resolve found_of
imports_dynamic options xs n is = by (is_dynamic added) refl
  where
    added : List Numbered
    added = added_inputs options.entry xs

    by : (b : Bool) → is_dynamic added ≡ b → is_dynamic added ≡ true
    by true e = e
    by false e =
        let sections = loaded_names (kept_sections added) in
        absurd (both_ways (is_import (winner_of_name (resolve options xs) n))
        (number_own (winners_of (is_dynamic added) sections (names_of added)) n (winners_own (is_dynamic added) sections (names_of added) (names_from added (all_objects added e)))) is)
