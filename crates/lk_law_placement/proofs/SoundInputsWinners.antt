-- The merged common block that a name means has an alignment that is a power of two.
use Rattle.std.specs.Prelude.{◌≡◌, ℕ, ◌==◌, Bool, true, false, cond, List, [], ◌∷◌, ◌++◌, filter, find, flat_map, fold, max, Option, Some, None, option_map, ⊤, refl}
use Rattle.std.specs.List.{AllByRecursion}
use Rattle.std.proofs.Common.{ap}
use Rattle.std.proofs.lemmas.Bool.{and_parts, both_ways}
use Rattle.lk_elf.specs.Numbers.{stv_default}
use Rattle.lk_model.specs.Finding.{names_of, winners_of}
use Rattle.lk_model.specs.Groups.{is_left, signatures_in, with_claims}
use Rattle.lk_model.specs.MadeNames.{is_made}
use Rattle.lk_model.specs.Numbered.{Numbered}
use Rattle.lk_model.specs.Symbols.{contributions_by, contributions_to, home_left, is_common, is_named, is_object_common, is_of_object, is_shared_definition, is_strong_definition, is_weak_definition, names_in_order, symbols_of}
use Rattle.lk_model.specs.Winners.{common_among, first_offered, import_among, made_where, merged, strong_among, visibility_of, weak_among, winner_of}
use Rattle.lk_model.specs.declared.summaries.Contribution.{Contribution}
use Rattle.lk_model.specs.declared.summaries.Contributions.{Contributions}
use Rattle.lk_model.specs.declared.summaries.Global.{Global}
use Rattle.lk_model.specs.declared.summaries.Home.{Home}
use Rattle.lk_model.specs.declared.summaries.Home.TheVariants as home
use Rattle.lk_model.specs.declared.summaries.InputSummary.{InputSummary}
use Rattle.lk_model.specs.declared.summaries.Winner.{Winner}
use Rattle.lk_model.specs.declared.summaries.Winner.TheVariants as winner
use Rattle.lk_model.proofs.Rising.{all_map, all_filter, all_pass}
use Rattle.lk_law_placement.specs.SoundPieces.{IsPower}
use Rattle.lk_law_placement.specs.SoundInputs.{SoundGlobal, SoundSummary}
use Rattle.lk_law_placement.proofs.DistinctLists.{all_always, all_both, all_joined, all_mapped}
use Rattle.lk_model.proofs.AddedOnce.{Has}
use Rattle.lk_law_placement.proofs.SoundInputsChecks.{AllSome}
use Rattle.lk_law_placement.proofs.SoundInputsPowers.{greater_power}
use Rattle.lk_law_placement.proofs.SoundInputsSymbols.{is_common_home}

-- ---- symbols of added inputs

abbrev SoundSymbol : Contribution → Type 0
SoundSymbol c = SoundGlobal c.global

-- what counts as a common block is one
left_common : (claimed : List (List ℕ)) (summary : InputSummary) (h : Home) → home_left claimed summary h ≡ home.Common → h ≡ home.Common
left_common claimed summary (home.Section s) is = go (is_left claimed summary s) (ap is_common_home is)
  where
    go : (b : Bool) → is_common_home (cond b (home.Section s) home.Undefined) ≡ true → home.Section s ≡ home.Common
    go true e = absurd (both_ways false refl e)
    go false e = absurd (both_ways false refl e)
left_common claimed summary home.Undefined is = is
left_common claimed summary home.Absolute is = is
left_common claimed summary home.Common is = is
left_common claimed summary home.Shared is = is

contributions_are_sound : (claimed : List (List ℕ)) (x : Numbered) → SoundSummary x.summary → AllByRecursion SoundSymbol (contributions_by claimed x)
contributions_are_sound claimed x sound =
    all_mapped (λ (g : Global). record { input = x.number; kind = x.summary.kind; global = record g { home = home_left claimed x.summary g.home } }) SoundSymbol x.summary.globals
    (all_map (λ (g : Global) (s : SoundGlobal g). λ is. s (left_common claimed x.summary g.home is)) x.summary.globals sound.globals)

-- what holds of all that the inputs with their claims give
pub claims_give :
    {A : Type 0} (P : A → Type 0) (f : List (List ℕ) → Numbered → List A)
    → ((claimed : List (List ℕ)) (x : Numbered) → SoundSummary x.summary → AllByRecursion P (f claimed x))
    → (claimed : List (List ℕ)) (added : List Numbered)
    → AllByRecursion (Has SoundSummary) added
    → AllByRecursion P (flat_map (λ (c : List (List ℕ) × Numbered). f c.0 c.1) (with_claims claimed added))
claims_give P f gives claimed [] all = tt
claims_give P f gives claimed (x ∷ xs) all =
    all_joined P (f claimed x) (flat_map (λ (c : List (List ℕ) × Numbered). f c.0 c.1) (with_claims (claimed ++ signatures_in x.summary) xs))
    (gives claimed x all.0)
    (claims_give P f gives (claimed ++ signatures_in x.summary) xs all.1)

symbols_are_sound : (added : List Numbered) → AllByRecursion (Has SoundSummary) added → AllByRecursion SoundSymbol (symbols_of added)
symbols_are_sound added all = claims_give SoundSymbol contributions_by contributions_are_sound [] added all

-- ---- winners

-- all symbols of a name are sound
abbrev SoundName : Contributions → Type 0
SoundName cs = AllByRecursion SoundSymbol cs.list

names_are_sound : (added : List Numbered) → AllByRecursion (Has SoundSummary) added → AllByRecursion SoundName (names_of added)
names_are_sound added all =
    all_mapped (contributions_to (symbols_of added)) SoundName (names_in_order (symbols_of added))
    (all_always (λ (name : List ℕ). all_filter SoundSymbol (is_named name) (symbols_of added) (symbols_are_sound added all)) (names_in_order (symbols_of added)))

-- a merged common block is aligned to a power of two
abbrev pub SoundWinner : Winner → Type 0
SoundWinner (winner.Common size align) = IsPower align
SoundWinner winner.Nothing = ⊤
SoundWinner (winner.Strong input symbol) = ⊤
SoundWinner (winner.Weak input symbol) = ⊤
SoundWinner winner.Made = ⊤
SoundWinner (winner.Import input symbol) = ⊤

common_home : (h : Home) → (elim h [ home.Undefined ↦ false | home.Section s ↦ false | home.Absolute ↦ false | home.Common ↦ true | home.Shared ↦ false ]) ≡ true → h ≡ home.Common
common_home home.Undefined is = absurd (both_ways false refl is)
common_home (home.Section s) is = absurd (both_ways false refl is)
common_home home.Absolute is = absurd (both_ways false refl is)
common_home home.Common is = refl
common_home home.Shared is = absurd (both_ways false refl is)

merged_power : (n : ℕ) (cs : List Contribution) → IsPower n → AllByRecursion (λ (c : Contribution). IsPower c.global.value) cs → IsPower (fold (λ n (d : Contribution). max n d.global.value) n cs)
merged_power n [] own all = own
merged_power n (c ∷ cs) own all = merged_power (max n c.global.value) cs (greater_power n c.global.value own all.0) all.1

merged_is_sound : (cs : List Contribution) → AllByRecursion (λ (c : Contribution). IsPower c.global.value) cs → AllSome SoundWinner (merged cs)
merged_is_sound [] all = tt
merged_is_sound (c ∷ cs) all = merged_power c.global.value cs all.0 all.1

common_is_sound : (list : List Contribution) → AllByRecursion SoundSymbol list → AllSome SoundWinner (common_among list)
common_is_sound list all =
    merged_is_sound (filter is_object_common list)
    (all_both
    (λ (c : Contribution) (s : SoundSymbol c) (is : is_object_common c ≡ true). s (common_home c.global.home (and_parts (is_of_object c) (is_common c) is).1))
    (filter is_object_common list)
    (all_filter SoundSymbol is_object_common list all)
    (all_pass is_object_common list))

strong_is_sound : (o : Option Contribution) → AllSome SoundWinner (option_map (λ (c : Contribution). winner.Strong c.input c.global.symbol) o)
strong_is_sound None = tt
strong_is_sound (Some c) = tt

weak_is_sound : (o : Option Contribution) → AllSome SoundWinner (option_map (λ (c : Contribution). winner.Weak c.input c.global.symbol) o)
weak_is_sound None = tt
weak_is_sound (Some c) = tt

made_is_sound : (b : Bool) → AllSome SoundWinner (made_where b)
made_is_sound true = tt
made_is_sound false = tt

import_is_sound : (b : Bool) (o : Option Contribution) → AllSome SoundWinner (cond b (option_map (λ (c : Contribution). winner.Import c.input c.global.symbol) o) None)
import_is_sound false o = tt
import_is_sound true None = tt
import_is_sound true (Some c) = tt

offered_is_sound : (offers : List (Option Winner)) → AllByRecursion (AllSome SoundWinner) offers → SoundWinner (first_offered offers)
offered_is_sound [] all = tt
offered_is_sound (None ∷ offers) all = offered_is_sound offers all.1
offered_is_sound (Some w ∷ offers) all = all.0

winner_is_sound : (cs : Contributions) (made : Bool) (visibility : ℕ) → SoundName cs → SoundWinner (winner_of cs made visibility)
unfolding winner_of
winner_is_sound cs made visibility sound =
    offered_is_sound (strong_among cs.list ∷ common_among cs.list ∷ weak_among cs.list ∷ made_where made ∷ import_among visibility cs.list ∷ []) (
      strong_is_sound (find is_strong_definition cs.list),
      (
        common_is_sound cs.list sound,
        (
          weak_is_sound (find is_weak_definition cs.list),
          (
            made_is_sound made,
            (import_is_sound (visibility == stv_default) (find is_shared_definition cs.list), tt),
          ),
        ),
      ),
    )

-- so are the winners of all names
pub winners_are_sound : (dynamic : Bool) (sections : List (List ℕ)) (added : List Numbered) → AllByRecursion (Has SoundSummary) added → AllByRecursion SoundWinner (winners_of dynamic sections (names_of added))
winners_are_sound dynamic sections added all =
    all_mapped (λ (cs : Contributions). winner_of cs (is_made dynamic sections cs) (visibility_of cs)) SoundWinner (names_of added)
    (all_map (λ (cs : Contributions) (s : SoundName cs). winner_is_sound cs (is_made dynamic sections cs) (visibility_of cs) s) (names_of added) (names_are_sound added all))
