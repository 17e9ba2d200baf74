-- The import and the target of a name, by its number in the symbol table.
use Rattle.std.proofs.Common.{◌≡◌, refl, sym, ap, ◌∙◌, arith, ℕ, ◌+◌, ◌<◌, ◌≤◌, Bool, true, false, nat_lt, ltb-false, ltb-true, get_or, List, [], ◌∷◌, ◌++◌, length, map, Option, Some, None, option_map, option_and_then, slice_get}
use Rattle.std.proofs.lemmas.List.{length-map}
use Rattle.std.proofs.lemmas.List.FromFn.{get_or-map-range_with_len, length-map-range_with_len, map-range_with_len_more}
use Rattle.std.proofs.lemmas.Option.{slice_get_past}
use Rattle.std.specs.List.{range_with_len}
use Rattle.lk_report.specs.declared.faults.Fault.TheVariants as fault
use Rattle.lk_report.specs.declared.faults.Site.{Site}
use Rattle.lk_model.specs.declared.summaries.Contributions.{Contributions}
use Rattle.lk_model.specs.declared.summaries.Winner.{Winner}
use Rattle.lk_model.specs.Winners.{import_symbol}
use Rattle.lk_symtab.specs.NameRows.{NameRow, row_winner, symbols_in}
use Rattle.lk_scan.specs.declared.targets.Target.{Target}
use Rattle.lk_scan.specs.declared.targets.Way.TheVariants as way
use Rattle.lk_scan.specs.ReferralFaults.{undefined_name_at}
use Rattle.lk_scan.specs.Targets.{import_in, meanings_of, name_target, row_import, target_with, to_weak, unknown_target}

-- the import of a name that is in the table
pub import_reported : (rows : List NameRow) (n : ℕ) (cs : Contributions) (w : Winner) → option_map symbols_in (slice_get rows n) ≡ Some cs → option_map row_winner (slice_get rows n) ≡ Some w → import_symbol cs w ≡ import_in rows n
import_reported rows n cs w = by (slice_get rows n)
  where
    by : (o : Option NameRow) → option_map symbols_in o ≡ Some cs → option_map row_winner o ≡ Some w → import_symbol cs w ≡ option_and_then row_import o
    by None e f = absurd (cc)
    by (Some row) e f =
        let same : row.contributions ≡ cs = cc in
        let wins : row_winner row ≡ w = cc in
        λ i. import_symbol (sym same i) (sym wins i)

pub target_reported : (rows : List NameRow) (n : ℕ) (weak : Bool) (cs : Contributions) (w : Winner) → option_map symbols_in (slice_get rows n) ≡ Some cs → option_map row_winner (slice_get rows n) ≡ Some w → target_with n weak cs w ≡ name_target rows n weak
target_reported rows n weak cs w = by (slice_get rows n)
  where
    by : (o : Option NameRow) → option_map symbols_in o ≡ Some cs → option_map row_winner o ≡ Some w → target_with n weak cs w ≡ elim o [ None ↦ unknown_target n weak | Some row ↦ target_with n weak row.contributions (row_winner row) ]
    by None e f = absurd (cc)
    by (Some row) e f =
        let same : row.contributions ≡ cs = cc in
        let wins : row_winner row ≡ w = cc in
        λ i. target_with n weak (sym same i) (sym wins i)

pub named_at : (rows : List NameRow) (n : ℕ) (cs : Contributions) (site : Site) → option_map symbols_in (slice_get rows n) ≡ Some cs → undefined_name_at rows (way.Name n false) site ≡ fault.Undefined cs.name site ∷ []
named_at rows n cs site = by (slice_get rows n)
  where
    by : (o : Option NameRow) → option_map symbols_in o ≡ Some cs → elim o [ None ↦ [] | Some row ↦ fault.Undefined row.contributions.name site ∷ [] ] ≡ fault.Undefined cs.name site ∷ []
    by None e = absurd (cc)
    by (Some row) e =
        let same : row.contributions ≡ cs = cc in
        ap (λ (x : Contributions). fault.Undefined x.name site ∷ []) same

-- a number past the table has no import
pub no_import : (rows : List NameRow) (n : ℕ) → length rows ≤ n → import_in rows n ≡ None
no_import rows n le = ap (option_and_then row_import) (slice_get_past rows n le)

pub no_target : (rows : List NameRow) (n : ℕ) (weak : Bool) → length rows ≤ n → name_target rows n weak ≡ unknown_target n weak
no_target rows n weak le = ap (λ (o : Option NameRow). elim o [ None ↦ unknown_target n weak | Some row ↦ target_with n weak row.contributions (row_winner row) ]) (slice_get_past rows n le)

pub unnamed : (rows : List NameRow) (n : ℕ) (site : Site) → length rows ≤ n → undefined_name_at rows (way.Name n false) site ≡ []
unnamed rows n site le = ap (λ (o : Option NameRow). elim o [ None ↦ [] | Some row ↦ fault.Undefined row.contributions.name site ∷ [] ]) (slice_get_past rows n le)

-- the target of a name for weak references, made from that for references that are not weak
to_weak_reported : (rows : List NameRow) (n : ℕ) (weak : Bool) → to_weak n weak (name_target rows n false) ≡ name_target rows n weak
to_weak_reported rows n weak = by weak (slice_get rows n)
  where
    by : (b : Bool) (o : Option NameRow) → to_weak n b (elim o [ None ↦ unknown_target n false | Some row ↦ target_with n false row.contributions (row_winner row) ]) ≡ elim o [ None ↦ unknown_target n b | Some row ↦ target_with n b row.contributions (row_winner row) ]
    by true None = refl
    by false None = refl
    by true (Some row) = refl
    by false (Some row) = refl

pub meaning_reported : (rows : List NameRow) (targets : List Target) (n : ℕ) (weak : Bool) (t : Target) → targets ≡ meanings_of rows → nat_lt n (length targets) ≡ true → t ≡ get_or targets n t → to_weak n weak t ≡ name_target rows n weak
meaning_reported rows targets n weak t same within found =
    let f : ℕ → Target = λ k. name_target rows k false in
    let size : length targets ≡ length rows = ap length same ∙ length-map-range_with_len f 0 (length rows) in
    let few : n < length targets = ltb-true n (length targets) within in
    let inside : n < length rows = omega arith in
    let place : 0 + n ≡ n = omega arith in
    let is : t ≡ name_target rows n false = found ∙ ap (λ (ts : List Target). get_or ts n t) same ∙ get_or-map-range_with_len f 0 (length rows) n n t inside place in
    ap (to_weak n weak) is ∙ to_weak_reported rows n weak

pub meaning_absent : (rows : List NameRow) (targets : List Target) (n : ℕ) (weak : Bool) → targets ≡ meanings_of rows → nat_lt n (length targets) ≡ false → unknown_target n weak ≡ name_target rows n weak
meaning_absent rows targets n weak same past =
    let size : length targets ≡ length rows = ap length same ∙ length-map-range_with_len (λ k. name_target rows k false) 0 (length rows) in
    let far : length targets ≤ n = ltb-false n (length targets) past in
    let out : length rows ≤ n = omega arith in
    sym (no_target rows n weak out)

-- the targets of the first names, with that of one more name
pub one_more : (rows : List NameRow) (n : ℕ) (old new : List Target) (t : Target) → old ≡ map (λ k. name_target rows k false) (range_with_len 0 n) → new ≡ old ++ t ∷ [] → t ≡ name_target rows n false → new ≡ map (λ k. name_target rows k false) (range_with_len 0 (n + 1))
one_more rows n old new t so_far pushed is =
    let place : 0 + n ≡ n = omega arith in
    pushed
    ∙ (λ i. so_far i ++ is i ∷ [])
    ∙ sym (map-range_with_len_more (λ k. name_target rows k false) 0 n n place)
