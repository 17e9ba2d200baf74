-- The list of the targets of an object's symbols has the target of each symbol at its number.
use Rattle.std.proofs.Common.{◌≡◌, ◌≢◌, refl, sym, ap, ◌∙◌, arith, ℕ, ◌+◌, ◌<◌, ◌≤◌, ◌==◌, max, Bool, true, false, cond, nat_lt, ltb-false, ltb-true, List, [], ◌∷◌, ◌++◌, find, fold, get_or, length, map, set, Option, Some, None}
use Rattle.std.proofs.lemmas.Bool.Decides.{nat_tests}
use Rattle.std.proofs.lemmas.Grind.{get_or-set_at}
use Rattle.std.proofs.lemmas.List.{get_or-set_other, get_or_default, get_or_past, length-set}
use Rattle.std.proofs.lemmas.List.FromFn.{get_or-map-range_with_len, length-map-range_with_len, map-range_with_len_more}
use Rattle.std.specs.List.{range_with_len}
use Rattle.lk_elf.specs.Numbers.{stb_weak}
use Rattle.lk_model.specs.declared.summaries.Global.{Global}
use Rattle.lk_model.specs.declared.summaries.InputSummary.{InputSummary}
use Rattle.lk_model.specs.Views.{Elf, Through}
use Rattle.lk_resolve.specs.Settling.{ResolutionValue}
use Rattle.lk_scan.specs.declared.targets.Target.{Target}
use Rattle.lk_scan.specs.SymbolTargets.{count_for, global_target, targets_of, with_globals, with_number}
use Rattle.lk_scan.specs.Targets.{local_target, number_of_symbol, symbol_target, target_at}

-- the count of a list of symbols is at least the count that it begins with
rises : (n : ℕ) (gs : List Global) → n ≤ fold with_number n gs
rises n [] = omega arith
rises n (g ∷ gs) = let more : max n (g.symbol + 1) ≤ fold with_number (max n (g.symbol + 1)) gs = rises (max n (g.symbol + 1)) gs in omega arith

same_number : (s t : ℕ) → (s == t) ≡ true → t ≡ s
same_number s t e = grind (arith, nat_tests)

other_number : (s t : ℕ) → (s == t) ≡ false → t ≢ s
other_number s t e = grind (arith, nat_tests)

module _ (resolution : ResolutionValue) (elf : Elf) (input : ℕ) where
  abbrev local_list : ℕ → List Target
  local_list n = map (local_target resolution elf input) (range_with_len 0 n)

  -- the targets of the first LOCAL symbols, with one more
  pub local_more : (n : ℕ) (old new : List Target) (t : Target) → old ≡ local_list n → new ≡ old ++ t ∷ [] → t ≡ local_target resolution elf input n → new ≡ local_list (n + 1)
  local_more n old new t so_far pushed is = pushed ∙ (λ i. so_far i ++ is i ∷ []) ∙ sym (map-range_with_len_more (local_target resolution elf input) 0 n n (omega arith))

  -- the target of a symbol where these are the symbols that are not LOCAL, and a list that has it for each number;
  -- a number past the list is that of a LOCAL symbol
  abbrev among : List Global → ℕ → Target
  among gs s = elim (find (λ (g : Global). g.symbol == s) gs) [ None ↦ local_target resolution elf input s | Some g ↦ global_target resolution.rows input g ]

  abbrev Reports : List Global → List Target → Type 0
  Reports gs ts = (s : ℕ) → get_or ts s (local_target resolution elf input s) ≡ among gs s

  -- the list of LOCAL symbols has the target of each of them
  locals_reported : (n : ℕ) → Reports [] (local_list n)
  locals_reported n s = by (nat_lt s n) refl
    where
      by : (b : Bool) → nat_lt s n ≡ b → get_or (local_list n) s (local_target resolution elf input s) ≡ local_target resolution elf input s
      by true e = get_or-map-range_with_len (local_target resolution elf input) 0 n s s (local_target resolution elf input s) (ltb-true s n e) (omega arith)
      by false e =
          let size : length (local_list n) ≡ n = length-map-range_with_len (local_target resolution elf input) 0 n in
          let far : n ≤ s = ltb-false s n e in
          get_or_past (local_list n) s (local_target resolution elf input s) (omega arith)

  -- putting the symbols that are not LOCAL into the list keeps its length
  length_kept : (gs : List Global) (ts : List Target) → length (with_globals resolution.rows input gs ts) ≡ length ts
  length_kept [] ts = refl
  length_kept (g ∷ gs) ts = length-set (with_globals resolution.rows input gs ts) g.symbol (global_target resolution.rows input g) ∙ length_kept gs ts

  one_more : (ts : List Target) (g : Global) (gs : List Global) (s : ℕ) → g.symbol < length ts → get_or ts s (local_target resolution elf input s) ≡ among gs s → get_or (set ts g.symbol (global_target resolution.rows input g)) s (local_target resolution elf input s) ≡ among (g ∷ gs) s
  one_more ts g gs s inside others = by (g.symbol == s) refl
    where
      by : (b : Bool) → (g.symbol == s) ≡ b → get_or (set ts g.symbol (global_target resolution.rows input g)) s (local_target resolution elf input s) ≡ elim (cond b (Some g) (find (λ (x : Global). x.symbol == s) gs)) [ None ↦ local_target resolution elf input s | Some x ↦ global_target resolution.rows input x ]
      by true e = get_or-set_at ts g.symbol s (global_target resolution.rows input g) (local_target resolution elf input s) (same_number g.symbol s e) inside
      by false e = get_or-set_other ts g.symbol s (global_target resolution.rows input g) (local_target resolution elf input s) (other_number g.symbol s e) ∙ others

  reported_from : (n : ℕ) (gs : List Global) (ts : List Target) → fold with_number n gs ≤ length ts → Reports [] ts → Reports gs (with_globals resolution.rows input gs ts)
  reported_from n [] ts inside base s = base s
  reported_from n (g ∷ gs) ts inside base s =
      let covers : max n (g.symbol + 1) ≤ fold with_number (max n (g.symbol + 1)) gs = rises (max n (g.symbol + 1)) gs in
      let same : length (with_globals resolution.rows input gs ts) ≡ length ts = length_kept gs ts in
      one_more (with_globals resolution.rows input gs ts) g gs s (omega arith) (reported_from (max n (g.symbol + 1)) gs ts inside base s)

  all_reported : (gs : List Global) → Reports gs (with_globals resolution.rows input gs (local_list (count_for gs)))
  all_reported gs =
      let size : length (local_list (count_for gs)) ≡ count_for gs = length-map-range_with_len (local_target resolution elf input) 0 (count_for gs) in
      reported_from 0 gs (local_list (count_for gs)) (omega arith) (locals_reported (count_for gs))

  -- the target in the list is that of the symbol
  abbrev through : Option Global → ℕ → Through
  through o s = elim o [ None ↦ Through.ByLocal s | Some g ↦ Through.ByName (number_of_symbol resolution.rows input g.symbol) (g.binding == stb_weak) ]

  meanings : (o : Option Global) (s : ℕ) → elim o [ None ↦ local_target resolution elf input s | Some g ↦ global_target resolution.rows input g ] ≡ target_at resolution elf input (through o s)
  meanings None s = refl
  meanings (Some g) s = refl

  reported : (summary : InputSummary) (ts : List Target) (s : ℕ) → ts ≡ targets_of resolution elf summary input → get_or ts s (local_target resolution elf input s) ≡ symbol_target resolution elf summary input s
  reported summary ts s same =
      ap (λ (l : List Target). get_or l s (local_target resolution elf input s)) same
      ∙ all_reported summary.globals s
      ∙ meanings (find (λ (g : Global). g.symbol == s) summary.globals) s

  pub reported_there : (summary : InputSummary) (ts : List Target) (s : ℕ) (t : Target) → ts ≡ targets_of resolution elf summary input → nat_lt s (length ts) ≡ true → t ≡ get_or ts s t → t ≡ symbol_target resolution elf summary input s
  reported_there summary ts s t same within found =
      found ∙ get_or_default ts s t (local_target resolution elf input s) (ltb-true s (length ts) within) ∙ reported summary ts s same

  pub reported_past : (summary : InputSummary) (ts : List Target) (s : ℕ) → ts ≡ targets_of resolution elf summary input → nat_lt s (length ts) ≡ false → local_target resolution elf input s ≡ symbol_target resolution elf summary input s
  reported_past summary ts s same past =
      sym (get_or_past ts s (local_target resolution elf input s) (ltb-false s (length ts) past)) ∙ reported summary ts s same
