-- Slots that all have a value, taken out one by one.
use Rattle.std.proofs.Common.{◌≡◌, ℕ, ◌+◌, ◌<◌, List, [], ◌∷◌, ◌++◌, length, drop, get_or, set, map, reverse, Option, None, Some, refl, sym, ap, ◌∙◌, subst, arith}
use Rattle.std.specs.Option.{option_to_list}
use Rattle.std.proofs.lemmas.List.{drop_more, append_assoc, drop-set-lt, map-append}
use Rattle.lk_task_runs.specs.Runs.{put}
use Rattle.lk_queue.specs.Machines.{ArePresent}

head_some : {S : Type 0} (xs vs : List S) (o : Option S) (rest : List (Option S)) → map Some xs ++ o ∷ rest ≡ map Some vs → (x : S) × (o ≡ Some x)
head_some [] [] o rest e = absurd (cc)
head_some [] (v ∷ vs) o rest e = (v, cc)
head_some (x ∷ xs) [] o rest e = absurd (cc)
head_some (x ∷ xs) (v ∷ vs) o rest e = head_some xs vs o rest (cc)

pub present_more : {S : Type 0} (xs : List S) (s all : List (Option S)) (i : ℕ) → ArePresent all → i < length s → map Some xs ++ drop i s ≡ all → map Some (xs ++ option_to_list (get_or s i None)) ++ drop (i + 1) (set s i None) ≡ all
present_more {S} xs s all i there l h =
    let cut : drop i s ≡ get_or s i None ∷ drop (i + 1) s = drop_more s i None l in
    let some = head_some xs there.0 (get_or s i None) (drop (i + 1) s) (ap (λ (r : List (Option S)). map Some xs ++ r) (sym cut) ∙ h ∙ there.1) in
    ap (λ (o : Option S). map Some (xs ++ option_to_list o) ++ drop (i + 1) (set s i None)) some.1
    ∙ ap (λ (r : List (Option S)). map Some (xs ++ some.0 ∷ []) ++ r) (drop-set-lt (i + 1) s i None (omega arith))
    ∙ ap (λ (r : List (Option S)). r ++ drop (i + 1) s) (map-append Some xs (some.0 ∷ []))
    ∙ append_assoc (map Some xs) (Some some.0 ∷ []) (drop (i + 1) s)
    ∙ ap (λ (o : Option S). map Some xs ++ o ∷ drop (i + 1) s) (sym some.1)
    ∙ ap (λ (r : List (Option S)). map Some xs ++ r) (sym cut) ∙ h

-- where no value is left the store stays
pub put_none : {S : Type 0} (ns : List ℕ) (xs : List S) (s r : List (Option S)) → length xs ≡ 0 → put ns (reverse xs) s ≡ r → s ≡ r
put_none [] [] s r e h = h
put_none (n ∷ ns) [] s r e h = h
put_none ns (x ∷ xs) s r e h = absurd (omega (arith, e))
