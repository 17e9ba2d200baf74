-- No field is longer than eight bytes.
use Rattle.std.specs.Prelude.{ℕ, ◌==◌, ◌≤◌, Bool, true, false, cond, List, [], ◌∷◌, find, Option, Some, unwrap_or, option_map}
use Rattle.std.specs.List.{AllByRecursion}
use Rattle.std.proofs.Common.{arith}
use Rattle.lk_model.specs.RelocationTypes.{RelocationType, relocation_type_of, relocation_types, width_of}

abbrev width_in : Option RelocationType → ℕ
width_in o = unwrap_or (option_map (λ (t : RelocationType). t.width) o) 0

of_found : (b : Bool) (t : RelocationType) (rest : Option RelocationType) → t.width ≤ 8 → width_in rest ≤ 8 → width_in (cond b (Some t) rest) ≤ 8
of_found true t rest one others = one
of_found false t rest one others = others

among : (ts : List RelocationType) (code : ℕ) → AllByRecursion (λ (t : RelocationType). t.width ≤ 8) ts → width_in (find (λ (t : RelocationType). t.code == code) ts) ≤ 8
among [] code all = omega arith
among (t ∷ ts) code all = of_found (t.code == code) t (find (λ (t : RelocationType). t.code == code) ts) all.0 (among ts code all.1)

short_rows : AllByRecursion (λ (t : RelocationType). t.width ≤ 8) relocation_types
unfolding relocation_types
short_rows = search arith

pub short_width : (code : ℕ) → width_of code ≤ 8
unfolding width_of relocation_type_of
short_width code = among relocation_types code short_rows
