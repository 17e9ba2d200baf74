-- Names that go on from others after a dot.
use Rattle.std.specs.Prelude.{◌≡◌, refl, ℕ, zero, suc, ◌+◌, Bool, true, false, ◌&&◌, List, [], ◌∷◌, ◌++◌, drop, length, nat_eq}
use Rattle.std.specs.List.{starts_with}
use Rattle.std.proofs.Common.{ap, ◌∙◌}

and-assoc : (a b c : Bool) → (a && (b && c)) ≡ ((a && b) && c)
and-assoc true b c = refl
and-assoc false b c = refl

-- a text begins with one and a byte after it
pub dotted : (name base : List ℕ) (c : ℕ) → starts_with nat_eq name (base ++ c ∷ []) ≡ (starts_with nat_eq name base && starts_with nat_eq (drop (length base) name) (c ∷ []))
dotted name [] c = refl
dotted [] (b ∷ base) c = refl
dotted (x ∷ name) (b ∷ base) c =
    ap (λ t. nat_eq b x && t) (dotted name base c)
    ∙ and-assoc (nat_eq b x) (starts_with nat_eq name base) (starts_with nat_eq (drop (length base) name) (c ∷ []))
