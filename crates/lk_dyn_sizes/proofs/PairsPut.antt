-- Tables that are put one after another.
use Rattle.std.proofs.Common.{◌≡◌, ap, ◌∙◌, ℕ, List, [], ◌∷◌, ◌++◌, append_assoc}
use Rattle.lk_model.specs.declared.layouts.SectionKey.{SectionKey}

pub both_put : (old half new first last : List (SectionKey × ℕ)) → half ≡ old ++ first → new ≡ half ++ last → new ≡ old ++ (first ++ last)
both_put old half new first last one two = two ∙ ap (λ l. l ++ last) one ∙ append_assoc old first last

pub four_put : (old t1 t2 t3 new : List (SectionKey × ℕ)) (a b c d : SectionKey × ℕ) → t1 ≡ old ++ a ∷ [] → t2 ≡ t1 ++ b ∷ [] → t3 ≡ t2 ++ c ∷ [] → new ≡ t3 ++ d ∷ [] → new ≡ old ++ a ∷ b ∷ c ∷ d ∷ []
four_put old t1 t2 t3 new a b c d e1 e2 e3 e4 =
    both_put old t3 new (a ∷ b ∷ c ∷ []) (d ∷ []) (both_put old t2 t3 (a ∷ b ∷ []) (c ∷ []) (both_put old t1 t2 (a ∷ []) (b ∷ []) e1 e2) e3) e4
