-- Texts that are put one after another.
use Rattle.std.specs.Prelude.{◌≡◌, ℕ, List, ◌++◌, Result, Ok, Err, OnOk}
use Rattle.std.proofs.Common.{ap, append_assoc, ◌∙◌}

after : (t0 t1 t2 a b : List ℕ) → t1 ≡ t0 ++ a → t2 ≡ t1 ++ b → t2 ≡ t0 ++ (a ++ b)
after t0 t1 t2 a b e f = f ∙ ap (λ (t : List ℕ). t ++ b) e ∙ append_assoc t0 a b

-- four texts are put where the last one is
pub four_put : {A E : Type 0} (r : Result A E) (t0 t1 t2 t3 t4 a b c d : List ℕ) → t1 ≡ t0 ++ a → t2 ≡ t1 ++ b → t3 ≡ t2 ++ c → OnOk r (t4 ≡ t3 ++ d) → OnOk r (t4 ≡ t0 ++ (a ++ b ++ c ++ d))
four_put (Ok x) t0 t1 t2 t3 t4 a b c d e f g h =
    after t0 t3 t4 (a ++ b ++ c) d (after t0 t2 t3 (a ++ b) c (after t0 t1 t2 a b e f) g) h
four_put (Err x) t0 t1 t2 t3 t4 a b c d e f g h = tt
