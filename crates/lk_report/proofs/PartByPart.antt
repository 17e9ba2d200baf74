-- Texts said one after another are their whole said at once.
use Rattle.std.proofs.Common.{◌≡◌, ◌++◌, ◌+◌, ◌∙◌, ℕ, suc, List, [], ◌∷◌, Option, Some, None, ap, refl, sym, subst, take, length, append_assoc, append-nil, inl, inr, arith, option_map}
use Rattle.std.proofs.lemmas.List.{take-append-le, length-append}
use Rattle.lk_report.specs.declared.saying.Progress.{Progress}
use Rattle.lk_report.specs.declared.saying.Progress.TheVariants.{Going, Stopped}
use Rattle.lk_report.specs.Spoken.{Spoken, Rose, AppendsPrefix, Says}
use Rattle.lk_report.specs.Goes.{Goes}

-- two texts appended are their whole appended
whole : (o : Option (List ℕ)) (t u : List ℕ) → option_map (λ s. s ++ u) (option_map (λ s. s ++ t) o) ≡ option_map (λ s. s ++ (t ++ u)) o
whole None t u = refl
whole (Some s) t u = ap Some (append_assoc s t u)

-- all of t and the first k of u are the first of both
take_both : (t u : List ℕ) (k : ℕ) → t ++ take k u ≡ take (length t + k) (t ++ u)
take_both [] u k = ap (λ n. take n u) {x = k} {y = 0 + k} (omega arith)
take_both (x ∷ t) u k =
    let e : suc (length t + k) ≡ length (x ∷ t) + k = omega arith in
    ap (λ s. x ∷ s) (take_both t u k) ∙ ap (λ n. take n (x ∷ (t ++ u))) e

-- a prefix of u after all of t is a prefix of both
prefix_after : (o n : Option (List ℕ)) (t u : List ℕ) → AppendsPrefix u (option_map (λ s. s ++ t) o) n → AppendsPrefix (t ++ u) o n
prefix_after None None t u h = tt
prefix_after None (Some n) t u h = h
prefix_after (Some s) None t u h = h
prefix_after (Some s) (Some n) t u (k, le, e) =
    (length t + k, omega (arith, length-append t u), e ∙ append_assoc s t (take k u) ∙ ap (λ x. s ++ x) (take_both t u k))

-- a prefix of t is one of both
prefix_before : (o n : Option (List ℕ)) (t u : List ℕ) → AppendsPrefix t o n → AppendsPrefix (t ++ u) o n
prefix_before None None t u h = tt
prefix_before None (Some n) t u h = h
prefix_before (Some s) None t u h = h
prefix_before (Some s) (Some n) t u (k, le, e) =
    (k, omega (arith, length-append t u), e ∙ ap (λ x. s ++ x) (sym (take-append-le k t u le)))

-- the empty text appended changes nothing
unchanged : (o : Option (List ℕ)) → o ≡ option_map (λ s. s ++ []) o
unchanged None = refl
unchanged (Some s) = ap Some (sym (append-nil s))

-- one text and then a second one are both as one text
infixl 40 ◌▸◌
pub ◌▸◌ : {a b c : Spoken} {t u : List ℕ} {p q r : Progress} → Goes a b t p q → Goes b c u q r → Goes a c (t ++ u) p r
◌▸◌ {a = a} {b = b} {c = c} {t = t} {u = u} {p = Going} {q = Going} {r = Going} h k = record {
  ends = (k.ends.0 ∙ ap (option_map (λ s. s ++ u)) h.ends.0 ∙ whole a.said t u, k.ends.1 ∙ h.ends.1);
}
◌▸◌ {a = a} {b = b} {c = c} {t = t} {u = u} {p = Going} {q = Going} {r = Stopped} h k = record {
  ends = (prefix_after a.said c.said t u (subst (λ (o : Option (List ℕ)). AppendsPrefix u o c.said) h.ends.0 k.ends.0), subst (λ (n : ℕ). Rose n c.faults) h.ends.1 k.ends.1);
}
◌▸◌ {a = a} {b = b} {c = c} {t = t} {u = u} {p = Going} {q = Stopped} {r = r} h k =
    subst (λ (s : Spoken). Goes a s (t ++ u) Going r) (sym k.ends.0)
    (subst (λ (p : Progress). Goes a b (t ++ u) Going p) (sym k.ends.1) (record { ends = (prefix_before a.said b.said t u h.ends.0, h.ends.1) }))
◌▸◌ {p = Stopped} {q = Going} h k = absurd (cc h.ends.1)
◌▸◌ {p = Stopped} {q = Stopped} h k = record { ends = (k.ends.0 ∙ h.ends.0, k.ends.1) }

-- nothing is said by no text
pub silent : (a : Spoken) (p : Progress) → Goes a a [] p p
silent a Going = record { ends = (unchanged a.said, refl) }
silent a Stopped = record { ends = (refl, refl) }

-- a text that was begun is said whole, or up to a prefix with a count that rose
pub reported : (a b : Spoken) (t : List ℕ) (r : Progress) → Goes a b t Going r → Says a b t
reported a b t Going h = inl h.ends
reported a b t Stopped h = inr h.ends
