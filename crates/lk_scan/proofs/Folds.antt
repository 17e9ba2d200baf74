-- Parts that are folded in one after another are folded in together.
use Rattle.std.proofs.Common.{◌≡◌, sym, ap, ◌∙◌, List, ◌++◌, fold}
use Rattle.std.proofs.lemmas.List.Sums.{fold-append}

-- two and four parts, one after another
pub folded_twice : {A B : Type 0} (f : B → A → B) (a b c : B) (xs ys : List A) → b ≡ fold f a xs → c ≡ fold f b ys → c ≡ fold f a (xs ++ ys)
folded_twice {A} {B} f a b c xs ys h k = k ∙ ap (λ (x : B). fold f x ys) h ∙ sym (fold-append f a xs ys)

pub folded_four : {A B : Type 0} (f : B → A → B) (a b c d e : B) (ws xs ys zs : List A) → b ≡ fold f a ws → c ≡ fold f b xs → d ≡ fold f c ys → e ≡ fold f d zs → e ≡ fold f a (ws ++ xs ++ ys ++ zs)
folded_four f a b c d e ws xs ys zs g h k l =
    folded_twice f a d e (ws ++ xs ++ ys) zs (folded_twice f a c d (ws ++ xs) ys (folded_twice f a b c ws xs g h) k) l
