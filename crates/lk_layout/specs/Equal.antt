-- This project's own: that two keys are the same is an equivalence.
use Rattle.std.specs.Prelude.{ℕ, ◌==◌, Bool, List}
use Rattle.std.specs.Cmp.{IsEquivalence, and_equiv, nat_eq_equiv, on_equiv}
use Rattle.std.specs.Cmp.Lexicographic.{nat_list_eq_equiv}
use Rattle.lk_model.specs.declared.layouts.SectionKey.{SectionKey}
use Rattle.lk_model.specs.SectionKeys.{class_number, same_key}

pub same_key_equiv : IsEquivalence same_key
same_key_equiv =
    and_equiv (on_equiv (λ (key : SectionKey). class_number key.class) nat_eq_equiv) (on_equiv (λ (key : SectionKey). key.name) nat_list_eq_equiv)
