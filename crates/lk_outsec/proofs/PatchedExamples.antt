-- Pieces are anywhere in some sections and not in others, so no answer that is always the same is
-- `is_patched`.
use Rattle.std.proofs.Common.{◌≡◌, refl}
use Rattle.std.specs.Prelude.{codes, false, true}
use Rattle.lk_model.specs.SectionKeys.{is_patched, named}
use Rattle.lk_model.specs.declared.layouts.Class.TheVariants.{W, X}

pub code_is_patched : is_patched (named (codes ".text") X) ≡ true
unfolding is_patched
code_is_patched = refl

pub arrays_are_sequences : is_patched (named (codes ".init_array") W) ≡ false
unfolding is_patched
arrays_are_sequences = refl
