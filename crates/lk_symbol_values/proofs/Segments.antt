-- The ends of the segments are lk_model's.
use Rattle.std.proofs.Common.{◌≡◌, ap, ℕ, max}
use Rattle.lk_model.specs.FullPlace.{first_address}
use Rattle.lk_model.specs.Segments.{second_segment_end, third_segment_end}
use Rattle.lk_model.specs.declared.layouts.Placement.{Placement}
use Rattle.lk_symbol_values.specs.Sections.{memory_end_in}
use Rattle.lk_symbol_values.specs.declared.sections.Loaded.TheVariants as loaded

pub second_end : (place : Placement) (end : ℕ) → end ≡ memory_end_in loaded.Second place.sections → max first_address end ≡ second_segment_end place
unfolding second_segment_end
second_end place end is = ap (λ n. max first_address n) is

pub third_end : (place : Placement) (end : ℕ) → end ≡ memory_end_in loaded.Third place.sections → end ≡ third_segment_end place
unfolding third_segment_end
third_end place end is = is
