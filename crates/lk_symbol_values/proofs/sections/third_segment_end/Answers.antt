use Rattle.std.proofs.Common.{ap, ◌∙◌}
use Rattle.lk_symbol_values.specs.Sections.{low_64, memory_end_in}
use Rattle.lk_symbol_values.proofs.Segments.{third_end}
use Rattle.lk_symbol_values.specs.declared.sections.Loaded.TheVariants as loaded
use Rattle.lk_symbol_values.proofs.sections.third_segment_end.Goals as goal

pub returns : goal.returns
returns c = c.low_64.ensures ∙ ap low_64 (third_end c.args.place.now c.memory_end.result (c.memory_end.ensures.value ∙ ap (memory_end_in loaded.Third) c.as_slice.ensures))
