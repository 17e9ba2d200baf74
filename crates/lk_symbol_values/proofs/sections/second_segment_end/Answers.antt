use Rattle.std.proofs.Common.{ap, max, ◌∙◌}
use Rattle.lk_symbol_values.specs.Sections.{low_64, memory_end_in}
use Rattle.lk_symbol_values.proofs.Segments.{second_end}
use Rattle.lk_symbol_values.specs.declared.sections.Loaded.TheVariants as loaded
use Rattle.lk_symbol_values.proofs.sections.second_segment_end.Goals as goal

pub returns : goal.returns
returns c = c.low_64.ensures ∙ ap low_64 (c.max.ensures ∙ ap (λ n. max n c.memory_end.result) c.from.ensures ∙ second_end c.args.place.now c.memory_end.result (c.memory_end.ensures.value ∙ ap (memory_end_in loaded.Second) c.as_slice.ensures))
