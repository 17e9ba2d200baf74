use Rattle.std.specs.Prelude.{◌≡◌, ◌++◌, drop, flat_map}
use Rattle.lk_elf.specs.Fields.{bytes_of}
use Rattle.lk_dyn.proofs.appending.put_words.Given as goal

abbrev pub invariant-loop-word : goal.invariant-loop-word
invariant-loop-word l = l.out.items ++ flat_map (bytes_of 4) (drop l.word-index l.words) ≡ l.initial.out.items ++ flat_map (bytes_of 4) l.words
