use Rattle.std.proofs.Common.{ap, ◌∙◌}
use Rattle.std.specs.Prelude.{◌≡◌, flat_map}
use Rattle.std.proofs.lemmas.Result.{IfOk-weaker}
use Rattle.lk_elf.specs.Fields.{bytes_of}
use Rattle.lk_model.specs.HashTable.{hash_bytes}
use Rattle.lk_dyn_sizes.specs.DynamicStrings.{texts_at}
use Rattle.lk_dyn.specs.HashWords.{words_by}
use Rattle.lk_dyn.proofs.ChainsMade.{words_are}
use Rattle.lk_dyn.proofs.hash_tables.hash_table.Goals as goal

pub returns : goal.returns
unfolding hash_bytes
returns c =
    IfOk-weaker c.from_vec.result (λ b. b ≡ c.in_ok-table.table.items) (λ b. b ≡ hash_bytes (texts_at c.args.names.now c.args.numbers.now))
    (λ b made. made
    ∙ c.in_ok-table.ensures
    ∙ ap (λ l. flat_map (bytes_of 4) (words_by l)) (c.as_slice.ensures.value ∙ c.in_ok-hashes.ensures)
    ∙ ap (flat_map (bytes_of 4)) (words_are (texts_at c.args.names.now c.args.numbers.now)))
    c.from_vec.ensures
