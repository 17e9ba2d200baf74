use Rattle.std.proofs.Common.{ap, ◌∙◌, length}
use Rattle.std.specs.Prelude.{◌+◌, ◌∷◌, ◌++◌, flat_map}
use Rattle.lk_elf.specs.Fields.{bytes_of}
use Rattle.lk_dyn.specs.HashWords.{buckets_by, heads_of, nexts_of}
use Rattle.lk_dyn.proofs.ChainsMade.{words_put}
use Rattle.lk_dyn.proofs.hash_tables.table_by.Goals as goal

pub returns : goal.returns
returns c =
    let hashes = c.args.hashes.now in
    let entries = length c.args.hashes.now + 1 in
    let count = c.bucket_count-count.ensures.count in
    words_put
    c.bucket_count-count.result
    entries
    c.in_ok-chains.chains.heads.items
    c.in_ok-chains.chains.nexts.items
    c.new-out.result.items
    c.put_word.new.out.items
    c.put_word-2.new.out.items
    c.put_words.new.out.items
    c.put_word-3.new.out.items
    c.put_words-2.new.out.items
    c.new-out.ensures.items
    c.in_ok-put_word.ensures
    c.in_ok-put_word-2.ensures
    (c.in_ok-put_words.ensures ∙ ap (λ l. c.put_word-2.new.out.items ++ flat_map (bytes_of 4) l) c.as_slice.ensures.value)
    c.in_ok-put_word-3.ensures
    (c.in_ok-put_words-2.ensures ∙ ap (λ l. c.put_word-3.new.out.items ++ flat_map (bytes_of 4) l) c.as_slice-2.ensures.value)
    ∙ (λ i. flat_map (bytes_of 4) (c.bucket_count-count.result ∷ entries ∷ c.in_ok-chains.ensures.heads i ++ 0 ∷ c.in_ok-chains.ensures.nexts i))
    ∙ ap (λ n. flat_map (bytes_of 4) (n ∷ entries ∷ heads_of n (buckets_by n hashes) ++ 0 ∷ nexts_of (buckets_by n hashes))) count
