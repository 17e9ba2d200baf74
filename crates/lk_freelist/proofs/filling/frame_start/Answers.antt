use Rattle.std.proofs.Common.{◌≡◌, ◌-◌, ◌∙◌, ap, ◌∷◌, [], List, ℕ, slice_index_or}
use Rattle.lk_elf.specs.Fields.{bytes_of}
use Rattle.lk_elf.proofs.Widths.{little_bytes-bytes_of}
use Rattle.lk_freelist.proofs.filling.frame_start.Goals as goal

pub returns : goal.returns
unfolding bytes_of
returns c =
    let word : c.to_le_bytes-word.result ≡ bytes_of 4 (c.args.hole - 4) = c.to_le_bytes-word.ensures ∙ little_bytes-bytes_of 4 (c.args.hole - 4) in
    ap (λ (w : List ℕ). slice_index_or w 0 0 ∷ slice_index_or w 1 0 ∷ slice_index_or w 2 0 ∷ slice_index_or w 3 0 ∷ 0 ∷ 0 ∷ 0 ∷ 0 ∷ 1 ∷ 0 ∷ 1 ∷ 0x78 ∷ 0x10 ∷ []) word
