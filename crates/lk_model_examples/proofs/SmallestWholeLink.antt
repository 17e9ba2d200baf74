-- The smallest link with its whole tail: its image of 9,688 bytes, which was put together by hand from
-- the formats, the placement that it records, and what updates of it answer.
use Rattle.std.specs.Prelude.{◌≡◌, ℕ, List, [], ◌∷◌, ◌++◌, Some, None, codes, take, drop, replicate, refl}
use Rattle.lk_model_examples.proofs.Computed.{answered_of, placed_of, recorded_of, view_linked, view_read, whole_linked_of}
use Rattle.lk_model_examples.proofs.SmallestLink.{smallest_files, smallest_input_0, smallest_words}

abbrev zeros : ℕ → List ℕ
zeros n = replicate n 0

-- the map of the file: headers at 0, the seal at 4088, `.text` at 0x1000, `.got` at 0x2000, `.got.plt` at
-- 0x2040, `.symtab` at 0x2080, `.strtab` at 0x20b0, the record sections at 0x20b8 (312 bytes), 0x21f0
-- (16), 0x2200 (none), 0x2200 (16) and 0x2210 (32), `.shstrtab` at 0x2230 (168), the section headers at
-- 0x22d8 (12)
unfoldable pub smallest_whole_image : List ℕ
smallest_whole_image =
    (127 ∷ 69 ∷ 76 ∷ 70 ∷ 2 ∷ 1 ∷ 1 ∷ [])
    ++ zeros 9
    ++ (2 ∷ 0 ∷ 62 ∷ 0 ∷ 1 ∷ 0 ∷ 0 ∷ 0 ∷ 0 ∷ 16 ∷ 64 ∷ 0 ∷ 0 ∷ 0 ∷ 0 ∷ 0 ∷ 64 ∷ 0 ∷ 0 ∷ 0 ∷ 0 ∷ 0 ∷ 0 ∷ 0 ∷ 216 ∷ 34 ∷ [])
    ++ zeros 10
    ++ (64 ∷ 0 ∷ 56 ∷ 0 ∷ 4 ∷ 0 ∷ 64 ∷ 0 ∷ 12 ∷ 0 ∷ 11 ∷ 0 ∷ 1 ∷ 0 ∷ 0 ∷ 0 ∷ 4 ∷ [])
    ++ zeros 13
    ++ (64 ∷ 0 ∷ 0 ∷ 0 ∷ 0 ∷ 0 ∷ 0 ∷ 0 ∷ 64 ∷ 0 ∷ 0 ∷ 0 ∷ 0 ∷ 0 ∷ 0 ∷ 16 ∷ 0 ∷ 0 ∷ 0 ∷ 0 ∷ 0 ∷ 0 ∷ 0 ∷ 16 ∷ 0 ∷ 0 ∷ 0 ∷ 0 ∷ 0 ∷ 0 ∷ 0 ∷ 16 ∷ [])
    ++ (0 ∷ 0 ∷ 0 ∷ 0 ∷ 0 ∷ 0 ∷ 1 ∷ 0 ∷ 0 ∷ 0 ∷ 5 ∷ 0 ∷ 0 ∷ 0 ∷ 0 ∷ 16 ∷ 0 ∷ 0 ∷ 0 ∷ 0 ∷ 0 ∷ 0 ∷ 0 ∷ 16 ∷ 64 ∷ 0 ∷ 0 ∷ 0 ∷ 0 ∷ 0 ∷ 0 ∷ 16 ∷ [])
    ++ (64 ∷ 0 ∷ 0 ∷ 0 ∷ 0 ∷ 0 ∷ 64 ∷ 0 ∷ 0 ∷ 0 ∷ 0 ∷ 0 ∷ 0 ∷ 0 ∷ 64 ∷ 0 ∷ 0 ∷ 0 ∷ 0 ∷ 0 ∷ 0 ∷ 0 ∷ 0 ∷ 16 ∷ 0 ∷ 0 ∷ 0 ∷ 0 ∷ 0 ∷ 0 ∷ 1 ∷ 0 ∷ [])
    ++ (0 ∷ 0 ∷ 6 ∷ 0 ∷ 0 ∷ 0 ∷ 0 ∷ 32 ∷ 0 ∷ 0 ∷ 0 ∷ 0 ∷ 0 ∷ 0 ∷ 0 ∷ 32 ∷ 64 ∷ 0 ∷ 0 ∷ 0 ∷ 0 ∷ 0 ∷ 0 ∷ 32 ∷ 64 ∷ 0 ∷ 0 ∷ 0 ∷ 0 ∷ 0 ∷ 128 ∷ 0 ∷ [])
    ++ (0 ∷ 0 ∷ 0 ∷ 0 ∷ 0 ∷ 0 ∷ 128 ∷ 0 ∷ 0 ∷ 0 ∷ 0 ∷ 0 ∷ 0 ∷ 0 ∷ 0 ∷ 16 ∷ 0 ∷ 0 ∷ 0 ∷ 0 ∷ 0 ∷ 0 ∷ 81 ∷ 229 ∷ 116 ∷ 100 ∷ 6 ∷ [])
    ++ zeros 43
    ++ (16 ∷ [])
    ++ zeros 3807
    ++ (76 ∷ 75 ∷ 83 ∷ 69 ∷ 65 ∷ 76 ∷ 48 ∷ 49 ∷ 204 ∷ 204 ∷ 204 ∷ 204 ∷ 204 ∷ 204 ∷ 204 ∷ 204 ∷ 204 ∷ 204 ∷ 204 ∷ 204 ∷ 204 ∷ 204 ∷ 204 ∷ 204 ∷ 204 ∷ 204 ∷ 204 ∷ 204 ∷ 204 ∷ 204 ∷ 204 ∷ 204 ∷ [])
    ++ (204 ∷ 204 ∷ 204 ∷ 204 ∷ 204 ∷ 204 ∷ 204 ∷ 204 ∷ 204 ∷ 204 ∷ 204 ∷ 204 ∷ 204 ∷ 204 ∷ 204 ∷ 204 ∷ 204 ∷ 204 ∷ 204 ∷ 204 ∷ 204 ∷ 204 ∷ 204 ∷ 204 ∷ 204 ∷ 204 ∷ 204 ∷ 204 ∷ 204 ∷ 204 ∷ 204 ∷ 204 ∷ [])
    ++ (204 ∷ 204 ∷ 204 ∷ 204 ∷ 204 ∷ 204 ∷ 204 ∷ 204 ∷ [])
    ++ zeros 4184
    ++ (1 ∷ 0 ∷ 0 ∷ 0 ∷ 16 ∷ 0 ∷ 1 ∷ 0 ∷ 0 ∷ 16 ∷ 64 ∷ [])
    ++ zeros 14
    ++ (95 ∷ 115 ∷ 116 ∷ 97 ∷ 114 ∷ 116 ∷ 0 ∷ 1 ∷ 0 ∷ 0 ∷ 0 ∷ 0 ∷ 0 ∷ 0 ∷ 0 ∷ 1 ∷ [])
    ++ zeros 11
    ++ (10 ∷ 0 ∷ 0 ∷ 0 ∷ 1 ∷ 0 ∷ 0 ∷ 0 ∷ 3 ∷ 0 ∷ 0 ∷ 0 ∷ 8 ∷ 0 ∷ 0 ∷ 0 ∷ 1 ∷ 0 ∷ 0 ∷ 0 ∷ 0 ∷ 16 ∷ 64 ∷ 0 ∷ 0 ∷ 0 ∷ 0 ∷ 0 ∷ 0 ∷ 16 ∷ 0 ∷ 0 ∷ [])
    ++ (0 ∷ 0 ∷ 0 ∷ 0 ∷ 64 ∷ 0 ∷ 0 ∷ 0 ∷ 0 ∷ 0 ∷ 0 ∷ 0 ∷ 64 ∷ 0 ∷ 0 ∷ 0 ∷ 0 ∷ 0 ∷ 0 ∷ 0 ∷ 16 ∷ 0 ∷ 0 ∷ 0 ∷ 0 ∷ 0 ∷ 0 ∷ 0 ∷ 14 ∷ 0 ∷ 0 ∷ 0 ∷ [])
    ++ (2 ∷ 0 ∷ 0 ∷ 0 ∷ 0 ∷ 32 ∷ 64 ∷ 0 ∷ 0 ∷ 0 ∷ 0 ∷ 0 ∷ 0 ∷ 32 ∷ [])
    ++ zeros 14
    ++ (64 ∷ 0 ∷ 0 ∷ 0 ∷ 0 ∷ 0 ∷ 0 ∷ 0 ∷ 16 ∷ 0 ∷ 0 ∷ 0 ∷ 0 ∷ 0 ∷ 0 ∷ 0 ∷ 19 ∷ 0 ∷ 0 ∷ 0 ∷ 2 ∷ 0 ∷ 0 ∷ 0 ∷ 64 ∷ 32 ∷ 64 ∷ 0 ∷ 0 ∷ 0 ∷ 0 ∷ 0 ∷ [])
    ++ (64 ∷ 32 ∷ 0 ∷ 0 ∷ 0 ∷ 0 ∷ 0 ∷ 0 ∷ 24 ∷ 0 ∷ 0 ∷ 0 ∷ 0 ∷ 0 ∷ 0 ∷ 0 ∷ 64 ∷ 0 ∷ 0 ∷ 0 ∷ 0 ∷ 0 ∷ 0 ∷ 0 ∷ 16 ∷ 0 ∷ 0 ∷ 0 ∷ 0 ∷ 0 ∷ 0 ∷ 0 ∷ [])
    ++ (28 ∷ 0 ∷ 0 ∷ 0 ∷ 0 ∷ 0 ∷ 0 ∷ 0 ∷ 1 ∷ 0 ∷ 0 ∷ 0 ∷ 0 ∷ 0 ∷ 0 ∷ 0 ∷ 1 ∷ 0 ∷ 0 ∷ 0 ∷ 0 ∷ 0 ∷ 0 ∷ 0 ∷ 40 ∷ 2 ∷ 0 ∷ 0 ∷ 0 ∷ 0 ∷ 0 ∷ 0 ∷ [])
    ++ (0 ∷ 0 ∷ 160 ∷ 216 ∷ 133 ∷ 87 ∷ 52 ∷ 22 ∷ 1 ∷ 0 ∷ 0 ∷ 0 ∷ 1 ∷ [])
    ++ zeros 11
    ++ (1 ∷ 0 ∷ 0 ∷ 0 ∷ 0 ∷ 0 ∷ 0 ∷ 0 ∷ 0 ∷ 16 ∷ 64 ∷ [])
    ++ zeros 13
    ++ (1 ∷ 0 ∷ 0 ∷ 0 ∷ 0 ∷ 0 ∷ 0 ∷ 0 ∷ 8 ∷ 0 ∷ 0 ∷ 0 ∷ 1 ∷ 0 ∷ 0 ∷ 0 ∷ 1 ∷ 0 ∷ 0 ∷ 0 ∷ 1 ∷ 0 ∷ 0 ∷ 0 ∷ 1 ∷ 0 ∷ 0 ∷ 0 ∷ 1 ∷ [])
    ++ zeros 19
    ++ (1 ∷ 0 ∷ 0 ∷ 0 ∷ 0 ∷ 0 ∷ 0 ∷ 0 ∷ 1 ∷ 0 ∷ 0 ∷ 0 ∷ 0 ∷ 0 ∷ 0 ∷ 0 ∷ 1 ∷ 0 ∷ 0 ∷ 0 ∷ 1 ∷ [])
    ++ zeros 20
    ++ (95 ∷ 115 ∷ 116 ∷ 97 ∷ 114 ∷ 116 ∷ 0 ∷ 46 ∷ 116 ∷ 101 ∷ 120 ∷ 116 ∷ 0 ∷ 46 ∷ 103 ∷ 111 ∷ 116 ∷ 0 ∷ 46 ∷ 103 ∷ 111 ∷ 116 ∷ 46 ∷ 112 ∷ 108 ∷ 116 ∷ 0 ∷ 97 ∷ 46 ∷ 111 ∷ 0 ∷ 0 ∷ [])
    ++ (46 ∷ 116 ∷ 101 ∷ 120 ∷ 116 ∷ 0 ∷ 46 ∷ 103 ∷ 111 ∷ 116 ∷ 0 ∷ 46 ∷ 103 ∷ 111 ∷ 116 ∷ 46 ∷ 112 ∷ 108 ∷ 116 ∷ 0 ∷ 46 ∷ 115 ∷ 121 ∷ 109 ∷ 116 ∷ 97 ∷ 98 ∷ 0 ∷ 46 ∷ 115 ∷ 116 ∷ 114 ∷ [])
    ++ (116 ∷ 97 ∷ 98 ∷ 0 ∷ 46 ∷ 103 ∷ 110 ∷ 117 ∷ 95 ∷ 105 ∷ 110 ∷ 99 ∷ 114 ∷ 101 ∷ 109 ∷ 101 ∷ 110 ∷ 116 ∷ 97 ∷ 108 ∷ 95 ∷ 105 ∷ 110 ∷ 112 ∷ 117 ∷ 116 ∷ 115 ∷ 0 ∷ 46 ∷ 103 ∷ 110 ∷ 117 ∷ [])
    ++ (95 ∷ 105 ∷ 110 ∷ 99 ∷ 114 ∷ 101 ∷ 109 ∷ 101 ∷ 110 ∷ 116 ∷ 97 ∷ 108 ∷ 95 ∷ 115 ∷ 121 ∷ 109 ∷ 116 ∷ 97 ∷ 98 ∷ 0 ∷ 46 ∷ 103 ∷ 110 ∷ 117 ∷ 95 ∷ 105 ∷ 110 ∷ 99 ∷ 114 ∷ 101 ∷ 109 ∷ 101 ∷ [])
    ++ (110 ∷ 116 ∷ 97 ∷ 108 ∷ 95 ∷ 114 ∷ 101 ∷ 108 ∷ 111 ∷ 99 ∷ 115 ∷ 0 ∷ 46 ∷ 103 ∷ 110 ∷ 117 ∷ 95 ∷ 105 ∷ 110 ∷ 99 ∷ 114 ∷ 101 ∷ 109 ∷ 101 ∷ 110 ∷ 116 ∷ 97 ∷ 108 ∷ 95 ∷ 103 ∷ 111 ∷ 116 ∷ [])
    ++ (95 ∷ 112 ∷ 108 ∷ 116 ∷ 0 ∷ 46 ∷ 103 ∷ 110 ∷ 117 ∷ 95 ∷ 105 ∷ 110 ∷ 99 ∷ 114 ∷ 101 ∷ 109 ∷ 101 ∷ 110 ∷ 116 ∷ 97 ∷ 108 ∷ 95 ∷ 115 ∷ 116 ∷ 114 ∷ 116 ∷ 97 ∷ 98 ∷ 0 ∷ 46 ∷ 115 ∷ 104 ∷ [])
    ++ (115 ∷ 116 ∷ 114 ∷ 116 ∷ 97 ∷ 98 ∷ [])
    ++ zeros 65
    ++ (1 ∷ 0 ∷ 0 ∷ 0 ∷ 1 ∷ 0 ∷ 0 ∷ 0 ∷ 6 ∷ 0 ∷ 0 ∷ 0 ∷ 0 ∷ 0 ∷ 0 ∷ 0 ∷ 0 ∷ 16 ∷ 64 ∷ 0 ∷ 0 ∷ 0 ∷ 0 ∷ 0 ∷ 0 ∷ 16 ∷ 0 ∷ 0 ∷ 0 ∷ 0 ∷ 0 ∷ 0 ∷ [])
    ++ (64 ∷ [])
    ++ zeros 15
    ++ (16 ∷ [])
    ++ zeros 15
    ++ (7 ∷ 0 ∷ 0 ∷ 0 ∷ 1 ∷ 0 ∷ 0 ∷ 0 ∷ 3 ∷ 0 ∷ 0 ∷ 0 ∷ 0 ∷ 0 ∷ 0 ∷ 0 ∷ 0 ∷ 32 ∷ 64 ∷ 0 ∷ 0 ∷ 0 ∷ 0 ∷ 0 ∷ 0 ∷ 32 ∷ [])
    ++ zeros 22
    ++ (16 ∷ [])
    ++ zeros 15
    ++ (12 ∷ 0 ∷ 0 ∷ 0 ∷ 1 ∷ 0 ∷ 0 ∷ 0 ∷ 3 ∷ 0 ∷ 0 ∷ 0 ∷ 0 ∷ 0 ∷ 0 ∷ 0 ∷ 64 ∷ 32 ∷ 64 ∷ 0 ∷ 0 ∷ 0 ∷ 0 ∷ 0 ∷ 64 ∷ 32 ∷ 0 ∷ 0 ∷ 0 ∷ 0 ∷ 0 ∷ 0 ∷ [])
    ++ (24 ∷ [])
    ++ zeros 15
    ++ (16 ∷ [])
    ++ zeros 15
    ++ (21 ∷ 0 ∷ 0 ∷ 0 ∷ 2 ∷ [])
    ++ zeros 19
    ++ (128 ∷ 32 ∷ 0 ∷ 0 ∷ 0 ∷ 0 ∷ 0 ∷ 0 ∷ 48 ∷ 0 ∷ 0 ∷ 0 ∷ 0 ∷ 0 ∷ 0 ∷ 0 ∷ 5 ∷ 0 ∷ 0 ∷ 0 ∷ 1 ∷ 0 ∷ 0 ∷ 0 ∷ 8 ∷ 0 ∷ 0 ∷ 0 ∷ 0 ∷ 0 ∷ 0 ∷ 0 ∷ [])
    ++ (24 ∷ 0 ∷ 0 ∷ 0 ∷ 0 ∷ 0 ∷ 0 ∷ 0 ∷ 29 ∷ 0 ∷ 0 ∷ 0 ∷ 3 ∷ [])
    ++ zeros 19
    ++ (176 ∷ 32 ∷ 0 ∷ 0 ∷ 0 ∷ 0 ∷ 0 ∷ 0 ∷ 8 ∷ [])
    ++ zeros 15
    ++ (8 ∷ [])
    ++ zeros 15
    ++ (37 ∷ 0 ∷ 0 ∷ 0 ∷ 1 ∷ [])
    ++ zeros 19
    ++ (184 ∷ 32 ∷ 0 ∷ 0 ∷ 0 ∷ 0 ∷ 0 ∷ 0 ∷ 56 ∷ 1 ∷ [])
    ++ zeros 14
    ++ (8 ∷ [])
    ++ zeros 15
    ++ (61 ∷ 0 ∷ 0 ∷ 0 ∷ 1 ∷ [])
    ++ zeros 19
    ++ (240 ∷ 33 ∷ 0 ∷ 0 ∷ 0 ∷ 0 ∷ 0 ∷ 0 ∷ 16 ∷ [])
    ++ zeros 15
    ++ (8 ∷ [])
    ++ zeros 15
    ++ (85 ∷ 0 ∷ 0 ∷ 0 ∷ 1 ∷ [])
    ++ zeros 20
    ++ (34 ∷ [])
    ++ zeros 22
    ++ (8 ∷ [])
    ++ zeros 15
    ++ (109 ∷ 0 ∷ 0 ∷ 0 ∷ 1 ∷ [])
    ++ zeros 20
    ++ (34 ∷ 0 ∷ 0 ∷ 0 ∷ 0 ∷ 0 ∷ 0 ∷ 16 ∷ [])
    ++ zeros 15
    ++ (8 ∷ [])
    ++ zeros 15
    ++ (134 ∷ 0 ∷ 0 ∷ 0 ∷ 1 ∷ [])
    ++ zeros 19
    ++ (16 ∷ 34 ∷ 0 ∷ 0 ∷ 0 ∷ 0 ∷ 0 ∷ 0 ∷ 32 ∷ [])
    ++ zeros 15
    ++ (8 ∷ [])
    ++ zeros 15
    ++ (158 ∷ 0 ∷ 0 ∷ 0 ∷ 3 ∷ [])
    ++ zeros 19
    ++ (48 ∷ 34 ∷ 0 ∷ 0 ∷ 0 ∷ 0 ∷ 0 ∷ 0 ∷ 168 ∷ [])
    ++ zeros 15
    ++ (8 ∷ [])
    ++ zeros 15

-- the image, 9688 bytes
whole_image : whole_linked_of smallest_words smallest_files ≡ smallest_whole_image
unfolding smallest_words smallest_files smallest_input_0 whole_linked_of smallest_whole_image
whole_image = refl

-- it records the placement of a link made anew
whole_place : recorded_of smallest_whole_image ≡ placed_of smallest_words smallest_files
unfolding smallest_words smallest_files smallest_input_0 recorded_of placed_of smallest_whole_image
whole_place = refl

-- and its view is that of its inputs
whole_view : view_read smallest_whole_image ≡ view_linked smallest_words smallest_files
unfolding smallest_words smallest_files smallest_input_0 view_read view_linked smallest_whole_image
whole_view = refl

-- ---- updates of it

-- the line of a text
abbrev line : List ℕ → List ℕ
line text = text ++ 10 ∷ []

abbrev update_words : List (List ℕ)
update_words = codes "--incremental-update" ∷ codes "-o" ∷ codes "out" ∷ codes "a.o" ∷ []

abbrev either_words : List (List ℕ)
either_words = codes "--incremental" ∷ codes "--incremental-patch=20" ∷ codes "-o" ∷ codes "out" ∷ codes "a.o" ∷ []

-- nothing changed
whole_updated : answered_of update_words smallest_files (Some smallest_whole_image) ≡ line (codes "updated")
unfolding smallest_files smallest_input_0 smallest_whole_image answered_of
whole_updated = refl

-- with another patch everything is made anew
whole_gives_way : answered_of either_words smallest_files (Some smallest_whole_image) ≡ line (codes "full link: options changed")
unfolding smallest_files smallest_input_0 smallest_whole_image answered_of
whole_gives_way = refl

-- no output, one of 4,096 bytes, and one whose seal is broken
without_base : answered_of update_words smallest_files None ≡ line (codes "not updated: no base")
unfolding smallest_files smallest_input_0 answered_of
without_base = refl

short_base : answered_of update_words smallest_files (Some (take 4096 smallest_whole_image)) ≡ line (codes "not updated: no base")
unfolding smallest_files smallest_input_0 smallest_whole_image answered_of
short_base = refl

open_base : answered_of update_words smallest_files (Some (take 4088 smallest_whole_image ++ zeros 8 ++ drop 4096 smallest_whole_image)) ≡ line (codes "not updated: base is open")
unfolding smallest_files smallest_input_0 smallest_whole_image answered_of
open_base = refl
