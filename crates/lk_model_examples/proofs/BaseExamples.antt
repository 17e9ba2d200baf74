-- Worked examples: which files are bases. The images are made apart from the definitions: that of the
-- smallest link, of 9,688 bytes, and a compact one whose section headers follow the file header.
use Rattle.std.specs.Prelude.{◌≡◌, ℕ, ◌+◌, false, List, [], ◌∷◌, ◌++◌, length, take, drop, replicate, Some, None, Ok, Err, codes, refl}
use Rattle.lk_elf.specs.Fields.{bytes_of}
use Rattle.lk_report.specs.declared.causes.Cause.TheVariants.{NoBase, BaseOpen, NotIncremental, OtherVersion}
use Rattle.lk_model_examples.proofs.RecordCases.{zeros, section_row, smallest_records, smallest_five}
use Rattle.lk_model_examples.proofs.RecordsComputed.{five_found, place_found, base_found}
use Rattle.lk_model.specs.declared.layouts.Class.TheVariants.{X}
use Rattle.lk_model.specs.declared.records.Records.{Records}

-- the image of the smallest link
abbrev smallest_image : List ℕ
smallest_image =
    (127 ∷ 69 ∷ 76 ∷ 70 ∷ 2 ∷ 1 ∷ 1 ∷ 0 ∷ 0 ∷ 0 ∷ 0 ∷ 0 ∷ 0 ∷ 0 ∷ 0 ∷ 0 ∷ 2 ∷ 0 ∷ 62 ∷ 0 ∷ 1 ∷ 0 ∷ 0 ∷ 0 ∷ 0 ∷ 16 ∷ 64 ∷ 0 ∷ 0 ∷ 0 ∷ 0 ∷ 0 ∷ [])
    ++ (64 ∷ 0 ∷ 0 ∷ 0 ∷ 0 ∷ 0 ∷ 0 ∷ 0 ∷ 216 ∷ 34 ∷ 0 ∷ 0 ∷ 0 ∷ 0 ∷ 0 ∷ 0 ∷ 0 ∷ 0 ∷ 0 ∷ 0 ∷ 64 ∷ 0 ∷ 56 ∷ 0 ∷ 4 ∷ 0 ∷ 64 ∷ 0 ∷ 12 ∷ 0 ∷ 11 ∷ 0 ∷ [])
    ++ (1 ∷ 0 ∷ 0 ∷ 0 ∷ 4 ∷ [])
    ++ zeros 13
    ++ (64 ∷ 0 ∷ 0 ∷ 0 ∷ 0 ∷ 0 ∷ 0 ∷ 0 ∷ 64 ∷ 0 ∷ 0 ∷ 0 ∷ 0 ∷ 0 ∷ 0 ∷ 16 ∷ 0 ∷ 0 ∷ 0 ∷ 0 ∷ 0 ∷ 0 ∷ 0 ∷ 16 ∷ 0 ∷ 0 ∷ 0 ∷ 0 ∷ 0 ∷ 0 ∷ 0 ∷ 16 ∷ [])
    ++ (0 ∷ 0 ∷ 0 ∷ 0 ∷ 0 ∷ 0 ∷ 1 ∷ 0 ∷ 0 ∷ 0 ∷ 5 ∷ 0 ∷ 0 ∷ 0 ∷ 0 ∷ 16 ∷ 0 ∷ 0 ∷ 0 ∷ 0 ∷ 0 ∷ 0 ∷ 0 ∷ 16 ∷ 64 ∷ 0 ∷ 0 ∷ 0 ∷ 0 ∷ 0 ∷ 0 ∷ 16 ∷ [])
    ++ (64 ∷ 0 ∷ 0 ∷ 0 ∷ 0 ∷ 0 ∷ 64 ∷ 0 ∷ 0 ∷ 0 ∷ 0 ∷ 0 ∷ 0 ∷ 0 ∷ 64 ∷ 0 ∷ 0 ∷ 0 ∷ 0 ∷ 0 ∷ 0 ∷ 0 ∷ 0 ∷ 16 ∷ 0 ∷ 0 ∷ 0 ∷ 0 ∷ 0 ∷ 0 ∷ 1 ∷ 0 ∷ [])
    ++ (0 ∷ 0 ∷ 6 ∷ 0 ∷ 0 ∷ 0 ∷ 0 ∷ 32 ∷ 0 ∷ 0 ∷ 0 ∷ 0 ∷ 0 ∷ 0 ∷ 0 ∷ 32 ∷ 64 ∷ 0 ∷ 0 ∷ 0 ∷ 0 ∷ 0 ∷ 0 ∷ 32 ∷ 64 ∷ 0 ∷ 0 ∷ 0 ∷ 0 ∷ 0 ∷ 128 ∷ 0 ∷ [])
    ++ (0 ∷ 0 ∷ 0 ∷ 0 ∷ 0 ∷ 0 ∷ 128 ∷ 0 ∷ 0 ∷ 0 ∷ 0 ∷ 0 ∷ 0 ∷ 0 ∷ 0 ∷ 16 ∷ 0 ∷ 0 ∷ 0 ∷ 0 ∷ 0 ∷ 0 ∷ 81 ∷ 229 ∷ 116 ∷ 100 ∷ 6 ∷ [])
    ++ zeros 43
    ++ (16 ∷ [])
    ++ zeros 3807
    ++ (76 ∷ 75 ∷ 83 ∷ 69 ∷ 65 ∷ 76 ∷ 48 ∷ 49 ∷ 204 ∷ 204 ∷ 204 ∷ 204 ∷ 204 ∷ 204 ∷ 204 ∷ 204 ∷ 204 ∷ 204 ∷ 204 ∷ 204 ∷ 204 ∷ 204 ∷ 204 ∷ 204 ∷ 204 ∷ 204 ∷ 204 ∷ 204 ∷ 204 ∷ 204 ∷ 204 ∷ 204 ∷ [])
    ++ (204 ∷ 204 ∷ 204 ∷ 204 ∷ 204 ∷ 204 ∷ 204 ∷ 204 ∷ 204 ∷ 204 ∷ 204 ∷ 204 ∷ 204 ∷ 204 ∷ 204 ∷ 204 ∷ 204 ∷ 204 ∷ 204 ∷ 204 ∷ 204 ∷ 204 ∷ 204 ∷ 204 ∷ 204 ∷ 204 ∷ 204 ∷ 204 ∷ 204 ∷ 204 ∷ 204 ∷ 204 ∷ [])
    ++ (204 ∷ 204 ∷ 204 ∷ 204 ∷ 204 ∷ 204 ∷ 204 ∷ 204 ∷ [])
    ++ zeros 4184
    ++ (1 ∷ 0 ∷ 0 ∷ 0 ∷ 16 ∷ 0 ∷ 1 ∷ 0 ∷ 0 ∷ 16 ∷ 64 ∷ [])
    ++ zeros 14
    ++ (95 ∷ 115 ∷ 116 ∷ 97 ∷ 114 ∷ 116 ∷ 0 ∷ 1 ∷ 0 ∷ 0 ∷ 0 ∷ 0 ∷ 0 ∷ 0 ∷ 0 ∷ 1 ∷ 0 ∷ 0 ∷ 0 ∷ 0 ∷ 0 ∷ 0 ∷ 0 ∷ 0 ∷ 0 ∷ 0 ∷ 0 ∷ 10 ∷ 0 ∷ 0 ∷ 0 ∷ 1 ∷ [])
    ++ (0 ∷ 0 ∷ 0 ∷ 3 ∷ 0 ∷ 0 ∷ 0 ∷ 8 ∷ 0 ∷ 0 ∷ 0 ∷ 1 ∷ 0 ∷ 0 ∷ 0 ∷ 0 ∷ 16 ∷ 64 ∷ 0 ∷ 0 ∷ 0 ∷ 0 ∷ 0 ∷ 0 ∷ 16 ∷ 0 ∷ 0 ∷ 0 ∷ 0 ∷ 0 ∷ 0 ∷ 64 ∷ [])
    ++ (0 ∷ 0 ∷ 0 ∷ 0 ∷ 0 ∷ 0 ∷ 0 ∷ 64 ∷ 0 ∷ 0 ∷ 0 ∷ 0 ∷ 0 ∷ 0 ∷ 0 ∷ 16 ∷ 0 ∷ 0 ∷ 0 ∷ 0 ∷ 0 ∷ 0 ∷ 0 ∷ 14 ∷ 0 ∷ 0 ∷ 0 ∷ 2 ∷ 0 ∷ 0 ∷ 0 ∷ 0 ∷ [])
    ++ (32 ∷ 64 ∷ 0 ∷ 0 ∷ 0 ∷ 0 ∷ 0 ∷ 0 ∷ 32 ∷ [])
    ++ zeros 14
    ++ (64 ∷ 0 ∷ 0 ∷ 0 ∷ 0 ∷ 0 ∷ 0 ∷ 0 ∷ 16 ∷ 0 ∷ 0 ∷ 0 ∷ 0 ∷ 0 ∷ 0 ∷ 0 ∷ 19 ∷ 0 ∷ 0 ∷ 0 ∷ 2 ∷ 0 ∷ 0 ∷ 0 ∷ 64 ∷ 32 ∷ 64 ∷ 0 ∷ 0 ∷ 0 ∷ 0 ∷ 0 ∷ [])
    ++ (64 ∷ 32 ∷ 0 ∷ 0 ∷ 0 ∷ 0 ∷ 0 ∷ 0 ∷ 24 ∷ 0 ∷ 0 ∷ 0 ∷ 0 ∷ 0 ∷ 0 ∷ 0 ∷ 64 ∷ 0 ∷ 0 ∷ 0 ∷ 0 ∷ 0 ∷ 0 ∷ 0 ∷ 16 ∷ 0 ∷ 0 ∷ 0 ∷ 0 ∷ 0 ∷ 0 ∷ 0 ∷ [])
    ++ (28 ∷ 0 ∷ 0 ∷ 0 ∷ 0 ∷ 0 ∷ 0 ∷ 0 ∷ 1 ∷ 0 ∷ 0 ∷ 0 ∷ 0 ∷ 0 ∷ 0 ∷ 0 ∷ 1 ∷ 0 ∷ 0 ∷ 0 ∷ 0 ∷ 0 ∷ 0 ∷ 0 ∷ 40 ∷ 2 ∷ 0 ∷ 0 ∷ 0 ∷ 0 ∷ 0 ∷ 0 ∷ [])
    ++ (0 ∷ 0 ∷ 160 ∷ 216 ∷ 133 ∷ 87 ∷ 52 ∷ 22 ∷ 1 ∷ 0 ∷ 0 ∷ 0 ∷ 1 ∷ 0 ∷ 0 ∷ 0 ∷ 0 ∷ 0 ∷ 0 ∷ 0 ∷ 0 ∷ 0 ∷ 0 ∷ 0 ∷ 1 ∷ 0 ∷ 0 ∷ 0 ∷ 0 ∷ 0 ∷ 0 ∷ 0 ∷ [])
    ++ (0 ∷ 16 ∷ 64 ∷ [])
    ++ zeros 13
    ++ (1 ∷ 0 ∷ 0 ∷ 0 ∷ 0 ∷ 0 ∷ 0 ∷ 0 ∷ 8 ∷ 0 ∷ 0 ∷ 0 ∷ 1 ∷ 0 ∷ 0 ∷ 0 ∷ 1 ∷ 0 ∷ 0 ∷ 0 ∷ 1 ∷ 0 ∷ 0 ∷ 0 ∷ 1 ∷ 0 ∷ 0 ∷ 0 ∷ 1 ∷ [])
    ++ zeros 19
    ++ (1 ∷ 0 ∷ 0 ∷ 0 ∷ 0 ∷ 0 ∷ 0 ∷ 0 ∷ 1 ∷ 0 ∷ 0 ∷ 0 ∷ 0 ∷ 0 ∷ 0 ∷ 0 ∷ 1 ∷ 0 ∷ 0 ∷ 0 ∷ 1 ∷ [])
    ++ zeros 20
    ++ (95 ∷ 115 ∷ 116 ∷ 97 ∷ 114 ∷ 116 ∷ 0 ∷ 46 ∷ 116 ∷ 101 ∷ 120 ∷ 116 ∷ 0 ∷ 46 ∷ 103 ∷ 111 ∷ 116 ∷ 0 ∷ 46 ∷ 103 ∷ 111 ∷ 116 ∷ 46 ∷ 112 ∷ 108 ∷ 116 ∷ 0 ∷ 97 ∷ 46 ∷ 111 ∷ 0 ∷ 0 ∷ [])
    ++ (46 ∷ 116 ∷ 101 ∷ 120 ∷ 116 ∷ 0 ∷ 46 ∷ 103 ∷ 111 ∷ 116 ∷ 0 ∷ 46 ∷ 103 ∷ 111 ∷ 116 ∷ 46 ∷ 112 ∷ 108 ∷ 116 ∷ 0 ∷ 46 ∷ 115 ∷ 121 ∷ 109 ∷ 116 ∷ 97 ∷ 98 ∷ 0 ∷ 46 ∷ 115 ∷ 116 ∷ 114 ∷ [])
    ++ (116 ∷ 97 ∷ 98 ∷ 0 ∷ 46 ∷ 103 ∷ 110 ∷ 117 ∷ 95 ∷ 105 ∷ 110 ∷ 99 ∷ 114 ∷ 101 ∷ 109 ∷ 101 ∷ 110 ∷ 116 ∷ 97 ∷ 108 ∷ 95 ∷ 105 ∷ 110 ∷ 112 ∷ 117 ∷ 116 ∷ 115 ∷ 0 ∷ 46 ∷ 103 ∷ 110 ∷ 117 ∷ [])
    ++ (95 ∷ 105 ∷ 110 ∷ 99 ∷ 114 ∷ 101 ∷ 109 ∷ 101 ∷ 110 ∷ 116 ∷ 97 ∷ 108 ∷ 95 ∷ 115 ∷ 121 ∷ 109 ∷ 116 ∷ 97 ∷ 98 ∷ 0 ∷ 46 ∷ 103 ∷ 110 ∷ 117 ∷ 95 ∷ 105 ∷ 110 ∷ 99 ∷ 114 ∷ 101 ∷ 109 ∷ 101 ∷ [])
    ++ (110 ∷ 116 ∷ 97 ∷ 108 ∷ 95 ∷ 114 ∷ 101 ∷ 108 ∷ 111 ∷ 99 ∷ 115 ∷ 0 ∷ 46 ∷ 103 ∷ 110 ∷ 117 ∷ 95 ∷ 105 ∷ 110 ∷ 99 ∷ 114 ∷ 101 ∷ 109 ∷ 101 ∷ 110 ∷ 116 ∷ 97 ∷ 108 ∷ 95 ∷ 103 ∷ 111 ∷ 116 ∷ [])
    ++ (95 ∷ 112 ∷ 108 ∷ 116 ∷ 0 ∷ 46 ∷ 103 ∷ 110 ∷ 117 ∷ 95 ∷ 105 ∷ 110 ∷ 99 ∷ 114 ∷ 101 ∷ 109 ∷ 101 ∷ 110 ∷ 116 ∷ 97 ∷ 108 ∷ 95 ∷ 115 ∷ 116 ∷ 114 ∷ 116 ∷ 97 ∷ 98 ∷ 0 ∷ 46 ∷ 115 ∷ 104 ∷ [])
    ++ (115 ∷ 116 ∷ 114 ∷ 116 ∷ 97 ∷ 98 ∷ [])
    ++ zeros 65
    ++ (1 ∷ 0 ∷ 0 ∷ 0 ∷ 1 ∷ 0 ∷ 0 ∷ 0 ∷ 6 ∷ 0 ∷ 0 ∷ 0 ∷ 0 ∷ 0 ∷ 0 ∷ 0 ∷ 0 ∷ 16 ∷ 64 ∷ 0 ∷ 0 ∷ 0 ∷ 0 ∷ 0 ∷ 0 ∷ 16 ∷ 0 ∷ 0 ∷ 0 ∷ 0 ∷ 0 ∷ 0 ∷ [])
    ++ (64 ∷ [])
    ++ zeros 15
    ++ (16 ∷ [])
    ++ zeros 15
    ++ (7 ∷ 0 ∷ 0 ∷ 0 ∷ 1 ∷ 0 ∷ 0 ∷ 0 ∷ 3 ∷ 0 ∷ 0 ∷ 0 ∷ 0 ∷ 0 ∷ 0 ∷ 0 ∷ 0 ∷ 32 ∷ 64 ∷ 0 ∷ 0 ∷ 0 ∷ 0 ∷ 0 ∷ 0 ∷ 32 ∷ [])
    ++ zeros 22
    ++ (16 ∷ [])
    ++ zeros 15
    ++ (12 ∷ 0 ∷ 0 ∷ 0 ∷ 1 ∷ 0 ∷ 0 ∷ 0 ∷ 3 ∷ 0 ∷ 0 ∷ 0 ∷ 0 ∷ 0 ∷ 0 ∷ 0 ∷ 64 ∷ 32 ∷ 64 ∷ 0 ∷ 0 ∷ 0 ∷ 0 ∷ 0 ∷ 64 ∷ 32 ∷ 0 ∷ 0 ∷ 0 ∷ 0 ∷ 0 ∷ 0 ∷ [])
    ++ (24 ∷ [])
    ++ zeros 15
    ++ (16 ∷ [])
    ++ zeros 15
    ++ (21 ∷ 0 ∷ 0 ∷ 0 ∷ 2 ∷ [])
    ++ zeros 19
    ++ (128 ∷ 32 ∷ 0 ∷ 0 ∷ 0 ∷ 0 ∷ 0 ∷ 0 ∷ 48 ∷ 0 ∷ 0 ∷ 0 ∷ 0 ∷ 0 ∷ 0 ∷ 0 ∷ 5 ∷ 0 ∷ 0 ∷ 0 ∷ 1 ∷ 0 ∷ 0 ∷ 0 ∷ 8 ∷ 0 ∷ 0 ∷ 0 ∷ 0 ∷ 0 ∷ 0 ∷ 0 ∷ [])
    ++ (24 ∷ 0 ∷ 0 ∷ 0 ∷ 0 ∷ 0 ∷ 0 ∷ 0 ∷ 29 ∷ 0 ∷ 0 ∷ 0 ∷ 3 ∷ [])
    ++ zeros 19
    ++ (176 ∷ 32 ∷ 0 ∷ 0 ∷ 0 ∷ 0 ∷ 0 ∷ 0 ∷ 8 ∷ [])
    ++ zeros 15
    ++ (8 ∷ [])
    ++ zeros 15
    ++ (37 ∷ 0 ∷ 0 ∷ 0 ∷ 1 ∷ [])
    ++ zeros 19
    ++ (184 ∷ 32 ∷ 0 ∷ 0 ∷ 0 ∷ 0 ∷ 0 ∷ 0 ∷ 56 ∷ 1 ∷ [])
    ++ zeros 14
    ++ (8 ∷ [])
    ++ zeros 15
    ++ (61 ∷ 0 ∷ 0 ∷ 0 ∷ 1 ∷ [])
    ++ zeros 19
    ++ (240 ∷ 33 ∷ 0 ∷ 0 ∷ 0 ∷ 0 ∷ 0 ∷ 0 ∷ 16 ∷ [])
    ++ zeros 15
    ++ (8 ∷ [])
    ++ zeros 15
    ++ (85 ∷ 0 ∷ 0 ∷ 0 ∷ 1 ∷ [])
    ++ zeros 20
    ++ (34 ∷ [])
    ++ zeros 22
    ++ (8 ∷ [])
    ++ zeros 15
    ++ (109 ∷ 0 ∷ 0 ∷ 0 ∷ 1 ∷ [])
    ++ zeros 20
    ++ (34 ∷ 0 ∷ 0 ∷ 0 ∷ 0 ∷ 0 ∷ 0 ∷ 16 ∷ [])
    ++ zeros 15
    ++ (8 ∷ [])
    ++ zeros 15
    ++ (134 ∷ 0 ∷ 0 ∷ 0 ∷ 1 ∷ [])
    ++ zeros 19
    ++ (16 ∷ 34 ∷ 0 ∷ 0 ∷ 0 ∷ 0 ∷ 0 ∷ 0 ∷ 32 ∷ [])
    ++ zeros 15
    ++ (8 ∷ [])
    ++ zeros 15
    ++ (158 ∷ 0 ∷ 0 ∷ 0 ∷ 3 ∷ [])
    ++ zeros 19
    ++ (48 ∷ 34 ∷ 0 ∷ 0 ∷ 0 ∷ 0 ∷ 0 ∷ 0 ∷ 168 ∷ [])
    ++ zeros 15
    ++ (8 ∷ [])
    ++ zeros 15

-- it is a base: its five sections, its records, its placement
smallest_is_base :
    (length smallest_image ≡ 9688)
    × (five_found smallest_image ≡ Some smallest_five)
    × (base_found (Some smallest_image) ≡ Ok smallest_records)
    × (place_found smallest_image ≡ Some smallest_records.placement)
unfolding five_found base_found place_found
smallest_is_base = (refl, refl, refl, refl)

-- a compact image, with one output section and no input
abbrev image : List ℕ
image =
    (127 ∷ 69 ∷ 76 ∷ 70 ∷ 2 ∷ 1 ∷ 1 ∷ 0 ∷ 0 ∷ 0 ∷ 0 ∷ 0 ∷ 0 ∷ 0 ∷ 0 ∷ 0 ∷ 2 ∷ 0 ∷ 62 ∷ 0 ∷ 1 ∷ 0 ∷ 0 ∷ 0 ∷ 0 ∷ 16 ∷ 64 ∷ [])
    ++ zeros 13
    ++ (64 ∷ 0 ∷ 0 ∷ 0 ∷ 0 ∷ 0 ∷ 0 ∷ 0 ∷ 0 ∷ 0 ∷ 0 ∷ 0 ∷ 64 ∷ 0 ∷ 56 ∷ 0 ∷ 0 ∷ 0 ∷ 64 ∷ 0 ∷ 8 ∷ 0 ∷ 7 ∷ [])
    ++ zeros 65
    ++ (1 ∷ 0 ∷ 0 ∷ 0 ∷ 1 ∷ 0 ∷ 0 ∷ 0 ∷ 6 ∷ 0 ∷ 0 ∷ 0 ∷ 0 ∷ 0 ∷ 0 ∷ 0 ∷ 0 ∷ 16 ∷ 64 ∷ 0 ∷ 0 ∷ 0 ∷ 0 ∷ 0 ∷ 0 ∷ 16 ∷ 0 ∷ 0 ∷ 0 ∷ 0 ∷ 0 ∷ 0 ∷ [])
    ++ (64 ∷ [])
    ++ zeros 15
    ++ (16 ∷ [])
    ++ zeros 15
    ++ (7 ∷ 0 ∷ 0 ∷ 0 ∷ 1 ∷ [])
    ++ zeros 19
    ++ (208 ∷ 2 ∷ 0 ∷ 0 ∷ 0 ∷ 0 ∷ 0 ∷ 0 ∷ 80 ∷ [])
    ++ zeros 15
    ++ (8 ∷ [])
    ++ zeros 15
    ++ (31 ∷ 0 ∷ 0 ∷ 0 ∷ 1 ∷ [])
    ++ zeros 19
    ++ (32 ∷ 3 ∷ [])
    ++ zeros 22
    ++ (8 ∷ [])
    ++ zeros 15
    ++ (55 ∷ 0 ∷ 0 ∷ 0 ∷ 1 ∷ [])
    ++ zeros 19
    ++ (32 ∷ 3 ∷ [])
    ++ zeros 22
    ++ (8 ∷ [])
    ++ zeros 15
    ++ (79 ∷ 0 ∷ 0 ∷ 0 ∷ 1 ∷ [])
    ++ zeros 19
    ++ (32 ∷ 3 ∷ 0 ∷ 0 ∷ 0 ∷ 0 ∷ 0 ∷ 0 ∷ 16 ∷ [])
    ++ zeros 15
    ++ (8 ∷ [])
    ++ zeros 15
    ++ (104 ∷ 0 ∷ 0 ∷ 0 ∷ 1 ∷ [])
    ++ zeros 19
    ++ (48 ∷ 3 ∷ 0 ∷ 0 ∷ 0 ∷ 0 ∷ 0 ∷ 0 ∷ 14 ∷ [])
    ++ zeros 15
    ++ (8 ∷ [])
    ++ zeros 15
    ++ (128 ∷ 0 ∷ 0 ∷ 0 ∷ 3 ∷ [])
    ++ zeros 19
    ++ (64 ∷ 2 ∷ 0 ∷ 0 ∷ 0 ∷ 0 ∷ 0 ∷ 0 ∷ 138 ∷ [])
    ++ zeros 15
    ++ (8 ∷ [])
    ++ zeros 16
    ++ (46 ∷ 116 ∷ 101 ∷ 120 ∷ 116 ∷ 0 ∷ 46 ∷ 103 ∷ 110 ∷ 117 ∷ 95 ∷ 105 ∷ 110 ∷ 99 ∷ 114 ∷ 101 ∷ 109 ∷ 101 ∷ 110 ∷ 116 ∷ 97 ∷ 108 ∷ 95 ∷ 105 ∷ 110 ∷ 112 ∷ 117 ∷ 116 ∷ 115 ∷ 0 ∷ 46 ∷ 103 ∷ [])
    ++ (110 ∷ 117 ∷ 95 ∷ 105 ∷ 110 ∷ 99 ∷ 114 ∷ 101 ∷ 109 ∷ 101 ∷ 110 ∷ 116 ∷ 97 ∷ 108 ∷ 95 ∷ 115 ∷ 121 ∷ 109 ∷ 116 ∷ 97 ∷ 98 ∷ 0 ∷ 46 ∷ 103 ∷ 110 ∷ 117 ∷ 95 ∷ 105 ∷ 110 ∷ 99 ∷ 114 ∷ 101 ∷ [])
    ++ (109 ∷ 101 ∷ 110 ∷ 116 ∷ 97 ∷ 108 ∷ 95 ∷ 114 ∷ 101 ∷ 108 ∷ 111 ∷ 99 ∷ 115 ∷ 0 ∷ 46 ∷ 103 ∷ 110 ∷ 117 ∷ 95 ∷ 105 ∷ 110 ∷ 99 ∷ 114 ∷ 101 ∷ 109 ∷ 101 ∷ 110 ∷ 116 ∷ 97 ∷ 108 ∷ 95 ∷ 103 ∷ [])
    ++ (111 ∷ 116 ∷ 95 ∷ 112 ∷ 108 ∷ 116 ∷ 0 ∷ 46 ∷ 103 ∷ 110 ∷ 117 ∷ 95 ∷ 105 ∷ 110 ∷ 99 ∷ 114 ∷ 101 ∷ 109 ∷ 101 ∷ 110 ∷ 116 ∷ 97 ∷ 108 ∷ 95 ∷ 115 ∷ 116 ∷ 114 ∷ 116 ∷ 97 ∷ 98 ∷ 0 ∷ 46 ∷ [])
    ++ (115 ∷ 104 ∷ 115 ∷ 116 ∷ 114 ∷ 116 ∷ 97 ∷ 98 ∷ 0 ∷ 0 ∷ 0 ∷ 0 ∷ 0 ∷ 0 ∷ 0 ∷ 1 ∷ 0 ∷ 0 ∷ 0 ∷ 0 ∷ 0 ∷ 0 ∷ 0 ∷ 1 ∷ 0 ∷ 0 ∷ 0 ∷ 0 ∷ 0 ∷ 0 ∷ 0 ∷ 0 ∷ [])
    ++ (0 ∷ 0 ∷ 0 ∷ 10 ∷ 0 ∷ 0 ∷ 0 ∷ 0 ∷ 0 ∷ 0 ∷ 0 ∷ 1 ∷ 0 ∷ 0 ∷ 0 ∷ 8 ∷ 0 ∷ 0 ∷ 0 ∷ 1 ∷ 0 ∷ 0 ∷ 0 ∷ 0 ∷ 16 ∷ 64 ∷ 0 ∷ 0 ∷ 0 ∷ 0 ∷ 0 ∷ 0 ∷ [])
    ++ (16 ∷ 0 ∷ 0 ∷ 0 ∷ 0 ∷ 0 ∷ 0 ∷ 64 ∷ 0 ∷ 0 ∷ 0 ∷ 0 ∷ 0 ∷ 0 ∷ 0 ∷ 64 ∷ 0 ∷ 0 ∷ 0 ∷ 0 ∷ 0 ∷ 0 ∷ 0 ∷ 16 ∷ [])
    ++ zeros 24
    ++ (95 ∷ 115 ∷ 116 ∷ 97 ∷ 114 ∷ 116 ∷ 0 ∷ 46 ∷ 116 ∷ 101 ∷ 120 ∷ 116 ∷ [])
    ++ zeros 3259
    ++ (76 ∷ 75 ∷ 83 ∷ 69 ∷ 65 ∷ 76 ∷ 48 ∷ 49 ∷ 204 ∷ 204 ∷ 204 ∷ 204 ∷ 204 ∷ 204 ∷ 204 ∷ 204 ∷ 204 ∷ 204 ∷ 204 ∷ 204 ∷ 204 ∷ 204 ∷ 204 ∷ 204 ∷ 204 ∷ 204 ∷ 204 ∷ 204 ∷ 204 ∷ 204 ∷ 204 ∷ 204 ∷ [])
    ++ (204 ∷ 204 ∷ 204 ∷ 204 ∷ 204 ∷ 204 ∷ 204 ∷ 204 ∷ 204 ∷ 204 ∷ 204 ∷ 204 ∷ 204 ∷ 204 ∷ 204 ∷ 204 ∷ 204 ∷ 204 ∷ 204 ∷ 204 ∷ 204 ∷ 204 ∷ 204 ∷ 204 ∷ 204 ∷ 204 ∷ 204 ∷ 204 ∷ 204 ∷ 204 ∷ 204 ∷ 204 ∷ [])
    ++ (204 ∷ 204 ∷ 204 ∷ 204 ∷ 204 ∷ 204 ∷ 204 ∷ 204 ∷ [])

abbrev compact_records : Records
compact_records = record {
  version = 1;
  options = record { entry = codes "_start"; interp = []; runpath = []; patch = 10; export_dynamic = false; dynamic = false };
  inputs = [];
  names = [];
  references = [];
  placement = record {
    sections = section_row (codes ".text") X 0x401000 0x1000 64 64 16 ∷ [];
    pieces = [];
    slots = record { got = []; plt = [] };
  };
}

-- a file with other bytes at a place
abbrev changed : ℕ → List ℕ → List ℕ → List ℕ
changed at new bytes = take at bytes ++ new ++ drop (at + length new) bytes

-- it is a base too
compact_is_base : base_found (Some image) ≡ Ok compact_records
unfolding base_found
compact_is_base = refl

-- no file, a file of 4,096 bytes, one of 4,097, and one whose seal is not there
bases :
    (base_found (None) ≡ Err NoBase)
    × (base_found (Some (replicate 4096 0)) ≡ Err NoBase)
    × (base_found (Some (replicate 4097 0)) ≡ Err BaseOpen)
    × (base_found (Some (changed 0xff8 (0 ∷ []) image)) ≡ Err BaseOpen)
    × (base_found (Some (take 4096 image)) ≡ Err NoBase)
    × (base_found (Some (take 4097 image)) ≡ Err NotIncremental)
unfolding base_found bytes_of
bases = (refl, refl, refl, refl, refl, refl)

-- a file that is no executable file for this machine, or without a table of sections
no_images :
    (base_found (Some (changed 0x10 (3 ∷ []) image)) ≡ Err NotIncremental)
    × (base_found (Some (changed 0x10 (1 ∷ []) image)) ≡ Err NotIncremental)
    × (base_found (Some (changed 0x12 (3 ∷ []) image)) ≡ Err NotIncremental)
    × (base_found (Some (changed 0x0 (0 ∷ []) image)) ≡ Err NotIncremental)
    × (base_found (Some (changed 0x3a (65 ∷ []) image)) ≡ Err NotIncremental)
    × (base_found (Some (changed 0x3c (0 ∷ []) image)) ≡ Err NotIncremental)
    × (base_found (Some (changed 0x3c (66 ∷ []) image)) ≡ Err NotIncremental)
    × (base_found (Some (changed 0x3e (6 ∷ []) image)) ≡ Err NotIncremental)
    × (base_found (Some (changed 0x3e (0 ∷ []) image)) ≡ Err NotIncremental)
unfolding base_found bytes_of
no_images = (refl, refl, refl, refl, refl, refl, refl, refl, refl)

-- a section whose bytes do not fit, zeros aside; one with a bad name; a record section that is
-- not there, that is there twice, or that has another type
bad_sections :
    (base_found (Some (changed 0xa0 (bytes_of 8 65) image)) ≡ Err NotIncremental)
    × (base_found (Some (changed 0xa0 (bytes_of 8 9223372036854775808) (changed 0x84 (bytes_of 4 8) image))) ≡ Ok compact_records)
    × (base_found (Some (changed 0xa0 (bytes_of 8 9223372036854775808) (changed 0x84 (bytes_of 4 0) image))) ≡ Ok compact_records)
    × (base_found (Some (changed 0x80 (bytes_of 4 138) image)) ≡ Err NotIncremental)
    × (base_found (Some (changed 0x140 (bytes_of 4 128) image)) ≡ Err NotIncremental)
    × (base_found (Some (changed 0x140 (bytes_of 4 56) image)) ≡ Err NotIncremental)
    × (base_found (Some (changed 0x80 (bytes_of 4 55) image)) ≡ Err NotIncremental)
    × (base_found (Some (changed 0x144 (bytes_of 4 7) image)) ≡ Err NotIncremental)
    × (base_found (Some (changed 0x144 (bytes_of 4 8) image)) ≡ Err NotIncremental)
unfolding base_found bytes_of
bad_sections = (refl, refl, refl, refl, refl, refl, refl, refl, refl)

-- another version, also where the records are bad beyond it; bad records; no room for a version
other_records :
    (base_found (Some (changed 0x2d0 (bytes_of 4 9) image)) ≡ Err (OtherVersion 9))
    × (base_found (Some (changed 0x2d8 (bytes_of 4 99) (changed 0x2d0 (bytes_of 4 0) image))) ≡ Err (OtherVersion 0))
    × (base_found (Some (changed 0xe0 (bytes_of 8 4) (changed 0x2d0 (bytes_of 4 9) image))) ≡ Err (OtherVersion 9))
    × (base_found (Some (changed 0xe0 (bytes_of 8 3) (changed 0x2d0 (bytes_of 4 9) image))) ≡ Err NotIncremental)
    × (base_found (Some (changed 0x10 (3 ∷ []) (changed 0x2d0 (bytes_of 4 9) image))) ≡ Err NotIncremental)
    × (base_found (Some (changed 0x2d8 (bytes_of 4 99) image)) ≡ Err NotIncremental)
unfolding base_found bytes_of
other_records = (refl, refl, refl, refl, refl, refl)

-- a room of 64 bytes that ends after the file; one that ends with it; the version comes first
rooms :
    (base_found (Some (changed 0x300 (bytes_of 8 4097) image)) ≡ Err NotIncremental)
    × (base_found (Some (changed 0x300 (bytes_of 8 4096) image)) ≡ Ok compact_records)
    × (base_found (Some (changed 0x300 (bytes_of 8 4097) (changed 0x2d0 (bytes_of 4 9) image))) ≡ Err (OtherVersion 9))
unfolding base_found bytes_of
rooms = (refl, refl, refl)
