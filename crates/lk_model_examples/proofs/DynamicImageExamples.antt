-- A dynamic link of two objects of an assembler with a shared object of a linker, words and files to
-- the image: the program calls a function of the shared object through the procedure linkage table and
-- through the global offset table, and reads a variable of it, which is copied. (These bytes were also
-- put into a file and run under a dynamic linker: the program ends with 42, as it should.)
use Rattle.std.specs.Prelude.{◌≡◌, ℕ, List, [], ◌∷◌, ◌++◌, Option, Some, None, replicate, codes, refl, if◌then◌else◌}
use Rattle.std.specs.Str.{bytes_eq}
use Rattle.lk_report.specs.FileMap.{FileMap}
use Rattle.lk_model_examples.proofs.Computed.{answered_of, dynamic_fixes_of, dynamic_symbols_of, needed_of, refusal_of, whole_linked_of}

abbrev zeros : ℕ → List ℕ
zeros n = replicate n 0

unfoldable pub tiny_main_bytes : List ℕ
tiny_main_bytes =
    (127 ∷ 69 ∷ 76 ∷ 70 ∷ 2 ∷ 1 ∷ 1 ∷ [])
    ++ zeros 9
    ++ (1 ∷ 0 ∷ 62 ∷ 0 ∷ 1 ∷ [])
    ++ zeros 19
    ++ (216 ∷ 1 ∷ [])
    ++ zeros 10
    ++ (64 ∷ 0 ∷ 0 ∷ 0 ∷ 0 ∷ 0 ∷ 64 ∷ 0 ∷ 9 ∷ 0 ∷ 8 ∷ 0 ∷ 72 ∷ 139 ∷ 61 ∷ 0 ∷ 0 ∷ 0 ∷ 0 ∷ 232 ∷ 0 ∷ 0 ∷ 0 ∷ 0 ∷ 137 ∷ 199 ∷ 72 ∷ 139 ∷ 5 ∷ 0 ∷ 0 ∷ 0 ∷ [])
    ++ (0 ∷ 255 ∷ 208 ∷ 137 ∷ 199 ∷ 232 ∷ [])
    ++ zeros 30
    ++ (1 ∷ 0 ∷ 0 ∷ 0 ∷ 18 ∷ 0 ∷ 1 ∷ [])
    ++ zeros 9
    ++ (30 ∷ 0 ∷ 0 ∷ 0 ∷ 0 ∷ 0 ∷ 0 ∷ 0 ∷ 8 ∷ 0 ∷ 0 ∷ 0 ∷ 16 ∷ [])
    ++ zeros 19
    ++ (19 ∷ 0 ∷ 0 ∷ 0 ∷ 16 ∷ [])
    ++ zeros 19
    ++ (28 ∷ 0 ∷ 0 ∷ 0 ∷ 16 ∷ [])
    ++ zeros 19
    ++ (50 ∷ 0 ∷ 0 ∷ 0 ∷ 16 ∷ [])
    ++ zeros 20
    ++ (95 ∷ 115 ∷ 116 ∷ 97 ∷ 114 ∷ 116 ∷ 0 ∷ 116 ∷ 105 ∷ 110 ∷ 121 ∷ 95 ∷ 118 ∷ 97 ∷ 108 ∷ 117 ∷ 101 ∷ 0 ∷ 116 ∷ 105 ∷ 110 ∷ 121 ∷ 95 ∷ 97 ∷ 100 ∷ 100 ∷ 0 ∷ 95 ∷ 71 ∷ 76 ∷ 79 ∷ 66 ∷ [])
    ++ (65 ∷ 76 ∷ 95 ∷ 79 ∷ 70 ∷ 70 ∷ 83 ∷ 69 ∷ 84 ∷ 95 ∷ 84 ∷ 65 ∷ 66 ∷ 76 ∷ 69 ∷ 95 ∷ 0 ∷ 102 ∷ 105 ∷ 110 ∷ 105 ∷ 115 ∷ 104 ∷ 0 ∷ 0 ∷ 0 ∷ 0 ∷ 0 ∷ 0 ∷ 0 ∷ 0 ∷ 3 ∷ [])
    ++ (0 ∷ 0 ∷ 0 ∷ 0 ∷ 0 ∷ 0 ∷ 0 ∷ 2 ∷ 0 ∷ 0 ∷ 0 ∷ 2 ∷ 0 ∷ 0 ∷ 0 ∷ 252 ∷ 255 ∷ 255 ∷ 255 ∷ 255 ∷ 255 ∷ 255 ∷ 255 ∷ 8 ∷ 0 ∷ 0 ∷ 0 ∷ 0 ∷ 0 ∷ 0 ∷ 0 ∷ 4 ∷ [])
    ++ (0 ∷ 0 ∷ 0 ∷ 3 ∷ 0 ∷ 0 ∷ 0 ∷ 252 ∷ 255 ∷ 255 ∷ 255 ∷ 255 ∷ 255 ∷ 255 ∷ 255 ∷ 17 ∷ 0 ∷ 0 ∷ 0 ∷ 0 ∷ 0 ∷ 0 ∷ 0 ∷ 9 ∷ 0 ∷ 0 ∷ 0 ∷ 3 ∷ 0 ∷ 0 ∷ 0 ∷ 252 ∷ [])
    ++ (255 ∷ 255 ∷ 255 ∷ 255 ∷ 255 ∷ 255 ∷ 255 ∷ 26 ∷ 0 ∷ 0 ∷ 0 ∷ 0 ∷ 0 ∷ 0 ∷ 0 ∷ 4 ∷ 0 ∷ 0 ∷ 0 ∷ 5 ∷ 0 ∷ 0 ∷ 0 ∷ 252 ∷ 255 ∷ 255 ∷ 255 ∷ 255 ∷ 255 ∷ 255 ∷ 255 ∷ 0 ∷ [])
    ++ (46 ∷ 115 ∷ 121 ∷ 109 ∷ 116 ∷ 97 ∷ 98 ∷ 0 ∷ 46 ∷ 115 ∷ 116 ∷ 114 ∷ 116 ∷ 97 ∷ 98 ∷ 0 ∷ 46 ∷ 115 ∷ 104 ∷ 115 ∷ 116 ∷ 114 ∷ 116 ∷ 97 ∷ 98 ∷ 0 ∷ 46 ∷ 114 ∷ 101 ∷ 108 ∷ 97 ∷ 46 ∷ [])
    ++ (116 ∷ 101 ∷ 120 ∷ 116 ∷ 0 ∷ 46 ∷ 100 ∷ 97 ∷ 116 ∷ 97 ∷ 0 ∷ 46 ∷ 98 ∷ 115 ∷ 115 ∷ 0 ∷ 46 ∷ 110 ∷ 111 ∷ 116 ∷ 101 ∷ 46 ∷ 71 ∷ 78 ∷ 85 ∷ 45 ∷ 115 ∷ 116 ∷ 97 ∷ 99 ∷ 107 ∷ [])
    ++ zeros 72
    ++ (32 ∷ 0 ∷ 0 ∷ 0 ∷ 1 ∷ 0 ∷ 0 ∷ 0 ∷ 6 ∷ [])
    ++ zeros 15
    ++ (64 ∷ 0 ∷ 0 ∷ 0 ∷ 0 ∷ 0 ∷ 0 ∷ 0 ∷ 30 ∷ [])
    ++ zeros 15
    ++ (1 ∷ [])
    ++ zeros 15
    ++ (27 ∷ 0 ∷ 0 ∷ 0 ∷ 4 ∷ 0 ∷ 0 ∷ 0 ∷ 64 ∷ [])
    ++ zeros 15
    ++ (48 ∷ 1 ∷ 0 ∷ 0 ∷ 0 ∷ 0 ∷ 0 ∷ 0 ∷ 96 ∷ 0 ∷ 0 ∷ 0 ∷ 0 ∷ 0 ∷ 0 ∷ 0 ∷ 6 ∷ 0 ∷ 0 ∷ 0 ∷ 1 ∷ 0 ∷ 0 ∷ 0 ∷ 8 ∷ 0 ∷ 0 ∷ 0 ∷ 0 ∷ 0 ∷ 0 ∷ 0 ∷ [])
    ++ (24 ∷ 0 ∷ 0 ∷ 0 ∷ 0 ∷ 0 ∷ 0 ∷ 0 ∷ 38 ∷ 0 ∷ 0 ∷ 0 ∷ 1 ∷ 0 ∷ 0 ∷ 0 ∷ 3 ∷ [])
    ++ zeros 15
    ++ (94 ∷ [])
    ++ zeros 23
    ++ (1 ∷ [])
    ++ zeros 15
    ++ (44 ∷ 0 ∷ 0 ∷ 0 ∷ 8 ∷ 0 ∷ 0 ∷ 0 ∷ 3 ∷ [])
    ++ zeros 15
    ++ (94 ∷ [])
    ++ zeros 23
    ++ (1 ∷ [])
    ++ zeros 15
    ++ (49 ∷ 0 ∷ 0 ∷ 0 ∷ 1 ∷ [])
    ++ zeros 19
    ++ (94 ∷ [])
    ++ zeros 23
    ++ (1 ∷ [])
    ++ zeros 15
    ++ (1 ∷ 0 ∷ 0 ∷ 0 ∷ 2 ∷ [])
    ++ zeros 19
    ++ (96 ∷ 0 ∷ 0 ∷ 0 ∷ 0 ∷ 0 ∷ 0 ∷ 0 ∷ 144 ∷ 0 ∷ 0 ∷ 0 ∷ 0 ∷ 0 ∷ 0 ∷ 0 ∷ 7 ∷ 0 ∷ 0 ∷ 0 ∷ 1 ∷ 0 ∷ 0 ∷ 0 ∷ 8 ∷ 0 ∷ 0 ∷ 0 ∷ 0 ∷ 0 ∷ 0 ∷ 0 ∷ [])
    ++ (24 ∷ 0 ∷ 0 ∷ 0 ∷ 0 ∷ 0 ∷ 0 ∷ 0 ∷ 9 ∷ 0 ∷ 0 ∷ 0 ∷ 3 ∷ [])
    ++ zeros 19
    ++ (240 ∷ 0 ∷ 0 ∷ 0 ∷ 0 ∷ 0 ∷ 0 ∷ 0 ∷ 57 ∷ [])
    ++ zeros 15
    ++ (1 ∷ [])
    ++ zeros 15
    ++ (17 ∷ 0 ∷ 0 ∷ 0 ∷ 3 ∷ [])
    ++ zeros 19
    ++ (144 ∷ 1 ∷ 0 ∷ 0 ∷ 0 ∷ 0 ∷ 0 ∷ 0 ∷ 65 ∷ [])
    ++ zeros 15
    ++ (1 ∷ [])
    ++ zeros 15

unfoldable pub tiny_util_bytes : List ℕ
tiny_util_bytes =
    (127 ∷ 69 ∷ 76 ∷ 70 ∷ 2 ∷ 1 ∷ 1 ∷ [])
    ++ zeros 9
    ++ (1 ∷ 0 ∷ 62 ∷ 0 ∷ 1 ∷ [])
    ++ zeros 19
    ++ (8 ∷ 1 ∷ [])
    ++ zeros 10
    ++ (64 ∷ 0 ∷ 0 ∷ 0 ∷ 0 ∷ 0 ∷ 64 ∷ 0 ∷ 9 ∷ 0 ∷ 8 ∷ 0 ∷ 232 ∷ 0 ∷ 0 ∷ 0 ∷ 0 ∷ 244 ∷ [])
    ++ zeros 26
    ++ (1 ∷ 0 ∷ 0 ∷ 0 ∷ 18 ∷ 0 ∷ 1 ∷ [])
    ++ zeros 9
    ++ (6 ∷ 0 ∷ 0 ∷ 0 ∷ 0 ∷ 0 ∷ 0 ∷ 0 ∷ 8 ∷ 0 ∷ 0 ∷ 0 ∷ 16 ∷ [])
    ++ zeros 20
    ++ (102 ∷ 105 ∷ 110 ∷ 105 ∷ 115 ∷ 104 ∷ 0 ∷ 116 ∷ 105 ∷ 110 ∷ 121 ∷ 95 ∷ 101 ∷ 120 ∷ 105 ∷ 116 ∷ 0 ∷ 0 ∷ 0 ∷ 0 ∷ 0 ∷ 0 ∷ 0 ∷ 1 ∷ 0 ∷ 0 ∷ 0 ∷ 0 ∷ 0 ∷ 0 ∷ 0 ∷ 4 ∷ [])
    ++ (0 ∷ 0 ∷ 0 ∷ 2 ∷ 0 ∷ 0 ∷ 0 ∷ 252 ∷ 255 ∷ 255 ∷ 255 ∷ 255 ∷ 255 ∷ 255 ∷ 255 ∷ 0 ∷ 46 ∷ 115 ∷ 121 ∷ 109 ∷ 116 ∷ 97 ∷ 98 ∷ 0 ∷ 46 ∷ 115 ∷ 116 ∷ 114 ∷ 116 ∷ 97 ∷ 98 ∷ 0 ∷ [])
    ++ (46 ∷ 115 ∷ 104 ∷ 115 ∷ 116 ∷ 114 ∷ 116 ∷ 97 ∷ 98 ∷ 0 ∷ 46 ∷ 114 ∷ 101 ∷ 108 ∷ 97 ∷ 46 ∷ 116 ∷ 101 ∷ 120 ∷ 116 ∷ 0 ∷ 46 ∷ 100 ∷ 97 ∷ 116 ∷ 97 ∷ 0 ∷ 46 ∷ 98 ∷ 115 ∷ 115 ∷ 0 ∷ [])
    ++ (46 ∷ 110 ∷ 111 ∷ 116 ∷ 101 ∷ 46 ∷ 71 ∷ 78 ∷ 85 ∷ 45 ∷ 115 ∷ 116 ∷ 97 ∷ 99 ∷ 107 ∷ [])
    ++ zeros 72
    ++ (32 ∷ 0 ∷ 0 ∷ 0 ∷ 1 ∷ 0 ∷ 0 ∷ 0 ∷ 6 ∷ [])
    ++ zeros 15
    ++ (64 ∷ 0 ∷ 0 ∷ 0 ∷ 0 ∷ 0 ∷ 0 ∷ 0 ∷ 6 ∷ [])
    ++ zeros 15
    ++ (1 ∷ [])
    ++ zeros 15
    ++ (27 ∷ 0 ∷ 0 ∷ 0 ∷ 4 ∷ 0 ∷ 0 ∷ 0 ∷ 64 ∷ [])
    ++ zeros 15
    ++ (168 ∷ 0 ∷ 0 ∷ 0 ∷ 0 ∷ 0 ∷ 0 ∷ 0 ∷ 24 ∷ 0 ∷ 0 ∷ 0 ∷ 0 ∷ 0 ∷ 0 ∷ 0 ∷ 6 ∷ 0 ∷ 0 ∷ 0 ∷ 1 ∷ 0 ∷ 0 ∷ 0 ∷ 8 ∷ 0 ∷ 0 ∷ 0 ∷ 0 ∷ 0 ∷ 0 ∷ 0 ∷ [])
    ++ (24 ∷ 0 ∷ 0 ∷ 0 ∷ 0 ∷ 0 ∷ 0 ∷ 0 ∷ 38 ∷ 0 ∷ 0 ∷ 0 ∷ 1 ∷ 0 ∷ 0 ∷ 0 ∷ 3 ∷ [])
    ++ zeros 15
    ++ (70 ∷ [])
    ++ zeros 23
    ++ (1 ∷ [])
    ++ zeros 15
    ++ (44 ∷ 0 ∷ 0 ∷ 0 ∷ 8 ∷ 0 ∷ 0 ∷ 0 ∷ 3 ∷ [])
    ++ zeros 15
    ++ (70 ∷ [])
    ++ zeros 23
    ++ (1 ∷ [])
    ++ zeros 15
    ++ (49 ∷ 0 ∷ 0 ∷ 0 ∷ 1 ∷ [])
    ++ zeros 19
    ++ (70 ∷ [])
    ++ zeros 23
    ++ (1 ∷ [])
    ++ zeros 15
    ++ (1 ∷ 0 ∷ 0 ∷ 0 ∷ 2 ∷ [])
    ++ zeros 19
    ++ (72 ∷ 0 ∷ 0 ∷ 0 ∷ 0 ∷ 0 ∷ 0 ∷ 0 ∷ 72 ∷ 0 ∷ 0 ∷ 0 ∷ 0 ∷ 0 ∷ 0 ∷ 0 ∷ 7 ∷ 0 ∷ 0 ∷ 0 ∷ 1 ∷ 0 ∷ 0 ∷ 0 ∷ 8 ∷ 0 ∷ 0 ∷ 0 ∷ 0 ∷ 0 ∷ 0 ∷ 0 ∷ [])
    ++ (24 ∷ 0 ∷ 0 ∷ 0 ∷ 0 ∷ 0 ∷ 0 ∷ 0 ∷ 9 ∷ 0 ∷ 0 ∷ 0 ∷ 3 ∷ [])
    ++ zeros 19
    ++ (144 ∷ 0 ∷ 0 ∷ 0 ∷ 0 ∷ 0 ∷ 0 ∷ 0 ∷ 18 ∷ [])
    ++ zeros 15
    ++ (1 ∷ [])
    ++ zeros 15
    ++ (17 ∷ 0 ∷ 0 ∷ 0 ∷ 3 ∷ [])
    ++ zeros 19
    ++ (192 ∷ 0 ∷ 0 ∷ 0 ∷ 0 ∷ 0 ∷ 0 ∷ 0 ∷ 65 ∷ [])
    ++ zeros 15
    ++ (1 ∷ [])
    ++ zeros 15

unfoldable pub tiny_tiny_bytes : List ℕ
tiny_tiny_bytes =
    (127 ∷ 69 ∷ 76 ∷ 70 ∷ 2 ∷ 1 ∷ 1 ∷ [])
    ++ zeros 9
    ++ (3 ∷ 0 ∷ 62 ∷ 0 ∷ 1 ∷ [])
    ++ zeros 11
    ++ (64 ∷ 0 ∷ 0 ∷ 0 ∷ 0 ∷ 0 ∷ 0 ∷ 0 ∷ 176 ∷ 2 ∷ [])
    ++ zeros 10
    ++ (64 ∷ 0 ∷ 56 ∷ 0 ∷ 3 ∷ 0 ∷ 64 ∷ 0 ∷ 9 ∷ 0 ∷ 8 ∷ 0 ∷ 1 ∷ 0 ∷ 0 ∷ 0 ∷ 5 ∷ [])
    ++ zeros 27
    ++ (168 ∷ 1 ∷ 0 ∷ 0 ∷ 0 ∷ 0 ∷ 0 ∷ 0 ∷ 168 ∷ 1 ∷ 0 ∷ 0 ∷ 0 ∷ 0 ∷ 0 ∷ 0 ∷ 0 ∷ 16 ∷ 0 ∷ 0 ∷ 0 ∷ 0 ∷ 0 ∷ 0 ∷ 1 ∷ 0 ∷ 0 ∷ 0 ∷ 6 ∷ 0 ∷ 0 ∷ 0 ∷ [])
    ++ (168 ∷ 1 ∷ 0 ∷ 0 ∷ 0 ∷ 0 ∷ 0 ∷ 0 ∷ 168 ∷ 17 ∷ 0 ∷ 0 ∷ 0 ∷ 0 ∷ 0 ∷ 0 ∷ 168 ∷ 17 ∷ 0 ∷ 0 ∷ 0 ∷ 0 ∷ 0 ∷ 0 ∷ 200 ∷ 0 ∷ 0 ∷ 0 ∷ 0 ∷ 0 ∷ 0 ∷ 0 ∷ [])
    ++ (200 ∷ 0 ∷ 0 ∷ 0 ∷ 0 ∷ 0 ∷ 0 ∷ 0 ∷ 0 ∷ 16 ∷ 0 ∷ 0 ∷ 0 ∷ 0 ∷ 0 ∷ 0 ∷ 2 ∷ 0 ∷ 0 ∷ 0 ∷ 6 ∷ 0 ∷ 0 ∷ 0 ∷ 168 ∷ 1 ∷ 0 ∷ 0 ∷ 0 ∷ 0 ∷ 0 ∷ 0 ∷ [])
    ++ (168 ∷ 17 ∷ 0 ∷ 0 ∷ 0 ∷ 0 ∷ 0 ∷ 0 ∷ 168 ∷ 17 ∷ 0 ∷ 0 ∷ 0 ∷ 0 ∷ 0 ∷ 0 ∷ 192 ∷ 0 ∷ 0 ∷ 0 ∷ 0 ∷ 0 ∷ 0 ∷ 0 ∷ 192 ∷ 0 ∷ 0 ∷ 0 ∷ 0 ∷ 0 ∷ 0 ∷ 0 ∷ [])
    ++ (8 ∷ 0 ∷ 0 ∷ 0 ∷ 0 ∷ 0 ∷ 0 ∷ 0 ∷ 3 ∷ 0 ∷ 0 ∷ 0 ∷ 4 ∷ 0 ∷ 0 ∷ 0 ∷ 1 ∷ 0 ∷ 0 ∷ 0 ∷ 3 ∷ [])
    ++ zeros 19
    ++ (2 ∷ [])
    ++ zeros 31
    ++ (1 ∷ 0 ∷ 0 ∷ 0 ∷ 18 ∷ 0 ∷ 4 ∷ 0 ∷ 154 ∷ 1 ∷ 0 ∷ 0 ∷ 0 ∷ 0 ∷ 0 ∷ 0 ∷ 4 ∷ 0 ∷ 0 ∷ 0 ∷ 0 ∷ 0 ∷ 0 ∷ 0 ∷ 20 ∷ 0 ∷ 0 ∷ 0 ∷ 17 ∷ 0 ∷ 7 ∷ 0 ∷ [])
    ++ (104 ∷ 18 ∷ 0 ∷ 0 ∷ 0 ∷ 0 ∷ 0 ∷ 0 ∷ 8 ∷ 0 ∷ 0 ∷ 0 ∷ 0 ∷ 0 ∷ 0 ∷ 0 ∷ 10 ∷ 0 ∷ 0 ∷ 0 ∷ 18 ∷ 0 ∷ 4 ∷ 0 ∷ 158 ∷ 1 ∷ 0 ∷ 0 ∷ 0 ∷ 0 ∷ 0 ∷ 0 ∷ [])
    ++ (7 ∷ 0 ∷ 0 ∷ 0 ∷ 0 ∷ 0 ∷ 0 ∷ 0 ∷ 0 ∷ 116 ∷ 105 ∷ 110 ∷ 121 ∷ 95 ∷ 97 ∷ 100 ∷ 100 ∷ 0 ∷ 116 ∷ 105 ∷ 110 ∷ 121 ∷ 95 ∷ 101 ∷ 120 ∷ 105 ∷ 116 ∷ 0 ∷ 116 ∷ 105 ∷ 110 ∷ 121 ∷ [])
    ++ (95 ∷ 118 ∷ 97 ∷ 108 ∷ 117 ∷ 101 ∷ 0 ∷ 108 ∷ 105 ∷ 98 ∷ 116 ∷ 105 ∷ 110 ∷ 121 ∷ 46 ∷ 115 ∷ 111 ∷ 0 ∷ 141 ∷ 71 ∷ 1 ∷ 195 ∷ 184 ∷ 60 ∷ 0 ∷ 0 ∷ 0 ∷ 15 ∷ 5 ∷ 0 ∷ 0 ∷ 0 ∷ [])
    ++ (14 ∷ 0 ∷ 0 ∷ 0 ∷ 0 ∷ 0 ∷ 0 ∷ 0 ∷ 31 ∷ 0 ∷ 0 ∷ 0 ∷ 0 ∷ 0 ∷ 0 ∷ 0 ∷ 4 ∷ 0 ∷ 0 ∷ 0 ∷ 0 ∷ 0 ∷ 0 ∷ 0 ∷ 232 ∷ 0 ∷ 0 ∷ 0 ∷ 0 ∷ 0 ∷ 0 ∷ 0 ∷ [])
    ++ (5 ∷ 0 ∷ 0 ∷ 0 ∷ 0 ∷ 0 ∷ 0 ∷ 0 ∷ 112 ∷ 1 ∷ 0 ∷ 0 ∷ 0 ∷ 0 ∷ 0 ∷ 0 ∷ 6 ∷ 0 ∷ 0 ∷ 0 ∷ 0 ∷ 0 ∷ 0 ∷ 0 ∷ 16 ∷ 1 ∷ 0 ∷ 0 ∷ 0 ∷ 0 ∷ 0 ∷ 0 ∷ [])
    ++ (10 ∷ 0 ∷ 0 ∷ 0 ∷ 0 ∷ 0 ∷ 0 ∷ 0 ∷ 42 ∷ 0 ∷ 0 ∷ 0 ∷ 0 ∷ 0 ∷ 0 ∷ 0 ∷ 11 ∷ 0 ∷ 0 ∷ 0 ∷ 0 ∷ 0 ∷ 0 ∷ 0 ∷ 24 ∷ [])
    ++ zeros 103
    ++ (40 ∷ 0 ∷ 0 ∷ 0 ∷ 0 ∷ 0 ∷ 0 ∷ 0 ∷ 0 ∷ 46 ∷ 115 ∷ 104 ∷ 115 ∷ 116 ∷ 114 ∷ 116 ∷ 97 ∷ 98 ∷ 0 ∷ 46 ∷ 104 ∷ 97 ∷ 115 ∷ 104 ∷ 0 ∷ 46 ∷ 100 ∷ 121 ∷ 110 ∷ 115 ∷ 121 ∷ 109 ∷ [])
    ++ (0 ∷ 46 ∷ 100 ∷ 121 ∷ 110 ∷ 115 ∷ 116 ∷ 114 ∷ 0 ∷ 46 ∷ 116 ∷ 101 ∷ 120 ∷ 116 ∷ 0 ∷ 46 ∷ 101 ∷ 104 ∷ 95 ∷ 102 ∷ 114 ∷ 97 ∷ 109 ∷ 101 ∷ 0 ∷ 46 ∷ 100 ∷ 121 ∷ 110 ∷ 97 ∷ 109 ∷ 105 ∷ [])
    ++ (99 ∷ 0 ∷ 46 ∷ 100 ∷ 97 ∷ 116 ∷ 97 ∷ [])
    ++ zeros 65
    ++ (11 ∷ 0 ∷ 0 ∷ 0 ∷ 5 ∷ 0 ∷ 0 ∷ 0 ∷ 2 ∷ 0 ∷ 0 ∷ 0 ∷ 0 ∷ 0 ∷ 0 ∷ 0 ∷ 232 ∷ 0 ∷ 0 ∷ 0 ∷ 0 ∷ 0 ∷ 0 ∷ 0 ∷ 232 ∷ 0 ∷ 0 ∷ 0 ∷ 0 ∷ 0 ∷ 0 ∷ 0 ∷ [])
    ++ (36 ∷ 0 ∷ 0 ∷ 0 ∷ 0 ∷ 0 ∷ 0 ∷ 0 ∷ 2 ∷ 0 ∷ 0 ∷ 0 ∷ 0 ∷ 0 ∷ 0 ∷ 0 ∷ 8 ∷ 0 ∷ 0 ∷ 0 ∷ 0 ∷ 0 ∷ 0 ∷ 0 ∷ 4 ∷ 0 ∷ 0 ∷ 0 ∷ 0 ∷ 0 ∷ 0 ∷ 0 ∷ [])
    ++ (17 ∷ 0 ∷ 0 ∷ 0 ∷ 11 ∷ 0 ∷ 0 ∷ 0 ∷ 2 ∷ 0 ∷ 0 ∷ 0 ∷ 0 ∷ 0 ∷ 0 ∷ 0 ∷ 16 ∷ 1 ∷ 0 ∷ 0 ∷ 0 ∷ 0 ∷ 0 ∷ 0 ∷ 16 ∷ 1 ∷ 0 ∷ 0 ∷ 0 ∷ 0 ∷ 0 ∷ 0 ∷ [])
    ++ (96 ∷ 0 ∷ 0 ∷ 0 ∷ 0 ∷ 0 ∷ 0 ∷ 0 ∷ 3 ∷ 0 ∷ 0 ∷ 0 ∷ 1 ∷ 0 ∷ 0 ∷ 0 ∷ 8 ∷ 0 ∷ 0 ∷ 0 ∷ 0 ∷ 0 ∷ 0 ∷ 0 ∷ 24 ∷ 0 ∷ 0 ∷ 0 ∷ 0 ∷ 0 ∷ 0 ∷ 0 ∷ [])
    ++ (25 ∷ 0 ∷ 0 ∷ 0 ∷ 3 ∷ 0 ∷ 0 ∷ 0 ∷ 2 ∷ 0 ∷ 0 ∷ 0 ∷ 0 ∷ 0 ∷ 0 ∷ 0 ∷ 112 ∷ 1 ∷ 0 ∷ 0 ∷ 0 ∷ 0 ∷ 0 ∷ 0 ∷ 112 ∷ 1 ∷ 0 ∷ 0 ∷ 0 ∷ 0 ∷ 0 ∷ 0 ∷ [])
    ++ (42 ∷ [])
    ++ zeros 15
    ++ (1 ∷ [])
    ++ zeros 15
    ++ (33 ∷ 0 ∷ 0 ∷ 0 ∷ 1 ∷ 0 ∷ 0 ∷ 0 ∷ 6 ∷ 0 ∷ 0 ∷ 0 ∷ 0 ∷ 0 ∷ 0 ∷ 0 ∷ 154 ∷ 1 ∷ 0 ∷ 0 ∷ 0 ∷ 0 ∷ 0 ∷ 0 ∷ 154 ∷ 1 ∷ 0 ∷ 0 ∷ 0 ∷ 0 ∷ 0 ∷ 0 ∷ [])
    ++ (11 ∷ [])
    ++ zeros 15
    ++ (1 ∷ [])
    ++ zeros 15
    ++ (39 ∷ 0 ∷ 0 ∷ 0 ∷ 1 ∷ 0 ∷ 0 ∷ 0 ∷ 2 ∷ 0 ∷ 0 ∷ 0 ∷ 0 ∷ 0 ∷ 0 ∷ 0 ∷ 168 ∷ 1 ∷ 0 ∷ 0 ∷ 0 ∷ 0 ∷ 0 ∷ 0 ∷ 168 ∷ 1 ∷ [])
    ++ zeros 22
    ++ (8 ∷ [])
    ++ zeros 15
    ++ (49 ∷ 0 ∷ 0 ∷ 0 ∷ 6 ∷ 0 ∷ 0 ∷ 0 ∷ 3 ∷ 0 ∷ 0 ∷ 0 ∷ 0 ∷ 0 ∷ 0 ∷ 0 ∷ 168 ∷ 17 ∷ 0 ∷ 0 ∷ 0 ∷ 0 ∷ 0 ∷ 0 ∷ 168 ∷ 1 ∷ 0 ∷ 0 ∷ 0 ∷ 0 ∷ 0 ∷ 0 ∷ [])
    ++ (192 ∷ 0 ∷ 0 ∷ 0 ∷ 0 ∷ 0 ∷ 0 ∷ 0 ∷ 3 ∷ 0 ∷ 0 ∷ 0 ∷ 0 ∷ 0 ∷ 0 ∷ 0 ∷ 8 ∷ 0 ∷ 0 ∷ 0 ∷ 0 ∷ 0 ∷ 0 ∷ 0 ∷ 16 ∷ 0 ∷ 0 ∷ 0 ∷ 0 ∷ 0 ∷ 0 ∷ 0 ∷ [])
    ++ (58 ∷ 0 ∷ 0 ∷ 0 ∷ 1 ∷ 0 ∷ 0 ∷ 0 ∷ 3 ∷ 0 ∷ 0 ∷ 0 ∷ 0 ∷ 0 ∷ 0 ∷ 0 ∷ 104 ∷ 18 ∷ 0 ∷ 0 ∷ 0 ∷ 0 ∷ 0 ∷ 0 ∷ 104 ∷ 2 ∷ 0 ∷ 0 ∷ 0 ∷ 0 ∷ 0 ∷ 0 ∷ [])
    ++ (8 ∷ [])
    ++ zeros 15
    ++ (8 ∷ [])
    ++ zeros 15
    ++ (1 ∷ 0 ∷ 0 ∷ 0 ∷ 3 ∷ [])
    ++ zeros 19
    ++ (112 ∷ 2 ∷ 0 ∷ 0 ∷ 0 ∷ 0 ∷ 0 ∷ 0 ∷ 64 ∷ [])
    ++ zeros 15
    ++ (1 ∷ [])
    ++ zeros 15

unfoldable pub tiny_files : FileMap
unfolding tiny_main_bytes tiny_util_bytes tiny_tiny_bytes
tiny_files path =
    if bytes_eq path (codes "main.o") then Some (record { bytes = tiny_main_bytes; stamp = None })
    else if bytes_eq path (codes "util.o") then Some (record { bytes = tiny_util_bytes; stamp = None })
    else if bytes_eq path (codes "libtiny.so") then Some (record { bytes = tiny_tiny_bytes; stamp = None })
    else None

unfoldable pub tiny_words : List (List ℕ)
tiny_words = codes "-rpath" ∷ codes "." ∷ codes "main.o" ∷ codes "util.o" ∷ codes "libtiny.so" ∷ []

-- a loader takes the image, needs the shared object, and finds its symbols: the copy at its place in
-- `.bss`, and the function whose address is taken by a slot alone with value 0
tiny_refused : refusal_of (whole_linked_of tiny_words tiny_files) ≡ None
unfolding tiny_words tiny_files tiny_main_bytes tiny_util_bytes tiny_tiny_bytes whole_linked_of refusal_of
tiny_refused = refl

tiny_needed : needed_of (whole_linked_of tiny_words tiny_files) ≡ codes "libtiny.so" ∷ []
unfolding tiny_words tiny_files tiny_main_bytes tiny_util_bytes tiny_tiny_bytes whole_linked_of needed_of
tiny_needed = refl

tiny_symbols : dynamic_symbols_of (whole_linked_of tiny_words tiny_files) ≡
    ([], 0) ∷ (codes "tiny_value", 0x403200) ∷ (codes "tiny_add", 0) ∷ (codes "tiny_exit", 0) ∷ []
unfolding tiny_words tiny_files tiny_main_bytes tiny_util_bytes tiny_tiny_bytes whole_linked_of dynamic_symbols_of
tiny_symbols = refl

-- GLOB_DAT for its slot, COPY, and a JUMP_SLOT for each entry
tiny_fixes : dynamic_fixes_of (whole_linked_of tiny_words tiny_files) ≡
    (0x200000006, 0x403140) ∷ (0x100000005, 0x403200) ∷ (0x200000007, 0x403198) ∷ (0x300000007, 0x4031a0) ∷ []
unfolding tiny_words tiny_files tiny_main_bytes tiny_util_bytes tiny_tiny_bytes whole_linked_of dynamic_fixes_of
tiny_fixes = refl

-- an update of it, in which nothing changed though no stamp is known
tiny_updated : answered_of (codes "--incremental-update" ∷ tiny_words) tiny_files (Some (whole_linked_of tiny_words tiny_files)) ≡ codes "updated" ++ 10 ∷ []
unfolding tiny_words tiny_files tiny_main_bytes tiny_util_bytes tiny_tiny_bytes whole_linked_of answered_of
tiny_updated = refl
