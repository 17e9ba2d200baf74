-- Worked examples: the answers of links in all three modes, over objects and the records of an earlier
-- link of them, and the paths that an update reads. What is expected follows from the rules by hand.
use Rattle.std.specs.Prelude.{◌≡◌, refl, ℕ, pos, List, [], ◌∷◌, ◌++◌, replicate, codes, Option, Some, None, Result, Err, false, if◌then◌else◌}
use Rattle.std.specs.Str.{bytes_eq}
use Rattle.lk_report.specs.FileMap.{FileMap, FileRow}
use Rattle.lk_report.specs.declared.causes.Cause.{Cause}
use Rattle.lk_report.specs.declared.causes.Cause.TheVariants as cause
use Rattle.lk_report.specs.declared.causes.OptionRecord.{OptionRecord}
use Rattle.lk_report.specs.declared.faults.Fault.TheVariants as fault
use Rattle.lk_report.specs.declared.faults.InputFault.TheVariants as input_fault
use Rattle.lk_report.specs.declared.faults.UsageFault.TheVariants as usage
use Rattle.lk_report.specs.declared.statuses.Outcome.TheVariants as outcome
use Rattle.lk_report.specs.declared.statuses.Status.{Status}
use Rattle.lk_report.specs.declared.statuses.Status.TheVariants as status
use Rattle.lk_model_examples.proofs.UpdateComputed.{recorded_words, answered, read_reported}
use Rattle.lk_model.specs.declared.records.Records.{Records}

-- ---- files

abbrev zeros : ℕ → List ℕ
zeros n = replicate n 0

-- an object of 16 bytes of code: `_start` at 0, and a reference to `f` at 5, of type 2, with addend -4
start : List ℕ
start =
    (127 ∷ 69 ∷ 76 ∷ 70 ∷ 2 ∷ 1 ∷ 1 ∷ 0 ∷ 0 ∷ 0 ∷ 0 ∷ 0 ∷ 0 ∷ 0 ∷ 0 ∷ 0 ∷ 1 ∷ 0 ∷ 62 ∷ 0 ∷ 1 ∷ [])
    ++ zeros 19
    ++ (232 ∷ 0 ∷ 0 ∷ 0 ∷ 0 ∷ 0 ∷ 0 ∷ 0 ∷ 0 ∷ 0 ∷ 0 ∷ 0 ∷ 64 ∷ 0 ∷ 0 ∷ 0 ∷ 0 ∷ 0 ∷ 64 ∷ 0 ∷ 6 ∷ 0 ∷ 5 ∷ 0 ∷ 144 ∷ 144 ∷ 144 ∷ 144 ∷ [])
    ++ (232 ∷ 144 ∷ 144 ∷ 144 ∷ 144 ∷ 144 ∷ 144 ∷ 144 ∷ 144 ∷ 144 ∷ 144 ∷ 144 ∷ 5 ∷ 0 ∷ 0 ∷ 0 ∷ 0 ∷ 0 ∷ 0 ∷ 0 ∷ 2 ∷ 0 ∷ 0 ∷ 0 ∷ 2 ∷ 0 ∷ 0 ∷ 0 ∷ [])
    ++ (252 ∷ 255 ∷ 255 ∷ 255 ∷ 255 ∷ 255 ∷ 255 ∷ 255 ∷ [])
    ++ zeros 24
    ++ (1 ∷ 0 ∷ 0 ∷ 0 ∷ 18 ∷ 0 ∷ 1 ∷ [])
    ++ zeros 17
    ++ (8 ∷ 0 ∷ 0 ∷ 0 ∷ 16 ∷ [])
    ++ zeros 20
    ++ (95 ∷ 115 ∷ 116 ∷ 97 ∷ 114 ∷ 116 ∷ 0 ∷ 102 ∷ 0 ∷ 0 ∷ 46 ∷ 116 ∷ 101 ∷ 120 ∷ 116 ∷ 0 ∷ 46 ∷ 114 ∷ 101 ∷ 108 ∷ 97 ∷ 46 ∷ 116 ∷ 101 ∷ 120 ∷ 116 ∷ 0 ∷ 46 ∷ [])
    ++ (115 ∷ 121 ∷ 109 ∷ 116 ∷ 97 ∷ 98 ∷ 0 ∷ 46 ∷ 115 ∷ 116 ∷ 114 ∷ 116 ∷ 97 ∷ 98 ∷ 0 ∷ 46 ∷ 115 ∷ 104 ∷ 115 ∷ 116 ∷ 114 ∷ 116 ∷ 97 ∷ 98 ∷ [])
    ++ zeros 67
    ++ (1 ∷ 0 ∷ 0 ∷ 0 ∷ 1 ∷ 0 ∷ 0 ∷ 0 ∷ 6 ∷ [])
    ++ zeros 15
    ++ (64 ∷ 0 ∷ 0 ∷ 0 ∷ 0 ∷ 0 ∷ 0 ∷ 0 ∷ 16 ∷ [])
    ++ zeros 15
    ++ (16 ∷ [])
    ++ zeros 15
    ++ (7 ∷ 0 ∷ 0 ∷ 0 ∷ 4 ∷ 0 ∷ 0 ∷ 0 ∷ 64 ∷ [])
    ++ zeros 15
    ++ (80 ∷ 0 ∷ 0 ∷ 0 ∷ 0 ∷ 0 ∷ 0 ∷ 0 ∷ 24 ∷ 0 ∷ 0 ∷ 0 ∷ 0 ∷ 0 ∷ 0 ∷ 0 ∷ 3 ∷ 0 ∷ 0 ∷ 0 ∷ 1 ∷ 0 ∷ 0 ∷ 0 ∷ 8 ∷ 0 ∷ 0 ∷ 0 ∷ [])
    ++ (0 ∷ 0 ∷ 0 ∷ 0 ∷ 24 ∷ 0 ∷ 0 ∷ 0 ∷ 0 ∷ 0 ∷ 0 ∷ 0 ∷ 18 ∷ 0 ∷ 0 ∷ 0 ∷ 2 ∷ [])
    ++ zeros 19
    ++ (104 ∷ 0 ∷ 0 ∷ 0 ∷ 0 ∷ 0 ∷ 0 ∷ 0 ∷ 72 ∷ 0 ∷ 0 ∷ 0 ∷ 0 ∷ 0 ∷ 0 ∷ 0 ∷ 4 ∷ 0 ∷ 0 ∷ 0 ∷ 1 ∷ 0 ∷ 0 ∷ 0 ∷ 8 ∷ 0 ∷ 0 ∷ 0 ∷ [])
    ++ (0 ∷ 0 ∷ 0 ∷ 0 ∷ 24 ∷ 0 ∷ 0 ∷ 0 ∷ 0 ∷ 0 ∷ 0 ∷ 0 ∷ 26 ∷ 0 ∷ 0 ∷ 0 ∷ 3 ∷ [])
    ++ zeros 19
    ++ (176 ∷ 0 ∷ 0 ∷ 0 ∷ 0 ∷ 0 ∷ 0 ∷ 0 ∷ 10 ∷ [])
    ++ zeros 15
    ++ (1 ∷ [])
    ++ zeros 15
    ++ (34 ∷ 0 ∷ 0 ∷ 0 ∷ 3 ∷ [])
    ++ zeros 19
    ++ (186 ∷ 0 ∷ 0 ∷ 0 ∷ 0 ∷ 0 ∷ 0 ∷ 0 ∷ 44 ∷ [])
    ++ zeros 15
    ++ (1 ∷ [])
    ++ zeros 15

-- an object of 16 bytes of code: `f` at 0
short : List ℕ
short =
    (127 ∷ 69 ∷ 76 ∷ 70 ∷ 2 ∷ 1 ∷ 1 ∷ 0 ∷ 0 ∷ 0 ∷ 0 ∷ 0 ∷ 0 ∷ 0 ∷ 0 ∷ 0 ∷ 1 ∷ 0 ∷ 62 ∷ 0 ∷ 1 ∷ [])
    ++ zeros 19
    ++ (168 ∷ 0 ∷ 0 ∷ 0 ∷ 0 ∷ 0 ∷ 0 ∷ 0 ∷ 0 ∷ 0 ∷ 0 ∷ 0 ∷ 64 ∷ 0 ∷ 0 ∷ 0 ∷ 0 ∷ 0 ∷ 64 ∷ 0 ∷ 5 ∷ 0 ∷ 4 ∷ 0 ∷ 195 ∷ 195 ∷ 195 ∷ 195 ∷ [])
    ++ (195 ∷ 195 ∷ 195 ∷ 195 ∷ 195 ∷ 195 ∷ 195 ∷ 195 ∷ 195 ∷ 195 ∷ 195 ∷ 195 ∷ [])
    ++ zeros 24
    ++ (1 ∷ 0 ∷ 0 ∷ 0 ∷ 18 ∷ 0 ∷ 1 ∷ [])
    ++ zeros 18
    ++ (102 ∷ 0 ∷ 0 ∷ 46 ∷ 116 ∷ 101 ∷ 120 ∷ 116 ∷ 0 ∷ 46 ∷ 115 ∷ 121 ∷ 109 ∷ 116 ∷ 97 ∷ 98 ∷ 0 ∷ 46 ∷ 115 ∷ 116 ∷ 114 ∷ 116 ∷ 97 ∷ 98 ∷ 0 ∷ 46 ∷ 115 ∷ 104 ∷ [])
    ++ (115 ∷ 116 ∷ 114 ∷ 116 ∷ 97 ∷ 98 ∷ [])
    ++ zeros 69
    ++ (1 ∷ 0 ∷ 0 ∷ 0 ∷ 1 ∷ 0 ∷ 0 ∷ 0 ∷ 6 ∷ [])
    ++ zeros 15
    ++ (64 ∷ 0 ∷ 0 ∷ 0 ∷ 0 ∷ 0 ∷ 0 ∷ 0 ∷ 16 ∷ [])
    ++ zeros 15
    ++ (16 ∷ [])
    ++ zeros 15
    ++ (7 ∷ 0 ∷ 0 ∷ 0 ∷ 2 ∷ [])
    ++ zeros 19
    ++ (80 ∷ 0 ∷ 0 ∷ 0 ∷ 0 ∷ 0 ∷ 0 ∷ 0 ∷ 48 ∷ 0 ∷ 0 ∷ 0 ∷ 0 ∷ 0 ∷ 0 ∷ 0 ∷ 3 ∷ 0 ∷ 0 ∷ 0 ∷ 1 ∷ 0 ∷ 0 ∷ 0 ∷ 8 ∷ 0 ∷ 0 ∷ 0 ∷ [])
    ++ (0 ∷ 0 ∷ 0 ∷ 0 ∷ 24 ∷ 0 ∷ 0 ∷ 0 ∷ 0 ∷ 0 ∷ 0 ∷ 0 ∷ 15 ∷ 0 ∷ 0 ∷ 0 ∷ 3 ∷ [])
    ++ zeros 19
    ++ (128 ∷ 0 ∷ 0 ∷ 0 ∷ 0 ∷ 0 ∷ 0 ∷ 0 ∷ 3 ∷ [])
    ++ zeros 15
    ++ (1 ∷ [])
    ++ zeros 15
    ++ (23 ∷ 0 ∷ 0 ∷ 0 ∷ 3 ∷ [])
    ++ zeros 19
    ++ (131 ∷ 0 ∷ 0 ∷ 0 ∷ 0 ∷ 0 ∷ 0 ∷ 0 ∷ 33 ∷ [])
    ++ zeros 15
    ++ (1 ∷ [])
    ++ zeros 15

-- the same with 40 bytes
long : List ℕ
long =
    (127 ∷ 69 ∷ 76 ∷ 70 ∷ 2 ∷ 1 ∷ 1 ∷ 0 ∷ 0 ∷ 0 ∷ 0 ∷ 0 ∷ 0 ∷ 0 ∷ 0 ∷ 0 ∷ 1 ∷ 0 ∷ 62 ∷ 0 ∷ 1 ∷ [])
    ++ zeros 19
    ++ (192 ∷ 0 ∷ 0 ∷ 0 ∷ 0 ∷ 0 ∷ 0 ∷ 0 ∷ 0 ∷ 0 ∷ 0 ∷ 0 ∷ 64 ∷ 0 ∷ 0 ∷ 0 ∷ 0 ∷ 0 ∷ 64 ∷ 0 ∷ 5 ∷ 0 ∷ 4 ∷ 0 ∷ 195 ∷ 195 ∷ 195 ∷ 195 ∷ [])
    ++ (195 ∷ 195 ∷ 195 ∷ 195 ∷ 195 ∷ 195 ∷ 195 ∷ 195 ∷ 195 ∷ 195 ∷ 195 ∷ 195 ∷ 195 ∷ 195 ∷ 195 ∷ 195 ∷ 195 ∷ 195 ∷ 195 ∷ 195 ∷ 195 ∷ 195 ∷ 195 ∷ 195 ∷ 195 ∷ 195 ∷ 195 ∷ 195 ∷ [])
    ++ (195 ∷ 195 ∷ 195 ∷ 195 ∷ 195 ∷ 195 ∷ 195 ∷ 195 ∷ [])
    ++ zeros 24
    ++ (1 ∷ 0 ∷ 0 ∷ 0 ∷ 18 ∷ 0 ∷ 1 ∷ [])
    ++ zeros 18
    ++ (102 ∷ 0 ∷ 0 ∷ 46 ∷ 116 ∷ 101 ∷ 120 ∷ 116 ∷ 0 ∷ 46 ∷ 115 ∷ 121 ∷ 109 ∷ 116 ∷ 97 ∷ 98 ∷ 0 ∷ 46 ∷ 115 ∷ 116 ∷ 114 ∷ 116 ∷ 97 ∷ 98 ∷ 0 ∷ 46 ∷ 115 ∷ 104 ∷ [])
    ++ (115 ∷ 116 ∷ 114 ∷ 116 ∷ 97 ∷ 98 ∷ [])
    ++ zeros 69
    ++ (1 ∷ 0 ∷ 0 ∷ 0 ∷ 1 ∷ 0 ∷ 0 ∷ 0 ∷ 6 ∷ [])
    ++ zeros 15
    ++ (64 ∷ 0 ∷ 0 ∷ 0 ∷ 0 ∷ 0 ∷ 0 ∷ 0 ∷ 40 ∷ [])
    ++ zeros 15
    ++ (16 ∷ [])
    ++ zeros 15
    ++ (7 ∷ 0 ∷ 0 ∷ 0 ∷ 2 ∷ [])
    ++ zeros 19
    ++ (104 ∷ 0 ∷ 0 ∷ 0 ∷ 0 ∷ 0 ∷ 0 ∷ 0 ∷ 48 ∷ 0 ∷ 0 ∷ 0 ∷ 0 ∷ 0 ∷ 0 ∷ 0 ∷ 3 ∷ 0 ∷ 0 ∷ 0 ∷ 1 ∷ 0 ∷ 0 ∷ 0 ∷ 8 ∷ 0 ∷ 0 ∷ 0 ∷ [])
    ++ (0 ∷ 0 ∷ 0 ∷ 0 ∷ 24 ∷ 0 ∷ 0 ∷ 0 ∷ 0 ∷ 0 ∷ 0 ∷ 0 ∷ 15 ∷ 0 ∷ 0 ∷ 0 ∷ 3 ∷ [])
    ++ zeros 19
    ++ (152 ∷ 0 ∷ 0 ∷ 0 ∷ 0 ∷ 0 ∷ 0 ∷ 0 ∷ 3 ∷ [])
    ++ zeros 15
    ++ (1 ∷ [])
    ++ zeros 15
    ++ (23 ∷ 0 ∷ 0 ∷ 0 ∷ 3 ∷ [])
    ++ zeros 19
    ++ (155 ∷ 0 ∷ 0 ∷ 0 ∷ 0 ∷ 0 ∷ 0 ∷ 0 ∷ 33 ∷ [])
    ++ zeros 15
    ++ (1 ∷ [])
    ++ zeros 15

-- the same with 72 bytes
too_long : List ℕ
too_long =
    (127 ∷ 69 ∷ 76 ∷ 70 ∷ 2 ∷ 1 ∷ 1 ∷ 0 ∷ 0 ∷ 0 ∷ 0 ∷ 0 ∷ 0 ∷ 0 ∷ 0 ∷ 0 ∷ 1 ∷ 0 ∷ 62 ∷ 0 ∷ 1 ∷ [])
    ++ zeros 19
    ++ (224 ∷ 0 ∷ 0 ∷ 0 ∷ 0 ∷ 0 ∷ 0 ∷ 0 ∷ 0 ∷ 0 ∷ 0 ∷ 0 ∷ 64 ∷ 0 ∷ 0 ∷ 0 ∷ 0 ∷ 0 ∷ 64 ∷ 0 ∷ 5 ∷ 0 ∷ 4 ∷ 0 ∷ 195 ∷ 195 ∷ 195 ∷ 195 ∷ [])
    ++ (195 ∷ 195 ∷ 195 ∷ 195 ∷ 195 ∷ 195 ∷ 195 ∷ 195 ∷ 195 ∷ 195 ∷ 195 ∷ 195 ∷ 195 ∷ 195 ∷ 195 ∷ 195 ∷ 195 ∷ 195 ∷ 195 ∷ 195 ∷ 195 ∷ 195 ∷ 195 ∷ 195 ∷ 195 ∷ 195 ∷ 195 ∷ 195 ∷ [])
    ++ (195 ∷ 195 ∷ 195 ∷ 195 ∷ 195 ∷ 195 ∷ 195 ∷ 195 ∷ 195 ∷ 195 ∷ 195 ∷ 195 ∷ 195 ∷ 195 ∷ 195 ∷ 195 ∷ 195 ∷ 195 ∷ 195 ∷ 195 ∷ 195 ∷ 195 ∷ 195 ∷ 195 ∷ 195 ∷ 195 ∷ 195 ∷ 195 ∷ [])
    ++ (195 ∷ 195 ∷ 195 ∷ 195 ∷ 195 ∷ 195 ∷ 195 ∷ 195 ∷ 195 ∷ 195 ∷ 195 ∷ 195 ∷ [])
    ++ zeros 24
    ++ (1 ∷ 0 ∷ 0 ∷ 0 ∷ 18 ∷ 0 ∷ 1 ∷ [])
    ++ zeros 18
    ++ (102 ∷ 0 ∷ 0 ∷ 46 ∷ 116 ∷ 101 ∷ 120 ∷ 116 ∷ 0 ∷ 46 ∷ 115 ∷ 121 ∷ 109 ∷ 116 ∷ 97 ∷ 98 ∷ 0 ∷ 46 ∷ 115 ∷ 116 ∷ 114 ∷ 116 ∷ 97 ∷ 98 ∷ 0 ∷ 46 ∷ 115 ∷ 104 ∷ [])
    ++ (115 ∷ 116 ∷ 114 ∷ 116 ∷ 97 ∷ 98 ∷ [])
    ++ zeros 69
    ++ (1 ∷ 0 ∷ 0 ∷ 0 ∷ 1 ∷ 0 ∷ 0 ∷ 0 ∷ 6 ∷ [])
    ++ zeros 15
    ++ (64 ∷ 0 ∷ 0 ∷ 0 ∷ 0 ∷ 0 ∷ 0 ∷ 0 ∷ 72 ∷ [])
    ++ zeros 15
    ++ (16 ∷ [])
    ++ zeros 15
    ++ (7 ∷ 0 ∷ 0 ∷ 0 ∷ 2 ∷ [])
    ++ zeros 19
    ++ (136 ∷ 0 ∷ 0 ∷ 0 ∷ 0 ∷ 0 ∷ 0 ∷ 0 ∷ 48 ∷ 0 ∷ 0 ∷ 0 ∷ 0 ∷ 0 ∷ 0 ∷ 0 ∷ 3 ∷ 0 ∷ 0 ∷ 0 ∷ 1 ∷ 0 ∷ 0 ∷ 0 ∷ 8 ∷ 0 ∷ 0 ∷ 0 ∷ [])
    ++ (0 ∷ 0 ∷ 0 ∷ 0 ∷ 24 ∷ 0 ∷ 0 ∷ 0 ∷ 0 ∷ 0 ∷ 0 ∷ 0 ∷ 15 ∷ 0 ∷ 0 ∷ 0 ∷ 3 ∷ [])
    ++ zeros 19
    ++ (184 ∷ 0 ∷ 0 ∷ 0 ∷ 0 ∷ 0 ∷ 0 ∷ 0 ∷ 3 ∷ [])
    ++ zeros 15
    ++ (1 ∷ [])
    ++ zeros 15
    ++ (23 ∷ 0 ∷ 0 ∷ 0 ∷ 3 ∷ [])
    ++ zeros 19
    ++ (187 ∷ 0 ∷ 0 ∷ 0 ∷ 0 ∷ 0 ∷ 0 ∷ 0 ∷ 33 ∷ [])
    ++ zeros 15
    ++ (1 ∷ [])
    ++ zeros 15

-- the same as the short one with another name
other : List ℕ
other =
    (127 ∷ 69 ∷ 76 ∷ 70 ∷ 2 ∷ 1 ∷ 1 ∷ 0 ∷ 0 ∷ 0 ∷ 0 ∷ 0 ∷ 0 ∷ 0 ∷ 0 ∷ 0 ∷ 1 ∷ 0 ∷ 62 ∷ 0 ∷ 1 ∷ [])
    ++ zeros 19
    ++ (168 ∷ 0 ∷ 0 ∷ 0 ∷ 0 ∷ 0 ∷ 0 ∷ 0 ∷ 0 ∷ 0 ∷ 0 ∷ 0 ∷ 64 ∷ 0 ∷ 0 ∷ 0 ∷ 0 ∷ 0 ∷ 64 ∷ 0 ∷ 5 ∷ 0 ∷ 4 ∷ 0 ∷ 195 ∷ 195 ∷ 195 ∷ 195 ∷ [])
    ++ (195 ∷ 195 ∷ 195 ∷ 195 ∷ 195 ∷ 195 ∷ 195 ∷ 195 ∷ 195 ∷ 195 ∷ 195 ∷ 195 ∷ [])
    ++ zeros 24
    ++ (1 ∷ 0 ∷ 0 ∷ 0 ∷ 18 ∷ 0 ∷ 1 ∷ [])
    ++ zeros 18
    ++ (104 ∷ 0 ∷ 0 ∷ 46 ∷ 116 ∷ 101 ∷ 120 ∷ 116 ∷ 0 ∷ 46 ∷ 115 ∷ 121 ∷ 109 ∷ 116 ∷ 97 ∷ 98 ∷ 0 ∷ 46 ∷ 115 ∷ 116 ∷ 114 ∷ 116 ∷ 97 ∷ 98 ∷ 0 ∷ 46 ∷ 115 ∷ 104 ∷ [])
    ++ (115 ∷ 116 ∷ 114 ∷ 116 ∷ 97 ∷ 98 ∷ [])
    ++ zeros 69
    ++ (1 ∷ 0 ∷ 0 ∷ 0 ∷ 1 ∷ 0 ∷ 0 ∷ 0 ∷ 6 ∷ [])
    ++ zeros 15
    ++ (64 ∷ 0 ∷ 0 ∷ 0 ∷ 0 ∷ 0 ∷ 0 ∷ 0 ∷ 16 ∷ [])
    ++ zeros 15
    ++ (16 ∷ [])
    ++ zeros 15
    ++ (7 ∷ 0 ∷ 0 ∷ 0 ∷ 2 ∷ [])
    ++ zeros 19
    ++ (80 ∷ 0 ∷ 0 ∷ 0 ∷ 0 ∷ 0 ∷ 0 ∷ 0 ∷ 48 ∷ 0 ∷ 0 ∷ 0 ∷ 0 ∷ 0 ∷ 0 ∷ 0 ∷ 3 ∷ 0 ∷ 0 ∷ 0 ∷ 1 ∷ 0 ∷ 0 ∷ 0 ∷ 8 ∷ 0 ∷ 0 ∷ 0 ∷ [])
    ++ (0 ∷ 0 ∷ 0 ∷ 0 ∷ 24 ∷ 0 ∷ 0 ∷ 0 ∷ 0 ∷ 0 ∷ 0 ∷ 0 ∷ 15 ∷ 0 ∷ 0 ∷ 0 ∷ 3 ∷ [])
    ++ zeros 19
    ++ (128 ∷ 0 ∷ 0 ∷ 0 ∷ 0 ∷ 0 ∷ 0 ∷ 0 ∷ 3 ∷ [])
    ++ zeros 15
    ++ (1 ∷ [])
    ++ zeros 15
    ++ (23 ∷ 0 ∷ 0 ∷ 0 ∷ 3 ∷ [])
    ++ zeros 19
    ++ (131 ∷ 0 ∷ 0 ∷ 0 ∷ 0 ∷ 0 ∷ 0 ∷ 0 ∷ 33 ∷ [])
    ++ zeros 15
    ++ (1 ∷ [])
    ++ zeros 15

-- the first one with 8 bytes of a sequence section, `.mine`
start_listed : List ℕ
start_listed =
    (127 ∷ 69 ∷ 76 ∷ 70 ∷ 2 ∷ 1 ∷ 1 ∷ 0 ∷ 0 ∷ 0 ∷ 0 ∷ 0 ∷ 0 ∷ 0 ∷ 0 ∷ 0 ∷ 1 ∷ 0 ∷ 62 ∷ 0 ∷ 1 ∷ [])
    ++ zeros 19
    ++ (248 ∷ 0 ∷ 0 ∷ 0 ∷ 0 ∷ 0 ∷ 0 ∷ 0 ∷ 0 ∷ 0 ∷ 0 ∷ 0 ∷ 64 ∷ 0 ∷ 0 ∷ 0 ∷ 0 ∷ 0 ∷ 64 ∷ 0 ∷ 7 ∷ 0 ∷ 6 ∷ 0 ∷ 144 ∷ 144 ∷ 144 ∷ 144 ∷ [])
    ++ (232 ∷ 144 ∷ 144 ∷ 144 ∷ 144 ∷ 144 ∷ 144 ∷ 144 ∷ 144 ∷ 144 ∷ 144 ∷ 144 ∷ 1 ∷ 1 ∷ 1 ∷ 1 ∷ 1 ∷ 1 ∷ 1 ∷ 1 ∷ 5 ∷ 0 ∷ 0 ∷ 0 ∷ 0 ∷ 0 ∷ 0 ∷ 0 ∷ [])
    ++ (2 ∷ 0 ∷ 0 ∷ 0 ∷ 2 ∷ 0 ∷ 0 ∷ 0 ∷ 252 ∷ 255 ∷ 255 ∷ 255 ∷ 255 ∷ 255 ∷ 255 ∷ 255 ∷ [])
    ++ zeros 24
    ++ (1 ∷ 0 ∷ 0 ∷ 0 ∷ 18 ∷ 0 ∷ 1 ∷ [])
    ++ zeros 17
    ++ (8 ∷ 0 ∷ 0 ∷ 0 ∷ 16 ∷ [])
    ++ zeros 20
    ++ (95 ∷ 115 ∷ 116 ∷ 97 ∷ 114 ∷ 116 ∷ 0 ∷ 102 ∷ 0 ∷ 0 ∷ 46 ∷ 116 ∷ 101 ∷ 120 ∷ 116 ∷ 0 ∷ 46 ∷ 109 ∷ 105 ∷ 110 ∷ 101 ∷ 0 ∷ 46 ∷ 114 ∷ 101 ∷ 108 ∷ 97 ∷ 46 ∷ [])
    ++ (116 ∷ 101 ∷ 120 ∷ 116 ∷ 0 ∷ 46 ∷ 115 ∷ 121 ∷ 109 ∷ 116 ∷ 97 ∷ 98 ∷ 0 ∷ 46 ∷ 115 ∷ 116 ∷ 114 ∷ 116 ∷ 97 ∷ 98 ∷ 0 ∷ 46 ∷ 115 ∷ 104 ∷ 115 ∷ 116 ∷ 114 ∷ 116 ∷ [])
    ++ (97 ∷ 98 ∷ [])
    ++ zeros 69
    ++ (1 ∷ 0 ∷ 0 ∷ 0 ∷ 1 ∷ 0 ∷ 0 ∷ 0 ∷ 6 ∷ [])
    ++ zeros 15
    ++ (64 ∷ 0 ∷ 0 ∷ 0 ∷ 0 ∷ 0 ∷ 0 ∷ 0 ∷ 16 ∷ [])
    ++ zeros 15
    ++ (16 ∷ [])
    ++ zeros 15
    ++ (7 ∷ 0 ∷ 0 ∷ 0 ∷ 1 ∷ 0 ∷ 0 ∷ 0 ∷ 3 ∷ [])
    ++ zeros 15
    ++ (80 ∷ 0 ∷ 0 ∷ 0 ∷ 0 ∷ 0 ∷ 0 ∷ 0 ∷ 8 ∷ [])
    ++ zeros 15
    ++ (8 ∷ [])
    ++ zeros 15
    ++ (13 ∷ 0 ∷ 0 ∷ 0 ∷ 4 ∷ 0 ∷ 0 ∷ 0 ∷ 64 ∷ [])
    ++ zeros 15
    ++ (88 ∷ 0 ∷ 0 ∷ 0 ∷ 0 ∷ 0 ∷ 0 ∷ 0 ∷ 24 ∷ 0 ∷ 0 ∷ 0 ∷ 0 ∷ 0 ∷ 0 ∷ 0 ∷ 4 ∷ 0 ∷ 0 ∷ 0 ∷ 1 ∷ 0 ∷ 0 ∷ 0 ∷ 8 ∷ 0 ∷ 0 ∷ 0 ∷ [])
    ++ (0 ∷ 0 ∷ 0 ∷ 0 ∷ 24 ∷ 0 ∷ 0 ∷ 0 ∷ 0 ∷ 0 ∷ 0 ∷ 0 ∷ 24 ∷ 0 ∷ 0 ∷ 0 ∷ 2 ∷ [])
    ++ zeros 19
    ++ (112 ∷ 0 ∷ 0 ∷ 0 ∷ 0 ∷ 0 ∷ 0 ∷ 0 ∷ 72 ∷ 0 ∷ 0 ∷ 0 ∷ 0 ∷ 0 ∷ 0 ∷ 0 ∷ 5 ∷ 0 ∷ 0 ∷ 0 ∷ 1 ∷ 0 ∷ 0 ∷ 0 ∷ 8 ∷ 0 ∷ 0 ∷ 0 ∷ [])
    ++ (0 ∷ 0 ∷ 0 ∷ 0 ∷ 24 ∷ 0 ∷ 0 ∷ 0 ∷ 0 ∷ 0 ∷ 0 ∷ 0 ∷ 32 ∷ 0 ∷ 0 ∷ 0 ∷ 3 ∷ [])
    ++ zeros 19
    ++ (184 ∷ 0 ∷ 0 ∷ 0 ∷ 0 ∷ 0 ∷ 0 ∷ 0 ∷ 10 ∷ [])
    ++ zeros 15
    ++ (1 ∷ [])
    ++ zeros 15
    ++ (40 ∷ 0 ∷ 0 ∷ 0 ∷ 3 ∷ [])
    ++ zeros 19
    ++ (194 ∷ 0 ∷ 0 ∷ 0 ∷ 0 ∷ 0 ∷ 0 ∷ 0 ∷ 50 ∷ [])
    ++ zeros 15
    ++ (1 ∷ [])
    ++ zeros 15

-- the short one with 8 bytes of it
short_listed : List ℕ
short_listed =
    (127 ∷ 69 ∷ 76 ∷ 70 ∷ 2 ∷ 1 ∷ 1 ∷ 0 ∷ 0 ∷ 0 ∷ 0 ∷ 0 ∷ 0 ∷ 0 ∷ 0 ∷ 0 ∷ 1 ∷ 0 ∷ 62 ∷ 0 ∷ 1 ∷ [])
    ++ zeros 19
    ++ (184 ∷ 0 ∷ 0 ∷ 0 ∷ 0 ∷ 0 ∷ 0 ∷ 0 ∷ 0 ∷ 0 ∷ 0 ∷ 0 ∷ 64 ∷ 0 ∷ 0 ∷ 0 ∷ 0 ∷ 0 ∷ 64 ∷ 0 ∷ 6 ∷ 0 ∷ 5 ∷ 0 ∷ 195 ∷ 195 ∷ 195 ∷ 195 ∷ [])
    ++ (195 ∷ 195 ∷ 195 ∷ 195 ∷ 195 ∷ 195 ∷ 195 ∷ 195 ∷ 195 ∷ 195 ∷ 195 ∷ 195 ∷ 1 ∷ 1 ∷ 1 ∷ 1 ∷ 1 ∷ 1 ∷ 1 ∷ 1 ∷ [])
    ++ zeros 24
    ++ (1 ∷ 0 ∷ 0 ∷ 0 ∷ 18 ∷ 0 ∷ 1 ∷ [])
    ++ zeros 18
    ++ (102 ∷ 0 ∷ 0 ∷ 46 ∷ 116 ∷ 101 ∷ 120 ∷ 116 ∷ 0 ∷ 46 ∷ 109 ∷ 105 ∷ 110 ∷ 101 ∷ 0 ∷ 46 ∷ 115 ∷ 121 ∷ 109 ∷ 116 ∷ 97 ∷ 98 ∷ 0 ∷ 46 ∷ 115 ∷ 116 ∷ 114 ∷ 116 ∷ [])
    ++ (97 ∷ 98 ∷ 0 ∷ 46 ∷ 115 ∷ 104 ∷ 115 ∷ 116 ∷ 114 ∷ 116 ∷ 97 ∷ 98 ∷ [])
    ++ zeros 71
    ++ (1 ∷ 0 ∷ 0 ∷ 0 ∷ 1 ∷ 0 ∷ 0 ∷ 0 ∷ 6 ∷ [])
    ++ zeros 15
    ++ (64 ∷ 0 ∷ 0 ∷ 0 ∷ 0 ∷ 0 ∷ 0 ∷ 0 ∷ 16 ∷ [])
    ++ zeros 15
    ++ (16 ∷ [])
    ++ zeros 15
    ++ (7 ∷ 0 ∷ 0 ∷ 0 ∷ 1 ∷ 0 ∷ 0 ∷ 0 ∷ 3 ∷ [])
    ++ zeros 15
    ++ (80 ∷ 0 ∷ 0 ∷ 0 ∷ 0 ∷ 0 ∷ 0 ∷ 0 ∷ 8 ∷ [])
    ++ zeros 15
    ++ (8 ∷ [])
    ++ zeros 15
    ++ (13 ∷ 0 ∷ 0 ∷ 0 ∷ 2 ∷ [])
    ++ zeros 19
    ++ (88 ∷ 0 ∷ 0 ∷ 0 ∷ 0 ∷ 0 ∷ 0 ∷ 0 ∷ 48 ∷ 0 ∷ 0 ∷ 0 ∷ 0 ∷ 0 ∷ 0 ∷ 0 ∷ 4 ∷ 0 ∷ 0 ∷ 0 ∷ 1 ∷ 0 ∷ 0 ∷ 0 ∷ 8 ∷ 0 ∷ 0 ∷ 0 ∷ [])
    ++ (0 ∷ 0 ∷ 0 ∷ 0 ∷ 24 ∷ 0 ∷ 0 ∷ 0 ∷ 0 ∷ 0 ∷ 0 ∷ 0 ∷ 21 ∷ 0 ∷ 0 ∷ 0 ∷ 3 ∷ [])
    ++ zeros 19
    ++ (136 ∷ 0 ∷ 0 ∷ 0 ∷ 0 ∷ 0 ∷ 0 ∷ 0 ∷ 3 ∷ [])
    ++ zeros 15
    ++ (1 ∷ [])
    ++ zeros 15
    ++ (29 ∷ 0 ∷ 0 ∷ 0 ∷ 3 ∷ [])
    ++ zeros 19
    ++ (139 ∷ 0 ∷ 0 ∷ 0 ∷ 0 ∷ 0 ∷ 0 ∷ 0 ∷ 39 ∷ [])
    ++ zeros 15
    ++ (1 ∷ [])
    ++ zeros 15

-- the short one with 16 bytes of it
grown_listed : List ℕ
grown_listed =
    (127 ∷ 69 ∷ 76 ∷ 70 ∷ 2 ∷ 1 ∷ 1 ∷ 0 ∷ 0 ∷ 0 ∷ 0 ∷ 0 ∷ 0 ∷ 0 ∷ 0 ∷ 0 ∷ 1 ∷ 0 ∷ 62 ∷ 0 ∷ 1 ∷ [])
    ++ zeros 19
    ++ (192 ∷ 0 ∷ 0 ∷ 0 ∷ 0 ∷ 0 ∷ 0 ∷ 0 ∷ 0 ∷ 0 ∷ 0 ∷ 0 ∷ 64 ∷ 0 ∷ 0 ∷ 0 ∷ 0 ∷ 0 ∷ 64 ∷ 0 ∷ 6 ∷ 0 ∷ 5 ∷ 0 ∷ 195 ∷ 195 ∷ 195 ∷ 195 ∷ [])
    ++ (195 ∷ 195 ∷ 195 ∷ 195 ∷ 195 ∷ 195 ∷ 195 ∷ 195 ∷ 195 ∷ 195 ∷ 195 ∷ 195 ∷ 1 ∷ 1 ∷ 1 ∷ 1 ∷ 1 ∷ 1 ∷ 1 ∷ 1 ∷ 1 ∷ 1 ∷ 1 ∷ 1 ∷ 1 ∷ 1 ∷ 1 ∷ 1 ∷ [])
    ++ zeros 24
    ++ (1 ∷ 0 ∷ 0 ∷ 0 ∷ 18 ∷ 0 ∷ 1 ∷ [])
    ++ zeros 18
    ++ (102 ∷ 0 ∷ 0 ∷ 46 ∷ 116 ∷ 101 ∷ 120 ∷ 116 ∷ 0 ∷ 46 ∷ 109 ∷ 105 ∷ 110 ∷ 101 ∷ 0 ∷ 46 ∷ 115 ∷ 121 ∷ 109 ∷ 116 ∷ 97 ∷ 98 ∷ 0 ∷ 46 ∷ 115 ∷ 116 ∷ 114 ∷ 116 ∷ [])
    ++ (97 ∷ 98 ∷ 0 ∷ 46 ∷ 115 ∷ 104 ∷ 115 ∷ 116 ∷ 114 ∷ 116 ∷ 97 ∷ 98 ∷ [])
    ++ zeros 71
    ++ (1 ∷ 0 ∷ 0 ∷ 0 ∷ 1 ∷ 0 ∷ 0 ∷ 0 ∷ 6 ∷ [])
    ++ zeros 15
    ++ (64 ∷ 0 ∷ 0 ∷ 0 ∷ 0 ∷ 0 ∷ 0 ∷ 0 ∷ 16 ∷ [])
    ++ zeros 15
    ++ (16 ∷ [])
    ++ zeros 15
    ++ (7 ∷ 0 ∷ 0 ∷ 0 ∷ 1 ∷ 0 ∷ 0 ∷ 0 ∷ 3 ∷ [])
    ++ zeros 15
    ++ (80 ∷ 0 ∷ 0 ∷ 0 ∷ 0 ∷ 0 ∷ 0 ∷ 0 ∷ 16 ∷ [])
    ++ zeros 15
    ++ (8 ∷ [])
    ++ zeros 15
    ++ (13 ∷ 0 ∷ 0 ∷ 0 ∷ 2 ∷ [])
    ++ zeros 19
    ++ (96 ∷ 0 ∷ 0 ∷ 0 ∷ 0 ∷ 0 ∷ 0 ∷ 0 ∷ 48 ∷ 0 ∷ 0 ∷ 0 ∷ 0 ∷ 0 ∷ 0 ∷ 0 ∷ 4 ∷ 0 ∷ 0 ∷ 0 ∷ 1 ∷ 0 ∷ 0 ∷ 0 ∷ 8 ∷ 0 ∷ 0 ∷ 0 ∷ [])
    ++ (0 ∷ 0 ∷ 0 ∷ 0 ∷ 24 ∷ 0 ∷ 0 ∷ 0 ∷ 0 ∷ 0 ∷ 0 ∷ 0 ∷ 21 ∷ 0 ∷ 0 ∷ 0 ∷ 3 ∷ [])
    ++ zeros 19
    ++ (144 ∷ 0 ∷ 0 ∷ 0 ∷ 0 ∷ 0 ∷ 0 ∷ 0 ∷ 3 ∷ [])
    ++ zeros 15
    ++ (1 ∷ [])
    ++ zeros 15
    ++ (29 ∷ 0 ∷ 0 ∷ 0 ∷ 3 ∷ [])
    ++ zeros 19
    ++ (147 ∷ 0 ∷ 0 ∷ 0 ∷ 0 ∷ 0 ∷ 0 ∷ 0 ∷ 39 ∷ [])
    ++ zeros 15
    ++ (1 ∷ [])
    ++ zeros 15

-- a file with a stamp that reports its time alone
abbrev file : ℕ → List ℕ → Option FileRow
file time bytes = Some (record { bytes = bytes; stamp = Some (record { length = 0; modified = pos time }) })

-- two files
abbrev two : Option FileRow → Option FileRow → FileMap
two a b path = if bytes_eq path (codes "a.o") then a else if bytes_eq path (codes "b.o") then b else None

-- no object
abbrev junk : List ℕ
junk = 0 ∷ 1 ∷ 2 ∷ []

-- ---- words, and what the earlier link recorded

abbrev words : List ℕ → List (List ℕ)
words mode = mode ∷ codes "-o" ∷ codes "out" ∷ codes "a.o" ∷ codes "b.o" ∷ []

abbrev update : List (List ℕ)
update = words (codes "--incremental-update")

abbrev either : List (List ℕ)
either = words (codes "--incremental")

abbrev full : List (List ℕ)
full = words (codes "--incremental-full")

-- both files as they were: code of 16 and 16 bytes, in a room of 64
before : Result Records Cause
unfolding recorded_words start short
before = recorded_words full (two (file 1 start) (file 1 short))

-- the earlier link's answers over these files
given : List (List ℕ) → FileMap → Status
unfolding answered before
given ws files = answered before ws files

reads : List (List ℕ) → FileMap → List (List ℕ)
unfolding read_reported before
reads ws files = read_reported before ws files

-- ---- nothing changed

-- no path is read, whatever the files hold now: equal stamps say that they are as they were
nothing_changed :
    (given update (two (file 1 start) (file 1 short)) ≡ status.Done outcome.Updated)
    × (given either (two (file 1 start) (file 1 short)) ≡ status.Done outcome.Updated)
    × (given update (two (file 1 junk) (file 1 junk)) ≡ status.Done outcome.Updated)
    × (reads update (two (file 1 start) (file 1 short)) ≡ [])
unfolding given reads start short
nothing_changed = (refl, refl, refl, refl)

-- mode Full looks at no earlier image
full_link :
    (given full (two (file 1 start) (file 1 short)) ≡ status.Done (outcome.Full None))
    × (given full (two (file 1 junk) (file 1 short)) ≡ status.LinkError (fault.Input (codes "a.o") input_fault.NotElf ∷ []))
unfolding given start short
full_link = (refl, refl)

-- ---- one input changed

-- a function of 40 bytes does not fit in the 16 that it had and the 32 behind them, but in both
grown :
    (given update (two (file 1 start) (file 2 long)) ≡ status.Done outcome.Updated)
    × (reads update (two (file 1 start) (file 2 long)) ≡ codes "b.o" ∷ [])
    × (given update (two (file 1 junk) (file 2 long)) ≡ status.Done outcome.Updated)
unfolding given reads start long
grown = (refl, refl, refl)

-- one of 72 bytes fits nowhere. A full link reads the other input too, and judges it.
too_large :
    (given update (two (file 1 start) (file 2 too_long)) ≡ status.NotUpdated (cause.NoRoom (codes ".text") 72 16))
    × (given either (two (file 1 start) (file 2 too_long)) ≡ status.Done (outcome.Full (Some (cause.NoRoom (codes ".text") 72 16))))
    × (given either (two (file 1 junk) (file 2 too_long)) ≡ status.LinkError (fault.Input (codes "a.o") input_fault.NotElf ∷ []))
unfolding given start too_long
too_large = (refl, refl, refl)

-- faults: of the changed input; of a reference of the input that is not read, as it is recorded; of the
-- entry, which is the changed input's to define
faults :
    (given update (two (file 1 start) (file 2 junk)) ≡ status.LinkError (fault.Input (codes "b.o") input_fault.NotElf ∷ []))
    × (given either (two (file 1 junk) (file 2 other)) ≡ status.LinkError (fault.Undefined (codes "f") (record { path = codes "a.o"; section = 1; offset = 5 }) ∷ []))
    × (given update (two (file 2 other) (file 1 short)) ≡ status.LinkError (fault.NoEntry (codes "_start") ∷ []))
unfolding given start short other
faults = (refl, refl, refl)

-- ---- sequences

-- both have a part of a sequence section; that of the second grows, and the first is redone with it. The
-- changed input is read first, though its word is the last; then the other one, which is judged too.
listed_before : Result Records Cause
unfolding recorded_words start_listed short_listed
listed_before = recorded_words full (two (file 1 start_listed) (file 1 short_listed))

redone_is_read :
    (answered listed_before update (two (file 1 start_listed) (file 2 grown_listed)) ≡ status.Done outcome.Updated)
    × (read_reported listed_before update (two (file 1 start_listed) (file 2 grown_listed)) ≡ codes "b.o" ∷ codes "a.o" ∷ [])
    × (answered listed_before update (two (file 1 junk) (file 2 grown_listed)) ≡ status.LinkError (fault.Input (codes "a.o") input_fault.NotElf ∷ []))
unfolding answered read_reported listed_before start_listed grown_listed
redone_is_read = (refl, refl, refl)

-- ---- options

abbrev with_patch : List (List ℕ) → List (List ℕ)
with_patch ws = codes "--incremental-patch=20" ∷ ws

abbrev options : ℕ → OptionRecord
options patch = record { entry = codes "_start"; interp = []; runpath = []; patch = patch; export_dynamic = false; dynamic = false }

-- another percentage: reported after the inputs' faults, before the room
other_options :
    (given (with_patch update) (two (file 1 start) (file 1 short)) ≡ status.NotUpdated (cause.OptionsChanged (options 10) (options 20)))
    × (given (with_patch either) (two (file 1 start) (file 1 short)) ≡ status.Done (outcome.Full (Some (cause.OptionsChanged (options 10) (options 20)))))
    × (given (with_patch update) (two (file 1 start) (file 2 too_long)) ≡ status.NotUpdated (cause.OptionsChanged (options 10) (options 20)))
    × (given (with_patch update) (two (file 1 start) (file 2 junk)) ≡ status.LinkError (fault.Input (codes "b.o") input_fault.NotElf ∷ []))
unfolding given start short too_long
other_options = (refl, refl, refl, refl)

-- ---- no earlier image

-- mode Update answers before an input is looked up; mode Either looks all up and makes a full link
without_base :
    (answered (Err cause.NoBase) update (two None None) ≡ status.NotUpdated cause.NoBase)
    × (answered (Err cause.BaseOpen) either (two (file 1 start) None) ≡ status.LinkError (fault.Missing (codes "b.o") ∷ []))
    × (answered (Err cause.BaseOpen) either (two (file 1 start) (file 1 short)) ≡ status.Done (outcome.Full (Some cause.BaseOpen)))
unfolding answered start short
without_base = (refl, refl, refl)

-- ---- before all that: words, missing files

refused :
    (given update (two (file 1 start) None) ≡ status.LinkError (fault.Missing (codes "b.o") ∷ []))
    × (given (codes "-o" ∷ codes "out" ∷ []) (two None None) ≡ status.Usage usage.NoInput)
unfolding given start
refused = (refl, refl)
