-- The texts that the inputs section names, in its order (this project's own).
use Rattle.std.specs.Prelude.{ℕ, List, [], ◌∷◌, ◌++◌, map}
use Rattle.std.specs.List.{flat_map}
use Rattle.lk_report.specs.declared.causes.OptionRecord.{OptionRecord}
use Rattle.lk_model.specs.Tail.{row_name}
use Rattle.lk_model.specs.declared.records.InputRecord.{InputRecord}
use Rattle.lk_model.specs.declared.records.Records.{Records}
use Rattle.lk_model.specs.declared.summaries.Global.{Global}
use Rattle.lk_model.specs.declared.summaries.Group.{Group}
use Rattle.lk_model.specs.declared.summaries.PieceInfo.{PieceInfo}

abbrev pub head_texts : OptionRecord → List (List ℕ)
head_texts options = options.entry ∷ options.interp ∷ options.runpath ∷ []

abbrev pub piece_name : PieceInfo → List ℕ
piece_name piece = piece.name

abbrev pub global_name : Global → List ℕ
global_name global = global.name

abbrev pub group_name : Group → List ℕ
group_name group = group.signature

abbrev pub input_texts : InputRecord → List (List ℕ)
input_texts i =
    i.path ∷ i.summary.soname ∷ [] ++ map piece_name i.summary.pieces ++ map global_name i.summary.globals
    ++ map group_name i.summary.groups

abbrev pub section_texts : Records → List (List ℕ)
section_texts records = head_texts records.options ++ map row_name records.placement.sections ++ flat_map input_texts records.inputs
