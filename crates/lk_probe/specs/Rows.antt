-- What is said of where a link puts everything (this project's own): a line for each output section, in the
-- order of the image, with its name, its class, its address, offset, size, room and alignment, then how many
-- output sections and pieces there are.
use Rattle.std.specs.Prelude.{◌≡◌, ℕ, List, ◌++◌, codes, flat_map, length, Result, Ok, Err}
use Rattle.std.specs.Fmt.{decimal}
use Rattle.lk_report.specs.FileMap.{FileMap}
use Rattle.lk_report.specs.Texts.{hex_text}
use Rattle.lk_report.specs.declared.statuses.Status.{Status}
use Rattle.lk_report.specs.declared.statuses.Status.TheVariants as status
use Rattle.lk_model.specs.declared.layouts.Class.{Class}
use Rattle.lk_model.specs.declared.layouts.Class.TheVariants as class
use Rattle.lk_model.specs.declared.layouts.Placement.{Placement}
use Rattle.lk_model.specs.declared.layouts.SectionKey.{SectionKey}
use Rattle.lk_model.specs.declared.layouts.SectionRow.{SectionRow}
use Rattle.lk_probe.specs.Laying.{WordsLaid}

abbrev pub class_text : Class → List ℕ
class_text class.R = codes "R"
class_text class.X = codes "X"
class_text class.W = codes "W"
class_text class.WX = codes "WX"
class_text class.Tdata = codes "Tdata"
class_text class.Tbss = codes "Tbss"
class_text class.Bss = codes "Bss"
class_text class.N = codes "N"

-- an output section, and one of its numbers
abbrev pub key_text : SectionKey → List ℕ
key_text key = key.name ++ codes " " ++ class_text key.class

abbrev pub field_text : ℕ → List ℕ
field_text n = codes " " ++ hex_text n

abbrev pub fields_text : SectionRow → List ℕ
fields_text row = field_text row.addr ++ field_text row.offset ++ field_text row.size ++ field_text row.room ++ field_text row.align

-- the line of an output section
abbrev pub row_line : SectionRow → List ℕ
row_line row = key_text row.key ++ fields_text row ++ codes "\n"

-- what is said of a placement
abbrev pub placement_text : Placement → List ℕ
placement_text place = flat_map row_line place.sections ++ decimal (length place.sections) ++ codes " sections, " ++ decimal (length place.pieces) ++ codes " pieces\n"

-- what is said is the text of where the link of the words puts everything; a status in its place is the one
-- that they have, or out of memory
abbrev pub ReportsPlaces : List (List ℕ) → FileMap → Result (List ℕ) Status → Type 0
ReportsPlaces words there (Ok text) = (place : Placement) × WordsLaid words there (Ok place) × (text ≡ placement_text place)
ReportsPlaces words there (Err status.NoMemory) = Unit {0}
ReportsPlaces words there (Err s) = WordsLaid words there (Err s)
