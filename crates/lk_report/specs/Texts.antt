-- This project's own: the text of each status, line by line, as the linker says it. Numbers are
-- decimal; sizes, addresses, offsets and values are `0x` and lower-case hexadecimal digits.
use Rattle.std.specs.Prelude.{ℕ, false, List, ◌++◌, Some, None, codes, flat_map}
use Rattle.std.specs.Fmt.{decimal, digits}
use Rattle.lk_report.specs.declared.causes.Cause.{Cause}
use Rattle.lk_report.specs.declared.causes.Cause.TheVariants.{NoBase, BaseOpen, NotIncremental, OtherVersion, OptionsChanged, NewSection, MoreAlign, NoRoom, SmallHole, NoTableRoom, UpdateOverflow}
use Rattle.lk_report.specs.declared.faults.UsageFault.{UsageFault}
use Rattle.lk_report.specs.declared.faults.UsageFault.TheVariants.{UnknownWord, MissingValue, BadNumber, OpenLib, NestedLib, NoLibOpen, TwoOutputs, NoInput}
use Rattle.lk_report.specs.declared.faults.Fault.{Fault}
use Rattle.lk_report.specs.declared.faults.Fault.TheVariants.{Missing, Input, MultipleDefinition, TlsMismatch, NoEntry, Undefined, DroppedLocal, Unsupported, CopyOfZero, ImportedTlsDirect, Overflow}
use Rattle.lk_report.specs.declared.faults.Site.{Site}
use Rattle.lk_report.specs.declared.faults.InputFault.{InputFault}
use Rattle.lk_report.specs.declared.faults.InputFault.TheVariants.{Archive, Script, NotElf, WrongClass, WrongMachine, WrongType, BadTable, BadName, BadSymbol, BadRela, BadGroup, Compressed, UnsupportedSection, UnknownAlloc, UnsupportedSymbol, NoDynamic}
use Rattle.lk_report.specs.declared.statuses.Outcome.{Outcome}
use Rattle.lk_report.specs.declared.statuses.Outcome.TheVariants.{Full, Updated}
use Rattle.lk_report.specs.declared.statuses.Waiting.{Waiting}
use Rattle.lk_report.specs.declared.statuses.Waiting.TheVariants.{Words, Form}
use Rattle.lk_report.specs.declared.statuses.LimitKind.{LimitKind}
use Rattle.lk_report.specs.declared.statuses.LimitKind.TheVariants.{Inputs, InputSize, InputTotal, Names, References, Sections, Headers, Image, Memory}
use Rattle.lk_report.specs.declared.statuses.Status.{Status}
use Rattle.lk_report.specs.declared.statuses.Status.TheVariants.{Done, LinkError, Usage, ReadFault, DeviceFault, NoMemory, Limit, NotUpdated, NotYet}

-- a number in hexadecimal
unfoldable pub hex_text : ℕ → List ℕ
hex_text n = codes "0x" ++ digits 16 false n

-- the place of a relocation: the input's path, the section's number in it and the offset
unfoldable pub site_text : Site → List ℕ
site_text site = site.path ++ codes ":" ++ decimal site.section ++ codes "+" ++ hex_text site.offset

-- why an update gives way or cannot be made
unfoldable pub cause_text : Cause → List ℕ
cause_text NoBase = codes "no base"
cause_text BaseOpen = codes "base is open"
cause_text NotIncremental = codes "not an incremental image"
cause_text (OtherVersion version) = codes "other version " ++ decimal version
cause_text (OptionsChanged before now) = codes "options changed"
cause_text (NewSection name) = codes "new section " ++ name
cause_text (MoreAlign section have need) =
    codes "alignment of " ++ section ++ codes ": " ++ decimal need ++ codes " needed, " ++ decimal have ++ codes " there"
cause_text (NoRoom section size align) =
    codes "no room in " ++ section ++ codes ": " ++ hex_text size ++ codes " at " ++ hex_text align
cause_text (SmallHole section size) = codes "hole of " ++ hex_text size ++ codes " in " ++ section
cause_text (NoTableRoom section need reserved) =
    codes "no room in table " ++ section ++ codes ": " ++ hex_text need ++ codes " of " ++ hex_text reserved
cause_text (UpdateOverflow p s a value) = codes "overflow at " ++ hex_text p ++ codes ": " ++ hex_text value

-- the fault of a word, by the word's number
unfoldable pub word_text : ℕ → List ℕ → List ℕ
word_text number fault = codes "word " ++ decimal number ++ codes ": " ++ fault

-- why the words are no command
unfoldable pub usage_text : UsageFault → List ℕ
usage_text (UnknownWord number) = word_text number (codes "unknown")
usage_text (MissingValue number) = word_text number (codes "value missing")
usage_text (BadNumber number) = word_text number (codes "bad number")
usage_text (OpenLib number) = word_text number (codes "lib not ended")
usage_text (NestedLib number) = word_text number (codes "lib in lib")
usage_text (NoLibOpen number) = word_text number (codes "no lib")
usage_text (TwoOutputs number) = word_text number (codes "second output")
usage_text NoInput = codes "no input"

-- why a file is no input: the fault's name, then its numbers
unfoldable pub input_fault_text : InputFault → List ℕ
input_fault_text Archive = codes "Archive"
input_fault_text Script = codes "Script"
input_fault_text NotElf = codes "NotElf"
input_fault_text WrongClass = codes "WrongClass"
input_fault_text WrongMachine = codes "WrongMachine"
input_fault_text WrongType = codes "WrongType"
input_fault_text (BadTable section) = codes "BadTable " ++ decimal section
input_fault_text (BadName number) = codes "BadName " ++ decimal number
input_fault_text (BadSymbol symbol) = codes "BadSymbol " ++ decimal symbol
input_fault_text (BadRela section entry) = codes "BadRela " ++ decimal section ++ codes " " ++ decimal entry
input_fault_text (BadGroup section) = codes "BadGroup " ++ decimal section
input_fault_text (Compressed section) = codes "Compressed " ++ decimal section
input_fault_text (UnsupportedSection section) = codes "UnsupportedSection " ++ decimal section
input_fault_text (UnknownAlloc section) = codes "UnknownAlloc " ++ decimal section
input_fault_text (UnsupportedSymbol symbol) = codes "UnsupportedSymbol " ++ decimal symbol
input_fault_text NoDynamic = codes "NoDynamic"

-- a fault of the link, without its `error: `
unfoldable pub fault_text : Fault → List ℕ
fault_text (Missing path) = codes "missing " ++ path
fault_text (Input path fault) = path ++ codes ": " ++ input_fault_text fault
fault_text (MultipleDefinition name first second) =
    codes "multiple definition of " ++ name ++ codes ": " ++ first ++ codes ", " ++ second
fault_text (TlsMismatch name) = codes "tls mismatch of " ++ name
fault_text (NoEntry name) = codes "no entry " ++ name
fault_text (Undefined name site) = codes "undefined " ++ name ++ codes " at " ++ site_text site
fault_text (DroppedLocal site) = codes "dropped local at " ++ site_text site
fault_text (Unsupported code site) = codes "unsupported type " ++ decimal code ++ codes " at " ++ site_text site
fault_text (CopyOfZero name site) = codes "copy of empty " ++ name ++ codes " at " ++ site_text site
fault_text (ImportedTlsDirect name site) = codes "direct tls import " ++ name ++ codes " at " ++ site_text site
fault_text (Overflow site p s a value) = codes "overflow at " ++ site_text site ++ codes ": " ++ hex_text value

-- a fault's line
unfoldable pub fault_line : Fault → List ℕ
fault_line fault = codes "error: " ++ fault_text fault ++ codes "\n"

-- the variant's name
unfoldable pub limit_kind_name : LimitKind → List ℕ
limit_kind_name Inputs = codes "Inputs"
limit_kind_name InputSize = codes "InputSize"
limit_kind_name InputTotal = codes "InputTotal"
limit_kind_name Names = codes "Names"
limit_kind_name References = codes "References"
limit_kind_name Sections = codes "Sections"
limit_kind_name Headers = codes "Headers"
limit_kind_name Image = codes "Image"
limit_kind_name Memory = codes "Memory"

-- what is not built yet
unfoldable pub waiting_text : Waiting → List ℕ
waiting_text Words = codes "words"
waiting_text (Form path) = path

-- how a link that succeeded was made
unfoldable pub outcome_text : Outcome → List ℕ
outcome_text (Full None) = codes "full link"
outcome_text (Full (Some cause)) = codes "full link: " ++ cause_text cause
outcome_text Updated = codes "updated"

-- all that is said of a status; every line ends with a newline
unfoldable pub text_of : Status → List ℕ
text_of (Done outcome) = outcome_text outcome ++ codes "\n"
text_of (LinkError faults) = flat_map fault_line faults
text_of (Usage fault) = codes "usage: " ++ usage_text fault ++ codes "\n"
text_of (ReadFault path) = codes "error: cannot read " ++ path ++ codes "\n"
text_of DeviceFault = codes "error: output device failed\n"
text_of NoMemory = codes "error: no memory\n"
text_of (Limit fault) = codes "error: limit " ++ limit_kind_name fault.which ++ codes ": " ++ decimal fault.number ++ codes "\n"
text_of (NotUpdated cause) = codes "not updated: " ++ cause_text cause ++ codes "\n"
text_of (NotYet waiting) = codes "not built yet: " ++ waiting_text waiting ++ codes "\n"
