-- Worked examples: each line once, with the exact bytes; a false one is refused.
use Rattle.std.specs.Prelude.{◌≡◌, false, [], ◌∷◌, Some, None, codes, negsuc, true, refl}
use Rattle.std.specs.Fmt.{decimal, digits}
use Rattle.lk_report.specs.declared.causes.Cause.TheVariants.{NoBase, BaseOpen, NotIncremental, OtherVersion, OptionsChanged, NewSection, MoreAlign, NoRoom, SmallHole, NoTableRoom, UpdateOverflow}
use Rattle.lk_report.specs.declared.faults.UsageFault.TheVariants.{UnknownWord, MissingValue, BadNumber, OpenLib, NestedLib, NoLibOpen, TwoOutputs, NoInput}
use Rattle.lk_report.specs.declared.faults.Fault.TheVariants.{Missing, Input, MultipleDefinition, TlsMismatch, NoEntry, Undefined, DroppedLocal, Unsupported, CopyOfZero, ImportedTlsDirect, Overflow}
use Rattle.lk_report.specs.declared.faults.Site.{Site}
use Rattle.lk_report.specs.declared.faults.InputFault.TheVariants.{Archive, Script, NotElf, WrongClass, WrongMachine, WrongType, BadTable, BadName, BadSymbol, BadRela, BadGroup, Compressed, UnsupportedSection, UnknownAlloc, UnsupportedSymbol, NoDynamic}
use Rattle.lk_report.specs.declared.statuses.Outcome.TheVariants.{Full, Updated}
use Rattle.lk_report.specs.declared.statuses.Waiting.TheVariants.{Words, Form}
use Rattle.lk_report.specs.declared.statuses.LimitKind.TheVariants.{Inputs, InputSize, InputTotal, Names, References, Sections, Headers, Image, Memory}
use Rattle.lk_report.specs.declared.statuses.Status.TheVariants.{Done, LinkError, Usage, ReadFault, DeviceFault, NoMemory, Limit, NotUpdated, NotYet}
use Rattle.lk_report.specs.declared.causes.OptionRecord.{OptionRecord}
use Rattle.lk_report.specs.Texts.{hex_text, site_text, cause_text, word_text, usage_text, input_fault_text, fault_text, fault_line, limit_kind_name, waiting_text, outcome_text, text_of}

-- numbers at their edges
numbers :
    (decimal 0 ≡ codes "0")
    × (decimal 10 ≡ codes "10")
    × (decimal 4294967295 ≡ codes "4294967295")
    × (decimal 18446744073709551615 ≡ codes "18446744073709551615")
    × (hex_text 0 ≡ codes "0x0")
    × (hex_text 255 ≡ codes "0xff")
    × (hex_text 18446744073709551615 ≡ codes "0xffffffffffffffff")
unfolding hex_text site_text cause_text word_text usage_text input_fault_text fault_text fault_line limit_kind_name waiting_text outcome_text text_of digits
numbers = (refl, refl, refl, refl, refl, refl, refl)

-- a place that the examples use
abbrev place : Site
place = record { path = codes "a.o"; section = 1; offset = 5 }

-- options that the examples use
abbrev options : OptionRecord
options = record { entry = codes "_start"; interp = []; runpath = []; patch = 10; export_dynamic = false; dynamic = true }

-- a place, its offset in hexadecimal
places :
    site_text place ≡ codes "a.o:1+0x5"
unfolding hex_text site_text cause_text word_text usage_text input_fault_text fault_text fault_line limit_kind_name waiting_text outcome_text text_of digits
places = refl

-- every cause
causes :
    (cause_text NoBase ≡ codes "no base")
    × (cause_text BaseOpen ≡ codes "base is open")
    × (cause_text NotIncremental ≡ codes "not an incremental image")
    × (cause_text (OtherVersion 2) ≡ codes "other version 2")
    × (cause_text (OptionsChanged options options) ≡ codes "options changed")
    × (cause_text (NewSection (codes ".text")) ≡ codes "new section .text")
    × (cause_text (MoreAlign (codes ".text") 16 32) ≡ codes "alignment of .text: 32 needed, 16 there")
    × (cause_text (NoRoom (codes ".text") 96 16) ≡ codes "no room in .text: 0x60 at 0x10")
    × (cause_text (SmallHole (codes ".eh_frame") 8) ≡ codes "hole of 0x8 in .eh_frame")
    × (cause_text (NoTableRoom (codes ".got") 18446744073709551615 64) ≡ codes "no room in table .got: 0xffffffffffffffff of 0x40")
    × (cause_text (UpdateOverflow 4198405 4198416 (negsuc 3) 4294967296) ≡ codes "overflow at 0x401005: 0x100000000")
unfolding hex_text site_text cause_text word_text usage_text input_fault_text fault_text fault_line limit_kind_name waiting_text outcome_text text_of digits
causes = (refl, refl, refl, refl, refl, refl, refl, refl, refl, refl, refl)

-- every fault of the words
usage_faults :
    (text_of (Usage (UnknownWord 1)) ≡ codes "usage: word 1: unknown\n")
    × (text_of (Usage (MissingValue 2)) ≡ codes "usage: word 2: value missing\n")
    × (text_of (Usage (BadNumber 3)) ≡ codes "usage: word 3: bad number\n")
    × (text_of (Usage (OpenLib 4)) ≡ codes "usage: word 4: lib not ended\n")
    × (text_of (Usage (NestedLib 5)) ≡ codes "usage: word 5: lib in lib\n")
    × (text_of (Usage (NoLibOpen 6)) ≡ codes "usage: word 6: no lib\n")
    × (text_of (Usage (TwoOutputs 4294967295)) ≡ codes "usage: word 4294967295: second output\n")
    × (text_of (Usage NoInput) ≡ codes "usage: no input\n")
unfolding hex_text site_text cause_text word_text usage_text input_fault_text fault_text fault_line limit_kind_name waiting_text outcome_text text_of digits
usage_faults = (refl, refl, refl, refl, refl, refl, refl, refl)

-- every fault of an input
input_faults :
    (fault_text (Input (codes "a.o") Archive) ≡ codes "a.o: Archive")
    × (fault_text (Input (codes "a.o") Script) ≡ codes "a.o: Script")
    × (fault_text (Input (codes "a.o") NotElf) ≡ codes "a.o: NotElf")
    × (fault_text (Input (codes "a.o") WrongClass) ≡ codes "a.o: WrongClass")
    × (fault_text (Input (codes "a.o") WrongMachine) ≡ codes "a.o: WrongMachine")
    × (fault_text (Input (codes "a.o") WrongType) ≡ codes "a.o: WrongType")
    × (fault_text (Input (codes "a.o") (BadTable 0)) ≡ codes "a.o: BadTable 0")
    × (fault_text (Input (codes "a.o") (BadName 3)) ≡ codes "a.o: BadName 3")
    × (fault_text (Input (codes "a.o") (BadSymbol 4)) ≡ codes "a.o: BadSymbol 4")
    × (fault_text (Input (codes "a.o") (BadRela 2 0)) ≡ codes "a.o: BadRela 2 0")
    × (fault_text (Input (codes "a.o") (BadGroup 5)) ≡ codes "a.o: BadGroup 5")
    × (fault_text (Input (codes "a.o") (Compressed 6)) ≡ codes "a.o: Compressed 6")
    × (fault_text (Input (codes "a.o") (UnsupportedSection 7)) ≡ codes "a.o: UnsupportedSection 7")
    × (fault_text (Input (codes "a.o") (UnknownAlloc 8)) ≡ codes "a.o: UnknownAlloc 8")
    × (fault_text (Input (codes "a.o") (UnsupportedSymbol 9)) ≡ codes "a.o: UnsupportedSymbol 9")
    × (fault_text (Input (codes "a.o") NoDynamic) ≡ codes "a.o: NoDynamic")
unfolding hex_text site_text cause_text word_text usage_text input_fault_text fault_text fault_line limit_kind_name waiting_text outcome_text text_of digits
input_faults = (refl, refl, refl, refl, refl, refl, refl, refl, refl, refl, refl, refl, refl, refl, refl, refl)

-- every fault of the link, as its line
faults :
    (fault_line (Missing (codes "-lq")) ≡ codes "error: missing -lq\n")
    × (fault_line (Input (codes "a.o") (BadRela 2 0)) ≡ codes "error: a.o: BadRela 2 0\n")
    × (fault_line (MultipleDefinition (codes "f") (codes "a.o") (codes "b.o")) ≡ codes "error: multiple definition of f: a.o, b.o\n")
    × (fault_line (TlsMismatch (codes "f")) ≡ codes "error: tls mismatch of f\n")
    × (fault_line (NoEntry (codes "_start")) ≡ codes "error: no entry _start\n")
    × (fault_line (Undefined (codes "g") place) ≡ codes "error: undefined g at a.o:1+0x5\n")
    × (fault_line (DroppedLocal place) ≡ codes "error: dropped local at a.o:1+0x5\n")
    × (fault_line (Unsupported 99 place) ≡ codes "error: unsupported type 99 at a.o:1+0x5\n")
    × (fault_line (CopyOfZero (codes "f") place) ≡ codes "error: copy of empty f at a.o:1+0x5\n")
    × (fault_line (ImportedTlsDirect (codes "f") place) ≡ codes "error: direct tls import f at a.o:1+0x5\n")
    × (fault_line (Overflow place 4198405 4198416 (negsuc 3) 4294967296) ≡ codes "error: overflow at a.o:1+0x5: 0x100000000\n")
unfolding hex_text site_text cause_text word_text usage_text input_fault_text fault_text fault_line limit_kind_name waiting_text outcome_text text_of digits
faults = (refl, refl, refl, refl, refl, refl, refl, refl, refl, refl, refl)

-- every limit
limits :
    (text_of (Limit (record { which = Inputs; number = 4097 })) ≡ codes "error: limit Inputs: 4097\n")
    × (text_of (Limit (record { which = InputSize; number = 4097 })) ≡ codes "error: limit InputSize: 4097\n")
    × (text_of (Limit (record { which = InputTotal; number = 4097 })) ≡ codes "error: limit InputTotal: 4097\n")
    × (text_of (Limit (record { which = Names; number = 4097 })) ≡ codes "error: limit Names: 4097\n")
    × (text_of (Limit (record { which = References; number = 4097 })) ≡ codes "error: limit References: 4097\n")
    × (text_of (Limit (record { which = Sections; number = 4097 })) ≡ codes "error: limit Sections: 4097\n")
    × (text_of (Limit (record { which = Headers; number = 4097 })) ≡ codes "error: limit Headers: 4097\n")
    × (text_of (Limit (record { which = Image; number = 4097 })) ≡ codes "error: limit Image: 4097\n")
    × (text_of (Limit (record { which = Memory; number = 4097 })) ≡ codes "error: limit Memory: 4097\n")
unfolding hex_text site_text cause_text word_text usage_text input_fault_text fault_text fault_line limit_kind_name waiting_text outcome_text text_of digits
limits = (refl, refl, refl, refl, refl, refl, refl, refl, refl)

-- every status
statuses :
    (text_of (Done (Full None)) ≡ codes "full link\n")
    × (text_of (Done (Full (Some (OptionsChanged options options)))) ≡ codes "full link: options changed\n")
    × (text_of (Done Updated) ≡ codes "updated\n")
    × (text_of (LinkError (Missing (codes "a.o") ∷ [])) ≡ codes "error: missing a.o\n")
    × (text_of (LinkError (Missing (codes "a.o") ∷ NoEntry (codes "_start") ∷ [])) ≡ codes "error: missing a.o\nerror: no entry _start\n")
    × (text_of (ReadFault (codes "c.o")) ≡ codes "error: cannot read c.o\n")
    × (text_of DeviceFault ≡ codes "error: output device failed\n")
    × (text_of NoMemory ≡ codes "error: no memory\n")
    × (text_of (Limit (record { which = Memory; number = 10145709240540261760 })) ≡ codes "error: limit Memory: 10145709240540261760\n")
    × (text_of (NotUpdated NoBase) ≡ codes "not updated: no base\n")
    × (text_of (NotUpdated (SmallHole (codes ".eh_frame") 8)) ≡ codes "not updated: hole of 0x8 in .eh_frame\n")
    × (text_of (NotYet Words) ≡ codes "not built yet: words\n")
    × (text_of (NotYet (Form (codes "a.o"))) ≡ codes "not built yet: a.o\n")
unfolding hex_text site_text cause_text word_text usage_text input_fault_text fault_text fault_line limit_kind_name waiting_text outcome_text text_of digits
statuses = (refl, refl, refl, refl, refl, refl, refl, refl, refl, refl, refl, refl, refl)
