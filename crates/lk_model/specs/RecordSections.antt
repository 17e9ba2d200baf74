-- The records of an image as its five sections (this project's own): the inputs, the names, the
-- references, the slots with the commons and copies, and the texts of the other four.
use Rattle.std.specs.Prelude.{ℕ, ◌+◌, ◌==◌, Bool, List, [], ◌∷◌, ◌++◌, length, drop, filter, Option, Some, None, option_map, position}
use Rattle.std.specs.List.{flat_map, enumerate_from}
use Rattle.lk_elf.specs.Fields.{unsigned64}
use Rattle.lk_model.specs.InputsSection.{bit, inputs_fields}
use Rattle.lk_model.specs.RecordFields.{Field, spelled, texts_of}
use Rattle.lk_model.specs.RecordFields.Field.{Short, Long, Text}
use Rattle.lk_model.specs.RecordForms.{Form, Values}
use Rattle.lk_model.specs.RecordForms.Form.{Num32, Num64, Text32}
use Rattle.lk_model.specs.RecordedPlace.{is_made_piece}
use Rattle.lk_model.specs.Texts.{table_of, table_bytes, offset_in}
use Rattle.lk_model.specs.declared.layouts.GotKey.{GotKey}
use Rattle.lk_model.specs.declared.layouts.GotOwner.{GotOwner}
use Rattle.lk_model.specs.declared.layouts.GotOwner.TheVariants as owner
use Rattle.lk_model.specs.declared.layouts.PieceId.{PieceId}
use Rattle.lk_model.specs.declared.layouts.PieceId.TheVariants as id
use Rattle.lk_model.specs.declared.layouts.PieceRow.{PieceRow}
use Rattle.lk_model.specs.declared.records.Five.{Five}
use Rattle.lk_model.specs.declared.records.NameRow.{NameRow}
use Rattle.lk_model.specs.declared.records.Records.{Records}
use Rattle.lk_model.specs.declared.records.Reference.{Reference}

-- the fields of a record with these values
abbrev pub flat : (fs : List Form) → Values fs → List Field
flat [] vs = []
flat (Num32 ∷ fs) (n, vs) = Short n ∷ flat fs vs
flat (Num64 ∷ fs) (n, vs) = Long n ∷ flat fs vs
flat (Text32 ∷ fs) (t, vs) = Text t ∷ flat fs vs

-- a number that may be absent, as the number plus 1, or 0
abbrev pub plus_one : Option ℕ → ℕ
plus_one None = 0
plus_one (Some n) = n + 1

-- ---- the names

-- whether a reference is one of a name
abbrev pub is_of_name : ℕ → Reference → Bool
is_of_name n reference = reference.name == n

-- a name: its text, its first reference, the kind of its winner and the winner's input
abbrev pub name_forms : List Form
name_forms = Text32 ∷ Num32 ∷ Num32 ∷ Num32 ∷ []

abbrev pub name_values : List Reference → ℕ × NameRow → Values name_forms
name_values references (n, row) = (row.name, (plus_one (position (is_of_name n) references), (row.winner, (plus_one row.input, tt))))

abbrev pub name_fields : List Reference → ℕ × NameRow → List Field
name_fields references row = flat name_forms (name_values references row)

-- the fields of `.gnu_incremental_symtab`: each name in order
unfoldable pub symtab_fields : Records → List Field
symtab_fields r = flat_map (name_fields r.references) (enumerate_from 0 r.names)

-- ---- the references

-- a reference: its input, section, offset, type, name and addend, the next reference of that name, and
-- whether its symbol is WEAK
abbrev pub reference_forms : List Form
reference_forms = Num32 ∷ Num32 ∷ Num64 ∷ Num32 ∷ Num32 ∷ Num64 ∷ Num32 ∷ Num32 ∷ []

-- the reference after this one that is of the same name, as its number plus 1, or 0
abbrev pub next_of : List Reference → ℕ × Reference → ℕ
next_of references (n, x) = plus_one (option_map (λ k. n + 1 + k) (position (is_of_name x.name) (drop (n + 1) references)))

abbrev pub reference_values : List Reference → ℕ × Reference → Values reference_forms
reference_values references (n, x) =
    (x.input, (x.section, (x.offset, (x.code, (x.name, (unsigned64 x.addend, (next_of references (n, x), (bit x.weak, tt))))))))

abbrev pub reference_fields : List Reference → ℕ × Reference → List Field
reference_fields references row = flat reference_forms (reference_values references row)

-- the fields of `.gnu_incremental_relocs`: each reference in order
unfoldable pub relocs_fields : Records → List Field
relocs_fields r = flat_map (reference_fields r.references) (enumerate_from 0 r.references)

-- ---- the slots, the commons and the copies

-- how many slots, entries, and commons and copies there are
abbrev pub slots_head_forms : List Form
slots_head_forms = Num32 ∷ Num32 ∷ Num32 ∷ Num32 ∷ []

-- a GOT slot: 0 where it is free, 1 for an address, 2 for a thread offset; the input of a LOCAL symbol,
-- and the number of the name or symbol
abbrev pub slot_forms : List Form
slot_forms = Num32 ∷ Num32 ∷ Num32 ∷ Num32 ∷ []

-- what is in place of an input in the slot of a name
abbrev pub no_input : ℕ
no_input = 0xffffffff

abbrev pub owner_input : GotOwner → ℕ
owner_input (owner.Global n) = no_input
owner_input (owner.Local i k) = i

abbrev pub owner_number : GotOwner → ℕ
owner_number (owner.Global n) = n
owner_number (owner.Local i k) = k

-- the kind of a slot
abbrev pub slot_kind : Option GotKey → ℕ
slot_kind None = 0
slot_kind (Some key) = 1 + bit key.thread

abbrev pub slot_values : Option GotKey → Values slot_forms
slot_values None = (0, (0, (0, (0, tt))))
slot_values (Some key) = (slot_kind (Some key), (owner_input key.owner, (owner_number key.owner, (0, tt))))

abbrev pub slot_fields : Option GotKey → List Field
slot_fields slot = flat slot_forms (slot_values slot)

-- a PLT entry: the name's number
abbrev pub entry_forms : List Form
entry_forms = Num32 ∷ []

abbrev pub entry_fields : ℕ → List Field
entry_fields name = flat entry_forms (name, tt)

-- a common or a copy: its kind, its name, its address, size and alignment
abbrev pub made_forms : List Form
made_forms = Num32 ∷ Num32 ∷ Num64 ∷ Num64 ∷ Num64 ∷ []

abbrev pub made_kind : PieceId → ℕ
made_kind (id.Section i s) = 0
made_kind (id.Common n) = 1
made_kind (id.Copy n) = 2

abbrev pub made_name : PieceId → ℕ
made_name (id.Section i s) = 0
made_name (id.Common n) = n
made_name (id.Copy n) = n

abbrev pub made_values : PieceRow → Values made_forms
made_values row = (made_kind row.piece, (made_name row.piece, (row.addr, (row.size, (row.align, tt)))))

abbrev pub made_fields : PieceRow → List Field
made_fields row = flat made_forms (made_values row)

-- the fields of `.gnu_incremental_got_plt`
unfoldable pub got_plt_fields : Records → List Field
got_plt_fields r =
    let made = filter is_made_piece r.placement.pieces in
    let slots = r.placement.slots in
    flat slots_head_forms (length slots.got, (length slots.plt, (length made, (0, tt))))
    ++ flat_map slot_fields slots.got ++ flat_map entry_fields slots.plt ++ flat_map made_fields made

-- ---- all five

-- the five sections that spell records; a number that does not fit its field is written by its low bytes
unfoldable pub spelling : Records → Five
spelling r =
    let inputs = inputs_fields r in
    let symtab = symtab_fields r in
    let relocs = relocs_fields r in
    let got_plt = got_plt_fields r in
    let table = table_of (texts_of (inputs ++ symtab ++ relocs ++ got_plt)) in
    record {
      inputs = spelled (offset_in table) inputs;
      symtab = spelled (offset_in table) symtab;
      relocs = spelled (offset_in table) relocs;
      got_plt = spelled (offset_in table) got_plt;
      strtab = table_bytes table;
    }
