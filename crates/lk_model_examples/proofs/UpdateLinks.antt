-- Small links and their updates, of which the examples speak.
use Rattle.std.specs.Prelude.{ℕ, negsuc, pos, List, [], ◌∷◌, codes, Some}
use Rattle.lk_elf.specs.Numbers.{shf_alloc}
use Rattle.lk_elf.specs.declared.relocation.Rela.{Rela}
use Rattle.lk_report.specs.declared.stamps.Stamp.{Stamp}
use Rattle.lk_model_examples.proofs.ResolutionInputs.{elf_with, no_elf, object_in, piece_named, plain_options, relocation, strong, undefined}
use Rattle.lk_model.proofs.SmallLinks.{got_rows, no_slots, placed, row}
use Rattle.lk_model_examples.proofs.UpdateComputed.{recorded_link, link_now}
use Rattle.lk_model.specs.Views.{Input, Resolved}
use Rattle.lk_model.specs.declared.commands.Mark.{Mark}
use Rattle.lk_model.specs.declared.layouts.Class.{Class}
use Rattle.lk_model.specs.declared.layouts.Class.TheVariants.{X}
use Rattle.lk_model.specs.declared.layouts.Placement.{Placement}
use Rattle.lk_model.specs.declared.records.Records.{Records}
use Rattle.lk_model.specs.declared.summaries.PieceInfo.{PieceInfo}

-- the stamps of a file before and after a change
abbrev pub old : Stamp
old = record { length = 100; modified = pos 1 }

abbrev pub new : Stamp
new = record { length = 100; modified = negsuc 0 }

abbrev pub stamped : Stamp → Input → Input
stamped stamp x = record x { stamp = Some stamp }

abbrev pub marked : Mark → Input → Input
marked m x = record x { mark = m }

-- an input whose file is not looked at
abbrev pub unread : Input → Input
unread x = record x { elf = no_elf }

-- a section by number, name, class, size and alignment
abbrev pub part : ℕ → List ℕ → Class → ℕ → ℕ → PieceInfo
part section name class size align = record (piece_named section name class) { size = size; align = align }

abbrev pub code : ℕ → ℕ → PieceInfo
code size align = part 1 (codes ".text") X size align

-- an object that begins the program and refers to `f` in its code at offset 5, by this type
abbrev pub caller : ℕ → List PieceInfo → Input
caller type pieces =
    let call : Rela = record (relocation 5 2 type) { r_addend = negsuc 3 } in
    stamped old (object_in 0 (codes "a.o") pieces (strong 1 (codes "_start") 1 ∷ undefined 2 (codes "f") ∷ []) [] (elf_with shf_alloc 0 [] (call ∷ [])))

-- the object that defines `f`
abbrev pub callee : List PieceInfo → Input
callee pieces = stamped old (object_in 0 (codes "b.o") pieces (strong 1 (codes "f") 1 ∷ []) [] no_elf)

-- an object that defines `g`
abbrev pub third : ℕ → Input
third size = stamped old (object_in 0 (codes "c.o") (code size 16 ∷ []) (strong 1 (codes "g") 1 ∷ []) [] no_elf)

-- code of 32, 16 and 16 bytes, in a room of 128
abbrev pub three : Records
three = recorded_link plain_options (caller 2 (code 32 16 ∷ []) ∷ callee (code 16 16 ∷ []) ∷ third 16 ∷ [])

-- the same inputs, where the second has other pieces now
abbrev pub three_inputs : List PieceInfo → List Input
three_inputs pieces = unread (caller 2 (code 32 16 ∷ [])) ∷ stamped new (callee pieces) ∷ third 16 ∷ []

abbrev pub three_now : List PieceInfo → Resolved
three_now pieces = link_now three (1 ∷ []) plain_options (three_inputs pieces)

-- where they are after `f` became 48 bytes long: 16 bytes are given up, and the piece goes behind the
-- others
abbrev pub moved : Placement
moved = record {
  sections = row (codes ".text") X 0x401000 128 128 16 ∷ got_rows 0x402000;
  pieces = placed 0 1 0 0x401000 32 16 ∷ placed 1 1 0 0x401040 48 16 ∷ placed 2 1 0 0x401030 16 16 ∷ [];
  slots = no_slots;
}
