-- The procedure linkage table (psABI x86-64 "Procedure Linkage Table"), entry by entry: an instruction's
-- displacement counts from the end of the instruction.
use Rattle.std.specs.Prelude.{ℕ, ◌+◌, ◌*◌, List, [], ◌∷◌, ◌++◌, length, flat_map}
use Rattle.std.specs.List.{range_with_len}
use Rattle.lk_elf.specs.Fields.{bytes_of}
use Rattle.lk_model.specs.Amounts.{minus}
use Rattle.lk_model.specs.DynamicKeys.{plt_key}
use Rattle.lk_model.specs.DynamicSizes.{plt_entry_size}
use Rattle.lk_model.specs.Keys.{row_of}
use Rattle.lk_model.specs.MadeSymbols.{start_of}
use Rattle.lk_model.specs.SymbolValues.{got_address}
use Rattle.lk_model.specs.Views.{Resolved}
use Rattle.lk_model.specs.declared.layouts.Placement.{Placement}

-- a displacement of 32 bits to a target, from the end of its instruction
abbrev pub displacement : ℕ → ℕ → List ℕ
displacement target next = bytes_of 4 (minus target next)

-- the slot of entry n, through which it jumps; three words before the first are the dynamic linker's
abbrev pub jump_slot_address : ℕ → ℕ → ℕ
jump_slot_address got n = got + 8 * (3 + n)

-- the address of entry n, where the table begins at this address; the entry that calls the dynamic
-- linker comes before the first
abbrev pub plt_entry_address : ℕ → ℕ → ℕ
plt_entry_address plt n = plt + plt_entry_size * (1 + n)

-- the entry that calls the dynamic linker: `push GOT+8(%rip)`, `jmp *GOT+16(%rip)`, and a `nop`
abbrev pub first_entry_bytes : ℕ → ℕ → List ℕ
first_entry_bytes plt got =
    0xff ∷ 0x35 ∷ displacement (got + 8) (plt + 6)
    ++ 0xff ∷ 0x25 ∷ displacement (got + 16) (plt + 12)
    ++ 0x0f ∷ 0x1f ∷ 0x40 ∷ 0x00 ∷ []

-- entry n: `jmp *slot(%rip)`, `push $n`, `jmp` to the entry that calls the dynamic linker
abbrev pub plt_entry_bytes : ℕ → ℕ → ℕ → List ℕ
plt_entry_bytes plt got n =
    0xff ∷ 0x25 ∷ displacement (jump_slot_address got n) (plt_entry_address plt n + 6)
    ++ 0x68 ∷ bytes_of 4 n
    ++ 0xe9 ∷ displacement plt (plt_entry_address plt n + 16)

-- `.plt`: the entry that calls the dynamic linker, then those of the slot table's names
unfoldable pub plt_bytes : Resolved → Placement → List ℕ
plt_bytes r place =
    let plt = start_of (row_of place plt_key) in
    let got = got_address place in
    first_entry_bytes plt got ++ flat_map (plt_entry_bytes plt got) (range_with_len 0 (length place.slots.plt))
