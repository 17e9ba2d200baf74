-- The relocation types that are linked (psABI x86-64 "Relocation Types"): the width of the field in
-- bytes, what its value is made of, and which values fit. The tests of types 12, 13, 14, 15, 21 and
-- 32 are this project's own.
use Rattle.std.specs.Prelude.{ℕ, ◌==◌, List, [], ◌∷◌, find, Option, unwrap_or, option_map}

-- what a value is made of: S the symbol, A the addend, P the place, L its PLT entry, Z its size
pub data Formula : Type 0 where
  NoValue : Formula  -- nothing is written
  Absolute : Formula  -- S + A
  Relative : Formula  -- S + A - P
  PltRelative : Formula  -- L + A - P
  SlotRelative : Formula  -- the GOT slot's address + A - P
  GotOffset : Formula  -- S + A - the GOT
  GotRelative : Formula  -- the GOT + A - P
  SymbolSize : Formula  -- Z + A
  DtpOffset : Formula  -- S + A - the start of the thread-local block
  TpOffset : Formula  -- S + A - the end of the thread-local block

-- which values a field takes
pub data RangeTest : Type 0 where
  AnyValue : RangeTest  -- every value modulo 2^64
  SignExtended : RangeTest  -- those that the field gives back with its sign
  ZeroExtended : RangeTest  -- those that it gives back with zeros
  EitherExtended : RangeTest  -- those of one of the two

-- a relocation type: its number, the width of its field in bytes, its value and its test
pub record RelocationType : Type 0 where
  pub code : ℕ
  pub width : ℕ
  pub formula : Formula
  pub test : RangeTest

-- a row of the table
abbrev pub row : ℕ → ℕ → Formula → RangeTest → RelocationType
row code width formula test = record { code = code; width = width; formula = formula; test = test }

-- all relocation types
unfoldable pub relocation_types : List RelocationType
relocation_types =
    row 0 0 NoValue AnyValue  -- NONE
    ∷ row 1 8 Absolute AnyValue  -- 64
    ∷ row 2 4 Relative SignExtended  -- PC32
    ∷ row 4 4 PltRelative SignExtended  -- PLT32
    ∷ row 9 4 SlotRelative SignExtended  -- GOTPCREL
    ∷ row 10 4 Absolute ZeroExtended  -- 32
    ∷ row 11 4 Absolute SignExtended  -- 32S
    ∷ row 12 2 Absolute EitherExtended  -- 16
    ∷ row 13 2 Relative SignExtended  -- PC16
    ∷ row 14 1 Absolute EitherExtended  -- 8
    ∷ row 15 1 Relative SignExtended  -- PC8
    ∷ row 17 8 DtpOffset AnyValue  -- DTPOFF64
    ∷ row 18 8 TpOffset AnyValue  -- TPOFF64
    ∷ row 21 4 DtpOffset SignExtended  -- DTPOFF32
    ∷ row 22 4 SlotRelative SignExtended  -- GOTTPOFF
    ∷ row 23 4 TpOffset SignExtended  -- TPOFF32
    ∷ row 24 8 Relative AnyValue  -- PC64
    ∷ row 25 8 GotOffset AnyValue  -- GOTOFF64
    ∷ row 26 4 GotRelative SignExtended  -- GOTPC32
    ∷ row 32 4 SymbolSize ZeroExtended  -- SIZE32
    ∷ row 33 8 SymbolSize AnyValue  -- SIZE64
    ∷ row 41 4 SlotRelative SignExtended  -- GOTPCRELX
    ∷ row 42 4 SlotRelative SignExtended  -- REX_GOTPCRELX
    ∷ []

-- the type with a number
unfoldable pub relocation_type_of : ℕ → Option RelocationType
relocation_type_of code = find (λ (t : RelocationType). t.code == code) relocation_types

-- the width of a type's field in bytes; 0 for a number that no type has
unfoldable pub width_of : ℕ → ℕ
width_of code = unwrap_or (option_map (λ (t : RelocationType). t.width) (relocation_type_of code)) 0
