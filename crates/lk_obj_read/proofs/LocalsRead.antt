-- LOCAL symbols, by the place of the symbols in the file.
use Rattle.std.specs.Prelude.{◌≡◌, refl, ℕ, zero, suc, ◌+◌, ◌*◌, ◌<◌, ◌≤◌, ◌≢◌, List, [], ◌∷◌, length, option_map, unwrap_or, Option}
use Rattle.std.proofs.Common.{ap, arith, get_or, sym, ◌∙◌}
use Rattle.std.proofs.lemmas.List.FromFn.{get_or-map-range_with_len, length-map-range_with_len}
use Rattle.std.proofs.lemmas.Option.{slice_get-get_or, slice_get_past}
use Rattle.lk_elf.specs.Numbers.{sht_symtab, sym_size}
use Rattle.lk_elf.specs.Records.{sym_at}
use Rattle.lk_elf.specs.declared.section_header.Shdr.{Shdr}
use Rattle.lk_elf.specs.declared.symbol.Sym.{Sym}
use Rattle.lk_model.specs.Elf.{elf_of, elf_under, elf_with, first_of_type, symbols_of}
use Rattle.lk_model.specs.Objects.{local_in, local_with, null_symbol}
use Rattle.lk_model.specs.Views.{Elf}
use Rattle.lk_model.specs.declared.summaries.Local.{Local}
use Rattle.lk_obj_parts.specs.ElfViews.{elf_from}
use Rattle.lk_obj_parts.specs.SymbolParts.{local_among}
use Rattle.lk_obj_read.specs.ReadObjects.{AreAt, symbols_at}
use Rattle.lk_obj_read.specs.declared.symbol_places.SymbolPlace.{SymbolPlace}

-- ---- one symbol

-- a file that has these symbols
abbrev with_symbols : List Sym → Elf
with_symbols symbols = elf_from [] (record { e_ident = []; e_type = 0; e_machine = 0; e_version = 0; e_entry = 0; e_phoff = 0; e_shoff = 0; e_flags = 0; e_ehsize = 0; e_phentsize = 0; e_phnum = 0; e_shentsize = 0; e_shnum = 0; e_shstrndx = 0 }) [] symbols

pub null_reported : (local : Local) → ((elf : Elf) → elf.symbols ≡ [] → local ≡ local_in elf 0) → local ≡ null_symbol
unfolding local_in
null_reported local h = h (with_symbols []) refl

pub one_reported : (symbol : Sym) (local : Local) → ((elf : Elf) → elf.symbols ≡ symbol ∷ symbol ∷ [] → local ≡ local_in elf 1) → local ≡ local_with symbol
unfolding local_in
one_reported symbol local h = h (with_symbols (symbol ∷ symbol ∷ [])) refl

-- ---- by number

pub local_zero : (symbols : List Sym) (k : ℕ) → k ≡ 0 → local_among symbols k ≡ null_symbol
local_zero symbols zero e = refl
local_zero symbols (suc k) e = cc

past : (symbols : List Sym) (k : ℕ) → length symbols ≤ k → local_among symbols k ≡ null_symbol
past symbols zero l = refl
past symbols (suc k) l = ap (λ (o : Option Sym). unwrap_or (option_map local_with o) null_symbol) (slice_get_past symbols (suc k) l)

within : (symbols : List Sym) (k : ℕ) (d : Sym) → k ≢ 0 → k < length symbols → local_among symbols k ≡ local_with (get_or symbols k d)
within symbols zero d differ l = absurd (differ refl)
within symbols (suc k) d differ l = ap (λ (o : Option Sym). unwrap_or (option_map local_with o) null_symbol) (slice_get-get_or symbols (suc k) d l)

counted : (bytes : List ℕ) (place : SymbolPlace) → length (symbols_at bytes place) ≡ place.count
counted bytes place = length-map-range_with_len (λ k. sym_at bytes (place.at + sym_size * k)) 0 place.count

pub local_past : (bytes : List ℕ) (place : SymbolPlace) (k : ℕ) → place.count ≤ k → local_among (symbols_at bytes place) k ≡ null_symbol
local_past bytes place k l = past (symbols_at bytes place) k (omega (arith, l, counted bytes place))

pub local_there : (bytes : List ℕ) (place : SymbolPlace) (k : ℕ) → k ≢ 0 → k < place.count → local_among (symbols_at bytes place) k ≡ local_with (sym_at bytes (place.at + sym_size * k))
local_there bytes place k differ l =
    within (symbols_at bytes place) k (sym_at bytes 0) differ (omega (arith, l, counted bytes place))
    ∙ ap (λ s. local_with s) (get_or-map-range_with_len (λ k. sym_at bytes (place.at + sym_size * k)) 0 place.count k k (sym_at bytes 0) l (omega arith))

-- ---- the file's symbols

symbols_reported : (bytes : List ℕ) → (elf_of bytes).symbols ≡ symbols_of bytes (first_of_type sht_symtab (elf_of bytes).sections)
unfolding elf_of elf_under elf_with
symbols_reported bytes = refl

pub symbols_are_at : (bytes : List ℕ) (sections : List Shdr) (place : SymbolPlace) → sections ≡ (elf_of bytes).sections → AreAt bytes (symbols_of bytes (first_of_type sht_symtab sections)) place → AreAt bytes (elf_of bytes).symbols place
symbols_are_at bytes sections place same p = record {
  within = p.within;
  each =
      symbols_reported bytes
      ∙ ap (λ (hs : List Shdr). symbols_of bytes (first_of_type sht_symtab hs)) (sym same)
      ∙ p.each;
}
