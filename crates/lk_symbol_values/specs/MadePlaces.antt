-- The symbols of fixed names that the linker makes, by what fields hold of their values.
use Rattle.std.specs.Prelude.{ℕ, cond, List, [], ◌∷◌, Option, Some, None, codes}
use Rattle.std.specs.Option.{option_or}
use Rattle.std.specs.Str.{bytes_eq}
use Rattle.lk_model.specs.Keys.{row_of}
use Rattle.lk_model.specs.MadeSymbols.{MadeSymbol, bss_start, end_of, made, start_of}
use Rattle.lk_model.specs.SectionKeys.{named}
use Rattle.lk_model.specs.Segments.{second_segment_end, third_segment_end}
use Rattle.lk_model.specs.declared.layouts.Class.TheVariants.{W}
use Rattle.lk_model.specs.declared.layouts.Placement.{Placement}
use Rattle.lk_symbol_values.specs.Sections.{low_64}
use Rattle.lk_symbol_values.specs.declared.made_places.Bound.{Bound}
use Rattle.lk_symbol_values.specs.declared.made_places.MadePlaces.{MadePlaces}

-- where an array of functions begins and ends
abbrev pub array_bound : Placement → List ℕ → Bound
array_bound place name = record { start = low_64 (start_of (row_of place (named name W))); end = low_64 (end_of (row_of place (named name W))) }

-- the addresses that fixed names mean
abbrev pub made_places_of : Placement → MadePlaces
made_places_of place = record {
  got = low_64 (start_of (row_of place (named (codes ".got.plt") W)));
  dynamic = low_64 (start_of (row_of place (named (codes ".dynamic") W)));
  preinit_array = array_bound place (codes ".preinit_array");
  init_array = array_bound place (codes ".init_array");
  fini_array = array_bound place (codes ".fini_array");
  code_end = low_64 (second_segment_end place);
  bss = low_64 (bss_start place);
  end = low_64 (third_segment_end place);
}

-- the value of the first symbol of a name
abbrev pub value_among : List MadeSymbol → List ℕ → Option ℕ
value_among [] name = None
value_among (m ∷ ms) name = cond (bytes_eq m.name name) (Some m.value) (value_among ms name)

abbrev pub table_symbols : MadePlaces → List MadeSymbol
table_symbols places =
    made (codes "_GLOBAL_OFFSET_TABLE_") places.got
    ∷ made (codes "_DYNAMIC") places.dynamic
    ∷ made (codes "__ehdr_start") 4194304
    ∷ made (codes "__executable_start") 4194304
    ∷ []

abbrev pub array_symbols : MadePlaces → List MadeSymbol
array_symbols places =
    made (codes "__preinit_array_start") places.preinit_array.start
    ∷ made (codes "__preinit_array_end") places.preinit_array.end
    ∷ made (codes "__init_array_start") places.init_array.start
    ∷ made (codes "__init_array_end") places.init_array.end
    ∷ made (codes "__fini_array_start") places.fini_array.start
    ∷ made (codes "__fini_array_end") places.fini_array.end
    ∷ []

abbrev pub code_symbols : MadePlaces → List MadeSymbol
code_symbols places =
    made (codes "etext") places.code_end
    ∷ made (codes "_etext") places.code_end
    ∷ made (codes "__etext") places.code_end
    ∷ []

abbrev pub end_symbols : MadePlaces → List MadeSymbol
end_symbols places =
    made (codes "edata") places.bss
    ∷ made (codes "_edata") places.bss
    ∷ made (codes "__bss_start") places.bss
    ∷ made (codes "end") places.end
    ∷ made (codes "_end") places.end
    ∷ []

-- the value of a symbol of a fixed name
abbrev pub fixed_value : MadePlaces → List ℕ → Option ℕ
fixed_value places name =
    option_or (value_among (table_symbols places) name)
    (option_or (value_among (array_symbols places) name)
    (option_or (value_among (code_symbols places) name) (value_among (end_symbols places) name)))
