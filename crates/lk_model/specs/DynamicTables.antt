-- The tables that a dynamic link makes (gABI "Dynamic Linking"; psABI x86-64 "Dynamic Linking"), each by
-- its output section.
use Rattle.std.specs.Prelude.{ℕ, if◌then◌else◌, List, []}
use Rattle.lk_model.specs.DynamicKeys.{interp_key, hash_key, dynsym_key, dynstr_key, rela_dyn_key, rela_plt_key, plt_key, dynamic_key}
use Rattle.lk_model.specs.DynamicNames.{dynamic_name_texts}
use Rattle.lk_model.specs.DynamicRelocations.{rela_dyn_bytes, rela_plt_bytes}
use Rattle.lk_model.specs.DynamicSection.{dynamic_bytes}
use Rattle.lk_model.specs.DynamicSymbols.{dynsym_bytes}
use Rattle.lk_model.specs.DynamicTexts.{dynamic_texts, interp_bytes}
use Rattle.lk_model.specs.HashTable.{hash_bytes}
use Rattle.lk_model.specs.PltEntries.{plt_bytes}
use Rattle.lk_model.specs.SectionKeys.{same_key}
use Rattle.lk_model.specs.Texts.{table_bytes}
use Rattle.lk_model.specs.Views.{Resolved}
use Rattle.lk_model.specs.declared.layouts.Placement.{Placement}
use Rattle.lk_model.specs.declared.layouts.SectionKey.{SectionKey}

-- the bytes of a table by its output section; none for a section that is none of the eight
unfoldable pub dynamic_table_of_key : Resolved → Placement → SectionKey → List ℕ
dynamic_table_of_key r place key =
    if same_key key interp_key then interp_bytes r
    else if same_key key hash_key then hash_bytes (dynamic_name_texts r)
    else if same_key key dynsym_key then dynsym_bytes r place
    else if same_key key dynstr_key then table_bytes (dynamic_texts r)
    else if same_key key rela_dyn_key then rela_dyn_bytes r place
    else if same_key key rela_plt_key then rela_plt_bytes r place
    else if same_key key plt_key then plt_bytes r place
    else if same_key key dynamic_key then dynamic_bytes r place
    else []
