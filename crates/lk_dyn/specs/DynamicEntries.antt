-- The entries of the dynamic section, as they are put one after another (gABI "Dynamic Section").
use Rattle.std.specs.Prelude.{ℕ, List, ◌++◌}
use Rattle.lk_elf.specs.Numbers.{dt_needed, dt_init_array, dt_fini_array, dt_init_arraysz, dt_fini_arraysz, dt_preinit_array, dt_preinit_arraysz}
use Rattle.lk_elf.specs.Records.{dyn_bytes}
use Rattle.lk_elf.specs.declared.dynamic_entry.Dyn.{Dyn}
use Rattle.lk_model.specs.DynamicSection.{array_entries, tagged, usual_dynamic_entries}
use Rattle.lk_model.specs.DynamicSizes.{fini_array_key, init_array_key, preinit_array_key}
use Rattle.lk_model.specs.Keys.{row_of}
use Rattle.lk_model.specs.Texts.{offset_in}
use Rattle.lk_model.specs.declared.layouts.Placement.{Placement}

-- the bytes of the entry of a name that is needed
abbrev pub needed_bytes : List (List ℕ) → List ℕ → List ℕ
needed_bytes texts name = dyn_bytes (tagged dt_needed (offset_in texts name))

-- the entries from those of the arrays on
abbrev pub section_entries : Placement → List Dyn
section_entries place =
    array_entries dt_preinit_array dt_preinit_arraysz (row_of place preinit_array_key)
    ++ array_entries dt_init_array dt_init_arraysz (row_of place init_array_key)
    ++ array_entries dt_fini_array dt_fini_arraysz (row_of place fini_array_key)
    ++ usual_dynamic_entries place
