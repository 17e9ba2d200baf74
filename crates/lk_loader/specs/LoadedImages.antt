-- What a loader makes of an image, as one value (gABI "Program Loading", "Dynamic Section", "Thread-Local
-- Storage"). Of an image that is refused nothing is asked of it.
use Rattle.std.specs.Prelude.{◌≡◌, ℕ, List, map, option_map, Result, Ok, Err}
use Rattle.lk_elf.specs.declared.program_header.Phdr.{Phdr}
use Rattle.lk_model.specs.Loading.{loaded, tls_in}
use Rattle.lk_model.specs.Loads.{LoadedSymbol, dynamic_relocations_in, dynamic_symbols_in, entry_in, needed_in}
use Rattle.lk_model.specs.declared.layouts.TlsSegment.{TlsSegment}
use Rattle.lk_loader.specs.Runs.{mapped_by, runs_in}
use Rattle.lk_loader.specs.declared.loads.LoadFault.{LoadFault}
use Rattle.lk_loader.specs.declared.loads.LoadSymbol.{LoadSymbol}
use Rattle.lk_loader.specs.declared.loads.Loaded.{Loaded}

-- a symbol as a loader returns it
abbrev pub load_symbol : LoadedSymbol → LoadSymbol
load_symbol s = record { name = s.name; value = s.value; size = s.size; info = s.info; defined = s.defined }

-- the thread-local segment of its header
abbrev pub tls_under : Phdr → TlsSegment
tls_under h = record { addr = h.p_vaddr; file = h.p_filesz; memory = h.p_memsz; align = h.p_align }

-- what a loader makes of an image
unfoldable pub loaded_image : List ℕ → Loaded
loaded_image image = record {
  runs = runs_in image;
  needs = needed_in image;
  symbols = map load_symbol (dynamic_symbols_in image);
  relocations = dynamic_relocations_in image;
  tls = option_map tls_under (tls_in image);
  entry = entry_in image;
}

-- the runs say the same of every address as the program headers: the byte there with its rights, or that
-- nothing is loaded there
abbrev pub MapsSame : List ℕ → Result Loaded LoadFault → Type 0
MapsSame image (Ok found) = (address : ℕ) → mapped_by found.runs address ≡ loaded image address
MapsSame image (Err fault) = Unit {0}
