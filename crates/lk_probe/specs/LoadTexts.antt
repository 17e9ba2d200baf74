-- What is said of what a loader makes of a file (this project's own; gABI "Program Loading", "Dynamic Section"):
-- a line for each run of bytes with its address, its size and its rights, the entry, the thread-local segment with
-- its address, its sizes in the file and in memory and its alignment, a line for each shared object that is
-- needed, and how many symbols and relocations there are; or why a loader takes no such file.
use Rattle.std.specs.Prelude.{◌≡◌, ℕ, List, [], ◌∷◌, ◌++◌, codes, flat_map, length, Option, Some, None, Result, Ok, Err}
use Rattle.std.specs.Fmt.{decimal}
use Rattle.lk_report.specs.FileMap.{FileMap}
use Rattle.lk_report.specs.declared.faults.Fault.TheVariants as fault
use Rattle.lk_report.specs.declared.statuses.Status.{Status}
use Rattle.lk_report.specs.declared.statuses.Status.TheVariants as status
use Rattle.lk_model.specs.Loads.{LoadRefusal, load_refusal}
use Rattle.lk_model.specs.declared.layouts.TlsSegment.{TlsSegment}
use Rattle.lk_loader.specs.LoadedImages.{loaded_image}
use Rattle.lk_loader.specs.declared.loads.Loaded.{Loaded}
use Rattle.lk_loader.specs.declared.loads.Run.{Run}
use Rattle.lk_inputs.specs.FileAnswers.{content_at}
use Rattle.lk_probe.specs.Rows.{field_text}

-- the line of a run
abbrev pub run_line : Run → List ℕ
run_line run = codes "run" ++ field_text run.addr ++ field_text (length run.bytes) ++ field_text run.flags ++ codes "\n"

-- the line of the thread-local segment, where there is one
abbrev pub tls_line : Option TlsSegment → List ℕ
tls_line None = []
tls_line (Some tls) = codes "tls" ++ field_text tls.addr ++ field_text tls.file ++ field_text tls.memory ++ field_text tls.align ++ codes "\n"

-- the line of a shared object that is needed
abbrev pub need_line : List ℕ → List ℕ
need_line name = codes "needs " ++ name ++ codes "\n"

-- what is said of what is loaded
abbrev pub loaded_text : Loaded → List ℕ
loaded_text loaded =
    flat_map run_line loaded.runs
    ++ codes "entry" ++ field_text loaded.entry ++ codes "\n"
    ++ tls_line loaded.tls
    ++ flat_map need_line loaded.needs
    ++ decimal (length loaded.symbols) ++ codes " symbols, " ++ decimal (length loaded.relocations) ++ codes " relocations\n"

-- what is said of a program header that is refused, by its number
abbrev pub numbered_text : ℕ → List ℕ → List ℕ
numbered_text header why = codes "refused: program header " ++ decimal header ++ why

-- what is said of a refusal
abbrev pub refusal_text : LoadRefusal → List ℕ
refusal_text LoadRefusal.NotElf = codes "refused: no ELF64 executable in little-endian byte order\n"
refusal_text (LoadRefusal.BadTable n) = numbered_text n (codes " or its range is not in the file\n")
refusal_text (LoadRefusal.Overlap n) = numbered_text n (codes " begins below the end of an earlier segment\n")
refusal_text LoadRefusal.BadDynamic = codes "refused: what the dynamic section names is not loaded\n"

-- what is said of an image with this refusal
abbrev pub image_text : Option LoadRefusal → List ℕ → List ℕ
image_text None image = loaded_text (loaded_image image)
image_text (Some refusal) image = refusal_text refusal

-- what is said of the file of a path by the map of the files: a read that failed may be in its place
abbrev pub ReportsLoad : List ℕ → FileMap → Result (List ℕ) Status → Type 0
ReportsLoad path there (Ok text) = (image : List ℕ) × (content_at there path ≡ Some image) × (text ≡ image_text (load_refusal image) image)
ReportsLoad path there (Err (status.LinkError faults)) = (content_at there path ≡ None) × (faults ≡ fault.Missing path ∷ [])
ReportsLoad path there (Err (status.ReadFault failed)) = failed ≡ path
ReportsLoad path there (Err status.NoMemory) = Unit {0}
ReportsLoad path there (Err _) = ⊥
