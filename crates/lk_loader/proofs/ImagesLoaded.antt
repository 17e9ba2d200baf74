-- Of an image whose headers pass their checks: its runs rise and map what its headers map, and what it names
-- in one memory it names in the other.
use Rattle.std.specs.Prelude.{◌≡◌, refl, ℕ, ◌+◌, ◌-◌, ◌==◌, ◌&&◌, ◌<◌, ◌≤◌, Bool, true, false, not, min, nat_le, nat_lt, List, [], ◌∷◌, ◌++◌, cond, drop, find, flat_map, length, map, replicate, slice_index, take, Option, Some, None, Result, Ok, Err, option_map, if◌then◌else◌}
use Rattle.std.specs.Bool.{then_some}
use Rattle.std.specs.List.{AllByRecursion, enumerate_from}
use Rattle.std.specs.Option.{option_or}
use Rattle.std.proofs.Common.{ap, ◌∙◌, sym, subst, arith, ⊎_elim, inl, inr}
use Rattle.std.proofs.lemmas.Bool.{both_ways, cases_lt, eqb-true, leb-true}
use Rattle.std.proofs.lemmas.Bool.Decides.{nat_tests}
use Rattle.std.proofs.lemmas.List.{get_or-append_right, get_or-drop, get_or-replicate, get_or-take, get_or_append_left, length-append, length-drop, length-replicate, length-take}
use Rattle.lk_elf.specs.declared.program_header.Phdr.{Phdr}
use Rattle.lk_model.specs.Checks.{first_fault}
use Rattle.lk_model.specs.DynamicEntries.{counted_entries}
use Rattle.lk_model.specs.Elf.{lies_in}
use Rattle.lk_model.specs.InputsReading.{with_value}
use Rattle.lk_model.specs.Loading.{LoadedByte, headers_in, is_tls, loaded, loaded_by, tls_in}
use Rattle.lk_model.specs.Loads.{LoadRefusal, NamedParts, byte_in_memory, dynamic_relocations_in, dynamic_symbols_in, entry_in, header_refusals, is_executable_file, load_checks, load_refusal, named_by, named_in, needed_in, numbered_loads, overlap_refusals, segment_bytes}
use Rattle.lk_model.proofs.Checks.{first_fault-append}
use Rattle.lk_loader.specs.HeaderRows.{end_with, headers_refusal, overlap_from}
use Rattle.lk_loader.specs.LoadFaults.{Gives, IsFaultOf}
use Rattle.lk_loader.specs.LoadedImages.{MapsSame, load_symbol, loaded_image, tls_under}
use Rattle.lk_loader.specs.NamedTables.{reported}
use Rattle.lk_loader.specs.Runs.{RiseFrom, has_address, is_load, mapped_by, memory_under, run_memory, run_under, runs_in, runs_of}
use Rattle.lk_loader.specs.declared.loads.LoadFault.{LoadFault}
use Rattle.lk_loader.specs.declared.loads.LoadFault.TheVariants as fault
use Rattle.lk_loader.specs.declared.loads.Loaded.{Loaded}
use Rattle.lk_loader.specs.declared.parts.Named.{Named}
use Rattle.lk_loader.proofs.HeaderRefusals.{overlaps_are}
use mathlib.Core.Logic.{◌⊎◌}
use mathlib.Core.Path.{fun_ext}

-- ---- what the checks say

-- the range of a header lies in the file, or has no byte
abbrev FitsFile : List ℕ → Phdr → Type 0
FitsFile image h = (h.p_filesz ≡ 0) ⊎ (h.p_offset + h.p_filesz ≤ length image)

none_of : (a b : Option LoadRefusal) → option_or a b ≡ None → (a ≡ None) × (b ≡ None)
none_of None b e = (refl, e)
none_of (Some x) b e = absurd (cc)

none_both : (xs ys : List (Bool × LoadRefusal)) → first_fault (xs ++ ys) ≡ None → (first_fault xs ≡ None) × (first_fault ys ≡ None)
none_both xs ys e = none_of (first_fault xs) (first_fault ys) (sym (first_fault-append xs ys) ∙ e)

second_clear : (a b : Bool) (r s : LoadRefusal) → first_fault ((a, r) ∷ (b, s) ∷ []) ≡ None → b ≡ false
second_clear true b r s e = absurd (cc)
second_clear false true r s e = absurd (cc)
second_clear false false r s e = refl

fits_of : (empty lies : Bool) → (not empty && not lies) ≡ false → (empty ≡ true) ⊎ (lies ≡ true)
fits_of true lies e = inl refl
fits_of false true e = inr refl
fits_of false false e = absurd (both_ways true e refl)

header_fits : (image : List ℕ) (n : ℕ) (h : Phdr) → first_fault (header_refusals image (n, h)) ≡ None → FitsFile image h
header_fits image n h e =
    ⊎_elim
    (λ empty. inl (eqb-true h.p_filesz 0 empty))
    (λ lies. inr (leb-true (h.p_offset + h.p_filesz) (length image) lies))
    (fits_of (h.p_filesz == 0) (lies_in image h.p_offset h.p_filesz) (second_clear _ (not (h.p_filesz == 0) && not (lies_in image h.p_offset h.p_filesz)) (LoadRefusal.BadTable n) (LoadRefusal.BadTable n) e))

all_fit : (image : List ℕ) (n : ℕ) (hs : List Phdr) → first_fault (flat_map (header_refusals image) (enumerate_from n hs)) ≡ None → AllByRecursion (FitsFile image) hs
all_fit image n [] e = tt
all_fit image n (h ∷ hs) e =
    let parts = none_both (header_refusals image (n, h)) (flat_map (header_refusals image) (enumerate_from (n + 1) hs)) e in
    (header_fits image n h parts.0, all_fit image (n + 1) hs parts.1)

head_none : (c : Bool) (r : LoadRefusal) (rest : Option LoadRefusal) → cond c (Some r) rest ≡ None → (c ≡ false) × (rest ≡ None)
head_none true r rest e = absurd (cc)
head_none false r rest e = (refl, e)

map_none : (o : Option ℕ) → option_map LoadRefusal.Overlap o ≡ None → o ≡ None
map_none None e = refl
map_none (Some n) e = absurd (cc)

-- an image whose headers pass
record Passing (image : List ℕ) : Type 0 where
  fit : AllByRecursion (FitsFile image) (headers_in image)
  apart : overlap_from 0 0 (headers_in image) ≡ None

passing : (image : List ℕ) → first_fault (load_checks image) ≡ None → Passing image
unfolding load_checks
passing image e =
    let front = flat_map (header_refusals image) (enumerate_from 0 (headers_in image)) in
    let back = overlap_refusals (numbered_loads (headers_in image)) in
    let rest = (head_none (not (is_executable_file image)) LoadRefusal.NotElf (first_fault (front ++ back)) e).1 in
    let parts = none_both front back rest in
    record { fit = all_fit image 0 (headers_in image) parts.0; apart = map_none (overlap_from 0 0 (headers_in image)) (overlaps_are (headers_in image) ∙ parts.1) }

-- ---- one run

stored_length : (image : List ℕ) (h : Phdr) → FitsFile image h → length (take h.p_memsz (take h.p_filesz (drop h.p_offset image))) ≡ min h.p_memsz h.p_filesz
stored_length image h fits =
    let a = length-take h.p_memsz (take h.p_filesz (drop h.p_offset image)) in
    let b = length-take h.p_filesz (drop h.p_offset image) in
    let c = length-drop h.p_offset image in
    ⊎_elim (λ (e : h.p_filesz ≡ 0). omega (arith, a, b, c, e)) (λ (l : h.p_offset + h.p_filesz ≤ length image). omega (arith, a, b, c, l)) fits

memory_length : (image : List ℕ) (h : Phdr) → FitsFile image h → length (memory_under image h) ≡ h.p_memsz
memory_length image h fits =
    let front = take h.p_memsz (take h.p_filesz (drop h.p_offset image)) in
    let a = length-append front (replicate (h.p_memsz - h.p_filesz) 0) in
    let b = length-replicate {A = ℕ} (h.p_memsz - h.p_filesz) 0 in
    let c = stored_length image h fits in
    omega (arith, a, b, c)

memory_byte :
    (image : List ℕ) (h : Phdr) (k : ℕ)
    → FitsFile image h
    → k < h.p_memsz
    → slice_index (memory_under image h) k ≡ (if nat_lt k h.p_filesz then slice_index image (h.p_offset + k) else 0)
memory_byte image h k fits inside = ⊎_elim stored zeros (cases_lt k h.p_filesz)
  where
    size : length (take h.p_memsz (take h.p_filesz (drop h.p_offset image))) ≡ min h.p_memsz h.p_filesz
    size = stored_length image h fits

    stored : k < h.p_filesz → slice_index (memory_under image h) k ≡ (if nat_lt k h.p_filesz then slice_index image (h.p_offset + k) else 0)
    stored l =
        let front = take h.p_memsz (take h.p_filesz (drop h.p_offset image)) in
        let t : nat_lt k h.p_filesz ≡ true = grind (arith, nat_tests) in
        let s = size in
        rw t
        (get_or_append_left front (replicate (h.p_memsz - h.p_filesz) 0) 0 k (omega (arith, s, l, inside))
        ∙ (get_or-take h.p_memsz (take h.p_filesz (drop h.p_offset image)) k 0 inside
        ∙ (get_or-take h.p_filesz (drop h.p_offset image) k 0 l
        ∙ get_or-drop h.p_offset image k 0)))

    zeros : h.p_filesz ≤ k → slice_index (memory_under image h) k ≡ (if nat_lt k h.p_filesz then slice_index image (h.p_offset + k) else 0)
    zeros l =
        let front = take h.p_memsz (take h.p_filesz (drop h.p_offset image)) in
        let t : nat_lt k h.p_filesz ≡ false = grind (arith, nat_tests) in
        let s = size in
        rw t
        (get_or-append_right front (replicate (h.p_memsz - h.p_filesz) 0) h.p_filesz k 0 (omega (arith, s, l, inside)) l
        ∙ get_or-replicate (h.p_memsz - h.p_filesz) (k - h.p_filesz) 0 0 (omega (arith, l, inside)))

-- ---- all runs

step_none : (load below : Bool) (n : ℕ) (rest : Option ℕ) → (if load && below then Some n else rest) ≡ None → (load ≡ true → below ≡ false) × (rest ≡ None)
step_none true true n rest e = absurd (cc)
step_none true false n rest e = (λ _. refl, e)
step_none false below n rest e = (λ f. absurd (both_ways false refl f), e)

not_below : (v end : ℕ) → nat_lt v end ≡ false → end ≤ v
not_below v end e = grind (arith, nat_tests)

rise : (image : List ℕ) (end n : ℕ) (hs : List Phdr) → overlap_from end n hs ≡ None → AllByRecursion (FitsFile image) hs → RiseFrom end (runs_of image hs)
rise image end n [] none fits = tt
rise image end n (h ∷ hs) none fits = go (is_load h) refl (λ other clear. rise image other (n + 1) hs clear fits.1)
  where
    parts : (is_load h ≡ true → nat_lt h.p_vaddr end ≡ false) × (overlap_from (end_with end h) (n + 1) hs ≡ None)
    parts = step_none (is_load h) (nat_lt h.p_vaddr end) n (overlap_from (end_with end h) (n + 1) hs) none

    go : (t : Bool) → is_load h ≡ t → ((other : ℕ) → overlap_from other (n + 1) hs ≡ None → RiseFrom other (runs_of image hs)) → RiseFrom end (runs_of image (h ∷ hs))
    go true e more =
        let rest : overlap_from (h.p_vaddr + h.p_memsz) (n + 1) hs ≡ None = rw e at parts.1 in
        let size : h.p_memsz ≡ length (memory_under image h) = sym (memory_length image h fits.0) in
        let first : end ≤ h.p_vaddr = not_below h.p_vaddr end (parts.0 e) in
        let next : RiseFrom (h.p_vaddr + length (memory_under image h)) (runs_of image hs) = subst (λ m. RiseFrom (h.p_vaddr + m) (runs_of image hs)) size (more (h.p_vaddr + h.p_memsz) rest) in
        rw e (first, next)
    go false e more =
        let rest : overlap_from end (n + 1) hs ≡ None = rw e at parts.1 in
        rw e (more end rest)

-- runs map what their headers map
mapped_same : (image : List ℕ) (a : ℕ) (hs : List Phdr) → AllByRecursion (FitsFile image) hs → mapped_by (runs_of image hs) a ≡ loaded_by image hs a
mapped_same image a [] fits = refl
mapped_same image a (h ∷ hs) fits = go (is_load h) (nat_le h.p_vaddr a && nat_lt a (h.p_vaddr + h.p_memsz)) refl refl (mapped_same image a hs fits.1)
  where
    has : has_address a (run_under image h) ≡ (nat_le h.p_vaddr a && nat_lt a (h.p_vaddr + h.p_memsz))
    has = ap (λ m. nat_le h.p_vaddr a && nat_lt a (h.p_vaddr + m)) (memory_length image h fits.0)

    go : (t inside : Bool) → is_load h ≡ t → (nat_le h.p_vaddr a && nat_lt a (h.p_vaddr + h.p_memsz)) ≡ inside → mapped_by (runs_of image hs) a ≡ loaded_by image hs a → mapped_by (runs_of image (h ∷ hs)) a ≡ loaded_by image (h ∷ hs) a
    go false inside e f rest = rw e rest
    go true false e f rest =
        let none : has_address a (run_under image h) ≡ false = has ∙ f in
        rw (e, none, f) rest
    go true true e f rest =
        let one : has_address a (run_under image h) ≡ true = has ∙ f in
        let from : h.p_vaddr ≤ a = grind (arith, nat_tests) in
        let below : a < h.p_vaddr + h.p_memsz = grind (arith, nat_tests) in
        rw (e, one, f) (ap (λ b. Some (record { byte = b; rights = h.p_flags })) (memory_byte image h (a - h.p_vaddr) fits.0 (omega (arith, from, below))))

-- ---- the image

pub runs_rise : (image : List ℕ) → first_fault (load_checks image) ≡ None → RiseFrom 0 (runs_of image (headers_in image))
runs_rise image e = let p = passing image e in rise image 0 0 (headers_in image) p.apart p.fit

runs_map : (image : List ℕ) (a : ℕ) → first_fault (load_checks image) ≡ None → mapped_by (runs_of image (headers_in image)) a ≡ loaded image a
unfolding loaded
runs_map image a e = mapped_same image a (headers_in image) (passing image e).fit

memory_same : (image : List ℕ) → first_fault (load_checks image) ≡ None → run_memory (runs_of image (headers_in image)) ≡ byte_in_memory image (headers_in image)
memory_same image e = fun_ext (λ a. ap (option_map (λ (b : LoadedByte). b.byte)) (mapped_same image a (headers_in image) (passing image e).fit))

-- what a segment names in a memory
abbrev pub named_through : (ℕ → Option ℕ) → Option Phdr → Option NamedParts
named_through memory segment = with_value (segment_bytes memory segment) (λ bytes. named_by memory (counted_entries bytes 0 (length bytes)))

named_same : (image : List ℕ) → first_fault (load_checks image) ≡ None → named_through (run_memory (runs_of image (headers_in image))) (find (λ (h : Phdr). h.p_type == 2) (headers_in image)) ≡ named_in image
unfolding named_in
named_same image e = ap (λ (memory : ℕ → Option ℕ). named_through memory (find (λ (h : Phdr). h.p_type == 2) (headers_in image))) (memory_same image e)

none_reported : (o : Option NamedParts) → None ≡ option_map reported o → o ≡ None
none_reported None e = refl
none_reported (Some parts) e = absurd (cc)

-- an image of which what DYNAMIC names is not there
pub dynamic_missing :
    (image : List ℕ)
    → first_fault (load_checks image) ≡ None
    → None ≡ option_map reported (named_through (run_memory (runs_of image (headers_in image))) (find (λ (h : Phdr). h.p_type == 2) (headers_in image)))
    → load_refusal image ≡ Some LoadRefusal.BadDynamic
unfolding load_refusal
dynamic_missing image e none =
    let missing : named_in image ≡ None = sym (named_same image e) ∙ none_reported _ none in
    rw (e, missing) refl

-- what is made of an image of which all is there
abbrev pub loaded_with : List ℕ → Named → Loaded
loaded_with image named = record {
  runs = runs_of image (headers_in image);
  needs = named.needed;
  symbols = named.symbols;
  relocations = named.relocations;
  tls = option_map tls_under (find is_tls (headers_in image));
  entry = entry_in image;
}

-- the same, where what DYNAMIC names is this
abbrev loaded_of : List ℕ → Option NamedParts → Loaded
loaded_of image o = record {
  runs = runs_of image (headers_in image);
  needs = elim o [ None ↦ [] | Some named ↦ named.needed ];
  symbols = map load_symbol (elim o [ None ↦ [] | Some named ↦ named.symbols ]);
  relocations = elim o [ None ↦ [] | Some named ↦ named.relocations ];
  tls = option_map tls_under (find is_tls (headers_in image));
  entry = entry_in image;
}

taken_as :
    (image : List ℕ) (named : Named) (o : Option NamedParts)
    → first_fault (load_checks image) ≡ None
    → named_in image ≡ o
    → Some named ≡ option_map reported o
    → (load_refusal image ≡ None) × (loaded_with image named ≡ loaded_image image)
unfolding load_refusal loaded_image needed_in dynamic_symbols_in dynamic_relocations_in runs_in tls_in
taken_as image named None e is found = absurd (cc)
taken_as image named (Some parts) e is found =
    let same : named ≡ reported parts = cc in
    (rw (e, is) refl, ap (loaded_with image) same ∙ sym (ap (loaded_of image) is))

pub dynamic_found :
    (image : List ℕ) (named : Named)
    → first_fault (load_checks image) ≡ None
    → Some named ≡ option_map reported (named_through (run_memory (runs_of image (headers_in image))) (find (λ (h : Phdr). h.p_type == 2) (headers_in image)))
    → (load_refusal image ≡ None) × (loaded_with image named ≡ loaded_image image)
dynamic_found image named e found = taken_as image named (named_in image) e refl (found ∙ ap (option_map reported) (named_same image e))

-- ---- the checks in order

pub not_executable : (image : List ℕ) (refusal : LoadRefusal) → then_some (not (is_executable_file image)) LoadRefusal.NotElf ≡ Some refusal → load_refusal image ≡ Some refusal
unfolding load_refusal load_checks
not_executable image refusal e = go (not (is_executable_file image)) refl
  where
    go : (b : Bool) → not (is_executable_file image) ≡ b → load_refusal image ≡ Some refusal
    go true f = let t : Some LoadRefusal.NotElf ≡ Some refusal = rw f at e in rw f t
    go false f = let t : None ≡ Some refusal = rw f at e in absurd (cc)

executable : (image : List ℕ) → then_some (not (is_executable_file image)) LoadRefusal.NotElf ≡ None → first_fault (load_checks image) ≡ headers_refusal image
unfolding load_checks
executable image e = go (not (is_executable_file image)) refl
  where
    go : (b : Bool) → not (is_executable_file image) ≡ b → first_fault (load_checks image) ≡ headers_refusal image
    go true f = let t : Some LoadRefusal.NotElf ≡ None = rw f at e in absurd (cc)
    go false f = rw f refl

pub headers_refuse : (image : List ℕ) (refusal : LoadRefusal) → then_some (not (is_executable_file image)) LoadRefusal.NotElf ≡ None → headers_refusal image ≡ Some refusal → load_refusal image ≡ Some refusal
unfolding load_refusal
headers_refuse image refusal e f = let all : first_fault (load_checks image) ≡ Some refusal = executable image e ∙ f in rw all refl

pub headers_pass : (image : List ℕ) → then_some (not (is_executable_file image)) LoadRefusal.NotElf ≡ None → headers_refusal image ≡ None → first_fault (load_checks image) ≡ None
headers_pass image e f = executable image e ∙ f

-- a fault of one refusal is that of another one, which the first is
pub fault_kept : (a b : Option LoadRefusal) (f : LoadFault) → ((refusal : LoadRefusal) → a ≡ Some refusal → b ≡ Some refusal) → IsFaultOf a f → IsFaultOf b f
fault_kept a b fault.NotElf h e = h LoadRefusal.NotElf e
fault_kept a b (fault.BadTable n) h e = h (LoadRefusal.BadTable n) e
fault_kept a b (fault.Overlap n) h e = h (LoadRefusal.Overlap n) e
fault_kept a b fault.BadDynamic h e = h LoadRefusal.BadDynamic e
fault_kept a b fault.NoMemory h e = tt

-- what a loader makes of an image maps what the headers of the image map
pub maps_same : (image : List ℕ) (result : Result Loaded LoadFault) → first_fault (load_checks image) ≡ None → Gives (load_refusal image) (loaded_image image) result → MapsSame image result
unfolding loaded_image runs_in
maps_same image (Ok found) e given = λ address. ap (λ (x : Loaded). mapped_by x.runs address) given.1 ∙ runs_map image address e
maps_same image (Err f) e given = tt

-- so of results
pub refused_so :
    {A : Type 0} (a b : Option LoadRefusal) (value : A) (f : LoadFault) (result : Result A LoadFault)
    → ((refusal : LoadRefusal) → a ≡ Some refusal → b ≡ Some refusal)
    → IsFaultOf a f
    → result ≡ Err f
    → Gives b value result
refused_so a b value f result h e is = subst (Gives b value) (sym is) (fault_kept a b f h e)
