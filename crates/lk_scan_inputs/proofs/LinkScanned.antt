-- The scans of the objects of a link, in adding order, are what lk_model finds of the whole link.
use Rattle.std.proofs.Common.{◌≡◌, refl, sym, ap, ◌∙◌, subst, arith, ℕ, zero, suc, ◌+◌, ◌<◌, nat_eq, Bool, true, false, ◌||◌, cond, List, [], ◌∷◌, ◌++◌, drop, fold, get_or, length, map, Option, Some, None, Result, Ok, Err, slice_get}
use Rattle.std.specs.Prelude.{option_map}
use Rattle.std.proofs.lemmas.Bool.{eq-eqb}
use Rattle.std.proofs.lemmas.List.{append-nil, append_assoc, drop_more, length-map}
use Rattle.lk_report.specs.declared.causes.OptionRecord.{OptionRecord}
use Rattle.lk_model.specs.Elf.{elf_of}
use Rattle.lk_model.specs.Finding.{Found}
use Rattle.lk_model.specs.Numbered.{is_number_in}
use Rattle.lk_model.specs.Objects.{summary_in}
use Rattle.lk_model.specs.References.{recorded_of}
use Rattle.lk_model.specs.Resolving.{resolve}
use Rattle.lk_model.specs.ScanFaults.{scan_faults}
use Rattle.lk_model.specs.Views.{Elf, Input, Resolved}
use Rattle.lk_model.proofs.Finding.{found_in-resolve}
use Rattle.lk_resolve.specs.Given.{found_in}
use Rattle.lk_inputs.specs.declared.input_files.InputFile.{InputFile}
use Rattle.lk_model.specs.declared.input_names.InputName.{InputName}
use Rattle.lk_inputs.specs.Named.{files_of}
use Rattle.lk_resolve.specs.Settling.{IsFound, ResolutionValue}
use Rattle.lk_scan.specs.LinkScans.{ScansAreTheLinks, all_joined, input_scan, joined, scan_of}
use Rattle.lk_scan.specs.Noted.{nothing_noted}
use Rattle.lk_scan.specs.Scans.{Answers, object_references, references_in}
use Rattle.lk_scan.specs.declared.noting.Scan.{Scan}
use Rattle.lk_scan.specs.declared.scans.ScanFailure.{ScanFailure}
use Rattle.lk_scan.specs.declared.scans.ScanFailure.TheVariants as failure
use Rattle.lk_scan.specs.declared.scans.Scanned.{Scanned}
use Rattle.lk_scan_inputs.specs.Objects.{AreObjects, HasObjects, IsObject, input_name, input_names, objects_from, objects_of}
use Rattle.lk_scan_inputs.specs.Scans.{InputsScanned, object_in, scan_with, scans_of}
use Rattle.lk_scan_inputs.specs.declared.link_scanning.ScannedInputs.{ScannedInputs}
use Rattle.lk_scan_inputs.specs.declared.object_reading.LinkObjects.{LinkObjects}

-- ---- the object of an added input

eqb-same : (n : ℕ) → nat_eq n n ≡ true
eqb-same n = eq-eqb n n refl

-- the numbers of a list are in it
is_in : (before : List ℕ) (n : ℕ) (after : List ℕ) → is_number_in (before ++ n ∷ after) n ≡ true
is_in [] n after = ap (λ b. b || is_number_in after n) (eqb-same n)
is_in (m ∷ before) n after = by (nat_eq n m) (is_in before n after)
  where
    by : (b : Bool) → is_number_in (before ++ n ∷ after) n ≡ true → (b || is_number_in (before ++ n ∷ after) n) ≡ true
    by true h = refl
    by false h = h

bytes_of : Input → List ℕ
bytes_of x = x.elf.bytes

-- the object of an added input has the bytes of its file
object_of-added : (k : ℕ) (added : List ℕ) (xs : List Input) (n : ℕ) → is_number_in added (k + n) ≡ true
    → object_in (objects_from k added (files_of xs)) n ≡ option_map bytes_of (slice_get xs n)
unfolding bytes_of
object_of-added k added [] n h = refl
object_of-added k added (x ∷ xs) zero h =
    let here : is_number_in added k ≡ true = subst (λ (m : ℕ). is_number_in added m ≡ true) (let e : k + 0 ≡ k = omega arith in e) h in
    ap (λ (b : Bool). let o : Option (List ℕ) = cond b (Some x.elf.bytes) None in o) here
object_of-added k added (x ∷ xs) (suc n) h =
    object_of-added (k + 1) added xs n (subst (λ (m : ℕ). is_number_in added m ≡ true) (let e : k + suc n ≡ k + 1 + n = omega arith in e) h)

-- ---- one scan after another

joined-nothing : (s : Scan) → s ≡ joined s nothing_noted
joined-nothing s = λ i. record { needs = s.needs; reported = s.reported; references = sym (append-nil s.references) i }

pub object_at : (xs : List Input) (n : ℕ) (x : Input) → slice_get xs n ≡ Some x → AreObjects xs → IsObject x
object_at [] n x e h = absurd (cc)
object_at (y ∷ xs) zero x e h = let same : y ≡ x = cc in subst IsObject same h.0
object_at (y ∷ xs) (suc n) x e h = object_at xs n x e h.1

module _ (found : Found) (added : List ℕ) (xs : List Input) (sound : AreObjects xs) where
  objects : List (Option (List ℕ))
  objects = objects_of added (files_of xs)

  -- scanning the object of an added input joins the scan of this input, as lk_model has it
  input_scanned : (s : Scan) (n : ℕ) → is_number_in added n ≡ true → scan_with found objects s n ≡ joined s (input_scan found xs n)
  unfolding objects bytes_of summary_in
  input_scanned s n h =
      ap (λ (o : Option (List ℕ)). elim o [ None ↦ s | Some bytes ↦ joined s (scan_of found (elf_of bytes) (object_references found (elf_of bytes) n)) ])
      (object_of-added 0 added xs n (subst (λ (m : ℕ). is_number_in added m ≡ true) (let e : n ≡ 0 + n = omega arith in e) h))
      ∙ by (slice_get xs n) refl
    where
      by : (o : Option Input) → slice_get xs n ≡ o
          → elim (option_map bytes_of o) [ None ↦ s | Some bytes ↦ joined s (scan_of found (elf_of bytes) (object_references found (elf_of bytes) n)) ]
          ≡ joined s (elim o [ None ↦ nothing_noted | Some x ↦ scan_of found x.elf (references_in found x.elf x.summary n x.summary.pieces) ])
      by None e = joined-nothing s
      by (Some x) e =
          let is : IsObject x = object_at xs n x e sound in
          ap (λ (f : Elf). joined s (scan_of found f (object_references found f n))) (sym is.file)
          ∙ ap (λ m. joined s (scan_of found x.elf (references_in found x.elf m n m.pieces))) (sym is.summary)

  inputs_scanned : (s : Scan) (before numbers : List ℕ) → added ≡ before ++ numbers → fold (scan_with found objects) s numbers ≡ fold joined s (map (input_scan found xs) numbers)
  inputs_scanned s before [] e = refl
  inputs_scanned s before (n ∷ ns) e =
      ap (λ (t : Scan). fold (scan_with found objects) t ns) (input_scanned s n (ap (λ (l : List ℕ). is_number_in l n) e ∙ is_in before n ns))
      ∙ inputs_scanned (joined s (input_scan found xs n)) (before ++ n ∷ []) ns (e ∙ sym (append_assoc before (n ∷ []) ns))

-- one more added input is scanned after the others
pub next_scanned : (found : Found) (objects : List (Option (List ℕ))) (numbers items : List ℕ) (i d : ℕ) (scan new : Option Scan) (whole : Scan) → items ≡ numbers → i < length items
    → option_map (λ s. fold (scan_with found objects) s (drop i numbers)) scan ≡ Some whole
    → ((before : Scan) → scan ≡ Some before → new ≡ Some (scan_with found objects before (get_or items i d)))
    → option_map (λ s. fold (scan_with found objects) s (drop (i + 1) numbers)) new ≡ Some whole
next_scanned found objects numbers items i d None new whole same h so next = absurd (cc)
next_scanned found objects numbers items i d (Some before) new whole same h so next =
    ap (option_map (λ s. fold (scan_with found objects) s (drop (i + 1) numbers))) (next before refl)
    ∙ ap (λ (ns : List ℕ). Some (fold (scan_with found objects) (scan_with found objects before (get_or items i d)) (drop (i + 1) ns))) (sym same)
    ∙ ap (λ (ns : List ℕ). Some (fold (scan_with found objects) before ns)) (sym (drop_more items i d h))
    ∙ ap (λ (ns : List ℕ). Some (fold (scan_with found objects) before (drop i ns))) same
    ∙ so

-- ---- the whole link

pub whole_of : Resolved → Scan
whole_of r = record { needs = r.needs; reported = scan_faults r; references = recorded_of r.references }

resolve-added : (options : OptionRecord) (xs : List Input) → (found_in options.entry xs).added ≡ (resolve options xs).added
unfolding resolve
resolve-added options xs = refl

link_scanned : ScansAreTheLinks → (options : OptionRecord) (xs : List Input) → AreObjects xs → let found = found_in options.entry xs in
    scans_of found (objects_of found.added (files_of xs)) found.added ≡ whole_of (resolve options xs)
unfolding whole_of objects
link_scanned law options xs sound =
    let found : Found = found_in options.entry xs in
    inputs_scanned found found.added xs sound nothing_noted [] found.added refl
    ∙ (λ i. all_joined (map (input_scan (sym (found_in-resolve options xs) i) xs) (resolve-added options xs i)))
    ∙ law options xs

-- ---- what is answered

pub whole_answers : ScansAreTheLinks → (options : OptionRecord) (xs : List Input) (resolution : ResolutionValue) (files : List InputFile) (objects : List (Option (List ℕ))) (scan : Result Scanned ScanFailure)
    → files ≡ files_of xs → AreObjects xs → IsFound resolution (found_in options.entry xs) → objects ≡ objects_of resolution.added files
    → Answers (scans_of (found_in options.entry xs) objects resolution.added) scan → Answers (whole_of (resolve options xs)) scan
whole_answers law options xs resolution files objects scan are sound is read reported =
    let found : Found = found_in options.entry xs in
    let same : scans_of found objects resolution.added ≡ whole_of (resolve options xs) =
    ap (λ (os : List (Option (List ℕ))). scans_of found os resolution.added) (read ∙ ap (objects_of resolution.added) are)
    ∙ ap (λ (ns : List ℕ). scans_of found (objects_of ns (files_of xs)) ns) is.added
    ∙ link_scanned law options xs sound in
    subst (λ (s : Scan). Answers s scan) same reported

pub scanned_reported : (options : OptionRecord) (xs : List Input) (resolution : ResolutionValue) (files : List InputFile) (read : LinkObjects) (s : Scanned) (given : ScannedInputs)
    → IsFound resolution (found_in options.entry xs) → HasObjects (objects_of resolution.added files) files read → Answers (whole_of (resolve options xs)) (Ok s)
    → given ≡ record { names = read.names; objects = read.objects; needs = s.needs; references = s.references }
    → InputsScanned (resolve options xs) files (Ok given)
unfolding whole_of
scanned_reported options xs resolution files read s given is reported answers e = (
  answers.0,
  ap (λ (g : ScannedInputs). g.needs) e ∙ answers.1,
  ap (λ (g : ScannedInputs). g.references) e ∙ answers.2,
  ap (λ (g : ScannedInputs). g.names) e ∙ reported.0,
  ap (λ (g : ScannedInputs). g.objects) e ∙ reported.1 ∙ ap (λ (ns : List ℕ). objects_of ns files) (is.added ∙ resolve-added options xs),
)

pub known_failed : (r : Resolved) (files : List InputFile) (f : ScanFailure) (result : Result ScannedInputs ScanFailure) → Answers (whole_of r) (Err f) → result ≡ Err f → InputsScanned r files result
unfolding whole_of
known_failed r files f result answers e = subst (InputsScanned r files) (sym e) (by f answers)
  where
    by : (g : ScanFailure) → Answers (whole_of r) (Err g) → InputsScanned r files (Err g)
    by (failure.Faults faults) a = (a.1, a.0)
    by failure.NoMemory a = tt

-- each file has one name
pub one_name_each : (files : List InputFile) (names : List InputName) → names ≡ input_names files → length names ≡ length files
one_name_each files names e = ap (λ (l : List InputName). length l) e ∙ length-map files input_name
