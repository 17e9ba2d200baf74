-- The symbols of the objects of a link have, by input and number, the numbers of their names.
use Rattle.std.proofs.Common.{◌≡◌, refl, sym, ap, ◌∙◌, subst, arith, ℕ, zero, suc, ◌+◌, Bool, true, false, cond, List, [], ◌∷◌, Option, Some, None, slice_get}
use Rattle.lk_report.specs.declared.causes.OptionRecord.{OptionRecord}
use Rattle.lk_model.specs.declared.summaries.InputSummary.{InputSummary}
use Rattle.lk_model.specs.Adding.{added_inputs, numbers_in}
use Rattle.lk_model.specs.Elf.{elf_of}
use Rattle.lk_model.specs.Finding.{found_of, names_of}
use Rattle.lk_model.specs.Numbered.{is_number_in}
use Rattle.lk_model.specs.Objects.{summary_in}
use Rattle.lk_model.specs.Views.{Elf, Input}
use Rattle.lk_inputs.specs.declared.input_files.InputFile.{InputFile}
use Rattle.lk_inputs.specs.Named.{files_of}
use Rattle.lk_resolve.specs.Given.{found_in}
use Rattle.lk_resolve.specs.NamedSymbols.{AreNamed}
use Rattle.lk_resolve.specs.Settling.{IsFound, ResolutionValue}
use Rattle.lk_resolve.proofs.SymbolsByNumber.{added_named}
use Rattle.lk_scan_inputs.specs.Objects.{AreObjects, IsObject, objects_from, objects_of}
use Rattle.lk_scan_inputs.specs.Scans.{AreNamedObjects, object_in}
use Rattle.lk_scan_inputs.proofs.LinkScanned.{object_at}

-- an input that has an object is added, and the object has the bytes of its file
record HasFile (k : ℕ) (added : List ℕ) (xs : List Input) (n : ℕ) (bytes : List ℕ) : Type 0 where
  listed : is_number_in added (k + n) ≡ true
  input : Input
  there : slice_get xs n ≡ Some input
  file : input.elf.bytes ≡ bytes

has_file : (k : ℕ) (added : List ℕ) (xs : List Input) (n : ℕ) (bytes : List ℕ) → object_in (objects_from k added (files_of xs)) n ≡ Some bytes → HasFile k added xs n bytes
has_file k added [] n bytes e = absurd (cc)
has_file k added (x ∷ xs) zero bytes e = by (is_number_in added k) refl e
  where
    same : (b c : List ℕ) → Some b ≡ Some c → b ≡ c
    same b c e = cc

    by : (b : Bool) → is_number_in added k ≡ b → cond b (Some x.elf.bytes) None ≡ Some bytes → HasFile k added (x ∷ xs) zero bytes
    by true is e = record {
      listed = subst (λ (m : ℕ). is_number_in added m ≡ true) (let m : k ≡ k + 0 = omega arith in m) is;
      input = x;
      there = refl;
      file = same x.elf.bytes bytes e;
    }
    by false is e = absurd (cc)
has_file k added (x ∷ xs) (suc n) bytes e =
    let later = has_file (k + 1) added xs n bytes e in
    record {
      listed = subst (λ (m : ℕ). is_number_in added m ≡ true) (let m : k + 1 + n ≡ k + suc n = omega arith in m) later.listed;
      input = later.input;
      there = later.there;
      file = later.file;
    }

pub named_objects : (options : OptionRecord) (xs : List Input) (resolution : ResolutionValue) (files : List InputFile) (objects : List (Option (List ℕ)))
    → files ≡ files_of xs → AreObjects xs → IsFound resolution (found_in options.entry xs) → objects ≡ objects_of resolution.added files → AreNamedObjects (found_in options.entry xs) objects
unfolding found_of
named_objects options xs resolution files objects are sound is read = λ n bytes e.
    let added : List ℕ = numbers_in (added_inputs options.entry xs) in
    let same : objects ≡ objects_of added (files_of xs) = read ∙ (λ i. objects_of (is.added i) (are i)) in
    let has = has_file 0 added xs n bytes (ap (λ (os : List (Option (List ℕ))). object_in os n) (sym same) ∙ e) in
    let x : Input = has.input in
    let object : IsObject x = object_at xs n x has.there sound in
    let summary : x.summary ≡ summary_in (elf_of bytes) = object.summary ∙ ap summary_in (object.file ∙ ap elf_of has.file) in
    let listed : is_number_in added n ≡ true = subst (λ (m : ℕ). is_number_in added m ≡ true) (let m : 0 + n ≡ n = omega arith in m) has.listed in
    subst (λ (s : InputSummary). AreNamed (names_of (added_inputs options.entry xs)) n s.globals) summary (added_named options.entry xs n x has.there object.summary listed)
