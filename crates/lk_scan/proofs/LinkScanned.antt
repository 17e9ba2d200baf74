-- The scans of the added inputs of a link, put together, are what the whole link needs, its faults and its
-- references.
use Rattle.std.proofs.Common.{◌≡◌, refl, sym, ap, ◌∙◌, ℕ, nat_eq, cond, List, [], ◌∷◌, ◌++◌, fold, map, flat_map, filter, Option, Some, None, slice_get}
use Rattle.std.proofs.lemmas.List.{append_assoc, append-nil, map-append}
use Rattle.std.proofs.lemmas.List.Concat.{flat_map-append}
use Rattle.std.proofs.lemmas.List.Elements.{filter_map-append}
use Rattle.std.proofs.lemmas.List.Sums.{fold-append}
use Rattle.lk_elf.specs.declared.relocation.Rela.{Rela}
use Rattle.lk_report.specs.declared.causes.OptionRecord.{OptionRecord}
use Rattle.lk_model.specs.declared.layouts.Needs.{Needs}
use Rattle.lk_model.specs.declared.layouts.SectionKey.{SectionKey}
use Rattle.lk_model.specs.declared.summaries.InputSummary.{InputSummary}
use Rattle.lk_model.specs.declared.summaries.PieceInfo.{PieceInfo}
use Rattle.lk_model.specs.Adding.{added_inputs}
use Rattle.lk_model.specs.Finding.{Found, found_of, is_kept_in}
use Rattle.lk_model.specs.NeedsOf.{address_needs, copy_needs, got_key_eq, got_needs, loaded_references, needs_of, plt_needs}
use Rattle.lk_model.specs.Numbered.{with_new}
use Rattle.lk_model.specs.Objects.{relocations_in, summary_in}
use Rattle.lk_model.specs.References.{Sited, recorded, recorded_of, reference_of, references_of, sited_in, sited_of}
use Rattle.lk_model.specs.Resolving.{paths_of, resolve}
use Rattle.lk_model.specs.ScanFaults.{faults_among, faults_at, faults_in, scan_faults, reported_once, with_fault}
use Rattle.lk_model.specs.SharedObjects.{shared_summary_in}
use Rattle.lk_model.specs.Views.{Input, Ref}
use Rattle.lk_model.proofs.Finding.{found_in-resolve, sited_of-sections}
use Rattle.lk_scan.specs.declared.noting.Scan.{Scan}
use Rattle.lk_scan.specs.LinkScans.{ObjectsAreScanned, ReferencesByInput, ScansAreTheLinks, SharedAreEmpty, all_joined, input_references, input_scan, joined, scan_of}
use Rattle.lk_scan.specs.Noted.{nothing_noted}
use Rattle.lk_scan.specs.Scans.{references_in}
use Rattle.lk_model.proofs.AddedOnce.{added_once, added_are_at}
use Rattle.lk_scan.proofs.Joined.{faults-again}
use Rattle.lk_scan.proofs.KeptByInput.{sited_by_input}
use Rattle.lk_scan.proofs.NeedsJoined.{needs-again, needs_after}
use Rattle.lk_model.specs.SectionKeys.{is_alloc}

-- a scan followed by the references of inputs
module _ (found : Found) (inputs : List Input) where
  abbrev after : Scan → List Sited → Scan
  after s sited = record {
    needs = needs_after found s.needs (loaded_references sited);
    reported = fold with_fault s.reported (faults_among found inputs sited);
    references = s.references ++ recorded_of (references_of sited);
  }

  after-nil : (s : Scan) → s ≡ after s []
  after-nil s = λ i. record { needs = s.needs; reported = s.reported; references = sym (append-nil s.references) i }

  -- the needs of two lists of references, one after the other, are those of both lists joined
  grown : {A B : Type 0} (step : List A → A → List A) (start : List A) (needs : B → List A) (xs ys : List B) → fold step (fold step start (flat_map needs xs)) (flat_map needs ys) ≡ fold step start (flat_map needs (xs ++ ys))
  grown step start needs xs ys = sym (fold-append step start (flat_map needs xs) (flat_map needs ys)) ∙ ap (fold step start) (sym (flat_map-append needs xs ys))

  loaded-append : (a b : List Sited) → loaded_references (a ++ b) ≡ loaded_references a ++ loaded_references b
  loaded-append a b = flat_map-append (λ (x : Sited). cond (is_alloc x.0.class) (x.1 ∷ []) []) a b

  needs-append : (n : Needs) (a b : List Ref) → needs_after found (needs_after found n a) b ≡ needs_after found n (a ++ b)
  needs-append n a b = λ i. record {
    got = grown (with_new got_key_eq) n.got got_needs a b i;
    plt = grown (with_new nat_eq) n.plt (plt_needs found) a b i;
    address = grown (with_new nat_eq) n.address (address_needs found) a b i;
    copies = grown (with_new nat_eq) n.copies (copy_needs found) a b i;
  }

  recorded-append : (a b : List Sited) → recorded_of (references_of (a ++ b)) ≡ recorded_of (references_of a) ++ recorded_of (references_of b)
  recorded-append a b =
      ap recorded_of (map-append (λ (x : Sited). x.1) a b) ∙ filter_map-append recorded (references_of a) (references_of b)

  after-append : (s : Scan) (a b : List Sited) → after (after s a) b ≡ after s (a ++ b)
  after-append s a b = λ i. record { needs = needs i; reported = reported i; references = references i }
    where
      needs : needs_after found (needs_after found s.needs (loaded_references a)) (loaded_references b) ≡ needs_after found s.needs (loaded_references (a ++ b))
      needs = needs-append s.needs (loaded_references a) (loaded_references b) ∙ ap (needs_after found s.needs) (sym (loaded-append a b))

      reported : fold with_fault (fold with_fault s.reported (faults_among found inputs a)) (faults_among found inputs b) ≡ fold with_fault s.reported (faults_among found inputs (a ++ b))
      reported =
          sym (fold-append with_fault s.reported (faults_among found inputs a) (faults_among found inputs b))
          ∙ ap (fold with_fault s.reported) (sym (flat_map-append (λ (x : Sited). elim (slice_get inputs x.1.input) [ None ↦ [] | Some i ↦ faults_at found i.elf x ]) a b))

      references : (s.references ++ recorded_of (references_of a)) ++ recorded_of (references_of b) ≡ s.references ++ recorded_of (references_of (a ++ b))
      references =
          append_assoc s.references (recorded_of (references_of a)) (recorded_of (references_of b))
          ∙ ap (λ l. s.references ++ l) (sym (recorded-append a b))

  -- the references of an input are in it
  relas_among : (input : ℕ) (x : Input) → slice_get inputs input ≡ Some x → (key : SectionKey) (section : ℕ) (rs : List Rela)
      → faults_among found inputs (map (λ (rela : Rela). (key, reference_of found.names x.summary input section rela)) rs) ≡ faults_in found x.elf (map (λ (rela : Rela). (key, reference_of found.names x.summary input section rela)) rs)
  relas_among input x e key section [] = refl
  relas_among input x e key section (r ∷ rs) =
      λ i. elim (e i) [ None ↦ [] | Some y ↦ faults_at found y.elf (key, reference_of found.names x.summary input section r) ] ++ relas_among input x e key section rs i

  pieces_among : (input : ℕ) (x : Input) → slice_get inputs input ≡ Some x → (ps : List PieceInfo)
      → faults_among found inputs (flat_map (λ (p : PieceInfo). sited_in found.names x.elf x.summary p.key input p.section) ps) ≡ faults_in found x.elf (flat_map (λ (p : PieceInfo). sited_in found.names x.elf x.summary p.key input p.section) ps)
  pieces_among input x e [] = refl
  pieces_among input x e (p ∷ ps) =
      flat_map-append (λ (y : Sited). elim (slice_get inputs y.1.input) [ None ↦ [] | Some i ↦ faults_at found i.elf y ]) own rest
      ∙ (λ i. relas_among input x e p.key p.section (relocations_in x.elf p.section) i ++ pieces_among input x e ps i)
      ∙ sym (flat_map-append (faults_at found x.elf) own rest)
    where
      own : List Sited
      own = sited_in found.names x.elf x.summary p.key input p.section

      rest : List Sited
      rest = flat_map (λ (q : PieceInfo). sited_in found.names x.elf x.summary q.key input q.section) ps

  -- a scan joined with that of an input is the scan followed by the references of this input
  scan_joined : (s : Scan) (x : Input) (sited : List Sited) → faults_among found inputs sited ≡ faults_in found x.elf sited → joined s (scan_of found x.elf sited) ≡ after s sited
  scan_joined s x sited same = λ i. record {
    needs = needs-again found s.needs sited i;
    reported = (faults-again s.reported (faults_in found x.elf sited) ∙ ap (fold with_fault s.reported) (sym same)) i;
    references = s.references ++ recorded_of (references_of sited);
  }

  input_joined : (s : Scan) (input : ℕ) → joined s (input_scan found inputs input) ≡ after s (input_references found inputs input)
  input_joined s input = by (slice_get inputs input) refl
    where
      by : (o : Option Input) → slice_get inputs input ≡ o
          → joined s (elim o [ None ↦ nothing_noted | Some x ↦ scan_of found x.elf (references_in found x.elf x.summary input x.summary.pieces) ])
          ≡ after s (elim o [ None ↦ [] | Some x ↦ references_in found x.elf x.summary input x.summary.pieces ])
      by None e = refl
      by (Some x) e =
          scan_joined s x (references_in found x.elf x.summary input x.summary.pieces) (pieces_among input x e (filter (λ (p : PieceInfo). is_kept_in found input p.section) x.summary.pieces))

  inputs_joined : (s : Scan) (numbers : List ℕ) → fold joined s (map (input_scan found inputs) numbers) ≡ after s (flat_map (input_references found inputs) numbers)
  inputs_joined s [] = after-nil s
  inputs_joined s (n ∷ ns) =
      ap (λ (t : Scan). fold joined t (map (input_scan found inputs) ns)) (input_joined s n)
      ∙ inputs_joined (after s (input_references found inputs n)) ns
      ∙ after-append s (input_references found inputs n) (flat_map (input_references found inputs) ns)

-- what resolution finds of a command's added inputs
abbrev found_for : OptionRecord → List Input → Found
found_for options inputs = found_of (paths_of inputs) options.entry (added_inputs options.entry inputs)

sections_sited : (options : OptionRecord) (inputs : List Input) → let found = found_for options inputs in sited_of found.names inputs found.sections ≡ flat_map (input_references found inputs) found.added
unfolding found_of
sections_sited options inputs =
    sited_by_input (found_for options inputs) inputs (added_inputs options.entry inputs) refl (added_once options.entry inputs) (added_are_at options.entry inputs)

kept_sited : (options : OptionRecord) (inputs : List Input) → let found = found_for options inputs in sited_of (resolve options inputs).names inputs (resolve options inputs).kept ≡ sited_of found.names inputs found.sections
unfolding resolve
kept_sited options inputs =
    let found : Found = found_for options inputs in
    sited_of-sections found.names inputs found.sections (needs_of found (sited_of found.names inputs found.sections)).copies found.names found.winners

pub references_by_input : ReferencesByInput
unfolding resolve
references_by_input options inputs =
    kept_sited options inputs
    ∙ sections_sited options inputs
    ∙ ap (λ (f : Found). flat_map (input_references f inputs) (found_for options inputs).added) (sym (found_in-resolve options inputs))

pub scans_are_the_links : ScansAreTheLinks
unfolding resolve scan_faults needs_of
scans_are_the_links options inputs =
    let found : Found = found_for options inputs in
    ap (λ (f : Found). all_joined (map (input_scan f inputs) found.added)) (found_in-resolve options inputs)
    ∙ inputs_joined found inputs nothing_noted found.added
    ∙ ap (after found inputs nothing_noted) (sym (sections_sited options inputs))
    ∙ sym (λ i. record {
      needs = (resolve options inputs).needs;
      reported = reported_once (faults_among (found_in-resolve options inputs i) inputs (kept_sited options inputs i));
      references = recorded_of (resolve options inputs).references;
    })

pub objects_are_scanned : ObjectsAreScanned
unfolding summary_in
objects_are_scanned found inputs input x e same =
    ap (λ (o : Option Input). elim o [ None ↦ nothing_noted | Some y ↦ scan_of found y.elf (references_in found y.elf y.summary input y.summary.pieces) ]) e
    ∙ ap (λ (s : InputSummary). scan_of found x.elf (references_in found x.elf s input s.pieces)) same

pub shared_are_empty : SharedAreEmpty
unfolding needs_of shared_summary_in
shared_are_empty found inputs input x e same =
    ap (λ (o : Option Input). elim o [ None ↦ nothing_noted | Some y ↦ scan_of found y.elf (references_in found y.elf y.summary input y.summary.pieces) ]) e
    ∙ ap (λ (s : InputSummary). scan_of found x.elf (references_in found x.elf x.summary input s.pieces)) same
