-- The kept pieces of inputs without a fault are whole in their inputs, and the references of a link have
-- their fields in the pieces in which they are.
use Rattle.std.specs.Prelude.{◌≡◌, ℕ, ◌+◌, ◌≤◌, Bool, true, false, cond, List, [], ◌∷◌, filter, length, zip, Option, Some, None, option_map, refl}
use Rattle.std.specs.List.{AllByRecursion, enumerate_from, slice_get}
use Rattle.std.proofs.Common.{ap, arith, subst, sym}
use Rattle.lk_elf.specs.declared.relocation.Rela.{Rela}
use Rattle.lk_report.specs.declared.causes.OptionRecord.{OptionRecord}
use Rattle.lk_report.specs.declared.faults.Fault.TheVariants as faults
use Rattle.lk_report.specs.declared.faults.InputFault.{InputFault}
use Rattle.lk_model.specs.Adding.{added_inputs}
use Rattle.lk_model.specs.Checks.{first_fault}
use Rattle.lk_model.specs.Elf.{elf_of}
use Rattle.lk_model.specs.Finding.{Found, found_of}
use Rattle.lk_model.specs.Groups.{is_left}
use Rattle.lk_model.specs.Inputs.{fault_by, input_fault_in, is_read_as_shared, reads_as_shared, summary_by}
use Rattle.lk_model.specs.KeptPieces.{copy_piece, kept_sections, name_piece, name_pieces, pieces_left, section_piece}
use Rattle.lk_model.specs.Kinds.{kind_checks}
use Rattle.lk_model.specs.NeedsOf.{needs_of}
use Rattle.lk_model.specs.Numbered.{Numbered, is_number_in}
use Rattle.lk_model.specs.ObjectChecks.{object_checks, object_fault, object_fault_after}
use Rattle.lk_model.specs.Objects.{piece_bytes_in, relocations_in, summary_in}
use Rattle.lk_model.specs.References.{Sited, reference_of, sited_at, sited_in, sited_of}
use Rattle.lk_model.specs.RelocationTypes.{width_of}
use Rattle.lk_model.specs.Resolving.{paths_of, resolve}
use Rattle.lk_model.specs.SectionKeys.{in_file}
use Rattle.lk_model.specs.SharedObjects.{shared_summary_in}
use Rattle.lk_model.specs.Views.{Elf, Input, KeptPiece, Ref}
use Rattle.lk_model.specs.Winners.{symbol_among}
use Rattle.lk_model.specs.declared.layouts.Class.TheVariants.{Bss}
use Rattle.lk_model.specs.declared.layouts.PieceId.{PieceId}
use Rattle.lk_model.specs.declared.layouts.PieceId.TheVariants as id
use Rattle.lk_model.specs.declared.layouts.SectionKey.{SectionKey}
use Rattle.lk_model.specs.declared.summaries.Contributions.{Contributions}
use Rattle.lk_model.specs.declared.summaries.Global.{Global}
use Rattle.lk_model.specs.declared.summaries.InputSummary.{InputSummary}
use Rattle.lk_model.specs.declared.summaries.PieceInfo.{PieceInfo}
use Rattle.lk_model.specs.declared.summaries.Winner.{Winner}
use Rattle.lk_model.specs.declared.summaries.Winner.TheVariants as winner
use Rattle.lk_model.proofs.Rising.{all_filter, all_map}
use Rattle.lk_elf.specs.RelocationInfo.{r_type_of}
use Rattle.lk_law_placement.specs.SoundInputs.{SoundInput, SoundInputs}
use Rattle.lk_law_placement.proofs.DistinctLists.{all_joined, all_mapped}
use Rattle.lk_law_placement.proofs.PiecesLists.{all_numbered_one}
use Rattle.lk_law_placement.proofs.SoundInputsChecks.{AllSome, all_reported}
use Rattle.lk_law_loading.specs.Loadable.{ThreadNamed}
use Rattle.lk_model.proofs.AddedOnce.{EachHas, added_have}
use Rattle.lk_law_loading.proofs.AddedNumbered.{claims_keep}
use Rattle.lk_law_loading.proofs.RelocationsFit.{WholeInfo, passing_whole}

-- ---- inputs

no_fault_after : (o : Option InputFault) (bytes : List ℕ) → object_fault_after o bytes ≡ None → first_fault (object_checks (elf_of bytes)) ≡ None
no_fault_after None bytes e = e
no_fault_after (Some fault) bytes e = cc

-- the pieces of an object without a fault are whole
object_whole : (bytes : List ℕ) → object_fault bytes ≡ None → AllByRecursion (WholeInfo (elf_of bytes)) (summary_in (elf_of bytes)).pieces
unfolding object_fault summary_in
object_whole bytes e = passing_whole (elf_of bytes) (no_fault_after (first_fault (kind_checks bytes)) bytes e)

-- a shared object has no pieces
shared_whole : (path : List ℕ) (elf : Elf) → AllByRecursion (WholeInfo elf) (shared_summary_in path elf).pieces
unfolding shared_summary_in
shared_whole path elf = tt

none_mapped : {A B : Type 0} (f : A → B) (o : Option A) → option_map f o ≡ None → o ≡ None
none_mapped f None e = refl
none_mapped f (Some x) e = cc

-- the pieces of an input without a fault are whole
input_whole : (input : Input) → SoundInput input → AllByRecursion (WholeInfo input.elf) input.summary.pieces
unfolding input_fault_in reads_as_shared
input_whole input sound = go (is_read_as_shared input.lib input.elf.bytes) sound.summary sound.no_fault
  where
    go :
        (b : Bool)
        → input.summary ≡ summary_by b input.path input.elf
        → option_map (λ (fault : InputFault). faults.Input input.path fault) (fault_by b input.elf.bytes) ≡ None
        → AllByRecursion (WholeInfo input.elf) input.summary.pieces
    go true e f = subst (λ (s : InputSummary). AllByRecursion (WholeInfo input.elf) s.pieces) (sym e) (shared_whole input.path input.elf)
    go false e f =
        let none = none_mapped (λ (fault : InputFault). faults.Input input.path fault) (object_fault input.elf.bytes) f in
        let whole : AllByRecursion (WholeInfo input.elf) (summary_in input.elf).pieces =
        subst (λ (elf : Elf). AllByRecursion (WholeInfo elf) (summary_in elf).pieces) (sym sound.file) (object_whole input.elf.bytes none) in
        subst (λ (s : InputSummary). AllByRecursion (WholeInfo input.elf) s.pieces) (sym e) whole

-- ---- kept pieces

-- a section of an input that is kept
pub record SectionRead (inputs : List Input) (kept : KeptPiece) (number section : ℕ) : Type 0 where
  pub input : Input
  pub there : slice_get inputs number ≡ Some input
  pub size : in_file kept.key.class ≡ true → kept.terminator ≡ false → length (piece_bytes_in input.elf section) ≡ kept.size
  pub fields : AllByRecursion (λ (rela : Rela). rela.r_offset + width_of (r_type_of rela) ≤ length (piece_bytes_in input.elf section)) (relocations_in input.elf section)

-- a common block or a copy is not kept by the file
abbrev pub ReadAs : List Input → KeptPiece → PieceId → Type 0
ReadAs inputs kept (id.Section number section) = SectionRead inputs kept number section
ReadAs inputs kept (id.Common name) = in_file kept.key.class ≡ false
ReadAs inputs kept (id.Copy name) = in_file kept.key.class ≡ false

-- a kept piece as it was read of its input, whose thread-local section is the one of its class
pub record KeptRead (inputs : List Input) (kept : KeptPiece) : Type 0 where
  pub read : ReadAs inputs kept kept.piece
  pub thread : ThreadNamed kept.key

-- the pieces of an added input are those of an input of its number
record ReadInput (inputs : List Input) (x : Numbered) : Type 0 where
  input : Input
  there : slice_get inputs x.number ≡ Some input
  whole : AllByRecursion (WholeInfo input.elf) x.summary.pieces

each_read : (inputs : List Input) → SoundInputs inputs → EachHas (ReadInput inputs) 0 inputs
each_read inputs sound m x there =
    let number : m ≡ 0 + m = omega arith in
    record {
      input = x;
      there = subst (λ (k : ℕ). slice_get inputs k ≡ Some x) number there;
      whole = input_whole x (all_numbered_one SoundInput inputs m x there sound);
    }

left_read : (inputs : List Input) (claimed : List (List ℕ)) (x : Numbered) → ReadInput inputs x → AllByRecursion (KeptRead inputs) (pieces_left claimed x)
left_read inputs claimed x r =
    let left : PieceInfo → Bool = λ (p : PieceInfo). is_left claimed x.summary p.section in
    all_mapped (section_piece x.number) (KeptRead inputs) (filter left x.summary.pieces)
    (all_map
    (λ (p : PieceInfo) (w : WholeInfo r.input.elf p). record { read = record { input = r.input; there = r.there; size = w.size; fields = w.fields }; thread = w.thread })
    (filter left x.summary.pieces)
    (all_filter (WholeInfo r.input.elf) left x.summary.pieces r.whole))

sections_read : (inputs : List Input) (added : List Numbered) → AllByRecursion (ReadInput inputs) added → AllByRecursion (KeptRead inputs) (kept_sections added)
sections_read inputs added all = claims_keep (ReadInput inputs) (KeptRead inputs) pieces_left (left_read inputs) [] added all

-- ---- common blocks and copies

bss_thread : (key : SectionKey) → key.class ≡ Bss → ThreadNamed key
bss_thread key class = record { bytes = λ e. absurd (cc); zeros = λ e. absurd (cc) }

copy_read : (inputs : List Input) (name : ℕ) (copied : Bool) (found : Option Global) → AllSome (KeptRead inputs) (cond copied (option_map (copy_piece name) found) None)
copy_read inputs name false found = tt
copy_read inputs name true None = tt
copy_read inputs name true (Some g) = record { read = refl; thread = bss_thread (copy_piece name g).key refl }

name_read : (inputs : List Input) (copies : List ℕ) (name : ℕ) (cs : Contributions) (w : Winner) → AllSome (KeptRead inputs) (name_piece copies name cs w)
name_read inputs copies name cs (winner.Common size align) = record { read = refl; thread = record { bytes = λ e. absurd (cc); zeros = λ e. absurd (cc) } }
name_read inputs copies name cs (winner.Import input symbol) = copy_read inputs name (is_number_in copies name) (symbol_among cs.list input symbol)
name_read inputs copies name cs winner.Nothing = tt
name_read inputs copies name cs (winner.Strong input symbol) = tt
name_read inputs copies name cs (winner.Weak input symbol) = tt
name_read inputs copies name cs winner.Made = tt

names_read :
    (inputs : List Input) (copies : List ℕ) (n : ℕ) (names : List Contributions) (winners : List Winner)
    → AllByRecursion (λ (x : ℕ × (Contributions × Winner)). AllSome (KeptRead inputs) (name_piece copies x.0 x.1.0 x.1.1)) (enumerate_from n (zip names winners))
names_read inputs copies n [] winners = tt
names_read inputs copies n (cs ∷ names) [] = tt
names_read inputs copies n (cs ∷ names) (w ∷ winners) = (name_read inputs copies n cs w, names_read inputs copies (n + 1) names winners)

-- ---- references

-- a reference's field lies in the bytes of its section
pub record FieldInside (inputs : List Input) (ref : Ref) : Type 0 where
  pub inside : (input : Input) → slice_get inputs ref.input ≡ Some input → ref.offset + width_of ref.code ≤ length (piece_bytes_in input.elf ref.section)

reference_inside :
    (names : List Contributions) (inputs : List Input) (summary : InputSummary) (number section : ℕ) (input : Input) (rela : Rela)
    → slice_get inputs number ≡ Some input
    → rela.r_offset + width_of (r_type_of rela) ≤ length (piece_bytes_in input.elf section)
    → FieldInside inputs (reference_of names summary number section rela)
reference_inside names inputs summary number section input rela there lies = record {
  inside = λ other also.
      let same : input ≡ other = cc in
      subst (λ (x : Input). rela.r_offset + width_of (r_type_of rela) ≤ length (piece_bytes_in x.elf section)) same lies;
}

piece_references : (names : List Contributions) (inputs : List Input) (kept : KeptPiece) (piece : PieceId) → ReadAs inputs kept piece → AllByRecursion (λ (x : Sited). FieldInside inputs x.1) (sited_at names inputs kept.key piece)
piece_references names inputs kept (id.Section number section) r =
    let same : sited_at names inputs kept.key (id.Section number section) ≡ sited_in names r.input.elf r.input.summary kept.key number section =
    ap (λ (o : Option Input). elim o [ None ↦ [] | Some x ↦ sited_in names x.elf x.summary kept.key number section ]) r.there in
    subst (AllByRecursion (λ (x : Sited). FieldInside inputs x.1)) (sym same)
    (all_mapped (λ (rela : Rela). (kept.key, reference_of names r.input.summary number section rela)) (λ (x : Sited). FieldInside inputs x.1) (relocations_in r.input.elf section)
    (all_map (λ (rela : Rela) lies. reference_inside names inputs r.input.summary number section r.input rela r.there lies) (relocations_in r.input.elf section) r.fields))
piece_references names inputs kept (id.Common name) r = tt
piece_references names inputs kept (id.Copy name) r = tt

all_references : (names : List Contributions) (inputs : List Input) (kept : List KeptPiece) → AllByRecursion (KeptRead inputs) kept → AllByRecursion (λ (x : Sited). FieldInside inputs x.1) (sited_of names inputs kept)
all_references names inputs [] all = tt
all_references names inputs (k ∷ kept) all =
    all_joined (λ (x : Sited). FieldInside inputs x.1) (sited_at names inputs k.key k.piece) (sited_of names inputs kept)
    (piece_references names inputs k k.piece all.0.read)
    (all_references names inputs kept all.1)

-- ---- what resolution finds

-- the kept pieces and the references of inputs without a fault
pub record ReadLink (options : OptionRecord) (inputs : List Input) : Type 0 where
  pub kept : AllByRecursion (KeptRead inputs) (resolve options inputs).kept
  pub references : AllByRecursion (FieldInside inputs) (resolve options inputs).references
  pub inputs_are : (resolve options inputs).inputs ≡ inputs

pub link_read : (options : OptionRecord) (inputs : List Input) → SoundInputs inputs → ReadLink options inputs
unfolding resolve found_of
link_read options inputs sound =
    let added : List Numbered = added_inputs options.entry inputs in
    let found : Found = found_of (paths_of inputs) options.entry added in
    let sited : List Sited = sited_of found.names inputs found.sections in
    let copies : List ℕ = (needs_of found sited).copies in
    let sections : AllByRecursion (KeptRead inputs) (kept_sections added) = sections_read inputs added (added_have (ReadInput inputs) options.entry inputs (each_read inputs sound)) in
    record {
      kept =
          all_joined (KeptRead inputs) (kept_sections added) (name_pieces copies found.names found.winners) sections
          (all_reported (KeptRead inputs) (λ (x : ℕ × (Contributions × Winner)). name_piece copies x.0 x.1.0 x.1.1) (enumerate_from 0 (zip found.names found.winners)) (names_read inputs copies 0 found.names found.winners));
      references = all_mapped (λ (x : Sited). x.1) (FieldInside inputs) sited (all_references found.names inputs found.sections sections);
      inputs_are = refl;
    }
