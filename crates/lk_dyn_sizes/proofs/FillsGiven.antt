-- The slots that the dynamic linker fills are those of lk_model.
use Rattle.std.proofs.Common.{◌≡◌, refl, sym, ap, ◌∙◌, ℕ, suc, ◌+◌, Bool, true, false, cond, List, [], ◌∷◌, length, map, filter, filter_map, Option, Some, None, is_some, option_map, option_and_then, slice_get, Result, Ok, Err, IfOk}
use Rattle.std.specs.List.{cons_option, enumerate_from}
use Rattle.std.proofs.lemmas.Option.{slice_get-map}
use Rattle.lk_report.specs.declared.causes.OptionRecord.{OptionRecord}
use Rattle.lk_report.specs.declared.memory.NoMemory.{NoMemory}
use Rattle.lk_model.specs.declared.layouts.GotKey.{GotKey}
use Rattle.lk_model.specs.declared.layouts.GotOwner.{GotOwner}
use Rattle.lk_model.specs.declared.layouts.GotOwner.TheVariants as owner
use Rattle.lk_model.specs.declared.layouts.Needs.{Needs}
use Rattle.lk_model.specs.declared.layouts.SlotTable.{SlotTable}
use Rattle.lk_model.specs.declared.summaries.InputSummary.{InputSummary}
use Rattle.lk_model.specs.DynamicSlots.{name_fill, owner_fill, slot_fill, slot_fills, winner_fill}
use Rattle.lk_model.specs.Numbered.{is_number_in}
use Rattle.lk_model.specs.Resolving.{resolve}
use Rattle.lk_model.specs.SectionOrder.{slots_of}
use Rattle.lk_model.specs.Views.{Input, Resolved}
use Rattle.lk_resolve.specs.Given.{IsGiven}
use Rattle.lk_resolve.specs.Settling.{ResolutionValue}
use Rattle.lk_symtab.specs.NameRows.{NameRow, row_winner}
use Rattle.lk_dyn_sizes.specs.DynamicRows.{copied_numbers}
use Rattle.lk_dyn_sizes.specs.declared.slot_rows.SlotFill.{SlotFill}
use Rattle.lk_dyn_sizes.specs.Fills.{as_fills, filled_by, filled_count, fills_from, is_filled, number_fill, owner_fill_in, row_fill, slot_fill_in}
use Rattle.lk_dyn_sizes.proofs.NamesGiven.{copied_is}
use Rattle.lk_resolve.proofs.Seen.{Sees, seen}

-- the type for the winner of a row
row_type : (thread copied : Bool) (o : Option NameRow) → option_and_then (winner_fill thread copied) (option_map row_winner o) ≡ option_and_then (row_fill thread copied) o
row_type thread copied None = refl
row_type thread copied (Some row) = refl

-- the type for the slot of a name
pub fill_seen : (resolution : ResolutionValue) (summaries : List InputSummary) (needs : Needs) (options : OptionRecord) (r : Resolved) → Sees resolution summaries needs options r → (n : ℕ) (thread : Bool) → name_fill r n thread ≡ number_fill resolution.rows (copied_numbers needs) n thread
fill_seen resolution summaries needs options r s n thread =
    (λ i. option_and_then (winner_fill thread (is_number_in (s.needed i).copies n)) (slice_get (s.winners i) n))
    ∙ ap (option_and_then (winner_fill thread (is_number_in needs.copies n))) (slice_get-map row_winner resolution.rows n)
    ∙ row_type thread (is_number_in needs.copies n) (slice_get resolution.rows n)
    ∙ ap (λ b. option_and_then (row_fill thread b) (slice_get resolution.rows n)) (sym (copied_is needs n))

-- whether a slot is filled
some_fill : {A B : Type 0} (f : A → B) (o : Option A) → is_some (option_map f o) ≡ is_some o
some_fill f None = refl
some_fill f (Some x) = refl

owner_filled : (resolution : ResolutionValue) (summaries : List InputSummary) (needs : Needs) (options : OptionRecord) (r : Resolved) → Sees resolution summaries needs options r → (slot : ℕ) (thread : Bool) (o : GotOwner)
    → is_some (owner_fill r slot thread o) ≡ is_filled resolution.rows (copied_numbers needs) (record { owner = o; thread = thread })
owner_filled resolution summaries needs options r s slot thread (owner.Global n) =
    some_fill (λ code. record { slot = slot; name = n; code = code }) (name_fill r n thread) ∙ ap is_some (fill_seen resolution summaries needs options r s n thread)
owner_filled resolution summaries needs options r s slot thread (owner.Local i k) = refl

-- how many are filled
one_more : {A B : Type 0} (o : Option A) (b : Bool) (x : B) (rest : List A) (later : List B) → is_some o ≡ b → length rest ≡ length later → length (cons_option o rest) ≡ length (cond b (x ∷ later) later)
one_more None true x rest later e h = absurd (cc)
one_more None false x rest later e h = h
one_more (Some y) true x rest later e h = ap suc h
one_more (Some y) false x rest later e h = absurd (cc)

fills_are : (resolution : ResolutionValue) (summaries : List InputSummary) (needs : Needs) (options : OptionRecord) (r : Resolved) → Sees resolution summaries needs options r → (slot : ℕ) (keys : List GotKey)
    → length (filter_map (slot_fill r) (enumerate_from slot (map Some keys))) ≡ filled_count resolution.rows (copied_numbers needs) keys
fills_are resolution summaries needs options r s slot [] = refl
fills_are resolution summaries needs options r s slot (key ∷ keys) =
    one_more (owner_fill r slot key.thread key.owner) (is_filled resolution.rows (copied_numbers needs) key) key (filter_map (slot_fill r) (enumerate_from (slot + 1) (map Some keys))) (filter (is_filled resolution.rows (copied_numbers needs)) keys)
    (owner_filled resolution summaries needs options r s slot key.thread key.owner) (fills_are resolution summaries needs options r s (slot + 1) keys)

pub filled_seen : (resolution : ResolutionValue) (summaries : List InputSummary) (needs : Needs) (options : OptionRecord) (r : Resolved) → Sees resolution summaries needs options r → length (slot_fills r (slots_of r.needs)) ≡ filled_count resolution.rows (copied_numbers needs) needs.got
unfolding slot_fills
filled_seen resolution summaries needs options r s =
    fills_are resolution summaries needs options r s 0 r.needs.got
    ∙ ap (λ (n : Needs). filled_count resolution.rows (copied_numbers needs) n.got) s.needed

-- the slots that are filled
owner_seen : (resolution : ResolutionValue) (summaries : List InputSummary) (needs : Needs) (options : OptionRecord) (r : Resolved) → Sees resolution summaries needs options r → (slot : ℕ) (thread : Bool) (o : GotOwner)
    → owner_fill r slot thread o ≡ owner_fill_in resolution.rows (copied_numbers needs) slot thread o
owner_seen resolution summaries needs options r s slot thread (owner.Global n) = ap (option_map (filled_by slot n)) (fill_seen resolution summaries needs options r s n thread)
owner_seen resolution summaries needs options r s slot thread (owner.Local i k) = refl

slot_seen : (resolution : ResolutionValue) (summaries : List InputSummary) (needs : Needs) (options : OptionRecord) (r : Resolved) → Sees resolution summaries needs options r → (slot : ℕ) (key : Option GotKey)
    → slot_fill r (slot, key) ≡ slot_fill_in resolution.rows (copied_numbers needs) (slot, key)
slot_seen resolution summaries needs options r s slot None = refl
slot_seen resolution summaries needs options r s slot (Some key) = owner_seen resolution summaries needs options r s slot key.thread key.owner

slots_seen : (resolution : ResolutionValue) (summaries : List InputSummary) (needs : Needs) (options : OptionRecord) (r : Resolved) → Sees resolution summaries needs options r → (slot : ℕ) (slots : List (Option GotKey))
    → filter_map (slot_fill r) (enumerate_from slot slots) ≡ fills_from resolution.rows (copied_numbers needs) slot slots
slots_seen resolution summaries needs options r s slot [] = refl
slots_seen resolution summaries needs options r s slot (key ∷ keys) =
    let here = slot_seen resolution summaries needs options r s slot key in
    let later = slots_seen resolution summaries needs options r s (slot + 1) keys in
    λ i. cons_option (here i) (later i)

pub fills_given : (resolution : ResolutionValue) (summaries : List InputSummary) (needs : Needs) (options : OptionRecord) (xs : List Input) (slots : SlotTable) (r : Result (List SlotFill) NoMemory) → IsGiven resolution summaries needs options xs
    → IfOk r (λ fills. as_fills fills ≡ fills_from resolution.rows (copied_numbers needs) 0 slots.got) → IfOk r (λ fills. as_fills fills ≡ slot_fills (resolve options xs) slots)
unfolding slot_fills
fills_given resolution summaries needs options xs slots (Ok fills) given is = is ∙ sym (slots_seen resolution summaries needs options (resolve options xs) (seen resolution summaries needs options xs given) 0 slots.got)
fills_given resolution summaries needs options xs slots (Err want) given is = tt
