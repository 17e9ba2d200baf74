-- This project's own: the faults that resolution finds, in their order. That two strong definitions
-- of one name are a fault is the gABI's ("Symbol Table", STB_GLOBAL).
use Rattle.std.specs.Prelude.{ℕ, ◌==◌, Bool, false, ◌&&◌, ◌||◌, not, cond, List, [], ◌∷◌, ◌++◌, map, flat_map, filter, length, zip, Some, None, option_and_then}
use Rattle.std.specs.List.{list_any}
use Rattle.lk_elf.specs.Numbers.{stt_notype, stt_tls}
use Rattle.lk_report.specs.declared.faults.Fault.{Fault}
use Rattle.lk_report.specs.declared.faults.Fault.TheVariants as fault
use Rattle.lk_model.specs.declared.summaries.Contribution.{Contribution}
use Rattle.lk_model.specs.declared.summaries.Contributions.{Contributions}
use Rattle.lk_model.specs.declared.summaries.Winner.{Winner}
use Rattle.lk_model.specs.Finding.{Found, number_among, path_in, winner_in}
use Rattle.lk_model.specs.Resolving.{found_in}
use Rattle.lk_model.specs.Symbols.{is_of_object, is_strong_definition}
use Rattle.lk_model.specs.Views.{Resolved}
use Rattle.lk_model.specs.Winners.{is_in_object, is_nothing, is_tls_winner}

-- the faults of a list of strong definitions: each later one against the first
abbrev pub doubled : Found → List ℕ → List Contribution → List Fault
doubled found name [] = []
doubled found name (first ∷ later) = map (λ (c : Contribution). fault.MultipleDefinition name (path_in found first.input) (path_in found c.input)) later

-- the faults of a name that objects define strongly more than once
abbrev pub multiple_definitions : Found → Contributions → List Fault
multiple_definitions found cs = doubled found cs.name (filter is_strong_definition cs.list)

-- whether some symbol of a name in an object is thread-local
abbrev pub has_tls : List Contribution → Bool
has_tls list = list_any (λ (c : Contribution). is_of_object c && (c.global.code == stt_tls)) list

-- whether some symbol of a name in an object has a type that is not thread-local
abbrev pub has_other : List Contribution → Bool
has_other list = list_any (λ (c : Contribution). is_of_object c && (not (c.global.code == stt_tls) && not (c.global.code == stt_notype))) list

-- whether a name with this winner is thread-local in one place and not in another
abbrev pub is_mismatch : Contributions → Winner → Bool
is_mismatch cs w = (is_tls_winner cs w && has_other cs.list) || (not (is_nothing w) && (not (is_tls_winner cs w) && has_tls cs.list))

-- the fault of such a name
abbrev pub tls_mismatches : Contributions × Winner → List Fault
tls_mismatches (cs, w) = cond (is_mismatch cs w) (fault.TlsMismatch cs.name ∷ []) []

-- whether the entry name has its winner in an object
abbrev pub has_entry : Found → Bool
has_entry found = elim (option_and_then (winner_in found) (number_among found.names found.entry)) [ None ↦ false | Some w ↦ is_in_object w ]

-- the faults of what the added inputs decide: names with several strong definitions, names that are
-- thread-local here and not there, each in order of names, and an entry that no object defines
unfoldable pub faults_of : Found → List Fault
faults_of found =
    flat_map (multiple_definitions found) found.names
    ++ flat_map tls_mismatches (zip found.names found.winners)
    ++ cond (has_entry found) [] (fault.NoEntry found.entry ∷ [])

-- the faults of resolution
unfoldable pub resolve_faults : Resolved → List Fault
resolve_faults r = faults_of (found_in r)

-- how many names there are
abbrev pub name_count : Resolved → ℕ
name_count r = length r.names
