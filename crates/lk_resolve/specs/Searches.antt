-- This project's own: the search round the members of a lib group, as a search over what is kept.
use Rattle.std.specs.Prelude.{ℕ, ◌+◌, List, [], ◌∷◌, map, fold}
use Rattle.lk_model.specs.declared.summaries.InputSummary.{InputSummary}
use Rattle.lk_model.specs.Numbered.{Numbered}
use Rattle.lk_model.specs.Queues.{listed_of}
use Rattle.lk_resolve.specs.declared.members.Member.{Member}
use Rattle.lk_resolve.specs.States.{State, with_input}
use Rattle.lk_resolve.specs.Wanted.{wants}

-- inputs with their numbers, which go on from a first one
abbrev pub numbered_on : ℕ → List InputSummary → List Numbered
numbered_on n [] = []
numbered_on n (summary ∷ summaries) = record { number = n; summary = summary } ∷ numbered_on (n + 1) summaries

-- a member, and members, without the reference
abbrev pub member_as : Member → Numbered
member_as m = record { number = m.number; summary = m.summary.now }

abbrev pub members_as : List Member → List Numbered
members_as ms = map member_as ms

-- what is kept once the search round a queue has ended
unfoldable pub searched : State → List Numbered → State
searched s waiting = fold with_input s (listed_of wants with_input s waiting)
