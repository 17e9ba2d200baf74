-- This project's own: the inputs that a command lists, phrase after phrase.
use Rattle.std.specs.Prelude.{[], ◌++◌, None, Some}
use Rattle.lk_model.specs.declared.commands.Word.{Word}
use Rattle.lk_model.specs.Grammar.{Listed, put_word, ended_group, Flag, Marked, StartLib, EndLib}
use Rattle.lk_command.specs.declared.inputs.Listing.{Listing}

-- the code's inputs so far
abbrev pub listing_seen : Listing → Listed
listing_seen listing = record { mark = listing.mark; open_words = listing.group; items = listing.items }

-- one more input
abbrev pub put_in : Listed → Word → Listed
put_in old word = put_word old.mark old.open_words old.items word

-- the lib group that is open ends
abbrev pub ended_in : Listed → Listed
ended_in old = record { mark = old.mark; open_words = None; items = old.items ++ ended_group old.open_words }

-- the inputs after a word that is an option by itself
abbrev pub flagged_in : Listed → Flag → Listed
flagged_in old (Marked mark) = record { mark = mark; open_words = old.open_words; items = old.items }
flagged_in old StartLib = record { mark = old.mark; open_words = Some []; items = old.items }
flagged_in old EndLib = ended_in old
flagged_in old other = old
