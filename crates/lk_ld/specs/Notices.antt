-- This project's own: the words that ask for a text and for no link.
use Rattle.std.specs.Prelude.{ℕ, List, [], ◌∷◌, codes, Option, Some, None, if◌then◌else◌}
use Rattle.std.specs.Str.{bytes_eq}
use Rattle.lk_ld.specs.declared.notices.TheConstants.{HELP, VERSION}

-- the text of a word that asks for one
abbrev pub notice_named : List ℕ → Option (List ℕ)
notice_named word =
    if bytes_eq word (codes "--help") then Some HELP.now
    else if bytes_eq word (codes "--version") then Some VERSION.now
    else None

-- the text that the words ask for: one word alone does
abbrev pub notice_in : List (List ℕ) → Option (List ℕ)
notice_in (word ∷ []) = notice_named word
notice_in other = None
