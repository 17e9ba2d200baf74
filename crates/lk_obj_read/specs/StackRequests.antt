-- A request for an executable stack among sections of an object (GNU's section `.note.GNU-stack`).
use Rattle.std.specs.Prelude.{ℕ, Bool, List}
use Rattle.std.specs.List.{enumerate_from, list_any}
use Rattle.lk_elf.specs.declared.section_header.Shdr.{Shdr}
use Rattle.lk_model.specs.Objects.{asks_exec_stack}
use Rattle.lk_model.specs.Views.{Elf}

-- one of these sections, the first of which has this number, asks for an executable stack
unfoldable pub any_asks_from : Elf → ℕ → List Shdr → Bool
any_asks_from elf n headers = list_any (asks_exec_stack elf) (enumerate_from n headers)
