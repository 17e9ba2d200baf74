-- This project's own: the path of a library in a directory.
use Rattle.std.specs.Prelude.{ℕ, List, ◌++◌, codes}

abbrev pub candidate_in : List ℕ → List ℕ → List ℕ
candidate_in name dir = dir ++ codes "/lib" ++ name ++ codes ".so"
