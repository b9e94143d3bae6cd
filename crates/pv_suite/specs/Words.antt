-- What the words of the command line ask for (5.1.2.2.1).
use Rattle.std.specs.Prelude.{ℕ, List, [], ◌∷◌, Option, None}
use Rattle.pv_serve.specs.Words.{file_name}

-- 5.1.2.2.1p2: the name of a list's file, of at least one byte, and no word more; anything else is no job
abbrev pub list_of : List (List ℕ) → Option (List ℕ)
list_of (word ∷ []) = file_name word
list_of _ = None
