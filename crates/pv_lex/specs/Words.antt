-- Keywords and identifiers.
use Rattle.std.specs.Prelude.{ℕ, Bool, ◌&&◌, ◌||◌, if◌then◌else◌, List, [], ◌∷◌, length, Option, Some, None, nat_eq, codes}
use Rattle.std.specs.Cmp.Lexicographic.{pointwise}
use Rattle.pv_lex.specs.declared.bytes.Class.TheVariants as class
use Rattle.pv_token.specs.declared.words.Word.{Word}
use Rattle.pv_token.specs.declared.words.Word.TheVariants as word
use Rattle.pv_lex.specs.declared.pieces.Fault.TheVariants as fault
use Rattle.pv_lex.specs.Bytes.{run, front, behind, begins, single_quote, double_quote}
use Rattle.pv_lex.specs.Tables.{row_of}
use Rattle.pv_token.specs.Said.{Name, Keyword}
use Rattle.pv_lex.specs.Pieces.{Stand, Here, Bad, token}

-- The keywords (6.4.1p1): those of the profile, and those that it leaves out.
unfoldable pub words : List (List ℕ × Option Word)
words =
    (codes "break", Some word.Break) ∷ (codes "case", Some word.Case) ∷ (codes "char", Some word.Char) ∷
    (codes "const", Some word.Const) ∷ (codes "continue", Some word.Continue) ∷ (codes "default", Some word.Default) ∷
    (codes "do", Some word.Do) ∷ (codes "else", Some word.Else) ∷ (codes "enum", Some word.Enum) ∷
    (codes "extern", Some word.Extern) ∷ (codes "for", Some word.For) ∷ (codes "if", Some word.If) ∷
    (codes "int", Some word.Int) ∷ (codes "long", Some word.Long) ∷ (codes "return", Some word.Return) ∷
    (codes "short", Some word.Short) ∷ (codes "signed", Some word.Signed) ∷ (codes "sizeof", Some word.Sizeof) ∷
    (codes "static", Some word.Static) ∷ (codes "struct", Some word.Struct) ∷ (codes "switch", Some word.Switch) ∷
    (codes "typedef", Some word.Typedef) ∷ (codes "union", Some word.Union) ∷ (codes "unsigned", Some word.Unsigned) ∷
    (codes "void", Some word.Void) ∷ (codes "while", Some word.While) ∷ (codes "_Bool", Some word.Bool) ∷
    (codes "auto", None) ∷ (codes "register", None) ∷ (codes "volatile", None) ∷ (codes "restrict", None) ∷ (codes "inline", None) ∷
    (codes "goto", None) ∷ (codes "float", None) ∷ (codes "double", None) ∷
    (codes "_Alignas", None) ∷ (codes "_Alignof", None) ∷ (codes "_Atomic", None) ∷ (codes "_Complex", None) ∷
    (codes "_Generic", None) ∷ (codes "_Imaginary", None) ∷ (codes "_Noreturn", None) ∷
    (codes "_Static_assert", None) ∷ (codes "_Thread_local", None) ∷ []

-- `L`, `u`, `U` and `u8` directly before a quote make a wide or Unicode literal (6.4.4.4p1, 6.4.5p1), which the profile leaves out.
abbrev pub is_wide : List ℕ → Bool
is_wide text = ((pointwise nat_eq text (codes "L") || pointwise nat_eq text (codes "u")) || pointwise nat_eq text (codes "U")) || pointwise nat_eq text (codes "u8")

-- The quotes of literals (6.4.4.4p1, 6.4.5p1).
abbrev pub is_quote : ℕ → Bool
is_quote b = nat_eq b double_quote || nat_eq b single_quote

-- A word that is no keyword is an identifier (6.4.1p2, 6.4.2.1p4); a keyword that the profile leaves out is a fault, with the word's length.
abbrev pub keyword_or_name : List ℕ → List ℕ → Option (Option Word) → Stand
keyword_or_name word after None = Here (token (Name word) after)
keyword_or_name word after (Some None) = Bad (fault.Profile (length word))
keyword_or_name word after (Some (Some w)) = Here (token (Keyword w) after)

-- At a letter or `_` stands a word, the longest run of letters, digits and `_` (6.4.2.1p1, 6.4p4).
unfoldable pub word_at : List ℕ → Stand
word_at text =
    if is_wide (front class.Word text) && begins is_quote (behind class.Word text) then Bad (fault.Profile (run class.Word text))
    else keyword_or_name (front class.Word text) (behind class.Word text) (row_of words (front class.Word text))
