-- What stands at a place of a source: the end, a fault, or a piece.
use Rattle.std.specs.Prelude.{Bool, if◌then◌else◌, ◌&&◌, ◌||◌, List, ℕ, [], ◌∷◌, drop, None, nat_eq, codes}
use Rattle.std.specs.List.{starts_with}
use Rattle.std.specs.Char.{is_ascii_digit}
use Rattle.pv_lex.specs.declared.bytes.Class.TheVariants as class
use Rattle.pv_lex.specs.declared.pieces.Fault.TheVariants as fault
use Rattle.pv_lex.specs.Bytes.{is_white, is_letter, behind, begins, single_quote, double_quote, number_sign, full_stop}
use Rattle.pv_lex.specs.Pieces.{White, Comment, Stand, End, Bad, Here, or_bad}
use Rattle.pv_lex.specs.Words.{word_at}
use Rattle.pv_lex.specs.Constants.{number_at}
use Rattle.pv_lex.specs.Characters.{character_constant, string_literal}
use Rattle.pv_lex.specs.Comments.{block_comment}
use Rattle.pv_lex.specs.Markers.{marker}
use Rattle.pv_lex.specs.Marks.{mark_at}

-- What stands where `text` is left of the source, in the order of 6.4p1 and p3 to p4: white space, a word, an integer constant (6.4.4.1), a character constant (6.4.4.4), a string literal (6.4.5), a line marker (6.10.4), a comment (6.4.9), a punctuator (6.4.6).
-- `fresh`: only spaces and tabs stand before it on its line, as a directive asks (6.10p2). A dot before a digit begins a floating constant (6.4.4.2p1), and `%:` is `#` (6.4.6p3): the profile has neither.
unfoldable pub stands : (fresh : Bool) → List ℕ → Stand
stands fresh [] = End
stands fresh (b ∷ bs) =
    if is_white b then Here (record { what = White b; after = bs })
    else (if is_letter b then word_at (b ∷ bs)
    else (if is_ascii_digit b then or_bad (number_at (b ∷ bs))
    else (if nat_eq b single_quote then or_bad (character_constant bs)
    else (if nat_eq b double_quote then or_bad (string_literal bs)
    else (if nat_eq b number_sign then or_bad (if fresh then marker bs else None)
    else (if starts_with nat_eq (b ∷ bs) (codes "//") then Here (record { what = Comment 0; after = behind class.InLine bs })
    else (if starts_with nat_eq (b ∷ bs) (codes "/*") then or_bad (block_comment (drop 1 bs))
    else (if (nat_eq b full_stop && begins is_ascii_digit bs) || starts_with nat_eq (b ∷ bs) (codes "%:") then Bad fault.BadToken
    else mark_at (b ∷ bs)))))))))
