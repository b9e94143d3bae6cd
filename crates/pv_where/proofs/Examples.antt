-- Texts of refusals, worked by hand. Numbers are left unwritten.
use Rattle.std.specs.Prelude.{◌≡◌, ℕ, List, [], ◌∷◌, ◌++◌, codes}
use Rattle.std.specs.List.{repeat}
use Rattle.std.proofs.Common.{refl}
use Rattle.pv_lex.specs.Bytes.{run, line_feeds}
use Rattle.pv_lex.specs.Words.{words, word_at}
use Rattle.pv_lex.specs.Marks.{marks, mark_at}
use Rattle.pv_lex.specs.Constants.{value_from}
use Rattle.pv_lex.specs.Comments.{behind_close, block_comment}
use Rattle.pv_lex.specs.Markers.{some_of, behind_name, groups, marker}
use Rattle.pv_lex.specs.Stands.{stands}
use Rattle.pv_where.specs.SourceLines.{shown_most}
use Rattle.pv_where.specs.Spots.{behind_quote, row_to}
use Rattle.pv_where.specs.Texts.{head_line, place_text}

abbrev line : List ℕ → List ℕ
line text = text ++ 10 ∷ []

abbrev quoted : List ℕ → List ℕ
quoted name = 34 ∷ (name ++ 34 ∷ [])

-- a marker's line
abbrev marked : (number name flags : List ℕ) → List ℕ
marked number name flags = line (codes "# " ++ number ++ codes " " ++ quoted name ++ flags)

-- the text of a refusal in f.c
abbrev shown : (source : List ℕ) → (place : ℕ) → List ℕ
shown source place = place_text (codes "f.c") source place (codes "syntax")

-- what is expected of it
abbrev told : (file : List ℕ) → (number column : ℕ) → (text mark : List ℕ) → List ℕ
told file number column text mark = head_line file number column (codes "syntax") ++ line (codes "  " ++ text) ++ mark

abbrev file : List ℕ
file = codes "f.c"

-- no marker, and the first line
no_marker : shown (line (codes "int a = ;")) 8 ≡ told file 1 9 (codes "int a = ;") (line (codes "          ^"))
unfolding place_text shown_most behind_quote row_to stands word_at words run line_feeds mark_at marks value_from block_comment behind_close some_of behind_name groups marker
no_marker = refl

-- lines are counted from 1 on
second_line : shown (line (codes "int a;") ++ line (codes "int b = ;")) 15 ≡ told file 2 9 (codes "int b = ;") (line (codes "          ^"))
unfolding place_text shown_most behind_quote row_to stands word_at words run line_feeds mark_at marks value_from block_comment behind_close some_of behind_name groups marker
second_line = refl

-- a marker numbers the line behind it, and names its file
one_marker : shown (marked (codes "12") (codes "a.c") (codes " 1") ++ line (codes "int a;") ++ line (codes "b = ;")) 24 ≡ told (codes "a.c") 13 5 (codes "b = ;") (line (codes "      ^"))
unfolding place_text shown_most behind_quote row_to stands word_at words run line_feeds mark_at marks value_from block_comment behind_close some_of behind_name groups marker
one_marker = refl

-- the last marker before the place counts
two_markers : shown (marked (codes "1") (codes "a.c") [] ++ marked (codes "7") (codes "b/c.h") (codes " 1 3") ++ line [] ++ line (codes "x")) 27 ≡ told (codes "b/c.h") 8 1 (codes "x") (line (codes "  ^"))
unfolding place_text shown_most behind_quote row_to stands word_at words run line_feeds mark_at marks value_from block_comment behind_close some_of behind_name groups marker
two_markers = refl

-- and none behind the place
marker_behind : shown (line (codes "x") ++ marked (codes "7") (codes "b.c") []) 0 ≡ told file 1 1 (codes "x") (line (codes "  ^"))
unfolding place_text shown_most behind_quote row_to stands word_at words run line_feeds mark_at marks value_from block_comment behind_close some_of behind_name groups marker
marker_behind = refl

-- a place in a marker's line lies where the marker before it says
in_a_marker : shown (line [] ++ marked (codes "7") (codes "b.c") []) 1 ≡ told file 2 1 (codes "# 7 " ++ quoted (codes "b.c")) (line (codes "  ^"))
unfolding place_text shown_most behind_quote row_to stands word_at words run line_feeds mark_at marks value_from block_comment behind_close some_of behind_name groups marker
in_a_marker = refl

-- a marker's name is told as it is written, with its escapes
escapes_stay : shown (marked (codes "3") (97 ∷ 92 ∷ 34 ∷ 98 ∷ []) [] ++ codes "z") 11 ≡ told (97 ∷ 92 ∷ 34 ∷ 98 ∷ []) 3 1 (codes "z") (line (codes "  ^"))
unfolding place_text shown_most behind_quote row_to stands word_at words run line_feeds mark_at marks value_from block_comment behind_close some_of behind_name groups marker
escapes_stay = refl

-- in a comment stands no marker, but its lines count
in_a_comment : shown (line (codes "/*") ++ marked (codes "9") (codes "x.h") [] ++ line (codes "*/ y")) 16 ≡ told file 3 4 (codes "*/ y") (line (codes "     ^"))
unfolding place_text shown_most behind_quote row_to stands word_at words run line_feeds mark_at marks value_from block_comment behind_close some_of behind_name groups marker
in_a_comment = refl

-- a place within a comment
within_a_comment : shown (line (codes "/*") ++ line (codes "a*/")) 3 ≡ told file 2 1 (codes "a*/") (line (codes "  ^"))
unfolding place_text shown_most behind_quote row_to stands word_at words run line_feeds mark_at marks value_from block_comment behind_close some_of behind_name groups marker
within_a_comment = refl

-- behind a fault no marker is read
behind_a_fault : shown (line (codes "@") ++ marked (codes "9") (codes "x.h") [] ++ line (codes "y")) 12 ≡ told file 3 1 (codes "y") (line (codes "  ^"))
unfolding place_text shown_most behind_quote row_to stands word_at words run line_feeds mark_at marks value_from block_comment behind_close some_of behind_name groups marker
behind_a_fault = refl

-- a tab stays a tab, so that the mark stands under its byte
tab_before : shown (line (9 ∷ codes "x y")) 3 ≡ told file 1 4 (9 ∷ codes "x y") (line (codes "  " ++ 9 ∷ codes "  ^"))
unfolding place_text shown_most behind_quote row_to stands word_at words run line_feeds mark_at marks value_from block_comment behind_close some_of behind_name groups marker
tab_before = refl

-- a place at a line feed lies in the line that it ends
at_a_line_feed : shown (line (codes "ab") ++ line (codes "c")) 2 ≡ told file 1 3 (codes "ab") (line (codes "    ^"))
unfolding place_text shown_most behind_quote row_to stands word_at words run line_feeds mark_at marks value_from block_comment behind_close some_of behind_name groups marker
at_a_line_feed = refl

-- the end of a source behind a line feed
end_behind_feed : shown (line (codes "ab")) 3 ≡ told file 2 1 ([]) (line (codes "  ^"))
unfolding place_text shown_most behind_quote row_to stands word_at words run line_feeds mark_at marks value_from block_comment behind_close some_of behind_name groups marker
end_behind_feed = refl

-- the end of a source without one
end_without_feed : shown (codes "ab") 2 ≡ told file 1 3 (codes "ab") (line (codes "    ^"))
unfolding place_text shown_most behind_quote row_to stands word_at words run line_feeds mark_at marks value_from block_comment behind_close some_of behind_name groups marker
end_without_feed = refl

-- an empty source
empty_source : shown ([]) 0 ≡ told file 1 1 ([]) (line (codes "  ^"))
unfolding place_text shown_most behind_quote row_to stands word_at words run line_feeds mark_at marks value_from block_comment behind_close some_of behind_name groups marker
empty_source = refl

-- a control byte is shown as a question mark
control_bytes : shown (97 ∷ 1 ∷ 127 ∷ 13 ∷ line []) 0 ≡ told file 1 1 (codes "a???") (line (codes "  ^"))
unfolding place_text shown_most behind_quote row_to stands word_at words run line_feeds mark_at marks value_from block_comment behind_close some_of behind_name groups marker
control_bytes = refl

-- a line of 200 bytes is shown whole, and a place at its end
whole_line : shown (line (repeat 200 (120 ∷ []))) 200 ≡ told file 1 201 (repeat 200 (120 ∷ [])) (line (codes "  " ++ repeat 200 (32 ∷ []) ++ codes "^"))
unfolding place_text shown_most behind_quote row_to stands word_at words run line_feeds mark_at marks value_from block_comment behind_close some_of behind_name groups marker
whole_line = refl

-- of a longer one so much is shown, with the mark where the place is among that
before_the_cut : shown (line (repeat 201 (120 ∷ []))) 199 ≡ told file 1 200 (repeat 200 (120 ∷ [])) (line (codes "  " ++ repeat 199 (32 ∷ []) ++ codes "^"))
unfolding place_text shown_most behind_quote row_to stands word_at words run line_feeds mark_at marks value_from block_comment behind_close some_of behind_name groups marker
before_the_cut = refl

-- and without it where the place is behind that
behind_the_cut : shown (line (repeat 201 (120 ∷ []))) 200 ≡ told file 1 201 (repeat 200 (120 ∷ [])) ([])
unfolding place_text shown_most behind_quote row_to stands word_at words run line_feeds mark_at marks value_from block_comment behind_close some_of behind_name groups marker
behind_the_cut = refl
