-- Where a refusal is, as a text. C17 leaves the form of a diagnostic to an implementation (5.1.1.3).
use Rattle.std.specs.Prelude.{ℕ, List, [], ◌∷◌, ◌++◌, codes}
use Rattle.std.specs.Fmt.{decimal}
use Rattle.pv_lex.specs.Bytes.{line_feed}
use Rattle.pv_where.specs.SourceLines.{line_before, source_line, column, shown_line, mark_line}
use Rattle.pv_where.specs.Spots.{file_at, line_at}

-- 5.1.1.3: the file, the line and the column of a refusal, and what is refused
abbrev pub head_line : (file : List ℕ) → (line column : ℕ) → (what : List ℕ) → List ℕ
head_line file line column what = file ++ codes ":" ++ decimal line ++ codes ":" ++ decimal column ++ codes ": refused: " ++ what ++ line_feed ∷ []

-- 5.1.1.3: the text of a refusal at a place of a source that is named so: where it is, its line, and a mark under the place
-- worked: no_marker, second_line, one_marker, two_markers, marker_behind, in_a_marker, escapes_stay, in_a_comment, within_a_comment,
-- behind_a_fault, tab_before, at_a_line_feed, end_behind_feed, end_without_feed, empty_source, control_bytes, whole_line, before_the_cut,
-- behind_the_cut
unfoldable pub place_text : (name source : List ℕ) → (place : ℕ) → (what : List ℕ) → List ℕ
place_text name source place what =
    head_line (file_at name source place) (line_at name source place) (column source place) what
    ++ shown_line (source_line source place)
    ++ mark_line (line_before source place) (source_line source place)
