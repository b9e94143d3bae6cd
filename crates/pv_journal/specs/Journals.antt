-- Journals: a line for each event of a run, and a last line with their number.
use Rattle.std.specs.Prelude.{ℕ, List, [], ◌∷◌, ◌++◌, length, codes, Option, Some, None}
use Rattle.std.specs.List.{join_with_byte}
use Rattle.std.specs.Fmt.{decimal}
use Rattle.pv_print.specs.Texts.{address_text}
use Rattle.pv_prov.specs.TestNumbers.{test_text}

-- the memory model: what a storage instance (6.2.4p1) is called by, the text of its name and which of this name it is
pub record Id : Type 0 where
  pub name : List ℕ
  pub k : ℕ

-- the memory model: what a line says of instances, and of the pairs of candidates by their numbers
pub data Fact : Type 0 where
  Made : (id : Id) (base size : ℕ) → Fact
  Ended : (id : Id) → Fact
  Exposed : (id : Id) → Fact
  Paired : (pair address : ℕ) (low high : Id) → Fact
  Used : (pair test : ℕ) (first : Id) (second : Option Id) → Fact
  Fault : Fact

-- the memory model: a line of a journal, with the turns taken
pub record Row : Type 0 where
  pub turn : ℕ
  pub says : Fact

-- `name#k` (the memory model)
abbrev pub id_text : Id → List ℕ
id_text id = id.name ++ codes "#" ++ decimal id.k

-- the candidates that passed (the memory model), the low one first
abbrev pub left_text : Id → Option Id → List ℕ
left_text first None = id_text first
left_text first (Some second) = id_text first ++ codes "," ++ id_text second

-- the words of a line, with the turns taken (docs/FORMATS.md, Journals; memory model)
abbrev pub fact_words : ℕ → Fact → List (List ℕ)
fact_words turn (Made id base size) =
    codes "create" ∷ id_text id ∷ (codes "turn=" ++ decimal turn) ∷ (codes "base=" ++ address_text base) ∷ (codes "size=" ++ decimal size) ∷ []
fact_words turn (Ended id) = codes "end" ∷ id_text id ∷ (codes "turn=" ++ decimal turn) ∷ []
fact_words turn (Exposed id) = codes "expose" ∷ id_text id ∷ (codes "turn=" ++ decimal turn) ∷ []
fact_words turn (Paired pair address low high) =
    codes "pair" ∷ decimal pair ∷ (codes "turn=" ++ decimal turn) ∷ (codes "address=" ++ address_text address) ∷ (codes "low=" ++ id_text low) ∷ (codes "high=" ++ id_text high) ∷ []
fact_words turn (Used pair test first second) =
    codes "use" ∷ decimal pair ∷ (codes "turn=" ++ decimal turn) ∷ (codes "test=" ++ test_text test) ∷ (codes "left=" ++ left_text first second) ∷ []
fact_words turn Fault = codes "fault" ∷ (codes "turn=" ++ decimal turn) ∷ []

-- a line, without its end: its words with one space between two (docs/FORMATS.md, Journals; memory model)
abbrev pub row_text : Row → List ℕ
row_text row = join_with_byte 32 (fact_words row.turn row.says)

-- lines in order, each ended by a line feed (docs/FORMATS.md, Journals; memory model)
abbrev pub rows_text : List Row → List ℕ
rows_text [] = []
rows_text (row ∷ rows) = row_text row ++ (10 ∷ rows_text rows)

-- the last line, without its end (docs/FORMATS.md, Journals; memory model)
abbrev pub last_text : ℕ → List ℕ
last_text n = codes "events " ++ decimal n

-- the journal of these lines (docs/FORMATS.md, Journals; memory model)
abbrev pub journal_text : List Row → List ℕ
journal_text rows = rows_text rows ++ (last_text (length rows) ++ (10 ∷ []))
