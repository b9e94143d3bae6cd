-- A bridge: the innermost node in progress, and what an access tells of a rival.
use Rattle.std.specs.Prelude.{find, ◌≡◌, Some, None, List, [], ◌∷◌}
use Rattle.std.specs.declared.option.Option.{Option}
use Rattle.pv_seq.specs.Sequencing.{clash, Access, Open, rivals, open_against}
use Rattle.pv_seq.specs.declared.error.SeqStop.{SeqStop}
use Rattle.pv_seq.specs.declared.error.SeqStop.TheVariants.{Conflict, NoMemory}

-- 6.5p2: the first foe that it conflicts with, else the first such loose write
abbrev pub first_rival : Access → Open → Option Access
first_rival a j = find (clash a) (rivals j)

-- 6.5p2: what an access that isn't made tells, where it has such a rival or none
abbrev pub Tells : Option Access → SeqStop → Type 0
Tells (Some b) (Conflict earlier) = earlier ≡ (b.place, b.length, b.writes)
Tells None NoMemory = Unit {0}
Tells _ _ = ⊥

-- the innermost node in progress
abbrev pub top : List Open → Open
top [] = open_against []
top (j ∷ js) = j

-- the nodes around the innermost one
abbrev pub below : List Open → List Open
below [] = []
below (j ∷ js) = js
