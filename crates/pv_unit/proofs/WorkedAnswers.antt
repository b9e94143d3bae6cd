-- What the worked units are asked: what comes of a unit, its objects, static objects, literals and bodies.
use Rattle.std.proofs.Common.{ℕ, ◌+◌, ◌-◌, min, unsigned_abs, false, List, [], ◌∷◌, ◌++◌, Option, Some, None, if◌then◌else◌, length}
use Rattle.pv_tree.specs.Syntax.{DeclarationTree}
use Rattle.pv_types.specs.Layouts.{layout_in}
use Rattle.pv_typed.specs.TypedTree.{TypedTree, line_of}
use Rattle.pv_typed.specs.TypedStatement.{TypedStatement, Statements, NoStatements, MoreStatements}
use Rattle.pv_typed.specs.TypedStatement as typed
use Rattle.pv_typed.specs.TypedUnits.{WholeUnit, TypedObject, TypedFunction, Store, StoredValue, ValueOf, TextOf, literal_at, object_at, layouts}
use Rattle.pv_check.specs.Scopes.{no_scope}
use Rattle.pv_unit.specs.Redeclarations.{UnitState}
use Rattle.pv_unit.specs.Definitions.{may_end}
use Rattle.pv_unit.specs.Functions.{typed_external}
use Rattle.pv_unit.specs.Units.{first_unresolved, has_main, finished_unit}

-- what comes of a unit (5.1.1.3p1), and of its typing what the rows look at
pub data Answer : Type 0 where
  Refused : ℕ → Answer
  Named : ℕ → Answer
  Mainless : Answer
  -- of each object, whether it is braced, and its stores; the static objects' names; the literals' lengths and lines; the bodies
  Accepted : (objects : List (List ℕ)) → (statics literals : List ℕ) → (bodies : List (List ℕ)) → Answer

-- how many bytes a store writes: the size of the type, or as many characters as the literal has, at most
abbrev pub stored_size : WholeUnit → ℕ → StoredValue → List ℕ
stored_size u size (ValueOf a) = size ∷ []
stored_size u size (TextOf l) = min size (length (literal_at u l).bytes) ∷ []

-- a value (0), or characters (1)
abbrev pub sort : StoredValue → ℕ
sort (ValueOf a) = 0
sort (TextOf l) = 1

-- what the rows look at of a value that is stored, beside its size, its line and its sort
abbrev pub Look : Type 0
Look = WholeUnit → TypedObject → StoredValue → List ℕ

-- the stores of an object: offset, size, line, sort, and what else is looked at
abbrev pub stores : Look → WholeUnit → TypedObject → List Store → List ℕ
stores look u o [] = []
stores look u o (x ∷ xs) = (x.offset ∷ stored_size u (layout_in (layouts u) x.t).size x.what) ++ (x.line ∷ sort x.what ∷ (look u o x.what ++ stores look u o xs))

-- of each object whether it is braced, how many stores it has, and these
abbrev pub objects : Look → WholeUnit → List TypedObject → List (List ℕ)
objects look u [] = []
objects look u (o ∷ os) = ((if o.braced then 1 else 0) ∷ length o.inits ∷ stores look u o o.inits) ∷ objects look u os

-- the names of objects, by their numbers among the tokens
abbrev pub named : WholeUnit → List ℕ → List ℕ
named u [] = []
named u (o ∷ os) = ((object_at u o).name - 2) ∷ named u os

-- the lengths and the lines of literals
abbrev pub literals : WholeUnit → List ℕ → List ℕ
literals u [] = []
literals u (l ∷ ls) = length (literal_at u l).bytes ∷ (literal_at u l).line ∷ literals u ls

-- the line of an expression that may be left out
abbrev pub line_if : Option TypedTree → ℕ
line_if None = 0
line_if (Some a) = line_of a

-- statements (6.8) as numbers: which one, its line, and its parts
abbrev mutual
  pub strip : TypedStatement → List ℕ
  strip (typed.Block line declared items) = 1 ∷ line ∷ length declared ∷ (strips items ++ (99 ∷ []))
  strip (typed.Declare line o) = 2 ∷ line ∷ []
  strip (typed.Expression line a) = 3 ∷ line ∷ line_of a ∷ []
  strip (typed.Empty line) = 4 ∷ line ∷ []
  strip (typed.If line c body) = 5 ∷ line ∷ line_of c ∷ strip body
  strip (typed.IfElse line c body other) = 6 ∷ line ∷ line_of c ∷ (strip body ++ strip other)
  strip (typed.Switch line a body) = 7 ∷ line ∷ line_of a ∷ strip body
  strip (typed.Case line value body) = 8 ∷ unsigned_abs value ∷ strip body
  strip (typed.Default line body) = 9 ∷ strip body
  strip (typed.While line c body) = 10 ∷ line ∷ line_of c ∷ strip body
  strip (typed.DoWhile line body c) = 11 ∷ line ∷ (strip body ++ (line_of c ∷ []))
  strip (typed.For line first c step body) = 12 ∷ line ∷ line_if first ∷ line_if c ∷ line_if step ∷ strip body
  strip (typed.ForDeclaration line declared ds c step body) = 13 ∷ line ∷ length declared ∷ (strips ds ++ (line_if c ∷ line_if step ∷ strip body))
  strip (typed.Continue line) = 15 ∷ line ∷ []
  strip (typed.Break line) = 14 ∷ line ∷ []
  strip (typed.Return line a) = 16 ∷ line ∷ line_if a ∷ []

  pub strips : Statements → List ℕ
  strips NoStatements = []
  strips (MoreStatements s ss) = strip s ++ strips ss

-- the body of a function, if it has one
abbrev pub body_of : Option TypedStatement → List (List ℕ) → List (List ℕ)
body_of None more = more
body_of (Some b) more = strip b ∷ more

-- all bodies
abbrev pub bodies : List TypedFunction → List (List ℕ)
bodies [] = []
bodies (f ∷ fs) = body_of f.body (bodies fs)

-- what the rows look at of a typed unit
abbrev pub accepted : Look → UnitState → Answer
accepted look u = Accepted (objects look u.state.unit u.state.unit.objects) (named (finished_unit u) (finished_unit u).statics) (literals u.state.unit u.state.unit.instances) (bodies u.state.unit.functions)

-- by the first name without a definition (6.9p5)
abbrev pub resolved : Look → UnitState → Option ℕ → Answer
resolved look u (Some n) = Named n
resolved look u None = if has_main u.state.unit then accepted look u else Mainless

-- behind the last declaration (6.9.2p2)
abbrev pub ended : Look → ℕ → Option UnitState → Answer
ended look i None = Refused i
ended look i (Some u) = if may_end u then resolved look u (first_unresolved u.state u.entities) else Refused i

-- declaration by declaration (6.9p1), of which one has the number i
abbrev pub judged_from : Look → ℕ → DeclarationTree → List DeclarationTree → Option UnitState → Answer
judged_from look i d ds None = Refused (i - 1)
judged_from look i d [] (Some u) = ended look i (typed_external d u)
judged_from look i d (e ∷ ds) (Some u) = judged_from look (i + 1) e ds (typed_external d u)

-- before the first declaration
abbrev pub nothing : List (List ℕ) → List (List ℕ) → UnitState
nothing names texts = record { state = record { scopes = no_scope ∷ []; unit = record { names = [] ∷ [] ∷ names; headings = []; completed = []; objects = []; functions = []; literals = []; instances = []; statics = []; placed = []; tags = []; declarations = 0 }; texts = texts; used = []; unevaluated = false }; entities = []; unsized_typedef = false }

-- what comes of a unit with these names and texts
abbrev pub judged_by : Look → List (List ℕ) → List (List ℕ) → List DeclarationTree → Answer
judged_by look names texts [] = resolved look (nothing names texts) None
judged_by look names texts (d ∷ ds) = judged_from look 0 d ds (Some (nothing names texts))
