-- A bridge: what plain expressions (6.5) give from a world, where nothing stops them: no event is told, no byte is printed, the world stays as it is,
-- and all their accesses are reads. A bridge from the code that finds such values to evaluation, whose definition it names.
use Rattle.std.specs.Prelude.{◌≡◌, ℕ, ℤ, ◌+◌, ◌<◌, ◌≤◌, Bool, true, false, List, [], ◌∷◌, ◌++◌, Option, Some, None, Ok}
use Rattle.pv_tree.specs.declared.nodes.NodeId.{NodeId}
use Rattle.pv_types.specs.Ty.{Ty}
use Rattle.pv_types.specs.declared.terms.TypeId.{TypeId}
use Rattle.pv_types.specs.Known.{tree}
use Rattle.pv_prov.specs.declared.names.Prov.TheVariants.{Inst}
use Rattle.pv_typed.specs.declared.nodes.Typed.{Typed}
use Rattle.pv_typed.specs.declared.nodes.IncrementOperator.{IncrementOperator}
use Rattle.pv_typed.specs.TypedTree.{TypedTree, Node, Form, Arguments, Assign, CompoundAssign, PointerAssign, Increment, line_of}
use Rattle.pv_typed.specs.TypedUnits.{object_at}
use Rattle.pv_typed.specs.Nodes.{form_in}
use Rattle.pv_typed.specs.Tables.{Stored, whole_unit, nodes}
use Rattle.pv_typed.specs.NodeTrees.{expression_at}
use Rattle.pv_typed.specs.Plain.{with_own_turn, sum_of_turns, turns_of, turns_of_form}
use Rattle.pv_seq.specs.Sequencing.{Access, Open, open_against}
use Rattle.pv_seq.specs.Frames.{AllRead}
use Rattle.pv_inst.specs.declared.values.Test.TheVariants.{Live, Range}
use Rattle.pv_inst.specs.declared.values.Tried.{Tried}
use Rattle.std.specs.Option.{option_map}
use Rattle.pv_inst.specs.declared.values.Info.{Info}
use Rattle.pv_inst.specs.declared.values.Kind.{Kind}
use Rattle.pv_inst.specs.declared.values.Kind.TheVariants.{Declared, Literal, Heap, Function}
use Rattle.pv_inst.specs.Table.{Table, instance_at}
use Rattle.pv_inst.specs.Infos.{info_of}
use Rattle.pv_inst.specs.Use.{use_answer, after_use}
use Rattle.pv_shadow.specs.declared.byte.Byte.{Byte}
use Rattle.pv_object.specs.declared.values.Pointer.{Pointer}
use Rattle.pv_object.specs.declared.values.Reach.{Reach}
use Rattle.pv_object.specs.declared.values.Asker.TheVariants.{Access as AccessAsker}
use Rattle.pv_num.specs.declared.kinds.IntKind.{IntKind}
use Rattle.pv_num.specs.declared.operators.BinOp.{BinOp}
use Rattle.pv_fault.specs.declared.faults.Clause.{Clause}
use Rattle.pv_object.specs.Access.{reach}
use Rattle.pv_object.specs.Operations.{move_under}
use Rattle.pv_shadow.specs.Whole.{number_in}
use Rattle.pv_object.specs.Loading.{exposed_by}
use Rattle.pv_world.specs.Worlds.{Worth, World}
use Rattle.pv_world.specs.Worths.{int, pointer, null_pointer}
use Rattle.pv_world.specs.Objects.{put_at, owner_of}
use Rattle.pv_world.specs.Telling.{no_telling}
use Rattle.pv_world.specs.Doing.{Answers}
use Rattle.pv_eval.specs.declared.plain.Found.{Found}
use Rattle.pv_eval.specs.declared.plain.Found.TheVariants as found
use Rattle.pv_eval.specs.declared.plain.Spot.{Spot}
use Rattle.pv_eval.specs.declared.marked.Marked.{Marked}
use Rattle.pv_world.specs.declared.got.How.TheVariants.{Rounds}
use Rattle.pv_eval.specs.States.{Setting, State, Res, Gives, Stops, Turns, then_do}
use Rattle.pv_eval.specs.TypeForms.{lvalue}
use Rattle.pv_types.specs.Sorts.{bare_type, is_scalar_in}
use Rattle.pv_world.specs.Suiting.{knows}
use Rattle.pv_eval.specs.Operations.{Op, Converts, Reads, Writes, does, act}
use Rattle.pv_eval.specs.Sequenced.{Given, node_value}
use Rattle.pv_eval.specs.Steps.{Calling, takes}
use Rattle.pv_eval.specs.OfRuns.{with_conversion, accepted_value, combining, stepping, ev_form, ev_call}
use Rattle.pv_eval.specs.Evaluation.{ev}
use Rattle.pv_eval.specs.Frames.{first_after, second_after}
use Rattle.pv_eval.specs.Ahead.{first_operand_of, second_operand_of}

-- the setting of a run of the unit, with this bound, these sides and this reading of pointers to what has ended
abbrev pub setting_by : Stored → (bound : ℕ) → (sides : Option (List Bool)) → (zap : Bool) → Setting
setting_by u n sides zap = record { unit = whole_unit u; types = u.known; bound = n; sides = sides; zap = zap }

-- the state of a run with this world, this output and these events, after so many turns
abbrev pub state_with : World → List ℕ → List Marked → (taken : ℕ) → State
state_with w out es n = record { world = w; output = out; events = es; taken = n }

-- 6.5p2: none of the accesses writes, so that no two of them conflict
abbrev pub AreReads : List Access → Type 0
AreReads = AllRead

-- 6.5p2: a node in progress that has only read
abbrev pub has_read : (foes all : List Access) → Open
has_read fs gs = record { foes = fs; all = gs; loose = [] }

-- a piece of the run gives this value by these reads alone (6.5p2), and leaves this state
pub record OnlyReads (r : Res Given) (all : List Access) (v : Worth) (s : State) : Type 0 where
  pub reads : AreReads all
  pub is : r ≡ Gives (record { value = v; all = all; loose = [] }) s

-- from this world the expression gives this value, in as many turns as a plain expression takes, wherever it stands among
-- expressions that only read, and whatever was printed and told before
pub record Yields (u : Stored) (w : World) (x : TypedTree) (v : Worth) : Type 0 where
  pub turns : ℕ
  pub are : turns_of x ≡ Some turns
  -- 6.5p2: which it reads, in order
  pub accesses : List Access
  pub only : AreReads accesses
  pub gives : (call : Calling) (bound : ℕ) (sides : Option (List Bool)) (zap : Bool) (fs : List Access) (out : List ℕ) (es : List Marked) (n : ℕ) → AreReads fs → n + turns ≤ bound
      → OnlyReads (ev (setting_by u bound sides zap) call x fs (state_with w out es n)) accesses v (state_with w out es (n + turns))
  -- and where fewer turns are left, it stops behind the last of them
  pub stops : (call : Calling) (bound : ℕ) (sides : Option (List Bool)) (zap : Bool) (fs : List Access) (out : List ℕ) (es : List Marked) (n : ℕ) → AreReads fs → n ≤ bound → bound < n + turns
      → ev (setting_by u bound sides zap) call x fs (state_with w out es n) ≡ Stops Turns (state_with w out es bound)

-- what a row stands for
abbrev pub form_by : Stored → Typed → Form
form_by u x = form_in u.lists (nodes u) x

-- a node without operands gives this value
pub record GivesAlone (u : Stored) (w : World) (x : Typed) (v : Worth) : Type 0 where
  pub turns : (turn : Bool) → turns_of_form turn (form_by u x) ≡ Some 1
  pub takes : (turn : Bool) → takes turn (form_by u x) ≡ true
  pub gives : (call : Calling) (bound : ℕ) (sides : Option (List Bool)) (zap : Bool) (t : Ty) (line : ℕ) (fs : List Access) (out : List ℕ) (es : List Marked) (n : ℕ)
      → ev_form (setting_by u bound sides zap) call t line (form_by u x) fs (state_with w out es n) ≡ node_value (open_against fs) v (state_with w out es n)

-- the turns of an operand, where it is plain: a helper of sums
abbrev pub turns_at : Stored → Option NodeId → Option ℕ
turns_at u None = None
turns_at u (Some a) = turns_of (expression_at u a)

-- a node of this type gives this value, once its one operand has given its own
pub record GivesWith (u : Stored) (w : World) (t : Ty) (x : Typed) (first v : Worth) : Type 0 where
  pub turns : (turn : Bool) → turns_of_form turn (form_by u x) ≡ with_own_turn (takes turn (form_by u x)) (turns_at u (first_operand_of x))
  pub gives : (call : Calling) (bound : ℕ) (sides : Option (List Bool)) (zap : Bool) (line : ℕ) (fs gs : List Access) (out : List ℕ) (es : List Marked) (n : ℕ) → AreReads fs → AreReads gs
      → OnlyReads (first_after (setting_by u bound sides zap) call t line (form_by u x) (has_read fs gs) first (state_with w out es n)) gs v (state_with w out es n)

-- 6.5p2: a node of this type reads at the place that its one operand has given, and gives what it reads
pub record GivesReading (u : Stored) (w : World) (t : Ty) (x : Typed) (first v : Worth) : Type 0 where
  pub own : Access
  pub read : own.writes ≡ false
  pub turns : (turn : Bool) → turns_of_form turn (form_by u x) ≡ with_own_turn (takes turn (form_by u x)) (turns_at u (first_operand_of x))
  pub gives : (call : Calling) (bound : ℕ) (sides : Option (List Bool)) (zap : Bool) (line : ℕ) (fs gs : List Access) (out : List ℕ) (es : List Marked) (n : ℕ) → AreReads fs → AreReads gs
      → OnlyReads (first_after (setting_by u bound sides zap) call t line (form_by u x) (has_read fs gs) first (state_with w out es n)) (gs ++ own ∷ []) v (state_with w out es n)

-- the same of a node with two operands
pub record GivesWithBoth (u : Stored) (w : World) (t : Ty) (x : Typed) (first second v : Worth) : Type 0 where
  pub turns : (turn : Bool) → turns_of_form turn (form_by u x) ≡ with_own_turn (takes turn (form_by u x)) (sum_of_turns (turns_at u (first_operand_of x)) (turns_at u (second_operand_of x)))
  pub gives : (call : Calling) (bound : ℕ) (sides : Option (List Bool)) (zap : Bool) (line : ℕ) (fs gs : List Access) (out : List ℕ) (es : List Marked) (n : ℕ) → AreReads fs → AreReads gs
      → OnlyReads (second_after (setting_by u bound sides zap) call t line (form_by u x) first (has_read fs gs) second (state_with w out es n)) gs v (state_with w out es n)

-- 6.5p2: an expression yields a value, and where that is asked for, what it reads was noted behind these accesses
pub record YieldsNoting (u : Stored) (w : World) (x : TypedTree) (v : Worth) (noting : Bool) (before behind : List Access) : Type 0 where
  pub yields : Yields u w x v
  pub noted : noting ≡ true → behind ≡ before ++ yields.accesses

-- 6.5p2: a node reads so, and where that is asked for, its read was noted behind these accesses
pub record GivesNoting (u : Stored) (w : World) (t : Ty) (x : Typed) (first v : Worth) (noting : Bool) (before behind : List Access) : Type 0 where
  pub gives : GivesReading u w t x first v
  pub noted : noting ≡ true → behind ≡ before ++ gives.own ∷ []

-- a piece of the run gives this value and leaves this state, whatever its accesses are
pub record GivesValue (r : Res Given) (v : Worth) (s : State) : Type 0 where
  pub given : Given
  pub value : given.value ≡ v
  pub is : r ≡ Gives given s

-- 6.8p4: how many turns a full expression takes that is plain but for a store at its root (6.5.16.1), which may read the same lvalue
-- first (6.5.2.4, 6.5.3.1, 6.5.16.2)
abbrev pub whole_turns : TypedTree → Option ℕ
whole_turns (Node t line turn (Assign x y)) = with_own_turn true (sum_of_turns (turns_of x) (turns_of y))
whole_turns (Node t line turn (CompoundAssign o k x y)) = with_own_turn true (sum_of_turns (turns_of x) (turns_of y))
whole_turns (Node t line turn (PointerAssign sign x y)) = with_own_turn true (sum_of_turns (turns_of x) (turns_of y))
whole_turns (Node t line turn (Increment o x)) = with_own_turn true (turns_of x)
whole_turns x = turns_of x

-- 6.8p4: from this world the full expression gives this value, in as many turns, and leaves that world
pub record Performs (u : Stored) (w new : World) (x : TypedTree) (v : Worth) : Type 0 where
  pub turns : ℕ
  pub are : whole_turns x ≡ Some turns
  pub gives : (call : Calling) (bound : ℕ) (sides : Option (List Bool)) (zap : Bool) (out : List ℕ) (es : List Marked) (n : ℕ) → n + turns ≤ bound
      → GivesValue (ev (setting_by u bound sides zap) call x [] (state_with w out es n)) v (state_with new out es (n + turns))
  pub stops : (call : Calling) (bound : ℕ) (sides : Option (List Bool)) (zap : Bool) (out : List ℕ) (es : List Marked) (n : ℕ) → n ≤ bound → bound < n + turns
      → ev (setting_by u bound sides zap) call x [] (state_with w out es n) ≡ Stops Turns (state_with w out es bound)

-- an operation gives this value, tells nothing and leaves the world as it is, whatever the world
abbrev pub AlwaysGives : (Setting → Op) → Worth → Type 0
AlwaysGives op v = (b : Setting) (w : World) → does b (op b) w ≡ Answers v w no_telling

-- the same from this world
abbrev pub GivesAt : World → (Setting → Op) → Worth → Type 0
GivesAt w op v = (b : Setting) → does b (op b) w ≡ Answers v w no_telling

-- 6.3p1: an operand's value, converted where its node is an implicit conversion, whatever the state
abbrev pub IsConverted : TypedTree → (before behind : Worth) → Type 0
IsConverted x v z = (b : Setting) (w : World) (out : List ℕ) (es : List Marked) (n : ℕ) → with_conversion b x v (state_with w out es n) ≡ Gives z (state_with w out es n)

-- a place in an instance, as a pointer (the memory model)
abbrev pub pointer_at : Spot → Pointer
pointer_at p = record { address = p.address; prov = Inst p.inst }

-- 6.5.2.4p2, 6.5.3.1p2: a value of this type that is stepped gives this value, from this world, and leaves the state as it is
abbrev pub StepsTo : Stored → World → Ty → IncrementOperator → (before behind : Worth) → Type 0
StepsTo u w t o v z =
    (bound : ℕ) (sides : Option (List Bool)) (zap : Bool) (line : ℕ) (out : List ℕ) (es : List Marked) (n : ℕ)
    → stepping (setting_by u bound sides zap) line t o v (state_with w out es n) ≡ Gives z (state_with w out es n)

-- 6.5.16.2p3: what was read, converted, and the value of the operand with it, combined and converted back, give this value in any
-- state, which stays as it is; said of whatever comes behind
abbrev pub CombinesTo : TypedTree → BinOp → (kind back : IntKind) → (read second z : Worth) → Type 0
CombinesTo x o k back v w z =
    (b : Setting) (world : World) (line : ℕ) (out : List ℕ) (es : List Marked) (n : ℕ) (go : Worth → State → Res Given)
    → then_do (act b line (Converts (Rounds k) v) (state_with world out es n)) (λ v s. then_do (with_conversion b x w s) (λ w s. then_do (combining b line o k back v w s) go)) ≡ go z (state_with world out es n)

-- what was found, as what an expression gives
abbrev pub found_worth : Found → Worth
found_worth (found.Number n) = int n
found_worth (found.Place p) = pointer (pointer_at p)
found_worth found.Null = pointer null_pointer

-- 6.3.2.1p2: a read of an lvalue of this type gives this value from this world, against accesses that only read
abbrev pub ReadsFrom : Stored → World → Ty → Pointer → Worth → Type 0
ReadsFrom u w t p v =
    (bound : ℕ) (sides : Option (List Bool)) (zap : Bool) (others : List Access) → AreReads others
    → does (setting_by u bound sides zap) (Reads (lvalue (setting_by u bound sides zap) t) (pointer p) others) w ≡ Answers v w no_telling

-- 6.5.16p3: a write of this value through an lvalue of this type stores these bytes, where no other access is near
abbrev pub WritesTo : Stored → World → Ty → Pointer → Worth → List Byte → Type 0
WritesTo u w t p v bytes =
    (bound : ℕ) (sides : Option (List Bool)) (zap : Bool)
    → does (setting_by u bound sides zap) (Writes (lvalue (setting_by u bound sides zap) t) (pointer p) v None []) w ≡ Answers v (put_at w p.address bytes) no_telling

-- 6.5.16p3: the same, and the world in which it was stored
pub record StoresAt (u : Stored) (w : World) (t : Ty) (p : Pointer) (v : Worth) (new : World) : Type 0 where
  pub bytes : List Byte
  pub writes : WritesTo u w t p v bytes
  pub is : new ≡ put_at w p.address bytes

-- what the use of a name finds that is that of one live instance (the memory model)
abbrev pub alone_tried : Tried
alone_tried = record { pair = None; low = true; high = false }

-- 6.5.3.2p4, 6.2.4p2: an access to so many bytes by a pointer to one instance passes its checks, and the table stays
pub record HasReached (T : Table) (p : Pointer) (n align : ℕ) (write : Bool) (at : Reach) : Type 0 where
  pub known : knows T p.prov ≡ true
  pub address : at.address ≡ p.address
  pub used : use_answer T p.prov (Range p.address n) ≡ Ok alone_tried
  pub is : reach T p n align write AccessAsker ≡ (Ok at, T)

-- 6.5p6: the instance that was reached is live and of this kind
abbrev pub HasKind : Table → Reach → Kind → Type 0
HasKind T at k = option_map (λ (x : Info). x.kind) (info_of (instance_at T.instances at.inst)) ≡ Some k

-- 6.5p6: an instance that was made for an object
abbrev pub is_declared : Kind → Bool
is_declared (Declared constant) = true
is_declared Literal = false
is_declared Heap = false
is_declared Function = false

-- 6.5p7: what was reached is the beginning of this object
pub record IsObject (w : World) (o : ℕ) (at : Reach) (k : Kind) : Type 0 where
  pub declared : is_declared k ≡ true
  pub owner : owner_of w at.inst ≡ Some o
  pub offset : at.offset ≡ 0

-- 6.5p7: it is the declared type of this object, qualifiers aside, and an integer or pointer type
pub record IsOwnType (u : Stored) (o : ℕ) (t : TypeId) : Type 0 where
  pub same : bare_type (object_at (whole_unit u) o).t ≡ tree u.known t.0
  pub scalar : is_scalar_in (tree u.known t.0) ≡ true

-- 6.2.4p2, 6.5.9p6: a pointer with this address passes its live test, and the table stays: it is null, or into one live instance
pub record IsLooked (T : Table) (v : Worth) (a : ℕ) : Type 0 where
  pub named : Pointer
  pub is : v ≡ pointer named
  pub address : named.address ≡ a
  pub known : knows T named.prov ≡ true
  pub tried : Tried
  pub used : use_answer T named.prov Live ≡ Ok tried
  pub single : tried.pair ≡ None
  pub stays : after_use T named.prov (Ok tried) ≡ T

-- 6.5.6p8: a pointer to one instance moves so many bytes on, to where it may point, and the table stays
pub record HasMoved (c : Clause) (T : Table) (p : Pointer) (by : ℤ) (q : Pointer) : Type 0 where
  pub known : knows T p.prov ≡ true
  pub is : move_under c T p by ≡ (Ok (q, alone_tried), T)

-- 6.2.6.1p4: bytes that are this number, and have no names, so that nothing is exposed by reading them (the memory model)
abbrev pub IsPlainNumber : List Byte → ℕ → Type 0
IsPlainNumber bytes n = (number_in bytes ≡ Some n) × ((T : Table) → exposed_by T bytes ≡ T)

-- 6.5.2.2p7: an argument yields a value, behind so many turns and up to so many, which is converted to this one and is there (6.9.1p12), and what it
-- reads was noted behind these accesses
pub record HandsNoting (u : Stored) (w : World) (x : TypedTree) (before behind : ℕ) (v : Worth) (was now : List Access) : Type 0 where
  pub worth : Worth
  pub yields : Yields u w x worth
  pub are : behind ≡ before + yields.turns
  pub noted : now ≡ was ++ yields.accesses
  pub hands : (b : Setting) (out : List ℕ) (es : List Marked) (n : ℕ) → accepted_value b x worth (state_with w out es n) ≡ Gives v (state_with w out es n)

-- 6.5.2.2p10: a call, behind so many turns and up to so many, comes to those of its arguments that are left, beside the values of the others, by
-- these reads alone; and under each bound that is met before that, the run stops there
pub record ComesToArguments (u : Stored) (w : World) (x : TypedTree) (f : ℕ) (got : List Worth) (remaining : Arguments) (all : List Access) (before behind : ℕ) : Type 0 where
  pub only : AreReads all
  pub gives : (call : Calling) (bound : ℕ) (sides : Option (List Bool)) (zap : Bool) (fs : List Access) (out : List ℕ) (es : List Marked) → AreReads fs → behind ≤ bound
      → ev (setting_by u bound sides zap) call x fs (state_with w out es before) ≡ ev_call (setting_by u bound sides zap) call (line_of x) f got remaining (has_read fs all) (state_with w out es behind)
  pub stops : (call : Calling) (bound : ℕ) (sides : Option (List Bool)) (zap : Bool) (fs : List Access) (out : List ℕ) (es : List Marked) → AreReads fs → before ≤ bound → bound < behind
      → ev (setting_by u bound sides zap) call x fs (state_with w out es before) ≡ Stops Turns (state_with w out es bound)
