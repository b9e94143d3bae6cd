-- What each operation of a run comes to in two runs of one unit, whose types have other numbers (C17 6.5p6).
use Rattle.std.specs.Prelude.{ℕ, Bool, List, Option}
use Rattle.pv_num.specs.declared.kinds.IntKind.{IntKind}
use Rattle.pv_num.specs.declared.operators.BinOp.{BinOp}
use Rattle.pv_num.specs.declared.operators.UnOp.{UnOp}
use Rattle.pv_types.specs.Ty.{Ty}
use Rattle.pv_types.specs.Known.{Known}
use Rattle.pv_library.specs.declared.library.Library.{Library}
use Rattle.pv_seq.specs.Sequencing.{Access}
use Rattle.pv_libc.specs.declared.values.Arg.{Arg}
use Rattle.pv_world.specs.declared.got.How.{How}
use Rattle.pv_world.specs.Worlds.{Worth}
use Rattle.pv_eval.specs.States.{Setting, State}
use Rattle.pv_eval.specs.TypeForms.{Lvalue}
use Rattle.pv_eval.specs.Operations.{Op, Converts, Calculates, CalculatesOne, Tests, Negates, Accepts, Needs, Moves, Subtracts, Orders, Equals, Follows, Selects, Finds, TakesPart, Reads, Writes, NamesObject, NamesLiteral, NamesFunction, MakesFunction, Makes, MakesLiteral, Ends, BeginsBody, EndsBody, Fills, Puts, PutsText, Asks, act}
use Rattle.pv_numbering.proofs.Alike.{with_types, AlikeWorth, AlikeLvalue, AlikeState, AlikeRes}

-- at moments that are alike both operations give values that are alike, or stop alike
abbrev pub ActAlike : (b : Setting) (m' : Known) → (o o' : Op) → Type 0
ActAlike b m' o o' = (line : ℕ) (s s' : State) → AlikeState b.types m' s s' → AlikeRes b.types m' (AlikeWorth b.types m') (act b line o s) (act (with_types b m') line o' s')

-- so it is with every operation, on values and lvalues that are alike
pub record ActsAlike (b : Setting) (m' : Known) : Type 0 where
  pub converts : (how : How) (v v' : Worth) → AlikeWorth b.types m' v v' → ActAlike b m' (Converts how v) (Converts how v')
  pub calculates : (op : BinOp) (k : IntKind) (v v' x x' : Worth) → AlikeWorth b.types m' v v' → AlikeWorth b.types m' x x' → ActAlike b m' (Calculates op k v x) (Calculates op k v' x')
  pub calculates_one : (op : UnOp) (k : IntKind) (v v' : Worth) → AlikeWorth b.types m' v v' → ActAlike b m' (CalculatesOne op k v) (CalculatesOne op k v')
  pub tests : (v v' : Worth) → AlikeWorth b.types m' v v' → ActAlike b m' (Tests v) (Tests v')
  pub negates : (v v' : Worth) → AlikeWorth b.types m' v v' → ActAlike b m' (Negates v) (Negates v')
  pub accepts : (v v' : Worth) → AlikeWorth b.types m' v v' → ActAlike b m' (Accepts v) (Accepts v')
  pub needs : (v v' : Worth) → AlikeWorth b.types m' v v' → ActAlike b m' (Needs v) (Needs v')
  pub moves : (minus first : Bool) (size : ℕ) (v v' x x' : Worth) → AlikeWorth b.types m' v v' → AlikeWorth b.types m' x x' → ActAlike b m' (Moves minus first size v x) (Moves minus first size v' x')
  pub subtracts : (size : ℕ) (v v' x x' : Worth) → AlikeWorth b.types m' v v' → AlikeWorth b.types m' x x' → ActAlike b m' (Subtracts size v x) (Subtracts size v' x')
  pub orders : (op : BinOp) (v v' x x' : Worth) → AlikeWorth b.types m' v v' → AlikeWorth b.types m' x x' → ActAlike b m' (Orders op v x) (Orders op v' x')
  pub equals : (negated : Bool) (v v' x x' : Worth) → AlikeWorth b.types m' v v' → AlikeWorth b.types m' x x' → ActAlike b m' (Equals negated v x) (Equals negated v' x')
  pub follows : (nothing : Bool) (v v' : Worth) → AlikeWorth b.types m' v v' → ActAlike b m' (Follows nothing v) (Follows nothing v')
  pub selects : (offset : ℕ) (v v' : Worth) → AlikeWorth b.types m' v v' → ActAlike b m' (Selects offset v) (Selects offset v')
  pub finds : (t : Ty) (v v' : Worth) → AlikeWorth b.types m' v v' → ActAlike b m' (Finds t v) (Finds t v')
  pub takes_part : (offset : ℕ) (l l' : Lvalue) (v v' : Worth) → AlikeLvalue b.types m' l l' → AlikeWorth b.types m' v v' → ActAlike b m' (TakesPart offset l v) (TakesPart offset l' v')
  pub reads : (l l' : Lvalue) (p p' : Worth) (rivals : List Access) → AlikeLvalue b.types m' l l' → AlikeWorth b.types m' p p' → ActAlike b m' (Reads l p rivals) (Reads l' p' rivals)
  pub writes : (l l' : Lvalue) (p p' v v' : Worth) (from : Option ℕ) (rivals : List Access) → AlikeLvalue b.types m' l l' → AlikeWorth b.types m' p p' → AlikeWorth b.types m' v v' → ActAlike b m' (Writes l p v from rivals) (Writes l' p' v' from rivals)
  pub names_object : (o : ℕ) → ActAlike b m' (NamesObject o) (NamesObject o)
  pub names_literal : (l : ℕ) → ActAlike b m' (NamesLiteral l) (NamesLiteral l)
  pub names_function : (f : ℕ) → ActAlike b m' (NamesFunction f) (NamesFunction f)
  pub makes : (o : ℕ) → ActAlike b m' (Makes o) (Makes o)
  pub makes_literal : (l : ℕ) → ActAlike b m' (MakesLiteral l) (MakesLiteral l)
  pub makes_function : (f : ℕ) → ActAlike b m' (MakesFunction f) (MakesFunction f)
  pub ends : (o : ℕ) → ActAlike b m' (Ends o) (Ends o)
  pub begins_body : (f line : ℕ) → ActAlike b m' (BeginsBody f line) (BeginsBody f line)
  pub ends_body : ActAlike b m' EndsBody EndsBody
  pub fills : (o : ℕ) (v : Option ℕ) → ActAlike b m' (Fills o v) (Fills o v)
  pub puts : (o offset : ℕ) (l l' : Lvalue) (v v' : Worth) → AlikeLvalue b.types m' l l' → AlikeWorth b.types m' v v' → ActAlike b m' (Puts o offset l v) (Puts o offset l' v')
  pub puts_text : (o offset size l : ℕ) → ActAlike b m' (PutsText o offset size l) (PutsText o offset size l)
  pub asks : (f : Library) (args : List Arg) → ActAlike b m' (Asks f args) (Asks f args)
