-- A translation unit is one program, or it is none for one reason.
use Rattle.std.proofs.Common.{◌≡◌, ℕ, List, [], refl, sym, ap, subst, ◌∙◌}
use Rattle.std.specs.Prelude.{Some, slice_get, Result, Ok, Err, IfOk}
use Rattle.std.proofs.lemmas.Option.{get_or_from_slice_get}
use Rattle.pv_token.specs.Table.{Table}
use Rattle.pv_tree.specs.Syntax.{DeclarationTree}
use Rattle.pv_unit.specs.declared.checking.CheckError.{CheckError}
use Rattle.pv_unit.specs.declared.checking.CheckError.TheVariants as error
use Rattle.pv_unit.specs.Checking.{IsCause}
use Rattle.pv_unit.specs.Units.{Checked}
use Rattle.pv_unit.specs.Units as checked
use Rattle.pv_unit.proofs.Answering.{one_answer, some_answer}
use Rattle.pv_serve.specs.Verdicts.{Constraint, Unresolved, NoMain}
use Rattle.pv_serve.specs.Readings.{Reading, Program, Bad}
use Rattle.pv_serve.specs.Loading.{typing_refusal, IsNameOf}
use Rattle.pv_serve.specs.Comes.{UnitComes, Breaks, Lacks, Mainless, Typed}
use Rattle.pv_serve.specs.ComesParts.{token_name}

-- what a typing's answer says
abbrev read_by : Table → Checked → Reading
read_by tokens (checked.Constraint n) = Bad (Constraint n)
read_by tokens (checked.Unresolved n) = Bad (Unresolved (token_name tokens n))
read_by tokens checked.NoMain = Bad NoMain
read_by tokens (checked.Typed u) = Program u

record Way (tokens : Table) (ds : List DeclarationTree) (r : Reading) : Type 0 where
  answer : Checked
  is : checked.UnitComes tokens ds answer
  follows : r ≡ read_by tokens answer

way : (tokens : Table) (ds : List DeclarationTree) (r : Reading) → UnitComes tokens ds r → Way tokens ds r
way tokens ds r (Breaks n h e) = record { answer = checked.Constraint n; is = h; follows = e }
way tokens ds r (Lacks n h e) = record { answer = checked.Unresolved n; is = h; follows = e }
way tokens ds r (Mainless h e) = record { answer = checked.NoMain; is = h; follows = e }
way tokens ds r (Typed u h e) = record { answer = checked.Typed u; is = h; follows = e }

pub unit_comes_to_one : (tokens : Table) (ds : List DeclarationTree) (r s : Reading) → UnitComes tokens ds r → UnitComes tokens ds s → r ≡ s
unit_comes_to_one tokens ds r s c d =
    let x = way tokens ds r c in
    let y = way tokens ds s d in
    x.follows ∙ ap (read_by tokens) (one_answer tokens ds x.answer y.answer x.is y.is) ∙ sym y.follows

-- ---- a unit is something

answer_comes : (tokens : Table) (ds : List DeclarationTree) (a : Checked) → checked.UnitComes tokens ds a → (r : Reading) × UnitComes tokens ds r
answer_comes tokens ds (checked.Constraint n) h = (Bad (Constraint n), Breaks n h refl)
answer_comes tokens ds (checked.Unresolved n) h = (Bad (Unresolved (token_name tokens n)), Lacks n h refl)
answer_comes tokens ds checked.NoMain h = (Bad NoMain, Mainless h refl)
answer_comes tokens ds (checked.Typed u) h = (Program u, Typed u h refl)

pub unit_comes : (tokens : Table) (ds : List DeclarationTree) → (r : Reading) × UnitComes tokens ds r
unit_comes tokens ds = let a = some_answer tokens ds in answer_comes tokens ds a.0 a.1

-- ---- for the code that types

-- the reason, with its name, is what the unit is refused for
pub untyped : (tokens : Table) (ds : List DeclarationTree) (e : CheckError) (name : List ℕ) → IsCause tokens ds e → IsNameOf tokens e name
    → UnitComes tokens ds (Bad (typing_refusal e name))
untyped tokens ds (error.Constraint index) name h is = Breaks index h refl
untyped tokens ds (error.Unresolved n) name h is = Lacks n h (ap (λ (x : List ℕ). Bad (Unresolved x)) (sym (get_or_from_slice_get tokens.names n name [] is)))
untyped tokens ds error.NoMain name h is = Mainless h refl
untyped tokens ds error.NoMemory name h is = absurd is

-- a reason that has no name
pub nameless_constraint : (tokens : Table) (e : CheckError) (index : ℕ) (name : List ℕ) → e ≡ error.Constraint index → name ≡ [] → IsNameOf tokens e name
nameless_constraint tokens e index name is none = subst (λ (x : CheckError). IsNameOf tokens x name) (sym is) none

pub nameless_main : (tokens : Table) (e : CheckError) (name : List ℕ) → e ≡ error.NoMain → name ≡ [] → IsNameOf tokens e name
nameless_main tokens e name is none = subst (λ (x : CheckError). IsNameOf tokens x name) (sym is) none

-- the name that has this number, if there is memory for it
pub its_name : {E : Type 0} (tokens : Table) (e : CheckError) (n m : ℕ) (text : List ℕ) (r : Result (List ℕ) E) → e ≡ error.Unresolved n → slice_get tokens.names m ≡ Some text
    → m ≡ n → IfOk r (λ name. name ≡ text) → IfOk r (IsNameOf tokens e)
its_name tokens e n m text (Err x) is there m_is same = tt
its_name tokens e n m text (Ok name) is there m_is same =
    subst (λ (x : CheckError). IsNameOf tokens x name) (sym is)
    (ap (λ (k : ℕ). slice_get tokens.names k) (sym m_is) ∙ there ∙ ap (λ (x : List ℕ). Some x) (sym same))
