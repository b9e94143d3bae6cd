-- Typing statements: what is in the tables stays there, and stands for the same.
use Rattle.std.proofs.Common.{◌≡◌, ℕ, ◌<◌, ◌≤◌, Bool, false, List, [], ◌∷◌, ◌++◌, Option, Some, None, length, refl, ◌∙◌, ap, arith}
use Rattle.pv_tree.specs.declared.nodes.NodeId.{NodeId}
use Rattle.pv_tree.specs.Syntax.{Tree}
use Rattle.pv_tree.specs.Tables.{Forest, Has}
use Rattle.pv_typed.specs.declared.rows.Row.{Row}
use Rattle.pv_types.specs.Ty.{Ty}
use Rattle.pv_typed.specs.Children.{is_expression}
use Rattle.pv_typed.specs.Tables.{Stored}
use Rattle.pv_typed.specs.NodeTrees.{expression_at, statement_at, IsExpression, IsStatement}
use Rattle.pv_typed.specs.TypedStatement.{TypedStatement}
use Rattle.pv_check.specs.Raw.{Raw}
use Rattle.pv_check.specs.State.{State, give}
use Rattle.pv_typed.specs.Constants.{and_then}
use Rattle.pv_check.specs.Open.{state_of, IsOpen, Goes}
use Rattle.pv_check.proofs.Opening.{open_goes, same_goes, then_goes}
use Rattle.pv_unit.specs.declared.plain.Place.{Place}
use Rattle.pv_unit.specs.Stated.{around_in, optional_in, statements_in, statement_after, IsOptional, AreStatements, Moves}

-- a node below another one is there
pub within : (f : Forest) (kind : Tree → Bool) (n k : ℕ) (x : NodeId) → n < k → Has f n kind x → Has f k kind x
within f kind n k x le h = let lt : x.0 < n = h.0 in (omega (arith, lt, le), h.1)

pub moves_same : (m : Stored) (s : Raw) → IsOpen m s → Moves m s m s
moves_same m s h = record { opened = h; goes = same_goes m; deep = refl }

pub moves_on : (a b c : Stored) (s t v : Raw) → Moves a s b t → Moves b t c v → Moves a s c v
moves_on a b c s t v g h = record { opened = h.opened; goes = then_goes a b c g.goes h.goes; deep = h.deep ∙ g.deep }

-- tables alone
pub moves_tables : (a b : Stored) (s : Raw) → IsOpen a s → Goes a b → Moves a s b s
moves_tables a b s h g = record { opened = open_goes a b s h g; goes = g; deep = refl }

pub expression_stays : (a b : Stored) (n : NodeId) → Goes a b → IsExpression a n → IsExpression b n
expression_stays a b n g h =
    let more : length a.rows ≤ length b.rows = g.grown.nodes in
    let lt : n.0 < length a.rows = h.0 in
    (omega (arith, more, lt), ap (λ (r : Row). is_expression r.what) (g.grown.rows n lt) ∙ h.1)

pub statement_stays : (a b : Stored) (n : NodeId) → Goes a b → IsStatement a n → IsStatement b n
statement_stays a b n g h =
    let more : length a.rows ≤ length b.rows = g.grown.nodes in
    let lt : n.0 < length a.rows = h.0 in
    (omega (arith, more, lt), ap (λ (r : Row). is_expression r.what) (g.grown.rows n lt) ∙ h.1)

pub optional_stays : (a b : Stored) (o : Option NodeId) → Goes a b → IsOptional a o → IsOptional b o
optional_stays a b None g h = tt
optional_stays a b (Some n) g h = expression_stays a b n g h

pub statements_stay : (a b : Stored) (ns : List NodeId) → Goes a b → AreStatements a ns → AreStatements b ns
statements_stay a b [] g h = tt
statements_stay a b (n ∷ ns) g h = (statement_stays a b n g h.0, statements_stay a b ns g h.1)

pub type_stays : (a b : Stored) (i : ℕ) → Goes a b → i < length a.known.terms → i < length b.known.terms
type_stays a b i g h = let more : length a.known.terms ≤ length b.known.terms = g.grown.terms in omega (arith, more, h)

-- ---- and stands for the same

pub expression_same : (a b : Stored) (n : NodeId) → Goes a b → IsExpression a n → expression_at b n ≡ expression_at a n
expression_same a b n g h = g.grown.expressions n h.0

pub statement_same : (a b : Stored) (n : NodeId) → Goes a b → IsStatement a n → statement_at b n ≡ statement_at a n
statement_same a b n g h = g.grown.statements n h.0

pub optional_same : (a b : Stored) (o : Option NodeId) → Goes a b → IsOptional a o → optional_in b o ≡ optional_in a o
optional_same a b None g h = refl
optional_same a b (Some n) g h = ap (λ e. Some e) (expression_same a b n g h)

pub statements_same : (a b : Stored) (ns : List NodeId) → Goes a b → AreStatements a ns → statements_in b ns ≡ statements_in a ns
statements_same a b [] g h = refl
statements_same a b (n ∷ ns) g h = ap (λ x. x ∷ statements_in b ns) (statement_same a b n g h.0) ∙ ap (λ xs. statement_at a n ∷ xs) (statements_same a b ns g h.1)

pub around_same : (a b : Stored) (w : Place) → Goes a b → w.result.0 < length a.known.terms → around_in b.known w ≡ around_in a.known w
around_same a b w g h = ap (λ (t : Ty). record { result = t; breaks = w.breaks; continues = w.continues }) (g.grown.types w.result.0 h)

-- ---- one statement more behind others

pub statements_append : (m : Stored) (ns : List NodeId) (n : NodeId) → statements_in m (ns ++ (n ∷ [])) ≡ statements_in m ns ++ (statement_at m n ∷ [])
statements_append m [] n = refl
statements_append m (x ∷ ns) n = ap (λ ys. statement_at m x ∷ ys) (statements_append m ns n)

pub are_append : (m : Stored) (ns : List NodeId) (n : NodeId) → AreStatements m ns → IsStatement m n → AreStatements m (ns ++ (n ∷ []))
are_append m [] n h k = (k, tt)
are_append m (x ∷ ns) n h k = (h.0, are_append m ns n h.1 k)

-- ---- one part after the other

pub step_on : {A B : Type 0} (o : Option A) (x : A) (f : A → Option B) (r : Option B) → Some x ≡ o → r ≡ f x → r ≡ and_then o f
step_on o x f r e h = h ∙ ap (λ q. and_then q f) e

pub step_none : {A B : Type 0} (o : Option A) (f : A → Option B) → None ≡ o → None ≡ and_then o f
step_none o f e = ap (λ q. and_then q f) e

-- a statement that was made
pub made_is : (texts : List (List ℕ)) (s : Raw) (a b : Stored) (n : NodeId) (x : TypedStatement) → statement_at b n ≡ x → state_of texts false s b ≡ state_of texts false s a
    → Some (statement_after texts s b n) ≡ give (Some x) (state_of texts false s a)
made_is texts s a b n x e same =
    ap (λ (y : TypedStatement). Some (record { value = y; state = state_of texts false s b })) e ∙ ap (λ (z : State). Some (record { value = x; state = z })) same
