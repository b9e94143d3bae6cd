-- Function definitions: the scope of the parameters, what the function gets, and what its body comes to.
use Rattle.std.proofs.Common.{◌≡◌, ℕ, zero, suc, ◌+◌, ◌<◌, ◌≤◌, true, false, List, [], ◌∷◌, ◌++◌, Option, Some, None, length, map, drop, get_or, refl, sym, ◌∙◌, ap, subst, arith}
use Rattle.std.specs.Prelude.{is_some}
use Rattle.std.proofs.lemmas.List.{length_push, map_push}
use Rattle.pv_tree.specs.declared.nodes.NodeId.{NodeId}
use Rattle.pv_tree.specs.Syntax.{Tree, OfExpression, OfDeclaration, OfDeclarator, OfSpecifier, OfInitializer, OfStatement, Trees, is_external, StatementTree, Block, ExpressionStatement, If, IfElse, While, DoWhile, For, ForDeclaration, Switch, SwitchBlock, Labelled, Case, Default, Break, Continue, Return, DeclarationTree, Function, Declaration, InitDeclarator, MemberDeclaration, Enumerator, Parameter, TypeName}
use Rattle.pv_tree.specs.Tables.{is_declaration}
use Rattle.pv_types.specs.Known.{Known, tree}
use Rattle.pv_typed.specs.declared.entries.Function.{Function as FunctionRow}
use Rattle.pv_typed.specs.Adding.{with_param}
use Rattle.pv_typed.specs.Entries.{with_function_at}
use Rattle.pv_typed.specs.Headed.{list_of}
use Rattle.pv_typed.specs.Tables.{Stored, whole_unit, nodes, function_in}
use Rattle.pv_typed.specs.NodeTrees.{statement_at}
use Rattle.pv_typed.specs.TypedStatement.{TypedStatement}
use Rattle.pv_typed.specs.TypedUnits.{TypedFunction, WholeUnit, function_at}
use Rattle.pv_typed.proofs.Each.{each_append}
use Rattle.pv_check.specs.declared.parameters.Parameter.{Parameter as OwnParameter}
use Rattle.pv_check.specs.declared.parameters.Signature.{Signature}
use Rattle.pv_check.specs.Declarators.{parameters_shown, signature_shown}
use Rattle.pv_check.specs.Raw.{Raw, RawScope, scope_shown, used_of}
use Rattle.pv_check.specs.Open.{state_of, IsOpen, Goes, ScopeKnown}
use Rattle.pv_check.specs.State.{State, Scope, After}
use Rattle.pv_typed.specs.Constants.{and_then}
use Rattle.pv_unit.specs.declared.entities.Outer.{Outer}
use Rattle.pv_unit.specs.declared.heads.Defined.{Defined}
use Rattle.pv_tree.specs.Places.{is_block}
use Rattle.pv_unit.specs.Bodies.{head_made, is_definition, left_items}
use Rattle.pv_unit.specs.Declarations.{file_declaration}
use Rattle.pv_unit.specs.Redeclarations.{UnitState}
use Rattle.pv_unit.specs.Functions.{within, with_parameter, with_parameters, defined_with, typed_body, typed_declaration}
use Rattle.pv_unit.specs.FunctionParts.{with_body, body_of}
use Rattle.pv_unit.specs.Outside.{unit_state}
use Rattle.pv_unit.specs.Statements.{block_of}
use Rattle.pv_unit.specs.Stated.{items_in, statements_in}
use Rattle.pv_unit.specs.TypedStatements.{typed_items}
use Rattle.pv_unit.proofs.Naming.{state_more}

-- ---- a scope within the others

pub open_within : (m : Stored) (s t : Raw) (x : RawScope) → IsOpen m s → ScopeKnown m x → t ≡ record s { scopes = s.scopes ++ (x ∷ []) } → IsOpen m t
open_within m s t x h k e =
    let more : length (s.scopes ++ (x ∷ [])) ≡ length s.scopes + 1 = length_push s.scopes x in
    subst (λ r. IsOpen m r) (sym e) (record {
      known = h.known;
      sized = h.sized;
      some = omega (arith, more);
      scopes = each_append (ScopeKnown m) s.scopes (x ∷ []) h.scopes (k, tt);
    })

pub deep_within : (s t : Raw) (x : RawScope) → t ≡ record s { scopes = s.scopes ++ (x ∷ []) } → length t.scopes ≡ length s.scopes + 1
deep_within s t x e = ap (λ (r : Raw). length r.scopes) e ∙ length_push s.scopes x

pub state_within : (texts : List (List ℕ)) (m : Stored) (s t : Raw) (x : RawScope) → t ≡ record s { scopes = s.scopes ++ (x ∷ []) }
    → state_of texts false t m ≡ within (scope_shown m.known x) (state_of texts false s m)
state_within texts m s t x e =
    ap (λ r. state_of texts false r m) e
    ∙ ap (λ (ss : List Scope). record { scopes = ss; unit = whole_unit m; texts = texts; used = map used_of s.used; unevaluated = false }) (map_push (scope_shown m.known) s.scopes x)

-- ---- parameters

pub param_added : (texts : List (List ℕ)) (a b : Stored) (s : Raw) (f o : ℕ) → IsOpen a s → Goes a b → whole_unit b ≡ with_param (whole_unit a) f o
    → state_of texts false s b ≡ with_parameter f (Some o) (state_of texts false s a)
param_added texts a b s f o h g e = state_more texts false a b s h g ∙ ap (λ (w : WholeUnit). record (state_of texts false s a) { unit = w }) e

pub parameters_from : (m : Known) (ps : List OwnParameter) (i f : ℕ) (d : OwnParameter) (z : State) → i < length ps
    → with_parameters f (parameters_shown m (drop (i + 1) ps)) (with_parameter f (get_or ps i d).object z) ≡ with_parameters f (parameters_shown m (drop i ps)) z
parameters_from m ps i f d z lt =
    let next : suc i ≡ i + 1 = omega arith in
    ap (λ k. with_parameters f (parameters_shown m (drop k ps)) (with_parameter f (get_or ps i d).object z)) (sym next) ∙ from ps i lt
  where
    from : (qs : List OwnParameter) (j : ℕ) → j < length qs → with_parameters f (parameters_shown m (drop (suc j) qs)) (with_parameter f (get_or qs j d).object z) ≡ with_parameters f (parameters_shown m (drop j qs)) z
    from [] j lt = absurd (omega (arith, lt))
    from (q ∷ qs) zero lt = refl
    from (q ∷ qs) (suc j) lt = from qs j (omega (arith, lt))

pub parameters_none : (m : Known) (ps : List OwnParameter) (i f : ℕ) (z : State) → length ps ≤ i → with_parameters f (parameters_shown m (drop i ps)) z ≡ z
parameters_none m [] zero f z h = refl
parameters_none m [] (suc i) f z h = refl
parameters_none m (p ∷ ps) zero f z h = absurd (omega (arith, h))
parameters_none m (p ∷ ps) (suc i) f z h = parameters_none m ps i f z (omega (arith, h))

-- ---- the body

pub body_set : (texts : List (List ℕ)) (a b : Stored) (s : Raw) (f : ℕ) (old : FunctionRow) (n : NodeId) → IsOpen a s → Goes a b
    → function_at (whole_unit a) f ≡ function_in a.known (nodes a) (old, list_of a.functions f)
    → whole_unit b ≡ with_function_at (whole_unit a) f (function_in a.known (nodes a) (record old { body = Some n }, []))
    → state_of texts false s b ≡ with_body f (statement_at a n) (state_of texts false s a)
body_set texts a b s f old n h g was is =
    state_more texts false a b s h g
    ∙ ap (λ (w : WholeUnit). record (state_of texts false s a) { unit = w })
    (is ∙ ap (λ (x : TypedFunction). with_function_at (whole_unit a) f (record x { body = Some (statement_at a n); params = [] })) (sym was))

pub body_none : (z : StatementTree) (texts : List (List ℕ)) (m : Stored) (s : Raw) (o : Outer) (d : Defined) (g : Signature) → is_block z ≡ false → None ≡ typed_body z (head_made texts s m o d g)
body_none (Block line items) texts m s o d g e = cc
body_none (ExpressionStatement line a) texts m s o d g e = refl
body_none (If line a b) texts m s o d g e = refl
body_none (IfElse line a b c) texts m s o d g e = refl
body_none (While line a b) texts m s o d g e = refl
body_none (DoWhile line b a) texts m s o d g e = refl
body_none (For line i a t b) texts m s o d g e = refl
body_none (ForDeclaration line i a t b) texts m s o d g e = refl
body_none (Switch line a b) texts m s o d g e = refl
body_none (SwitchBlock line items) texts m s o d g e = refl
body_none (Labelled line ls b) texts m s o d g e = refl
body_none (Case line a) texts m s o d g e = refl
body_none (Default line) texts m s o d g e = refl
body_none (Break line) texts m s o d g e = refl
body_none (Continue line) texts m s o d g e = refl
body_none (Return line a) texts m s o d g e = refl

-- behind the items, and behind what the function gets
pub body_is : (texts : List (List ℕ)) (a b c : Stored) (s t : Raw) (o : Outer) (d : Defined) (g : Signature) (line : ℕ) (items : Trees) (z : StatementTree) (ns : List NodeId)
    → z ≡ Block line items
    → Some (items_in texts t b ns) ≡ and_then (typed_items (body_of (tree a.known d.result_type.0)) items (within (signature_shown a.known g).scope (state_of texts false s a))) left_items
    → parameters_shown b.known g.parameters.items ≡ parameters_shown a.known g.parameters.items
    → state_of texts false t c ≡ with_body d.function (block_of line (statements_in b ns)) (with_parameters d.function (parameters_shown b.known g.parameters.items) (state_of texts false t b))
    → Some (unit_state texts t c o) ≡ typed_body z (head_made texts s a o d g)
body_is texts a b c s t o d g line items z ns is done same state =
    ap (λ (w : State). Some (record { state = w; entities = o.entities; unsized_typedef = o.unsized_typedef })) (state ∙ ap (λ ps. with_body d.function (block_of line (statements_in b ns)) (with_parameters d.function ps (state_of texts false t b))) same)
    ∙ inside (typed_items (body_of (tree a.known d.result_type.0)) items (within (signature_shown a.known g).scope (state_of texts false s a))) done
    ∙ sym (ap (λ y. typed_body y (head_made texts s a o d g)) is)
  where
    inside : (q : Option (After (List TypedStatement))) → Some (items_in texts t b ns) ≡ and_then q left_items
        → Some (record { state = with_body d.function (block_of line (statements_in b ns)) (with_parameters d.function (parameters_shown a.known g.parameters.items) (state_of texts false t b)); entities = o.entities; unsized_typedef = o.unsized_typedef })
        ≡ and_then q (defined_with (head_made texts s a o d g).0 line (head_made texts s a o d g).1)
    inside None e = let no : true ≡ false = ap is_some e in absurd cc
    inside (Some x) e = ap (λ (w : Option (After (List TypedStatement))). and_then w (λ y. Some (record { state = with_body d.function (block_of line y.value) (with_parameters d.function (parameters_shown a.known g.parameters.items) y.state); entities = o.entities; unsized_typedef = o.unsized_typedef }))) e

-- the items are refused
pub body_refused : (texts : List (List ℕ)) (a : Stored) (s : Raw) (o : Outer) (d : Defined) (g : Signature) (line : ℕ) (items : Trees) (z : StatementTree)
    → z ≡ Block line items
    → None ≡ and_then (typed_items (body_of (tree a.known d.result_type.0)) items (within (signature_shown a.known g).scope (state_of texts false s a))) left_items
    → None ≡ typed_body z (head_made texts s a o d g)
body_refused texts a s o d g line items z is done =
    inside (typed_items (body_of (tree a.known d.result_type.0)) items (within (signature_shown a.known g).scope (state_of texts false s a))) done
    ∙ sym (ap (λ y. typed_body y (head_made texts s a o d g)) is)
  where
    inside : (q : Option (After (List TypedStatement))) → None ≡ and_then q left_items → None ≡ and_then q (defined_with (head_made texts s a o d g).0 line (head_made texts s a o d g).1)
    inside None e = refl
    inside (Some x) e = let no : false ≡ true = ap is_some e in absurd cc

-- ---- a declaration that is no function definition

pub declared_alone : (d : DeclarationTree) (u : UnitState) → is_definition d ≡ false → file_declaration d u ≡ typed_declaration d u
declared_alone (Function line specs declarator block) u e = cc
declared_alone (Declaration line specs declared) u e = refl
declared_alone (InitDeclarator line declarator init) u e = refl
declared_alone (MemberDeclaration line specs declarators) u e = refl
declared_alone (Enumerator line n value) u e = refl
declared_alone (Parameter line specs declarator) u e = refl
declared_alone (TypeName line specs declarator) u e = refl

pub external_is : (x : Tree) → is_external x ≡ true → is_declaration x ≡ true
external_is (OfDeclaration d) e = refl
external_is (OfStatement b) e = cc
external_is (OfExpression a) e = cc
external_is (OfDeclarator d) e = cc
external_is (OfSpecifier d) e = cc
external_is (OfInitializer i) e = cc
