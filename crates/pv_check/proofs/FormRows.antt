-- What stands outermost in a declarator, abstract or not, and the steps that it makes.
use Rattle.std.proofs.Common.{◌≡◌, ℕ, Bool, true, false, Some, None, [], ◌∷◌, ◌++◌, Option, refl, sym, subst, ap, ◌∙◌}
use Rattle.std.specs.Prelude.{if◌then◌else◌}
use Rattle.pv_tree.specs.declared.nodes.NodeId.{NodeId}
use Rattle.pv_tree.specs.declared.nodes.ListId.{ListId}
use Rattle.pv_tree.specs.Syntax.{DeclaratorTree, FunctionDeclarator, AbstractFunction, OptionalTree, Present, Trees}
use Rattle.pv_tree.specs.Tables.{Forest, declarator_at, is_declarator, optional_at, tree_at, trees_at}
use Rattle.pv_types.specs.Known.{Known}
use Rattle.pv_typed.specs.Tables.{Stored}
use Rattle.pv_check.specs.declared.declarators.Steps.{Steps}
use Rattle.pv_check.specs.declared.derivations.Step.TheVariants.{Pointer, Array}
use Rattle.pv_check.specs.declared.forms.Form.TheVariants as form
use Rattle.pv_check.specs.Declarators.{steps_shown, StepsKnown}
use Rattle.pv_check.specs.Derivations.{ByArray, Steps as WholeSteps, with_step, may_be_variadic}
use Rattle.pv_check.specs.Forms.{form_steps, with_pointer}
use Rattle.pv_check.specs.Open.{Goes}
use Rattle.pv_check.specs.RowParts.{by_array, by_function}
use Rattle.pv_check.specs.State.{State, After}
use Rattle.pv_check.specs.Scopes.{in_new_scope}
use Rattle.pv_typed.specs.Constants.{and_then}
use Rattle.pv_check.specs.Typing.{steps, optional_steps, array_size, parameters}
use Rattle.pv_check.proofs.DeclaratorRows.{given, shown_kept, shown_more}
use Rattle.pv_check.proofs.ListRows.{declarator_is}

-- a declarator that is there
pub present : (f : Forest) (d : NodeId) (s : State) → is_declarator (tree_at f d) ≡ true → optional_steps (optional_at f (Some d)) s ≡ steps (declarator_at f d) s
present f d s h = ap (λ t. optional_steps (Present t) s) (declarator_is (tree_at f d) h)

-- an array and a list of parameters behind the steps of what they stand round
abbrev pub sized : OptionalTree → After WholeSteps → Option (After WholeSteps)
sized size a = and_then (array_size size a.state) (by_array a.value)

abbrev pub listed : Trees → Bool → After WholeSteps → Option (After WholeSteps)
listed ps v a = and_then (parameters ps (in_new_scope a.state)) (by_function v a.value)

pub function_form : (f : Forest) (line : ℕ) (d : NodeId) (l : ListId) (v : Bool) (s : State) → is_declarator (tree_at f d) ≡ true → true ≡ may_be_variadic v (declarator_at f d) s
    → form_steps f (form.Function (Some d) l v) s ≡ steps (FunctionDeclarator line (declarator_at f d) (trees_at f l) v) s
function_form f line d l v s h may =
    ap (λ (o : Option (After WholeSteps)). and_then o (listed (trees_at f l) v)) (present f d s h)
    ∙ ap (λ b. if b then and_then (steps (declarator_at f d) s) (listed (trees_at f l) v) else None) may

pub function_misplaced : (line : ℕ) (d : DeclaratorTree) (ps : Trees) (v : Bool) (s : State) → false ≡ may_be_variadic v d s → None ≡ steps (FunctionDeclarator line d ps v) s
function_misplaced line d ps v s e = ap (λ b. if b then and_then (steps d s) (listed ps v) else None) e

pub abstract_form : (f : Forest) (line : ℕ) (d : Option NodeId) (l : ListId) (v : Bool) (s : State) → v ≡ false
    → form_steps f (form.Function d l v) s ≡ steps (AbstractFunction line (optional_at f d) (trees_at f l) v) s
abstract_form f line d l v s e =
    subst (λ w. form_steps f (form.Function d l w) s ≡ steps (AbstractFunction line (optional_at f d) (trees_at f l) w) s) (sym e) refl

pub abstract_misplaced : (line : ℕ) (d : OptionalTree) (ps : Trees) (v : Bool) (s : State) → v ≡ true → None ≡ steps (AbstractFunction line d ps v) s
abstract_misplaced line d ps v s e = ap (λ w. steps (AbstractFunction line d ps w) s) (sym e)

-- ---- behind the steps of what stands within

-- where that has none, the whole has none
pub none_within : (o : OptionalTree) (s : State) (k : After WholeSteps → Option (After WholeSteps)) → None ≡ optional_steps o s → None ≡ and_then (optional_steps o s) k
none_within o s k e = ap (λ (x : Option (After WholeSteps)). and_then x k) e

pub pointer_form : (m : Known) (after before : State) (x r : Steps) (constant : Bool) (o : OptionalTree)
    → given (steps_shown m x) after ≡ optional_steps o before → r.list.items ≡ x.list.items ++ (Pointer constant ∷ []) → r.signature ≡ x.signature
    → given (steps_shown m r) after ≡ and_then (optional_steps o before) (with_pointer constant)
pointer_form m after before x r constant o h e same =
    ap (λ (y : WholeSteps). given y after) (shown_more m x r (Pointer constant) e same)
    ∙ ap (λ (y : Option (After WholeSteps)). and_then y (with_pointer constant)) h

pub no_size : (x : WholeSteps) (middle before : State) (o size : OptionalTree) → given x middle ≡ optional_steps o before → None ≡ array_size size middle
    → None ≡ and_then (optional_steps o before) (sized size)
no_size x middle before o size h k =
    ap (λ (n : Option (After (Option ℕ))). and_then n (by_array x)) k ∙ ap (λ (y : Option (After WholeSteps)). and_then y (sized size)) h

pub array_form : (a b : Stored) (last middle before : State) (x r : Steps) (n : Option ℕ) (o size : OptionalTree)
    → Goes a b → StepsKnown a x → given (steps_shown a.known x) middle ≡ optional_steps o before
    → Some (record { value = n; state = last }) ≡ array_size size middle → r.list.items ≡ x.list.items ++ (Array n ∷ []) → r.signature ≡ x.signature
    → given (steps_shown b.known r) last ≡ and_then (optional_steps o before) (sized size)
array_form a b last middle before x r n o size g known h k e same =
    ap (λ (y : WholeSteps). given y last) (shown_more b.known x r (Array n) e same ∙ ap (λ y. with_step y (ByArray n)) (shown_kept a b x g known))
    ∙ ap (λ m. and_then m (by_array (steps_shown a.known x))) k
    ∙ ap (λ (y : Option (After WholeSteps)). and_then y (sized size)) h

pub function_behind : (ps : Trees) (v : Bool) (x : WholeSteps) (z before : State) (o : OptionalTree) → given x z ≡ optional_steps o before
    → and_then (parameters ps (in_new_scope z)) (by_function v x) ≡ and_then (optional_steps o before) (listed ps v)
function_behind ps v x z before o e = ap (λ (y : Option (After WholeSteps)). and_then y (listed ps v)) e
