-- Objects of blocks: what the code's answers come to.
use Rattle.std.proofs.Common.{◌≡◌, ℕ, ◌<◌, ◌≤◌, Bool, true, false, List, [], ◌∷◌, ◌++◌, Option, Some, None, is_some, length, refl, sym, ◌∙◌, ap, arith}
use Rattle.std.specs.Prelude.{if◌then◌else◌, nat_lt, ◌||◌}
use Rattle.std.proofs.lemmas.List.{length-map, length-set, get_or-set_same}
use Rattle.pv_types.specs.Ty.{Ty}
use Rattle.pv_types.specs.Layouts.{is_complete_in}
use Rattle.pv_tree.specs.declared.nodes.NodeId.{NodeId}
use Rattle.pv_tree.specs.Syntax.{DeclaratorTree, OptionalTree, Trees, NoTrees}
use Rattle.pv_tree.specs.Tables.{Forest, trees_of}
use Rattle.pv_typed.specs.Tables.{Stored, whole_unit, nodes, object_in}
use Rattle.pv_typed.specs.TypedUnits.{TypedObject, object_at}
use Rattle.pv_typed.specs.UnitParts.{no_object}
use Rattle.pv_types.specs.Known.{Known}
use Rattle.pv_check.specs.Raw.{Raw, meaning_if}
use Rattle.pv_check.specs.Open.{state_of}
use Rattle.pv_check.specs.Specifiers.{Specified as WhatIsSpecified}
use Rattle.pv_check.specs.State.{State, After, give, env}
use Rattle.pv_check.specs.Scopes.{innermost_scope, find}
use Rattle.pv_typed.specs.Constants.{and_then}
use Rattle.pv_typed.specs.TypedTree.{is_function}
use Rattle.pv_check.specs.Derivations.{declared_name}
use Rattle.pv_check.specs.declared.scopes.Entry.{Entry}
use Rattle.pv_unit.specs.Redeclarations.{new_object}
use Rattle.pv_unit.specs.Initializers.{Given}
use Rattle.pv_unit.specs.Blocks.{Reached as WholeReached, reached_object, is_present, with_initializer, block_object, block_declarator, block_storage, block_alone}
use Rattle.pv_unit.specs.Declarations.{DeclaredType as WholeType, type_declared, specified_by, tags_alone, bound_in, has_list}
use Rattle.pv_unit.specs.DeclaredIn.{state_on}
use Rattle.pv_unit.specs.ValueRules.{with_given}
use Rattle.pv_unit.specs.Reaching.{reached_if}

-- ---- an object with its initializer

pub either : (texts : List (List ℕ)) (s : Raw) (m : Stored) (b : Bool) → state_on texts s m b ≡ (if b then Some (state_of texts false s m) else None)
either texts s m true = refl
either texts s m false = refl

abbrev given : ℕ → After Given → Option State
given o f = Some (with_given o f.value f.state)

abbrev given_whole : ℕ → After Given → Option State
given_whole o f = if is_complete_in (env f.state) f.value.t then Some (with_given o f.value f.state) else None

type_given : (o : ℕ) (f : After Given) → o < length f.state.unit.objects → (object_at (with_given o f.value f.state).unit o).t ≡ f.value.t
type_given o f lt = ap (λ (x : TypedObject). x.t) (get_or-set_same f.state.unit.objects o (record (object_at f.state.unit o) { t = f.value.t; braced = f.value.braced; inits = (object_at f.state.unit o).inits ++ f.value.stores }) no_object lt)

some_of : State → Option State → State
some_of d None = d
some_of d (Some s) = s

-- what was given is complete, or not
pub given_done : (texts : List (List ℕ)) (s : Raw) (m : Stored) (o : ℕ) (b : Bool) (q : Option (After Given)) → o < length m.objects
    → Some (state_of texts false s m) ≡ and_then q (given o)
    → b ≡ is_complete_in (env (state_of texts false s m)) (object_at (whole_unit m) o).t
    → state_on texts s m b ≡ and_then q (given_whole o)
given_done texts s m o b None lt h whether = absurd cc
given_done texts s m o b (Some f) lt h whether =
    let at = state_of texts false s m in
    let same : at ≡ with_given o f.value f.state = cc in
    let more : length at.unit.objects ≡ length f.state.unit.objects =
    ap (λ (z : State). length z.unit.objects) same ∙ length-set f.state.unit.objects o (record (object_at f.state.unit o) { t = f.value.t; braced = f.value.braced; inits = (object_at f.state.unit o).inits ++ f.value.stores }) in
    let kept = length-map m.objects (object_in m.known (nodes m)) in
    let here : o < length f.state.unit.objects = omega (arith, lt, more, kept) in
    either texts s m b
    ∙ ap (λ c. if c then Some at else None) (whether ∙ ap (λ (z : State). is_complete_in (env z) (object_at z.unit o).t) same ∙ ap (is_complete_in (env f.state)) (type_given o f here))
    ∙ ap (λ z. if is_complete_in (env f.state) f.value.t then Some z else None) same

-- ---- a new object

meaning_there : (m : Known) (o : Option Entry) → is_some (meaning_if m o) ≡ is_some o
meaning_there m None = refl
meaning_there m (Some e) = refl

pub is_bound : (texts : List (List ℕ)) (s : Raw) (m : Stored) (n : ℕ) (o : Option Entry) (b : Bool) → b ≡ is_some o → meaning_if m.known o ≡ find (innermost_scope (state_of texts false s m).scopes).names n
    → is_some (find (innermost_scope (state_of texts false s m).scopes).names n) ≡ b
is_bound texts s m n o b e h = sym (e ∙ sym (meaning_there m.known o) ∙ ap is_some h)

pub object_taken : (lasting : Bool) (t : Ty) (n : ℕ × ℕ) (i : OptionalTree) (s : State) → is_some (find (innermost_scope s.scopes).names n.0) ≡ true → None ≡ block_object lasting t n i s
object_taken lasting t n i s h = sym (ap (λ b. if b then None else with_initializer lasting (length s.unit.objects) i (new_object n.0 n.1 t lasting s)) h)

pub object_new : (lasting : Bool) (t : Ty) (n : ℕ × ℕ) (i : OptionalTree) (s new : State) (o : ℕ) (r : Option State) → is_some (find (innermost_scope s.scopes).names n.0) ≡ false
    → o ≡ length s.unit.objects → new ≡ new_object n.0 n.1 t lasting s → r ≡ with_initializer lasting o i new → r ≡ block_object lasting t n i s
object_new lasting t n i s new o r h number same is =
    is ∙ ap (λ k. with_initializer lasting k i new) number ∙ ap (with_initializer lasting (length s.unit.objects) i) same
    ∙ sym (ap (λ b. if b then None else with_initializer lasting (length s.unit.objects) i (new_object n.0 n.1 t lasting s)) h)

-- ---- a declarator

abbrev object_behind : Bool → ℕ × ℕ → OptionalTree → List WholeReached → After WholeType → Option (After (List WholeReached))
object_behind lasting n i xs a =
    if is_function a.value.t then None
    else and_then (block_object lasting a.value.t n i a.state) (give (Some (xs ++ reached_object lasting (length a.state.unit.objects) n)))

pub declarator_none : (lasting : Bool) (base : Ty) (d : DeclaratorTree) (i : OptionalTree) (xs : List WholeReached) (s : State) (n : ℕ × ℕ) (q : Option (After WholeType))
    → Some n ≡ declared_name d → q ≡ type_declared (is_present i) base d s → None ≡ and_then q (object_behind lasting n i xs)
    → None ≡ block_declarator lasting base d i (record { value = xs; state = s })
declarator_none lasting base d i xs s n q name made none =
    none ∙ ap (λ (z : Option (After WholeType)). and_then z (object_behind lasting n i xs)) made
    ∙ ap (λ (z : Option (ℕ × ℕ)). and_then z (λ m. and_then (type_declared (is_present i) base d s) (object_behind lasting m i xs))) name

pub function_none : (lasting : Bool) (n : ℕ × ℕ) (i : OptionalTree) (xs : List WholeReached) (a : After WholeType) → is_function a.value.t ≡ true → None ≡ and_then (Some a) (object_behind lasting n i xs)
function_none lasting n i xs a h = sym (ap (λ b. if b then None else and_then (block_object lasting a.value.t n i a.state) (give (Some (xs ++ reached_object lasting (length a.state.unit.objects) n)))) h)

pub object_none : (lasting : Bool) (n : ℕ × ℕ) (i : OptionalTree) (xs : List WholeReached) (a : After WholeType) → is_function a.value.t ≡ false → None ≡ block_object lasting a.value.t n i a.state → None ≡ and_then (Some a) (object_behind lasting n i xs)
object_none lasting n i xs a h none =
    ap (λ (q : Option State). and_then q (give (Some (xs ++ reached_object lasting (length a.state.unit.objects) n)))) none
    ∙ sym (ap (λ b. if b then None else and_then (block_object lasting a.value.t n i a.state) (give (Some (xs ++ reached_object lasting (length a.state.unit.objects) n)))) h)

-- ---- without declarators

abbrev reach_none : After WhatIsSpecified → Option (After (List WholeReached))
reach_none b = give (Some []) b.state

alone_if : (texts : List (List ℕ)) (b : Stored) (t : Raw) (x : WhatIsSpecified) (r : Bool)
    → reached_if texts t b [] r ≡ and_then (if r then Some (record { value = x; state = state_of texts false t b }) else None) reach_none
alone_if texts b t x true = refl
alone_if texts b t x false = refl

abbrev with_storage : Trees → State → After WhatIsSpecified → Option (After (List WholeReached))
with_storage specs s a = and_then (block_storage a.value.storage) (λ lasting. and_then (tags_alone specs s a) reach_none)

pub block_alone_done : (texts : List (List ℕ)) (specs : Trees) (a b : Stored) (s t : Raw) (k : ℕ) (r lasting : Bool) (x : WhatIsSpecified)
    → Some (record { value = x; state = state_of texts false t b }) ≡ specified_by specs (state_of texts false s a)
    → block_storage x.storage ≡ Some lasting
    → k ≡ bound_in (innermost_scope (state_of texts false s a).scopes)
    → r ≡ (nat_lt k (bound_in (innermost_scope (state_of texts false t b).scopes)) || has_list specs)
    → reached_if texts t b [] r ≡ block_alone None specs (state_of texts false s a)
block_alone_done texts specs a b s t k r lasting x first storage before whether =
    let start = state_of texts false s a in
    let after : After WhatIsSpecified = record { value = x; state = state_of texts false t b } in
    alone_if texts b t x r
    ∙ ap (λ (c : Bool). and_then (if c then Some after else None) reach_none) (whether ∙ ap (λ j. nat_lt j (bound_in (innermost_scope (state_of texts false t b).scopes)) || has_list specs) before)
    ∙ sym (ap (λ (q : Option Bool). and_then q (λ lasting. and_then (tags_alone specs start after) reach_none)) storage)
    ∙ ap (λ (q : Option (After WhatIsSpecified)). and_then q (with_storage specs start)) first

pub no_list : (f : Forest) (ns : List NodeId) → length ns ≤ 0 → trees_of f ns ≡ NoTrees
no_list f [] h = refl
no_list f (n ∷ ns) h = absurd (omega arith)
