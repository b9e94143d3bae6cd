use Rattle.std.proofs.Common.{rules, ◌≡◌, ◌∙◌, ap, option_map, true, false, Some, None}
use Rattle.pv_tree.specs.Tables.{initializer_at}
use Rattle.pv_types.specs.Known.{env, tree}
use Rattle.pv_types.specs.Formed.{completions}
use Rattle.pv_types.specs.Ty.{Ty}
use Rattle.pv_check.specs.Open.{state_of}
use Rattle.pv_unit.specs.Initializers.{initializer_stores, whole_object}
use Rattle.pv_unit.specs.InitializerParts.{is_braced}
use Rattle.pv_unit.specs.Parts.{can_be_initialized, with_size}
use Rattle.pv_unit.specs.Stores.{FillsIf, behind, stores_if, stores_in}
use Rattle.pv_unit.specs.ValueRules.{values}
use Rattle.pv_unit.proofs.GivenRows.{can_stay, fills_kept, given_done, given_none, given_refused}
use Rattle.pv_unit.proofs.Spaces.{whole_part}
use Rattle.pv_unit.proofs.giving.initialized_object.Goals as goal

pub returns-then-not-can_be_initialized-clause-typed : goal.returns-then-not-can_be_initialized-clause-typed
returns-then-not-can_be_initialized-clause-typed c =
    let m0 = c.args.into.now in
    let texts = c.args.t.now.texts in
    let t = tree m0.known c.args.whole.0 in
    let i = initializer_at c.args.u.now.forest c.args.i in
    let can : can_be_initialized (env m0.known) t ≡ false = search rules in
    given_refused c.args.lasting texts m0 c.args.s.now t i can

pub initializer-requires-clause-part : goal.initializer-requires-clause-part
initializer-requires-clause-part c =
    let m = c.args.into.now.known in
    let can : can_be_initialized (env m) (tree m c.args.whole.0) ≡ true = search rules in
    whole_part m c.args.whole c.requires.opened.sized c.requires.known can

pub is_braced-braced-requires-clause-part : goal.is_braced-braced-requires-clause-part
is_braced-braced-requires-clause-part c =
    let m = c.args.into.now.known in
    let can : can_be_initialized (env m) (tree m c.args.whole.0) ≡ true = search rules in
    rw c.types-2.ensures (whole_part m c.args.whole c.requires.opened.sized c.requires.known can)

pub returns-in_default-clause-typed : goal.returns-in_default-clause-typed
returns-in_default-clause-typed c =
    let m0 = c.args.into.now in
    let texts = c.args.t.now.texts in
    let t = tree m0.known c.args.whole.0 in
    let i = initializer_at c.args.u.now.forest c.args.i in
    let can : can_be_initialized (env m0.known) t ≡ true = search rules in
    let st = state_of texts false c.args.s.now m0 in
    let none : None ≡ option_map (behind (stores_in m0 c.args.out.now.items)) (initializer_stores values c.args.lasting (whole_object t) i st) = rw c.in_default.is at c.in_ok-count.ensures.typed in
    given_none c.args.lasting texts m0 c.args.s.now t i can (none ∙ ap (λ xs. option_map (behind (stores_in m0 xs)) (initializer_stores values c.args.lasting (whole_object t) i st)) c.requires.none)

pub sized-requires-clause-can : goal.sized-requires-clause-can
sized-requires-clause-can c =
    let m0 = c.args.into.now in
    let texts = c.args.t.now.texts in
    let t = tree m0.known c.args.whole.0 in
    let i = initializer_at c.args.u.now.forest c.args.i in
    let can : can_be_initialized (env m0.known) t ≡ true = search rules in
    let m1 = c.initializer.new.into in
    let s1 = c.initializer.new.s in
    let out = c.initializer.new.out.items in
    let fills : FillsIf m0 m1 s1 out (Some c.in-Some.count) = rw c.in-Some.is at c.in_ok-count.ensures.fills in
    ap (can_be_initialized (env m1.known)) (fills.goes.grown.types c.args.whole.0 c.requires.known) ∙ can_stay m0 m1 fills.goes t can

pub returns-clause-typed : goal.returns-clause-typed
returns-clause-typed c =
    let m0 = c.args.into.now in
    let texts = c.args.t.now.texts in
    let t = tree m0.known c.args.whole.0 in
    let i = initializer_at c.args.u.now.forest c.args.i in
    let can : can_be_initialized (env m0.known) t ≡ true = search rules in
    let m1 = c.initializer.new.into in
    let s1 = c.initializer.new.s in
    let out = c.initializer.new.out.items in
    let fills : FillsIf m0 m1 s1 out (Some c.in-Some.count) = rw c.in-Some.is at c.in_ok-count.ensures.fills in
    let st = state_of texts false c.args.s.now m0 in
    let count = c.in-Some.count in
    let typed : stores_if texts s1 m1 out (Some count) ≡ option_map (behind (stores_in m0 c.args.out.now.items)) (initializer_stores values c.args.lasting (whole_object t) i st) = rw c.in-Some.is at c.in_ok-count.ensures.typed in
    let braced : c.is_braced-braced.result ≡ is_braced (completions m0.known) (whole_object t) i = rw c.types-2.ensures at c.is_braced-braced.ensures in
    let tree_is = c.in_ok-complete.ensures.tree ∙ ap (λ (u : Ty). with_size u count) (fills.goes.grown.types c.args.whole.0 c.requires.known) in
    given_done c.args.lasting texts m0 c.args.s.now t i m1 c.sized.new.into s1 count out (record { t = c.in_ok-complete.complete; braced = c.is_braced-braced.result }) can fills c.in_ok-complete.ensures.kept
    (typed ∙ ap (λ xs. option_map (behind (stores_in m0 xs)) (initializer_stores values c.args.lasting (whole_object t) i st)) c.requires.none) tree_is braced

pub returns-clause-fills : goal.returns-clause-fills
returns-clause-fills c =
    let m0 = c.args.into.now in
    let m1 = c.initializer.new.into in
    let s1 = c.initializer.new.s in
    let out = c.initializer.new.out.items in
    let fills : FillsIf m0 m1 s1 out (Some c.in-Some.count) = rw c.in-Some.is at c.in_ok-count.ensures.fills in
    fills_kept m0 m1 c.sized.new.into s1 out fills c.in_ok-complete.ensures.kept
