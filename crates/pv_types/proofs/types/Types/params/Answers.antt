use Rattle.std.proofs.Common.{IsTrue, ◌<◌, ◌-◌, ◌^◌, [], ◌∷◌, ◌++◌, List, length, length-append, refl, sym, ap, subst, arith, map, ◌∙◌}
use Rattle.std.proofs.Math.Seq.{get_or-append_seam}
use Rattle.std.proofs.lemmas.List.{length-map}
use Rattle.pv_types.specs.declared.terms.TypeId.{TypeId}
use Rattle.pv_types.specs.Kept.{kept_of, AreMeasured}
use Rattle.pv_types.specs.Known.{Known, tree, trees, tys_in, env, completed_in}
use Rattle.pv_types.specs.KnownParts.{list_at}
use Rattle.pv_types.specs.Formed.{IsBuilt, AllBelow, IsNoList, completions, parameters_at, are_adjusted}
use Rattle.pv_types.specs.Shown.{known_shown}
use Rattle.pv_types.proofs.Built.{built_list, env-list}
use Rattle.pv_types.proofs.Equal.{items_of}
use Rattle.pv_types.proofs.Indexed.{indexed_list}
use Rattle.pv_types.proofs.Grown.{tree-list, parameters-list}
use Rattle.pv_types.proofs.Lists.{trees-list}
use Rattle.pv_types.proofs.types.Types.params.Goals as goal

pub invariant_of-self-2 : goal.invariant_of-self-2
invariant_of-self-2 c =
    let m : Known = known_shown c.self.inside.terms.keys (map items_of c.self.inside.lists.keys) c.self.inside.tags.items c.self.inside.done.items in
    let P : Known → Type 0 = λ k. AllBelow (length k.terms) c.args.list.items in
    let all : P m = subst P (sym c.self.view_is) c.requires.known in
    let A : Known → Type 0 = λ k. IsTrue (are_adjusted (tys_in (trees k) c.args.list.items)) in
    let one : A m = subst A (sym c.self.view_is) c.requires.adjusted in
    let Q : List TypeId → Type 0 = λ l. IsNoList (map items_of c.self.inside.lists.keys) l in
    let absent : Q c.args.list.items = subst Q c.as_slice.ensures.value c.in_default.ensures in
    let few : length (map items_of c.self.inside.lists.keys) < 2 ^ 32 - 1 = omega (arith, c.in_ok-add_list.ensures.few, length-map c.self.inside.lists.keys items_of) in
    let same = env-list m c.args.list.items c.self.invariant.0 in
    let measured : AreMeasured (env (record m { lists = m.lists ++ (c.args.list.items ∷ []) })) (map kept_of c.self.inside.tags.items) = rw same c.self.invariant.2 in
    (rw c.in_ok-add_list.ensures.keys (built_list m c.args.list.items c.self.invariant.0 all one absent few), c.self.invariant.1, rw c.in_ok-add_list.ensures.keys measured, rw c.in_ok-add_list.ensures.keys (indexed_list m c.args.list.items _ c.self.invariant.0 c.self.invariant.3))

pub returns-clause-extends : goal.returns-clause-extends
returns-clause-extends c =
    let F : Known → Known = λ m. record m { lists = m.lists ++ (c.args.list.items ∷ []) } in
    (c.args.list.items ∷ [], rw c.in_ok-add_list.ensures.keys (ap F c.self.view_is))

pub returns-clause-stands : goal.returns-clause-stands
returns-clause-stands c = λ i lt.
    let m : Known = known_shown c.self.inside.terms.keys (map items_of c.self.inside.lists.keys) c.self.inside.tags.items c.self.inside.done.items in
    rw c.in_ok-add_list.ensures.keys (tree-list m c.args.list.items i c.self.invariant.0) ∙ ap (λ (k : Known). tree k i) c.self.view_is

pub place_of_list-requires : goal.place_of_list-requires
place_of_list-requires c = omega (arith, c.self.invariant.0.few_lists, length-map c.self.inside.lists.keys items_of)

pub same-self : goal.same-self
same-self c = refl

pub returns-in-Some-clause-number : goal.returns-in-Some-clause-number
returns-in-Some-clause-number c =
    let here : c.in-Some.p < length (map items_of c.self.inside.lists.keys) = omega (arith, c.in-Some.ensures.0, length-map c.self.inside.lists.keys items_of) in
    subst (λ (k : Known). c.in-Some.p < length k.lists) c.self.view_is here

pub returns-in-Some-clause-list : goal.returns-in-Some-clause-list
returns-in-Some-clause-list c = ap (λ (k : Known). list_at k.lists c.in-Some.p) (sym c.self.view_is) ∙ c.in-Some.ensures.1 ∙ c.as_slice.ensures.value

pub returns-in-Some-clause-equal : goal.returns-in-Some-clause-equal
returns-in-Some-clause-equal c = λ q lt e.
    (subst IsBuilt c.self.view_is c.self.invariant.0).listed.distinct q c.in-Some.p lt (returns-in-Some-clause-number c) (e ∙ sym (returns-in-Some-clause-list c))

pub add_list-requires : goal.add_list-requires
add_list-requires c = subst (λ (l : List TypeId). IsNoList (map items_of c.self.inside.lists.keys) l) c.as_slice.ensures.value c.in_default.ensures

pub invariant_of-self : goal.invariant_of-self
invariant_of-self c = rw c.in_err-add_list.ensures.unchanged c.self.invariant

pub returns-clause-number : goal.returns-clause-number
returns-clause-number c =
    let lists = map items_of c.self.inside.lists.keys in
    rw (c.in_ok-add_list.ensures.keys, c.in_ok-add_list.ensures.number) (omega (arith, length-map c.self.inside.lists.keys items_of, length-append lists (c.args.list.items ∷ [])))

pub returns-clause-list : goal.returns-clause-list
returns-clause-list c =
    let lists = map items_of c.self.inside.lists.keys in
    let last = c.in_ok-add_list.ensures.number ∙ sym (length-map c.self.inside.lists.keys items_of) in
    rw c.in_ok-add_list.ensures.keys (ap (list_at (lists ++ (c.args.list.items ∷ []))) last ∙ get_or-append_seam lists c.args.list.items [] [])

pub returns-clause-equal : goal.returns-clause-equal
returns-clause-equal c = λ q lt e.
    (invariant_of-self-2 c).0.listed.distinct q c.in_ok-add_list.field-0 lt (returns-clause-number c) (e ∙ sym (returns-clause-list c))

pub returns-clause-completed : goal.returns-clause-completed
returns-clause-completed c =
    let m : Known = known_shown c.self.inside.terms.keys (map items_of c.self.inside.lists.keys) c.self.inside.tags.items c.self.inside.done.items in
    rw c.in_ok-add_list.ensures.keys (ap (λ ts. completed_in ts m.done) (trees-list m.lists c.args.list.items m.terms c.self.invariant.0.formed)) ∙ ap completions c.self.view_is

pub returns-clause-parameters : goal.returns-clause-parameters
returns-clause-parameters c = λ p lt.
    let m : Known = known_shown c.self.inside.terms.keys (map items_of c.self.inside.lists.keys) c.self.inside.tags.items c.self.inside.done.items in
    let P : Known → Type 0 = λ k. p < length k.lists in
    let here : P m = subst P (sym c.self.view_is) lt in
    rw c.in_ok-add_list.ensures.keys (parameters-list m c.args.list.items p c.self.invariant.0 here) ∙ ap (λ (k : Known). parameters_at k p) c.self.view_is
