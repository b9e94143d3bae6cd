use Rattle.std.proofs.Common.{rules, ◌≡◌, ◌&&◌, Bool, true, Some, None, Option, List, length, subst, sym, ap, ◌∙◌}
use Rattle.std.specs.Prelude.{if◌then◌else◌, ◌∷◌, ◌++◌, []}
use Rattle.pv_types.specs.declared.terms.Member.{Member}
use Rattle.pv_types.specs.Known.{env, tree, trees, named_in}
use Rattle.pv_types.specs.Formed.{MembersBelow, NamesDiffer, AreComplete}
use Rattle.pv_types.specs.Layouts.{Named, is_complete_in}
use Rattle.pv_check.specs.TagParts.{is_new_member}
use Rattle.pv_check.proofs.Growth.{left_true, right_true}
use Rattle.pv_check.proofs.MemberRows.{named_append, below_append, complete_append, differ_append, new_any_types}
use Rattle.pv_check.proofs.composites.with_member.Goals as goal

pub with_one-requires-clause-fresh : goal.with_one-requires-clause-fresh
with_one-requires-clause-fresh c =
    let ts = trees c.args.into.now.known in
    let may : c.may_add.result ≡ true = search rules in
    new_any_types [] ts c.args.name c.args.members.list.items
    ∙ right_true (is_complete_in (env c.args.into.now.known) (tree c.args.into.now.known c.args.t.0)) _ (sym c.may_add.ensures ∙ may)

pub returns-clause-members : goal.returns-clause-members
returns-clause-members c =
    let m = c.args.into.now.known in
    let ts = trees m in
    let may : c.may_add.result ≡ true = search rules in
    let all : (is_complete_in (env m) (tree m c.args.t.0) && is_new_member c.args.name (named_in ts c.args.members.list.items)) ≡ true = sym c.may_add.ensures ∙ may in
    let x : Member = record { name = c.args.name; t = c.args.t } in
    let e = sym c.in_ok-more.ensures.list in
    record {
      types = subst (MembersBelow (length m.terms)) e (below_append (length m.terms) c.args.members.list.items x c.requires.members.types c.requires.number);
      differ = subst NamesDiffer e (differ_append ts c.args.members.list.items x c.requires.members.differ (right_true (is_complete_in (env m) (tree m c.args.t.0)) _ all));
      complete = subst (λ ms. AreComplete (env m) (named_in ts ms)) e
          (subst (AreComplete (env m)) (sym (named_append ts c.args.members.list.items x))
          (complete_append (env m) (named_in ts c.args.members.list.items) _ c.requires.members.complete (left_true (is_complete_in (env m) (tree m c.args.t.0)) _ all)));
      names = c.in_ok-more.ensures.names;
    }

pub returns-clause-answer : goal.returns-clause-answer
returns-clause-answer c = λ texts u s.
    let m = c.args.into.now.known in
    let ts = trees m in
    let may : c.may_add.result ≡ true = search rules in
    let all : (is_complete_in (env m) (tree m c.args.t.0) && is_new_member c.args.name (named_in ts c.args.members.list.items)) ≡ true = sym c.may_add.ensures ∙ may in
    let x : Member = record { name = c.args.name; t = c.args.t } in
    let grown : List Named = named_in ts c.args.members.list.items ++ (record { name = c.args.name; t = tree m c.args.t.0 } ∷ []) in
    let whether : Bool → Option (List Named) = λ b. if b then Some grown else None in
    ap Some (ap (named_in ts) c.in_ok-more.ensures.list ∙ named_append ts c.args.members.list.items x) ∙ ap whether (sym all)
