use Rattle.std.proofs.Common.{rules, ◌≡◌, Some, sym, ap, ◌∙◌}
use Rattle.pv_num.specs.declared.kinds.IntKind.TheVariants as kind
use Rattle.pv_types.specs.Ty.{IntTy}
use Rattle.pv_check.specs.declared.scopes.TagEntry.TheVariants as tag
use Rattle.pv_check.specs.Raw.{tag_meaning_if}
use Rattle.pv_check.specs.Open.{state_of}
use Rattle.pv_check.specs.Tags.{enumeration_named}
use Rattle.pv_check.proofs.TagRows.{known_after}
use Rattle.pv_check.proofs.tags.enumeration_named.Goals as goal

pub returns-in_ok-t-in-Some-Enumerated-clause-answer : goal.returns-in_ok-t-in-Some-Enumerated-clause-answer
returns-in_ok-t-in-Some-Enumerated-clause-answer c = λ texts u.
    let is : c.args.found ≡ Some tag.Enumerated = search rules in
    ap Some (known_after texts u c.args.into.now c.interned_in.new.into c.args.s.now (IntTy kind.Int) c.in_ok-t-in-Some-Enumerated.t c.requires.opened
    c.in_ok-t-in-Some-Enumerated.ensures.goes c.in_ok-t-in-Some-Enumerated.ensures.whole c.in_ok-t-in-Some-Enumerated.ensures.tree)
    ∙ ap (λ f. enumeration_named (tag_meaning_if c.args.into.now.known f) (state_of texts u c.args.s.now c.args.into.now)) (sym is)
