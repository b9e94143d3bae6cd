use Rattle.std.proofs.Common.{◌≡◌, None, true, false, sym, ◌∙◌}
use Rattle.pv_inst.specs.Finding.{reaches}
use Rattle.pv_inst.proofs.Rows.{row_found}
use Rattle.pv_inst.proofs.Meetings.{no_instance}
use Rattle.pv_inst.proofs.Index.{none_reaches, greatest_reaches, is_made}
use Rattle.pv_inst.proofs.finding.number_reaching.Goals as goal

pub returns-in_err-i : goal.returns-in_err-i
returns-in_err-i c =
    let e : c.from_residual.result ≡ None = (cc) in
    e ∙ sym (none_reaches c.args.places.now.entries c.args.instances.now c.args.a no_instance c.requires.placed c.requires.apart c.requires.indexed c.in_err-i.ensures.none)

pub returns-in_err-x : goal.returns-in_err-x
returns-in_err-x c =
    absurd (is_made c.args.places.now.entries c.args.instances.now c.in_ok-i.field-0-0 c.in_ok-i.i no_instance c.requires.indexed c.in_ok-i.ensures.there (sym c.in_err-x.ensures))

pub returns-then-reaches : goal.returns-then-reaches
returns-then-reaches c =
    let r = row_found c.args.instances.now c.in_ok-i.i c.in_ok-x.x c.in_ok-x.ensures in
    let h : reaches c.args.a c.in_ok-x.x ≡ true = (cc) in
    sym (greatest_reaches c.args.places.now.entries c.args.instances.now c.args.a c.in_ok-i.field-0-0 c.in_ok-i.i c.in_ok-x.x c.requires.placed c.requires.apart c.requires.indexed c.in_ok-i.ensures.there r c.in_ok-i.ensures.low c.in_ok-i.ensures.greatest true h)

pub returns-else-reaches : goal.returns-else-reaches
returns-else-reaches c =
    let r = row_found c.args.instances.now c.in_ok-i.i c.in_ok-x.x c.in_ok-x.ensures in
    let h : reaches c.args.a c.in_ok-x.x ≡ false = (cc) in
    sym (greatest_reaches c.args.places.now.entries c.args.instances.now c.args.a c.in_ok-i.field-0-0 c.in_ok-i.i c.in_ok-x.x c.requires.placed c.requires.apart c.requires.indexed c.in_ok-i.ensures.there r c.in_ok-i.ensures.low c.in_ok-i.ensures.greatest false h)
