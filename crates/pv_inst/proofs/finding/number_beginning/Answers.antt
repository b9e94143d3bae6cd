use Rattle.std.proofs.Common.{◌≡◌, None, Some, true, false, sym, ◌∙◌}
use Rattle.pv_inst.proofs.Counts.{said_at}
use Rattle.pv_inst.proofs.Rows.{row_found}
use Rattle.pv_inst.proofs.Meetings.{no_instance}
use Rattle.pv_inst.proofs.Index.{none_begins, one_begins_there, is_made}
use Rattle.pv_inst.proofs.finding.number_beginning.Goals as goal

pub returns-in_err-i : goal.returns-in_err-i
returns-in_err-i c =
    let e : c.from_residual.result ≡ None = (cc) in
    let none : said_at c.args.places.now.entries c.args.a ≡ None = sym c.in_err-i.ensures.value in
    e ∙ sym (none_begins c.args.places.now.entries c.args.instances.now c.args.a no_instance c.requires.placed c.requires.apart c.requires.indexed none)

pub returns-in_err-x : goal.returns-in_err-x
returns-in_err-x c =
    let there : said_at c.args.places.now.entries c.args.a ≡ Some c.in_ok-i.field-0.now = sym c.in_ok-i.ensures.value in
    absurd (is_made c.args.places.now.entries c.args.instances.now c.args.a c.in_ok-i.field-0.now no_instance c.requires.indexed there (sym c.in_err-x.ensures))

pub returns-then-x : goal.returns-then-x
returns-then-x c =
    let there : said_at c.args.places.now.entries c.args.a ≡ Some c.in_ok-i.field-0.now = sym c.in_ok-i.ensures.value in
    let r = row_found c.args.instances.now c.in_ok-i.field-0.now c.in_ok-x.x c.in_ok-x.ensures in
    let h : c.in_ok-x.x.exposed ≡ true = (cc) in
    sym (one_begins_there c.args.places.now.entries c.args.instances.now c.args.a c.in_ok-i.field-0.now c.in_ok-x.x c.requires.placed c.requires.apart c.requires.indexed there r true h)

pub returns-else-x : goal.returns-else-x
returns-else-x c =
    let there : said_at c.args.places.now.entries c.args.a ≡ Some c.in_ok-i.field-0.now = sym c.in_ok-i.ensures.value in
    let r = row_found c.args.instances.now c.in_ok-i.field-0.now c.in_ok-x.x c.in_ok-x.ensures in
    let h : c.in_ok-x.x.exposed ≡ false = (cc) in
    sym (one_begins_there c.args.places.now.entries c.args.instances.now c.args.a c.in_ok-i.field-0.now c.in_ok-x.x c.requires.placed c.requires.apart c.requires.indexed there r false h)
