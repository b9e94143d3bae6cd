use Rattle.std.proofs.Common.{true, ◌∙◌, ap, subst}
use Rattle.pv_script.specs.Words.{is_name}
use Rattle.pv_journal.specs.Standing.{HasText, HaveTexts, IsSaidKnown}
use Rattle.pv_journal.proofs.Changed.{ok_by, said_if, said_as, leaves_made, leaves_ended, leaves_exposed, leaves_paired, leaves_used, leaves_fault}
use Rattle.pv_journal.proofs.standing.Standing.change.Goals as goal

pub text-requires : goal.text-requires
text-requires c =
    let k : HasText c.args.names.now c.in-Made.key = subst (IsSaidKnown c.args.names.now) c.in-Made.is c.requires.said in
    k.within

pub returns-in-Made : goal.returns-in-Made
returns-in-Made c =
    let k : HasText c.args.names.now c.in-Made.key = subst (IsSaidKnown c.args.names.now) c.in-Made.is c.requires.said in
    said_if c.args.names.now c.args.self.now _ c.make.result _ _ c.in-Made.is
    (ok_by c.make.result (λ b l. leaves_made c.args.names.now c.args.self.now c.requires.known c.in-Made.key c.in-Made.base c.in-Made.size c.is_name-valid.result b c.make.new.self k c.is_word.ensures
    (c.is_name-valid.ensures ∙ ap is_name c.text.ensures) l) c.make.ensures)

pub returns-in-Ended : goal.returns-in-Ended
returns-in-Ended c =
    let k : HasText c.args.names.now c.in-Ended.key = subst (IsSaidKnown c.args.names.now) c.in-Ended.is c.requires.said in
    said_as c.args.names.now c.args.self.now _ c.end.result _ _ c.in-Ended.is (leaves_ended c.args.names.now c.args.self.now c.requires.known c.in-Ended.key c.end.result c.end.new.self k c.end.ensures)

pub returns-in-Exposed : goal.returns-in-Exposed
returns-in-Exposed c =
    let k : HasText c.args.names.now c.in-Exposed.key = subst (IsSaidKnown c.args.names.now) c.in-Exposed.is c.requires.said in
    said_as c.args.names.now c.args.self.now _ c.expose.result _ _ c.in-Exposed.is (leaves_exposed c.args.names.now c.args.self.now c.requires.known c.in-Exposed.key c.expose.result c.expose.new.self k c.expose.ensures)

pub returns-in-Pair : goal.returns-in-Pair
returns-in-Pair c =
    let k : HasText c.args.names.now c.in-Pair.low × HasText c.args.names.now c.in-Pair.high = subst (IsSaidKnown c.args.names.now) c.in-Pair.is c.requires.said in
    said_if c.args.names.now c.args.self.now _ c.pair.result _ _ c.in-Pair.is
    (ok_by c.pair.result (λ b l. leaves_paired c.args.names.now c.args.self.now c.requires.known c.in-Pair.pair c.in-Pair.address c.in-Pair.low c.in-Pair.high b c.pair.new.self k.0 k.1 l) c.pair.ensures)

pub use_of-requires : goal.use_of-requires
use_of-requires c = c.requires.known.bonds

pub returns-in-Used : goal.returns-in-Used
returns-in-Used c =
    let k : HasText c.args.names.now c.in-Used.first × HaveTexts c.args.names.now c.in-Used.second = subst (IsSaidKnown c.args.names.now) c.in-Used.is c.requires.said in
    said_as c.args.names.now c.args.self.now _ c.use_of.result _ _ c.in-Used.is
    (leaves_used c.args.names.now c.args.self.now c.requires.known c.in-Used.pair c.in-Used.test c.in-Used.first c.in-Used.second c.use_of.result c.use_of.new.self k.0 k.1 c.use_of.ensures)

pub returns-in-Fault : goal.returns-in-Fault
returns-in-Fault c = said_as c.args.names.now c.args.self.now (record c.args.self.now { over = true }) true _ _ c.in-Fault.is (leaves_fault c.args.names.now c.args.self.now c.requires.known)
