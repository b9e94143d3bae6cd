use Rattle.std.proofs.Common.{◌≡◌, length, subst, arith}
use Rattle.pv_journal.specs.Reading.{rows_or_wrong}
use Rattle.pv_journal.specs.Standing.{state_under, Takes}
use Rattle.pv_journal.proofs.Added.{more_itself, more_both, lines_named}
use Rattle.pv_journal.proofs.Walking.{begins, text_out, text_well, text_behind, text_bad, text_goes, text_shorter}
use Rattle.pv_journal.proofs.checking.lines_in.Goals as goal

pub loop-text-init : goal.loop-text-init
loop-text-init c = record {
  goes = begins _ _ _ c.args.bytes.now (c.new-standing.ensures.known _) (c.new-standing.ensures.first _) c.new-lines.ensures.items;
  more = more_itself _;
}

pub returns-then-is_empty-clause-judges : goal.returns-then-is_empty-clause-judges
returns-then-is_empty-clause-judges c =
    let counts : c.len-count.result ≡ length c.loop-text.lines.items = omega (arith, c.loop-text.lines.ok.0, c.len-count.ensures) in
    text_well c.loop-text.names c.loop-text.standing c.loop-text.lines.items c.loop-text.rest.now (rows_or_wrong c.args.bytes.now) c.loop-text.invariant.goes c.len-count.result counts c.in-Some.text.now c.in-Some.behind.now c.in-Some.ensures c.if-is_last.ensures c.if-is_empty.ensures

pub returns-then-is_empty-clause-named : goal.returns-then-is_empty-clause-named
returns-then-is_empty-clause-named c = lines_named c.loop-text.names c.loop-text.lines.items c.loop-text.invariant.goes.lines_known

pub returns-then-is_empty-clause-more : goal.returns-then-is_empty-clause-more
returns-then-is_empty-clause-more c = c.loop-text.invariant.more

pub overflow_add-result : goal.overflow_add-result
overflow_add-result c =
    let counts : c.len-count.result ≡ length c.loop-text.lines.items = omega (arith, c.loop-text.lines.ok.0, c.len-count.ensures) in
    record { fits = omega (arith, counts, c.loop-text.lines.small) }

pub returns-then-is_last-clause-judges : goal.returns-then-is_last-clause-judges
returns-then-is_last-clause-judges c =
    let counts : c.len-count.result ≡ length c.loop-text.lines.items = omega (arith, c.loop-text.lines.ok.0, c.len-count.ensures) in
    text_behind c.loop-text.names c.loop-text.standing c.loop-text.lines.items c.loop-text.rest.now (rows_or_wrong c.args.bytes.now) c.loop-text.invariant.goes c.len-count.result counts c.in-Some.text.now c.in-Some.behind.now c.in-Some.ensures c.if-is_last.ensures c.if-is_empty.ensures

pub returns-then-is_last-clause-more : goal.returns-then-is_last-clause-more
returns-then-is_last-clause-more c = c.loop-text.invariant.more

pub take-requires : goal.take-requires
take-requires c = c.loop-text.invariant.goes.known

pub returns-in_default-take-clause-more : goal.returns-in_default-take-clause-more
returns-in_default-take-clause-more c = more_both _ _ _ c.loop-text.invariant.more c.take.ensures.more

pub overflow_add-result-in_default-taken : goal.overflow_add-result-in_default-taken
overflow_add-result-in_default-taken c =
    let counts : c.len-count.result ≡ length c.loop-text.lines.items = omega (arith, c.loop-text.lines.ok.0, c.len-count.ensures) in
    record { fits = omega (arith, counts, c.loop-text.lines.small) }

pub returns-in_default-taken-clause-judges : goal.returns-in_default-taken-clause-judges
returns-in_default-taken-clause-judges c =
    let counts : c.len-count.result ≡ length c.loop-text.lines.items = omega (arith, c.loop-text.lines.ok.0, c.len-count.ensures) in
    let none = subst (Takes (state_under c.loop-text.names c.loop-text.standing) c.in-Some.text.now c.take.new.names c.take.new.self) c.in_default-taken.is c.in-Ok.ensures.takes in
    text_bad c.loop-text.names c.loop-text.standing c.loop-text.lines.items c.loop-text.rest.now (rows_or_wrong c.args.bytes.now) c.loop-text.invariant.goes c.len-count.result counts c.in-Some.text.now c.in-Some.behind.now c.in-Some.ensures c.if-is_last.ensures none

pub returns-in_default-taken-clause-more : goal.returns-in_default-taken-clause-more
returns-in_default-taken-clause-more c = more_both _ _ _ c.loop-text.invariant.more c.take.ensures.more

pub returns-in_default-push-clause-more : goal.returns-in_default-push-clause-more
returns-in_default-push-clause-more c = more_both _ _ _ c.loop-text.invariant.more c.take.ensures.more

pub loop-text-smaller : goal.loop-text-smaller
loop-text-smaller c =
    let counts : c.len-count.result ≡ length c.loop-text.lines.items = omega (arith, c.loop-text.lines.ok.0, c.len-count.ensures) in
    text_shorter c.loop-text.names c.loop-text.standing c.loop-text.lines.items c.loop-text.rest.now (rows_or_wrong c.args.bytes.now) c.loop-text.invariant.goes c.len-count.result counts c.in-Some.text.now c.in-Some.behind.now c.in-Some.ensures

pub loop-text-preserved : goal.loop-text-preserved
loop-text-preserved c =
    let counts : c.len-count.result ≡ length c.loop-text.lines.items = omega (arith, c.loop-text.lines.ok.0, c.len-count.ensures) in
    let takes = subst (Takes (state_under c.loop-text.names c.loop-text.standing) c.in-Some.text.now c.take.new.names c.take.new.self) c.in-Some-taken.is c.in-Ok.ensures.takes in
    record {
      goes = text_goes c.loop-text.names c.loop-text.standing c.loop-text.lines.items c.loop-text.rest.now (rows_or_wrong c.args.bytes.now) c.loop-text.invariant.goes c.len-count.result counts c.in-Some.text.now c.in-Some.behind.now c.in-Some.ensures c.take.new.names c.take.new.self c.in-Some-taken.next c.push.new.self.items c.if-is_last.ensures c.take.ensures.more takes c.in-Ok-push.ensures.items;
      more = more_both _ _ _ c.loop-text.invariant.more c.take.ensures.more;
    }

pub overflow_add-result-2 : goal.overflow_add-result-2
overflow_add-result-2 c = record { fits = omega (arith, c.loop-text.lines.ok.0, c.len.ensures, c.loop-text.lines.small) }

pub returns-clause-judges : goal.returns-clause-judges
returns-clause-judges c =
    let counts : c.len.result ≡ length c.loop-text.lines.items = omega (arith, c.loop-text.lines.ok.0, c.len.ensures) in
    text_out c.loop-text.names c.loop-text.standing c.loop-text.lines.items c.loop-text.rest.now (rows_or_wrong c.args.bytes.now) c.loop-text.invariant.goes c.len.result counts c.in_default.ensures

pub returns-clause-more : goal.returns-clause-more
returns-clause-more c = c.loop-text.invariant.more
