use Rattle.std.proofs.Common.{◌+◌, ◌<◌, length, map, List, sym, ap, ◌∙◌, subst, refl, arith}
use Rattle.std.specs.Prelude.{Option, Some, None, option_map}
use Rattle.std.proofs.lemmas.List.{length-map, map_push}
use Rattle.pv_cases.specs.declared.comparing.Told.{Told}
use Rattle.pv_cases.specs.Suites.{CaseTold}
use Rattle.pv_cases.specs.Views.{case_view, IsBounded, told_view}
use Rattle.pv_suite.specs.Answers.{given_of}
use Rattle.pv_suite.specs.Answering.{IsCaseOf}
use Rattle.pv_suite.proofs.RoseLemmas.{other_err}
use Rattle.pv_suite.proofs.WalkLemmas.{Leads, all_at, case_at, leads_first, leads_on, leads_to_long, leads_to_all, reaches_on, reaches_case, case_same}
use Rattle.pv_suite.proofs.walking.walk.Goals as goal

pub loop-i-init : goal.loop-i-init
loop-i-init g c = record {
  leads = subst (λ (ts : List CaseTold). Leads (g.F.Files.held c.args.files.now) (map case_view c.args.cases.now) 0 ts) (sym (ap (map told_view) c.new-told.ensures.items)) (leads_first (g.F.Files.held c.args.files.now) (map case_view c.args.cases.now));
  reaches = λ old new any. any;
  same = λ n. refl;
  later = λ n. omega arith;
}

pub walk_case-requires : goal.walk_case-requires
walk_case-requires g c = all_at IsBounded c.args.cases.now c.loop-i.i c.case_at-next.result c.requires c.case_at-next.ensures

pub loop-i-preserved : goal.loop-i-preserved
loop-i-preserved g c =
    let cs = map case_view c.args.cases.now in
    let one = case_view c.case_at-next.result in
    let lt : c.loop-i.i < length cs = omega (arith, length-map c.args.cases.now case_view, c.loop-i-test.true) in
    let held = g.F.Files.held c.args.files.now in
    let is = case_same (c.loop-i.i + 1) one held (g.F.Files.held c.loop-i.files) (Some (told_view c.in-Some.case)) c.loop-i.invariant.same
    (subst (λ (o : Option Told). IsCaseOf (c.loop-i.i + 1) one (given_of one (g.F.Files.held c.loop-i.files)) (option_map told_view o)) c.in-Some.is c.in-Ok.ensures.told) in
    record {
      leads = subst (λ (ts : List CaseTold). Leads held cs (c.loop-i.i + 1) ts)
          (sym (ap (map told_view) c.in-Ok-push.ensures.items ∙ map_push told_view c.loop-i.told.items c.in-Some.case))
          (leads_on held cs c.loop-i.i one (map told_view c.loop-i.told.items) (told_view c.in-Some.case) lt (case_at case_view c.args.cases.now c.loop-i.i c.case_at-next.result c.case_at-next.ensures) is c.loop-i.invariant.leads);
      reaches = reaches_on held cs c.loop-i.i one (told_view c.in-Some.case) lt (case_at case_view c.args.cases.now c.loop-i.i c.case_at-next.result c.case_at-next.ensures) is c.loop-i.invariant.reaches;
      same = λ n. c.in-Ok.ensures.same n ∙ c.loop-i.invariant.same n;
      later = λ n. omega (arith, c.in-Ok.ensures.later n, c.loop-i.invariant.later n);
    }

pub returns-in-None-clause-walked : goal.returns-in-None-clause-walked
returns-in-None-clause-walked g c =
    let cs = map case_view c.args.cases.now in
    let one = case_view c.case_at-next.result in
    let lt : c.loop-i.i < length cs = omega (arith, length-map c.args.cases.now case_view, c.loop-i-test.true) in
    let held = g.F.Files.held c.args.files.now in
    let is = case_same (c.loop-i.i + 1) one held (g.F.Files.held c.loop-i.files) None c.loop-i.invariant.same
    (subst (λ (o : Option Told). IsCaseOf (c.loop-i.i + 1) one (given_of one (g.F.Files.held c.loop-i.files)) (option_map told_view o)) c.in-None.is c.in-Ok.ensures.told) in
    leads_to_long held cs c.loop-i.i one (map told_view c.loop-i.told.items) lt (case_at case_view c.args.cases.now c.loop-i.i c.case_at-next.result c.case_at-next.ensures) is c.loop-i.invariant.leads

pub returns-in-Err-clause-cause : goal.returns-in-Err-clause-cause
returns-in-Err-clause-cause g c = λ h.
    let cs = map case_view c.args.cases.now in
    let lt : c.loop-i.i < length cs = omega (arith, length-map c.args.cases.now case_view, c.loop-i-test.true) in
    reaches_case (g.F.Files.held c.args.files.now) cs c.loop-i.i (case_view c.case_at-next.result) _ _ _ lt (case_at case_view c.args.cases.now c.loop-i.i c.case_at-next.result c.case_at-next.ensures)
    c.loop-i.invariant.later (c.in-Err.ensures.cause (other_err _ _ h)) c.loop-i.invariant.reaches

pub returns-clause-walked : goal.returns-clause-walked
returns-clause-walked g c =
    let cs = map case_view c.args.cases.now in
    leads_to_all (g.F.Files.held c.args.files.now) cs c.loop-i.i (map told_view c.loop-i.told.items) (omega (arith, length-map c.args.cases.now case_view, c.loop-i-test.false)) c.loop-i.invariant.leads
