use Rattle.std.proofs.Common.{◌≡◌, ap, sym, ◌∙◌, Ok, List, Bool}
use Rattle.pv_prov.specs.declared.names.Stands.{Stands}
use Rattle.pv_inst.specs.declared.values.Instance.{Instance}
use Rattle.pv_prov.specs.declared.names.Prov.TheVariants.{Pair}
use Rattle.pv_prov.specs.Names.{stands}
use Rattle.pv_inst.specs.Table.{Table}
use Rattle.pv_inst.specs.Use.{test_answer}
use Rattle.pv_inst.proofs.Uses.{judged_can}
use Rattle.pv_inst.proofs.instances.Instances.narrow.Goals as goal

pub keep-requires-clause-one : goal.keep-requires-clause-one
keep-requires-clause-one c =
    let T = c.args.self.now in
    let k = c.in-Pair.k in
    let xs_is : c.deref-in-Pair.result.now ≡ T.instances = c.deref-in-Pair.ensures.value ∙ ap (λ (U : Table). U.instances) c.self-in-Pair.view_is in
    let zap_is : c.self-in-Pair.inside.zap ≡ T.zap = ap (λ (U : Table). U.zap) c.self-in-Pair.view_is in
    let s_is : c.stands-stands-in-Pair.result ≡ stands T.pairs (Pair k) =
    c.stands-stands-in-Pair.ensures ∙ ap (λ (U : Table). stands U.pairs (Pair k)) c.self-in-Pair.view_is in
    let found : test_answer T.zap T.instances (stands T.pairs (Pair k)) c.if-is_some.pair c.args.test ≡ Ok c.in_ok-tried-in-Pair.tried =
    sym (ap (λ (z : Bool). test_answer z T.instances (stands T.pairs (Pair k)) c.if-is_some.pair c.args.test) zap_is)
    ∙ sym (ap (λ (xs : List Instance). test_answer c.self-in-Pair.inside.zap xs (stands T.pairs (Pair k)) c.if-is_some.pair c.args.test) xs_is)
    ∙ sym (ap (λ (s : Stands). test_answer c.self-in-Pair.inside.zap c.deref-in-Pair.result.now s c.if-is_some.pair c.args.test) s_is)
    ∙ sym c.judge-in-Pair.ensures ∙ c.in_ok-tried-in-Pair.was in
    (judged_can T k c.if-is_some.pair c.args.test c.in_ok-tried-in-Pair.tried found).0

pub keep-requires-clause-low_stands : goal.keep-requires-clause-low_stands
keep-requires-clause-low_stands c =
    let T = c.args.self.now in
    let k = c.in-Pair.k in
    let xs_is : c.deref-in-Pair.result.now ≡ T.instances = c.deref-in-Pair.ensures.value ∙ ap (λ (U : Table). U.instances) c.self-in-Pair.view_is in
    let zap_is : c.self-in-Pair.inside.zap ≡ T.zap = ap (λ (U : Table). U.zap) c.self-in-Pair.view_is in
    let s_is : c.stands-stands-in-Pair.result ≡ stands T.pairs (Pair k) =
    c.stands-stands-in-Pair.ensures ∙ ap (λ (U : Table). stands U.pairs (Pair k)) c.self-in-Pair.view_is in
    let found : test_answer T.zap T.instances (stands T.pairs (Pair k)) c.if-is_some.pair c.args.test ≡ Ok c.in_ok-tried-in-Pair.tried =
    sym (ap (λ (z : Bool). test_answer z T.instances (stands T.pairs (Pair k)) c.if-is_some.pair c.args.test) zap_is)
    ∙ sym (ap (λ (xs : List Instance). test_answer c.self-in-Pair.inside.zap xs (stands T.pairs (Pair k)) c.if-is_some.pair c.args.test) xs_is)
    ∙ sym (ap (λ (s : Stands). test_answer c.self-in-Pair.inside.zap c.deref-in-Pair.result.now s c.if-is_some.pair c.args.test) s_is)
    ∙ sym c.judge-in-Pair.ensures ∙ c.in_ok-tried-in-Pair.was in
    (judged_can T k c.if-is_some.pair c.args.test c.in_ok-tried-in-Pair.tried found).1

pub keep-requires-clause-high_stands : goal.keep-requires-clause-high_stands
keep-requires-clause-high_stands c =
    let T = c.args.self.now in
    let k = c.in-Pair.k in
    let xs_is : c.deref-in-Pair.result.now ≡ T.instances = c.deref-in-Pair.ensures.value ∙ ap (λ (U : Table). U.instances) c.self-in-Pair.view_is in
    let zap_is : c.self-in-Pair.inside.zap ≡ T.zap = ap (λ (U : Table). U.zap) c.self-in-Pair.view_is in
    let s_is : c.stands-stands-in-Pair.result ≡ stands T.pairs (Pair k) =
    c.stands-stands-in-Pair.ensures ∙ ap (λ (U : Table). stands U.pairs (Pair k)) c.self-in-Pair.view_is in
    let found : test_answer T.zap T.instances (stands T.pairs (Pair k)) c.if-is_some.pair c.args.test ≡ Ok c.in_ok-tried-in-Pair.tried =
    sym (ap (λ (z : Bool). test_answer z T.instances (stands T.pairs (Pair k)) c.if-is_some.pair c.args.test) zap_is)
    ∙ sym (ap (λ (xs : List Instance). test_answer c.self-in-Pair.inside.zap xs (stands T.pairs (Pair k)) c.if-is_some.pair c.args.test) xs_is)
    ∙ sym (ap (λ (s : Stands). test_answer c.self-in-Pair.inside.zap c.deref-in-Pair.result.now s c.if-is_some.pair c.args.test) s_is)
    ∙ sym c.judge-in-Pair.ensures ∙ c.in_ok-tried-in-Pair.was in
    (judged_can T k c.if-is_some.pair c.args.test c.in_ok-tried-in-Pair.tried found).2
