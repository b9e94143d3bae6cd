use Rattle.std.proofs.lemmas.Result.{MatchResult-weaker}
use Rattle.pv_tree.specs.Units.{depth_limit}
use Rattle.pv_tree.proofs.Kept.{extends_then}
use Rattle.pv_decl.specs.NameTables.{type_map}
use Rattle.pv_decl.proofs.Tabled.{are_read}
use Rattle.pv_stmt_forms.proofs.OuterSteps.{part_found, part_none}
use Rattle.pv_stmt.proofs.external.read_up_to.Goals as goal

pub returns-clause-found : goal.returns-clause-found
returns-clause-found c =
    MatchResult-weaker c.read_external.result c.read_external.ensures.answer (λ r a. part_found c.args.types.now (type_map c.in_ok-names.names) c.type_names.new.into c.read_external.new.into c.args.t.now.tokens c.args.at c.args.to c.in_ok-names.ensures.tied (are_read c.args.types.now (type_map c.in_ok-names.names) c.type_names.new.into c.args.t.now.tokens depth_limit c.args.at c.args.to c.in_ok-names.ensures.tied c.in_ok-names.ensures.found c.in_ok-names.ensures.longest c.in_ok-names.ensures.none c.in_ok-names.ensures.elsewhere c.in_ok-names.ensures.outside) c.requires r a) (λ e h. h)

pub returns-clause-none : goal.returns-clause-none
returns-clause-none c = λ all.
    MatchResult-weaker c.read_external.result c.read_external.ensures.answer (λ r a. part_none c.args.types.now (type_map c.in_ok-names.names) c.type_names.new.into c.read_external.new.into c.args.t.now.tokens c.args.at c.args.to c.in_ok-names.ensures.tied (are_read c.args.types.now (type_map c.in_ok-names.names) c.type_names.new.into c.args.t.now.tokens depth_limit c.args.at c.args.to c.in_ok-names.ensures.tied c.in_ok-names.ensures.found c.in_ok-names.ensures.longest c.in_ok-names.ensures.none c.in_ok-names.ensures.elsewhere c.in_ok-names.ensures.outside) c.requires all r a) (λ e h. h)

pub returns-in_err-names-clause-keeps : goal.returns-in_err-names-clause-keeps
returns-in_err-names-clause-keeps c = c.type_names.ensures.keeps

pub returns-clause-keeps : goal.returns-clause-keeps
returns-clause-keeps c = extends_then c.args.into.now c.type_names.new.into c.read_external.new.into c.type_names.ensures.keeps c.read_external.ensures.keeps

pub read_external-requires : goal.read_external-requires
read_external-requires c = record { place = c.requires; tied = c.in_ok-names.ensures.tied }
