use Rattle.std.proofs.Common.{◌≡◌, ap, ◌∙◌}
use Rattle.std.specs.Prelude.{◌&&◌, ◌||◌, not}
use Rattle.pv_types.specs.Known.{tree}
use Rattle.pv_types.specs.Ty.{Ty}
use Rattle.pv_types.specs.Compatible.{are_compatible}
use Rattle.pv_typed.specs.Tables.{whole_unit}
use Rattle.pv_typed.specs.TypedUnits.{WholeUnit, name_at}
use Rattle.pv_library.specs.LibraryNames.{library_named}
use Rattle.pv_check.specs.PrintfFormats.{is_printf}
use Rattle.pv_typed.specs.Mains.{named_main}
use Rattle.pv_check.proofs.Opening.{then_goes}
use Rattle.pv_unit.specs.MainType.{main_type}
use Rattle.pv_unit.specs.EntityParts.{agrees}
use Rattle.pv_unit.specs.Redeclarations.{unit_name, is_variadic}
use Rattle.pv_unit.proofs.function_names.may_have.Goals as goal

pub returns-clause-answer : goal.returns-clause-answer
returns-clause-answer c =
    let a = c.args.into.now in
    let b = c.main_allows.new.into in
    let e = c.agrees.new.into in
    let n = unit_name c.args.name in
    let t = c.args.t.0 in
    let whole_b : whole_unit b ≡ whole_unit a = c.in_ok-main.ensures.whole in
    let whole_e : whole_unit e ≡ whole_unit a = c.in_ok-library.ensures.whole ∙ whole_b in
    let tree_b : tree b.known t ≡ tree a.known t = c.in_ok-main.ensures.goes.grown.types t c.requires.known in
    let tree_e : tree e.known t ≡ tree a.known t = (then_goes a b e c.in_ok-main.ensures.goes c.in_ok-library.ensures.goes).grown.types t c.requires.known in
    c.all_three.ensures
    ∙ ap (λ x. x && c.in_ok-library.library && c.variadic_allows-variadic.result) c.in_ok-main.ensures.answer
    ∙ ap (λ x. (not (named_main a.names n) || are_compatible (tree a.known t) main_type) && x && c.variadic_allows-variadic.result)
    (c.in_ok-library.ensures.answer ∙ ap (λ (u : WholeUnit). agrees (library_named (name_at u n)) (tree b.known t)) whole_b ∙ ap (agrees (library_named (name_at (whole_unit a) n))) tree_b)
    ∙ ap (λ x. (not (named_main a.names n) || are_compatible (tree a.known t) main_type) && agrees (library_named (name_at (whole_unit a) n)) (tree a.known t) && x)
    (c.variadic_allows-variadic.ensures ∙ ap (λ (u : WholeUnit). not (is_variadic (tree e.known t)) || is_printf u.names n) whole_e ∙ ap (λ (y : Ty). not (is_variadic y) || is_printf a.names n) tree_e)
