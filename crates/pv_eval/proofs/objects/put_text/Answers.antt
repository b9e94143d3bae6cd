use Rattle.std.proofs.Common.{All, None, sym, ap, ◌∙◌, subst}
use Rattle.pv_inst.specs.Table.{IsMadeIn}
use Rattle.pv_shadow.specs.declared.byte.Byte.{Byte}
use Rattle.pv_shadow.specs.Whole.{number_bytes}
use Rattle.pv_world.proofs.Literals.{plain_made}
use Rattle.pv_eval.proofs.Possible.{text_so}
use Rattle.pv_eval.proofs.objects.put_text.Goals as goal

pub put_characters-requires : goal.put_characters-requires
put_characters-requires c =
    let T = c.args.world.now.memory.table in
    subst (λ bs. All (λ (x : Byte). IsMadeIn T x.prov) bs) (sym (c.deref.ensures.value ∙ c.in_ok-bytes.ensures.bytes)) (plain_made T None 0 c.first.result.now)

pub returns : goal.returns
returns c = λ told.
    text_so c.args.unit.now c.args.o c.object-lasting.result _ c.object-lasting.ensures.object c.args.t.0 c.args.offset c.args.literal c.literal.result.now c.literal.ensures
    c.types.result.now c.in-Some.size c.deref.result.now c.args.world.now c.put_characters.new.world told
    c.types.ensures c.in-Some.ensures (c.deref.ensures.value ∙ c.in_ok-bytes.ensures.bytes ∙ ap (number_bytes None 0) c.first.ensures)
    (c.put_characters.ensures told)
