use Rattle.std.proofs.Common.{ℕ, List, length, sym, ap, ◌∙◌}
use Rattle.std.proofs.lemmas.Bool.{ne_eqb}
use Rattle.pv_script.specs.Names.{name_at as text_of}
use Rattle.pv_eval.proofs.objects.is_heap_name.Goals as goal

pub returns-then-word-ne5-clause-value : goal.returns-then-word-ne5-clause-value
returns-then-word-ne5-clause-value c =
    sym (ne_eqb c.args.name 1 (λ same.
    c.if-word-ne5.true (ap length (c.text-word.ensures ∙ ap (λ (ns : List (List ℕ)). text_of ns c.args.name) c.names.ensures
    ∙ ap (text_of c.args.unit.now.names) same ∙ c.requires.runnable.heap))))

pub returns-then-word-ne5-clause-other : goal.returns-then-word-ne5-clause-other
returns-then-word-ne5-clause-other c = λ no same.
    c.if-word-ne5.true (ap length (c.text-word.ensures ∙ ap (λ (ns : List (List ℕ)). text_of ns c.args.name) c.names.ensures ∙ same))
