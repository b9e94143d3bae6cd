use Rattle.std.proofs.Common.{Some, rules, refl, ap, ◌∙◌}
use Rattle.std.proofs.lemmas.Int.{to_z-of_z}
use Rattle.std.specs.Int.{w32}
use Rattle.pv_token.specs.Said.{Character}
use Rattle.pv_token.proofs.Growing.{adds_plain, adds_name, adds_text}
use Rattle.pv_token.proofs.token_table.keep.Goals as goal

pub returns-in-Keyword-clause-kept : goal.returns-in-Keyword-clause-kept
returns-in-Keyword-clause-kept c = rw c.in-Keyword.is (λ tokens start line. adds_plain _ _ _ _ _ _ (λ ns xs. refl) (λ ns. refl) refl refl refl)

pub returns-in-Punctuator-clause-kept : goal.returns-in-Punctuator-clause-kept
returns-in-Punctuator-clause-kept c = rw c.in-Punctuator.is (λ tokens start line. adds_plain _ _ _ _ _ _ (λ ns xs. refl) (λ ns. refl) refl refl refl)

pub returns-in-Character-clause-kept : goal.returns-in-Character-clause-kept
returns-in-Character-clause-kept c = rw c.in-Character.is (λ tokens start line.
    adds_plain _ _ _ _ _ _ (λ ns xs. ap (λ z. Some (Character z)) (to_z-of_z w32 c.as_char.result (search (rules, c.as_char.type_inv)) ∙ c.as_char.ensures)) (λ ns. refl) refl refl refl)

pub returns-in-Number-clause-kept : goal.returns-in-Number-clause-kept
returns-in-Number-clause-kept c = rw c.in-Number.is (λ tokens start line. adds_plain _ _ _ _ _ _ (λ ns xs. refl) (λ ns. refl) refl refl refl)

pub returns-in_ok-intern-in-Name-clause-kept : goal.returns-in_ok-intern-in-Name-clause-kept
returns-in_ok-intern-in-Name-clause-kept c = rw c.in-Name.is (λ tokens start line.
    adds_name _ _ _ c.in_ok-intern-in-Name.field-0 c.in-Name.text.now _ _ c.in_ok-intern-in-Name.ensures.keys c.in_ok-intern-in-Name.ensures.number refl)

pub returns-in_ok-keep_text-in-Text-clause-kept : goal.returns-in_ok-keep_text-in-Text-clause-kept
returns-in_ok-keep_text-in-Text-clause-kept c = rw c.in-Text.is (λ tokens start line.
    adds_text _ _ _ c.in_ok-keep_text-in-Text.field-0 c.in-Text.bytes.items _ _ c.in_ok-keep_text-in-Text.ensures.items c.in_ok-keep_text-in-Text.ensures.number refl)
