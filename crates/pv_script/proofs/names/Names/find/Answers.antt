use Rattle.std.proofs.Common.{◌≡◌, ◌<◌, ℕ, List, length, map, sym, ap, ◌∙◌, subst}
use Rattle.std.specs.Prelude.{slice_get}
use Rattle.pv_script.specs.Names.{name_at}
use Rattle.pv_script.proofs.Named.{bytes_of, known_text, named_once, same_any, differs}
use Rattle.pv_script.proofs.names.Names.find.Goals as goal

pub returns-in-Some-clause-found : goal.returns-in-Some-clause-found
returns-in-Some-clause-found c = sym (ap (λ ns. slice_get ns c.in-Some.index) c.self.view_is) ∙ (known_text c.self.inside.texts.keys c.args.text.now c.in-Some.index (sym c.in-Some.ensures.index)).1

pub returns-in-Some-clause-once : goal.returns-in-Some-clause-once
returns-in-Some-clause-once c =
    subst (λ (ns : List (List ℕ)). (i : ℕ) → i < length ns → name_at ns i ≡ c.args.text.now → i ≡ c.in-Some.index) c.self.view_is
    (named_once (map bytes_of c.self.inside.texts.keys) c.args.text.now c.in-Some.index c.self.invariant (known_text c.self.inside.texts.keys c.args.text.now c.in-Some.index (sym c.in-Some.ensures.index)).1)

pub returns-in-None-clause-none : goal.returns-in-None-clause-none
returns-in-None-clause-none c =
    subst (λ (ns : List (List ℕ)). (i : ℕ) → i < length ns → name_at ns i ≡ c.args.text.now → ⊥) c.self.view_is
    (λ i lt same. differs (map bytes_of c.self.inside.texts.keys) c.args.text.now i (sym (same_any c.args.text.now c.self.inside.texts.keys) ∙ sym c.in-None.ensures.found) lt same)
