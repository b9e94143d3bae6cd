use Rattle.std.proofs.Common.{◌≡◌, ℕ, List, false, take, Some, None, Bor, sym, ap, ◌∙◌}
use Rattle.std.specs.Option.{option_map}
use Rattle.pv_lex.specs.Markers.{behind_name}
use Rattle.pv_where.proofs.Ending.{closed_none, closed_some}
use Rattle.pv_where.proofs.spots.file_name.Goals as goal

pub returns-in-None : goal.returns-in-None
returns-in-None c =
    let none : behind_name false c.behind_quote-name.result.now ≡ None = sym c.behind_name.ensures ∙ ap (option_map (λ (r : Bor (List ℕ)). r.now)) c.in-None.is in
    rw (← c.behind_quote-name.ensures) (closed_none c.behind_quote-name.result.now _ none)

pub returns-in-Some : goal.returns-in-Some
returns-in-Some c =
    let some : behind_name false c.behind_quote-name.result.now ≡ Some c.in-Some.after.now = sym c.behind_name.ensures ∙ ap (option_map (λ (r : Bor (List ℕ)). r.now)) c.in-Some.is in
    rw (← c.behind_quote-name.ensures) (c.front.ensures ∙ ap (λ (n : ℕ). take n c.behind_quote-name.result.now) c.saturating_sub.ensures ∙ closed_some c.behind_quote-name.result.now c.in-Some.after.now _ some)
