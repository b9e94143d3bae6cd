use Rattle.std.proofs.Common.{List, ℕ, ◌-◌, length, take, drop, sym, ap, ◌∙◌, arith}
use Rattle.std.specs.Prelude.{is_some}
use Rattle.pv_serve.specs.Words.{texts}
use Rattle.pv_state.specs.Words.{places_in}
use Rattle.pv_state.proofs.PlaceLemmas.{some_first, none_first}
use Rattle.pv_state.proofs.WordLemmas.{one_more, none_left}
use Rattle.pv_state.proofs.words.+are_places.Goals as goal

pub returns-in-empty : goal.returns-in-empty
returns-in-empty t c = ap (λ (ts : List (List ℕ)). is_some (places_in c.args.bound ts)) (sym (none_left c.args.words.now (omega arith)))

pub returns-in-Some : goal.returns-in-Some
returns-in-Some t c =
    some_first c.args.bound c.as_str.result.now (texts (take (length c.args.words.now - 1) (drop 1 c.args.words.now))) _ _ c.in-Some.ensures.place c.are_places.ensures
    ∙ ap (λ (ts : List (List ℕ)). is_some (places_in c.args.bound ts)) (sym (one_more c.args.words.now _ _ c.in-len1-up.len_at_least c.word-item.is c.as_str.ensures.value))

pub returns-in-None : goal.returns-in-None
returns-in-None t c =
    none_first c.args.bound c.as_str.result.now (texts (take (length c.args.words.now - 1) (drop 1 c.args.words.now))) c.in-None.ensures.place
    ∙ ap (λ (ts : List (List ℕ)). is_some (places_in c.args.bound ts)) (sym (one_more c.args.words.now _ _ c.in-len1-up.len_at_least c.word-item.is c.as_str.ensures.value))
