-- A table of types with one more list of parameters.
use Rattle.std.proofs.Common.{◌≡◌, ℕ, ◌<◌, length, ap, arith}
use Rattle.pv_types.specs.Known.{Known, tree}
use Rattle.pv_types.specs.Formed.{ExtendsLists, completions, parameters_at}
use Rattle.pv_check.specs.Growing.{Grows}
use Rattle.pv_check.proofs.Growth.{more_lists, env_more}

pub grows_lists : (a b : Known) → ExtendsLists a b → ((i : ℕ) → i < length a.terms → tree b i ≡ tree a i) → completions b ≡ completions a → ((p : ℕ) → p < length a.lists → parameters_at b p ≡ parameters_at a p) → Grows a b
grows_lists a b e stands same parameters =
    let more = more_lists a b e stands same parameters in
    let terms : length b.terms ≡ length a.terms = ap (λ (k : Known). length k.terms) e.1 in
    record {
      more = more;
      sized = λ all. record {
        types = λ i lt. let here : i < length a.terms = omega (arith, lt, terms) in rw (env_more a b more, stands i here) (all.types i here);
        tags = λ n. rw (env_more a b more) (all.tags n);
      };
    }
