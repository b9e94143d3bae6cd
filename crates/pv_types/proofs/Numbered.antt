-- Members by their names.
use Rattle.std.proofs.Common.{◌≡◌, ◌≢◌, ℕ, zero, suc, ◌+◌, ◌<◌, ◌==◌, Bool, true, false, cond, List, [], ◌∷◌, Some, None, IfSome, length, get_or, option_map, sym, ◌∙◌, ap, arith, eq-eqb, ne_eqb}
use Rattle.std.specs.declared.option.Option.{Option}
use Rattle.pv_types.specs.declared.terms.Member.{Member}
use Rattle.pv_types.specs.Ty.{Ty}
use Rattle.pv_types.specs.Layouts.{Entry}
use Rattle.pv_types.specs.Known.{Known, DoneTag, trees, env}
use Rattle.pv_types.specs.Formed.{AreLaid, IsBuilt, IsNewName, NamesDiffer, members_in}
use Rattle.pv_types.specs.Numbers.{number_of}
use Rattle.pv_types.proofs.Walks.{either_list}

differ_from : (k : ℕ) (ts : List Ty) (es : List Entry) (ds : List DoneTag) (n : ℕ) → AreLaid k ts es ds → NamesDiffer (members_in ds n)
differ_from k ts es [] n h = tt
differ_from k ts es (d ∷ ds) n h = either_list NamesDiffer (d.tag == n) d.members (members_in ds n) h.0.differ (differ_from k ts es ds n h.1)

-- the members of a tag, if it has any, have names that differ
pub all_differ : (m : Known) (n : ℕ) → IsBuilt m → NamesDiffer (members_in m.done n)
all_differ m n built = differ_from (length m.terms) (trees m) (env m) m.done n built.laid

new_at : (xs : List Member) (k name : ℕ) (d : Member) → k < length xs → IsNewName name xs → (get_or xs k d).name ≢ name
new_at [] k name d lt h e = absurd (omega arith)
new_at (x ∷ xs) zero name d lt h e = h.0 e
new_at (x ∷ xs) (suc k) name d lt h e = new_at xs k name d (omega (arith, lt)) h.1 e

-- a member that has the name is the one of the name
pub named_at : (ms : List Member) (k name : ℕ) (d : Member) → k < length ms → NamesDiffer ms → (get_or ms k d).name ≡ name → number_of name ms ≡ Some k
named_at [] k name d lt h e = absurd (omega arith)
named_at (x ∷ xs) zero name d lt h e = ap (λ b. cond b (Some 0) (option_map suc (number_of name xs))) (eq-eqb x.name name e)
named_at (x ∷ xs) (suc k) name d lt h e =
    ap (λ b. cond b (Some 0) (option_map suc (number_of name xs))) (ne_eqb x.name name (λ same. new_at xs k x.name d (omega (arith, lt)) h.0 (e ∙ sym same)))
    ∙ ap (option_map suc) (named_at xs k name d (omega (arith, lt)) h.1 e)

below_step : (b : Bool) (o : Option ℕ) (n : ℕ) → IfSome o (λ k. k < n) → IfSome (cond b (Some 0) (option_map suc o)) (λ k. k < suc n)
below_step true o n h = omega arith
below_step false None n h = tt
below_step false (Some k) n h = omega (arith, h)

-- it is one of the members
pub named_below : (name : ℕ) (ms : List Member) → IfSome (number_of name ms) (λ k. k < length ms)
named_below name [] = tt
named_below name (x ∷ xs) = below_step (x.name == name) (number_of name xs) (length xs) (named_below name xs)

-- the members from a place on have their numbers from this place on
abbrev pub numbers_from : ℕ → ℕ → List Member → Option ℕ
numbers_from i name ms = option_map (λ k. i + k) (number_of name ms)
