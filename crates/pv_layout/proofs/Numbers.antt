-- Members of structures and unions by their numbers and by their names.
use Rattle.std.proofs.Common.{◌≡◌, ℕ, zero, suc, ◌<◌, ◌==◌, Bool, true, false, cond, List, [], ◌∷◌, Some, None, length, get_or, slice_get, option_map, refl, sym, ap, arith}
use Rattle.std.specs.declared.option.Option.{Option}
use Rattle.pv_types.specs.declared.terms.Member.{Member}
use Rattle.pv_types.specs.declared.terms.TypeId.{TypeId}
use Rattle.pv_types.specs.Known.{Known}
use Rattle.pv_types.specs.Numbers.{number_of}
use Rattle.pv_types.specs.Layouts.{Placed}
use Rattle.pv_types.specs.Places.{struct_places, union_places, starts}
use Rattle.pv_types.proofs.Halves.{starts-length}
use Rattle.pv_layout.specs.Places.{place_of, place_number, member_at}

-- where a member begins that is one of so many
pub numbered_at : (m : Known) (ms : List Member) (o k start : ℕ) (d : Member) → slice_get (starts (struct_places m o ms)) k ≡ Some start → Some (start, (get_or ms k d).t) ≡ place_number k (struct_places m o ms)
numbered_at m [] o k start d e = cc
numbered_at m (x ∷ xs) o zero start d e = ap (option_map (λ s. (s, x.t))) (sym e)
numbered_at m (x ∷ xs) o (suc k) start d e = numbered_at m xs _ k start d e

there : (xs : List ℕ) (k v : ℕ) → slice_get xs k ≡ Some v → k < length xs
there [] k v e = cc
there (x ∷ xs) zero v e = omega arith
there (x ∷ xs) (suc k) v e = let more = there xs k v e in omega (arith, more)

pub numbered_within : (m : Known) (ms : List Member) (o k start : ℕ) → slice_get (starts (struct_places m o ms)) k ≡ Some start → k < length ms
numbered_within m ms o k start e = let size = starts-length m ms o in let lt = there (starts (struct_places m o ms)) k start e in omega (arith, size, lt)

abbrev pub at_number : Option ℕ → List (Placed Member) → Option (ℕ × TypeId)
at_number None ps = None
at_number (Some k) ps = place_number k ps

named_step : (b : Bool) (n : Option ℕ) (p : Placed Member) (ps : List (Placed Member)) (r : Option (ℕ × TypeId)) → r ≡ at_number n ps → cond b (Some (p.offset, p.member.t)) r ≡ at_number (cond b (Some 0) (option_map suc n)) (p ∷ ps)
named_step true n p ps r e = refl
named_step false None p ps r e = e
named_step false (Some k) p ps r e = e

-- the member of a name is the one of the name's number
pub struct_named : (m : Known) (name : ℕ) (ms : List Member) (o : ℕ) → place_of name (struct_places m o ms) ≡ at_number (number_of name ms) (struct_places m o ms)
struct_named m name [] o = refl
struct_named m name (x ∷ xs) o = named_step (x.name == name) (number_of name xs) _ (struct_places m _ xs) _ (struct_named m name xs _)

abbrev pub at_beginning : Option ℕ → List Member → Option (ℕ × TypeId)
at_beginning None ms = None
at_beginning (Some k) ms = Some (0, (member_at ms k).t)

beginning_step : (b : Bool) (n : Option ℕ) (x : Member) (xs : List Member) (r : Option (ℕ × TypeId)) → r ≡ at_beginning n xs → cond b (Some (0, x.t)) r ≡ at_beginning (cond b (Some 0) (option_map suc n)) (x ∷ xs)
beginning_step true n x xs r e = refl
beginning_step false None x xs r e = e
beginning_step false (Some k) x xs r e = e

pub union_named : (m : Known) (name : ℕ) (ms : List Member) → place_of name (union_places m ms) ≡ at_beginning (number_of name ms) ms
union_named m name [] = refl
union_named m name (x ∷ xs) = beginning_step (x.name == name) (number_of name xs) x xs _ (union_named m name xs)
