-- A name more in the innermost scope, and an object or a function more or changed in the tables.
use Rattle.std.proofs.Common.{◌≡◌, ℕ, ◌+◌, ◌-◌, ◌<◌, nat_eq, cond, Bool, true, false, List, [], ◌∷◌, Some, None, IfSome, length, map, sym, ◌∙◌, ap, subst, arith}
use Rattle.std.proofs.lemmas.List.{length-map}
use Rattle.pv_types.specs.Ty.{Ty}
use Rattle.pv_types.specs.Known.{tree}
use Rattle.pv_typed.specs.declared.entries.Object.{Object}
use Rattle.pv_typed.specs.declared.entries.Function.{Function}
use Rattle.pv_typed.specs.Headed.{list_of}
use Rattle.pv_typed.specs.Tables.{Stored, whole_unit, nodes, object_in, function_in}
use Rattle.pv_typed.specs.TypedUnits.{TypedObject, TypedFunction, object_at, function_at}
use Rattle.pv_typed.specs.Entries.{with_object, with_object_at, with_function, with_function_at}
use Rattle.pv_check.specs.declared.scopes.Entry.{Entry}
use Rattle.pv_check.specs.declared.scopes.Entry.TheVariants as entry
use Rattle.pv_check.specs.Scopes.{find, innermost_scope, with_innermost, bind}
use Rattle.pv_check.specs.ScopeParts.{with_meaning}
use Rattle.pv_check.specs.Raw.{Raw, no_raw, with_name, raw_innermost, meaning_in, used_of}
use Rattle.pv_check.specs.Open.{state_of, EntryKnown, ScopeKnown, IsOpen, Goes}
use Rattle.pv_typed.specs.Known.{Each}
use Rattle.pv_typed.proofs.Each.{each_at}
use Rattle.pv_check.proofs.Opening.{open_goes, open_name, scopes_stay}
use Rattle.pv_check.proofs.Showing.{name_bound_shown}
use Rattle.pv_unit.specs.Redeclarations.{new_object, new_function, with_object_type, with_function_type}

-- ---- what the innermost scope has for a name is there

find_known : {V : Type 0} (P : V → Type 0) (es : List (ℕ × V)) (n : ℕ) → Each (λ (e : ℕ × V). P e.1) es → IfSome (find es n) P
find_known P [] n h = tt
find_known {V} P (e ∷ es) n h = at (nat_eq n e.0) h.0 (find_known P es n h.1)
  where
    at : (b : Bool) → P e.1 → IfSome (find es n) P → IfSome (cond b (Some e.1) (find es n)) P
    at true p k = p
    at false p k = k

pub inner_name_known : (m : Stored) (s : Raw) (n : ℕ) → IsOpen m s → IfSome (find (raw_innermost s.scopes).names n) (EntryKnown m)
inner_name_known m s n h =
    let some : 0 < length s.scopes = h.some in
    find_known (EntryKnown m) (raw_innermost s.scopes).names n (each_at (ScopeKnown m) no_raw s.scopes h.scopes (length s.scopes - 1) (omega (arith, some))).0

-- ---- a name more

pub open_named : (a b : Stored) (s t : Raw) (n : ℕ) (x : Entry) → IsOpen a s → Goes a b → EntryKnown b x → t ≡ with_name s n x → IsOpen b t
open_named a b s t n x h g k e = subst (λ r. IsOpen b r) (sym e) (open_name b s n x (open_goes a b s h g) k)

pub state_named : (texts : List (List ℕ)) (u : Bool) (a b : Stored) (s t : Raw) (n : ℕ) (x : Entry) → IsOpen a s → Goes a b → t ≡ with_name s n x
    → state_of texts u t b ≡ bind n (meaning_in b.known x) (record (state_of texts u s a) { unit = whole_unit b })
state_named texts u a b s t n x h g e =
    ap (λ r. state_of texts u r b) e
    ∙ ap (λ ss. record { scopes = ss; unit = whole_unit b; texts = texts; used = map used_of s.used; unevaluated = u })
    (name_bound_shown b.known s n x h.some
    ∙ ap (λ ss. with_innermost ss (record (innermost_scope ss) { names = with_meaning n (meaning_in b.known x) (innermost_scope ss).names })) (scopes_stay a b s h g))

-- the scopes are the same, and the tables have more
pub state_more : (texts : List (List ℕ)) (u : Bool) (a b : Stored) (s : Raw) → IsOpen a s → Goes a b → state_of texts u s b ≡ record (state_of texts u s a) { unit = whole_unit b }
state_more texts u a b s h g = ap (λ ss. record { scopes = ss; unit = whole_unit b; texts = texts; used = map used_of s.used; unevaluated = u }) (scopes_stay a b s h g)

-- ---- an object more, a function more

pub object_named : (texts : List (List ℕ)) (u : Bool) (a b : Stored) (s t : Raw) (n line o known : ℕ) (ty : Ty) (lasting : Bool) → IsOpen a s → Goes a b
    → known ≡ n + 2 → whole_unit b ≡ with_object (whole_unit a) (record { name = known; t = ty; line = line; lasting = lasting; braced = false; inits = [] })
    → o ≡ length a.objects → t ≡ with_name s n (entry.Object o)
    → state_of texts u t b ≡ new_object n line ty lasting (state_of texts u s a)
object_named texts u a b s t n line o known ty lasting h g name more number e =
    let whole_is = more ∙ ap (λ k. with_object (whole_unit a) (record { name = k; t = ty; line = line; lasting = lasting; braced = false; inits = [] })) name in
    let at : o ≡ length (whole_unit a).objects = number ∙ sym (length-map a.objects (object_in a.known (nodes a))) in
    state_named texts u a b s t n (entry.Object o) h g e
    ∙ ap (λ w. bind n (meaning_in b.known (entry.Object o)) (record (state_of texts u s a) { unit = w })) whole_is
    ∙ ap (λ k. bind n (meaning_in b.known (entry.Object k)) (record (state_of texts u s a) { unit = with_object (whole_unit a) (record { name = n + 2; t = ty; line = line; lasting = lasting; braced = false; inits = [] }) })) at

pub function_named : (texts : List (List ℕ)) (u : Bool) (a b : Stored) (s t : Raw) (n line f known : ℕ) (ty : Ty) → IsOpen a s → Goes a b
    → known ≡ n + 2 → whole_unit b ≡ with_function (whole_unit a) (record { name = known; t = ty; line = line; params = []; body = None })
    → f ≡ length a.functions → t ≡ with_name s n (entry.Function f)
    → state_of texts u t b ≡ new_function n line ty (state_of texts u s a)
function_named texts u a b s t n line f known ty h g name more number e =
    let whole_is = more ∙ ap (λ k. with_function (whole_unit a) (record { name = k; t = ty; line = line; params = []; body = None })) name in
    let at : f ≡ length (whole_unit a).functions = number ∙ sym (length-map a.functions (function_in a.known (nodes a))) in
    state_named texts u a b s t n (entry.Function f) h g e
    ∙ ap (λ w. bind n (meaning_in b.known (entry.Function f)) (record (state_of texts u s a) { unit = w })) whole_is
    ∙ ap (λ k. bind n (meaning_in b.known (entry.Function k)) (record (state_of texts u s a) { unit = with_function (whole_unit a) (record { name = n + 2; t = ty; line = line; params = []; body = None }) })) at

-- ---- another type

-- the object as it is kept, with another type
pub object_retyped : (texts : List (List ℕ)) (u : Bool) (a b : Stored) (s : Raw) (o : ℕ) (old : Object) (ty : ℕ) → IsOpen a s → Goes a b
    → object_at (whole_unit a) o ≡ object_in a.known (nodes a) (old, list_of a.objects o)
    → whole_unit b ≡ with_object_at (whole_unit a) o (object_in a.known (nodes a) (record old { t = record { 0 = ty } }, []))
    → state_of texts u s b ≡ with_object_type o (tree a.known ty) (state_of texts u s a)
object_retyped texts u a b s o old ty h g was is =
    state_more texts u a b s h g
    ∙ ap (λ w. record (state_of texts u s a) { unit = w })
    (is ∙ ap (λ (x : TypedObject). with_object_at (whole_unit a) o (record x { t = tree a.known ty; inits = [] })) (sym was))

pub function_retyped : (texts : List (List ℕ)) (u : Bool) (a b : Stored) (s : Raw) (f : ℕ) (old : Function) (ty : ℕ) → IsOpen a s → Goes a b
    → function_at (whole_unit a) f ≡ function_in a.known (nodes a) (old, list_of a.functions f)
    → whole_unit b ≡ with_function_at (whole_unit a) f (function_in a.known (nodes a) (record old { t = record { 0 = ty } }, []))
    → state_of texts u s b ≡ with_function_type f (tree a.known ty) (state_of texts u s a)
function_retyped texts u a b s f old ty h g was is =
    state_more texts u a b s h g
    ∙ ap (λ w. record (state_of texts u s a) { unit = w })
    (is ∙ ap (λ (x : TypedFunction). with_function_at (whole_unit a) f (record x { t = tree a.known ty; params = [] })) (sym was))
