-- Parameters, one by one, and the list that they make.
use Rattle.std.proofs.Common.{◌≡◌, ℕ, zero, suc, ◌-◌, ◌+◌, ◌<◌, ◌≤◌, Bool, true, false, not, Some, None, is_some, IfSome, List, [], ◌∷◌, ◌++◌, Option, length, take, map, refl, sym, ap, subst, arith, ◌∙◌}
use Rattle.std.specs.Prelude.{if◌then◌else◌}
use Rattle.std.proofs.lemmas.List.{take-map, length-map, length-take-le}
use Rattle.pv_types.specs.declared.terms.TypeId.{TypeId}
use Rattle.pv_types.specs.Adjusted.{is_adjusted}
use Rattle.pv_types.specs.Known.{Known, tree}
use Rattle.pv_types.specs.Formed.{parameters_at}
use Rattle.pv_types.specs.Ty.{Ty, Tys}
use Rattle.pv_typed.specs.Entries.{with_object}
use Rattle.pv_typed.specs.Known.{Each}
use Rattle.pv_typed.specs.Tables.{Stored, whole_unit, object_in, nodes}
use Rattle.pv_typed.specs.TypedUnits.{WholeUnit}
use Rattle.pv_typed.proofs.Each.{each_weaker, map_same}
use Rattle.pv_check.specs.declared.declarators.Steps.{Steps}
use Rattle.pv_check.specs.declared.derivations.Step.TheVariants.{Function}
use Rattle.pv_check.specs.declared.parameters.Parameter.{Parameter}
use Rattle.pv_check.specs.declared.parameters.Signature.{Signature}
use Rattle.pv_check.specs.declared.scopes.Entry.{Entry}
use Rattle.pv_check.specs.declared.scopes.Entry.TheVariants as entry
use Rattle.pv_check.specs.Declarators.{parameter_shown, parameters_shown, signature_shown, signature_if, steps_shown, ParameterKnown, SignatureKnown}
use Rattle.pv_check.specs.Derivations.{Parameter as WholeParameter, Signature as WholeSignature, Steps as WholeSteps, ByFunction, Derivation, with_parameter, with_object as with_one, proper_parameters, parameter_types, nearest_parameters}
use Rattle.pv_check.specs.Open.{state_of, IsOpen, Goes, EntryKnown, ScopeKnown}
use Rattle.pv_check.specs.Raw.{Raw, RawScope, raw_of, raw_innermost, with_name, used_of, scope_shown, scopes_shown, meaning_in, meaning_if}
use Rattle.pv_check.specs.RowParts.{by_function}
use Rattle.pv_check.specs.State.{State, After, Scope, ObjectName, give}
use Rattle.pv_check.specs.Scopes.{bind, find, innermost_scope, behind_scope, with_scopes}
use Rattle.pv_typed.specs.Constants.{and_then}
use Rattle.pv_check.specs.Stepping.{steps_in, AreSteps}
use Rattle.pv_check.proofs.Opening.{open_name, state_stays, scope_stays, shown_stays}
use Rattle.pv_check.proofs.Showing.{inner_name_shown, innermost_shown, name_bound_shown}
use Rattle.pv_check.proofs.Stepped.{steps_append, steps_stay}

-- ---- a name more in the innermost scope

some_meaning : (m : Known) (o : Option Entry) → is_some (meaning_if m o) ≡ is_some o
some_meaning m None = refl
some_meaning m (Some x) = refl

pub has_name : (texts : List (List ℕ)) (u : Bool) (m : Stored) (s : Raw) (n : ℕ) → IsOpen m s
    → is_some (find (innermost_scope (state_of texts u s m).scopes).names n) ≡ is_some (find (raw_innermost s.scopes).names n)
has_name texts u m s n h = ap is_some (inner_name_shown m.known s.scopes n h.some) ∙ some_meaning m.known (find (raw_innermost s.scopes).names n)

-- in tables with the same types
pub state_named : (texts : List (List ℕ)) (u : Bool) (a b : Stored) (s t : Raw) (n : ℕ) (x : Entry) (w : WholeUnit) → IsOpen a s → t ≡ with_name s n x → b.known ≡ a.known → whole_unit b ≡ w
    → state_of texts u t b ≡ record (bind n (meaning_in a.known x) (state_of texts u s a)) { unit = w }
state_named texts u a b s t n x w h e same made =
    ap (λ r. state_of texts u r b) e
    ∙ ap (λ (m : Known). record { scopes = scopes_shown m (with_name s n x).scopes; unit = whole_unit b; texts = texts; used = map used_of s.used; unevaluated = u }) same
    ∙ ap (λ ss. record { scopes = ss; unit = whole_unit b; texts = texts; used = map used_of s.used; unevaluated = u }) (name_bound_shown a.known s n x h.some)
    ∙ ap (λ (v : WholeUnit). record (bind n (meaning_in a.known x) (state_of texts u s a)) { unit = v }) made

pub open_named : (b : Stored) (s t : Raw) (n : ℕ) (x : Entry) → IsOpen b s → EntryKnown b x → t ≡ with_name s n x → IsOpen b t
open_named b s t n x h k e = subst (λ r. IsOpen b r) (sym e) (open_name b s n x h k)

module _ (texts : List (List ℕ)) (u : Bool) (a b : Stored) (s t : Raw) (n line : ℕ) (id : TypeId) (ps : List WholeParameter) (o : ℕ) (h : IsOpen a s) (number : o ≡ length a.objects) where
  abbrev start : State
  start = state_of texts u s a

  abbrev ty : Ty
  ty = tree a.known id.0

  abbrev declared : Bool → ℕ → Option (After (List WholeParameter))
  declared has k =
      and_then (if has then None else Some (bind n (ObjectName k) start)) (λ (x : State).
      give (Some (ps ++ (record { t = ty; name = Some n; object = Some k } ∷ []))) (with_one (Some (n, line)) ty x))

  count : length (whole_unit a).objects ≡ o
  count = length-map a.objects (object_in a.known (nodes a)) ∙ sym number

  pub name_is_there : false ≡ not (is_some (find (raw_innermost s.scopes).names n)) → None ≡ with_parameter ps (Some (n, line)) start ty
  name_is_there miss = here (is_some (find (raw_innermost s.scopes).names n)) miss ∙ ap (λ has. declared has (length (whole_unit a).objects)) (sym (has_name texts u a s n h))
    where
      here : (b : Bool) → false ≡ not b → None ≡ declared b (length (whole_unit a).objects)
      here true e = refl
      here false e = absurd cc

  pub name_declared : true ≡ not (is_some (find (raw_innermost s.scopes).names n)) → t ≡ with_name s n (entry.Object o) → b.known ≡ a.known
      → whole_unit b ≡ with_object (whole_unit a) (record { name = n + 2; t = ty; line = line; lasting = false; braced = false; inits = [] })
      → Some (record { value = ps ++ (record { t = tree b.known id.0; name = Some n; object = Some o } ∷ []); state = state_of texts u t b }) ≡ with_parameter ps (Some (n, line)) start ty
  name_declared fresh e same made =
      ap (λ (v : Ty). Some (record { value = ps ++ (record { t = v; name = Some n; object = Some o } ∷ []); state = state_of texts u t b })) (ap (λ (m : Known). tree m id.0) same)
      ∙ ap (λ (x : State). Some (record { value = ps ++ (record { t = ty; name = Some n; object = Some o } ∷ []); state = x })) (state_named texts u a b s t n (entry.Object o) _ h e same made)
      ∙ here (is_some (find (raw_innermost s.scopes).names n)) fresh
      ∙ ap (declared (is_some (find (raw_innermost s.scopes).names n))) (sym count)
      ∙ ap (λ has. declared has (length (whole_unit a).objects)) (sym (has_name texts u a s n h))
    where
      here : (b : Bool) → true ≡ not b → declared false o ≡ declared b o
      here true e = absurd cc
      here false e = refl

-- ---- a parameter, of the type that its declarator makes

module _ (texts : List (List ℕ)) (u : Bool) (a b : Stored) (s : Raw) (ps : List WholeParameter) (t : TypeId) (o : Option Ty) (h : IsOpen a s) (g : Goes a b) (same : whole_unit b ≡ whole_unit a) (is : Some (tree b.known t.0) ≡ o) where
  pub unnamed_after : Some (record { value = ps ++ (record { t = tree b.known t.0; name = None; object = None } ∷ []); state = state_of texts u s b }) ≡ and_then o (with_parameter ps None (state_of texts u s a))
  unnamed_after =
      ap (λ (z : State). Some (record { value = ps ++ (record { t = tree b.known t.0; name = None; object = None } ∷ []); state = z })) (state_stays texts u a b s h g same)
      ∙ ap (λ x. and_then x (with_parameter ps None (state_of texts u s a))) is

  pub named_after : (k : Option (ℕ × ℕ)) → with_parameter ps k (state_of texts u s b) (tree b.known t.0) ≡ and_then o (with_parameter ps k (state_of texts u s a))
  named_after k =
      ap (λ (z : State). with_parameter ps k z (tree b.known t.0)) (state_stays texts u a b s h g same)
      ∙ ap (λ x. and_then x (with_parameter ps k (state_of texts u s a))) is

-- ---- a list of parameters

parameter_stays : (a b : Stored) → Goes a b → (p : Parameter) → ParameterKnown a p → ParameterKnown b p
parameter_stays a b g p h =
    let more : length a.known.terms ≤ length b.known.terms = g.grown.terms in
    let here : p.t.0 < length a.known.terms = h.0 in
    (omega (arith, more, here), object p.object h.1, ap is_adjusted (g.grown.types p.t.0 here) ∙ h.2)
  where
    object : (o : Option ℕ) → IfSome o (λ k. k < length a.objects) → IfSome o (λ k. k < length b.objects)
    object None k = tt
    object (Some i) k = let more : length a.objects ≤ length b.objects = g.grown.objects in omega (arith, more, k)

pub parameters_known : (a b : Stored) (ps : List Parameter) → Goes a b → Each (ParameterKnown a) ps → Each (ParameterKnown b) ps
parameters_known a b ps g h = each_weaker (ParameterKnown a) (ParameterKnown b) (λ p k. parameter_stays a b g p k) ps h

pub parameters_stay : (a b : Stored) (ps : List Parameter) → Goes a b → Each (ParameterKnown a) ps → parameters_shown b.known ps ≡ parameters_shown a.known ps
parameters_stay a b ps g h =
    map_same (parameter_shown b.known) (parameter_shown a.known) (ParameterKnown a)
    (λ (p : Parameter) k. ap (λ (t : Ty). record { t = t; name = p.name; object = p.object }) (g.grown.types p.t.0 k.0)) ps h

-- ---- the list next to a name, and its scope

pub signature_stays : (a b : Stored) (g : Signature) → Goes a b → SignatureKnown a g → signature_shown b.known g ≡ signature_shown a.known g
signature_stays a b g goes h =
    ap (λ ps. record { parameters = ps; variadic = g.variadic; scope = scope_shown b.known (raw_of g.scope) }) (parameters_stay a b g.parameters.items goes h.0)
    ∙ ap (λ s. record { parameters = parameters_shown a.known g.parameters.items; variadic = g.variadic; scope = s }) (shown_stays a b goes (raw_of g.scope) h.1)

pub signature_known : (a b : Stored) (g : Signature) → Goes a b → SignatureKnown a g → SignatureKnown b g
signature_known a b g goes h = (parameters_known a b g.parameters.items goes h.0, scope_stays a b goes (raw_of g.scope) h.1)

pub if_stays : (a b : Stored) (o : Option Signature) → Goes a b → IfSome o (SignatureKnown a) → signature_if b.known o ≡ signature_if a.known o
if_stays a b None goes h = refl
if_stays a b (Some g) goes h = ap Some (signature_stays a b g goes h)

pub if_known : (a b : Stored) (o : Option Signature) → Goes a b → IfSome o (SignatureKnown a) → IfSome o (SignatureKnown b)
if_known a b None goes h = tt
if_known a b (Some g) goes h = signature_known a b g goes h

-- the scopes without the innermost one
left_shown : (m : Known) (ss : List RawScope) → scopes_shown m (take (length ss - 1) ss) ≡ take (length (scopes_shown m ss) - 1) (scopes_shown m ss)
left_shown m ss =
    sym (take-map (scope_shown m) (length ss - 1) ss)
    ∙ ap (λ k. take (k - 1) (scopes_shown m ss)) (sym (length-map ss (scope_shown m)))

each_take : {A : Type 0} (P : A → Type 0) (n : ℕ) (xs : List A) → Each P xs → Each P (take n xs)
each_take P zero xs h = tt
each_take P (suc n) [] h = tt
each_take P (suc n) (x ∷ xs) h = (h.0, each_take P n xs h.1)

pub open_left : (m : Stored) (s t : Raw) → IsOpen m s → 1 < length s.scopes → t ≡ record s { scopes = take (length s.scopes - 1) s.scopes } → IsOpen m t
open_left m s t h deep e =
    let k : length (take (length s.scopes - 1) s.scopes) ≡ length s.scopes - 1 = length-take-le (length s.scopes - 1) s.scopes (omega arith) in
    let left : IsOpen m (record s { scopes = take (length s.scopes - 1) s.scopes }) = record {
      known = h.known;
      sized = h.sized;
      some = omega (arith, k, deep);
      scopes = each_take (ScopeKnown m) (length s.scopes - 1) s.scopes h.scopes;
    } in
    subst (λ r. IsOpen m r) (sym e) left

pub none_proper : (v : Bool) (x : WholeSteps) (ps : List WholeParameter) (s : State) → None ≡ proper_parameters v ps → None ≡ by_function v x (record { value = ps; state = s })
none_proper v x ps s e = ap (λ (o : Option (List WholeParameter)). and_then (and_then o (λ qs. give (Some (record { parameters = qs; variadic = v; scope = innermost_scope s.scopes })) (behind_scope s))) (λ (g : After WholeSignature). give (Some (record { list = x.list ++ (ByFunction (parameter_types g.value.parameters) g.value.variadic ∷ []); signature = nearest_parameters x.list x.signature g.value })) g.state)) e

-- a: before; b: where the list of types is made; the scope is what stood innermost
module _ (texts : List (List ℕ)) (u : Bool) (a b : Stored) (s t : Raw) (v : Bool) (x r : Steps) (ps : List Parameter) (g : Signature) (k : ℕ)
    (opened : IsOpen a s) (goes : Goes a b) (same : whole_unit b ≡ whole_unit a) where
  abbrev steps : List Derivation → WholeSignature → Option WholeSignature → State → Option (After WholeSteps)
  steps ds n o z = Some (record { value = record { list = ds; signature = o }; state = z })

  pub function_more : AreSteps a.known x.list.items → IfSome x.signature (SignatureKnown a) → SignatureKnown a g
      → Some (parameters_shown a.known g.parameters.items) ≡ proper_parameters v (parameters_shown a.known ps)
      → g.variadic ≡ v → raw_of g.scope ≡ raw_innermost s.scopes → t ≡ record s { scopes = take (length s.scopes - 1) s.scopes }
      → parameters_at b.known k ≡ parameter_types (parameters_shown a.known g.parameters.items)
      → r.list.items ≡ x.list.items ++ (Function k g.variadic ∷ [])
      → signature_if b.known r.signature ≡ nearest_parameters (steps_in b.known x.list.items) (signature_if b.known x.signature) (signature_shown b.known g)
      → Some (record { value = steps_shown b.known r; state = state_of texts u t b }) ≡ by_function v (steps_shown a.known x) (record { value = parameters_shown a.known ps; state = state_of texts u s a })
  function_more steps_known kept known is variadic scope left_is types list nearer =
      let sig : signature_shown b.known g ≡ record { parameters = parameters_shown a.known g.parameters.items; variadic = v; scope = innermost_scope (state_of texts u s a).scopes } =
      signature_stays a b g goes known
      ∙ ap (λ (w : Bool). record { parameters = parameters_shown a.known g.parameters.items; variadic = w; scope = scope_shown a.known (raw_of g.scope) }) variadic
      ∙ ap (λ (z : Scope). record { parameters = parameters_shown a.known g.parameters.items; variadic = v; scope = z }) (ap (scope_shown a.known) scope ∙ sym (innermost_shown a.known s.scopes opened.some)) in
      let steps_same : steps_in b.known x.list.items ≡ steps_in a.known x.list.items = steps_stay a b x.list.items goes steps_known in
      let list_is : steps_in b.known r.list.items ≡ steps_in a.known x.list.items ++ (ByFunction (parameter_types (parameters_shown a.known g.parameters.items)) v ∷ []) =
      ap (steps_in b.known) list
      ∙ steps_append b.known x.list.items (Function k g.variadic)
      ∙ ap (λ ds. ds ++ (ByFunction (parameters_at b.known k) g.variadic ∷ [])) steps_same
      ∙ ap (λ (ts : Tys). steps_in a.known x.list.items ++ (ByFunction ts g.variadic ∷ [])) types
      ∙ ap (λ (w : Bool). steps_in a.known x.list.items ++ (ByFunction (parameter_types (parameters_shown a.known g.parameters.items)) w ∷ [])) variadic in
      let signature_is : signature_if b.known r.signature ≡ nearest_parameters (steps_in a.known x.list.items) (signature_if a.known x.signature) (record { parameters = parameters_shown a.known g.parameters.items; variadic = v; scope = innermost_scope (state_of texts u s a).scopes }) =
      nearer
      ∙ ap (λ ds. nearest_parameters ds (signature_if b.known x.signature) (signature_shown b.known g)) steps_same
      ∙ ap (λ o. nearest_parameters (steps_in a.known x.list.items) o (signature_shown b.known g)) (if_stays a b x.signature goes kept)
      ∙ ap (nearest_parameters (steps_in a.known x.list.items) (signature_if a.known x.signature)) sig in
      let state_is : state_of texts u t b ≡ behind_scope (state_of texts u s a) =
      ap (λ z. state_of texts u z b) left_is
      ∙ ap (λ ss. with_scopes (state_of texts u s b) ss) (left_shown b.known s.scopes)
      ∙ ap behind_scope (state_stays texts u a b s opened goes same) in
      ap (λ ds. Some (record { value = record { list = ds; signature = signature_if b.known r.signature }; state = state_of texts u t b })) list_is
      ∙ ap (λ o. Some (record { value = record { list = steps_in a.known x.list.items ++ (ByFunction (parameter_types (parameters_shown a.known g.parameters.items)) v ∷ []); signature = o }; state = state_of texts u t b })) signature_is
      ∙ ap (λ (z : State). Some (record { value = record { list = steps_in a.known x.list.items ++ (ByFunction (parameter_types (parameters_shown a.known g.parameters.items)) v ∷ []); signature = nearest_parameters (steps_in a.known x.list.items) (signature_if a.known x.signature) (record { parameters = parameters_shown a.known g.parameters.items; variadic = v; scope = innermost_scope (state_of texts u s a).scopes }) }; state = z })) state_is
      ∙ ap (λ (o : Option (List WholeParameter)). and_then (and_then o (λ qs. give (Some (record { parameters = qs; variadic = v; scope = innermost_scope (state_of texts u s a).scopes })) (behind_scope (state_of texts u s a)))) (λ (y : After WholeSignature). give (Some (record { list = steps_in a.known x.list.items ++ (ByFunction (parameter_types y.value.parameters) y.value.variadic ∷ []); signature = nearest_parameters (steps_in a.known x.list.items) (signature_if a.known x.signature) y.value })) y.state)) is
