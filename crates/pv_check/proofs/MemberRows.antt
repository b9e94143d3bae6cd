-- A member more behind others.
use Rattle.std.proofs.Common.{◌≡◌, ◌≢◌, ℕ, suc, ◌<◌, ◌==◌, not, ◌||◌, ◌&&◌, nat_eq, nat_lt, true, false, Bool, Some, None, Option, List, [], ◌∷◌, ◌++◌, length, map, IsTrue, refl, sym, ap, subst, arith, ◌∙◌}
use Rattle.std.specs.Prelude.{if◌then◌else◌}
use Rattle.std.specs.List.{list_any}
use Rattle.std.proofs.lemmas.Bool.{eq-eqb}
use Rattle.std.proofs.lemmas.Bool.Decides.{nat_tests}
use Rattle.std.proofs.lemmas.List.{map-append}
use Rattle.indexmap.specs.IndexSet.{insert_key}
use Rattle.pv_types.specs.declared.terms.Member.{Member}
use Rattle.pv_types.specs.declared.terms.TypeId.{TypeId}
use Rattle.pv_types.specs.Known.{Known, env, tree, trees, named_in, at}
use Rattle.pv_types.specs.Formed.{MembersBelow, NamesDiffer, IsNewName, AreComplete}
use Rattle.pv_types.specs.Layouts.{Entry, Named, is_complete_in}
use Rattle.pv_types.specs.Ty.{Ty}
use Rattle.pv_typed.specs.Tables.{Stored, whole_unit}
use Rattle.pv_check.specs.declared.composites.MemberList.{MemberList}
use Rattle.pv_check.specs.MembersRead.{members_shown, members_if, after_members, AreMembers}
use Rattle.pv_check.specs.Open.{state_of, IsOpen, Goes}
use Rattle.pv_check.specs.Raw.{Raw}
use Rattle.pv_check.specs.State.{State, After, give}
use Rattle.pv_typed.specs.Constants.{and_then}
use Rattle.pv_check.specs.Tags.{with_member}
use Rattle.pv_check.specs.TagParts.{is_new_member, some_members}
use Rattle.pv_check.proofs.Completing.{members_below, members_stay, complete_stays}
use Rattle.pv_check.proofs.Growth.{left_true, right_true}
use Rattle.pv_check.proofs.Opening.{state_stays}

pub named_append : (ts : List Ty) (ms : List Member) (x : Member) → named_in ts (ms ++ (x ∷ [])) ≡ named_in ts ms ++ (record { name = x.name; t = at ts x.t.0 } ∷ [])
named_append ts [] x = refl
named_append ts (m ∷ ms) x = ap (λ (ns : List Named). record { name = m.name; t = at ts m.t.0 } ∷ ns) (named_append ts ms x)

pub below_append : (n : ℕ) (ms : List Member) (x : Member) → MembersBelow n ms → x.t.0 < n → MembersBelow n (ms ++ (x ∷ []))
below_append n [] x h k = (k, tt)
below_append n (m ∷ ms) x h k = (h.0, below_append n ms x h.1 k)

pub complete_append : (env : List Entry) (ns : List Named) (x : Named) → AreComplete env ns → IsTrue (is_complete_in env x.t) → AreComplete env (ns ++ (x ∷ []))
complete_append env [] x h k = (k, tt)
complete_append env (n ∷ ns) x h k = (h.0, complete_append env ns x h.1 k)

other_name : (a b : ℕ) → not (a == b) ≡ true → b ≢ a
other_name a b h e = false_is (ap not (sym (ap (λ c. a == c) e)) ∙ h)
  where
    false_is : not (a == a) ≡ true → ⊥
    false_is g = let h : false ≡ true = sym (ap not (eq-eqb a a refl)) ∙ g in cc

new_append : (n : ℕ) (ms : List Member) (x : Member) → IsNewName n ms → x.name ≢ n → IsNewName n (ms ++ (x ∷ []))
new_append n [] x h k = (k, tt)
new_append n (m ∷ ms) x h k = (h.0, new_append n ms x h.1 k)

pub differ_append : (ts : List Ty) (ms : List Member) (x : Member) → NamesDiffer ms → is_new_member x.name (named_in ts ms) ≡ true → NamesDiffer (ms ++ (x ∷ []))
differ_append ts [] x h k = (tt, tt)
differ_append ts (m ∷ ms) x h k =
    let here : not (m.name == x.name) ≡ true = left_true (not (m.name == x.name)) _ k in
    let rest : is_new_member x.name (named_in ts ms) ≡ true = right_true (not (m.name == x.name)) _ k in
    (new_append m.name ms x h.0 (other_name m.name x.name here), differ_append ts ms x h.1 rest)

-- ---- names as a set

eq_turned : (a b : ℕ) → nat_eq a b ≡ (b == a)
eq_turned a b = grind (arith, nat_tests)

pub any_named : (ts : List Ty) (n : ℕ) (ms : List Member) → list_any (nat_eq n) (map (λ (x : Member). x.name) ms) ≡ not (is_new_member n (named_in ts ms))
any_named ts n [] = refl
any_named ts n (m ∷ ms) =
    ap (λ b. b || list_any (nat_eq n) (map (λ (x : Member). x.name) ms)) (eq_turned n m.name)
    ∙ ap (λ b. (m.name == n) || b) (any_named ts n ms)
    ∙ turned (m.name == n) (is_new_member n (named_in ts ms))
  where
    turned : (a b : Bool) → (a || not b) ≡ not (not a && b)
    turned true b = refl
    turned false b = refl

not_turned : (b : Bool) → b ≡ not (not b)
not_turned true = refl
not_turned false = refl

pub new_named : (ts : List Ty) (n : ℕ) (ms : List Member) (ks : List ℕ) → ks ≡ map (λ (x : Member). x.name) ms → not (list_any (nat_eq n) ks) ≡ is_new_member n (named_in ts ms)
new_named ts n ms ks e = ap (λ xs. not (list_any (nat_eq n) xs)) e ∙ ap not (any_named ts n ms) ∙ sym (not_turned (is_new_member n (named_in ts ms)))

pub new_any_types : (ts us : List Ty) (n : ℕ) (ms : List Member) → is_new_member n (named_in ts ms) ≡ is_new_member n (named_in us ms)
new_any_types ts us n ms = sym (new_named ts n ms (map (λ (x : Member). x.name) ms) refl) ∙ new_named us n ms (map (λ (x : Member). x.name) ms) refl

pub name_inserted : (n : ℕ) (ms : List Member) (x : Member) (ks : List ℕ) → x.name ≡ n → ks ≡ map (λ (y : Member). y.name) ms → is_new_member n (named_in [] ms) ≡ true
    → insert_key nat_eq ks n ≡ map (λ (y : Member). y.name) (ms ++ (x ∷ []))
name_inserted n ms x ks name e fresh =
    let none : list_any (nat_eq n) ks ≡ false = not_turned (list_any (nat_eq n) ks) ∙ ap not (new_named [] n ms ks e ∙ fresh) in
    ap (λ b. if b then ks else ks ++ n ∷ []) none
    ∙ ap (λ xs. xs ++ n ∷ []) e
    ∙ ap (λ k. map (λ (y : Member). y.name) ms ++ k ∷ []) (sym name)
    ∙ sym (map-append (λ (y : Member). y.name) ms (x ∷ []))

-- ---- a list of members, in tables that have more

pub list_stays : (a b : Stored) (ms : MemberList) → Goes a b → AreMembers a.known ms → members_shown b.known ms ≡ members_shown a.known ms
list_stays a b ms g h = members_stay a b ms.list.items g h.types

pub list_known : (a b : Stored) (ms : MemberList) → Goes a b → AreMembers a.known ms → AreMembers b.known ms
list_known a b ms g h = record {
  types = members_below a b ms.list.items g h.types;
  differ = h.differ;
  complete = subst (λ ns. AreComplete (env b.known) ns) (sym (list_stays a b ms g h)) (complete_stays a b (named_in (trees a.known) ms.list.items) g h.complete);
  names = h.names;
}

members_give : (texts : List (List ℕ)) (u : Bool) (s : Raw) (m : Stored) (o : Option MemberList) → after_members texts u s m o ≡ give (members_if m.known o) (state_of texts u s m)
members_give texts u s m None = refl
members_give texts u s m (Some x) = refl

-- a: before; b: where the member's type is made
pub member_after : (texts : List (List ℕ)) (u : Bool) (a b : Stored) (s : Raw) (ms : MemberList) (n : ℕ) (t : TypeId) (o : Option Ty) (r : Option MemberList) → IsOpen a s → Goes a b → whole_unit b ≡ whole_unit a → AreMembers a.known ms
    → Some (tree b.known t.0) ≡ o
    → members_if b.known r ≡ with_member (state_of texts u s b) (members_shown b.known ms) n (tree b.known t.0)
    → after_members texts u s b r ≡ and_then o (λ v. give (with_member (state_of texts u s a) (members_shown a.known ms) n v) (state_of texts u s a))
member_after texts u a b s ms n t o r h g same known is e =
    members_give texts u s b r
    ∙ ap (λ x. give x (state_of texts u s b)) e
    ∙ ap (λ (z : State). give (with_member z (members_shown b.known ms) n (tree b.known t.0)) z) (state_stays texts u a b s h g same)
    ∙ ap (λ ns. give (with_member (state_of texts u s a) ns n (tree b.known t.0)) (state_of texts u s a)) (list_stays a b ms g known)
    ∙ ap (λ (x : Option Ty). and_then x (λ v. give (with_member (state_of texts u s a) (members_shown a.known ms) n v) (state_of texts u s a))) is

-- ---- a list of members at its end

named_length : (ts : List Ty) (ms : List Member) → length (named_in ts ms) ≡ length ms
named_length ts [] = refl
named_length ts (m ∷ ms) = ap suc (named_length ts ms)

pub no_members : {B : Type 0} (m : Known) (ms : MemberList) (s : State) (f : After (List Named) → Option (After B)) → length ms.list.items ≡ 0
    → None ≡ and_then (some_members (record { value = members_shown m ms; state = s })) f
no_members m ms s f e = ap (λ n. and_then (if nat_lt 0 n then Some (record { value = members_shown m ms; state = s }) else None) f) (sym (named_length (trees m) ms.list.items ∙ e))

pub has_members : {B : Type 0} (m : Known) (ms : MemberList) (s : State) (f : After (List Named) → Option (After B)) → 0 < length ms.list.items
    → f (record { value = members_shown m ms; state = s }) ≡ and_then (some_members (record { value = members_shown m ms; state = s })) f
has_members m ms s f h =
    let is : nat_lt 0 (length (members_shown m ms)) ≡ true = ap (nat_lt 0) (named_length (trees m) ms.list.items) ∙ grind (arith, nat_tests) in
    ap (λ b. and_then (if b then Some (record { value = members_shown m ms; state = s }) else None) f) (sym is)
