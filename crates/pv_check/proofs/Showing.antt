-- Scopes as they are kept, and as they are shown: what they have for a name, and a change of the innermost one.
use Rattle.std.proofs.Common.{◌≡◌, ℕ, ◌-◌, ◌<◌, cond, Bool, true, false, List, [], ◌∷◌, Option, Some, None, length, nat_eq, refl, sym, ◌∙◌, ap, arith, set, map}
use Rattle.std.proofs.lemmas.List.{map-set, length-map, get_or-map}
use Rattle.std.specs.Prelude.{if◌then◌else◌, slice_index_or}
use Rattle.pv_types.specs.Known.{Known}
use Rattle.pv_check.specs.declared.scopes.Entry.{Entry}
use Rattle.pv_check.specs.declared.scopes.TagEntry.{TagEntry}
use Rattle.pv_check.specs.State.{Scope}
use Rattle.pv_check.specs.Scopes.{find, look_by, look, look_tag, innermost_scope, no_scope, with_innermost}
use Rattle.std.specs.Option.{option_or}
use Rattle.pv_check.specs.ScopeParts.{with_meaning}
use Rattle.pv_check.specs.Raw.{Raw, RawScope, no_raw, raw_innermost, raw_names, raw_tags, with_name, with_tag, meaning_in, tag_meaning, name_shown, tag_shown, scope_shown, scopes_shown, meaning_if, tag_meaning_if}

-- ---- one map

chosen : {A B : Type 0} (f : A → B) (b : Bool) (x y : A) → f (cond b x y) ≡ cond b (f x) (f y)
chosen f true x y = refl
chosen f false x y = refl

chosen_if : {A B : Type 0} (f : A → B) (b : Bool) (x y : A) → f (if b then x else y) ≡ (if b then f x else f y)
chosen_if f true x y = refl
chosen_if f false x y = refl

find-names : (m : Known) (es : List (ℕ × Entry)) (n : ℕ) → find (map (name_shown m) es) n ≡ meaning_if m (find es n)
find-names m [] n = refl
find-names m (e ∷ es) n = ap (cond (nat_eq n e.0) (Some (meaning_in m e.1))) (find-names m es n) ∙ sym (chosen (meaning_if m) (nat_eq n e.0) (Some e.1) (find es n))

find-tags : (m : Known) (es : List (ℕ × TagEntry)) (n : ℕ) → find (map (tag_shown m) es) n ≡ tag_meaning_if m (find es n)
find-tags m [] n = refl
find-tags m (e ∷ es) n = ap (cond (nat_eq n e.0) (Some (tag_meaning m e.1))) (find-tags m es n) ∙ sym (chosen (tag_meaning_if m) (nat_eq n e.0) (Some e.1) (find es n))

bound-names : (m : Known) (n : ℕ) (x : Entry) (es : List (ℕ × Entry)) → map (name_shown m) (with_meaning n x es) ≡ with_meaning n (meaning_in m x) (map (name_shown m) es)
bound-names m n x [] = refl
bound-names m n x (e ∷ es) =
    chosen_if (map (name_shown m)) (nat_eq n e.0) ((e.0, x) ∷ es) (e ∷ with_meaning n x es)
    ∙ ap (λ xs. if nat_eq n e.0 then (e.0, meaning_in m x) ∷ map (name_shown m) es else name_shown m e ∷ xs) (bound-names m n x es)

bound-tags : (m : Known) (n : ℕ) (x : TagEntry) (es : List (ℕ × TagEntry)) → map (tag_shown m) (with_meaning n x es) ≡ with_meaning n (tag_meaning m x) (map (tag_shown m) es)
bound-tags m n x [] = refl
bound-tags m n x (e ∷ es) =
    chosen_if (map (tag_shown m)) (nat_eq n e.0) ((e.0, x) ∷ es) (e ∷ with_meaning n x es)
    ∙ ap (λ xs. if nat_eq n e.0 then (e.0, tag_meaning m x) ∷ map (tag_shown m) es else tag_shown m e ∷ xs) (bound-tags m n x es)

-- ---- all scopes

or_else-names : (m : Known) (a b : Option Entry) → option_or (meaning_if m a) (meaning_if m b) ≡ meaning_if m (option_or a b)
or_else-names m None b = refl
or_else-names m (Some x) b = refl

or_else-tags : (m : Known) (a b : Option TagEntry) → option_or (tag_meaning_if m a) (tag_meaning_if m b) ≡ tag_meaning_if m (option_or a b)
or_else-tags m None b = refl
or_else-tags m (Some x) b = refl

pub look_shown : (m : Known) (ss : List RawScope) (n : ℕ) → look (scopes_shown m ss) n ≡ meaning_if m (look_by raw_names ss n)
look_shown m [] n = refl
look_shown m (s ∷ ss) n =
    ap (λ o. option_or o (find (map (name_shown m) s.names) n)) (look_shown m ss n)
    ∙ ap (option_or (meaning_if m (look_by raw_names ss n))) (find-names m s.names n)
    ∙ or_else-names m (look_by raw_names ss n) (find s.names n)

pub look_tag_shown : (m : Known) (ss : List RawScope) (n : ℕ) → look_tag (scopes_shown m ss) n ≡ tag_meaning_if m (look_by raw_tags ss n)
look_tag_shown m [] n = refl
look_tag_shown m (s ∷ ss) n =
    ap (λ o. option_or o (find (map (tag_shown m) s.tags) n)) (look_tag_shown m ss n)
    ∙ ap (option_or (tag_meaning_if m (look_by raw_tags ss n))) (find-tags m s.tags n)
    ∙ or_else-tags m (look_by raw_tags ss n) (find s.tags n)

-- ---- the innermost one

pub innermost_shown : (m : Known) (ss : List RawScope) → 0 < length ss → innermost_scope (scopes_shown m ss) ≡ scope_shown m (raw_innermost ss)
innermost_shown m ss some =
    ap (λ k. slice_index_or (scopes_shown m ss) (k - 1) no_scope) (length-map ss (scope_shown m))
    ∙ get_or-map (scope_shown m) ss (length ss - 1) no_raw no_scope (omega (arith, some))

pub inner_tag_shown : (m : Known) (ss : List RawScope) (n : ℕ) → 0 < length ss → find (innermost_scope (scopes_shown m ss)).tags n ≡ tag_meaning_if m (find (raw_innermost ss).tags n)
inner_tag_shown m ss n some = ap (λ (x : Scope). find x.tags n) (innermost_shown m ss some) ∙ find-tags m (raw_innermost ss).tags n

pub inner_name_shown : (m : Known) (ss : List RawScope) (n : ℕ) → 0 < length ss → find (innermost_scope (scopes_shown m ss)).names n ≡ meaning_if m (find (raw_innermost ss).names n)
inner_name_shown m ss n some = ap (λ (x : Scope). find x.names n) (innermost_shown m ss some) ∙ find-names m (raw_innermost ss).names n

set_shown : (m : Known) (ss : List RawScope) (x : RawScope) → scopes_shown m (set ss (length ss - 1) x) ≡ with_innermost (scopes_shown m ss) (scope_shown m x)
set_shown m ss x =
    map-set (scope_shown m) ss (length ss - 1) x
    ∙ ap (λ k. set (scopes_shown m ss) (k - 1) (scope_shown m x)) (sym (length-map ss (scope_shown m)))

pub tag_bound_shown : (m : Known) (s : Raw) (n : ℕ) (x : TagEntry) → 0 < length s.scopes
    → scopes_shown m (with_tag s n x).scopes ≡ with_innermost (scopes_shown m s.scopes) (record (innermost_scope (scopes_shown m s.scopes)) { tags = with_meaning n (tag_meaning m x) (innermost_scope (scopes_shown m s.scopes)).tags })
tag_bound_shown m s n x some =
    set_shown m s.scopes _
    ∙ ap (λ es. with_innermost (scopes_shown m s.scopes) (record { names = map (name_shown m) (raw_innermost s.scopes).names; tags = es })) (bound-tags m n x (raw_innermost s.scopes).tags)
    ∙ ap (λ (y : Scope). with_innermost (scopes_shown m s.scopes) (record y { tags = with_meaning n (tag_meaning m x) y.tags })) (sym (innermost_shown m s.scopes some))

pub name_bound_shown : (m : Known) (s : Raw) (n : ℕ) (x : Entry) → 0 < length s.scopes
    → scopes_shown m (with_name s n x).scopes ≡ with_innermost (scopes_shown m s.scopes) (record (innermost_scope (scopes_shown m s.scopes)) { names = with_meaning n (meaning_in m x) (innermost_scope (scopes_shown m s.scopes)).names })
name_bound_shown m s n x some =
    set_shown m s.scopes _
    ∙ ap (λ es. with_innermost (scopes_shown m s.scopes) (record { names = es; tags = map (tag_shown m) (raw_innermost s.scopes).tags })) (bound-names m n x (raw_innermost s.scopes).names)
    ∙ ap (λ (y : Scope). with_innermost (scopes_shown m s.scopes) (record y { names = with_meaning n (meaning_in m x) y.names })) (sym (innermost_shown m s.scopes some))
