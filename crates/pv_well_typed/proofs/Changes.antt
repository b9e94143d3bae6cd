-- Each way in which typing changes its state (C17 6.2.1, 6.5, 6.7): a unit that is later than the state behind is later than the one before,
-- and the types stay as declarations make them.
use Rattle.std.proofs.Common.{◌≡◌, ℕ, zero, suc, ◌<◌, ◌-◌, Bool, true, false, not, Option, Some, None, is_some, List, [], ◌∷◌, ◌++◌, length, take, set, get_or, refl, sym, ap, subst, ◌∙◌, arith, length-append, length-set, append_assoc, inl, inr}
use Rattle.std.specs.Prelude.{if◌then◌else◌, nat_eq}
use Rattle.std.proofs.lemmas.Bool.{eq-eqb}
use Rattle.pv_types.specs.Formed.{AreComplete}
use Rattle.pv_types.specs.Known.{Heading, heading_at}
use Rattle.pv_types.specs.Layouts.{Completed, Entry, Named, look as look_layout, layout_of, layouts_of}
use Rattle.pv_types.specs.Ty.{Ty}
use Rattle.pv_types.proofs.LayoutLaws.{layouts-push, look-append, look-last, complete-append, layout_of-append}
use Rattle.pv_typed.specs.Adding.{with_literal}
use Rattle.pv_typed.specs.Known.{Each}
use Rattle.pv_typed.proofs.Each.{each_weaker, each_append, each_left}
use Rattle.pv_typed.specs.TypedUnits.{WholeUnit, TypedObject, Literal, layouts}
use Rattle.pv_typed.specs.UnitParts.{no_literal, no_object}
use Rattle.pv_check.specs.Primary.{with_use}
use Rattle.pv_check.specs.StringLiterals.{text_of}
use Rattle.pv_check.specs.State.{State, Scope, Meaning, TagMeaning, Used}
use Rattle.pv_check.specs.Scopes.{no_scope, find, look, look_tag, look_by, innermost_scope, bind, bind_tag, in_new_scope}
use Rattle.pv_check.specs.ScopeParts.{with_meaning, names_in, tags_in}
use Rattle.std.specs.Option.{option_or}
use Rattle.pv_guards.specs.Typed.{IsIn}
use Rattle.pv_well_typed.specs.Proper.{IsProper}
use Rattle.pv_well_typed.specs.Later.{IsThere, IsLaterUnit, Later}
use Rattle.pv_well_typed.specs.ProperStates.{IsMember, IsCompleted, IsMeaning, IsTagMeaning, IsScope, IsProperState, IsVisible, AreVisible}
use Rattle.pv_well_typed.proofs.PrimaryRows.{each-at}

-- ---- lists

pub before-at : {A : Type 0} (z : A) (xs ys : List A) (i : ℕ) → i < length xs → get_or (xs ++ ys) i z ≡ get_or xs i z
before-at z [] ys i lt = absurd (omega (arith, lt))
before-at z (x ∷ xs) ys zero lt = refl
before-at z (x ∷ xs) ys (suc i) lt = before-at z xs ys i (omega (arith, lt))

pub below-append : {A : Type 0} (xs ys : List A) (i : ℕ) → i < length xs → i < length (xs ++ ys)
below-append xs ys i lt = let l = length-append xs ys in omega (arith, l, lt)

in-left : (xs ys : List ℕ) (n : ℕ) → IsIn n xs → IsIn n (xs ++ ys)
in-left [] ys n h = absurd h
in-left (x ∷ xs) ys n (inl e) = inl e
in-left (x ∷ xs) ys n (inr h) = inr (in-left xs ys n h)

pub each-set : {A : Type 0} (P : A → Type 0) (xs : List A) (i : ℕ) (y : A) → Each P xs → P y → Each P (set xs i y)
each-set P [] i y h p = tt
each-set P (x ∷ xs) zero y h p = (p, h.1)
each-set P (x ∷ xs) (suc i) y h p = (h.0, each-set P xs i y h.1 p)

pub take-set : {A : Type 0} (xs : List A) (i : ℕ) (y : A) → take i (set xs i y) ≡ take i xs
take-set [] zero y = refl
take-set [] (suc i) y = refl
take-set (x ∷ xs) zero y = refl
take-set (x ∷ xs) (suc i) y = ap (λ ys. x ∷ ys) (take-set xs i y)

-- ---- names

-- a name that has a meaning has one still where another one gets one
pub find-bound : {M : Type 0} (n k : ℕ) (m : M) (es : List (ℕ × M)) → is_some (find es k) ≡ true → is_some (find (with_meaning n m es) k) ≡ true
find-bound n k m [] h = absurd cc
find-bound {M} n k m (x ∷ es) h = by (nat_eq n x.0) (find-bound n k m es) h
  where
    same : (c : Bool) → is_some (if c then Some x.1 else find es k) ≡ true → is_some (if c then Some m else find es k) ≡ true
    same true h = refl
    same false h = h

    later : (c : Bool) → (is_some (find es k) ≡ true → is_some (find (with_meaning n m es) k) ≡ true) → is_some (if c then Some x.1 else find es k) ≡ true → is_some (if c then Some x.1 else find (with_meaning n m es) k) ≡ true
    later true r h = refl
    later false r h = r h

    by : (b : Bool) → (is_some (find es k) ≡ true → is_some (find (with_meaning n m es) k) ≡ true) → is_some (find (x ∷ es) k) ≡ true → is_some (find (if b then (x.0, m) ∷ es else x ∷ with_meaning n m es) k) ≡ true
    by true r h = same (nat_eq k x.0) h
    by false r h = later (nat_eq k x.0) r h

-- and the one that gets it
pub find-itself : {M : Type 0} (n : ℕ) (m : M) (es : List (ℕ × M)) → is_some (find (with_meaning n m es) n) ≡ true
find-itself {M} n m [] = subst (λ b. is_some (if b then Some m else None) ≡ true) (sym (eq-eqb n n refl)) refl
find-itself {M} n m (x ∷ es) = by (nat_eq n x.0) refl (find-itself n m es)
  where
    by : (b : Bool) → nat_eq n x.0 ≡ b → is_some (find (with_meaning n m es) n) ≡ true → is_some (find (if b then (x.0, m) ∷ es else x ∷ with_meaning n m es) n) ≡ true
    by true e r = subst (λ b. is_some (if b then Some m else find es n) ≡ true) (sym e) refl
    by false e r = subst (λ b. is_some (if b then Some x.1 else find (with_meaning n m es) n) ≡ true) (sym e) r

pub each-bound : {M : Type 0} (P : M → Type 0) (n : ℕ) (m : M) (es : List (ℕ × M)) → P m → Each (λ (e : ℕ × M). P e.1) es → Each (λ (e : ℕ × M). P e.1) (with_meaning n m es)
each-bound P n m [] p h = (p, tt)
each-bound {M} P n m (e ∷ es) p h = by (nat_eq n e.0) (each-bound P n m es p h.1)
  where
    by : (b : Bool) → Each (λ (e : ℕ × M). P e.1) (with_meaning n m es) → Each (λ (e : ℕ × M). P e.1) (if b then (e.0, m) ∷ es else e ∷ with_meaning n m es)
    by true rest = (p, h.1)
    by false rest = (h.0, rest)

pub find-each : {M : Type 0} (P : M → Type 0) (n : ℕ) (es : List (ℕ × M)) → Each (λ (e : ℕ × M). P e.1) es → (m : M) → find es n ≡ Some m → P m
find-each P n [] h m e = absurd cc
find-each {M} P n (x ∷ es) h m e = by (nat_eq n x.0) (find-each P n es h.1 m) e
  where
    by : (b : Bool) → (find es n ≡ Some m → P m) → (if b then Some x.1 else find es n) ≡ Some m → P m
    by true rest e = let q : x.1 ≡ m = cc in subst P q h.0
    by false rest e = rest e

pub look-each : {M : Type 0} (f : Scope → List (ℕ × M)) (P : M → Type 0) (n : ℕ) (ss : List Scope) → Each (λ (x : Scope). Each (λ (e : ℕ × M). P e.1) (f x)) ss → (m : M) → look_by f ss n ≡ Some m → P m
look-each f P n [] h m e = absurd cc
look-each {M} f P n (s ∷ ss) h m e = by (look_by f ss n) (look-each f P n ss h.1 m) e
  where
    by : (o : Option M) → (o ≡ Some m → P m) → option_or o (find (f s) n) ≡ Some m → P m
    by None rest e = find-each P n (f s) h.0 m e
    by (Some k) rest e = rest e

-- ---- states with one thing more

-- 6.2.4p5: one more object
abbrev pub more_object : TypedObject → State → State
more_object x s = record s { unit = record s.unit { objects = s.unit.objects ++ (x ∷ []) } }

-- 6.7.2.3p5: one more tag
abbrev pub more_heading : Heading → State → State
more_heading x s = record s { unit = record s.unit { headings = s.unit.headings ++ (x ∷ []) } }

-- what `layout` prints: no rule of C17
abbrev pub more_filed : Ty → State → State
more_filed t s = record s { unit = record s.unit { tags = s.unit.tags ++ (t ∷ []) } }

-- 6.7.2.1p8: one more completed tag, and its layout
abbrev pub more_completed : Completed → State → State
more_completed d s = record s { unit = record s.unit { completed = s.unit.completed ++ (d ∷ []) } }

abbrev pub made_entry : List Completed → Completed → Entry
made_entry ds d = record { tag = d.tag; layout = layout_of (layouts_of ds) d.tag d.union d.members }

module _ (v : WholeUnit) where
  -- what an identifier designates, and what a tag does
  pub name-meaning : (s : State) → IsProperState v s → (n : ℕ) (m : Meaning) → look s.scopes n ≡ Some m → IsMeaning v (length s.unit.functions) m
  name-meaning s h n m e =
      look-each names_in (IsMeaning v (length s.unit.functions)) n s.scopes (each_weaker _ _ (λ (x : Scope) k. k.0) s.scopes h.scopes) m e

  pub tag-meaning : (s : State) → IsProperState v s → (n : ℕ) (m : TagMeaning) → look_tag s.scopes n ≡ Some m → IsTagMeaning v m
  tag-meaning s h n m e = look-each tags_in (IsTagMeaning v) n s.scopes (each_weaker _ _ (λ (x : Scope) k. k.1) s.scopes h.scopes) m e

  pub visible-meaning : (os : List ℕ) (ss : List Scope) → AreVisible v os ss → (n : ℕ) (m : Meaning) → look ss n ≡ Some m → IsVisible v os m
  visible-meaning os ss h n m e = look-each names_in (IsVisible v os) n ss h m e

  pub inner-scope : (k : ℕ) (ss : List Scope) → Each (IsScope v k) ss → IsScope v k (innermost_scope ss)
  inner-scope k ss h = each-at (IsScope v k) no_scope ss (length ss - 1) (tt, tt) h

  -- 6.7.2.3: what a tag of the innermost scope designates
  pub inner-tag : (s : State) → IsProperState v s → (n : ℕ) (m : TagMeaning) → find (innermost_scope s.scopes).tags n ≡ Some m → IsTagMeaning v m
  inner-tag s h n m e = find-each (IsTagMeaning v) n (innermost_scope s.scopes).tags (inner-scope (length s.unit.functions) s.scopes h.scopes).1 m e

  -- ---- 6.2.1: scopes

  pub bind-proper : (n : ℕ) (m : Meaning) (s : State) → IsMeaning v (length s.unit.functions) m → IsProperState v s → IsProperState v (bind n m s)
  bind-proper n m s p h =
      let inner = inner-scope (length s.unit.functions) s.scopes h.scopes in
      let l = length-set s.scopes (length s.scopes - 1) (record (innermost_scope s.scopes) { names = with_meaning n m (innermost_scope s.scopes).names }) in
      let some = h.some in
      record {
        unit = h.unit;
        some = omega (arith, l, some);
        scopes = each-set (IsScope v (length s.unit.functions)) s.scopes (length s.scopes - 1) _ h.scopes (each-bound (IsMeaning v (length s.unit.functions)) n m (innermost_scope s.scopes).names p inner.0, inner.1);
      }

  pub bind-tag-proper : (n : ℕ) (m : TagMeaning) (s : State) → IsTagMeaning v m → IsProperState v s → IsProperState v (bind_tag n m s)
  bind-tag-proper n m s p h =
      let inner = inner-scope (length s.unit.functions) s.scopes h.scopes in
      let l = length-set s.scopes (length s.scopes - 1) (record (innermost_scope s.scopes) { tags = with_meaning n m (innermost_scope s.scopes).tags }) in
      let some = h.some in
      record {
        unit = h.unit;
        some = omega (arith, l, some);
        scopes = each-set (IsScope v (length s.unit.functions)) s.scopes (length s.scopes - 1) _ h.scopes (inner.0, each-bound (IsTagMeaning v) n m (innermost_scope s.scopes).tags p inner.1);
      }

  inner-visible : (os : List ℕ) (ss : List Scope) → AreVisible v os ss → Each (λ (e : ℕ × Meaning). IsVisible v os e.1) (innermost_scope ss).names
  inner-visible os ss h = each-at (λ (x : Scope). Each (λ (e : ℕ × Meaning). IsVisible v os e.1) x.names) no_scope ss (length ss - 1) tt h

  pub bind-visible : (os : List ℕ) (n : ℕ) (m : Meaning) (s : State) → IsVisible v os m → AreVisible v os s.scopes → AreVisible v os (bind n m s).scopes
  bind-visible os n m s p h =
      each-set (λ (x : Scope). Each (λ (e : ℕ × Meaning). IsVisible v os e.1) x.names) s.scopes (length s.scopes - 1) _ h
      (each-bound (IsVisible v os) n m (innermost_scope s.scopes).names p (inner-visible os s.scopes h))

  pub bind-tag-visible : (os : List ℕ) (n : ℕ) (m : TagMeaning) (s : State) → AreVisible v os s.scopes → AreVisible v os (bind_tag n m s).scopes
  bind-tag-visible os n m s h =
      each-set (λ (x : Scope). Each (λ (e : ℕ × Meaning). IsVisible v os e.1) x.names) s.scopes (length s.scopes - 1) _ h (inner-visible os s.scopes h)

  pub entered-proper : (s : State) → IsProperState v s → IsProperState v (in_new_scope s)
  entered-proper s h =
      let l = length-append s.scopes (no_scope ∷ []) in
      record {
        unit = h.unit;
        some = omega (arith, l);
        scopes = each_append (IsScope v (length s.unit.functions)) s.scopes (no_scope ∷ []) h.scopes ((tt, tt), tt);
      }

  -- ---- the unit

  -- 6.9p5: an expression names something
  pub use-later : (s : State) (x : Used) → Later (with_use s x) v → Later s v
  use-later s x l = record { unit = l.unit; used = each_left (IsThere v) s.used (x ∷ []) l.used }

  pub use-proper : (s : State) (x : Used) → IsProperState v s → IsProperState v (with_use s x)
  use-proper s x h = record { unit = h.unit; some = h.some; scopes = h.scopes }

  -- 6.4.5: a string literal
  pub literal-later : (u : WholeUnit) (x : Literal) (b : Bool) → IsLaterUnit (with_literal u x b) v → IsLaterUnit u v
  literal-later u x b l = record {
    layouts = l.layouts;
    headings = l.headings;
    functions = λ f lt. let g = l.functions f lt in record { there = g.there; named = g.named; signed = g.signed };
    literals = λ n lt. l.literals n (below-append u.literals (x ∷ []) n lt) ∙ before-at no_literal u.literals (x ∷ []) n lt;
    instances = λ n i. l.instances n (kept b n i);
    lasting = l.lasting;
  }
    where
      kept : (b : Bool) (n : ℕ) → IsIn n u.instances → IsIn n (if b then u.instances ++ (length u.literals ∷ []) else u.instances)
      kept true n i = in-left u.instances (length u.literals ∷ []) n i
      kept false n i = i

  pub text-later : (line : ℕ) (bytes : List ℕ) (s : State) → Later (text_of line bytes s).state v → Later s v
  text-later line bytes s l = record { unit = literal-later s.unit (record { bytes = bytes; line = line }) (not s.unevaluated) l.unit; used = l.used }

  pub text-proper : (line : ℕ) (bytes : List ℕ) (s : State) → IsProperState v s → IsProperState v (text_of line bytes s).state
  text-proper line bytes s h = record {
    unit = record { objects = h.unit.objects; functions = h.unit.functions; completed = h.unit.completed };
    some = h.some;
    scopes = h.scopes;
  }

  pub object-later : (x : TypedObject) (s : State) → Later (more_object x s) v → Later s v
  object-later x s l = record {
    unit = record {
      layouts = l.unit.layouts;
      headings = l.unit.headings;
      functions = λ f lt. let g = l.unit.functions f lt in record { there = g.there; named = g.named; signed = g.signed };
      literals = l.unit.literals;
      instances = l.unit.instances;
      lasting = λ o lt. l.unit.lasting o (below-append s.unit.objects (x ∷ []) o lt) ∙ ap (λ (y : TypedObject). y.lasting) (before-at no_object s.unit.objects (x ∷ []) o lt);
    };
    used = l.used;
  }

  pub object-proper : (x : TypedObject) (s : State) → IsProper v x.t → IsProperState v s → IsProperState v (more_object x s)
  object-proper x s p h = record {
    unit = record {
      objects = each_append (λ (y : TypedObject). IsProper v y.t) s.unit.objects (x ∷ []) h.unit.objects (p, tt);
      functions = h.unit.functions;
      completed = h.unit.completed;
    };
    some = h.some;
    scopes = h.scopes;
  }

  pub heading-later : (x : Heading) (s : State) → Later (more_heading x s) v → Later s v
  heading-later x s l = record {
    unit = record {
      layouts = l.unit.layouts;
      headings = λ n lt. l.unit.headings n (below-append s.unit.headings (x ∷ []) n lt) ∙ before-at (record { name = None; union = false }) s.unit.headings (x ∷ []) n lt;
      functions = λ f lt. let g = l.unit.functions f lt in record { there = g.there; named = g.named; signed = g.signed };
      literals = l.unit.literals;
      instances = l.unit.instances;
      lasting = l.unit.lasting;
    };
    used = l.used;
  }

  pub heading-proper : (x : Heading) (s : State) → IsProperState v s → IsProperState v (more_heading x s)
  heading-proper x s h = record {
    unit = record { objects = h.unit.objects; functions = h.unit.functions; completed = h.unit.completed };
    some = h.some;
    scopes = h.scopes;
  }

  pub filed-later : (t : Ty) (s : State) → Later (more_filed t s) v → Later s v
  filed-later t s l = record {
    unit = record {
      layouts = l.unit.layouts;
      headings = l.unit.headings;
      functions = λ f lt. let g = l.unit.functions f lt in record { there = g.there; named = g.named; signed = g.signed };
      literals = l.unit.literals;
      instances = l.unit.instances;
      lasting = l.unit.lasting;
    };
    used = l.used;
  }

  pub filed-proper : (t : Ty) (s : State) → IsProperState v s → IsProperState v (more_filed t s)
  filed-proper t s h = record {
    unit = record { objects = h.unit.objects; functions = h.unit.functions; completed = h.unit.completed };
    some = h.some;
    scopes = h.scopes;
  }

  -- ---- 6.7.2.1p8: a tag is completed

  pub completed-later : (d : Completed) (s : State) → Later (more_completed d s) v → Later s v
  completed-later d s l = record {
    unit = record {
      layouts = (
        (made_entry s.unit.completed d ∷ []) ++ l.unit.layouts.0,
        l.unit.layouts.1 ∙ ap (λ (es : List Entry). es ++ l.unit.layouts.0) (layouts-push s.unit.completed d) ∙ append_assoc (layouts_of s.unit.completed) (made_entry s.unit.completed d ∷ []) l.unit.layouts.0,
      );
      headings = l.unit.headings;
      functions = λ f lt. let g = l.unit.functions f lt in record { there = g.there; named = g.named; signed = g.signed };
      literals = l.unit.literals;
      instances = l.unit.instances;
      lasting = l.unit.lasting;
    };
    used = l.used;
  }

  are-complete : (es : List Entry) (ms : List Named) → Each (IsMember v es) ms → AreComplete es ms
  are-complete es [] h = tt
  are-complete es (m ∷ ms) h = (h.0.1, are-complete es ms h.1)

  pub members-later : (es fs : List Entry) (ms : List Named) → Each (IsMember v es) ms → Each (IsMember v (es ++ fs)) ms
  members-later es fs ms h = each_weaker (IsMember v es) (IsMember v (es ++ fs)) (λ (m : Named) k. (k.0, complete-append es fs m.t k.1 ∙ k.1)) ms h

  old-completed : (es fs : List Entry) (x : Completed) → IsCompleted v es x → IsCompleted v (es ++ fs) x
  old-completed es fs x h = record {
    word = h.word;
    laid = look-append es fs x.tag (ap is_some h.laid) ∙ h.laid ∙ ap Some (sym (layout_of-append es fs x.tag x.union x.members (are-complete es x.members h.members)));
    members = members-later es fs x.members h.members;
  }

  new-completed : (es : List Entry) (k : ℕ) (u : Bool) (ms : List Named) → (heading_at v.headings k).union ≡ u → look_layout es k ≡ None → Each (IsMember v es) ms
      → IsCompleted v (es ++ (record { tag = k; layout = layout_of es k u ms } ∷ [])) (record { tag = k; union = u; members = ms })
  new-completed es k u ms word none members = record {
    word = word;
    laid = look-last es k (layout_of es k u ms) none ∙ ap Some (sym (layout_of-append es (record { tag = k; layout = layout_of es k u ms } ∷ []) k u ms (are-complete es ms members)));
    members = members-later es (record { tag = k; layout = layout_of es k u ms } ∷ []) ms members;
  }

  pub completed-proper : (k : ℕ) (u : Bool) (ms : List Named) (s : State) → (heading_at v.headings k).union ≡ u → look_layout (layouts s.unit) k ≡ None → Each (IsMember v (layouts s.unit)) ms
      → IsProperState v s → IsProperState v (more_completed (record { tag = k; union = u; members = ms }) s)
  completed-proper k u ms s word none members h = record {
    unit = record {
      objects = h.unit.objects;
      functions = h.unit.functions;
      completed = subst (λ (es : List Entry). Each (IsCompleted v es) (s.unit.completed ++ (record { tag = k; union = u; members = ms } ∷ []))) (sym (layouts-push s.unit.completed (record { tag = k; union = u; members = ms })))
          (each_append (IsCompleted v (layouts s.unit ++ (made_entry s.unit.completed (record { tag = k; union = u; members = ms }) ∷ []))) s.unit.completed (record { tag = k; union = u; members = ms } ∷ [])
          (each_weaker (IsCompleted v (layouts s.unit)) (IsCompleted v (layouts s.unit ++ (made_entry s.unit.completed (record { tag = k; union = u; members = ms }) ∷ []))) (old-completed (layouts s.unit) (made_entry s.unit.completed (record { tag = k; union = u; members = ms }) ∷ [])) s.unit.completed h.unit.completed)
          (new-completed (layouts s.unit) k u ms word none members, tt));
    };
    some = h.some;
    scopes = h.scopes;
  }
