-- A checked unit of a source's tokens has names as instances may have them (C17 6.2.1, 6.4.2.1).
use Rattle.std.proofs.Common.{◌≡◌, ◌≢◌, ℕ, zero, suc, ◌<◌, Bool, true, false, ◌||◌, cond, List, [], ◌∷◌, ◌++◌, codes, length, nat_eq, refl, sym, ap, ◌∙◌, subst, arith}
use Rattle.std.specs.List.{list_any}
use Rattle.std.specs.Str.{bytes_eq}
use Rattle.std.specs.Cmp.Lexicographic.{pointwise}
use Rattle.std.proofs.lemmas.Bool.{false≢true}
use Rattle.std.proofs.lemmas.Slice.Eq.{bytes_eq-Decides}
use Rattle.pv_script.specs.Words.{is_name, is_identifier}
use Rattle.pv_script.specs.Names.{name_at as text_of}
use Rattle.pv_tree.specs.Syntax.{DeclarationTree}
use Rattle.pv_typed.specs.Known.{Each, AreKnown}
use Rattle.pv_typed.specs.Mains.{literal_text, heap_text}
use Rattle.pv_typed.specs.Tables.{Stored, whole_unit}
use Rattle.pv_typed.specs.TypedUnits.{WholeUnit, TypedObject, TypedFunction}
use Rattle.pv_token.specs.Said.{Said, Name, Text, Keyword, Number, Character, Punctuator, Spelt}
use Rattle.pv_token.specs.Table.{Table, names_with, names_from}
use Rattle.pv_lex.specs.Rows.{start, tokens_among}
use Rattle.pv_lex.specs.Lexes.{Lexes}
use Rattle.pv_unit.specs.Identifiers.{IsIdentifier, HasIdentifiers}
use Rattle.pv_unit.specs.Units.{UnitComes, Typed}
use Rattle.pv_unit.proofs.NamedUnits.{unit_identifiers}
use Rattle.pv_journal_laws.specs.Naming.{IsNamed, HasNames}
use Rattle.pv_journal_laws.proofs.Identifiers.{AreIdentifiers, spelt_plain, named_from}

-- ---- no name stands twice

-- each of these is another text
abbrev IsNew : List ℕ → List (List ℕ) → Type 0
IsNew text names = Each (λ (name : List ℕ). name ≢ text) names

abbrev NoneTwice : List (List ℕ) → Type 0
NoneTwice [] = Unit {0}
NoneTwice (name ∷ names) = IsNew name names × NoneTwice names

new_more : (x y : List ℕ) (names : List (List ℕ)) → IsNew x names → y ≢ x → IsNew x (names ++ y ∷ [])
new_more x y [] h n = (n, tt)
new_more x y (z ∷ names) h n = (h.0, new_more x y names h.1 n)

none_more : (names : List (List ℕ)) (y : List ℕ) → IsNew y names → NoneTwice names → NoneTwice (names ++ y ∷ [])
none_more [] y n h = (tt, tt)
none_more (x ∷ names) y n h = (new_more x y names h.0 (λ e. n.0 (sym e)), none_more names y n.1 h.1)

-- a text that is found nowhere
not_any : (text : List ℕ) (names : List (List ℕ)) → list_any (pointwise nat_eq text) names ≡ false → IsNew text names
not_any text [] h = tt
not_any text (name ∷ names) h = by (pointwise nat_eq text name) refl h (not_any text names)
  where
    by : (b : Bool) → pointwise nat_eq text name ≡ b → (b || list_any (pointwise nat_eq text) names) ≡ false → (list_any (pointwise nat_eq text) names ≡ false → IsNew text names) → (name ≢ text) × IsNew text names
    by true e h g = absurd (false≢true (sym h))
    by false e h g = ((λ same. false≢true (sym e ∙ (bytes_eq-Decides text name).1 (sym same))), g h)

twice_with : (names : List (List ℕ)) (s : Said) → NoneTwice names → NoneTwice (names_with names s)
twice_with names (Keyword w) h = h
twice_with names (Name text) h = by (list_any (pointwise nat_eq text) names) refl
  where
    by : (b : Bool) → list_any (pointwise nat_eq text) names ≡ b → NoneTwice (cond b names (names ++ text ∷ []))
    by true e = h
    by false e = none_more names text (not_any text names e) h
twice_with names (Number v d u l) h = h
twice_with names (Character v) h = h
twice_with names (Text bytes) h = h
twice_with names (Punctuator m) h = h

twice_from : (names : List (List ℕ)) (ss : List Spelt) → NoneTwice names → NoneTwice (names_from names ss)
twice_from names [] h = h
twice_from names (s ∷ ss) h = twice_from (names_with names s.said) ss (twice_with names s.said h)

-- so no text has two numbers
new_at : (x : List ℕ) (names : List (List ℕ)) (i : ℕ) → IsNew x names → i < length names → text_of names i ≢ x
new_at x [] i h l = λ e. absurd (omega (arith, l))
new_at x (y ∷ names) zero h l = h.0
new_at x (y ∷ names) (suc i) h l = new_at x names i h.1 (omega (arith, l))

distinct_at : (names : List (List ℕ)) (i j : ℕ) → NoneTwice names → i < length names → j < length names → text_of names i ≡ text_of names j → i ≡ j
distinct_at [] i j h li lj e = absurd (omega (arith, li))
distinct_at (x ∷ names) zero zero h li lj e = refl
distinct_at (x ∷ names) zero (suc j) h li lj e = absurd (new_at x names j h.0 (omega (arith, lj)) (sym e))
distinct_at (x ∷ names) (suc i) zero h li lj e = absurd (new_at x names i h.0 (omega (arith, li)) e)
distinct_at (x ∷ names) (suc i) (suc j) h li lj e = ap suc (distinct_at names i j h.1 (omega (arith, li)) (omega (arith, lj)) e)

-- ---- the names of a unit

-- an identifier is neither of the names that no source has
other_text : (x : List ℕ) (names : List (List ℕ)) → is_identifier x ≡ false → AreIdentifiers names → IsNew x names
other_text x [] h a = tt
other_text x (y ∷ names) h a = ((λ e. false≢true (sym h ∙ ap is_identifier (sym e) ∙ a.0)), other_text x names h a.1)

identifier_name : (text : List ℕ) → is_identifier text ≡ true → is_name text ≡ true
identifier_name text h = ap (λ b. bytes_eq text (codes "@lit") || (bytes_eq text (codes "@heap") || b)) h ∙ or_true (bytes_eq text (codes "@lit")) (bytes_eq text (codes "@heap"))
  where
    or_true : (a b : Bool) → (a || (b || true)) ≡ true
    or_true true b = refl
    or_true false true = refl
    or_true false false = refl

each_named : (names : List (List ℕ)) (i : ℕ) → AreIdentifiers names → i < length names → is_name (text_of names i) ≡ true
each_named [] i h l = absurd (omega (arith, l))
each_named (x ∷ names) zero h l = identifier_name x h.0
each_named (x ∷ names) (suc i) h l = each_named names i h.1 (omega (arith, l))

each_so : {X : Type 0} (P Q : X → Type 0) → ((x : X) → P x → Q x) → (xs : List X) → Each P xs → Each Q xs
each_so P Q f [] h = tt
each_so P Q f (x ∷ xs) h = (f x h.0, each_so P Q f xs h.1)

-- behind the two names
behind_two : (t : Table) (n : ℕ) → AreIdentifiers t.names → IsIdentifier t n → IsNamed (literal_text ∷ heap_text ∷ t.names) n
behind_two t n a (i, (l, e)) =
    let names = literal_text ∷ heap_text ∷ t.names in
    let place : n ≡ suc (suc i) = omega (arith, e) in
    subst (IsNamed names) (sym place) (omega (arith, l), each_named t.names i a l)

identifiers_named : (t : Table) (u : WholeUnit) → AreIdentifiers t.names → NoneTwice t.names → HasIdentifiers t u → HasNames u
identifiers_named t u a once h =
    let names = literal_text ∷ heap_text ∷ t.names in
    let all : NoneTwice names = (((λ e. false≢true (ap (λ (l : List ℕ). nat_eq (length l) 4) e)), other_text literal_text t.names refl a), (other_text heap_text t.names refl a, once)) in
    let P : List (List ℕ) → Type 0 = λ l. IsNamed l 0 in
    record {
      distinct = record { distinct = λ i j li lj e. let g : (ns : List (List ℕ)) → NoneTwice ns → i < length ns → j < length ns → text_of ns i ≡ text_of ns j → i ≡ j = (λ ns. distinct_at ns i j) in g u.names (subst NoneTwice (sym h.names) all) li lj e };
      two = subst (λ (l : List (List ℕ)). 1 < length l) (sym h.names) (omega arith);
      literal = ap (λ l. text_of l 0) h.names;
      heap = ap (λ l. text_of l 1) h.names;
      objects = subst (λ l. Each (λ (x : TypedObject). IsNamed l x.name) u.objects) (sym h.names) (each_so (λ (x : TypedObject). IsIdentifier t x.name) (λ (x : TypedObject). IsNamed names x.name) (λ x. behind_two t x.name a) u.objects h.objects);
      functions = subst (λ l. Each (λ (x : TypedFunction). IsNamed l x.name) u.functions) (sym h.names) (each_so (λ (x : TypedFunction). IsIdentifier t x.name) (λ (x : TypedFunction). IsNamed names x.name) (λ x. behind_two t x.name a) u.functions h.functions);
    }

tokens_named : (source : List ℕ) (t : Table) (u : WholeUnit) → Lexes source t → HasIdentifiers t u → HasNames u
tokens_named source t u l h =
    let ss = tokens_among (length source) (start source) l.pieces in
    identifiers_named t u (subst AreIdentifiers (sym l.tells.names) (named_from [] ss tt (spelt_plain (length source) (start source) l.last l.pieces l.row))) (subst NoneTwice (sym l.tells.names) (twice_from [] ss tt)) h

pub units_named : (source : List ℕ) (t : Table) (ds : List DeclarationTree) (m : Stored) → Lexes source t → UnitComes t ds (Typed (whole_unit m)) → AreKnown m → HasNames (whole_unit m)
units_named source t ds m l h k = tokens_named source t (whole_unit m) l (unit_identifiers t ds m h k)
