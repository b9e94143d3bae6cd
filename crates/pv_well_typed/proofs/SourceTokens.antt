-- A source's table of tokens (C17 6.4): its identifiers are different ones, its texts are bytes, and trees that spell it have character
-- constants that are `int`s; so the unit that comes of it is well typed.
use Rattle.std.proofs.Common.{◌≡◌, ℕ, zero, suc, ◌<◌, ◌≤◌, ◌+◌, ◌^◌, Bool, true, false, ◌&&◌, ◌||◌, Option, Some, None, List, [], ◌∷◌, ◌++◌, length, drop, map, get_or, option_map, nat_eq, refl, sym, ap, subst, ◌∙◌, arith, length-append, ◌⊎◌, inl, inr}
use Rattle.std.specs.Prelude.{if◌then◌else◌}
use Rattle.std.specs.List.{list_any}
use Rattle.std.specs.Cmp.Lexicographic.{pointwise}
use Rattle.std.proofs.lemmas.Bool.{eq-eqb}
use Rattle.pv_token.specs.declared.token_table.Token.{Token}
use Rattle.pv_token.specs.declared.token_table.TokenKind.{TokenKind}
use Rattle.pv_token.specs.declared.token_table.TokenKind.TheVariants as kind
use Rattle.pv_token.specs.Said.{Said, Name, Text, Keyword, Number, Character, Punctuator, Spelt}
use Rattle.pv_token.specs.Table.{Table, says, spelt_of, names_with, names_from, text_of, Tells}
use Rattle.pv_token.specs.TableParts.{with_name, texts_of}
use Rattle.pv_tree.specs.Fitting.{past}
use Rattle.pv_tree.specs.Grammar.{kinds}
use Rattle.pv_tree.specs.Spelling.{declaration_tokens}
use Rattle.pv_tree.specs.Syntax.{DeclarationTree}
use Rattle.pv_tree.specs.Units.{SpellExternals, SpellUnit, no_types, with_types}
use Rattle.pv_typed.specs.Known.{Each}
use Rattle.pv_typed.specs.TypedUnits.{WholeUnit}
use Rattle.pv_typed.proofs.Each.{each_append, each_left, each_right}
use Rattle.pv_unit.specs.Units.{Typed, UnitComes}
use Rattle.pv_guards.specs.TypedStatements.{IsTypedUnit}
use Rattle.pv_well_typed.proofs.SourceCharacters.{DeclarationCharacters}
use Rattle.pv_well_typed.proofs.Sources.{AreBytes, letters, IsSourceToken}
use Rattle.pv_well_typed.proofs.Operands.{some-same}
use Rattle.pv_well_typed.proofs.PrimaryRows.{last-at}
use Rattle.pv_well_typed.proofs.Changes.{before-at}
use Rattle.pv_well_typed.proofs.Moving.{AreTexts}
use Rattle.pv_well_typed.proofs.TokenCharacters.{IsIntToken, declaration-ints}
use Rattle.pv_well_typed.proofs.UnitEnd.{AreApart, typed-unit}

-- ---- identifiers (6.4.2.1p5)

pointwise-itself : (a : List ℕ) → pointwise nat_eq a a ≡ true
pointwise-itself [] = refl
pointwise-itself (x ∷ a) = both-hold (nat_eq x x) (pointwise nat_eq a a) (eq-eqb x x refl) (pointwise-itself a)
  where
    both-hold : (b d : Bool) → b ≡ true → d ≡ true → (b && d) ≡ true
    both-hold true d p q = q
    both-hold false d p q = p

neither : (a b : Bool) → (a || b) ≡ false → (a ≡ false) × (b ≡ false)
neither true b e = absurd cc
neither false b e = (refl, e)

none-is : (names : List (List ℕ)) (x : List ℕ) → list_any (pointwise nat_eq x) names ≡ false → (i : ℕ) → i < length names → get_or names i [] ≡ x → ⊥
none-is [] x e i lt q = omega (arith, lt)
none-is (y ∷ ys) x e zero lt q =
    let p = (neither (pointwise nat_eq x y) (list_any (pointwise nat_eq x) ys) e).0 in
    let both : true ≡ false = sym (subst (λ z. pointwise nat_eq x z ≡ true) (sym q) (pointwise-itself x)) ∙ p in
    absurd cc
none-is (y ∷ ys) x e (suc i) lt q = none-is ys x (neither (pointwise nat_eq x y) (list_any (pointwise nat_eq x) ys) e).1 i (omega (arith, lt)) q

apart-none : AreApart []
apart-none i j lt few e = absurd (omega (arith, lt))

apart-more : (names : List (List ℕ)) (x : List ℕ) → list_any (pointwise nat_eq x) names ≡ false → AreApart names → AreApart (names ++ (x ∷ []))
apart-more names x e h i j lt few q = by (either i (length names)) (either j (length names)) (length-append names (x ∷ []))
  where
    either : (o n : ℕ) → (o < n) ⊎ (n ≤ o)
    either o n = grind arith

    last : (k : ℕ) → length names ≤ k → k < length (names ++ (x ∷ [])) → length (names ++ (x ∷ [])) ≡ length names + 1 → get_or (names ++ (x ∷ [])) k [] ≡ x
    last k le lt l = subst (λ m. get_or (names ++ (x ∷ [])) m [] ≡ x) (omega (arith, le, lt, l)) (last-at [] names x)

    by : (i < length names) ⊎ (length names ≤ i) → (j < length names) ⊎ (length names ≤ j) → length (names ++ (x ∷ [])) ≡ length names + 1 → i ≡ j
    by (inl a) (inl b) l = h i j a b (sym (before-at [] names (x ∷ []) i a) ∙ q ∙ before-at [] names (x ∷ []) j b)
    by (inl a) (inr b) l = absurd (none-is names x e i a (sym (before-at [] names (x ∷ []) i a) ∙ q ∙ last j b few l))
    by (inr a) (inl b) l = absurd (none-is names x e j b (sym (before-at [] names (x ∷ []) j b) ∙ sym q ∙ last i a lt l))
    by (inr a) (inr b) l = omega (arith, a, b, lt, few, l)

with-name-apart : (names : List (List ℕ)) (x : List ℕ) → AreApart names → AreApart (with_name names x)
with-name-apart names x h = by (list_any (pointwise nat_eq x) names) refl
  where
    by : (b : Bool) → list_any (pointwise nat_eq x) names ≡ b → AreApart (if b then names else names ++ (x ∷ []))
    by true e = h
    by false e = apart-more names x e h

names-with-apart : (names : List (List ℕ)) (s : Said) → AreApart names → AreApart (names_with names s)
names-with-apart names (Keyword w) h = h
names-with-apart names (Name text) h = with-name-apart names text h
names-with-apart names (Number value decimal unsigned longs) h = h
names-with-apart names (Character value) h = h
names-with-apart names (Text bytes) h = h
names-with-apart names (Punctuator m) h = h

names-from-apart : (names : List (List ℕ)) (ss : List Spelt) → AreApart names → AreApart (names_from names ss)
names-from-apart names [] h = h
names-from-apart names (s ∷ ss) h = names-from-apart (names_with names s.said) ss (names-with-apart names s.said h)

-- ---- string literals (6.4.5)

text-bytes : (s : Said) → IsSourceToken s → Each AreBytes (text_of s)
text-bytes (Keyword w) h = tt
text-bytes (Name text) h = tt
text-bytes (Number value decimal unsigned longs) h = tt
text-bytes (Character value) h = tt
text-bytes (Text bytes) h = (h, tt)
text-bytes (Punctuator m) h = tt

texts-bytes : (ss : List Spelt) → Each (λ (s : Spelt). IsSourceToken s.said) ss → Each AreBytes (texts_of ss)
texts-bytes [] h = tt
texts-bytes (s ∷ ss) h = each_append AreBytes (text_of s.said) (texts_of ss) (text-bytes s.said h.0) (texts-bytes ss h.1)

-- ---- character constants (6.4.4.4)

token-int : (names texts : List (List ℕ)) (t : Token) (s : Spelt) → spelt_of names texts t ≡ Some s → IsSourceToken s.said → IsIntToken t.kind
token-int names texts t s e h = by t.kind e
  where
    by : (k : TokenKind) → option_map (λ (x : Said). record { said = x; start = t.start; line = t.line }) (says names texts k) ≡ Some s → IsIntToken k
    by (kind.Word w) e = tt
    by (kind.Name n) e = tt
    by (kind.Number value decimal unsigned longs) e = tt
    by (kind.Character value) e = subst IsSourceToken (sym (ap (λ (z : Spelt). z.said) (some-same (record { said = Character value; start = t.start; line = t.line }) s e))) h
    by (kind.Text n) e = tt
    by (kind.Mark m) e = tt

tokens-ints : (names texts : List (List ℕ)) (ts : List Token) (ss : List Spelt) → map (spelt_of names texts) ts ≡ map Some ss → Each (λ (s : Spelt). IsSourceToken s.said) ss → Each IsIntToken (kinds ts)
tokens-ints names texts [] ss e h = tt
tokens-ints names texts (t ∷ ts) [] e h = absurd cc
tokens-ints names texts (t ∷ ts) (s ∷ ss) e h =
    (token-int names texts t s (ap (λ (xs : List (Option Spelt)). get_or xs 0 None) e) h.0, tokens-ints names texts ts ss (ap (λ (xs : List (Option Spelt)). drop 1 xs) e) h.1)

spelled-ints : (types : ℕ → Bool) (ds : List DeclarationTree) (here left : List Token) → SpellExternals types ds here left → Each IsIntToken (kinds here) → Each DeclarationCharacters ds
spelled-ints types [] here left s h = tt
spelled-ints types (d ∷ ds) here left s h =
    let parts = subst (Each IsIntToken) s.0.is h in (
      declaration-ints d (each_left IsIntToken (declaration_tokens d) (kinds (past (declaration_tokens d) here)) parts),
      spelled-ints (with_types types d) ds (past (declaration_tokens d) here) left s.1 (each_right IsIntToken (declaration_tokens d) (kinds (past (declaration_tokens d) here)) parts),
    )

-- ---- 6.9: a unit that comes of a source's tokens is well typed
pub typed-source : (t : Table) (ss : List Spelt) (ds : List DeclarationTree) (v : WholeUnit) → Tells t ss → Each (λ (s : Spelt). IsSourceToken s.said) ss → letters (texts_of ss) < 2 ^ 32 → SpellUnit t.tokens ds → UnitComes t ds (Typed v)
    → IsTypedUnit v
typed-source t ss ds v tells said few spelled comes =
    typed-unit t ds v comes (subst AreApart (sym tells.names) (names-from-apart [] ss apart-none)) (subst AreTexts (sym tells.texts) (texts-bytes ss said, few))
    (spelled-ints no_types ds t.tokens [] spelled (tokens-ints t.names t.texts t.tokens ss tells.tokens said))
