-- The table that tells a source's tokens: there is one, and there is no other.
use Rattle.std.proofs.Common.{◌≡◌, ℕ, ◌<◌, zero, suc, ◌⊎◌, inl, inr, List, [], ◌∷◌, ◌++◌, length, map, Bool, true, false, ◌||◌, Option, Some, None, nat_eq, refl, sym, ap, ◌∙◌, append_assoc, subst, arith}
use Rattle.std.specs.Prelude.{if◌then◌else◌, slice_get}
use Rattle.std.specs.Option.{option_map}
use Rattle.std.specs.List.{flat_map, list_any}
use Rattle.std.specs.Cmp.Lexicographic.{pointwise}
use Rattle.std.proofs.lemmas.List.{append-nil}
use Rattle.std.proofs.lemmas.Slice.Eq.{bytes_eq-Decides}
use Rattle.pv_token.specs.declared.token_table.Token.{Token}
use Rattle.pv_token.specs.declared.token_table.TokenKind.{TokenKind}
use Rattle.pv_token.specs.declared.token_table.TokenKind.TheVariants as kind
use Rattle.pv_token.specs.Said.{Said, Name, Text, Keyword, Number, Character, Punctuator, Spelt}
use Rattle.pv_token.specs.Table.{Table, Tells, says, spelt_of, names_with, names_from, text_number}
use Rattle.pv_token.specs.TableParts.{with_name}
use Rattle.pv_token.specs.Kept.{Adds, IsKnown, KnowsAll}
use Rattle.pv_token.proofs.Growing.{adds_plain, adds_name, adds_text, with_token, spelt_as, last_text}

-- There is a table.

any_by : (text name : List ℕ) (names : List (List ℕ)) (t : Bool) → pointwise nat_eq text name ≡ t → (list_any (pointwise nat_eq text) names ≡ true → (n : ℕ) × (slice_get names n ≡ Some text)) → (t || list_any (pointwise nat_eq text) names) ≡ true → (n : ℕ) × (slice_get (name ∷ names) n ≡ Some text)
any_by text name names true same more e = (zero, ap Some (sym ((bytes_eq-Decides text name).0 same)))
any_by text name names false same more e = let h = more e in (suc h.0, h.1)

any_at : (text : List ℕ) (names : List (List ℕ)) → list_any (pointwise nat_eq text) names ≡ true → (n : ℕ) × (slice_get names n ≡ Some text)
any_at text [] e = absurd cc
any_at text (name ∷ names) e = any_by text name names (pointwise nat_eq text name) refl (any_at text names) e

name_number : (names : List (List ℕ)) (text : List ℕ) → (n : ℕ) × (slice_get (with_name names text) n ≡ Some text)
name_number names text = by (list_any (pointwise nat_eq text) names) refl
  where
    by : (t : Bool) → list_any (pointwise nat_eq text) names ≡ t → (n : ℕ) × (slice_get (if t then names else names ++ text ∷ []) n ≡ Some text)
    by true e = any_at text names e
    by false e = (length names, last_text names text)

one_more : (t : Table) (s : Said) (start line : ℕ) → (u : Table) × Adds t u (spelt_as s start line ∷ [])
one_more t (Keyword w) start line = (with_token t (kind.Word w) start line, adds_plain t _ (kind.Word w) (Keyword w) start line (λ ns xs. refl) (λ ns. refl) refl refl refl)
one_more t (Name text) start line =
    let at = name_number t.names text in
    (with_token (record t { names = with_name t.names text }) (kind.Name at.0) start line, adds_name t _ (with_name t.names text) at.0 text start line refl at.1 refl)
one_more t (Number v d u l) start line = (with_token t (kind.Number v d u l) start line, adds_plain t _ (kind.Number v d u l) (Number v d u l) start line (λ ns xs. refl) (λ ns. refl) refl refl refl)
one_more t (Character v) start line = (with_token t (kind.Character v) start line, adds_plain t _ (kind.Character v) (Character v) start line (λ ns xs. refl) (λ ns. refl) refl refl refl)
one_more t (Text bytes) start line = (with_token (record t { texts = t.texts ++ bytes ∷ [] }) (kind.Text (length t.texts)) start line, adds_text t _ (t.texts ++ bytes ∷ []) (length t.texts) bytes start line refl refl refl)
one_more t (Punctuator m) start line = (with_token t (kind.Mark m) start line, adds_plain t _ (kind.Mark m) (Punctuator m) start line (λ ns xs. refl) (λ ns. refl) refl refl refl)

all_more : (more ss : List Spelt) (t : Table) → Tells t ss → (u : Table) × Tells u (ss ++ more)
all_more [] ss t told = (t, subst (Tells t) (sym (append-nil ss)) told)
all_more (s ∷ more) ss t told =
    let m = one_more t s.said s.start s.line in
    let r = all_more more (ss ++ s ∷ []) m.0 (m.1 ss told) in
    (r.0, subst (Tells r.0) (append_assoc ss (s ∷ []) more) r.1)

-- each list of tokens is told by some table
pub table_exists : (ss : List Spelt) → (t : Table) × Tells t ss
table_exists ss = all_more ss [] (record { tokens = []; names = []; texts = [] }) (record { tokens = refl; names = refl; texts = refl; in_order = refl })

-- There is no other.

abbrev Distinct : List (List ℕ) → Type 0
Distinct names = (i j : ℕ) (x : List ℕ) → slice_get names i ≡ Some x → slice_get names j ≡ Some x → i ≡ j

any_of : (text : List ℕ) (names : List (List ℕ)) (i : ℕ) → slice_get names i ≡ Some text → list_any (pointwise nat_eq text) names ≡ true
any_of text [] i e = absurd cc
any_of text (name ∷ names) zero e =
    let k : text ≡ name = cc in
    ap (λ t. t || list_any (pointwise nat_eq text) names) ((bytes_eq-Decides text name).1 k)
any_of text (name ∷ names) (suc i) e = by (pointwise nat_eq text name) (any_of text names i e)
  where
    by : (t : Bool) → list_any (pointwise nat_eq text) names ≡ true → (t || list_any (pointwise nat_eq text) names) ≡ true
    by true h = refl
    by false h = h

-- where a name stands among others and one more
abbrev Stays : List (List ℕ) → List ℕ → ℕ → List ℕ → Type 0
Stays names name i x = (slice_get names i ≡ Some x) ⊎ ((i ≡ length names) × (name ≡ x))

push_at : (names : List (List ℕ)) (name : List ℕ) (i : ℕ) (x : List ℕ) → slice_get (names ++ name ∷ []) i ≡ Some x → Stays names name i x
push_at [] name zero x e = let k : name ≡ x = cc in inr (refl, k)
push_at [] name (suc i) x e = absurd cc
push_at (y ∷ names) name zero x e = inl e
push_at (y ∷ names) name (suc i) x e = next (push_at names name i x e)
  where
    next : Stays names name i x → Stays (y ∷ names) name (suc i) x
    next (inl h) = inl h
    next (inr h) = inr (ap suc h.0, h.1)

new_name : (names : List (List ℕ)) (name : List ℕ) → list_any (pointwise nat_eq name) names ≡ false → Distinct names → Distinct (names ++ name ∷ [])
new_name names name fresh d i j x hi hj = by (push_at names name i x hi) (push_at names name j x hj)
  where
    among : (k : ℕ) → slice_get names k ≡ Some x → name ≡ x → ⊥
    among k h same = let t = any_of name names k (h ∙ ap Some (sym same)) in absurd cc

    by : Stays names name i x → Stays names name j x → i ≡ j
    by (inl a) (inl b) = d i j x a b
    by (inl a) (inr b) = absurd (among i a b.1)
    by (inr a) (inl b) = absurd (among j b a.1)
    by (inr a) (inr b) = a.0 ∙ sym b.0

distinct_name : (names : List (List ℕ)) (name : List ℕ) → Distinct names → Distinct (with_name names name)
distinct_name names name d = by (list_any (pointwise nat_eq name) names) refl
  where
    by : (t : Bool) → list_any (pointwise nat_eq name) names ≡ t → Distinct (if t then names else names ++ name ∷ [])
    by true e = d
    by false e = new_name names name e d

distinct_with : (names : List (List ℕ)) (s : Said) → Distinct names → Distinct (names_with names s)
distinct_with names (Keyword w) d = d
distinct_with names (Name text) d = distinct_name names text d
distinct_with names (Number v u w l) d = d
distinct_with names (Character v) d = d
distinct_with names (Text bytes) d = d
distinct_with names (Punctuator m) d = d

distinct_from : (names : List (List ℕ)) (ss : List Spelt) → Distinct names → Distinct (names_from names ss)
distinct_from names [] d = d
distinct_from names (s ∷ ss) d = distinct_from (names_with names s.said) ss (distinct_with names s.said d)

-- what the kind of a token that says s is
abbrev IsKind : (names : List (List ℕ)) → Said → TokenKind → Type 0
IsKind names (Keyword w) k = k ≡ kind.Word w
IsKind names (Name text) k = (n : ℕ) × (k ≡ kind.Name n) × (slice_get names n ≡ Some text)
IsKind names (Number v d u l) k = k ≡ kind.Number v d u l
IsKind names (Character v) k = k ≡ kind.Character v
IsKind names (Text bytes) k = (n : ℕ) × (k ≡ kind.Text n)
IsKind names (Punctuator m) k = k ≡ kind.Mark m

name_says : (names : List (List ℕ)) (n : ℕ) (o : Option (List ℕ)) (s : Said) → slice_get names n ≡ o → option_map Name o ≡ Some s → IsKind names s (kind.Name n)
name_says names n None s at e = absurd cc
name_says names n (Some text) s at e = let k : Name text ≡ s = cc in subst (λ (z : Said). IsKind names z (kind.Name n)) k (n, refl, at)

text_says : (names : List (List ℕ)) (n : ℕ) (o : Option (List ℕ)) (s : Said) → option_map Text o ≡ Some s → IsKind names s (kind.Text n)
text_says names n None s e = absurd cc
text_says names n (Some text) s e = let k : Text text ≡ s = cc in subst (λ (z : Said). IsKind names z (kind.Text n)) k (n, refl)

says_kind : (names texts : List (List ℕ)) (k : TokenKind) (s : Said) → says names texts k ≡ Some s → IsKind names s k
says_kind names texts (kind.Word w) s e = let k : Keyword w ≡ s = cc in subst (λ (z : Said). IsKind names z (kind.Word w)) k refl
says_kind names texts (kind.Name n) s e = name_says names n (slice_get names n) s refl e
says_kind names texts (kind.Number v d u l) s e = let k : Number v d u l ≡ s = cc in subst (λ (z : Said). IsKind names z (kind.Number v d u l)) k refl
says_kind names texts (kind.Character v) s e = let k : Character v ≡ s = cc in subst (λ (z : Said). IsKind names z (kind.Character v)) k refl
says_kind names texts (kind.Text n) s e = text_says names n (slice_get texts n) s e
says_kind names texts (kind.Mark m) s e = let k : Punctuator m ≡ s = cc in subst (λ (z : Said). IsKind names z (kind.Mark m)) k refl

-- one kind, and the numbers of literals behind it are the same
abbrev SameKind : TokenKind → TokenKind → List ℕ → List ℕ → Type 0
SameKind k j ms bs = (k ≡ j) × (ms ≡ bs)

one_kind : (k j m : TokenKind) (ms bs : List ℕ) → text_number m ≡ [] → k ≡ m → j ≡ m → text_number k ++ ms ≡ text_number j ++ bs → SameKind k j ms bs
one_kind k j m ms bs none a b e =
    let front : text_number k ≡ [] = ap text_number a ∙ none in
    let back : text_number j ≡ [] = ap text_number b ∙ none in
    (a ∙ sym b, ap (λ l. l ++ ms) (sym front) ∙ e ∙ ap (λ l. l ++ bs) back)

kinds_same : (names : List (List ℕ)) → Distinct names → (s : Said) (k j : TokenKind) (ms bs : List ℕ) → IsKind names s k → IsKind names s j → text_number k ++ ms ≡ text_number j ++ bs → SameKind k j ms bs
kinds_same names d (Keyword w) k j ms bs a b e = one_kind k j (kind.Word w) ms bs refl a b e
kinds_same names d (Name text) k j ms bs a b e = one_kind k j (kind.Name a.0) ms bs refl a.1 (b.1 ∙ ap kind.Name (d b.0 a.0 text b.2 a.2)) e
kinds_same names d (Number v u w l) k j ms bs a b e = one_kind k j (kind.Number v u w l) ms bs refl a b e
kinds_same names d (Character v) k j ms bs a b e = one_kind k j (kind.Character v) ms bs refl a b e
kinds_same names d (Text bytes) k j ms bs a b e =
    let f : a.0 ∷ ms ≡ b.0 ∷ bs = ap (λ z. text_number z ++ ms) (sym a.1) ∙ e ∙ ap (λ z. text_number z ++ bs) b.1 in
    let head : a.0 ≡ b.0 = cc in
    let tail : ms ≡ bs = cc in
    (a.1 ∙ ap kind.Text head ∙ sym b.1, tail)
kinds_same names d (Punctuator m) k j ms bs a b e = one_kind k j (kind.Mark m) ms bs refl a b e

-- what a token of the source is
pub record IsSpelt (names texts : List (List ℕ)) (t : Token) (s : Spelt) : Type 0 where
  pub said : says names texts t.kind ≡ Some s.said
  pub start : t.start ≡ s.start
  pub line : t.line ≡ s.line

pub spelt_is : (names texts : List (List ℕ)) (t : Token) (s : Spelt) → spelt_of names texts t ≡ Some s → IsSpelt names texts t s
spelt_is names texts t s e = by (says names texts t.kind) refl e
  where
    by : (o : Option Said) → says names texts t.kind ≡ o → option_map (λ (x : Said). record { said = x; start = t.start; line = t.line }) o ≡ Some s → IsSpelt names texts t s
    by None h e = absurd cc
    by (Some x) h e =
        let k : spelt_as x t.start t.line ≡ s = cc in
        record { said = h ∙ ap (λ (z : Spelt). Some z.said) k; start = ap (λ (z : Spelt). z.start) k; line = ap (λ (z : Spelt). z.line) k }

token_same : (t u : Token) → t.kind ≡ u.kind → t.start ≡ u.start → t.line ≡ u.line → t ≡ u
token_same t u k s l = ap (λ (z : TokenKind). record t { kind = z }) k ∙ ap (λ (z : ℕ). record { kind = u.kind; start = z; line = t.line }) s ∙ ap (λ (z : ℕ). record u { line = z }) l

tokens_same : (names texts : List (List ℕ)) → Distinct names → (ts us : List Token) (ss : List Spelt) → map (spelt_of names texts) ts ≡ map Some ss → map (spelt_of names texts) us ≡ map Some ss
    → flat_map (λ k. text_number k.kind) ts ≡ flat_map (λ k. text_number k.kind) us → ts ≡ us
tokens_same names texts d [] [] ss a b e = refl
tokens_same names texts d [] (u ∷ us) [] a b e = absurd cc
tokens_same names texts d [] (u ∷ us) (s ∷ ss) a b e = absurd cc
tokens_same names texts d (t ∷ ts) [] [] a b e = absurd cc
tokens_same names texts d (t ∷ ts) [] (s ∷ ss) a b e = absurd cc
tokens_same names texts d (t ∷ ts) (u ∷ us) [] a b e = absurd cc
tokens_same names texts d (t ∷ ts) (u ∷ us) (s ∷ ss) a b e =
    let t_says : spelt_of names texts t ≡ Some s = cc in
    let u_says : spelt_of names texts u ≡ Some s = cc in
    let ts_say : map (spelt_of names texts) ts ≡ map Some ss = cc in
    let us_say : map (spelt_of names texts) us ≡ map Some ss = cc in
    let x = spelt_is names texts t s t_says in
    let y = spelt_is names texts u s u_says in
    let k = kinds_same names d s.said t.kind u.kind (flat_map (λ (z : Token). text_number z.kind) ts) (flat_map (λ (z : Token). text_number z.kind) us) (says_kind names texts t.kind s.said x.said) (says_kind names texts u.kind s.said y.said) e in
    let head = token_same t u k.0 (x.start ∙ sym y.start) (x.line ∙ sym y.line) in
    ap (λ (z : Token). z ∷ ts) head ∙ ap (λ l. u ∷ l) (tokens_same names texts d ts us ss ts_say us_say k.1)

table_same : (t u : Table) → t.tokens ≡ u.tokens → t.names ≡ u.names → t.texts ≡ u.texts → t ≡ u
table_same t u ts n x = ap (λ (z : List Token). record t { tokens = z }) ts ∙ ap (λ (z : List (List ℕ)). record { tokens = u.tokens; names = z; texts = t.texts }) n ∙ ap (λ (z : List (List ℕ)). record u { texts = z }) x

-- two tables that tell the same tokens are one
pub tells_same : (t u : Table) (ss : List Spelt) → Tells t ss → Tells u ss → t ≡ u
tells_same t u ss a b =
    let n : t.names ≡ u.names = a.names ∙ sym b.names in
    let x : t.texts ≡ u.texts = a.texts ∙ sym b.texts in
    let told : map (spelt_of t.names t.texts) u.tokens ≡ map Some ss = rw (n, x) b.tokens in
    let numbers : flat_map (λ (k : Token). text_number k.kind) t.tokens ≡ flat_map (λ (k : Token). text_number k.kind) u.tokens = a.in_order ∙ rw x (sym b.in_order) in
    let d : Distinct t.names = subst Distinct (sym a.names) (distinct_from [] ss (λ i j y e f. absurd cc)) in
    let ts = tokens_same t.names t.texts d t.tokens u.tokens ss a.tokens told numbers in
    table_same t u ts n x

-- Numbers may be looked up.

got_within : (xs : List (List ℕ)) (n : ℕ) (f : List ℕ → Said) (s : Said) → option_map f (slice_get xs n) ≡ Some s → n < length xs
got_within [] n f s e = absurd cc
got_within (x ∷ xs) zero f s e = omega arith
got_within (x ∷ xs) (suc n) f s e = let h = got_within xs n f s e in omega arith

says_known : (t : Table) (k : TokenKind) (s : Said) → says t.names t.texts k ≡ Some s → IsKnown t k
says_known t (kind.Word w) s e = tt
says_known t (kind.Name n) s e = got_within t.names n Name s e
says_known t (kind.Number v d u l) s e = tt
says_known t (kind.Character v) s e = tt
says_known t (kind.Text n) s e = got_within t.texts n Text s e
says_known t (kind.Mark m) s e = tt

known_at : (t : Table) (ts : List Token) (ss : List Spelt) (i : ℕ) (k : Token) → map (spelt_of t.names t.texts) ts ≡ map Some ss → slice_get ts i ≡ Some k → IsKnown t k.kind
known_at t [] ss i k told e = absurd cc
known_at t (x ∷ ts) [] i k told e = absurd cc
known_at t (x ∷ ts) (s ∷ ss) zero k told e =
    let same : x ≡ k = cc in
    let head : spelt_of t.names t.texts x ≡ Some s = cc in
    subst (λ (z : Token). IsKnown t z.kind) same (says_known t x.kind s.said (spelt_is t.names t.texts x s head).said)
known_at t (x ∷ ts) (s ∷ ss) (suc i) k told e =
    let tail : map (spelt_of t.names t.texts) ts ≡ map Some ss = cc in
    known_at t ts ss i k tail e

-- a table that tells some tokens knows the number of each
pub tells_known : (t : Table) (ss : List Spelt) → Tells t ss → KnowsAll t
tells_known t ss told = λ i k e. known_at t t.tokens ss i k told.tokens e
