-- What a table tells when a token is added.
use Rattle.std.proofs.Common.{◌≡◌, ℕ, zero, suc, ◌+◌, List, [], ◌∷◌, ◌++◌, length, map, Bool, true, false, ◌||◌, Option, Some, None, nat_eq, refl, sym, ap, ◌∙◌, length-append, get_or, subst, arith, Vec, Global}
use Rattle.std.specs.Prelude.{if◌then◌else◌, slice_get, position}
use Rattle.std.specs.Option.{option_map}
use Rattle.std.specs.List.{flat_map, list_any, range_with_len}
use Rattle.std.specs.Cmp.Lexicographic.{pointwise}
use Rattle.std.proofs.lemmas.List.{append-nil, map-append, map_push}
use Rattle.std.proofs.lemmas.Grind.{flat_map-append}
use Rattle.std.proofs.lemmas.Option.{slice_get-map, slice_get-get_or}
use Rattle.std.proofs.lemmas.List.Quantifiers.{position-Some}
use Rattle.std.proofs.lemmas.Slice.Eq.{bytes_eq-Decides}
use Rattle.indexmap.specs.IndexSet.{insert_key}
use Rattle.pv_token.specs.declared.token_table.Token.{Token}
use Rattle.pv_token.specs.declared.token_table.TokenKind.{TokenKind}
use Rattle.pv_token.specs.declared.token_table.TokenKind.TheVariants as kind
use Rattle.pv_token.specs.Said.{Said, Name, Text, Keyword, Number, Character, Punctuator, Spelt}
use Rattle.pv_token.specs.Table.{Table, says, spelt_of, names_with, names_from, text_of, text_number}
use Rattle.pv_token.specs.TableParts.{with_name, texts_of}
use Rattle.pv_token.specs.Kept.{Adds}

abbrev bytes_of : Vec ℕ Global → List ℕ
bytes_of v = v.items

same_any : (k : List ℕ) (ks : List (Vec ℕ Global)) → list_any (λ (v : Vec ℕ Global). pointwise nat_eq k v.items) ks ≡ list_any (pointwise nat_eq k) (map bytes_of ks)
same_any k [] = refl
same_any k (v ∷ ks) = ap (λ t. pointwise nat_eq k v.items || t) (same_any k ks)

pub keys_named : (ks : List (Vec ℕ Global)) (k : Vec ℕ Global) → map bytes_of (insert_key (λ (x y : Vec ℕ Global). pointwise nat_eq x.items y.items) ks k) ≡ with_name (map bytes_of ks) k.items
keys_named ks k = rw (sym (same_any k.items ks)) (by (list_any (λ (v : Vec ℕ Global). pointwise nat_eq k.items v.items) ks))
  where
    by : (t : Bool) → map bytes_of (if t then ks else ks ++ k ∷ []) ≡ (if t then map bytes_of ks else map bytes_of ks ++ k.items ∷ [])
    by true = refl
    by false = map_push bytes_of ks k

found_at : (p : Vec ℕ Global → Bool) (ks : List (Vec ℕ Global)) (i : ℕ) → position p ks ≡ Some i → (k : Vec ℕ Global) × (slice_get ks i ≡ Some k) × (p k ≡ true)
found_at p [] i e = absurd cc
found_at p (v ∷ vs) i e = let h = position-Some p (v ∷ vs) i v e in (get_or (v ∷ vs) i v, slice_get-get_or (v ∷ vs) i v h.0, h.1)

any_at : (p : Vec ℕ Global → Bool) (ks : List (Vec ℕ Global)) (i : ℕ) (k : Vec ℕ Global) → slice_get ks i ≡ Some k → p k ≡ true → list_any p ks ≡ true
any_at p [] i k e h = absurd cc
any_at p (v ∷ vs) zero k e h = let same : k ≡ v = cc in ap (λ t. t || list_any p vs) (subst (λ (z : Vec ℕ Global). p z ≡ true) same h)
any_at p (v ∷ vs) (suc i) k e h = by (p v) (any_at p vs i k e h)
  where
    by : (t : Bool) → list_any p vs ≡ true → (t || list_any p vs) ≡ true
    by true h = refl
    by false h = h

-- a name that is known is found at its number
pub known_name : (ks : List (Vec ℕ Global)) (text : List ℕ) (i : ℕ) → position (λ (v : Vec ℕ Global). pointwise nat_eq text v.items) ks ≡ Some i → (map bytes_of ks ≡ with_name (map bytes_of ks) text) × (slice_get (map bytes_of ks) i ≡ Some text)
known_name ks text i e = (sym (ap (λ t. if t then map bytes_of ks else map bytes_of ks ++ text ∷ []) (sym (same_any text ks) ∙ any)), at)
  where
    found : (k : Vec ℕ Global) × (slice_get ks i ≡ Some k) × (pointwise nat_eq text k.items ≡ true)
    found = found_at (λ (v : Vec ℕ Global). pointwise nat_eq text v.items) ks i e

    any : list_any (λ (v : Vec ℕ Global). pointwise nat_eq text v.items) ks ≡ true
    any = any_at (λ (v : Vec ℕ Global). pointwise nat_eq text v.items) ks i found.0 found.1 found.2

    at : slice_get (map bytes_of ks) i ≡ Some text
    at = slice_get-map bytes_of ks i ∙ ap (option_map bytes_of) found.1 ∙ ap Some (sym ((bytes_eq-Decides text found.0.items).0 found.2))

pub number_named : (ks : List (Vec ℕ Global)) (i : ℕ) (k v : Vec ℕ Global) → slice_get ks i ≡ Some k → pointwise nat_eq v.items k.items ≡ true → slice_get (map bytes_of ks) i ≡ Some v.items
number_named ks i k v at same = slice_get-map bytes_of ks i ∙ ap (option_map bytes_of) at ∙ ap Some (sym ((bytes_eq-Decides v.items k.items).0 same))

looked : (f : List ℕ → Said) (xs ys : List (List ℕ)) (i : ℕ) (s : Said) → option_map f (slice_get xs i) ≡ Some s → option_map f (slice_get (xs ++ ys) i) ≡ Some s
looked f [] ys i s e = absurd cc
looked f (z ∷ xs) ys zero s e = e
looked f (z ∷ xs) ys (suc i) s e = looked f xs ys i s e

says_more : (ns ms xs ys : List (List ℕ)) (k : TokenKind) (s : Said) → says ns xs k ≡ Some s → says (ns ++ ms) (xs ++ ys) k ≡ Some s
says_more ns ms xs ys (kind.Word w) s e = e
says_more ns ms xs ys (kind.Name n) s e = looked Name ns ms n s e
says_more ns ms xs ys (kind.Number value decimal unsigned longs) s e = e
says_more ns ms xs ys (kind.Character value) s e = e
says_more ns ms xs ys (kind.Text n) s e = looked Text xs ys n s e
says_more ns ms xs ys (kind.Mark m) s e = e

abbrev placed : Token → Said → Spelt
placed t s = record { said = s; start = t.start; line = t.line }

some_said : (t : Token) (o p : Option Said) (s : Spelt) → ((x : Said) → o ≡ Some x → p ≡ Some x) → option_map (placed t) o ≡ Some s → option_map (placed t) p ≡ Some s
some_said t None p s more e = absurd cc
some_said t (Some x) p s more e = ap (option_map (placed t)) (more x refl) ∙ e

all_more : (ns ms xs ys : List (List ℕ)) (ts : List Token) (ss : List Spelt) → map (spelt_of ns xs) ts ≡ map Some ss → map (spelt_of (ns ++ ms) (xs ++ ys)) ts ≡ map Some ss
all_more ns ms xs ys [] ss e = e
all_more ns ms xs ys (t ∷ ts) [] e = absurd cc
all_more ns ms xs ys (t ∷ ts) (s ∷ ss) e =
    let head : spelt_of ns xs t ≡ Some s = cc in
    let tail : map (spelt_of ns xs) ts ≡ map Some ss = cc in
    let one : spelt_of (ns ++ ms) (xs ++ ys) t ≡ Some s = some_said t (says ns xs t.kind) (says (ns ++ ms) (xs ++ ys) t.kind) s (λ x h. says_more ns ms xs ys t.kind x h) head in
    let two = all_more ns ms xs ys ts ss tail in
    cc

name_more : (ns : List (List ℕ)) (n : List ℕ) → (ms : List (List ℕ)) × (with_name ns n ≡ ns ++ ms)
name_more ns n = by (list_any (pointwise nat_eq n) ns)
  where
    by : (t : Bool) → (ms : List (List ℕ)) × ((if t then ns else ns ++ n ∷ []) ≡ ns ++ ms)
    by true = ([], sym (append-nil ns))
    by false = (n ∷ [], refl)

names_more : (ns : List (List ℕ)) (s : Said) → (ms : List (List ℕ)) × (names_with ns s ≡ ns ++ ms)
names_more ns (Keyword w) = ([], sym (append-nil ns))
names_more ns (Name text) = name_more ns text
names_more ns (Number value decimal unsigned longs) = ([], sym (append-nil ns))
names_more ns (Character value) = ([], sym (append-nil ns))
names_more ns (Text bytes) = ([], sym (append-nil ns))
names_more ns (Punctuator m) = ([], sym (append-nil ns))

names_push : (ns : List (List ℕ)) (ss : List Spelt) (s : Spelt) → names_from ns (ss ++ s ∷ []) ≡ names_with (names_from ns ss) s.said
names_push ns [] s = refl
names_push ns (x ∷ ss) s = names_push (names_with ns x.said) ss s

range_more : (a m n : ℕ) → range_with_len a (m + n) ≡ range_with_len a m ++ range_with_len (a + m) n
range_more a zero n = let e : 0 + n ≡ n = omega arith in let f : a + 0 ≡ a = omega arith in rw (e, f) refl
range_more a (suc m) n =
    let e : suc m + n ≡ suc (m + n) = omega arith in
    let f : a + suc m ≡ a + 1 + m = omega arith in
    rw (e, f) (ap (λ l. a ∷ l) (range_more (a + 1) m n))

-- what one more token asks, so that the table tells one more
pub record Pushes (old new : Table) (t : Token) (s : Spelt) : Type 0 where
  pub names : new.names ≡ names_with old.names s.said
  pub texts : new.texts ≡ old.texts ++ text_of s.said
  pub tokens : new.tokens ≡ old.tokens ++ t ∷ []
  pub said : spelt_of new.names new.texts t ≡ Some s
  pub number : text_number t.kind ≡ range_with_len (length old.texts) (length (text_of s.said))

pub adds : (old new : Table) (t : Token) (s : Spelt) → Pushes old new t s → Adds old new (s ∷ [])
adds old new t s p = λ ss told.
    let m = names_more old.names s.said in
    let grown : new.names ≡ old.names ++ m.0 = p.names ∙ m.1 in
    let before : map (spelt_of new.names new.texts) old.tokens ≡ map Some ss = rw (grown, p.texts) (all_more old.names m.0 old.texts (text_of s.said) old.tokens ss told.tokens) in
    record {
      tokens = ap (map (spelt_of new.names new.texts)) p.tokens ∙ map-append (spelt_of new.names new.texts) old.tokens (t ∷ []) ∙ ap (λ l. l ++ spelt_of new.names new.texts t ∷ []) before ∙ ap (λ o. map Some ss ++ o ∷ []) p.said ∙ sym (map-append Some ss (s ∷ []));
      names = p.names ∙ ap (λ ns. names_with ns s.said) told.names ∙ sym (names_push [] ss s);
      texts = p.texts ∙ ap (λ xs. xs ++ text_of s.said) told.texts ∙ ap (λ l. texts_of ss ++ l) (sym (append-nil (text_of s.said))) ∙ sym (flat_map-append (λ (x : Spelt). text_of x.said) ss (s ∷ []));
      in_order =
          let e : length new.texts ≡ length old.texts + length (text_of s.said) = ap length p.texts ∙ length-append old.texts (text_of s.said) in
          let f : 0 + length old.texts ≡ length old.texts = omega arith in
          ap (flat_map (λ (k : Token). text_number k.kind)) p.tokens ∙ flat_map-append (λ (k : Token). text_number k.kind) old.tokens (t ∷ []) ∙ ap (λ l. flat_map (λ (k : Token). text_number k.kind) old.tokens ++ l) (append-nil (text_number t.kind) ∙ p.number) ∙ ap (λ l. l ++ range_with_len (length old.texts) (length (text_of s.said))) told.in_order ∙ rw (e, range_more 0 (length old.texts) (length (text_of s.said)), f) refl;
    }

abbrev pub with_token : Table → TokenKind → ℕ → ℕ → Table
with_token old k start line = record old { tokens = old.tokens ++ record { kind = k; start = start; line = line } ∷ [] }

abbrev pub spelt_as : Said → ℕ → ℕ → Spelt
spelt_as s start line = record { said = s; start = start; line = line }

pub adds_plain : (old new : Table) (k : TokenKind) (s : Said) (start line : ℕ) → ((ns xs : List (List ℕ)) → says ns xs k ≡ Some s) → ((ns : List (List ℕ)) → names_with ns s ≡ ns) → text_of s ≡ [] → text_number k ≡ []
    → new ≡ with_token old k start line → Adds old new (spelt_as s start line ∷ [])
adds_plain old new k s start line said same none number e = adds old new (record { kind = k; start = start; line = line }) (spelt_as s start line) (record {
  names = ap (λ (t : Table). t.names) e ∙ sym (same old.names);
  texts = ap (λ (t : Table). t.texts) e ∙ sym (append-nil old.texts) ∙ ap (λ l. old.texts ++ l) (sym none);
  tokens = ap (λ (t : Table). t.tokens) e;
  said = ap (option_map (placed (record { kind = k; start = start; line = line }))) (said new.names new.texts);
  number = number ∙ ap (λ l. range_with_len (length old.texts) (length l)) (sym none);
})

pub adds_name : (old new : Table) (names : List (List ℕ)) (n : ℕ) (text : List ℕ) (start line : ℕ) → names ≡ with_name old.names text → slice_get names n ≡ Some text
    → new ≡ with_token (record old { names = names }) (kind.Name n) start line → Adds old new (spelt_as (Name text) start line ∷ [])
adds_name old new names n text start line grown at e = adds old new (record { kind = kind.Name n; start = start; line = line }) (spelt_as (Name text) start line) (record {
  names = ap (λ (t : Table). t.names) e ∙ grown;
  texts = ap (λ (t : Table). t.texts) e ∙ sym (append-nil old.texts);
  tokens = ap (λ (t : Table). t.tokens) e;
  said = ap (λ ns. option_map (placed (record { kind = kind.Name n; start = start; line = line })) (option_map Name (slice_get ns n))) (ap (λ (t : Table). t.names) e) ∙ ap (λ o. option_map (placed (record { kind = kind.Name n; start = start; line = line })) (option_map Name o)) at;
  number = refl;
})

pub last_text : (xs : List (List ℕ)) (x : List ℕ) → slice_get (xs ++ x ∷ []) (length xs) ≡ Some x
last_text [] x = refl
last_text (y ∷ xs) x = last_text xs x

pub adds_text : (old new : Table) (texts : List (List ℕ)) (n : ℕ) (text : List ℕ) (start line : ℕ) → texts ≡ old.texts ++ text ∷ [] → n ≡ length old.texts
    → new ≡ with_token (record old { texts = texts }) (kind.Text n) start line → Adds old new (spelt_as (Text text) start line ∷ [])
adds_text old new texts n text start line grown number e = adds old new (record { kind = kind.Text n; start = start; line = line }) (spelt_as (Text text) start line) (record {
  names = ap (λ (t : Table). t.names) e;
  texts = ap (λ (t : Table). t.texts) e ∙ grown;
  tokens = ap (λ (t : Table). t.tokens) e;
  said = ap (λ xs. option_map (placed (record { kind = kind.Text n; start = start; line = line })) (option_map Text (slice_get xs n))) (ap (λ (t : Table). t.texts) e ∙ grown) ∙ ap (λ i. option_map (placed (record { kind = kind.Text n; start = start; line = line })) (option_map Text (slice_get (old.texts ++ text ∷ []) i))) number ∙ ap (λ o. option_map (placed (record { kind = kind.Text n; start = start; line = line })) (option_map Text o)) (last_text old.texts text);
  number = ap (λ i. i ∷ []) number;
})
