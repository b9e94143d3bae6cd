-- The tokens of a table in their short form.
use Rattle.std.proofs.Common.{◌≡◌, ℕ, zero, suc, ◌+◌, ◌≤◌, ◌<◌, ◌^◌, Bool, true, false, List, [], ◌∷◌, ◌++◌, length, map, get_or, Some, refl, sym, ap, ◌∙◌, subst, length-append, arith}
use Rattle.std.specs.Prelude.{if◌then◌else◌, nat_lt, slice_get}
use Rattle.std.specs.Option.{option_map}
use Rattle.std.proofs.lemmas.List.{append-nil, map_push, get_or_append_left}
use Rattle.std.proofs.lemmas.Option.{slice_get-map, slice_get-get_or}
use Rattle.pv_token.specs.declared.short.ShortKind.{ShortKind}
use Rattle.pv_token.specs.declared.short.ShortKind.TheVariants as short
use Rattle.pv_token.specs.declared.short.ShortToken.{ShortToken}
use Rattle.pv_token.specs.declared.token_table.Token.{Token}
use Rattle.pv_token.specs.declared.token_table.TokenKind.{TokenKind}
use Rattle.pv_token.specs.declared.token_table.TokenKind.TheVariants as kind
use Rattle.pv_token.specs.Short.{kind_of, token_of, values_with, IsThere, AreThere, AreShort}

abbrev pub token : TokenKind → ℕ → ℕ → Token
token k start line = record { kind = k; start = start; line = line }

abbrev pub short_token : ShortKind → ℕ → ℕ → ShortToken
short_token s start line = record { kind = s; start = start; line = line }

-- ---- what more values leave as it was

kind_stays : (values more : List ℕ) (k : ShortKind) → IsThere (length values) k → kind_of (values ++ more) k ≡ kind_of values k
kind_stays values more (short.Word w) h = refl
kind_stays values more (short.Name n) h = refl
kind_stays values more (short.Number d u l v) h = refl
kind_stays values more (short.Large d u l place) h = ap (λ v. kind.Number v d u l) (get_or_append_left values more 0 place h)
kind_stays values more (short.Character v) h = refl
kind_stays values more (short.Text n) h = refl
kind_stays values more (short.Mark m) h = refl

there_more : (m n : ℕ) → m ≤ n → (k : ShortKind) → IsThere m k → IsThere n k
there_more m n le (short.Word w) h = tt
there_more m n le (short.Name i) h = tt
there_more m n le (short.Number d u l v) h = tt
there_more m n le (short.Large d u l place) h =
    let here : place < m = h in
    omega (arith, le, here)
there_more m n le (short.Character v) h = tt
there_more m n le (short.Text i) h = tt
there_more m n le (short.Mark k) h = tt

tokens_stay : (values more : List ℕ) (ts : List ShortToken) → AreThere (length values) ts → map (token_of (values ++ more)) ts ≡ map (token_of values) ts
tokens_stay values more [] h = refl
tokens_stay values more (t ∷ ts) h =
    ap (λ (k : TokenKind). token k t.start t.line ∷ map (token_of (values ++ more)) ts) (kind_stays values more t.kind h.0)
    ∙ ap (λ (l : List Token). token_of values t ∷ l) (tokens_stay values more ts h.1)

are_there_more : (m n : ℕ) → m ≤ n → (ts : List ShortToken) → AreThere m ts → AreThere n ts
are_there_more m n le [] h = tt
are_there_more m n le (t ∷ ts) h = (there_more m n le t.kind h.0, are_there_more m n le ts h.1)

there_push : (n : ℕ) (ts : List ShortToken) (t : ShortToken) → AreThere n ts → IsThere n t.kind → AreThere n (ts ++ t ∷ [])
there_push n [] t h last = (last, tt)
there_push n (x ∷ ts) t h last = (h.0, there_push n ts t h.1 last)

-- a kind adds at most one value
values_more : (values : List ℕ) (k : TokenKind) → (more : List ℕ) × (values_with values k ≡ values ++ more) × (length more ≤ 1)
values_more values (kind.Word w) = ([], sym (append-nil values), omega arith)
values_more values (kind.Name n) = ([], sym (append-nil values), omega arith)
values_more values (kind.Number value d u l) = by (nat_lt value (2 ^ 32))
  where
    by : (t : Bool) → (more : List ℕ) × ((if t then values else values ++ value ∷ []) ≡ values ++ more) × (length more ≤ 1)
    by true = ([], sym (append-nil values), omega arith)
    by false = (value ∷ [], refl, omega arith)
values_more values (kind.Character v) = ([], sym (append-nil values), omega arith)
values_more values (kind.Text n) = ([], sym (append-nil values), omega arith)
values_more values (kind.Mark m) = ([], sym (append-nil values), omega arith)

-- ---- a token behind the others

module _ (values : List ℕ) (ts : List ShortToken) (is : AreShort values ts) (k : TokenKind) (s : ShortKind) (start line : ℕ) (new_values : List ℕ) (new : List ShortToken) (grown : new_values ≡ values_with values k) (pushed : new ≡ ts ++ short_token s start line ∷ []) where
  pub token_added : kind_of new_values s ≡ k → map (token_of new_values) new ≡ map (token_of values) ts ++ token k start line ∷ []
  token_added same =
      let m = values_more values k in
      ap (map (token_of new_values)) pushed
      ∙ map_push (token_of new_values) ts (short_token s start line)
      ∙ ap (λ (l : List Token). l ++ token_of new_values (short_token s start line) ∷ []) (ap (λ (vs : List ℕ). map (token_of vs) ts) (grown ∙ m.1) ∙ tokens_stay values m.0 ts is.there)
      ∙ ap (λ (x : TokenKind). map (token_of values) ts ++ token x start line ∷ []) same

  pub short_added : IsThere (length new_values) s → length ts + 1 < 2 ^ 32 → AreShort new_values new
  short_added there room =
      let m = values_more values k in
      let longer : length new_values ≡ length values + length m.0 = ap length (grown ∙ m.1) ∙ length-append values m.0 in
      let one : length new ≡ length ts + 1 = ap length pushed ∙ length-append ts (short_token s start line ∷ []) in
      record {
        few = omega (arith, one, room);
        fewer = omega (arith, longer, one, m.2, is.fewer);
        there = subst (AreThere (length new_values)) (sym pushed) (there_push (length new_values) ts (short_token s start line) (are_there_more (length values) (length new_values) (omega (arith, longer)) ts is.there) there);
      }

-- ---- a token that is read

there_at : (n : ℕ) (ts : List ShortToken) (i : ℕ) (t : ShortToken) → AreThere n ts → i < length ts → IsThere n (get_or ts i t).kind
there_at n [] i t h lt = absurd (omega (arith, lt))
there_at n (x ∷ ts) zero t h lt = h.0
there_at n (x ∷ ts) (suc i) t h lt = there_at n ts i t h.1 (omega (arith, lt))

module _ (values : List ℕ) (ts : List ShortToken) (i : ℕ) (t : ShortToken) (within : i < length ts) (read : t ≡ get_or ts i t) where
  pub read_there : (n : ℕ) → AreThere n ts → IsThere n t.kind
  read_there n h = subst (λ (x : ShortToken). IsThere n x.kind) (sym read) (there_at n ts i t h within)

  pub token_read : slice_get (map (token_of values) ts) i ≡ Some (token_of values t)
  token_read = slice_get-map (token_of values) ts i ∙ ap (option_map (token_of values)) (slice_get-get_or ts i t within ∙ ap Some (sym read))
