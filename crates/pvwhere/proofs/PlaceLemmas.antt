-- A refusal has one place, which lies in the source.
use Rattle.std.proofs.Common.{◌≡◌, ◌≢◌, ℕ, ◌<◌, ◌≤◌, List, [], length, take, drop, refl, sym, ap, ◌∙◌, subst, arith}
use Rattle.std.specs.Prelude.{Option, Some, None, IsSome, Result, Ok, Err, IfOk}
use Rattle.std.proofs.lemmas.List.{take_all, length-take}
use Rattle.pv_token.specs.Table.{Table}
use Rattle.pv_lex.specs.declared.error.LexError.TheVariants as error
use Rattle.pv_lex.specs.Lexes.{Lexes}
use Rattle.pv_lex.specs.Faults.{LexFault}
use Rattle.pv_lex.proofs.Exactly.{one_table}
use Rattle.pv_stmt.specs.Behind.{IsBehind}
use Rattle.pv_stmt.proofs.Rows.{place_one, fewer_behind, whole_behind}
use Rattle.pv_unit.specs.declared.checking.CheckError.{CheckError}
use Rattle.pv_unit.specs.declared.checking.CheckError.TheVariants as typing
use Rattle.pv_serve.specs.declared.checking.Refused.{Refused}
use Rattle.pv_serve.specs.Verdicts.{Refusal, Size, Byte, Token, Profile, Syntax, Constraint, Unresolved, NoMain}
use Rattle.pv_serve.specs.Readings.{Reading, Program, Bad}
use Rattle.pv_serve.specs.Loading.{refusal_of, typing_refusal}
use Rattle.pv_serve.specs.Comes.{source_limit, Breaks, Lacks, Mainless, Typed, TokensCome, NoUnit, Spelled, Comes, BadByte, BadToken, LeftOut, Lexed, Reads, Long, Short}
use Rattle.pv_serve.proofs.ComesLemmas.{source_limit_is}
use Rattle.pvwhere.specs.Places.{first_bytes, start_of, first_named, StandsBehind, IsFirstNamed, IsPlace, IsRefused, SomePlace}
use Rattle.pvwhere.specs.Answering.{BeginsWith}
use Rattle.pvwhere.proofs.TokenLemmas.{lexed_within, start_within, named_within}

-- ---- the first bytes

pub short_first : (source : List ℕ) → length source ≤ source_limit → first_bytes source ≡ source
short_first source short = take_all source_limit source short

-- as the number that the limit is
pub first_whole : (source : List ℕ) → length source ≤ 1048576 → source ≡ first_bytes source
first_whole source short = sym (short_first source (omega (arith, short, source_limit_is)))

pub first_cut : (source : List ℕ) → take 1048576 source ≡ first_bytes source
first_cut source = ap (λ (n : ℕ). take n source) (sym source_limit_is)

cut_short : (n : ℕ) (source : List ℕ) → length (take n source) ≤ n
cut_short n source = omega (arith, length-take n source)

cut_full : (n : ℕ) (source : List ℕ) → n < length source → n ≡ length (take n source)
cut_full n source long = omega (arith, length-take n source)

pub first_short : (source : List ℕ) → length (take 1048576 source) ≤ 1048576
first_short source = cut_short 1048576 source

pub first_full : (source : List ℕ) → 1048576 < length source → 1048576 ≡ length (take 1048576 source)
first_full source long = cut_full 1048576 source long

-- ---- what a reading says of the source

abbrev HasTokens : List ℕ → Type 0
HasTokens source = (t : Table) × Lexes source t

abbrev pub Tells : (source : List ℕ) → Reading → Type 0
Tells source (Program unit) = Unit {0}
Tells source (Bad Size) = Unit {0}
Tells source (Bad (Byte at)) = at ≤ length source
Tells source (Bad (Token at)) = at ≤ length source
Tells source (Bad (Profile at word)) = at ≤ length source
Tells source (Bad (Syntax whole)) = BeginsWith source whole
Tells source (Bad (Constraint index)) = BeginsWith source index
Tells source (Bad (Unresolved name)) = HasTokens source
Tells source (Bad NoMain) = Unit {0}

byte_within : (source : List ℕ) (at : ℕ) → LexFault source (error.BadByte at) → at ≤ length source
byte_within source at f = omega (arith, f.place)

token_within : (source : List ℕ) (at : ℕ) → LexFault source (error.BadToken at) → at ≤ length source
token_within source at f = omega (arith, f.place)

word_within : (source : List ℕ) (at word : ℕ) → LexFault source (error.Profile at word) → at ≤ length source
word_within source at word f = omega (arith, f.place)

tokens_tell : (source : List ℕ) (t : Table) (r : Reading) → Lexes source t → TokensCome t r → Tells source r
tokens_tell source t r l (NoUnit whole none is e) =
    subst (Tells source) (sym e) (record { tokens = t; lexed = l; some = whole_behind t.tokens whole is })
tokens_tell source t r l (Spelled ds s (Breaks index h e)) =
    subst (Tells source) (sym e) (record { tokens = t; lexed = l; some = fewer_behind t.tokens [] ds index s (omega (arith, h.within)) })
tokens_tell source t r l (Spelled ds s (Lacks name h e)) = subst (Tells source) (sym e) (t, l)
tokens_tell source t r l (Spelled ds s (Mainless h e)) = subst (Tells source) (sym e) tt
tokens_tell source t r l (Spelled ds s (Typed unit h e)) = subst (Tells source) (sym e) tt

comes_tell : (source : List ℕ) (r : Reading) → Comes source r → Tells source r
comes_tell source r (BadByte at f e) = subst (Tells source) (sym e) (byte_within source at f)
comes_tell source r (BadToken at f e) = subst (Tells source) (sym e) (token_within source at f)
comes_tell source r (LeftOut at word f e) = subst (Tells source) (sym e) (word_within source at word f)
comes_tell source r (Lexed t l c) = tokens_tell source t r l c

reads_tell : (source : List ℕ) (r : Reading) → Reads source r → Tells (first_bytes source) r
reads_tell source r (Long long e) = subst (Tells (first_bytes source)) (sym e) tt
reads_tell source r (Short short c) = subst (λ (s : List ℕ). Tells s r) (sym (short_first source short)) (comes_tell source r c)

pub refused_tells : (first : List ℕ) (refusal : Refusal) → IsRefused first refusal → Tells first (Bad refusal)
refused_tells first refusal h = subst (λ (s : List ℕ). Tells s (Bad refusal)) (sym h.are) (reads_tell h.source (Bad refusal) h.reads)

-- ---- there is a place

behind_place : (source : List ℕ) (n : ℕ) → BeginsWith source n → (place : ℕ) × StandsBehind source n place
behind_place source n b =
    (start_of (length source) (drop b.some.place b.tokens.tokens), record { tokens = b.tokens; lexed = b.lexed; index = b.some.place; behind = b.some.is; is = refl })

some_by : (source : List ℕ) (refusal : Refusal) → Tells source (Bad refusal) → SomePlace source refusal
some_by source Size h = record { place = length source; is = refl }
some_by source (Byte at) h = record { place = at; is = refl }
some_by source (Token at) h = record { place = at; is = refl }
some_by source (Profile at word) h = record { place = at; is = refl }
some_by source (Syntax whole) h = let g = behind_place source whole h in record { place = g.0; is = g.1 }
some_by source (Constraint index) h = let g = behind_place source index h in record { place = g.0; is = g.1 }
some_by source (Unresolved name) h = record {
  place = first_named (length source) h.0.names name h.0.tokens;
  is = record { tokens = h.0; lexed = h.1; is = refl };
}
some_by source NoMain h = record { place = length source; is = refl }

pub some_place : (source : List ℕ) (refusal : Refusal) → IsRefused source refusal → SomePlace source refusal
some_place source refusal h = some_by source refusal (refused_tells source refusal h)

-- ---- it is the only one

behind_one : (source : List ℕ) (n p q : ℕ) → StandsBehind source n p → StandsBehind source n q → p ≡ q
behind_one source n p q a b =
    let same = one_table source a.tokens b.tokens a.lexed b.lexed in
    let index = place_one b.tokens.tokens n a.index b.index (subst (λ (t : Table). IsBehind t.tokens n a.index) same a.behind) b.behind in
    a.is
    ∙ ap (λ (t : Table). start_of (length source) (drop a.index t.tokens)) same
    ∙ ap (λ (i : ℕ). start_of (length source) (drop i b.tokens.tokens)) index
    ∙ sym b.is

named_one : (source name : List ℕ) (p q : ℕ) → IsFirstNamed source name p → IsFirstNamed source name q → p ≡ q
named_one source name p q a b =
    a.is ∙ ap (λ (t : Table). first_named (length source) t.names name t.tokens) (one_table source a.tokens b.tokens a.lexed b.lexed) ∙ sym b.is

pub one_place : (source : List ℕ) (refusal : Refusal) (p q : ℕ) → IsPlace source refusal p → IsPlace source refusal q → p ≡ q
one_place source Size p q a b = a ∙ sym b
one_place source (Byte at) p q a b = a ∙ sym b
one_place source (Token at) p q a b = a ∙ sym b
one_place source (Profile at word) p q a b = a ∙ sym b
one_place source (Syntax whole) p q a b = behind_one source whole p q a b
one_place source (Constraint index) p q a b = behind_one source index p q a b
one_place source (Unresolved name) p q a b = named_one source name p q a b
one_place source NoMain p q a b = a ∙ sym b

-- ---- it lies in the source

behind_within : (source : List ℕ) (n place : ℕ) → StandsBehind source n place → place ≤ length source
behind_within source n place h = omega (arith, h.is, start_within (length source) h.tokens.tokens h.index (lexed_within source h.tokens h.lexed))

first_within : (source name : List ℕ) (place : ℕ) → IsFirstNamed source name place → place ≤ length source
first_within source name place h = omega (arith, h.is, named_within (length source) h.tokens.names name h.tokens.tokens (lexed_within source h.tokens h.lexed))

within_by : (source : List ℕ) (refusal : Refusal) (place : ℕ) → Tells source (Bad refusal) → IsPlace source refusal place → place ≤ length source
within_by source Size place h p = omega (arith, p)
within_by source (Byte at) place h p = omega (arith, h, p)
within_by source (Token at) place h p = omega (arith, h, p)
within_by source (Profile at word) place h p = omega (arith, h, p)
within_by source (Syntax whole) place h p = behind_within source whole place p
within_by source (Constraint index) place h p = behind_within source index place p
within_by source (Unresolved name) place h p = first_within source name place p
within_by source NoMain place h p = omega (arith, p)

pub place_within : (source : List ℕ) (refusal : Refusal) (place : ℕ) → IsRefused source refusal → IsPlace source refusal place → place ≤ length source
place_within source refusal place h p = within_by source refusal place (refused_tells source refusal h) p

-- ---- for the code that finds it

-- of a refusal that is known by its variant
pub place_of : (source : List ℕ) (r k : Refused) (place : ℕ) → r ≡ k → IsPlace source (refusal_of k) place → IsPlace source (refusal_of r) place
place_of source r k place e p = subst (λ (x : Refused). IsPlace source (refusal_of x) place) (sym e) p

pub begins_by : (source : List ℕ) (r k : Refused) → r ≡ k → IsRefused source (refusal_of r) → Tells source (Bad (refusal_of k))
begins_by source r k e h = subst (λ (x : Refused). Tells source (Bad (refusal_of x))) e (refused_tells source (refusal_of r) h)

pub places_of : {E : Type 0} (source : List ℕ) (r k : Refused) (o : Result ℕ E) → r ≡ k → IfOk o (IsPlace source (refusal_of k)) → IfOk o (IsPlace source (refusal_of r))
places_of source r k (Ok place) e p = place_of source r k place e p
places_of source r k (Err x) e p = tt

pub refused_by : (source : List ℕ) (r k : Refused) → r ≡ k → IsRefused source (refusal_of r) → IsRefused source (refusal_of k)
refused_by source r k e h = subst (λ (x : Refused). IsRefused source (refusal_of x)) e h

-- of a unit that breaks a constraint
pub begins_in_unit : (source : List ℕ) (e : CheckError) (index : ℕ) (name : List ℕ) → e ≡ typing.Constraint index → IsRefused source (typing_refusal e name) → BeginsWith source index
begins_in_unit source e index name is h = refused_tells source (Constraint index) (subst (λ (x : CheckError). IsRefused source (typing_refusal x name)) is h)

-- the tokens that are lexed again are the same, and so there is a place behind so many
is_some : (o : Option ℕ) → o ≢ None → IsSome o
is_some None h = absurd (h refl)
is_some (Some n) h = refl

pub none_missing : (source : List ℕ) (t : Table) (n : ℕ) (o : Option ℕ) → Lexes source t → BeginsWith source n
    → (o ≡ None → (place : ℕ) → IsBehind t.tokens n place → ⊥) → IsSome o
none_missing source t n o l b none =
    is_some o (λ e. none e b.some.place (subst (λ (u : Table). IsBehind u.tokens n b.some.place) (one_table source b.tokens t b.lexed l) b.some.is))
