-- A source is one program, or it is none for one reason.
use Rattle.std.proofs.Common.{◌≡◌, inl, inr, ℕ, ◌+◌, ◌-◌, ◌<◌, ◌≤◌, List, [], length, take, drop, refl, sym, ap, subst, ◌∙◌, arith}
use Rattle.pv_lex.specs.declared.error.LexError.{LexError}
use Rattle.pv_lex.specs.declared.error.LexError.TheVariants as error
use Rattle.pv_token.specs.Table.{Table}
use Rattle.pv_lex.specs.Lexes.{Lexes}
use Rattle.pv_lex.specs.Faults.{LexFault}
use Rattle.pv_token.specs.declared.token_table.Token.{Token as LexToken}
use Rattle.pv_tree.specs.Syntax.{DeclarationTree}
use Rattle.pv_tree.specs.Units.{SpellUnit, IsWhole}
use Rattle.pv_stmt.specs.declared.units.SynError.{SynError}
use Rattle.pv_stmt.specs.declared.units.SynError.TheVariants as syn
use Rattle.pv_typed.specs.TypedUnits.{WholeUnit}
use Rattle.pv_typed.specs.Tables.{Stored}
use Rattle.pv_unit.specs.Units as checked
use Rattle.pv_serve.proofs.UnitLemmas.{either_unit, one_unit}
use Rattle.pv_serve.proofs.TypedLemmas.{unit_comes, unit_comes_to_one}
use Rattle.pv_lex.proofs.Exactly.{either_error, one_table, one_error, no_error}
use Rattle.std.specs.Prelude.{Result, Ok, Err, IfOk}
use Rattle.pv_serve.specs.declared.checking.Refused.{Refused as Answered}
use Rattle.pv_serve.specs.Verdicts.{Size, Byte, Token, Profile, Syntax, NoMain}
use Rattle.pv_serve.specs.Readings.{Reading, Program, Bad}
use Rattle.pv_serve.specs.Loading.{reading_of, lexical_refusal, IsWordOf}
use Rattle.pv_serve.specs.Comes.{UnitComes, Breaks, Lacks, Mainless, Typed, TokensCome, NoUnit, Spelled, Comes, BadByte, BadToken, LeftOut, Lexed, Reads, Long, Short, source_limit}

one_count : (tokens : List LexToken) (m n : ℕ) → IsWhole tokens m → IsWhole tokens n → m ≡ n
one_count tokens m n a b =
    let up = b.greatest a.externals a.left a.spelled in
    let down = a.greatest b.externals b.left b.spelled in
    omega (arith, up, down, a.count, b.count)

tokens_come_to_one : (tokens : Table) (r s : Reading) → TokensCome tokens r → TokensCome tokens s → r ≡ s
tokens_come_to_one tokens r s (NoUnit m none a e) (NoUnit n other b f) = e ∙ ap (λ (k : ℕ). Bad (Syntax k)) (one_count tokens.tokens m n a b) ∙ sym f
tokens_come_to_one tokens r s (NoUnit m none a e) (Spelled ds t c) = absurd (none ds t)
tokens_come_to_one tokens r s (Spelled ds t c) (NoUnit n none b f) = absurd (none ds t)
tokens_come_to_one tokens r s (Spelled ds t c) (Spelled es u d) = unit_comes_to_one tokens ds r s c (subst (λ (xs : List DeclarationTree). UnitComes tokens xs s) (one_unit tokens.tokens es ds u t) d)

-- what an error says
abbrev read_by : List ℕ → LexError → Reading
read_by source (error.BadByte at) = Bad (Byte at)
read_by source (error.BadToken at) = Bad (Token at)
read_by source (error.Profile at word) = Bad (Profile at (take word (drop at source)))
read_by source error.NoMemory = Bad NoMain

-- a source is refused for a fault, or has tokens that decide
data Way (source : List ℕ) (r : Reading) : Type 0 where
  Faulty : (e : LexError) → (e ≡ error.NoMemory → ⊥) → LexFault source e → r ≡ read_by source e → Way source r
  Cut : (t : Table) → Lexes source t → TokensCome t r → Way source r

way : (source : List ℕ) (r : Reading) → Comes source r → Way source r
way source r (BadByte a x e) = Faulty (error.BadByte a) (λ h. absurd cc) x e
way source r (BadToken a x e) = Faulty (error.BadToken a) (λ h. absurd cc) x e
way source r (LeftOut a n x e) = Faulty (error.Profile a n) (λ h. absurd cc) x e
way source r (Lexed t l c) = Cut t l c

ways_meet : (source : List ℕ) (r s : Reading) → Way source r → Way source s → r ≡ s
ways_meet source r s (Faulty e a x p) (Faulty g b y q) = p ∙ ap (read_by source) (one_error source e g a b x y) ∙ sym q
ways_meet source r s (Faulty e a x p) (Cut u m d) = absurd (no_error source u e a m x)
ways_meet source r s (Cut t l c) (Faulty g b y q) = absurd (no_error source t g b l y)
ways_meet source r s (Cut t l c) (Cut u m d) = tokens_come_to_one t r s c (subst (λ (x : Table). TokensCome x s) (sym (one_table source t u l m)) d)

pub comes_to_one : (source : List ℕ) (r s : Reading) → Comes source r → Comes source s → r ≡ s
comes_to_one source r s c d = ways_meet source r s (way source r c) (way source s d)

-- ---- a source is something

tokens_come : (tokens : Table) → (r : Reading) × TokensCome tokens r
tokens_come tokens = elim (either_unit tokens.tokens) as (λ _. (r : Reading) × TokensCome tokens r) [
  | inl u ↦ let c = unit_comes tokens u.0 in (c.0, Spelled u.0 u.1 c.1)
  | inr n ↦ (Bad (Syntax n.0), NoUnit n.0 n.1 n.2 refl)
]

error_comes : (source : List ℕ) (e : LexError) → (e ≡ error.NoMemory → ⊥) → LexFault source e → (r : Reading) × Comes source r
error_comes source (error.BadByte a) some x = (Bad (Byte a), BadByte a x refl)
error_comes source (error.BadToken a) some x = (Bad (Token a), BadToken a x refl)
error_comes source (error.Profile a n) some x = (Bad (Profile a (take n (drop a source))), LeftOut a n x refl)
error_comes source error.NoMemory some x = absurd (some refl)

pub comes_to_some : (source : List ℕ) → (r : Reading) × Comes source r
comes_to_some source = elim (either_error source) as (λ _. (r : Reading) × Comes source r) [
  | inl t ↦ let c = tokens_come t.0 in (c.0, Lexed t.0 t.1 c.1)
  | inr f ↦ error_comes source f.0 f.1 f.2
]

-- ---- a source that is a program has tokens, and they spell a unit that has this typing

pub unit_typed : (tokens : Table) (ds : List DeclarationTree) (unit : WholeUnit) → UnitComes tokens ds (Program unit) → checked.UnitComes tokens ds (checked.Typed unit)
unit_typed tokens ds unit (Breaks index h e) = absurd cc
unit_typed tokens ds unit (Lacks name h e) = absurd cc
unit_typed tokens ds unit (Mainless h e) = absurd cc
unit_typed tokens ds unit (Typed other h e) = let typed : other ≡ unit = cc in subst (λ (u : WholeUnit). checked.UnitComes tokens ds (checked.Typed u)) typed h

tokens_typed : (tokens : Table) (unit : WholeUnit) → TokensCome tokens (Program unit) → (ds : List DeclarationTree) × checked.UnitComes tokens ds (checked.Typed unit)
tokens_typed tokens unit (NoUnit whole none h e) = absurd cc
tokens_typed tokens unit (Spelled ds h u) = (ds, unit_typed tokens ds unit u)

pub program_typed : (source : List ℕ) (unit : WholeUnit) → Comes source (Program unit)
    → (tokens : Table) × (ds : List DeclarationTree) × Lexes source tokens × checked.UnitComes tokens ds (checked.Typed unit)
program_typed source unit (BadByte place h e) = absurd cc
program_typed source unit (BadToken place h e) = absurd cc
program_typed source unit (LeftOut place word h e) = absurd cc
program_typed source unit (Lexed tokens l h) = let d = tokens_typed tokens unit h in (tokens, d.0, l, d.1)

-- ---- for the code that types

pub lexed_if : {E : Type 0} (source : List ℕ) (t : Table) (r : Result (Result Stored Answered) E) → Lexes source t
    → IfOk r (λ x. TokensCome t (reading_of x)) → IfOk r (λ x. Comes source (reading_of x))
lexed_if source t (Ok x) whole comes = Lexed t whole comes
lexed_if source t (Err e) whole comes = tt

-- a fault, with its word, is what the source is refused for
pub faulty : (source : List ℕ) (e : LexError) (word : List ℕ) → LexFault source e → IsWordOf source e word → Comes source (Bad (lexical_refusal e word))
faulty source (error.BadByte at) word fault is = BadByte at fault refl
faulty source (error.BadToken at) word fault is = BadToken at fault refl
faulty source (error.Profile at count) word fault is = LeftOut at count fault (ap (λ (bytes : List ℕ). Bad (Profile at bytes)) is)
faulty source error.NoMemory word fault is = absurd is

-- a fault that has no word
pub wordless_byte : (source : List ℕ) (e : LexError) (at : ℕ) (bytes : List ℕ) → e ≡ error.BadByte at → bytes ≡ [] → IsWordOf source e bytes
wordless_byte source e at bytes is none = subst (λ (x : LexError). IsWordOf source x bytes) (sym is) none

pub wordless_token : (source : List ℕ) (e : LexError) (at : ℕ) (bytes : List ℕ) → e ≡ error.BadToken at → bytes ≡ [] → IsWordOf source e bytes
wordless_token source e at bytes is none = subst (λ (x : LexError). IsWordOf source x bytes) (sym is) none

-- a word that is cut out of the source, if there is memory for it
pub cut_word : {E : Type 0} (source : List ℕ) (e : LexError) (at word a w b d : ℕ) (r : Result (List ℕ) E) → e ≡ error.Profile at word
    → IfOk r (λ bytes. bytes ≡ take ((a + w) - b) (drop d source)) → a ≡ at → w ≡ word → b ≡ at → d ≡ at → IfOk r (IsWordOf source e)
cut_word source e at word a w b d (Err x) is same a_is w_is b_is d_is = tt
cut_word source e at word a w b d (Ok bytes) is same a_is w_is b_is d_is =
    let length_is : (a + w) - b ≡ word = omega (arith, a_is, w_is, b_is) in
    subst (λ (x : LexError). IsWordOf source x bytes) (sym is)
    (same ∙ ap (λ (n : ℕ). take n (drop d source)) length_is ∙ ap (λ (n : ℕ). take word (drop n source)) d_is)

-- the tokens of a unit decide
pub spelled_if : {E : Type 0} (tokens : Table) (ds : List DeclarationTree) (r : Result (Result Stored Answered) E) → SpellUnit tokens.tokens ds
    → IfOk r (λ x. UnitComes tokens ds (reading_of x)) → IfOk r (λ x. TokensCome tokens (reading_of x))
spelled_if tokens ds (Ok x) spelled comes = Spelled ds spelled comes
spelled_if tokens ds (Err e) spelled comes = tt

pub no_unit : {A : Type 0} (tokens : Table) (e : SynError) (whole shown : ℕ)
    → ((n : ℕ) → ◌≡◌ {A = Result A SynError} (Err e) (Err (syn.Syntax n)) → ((ds : List DeclarationTree) → SpellUnit tokens.tokens ds → ⊥) × IsWhole tokens.tokens n)
    → e ≡ syn.Syntax whole → shown ≡ whole → TokensCome tokens (Bad (Syntax shown))
no_unit tokens e whole shown says is same =
    let s = says whole (ap (λ (x : SynError). Err x) is) in
    NoUnit whole s.0 s.1 (ap (λ (n : ℕ). Bad (Syntax n)) same)

-- ---- the limit

pub source_limit_is : source_limit ≡ 1048576
unfolding source_limit
source_limit_is = refl

-- a source above the number that the limit is
pub too_long : (source : List ℕ) → 1048576 < length source → Reads source (Bad Size)
too_long source long = Long (omega (arith, source_limit_is)) refl

-- a source up to it, for an answer that may be want of memory
pub short_enough : {E : Type 0} (source : List ℕ) (r : Result (Result Stored Answered) E) → length source ≤ 1048576
    → IfOk r (λ x. Comes source (reading_of x)) → IfOk r (λ x. Reads source (reading_of x))
short_enough source (Ok x) short comes = Short (omega (arith, source_limit_is)) comes
short_enough source (Err e) short comes = tt
