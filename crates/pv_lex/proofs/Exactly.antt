-- Pieces in a row come to one place where no piece begins.
use Rattle.std.proofs.Common.{◌≡◌, ℕ, zero, suc, ◌-◌, ◌<◌, ◌≤◌, ◌⊎◌, inl, inr, List, [], ◌∷◌, length, refl, sym, ap, ◌∙◌, subst, arith}
use Rattle.pv_lex.specs.declared.pieces.Fault.{Fault}
use Rattle.pv_lex.specs.Pieces.{Piece, Stand, End, Bad, Here}
use Rattle.pv_lex.specs.Stands.{stands}
use Rattle.pv_lex.specs.Rows.{Place, start, behind_piece, Row, tokens_among}
use Rattle.pv_token.specs.Table.{Table, Tells}
use Rattle.pv_lex.specs.Lexes.{Lexes}
use Rattle.pv_lex.specs.Faults.{FaultAt, LexFault}
use Rattle.pv_lex.specs.Views.{error_of}
use Rattle.pv_lex.specs.declared.pieces.Fault.TheVariants as fault
use Rattle.pv_lex.specs.declared.error.LexError.{LexError}
use Rattle.pv_lex.specs.declared.error.LexError.TheVariants as error
use Rattle.pv_lex.proofs.Moving.{moves_stands}
use Rattle.pv_token.proofs.Telling.{table_exists, tells_same}

abbrev Stops : Place → Type 0
Stops q = (x : Piece) → stands q.fresh q.text ≡ Here x → ⊥

end_stops : (q : Place) → stands q.fresh q.text ≡ End → Stops q
end_stops q e = λ x h. absurd cc

bad_stops : (q : Place) (f : Fault) → stands q.fresh q.text ≡ Bad f → Stops q
bad_stops q f e = λ x h. absurd cc

-- two rows from one place to where no piece begins are one
record Meets (q r : Place) (xs ys : List Piece) : Type 0 where
  last : q ≡ r
  pieces : xs ≡ ys

rows_meet : (p q r : Place) (xs ys : List Piece) → Row p xs q → Row p ys r → Stops q → Stops r → Meets q r xs ys
rows_meet p q r [] [] a b s t = record { last = sym a ∙ b; pieces = refl }
rows_meet p q r [] (y ∷ ys) a b s t = absurd (s y (subst (λ (z : Place). stands z.fresh z.text ≡ Here y) a b.0))
rows_meet p q r (x ∷ xs) [] a b s t = absurd (t x (subst (λ (z : Place). stands z.fresh z.text ≡ Here x) b a.0))
rows_meet p q r (x ∷ xs) (y ∷ ys) a b s t =
    let h = a.0 in
    let k = b.0 in
    let same : y ≡ x = cc in
    let rest = rows_meet (behind_piece x p) q r xs ys a.1 (subst (λ (z : Piece). Row (behind_piece z p) ys r) same b.1) s t in
    record { last = rest.last; pieces = ap (λ (z : Piece). z ∷ xs) (sym same) ∙ ap (λ l. y ∷ l) rest.pieces }

record Stopped (p : Place) : Type 0 where
  pieces : List Piece
  last : Place
  row : Row p pieces last
  stop : (stands last.fresh last.text ≡ End) ⊎ ((f : Fault) × (stands last.fresh last.text ≡ Bad f))

stops_by : (n : ℕ) (p : Place) → length p.text ≤ n → ((x : Piece) → length x.after < length p.text → Stopped (behind_piece x p)) → (s : Stand) → stands p.fresh p.text ≡ s → Stopped p
stops_by n p le more End e = record { pieces = []; last = p; row = refl; stop = inl e }
stops_by n p le more (Bad f) e = record { pieces = []; last = p; row = refl; stop = inr (f, e) }
stops_by n p le more (Here x) e =
    let m = (moves_stands p.fresh p.text).here x e in
    let rest = more x m.shorter in
    record { pieces = x ∷ rest.pieces; last = rest.last; row = (e, rest.row); stop = rest.stop }

stops_within : (n : ℕ) (p : Place) → length p.text ≤ n → Stopped p
stops_within zero p le = stops_by zero p le (λ x lt. absurd (omega arith)) (stands p.fresh p.text) refl
stops_within (suc n) p le = stops_by (suc n) p le (λ x lt. stops_within n (behind_piece x p) (omega arith)) (stands p.fresh p.text) refl

-- each source has a table of tokens or a fault
pub either_one : (source : List ℕ) → ((t : Table) × Lexes source t) ⊎ ((f : Fault) × (at : ℕ) × FaultAt source f at)
either_one source = by (stops_within (length source) (start source) (omega arith))
  where
    by : Stopped (start source) → ((t : Table) × Lexes source t) ⊎ ((f : Fault) × (at : ℕ) × FaultAt source f at)
    by s = elim (s.stop) as (λ w. ((t : Table) × Lexes source t) ⊎ ((f : Fault) × (at : ℕ) × FaultAt source f at)) [
      | inl e ↦ let t = table_exists (tokens_among (length source) (start source) s.pieces) in inl (t.0, record { pieces = s.pieces; last = s.last; row = s.row; whole = e; tells = t.1 })
      | inr b ↦ inr (b.0, _, record { pieces = s.pieces; last = s.last; row = s.row; stands_there = b.1; place = refl })
    ]

-- a source has one table of tokens at most
pub one_table : (source : List ℕ) (t u : Table) → Lexes source t → Lexes source u → t ≡ u
one_table source t u l m =
    let same = rows_meet (start source) l.last m.last l.pieces m.pieces l.row m.row (end_stops l.last l.whole) (end_stops m.last m.whole) in
    tells_same t u (tokens_among (length source) (start source) l.pieces) l.tells (subst (λ (z : List Piece). Tells u (tokens_among (length source) (start source) z)) (sym same.pieces) m.tells)

-- a source with tokens has no fault
pub not_both : (source : List ℕ) (t : Table) (f : Fault) (at : ℕ) → Lexes source t → FaultAt source f at → ⊥
not_both source t f at l x =
    let same = rows_meet (start source) l.last x.last l.pieces x.pieces l.row x.row (end_stops l.last l.whole) (bad_stops x.last f x.stands_there) in
    let e = subst (λ (z : Place). stands z.fresh z.text ≡ End) same.last l.whole in
    let b = x.stands_there in
    absurd cc

-- a source has one fault at most
pub one_fault : (source : List ℕ) (f g : Fault) (at bt : ℕ) → FaultAt source f at → FaultAt source g bt → (f ≡ g) × (at ≡ bt)
one_fault source f g at bt x y =
    let same = rows_meet (start source) x.last y.last x.pieces y.pieces x.row y.row (bad_stops x.last f x.stands_there) (bad_stops y.last g y.stands_there) in
    let e = subst (λ (z : Place). stands z.fresh z.text ≡ Bad f) same.last x.stands_there in
    let b = y.stands_there in
    (cc, x.place ∙ ap (λ (z : Place). length source - length z.text) same.last ∙ sym y.place)

-- the fault that an error reports
record Reports (source : List ℕ) (e : LexError) : Type 0 where
  fault : Fault
  at : ℕ
  is : e ≡ error_of fault at
  stands_there : FaultAt source fault at

reports : (source : List ℕ) (e : LexError) → (e ≡ error.NoMemory → ⊥) → LexFault source e → Reports source e
reports source (error.BadByte at) some x = record { fault = fault.BadByte; at = at; is = refl; stands_there = x }
reports source (error.BadToken at) some x = record { fault = fault.BadToken; at = at; is = refl; stands_there = x }
reports source (error.Profile at word) some x = record { fault = fault.Profile word; at = at; is = refl; stands_there = x }
reports source error.NoMemory some x = absurd (some refl)

-- two errors that report the fault of a source are one
pub one_error : (source : List ℕ) (e g : LexError) → (e ≡ error.NoMemory → ⊥) → (g ≡ error.NoMemory → ⊥) → LexFault source e → LexFault source g → e ≡ g
one_error source e g a b x y =
    let r = reports source e a x in
    let s = reports source g b y in
    let same = one_fault source r.fault s.fault r.at s.at r.stands_there s.stands_there in
    r.is ∙ ap (λ f. error_of f r.at) same.0 ∙ ap (error_of s.fault) same.1 ∙ sym s.is

-- a source with tokens has no error but that of memory
pub no_error : (source : List ℕ) (t : Table) (e : LexError) → (e ≡ error.NoMemory → ⊥) → Lexes source t → LexFault source e → ⊥
no_error source t e some l x = let r = reports source e some x in not_both source t r.fault r.at l r.stands_there

-- the fault of a source has an error that reports it
reported : (source : List ℕ) (f : Fault) (at : ℕ) → FaultAt source f at → (e : LexError) × (e ≡ error.NoMemory → ⊥) × LexFault source e
reported source fault.BadByte at x = (error.BadByte at, λ h. absurd cc, x)
reported source fault.BadToken at x = (error.BadToken at, λ h. absurd cc, x)
reported source (fault.Profile word) at x = (error.Profile at word, λ h. absurd cc, x)

-- each source has a table of tokens or an error
pub either_error : (source : List ℕ) → ((t : Table) × Lexes source t) ⊎ ((e : LexError) × (e ≡ error.NoMemory → ⊥) × LexFault source e)
either_error source = elim (either_one source) as (λ _. ((t : Table) × Lexes source t) ⊎ ((e : LexError) × (e ≡ error.NoMemory → ⊥) × LexFault source e)) [
  | inl t ↦ inl t
  | inr f ↦ inr (reported source f.0 f.1 f.2)
]
