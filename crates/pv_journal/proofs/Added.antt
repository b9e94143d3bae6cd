-- Names that are added leave what is under names as it is.
use Rattle.std.proofs.Common.{◌≡◌, ℕ, ◌+◌, ◌<◌, ◌≤◌, Bool, true, false, cond, List, [], ◌∷◌, ◌++◌, length, All, Option, Some, None, ◌⊎◌, inl, inr, refl, sym, ap, ◌∙◌, arith, subst, append_assoc, append-nil, length-append}
use Rattle.std.specs.List.{list_any, slice_get}
use Rattle.std.proofs.lemmas.Bool.{cases_lt}
use Rattle.std.proofs.lemmas.List.{get_or_push}
use Rattle.std.proofs.lemmas.Option.{slice_get_within, get_or_from_slice_get}
use Rattle.pv_script.proofs.Named.{differs}
use Rattle.std.specs.Prelude.{nat_eq}
use Rattle.std.specs.Cmp.Lexicographic.{pointwise}
use Rattle.pv_script.specs.Names.{name_at}
use Rattle.pv_script.specs.Texts.{with_text}
use Rattle.std.specs.Option.{option_map}
use Rattle.pv_journal.specs.Journals.{Id}
use Rattle.pv_journal.specs.Journals as fact
use Rattle.pv_journal.specs.Views.{id_of, fact_of}
use Rattle.pv_journal.specs.Lines.{id_under, rows_under, IsNamedIf, AreNamed, IsLineNamed}
use Rattle.pv_journal.specs.declared.reading.Called.{Called}
use Rattle.pv_journal.specs.declared.reading.Told.{Told}
use Rattle.pv_journal.specs.declared.reading.Told.TheVariants as told
use Rattle.pv_journal.specs.Standing.{state_under, IsOnly, HasText, HaveTexts, IsSaidKnown, IsLineKnown, IsKnown, IsMore, IsCalled, IsCalledIf, IsNumbered}
use Rattle.pv_journal.specs.declared.line.Key.{Key}
use Rattle.pv_journal.specs.declared.line.Line.{Line}
use Rattle.pv_journal.specs.declared.line.Said.{Said}
use Rattle.pv_journal.specs.declared.line.Said.TheVariants.{Made, Ended, Exposed, Pair, Used, Fault}
use Rattle.pv_journal.specs.declared.standing.Standing.{Standing}
use Rattle.pv_journal.proofs.Texts.{name_more, id_more, held_more, bonds_more, rows_more}

pub more_itself : (names : List (List ℕ)) → IsMore names names
more_itself names = record { more = []; whole = sym (append-nil names); only = λ n l o. o }

pub more_both : (a b c : List (List ℕ)) → IsMore a b → IsMore b c → IsMore a c
more_both a b c h g =
    let longer : length b ≡ length a + length h.more = ap length h.whole ∙ length-append a h.more in
    record {
      more = h.more ++ g.more;
      whole = g.whole ∙ ap (λ l. l ++ g.more) h.whole ∙ append_assoc a h.more g.more;
      only = λ n l o. g.only n (omega (arith, l, longer)) (h.only n l o);
    }

-- a text that none of the names is goes behind them
more_pushed : (names : List (List ℕ)) (text : List ℕ) → list_any (pointwise nat_eq text) names ≡ false → IsMore names (names ++ text ∷ [])
more_pushed names text none = record { more = text ∷ []; whole = refl; only = λ n l o i k e. by n l o i k e (cases_lt i (length names)) }
  where
    long : length (names ++ text ∷ []) ≡ length names + 1
    long = length-append names (text ∷ [])

    by : (n : ℕ) → n < length names → IsOnly names n → (i : ℕ) → i < length (names ++ text ∷ []) → name_at (names ++ text ∷ []) i ≡ name_at (names ++ text ∷ []) n
        → (i < length names) ⊎ (length names ≤ i) → i ≡ n
    by n l o i k e (inl m) = o i m (sym (name_more names (text ∷ []) i m) ∙ e ∙ name_more names (text ∷ []) n l)
    by n l o i k e (inr m) = absurd (differs names text n none l (sym (name_more names (text ∷ []) n l) ∙ sym e ∙ get_or_push names text [] i (omega (arith, m, k, long))))

pub more_text : (names : List (List ℕ)) (text : List ℕ) → IsMore names (with_text names text)
more_text names text = by (list_any (pointwise nat_eq text) names) refl
  where
    by : (b : Bool) → list_any (pointwise nat_eq text) names ≡ b → IsMore names (cond b names (names ++ text ∷ []))
    by true e = more_itself names
    by false e = more_pushed names text e

pub name_kept : (old new : List (List ℕ)) → IsMore old new → (i : ℕ) → i < length old → name_at new i ≡ name_at old i
name_kept old new m i h = ap (λ l. name_at l i) m.whole ∙ name_more old m.more i h

pub text_kept : (old new : List (List ℕ)) (key : Key) → IsMore old new → HasText old key → HasText new key
text_kept old new key m h =
    let longer : length new ≡ length old + length m.more = ap length m.whole ∙ length-append old m.more in
    let within = h.within in
    record { within = omega (arith, within, longer); only = m.only key.name h.within h.only }

pub id_kept : (old new : List (List ℕ)) (key : Key) → IsMore old new → HasText old key → id_under new key ≡ id_under old key
id_kept old new key m h = ap (λ l. id_under l key) m.whole ∙ id_more old m.more key h

second_kept : (old new : List (List ℕ)) (key : Option Key) → IsMore old new → HaveTexts old key → HaveTexts new key
second_kept old new None m h = tt
second_kept old new (Some key) m h = text_kept old new key m h

said_kept : (old new : List (List ℕ)) (what : Said) → IsMore old new → IsSaidKnown old what → IsSaidKnown new what
said_kept old new (Made key base size) m h = text_kept old new key m h
said_kept old new (Ended key) m h = text_kept old new key m h
said_kept old new (Exposed key) m h = text_kept old new key m h
said_kept old new (Pair pair address low high) m h = (text_kept old new low m h.0, text_kept old new high m h.1)
said_kept old new (Used pair test first second) m h = (text_kept old new first m h.0, second_kept old new second m h.1)
said_kept old new Fault m h = tt

pub state_kept : (old new : List (List ℕ)) (s : Standing) → IsMore old new → IsKnown old s → state_under new s ≡ state_under old s
state_kept old new s m k =
    ap (λ l. state_under l s) m.whole
    ∙ (λ i. record { held = held_more old m.more s.held k.held i; bonds = bonds_more old m.more s.bonds k.bonds i; turn = s.turn; over = s.over })

pub known_kept : (old new : List (List ℕ)) (s : Standing) → IsMore old new → IsKnown old s → IsKnown new s
known_kept old new s m k = record {
  held = λ i d l. text_kept old new _ m (k.held i d l);
  bonds = λ i d l. let b = k.bonds i d l in (text_kept old new _ m b.0, text_kept old new _ m b.1);
}

pub rows_kept : (old new : List (List ℕ)) (lines : List Line) → IsMore old new → All (IsLineKnown old) lines → rows_under new lines ≡ rows_under old lines
rows_kept old new lines m all = ap (λ l. rows_under l lines) m.whole ∙ rows_more old m.more lines all

pub lines_kept : (old new : List (List ℕ)) (lines : List Line) → IsMore old new → All (IsLineKnown old) lines → All (IsLineKnown new) lines
lines_kept old new lines m all = λ i d l. said_kept old new _ m (all i d l)

-- what has a text has the number of a name
second_named : (names : List (List ℕ)) (key : Option Key) → HaveTexts names key → IsNamedIf names key
second_named names None h = tt
second_named names (Some key) h = h.within

said_named : (names : List (List ℕ)) (what : Said) → IsSaidKnown names what → AreNamed names what
said_named names (Made key base size) h = h.within
said_named names (Ended key) h = h.within
said_named names (Exposed key) h = h.within
said_named names (Pair pair address low high) h = (h.0.within, h.1.within)
said_named names (Used pair test first second) h = (h.0.within, second_named names second h.1)
said_named names Fault h = tt

pub lines_named : (names : List (List ℕ)) (lines : List Line) → All (IsLineKnown names) lines → All (IsLineNamed names) lines
lines_named names lines all = λ i d l. said_named names _ (all i d l)

-- ---- names by number

pub called_by : (names : List (List ℕ)) (text : List ℕ) (n k : ℕ) → slice_get names n ≡ Some text → ((i : ℕ) → i < length names → name_at names i ≡ text → i ≡ n)
    → IsCalled names (record { name = text; k = k }) (record { name = n; k = k })
called_by names text n k h once = record {
  same = λ i. record { name = get_or_from_slice_get names n text [] h i; k = k };
  known = record { within = slice_get_within names n text h; only = λ i l e. once i l (e ∙ get_or_from_slice_get names n text [] h) };
}

pub called_still : (old new : List (List ℕ)) (id : Id) (key : Key) → IsMore old new → IsCalled old id key → IsCalled new id key
called_still old new id key m h = record { same = id_kept old new key m h.known ∙ h.same; known = text_kept old new key m h.known }

module _ (names : List (List ℕ)) where
  shown : (said : Said) (t u : Told) → t ≡ u → IsNumbered names (fact_of u) said → IsNumbered names (fact_of t) said
  shown said t u e h = subst (λ (v : Told). IsNumbered names (fact_of v) said) (sym e) h

  pub number_made : (t : Told) (id : Called) (base size : ℕ) (key : Key) → t ≡ told.Made id base size → IsCalled names (id_of id) key → IsNumbered names (fact_of t) (Made key base size)
  number_made t id base size key e h =
      shown (Made key base size) t (told.Made id base size) e (record { same = ap (λ d. fact.Made d base size) h.same; known = h.known })

  pub number_ended : (t : Told) (id : Called) (key : Key) → t ≡ told.Ended id → IsCalled names (id_of id) key → IsNumbered names (fact_of t) (Ended key)
  number_ended t id key e h = shown (Ended key) t (told.Ended id) e (record { same = ap fact.Ended h.same; known = h.known })

  pub number_exposed : (t : Told) (id : Called) (key : Key) → t ≡ told.Exposed id → IsCalled names (id_of id) key → IsNumbered names (fact_of t) (Exposed key)
  number_exposed t id key e h = shown (Exposed key) t (told.Exposed id) e (record { same = ap fact.Exposed h.same; known = h.known })

  pub number_paired : (t : Told) (pair address : ℕ) (low high : Called) (a b : Key) → t ≡ told.Paired pair address low high → IsCalled names (id_of low) a → IsCalled names (id_of high) b
      → IsNumbered names (fact_of t) (Pair pair address a b)
  number_paired t pair address low high a b e h g =
      shown (Pair pair address a b) t (told.Paired pair address low high) e (record { same = λ i. fact.Paired pair address (h.same i) (g.same i); known = (h.known, g.known) })

  pub number_used : (t : Told) (pair test : ℕ) (first : Called) (second : Option Called) (a : Key) (b : Option Key) → t ≡ told.Used pair test first second → IsCalled names (id_of first) a
      → IsCalledIf names (option_map id_of second) b → IsNumbered names (fact_of t) (Used pair test a b)
  number_used t pair test first second a b e h g =
      shown (Used pair test a b) t (told.Used pair test first second) e (record { same = λ i. fact.Used pair test (h.same i) (g.same i); known = (h.known, g.known) })

  pub number_fault : (t : Told) → t ≡ told.Fault → IsNumbered names (fact_of t) Fault
  number_fault t e = shown Fault t told.Fault e (record { same = refl; known = tt })

  pub second_called : (second : Option Called) (called : Called) (key : Key) → second ≡ Some called → IsCalled names (id_of called) key → IsCalledIf names (option_map id_of second) (Some key)
  second_called second called key e h = subst (λ (o : Option Called). IsCalledIf names (option_map id_of o) (Some key)) (sym e) (record { same = ap Some h.same; known = h.known })

  pub second_none : (second : Option Called) → second ≡ None → IsCalledIf names (option_map id_of second) None
  second_none second e = subst (λ (o : Option Called). IsCalledIf names (option_map id_of o) None) (sym e) (record { same = refl; known = tt })
