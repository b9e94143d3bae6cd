-- Each way in which a table of instances and pairs changes, beside what is told of it: the events pass, and leave the state of the changed
-- table (C17 6.2.4, 6.3.2.3, 6.5.6p9, 6.5.8p5).
use Rattle.std.proofs.Common.{◌≡◌, ℕ, Bool, true, false, ◌&&◌, not, cond, eqb, List, [], ◌∷◌, ◌++◌, All, Option, Some, None, Result, Ok, Err, refl, sym, ap, ◌∙◌, append-nil, append_assoc}
use Rattle.std.proofs.lemmas.Option.{none-some}
use Rattle.pv_journal_laws.specs.Naming.{AreDistinct}
use Rattle.pv_prov.specs.declared.names.Prov.{Prov}
use Rattle.pv_prov.specs.declared.names.Prov.TheVariants as prov
use Rattle.pv_prov.specs.Names.{nobody, stands}
use Rattle.pv_inst.specs.declared.values.Instance.{Instance}
use Rattle.pv_inst.specs.declared.values.Test.{Test}
use Rattle.pv_inst.specs.declared.values.Tried.{Tried}
use Rattle.pv_inst.specs.declared.values.Miss.{Miss}
use Rattle.pv_inst.specs.Table.{Table, instance_at, with_instance}
use Rattle.pv_inst.specs.Use.{use_answer, after_use, test_number}
use Rattle.pv_inst.specs.WellFormed.{IsPlaced}
use Rattle.pv_inst.specs.Exposure.{expose, expose_one, exposing}
use Rattle.pv_inst.specs.ExposureParts.{exposure_from}
use Rattle.pv_inst.specs.Ending.{after_end}
use Rattle.pv_inst.specs.EndingParts.{ending, over}
use Rattle.pv_inst.specs.Finding.{after_name, table_by, both_found, number_of as first_number, reaches, begins, fitting}
use Rattle.pv_inst.proofs.Rows.{row_found}
use Rattle.pv_watch.specs.declared.event.What.{What}
use Rattle.pv_watch.specs.declared.event.What.TheVariants as what
use Rattle.pv_world.specs.Telling.{uses, pairings, each_exposed, exposures, all_told}
use Rattle.pv_exec.proofs.Memory.Rows.{Sound, Leads, led-itself, led-trans, row-led}
use Rattle.pv_exec.proofs.Memory.Findings.{name-leads}
use Rattle.pv_exec.proofs.Memory.Tables.{use-leads, ended-leads}
use Rattle.pv_journal_laws.specs.Runs.{IsFew}
use Rattle.pv_journal_laws.proofs.Telling.{AreCalled, IsNumbered, told_from, state_of}
use Rattle.pv_journal_laws.proofs.Uses.{AllFill, at_table, use_passes_told}
use Rattle.pv_journal_laws.proofs.Makings.{name_tells}
use Rattle.pv_journal_laws.proofs.Exposures.{told-append, expose_passes_told, end_passes_told}
use Rattle.pv_journal_laws.proofs.Calling.{called_row}

abbrev pub AreFew : List What → Type 0
AreFew [] = Unit {0}
AreFew (e ∷ es) = IsFew e × AreFew es

pub few_parts : (es fs : List What) → AreFew (es ++ fs) → AreFew es × AreFew fs
few_parts [] fs h = (tt, h)
few_parts (e ∷ es) fs h = let r = few_parts es fs h.1 in ((h.0, r.0), r.1)

pub few_exposed : (is : List ℕ) → AreFew (each_exposed is)
few_exposed [] = tt
few_exposed (i ∷ is) = (tt, few_exposed is)

-- what a table keeps during a run, in which pointers to what has ended may not be used
pub record Sane (names : List (List ℕ)) (T : Table) : Type 0 where
  pub sound : Sound (Unit {0}) T.instances T.pairs
  pub called : AreCalled names T
  pub zap : T.zap ≡ true

pub sane_filled : {names : List (List ℕ)} {T : Table} → Sane names T → AllFill T.instances
sane_filled s = λ k d l. (s.sound.placed k d l).some tt

pub sane_placed : {names : List (List ℕ)} {T : Table} → Sane names T → All IsPlaced T.instances
sane_placed s = λ k d l. let p = s.sound.placed k d l in record { some = p.some tt; from = p.from; upto = p.upto }

-- from a table to a changed one these events are told
pub record Tells (names : List (List ℕ)) (turn : ℕ) (T : Table) (es : List What) (U : Table) : Type 0 where
  pub led : Leads (Unit {0}) T U
  pub zap : U.zap ≡ T.zap
  pub pending : U.pending ≡ T.pending
  pub called : AreCalled names T → AreCalled names U
  pub told : Sane names T → AreFew es → told_from names (at_table names turn false T) es ≡ Some (at_table names turn false U)

-- from a table to one in which these are exposed as well, and are still to be told
pub record Shows (names : List (List ℕ)) (turn : ℕ) (T : Table) (new : List ℕ) (U : Table) : Type 0 where
  pub led : Leads (Unit {0}) T U
  pub zap : U.zap ≡ T.zap
  pub pending : U.pending ≡ T.pending ++ new
  pub called : AreCalled names T → AreCalled names U
  pub told : Sane names T → told_from names (at_table names turn false T) (each_exposed new) ≡ Some (at_table names turn false U)

-- some are exposed as well
pub record Showing (names : List (List ℕ)) (turn : ℕ) (T U : Table) : Type 0 where
  pub new : List ℕ
  pub shows : Shows names turn T new U

pub sane_told : {names : List (List ℕ)} {turn : ℕ} {T U : Table} {es : List What} → Tells names turn T es U → Sane names T → Sane names U
sane_told t s = record { sound = t.led.sound s.sound; called = t.called s.called; zap = t.zap ∙ s.zap }

pub sane_shown : {names : List (List ℕ)} {turn : ℕ} {T U : Table} {new : List ℕ} → Shows names turn T new U → Sane names T → Sane names U
sane_shown t s = record { sound = t.led.sound s.sound; called = t.called s.called; zap = t.zap ∙ s.zap }

pub tells-itself : {names : List (List ℕ)} {turn : ℕ} {T : Table} → Tells names turn T [] T
tells-itself = record { led = led-itself; zap = refl; pending = refl; called = λ c. c; told = λ s f. refl }

pub tells-trans : {names : List (List ℕ)} {turn : ℕ} {T U V : Table} {es fs : List What} → Tells names turn T es U → Tells names turn U fs V → Tells names turn T (es ++ fs) V
tells-trans {names} {turn} {T} {U} {V} {es} {fs} h g = record {
  led = led-trans h.led g.led;
  zap = g.zap ∙ h.zap;
  pending = g.pending ∙ h.pending;
  called = λ c. g.called (h.called c);
  told = λ s f.
      let parts = few_parts es fs f in
      told-append names es fs (at_table names turn false T) (at_table names turn false U) (h.told s parts.0) ∙ g.told (sane_told h s) parts.1;
}

each-append : (is js : List ℕ) → each_exposed (is ++ js) ≡ each_exposed is ++ each_exposed js
each-append [] js = refl
each-append (i ∷ is) js = ap (λ l. what.Exposed i ∷ l) (each-append is js)

pub showing-itself : {names : List (List ℕ)} {turn : ℕ} {T : Table} → Showing names turn T T
showing-itself {names} {turn} {T} = record {
  new = [];
  shows = record { led = led-itself; zap = refl; pending = sym (append-nil T.pending); called = λ c. c; told = λ s. refl };
}

pub showing-trans : {names : List (List ℕ)} {turn : ℕ} {T U V : Table} → Showing names turn T U → Showing names turn U V → Showing names turn T V
showing-trans {names} {turn} {T} {U} {V} h g = record {
  new = h.new ++ g.new;
  shows = record {
    led = led-trans h.shows.led g.shows.led;
    zap = g.shows.zap ∙ h.shows.zap;
    pending = g.shows.pending ∙ ap (λ l. l ++ g.new) h.shows.pending ∙ append_assoc T.pending h.new g.new;
    called = λ c. g.shows.called (h.shows.called c);
    told = λ s.
        ap (told_from names (at_table names turn false T)) (each-append h.new g.new)
        ∙ told-append names (each_exposed h.new) (each_exposed g.new) (at_table names turn false T) (at_table names turn false U) (h.shows.told s)
        ∙ g.shows.told (sane_shown h.shows s);
  };
}

-- exposures are told last
pub tells-exposures : {names : List (List ℕ)} {turn : ℕ} {T U V : Table} {es : List What} → T.pending ≡ [] → Tells names turn T es U → Showing names turn U V → Tells names turn T (es ++ exposures V) (all_told V)
tells-exposures {names} {turn} {T} {U} {V} {es} none h g =
    let new : V.pending ≡ g.new = g.shows.pending ∙ ap (λ l. l ++ g.new) (h.pending ∙ none) in
    record {
      led = led-trans h.led g.shows.led;
      zap = g.shows.zap ∙ h.zap;
      pending = sym none;
      called = λ c. g.shows.called (h.called c);
      told = λ s f.
          let parts = few_parts es (exposures V) f in
          told-append names es (exposures V) (at_table names turn false T) (at_table names turn false U) (h.told s parts.0)
          ∙ ap (λ l. told_from names (at_table names turn false U) (each_exposed l)) new ∙ g.shows.told (sane_told h s);
    }

module _ (names : List (List ℕ)) (distinct : AreDistinct names) (turn : ℕ) where
  -- a use
  settled-tells : (T : Table) (p : Prov) (n : ℕ) (r : Result Tried Miss) → Leads (Unit {0}) T (after_use T p r)
      → (Sane names T → told_from names (at_table names turn false T) (uses n r) ≡ Some (state_of names turn false T.instances (after_use T p r).pairs)) → Tells names turn T (uses n r) (after_use T p r)
  settled-tells T prov.Empty n r led told = record { led = led; zap = refl; pending = refl; called = λ c. c; told = λ s f. told s }
  settled-tells T (prov.Inst i) n r led told = record { led = led; zap = refl; pending = refl; called = λ c. c; told = λ s f. told s }
  settled-tells T (prov.Pair k) n (Ok tried) led told = record { led = led; zap = refl; pending = refl; called = λ c. c; told = λ s f. told s }
  settled-tells T (prov.Pair k) n (Err m) led told = record { led = led; zap = refl; pending = refl; called = λ c. c; told = λ s f. told s }

  pub use-tells : (T : Table) (p : Prov) (t : Test) → IsNumbered p → Tells names turn T (uses (test_number t) (use_answer T p t)) (after_use T p (use_answer T p t))
  use-tells T p t numbered =
      settled-tells T p (test_number t) (use_answer T p t) (use-leads T p t) (λ s. use_passes_told names distinct turn false T p t s.zap s.called (sane_filled s) s.sound.met numbered)

  -- the name of an integer
  record Alike (T U : Table) : Type 0 where
    zap : U.zap ≡ T.zap
    pending : U.pending ≡ T.pending
    called : AreCalled names T → AreCalled names U

  alike : {T : Table} → Alike T T
  alike = record { zap = refl; pending = refl; called = λ c. c }

  both-alike : (T : Table) (o p : Option ℕ) → Alike T (table_by T (both_found o p))
  both-alike T None None = alike
  both-alike T None (Some j) = alike
  both-alike T (Some i) None = alike
  both-alike T (Some i) (Some j) = record { zap = refl; pending = refl; called = λ c. c }

  found-alike : (T : Table) (a : ℕ) (b : Bool) → Alike T (table_by T (cond b nobody (fitting T.instances a)))
  found-alike T a true = alike
  found-alike T a false = both-alike T (first_number (reaches a) T.instances) (first_number (begins a) T.instances)

  pub name-tells : (T : Table) (a : ℕ) → Tells names turn T (pairings T (after_name T a)) (after_name T a)
  name-tells T a =
      let like : Alike T (after_name T a) = found-alike T a (eqb a 0) in
      record {
        led = name-leads T a;
        zap = like.zap;
        pending = like.pending;
        called = like.called;
        told = λ s f. name_tells names distinct turn false T a s.called (sane_placed s) s.sound.apart;
      }

  -- exposure
  record Exposing (T U : Table) : Type 0 where
    led : Leads (Unit {0}) T U
    zap : U.zap ≡ T.zap
    called : AreCalled names T → AreCalled names U

  one-exposing : (T : Table) (i : ℕ) (o : Option Instance) → instance_at T.instances i ≡ o → Exposing T (exposing T i o)
  one-exposing T i None e = record { led = led-itself; zap = refl; called = λ c. c }
  one-exposing T i (Some x) e = by (x.live && not x.exposed)
    where
      by : (b : Bool) → Exposing T (cond b (record T { instances = with_instance T.instances i (exposure_from x); pending = T.pending ++ i ∷ [] }) T)
      by true = record {
        led = row-led T.instances T.pairs i x (exposure_from x) (row_found T.instances i x (sym e)) (record { name = refl; k = refl; base = refl; size = refl; kind = refl; lived = λ e. e; exposed = λ e. refl });
        zap = refl;
        called = λ c. called_row names T.instances T.counts i x (exposure_from x) (row_found T.instances i x (sym e)) refl refl refl c;
      }
      by false = record { led = led-itself; zap = refl; called = λ c. c }

  option-exposing : (T : Table) (o : Option ℕ) → Exposing T (expose_one T o)
  option-exposing T None = record { led = led-itself; zap = refl; called = λ c. c }
  option-exposing T (Some i) = one-exposing T i (instance_at T.instances i) refl

  one-shows : (T : Table) (o : Option ℕ) → Showing names turn T (expose_one T o)
  one-shows T o =
      let e = expose_passes_told names distinct turn false T o in
      let like = option-exposing T o in
      record { new = e.new; shows = record { led = like.led; zap = like.zap; pending = e.pending; called = like.called; told = λ s. e.told s.called } }

  pub expose-shows : (T : Table) (p : Prov) → Showing names turn T (expose T p)
  expose-shows T p =
      let s = stands T.pairs p in
      showing-trans (one-shows T s.low) (one-shows (expose_one T s.low) s.high)

  -- an end
  ends-by : (T : Table) (i : ℕ) (x : Instance) → x.live ≡ true → (o : Option Instance) → instance_at T.instances i ≡ o → o ≡ Some x → Leads (Unit {0}) T (ending T i o)
      → (Sane names T → told_from names (at_table names turn false T) (what.Ended i ∷ []) ≡ Some (at_table names turn false (ending T i o))) → Tells names turn T (what.Ended i ∷ []) (ending T i o)
  ends-by T i x live None e at led told = absurd (none-some x at)
  ends-by T i x live (Some y) e at led told = record {
    led = led;
    zap = refl;
    pending = refl;
    called = λ c. called_row names T.instances T.counts i y (over y) (row_found T.instances i y (sym e)) refl refl refl c;
    told = λ s f. told s;
  }

  pub ends-tells : (T : Table) (i : ℕ) (x : Instance) → instance_at T.instances i ≡ Some x → x.live ≡ true → Tells names turn T (what.Ended i ∷ []) (after_end T i)
  ends-tells T i x at live = ends-by T i x live (instance_at T.instances i) refl at (ended-leads T i) (λ s. end_passes_told names distinct turn false T i x s.called at live)
