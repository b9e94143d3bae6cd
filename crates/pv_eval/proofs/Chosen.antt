-- An operation by its guard: what the world did, or the end of the run as by a missing value.
use Rattle.std.proofs.Common.{◌≡◌, ℕ, true, false, List, [], ◌++◌, length, None, refl, sym, ap, ◌∙◌, subst}
use Rattle.std.specs.Prelude.{Result, Err}
use Rattle.pv_types.specs.Known.{Known}
use Rattle.pv_typed.specs.TypedUnits.{WholeUnit}
use Rattle.pv_typed.specs.Tables.{Stored, whole_unit}
use Rattle.pv_watch.specs.declared.event.What.{What}
use Rattle.pv_world.specs.declared.got.Failure.{Failure}
use Rattle.pv_world.specs.Worlds.{Worth, World}
use Rattle.pv_world.specs.Worths.{missing_value}
use Rattle.pv_world.specs.Telling.{fault_of, verdict_of}
use Rattle.pv_world.specs.Doing.{Done}
use Rattle.pv_world.specs.Coming.{Did, Came, Faulted, coming_of}
use Rattle.pv_world.proofs.Guards as looked
use Rattle.pv_eval.specs.declared.marked.Marked.{Marked}
use Rattle.pv_eval.specs.States.{Setting, Res}
use Rattle.pv_eval.specs.Acting.{after_doing}
use Rattle.pv_eval.specs.Moments.{Moment, Follows, IsSetting, state_of}
use Rattle.pv_eval.specs.Operations as op
use Rattle.pv_eval.specs.Operations.{Op, suits, works, does, act}
use Rattle.pv_eval.specs.Sizes.{setting_of}

-- an operation of a run, by whether its operands suit
module _ {A : Type 0} (give : A → Worth) (b : Setting) (o : Op) (w : World) where
  pub suited : (r : Result A Failure) (v : World) (es fs : List What) → suits b o w ≡ true → Did give (works b o) r w v es fs → Did give (does b o) r w v es fs
  suited r v es fs e h = looked.suited give (works b o) w (suits b o w) r v es fs e h

  pub unsuited : (f : Failure) (es fs : List What) → suits b o w ≡ false → Faulted f missing_value fs (es ++ fault_of None (verdict_of missing_value)) → Did give (does b o) (Err f) w w es fs
  unsuited f es fs e h = looked.unsuited give (works b o) w (suits b o w) f es fs e h

-- what an operation does rests on the unit and the numbers of its types alone
abbrev plain : Setting → Setting
plain b = record { unit = b.unit; types = b.types; bound = 0; sides = None; zap = true }

does_plain : (b : Setting) (o : Op) (w : World) → does b o w ≡ does (plain b) o w
does_plain b (op.Converts how v) w = refl
does_plain b (op.Calculates o k v x) w = refl
does_plain b (op.CalculatesOne o k v) w = refl
does_plain b (op.Tests v) w = refl
does_plain b (op.Negates v) w = refl
does_plain b (op.Accepts v) w = refl
does_plain b (op.Needs v) w = refl
does_plain b (op.Moves minus first size v x) w = refl
does_plain b (op.Subtracts size v x) w = refl
does_plain b (op.Orders o v x) w = refl
does_plain b (op.Equals negated v x) w = refl
does_plain b (op.Follows nothing v) w = refl
does_plain b (op.Selects offset v) w = refl
does_plain b (op.Finds t v) w = refl
does_plain b (op.TakesPart offset l v) w = refl
does_plain b (op.Reads l place rivals) w = refl
does_plain b (op.Writes l place v from rivals) w = refl
does_plain b (op.NamesObject o) w = refl
does_plain b (op.NamesLiteral l) w = refl
does_plain b (op.NamesFunction f) w = refl
does_plain b (op.Makes o) w = refl
does_plain b (op.MakesLiteral l) w = refl
does_plain b (op.MakesFunction f) w = refl
does_plain b (op.Ends o) w = refl
does_plain b (op.BeginsBody f line) w = refl
does_plain b op.EndsBody w = refl
does_plain b (op.Fills o v) w = refl
does_plain b (op.Puts o offset l v) w = refl
does_plain b (op.PutsText o offset size l) w = refl
does_plain b (op.Asks f args) w = refl

-- so it is told by the tables of the unit
pub does_in : (b : Setting) (u : Stored) (o : Setting → Op) (w : World) → b.unit ≡ whole_unit u → b.types ≡ u.known → o b ≡ o (plain b)
    → does b (o b) w ≡ does (setting_of u) (o (setting_of u)) w
does_in b u o w unit types same =
    let at : WholeUnit → Known → Setting = λ U K. record { unit = U; types = K; bound = 0; sides = None; zap = true } in
    ap (λ x. does b x w) same
    ∙ does_plain b (o (plain b)) w
    ∙ ap (λ (U : WholeUnit). does (at U b.types) (o (at U b.types)) w) unit
    ∙ ap (λ (K : Known). does (at (whole_unit u) K) (o (at (whole_unit u) K)) w) types

pub did_in : {A : Type 0} (give : A → Worth) (b : Setting) (u : Stored) (o : Setting → Op) (r : Result A Failure) (w v : World) (es fs : List What) → b.unit ≡ whole_unit u → b.types ≡ u.known → o b ≡ o (plain b)
    → Did give (does (setting_of u) (o (setting_of u))) r w v es fs → Did give (does b (o b)) r w v es fs
did_in give b u o r w v es fs unit types same h = subst (λ d. Came give r v fs (coming_of es w d)) (sym (does_in b u o w unit types same)) h

-- an operation on the world, and its closing
module _ {A : Type 0} (give : A → Worth) (C : Res Worth → Type 0) (b : Setting) (u : Stored) (o p : Op) (line : ℕ) (r : Result A Failure) (inner old : Moment) (w : World) (before told slice : List What) (out : List ℕ) (es : List Marked) where
  closing_inner : IsSetting b u inner → Follows inner (length out) → before ≡ [] → slice ≡ told → p ≡ o
      → Did give (does b p) r inner.world w before told
      → ((op : World → Done) → b.sides ≡ inner.sides → Follows inner (length out) → Did give op r inner.world w [] slice → C (after_doing b line (op inner.world) (state_of inner out es)))
      → C (act b line o (state_of inner out es))
  closing_inner hs hf e f g did k =
      let did1 = subst (λ x. Did give (does b p) r inner.world w x told) e did in
      let did2 = subst (λ x. Did give (does b p) r inner.world w [] x) (sym f) did1 in
      subst (λ x. C (act b line x (state_of inner out es))) g (k (does b p) hs.sides hf did2)

  pub closing : inner ≡ old → IsSetting b u old → Follows old (length out) → before ≡ [] → slice ≡ told → p ≡ o
      → Did give (does b p) r inner.world w before told
      → ((op : World → Done) → b.sides ≡ inner.sides → Follows inner (length out) → Did give op r inner.world w [] slice → C (after_doing b line (op inner.world) (state_of inner out es)))
      → C (act b line o (state_of old out es))
  closing is hs hf e f g did k =
      subst (λ (m : Moment). C (act b line o (state_of m out es))) is
      (closing_inner (subst (IsSetting b u) (sym is) hs) (subst (λ (m : Moment). Follows m (length out)) (sym is) hf) e f g did k)
