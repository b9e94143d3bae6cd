-- A source that is run has a typing, and so its run is that of the rules alone (C17 5.1.2, 6.9).
use Rattle.std.proofs.Common.{◌≡◌, ◌≢◌, ◌<◌, ◌≤◌, ◌^◌, ℕ, suc, Bool, true, false, ◌&&◌, ◌||◌, List, [], ◌∷◌, length, Some, is_some, refl, sym, ap, subst, ◌∙◌, arith}
use Rattle.std.specs.Prelude.{Option, if◌then◌else◌}
use Rattle.std.specs.Option.{option_map}
use Rattle.std.specs.List.{list_any}
use Rattle.pv_token.specs.Table.{Table}
use Rattle.pv_lex.specs.Lexes.{Lexes}
use Rattle.pv_tree.specs.Syntax.{DeclarationTree}
use Rattle.pv_tree.specs.Units.{SpellUnit}
use Rattle.pv_typed.specs.Known.{Each}
use Rattle.pv_typed.specs.Mains.{named_main, first_main, main_of}
use Rattle.pv_typed.specs.TypedUnits.{WholeUnit, TypedFunction}
use Rattle.pv_typed.specs.Tables.{whole_unit}
use Rattle.pv_unit.specs.Units as checked
use Rattle.pv_world.specs.Worlds.{Worth}
use Rattle.pv_eval.specs.States.{State, Res, Gives, Stops, Unreached}
use Rattle.pv_exec.specs.Run.{setting_of}
use Rattle.pv_guards.specs.PlainRun as plain
use Rattle.pv_guards.specs.Laws.{IsStatus}
use Rattle.pv_guards.specs.TypedStatements.{IsTypedUnit}
use Rattle.pv_guards.proofs.Readying.{run-same, run-gives, run-never}
use Rattle.pv_well_typed.specs.Checked.{IsChecked}
use Rattle.pv_well_typed.proofs.LexedTokens.{typed-lexed}
use Rattle.pv_serve.specs.Readings.{Program}
use Rattle.pv_serve.specs.Comes.{Comes, BadByte, BadToken, LeftOut, Lexed, TokensCome, NoUnit, Spelled, source_limit}
use Rattle.pv_serve.specs.Judged.{IsToRun, IsRunBy}
use Rattle.pv_serve.proofs.ComesLemmas.{unit_typed, source_limit_is}

-- ---- 6.9: a program has tokens, which external declarations spell, and they have this typing

record IsSpelled (source : List ℕ) (v : WholeUnit) : Type 0 where
  tokens : Table
  trees : List DeclarationTree
  lexed : Lexes source tokens
  spelled : SpellUnit tokens.tokens trees
  comes : checked.UnitComes tokens trees (checked.Typed v)

spelled-tokens : (source : List ℕ) (t : Table) (v : WholeUnit) → Lexes source t → TokensCome t (Program v) → IsSpelled source v
spelled-tokens source t v l (NoUnit whole none h e) = absurd cc
spelled-tokens source t v l (Spelled ds h u) = record { tokens = t; trees = ds; lexed = l; spelled = h; comes = unit_typed t ds v u }

spelled-source : (source : List ℕ) (v : WholeUnit) → Comes source (Program v) → IsSpelled source v
spelled-source source v (BadByte place h e) = absurd cc
spelled-source source v (BadToken place h e) = absurd cc
spelled-source source v (LeftOut place word h e) = absurd cc
spelled-source source v (Lexed t l h) = spelled-tokens source t v l h

-- ---- such a source has a typing

within : (n : ℕ) → n ≤ source_limit → n ≤ 2 ^ 20
within n le = omega (arith, source_limit_is)

checked-source : (source : List ℕ) (v : WholeUnit) → Each (λ b. b < 256) source → length source ≤ source_limit → (s : IsSpelled source v) → IsChecked source s.tokens s.trees v
checked-source source v bytes short s = record { bytes = bytes; short = within (length source) short; lexed = s.lexed; spelled = s.spelled; comes = s.comes }

-- ---- 5.1.2.2.1p1: it has a `main`

main-found : (names : List (List ℕ)) (fs : List TypedFunction) → list_any (λ (f : TypedFunction). is_some f.body && named_main names f.name) fs ≡ true → (f : ℕ) × (first_main names fs ≡ Some f)
main-found names [] e = absurd cc
main-found names (x ∷ fs) e = by (main-found names fs) (is_some x.body) (named_main names x.name) refl e
  where
    later : (o : Option ℕ) → (f : ℕ) × (o ≡ Some f) → (f : ℕ) × (option_map suc o ≡ Some f)
    later o (f, e) = (suc f, ap (option_map suc) e)

    by : (list_any (λ (f : TypedFunction). is_some f.body && named_main names f.name) fs ≡ true → (f : ℕ) × (first_main names fs ≡ Some f)) → (b c : Bool) → named_main names x.name ≡ c
        → ((b && c) || list_any (λ (f : TypedFunction). is_some f.body && named_main names f.name) fs) ≡ true → (f : ℕ) × ((if c then Some 0 else option_map suc (first_main names fs)) ≡ Some f)
    by rest b true q e = (0, refl)
    by rest true false q e = later (first_main names fs) (rest e)
    by rest false false q e = later (first_main names fs) (rest e)

typed-main : (t : Table) (ds : List DeclarationTree) (v : WholeUnit) → checked.UnitComes t ds (checked.Typed v) → (f : ℕ) × (main_of v ≡ Some f)
typed-main t ds v (u, h) =
    let m = main-found u.state.unit.names u.state.unit.functions h.2 in
    (m.0, subst (λ x. main_of x ≡ Some m.0) (sym h.3) m.1)

-- ---- 5.1.2: each run of it is that of the rules alone, by whichever tables

module _ (source script : List ℕ) (bytes : Each (λ b. b < 256) source) (job : IsToRun source script) (bound : ℕ) (zap : Bool) (sides : Option (List Bool)) (run : Res Worth) (runs : IsRunBy job.unit job.lines bound zap sides run) where
  read : IsSpelled source job.unit
  read = spelled-source source job.unit job.comes

  is-checked : IsChecked source read.tokens read.trees (whole_unit runs.tables)
  is-checked = subst (IsChecked source read.tokens read.trees) (sym runs.stands) (checked-source source job.unit bytes job.short read)

  is-typed : IsTypedUnit (whole_unit runs.tables)
  is-typed = typed-lexed source read.tokens read.trees (whole_unit runs.tables) is-checked

  pub run-ruled : run ≡ plain.run_of (setting_of runs.tables bound sides zap) job.lines
  run-ruled = runs.is ∙ run-same (setting_of runs.tables bound sides zap) is-typed job.lines

  -- it never comes to what C has no rule for
  pub run-comes : (s : State) → plain.run_of (setting_of runs.tables bound sides zap) job.lines ≢ Stops Unreached s
  run-comes s e = run-never runs.tables is-typed sides zap job.lines bound s e

  -- 5.1.2.2.3p1: what `main` gives
  pub run-status : (v : Worth) (s : State) → run ≡ Gives v s → IsStatus v
  run-status v s e =
      let m = typed-main read.tokens read.trees (whole_unit runs.tables) is-checked.comes in
      run-gives (setting_of runs.tables bound sides zap) is-typed job.lines m.0 m.1 v s (sym runs.is ∙ e)
