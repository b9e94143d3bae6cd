-- Two tables of types of one unit: they have the same layouts, and lvalues of the unit's types mark alike by both (C17 6.5p6, 6.7.2.3p4).
use Rattle.std.proofs.Common.{◌≡◌, ℕ, Bool, List, ap, subst, sym}
use Rattle.std.specs.Prelude.{Option}
use Rattle.pv_types.specs.Ty.{VoidTy}
use Rattle.pv_types.specs.Known.{env}
use Rattle.pv_typed.specs.TypedUnits.{WholeUnit, layouts}
use Rattle.pv_typed.specs.Tables.{Stored, whole_unit}
use Rattle.pv_exec.specs.Run.{setting_of}
use Rattle.pv_numbering.proofs.Alike.{with_types}
use Rattle.pv_numbering.proofs.Types.{AllUnit}
use Rattle.pv_numbering.proofs.InTables.{InTable, tree_in_table, void_in_table}
use Rattle.pv_numbering.proofs.UnitTypes.{all_whole}
use Rattle.pv_numbering.proofs.Joined.{joined_unit}
use Rattle.pv_numbering.proofs.Numbers.{alike_lvalue}
use Rattle.pv_numbering.proofs.Expressions.{AlikeType}

-- the layouts of a unit's tags don't depend on the table
pub same_layouts : (u u' : Stored) → whole_unit u ≡ whole_unit u' → env u.known ≡ env u'.known
same_layouts u u' same = ap layouts same

-- all types of a unit are in its table
pub types_in_table : (u : Stored) → AllUnit (InTable u.known) (whole_unit u)
types_in_table u = all_whole (InTable u.known) (void_in_table u.known) u (tree_in_table u.known)

module _ (u u' : Stored) (same : whole_unit u ≡ whole_unit u') (bound : ℕ) (sides : Option (List Bool)) (zap : Bool) where
  pub unit_alike : AllUnit (AlikeType (setting_of u bound sides zap) u'.known) (whole_unit u)
  unit_alike =
      joined_unit (InTable u.known) (InTable u'.known) (AlikeType (setting_of u bound sides zap) u'.known)
      (alike_lvalue (setting_of u bound sides zap) u'.known) (whole_unit u)
      (types_in_table u)
      (subst (AllUnit (InTable u'.known)) (sym same) (types_in_table u'))

  -- the setting of the run by the other table
  pub other_setting : with_types (setting_of u bound sides zap) u'.known ≡ setting_of u' bound sides zap
  other_setting = ap (λ (w : WholeUnit). record { unit = w; types = u'.known; bound = bound; sides = sides; zap = zap }) same
