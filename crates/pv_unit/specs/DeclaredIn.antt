-- A bridge: what the answers of the code that types declarators stand for.
use Rattle.std.specs.Prelude.{ℕ, Bool, true, false, List, Option, Some, None}
use Rattle.pv_types.specs.Known.{Known, tree}
use Rattle.pv_typed.specs.Tables.{Stored}
use Rattle.pv_check.specs.declared.specifiers.Specified.{Specified}
use Rattle.pv_check.specs.Raw.{Raw}
use Rattle.pv_check.specs.Open.{state_in, IsOpen, Goes}
use Rattle.pv_check.specs.State.{After, State}
use Rattle.pv_check.specs.Specifiers.{Specified as WhatIsSpecified}
use Rattle.pv_unit.specs.declared.declarators.DeclaredType.{DeclaredType}
use Rattle.pv_unit.specs.Declarations.{DeclaredType as WholeType}

-- what specifiers say (6.7p1), with the tree of the type
abbrev pub specified_in : Known → Specified → WhatIsSpecified
specified_in m x = record { storage = x.storage; t = tree m x.t.0 }

-- what specifiers say (6.7p1) as an answer, and the state after it
abbrev pub after_specified : List (List ℕ) → Raw → Stored → Option Specified → Option (After WhatIsSpecified)
after_specified texts s m None = None
after_specified texts s m (Some x) = Some (record { value = specified_in m.known x; state = state_in texts s m })

-- the type of a declarator (6.7.6), with its tree
abbrev pub type_in : Known → DeclaredType → WholeType
type_in m x = record { t = tree m x.t.0; unsized = x.without_size }

-- the type of a declarator (6.7.6) as an answer, and the state after it
abbrev pub after_declared : List (List ℕ) → Raw → Stored → Option DeclaredType → Option (After WholeType)
after_declared texts s m None = None
after_declared texts s m (Some x) = Some (record { value = type_in m.known x; state = state_in texts s m })

-- where a declaration (6.7) has an answer, the scopes are open
abbrev pub OpenOn : Stored → Raw → Bool → Type 0
OpenOn m s false = Unit {0}
OpenOn m s true = IsOpen m s

-- where a declaration (6.7) has an answer, the tables have more
abbrev pub GoesOn : Stored → Stored → Bool → Type 0
GoesOn a b false = Unit {0}
GoesOn a b true = Goes a b

-- where a declaration (6.7) has an answer, the state
abbrev pub state_on : List (List ℕ) → Raw → Stored → Bool → Option State
state_on texts s m false = None
state_on texts s m true = Some (state_in texts s m)
