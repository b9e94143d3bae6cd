-- A bridge: types that are compatible, but for qualifiers around them (6.2.7).
use Rattle.std.specs.Prelude.{◌≡◌, true}
use Rattle.pv_types.specs.declared.compatibility.Qualifier.{Qualifier}
use Rattle.pv_types.specs.Ty.{Ty, Tys}
use Rattle.pv_types.specs.Compatible.{form_of, forms_of, same_form, all_alike}

-- 6.2.7p1, 6.7.3p10: alike, with some qualifiers from around them
pub record Matches (t u : Ty) : Type 0 where
  pub left : Qualifier
  pub right : Qualifier
  pub same : same_form (form_of left t) (form_of right u) ≡ true

-- 6.7.6.3p15: each alike, as parameters are
abbrev pub MatchAll : Tys → Tys → Type 0
MatchAll ts us = all_alike (forms_of ts) (forms_of us) ≡ true
