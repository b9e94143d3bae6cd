-- What a source is, by itself: a program, or why it is none.
use Rattle.pv_typed.specs.TypedUnits.{WholeUnit}
use Rattle.pv_serve.specs.Verdicts.{Refusal}

-- 6.9: a source is a program, whose translation unit has this typing, or it is refused (5.1.1.3p1)
pub data Reading : Type 0 where
  Program : (unit : WholeUnit) → Reading
  Bad : (refusal : Refusal) → Reading

-- ---- what the code answers
