use denote.Text.{Utf8}
use denote.Shadow.{shadow}
use Rattle.pv_gallery.proofs.rows.file_compared.Given as goal

-- What the next row asks is text, as the file is that it was cut out of.
abbrev pub invariant-loop-part : goal.invariant-loop-part
invariant-loop-part g l =
    (goal.iterator-loop-part g).can_next l.part-iterator ×
    (goal.iterator-loop-part g).is_finite l.part-iterator ×
    shadow (Utf8 l.asked)
