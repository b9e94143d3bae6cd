use Rattle.std.proofs.Common.{◌≡◌, ℕ, ◌+◌, ◌<◌, List, length, drop, get_or, Some}
use Rattle.pv_shadow.specs.declared.byte.Byte.{Byte}
use Rattle.pv_shadow.specs.Bytes.{blank_byte}
use Rattle.pv_shadow.specs.Pages.{slot_at}
use Rattle.pv_shadow.specs.Readings.{are_marked}
use Rattle.pv_shadow.proofs.page.Page.are_each_marked.Given as goal

-- the places so far have their marks
abbrev pub invariant-loop-k : goal.invariant-loop-k
invariant-loop-k l = (bs : List Byte) → length bs ≡ l.n → ((k : ℕ) → k < l.n → slot_at l.self (l.i + k) ≡ Some (get_or bs k blank_byte)) → are_marked (drop l.k bs) l.t l.k ≡ are_marked bs l.t 0
