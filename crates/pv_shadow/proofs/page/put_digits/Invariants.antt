use Rattle.std.proofs.Common.{◌≡◌, ◌+◌, ◌-◌, length, map, Some}
use Rattle.pv_shadow.specs.Packed.{page_bytes}
use Rattle.pv_shadow.specs.Pages.{with_slots}
use Rattle.pv_shadow.specs.Whole.{little_endian, number_bytes}
use Rattle.pv_shadow.proofs.page.put_digits.Given as goal

-- what is left to write leaves what the whole leaves
abbrev pub invariant-loop-k : goal.invariant-loop-k
invariant-loop-k l = record {
  left : with_slots (page_bytes l.slots) (l.i + l.k) (map Some (number_bytes l.mark l.k (little_endian (l.n - l.k) l.rest))) ≡ with_slots (page_bytes l.initial.slots) l.i (map Some (number_bytes l.mark 0 (little_endian l.n l.number)));
  wide : length l.slots ≡ 256;
}
