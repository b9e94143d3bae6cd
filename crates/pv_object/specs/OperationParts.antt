-- A bridge: what functions answer that do a part of what Operations says.
use Rattle.std.specs.Prelude.{pos, ◌+ℤ◌, ℕ, ℤ, ◌&&◌, None, Bool, ◌==◌, Option, not, if◌then◌else◌, Result}
use Rattle.std.specs.Ordering.{nat_cmp}
use Rattle.std.specs.declared.cmp.Ordering.{Ordering}
use Rattle.pv_object.specs.Operations.{as_address, ended_stop, same_stop, code_by}
use Rattle.pv_object.specs.Access.{readonly_stop, range_stop, fault}
use Rattle.pv_object.specs.declared.values.Stop.{Stop}
use Rattle.pv_object.specs.declared.values.Pointer.{Pointer}
use Rattle.pv_object.specs.declared.values.Value.{Value}
use Rattle.pv_object.specs.declared.values.Value.TheVariants as value
use Rattle.pv_inst.specs.declared.values.Kind.{Kind}
use Rattle.pv_inst.specs.declared.values.Instance.{Instance}
use Rattle.pv_inst.specs.declared.values.Miss.{Miss}
use Rattle.pv_inst.specs.declared.values.Tried.{Tried}
use Rattle.pv_inst.specs.Table.{Table}
use Rattle.pv_inst.specs.Use.{after_use}
use Rattle.pv_shadow.specs.Bytes.{with_blanks, Store, without_bytes}
use Rattle.pv_fault.specs.declared.faults.Clause.{Clause}
use Rattle.pv_fault.specs.declared.faults.Reason.TheVariants as reason
use Rattle.pv_fault.specs.declared.faults.Clause.TheVariants as clause
use Rattle.pv_prov.specs.Names.{stands}
use Rattle.std.specs.Option.{option_map_or}
use Rattle.std.specs.Result.{result_map_both}

-- 6.5.6p8: the address so many bytes on
abbrev pub address_on : ℕ → ℤ → ℕ
address_on a by = as_address (pos a +ℤ by)

-- 6.4.5p7, 6.7.3p6: nothing is read-only where no byte is written
abbrev pub write_stop : (write : Bool) (n : ℕ) → Kind → Option Stop
write_stop write n kind = if write && not (n == 0) then readonly_stop kind else None

-- 6.7.9p10: blank bytes for the instance
abbrev pub blank_in : Option Instance → Store → Store
blank_in x b = option_map_or (λ (x : Instance). with_blanks b x.base x.size) x b

-- 6.2.4p2: the instance has no bytes
abbrev pub cleared_in : Option Instance → Store → Store
cleared_in x b = option_map_or (λ (x : Instance). without_bytes b x.base x.size) x b

-- 6.3.1.2, 6.5.3.3p5, 6.8.4.1p2: whether a pointer is not equal to 0, once its name passed the live test
abbrev pub truth_by : Pointer → Result Tried Miss → Result (Bool × Tried) Stop
truth_by p r = result_map_both (λ tried. (not (p.address == 0), tried)) (λ _. ended_stop) r

-- 6.5.9p6: the live test of each, the left one first, and the addresses compared. Nothing is settled between two live ones
abbrev pub equal_by : Pointer → Pointer → Tried → Result Tried Miss → Result (Bool × Tried × Tried) Stop
equal_by p q left r = result_map_both (λ right. (p.address == q.address, left, right)) (λ _. ended_stop) r

-- 6.5.6p8: the pointer that was moved, where the range of no bytes at the new address passed
abbrev pub moved_by : Clause → Pointer → ℕ → Result Tried Miss → Result (Pointer × Tried) Stop
moved_by c p a r = result_map_both (λ tried. (record { address = a; prov = p.prov }, tried)) (range_stop c) r

-- 6.5.8p5, 6.5.6p9: what both are settled to, or why not
abbrev pub both_or_stop : Clause → Result (Tried × Tried) Miss → Result (Tried × Tried) Stop
both_or_stop c r = result_map_both (λ both. both) (same_stop c) r

-- 6.5.8p5: by address
abbrev pub order_by : Pointer → Pointer → Result (Tried × Tried) Stop → Result (Ordering × Tried × Tried) Stop
order_by p q r = result_map_both (λ (both : Tried × Tried). (nat_cmp p.address q.address, both.0, both.1)) (λ stop. stop) r

-- 6.2.4p2: a loaded pointer, where its name passed the live test
abbrev pub live_answer : Pointer → Result Tried Miss → Result (Value × Tried) Stop
live_answer p r = result_map_both (λ tried. (value.Pointer p, tried)) (λ _. fault clause.Lifetimes reason.Ended) r

-- 6.5.2.2p1, 6.2.4p2: the test for a function at the pointer's address
abbrev pub code_at : Table → Pointer → Result Tried Miss → Result (ℕ × Tried) Stop × Table
code_at T p r = (code_by (stands T.pairs p.prov) r, after_use T p.prov r)
