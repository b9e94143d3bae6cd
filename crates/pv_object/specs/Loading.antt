-- A load (C17 6.3.2.1p2, 6.2.6.1p5): its last checks, the exposures, the value, and the live test on a loaded pointer.
use Rattle.std.specs.Prelude.{ℕ, pos, Bool, false, nat_lt, List, Option, None, Some, Result, Ok, Err, if◌then◌else◌}
use Rattle.pv_num.specs.declared.kinds.IntKind.{IntKind}
use Rattle.pv_num.specs.declared.kinds.IntKind.TheVariants.{Bool as BoolKind}
use Rattle.pv_fault.specs.declared.faults.Clause.TheVariants as clause
use Rattle.pv_fault.specs.declared.faults.Reason.TheVariants as reason
use Rattle.pv_num.specs.Kinds.{convert_of, is_character_kind}
use Rattle.pv_prov.specs.declared.names.Prov.{Prov}
use Rattle.pv_inst.specs.declared.values.Test.TheVariants.{Live}
use Rattle.pv_inst.specs.declared.values.Tried.{Tried}
use Rattle.pv_inst.specs.Table.{Table}
use Rattle.pv_inst.specs.Use.{use_answer, after_use, empty_use}
use Rattle.pv_inst.specs.Exposure.{expose}
use Rattle.pv_inst.specs.Finding.{name_at, after_name}
use Rattle.pv_shadow.specs.declared.byte.Byte.{Byte}
use Rattle.pv_shadow.specs.Bytes.{bytes_from}
use Rattle.pv_shadow.specs.Whole.{whole_name, number_in}
use Rattle.pv_object.specs.declared.values.Pointer.{Pointer}
use Rattle.pv_object.specs.declared.values.Scalar.{Scalar}
use Rattle.pv_object.specs.declared.values.Scalar.TheVariants as scalar
use Rattle.pv_object.specs.declared.values.Value.{Value}
use Rattle.pv_object.specs.declared.values.Value.TheVariants as value
use Rattle.pv_object.specs.declared.values.Stop.{Stop}
use Rattle.pv_object.specs.declared.values.Stop.TheVariants.{Ends}
use Rattle.pv_fault.specs.declared.verdict.Verdict.TheVariants.{Indeterminate}
use Rattle.pv_object.specs.Encoding.{size_of}
use Rattle.pv_object.specs.Access.{fault}
use Rattle.pv_object.specs.Memory.{Mem}
use Rattle.std.specs.List.{fold}
use Rattle.std.specs.Result.{result_map_both}

-- an answer, and the table of the memory model that it leaves
abbrev pub Loaded : Type 0
Loaded = Result (Value × Tried) Stop × Table

-- 6.2.4p2: the live test on a pointer just loaded, whose value is indeterminate where all candidates have ended
abbrev pub loaded_test : Table → Pointer → Loaded
loaded_test T p =
    let r = use_answer T p.prov Live in
    (result_map_both (λ tried. (value.Pointer p, tried)) (λ _. fault clause.Lifetimes reason.Ended) r, after_use T p.prov r)

-- the memory model: a pointer that was stored whole has its name; other bytes are a number that is converted (6.3.2.3p5)
abbrev pub pointer_named : Table → Option Prov → ℕ → Loaded
pointer_named T (Some p) a = loaded_test T (record { address = a; prov = p })
pointer_named T None a = loaded_test (after_name T a) (record { address = a; prov = name_at T a })

-- 6.2.6.1p5, 3.19.2: what bytes are worth at a pointer type; indeterminate where one has no value
abbrev pub pointer_of : Table → List Byte → Option ℕ → Loaded
pointer_of T bytes None = (Err (Ends Indeterminate), T)
pointer_of T bytes (Some a) = pointer_named T (whole_name bytes) a

-- the memory model, exposure: the names of the bytes are exposed one by one, from the first byte on
abbrev pub exposed_by : Table → List Byte → Table
exposed_by T bytes = fold (λ T (b : Byte). expose T b.prov) T bytes

-- 6.2.6.1p5: a number that is no value of the type; here a `_Bool` above 1
abbrev pub is_trap : IntKind → ℕ → Bool
is_trap BoolKind n = nat_lt 1 n
is_trap _ n = false

-- 3.19.2, 6.2.6.1p5: a byte without a value is unset as a character, and indeterminate as any other integer. Its names are exposed
-- (the memory model) behind the checks
abbrev pub integer_of : Table → IntKind → List Byte → Option ℕ → Loaded
integer_of T k bytes None = if is_character_kind k then (Ok (value.Unset, empty_use), exposed_by T bytes) else (Err (Ends Indeterminate), T)
integer_of T k bytes (Some n) =
    if is_trap k n then (Err (fault clause.Traps reason.Trap), T)
    else (Ok (value.Int (convert_of k (pos n)), empty_use), exposed_by T bytes)

-- 6.3.2.1p2: what bytes are worth at a scalar type, and what reading them does to the table
abbrev pub value_of : Table → List Byte → Scalar → Loaded
value_of T bytes (scalar.Int k) = integer_of T k bytes (number_in bytes)
value_of T bytes scalar.Pointer = pointer_of T bytes (number_in bytes)

-- 6.3.2.1p2: a load reads the bytes from its address on. All bytes stay
abbrev pub load : Mem → ℕ → Scalar → Loaded
load M a t = value_of M.table (bytes_from M.bytes a (size_of t)) t
