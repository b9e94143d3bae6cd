-- Uses at both zaps (6.2.4p2): an ended instance, a live one, and a pair of an ended and a live one.
use Rattle.std.proofs.Common.{◌≡◌, ℕ, Bool, true, false, [], ◌∷◌, Some, None, Ok, Err, refl}
use Rattle.std.specs.FinMap.{empty}
use Rattle.pv_prov.specs.declared.names.Prov.TheVariants.{Inst, Pair}
use Rattle.pv_inst.specs.declared.values.Instance.{Instance}
use Rattle.pv_num.specs.declared.kinds.IntKind.TheVariants.{Int}
use Rattle.pv_types.specs.Ty.{IntTy}
use Rattle.pv_inst.specs.declared.values.Kind.{Kind}
use Rattle.pv_inst.specs.declared.values.Kind.TheVariants.{Declared, Literal, Heap, Function}
use Rattle.pv_inst.specs.declared.values.Test.TheVariants.{Live, Range, Code}
use Rattle.pv_inst.specs.declared.values.Miss.TheVariants.{Ended, Outside}
use Rattle.pv_inst.specs.Table.{Table}
use Rattle.pv_inst.specs.Use.{use_answer}
use Rattle.pv_inst.specs.TwoPointers.{same_answer, miss_of_two}
use Rattle.pv_world.specs.declared.got.Shape.TheVariants as shape
use Rattle.pv_shadow.specs.Bytes.{bytes_from}
use Rattle.pv_world.specs.Worlds.{World}
use Rattle.pv_world.specs.Doing.{Done, Answers, Fails, Breaks}
use Rattle.pv_world.specs.Worths.{pointer}
use Rattle.pv_eval.specs.States.{Setting}
use Rattle.pv_eval.specs.TypeForms.{Lvalue}
use Rattle.pv_eval.specs.Accesses.{reads}
use Rattle.pv_exec.proofs.Settling.Sides.{on_table, on_world}

abbrev at : (base : ℕ) → (live : Bool) → Instance
at base live = record { name = 2; k = 1; base = base; size = 4; kind = Declared false; live = live; exposed = true }

-- instance 1 has ended, instance 2 begins where it lay to and lives; pair 1 is of both
abbrev row : (zap : Bool) → Table
row zap = record { script = []; instances = at 65536 false ∷ at 65540 true ∷ []; pairs = record { low = 1; high = 2; keeps_low = true; keeps_high = true } ∷ []; cursor = 65560; counts = empty; pending = []; zap = zap }

on-ended : use_answer (row true) (Inst 1) Live ≡ Err Ended
on-ended = refl

off-ended : use_answer (row false) (Inst 1) Live ≡ Ok (record { pair = None; low = true; high = false })
off-ended = refl

off-range : use_answer (row false) (Inst 1) (Range 65536 4) ≡ Err Ended
off-range = refl

off-outside : use_answer (row false) (Inst 2) (Range 65536 4) ≡ Err Outside
off-outside = refl

on-pair : use_answer (row true) (Pair 1) Live ≡ Ok (record { pair = Some 1; low = false; high = true })
on-pair = refl

off-pair : use_answer (row false) (Pair 1) Live ≡ Ok (record { pair = Some 1; low = true; high = true })
off-pair = refl

off-same : same_answer (row false) (Inst 1) (Inst 1) ≡ Err Ended
unfolding miss_of_two
off-same = refl

-- settled to the low side: at zap on the live test is undefined in the settled run, where the late one goes on with the high side
on-low : use_answer (on_table (false ∷ []) (row true)) (Pair 1) Live ≡ Err Ended
on-low = refl

off-low : use_answer (on_table (false ∷ []) (row false)) (Pair 1) Live ≡ Ok (record { pair = None; low = true; high = false })
off-low = refl

on-high : use_answer (on_table (true ∷ []) (row true)) (Pair 1) Live ≡ Ok (record { pair = None; low = false; high = true })
on-high = refl

-- A read of no bytes, at an `int`, where an allocation ends and a literal begins: why `suits` asks for a byte. The late run means the
-- allocation, which permits it; settled to the literal it is undefined (6.5p7), though neither was dropped.
abbrev alike : (base : ℕ) → Kind → Instance
alike base kind = record { name = 1; k = 1; base = base; size = 4; kind = kind; live = true; exposed = true }

abbrev border : World
border = record {
  memory = record {
    table = record { script = []; instances = alike 65536 Heap ∷ alike 65540 Literal ∷ []; pairs = record { low = 1; high = 2; keeps_low = true; keeps_high = true } ∷ []; cursor = 65560; counts = empty; pending = []; zap = true };
    bytes = empty;
  };
  owners = [];
  statics = empty;
  literals = empty;
  functions = empty;
  bodies = [];
}

abbrev no_bytes : Lvalue
no_bytes = record { t = IntTy Int; number = 0; size = 0; align = 1; shape = shape.Whole }

abbrev answers : Done → Bool
answers (Answers v w t) = true
answers (Fails y p w t) = false
answers (Breaks y b w t) = false

late-reads : (b : Setting) → answers (reads b no_bytes (pointer (record { address = 65540; prov = Pair 1 })) [] border) ≡ true
unfolding bytes_from
late-reads b = refl

high-stops : (b : Setting) → answers (reads b no_bytes (pointer (record { address = 65540; prov = Pair 1 })) [] (on_world (true ∷ []) border)) ≡ false
high-stops b = refl

-- where an allocation ends and a function begins a call means the function; settled to the allocation it is undefined (6.5.2.2p1)
abbrev callee : Table
callee = record (row true) { instances = alike 65536 Heap ∷ record { name = 1; k = 1; base = 65540; size = 1; kind = Function; live = true; exposed = true } ∷ [] }

late-calls : use_answer callee (Pair 1) (Code 65540) ≡ Ok (record { pair = Some 1; low = false; high = true })
late-calls = refl

high-calls : use_answer (on_table (true ∷ []) callee) (Pair 1) (Code 65540) ≡ Ok (record { pair = None; low = false; high = true })
high-calls = refl

low-calls : use_answer (on_table (false ∷ []) callee) (Pair 1) (Code 65540) ≡ Err Outside
low-calls = refl
