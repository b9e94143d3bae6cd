-- Functions on ranges of bytes (C17 7.24.2.1, 7.24.2.2, 7.24.4.1, 7.24.6.1).
use Rattle.std.specs.Prelude.{ℕ, ℤ, pos, negsuc, ◌+◌, Bool, true, false, ◌&&◌, ◌==◌, nat_lt, List, [], ◌∷◌, None, Some, if◌then◌else◌}
use Rattle.std.specs.List.{repeat}
use Rattle.pv_num.specs.declared.kinds.IntKind.TheVariants.{UChar}
use Rattle.pv_fault.specs.declared.faults.Clause.TheVariants as clause
use Rattle.pv_fault.specs.declared.faults.Reason.TheVariants as reason
use Rattle.pv_num.specs.Kinds.{bits_of}
use Rattle.pv_prov.specs.declared.names.Prov.TheVariants.{Empty}
use Rattle.pv_shadow.specs.declared.byte.Byte.{Byte}
use Rattle.pv_object.specs.declared.values.Value.TheVariants as value
use Rattle.pv_object.specs.declared.values.Asker.TheVariants.{Text}
use Rattle.pv_object.specs.Memory.{Mem}
use Rattle.pv_object.specs.Access.{fault}
use Rattle.pv_object.specs.Copying.{with_bytes, after_copy}
use Rattle.pv_libc.specs.declared.values.Given.{Given}
use Rattle.pv_libc.specs.declared.values.Reply.{Reply}
use Rattle.pv_libc.specs.declared.values.Reply.TheVariants as reply
use Rattle.pv_libc.specs.Steps.{Now, Did, answer_now, stop_now, next, with_more_notes, in_memory, reach_for}
use Rattle.pv_libc.specs.Characters.{characters_from}

-- an abstract byte of this value: the empty name, no index and no mark (the memory model)
abbrev pub plain_byte : ℕ → Byte
plain_byte v = record { value = Some v; prov = Empty; index = None; mark = None }

-- 7.24.6.1p2: n bytes from an address on get a value
abbrev pub after_filling : Mem → ℕ → ℕ → ℕ → Mem
after_filling M a n v = with_bytes M a (repeat n (plain_byte v ∷ []))

-- 7.24.2.1p2: two ranges of n bytes share a byte
abbrev pub share : ℕ → ℕ → ℕ → Bool
share a b n = nat_lt a (b + n) && nat_lt b (a + n)

-- 7.24.2.1p3, 7.24.2.2p3, 7.24.2.3p3, 7.24.6.1p3: the functions that answer their first argument
abbrev pub answers : Given → Now → Did Reply
answers g S = answer_now (reply.Value (value.Pointer g.pointer)) S

-- 7.24.2.1p2, 7.24.2.2p2: the target is checked, then the source, and for `memcpy` that they share no byte
abbrev pub copy : (apart : Bool) → Given → Given → ℕ → Now → Did Reply
copy apart to from n S =
    next (reach_for Text true to n S) (λ t T.
    next (reach_for Text false from n T) (λ f U.
    if apart && share to.pointer.address from.pointer.address n then stop_now (fault clause.MemcpyOverlap reason.Overlap) (with_more_notes (to.stopped ∷ []) U)
    else answers to (in_memory U (after_copy U.memory t.address f.address n))))

-- 7.24.6.1p2: n bytes get the value, converted to `unsigned char`
abbrev pub memset : Given → ℤ → ℕ → Now → Did Reply
memset g c n S = next (reach_for Text true g n S) (λ r T. answers g (in_memory T (after_filling T.memory r.address n (bits_of UChar c))))

-- 7.24.4p1: the sign of the difference of two characters, here as -1, 0 or 1
abbrev pub sign_of : ℕ → ℕ → ℤ
sign_of a b = if nat_lt a b then negsuc 0 else (if a == b then pos 0 else pos 1)

-- 7.24.4p1, 7.24.4.1p3: the sign of the first difference
abbrev pub difference : List ℕ → List ℕ → ℤ
difference (a ∷ ls) (b ∷ rs) = if a == b then difference ls rs else sign_of a b
difference _ _ = pos 0

-- 7.24.4.1p2: both are checked, the left one first; then all of the left are read, and all of the right
abbrev pub memcmp : Given → Given → ℕ → Now → Did Reply
memcmp p q n S =
    next (reach_for Text false p n S) (λ l T.
    next (reach_for Text false q n T) (λ r U.
    next (characters_from n p l.address [] U) (λ ls V.
    next (characters_from n q r.address [] V) (λ rs W. answer_now (reply.Value (value.Int (difference ls rs))) W))))
