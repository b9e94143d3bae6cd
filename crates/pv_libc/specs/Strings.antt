-- Functions on strings (C17 7.24.2.3, 7.24.4.2, 7.24.6.3).
use Rattle.std.specs.Prelude.{ℕ, zero, suc, pos, ◌+◌, ◌==◌, not, true, [], ◌∷◌, ◌++◌, map, length, if◌then◌else◌}
use Rattle.pv_fault.specs.declared.faults.Clause.TheVariants as clause
use Rattle.pv_fault.specs.declared.faults.Reason.TheVariants as reason
use Rattle.pv_object.specs.declared.values.Value.TheVariants as value
use Rattle.pv_object.specs.declared.values.Asker.TheVariants.{Text}
use Rattle.pv_object.specs.Access.{fault}
use Rattle.pv_object.specs.Copying.{with_bytes}
use Rattle.pv_libc.specs.declared.values.Given.{Given}
use Rattle.pv_libc.specs.declared.values.Reply.{Reply}
use Rattle.pv_libc.specs.declared.values.Reply.TheVariants as reply
use Rattle.pv_libc.specs.Steps.{Now, Did, answer_now, stop_now, next, with_more_notes, in_memory, reach_for}
use Rattle.pv_libc.specs.Characters.{character_at, string_at, too_far}
use Rattle.pv_libc.specs.Blocks.{plain_byte, share, sign_of, answers}

-- 7.24.6.3p3: how many characters come before the first 0
abbrev pub strlen : Given → Now → Did Reply
strlen g S = next (string_at Text g S) (λ s T. answer_now (reply.Value (value.Int (pos (length s)))) T)

-- 7.24.4.2p2, p3, 7.24.4p1: a character of the left, then one of the right: the sign where they differ, 0 where both are 0, and else what the rest
-- answers
abbrev pub compared_from : ℕ → Given → Given → ℕ → Now → Did Reply
compared_from zero p q i S = too_far Text p S
compared_from (suc k) p q i S =
    next (character_at Text p i S) (λ a T.
    next (character_at Text q i T) (λ b U. if not (a == b) then answer_now (reply.Value (value.Int (sign_of a b))) U
    else (if a == 0 then answer_now (reply.Value (value.Int (pos 0))) U else compared_from k p q (i + 1) U)))

-- 7.24.2.3p2: the string is read, the target is checked for as many bytes, and then that they share none
abbrev pub strcpy : Given → Given → Now → Did Reply
strcpy to from S =
    next (string_at Text from S) (λ s T.
    next (reach_for Text true to (length s + 1) T) (λ t U.
    if share to.pointer.address from.pointer.address (length s + 1) then stop_now (fault clause.StrcpyOverlap reason.Overlap) (with_more_notes (to.stopped ∷ []) U)
    else answers to (in_memory U (with_bytes U.memory t.address (map plain_byte (s ++ 0 ∷ []))))))
