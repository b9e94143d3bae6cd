-- A bridge: what functions answer that do a part of what Strings says.
use Rattle.std.specs.Prelude.{if◌then◌else◌, not, pos, ◌==◌, ℕ, ◌∷◌, [], List, Option, Result}
use Rattle.pv_libc.specs.Steps.{Now, Did, answer_now}
use Rattle.pv_libc.specs.Blocks.{sign_of}
use Rattle.pv_libc.specs.declared.values.Reply.TheVariants as reply
use Rattle.pv_libc.specs.declared.values.Reply.{Reply}
use Rattle.pv_libc.specs.declared.values.Note.TheVariants.{Used}
use Rattle.pv_libc.specs.declared.values.Note.{Note}
use Rattle.pv_object.specs.declared.values.Value.TheVariants as value
use Rattle.pv_object.specs.declared.values.Stop.{Stop}
use Rattle.pv_inst.specs.declared.values.Tried.{Tried}
use Rattle.std.specs.Option.{option_map_or}
use Rattle.std.specs.Result.{result_unwrap_or}
use Rattle.pv_libc.specs.declared.values.Given.{Given}
use Rattle.pv_libc.specs.Strings.{compared_from}
use Rattle.pv_libc.specs.Characters.{most}

-- 7.24.4p1, 7.24.4.2: of two characters, the sign where they differ, 0 where both are 0, and else what the rest answers
abbrev pub compared_by : ℕ → ℕ → Now → Did Reply → Did Reply
compared_by a b S rest =
    if not (a == b) then answer_now (reply.Value (value.Int (sign_of a b))) S
    else (if a == 0 then answer_now (reply.Value (value.Int (pos 0))) S else rest)

-- the memory model: a use of a name that stood for two before, a pair of candidates
abbrev pub pair_used : Option ℕ → Tried → ℕ → List Note
pair_used k tried test = option_map_or (λ k. Used tried test ∷ []) k []

-- 7.21.6.3: what is printed: nothing where the call stops
abbrev pub text_or_none : Result (List ℕ) Stop → List ℕ
text_or_none r = result_unwrap_or r []

-- 7.24.4.2p2, p3: two strings compared
abbrev pub strcmp : Given → Given → Now → Did Reply
strcmp p q S = compared_from most p q 0 S
