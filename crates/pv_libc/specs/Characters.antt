-- Characters and strings as the library reads them (C17 7.1.1p1, 7.24.1p3).
use Rattle.std.specs.Prelude.{ℕ, zero, suc, ◌+◌, ◌==◌, List, [], ◌∷◌, ◌++◌, length, Result, Ok, Err, false, if◌then◌else◌, unsigned_abs, ◌^◌}
use Rattle.pv_num.specs.declared.kinds.IntKind.TheVariants.{UChar}
use Rattle.pv_fault.specs.declared.faults.Reason.TheVariants.{Outside}
use Rattle.pv_inst.specs.declared.values.Tried.{Tried}
use Rattle.pv_object.specs.declared.values.Scalar.TheVariants as scalar
use Rattle.pv_object.specs.declared.values.Value.{Value}
use Rattle.pv_object.specs.declared.values.Value.TheVariants as value
use Rattle.pv_object.specs.declared.values.Stop.{Stop}
use Rattle.pv_object.specs.declared.values.Stop.TheVariants.{Ends}
use Rattle.pv_fault.specs.declared.verdict.Verdict.TheVariants.{Indeterminate}
use Rattle.pv_object.specs.declared.values.Asker.{Asker}
use Rattle.pv_object.specs.Access.{fault, clause_of}
use Rattle.pv_object.specs.Loading.{Loaded, load}
use Rattle.pv_libc.specs.declared.values.Given.{Given}
use Rattle.pv_libc.specs.Steps.{Now, Did, answer_now, stop_now, next, with_more_notes, with_exposures, in_table, about, reach_for, bytes_further}

-- 7.24.1p3: a character is read as an `unsigned char`, and here it needs a value
abbrev pub character_of : Result (Value × Tried) Stop → Result ℕ Stop
character_of (Ok ((value.Int n), tried)) = Ok (unsigned_abs n)
character_of (Ok (value.Unset, tried)) = Err (Ends Indeterminate)
character_of (Ok ((value.Pointer p), tried)) = Err (Ends Indeterminate)
character_of (Err stop) = Err stop

-- 7.24.1p3: a character that was loaded; what becomes exposed by it is noted at once (the memory model: exposure)
abbrev pub character_loaded : Now → Loaded → Did ℕ
character_loaded S got = record { answer = character_of got.0; after = with_exposures (in_table S got.1) }

-- 7.24.1p3: the character at an address that was reached
abbrev pub character_in : Given → ℕ → Now → Did ℕ
character_in g a S = about g.stopped (character_loaded S (load S.memory a (scalar.Int UChar)))

-- 7.24.1p3: the character so many bytes further on, checked and read
abbrev pub character_at : Asker → Given → ℕ → Now → Did ℕ
character_at by g i S = next (reach_for by false (bytes_further g i) 1 S) (λ r T. character_in g r.address T)

-- 7.24.1p3: n characters in a row from an address on that was reached, behind those read
abbrev pub characters_from : ℕ → Given → ℕ → List ℕ → Now → Did (List ℕ)
characters_from zero g a read S = answer_now read S
characters_from (suc n) g a read S = next (character_in g a S) (λ c T. characters_from n g (a + 1) (read ++ c ∷ []) T)

-- An instance has at most 2^24 bytes, so a string has ended before, or the read that follows is outside (7.1.1p1).
abbrev pub too_far : {A : Type 0} → Asker → Given → Now → Did A
too_far by g S = stop_now (fault (clause_of by) Outside) (with_more_notes (g.stopped ∷ []) S)

-- 7.1.1p1: the string after the characters read: what comes before the first 0
abbrev pub string_from : ℕ → Asker → Given → List ℕ → Now → Did (List ℕ)
string_from zero by g read S = too_far by g S
string_from (suc k) by g read S = next (character_at by g (length read) S) (λ c T. if c == 0 then answer_now read T else string_from k by g (read ++ c ∷ []) T)

-- 7.1.1p1: more characters than any instance has
unfoldable pub most : ℕ
most = 2 ^ 24

-- 7.1.1p1: the string that a pointer points to
abbrev pub string_at : Asker → Given → Now → Did (List ℕ)
string_at by g S = string_from most by g [] S
