-- What a call owes, from the rows of its table.
use Rattle.std.proofs.Common.{◌≡◌, ◌≢◌, ◌⊎◌, ℕ, ◌<◌, List, inl, inr, refl, arith}
use Rattle.std.specs.Prelude.{Option, Some, None, IsSome, IsNone, IsSomeAnd}
use Rattle.std.proofs.lemmas.Bool.{cases_eq}
use Rattle.pv_script.specs.Outside.{Rose}
use Rattle.pv_serve.specs.Outside.{AnyRose}
use Rattle.pv_serve.specs.Owed.{Facts, Owed}

pub two_apart : (n a b : ℕ) → a < b → n ≡ a → n ≡ b → ⊥
two_apart n a b lt p q = omega arith

pub is_some : {J : Type 0} (o : Option J) (j : J) → o ≡ Some j → IsSome o
is_some None j e = absurd cc
is_some (Some i) j e = refl

is_none : {J : Type 0} (o : Option J) (j : J) → o ≡ Some j → IsNone o → ⊥
is_none None j e n = cc
is_none (Some i) j e n = cc

-- what each status says
pub record Table {J : Type 0} (f : Facts J) (status : ℕ) : Type 0 where
  pub read_fault : status ≡ 11 → f.ReadFailed × f.FaultTold
  pub write_fault : status ≡ 12 → f.WriteFailed × (f.AnswerBegun ⊎ (f.ReadFailed × f.FaultBegun))
  pub no_memory : status ≡ 13 → IsSome f.job × f.Unreported
  pub every_other : status ≢ 11 → status ≢ 12 → status ≢ 13 → f.Answered

complete_of : {J : Type 0} (f : Facts J) (status : ℕ) → Table f status → (status ≡ 11) ⊎ (status ≢ 11) → (status ≡ 12) ⊎ (status ≢ 12) → (status ≡ 13) ⊎ (status ≢ 13)
    → ¬ f.ReadFailed → ¬ f.WriteFailed → (status ≡ 13) ⊎ f.Answered
complete_of f status t (inl is11) b d read write = absurd (read (t.read_fault is11).0)
complete_of f status t (inr not11) (inl is12) d read write = absurd (write (t.write_fault is12).0)
complete_of f status t (inr not11) (inr not12) (inl is13) read write = inl is13
complete_of f status t (inr not11) (inr not12) (inr not13) read write = inr (t.every_other not11 not12 not13)

-- completeness follows from the table
owed : {J : Type 0} (f : Facts J) (status : ℕ) → Table f status → (status ≡ 10 → IsNone f.job) → (IsNone f.job → (status ≡ 10) ⊎ ((status ≡ 12) × f.ReportFailed)) → Owed f status
owed f status t words none = record {
  read_fault = t.read_fault;
  write_fault = t.write_fault;
  no_memory = t.no_memory;
  every_other = t.every_other;
  words = words;
  no_job = none;
  complete = complete_of f status t (cases_eq status 11) (cases_eq status 12) (cases_eq status 13);
}

-- a call that asks for a job, by its table and by its status, which is none of words that are no job
pub owed_by : {J : Type 0} (f : Facts J) (j : J) (status : ℕ) → f.job ≡ Some j → Table f status → status ≢ 10 → Owed f status
owed_by f j status e t not10 = owed f status t (λ h. absurd (not10 h)) (λ n. absurd (is_none f.job j e n))

-- a call for whose job there was no memory
pub owed_by_nothing : {J : Type 0} (f : Facts J) (j : J) (status : ℕ) → f.job ≡ Some j → status ≡ 13 → f.Unreported → Owed f status
owed_by_nothing f j status e is none =
    let t : Table f status = record {
      read_fault = λ h. absurd (two_apart status 11 13 (omega arith) h is);
      write_fault = λ h. absurd (two_apart status 12 13 (omega arith) h is);
      no_memory = λ h. (is_some f.job j e, none);
      every_other = λ not11 not12 not13. absurd (not13 is);
    } in
    owed_by f j status e t (λ h. two_apart status 10 13 (omega arith) h is)

-- a call one of whose files could not be read
pub owed_by_fault : {J : Type 0} (f : Facts J) (j : J) (status : ℕ) → f.job ≡ Some j → f.ReadFailed → (status ≢ 12 → (status ≡ 11) × f.FaultTold) → (status ≡ 12 → f.WriteFailed × f.FaultBegun)
    → Owed f status
owed_by_fault f j status e failed told lost =
    let t : Table f status = record {
      read_fault = λ h. (failed, (told (λ k. two_apart status 11 12 (omega arith) h k)).1);
      write_fault = λ h. ((lost h).0, inr (failed, (lost h).1));
      no_memory = λ h. absurd (two_apart status 11 13 (omega arith) (told (λ k. two_apart status 12 13 (omega arith) k h)).0 h);
      every_other = λ not11 not12 not13. absurd (not11 (told not12).0);
    } in
    owed_by f j status e t (λ h. two_apart status 10 11 (omega arith) h (told (λ k. two_apart status 10 12 (omega arith) h k)).0)

-- ---- words that are no job

none_is : {J : Type 0} (o : Option J) → o ≡ None → IsNone o
none_is None e = refl
none_is (Some j) e = absurd cc

ten_or_twelve : (status : ℕ) (Answered Failed : Type 0) → (status ≡ 12) ⊎ (status ≢ 12) → (status ≢ 12 → (status ≡ 10) × Answered) → (status ≡ 12 → Failed)
    → (status ≡ 10) ⊎ ((status ≡ 12) × Failed)
ten_or_twelve status Answered Failed (inl is) told lost = inr (is, lost is)
ten_or_twelve status Answered Failed (inr not) told lost = inl (told not).0

pub owed_by_words : {J : Type 0} (f : Facts J) (status : ℕ) → f.job ≡ None → (status ≢ 12 → (status ≡ 10) × f.Answered) → (status ≡ 12 → f.WriteFailed × f.ReportFailed × f.AnswerBegun)
    → Owed f status
owed_by_words f status e told lost =
    let t : Table f status = record {
      read_fault = λ h. absurd (two_apart status 10 11 (omega arith) (told (λ k. two_apart status 11 12 (omega arith) h k)).0 h);
      write_fault = λ h. ((lost h).0, inl (lost h).2);
      no_memory = λ h. absurd (two_apart status 10 13 (omega arith) (told (λ k. two_apart status 12 13 (omega arith) k h)).0 h);
      every_other = λ not11 not12 not13. (told not12).1;
    } in
    owed f status t (λ h. none_is f.job e) (λ n. ten_or_twelve status f.Answered f.ReportFailed (cases_eq status 12) told (λ h. (lost h).1))

-- ---- devices that never fail

pub none_failed : {J : Type 0} (o : Option J) (P : J → Type 0) → ((j : J) → P j → ⊥) → IsSomeAnd o P → ⊥
none_failed None P f h = h
none_failed (Some j) P f h = f j h

pub no_rise : Rose 0 0 → ⊥
no_rise rose = omega (arith, rose)

pub none_rose : (names : List (List ℕ)) → AnyRose names (λ _. 0) (λ _. 0) → ⊥
none_rose names any = no_rise any.4
