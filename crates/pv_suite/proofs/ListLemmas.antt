-- From what was read of a list to what its file holds.
use Rattle.std.proofs.Common.{◌≡◌, inl, inr, ℕ, ◌<◌, ◌≤◌, List, [], take, length, Bool, cond, true, false, refl, sym, ap, ◌∙◌, subst, arith}
use Rattle.std.specs.Prelude.{Option, Some, None, IfSome, Result, Ok, Err, IfOk, ◌==◌, if◌then◌else◌}
use Rattle.std.specs.List.{slice_split}
use Rattle.std.proofs.lemmas.Bool.{lt-ltb, cases_lt}
use Rattle.std.proofs.lemmas.List.{length-take, take_all}
use Rattle.pv_serve.specs.Outside.{AnyRose, Sunk}
use Rattle.pv_serve.specs.Replies.{Reply}
use Rattle.pv_serve.specs.Replying.{IsOwn}
use Rattle.pv_serve.proofs.RepliesLemmas.{more_replied, small, large}
use Rattle.pv_cases.specs.declared.list.ListError.{ListError}
use Rattle.pv_cases.specs.declared.list.ListError.TheVariants as error
use Rattle.pv_cases.specs.Cases.{SuiteCase, cases_of, after_lines}
use Rattle.pv_cases.specs.Suites.{CaseTold, all_passed, suite_status}
use Rattle.pv_cases.specs.Views.{OrNoMemory}
use Rattle.pv_suite.specs.Answers.{Came, AllTold, LongOutput, IsListReply, IsReply, refused_by, reply_of}
use Rattle.pv_suite.specs.Causes.{run_files, list_files, CaseRose, ListRose}
use Rattle.pv_suite.specs.Answering.{ReadServed, ListServed}
use Rattle.pv_suite.proofs.RoseLemmas.{any_within}
use Rattle.pv_suite.proofs.WalkLemmas.{same_held}

long_list : (text : List ℕ) → 65536 < length text → cases_of text ≡ Err error.Size
long_list text long = ap (λ b. cond b (Err error.Size) (after_lines 1 (slice_split (λ b. b == 10) text) [])) (lt-ltb 65536 (length text) long)

-- a byte above the limit tells as much as all that follow
list_cut : (all : List ℕ) → cases_of (take 65537 all) ≡ cases_of all
list_cut all = elim (cases_lt 65536 (length all)) [
  | inl long ↦ long_list (take 65537 all) (omega (arith, length-take 65537 all)) ∙ sym (long_list all long)
  | inr short ↦ ap cases_of (take_all 65537 all (omega arith))
]

answered : (name : Option (List ℕ)) (list : List ℕ) (old mid : List ℕ → Option (List ℕ)) (reply : Reply) → mid ≡ old → IfSome name (λ all. list ≡ take 65537 all)
    → IsListReply (cases_of list) mid reply → IfSome name (λ all. IsListReply (cases_of all) old reply)
answered None list old mid reply same read is = tt
answered (Some all) list old mid reply same read is =
    subst (λ (r : Result (List SuiteCase) ListError). IsListReply r old reply) (ap cases_of read ∙ list_cut all)
    (subst (λ (h : List ℕ → Option (List ℕ)). IsListReply (cases_of list) h reply) same is)

rose : (name : Option (List ℕ)) (list : List ℕ) (held : List ℕ → Option (List ℕ)) (old mid new : List ℕ → ℕ) → ((n : List ℕ) → old n ≤ mid n) → IfSome name (λ all. list ≡ take 65537 all)
    → AnyRose (list_files held (cases_of list)) mid new → CaseRose name held old new
rose None list held old mid new later read any = let a = any_within (list_files held (cases_of list)) old mid new new later (λ n. omega arith) any in (a.1, a.4)
rose (Some all) list held old mid new later read any =
    subst (λ (r : Result (List SuiteCase) ListError). AnyRose (list_files held r) old new) (ap cases_of read ∙ list_cut all)
    (any_within (list_files held (cases_of list)) old mid new new later (λ n. omega arith) any)

-- what came of the list that was read came of the one in the file
pub list_served : (name list : List ℕ) (old mid : List ℕ → Option (List ℕ)) (faults_old faults_mid faults_new : List ℕ → ℕ) (report : Sunk) (status : ℕ)
    → ((n : List ℕ) → mid n ≡ old n) → ((n : List ℕ) → faults_old n ≤ faults_mid n) → IfSome (old name) (λ all. list ≡ take 65537 all)
    → ReadServed list mid faults_mid faults_new report status → ListServed name old faults_old faults_new report status
list_served name list old mid fo fm fn report status same later read served =
    more_replied (IsListReply (cases_of list) mid) (IsReply name old) (AnyRose (list_files mid (cases_of list)) fm fn) (ListRose name old fo fn) report status
    (λ reply is. answered (old name) list old mid reply (same_held old mid same) read is)
    (λ any. inr (rose (old name) list old fo fm fn later read (subst (λ (held : List ℕ → Option (List ℕ)). AnyRose (list_files held (cases_of list)) fm fn) (same_held old mid same) any))) served

-- ---- for the code that answers a list

-- by its reading: the cases that it has, or the reason for which it has none
pub by_reading : {A E : Type 0} (view : A → Reply) (w x : Result (List SuiteCase) ListError) (held : List ℕ → Option (List ℕ)) (r : Result A E) → x ≡ w
    → IfOk r (λ a. IsListReply x held (view a)) → IfOk r (λ a. IsListReply w held (view a))
by_reading view w x held r is told = subst (λ (y : Result (List SuiteCase) ListError). IfOk r (λ a. IsListReply y held (view a))) is told

pub cases_rose : (w : Result (List SuiteCase) ListError) (cs : List SuiteCase) (held : List ℕ → Option (List ℕ)) (old new : List ℕ → ℕ) → Ok cs ≡ w → AnyRose (run_files held cs) old new
    → AnyRose (list_files held w) old new
cases_rose w cs held old new is any = subst (λ (x : Result (List SuiteCase) ListError). AnyRose (list_files held x) old new) is any

none_told : {A E : Type 0} (P : A → Type 0) (r : Result A E) (x : E) → r ≡ Err x → IfOk r P
none_told P (Err y) x is = tt
none_told P (Ok a) x is = absurd cc

pub refused_answered : {A E B : Type 0} (view : A → Reply) (w : Result (List SuiteCase) ListError) (e : ListError) (held : List ℕ → Option (List ℕ)) (f : B → List SuiteCase) (r : Result A E) (x : E)
    → OrNoMemory f (Err e) w → IfOk r (λ a. view a ≡ refused_by e) → (e ≡ error.NoMemory → r ≡ Err x) → IfOk r (λ a. IsListReply w held (view a))
refused_answered view w error.Size held f r x is told memory = by_reading view w (Err error.Size) held r is told
refused_answered view w (error.BadLine n) held f r x is told memory = by_reading view w (Err (error.BadLine n)) held r is told
refused_answered view w error.NoMemory held f r x is told memory = none_told (λ a. IsListReply w held (view a)) r x (memory refl)

-- ---- the statuses of a list

own_status : (ts : List CaseTold) → IsOwn (suite_status ts)
own_status ts = by (all_passed ts)
  where
    by : (b : Bool) → IsOwn (if b then 0 else 15)
    by true = small 0 (omega arith)
    by false = large 15 (omega arith)

own_reply : (came : Came) → IsOwn (reply_of came).status
own_reply (AllTold ts) = own_status ts
own_reply (LongOutput n) = large 16 (omega arith)

pub list_own : (r : Result (List SuiteCase) ListError) (held : List ℕ → Option (List ℕ)) (reply : Reply) → IsListReply r held reply → IsOwn reply.status
list_own (Err e) held reply is = subst (λ (b : Reply). IsOwn b.status) (sym is) (large 16 (omega arith))
list_own (Ok cs) held reply is = subst (λ (b : Reply). IsOwn b.status) (sym is.2) (own_reply is.0)
