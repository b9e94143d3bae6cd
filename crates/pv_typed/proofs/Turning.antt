-- The turns that a node keeps hang on those of its operands alone, and are those of its form.
use Rattle.std.proofs.Common.{◌≡◌, ◌≤◌, ◌+◌, ℕ, Bool, true, false, nat_le, if◌then◌else◌, List, Option, Some, None, refl, sym, ap, ◌∙◌, arith}
use Rattle.std.proofs.lemmas.Bool.Decides.{nat_tests}
use Rattle.pv_tree.specs.declared.nodes.NodeId.{NodeId}
use Rattle.pv_typed.specs.declared.nodes.Typed.{Typed}
use Rattle.pv_typed.specs.declared.nodes.Typed.TheVariants as typed
use Rattle.pv_typed.specs.Plain.{with_own_turn, sum_of_turns, turns_of, turns_of_form, turns_within}
use Rattle.pv_typed.specs.Nodes.{Tree, expression_in, form_in}
use Rattle.pv_typed.specs.Children.{operands}
use Rattle.pv_typed.specs.Known.{Each}
use Rattle.pv_typed.specs.Turns.{turns_in}

-- ---- the turns of the operands

module _ (f g : NodeId → Option ℕ) (P : NodeId → Type 0) (same : (n : NodeId) → P n → g n ≡ f n) where
  pub turns_same : (counts : Bool) (x : Typed) → Each P (operands x) → turns_in g counts x ≡ turns_in f counts x
  turns_same counts (typed.Constant v) h = refl
  turns_same counts (typed.LargeConstant v) h = refl
  turns_same counts (typed.Sizeof v) h = refl
  turns_same counts (typed.Object o) h = refl
  turns_same counts (typed.String l) h = refl
  turns_same counts (typed.Read a) h = same a h.0
  turns_same counts (typed.ArrayPointer a) h = same a h.0
  turns_same counts (typed.Convert a) h = same a h.0
  turns_same counts (typed.Indirection a) h = ap (with_own_turn counts) (same a h.0)
  turns_same counts (typed.Subscript a b) h = rw (same a h.0, same b h.1.0) refl
  turns_same counts (typed.Member a offset) h = ap (with_own_turn true) (same a h.0)
  turns_same counts (typed.Arrow a offset) h = ap (with_own_turn true) (same a h.0)
  turns_same counts (typed.Address a) h = ap (with_own_turn true) (same a h.0)
  turns_same counts (typed.Unary op a) h = ap (with_own_turn true) (same a h.0)
  turns_same counts (typed.Not a) h = ap (with_own_turn true) (same a h.0)
  turns_same counts (typed.Cast a) h = ap (with_own_turn true) (same a h.0)
  turns_same counts (typed.Arithmetic op a b) h = rw (same a h.0, same b h.1.0) refl
  turns_same counts (typed.PointerSum sign a b) h = rw (same a h.0, same b h.1.0) refl
  turns_same counts (typed.PointerDifference a b) h = rw (same a h.0, same b h.1.0) refl
  turns_same counts (typed.PointerOrder op a b) h = rw (same a h.0, same b h.1.0) refl
  turns_same counts (typed.PointerEquality op a b) h = rw (same a h.0, same b h.1.0) refl
  turns_same counts (typed.Function f) h = refl
  turns_same counts (typed.Call f l) h = refl
  turns_same counts (typed.CallPointer a l) h = refl
  turns_same counts (typed.LibraryCall f l) h = refl
  turns_same counts (typed.MemberOfValue a offset) h = refl
  turns_same counts (typed.Increment op a) h = refl
  turns_same counts (typed.LogicalAnd a b) h = refl
  turns_same counts (typed.LogicalOr a b) h = refl
  turns_same counts (typed.Conditional a b c) h = refl
  turns_same counts (typed.Assign a b) h = refl
  turns_same counts (typed.CompoundAssign op kind a b) h = refl
  turns_same counts (typed.PointerAssign sign a b) h = refl
  turns_same counts (typed.Comma a b) h = refl

-- ---- a sum is capped alike, whether its parts are or not

past : (m n : ℕ) → m ≤ n → nat_le m 1000 ≡ false → nat_le n 1000 ≡ false
past m n le e = grind (arith, nat_tests)

capped_past : (m n : ℕ) → m ≤ n → nat_le m 1000 ≡ false → turns_within (Some n) ≡ None
capped_past m n le e = ap (λ b. if b then Some n else None) (past m n le e)

capped_again : (n : Option ℕ) → turns_within (turns_within n) ≡ turns_within n
capped_again None = refl
capped_again (Some n) = by (nat_le n 1000) refl
  where
    by : (b : Bool) → nat_le n 1000 ≡ b → turns_within (if b then Some n else None) ≡ (if b then Some n else None)
    by true e = ap (λ b. if b then Some n else None) e
    by false e = refl

pub counted_none : (counts : Bool) → with_own_turn counts None ≡ None
counted_none false = refl
counted_none true = refl

capped_one : (counts : Bool) (n : Option ℕ) → turns_within (with_own_turn counts (turns_within n)) ≡ turns_within (with_own_turn counts n)
capped_one false n = capped_again n
capped_one true None = refl
capped_one true (Some n) = by (nat_le n 1000) refl
  where
    by : (b : Bool) → nat_le n 1000 ≡ b → turns_within (with_own_turn true (if b then Some n else None)) ≡ turns_within (Some (n + 1))
    by true e = refl
    by false e = sym (capped_past n (n + 1) (omega arith) e)

capped_both : (m n : Option ℕ) → turns_within (sum_of_turns (turns_within m) (turns_within n)) ≡ turns_within (sum_of_turns m n)
capped_both None n = refl
capped_both (Some m) None = by (nat_le m 1000)
  where
    by : (b : Bool) → turns_within (sum_of_turns (if b then Some m else None) None) ≡ None
    by true = refl
    by false = refl
capped_both (Some m) (Some n) = by (nat_le m 1000) (nat_le n 1000) refl refl
  where
    by : (b d : Bool) → nat_le m 1000 ≡ b → nat_le n 1000 ≡ d → turns_within (sum_of_turns (if b then Some m else None) (if d then Some n else None)) ≡ turns_within (Some (m + n))
    by true true e f = refl
    by true false e f = sym (capped_past n (m + n) (omega arith) f)
    by false d e f = sym (capped_past m (m + n) (omega arith) e)

capped_two : (counts : Bool) (m n : Option ℕ) → turns_within (with_own_turn counts (sum_of_turns (turns_within m) (turns_within n))) ≡ turns_within (with_own_turn counts (sum_of_turns m n))
capped_two counts m n =
    sym (capped_one counts (sum_of_turns (turns_within m) (turns_within n)))
    ∙ ap (λ o. turns_within (with_own_turn counts o)) (capped_both m n)
    ∙ capped_one counts (sum_of_turns m n)

module _ (turns : NodeId → Option ℕ) where
  pub turns_capped : (counts : Bool) (x : Typed) → turns_within (turns_in (λ n. turns_within (turns n)) counts x) ≡ turns_within (turns_in turns counts x)
  turns_capped counts (typed.Constant v) = refl
  turns_capped counts (typed.LargeConstant v) = refl
  turns_capped counts (typed.Sizeof v) = refl
  turns_capped counts (typed.Object o) = refl
  turns_capped counts (typed.String l) = refl
  turns_capped counts (typed.Read a) = capped_again (turns a)
  turns_capped counts (typed.ArrayPointer a) = capped_again (turns a)
  turns_capped counts (typed.Convert a) = capped_again (turns a)
  turns_capped counts (typed.Indirection a) = capped_one counts (turns a)
  turns_capped counts (typed.Subscript a b) = capped_two counts (turns a) (turns b)
  turns_capped counts (typed.Member a offset) = capped_one true (turns a)
  turns_capped counts (typed.Arrow a offset) = capped_one true (turns a)
  turns_capped counts (typed.Address a) = capped_one true (turns a)
  turns_capped counts (typed.Unary op a) = capped_one true (turns a)
  turns_capped counts (typed.Not a) = capped_one true (turns a)
  turns_capped counts (typed.Cast a) = capped_one true (turns a)
  turns_capped counts (typed.Arithmetic op a b) = capped_two true (turns a) (turns b)
  turns_capped counts (typed.PointerSum sign a b) = capped_two true (turns a) (turns b)
  turns_capped counts (typed.PointerDifference a b) = capped_two true (turns a) (turns b)
  turns_capped counts (typed.PointerOrder op a b) = capped_two true (turns a) (turns b)
  turns_capped counts (typed.PointerEquality op a b) = capped_two true (turns a) (turns b)
  turns_capped counts (typed.Function f) = refl
  turns_capped counts (typed.Call f l) = refl
  turns_capped counts (typed.CallPointer a l) = refl
  turns_capped counts (typed.LibraryCall f l) = refl
  turns_capped counts (typed.MemberOfValue a offset) = refl
  turns_capped counts (typed.Increment op a) = refl
  turns_capped counts (typed.LogicalAnd a b) = refl
  turns_capped counts (typed.LogicalOr a b) = refl
  turns_capped counts (typed.Conditional a b c) = refl
  turns_capped counts (typed.Assign a b) = refl
  turns_capped counts (typed.CompoundAssign op kind a b) = refl
  turns_capped counts (typed.PointerAssign sign a b) = refl
  turns_capped counts (typed.Comma a b) = refl

-- ---- the turns of a form are those of its node

module _ (lists : List (List NodeId)) (ts : List Tree) where
  pub turns_formed : (counts : Bool) (x : Typed) → turns_in (λ n. turns_of (expression_in ts n)) counts x ≡ turns_of_form counts (form_in lists ts x)
  turns_formed counts (typed.Constant v) = refl
  turns_formed counts (typed.LargeConstant v) = refl
  turns_formed counts (typed.Sizeof v) = refl
  turns_formed counts (typed.Object o) = refl
  turns_formed counts (typed.String l) = refl
  turns_formed counts (typed.Read a) = refl
  turns_formed counts (typed.ArrayPointer a) = refl
  turns_formed counts (typed.Convert a) = refl
  turns_formed counts (typed.Indirection a) = refl
  turns_formed counts (typed.Subscript a b) = refl
  turns_formed counts (typed.Member a offset) = refl
  turns_formed counts (typed.Arrow a offset) = refl
  turns_formed counts (typed.Address a) = refl
  turns_formed counts (typed.Unary op a) = refl
  turns_formed counts (typed.Not a) = refl
  turns_formed counts (typed.Cast a) = refl
  turns_formed counts (typed.Arithmetic op a b) = refl
  turns_formed counts (typed.PointerSum sign a b) = refl
  turns_formed counts (typed.PointerDifference a b) = refl
  turns_formed counts (typed.PointerOrder op a b) = refl
  turns_formed counts (typed.PointerEquality op a b) = refl
  turns_formed counts (typed.Function f) = refl
  turns_formed counts (typed.Call f l) = refl
  turns_formed counts (typed.CallPointer a l) = refl
  turns_formed counts (typed.LibraryCall f l) = refl
  turns_formed counts (typed.MemberOfValue a offset) = refl
  turns_formed counts (typed.Increment op a) = refl
  turns_formed counts (typed.LogicalAnd a b) = refl
  turns_formed counts (typed.LogicalOr a b) = refl
  turns_formed counts (typed.Conditional a b c) = refl
  turns_formed counts (typed.Assign a b) = refl
  turns_formed counts (typed.CompoundAssign op kind a b) = refl
  turns_formed counts (typed.PointerAssign sign a b) = refl
  turns_formed counts (typed.Comma a b) = refl
