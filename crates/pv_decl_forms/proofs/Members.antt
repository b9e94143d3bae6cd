-- What is read at a part's place, once its specifiers are read.
use Rattle.std.proofs.Common.{◌≡◌, ◌<◌, ◌-◌, ◌==◌, ℕ, zero, suc, Bool, true, false, if◌then◌else◌, List, length, drop, Option, None, refl, sym, ap, ◌∙◌, arith, sub-one}
use Rattle.indexmap.specs.IndexSet.{IndexSet}
use Rattle.pv_token.specs.declared.token_table.Token.{Token}
use Rattle.pv_tree.specs.declared.nodes.NodeId.{NodeId}
use Rattle.pv_tree.specs.Syntax.{Parameter, Tree, Trees, NoTrees}
use Rattle.pv_tree.specs.Grammar.{line_here}
use Rattle.pv_tree.specs.Spells.{Names}
use Rattle.pv_tree.specs.Places.{Specifiers, Members, MemberDeclarators, ParameterDeclarators, Parameters, some}
use Rattle.pv_tree.specs.Tables.{Tables, trees_of, is_specifier, is_declarator, Extends}
use Rattle.pv_tree.specs.TypeNames.{TypeMap, AreTied}
use Rattle.pv_expr_forms.specs.Known.{names_in}
use Rattle.pv_expr_forms.proofs.Naming.{names_kept}
use Rattle.pv_decl_forms.specs.Pieces.{Piece, Reads, part_if_any, row, comma_list}
use Rattle.pv_decl_forms.specs.Reader.{behind_specifiers, made_of, member, member_with, with_members, parameter, readers}
use Rattle.pv_decl_forms.specs.Answers.{piece_from, Answers}
use Rattle.pv_decl_forms.specs.Rows.{AreAnswered}
use Rattle.pv_decl_forms.proofs.Listing.{some_of, none_of}
use Rattle.pv_decl_forms.proofs.Loops.{at_start, trees_kept}
use Rattle.pv_decl_forms.proofs.Rounds.{member_by, parameter_by, no_parameter}

pub no_parameters : (names : Names) (depth : ℕ) (ts : List Token) → depth ≡ 0 → None ≡ readers names depth Parameters ts
no_parameters names depth ts e = sym (no_parameter names ts) ∙ ap (λ (d : ℕ). readers names d Parameters ts) (sym e)

parameters_are : (names : Names) (depth : ℕ) (ts : List Token) → 0 < depth → parameter (readers names (depth - 1)) ts ≡ readers names depth Parameters ts
parameters_are names zero ts h = absurd (omega arith)
parameters_are names (suc depth) ts h = rw sub-one (sym (parameter_by names depth ts))

if_so : (b : Bool) (p : Piece) → b ≡ true → p ≡ (if b then p else None)
if_so b p e = rw e refl

if_not : (b : Bool) (p : Piece) → b ≡ false → None ≡ (if b then p else None)
if_not b p e = rw e refl

-- a list's length as its vector knows it
pub counted : (n : ℕ) (ns : List NodeId) (b c : Bool) → n ≡ length ns → c ≡ (n == 0) → c ≡ b → (length ns == 0) ≡ b
counted n ns b c e h k = ap (λ (m : ℕ). m == 0) (sym e) ∙ sym h ∙ k

-- what is read under the names of a unit that has grown is read under those at the start
pub rows_at_start : {S : Type 0} (typedefs : IndexSet ℕ S) (types : TypeMap) (u v w : Tables) (tokens : List Token) → AreTied types u tokens → Extends u v → (kind : Tree → Bool) (ns : List NodeId) (end : ℕ) (reading : Names → Trees × List Token)
    → AreAnswered w kind tokens ns end (reading (names_in typedefs types v tokens)) → AreAnswered w kind tokens ns end (reading (names_in typedefs types u tokens))
rows_at_start typedefs types u v w tokens tied keeps kind ns end reading a = record { is = a.is ∙ ap reading (names_kept typedefs types u v tokens tied keeps); there = a.there; place = a.place }

-- ---- once the specifiers are read

module _ (v : Tables) (tokens : List Token) (r : Reads) (ts : List Token) (specs : List NodeId) (next : ℕ) (a : AreAnswered v is_specifier tokens specs next (row (r Specifiers) NoTrees ts)) where
  member_none : (length specs == 0) ≡ true → None ≡ member r ts
  unfolding member member_with
  member_none e = if_not (some (trees_of v.forest specs)) (with_members (line_here ts) (trees_of v.forest specs) (comma_list (r MemberDeclarators) (drop next tokens))) (none_of v.forest specs e) ∙ ap (member_with r (line_here ts)) a.is

  parameter_none : (length specs == 0) ≡ true → None ≡ parameter r ts
  unfolding parameter behind_specifiers
  parameter_none e =
      if_not (some (trees_of v.forest specs)) (made_of (Parameter (line_here ts)) (trees_of v.forest specs) (part_if_any (drop next tokens) (r ParameterDeclarators (drop next tokens)))) (none_of v.forest specs e)
      ∙ ap (behind_specifiers (Parameter (line_here ts)) (r ParameterDeclarators)) a.is

  module _ (e : (length specs == 0) ≡ false) (w : Tables) (keeps : Extends v w) where
    same_specs : trees_of w.forest specs ≡ trees_of v.forest specs
    same_specs = trees_kept is_specifier v w keeps specs a.there

    member_some : (ds : List NodeId) (end : ℕ) → AreAnswered w is_declarator tokens ds end (comma_list (r MemberDeclarators) (drop next tokens))
        → with_members (line_here ts) (trees_of w.forest specs) (trees_of w.forest ds, drop end tokens) ≡ member r ts
    unfolding member member_with
    member_some ds end b =
        ap (λ (x : Trees). with_members (line_here ts) x (trees_of w.forest ds, drop end tokens)) same_specs
        ∙ ap (with_members (line_here ts) (trees_of v.forest specs)) b.is
        ∙ if_so (some (trees_of v.forest specs)) (with_members (line_here ts) (trees_of v.forest specs) (comma_list (r MemberDeclarators) (drop next tokens))) (some_of v.forest specs e)
        ∙ ap (member_with r (line_here ts)) a.is

    parameter_some : (answer : Option (NodeId × ℕ)) → Answers w is_declarator tokens answer (r ParameterDeclarators (drop next tokens))
        → made_of (Parameter (line_here ts)) (trees_of w.forest specs) (part_if_any (drop next tokens) (piece_from w.forest tokens answer)) ≡ parameter r ts
    unfolding parameter behind_specifiers
    parameter_some answer b =
        ap (λ (x : Trees). made_of (Parameter (line_here ts)) x (part_if_any (drop next tokens) (piece_from w.forest tokens answer))) same_specs
        ∙ ap (λ (o : Piece). made_of (Parameter (line_here ts)) (trees_of v.forest specs) (part_if_any (drop next tokens) o)) b.is
        ∙ if_so (some (trees_of v.forest specs)) (made_of (Parameter (line_here ts)) (trees_of v.forest specs) (part_if_any (drop next tokens) (r ParameterDeclarators (drop next tokens)))) (some_of v.forest specs e)
        ∙ ap (behind_specifiers (Parameter (line_here ts)) (r ParameterDeclarators)) a.is

-- ---- members and parameters

module _ {S : Type 0} (typedefs : IndexSet ℕ S) (types : TypeMap) (u v : Tables) (tokens : List Token) (tied : AreTied types u tokens) (keeps : Extends u v) (depth at : ℕ) (specs : List NodeId) (next : ℕ) where
  module _ (a : AreAnswered v is_specifier tokens specs next (row (readers (names_in typedefs types u tokens) depth Specifiers) NoTrees (drop at tokens))) where
    pub member_ends : (length specs == 0) ≡ true → None ≡ readers (names_in typedefs types u tokens) depth Members (drop at tokens)
    member_ends e =
        member_none v tokens (readers (names_in typedefs types u tokens) depth) (drop at tokens) specs next a e
        ∙ sym (member_by (names_in typedefs types u tokens) depth (drop at tokens))

    pub member_goes : (length specs == 0) ≡ false → (w : Tables) → Extends v w → (line : ℕ) → line ≡ line_here (drop at tokens) → (ds : List NodeId) (end : ℕ)
        → AreAnswered w is_declarator tokens ds end (comma_list (readers (names_in typedefs types v tokens) depth MemberDeclarators) (drop next tokens))
        → (xs ys : List NodeId) → xs ≡ specs → ys ≡ ds
        → with_members line (trees_of w.forest xs) (trees_of w.forest ys, drop end tokens) ≡ readers (names_in typedefs types u tokens) depth Members (drop at tokens)
    member_goes e w grows line l ds end b xs ys x y =
        ap (λ (k : ℕ). with_members k (trees_of w.forest xs) (trees_of w.forest ys, drop end tokens)) l
        ∙ ap (λ (ns : List NodeId). with_members (line_here (drop at tokens)) (trees_of w.forest ns) (trees_of w.forest ys, drop end tokens)) x
        ∙ ap (λ (ns : List NodeId). with_members (line_here (drop at tokens)) (trees_of w.forest specs) (trees_of w.forest ns, drop end tokens)) y
        ∙ member_some v tokens (readers (names_in typedefs types u tokens) depth) (drop at tokens) specs next a e w grows ds end
        (rows_at_start typedefs types u v w tokens tied keeps is_declarator ds end (λ n. comma_list (readers n depth MemberDeclarators) (drop next tokens)) b)
        ∙ sym (member_by (names_in typedefs types u tokens) depth (drop at tokens))

  module _ (positive : 0 < depth) (a : AreAnswered v is_specifier tokens specs next (row (readers (names_in typedefs types u tokens) (depth - 1) Specifiers) NoTrees (drop at tokens))) where
    pub parameter_ends : (length specs == 0) ≡ true → None ≡ readers (names_in typedefs types u tokens) depth Parameters (drop at tokens)
    parameter_ends e =
        parameter_none v tokens (readers (names_in typedefs types u tokens) (depth - 1)) (drop at tokens) specs next a e
        ∙ parameters_are (names_in typedefs types u tokens) depth (drop at tokens) positive

    pub parameter_goes : (length specs == 0) ≡ false → (w : Tables) → Extends v w → (line : ℕ) → line ≡ line_here (drop at tokens) → (answer : Option (NodeId × ℕ))
        → Answers w is_declarator tokens answer (readers (names_in typedefs types v tokens) (depth - 1) ParameterDeclarators (drop next tokens))
        → (xs : List NodeId) → xs ≡ specs
        → made_of (Parameter line) (trees_of w.forest xs) (part_if_any (drop next tokens) (piece_from w.forest tokens answer)) ≡ readers (names_in typedefs types u tokens) depth Parameters (drop at tokens)
    parameter_goes e w grows line l answer b xs x =
        ap (λ (k : ℕ). made_of (Parameter k) (trees_of w.forest xs) (part_if_any (drop next tokens) (piece_from w.forest tokens answer))) l
        ∙ ap (λ (ns : List NodeId). made_of (Parameter (line_here (drop at tokens))) (trees_of w.forest ns) (part_if_any (drop next tokens) (piece_from w.forest tokens answer))) x
        ∙ parameter_some v tokens (readers (names_in typedefs types u tokens) (depth - 1)) (drop at tokens) specs next a e w grows answer
        (at_start typedefs types u v w tokens tied keeps is_declarator answer (λ n. readers n (depth - 1) ParameterDeclarators (drop next tokens)) b)
        ∙ parameters_are (names_in typedefs types u tokens) depth (drop at tokens) positive
