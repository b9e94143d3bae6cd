-- Specifiers one by one.
use Rattle.std.proofs.Common.{◌≡◌, true, Some, None, IfSome, Option, refl, sym, ap, subst}
use Rattle.pv_tree.specs.Syntax.{Tree, OfExpression, OfDeclaration, OfDeclarator, OfSpecifier, OfInitializer, OfStatement}
use Rattle.pv_tree.specs.Tables.{as_specifier, is_specifier}
use Rattle.pv_check.specs.Specifiers.{Seen}
use Rattle.pv_check.specs.State.{After}
use Rattle.pv_check.specs.Typing.{specifier, specifier_in}

-- a tree that is a specifier
pub specifier_is : (t : Tree) → is_specifier t ≡ true → t ≡ OfSpecifier (as_specifier t)
specifier_is (OfSpecifier x) h = refl
specifier_is (OfExpression x) h = absurd cc
specifier_is (OfDeclaration x) h = absurd cc
specifier_is (OfDeclarator x) h = absurd cc
specifier_is (OfInitializer x) h = absurd cc
specifier_is (OfStatement x) h = absurd cc

pub specifier_tree : (t : Tree) (a : After Seen) → is_specifier t ≡ true → specifier (as_specifier t) a.value a.state ≡ specifier_in t a
specifier_tree t a h = ap (λ x. specifier_in x a) (sym (specifier_is t h))

-- what holds of an answer that is there
pub there : {A : Type 0} {o : Option A} {x : A} (P : A → Type 0) → o ≡ Some x → IfSome o P → P x
there P e h = subst (λ y. IfSome y P) e h

-- what holds anyway holds where an answer is there
pub kept : {A : Type 0} {P : Type 0} (o : Option A) → P → IfSome o (λ x. P)
kept None p = tt
kept (Some x) p = p
