-- External declarations in a row: what is read is spelled so, and all that are spelled so are read.
use Rattle.std.proofs.Common.{◌≡◌, ◌≤◌, ◌<◌, ℕ, zero, suc, Bool, List, [], ◌∷◌, ◌++◌, length, Option, Some, None, refl, sym, ap, subst, ◌∙◌, arith}
use Rattle.pv_token.specs.declared.token_table.Token.{Token}
use Rattle.pv_token.specs.declared.token_table.TokenKind.{TokenKind}
use Rattle.pv_tree.specs.Syntax.{DeclarationTree}
use Rattle.pv_tree.specs.Depths.{declaration_depth}
use Rattle.pv_tree.specs.Spelling.{declaration_tokens}
use Rattle.pv_tree.specs.Grammar.{kinds, FitsBy}
use Rattle.pv_tree.specs.Tables.{as_declaration}
use Rattle.pv_tree.specs.Fitting.{DeclarationFits, TypeNameFits, past}
use Rattle.pv_tree.specs.Units.{depth_limit, with_types, SpellsExternal, SpellExternals}
use Rattle.pv_expr_forms.proofs.Runs.{Takes, takes_rest, takes_length, takes_by_kinds}
use Rattle.pv_expr_forms.proofs.Steps.{some_is}
use Rattle.pv_decl_forms.specs.Pieces.{Piece}
use Rattle.pv_decl_forms.specs.Reader.{as_type_name}
use Rattle.pv_decl_forms.proofs.Nested.{has_holds, declaration_by_map, declaration_by_grammar}
use Rattle.pv_stmt_forms.specs.Externals.{external, names_by, external_at, units_on, units_for, units}
use Rattle.pv_stmt_forms.proofs.OuterGoods.{external_good}
use Rattle.pv_stmt_forms.proofs.OuterExacts.{external_exact}
use Rattle.pv_stmt_forms.proofs.LongestTypes.{by_spelled, by_has, by_is_type}
use Rattle.pv_stmt_forms.proofs.PartialTypes.{Anywhere}

-- the kinds of what a run takes, and of what it leaves
takes_all : (ks : List TokenKind) (here rest : List Token) → Takes ks here rest → kinds here ≡ ks ++ kinds rest
takes_all [] here rest h = ap kinds h
takes_all (k ∷ ks) [] rest h = absurd h
takes_all (k ∷ ks) (t ∷ ts) rest h = ap (λ (x : TokenKind). x ∷ kinds ts) h.0 ∙ ap (λ (x : List TokenKind). k ∷ x) (takes_all ks ts rest h.1)

-- ---- one external declaration, under a set of typedef names alone

pub record FirstOuter (types : ℕ → Bool) (ts : List Token) (d : DeclarationTree) (rest : List Token) : Type 0 where
  pub spelled : SpellsExternal types ts d
  pub left : past (declaration_tokens d) ts ≡ rest
  pub less : length rest < length ts

module _ (types : ℕ → Bool) where
  outer_by : (ts : List Token) (d : DeclarationTree) (rest : List Token) (o : Piece) → external (names_by types) depth_limit ts ≡ o
      → as_type_name o ≡ Some (d, rest) → FirstOuter types ts d rest
  outer_by ts d rest None is e = absurd cc
  outer_by ts d rest (Some x) is e =
      let names = names_by types in
      let spelled = by_spelled types Anywhere (λ t us k. tt) in
      let g = external_good names Anywhere spelled depth_limit ts x.0 x.1 tt is in
      let c = as_declaration x.0 in
      let n = declaration_depth c in
      let ks = declaration_tokens c in
      let same : ◌≡◌ {A = DeclarationTree × List Token} (c, x.1) (d, rest) = some_is _ _ e in
      let at = takes_rest ks ts x.1 g.takes in
      let grammar = declaration_by_grammar names Anywhere spelled depth_limit (has_holds names Anywhere depth_limit (by_has types Anywhere)) n c ts tt (x.1, g.takes) (omega arith) g.fits in
      subst (λ (y : DeclarationTree × List Token). FirstOuter types ts y.0 y.1) same (record {
        spelled = record {
          external = g.external;
          nesting = n;
          fits = subst (λ (t : ℕ → Bool). DeclarationFits t (FitsBy t (TypeNameFits t n)) c ts) (by_is_type types) grammar;
          shallow = g.shallow;
          is = takes_all ks ts x.1 g.takes ∙ ap (λ (y : List Token). ks ++ kinds y) (sym at);
        };
        left = at;
        less = omega (arith, takes_length ks ts x.1 g.takes, g.spells);
      })

  -- what is read is spelled so
  pub outer_good : (ts : List Token) (d : DeclarationTree) (rest : List Token) → external_at types ts ≡ Some (d, rest) → FirstOuter types ts d rest
  outer_good ts d rest e = outer_by ts d rest (external (names_by types) depth_limit ts) refl e

  -- what is spelled so is read, whatever follows
  pub outer_exact : (ts : List Token) (d : DeclarationTree) → SpellsExternal types ts d → external_at types ts ≡ Some (d, past (declaration_tokens d) ts)
  outer_exact ts d s =
      let names = names_by types in
      let spelled = by_spelled types Anywhere (λ t us k. tt) in
      let ks = declaration_tokens d in
      let run = takes_by_kinds ks ts (past ks ts) s.is refl in
      let grammar = subst (λ (t : ℕ → Bool). DeclarationFits t (FitsBy t (TypeNameFits t s.nesting)) d ts) (sym (by_is_type types)) s.fits in
      let fits = declaration_by_map names Anywhere spelled depth_limit (by_has types Anywhere) s.nesting d ts tt (past ks ts, run) s.shallow grammar in
      ap as_type_name (external_exact names Anywhere spelled depth_limit d ts (past ks ts) tt s.external fits s.shallow run)

-- ---- external declarations in a row

abbrev Outers : Type 0
Outers = List DeclarationTree × List Token

units_same : (f g : (ℕ → Bool) → List Token → List DeclarationTree × List Token) (types : ℕ → Bool) (ts : List Token) (o : Option (DeclarationTree × List Token))
    → ((d : DeclarationTree) (rest : List Token) → o ≡ Some (d, rest) → f (with_types types d) rest ≡ g (with_types types d) rest)
    → units_on f types ts o ≡ units_on g types ts o
units_same f g types ts None h = refl
units_same f g types ts (Some x) h = ap (λ (y : Outers). let z : Outers = (x.0 ∷ y.0, y.1) in z) (h x.0 x.1 refl)

units_quit : (f : (ℕ → Bool) → List Token → List DeclarationTree × List Token) (types : ℕ → Bool) (ts : List Token) (o : Option (DeclarationTree × List Token))
    → ((d : DeclarationTree) (rest : List Token) → o ≡ Some (d, rest) → ⊥) → units_on f types ts o ≡ ([], ts)
units_quit f types ts None h = refl
units_quit f types ts (Some x) h = absurd (h x.0 x.1 refl)

units_enough : (n m : ℕ) (types : ℕ → Bool) (ts : List Token) → length ts ≤ n → length ts ≤ m → units_for n types ts ≡ units_for m types ts
unfolding units_for
units_enough zero zero types ts p q = refl
units_enough zero (suc m) types ts p q = sym (units_quit (units_for m) types ts (external_at types ts) (λ d rest e. omega (arith, p, (outer_good types ts d rest e).less)))
units_enough (suc n) zero types ts p q = units_quit (units_for n) types ts (external_at types ts) (λ d rest e. omega (arith, q, (outer_good types ts d rest e).less))
units_enough (suc n) (suc m) types ts p q =
    units_same (units_for n) (units_for m) types ts (external_at types ts)
    (λ d rest e. units_enough n m (with_types types d) rest (omega (arith, p, (outer_good types ts d rest e).less)) (omega (arith, q, (outer_good types ts d rest e).less)))

-- one of them, and the rest
pub units_step : (types : ℕ → Bool) (ts : List Token) → units types ts ≡ units_on units types ts (external_at types ts)
unfolding units units_for
units_step types ts =
    units_enough (length ts) (suc (length ts)) types ts (omega arith) (omega arith)
    ∙ units_same (units_for (length ts)) units types ts (external_at types ts)
    (λ d rest e. units_enough (length ts) (length rest) (with_types types d) rest (omega (arith, (outer_good types ts d rest e).less)) (omega arith))

pub units_end : (types : ℕ → Bool) → units types [] ≡ ([], [])
unfolding units units_for
units_end types = refl

-- all that are read are spelled so
spelled_on : (go : (ℕ → Bool) → List Token → List DeclarationTree × List Token)
    → ((types : ℕ → Bool) (ts : List Token) → SpellExternals types (go types ts).0 ts (go types ts).1)
    → (types : ℕ → Bool) (ts : List Token) (o : Option (DeclarationTree × List Token)) → external_at types ts ≡ o
    → SpellExternals types (units_on go types ts o).0 ts (units_on go types ts o).1
spelled_on go goes types ts None e = refl
spelled_on go goes types ts (Some x) e =
    let g = outer_good types ts x.0 x.1 e in
    let others = go (with_types types x.0) x.1 in
    (g.spelled, subst (λ (y : List Token). SpellExternals (with_types types x.0) others.0 y others.1) (sym g.left) (goes (with_types types x.0) x.1))

spelled_for : (steps : ℕ) (types : ℕ → Bool) (ts : List Token) → SpellExternals types (units_for steps types ts).0 ts (units_for steps types ts).1
unfolding units_for
spelled_for zero types ts = refl
spelled_for (suc steps) types ts = spelled_on (units_for steps) (spelled_for steps) types ts (external_at types ts) refl

pub units_spelled : (types : ℕ → Bool) (ts : List Token) → SpellExternals types (units types ts).0 ts (units types ts).1
unfolding units
units_spelled types ts = spelled_for (length ts) types ts

-- those that are spelled so are the first that are read: under some typedef names the others stand behind them
pub units_come : (types : ℕ → Bool) (es : List DeclarationTree) (ts rest : List Token) → SpellExternals types es ts rest
    → (later : ℕ → Bool) × (◌≡◌ {A = List DeclarationTree × List Token} (units types ts) (es ++ (units later rest).0, (units later rest).1))
units_come types [] ts rest s = (types, ap (units types) s)
units_come types (d ∷ es) ts rest s =
    let c = units_come (with_types types d) es (past (declaration_tokens d) ts) rest s.1 in
    (c.0, units_step types ts ∙ ap (units_on units types ts) (outer_exact types ts d s.0) ∙ ap (λ (y : Outers). let z : Outers = (d ∷ y.0, y.1) in z) c.1)
