-- A table of type names is filled from the last place back to the first.
use Rattle.std.proofs.Common.{◌≡◌, ◌≤◌, ◌<◌, ◌+◌, ◌-◌, ◌⊎◌, ℕ, suc, Bool, true, false, cond, List, [], ◌∷◌, ◌++◌, length, drop, Option, Some, None, refl, sym, ap, subst, ◌∙◌, arith, inl, inr, nat_eq}
use Rattle.std.specs.Prelude.{min, IfSome, ◌&&◌}
use Rattle.std.proofs.Math.Nat.{min-eq_left, min-eq_right}
use Rattle.std.proofs.lemmas.Bool.Decides.{leb_tells}
use Rattle.std.proofs.lemmas.List.{length-append, length-drop, drop-drop, drop_all}
use Rattle.indexmap.specs.IndexSet.{IndexSet, contains}
use Rattle.pv_token.specs.declared.token_table.Token.{Token}
use Rattle.pv_token.specs.declared.token_table.TokenKind.{TokenKind}
use Rattle.pv_token.specs.declared.token_table.TokenKind.TheVariants as kind
use Rattle.pv_token.specs.declared.marks.Mark.TheVariants as mark
use Rattle.pv_tree.specs.declared.nodes.NodeId.{NodeId}
use Rattle.pv_tree.specs.Syntax.{DeclarationTree, Tree, NoTrees, TypeName, Absent}
use Rattle.pv_tree.specs.Spelling.{declaration_tokens}
use Rattle.pv_tree.specs.Grammar.{kinds, line_here}
use Rattle.pv_tree.specs.Places.{Specifiers, AbstractDeclarators}
use Rattle.pv_tree.specs.Spells.{Names, begins_type}
use Rattle.pv_tree.specs.Tables.{Tables, tree_at, as_declaration, is_declaration, is_declarator, Extends}
use Rattle.pv_tree.specs.TypeNames.{TypeMap, type_seen, names_of, IsTied, AreTied}
use Rattle.pv_tree.specs.Units.{depth_limit}
use Rattle.pv_tree.proofs.Kept.{tree_kept, is_kept}
use Rattle.pv_expr_forms.specs.Known.{names_in}
use Rattle.pv_expr_forms.specs.Reader.{is_open}
use Rattle.pv_expr_forms.proofs.Naming.{tied_kept, names_kept}
use Rattle.pv_expr_forms.proofs.Runs.{Takes}
use Rattle.pv_expr_forms.proofs.Spans.{IsEnd, names_spelled, at_end}
use Rattle.pv_decl_forms.specs.Parts.{function_of}
use Rattle.pv_decl_forms.specs.Pieces.{Piece, row, row_for, row_on}
use Rattle.pv_decl_forms.specs.Reader.{behind_specifiers, type_name, readers}
use Rattle.pv_decl_forms.specs.Answers.{piece_from, Answers}
use Rattle.pv_decl.specs.Filled.{entry}
use Rattle.pv_decl.specs.NameTables.{entry_found, NameTable, type_map, no_names, with_name, opens, is_behind_open}
use Rattle.pv_decl_forms.specs.Givens.{AreGiven, parameter_list}
use Rattle.pv_decl_forms.specs.TypeNames.{AreTypeNames}
use Rattle.pv_decl_forms.proofs.Naming.{type_name_good}
use Rattle.pv_decl_forms.proofs.Nested.{IsWithin, type_name_agrees, list_agrees}
use Rattle.pv_decl_forms.proofs.Stops.{specifiers_none}
use Rattle.pv_decl.proofs.Held.{filled_beyond, filled_before, filled_new, filled_old}
use Rattle.pv_decl.proofs.Givens.{answer_kept, given_kept}

-- the place behind the last one is cut to that of the last token
pub cut_by : (last to count : ℕ) → last ≡ min to count → (last ≤ to) × (last ≤ count) × ((last ≡ to) ⊎ (last ≡ count))
cut_by last to count e = elim (leb_tells to count) [
  | inl h ↦ let is : last ≡ to = e ∙ min-eq_left h.1 in (omega (arith, is), omega (arith, is, h.1), inl is)
  | inr h ↦ let is : last ≡ count = e ∙ min-eq_right (omega (arith, h.1)) in (omega (arith, is, h.1), omega (arith, is), inr is)
]

sides : (a b : ℕ) → (a < b) ⊎ (b ≤ a)
sides a b = elim (leb_tells b a) [ inl l ↦ inr l.1 | inr l ↦ inl l.1 ]

-- ---- places and the tokens before them

pub not_open : (k : TokenKind) → (k ≡ kind.Mark mark.OpenParen → ⊥) → is_open k ≡ false
not_open (kind.Mark mark.OpenParen) h = absurd (h refl)
not_open _ h = refl

-- a token at a place
pub behind_it : (tokens : List Token) (at : ℕ) (o : Token) (ts : List Token) → drop at tokens ≡ o ∷ ts → (at < length tokens) × (ts ≡ drop (at + 1) tokens)
behind_it tokens at o ts e =
    let one : drop 1 (drop at tokens) ≡ ts = ap (drop 1) e in
    (omega (arith, ap length e, length-drop at tokens), sym one ∙ drop-drop 1 at tokens)

pub open_at : (tokens : List Token) (at : ℕ) (o : Token) (ts : List Token) → drop at tokens ≡ o ∷ ts → is_behind_open tokens (suc at) ≡ is_open o.kind
open_at tokens at o ts e = ap opens e

-- nothing is a type name of no tokens
no_type_name : (names : Names) (depth : ℕ) → None ≡ type_name names depth []
unfolding type_name behind_specifiers row row_for
no_type_name names depth = refl

-- nor where no specifiers begin
no_row : (read : List Token → Piece) (ts : List Token) → read ts ≡ None → row read NoTrees ts ≡ (NoTrees, ts)
unfolding row row_for
no_row read [] e = refl
no_row read (t ∷ ts) e = ap (row_on (row_for (length ts) read) NoTrees (t ∷ ts)) e

typeless : (names : Names) (depth : ℕ) (ts : List Token) → begins_type names ts ≡ false → type_name names depth ts ≡ None
unfolding type_name behind_specifiers
typeless names depth ts e =
    ap (behind_specifiers (TypeName (line_here ts)) (readers names depth AbstractDeclarators)) (no_row (readers names depth Specifiers) ts (specifiers_none names depth ts e))

-- what a run takes is what stands before the rest
kinds_before : (ks : List TokenKind) (here rest : List Token) → Takes ks here rest → kinds here ≡ ks ++ kinds rest
kinds_before [] here rest h = ap kinds h
kinds_before (k ∷ ks) [] rest h = absurd h
kinds_before (k ∷ ks) (t ∷ ts) rest h = ap (λ (x : TokenKind). x ∷ kinds ts) h.0 ∙ ap (λ (x : List TokenKind). k ∷ x) (kinds_before ks ts rest h.1)

-- ---- what is read at a place

module _ (names : Names) (tokens : List Token) (at : ℕ) where
  entry_not : is_behind_open tokens at ≡ false → None ≡ entry names depth_limit tokens at
  unfolding entry
  entry_not e = rw e refl

  entry_typeless : is_behind_open tokens at ≡ true → begins_type names (drop at tokens) ≡ false → None ≡ entry names depth_limit tokens at
  unfolding entry depth_limit
  entry_typeless e none = rw e (sym (typeless names 500 (drop at tokens) none))

  entry_so : is_behind_open tokens at ≡ true → type_name names 500 (drop at tokens) ≡ entry names depth_limit tokens at
  unfolding entry depth_limit
  entry_so e = rw e refl

  -- by both at once
  shut_by : (b : Bool) → is_behind_open tokens at ≡ b → (b && begins_type names (drop at tokens)) ≡ false → None ≡ entry names depth_limit tokens at
  shut_by true h e = entry_typeless h e
  shut_by false h e = entry_not h

  opens_by : (b : Bool) → is_behind_open tokens at ≡ b → (b && begins_type names (drop at tokens)) ≡ true → type_name names 500 (drop at tokens) ≡ entry names depth_limit tokens at
  opens_by true h e = entry_so h
  opens_by false h e = absurd cc

  pub entry_shut : (is_behind_open tokens at && begins_type names (drop at tokens)) ≡ false → None ≡ entry names depth_limit tokens at
  entry_shut e = shut_by (is_behind_open tokens at) refl e

  pub entry_opens : (is_behind_open tokens at && begins_type names (drop at tokens)) ≡ true → type_name names 500 (drop at tokens) ≡ entry names depth_limit tokens at
  entry_opens e = opens_by (is_behind_open tokens at) refl e

-- ---- a table that is filled from a place on

pub record IsFilled (is_type : ℕ → Bool) (u : Tables) (tokens : List Token) (deep last : ℕ) (found : List (Option (NodeId × ℕ))) (at : ℕ) : Type 0 where
  pub inside : last ≤ length tokens
  pub count : at + length found ≡ last
  pub tied : AreTied (entry_found last found) u tokens
  pub has : (p : ℕ) → at ≤ p → p < last → piece_from u.forest tokens (entry_found last found p) ≡ entry (names_of is_type (entry_found last found) u.forest tokens) deep tokens p

no_entry : (last p : ℕ) (x : NodeId × ℕ) → entry_found last [] p ≡ Some x → ⊥
no_entry last p x is = elim (leb_tells last p) [
  | inl h ↦ let e : None ≡ Some x = sym (filled_beyond last [] p h.1) ∙ is in absurd cc
  | inr h ↦ let e : None ≡ Some x = sym (filled_before last [] p (omega (arith, h.1))) ∙ is in absurd cc
]

pub filled_none : (is_type : ℕ → Bool) (u : Tables) (tokens : List Token) (deep last : ℕ) (found : List (Option (NodeId × ℕ))) (at : ℕ) → last ≤ length tokens → at ≡ last
    → found ≡ [] → IsFilled is_type u tokens deep last found at
filled_none is_type u tokens deep last found at inside here e = rw e (record {
  inside = inside;
  count = omega (arith, here);
  tied = λ p x is. absurd (no_entry last p x is);
  has = λ p low high. absurd (omega (arith, here));
})

-- what stands in a unit that grows
seen_there : (u v : Tables) (tokens : List Token) (types : TypeMap) → AreTied types u tokens → Extends u v → (p : ℕ) (o : Option (NodeId × ℕ)) → types p ≡ o
    → piece_from v.forest tokens o ≡ piece_from u.forest tokens o
seen_there u v tokens types tied e p None is = refl
seen_there u v tokens types tied e p (Some x) is = ap (λ (t : Tree). let y : Piece = Some (t, drop x.1 tokens) in y) (tree_kept u v x.0 e (tied p x is).node.0)

types_there : (u v : Tables) (tokens : List Token) (types : TypeMap) → AreTied types u tokens → Extends u v → (p : ℕ) (o : Option (NodeId × ℕ)) → types p ≡ o
    → type_seen v.forest tokens o ≡ type_seen u.forest tokens o
types_there u v tokens types tied e p None is = refl
types_there u v tokens types tied e p (Some x) is =
    ap (λ (t : Tree). let y : DeclarationTree × List Token = (as_declaration t, drop x.1 tokens) in Some y) (tree_kept u v x.0 e (tied p x is).node.0)

names_stay : (is_type : ℕ → Bool) (types : TypeMap) (u v : Tables) (tokens : List Token) → AreTied types u tokens → Extends u v
    → names_of is_type types v.forest tokens ≡ names_of is_type types u.forest tokens
unfolding names_of
names_stay is_type types u v tokens tied e =
    let same : (ts : List Token) → type_seen v.forest tokens (types (length tokens - length ts)) ≡ type_seen u.forest tokens (types (length tokens - length ts)) =
    λ ts. types_there u v tokens types tied e (length tokens - length ts) (types (length tokens - length ts)) refl in
    λ i. record { is_type = is_type; type_at = λ ts. same ts i }

-- ---- one place more

module _ (is_type : ℕ → Bool) (u v : Tables) (tokens : List Token) (deep last : ℕ) (found : List (Option (NodeId × ℕ))) (at : ℕ)
    (before : IsFilled is_type u tokens deep last found (suc at)) (keeps : Extends u v) (r : Option (NodeId × ℕ))
    (a : Answers v is_declaration tokens r (entry (names_of is_type (entry_found last found) u.forest tokens) deep tokens at)) where
  abbrev old : TypeMap
  old = entry_found last found

  abbrev new : TypeMap
  new = entry_found last (found ++ (r ∷ []))

  abbrev old_names : Names
  old_names = names_of is_type (entry_found last found) u.forest tokens

  abbrev new_names : Names
  new_names = names_of is_type (entry_found last (found ++ (r ∷ []))) v.forest tokens

  new_here : new at ≡ r
  new_here = filled_new last found at r (omega (arith, before.count))

  new_above : (p : ℕ) → at < p → new p ≡ old p
  new_above p h = elim (leb_tells last p) [
    | inl l ↦ filled_beyond last (found ++ (r ∷ [])) p l.1 ∙ sym (filled_beyond last found p l.1)
    | inr l ↦ filled_old last found p r l.1 (omega (arith, before.count))
  ]

  new_below : (p : ℕ) → p < at → new p ≡ None
  new_below p h = filled_before last (found ++ (r ∷ [])) p (omega (arith, before.count, length-append found (r ∷ [])))

  -- the older entries stand for what they did
  type_by : (p : ℕ) (o : Option (NodeId × ℕ)) → old p ≡ o → type_seen v.forest tokens o ≡ type_seen u.forest tokens o
  type_by p None e = refl
  type_by p (Some x) e =
      ap (λ (t : Tree). let y : DeclarationTree × List Token = (as_declaration t, drop x.1 tokens) in Some y) (tree_kept u v x.0 keeps (before.tied p x e).node.0)

  seen_by : (p : ℕ) (o : Option (NodeId × ℕ)) → old p ≡ o → piece_from v.forest tokens o ≡ piece_from u.forest tokens o
  seen_by p None e = refl
  seen_by p (Some x) e = ap (λ (t : Tree). let y : Tree × List Token = (t, drop x.1 tokens) in Some y) (tree_kept u v x.0 keeps (before.tied p x e).node.0)

  -- ---- the new entry is tied

  tied_found : (x : NodeId × ℕ) → at ≤ length tokens → (b : Bool)
      → Answers v is_declaration tokens (Some x) (cond b (type_name old_names deep (drop at tokens)) None) → IsTied v tokens at x
  tied_found x place true k =
      let g = type_name_good old_names (IsEnd tokens) (names_spelled is_type old u tokens before.tied) deep (drop at tokens) (tree_at v.forest x.0) (drop x.1 tokens) (at_end tokens at place) (sym k.is) in
      record {
        node = k.there.0;
        place = k.there.1;
        spells = subst (λ (d : DeclarationTree). kinds (drop at tokens) ≡ declaration_tokens d ++ kinds (drop x.1 tokens)) (ap as_declaration g.is)
            (kinds_before (declaration_tokens g.tree) (drop at tokens) (drop x.1 tokens) g.takes);
      }
  tied_found x place false k = let e : ◌≡◌ {A = Piece} (Some (tree_at v.forest x.0, drop x.1 tokens)) None = k.is in absurd cc

  tied_here : (x : NodeId × ℕ) → r ≡ Some x → IsTied v tokens at x
  unfolding entry
  tied_here x e =
      tied_found x (omega (arith, before.inside, before.count)) (is_behind_open tokens at)
      (subst (λ (o : Option (NodeId × ℕ)). Answers v is_declaration tokens o (entry old_names deep tokens at)) e a)

  older_tied : (p : ℕ) (x : NodeId × ℕ) → old p ≡ Some x → IsTied v tokens p x
  older_tied p x e =
      let k = before.tied p x e in
      record {
        node = is_kept u v is_declaration x.0 keeps k.node;
        place = k.place;
        spells = k.spells ∙ ap (λ (t : Tree). declaration_tokens (as_declaration t) ++ kinds (drop x.1 tokens)) (sym (tree_kept u v x.0 keeps k.node.0));
      }

  tied_by : (p : ℕ) (x : NodeId × ℕ) → new p ≡ Some x → (p < at) ⊎ (at ≤ p) → (at < p) ⊎ (p ≤ at) → IsTied v tokens p x
  tied_by p x e (inl l) m = let no : None ≡ Some x = sym (new_below p l) ∙ e in absurd cc
  tied_by p x e (inr l) (inl m) = older_tied p x (sym (new_above p m) ∙ e)
  tied_by p x e (inr l) (inr m) =
      let same : at ≡ p = omega arith in
      let here : r ≡ Some x = sym new_here ∙ ap new same ∙ e in
      subst (λ (q : ℕ). IsTied v tokens q x) same (tied_here x here)

  new_tied : AreTied new v tokens
  new_tied p x e = tied_by p x e (sides p at) (sides at p)

  -- ---- what is read at a place depends on the type names behind it alone

  same_type : (p : ℕ) → at < p → p ≤ length tokens → old_names.type_at (drop p tokens) ≡ new_names.type_at (drop p tokens)
  unfolding names_of
  same_type p h place =
      let here : length tokens - length (drop p tokens) ≡ p = omega (arith, length-drop p tokens) in
      rw here (sym (type_by p (old p) refl) ∙ ap (type_seen v.forest tokens) (sym (new_above p h)))

  agree : (p : ℕ) → at ≤ p → (o : Token) (us : List Token) → IsWithin (drop p tokens) (o ∷ us) → old_names.type_at us ≡ new_names.type_at us
  agree p low o us w =
      let e : drop (p + w.0) tokens ≡ o ∷ us = sym (drop-drop w.0 p tokens) ∙ w.1 in
      let b = behind_it tokens (p + w.0) o us e in
      subst (λ (ts : List Token). old_names.type_at ts ≡ new_names.type_at ts) (sym b.1) (same_type (p + w.0 + 1) (omega arith) (omega (arith, b.0)))

  name_same : (p : ℕ) → at ≤ p → p ≤ length tokens → type_name old_names deep (drop p tokens) ≡ type_name new_names deep (drop p tokens)
  unfolding names_of
  name_same p low place =
      type_name_agrees is_type (IsEnd tokens) deep (drop p tokens) (at_end tokens p place) old_names.type_at new_names.type_at
      (names_spelled is_type old u tokens before.tied) (names_spelled is_type new v tokens new_tied) (λ o us w k. agree p low o us w)

  pub list_same : (p : ℕ) → at ≤ p → p ≤ length tokens → (depth : ℕ) → parameter_list old_names depth (drop p tokens) ≡ parameter_list new_names depth (drop p tokens)
  unfolding names_of
  list_same p low place depth =
      list_agrees is_type (IsEnd tokens) depth (drop p tokens) (at_end tokens p place) old_names.type_at new_names.type_at
      (names_spelled is_type old u tokens before.tied) (names_spelled is_type new v tokens new_tied) (λ o us w k. agree p low o us w) (function_of 0 Absent)

  entry_same : (p : ℕ) → at ≤ p → p ≤ length tokens → entry old_names deep tokens p ≡ entry new_names deep tokens p
  unfolding entry
  entry_same p low place = ap (λ (o : Piece). cond (is_behind_open tokens p) o None) (name_same p low place)

  has_by : (p : ℕ) → at ≤ p → p < last → (at < p) ⊎ (p ≤ at) → piece_from v.forest tokens (new p) ≡ entry new_names deep tokens p
  has_by p low high (inl m) =
      ap (piece_from v.forest tokens) (new_above p m) ∙ seen_by p (old p) refl ∙ before.has p (omega arith) high ∙ entry_same p low (omega (arith, before.inside))
  has_by p low high (inr m) =
      let same : at ≡ p = omega arith in
      subst (λ (q : ℕ). piece_from v.forest tokens (new q) ≡ entry new_names deep tokens q) same
      (ap (piece_from v.forest tokens) new_here ∙ a.is ∙ entry_same at (omega arith) (omega (arith, before.inside, before.count)))

  pub filled_more : (items : List (Option (NodeId × ℕ))) → items ≡ found ++ (r ∷ []) → IsFilled is_type v tokens deep last items at
  filled_more items e = rw e (record {
    inside = before.inside;
    count = omega (arith, before.count, length-append found (r ∷ []));
    tied = new_tied;
    has = λ p low high. has_by p low high (sides at p);
  })

pub filled_step : (is_type : ℕ → Bool) (u v : Tables) (tokens : List Token) (deep last : ℕ) (found : List (Option (NodeId × ℕ))) (at : ℕ) → 0 < at
    → IsFilled is_type u tokens deep last found at → Extends u v → (r : Option (NodeId × ℕ))
    → Answers v is_declaration tokens r (entry (names_of is_type (entry_found last found) u.forest tokens) deep tokens (at - 1))
    → (items : List (Option (NodeId × ℕ))) → items ≡ found ++ (r ∷ []) → IsFilled is_type v tokens deep last items (at - 1)
filled_step is_type u v tokens deep last found at some before keeps r a items e =
    let here : at ≡ suc (at - 1) = omega arith in
    filled_more is_type u v tokens deep last found (at - 1) (subst (λ (k : ℕ). IsFilled is_type u tokens deep last found k) here before) keeps r a items e

-- a unit that grows keeps the table
pub filled_kept : (is_type : ℕ → Bool) (u v : Tables) (tokens : List Token) (deep last : ℕ) (found : List (Option (NodeId × ℕ))) (at : ℕ)
    → IsFilled is_type u tokens deep last found at → Extends u v → IsFilled is_type v tokens deep last found at
filled_kept is_type u v tokens deep last found at k e = record {
  inside = k.inside;
  count = k.count;
  tied = tied_kept (entry_found last found) u v tokens k.tied e;
  has = λ p low high.
      seen_there u v tokens (entry_found last found) k.tied e p (entry_found last found p) refl ∙ k.has p low high
      ∙ ap (λ (n : Names). entry n deep tokens p) (sym (names_stay is_type (entry_found last found) u v tokens k.tied e));
}

-- ---- the lists of parameters

-- the lists that are known behind a place, as one type name more is found there
module _ {S : Type 0} (typedefs : IndexSet ℕ S) (u v : Tables) (tokens : List Token) (deep last : ℕ) (found : List (Option (NodeId × ℕ))) (at : ℕ)
    (before : IsFilled (contains nat_eq typedefs) u tokens deep last found (suc at)) (keeps : Extends u v) (r : Option (NodeId × ℕ))
    (a : Answers v is_declaration tokens r (entry (names_of (contains nat_eq typedefs) (entry_found last found) u.forest tokens) deep tokens at))
    (lists : List (Option (Option (NodeId × ℕ)))) (count : suc at + length lists ≤ last)
    (given : AreGiven (entry_found last lists) typedefs (entry_found last found) u tokens) where
  list_behind : (p : ℕ) (o : Option (NodeId × ℕ)) → entry_found last lists p ≡ Some o → (last ≤ p) ⊎ (p < last) → (at < p) ⊎ (p ≤ at)
      → Answers v is_declarator tokens o (parameter_list (names_in typedefs (entry_found last (found ++ (r ∷ []))) v tokens) depth_limit (drop p tokens))
  unfolding names_in
  list_behind p o e (inl l) m = let no : None ≡ Some o = sym (filled_beyond last lists p l) ∙ e in absurd cc
  list_behind p o e (inr l) (inr m) = let no : None ≡ Some o = sym (filled_before last lists p (omega (arith, count))) ∙ e in absurd cc
  list_behind p o e (inr l) (inl m) =
      answer_kept u v tokens o (parameter_list (names_in typedefs (entry_found last found) u tokens) depth_limit (drop p tokens))
      (parameter_list (names_in typedefs (entry_found last (found ++ (r ∷ []))) v tokens) depth_limit (drop p tokens)) keeps
      (list_same (contains nat_eq typedefs) u v tokens deep last found at before keeps r a p (omega arith) (omega (arith, before.inside)) depth_limit) (given.read p o e)

  pub given_names : (items : List (Option (NodeId × ℕ))) → items ≡ found ++ (r ∷ []) → AreGiven (entry_found last lists) typedefs (entry_found last items) v tokens
  given_names items e = rw e (record {
    tied = new_tied (contains nat_eq typedefs) u v tokens deep last found at before keeps r a;
    read = λ p o is. list_behind p o is (elim (leb_tells last p) [ inl l ↦ inl l.1 | inr l ↦ inr l.1 ]) (sides at p);
  })

-- one place more
module _ {S : Type 0} (typedefs : IndexSet ℕ S) (types : TypeMap) (u v : Tables) (tokens : List Token) (old new : ℕ → Option (Option (NodeId × ℕ))) (at : ℕ)
    (given : AreGiven old typedefs types u tokens) (keeps : Extends u v) (x : Option (Option (NodeId × ℕ)))
    (a : IfSome x (λ o. Answers v is_declarator tokens o (parameter_list (names_in typedefs types u tokens) depth_limit (drop at tokens))))
    (before : (p : ℕ) → p < at → new p ≡ None) (noted : new at ≡ x) (behind : (p : ℕ) → at < p → new p ≡ old p) where
  older : AreGiven old typedefs types v tokens
  older = given_kept old typedefs types u v tokens given keeps

  list_here : (o : Option (NodeId × ℕ)) → x ≡ Some o
      → Answers v is_declarator tokens o (parameter_list (names_in typedefs types v tokens) depth_limit (drop at tokens))
  list_here o e =
      let k : Answers v is_declarator tokens o (parameter_list (names_in typedefs types u tokens) depth_limit (drop at tokens)) =
      subst (λ (y : Option (Option (NodeId × ℕ))). IfSome y (λ z. Answers v is_declarator tokens z (parameter_list (names_in typedefs types u tokens) depth_limit (drop at tokens)))) e a in
      subst (λ (n : Names). Answers v is_declarator tokens o (parameter_list n depth_limit (drop at tokens))) (sym (names_kept typedefs types u v tokens given.tied keeps)) k

  list_at : (p : ℕ) (o : Option (NodeId × ℕ)) → new p ≡ Some o → (at < p) ⊎ (p ≤ at) → (p < at) ⊎ (at ≤ p)
      → Answers v is_declarator tokens o (parameter_list (names_in typedefs types v tokens) depth_limit (drop p tokens))
  list_at p o e (inl m) n = older.read p o (sym (behind p m) ∙ e)
  list_at p o e (inr m) (inl n) = let no : None ≡ Some o = sym (before p n) ∙ e in absurd cc
  list_at p o e (inr m) (inr n) =
      let same : at ≡ p = omega arith in
      let here : x ≡ Some o = sym noted ∙ ap new same ∙ e in
      subst (λ (q : ℕ). Answers v is_declarator tokens o (parameter_list (names_in typedefs types v tokens) depth_limit (drop q tokens))) same (list_here o here)

  pub lists_step : AreGiven new typedefs types v tokens
  lists_step = record {
    tied = older.tied;
    read = λ p o is. list_at p o is (sides at p) (sides p at);
  }

pub names_step : {S : Type 0} (typedefs : IndexSet ℕ S) (u v : Tables) (tokens : List Token) (deep last : ℕ) (found : List (Option (NodeId × ℕ))) (at : ℕ) → 0 < at
    → IsFilled (contains nat_eq typedefs) u tokens deep last found at → Extends u v → (r : Option (NodeId × ℕ))
    → Answers v is_declaration tokens r (entry (names_of (contains nat_eq typedefs) (entry_found last found) u.forest tokens) deep tokens (at - 1))
    → (to : ℕ) (lists : List (Option (Option (NodeId × ℕ)))) → to ≡ last → at + length lists ≤ to
    → AreGiven (entry_found to lists) typedefs (entry_found last found) u tokens
    → (items : List (Option (NodeId × ℕ))) → items ≡ found ++ (r ∷ []) → AreGiven (entry_found to lists) typedefs (entry_found last items) v tokens
names_step typedefs u v tokens deep last found at some before keeps r a to lists same count given items e =
    let here : at ≡ suc (at - 1) = omega arith in
    let now = given_names typedefs u v tokens deep last found (at - 1) (subst (λ (k : ℕ). IsFilled (contains nat_eq typedefs) u tokens deep last found k) here before) keeps r a lists
    (omega (arith, count, same)) (subst (λ (n : ℕ). AreGiven (entry_found n lists) typedefs (entry_found last found) u tokens) same given) items e in
    subst (λ (n : ℕ). AreGiven (entry_found n lists) typedefs (entry_found last items) v tokens) (sym same) now

-- ---- of the table as a whole

pub table_none : (is_type : ℕ → Bool) (u : Tables) (tokens : List Token) (deep to : ℕ) (table : NameTable) → table ≡ no_names to → to ≤ length tokens
    → IsFilled is_type u tokens deep table.to table.found to
table_none is_type u tokens deep to table made inside = rw made (filled_none is_type u tokens deep to [] to inside refl refl)

module _ {S : Type 0} (typedefs : IndexSet ℕ S) (u v : Tables) (tokens : List Token) (deep : ℕ) (table new : NameTable) (at : ℕ) (some : 0 < at)
    (before : IsFilled (contains nat_eq typedefs) u tokens deep table.to table.found at) (keeps : Extends u v) (r : Option (NodeId × ℕ))
    (a : Answers v is_declaration tokens r (entry (names_of (contains nat_eq typedefs) (type_map table) u.forest tokens) deep tokens (at - 1)))
    (made : new ≡ with_name table r) where
  pub table_step : IsFilled (contains nat_eq typedefs) v tokens deep new.to new.found (at - 1)
  table_step = rw made (filled_step (contains nat_eq typedefs) u v tokens deep table.to table.found at some before keeps r a (table.found ++ (r ∷ [])) refl)

  pub table_given : (to : ℕ) (lists : List (Option (Option (NodeId × ℕ)))) → to ≡ table.to → at + length lists ≤ to
      → AreGiven (entry_found to lists) typedefs (type_map table) u tokens → AreGiven (entry_found to lists) typedefs (type_map new) v tokens
  table_given to lists same count given =
      rw made (names_step typedefs u v tokens deep table.to table.found at some before keeps r a to lists same count given (table.found ++ (r ∷ [])) refl)

-- ---- the whole table

nothing_seen : (u : Tables) (tokens : List Token) (o : Option (NodeId × ℕ)) → piece_from u.forest tokens o ≡ None → o ≡ None
nothing_seen u tokens None e = refl
nothing_seen u tokens (Some x) e = absurd cc

module _ (is_type : ℕ → Bool) (u : Tables) (tokens : List Token) (deep last : ℕ) (found : List (Option (NodeId × ℕ))) (at from to : ℕ)
    (whole : IsFilled is_type u tokens deep last found at) (reached : at ≤ from) (low : (from ≤ at) ⊎ (last ≤ at)) (cut : (last ≡ to) ⊎ (last ≡ length tokens)) (within : last ≤ to) where
  abbrev names : Names
  names = names_of is_type (entry_found last found) u.forest tokens

  -- no entry stands before the table
  below : (p : ℕ) → p < from → entry_found last found p ≡ None
  below p h = elim low [
    | inl l ↦ filled_before last found p (omega (arith, l, whole.count))
    | inr l ↦ elim (leb_tells last p) [
      | inl m ↦ filled_beyond last found p m.1
      | inr m ↦ filled_before last found p (omega (arith, l, m.1, whole.count))
    ]
  ]

  pub filled_outside : (p : ℕ) → (p < from) ⊎ (to ≤ p) → entry_found last found p ≡ None
  filled_outside p (inl h) = below p h
  filled_outside p (inr h) = filled_beyond last found p (omega (arith, within))

  elsewhere_by : (p : ℕ) → is_behind_open tokens p ≡ false → (last ≤ p) ⊎ (p < last) → (p < at) ⊎ (at ≤ p) → entry_found last found p ≡ None
  unfolding entry
  elsewhere_by p e (inl l) m = filled_beyond last found p l
  elsewhere_by p e (inr l) (inl m) = filled_before last found p (omega (arith, whole.count))
  elsewhere_by p e (inr l) (inr m) =
      let nothing : entry names deep tokens p ≡ None = rw e refl in
      nothing_seen u tokens (entry_found last found p) (whole.has p m l ∙ nothing)

  pub filled_elsewhere : (p : ℕ) → is_behind_open tokens p ≡ false → entry_found last found p ≡ None
  filled_elsewhere p e = elsewhere_by p e (elim (leb_tells last p) [ inl l ↦ inl l.1 | inr l ↦ inr l.1 ]) (elim (leb_tells at p) [ inl l ↦ inr l.1 | inr l ↦ inl l.1 ])

  -- behind a `(` within the table
  behind_in : (p : ℕ) (o : Token) (ts : List Token) → from ≤ suc p → suc p < last → drop p tokens ≡ o ∷ ts → o.kind ≡ kind.Mark mark.OpenParen
      → piece_from u.forest tokens (entry_found last found (suc p)) ≡ type_name names deep ts
  unfolding entry
  behind_in p o ts l h e k =
      let stands : is_behind_open tokens (suc p) ≡ true = open_at tokens p o ts e ∙ ap is_open k in
      let next : suc p ≡ p + 1 = omega arith in
      let same : drop (suc p) tokens ≡ ts = ap (λ (n : ℕ). drop n tokens) next ∙ sym (behind_it tokens p o ts e).1 in
      whole.has (suc p) (omega arith) h ∙ rw (stands, same) refl

  -- behind the last token, if that is a `(`
  behind_end : (p : ℕ) (o : Token) (ts : List Token) → last ≤ suc p → suc p < to → drop p tokens ≡ o ∷ ts
      → piece_from u.forest tokens (entry_found last found (suc p)) ≡ type_name names deep ts
  behind_end p o ts l h e =
      let b = behind_it tokens p o ts e in
      let all : last ≡ length tokens = elim cut [ inl c ↦ absurd (omega (arith, c)) | inr c ↦ c ] in
      let none : drop (p + 1) tokens ≡ [] = drop_all (p + 1) tokens (omega (arith, all)) in
      ap (piece_from u.forest tokens) (filled_beyond last found (suc p) l) ∙ no_type_name names deep ∙ ap (type_name names deep) (sym none ∙ sym b.1)

  pub filled_whole : AreTypeNames is_type (entry_found last found) u tokens deep from to
  filled_whole = record {
    behind = λ p o ts l h e k. elim (leb_tells last (suc p)) [ inl m ↦ behind_end p o ts m.1 h e | inr m ↦ behind_in p o ts l m.1 e k ];
    elsewhere = λ p o ts e k. filled_elsewhere (suc p) (open_at tokens p o ts e ∙ not_open o.kind k);
    outside = filled_outside;
  }
