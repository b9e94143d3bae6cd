-- Tables that are filled: what is put into them stands for the same whatever else is put behind it.
use Rattle.std.proofs.Common.{◌≡◌, ℕ, List, [], ◌∷◌, ◌++◌, length, get_or, map, refl, sym, ap, ◌∙◌, arith, append_assoc, append-nil, length-append}
use Rattle.std.proofs.Math.Seq.{get_or-append_seam}
use Rattle.pv_tree.specs.declared.nodes.NodeId.{NodeId}
use Rattle.pv_types.specs.declared.terms.Term.{Term}
use Rattle.pv_types.specs.declared.terms.TypeId.{TypeId}
use Rattle.pv_typed.specs.declared.rows.Row.{Row}
use Rattle.pv_typed.specs.Built.{row_by_row}
use Rattle.pv_typed.proofs.Building.{at-append, at-last}

-- the terms of types and their lists of parameters; the rows of nodes, their lists, and the lists of declared objects
pub record NodeTables : Type 0 where
  pub terms : List Term
  pub params : List (List TypeId)
  pub rows : List Row
  pub lists : List (List NodeId)
  pub blocks : List (List ℕ)

-- the list with more behind it
abbrev pub Longer : {A : Type 0} → List A → List A → Type 0
Longer {A} xs ys = (more : List A) × (ys ≡ xs ++ more)

-- the tables with more in each
pub record Filled (s s' : NodeTables) : Type 0 where
  pub terms : Longer s.terms s'.terms
  pub params : Longer s.params s'.params
  pub rows : Longer s.rows s'.rows
  pub lists : Longer s.lists s'.lists
  pub blocks : Longer s.blocks s'.blocks

pub longer_same : {A : Type 0} (xs : List A) → Longer xs xs
longer_same xs = ([], sym (append-nil xs))

pub longer_push : {A : Type 0} (xs : List A) (x : A) → Longer xs (xs ++ (x ∷ []))
longer_push xs x = (x ∷ [], refl)

longer_on : {A : Type 0} (xs ys zs : List A) → Longer xs ys → Longer ys zs → Longer xs zs
longer_on xs ys zs h k = (h.0 ++ k.0, k.1 ∙ ap (λ vs. vs ++ k.0) h.1 ∙ append_assoc xs h.0 k.0)

pub filled_same : (s : NodeTables) → Filled s s
filled_same s = record {
  terms = longer_same s.terms;
  params = longer_same s.params;
  rows = longer_same s.rows;
  lists = longer_same s.lists;
  blocks = longer_same s.blocks;
}

pub filled_on : (s t u : NodeTables) → Filled s t → Filled t u → Filled s u
filled_on s t u h k = record {
  terms = longer_on s.terms t.terms u.terms h.terms k.terms;
  params = longer_on s.params t.params u.params h.params k.params;
  rows = longer_on s.rows t.rows u.rows h.rows k.rows;
  lists = longer_on s.lists t.lists u.lists h.lists k.lists;
  blocks = longer_on s.blocks t.blocks u.blocks h.blocks k.blocks;
}

-- an entry, read from the tables with it and from all with more, is a
pub record Put {A N : Type 0} (read : NodeTables → N → A) (a : A) (s : NodeTables) : Type 0 where
  pub behind : NodeTables
  pub entry : N
  pub filled : Filled s behind
  pub is : (s' : NodeTables) → Filled behind s' → read s' entry ≡ a

-- into all tables such an entry can be put
pub record Puts {A N : Type 0} (read : NodeTables → N → A) (a : A) : Type 0 where
  pub put : (s : NodeTables) → Put read a s

-- an entry that is read the same from all tables
pub kept : {A N : Type 0} (read : NodeTables → N → A) (n : N) (a : A) → ((s : NodeTables) → read s n ≡ a) → Puts read a
kept read n a e = record { put = λ s. record { behind = s; entry = n; filled = filled_same s; is = λ s' h. e s' } }

-- an entry that is made of another one
pub made : {A B N M : Type 0} (read : NodeTables → N → A) (other : NodeTables → M → B) (g : N → M) (f : A → B) → ((s : NodeTables) (n : N) → other s (g n) ≡ f (read s n)) → (a : A) → Puts read a → Puts other (f a)
made read other g f e a p = record {
  put = λ s. (
      let q = p.put s in
      record { behind = q.behind; entry = g q.entry; filled = q.filled; is = λ s' h. e s' q.entry ∙ ap f (q.is s' h) });
}

-- two entries, read side by side
abbrev pub beside : {A B N M : Type 0} → (NodeTables → N → A) → (NodeTables → M → B) → NodeTables → N × M → A × B
beside read other s p = (read s p.0, other s p.1)

pub paired : {A B N M : Type 0} (read : NodeTables → N → A) (other : NodeTables → M → B) (a : A) (b : B) → Puts read a → Puts other b → Puts (beside read other) (a, b)
paired read other a b p q = record {
  put = λ s. (
      let first = p.put s in
      let second = q.put first.behind in
      record {
        behind = second.behind;
        entry = (first.entry, second.entry);
        filled = filled_on s first.behind second.behind first.filled second.filled;
        is = λ s' h. ap (λ x. (x, other s' second.entry)) (first.is s' (filled_on first.behind second.behind s' second.filled h)) ∙ ap (λ y. (a, y)) (second.is s' h);
      });
}

-- the entries of a list
pub each_put : {A N : Type 0} (read : NodeTables → N → A) → ((a : A) → Puts read a) → (xs : List A) → Puts (λ (s : NodeTables) (ns : List N). map (read s) ns) xs
each_put read put [] = kept _ [] [] (λ s. refl)
each_put {A} {N} read put (x ∷ xs) =
    made (beside read (λ (s : NodeTables) (ns : List N). map (read s) ns)) (λ (s : NodeTables) (ns : List N). map (read s) ns)
    (λ p. p.0 ∷ p.1) (λ p. p.0 ∷ p.1) (λ s p. refl) (x, xs)
    (paired read _ x xs (put x) (each_put read put xs))

-- what was put last, is found where the list ended before
pub found : {A : Type 0} (xs : List A) (x d : A) (ys : List A) → Longer (xs ++ (x ∷ [])) ys → get_or ys (length xs) d ≡ x
found xs x d ys h = ap (λ vs. get_or vs (length xs) d) (h.1 ∙ append_assoc xs (x ∷ []) h.0) ∙ get_or-append_seam xs x h.0 d

-- what was made last, is made of what was there before
pub found_built : {N T : Type 0} (make : List T → N → T) (ns : List N) (n : N) (d : T) (ms : List N) → Longer (ns ++ (n ∷ [])) ms → get_or (row_by_row make ms) (length ns) d ≡ make (row_by_row make ns) n
found_built make ns n d ms h =
    ap (λ vs. get_or (row_by_row make vs) (length ns) d) h.1
    ∙ at-append make d (ns ++ (n ∷ [])) h.0 (length ns) (omega (arith, length-append ns (n ∷ [])))
    ∙ at-last make d ns n
