-- A bridge: what is read of the tokens that a reader is given, as trees of a kind.
use Rattle.std.specs.Prelude.{ℕ, Bool, List, Option, Result}
use Rattle.std.specs.declared.vec.Vec.{Vec}
use Rattle.std.specs.declared.alloc.Global.{Global}
use Rattle.pv_token.specs.declared.token_table.Token.{Token}
use Rattle.pv_tree.specs.declared.nodes.NodeId.{NodeId}
use Rattle.pv_tree.specs.Spells.{Names}
use Rattle.pv_tree.specs.Syntax.{Tree, Trees, OptionalTree}
use Rattle.pv_tree.specs.Tables.{Tables}
use Rattle.pv_tree.specs.TypeNames.{TypeMap}
use Rattle.pv_expr_forms.specs.declared.source.Source.{Source}
use Rattle.pv_expr_forms.specs.Sources.{tokens_from, known_names, ReadsInto}
use Rattle.pv_decl_forms.specs.Answers.{Answers}
use Rattle.pv_decl_forms.specs.Pieces.{Piece}
use Rattle.pv_decl_forms.specs.Rows.{AreAnswered, MayBeAnswered}

-- the tree of a kind (6.7, 6.8, 6.9) that is read from a place on is what reading on lists gives: older nodes stay, and memory may be wanting
abbrev pub ReadsFrom : {R E : Type 0} → Source R → (at : ℕ) → (u v : Tables) → (kind : Tree → Bool) → Result (Option (NodeId × ℕ)) E → (List Token → Piece) → Type 0
ReadsFrom source at u v kind result reading = ReadsInto u v result (λ r. Answers v kind source.tokens.now.tokens r (reading (tokens_from source at)))

-- trees of a kind in a row (6.7p1, 6.8.2p1) that are read from a place on, and the place behind them, are what reading on lists gives
abbrev pub RowReads : {R : Type 0} → Source R → (at : ℕ) → Tables → (kind : Tree → Bool) → (nodes : List NodeId) → (next : ℕ) → (List Token → Trees × List Token) → Type 0
RowReads source at u kind nodes next reading = AreAnswered u kind source.tokens.now.tokens nodes next (reading (tokens_from source at))

-- the tree of a kind (6.7.9p1, 6.8.3p1) that is read from a place on, if one is, and the place behind it are what reading on lists gives
abbrev pub MayRead : {R : Type 0} → Source R → (at : ℕ) → Tables → (kind : Tree → Bool) → (node : Option NodeId) → (next : ℕ) → (List Token → OptionalTree × List Token) → Type 0
MayRead source at u kind node next reading = MayBeAnswered u kind source.tokens.now.tokens node next (reading (tokens_from source at))

-- the tree of a kind (6.7, 6.8, 6.9) that is read from a place on is what reading on lists gives, by what is known of names there
abbrev pub Reads : {R E : Type 0} → (R → TypeMap) → Source R → (at : ℕ) → (u v : Tables) → (kind : Tree → Bool) → Result (Option (NodeId × ℕ)) E → (Names → List Token → Piece) → Type 0
Reads types source at u v kind result reading = ReadsFrom source at u v kind result (reading (known_names types source u))

-- the same of trees in a row (6.7p1, 6.8.2p1)
abbrev pub ReadsRow : {R E : Type 0} → (R → TypeMap) → Source R → (at : ℕ) → (u v : Tables) → (kind : Tree → Bool) → Result (Vec NodeId Global × ℕ) E → (Names → List Token → Trees × List Token) → Type 0
ReadsRow types source at u v kind result reading = ReadsInto u v result (λ r. RowReads source at v kind r.0.items r.1 (reading (known_names types source u)))

-- the same of a tree that may not be there (6.7.9p1, 6.8.3p1)
abbrev pub ReadsIfAny : {R E : Type 0} → (R → TypeMap) → Source R → (at : ℕ) → (u v : Tables) → (kind : Tree → Bool) → Result (Option NodeId × ℕ) E → (Names → List Token → OptionalTree × List Token) → Type 0
ReadsIfAny types source at u v kind result reading = ReadsInto u v result (λ r. MayRead source at v kind r.0 r.1 (reading (known_names types source u)))
