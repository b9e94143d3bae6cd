-- Each unit has tables (C17 6.9).
use Rattle.std.proofs.Common.{◌≡◌, ℕ, List, [], ◌∷◌, map, refl, ap, ◌∙◌, Some, None}
use Rattle.std.specs.Prelude.{Option}
use Rattle.pv_tree.specs.declared.nodes.NodeId.{NodeId}
use Rattle.pv_types.specs.declared.terms.TypeId.{TypeId}
use Rattle.pv_types.specs.Ty.{Ty}
use Rattle.pv_types.specs.Known.{Heading, DoneTag}
use Rattle.pv_types.specs.Layouts.{Completed}
use Rattle.pv_typed.specs.declared.entries.Object.{Object}
use Rattle.pv_typed.specs.declared.entries.Function.{Function}
use Rattle.pv_typed.specs.declared.entries.Init.{Init}
use Rattle.pv_typed.specs.declared.entries.InitValue.{InitValue}
use Rattle.pv_typed.specs.declared.entries.InitValue.TheVariants as value
use Rattle.pv_typed.specs.TypedStatement.{TypedStatement}
use Rattle.pv_typed.specs.TypedUnits.{WholeUnit, Store, StoredValue, ValueOf, TextOf, TypedObject, TypedFunction, Literal}
use Rattle.pv_typed.specs.Tables.{Stored, value_in, store_in, object_in, function_in, whole_unit, body_in, literal_in}
use Rattle.pv_numbering.proofs.Entries.{NodeTables, Put, Puts, filled_same, kept, made, beside, paired, each_put}
use Rattle.pv_numbering.proofs.TypeEntries.{type_at, put_type, completions, put_completions}
use Rattle.pv_numbering.proofs.NodeEntries.{known_of, nodes_of, expression, statement, put_expression, put_statement}

module _ (tags : List Heading) (done : List DoneTag) where
  abbrev stored_value : NodeTables → InitValue → StoredValue
  stored_value s v = value_in (nodes_of tags done s) v

  put_value : (v : StoredValue) → Puts stored_value v
  put_value (ValueOf x) = made (expression tags done) stored_value value.Node ValueOf (λ s n. refl) x (put_expression tags done x)
  put_value (TextOf l) = kept stored_value (value.Text l) (TextOf l) (λ s. refl)

  abbrev store : NodeTables → Init → Store
  store s i = store_in (known_of tags done s) (nodes_of tags done s) i

  put_store : (x : Store) → Puts store x
  put_store x =
      made (beside type_at stored_value) store
      (λ p. record { offset = x.offset; t = p.0; line = x.line; what = p.1 }) (λ p. record { offset = x.offset; t = p.0; line = x.line; what = p.1 }) (λ s p. refl) (x.t, x.what)
      (paired type_at stored_value x.t x.what (put_type x.t) (put_value x.what))

  abbrev stores : NodeTables → List Init → List Store
  stores s is = map (store s) is

  abbrev object : NodeTables → Object × List Init → TypedObject
  object s e = object_in (known_of tags done s) (nodes_of tags done s) e

  put_object : (x : TypedObject) → Puts object x
  put_object x =
      made (beside type_at stores) object
      (λ p. (record { name = x.name; t = p.0; line = x.line; lasting = x.lasting; braced = x.braced }, p.1))
      (λ p. record { name = x.name; t = p.0; line = x.line; lasting = x.lasting; braced = x.braced; inits = p.1 }) (λ s p. refl) (x.t, x.inits)
      (paired type_at stores x.t x.inits (put_type x.t) (each_put store put_store x.inits))

  abbrev body : NodeTables → Option NodeId → Option TypedStatement
  body s n = body_in (nodes_of tags done s) n

  put_body : (x : Option TypedStatement) → Puts body x
  put_body None = kept body None None (λ s. refl)
  put_body (Some x) = made (statement tags done) body Some Some (λ s n. refl) x (put_statement tags done x)

  abbrev function : NodeTables → Function × List ℕ → TypedFunction
  function s e = function_in (known_of tags done s) (nodes_of tags done s) e

  put_function : (x : TypedFunction) → Puts function x
  put_function x =
      made (beside type_at body) function
      (λ p. (record { name = x.name; t = p.0; line = x.line; body = p.1 }, x.params))
      (λ p. record { name = x.name; t = p.0; line = x.line; params = x.params; body = p.1 }) (λ s p. refl) (x.t, x.body)
      (paired type_at body x.t x.body (put_type x.t) (put_body x.body))

  -- the objects, the functions, and the types of the tags
  abbrev objects : NodeTables → List (Object × List Init) → List TypedObject
  objects s es = map (object s) es

  abbrev functions : NodeTables → List (Function × List ℕ) → List TypedFunction
  functions s es = map (function s) es

  abbrev tagged : NodeTables → List TypeId → List Ty
  tagged s ts = map (type_at s) ts

  abbrev entries : NodeTables → List (Object × List Init) × (List (Function × List ℕ) × List TypeId) → List TypedObject × (List TypedFunction × List Ty)
  entries s p = beside objects (beside functions tagged) s p

  put_entries : (w : WholeUnit) → Puts entries (w.objects, (w.functions, w.tags))
  put_entries w =
      paired objects (beside functions tagged) w.objects (w.functions, w.tags) (each_put object put_object w.objects)
      (paired functions tagged w.functions w.tags (each_put function put_function w.functions) (each_put type_at put_type w.tags))

abbrev literal_row : Literal → ℕ × List ℕ
literal_row l = (l.line, l.bytes)

literals_read : (ls : List Literal) → map literal_in (map literal_row ls) ≡ ls
literals_read [] = refl
literals_read (l ∷ ls) = ap (λ (xs : List Literal). l ∷ xs) (literals_read ls)

-- no table has anything yet
abbrev nothing : NodeTables
nothing = record { terms = []; params = []; rows = []; lists = []; blocks = [] }

module _ (w : WholeUnit) where
  completed : Put completions w.completed nothing
  completed = (put_completions w.completed).put nothing

  entered : Put (entries w.headings completed.entry) (w.objects, (w.functions, w.tags)) completed.behind
  entered = (put_entries w.headings completed.entry w).put completed.behind

  abbrev tables_of : Stored
  tables_of = record {
    known = known_of w.headings completed.entry entered.behind;
    names = w.names;
    rows = entered.behind.rows;
    lists = entered.behind.lists;
    blocks = entered.behind.blocks;
    objects = entered.entry.0;
    functions = entered.entry.1.0;
    literals = map literal_row w.literals;
    instances = w.instances;
    statics = w.statics;
    placed = w.placed;
    tags = entered.entry.1.1;
    declarations = w.declarations;
  }

  tables_whole : whole_unit tables_of ≡ w
  tables_whole =
      ap (λ (cs : List Completed). record (whole_unit tables_of) { completed = cs }) (completed.is entered.behind entered.filled)
      ∙ ap (λ (p : List TypedObject × (List TypedFunction × List Ty)). record (whole_unit tables_of) { completed = w.completed; objects = p.0; functions = p.1.0; tags = p.1.1 }) (entered.is entered.behind (filled_same entered.behind))
      ∙ ap (λ (ls : List Literal). record w { literals = ls }) (literals_read w.literals)

  -- tables that stand for the unit
  pub has_tables : (u : Stored) × (whole_unit u ≡ w)
  has_tables = (tables_of, tables_whole)
