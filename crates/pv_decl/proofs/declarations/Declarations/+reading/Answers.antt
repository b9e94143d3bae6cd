use Rattle.std.proofs.Common.{◌≡◌, ◌∙◌, ◌+◌, ◌≤◌, ℕ, Option, Result, List, IfOk, sym, ap, drop, length, arith, refl, subst}
use Rattle.std.proofs.lemmas.Result.{IfOk-from_err}
use Rattle.pv_token.specs.declared.token_table.Token.{Token}
use Rattle.pv_tree.specs.declared.nodes.NodeId.{NodeId}
use Rattle.pv_tree.specs.Places.{Place}
use Rattle.pv_tree.specs.Syntax.{Composite, Enumeration, OfSpecifier, Trees, NoTrees}
use Rattle.pv_tree.specs.Tables.{Tables, trees_of, tree_at, is_declaration, is_declarator, is_specifier}
use Rattle.pv_tree.proofs.Kept.{extends_same, extends_then}
use Rattle.pv_decl_forms.specs.declared.forms.Part.{Part}
use Rattle.pv_decl_forms.specs.declared.forms.Part.TheVariants as part
use Rattle.pv_decl_forms.specs.Answers.{Answers}
use Rattle.pv_decl_forms.specs.Declarators.{longest_declarator, longer_declarator}
use Rattle.pv_decl_forms.specs.Parts.{kind_of_part, place_of_part, word_of_composite, word_of_tag, within}
use Rattle.pv_decl_forms.specs.Pieces.{Piece, row, comma_list}
use Rattle.pv_decl_forms.specs.Reader.{listed_in_braces, row_in_braces, readers}
use Rattle.pv_decl_forms.proofs.Answered.{moved, nothing, got}
use Rattle.pv_decl_forms.proofs.Bracing.{specifier_end, specifier_plain, specifier_tagged, tagged_braced, tagged_alone, no_brace, no_depth, enumerators_in, members_in}
use Rattle.pv_decl_forms.proofs.Growing.{head_end, head_other, head_named, head_star, head_paren, head_bracket, named_in, pointer_is, opened_function, opened_not, opened_within, longer_not, longer_end, longer_none, longer_other, longer_bracket, longer_paren, some_kept, all_as, parametrized_is, grew, grew_out, no_declarators, declarator_none, declarator_some}
use Rattle.pv_decl_forms.proofs.Loops.{at_start, no_parts, start_row, start_list, all_kept}
use Rattle.pv_decl_forms.proofs.Members.{counted, no_parameters, member_ends, member_goes, parameter_ends, parameter_goes}
use Rattle.pv_decl_forms.proofs.Steps.{longer_goes, grown_next}
use Rattle.pv_decl.specs.Filled.{list_map}
use Rattle.pv_decl.proofs.Givens.{given_kept}
use Rattle.pv_decl.proofs.Looping.{forward, past_comma, row_done, row_turn, list_done, list_stop, list_turn}
use Rattle.pv_expr_forms.specs.Sources.{known_names}
use Rattle.pv_decl.proofs.declarations.Declarations.+reading.Invariants.{height}
use Rattle.pv_decl.proofs.declarations.Declarations.+reading.Goals as goal

-- ---- a part

as_part : {E : Type 0} (p q : Part) → p ≡ q → (result : Result (Option (NodeId × ℕ)) E) (u : Tables) (tokens : List Token) (reading : Place → Piece)
    → IfOk result (λ r. Answers u (kind_of_part q) tokens r (reading (place_of_part q))) → IfOk result (λ r. Answers u (kind_of_part p) tokens r (reading (place_of_part p)))
as_part p q e result u tokens reading h = subst (λ (x : Part). IfOk result (λ r. Answers u (kind_of_part x) tokens r (reading (place_of_part x)))) (sym e) h

pub read-returns-in-Specifier : goal.read-returns-in-Specifier
read-returns-in-Specifier g t c = record {
  keeps = c.specifier.ensures.keeps;
  answer =
      as_part c.args.part part.Specifier c.in-Specifier.is _ c.specifier.new.into c.args.self.now.source.tokens.now.tokens (λ place. readers (known_names g.R.TypeReader.types c.args.self.now.source c.args.into.now) c.args.depth place (drop c.args.at c.args.self.now.source.tokens.now.tokens)) c.specifier.ensures.answer;
}

pub read-returns-in-Member : goal.read-returns-in-Member
read-returns-in-Member g t c = record {
  keeps = c.member.ensures.keeps;
  answer =
      as_part c.args.part part.Member c.in-Member.is _ c.member.new.into c.args.self.now.source.tokens.now.tokens (λ place. readers (known_names g.R.TypeReader.types c.args.self.now.source c.args.into.now) c.args.depth place (drop c.args.at c.args.self.now.source.tokens.now.tokens)) c.member.ensures.answer;
}

pub read-returns-in-Enumerator : goal.read-returns-in-Enumerator
read-returns-in-Enumerator g t c = record {
  keeps = c.enumerator.ensures.keeps;
  answer =
      as_part c.args.part part.Enumerator c.in-Enumerator.is _ c.enumerator.new.into c.args.self.now.source.tokens.now.tokens (λ place. readers (known_names g.R.TypeReader.types c.args.self.now.source c.args.into.now) c.args.depth place (drop c.args.at c.args.self.now.source.tokens.now.tokens)) c.enumerator.ensures.answer;
}

pub read-returns-in-Parameter : goal.read-returns-in-Parameter
read-returns-in-Parameter g t c = record {
  keeps = c.parameter.ensures.keeps;
  answer =
      as_part c.args.part part.Parameter c.in-Parameter.is _ c.parameter.new.into c.args.self.now.source.tokens.now.tokens (λ place. readers (known_names g.R.TypeReader.types c.args.self.now.source c.args.into.now) c.args.depth place (drop c.args.at c.args.self.now.source.tokens.now.tokens)) c.parameter.ensures.answer;
}

pub read-returns-in-Declarator : goal.read-returns-in-Declarator
read-returns-in-Declarator g t c = record {
  keeps = c.declarator.ensures.keeps;
  answer =
      as_part c.args.part (part.Declarator c.in-Declarator.form) c.in-Declarator.is _ c.declarator.new.into c.args.self.now.source.tokens.now.tokens (λ place. readers (known_names g.R.TypeReader.types c.args.self.now.source c.args.into.now) c.args.depth place (drop c.args.at c.args.self.now.source.tokens.now.tokens)) c.declarator.ensures.answer;
}

-- ---- parts in a row

pub row-loop-parts-init : goal.row-loop-parts-init
row-loop-parts-init g t c = record {
  nodes = no_parts (kind_of_part c.args.part) c.args.into.now _ c.new-parts.ensures.items;
  place = c.requires.place;
  keeps = extends_same _;
  tied = c.requires.tied;
  same = start_row _ c.args.into.now _ _ c.new-parts.ensures.items;
}

pub row-returns-in_default : goal.row-returns-in_default
row-returns-in_default g t c = record {
  keeps = extends_then _ _ _ c.loop-parts.invariant.keeps c.read.ensures.keeps;
  answer =
      row_done (list_map c.args.self.now.lists.now) c.args.self.now.source.typedefs.now (g.R.TypeReader.types c.args.self.now.source.reader.now) c.args.into.now c.loop-parts.into c.read.new.into c.args.self.now.source.tokens.now.tokens c.requires.tied c.loop-parts.invariant.keeps c.read.ensures.keeps (kind_of_part c.args.part) c.args.depth (place_of_part c.args.part) c.loop-parts.parts.items c.loop-parts.invariant.nodes c.loop-parts.next c.loop-parts.invariant.place c.in_ok-found.field-0 c.in_ok-found.ensures.answer (row (readers (known_names g.R.TypeReader.types c.args.self.now.source c.args.into.now) c.args.depth (place_of_part c.args.part)) NoTrees (drop c.args.at c.args.self.now.source.tokens.now.tokens)) c.loop-parts.invariant.same c.in_default.is;
}

pub row-loop-parts-smaller : goal.row-loop-parts-smaller
row-loop-parts-smaller g t c =
    let end : c.in-Some.end ≤ length c.args.self.now.source.tokens.now.tokens = (got c.read.new.into (kind_of_part c.args.part) c.args.self.now.source.tokens.now.tokens c.in_ok-found.field-0 _ c.in-Some.found c.in-Some.end c.in_ok-found.ensures.answer c.in-Some.is).2 in
    omega (arith, forward (list_map c.args.self.now.lists.now) c.args.self.now.source.typedefs.now (g.R.TypeReader.types c.args.self.now.source.reader.now) c.args.into.now c.loop-parts.into c.read.new.into c.args.self.now.source.tokens.now.tokens c.requires.tied c.loop-parts.invariant.keeps c.read.ensures.keeps (kind_of_part c.args.part) c.args.depth (place_of_part c.args.part) c.loop-parts.parts.items c.loop-parts.invariant.nodes c.loop-parts.next c.loop-parts.invariant.place c.in_ok-found.field-0 c.in_ok-found.ensures.answer c.in-Some.found c.in-Some.end c.in-Some.is, end)

pub row-loop-parts-preserved : goal.row-loop-parts-preserved
row-loop-parts-preserved g t c = row_turn (list_map c.args.self.now.lists.now) c.args.self.now.source.typedefs.now (g.R.TypeReader.types c.args.self.now.source.reader.now) c.args.into.now c.loop-parts.into c.read.new.into c.args.self.now.source.tokens.now.tokens c.requires.tied c.loop-parts.invariant.keeps c.read.ensures.keeps (kind_of_part c.args.part) c.args.depth (place_of_part c.args.part) c.loop-parts.parts.items c.loop-parts.invariant.nodes c.loop-parts.next c.loop-parts.invariant.place c.in_ok-found.field-0 c.in_ok-found.ensures.answer (row (readers (known_names g.R.TypeReader.types c.args.self.now.source c.args.into.now) c.args.depth (place_of_part c.args.part)) NoTrees (drop c.args.at c.args.self.now.source.tokens.now.tokens)) c.loop-parts.invariant.same c.in-Some.found c.in-Some.end c.in-Some.is c.push.new.self.items c.in_ok-push.ensures.items

-- ---- parts with commas between

pub listed-loop-parts-init : goal.listed-loop-parts-init
listed-loop-parts-init g t c = record {
  nodes = no_parts (kind_of_part c.args.part) c.args.into.now _ c.new-parts.ensures.items;
  place = c.requires.place;
  where_behind = c.requires.place;
  keeps = extends_same _;
  tied = c.requires.tied;
  same = start_list _ c.args.into.now _ _ c.new-parts.ensures.items;
}

pub listed-returns-in_default : goal.listed-returns-in_default
listed-returns-in_default g t c = record {
  keeps = extends_then _ _ _ c.loop-parts.invariant.keeps c.read.ensures.keeps;
  answer =
      list_done (list_map c.args.self.now.lists.now) c.args.self.now.source.typedefs.now (g.R.TypeReader.types c.args.self.now.source.reader.now) c.args.into.now c.loop-parts.into c.read.new.into c.args.self.now.source.tokens.now.tokens c.requires.tied c.loop-parts.invariant.keeps c.read.ensures.keeps (kind_of_part c.args.part) c.args.depth (place_of_part c.args.part) c.loop-parts.parts.items c.loop-parts.invariant.nodes c.loop-parts.next c.loop-parts.invariant.place c.in_ok-found.field-0 c.in_ok-found.ensures.answer c.loop-parts.behind c.loop-parts.invariant.where_behind (comma_list (readers (known_names g.R.TypeReader.types c.args.self.now.source c.args.into.now) c.args.depth (place_of_part c.args.part)) (drop c.args.at c.args.self.now.source.tokens.now.tokens)) c.loop-parts.invariant.same c.in_default.is;
}

pub listed-loop-parts-smaller : goal.listed-loop-parts-smaller
listed-loop-parts-smaller g t c = omega (arith, past_comma (list_map c.args.self.now.lists.now) c.args.self.now.source.typedefs.now (g.R.TypeReader.types c.args.self.now.source.reader.now) c.args.into.now c.loop-parts.into c.read.new.into c.args.self.now.source.tokens.now.tokens c.requires.tied c.loop-parts.invariant.keeps c.read.ensures.keeps (kind_of_part c.args.part) c.args.depth (place_of_part c.args.part) c.loop-parts.parts.items c.loop-parts.invariant.nodes c.loop-parts.next c.loop-parts.invariant.place c.in_ok-found.field-0 c.in_ok-found.ensures.answer c.in-Some.found c.in-Some.end c.in-Some.is c.in-Some-after.following c.in-Some-after.ensures.1 c.in-Some-after.ensures.0, c.in-Some-after.ensures.1)

pub listed-loop-parts-preserved : goal.listed-loop-parts-preserved
listed-loop-parts-preserved g t c = list_turn (list_map c.args.self.now.lists.now) c.args.self.now.source.typedefs.now (g.R.TypeReader.types c.args.self.now.source.reader.now) c.args.into.now c.loop-parts.into c.read.new.into c.args.self.now.source.tokens.now.tokens c.requires.tied c.loop-parts.invariant.keeps c.read.ensures.keeps (kind_of_part c.args.part) c.args.depth (place_of_part c.args.part) c.loop-parts.parts.items c.loop-parts.invariant.nodes c.loop-parts.next c.loop-parts.invariant.place c.in_ok-found.field-0 c.in_ok-found.ensures.answer c.loop-parts.behind c.loop-parts.invariant.where_behind (comma_list (readers (known_names g.R.TypeReader.types c.args.self.now.source c.args.into.now) c.args.depth (place_of_part c.args.part)) (drop c.args.at c.args.self.now.source.tokens.now.tokens)) c.loop-parts.invariant.same c.in-Some.found c.in-Some.end c.in-Some.is c.push.new.self.items c.in_ok-push.ensures.items c.in-Some-after.following c.in-Some-after.ensures.0 c.in-Some-after.ensures.1

pub listed-returns-in-None : goal.listed-returns-in-None
listed-returns-in-None g t c = record {
  keeps = extends_then _ _ _ c.loop-parts.invariant.keeps c.read.ensures.keeps;
  answer =
      list_stop (list_map c.args.self.now.lists.now) c.args.self.now.source.typedefs.now (g.R.TypeReader.types c.args.self.now.source.reader.now) c.args.into.now c.loop-parts.into c.read.new.into c.args.self.now.source.tokens.now.tokens c.requires.tied c.loop-parts.invariant.keeps c.read.ensures.keeps (kind_of_part c.args.part) c.args.depth (place_of_part c.args.part) c.loop-parts.parts.items c.loop-parts.invariant.nodes c.loop-parts.next c.loop-parts.invariant.place c.in_ok-found.field-0 c.in_ok-found.ensures.answer c.loop-parts.behind c.loop-parts.invariant.where_behind (comma_list (readers (known_names g.R.TypeReader.types c.args.self.now.source c.args.into.now) c.args.depth (place_of_part c.args.part)) (drop c.args.at c.args.self.now.source.tokens.now.tokens)) c.loop-parts.invariant.same c.in-Some.found c.in-Some.end c.in-Some.is c.push.new.self.items c.in_ok-push.ensures.items c.in-None.ensures;
}

-- ---- specifiers

pub specifier-returns-in_default : goal.specifier-returns-in_default
specifier-returns-in_default g t c = record {
  keeps = extends_same _;
  answer = nothing _ _ _ _ (specifier_end (known_names g.R.TypeReader.types c.args.self.now.source c.args.into.now) c.args.depth _ c.in_default.ensures);
}

pub specifier-returns-in_default-tag_word : goal.specifier-returns-in_default-tag_word
specifier-returns-in_default-tag_word g t c = record {
  keeps = c.plain.ensures.keeps;
  answer =
      moved _ _ _ _ _ _ (specifier_plain c.args.self.now.source.typedefs.now (g.R.TypeReader.types c.args.self.now.source.reader.now) c.args.into.now c.args.self.now.source.tokens.now.tokens c.args.depth _ c.in-Some.token _ c.in-Some.ensures.0 (sym c.in_default-tag_word.ensures)) c.plain.ensures.ok;
}

pub specifier-returns-in-Some-2 : goal.specifier-returns-in-Some-2
specifier-returns-in-Some-2 g t c = record {
  keeps = c.braced.ensures.keeps;
  answer =
      let a = tagged_braced c.braced.new.into c.args.self.now.source.tokens.now.tokens (within (known_names g.R.TypeReader.types c.args.self.now.source c.args.into.now) c.args.depth) c.in-Some.token.line (word_of_tag c.in-Some-tag_word.word) (drop (c.args.at + 1) c.args.self.now.source.tokens.now.tokens) c.tag_at-tag.result.0 (drop c.tag_at-tag.result.1 c.args.self.now.source.tokens.now.tokens) c.tag_at-tag.ensures.is c.in_ok-found.field-0 c.in_ok-found.ensures.answer c.in-Some-2.found c.in-Some-2.is in
      record {
        is = a.is ∙ specifier_tagged (known_names g.R.TypeReader.types c.args.self.now.source c.args.into.now) c.args.depth _ c.in-Some.token _ c.in-Some.ensures.0 c.in-Some-tag_word.word (sym c.in-Some-tag_word.ensures);
        there = a.there;
      };
}

pub specifier-returns-in-None : goal.specifier-returns-in-None
specifier-returns-in-None g t c = record {
  keeps = extends_then _ _ _ c.braced.ensures.keeps c.tag_alone.ensures.keeps;
  answer =
      moved _ _ _ _ _ _ (tagged_alone c.braced.new.into c.args.self.now.source.tokens.now.tokens (within (known_names g.R.TypeReader.types c.args.self.now.source c.args.into.now) c.args.depth) c.in-Some.token.line (word_of_tag c.in-Some-tag_word.word) (drop (c.args.at + 1) c.args.self.now.source.tokens.now.tokens) c.tag_at-tag.result.0 (drop c.tag_at-tag.result.1 c.args.self.now.source.tokens.now.tokens) c.tag_at-tag.ensures.is c.in_ok-found.field-0 c.in_ok-found.ensures.answer c.in-None.is
      ∙ specifier_tagged (known_names g.R.TypeReader.types c.args.self.now.source c.args.into.now) c.args.depth _ c.in-Some.token _ c.in-Some.ensures.0 c.in-Some-tag_word.word (sym c.in-Some-tag_word.ensures)) c.tag_alone.ensures.ok;
}

pub braced-returns-in_default : goal.braced-returns-in_default
braced-returns-in_default g t c = record {
  keeps = extends_same _;
  answer =
      nothing _ _ _ _ (no_brace (known_names g.R.TypeReader.types c.args.self.now.source c.args.into.now) c.args.depth c.args.line c.args.word c.args.tag (drop c.args.at c.args.self.now.source.tokens.now.tokens) c.in_default.ensures);
}

pub braced-returns-then-depth-eq0 : goal.braced-returns-then-depth-eq0
braced-returns-then-depth-eq0 g t c = record {
  keeps = extends_same _;
  answer =
      nothing _ _ _ _ (no_depth (known_names g.R.TypeReader.types c.args.self.now.source c.args.into.now) c.args.depth c.args.line c.args.word c.args.tag (drop c.args.at c.args.self.now.source.tokens.now.tokens) (drop c.in-Some.inside c.args.self.now.source.tokens.now.tokens) c.in-Some.ensures.0 c.if-depth-eq0.true);
}

pub braced-returns-in_ok-enumerators-in-Enum : goal.braced-returns-in_ok-enumerators-in-Enum
braced-returns-in_ok-enumerators-in-Enum g t c = record {
  keeps = extends_then _ _ _ c.listed.ensures.keeps c.enumeration.ensures.keeps;
  answer =
      moved _ _ _ _ _ _ (ap (listed_in_braces (λ trees comma. OfSpecifier (Enumeration c.args.line c.args.tag trees comma))) (ap (λ (ns : List NodeId). let x : Trees × List Token = (trees_of c.listed.new.into.forest ns, drop c.in_ok-enumerators-in-Enum.end c.args.self.now.source.tokens.now.tokens) in x) c.deref.ensures.value ∙ c.in_ok-enumerators-in-Enum.ensures.answer.is)
      ∙ enumerators_in (known_names g.R.TypeReader.types c.args.self.now.source c.args.into.now) c.args.depth c.args.line c.args.word c.args.tag (drop c.args.at c.args.self.now.source.tokens.now.tokens) (drop c.in-Some.inside c.args.self.now.source.tokens.now.tokens) c.in-Some.ensures.0 (omega arith) c.in-Enum.is) c.enumeration.ensures.ok;
}

pub braced-returns-in_ok-members-in-Composite : goal.braced-returns-in_ok-members-in-Composite
braced-returns-in_ok-members-in-Composite g t c = record {
  keeps = extends_then _ _ _ c.row.ensures.keeps c.composite.ensures.keeps;
  answer =
      moved _ _ _ _ _ _ (ap (row_in_braces (λ trees. OfSpecifier (Composite c.args.line (word_of_composite c.in-Composite.composite_word) c.args.tag trees))) (ap (λ (ns : List NodeId). let x : Trees × List Token = (trees_of c.row.new.into.forest ns, drop c.in_ok-members-in-Composite.end c.args.self.now.source.tokens.now.tokens) in x) c.deref-in-Composite.ensures.value ∙ c.in_ok-members-in-Composite.ensures.answer.is)
      ∙ members_in (known_names g.R.TypeReader.types c.args.self.now.source c.args.into.now) c.args.depth c.args.line c.args.word c.args.tag (drop c.args.at c.args.self.now.source.tokens.now.tokens) (drop c.in-Some.inside c.args.self.now.source.tokens.now.tokens) c.in-Some.ensures.0 (omega arith) c.in-Composite.composite_word c.in-Composite.is) c.composite.ensures.ok;
}

pub braced-enumeration-requires-clause-enumerators : goal.braced-enumeration-requires-clause-enumerators
braced-enumeration-requires-clause-enumerators g t c = all_as c.listed.new.into is_declaration _ _ c.deref.ensures.value c.in_ok-enumerators-in-Enum.ensures.answer.there

pub braced-composite-requires-clause-members : goal.braced-composite-requires-clause-members
braced-composite-requires-clause-members g t c = all_as c.row.new.into is_declaration _ _ c.deref-in-Composite.ensures.value c.in_ok-members-in-Composite.ensures.answer.there

-- ---- members and parameters

pub member-returns-then-is_empty : goal.member-returns-then-is_empty
member-returns-then-is_empty g t c = record {
  keeps = c.row.ensures.keeps;
  answer =
      nothing _ _ _ _ (member_ends c.args.self.now.source.typedefs.now (g.R.TypeReader.types c.args.self.now.source.reader.now) c.args.into.now c.row.new.into c.args.self.now.source.tokens.now.tokens c.requires.tied.tied c.row.ensures.keeps c.args.depth c.args.at c.in_ok-specs.specs.items c.in_ok-specs.next c.in_ok-specs.ensures.answer (counted _ _ _ _ c.in_ok-specs.specs.ok.0 c.is_empty.ensures c.if-is_empty.true));
}

pub member-returns : goal.member-returns
member-returns g t c = record {
  keeps = extends_then _ _ _ (extends_then _ _ _ c.row.ensures.keeps c.listed.ensures.keeps) c.member_of.ensures.keeps;
  answer =
      moved _ _ _ _ _ _ (member_goes c.args.self.now.source.typedefs.now (g.R.TypeReader.types c.args.self.now.source.reader.now) c.args.into.now c.row.new.into c.args.self.now.source.tokens.now.tokens c.requires.tied.tied c.row.ensures.keeps c.args.depth c.args.at c.in_ok-specs.specs.items c.in_ok-specs.next c.in_ok-specs.ensures.answer (counted _ _ _ _ c.in_ok-specs.specs.ok.0 c.is_empty.ensures c.if-is_empty.false) c.listed.new.into c.listed.ensures.keeps c.line_at-line.result c.line_at-line.ensures c.in_ok-declarators.declarators.items c.in_ok-declarators.end c.in_ok-declarators.ensures.answer c.deref.result.now c.deref-2.result.now c.deref.ensures.value c.deref-2.ensures.value) c.member_of.ensures.ok;
}

pub member-member_of-requires-clause-specs : goal.member-member_of-requires-clause-specs
member-member_of-requires-clause-specs g t c = all_as c.listed.new.into is_specifier _ _ c.deref.ensures.value (all_kept is_specifier c.row.new.into c.listed.new.into c.listed.ensures.keeps _ c.in_ok-specs.ensures.answer.there)

pub member-member_of-requires-clause-declarators : goal.member-member_of-requires-clause-declarators
member-member_of-requires-clause-declarators g t c = all_as c.listed.new.into is_declarator _ _ c.deref-2.ensures.value c.in_ok-declarators.ensures.answer.there

pub parameter-returns-then-depth-eq0 : goal.parameter-returns-then-depth-eq0
parameter-returns-then-depth-eq0 g t c = record {
  keeps = extends_same _;
  answer =
      nothing _ _ _ _ (no_parameters (known_names g.R.TypeReader.types c.args.self.now.source c.args.into.now) c.args.depth (drop c.args.at c.args.self.now.source.tokens.now.tokens) c.if-depth-eq0.true);
}

pub parameter-returns-then-is_empty : goal.parameter-returns-then-is_empty
parameter-returns-then-is_empty g t c = record {
  keeps = c.row.ensures.keeps;
  answer =
      nothing _ _ _ _ (parameter_ends c.args.self.now.source.typedefs.now (g.R.TypeReader.types c.args.self.now.source.reader.now) c.args.into.now c.row.new.into c.args.self.now.source.tokens.now.tokens c.requires.tied.tied c.row.ensures.keeps c.args.depth c.args.at c.in_ok-specs.specs.items c.in_ok-specs.next (omega arith) c.in_ok-specs.ensures.answer (counted _ _ _ _ c.in_ok-specs.specs.ok.0 c.is_empty.ensures c.if-is_empty.true));
}

pub parameter-returns : goal.parameter-returns
parameter-returns g t c = record {
  keeps = extends_then _ _ _ (extends_then _ _ _ c.row.ensures.keeps c.read.ensures.keeps) c.parameter_of.ensures.keeps;
  answer =
      moved _ _ _ _ _ _ (parameter_goes c.args.self.now.source.typedefs.now (g.R.TypeReader.types c.args.self.now.source.reader.now) c.args.into.now c.row.new.into c.args.self.now.source.tokens.now.tokens c.requires.tied.tied c.row.ensures.keeps c.args.depth c.args.at c.in_ok-specs.specs.items c.in_ok-specs.next (omega arith) c.in_ok-specs.ensures.answer (counted _ _ _ _ c.in_ok-specs.specs.ok.0 c.is_empty.ensures c.if-is_empty.false) c.read.new.into c.read.ensures.keeps c.line_at-line.result c.line_at-line.ensures c.in_ok-declarator.declarator c.in_ok-declarator.ensures.answer c.deref.result.now c.deref.ensures.value) c.parameter_of.ensures.ok;
}

pub parameter-parameter_of-requires-clause-specs : goal.parameter-parameter_of-requires-clause-specs
parameter-parameter_of-requires-clause-specs g t c = all_as c.read.new.into is_specifier _ _ c.deref.ensures.value (all_kept is_specifier c.row.new.into c.read.new.into c.read.ensures.keeps _ c.in_ok-specs.ensures.answer.there)

pub parameter-parameter_of-requires-clause-declarator : goal.parameter-parameter_of-requires-clause-declarator
parameter-parameter_of-requires-clause-declarator g t c = c.in_ok-declarator.ensures.answer.there

-- ---- declarators

pub declarator-returns-then-depth-eq0 : goal.declarator-returns-then-depth-eq0
declarator-returns-then-depth-eq0 g t c = record {
  keeps = extends_same _;
  answer =
      nothing _ _ _ _ (no_declarators (known_names g.R.TypeReader.types c.args.self.now.source c.args.into.now) c.args.depth c.args.form (drop c.args.at c.args.self.now.source.tokens.now.tokens) c.if-depth-eq0.true);
}

pub declarator-returns-in-None : goal.declarator-returns-in-None
declarator-returns-in-None g t c = record {
  keeps = c.head.ensures.keeps;
  answer =
      nothing _ _ _ _ (declarator_none c.args.self.now.source.typedefs.now (g.R.TypeReader.types c.args.self.now.source.reader.now) c.args.into.now c.head.new.into c.args.self.now.source.tokens.now.tokens c.requires.tied.tied c.head.ensures.keeps c.args.depth c.args.at c.args.form (omega arith) c.in_ok-first.field-0 c.in_ok-first.ensures.answer c.in-None.is);
}

pub declarator-returns-in-Some : goal.declarator-returns-in-Some
declarator-returns-in-Some g t c = record {
  keeps = extends_then _ _ _ c.head.ensures.keeps c.grow.ensures.keeps;
  answer =
      moved _ _ _ _ _ _ (declarator_some c.args.self.now.source.typedefs.now (g.R.TypeReader.types c.args.self.now.source.reader.now) c.args.into.now c.head.new.into c.args.self.now.source.tokens.now.tokens c.requires.tied.tied c.head.ensures.keeps c.args.depth c.args.at c.args.form (omega arith) c.in_ok-first.field-0 c.in_ok-first.ensures.answer c.in-Some.first c.in-Some.next c.line_at-line.result c.in-Some.is c.line_at-line.ensures) c.grow.ensures.answer;
}

-- ---- growth

pub grow-loop-longer-init : goal.grow-loop-longer-init
grow-loop-longer-init g t c = record { node = c.requires.node; place = c.requires.ready.place; keeps = extends_same _; tied = c.requires.ready.tied; same = refl }

pub grow-loop-longer-smaller : goal.grow-loop-longer-smaller
grow-loop-longer-smaller g t c =
    let e = grew (readers (known_names g.R.TypeReader.types c.args.self.now.source c.loop-longer.into) c.args.below) c.args.below c.args.line c.loop-longer.into c.extend.new.into c.args.self.now.source.tokens.now.tokens c.loop-longer.left c.loop-longer.next c.in_ok-longer.field-0 c.in_ok-longer.ensures.answer c.in-Some.longer c.in-Some.end c.in-Some.is in
    let s = longer_goes (readers (known_names g.R.TypeReader.types c.args.self.now.source c.loop-longer.into) c.args.below) c.args.below c.args.line (tree_at c.loop-longer.into.forest c.loop-longer.left) (drop c.loop-longer.next c.args.self.now.source.tokens.now.tokens) (tree_at c.extend.new.into.forest c.in-Some.longer) (drop c.in-Some.end c.args.self.now.source.tokens.now.tokens) e in
    omega (arith, s.grows, s.was_shallow)

pub grow-loop-longer-preserved : goal.grow-loop-longer-preserved
grow-loop-longer-preserved g t c =
    let a = at_start c.args.self.now.source.typedefs.now (g.R.TypeReader.types c.args.self.now.source.reader.now) c.args.into.now c.loop-longer.into c.extend.new.into c.args.self.now.source.tokens.now.tokens c.requires.ready.tied.tied c.loop-longer.invariant.keeps is_declarator c.in_ok-longer.field-0 (λ n. longer_declarator (readers n c.args.below) c.args.below c.args.line (tree_at c.loop-longer.into.forest c.loop-longer.left) (drop c.loop-longer.next c.args.self.now.source.tokens.now.tokens)) c.in_ok-longer.ensures.answer in
    let h = got c.extend.new.into is_declarator c.args.self.now.source.tokens.now.tokens c.in_ok-longer.field-0 _ c.in-Some.longer c.in-Some.end a c.in-Some.is in
    let e = grew (readers (known_names g.R.TypeReader.types c.args.self.now.source c.args.into.now) c.args.below) c.args.below c.args.line c.loop-longer.into c.extend.new.into c.args.self.now.source.tokens.now.tokens c.loop-longer.left c.loop-longer.next c.in_ok-longer.field-0 a c.in-Some.longer c.in-Some.end c.in-Some.is in
    let keeps = extends_then c.args.into.now c.loop-longer.into c.extend.new.into c.loop-longer.invariant.keeps c.extend.ensures.keeps in
    record {
      node = h.1;
      place = h.2;
      keeps = keeps;
      tied = given_kept (list_map c.args.self.now.lists.now) c.args.self.now.source.typedefs.now (g.R.TypeReader.types c.args.self.now.source.reader.now) c.args.into.now c.extend.new.into c.args.self.now.source.tokens.now.tokens c.requires.ready.tied keeps;
      same = sym (grown_next (readers (known_names g.R.TypeReader.types c.args.self.now.source c.args.into.now) c.args.below) c.args.below c.args.line (tree_at c.loop-longer.into.forest c.loop-longer.left) (drop c.loop-longer.next c.args.self.now.source.tokens.now.tokens) (tree_at c.extend.new.into.forest c.in-Some.longer) (drop c.in-Some.end c.args.self.now.source.tokens.now.tokens) e) ∙ c.loop-longer.invariant.same;
    }

pub grow-returns-in-None : goal.grow-returns-in-None
grow-returns-in-None g t c = record {
  keeps = extends_then _ _ _ c.loop-longer.invariant.keeps c.extend.ensures.keeps;
  answer =
      let a = at_start c.args.self.now.source.typedefs.now (g.R.TypeReader.types c.args.self.now.source.reader.now) c.args.into.now c.loop-longer.into c.extend.new.into c.args.self.now.source.tokens.now.tokens c.requires.ready.tied.tied c.loop-longer.invariant.keeps is_declarator c.in_ok-longer.field-0 (λ n. longer_declarator (readers n c.args.below) c.args.below c.args.line (tree_at c.loop-longer.into.forest c.loop-longer.left) (drop c.loop-longer.next c.args.self.now.source.tokens.now.tokens)) c.in_ok-longer.ensures.answer in
      grew_out (readers (known_names g.R.TypeReader.types c.args.self.now.source c.args.into.now) c.args.below) c.args.below c.args.line c.loop-longer.into c.extend.new.into c.args.self.now.source.tokens.now.tokens c.loop-longer.left c.loop-longer.next c.in_ok-longer.field-0 a
      (longest_declarator (readers (known_names g.R.TypeReader.types c.args.self.now.source c.args.into.now) c.args.below) c.args.below c.args.line (tree_at c.args.into.now.forest c.args.first) (drop c.args.at c.args.self.now.source.tokens.now.tokens))
      c.in-None.is c.extend.ensures.keeps c.loop-longer.invariant.node c.loop-longer.invariant.place c.loop-longer.invariant.same;
}

pub extend-returns-then-not-may_go_on : goal.extend-returns-then-not-may_go_on
extend-returns-then-not-may_go_on g t c = record {
  keeps = extends_same _;
  answer =
      nothing _ _ _ _ (longer_not (readers (known_names g.R.TypeReader.types c.args.self.now.source c.args.into.now) c.args.below) c.args.below c.args.line (tree_at c.args.into.now.forest c.args.left) (drop c.args.at c.args.self.now.source.tokens.now.tokens) (sym c.may_go_on.ensures ∙ c.if-not-may_go_on.true));
}

pub extend-returns-in_default : goal.extend-returns-in_default
extend-returns-in_default g t c = record {
  keeps = extends_same _;
  answer =
      nothing _ _ _ _ (longer_end (readers (known_names g.R.TypeReader.types c.args.self.now.source c.args.into.now) c.args.below) c.args.below c.args.line (tree_at c.args.into.now.forest c.args.left) (drop c.args.at c.args.self.now.source.tokens.now.tokens) c.in_default.ensures);
}

pub extend-returns-in_default-opening_of : goal.extend-returns-in_default-opening_of
extend-returns-in_default-opening_of g t c = record {
  keeps = extends_same _;
  answer =
      nothing _ _ _ _ (longer_none (readers (known_names g.R.TypeReader.types c.args.self.now.source c.args.into.now) c.args.below) c.args.below c.args.line (tree_at c.args.into.now.forest c.args.left) (sym c.may_go_on.ensures ∙ c.if-not-may_go_on.false) (drop c.args.at c.args.self.now.source.tokens.now.tokens) c.in-Some.token (drop (c.args.at + 1) c.args.self.now.source.tokens.now.tokens) c.in-Some.ensures.0 (sym c.in_default-opening_of.ensures));
}

pub extend-returns-in-Bracket : goal.extend-returns-in-Bracket
extend-returns-in-Bracket g t c = record {
  keeps = c.array.ensures.keeps;
  answer =
      moved _ _ _ _ _ _ (longer_bracket (readers (known_names g.R.TypeReader.types c.args.self.now.source c.args.into.now) c.args.below) c.args.below c.args.line (tree_at c.args.into.now.forest c.args.left) (sym c.may_go_on.ensures ∙ c.if-not-may_go_on.false) (drop c.args.at c.args.self.now.source.tokens.now.tokens) c.in-Some.token (drop (c.args.at + 1) c.args.self.now.source.tokens.now.tokens) c.in-Some.ensures.0 c.in-Some-opening_of.opening (sym c.in-Some-opening_of.ensures) c.in-Bracket.is) c.array.ensures.answer;
}

pub extend-returns-in-Paren : goal.extend-returns-in-Paren
extend-returns-in-Paren g t c = record {
  keeps = c.parameters.ensures.keeps;
  answer =
      moved _ _ _ _ _ _ (longer_paren (readers (known_names g.R.TypeReader.types c.args.self.now.source c.args.into.now) c.args.below) c.args.below c.args.line (tree_at c.args.into.now.forest c.args.left) (sym c.may_go_on.ensures ∙ c.if-not-may_go_on.false) (drop c.args.at c.args.self.now.source.tokens.now.tokens) c.in-Some.token (drop (c.args.at + 1) c.args.self.now.source.tokens.now.tokens) c.in-Some.ensures.0 c.in-Some-opening_of.opening (sym c.in-Some-opening_of.ensures) c.in-Paren.is) c.parameters.ensures.answer;
}

pub extend-returns-in_default-opening : goal.extend-returns-in_default-opening
extend-returns-in_default-opening g t c = record {
  keeps = extends_same _;
  answer =
      nothing _ _ _ _ (longer_other (readers (known_names g.R.TypeReader.types c.args.self.now.source c.args.into.now) c.args.below) c.args.below c.args.line (tree_at c.args.into.now.forest c.args.left) (sym c.may_go_on.ensures ∙ c.if-not-may_go_on.false) (drop c.args.at c.args.self.now.source.tokens.now.tokens) c.in-Some.token (drop (c.args.at + 1) c.args.self.now.source.tokens.now.tokens) c.in-Some.ensures.0 c.in-Some-opening_of.opening (sym c.in-Some-opening_of.ensures) c.in_default-opening.not-Bracket c.in_default-opening.not-Paren);
}

pub parameters-returns : goal.parameters-returns
parameters-returns g t c = record {
  keeps = extends_then _ _ _ c.listed.ensures.keeps c.function_of.ensures.keeps;
  answer =
      moved _ _ _ _ _ _ (parametrized_is c.args.into.now c.listed.new.into c.args.self.now.source.tokens.now.tokens c.args.line c.args.at (readers (known_names g.R.TypeReader.types c.args.self.now.source c.args.into.now) c.args.below) c.args.left c.listed.ensures.keeps c.requires.left c.in_ok-parts.parts.items c.deref.result.now c.in_ok-parts.end c.deref.ensures.value c.in_ok-parts.ensures.answer) c.function_of.ensures.ok;
}

pub parameters-function_of-requires-clause-left : goal.parameters-function_of-requires-clause-left
parameters-function_of-requires-clause-left g t c = some_kept c.args.into.now c.listed.new.into is_declarator c.args.left c.listed.ensures.keeps c.requires.left

pub parameters-function_of-requires-clause-parameters : goal.parameters-function_of-requires-clause-parameters
parameters-function_of-requires-clause-parameters g t c = all_as c.listed.new.into is_declaration _ _ c.deref.ensures.value c.in_ok-parts.ensures.answer.there

-- ---- how one begins

pub head-returns-in_default : goal.head-returns-in_default
head-returns-in_default g t c = record {
  keeps = extends_same _;
  answer =
      nothing _ _ _ _ (head_end (known_names g.R.TypeReader.types c.args.self.now.source c.args.into.now) (readers (known_names g.R.TypeReader.types c.args.self.now.source c.args.into.now) c.args.below) c.args.form (drop c.args.at c.args.self.now.source.tokens.now.tokens) c.in_default.ensures);
}

pub head-returns-in_default-opening_of : goal.head-returns-in_default-opening_of
head-returns-in_default-opening_of g t c = record {
  keeps = extends_same _;
  answer =
      nothing _ _ _ _ (head_other (known_names g.R.TypeReader.types c.args.self.now.source c.args.into.now) (readers (known_names g.R.TypeReader.types c.args.self.now.source c.args.into.now) c.args.below) c.args.form (drop c.args.at c.args.self.now.source.tokens.now.tokens) c.in-Some.token (drop (c.args.at + 1) c.args.self.now.source.tokens.now.tokens) c.in-Some.ensures.0 (sym c.in_default-opening_of.ensures));
}

pub head-returns-in-Name : goal.head-returns-in-Name
head-returns-in-Name g t c = record {
  keeps = c.named.ensures.keeps;
  answer =
      moved _ _ _ _ _ _ (named_in c.args.self.now.source.typedefs.now (g.R.TypeReader.types c.args.self.now.source.reader.now) c.args.into.now c.args.self.now.source.tokens.now.tokens c.args.form c.in-Some.token.line c.in-Name.name (drop (c.args.at + 1) c.args.self.now.source.tokens.now.tokens) ∙ head_named (known_names g.R.TypeReader.types c.args.self.now.source c.args.into.now) (readers (known_names g.R.TypeReader.types c.args.self.now.source c.args.into.now) c.args.below) c.args.form (drop c.args.at c.args.self.now.source.tokens.now.tokens) c.in-Some.token (drop (c.args.at + 1) c.args.self.now.source.tokens.now.tokens) c.in-Some.ensures.0 c.in-Some-opening_of.opening (sym c.in-Some-opening_of.ensures) c.in-Name.name c.in-Name.is) c.named.ensures.ok;
}

pub head-returns-in-Star : goal.head-returns-in-Star
head-returns-in-Star g t c = record {
  keeps = c.pointer.ensures.keeps;
  answer =
      moved _ _ _ _ _ _ (head_star (known_names g.R.TypeReader.types c.args.self.now.source c.args.into.now) (readers (known_names g.R.TypeReader.types c.args.self.now.source c.args.into.now) c.args.below) c.args.form (drop c.args.at c.args.self.now.source.tokens.now.tokens) c.in-Some.token (drop (c.args.at + 1) c.args.self.now.source.tokens.now.tokens) c.in-Some.ensures.0 c.in-Some-opening_of.opening (sym c.in-Some-opening_of.ensures) c.in-Star.is) c.pointer.ensures.answer;
}

pub head-returns-in-Paren : goal.head-returns-in-Paren
head-returns-in-Paren g t c = record {
  keeps = c.opened.ensures.keeps;
  answer =
      moved _ _ _ _ _ _ (head_paren (known_names g.R.TypeReader.types c.args.self.now.source c.args.into.now) (readers (known_names g.R.TypeReader.types c.args.self.now.source c.args.into.now) c.args.below) c.args.form (drop c.args.at c.args.self.now.source.tokens.now.tokens) c.in-Some.token (drop (c.args.at + 1) c.args.self.now.source.tokens.now.tokens) c.in-Some.ensures.0 c.in-Some-opening_of.opening (sym c.in-Some-opening_of.ensures) c.in-Paren.is) c.opened.ensures.answer;
}

pub head-returns-in-Bracket : goal.head-returns-in-Bracket
head-returns-in-Bracket g t c = record {
  keeps = c.abstract_array.ensures.keeps;
  answer =
      moved _ _ _ _ _ _ (head_bracket (known_names g.R.TypeReader.types c.args.self.now.source c.args.into.now) (readers (known_names g.R.TypeReader.types c.args.self.now.source c.args.into.now) c.args.below) c.args.form (drop c.args.at c.args.self.now.source.tokens.now.tokens) c.in-Some.token (drop (c.args.at + 1) c.args.self.now.source.tokens.now.tokens) c.in-Some.ensures.0 c.in-Some-opening_of.opening (sym c.in-Some-opening_of.ensures) c.in-Bracket.is) c.abstract_array.ensures.answer;
}

pub pointer-returns : goal.pointer-returns
pointer-returns g t c = record {
  keeps = extends_then _ _ _ c.read.ensures.keeps c.pointed.ensures.keeps;
  answer =
      moved _ _ _ _ _ _ (pointer_is (readers (known_names g.R.TypeReader.types c.args.self.now.source c.args.into.now) c.args.below) c.args.form c.args.line c.consts_in_row-consts.result.0 (drop c.args.at c.args.self.now.source.tokens.now.tokens) (drop c.consts_in_row-consts.result.1 c.args.self.now.source.tokens.now.tokens) _ c.consts_in_row-consts.ensures.count c.consts_in_row-consts.ensures.behind c.in_ok-inner.ensures.answer.is) c.pointed.ensures.ok;
}

pub pointer-pointed-requires-clause-within : goal.pointer-pointed-requires-clause-within
pointer-pointed-requires-clause-within g t c = c.in_ok-inner.ensures.answer.there

pub opened-returns-then-allows_abstract : goal.opened-returns-then-allows_abstract
opened-returns-then-allows_abstract g t c = record {
  keeps = c.parameters.ensures.keeps;
  answer =
      moved _ _ _ _ _ _ (opened_function (known_names g.R.TypeReader.types c.args.self.now.source c.args.into.now) (readers (known_names g.R.TypeReader.types c.args.self.now.source c.args.into.now) c.args.below) c.args.form c.args.line (drop c.args.at c.args.self.now.source.tokens.now.tokens) (sym (c.opens_parameters.ensures (g.R.TypeReader.types c.args.self.now.source.reader.now) c.args.into.now) ∙ c.if-opens_parameters.true) (sym c.allows_abstract.ensures ∙ c.if-allows_abstract.true)) c.parameters.ensures.answer;
}

pub opened-returns-else-allows_abstract : goal.opened-returns-else-allows_abstract
opened-returns-else-allows_abstract g t c = record {
  keeps = extends_same _;
  answer =
      nothing _ _ _ _ (opened_not (known_names g.R.TypeReader.types c.args.self.now.source c.args.into.now) (readers (known_names g.R.TypeReader.types c.args.self.now.source c.args.into.now) c.args.below) c.args.form c.args.line (drop c.args.at c.args.self.now.source.tokens.now.tokens) (sym (c.opens_parameters.ensures (g.R.TypeReader.types c.args.self.now.source.reader.now) c.args.into.now) ∙ c.if-opens_parameters.true) (sym c.allows_abstract.ensures ∙ c.if-allows_abstract.false));
}

pub opened-returns-in_ok-inner : goal.opened-returns-in_ok-inner
opened-returns-in_ok-inner g t c = record {
  keeps = extends_then _ _ _ c.read.ensures.keeps c.parenthesized.ensures.keeps;
  answer =
      moved _ _ _ _ _ _ (opened_within (known_names g.R.TypeReader.types c.args.self.now.source c.args.into.now) (readers (known_names g.R.TypeReader.types c.args.self.now.source c.args.into.now) c.args.below) c.args.form c.args.line (drop c.args.at c.args.self.now.source.tokens.now.tokens) (sym (c.opens_parameters.ensures (g.R.TypeReader.types c.args.self.now.source.reader.now) c.args.into.now) ∙ c.if-opens_parameters.false) _ c.in_ok-inner.ensures.answer.is) c.parenthesized.ensures.ok;
}

pub opened-parenthesized-requires : goal.opened-parenthesized-requires
opened-parenthesized-requires g t c = c.in_ok-inner.ensures.answer.there

-- ---- calls within the cycle: the measure falls, and what the call requires is there

pub read-specifier-requires : goal.read-specifier-requires
read-specifier-requires g t c = λ κs within. (omega (arith, c.decreases, ap height c.in-Specifier.is), (within, c.requires))

pub read-member-requires : goal.read-member-requires
read-member-requires g t c = λ κs within. (omega (arith, c.decreases, ap height c.in-Member.is), (within, c.requires))

pub read-parameter-requires : goal.read-parameter-requires
read-parameter-requires g t c = λ κs within. (omega (arith, c.decreases, ap height c.in-Parameter.is), (within, c.requires))

pub read-declarator-requires : goal.read-declarator-requires
read-declarator-requires g t c = λ κs within. (omega (arith, c.decreases, ap height c.in-Declarator.is), (within, c.requires))

pub row-read-requires : goal.row-read-requires
row-read-requires g t c = λ κs within. (omega (arith, c.decreases), (within, record { place = c.loop-parts.invariant.place; tied = c.loop-parts.invariant.tied }))

pub listed-read-requires : goal.listed-read-requires
listed-read-requires g t c = λ κs within. (omega (arith, c.decreases), (within, record { place = c.loop-parts.invariant.place; tied = c.loop-parts.invariant.tied }))

pub listed-after-requires : goal.listed-after-requires
listed-after-requires g t c = (got c.read.new.into (kind_of_part c.args.part) c.args.self.now.source.tokens.now.tokens c.in_ok-found.field-0 _ c.in-Some.found c.in-Some.end c.in_ok-found.ensures.answer c.in-Some.is).2

pub specifier-overflow_add-at : goal.specifier-overflow_add-at
specifier-overflow_add-at g t c = record { fits = c.in-Some.ensures.2 }

pub specifier-overflow_add-at-2 : goal.specifier-overflow_add-at-2
specifier-overflow_add-at-2 g t c = record { fits = c.in-Some.ensures.2 }

pub specifier-plain-requires : goal.specifier-plain-requires
specifier-plain-requires g t c = omega (arith, c.in-Some.ensures.1)

pub specifier-braced-requires : goal.specifier-braced-requires
specifier-braced-requires g t c = λ κs within. (omega (arith, c.decreases), (within, record { place = c.tag_at-tag.ensures.place; tied = c.requires.tied }))

pub braced-overflow_sub-depth : goal.braced-overflow_sub-depth
braced-overflow_sub-depth g t c = omega (arith, c.if-depth-eq0.false)

pub braced-overflow_sub-depth-in-Composite : goal.braced-overflow_sub-depth-in-Composite
braced-overflow_sub-depth-in-Composite g t c = omega (arith, c.if-depth-eq0.false)

pub braced-listed-requires : goal.braced-listed-requires
braced-listed-requires g t c = λ κs within. (omega (arith, c.decreases, c.if-depth-eq0.false), (within, record { place = c.in-Some.ensures.1; tied = c.requires.tied }))

pub braced-row-requires : goal.braced-row-requires
braced-row-requires g t c = λ κs within. (omega (arith, c.decreases, c.if-depth-eq0.false), (within, record { place = c.in-Some.ensures.1; tied = c.requires.tied }))

pub member-row-requires : goal.member-row-requires
member-row-requires g t c = λ κs within. (omega (arith, c.decreases), (within, c.requires))

pub member-listed-requires : goal.member-listed-requires
member-listed-requires g t c = λ κs within. (omega (arith, c.decreases), (within, record { place = c.in_ok-specs.ensures.answer.place; tied = (given_kept (list_map c.args.self.now.lists.now) c.args.self.now.source.typedefs.now (g.R.TypeReader.types c.args.self.now.source.reader.now) c.args.into.now c.row.new.into c.args.self.now.source.tokens.now.tokens c.requires.tied c.row.ensures.keeps) }))

pub parameter-overflow_sub-depth : goal.parameter-overflow_sub-depth
parameter-overflow_sub-depth g t c = omega (arith, c.if-depth-eq0.false)

pub parameter-overflow_sub-depth-2 : goal.parameter-overflow_sub-depth-2
parameter-overflow_sub-depth-2 g t c = omega (arith, c.if-depth-eq0.false)

pub parameter-row-requires : goal.parameter-row-requires
parameter-row-requires g t c = λ κs within. (omega (arith, c.decreases, c.if-depth-eq0.false), (within, c.requires))

pub parameter-read-requires : goal.parameter-read-requires
parameter-read-requires g t c = λ κs within. (omega (arith, c.decreases, c.if-depth-eq0.false), (within, record { place = c.in_ok-specs.ensures.answer.place; tied = (given_kept (list_map c.args.self.now.lists.now) c.args.self.now.source.typedefs.now (g.R.TypeReader.types c.args.self.now.source.reader.now) c.args.into.now c.row.new.into c.args.self.now.source.tokens.now.tokens c.requires.tied c.row.ensures.keeps) }))

pub declarator-overflow_sub-depth : goal.declarator-overflow_sub-depth
declarator-overflow_sub-depth g t c = omega (arith, c.if-depth-eq0.false)

pub declarator-overflow_sub-depth-in-Some : goal.declarator-overflow_sub-depth-in-Some
declarator-overflow_sub-depth-in-Some g t c = omega (arith, c.if-depth-eq0.false)

pub declarator-head-requires : goal.declarator-head-requires
declarator-head-requires g t c = λ κs within. (omega (arith, c.decreases, c.if-depth-eq0.false), (within, c.requires))

pub declarator-grow-requires : goal.declarator-grow-requires
declarator-grow-requires g t c = λ κs within. (omega (arith, c.decreases, c.if-depth-eq0.false), (within, (record { place = (got c.head.new.into is_declarator c.args.self.now.source.tokens.now.tokens c.in_ok-first.field-0 _ c.in-Some.first c.in-Some.next c.in_ok-first.ensures.answer c.in-Some.is).2; tied = (given_kept (list_map c.args.self.now.lists.now) c.args.self.now.source.typedefs.now (g.R.TypeReader.types c.args.self.now.source.reader.now) c.args.into.now c.head.new.into c.args.self.now.source.tokens.now.tokens c.requires.tied c.head.ensures.keeps) }, (got c.head.new.into is_declarator c.args.self.now.source.tokens.now.tokens c.in_ok-first.field-0 _ c.in-Some.first c.in-Some.next c.in_ok-first.ensures.answer c.in-Some.is).1)))

pub grow-extend-requires : goal.grow-extend-requires
grow-extend-requires g t c = λ κs within. (omega (arith, c.decreases), (within, (record { place = c.loop-longer.invariant.place; tied = c.loop-longer.invariant.tied }, c.loop-longer.invariant.node)))

pub extend-overflow_add-at : goal.extend-overflow_add-at
extend-overflow_add-at g t c = record { fits = c.in-Some.ensures.2 }

pub extend-overflow_add-at-in-Paren : goal.extend-overflow_add-at-in-Paren
extend-overflow_add-at-in-Paren g t c = record { fits = c.in-Some.ensures.2 }

pub extend-parameters-requires : goal.extend-parameters-requires
extend-parameters-requires g t c = λ κs within. (omega (arith, c.decreases), (within, (record { place = omega (arith, c.in-Some.ensures.1); tied = c.requires.ready.tied }, c.requires.node)))

pub parameters-known_parameters-requires-clause-list : goal.parameters-known_parameters-requires-clause-list
parameters-known_parameters-requires-clause-list g t c = sym c.at.ensures ∙ c.in-Some.is

pub parameters-known_parameters-requires-clause-shallow : goal.parameters-known_parameters-requires-clause-shallow
parameters-known_parameters-requires-clause-shallow g t c = c.if-below-le-DEPTH_LIMIT.true

pub parameters-listed-requires : goal.parameters-listed-requires
parameters-listed-requires g t c = λ κs within. (omega (arith, c.decreases), (within, c.requires.ready))

pub head-overflow_add-next : goal.head-overflow_add-next
head-overflow_add-next g t c = record { fits = c.in-Some.ensures.2 }

pub head-pointer-requires : goal.head-pointer-requires
head-pointer-requires g t c = λ κs within. (omega (arith, c.decreases), (within, record { place = omega (arith, c.in-Some.ensures.1); tied = c.requires.tied }))

pub head-opened-requires : goal.head-opened-requires
head-opened-requires g t c = λ κs within. (omega (arith, c.decreases), (within, record { place = omega (arith, c.in-Some.ensures.1); tied = c.requires.tied }))

pub pointer-read-requires : goal.pointer-read-requires
pointer-read-requires g t c = λ κs within. (omega (arith, c.decreases), (within, record { place = c.consts_in_row-consts.ensures.place; tied = c.requires.tied }))

pub opened-parameters-requires : goal.opened-parameters-requires
opened-parameters-requires g t c = λ κs within. (omega (arith, c.decreases), (within, (c.requires, tt)))

pub opened-read-requires : goal.opened-read-requires
opened-read-requires g t c = λ κs within. (omega (arith, c.decreases), (within, c.requires))

-- ---- where the parts are, and want of memory

pub braced-after-requires : goal.braced-after-requires
braced-after-requires g t c = c.requires.place

pub declarator-line_at-line-requires : goal.declarator-line_at-line-requires
declarator-line_at-line-requires g t c = c.requires.place

pub braced-enumeration-requires-clause-place : goal.braced-enumeration-requires-clause-place
braced-enumeration-requires-clause-place g t c = c.in_ok-enumerators-in-Enum.ensures.answer.place

pub extend-may_go_on-requires : goal.extend-may_go_on-requires
extend-may_go_on-requires g t c = c.requires.node

pub extend-peek-requires : goal.extend-peek-requires
extend-peek-requires g t c = c.requires.ready.place

pub extend-array-requires-clause-ready : goal.extend-array-requires-clause-ready
extend-array-requires-clause-ready g t c = record { place = omega (arith, c.in-Some.ensures.1); tied = c.requires.ready.tied }

pub extend-array-requires-clause-left : goal.extend-array-requires-clause-left
extend-array-requires-clause-left g t c = c.requires.node

pub head-peek-requires : goal.head-peek-requires
head-peek-requires g t c = c.requires.place

pub head-named-requires : goal.head-named-requires
head-named-requires g t c = omega (arith, c.in-Some.ensures.1)

pub head-abstract_array-requires : goal.head-abstract_array-requires
head-abstract_array-requires g t c = record { place = omega (arith, c.in-Some.ensures.1); tied = c.requires.tied }

pub member-line_at-line-requires : goal.member-line_at-line-requires
member-line_at-line-requires g t c = c.requires.place

pub member-member_of-requires-clause-place : goal.member-member_of-requires-clause-place
member-member_of-requires-clause-place g t c = c.in_ok-declarators.ensures.answer.place

pub braced-composite-requires-clause-place : goal.braced-composite-requires-clause-place
braced-composite-requires-clause-place g t c = c.in_ok-members-in-Composite.ensures.answer.place

pub opened-opens_parameters-requires : goal.opened-opens_parameters-requires
opened-opens_parameters-requires g t c = c.requires.place

pub parameter-line_at-line-requires : goal.parameter-line_at-line-requires
parameter-line_at-line-requires g t c = c.requires.place

pub parameter-parameter_of-requires-clause-place : goal.parameter-parameter_of-requires-clause-place
parameter-parameter_of-requires-clause-place g t c = c.in_ok-specs.ensures.answer.place

pub parameters-known_parameters-requires-clause-ready : goal.parameters-known_parameters-requires-clause-ready
parameters-known_parameters-requires-clause-ready g t c = c.requires.ready

pub parameters-known_parameters-requires-clause-left : goal.parameters-known_parameters-requires-clause-left
parameters-known_parameters-requires-clause-left g t c = c.requires.left

pub parameters-returns-in-Some : goal.parameters-returns-in-Some
parameters-returns-in-Some g t c = record {
  keeps = c.known_parameters.ensures.keeps;
  answer = c.known_parameters.ensures.answer;
}

pub pointer-consts_in_row-consts-requires : goal.pointer-consts_in_row-consts-requires
pointer-consts_in_row-consts-requires g t c = c.requires.place

pub pointer-pointed-requires-clause-place : goal.pointer-pointed-requires-clause-place
pointer-pointed-requires-clause-place g t c = c.consts_in_row-consts.ensures.place

pub read-enumerator-requires : goal.read-enumerator-requires
read-enumerator-requires g t c = c.requires

pub specifier-peek-requires : goal.specifier-peek-requires
specifier-peek-requires g t c = c.requires.place

pub specifier-tag_at-tag-requires : goal.specifier-tag_at-tag-requires
specifier-tag_at-tag-requires g t c = omega (arith, c.in-Some.ensures.1)

pub specifier-tag_alone-requires : goal.specifier-tag_alone-requires
specifier-tag_alone-requires g t c = c.tag_at-tag.ensures.place

pub parameters-function_of-requires-clause-place : goal.parameters-function_of-requires-clause-place
parameters-function_of-requires-clause-place g t c = c.in_ok-parts.ensures.answer.place

pub declarator-returns-in_err-first : goal.declarator-returns-in_err-first
declarator-returns-in_err-first g t c = record {
  keeps = c.head.ensures.keeps;
  answer = IfOk-from_err _ _ c.from_residual.ensures.0;
}

pub braced-returns-in_err-enumerators-in-Enum : goal.braced-returns-in_err-enumerators-in-Enum
braced-returns-in_err-enumerators-in-Enum g t c = record {
  keeps = c.listed.ensures.keeps;
  answer = IfOk-from_err _ _ c.from_residual.ensures.0;
}

pub grow-returns-in_err-longer : goal.grow-returns-in_err-longer
grow-returns-in_err-longer g t c = record {
  keeps = extends_then _ _ _ c.loop-longer.invariant.keeps c.extend.ensures.keeps;
  answer = IfOk-from_err _ _ c.from_residual.ensures.0;
}

pub listed-returns-in_err-found : goal.listed-returns-in_err-found
listed-returns-in_err-found g t c = record {
  keeps = extends_then _ _ _ c.loop-parts.invariant.keeps c.read.ensures.keeps;
  answer = IfOk-from_err _ _ c.from_residual.ensures.0;
}

pub listed-returns-in_err-push : goal.listed-returns-in_err-push
listed-returns-in_err-push g t c = record {
  keeps = extends_then _ _ _ c.loop-parts.invariant.keeps c.read.ensures.keeps;
  answer = IfOk-from_err _ _ c.before.from_residual-in_err-push.ensures.0;
}

pub member-returns-in_err-specs : goal.member-returns-in_err-specs
member-returns-in_err-specs g t c = record {
  keeps = c.row.ensures.keeps;
  answer = IfOk-from_err _ _ c.from_residual.ensures.0;
}

pub member-returns-in_err-declarators : goal.member-returns-in_err-declarators
member-returns-in_err-declarators g t c = record {
  keeps = extends_then _ _ _ c.row.ensures.keeps c.listed.ensures.keeps;
  answer = IfOk-from_err _ _ c.from_residual-in_err-declarators.ensures.0;
}

pub braced-returns-in_err-members-in-Composite : goal.braced-returns-in_err-members-in-Composite
braced-returns-in_err-members-in-Composite g t c = record {
  keeps = c.row.ensures.keeps;
  answer = IfOk-from_err _ _ c.from_residual-in_err-members-in-Composite.ensures.0;
}

pub opened-returns-in_err-inner : goal.opened-returns-in_err-inner
opened-returns-in_err-inner g t c = record {
  keeps = c.read.ensures.keeps;
  answer = IfOk-from_err _ _ c.from_residual.ensures.0;
}

pub parameter-returns-in_err-specs : goal.parameter-returns-in_err-specs
parameter-returns-in_err-specs g t c = record {
  keeps = c.row.ensures.keeps;
  answer = IfOk-from_err _ _ c.from_residual.ensures.0;
}

pub parameter-returns-in_err-declarator : goal.parameter-returns-in_err-declarator
parameter-returns-in_err-declarator g t c = record {
  keeps = extends_then _ _ _ c.row.ensures.keeps c.read.ensures.keeps;
  answer = IfOk-from_err _ _ c.from_residual-in_err-declarator.ensures.0;
}

pub pointer-returns-in_err-inner : goal.pointer-returns-in_err-inner
pointer-returns-in_err-inner g t c = record {
  keeps = c.read.ensures.keeps;
  answer = IfOk-from_err _ _ c.from_residual.ensures.0;
}

pub row-returns-in_err-found : goal.row-returns-in_err-found
row-returns-in_err-found g t c = record {
  keeps = extends_then _ _ _ c.loop-parts.invariant.keeps c.read.ensures.keeps;
  answer = IfOk-from_err _ _ c.from_residual.ensures.0;
}

pub row-returns-in_err-push : goal.row-returns-in_err-push
row-returns-in_err-push g t c = record {
  keeps = extends_then _ _ _ c.loop-parts.invariant.keeps c.read.ensures.keeps;
  answer = IfOk-from_err _ _ c.before.from_residual-in_err-push.ensures.0;
}

pub specifier-returns-in_err-found : goal.specifier-returns-in_err-found
specifier-returns-in_err-found g t c = record {
  keeps = c.braced.ensures.keeps;
  answer = IfOk-from_err _ _ c.from_residual.ensures.0;
}

pub parameters-returns-in_err-parts : goal.parameters-returns-in_err-parts
parameters-returns-in_err-parts g t c = record {
  keeps = c.listed.ensures.keeps;
  answer = IfOk-from_err _ _ c.from_residual.ensures.0;
}
