-- Each operation keeps moments alike, whatever numbers the types of its unit have, where both tables lay them out alike (C17 6.5p6).
use Rattle.std.proofs.Common.{◌≡◌, ℕ, Bool, true, false, ◌&&◌, nat_le, None, if◌then◌else◌, refl, sym, subst}
use Rattle.pv_num.specs.Kinds.{fits_of}
use Rattle.pv_types.specs.Layouts.{is_complete_in}
use Rattle.pv_types.specs.Known.{Known, env}
use Rattle.pv_typed.specs.TypedUnits.{layouts}
use Rattle.pv_shadow.specs.Bytes.{Store}
use Rattle.pv_world.specs.Worlds.{World}
use Rattle.pv_world.specs.Telling.{no_telling}
use Rattle.pv_world.specs.Doing.{Done, Fails}
use Rattle.pv_world.specs.Worths.{missing_value}
use Rattle.pv_world.specs.Pointers.{is_order}
use Rattle.pv_world.specs.ObjectParts.{with_bytes}
use Rattle.pv_eval.specs.States.{Setting}
use Rattle.pv_eval.specs.TypeForms.{Lvalue}
use Rattle.pv_eval.specs.Callees.{may_call}
use Rattle.pv_world.specs.Suiting.{is_size, is_promoted, is_operand}
use Rattle.pv_eval.specs.Operations.{Op, Converts, Calculates, CalculatesOne, Tests, Negates, Accepts, Needs, Moves, Subtracts, Orders, Equals, Follows, Selects, Finds, TakesPart, Reads, Writes, NamesObject, NamesLiteral, NamesFunction, MakesFunction, Makes, MakesLiteral, Ends, BeginsBody, EndsBody, Fills, Puts, PutsText, Asks, suits, works, does, act}
use Rattle.pv_numbering.proofs.Alike.{with_types, AlikeWorth, AlikeLvalue, AlikeRes}
use Rattle.pv_numbering.proofs.Acts.{ActAlike, ActsAlike}
use Rattle.pv_numbering.proofs.Worths.{int-same}
use Rattle.pv_numbering.proofs.Doing.{AlikeDone, at_one, Alikes, fails_alike}
use Rattle.pv_numbering.proofs.Operators.{converts-alike, calculates-alike, calculates_one-alike, tests-alike, negates-alike, accepts-alike, needs-alike, follows-alike, moves-alike, subtracts-alike, orders-alike, equals-alike, selects-alike, finds-alike}
use Rattle.pv_numbering.proofs.Suiting.{knows-same, is_small-same, is_integer-same, has_part-same, is_stored-same}
use Rattle.pv_numbering.proofs.Lvalues.{reads-alike, writes-alike, takes_part-alike}
use Rattle.pv_numbering.proofs.Placing.{names_object-alike, names_literal-alike, names_function-alike, makes_function-alike, begins_body-alike, ends_body-alike, makes-alike, ends-alike, makes_literal-alike, fills-alike, puts-alike, puts_text-alike}
use Rattle.pv_numbering.proofs.Calls.{asks-alike}
use Rattle.pv_numbering.proofs.Acting.{acted-alike}

-- of a conjunction that holds, the first
first_true : (c d : Bool) → (c && d) ≡ true → c ≡ true
first_true true d e = refl
first_true false d e = e

module _ (b : Setting) (m' : Known) (laid : env m' ≡ env b.types) where
  -- both are made of operands that suit, or of none that do
  suited_by : (c : Bool) (w : World) (z : Store) (d d' : Done) → Alikes b.types m' w z → (c ≡ true → AlikeDone b.types m' d d')
      → AlikeDone b.types m' (if c then d else Fails missing_value None w no_telling) (if c then d' else Fails missing_value None (with_bytes w z) no_telling)
  suited_by true w z d d' h k = k refl
  suited_by false w z d d' h k = fails_alike b.types m' missing_value None w z no_telling h

  -- an operation is alike where its operands suit alike, and what it does where they do
  act-alike : (o o' : Op) → ((w : World) (z : Store) → suits (with_types b m') o' (with_bytes w z) ≡ suits b o w)
      → ((w : World) (z : Store) → suits b o w ≡ true → Alikes b.types m' w z → AlikeDone b.types m' (works b o w) (works (with_types b m') o' (with_bytes w z))) → ActAlike b m' o o'
  act-alike o o' e k line s s' h =
      let w : World = s.world in
      let w' : World = with_bytes w h.bytes in
      subst (λ x. AlikeRes b.types m' (AlikeWorth b.types m') (act b line o s) (act (with_types b m') line o' x)) (sym h.is)
      (acted-alike b m' line (does b o w) (does (with_types b m') o' w') s h.bytes
      (at_one (λ c. AlikeDone b.types m' (does b o w) (if c then works (with_types b m') o' w' else Fails missing_value None w' no_telling)) (suits b o w) (suits (with_types b m') o' w') (e w h.bytes)
      (suited_by (suits b o w) w h.bytes (works b o w) (works (with_types b m') o' w') h.alike (λ c. k w h.bytes c h.alike))))

  -- through lvalues that are alike
  renumbered : (f : Lvalue → Op) (o : Op) (l l' : Lvalue) → AlikeLvalue b.types m' l l' → ((k : ℕ) → AlikeLvalue b.types m' l (record l { number = k }) → ActAlike b m' o (f (record l { number = k }))) → ActAlike b m' o (f l')
  renumbered f o l l' e k = at_one (λ x. ActAlike b m' o (f x)) (record l { number = e.number }) l' e.is (k e.number (record { number = e.number; is = refl; marks = e.marks }))

  pub acts-alike : ActsAlike b m'
  acts-alike = record {
    converts = λ how v v' g. act-alike (Converts how v) (Converts how v') (λ w z. λ i. is_small-same b.types m' v v' g i && knows-same b.types m' w.memory.table v v' g i)
        (λ w z c h. converts-alike b.types m' how v v' g w z h);
    calculates = λ op k v v' x x' g f. act-alike (Calculates op k v x) (Calculates op k v' x')
        (λ w z. λ i. (is_promoted k && fits_of k (int-same b.types m' v v' g i)) && is_operand op k (int-same b.types m' x x' f i))
        (λ w z c h. calculates-alike b.types m' op k v v' x x' g f w z h);
    calculates_one = λ op k v v' g. act-alike (CalculatesOne op k v) (CalculatesOne op k v') (λ w z. λ i. is_promoted k && fits_of k (int-same b.types m' v v' g i))
        (λ w z c h. calculates_one-alike b.types m' op k v v' g w z h);
    tests = λ v v' g. act-alike (Tests v) (Tests v') (λ w z. knows-same b.types m' w.memory.table v v' g) (λ w z c h. tests-alike b.types m' v v' g w z h);
    negates = λ v v' g. act-alike (Negates v) (Negates v') (λ w z. knows-same b.types m' w.memory.table v v' g) (λ w z c h. negates-alike b.types m' v v' g w z h);
    accepts = λ v v' g. act-alike (Accepts v) (Accepts v') (λ w z. refl) (λ w z c h. accepts-alike b.types m' v v' g w z h);
    needs = λ v v' g. act-alike (Needs v) (Needs v') (λ w z. is_integer-same b.types m' v v' g) (λ w z c h. needs-alike b.types m' v v' g w z h);
    moves = λ minus first size v v' x x' g f. act-alike (Moves minus first size v x) (Moves minus first size v' x')
        (λ w z. λ i.
        is_size size
        && ((is_small-same b.types m' v v' g i && is_small-same b.types m' x x' f i) && (knows-same b.types m' w.memory.table v v' g i && knows-same b.types m' w.memory.table x x' f i)))
        (λ w z c h. moves-alike b.types m' minus first size v v' x x' g f w z h);
    subtracts = λ size v v' x x' g f. act-alike (Subtracts size v x) (Subtracts size v' x')
        (λ w z. λ i. is_size size && (nat_le 1 size && (knows-same b.types m' w.memory.table v v' g i && knows-same b.types m' w.memory.table x x' f i)))
        (λ w z c h. subtracts-alike b.types m' size v v' x x' g f w z h);
    orders = λ op v v' x x' g f. act-alike (Orders op v x) (Orders op v' x')
        (λ w z. λ i. is_order op && (knows-same b.types m' w.memory.table v v' g i && knows-same b.types m' w.memory.table x x' f i))
        (λ w z c h. orders-alike b.types m' op v v' x x' (first_true (is_order op) _ c) g f w z h);
    equals = λ negated v v' x x' g f. act-alike (Equals negated v x) (Equals negated v' x')
        (λ w z. λ i. knows-same b.types m' w.memory.table v v' g i && knows-same b.types m' w.memory.table x x' f i)
        (λ w z c h. equals-alike b.types m' negated v v' x x' g f w z h);
    follows = λ nothing v v' g. act-alike (Follows nothing v) (Follows nothing v') (λ w z. refl) (λ w z c h. follows-alike b.types m' nothing v v' g w z h);
    selects = λ offset v v' g. act-alike (Selects offset v) (Selects offset v') (λ w z. knows-same b.types m' w.memory.table v v' g) (λ w z c h. selects-alike b.types m' offset v v' g w z h);
    finds = λ t v v' g. act-alike (Finds t v) (Finds t v') (λ w z. knows-same b.types m' w.memory.table v v' g) (λ w z c h. finds-alike b.types m' (may_call b t) v v' g w z h);
    takes_part = λ offset l l' v v' e g. renumbered (λ x. TakesPart offset x v') (TakesPart offset l v) l l' e (λ k e. act-alike (TakesPart offset l v) (TakesPart offset (record l { number = k }) v')
        (λ w z. λ i. is_size l.size && (has_part-same b.types m' offset l.size v v' g i && knows-same b.types m' w.memory.table v v' g i))
        (λ w z c h. takes_part-alike b m' laid offset l (record l { number = k }) v v' e g w z h));
    reads = λ l l' p p' rivals e g. renumbered (λ x. Reads x p' rivals) (Reads l p rivals) l l' e (λ k e. act-alike (Reads l p rivals) (Reads (record l { number = k }) p' rivals)
        (λ w z. λ i. (is_complete_in (layouts b.unit) l.t && (nat_le 1 l.size && is_size l.size)) && knows-same b.types m' w.memory.table p p' g i)
        (λ w z c h. reads-alike b m' laid l (record l { number = k }) p p' rivals e g w z h));
    writes = λ l l' p p' v v' from rivals e g f. renumbered (λ x. Writes x p' v' from rivals) (Writes l p v from rivals) l l' e (λ k e. act-alike (Writes l p v from rivals) (Writes (record l { number = k }) p' v' from rivals)
        (λ w z. λ i.
        (is_complete_in (layouts b.unit) l.t && (nat_le 1 l.size && is_size l.size))
        && (is_stored-same b.types m' l.shape l.size v v' f i && (knows-same b.types m' w.memory.table p p' g i && knows-same b.types m' w.memory.table v v' f i)))
        (λ w z c h. writes-alike b m' laid l (record l { number = k }) p p' v v' from rivals e g f w z h));
    names_object = λ o. act-alike (NamesObject o) (NamesObject o) (λ w z. refl) (λ w z c h. names_object-alike b m' o w z h);
    names_literal = λ l. act-alike (NamesLiteral l) (NamesLiteral l) (λ w z. refl) (λ w z c h. names_literal-alike b m' l w z h);
    names_function = λ f. act-alike (NamesFunction f) (NamesFunction f) (λ w z. refl) (λ w z c h. names_function-alike b m' f w z h);
    makes = λ o. act-alike (Makes o) (Makes o) (λ w z. refl) (λ w z c h. makes-alike b m' o w z h);
    makes_literal = λ l. act-alike (MakesLiteral l) (MakesLiteral l) (λ w z. refl) (λ w z c h. makes_literal-alike b m' l w z h);
    makes_function = λ f. act-alike (MakesFunction f) (MakesFunction f) (λ w z. refl) (λ w z c h. makes_function-alike b m' f w z h);
    ends = λ o. act-alike (Ends o) (Ends o) (λ w z. refl) (λ w z c h. ends-alike b m' o w z h);
    begins_body = λ f n. act-alike (BeginsBody f n) (BeginsBody f n) (λ w z. refl) (λ w z c h. begins_body-alike b m' f n w z h);
    ends_body = act-alike EndsBody EndsBody (λ w z. refl) (λ w z c h. ends_body-alike b m' w z h);
    fills = λ o v. act-alike (Fills o v) (Fills o v) (λ w z. refl) (λ w z c h. fills-alike b m' o v w z h);
    puts = λ o offset l l' v v' e g. act-alike (Puts o offset l v) (Puts o offset l' v') (λ w z. refl) (λ w z c h. puts-alike b m' o offset l l' v v' e g w z h);
    puts_text = λ o offset size l. act-alike (PutsText o offset size l) (PutsText o offset size l) (λ w z. refl) (λ w z c h. puts_text-alike b m' o offset size l w z h);
    asks = λ f args. act-alike (Asks f args) (Asks f args) (λ w z. refl) (λ w z c h. asks-alike b.types m' f args w z h);
  }
