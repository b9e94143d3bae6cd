use Rattle.std.proofs.Common.{◌≡◌, ℕ, ◌+◌, List, [], ◌∷◌, ◌++◌, cond, eqb, get_or, set, refl, sym, ap, ◌∙◌, subst, arith}
use Rattle.pv_journal.specs.Keyed.{fresh}
use Rattle.pv_journal.specs.Indexed.{AreIndexed, IsFree}
use Rattle.pv_journal.specs.declared.held.Held.{Held}
use Rattle.pv_journal.proofs.Indexing.{indexed_as, indexed_push, top_written}
use Rattle.pv_journal.proofs.held.Instances.push.Goals as goal

pub invariant_of-self : goal.invariant_of-self
invariant_of-self c =
    indexed_as c.self.inside.made.items c.reserve.new.self.items c.self.inside.live c.self.inside.tops.items c.self.inside.tops.items c.self.inside.living.entries c.self.inside.living.entries
    c.self.invariant c.reserve.ensures.items (λ n. refl) refl

pub invariant_of-self-in_err-give_room : goal.invariant_of-self-in_err-give_room
invariant_of-self-in_err-give_room c =
    indexed_as c.self.inside.made.items c.reserve.new.self.items c.self.inside.live c.self.inside.tops.items c.give_room.new.tops.items c.self.inside.living.entries c.self.inside.living.entries
    c.self.invariant c.reserve.ensures.items c.give_room.ensures.same refl

pub invariant_of-self-in_err-insert : goal.invariant_of-self-in_err-insert
invariant_of-self-in_err-insert c =
    indexed_as c.self.inside.made.items c.reserve.new.self.items c.self.inside.live c.self.inside.tops.items c.give_room.new.tops.items c.self.inside.living.entries c.self.inside.living.entries
    c.self.invariant c.reserve.ensures.items c.give_room.ensures.same refl

pub invariant_of-self-in_err-insert-2 : goal.invariant_of-self-in_err-insert-2
invariant_of-self-in_err-insert-2 c =
    indexed_as c.self.inside.made.items c.reserve.new.self.items c.self.inside.live c.self.inside.tops.items c.give_room.new.tops.items c.self.inside.living.entries c.insert-2.new.self.entries
    c.self.invariant c.reserve.ensures.items c.give_room.ensures.same c.in_err-insert-2.ensures.err

pub overflow_add-self : goal.overflow_add-self
overflow_add-self c =
    let free = subst (λ (l : List Held). IsFree l c.args.key c.args.base c.args.size) (sym c.self.view_is) c.requires in
    record { fits = omega (arith, free.few, c.self.invariant.sum) }

pub invariant_of-self-2 : goal.invariant_of-self-2
invariant_of-self-2 c =
    let key = c.args.key in
    let one = fresh c.args.key c.args.base c.args.size in
    let ts = c.give_room.new.tops.items in
    let free = subst (λ (l : List Held). IsFree l c.args.key c.args.base c.args.size) (sym c.self.view_is) c.requires in
    let items : c.push_reserved.new.self.items ≡ c.self.inside.made.items ++ one ∷ [] = c.push_reserved.ensures.items ∙ ap (λ (l : List Held). l ++ one ∷ []) c.reserve.ensures.items in
    subst (λ (l : List Held). AreIndexed l (c.self.inside.live + c.args.size) (λ n. get_or (set ts key.name key.k) n 0) c.insert-2.new.self.entries) (sym items)
    (indexed_push c.self.inside.made.items c.self.inside.live c.self.inside.tops.items (set ts key.name key.k) c.self.inside.living.entries c.insert-2.new.self.entries key c.args.base c.args.size
    c.self.invariant free
    (λ n. top_written ts (set ts key.name key.k) key.name key.k c.in_ok-give_room.ensures.room refl n ∙ ap (λ (g : ℕ). cond (eqb key.name n) key.k g) (c.give_room.ensures.same n))
    c.in_ok-insert-2.ensures.updates.0)

pub returns : goal.returns
returns c =
    let one = fresh c.args.key c.args.base c.args.size in
    c.push_reserved.ensures.items ∙ ap (λ (l : List Held). l ++ one ∷ []) (c.reserve.ensures.items ∙ c.self.view_is)
