-- What is told of a live instance tells whether it has room.
use Rattle.std.proofs.Common.{◌≡◌, ℕ, ◌+◌, ◌≤◌, Bool, true, false, cond, IsSomeAnd, Option, Some, None, refl, sym, subst}
use Rattle.std.proofs.lemmas.Option.{none-some}
use Rattle.pv_inst.specs.declared.values.Instance.{Instance}
use Rattle.pv_inst.specs.declared.values.Info.{Info}
use Rattle.pv_inst.specs.Infos.{info_of}

abbrev told : Instance → Info
told x = record { name = x.name; k = x.k; base = x.base; size = x.size; kind = x.kind; exposed = x.exposed }

abbrev HasRoom : Option Instance → (a n : ℕ) → Type 0
HasRoom o a n = IsSomeAnd o (λ (x : Instance). (x.live ≡ true) × (a + n ≤ x.size))

there_by : (b : Bool) (x : Instance) (y : Info) (a n : ℕ) → x.live ≡ b → cond b (Some (told x)) None ≡ Some y → a + n ≤ y.size → HasRoom (Some x) a n
there_by true x y a n l e h =
    let same : told x ≡ y = cc in
    let P : Info → Type 0 = λ z. a + n ≤ z.size in
    (l, subst P (sym same) h)
there_by false x y a n l e h = absurd (none-some y e)

pub room_there : (o : Option Instance) (y : Info) (a n : ℕ) → info_of o ≡ Some y → a + n ≤ y.size → HasRoom o a n
room_there None y a n e h = absurd (none-some y e)
room_there (Some x) y a n e h = there_by x.live x y a n refl e h

only_by : (b : Bool) (x : Instance) (y : Info) (a n : ℕ) → cond b (Some (told x)) None ≡ Some y → a + n ≤ x.size → a + n ≤ y.size
only_by true x y a n e h =
    let same : told x ≡ y = cc in
    let P : Info → Type 0 = λ z. a + n ≤ z.size in
    subst P same h
only_by false x y a n e h = absurd (none-some y e)

pub room_only : (o : Option Instance) (y : Info) (a n : ℕ) → info_of o ≡ Some y → HasRoom o a n → a + n ≤ y.size
room_only None y a n e h = absurd h
room_only (Some x) y a n e h = only_by x.live x y a n e h.1

gone_by : (b : Bool) (x : Instance) → x.live ≡ b → cond b (Some (told x)) None ≡ None → x.live ≡ true → ⊥
gone_by true x l e h = none-some (told x) (sym e)
gone_by false x l e h = absurd cc

pub no_room : (o : Option Instance) (a n : ℕ) → info_of o ≡ None → HasRoom o a n → ⊥
no_room None a n e h = h
no_room (Some x) a n e h = gone_by x.live x refl e h.0
