-- What the making of a literal comes to.
use Rattle.std.proofs.Common.{◌≡◌, ◌≤◌, ◌<◌, ℕ, zero, suc, ◌+◌, get_or, drop, All, true, IsTrue, IsSomeAnd, List, [], ◌∷◌, ◌++◌, length, Option, Some, None, Result, Ok, Err, refl, sym, ap, ◌∙◌, arith}
use Rattle.std.proofs.lemmas.List.{append-nil, append_assoc, drop_more}
use Rattle.pv_inst.specs.declared.values.Instance.{Instance}
use Rattle.pv_inst.specs.declared.values.CreateError.{CreateError}
use Rattle.pv_inst.specs.declared.values.CreateError.TheVariants as refusal
use Rattle.pv_prov.specs.declared.names.Prov.TheVariants.{Empty}
use Rattle.pv_inst.specs.Table.{Table, IsMadeIn}
use Rattle.pv_shadow.specs.declared.byte.Byte.{Byte}
use Rattle.pv_shadow.specs.Whole.{number_bytes}
use Rattle.pv_object.specs.Memory.{Mem}
use Rattle.pv_object.specs.Answers.{OrSpent}
use Rattle.pv_watch.specs.declared.event.What.{What}
use Rattle.pv_world.specs.Worlds.{Nothing, World, Halts, Refused}
use Rattle.pv_world.specs.Telling.{event_of_making}
use Rattle.pv_world.specs.Objects.{owning, literal_bound, with_characters}
use Rattle.pv_world.specs.ObjectParts.{literal_made}
use Rattle.pv_world.specs.Coming.{Gave, Ended, coming_of, CameMade}

pub literal_ok : (w v : World) (l i : ℕ) (bytes : List ℕ) (M : Mem) (es fs : List What) (c : Result ℕ CreateError × Mem)
    → OrSpent (Ok i) M c → v ≡ with_characters (literal_bound (owning w M i None) l i) i bytes → fs ≡ es ++ event_of_making M.table i → coming_of es w (literal_made w l bytes c) ≡ Gave Nothing v fs
literal_ok w v l i bytes M es fs (Ok j, N) h vs ts = let e : i ≡ j = let k = h.0 in cc in rw (← e, ← h.1, vs, ts) refl
literal_ok w v l i bytes M es fs (Err e, N) h vs ts = let k = h.0 in absurd cc

refused_as : (e : CreateError) (w v : World) (l : ℕ) (bytes : List ℕ) (M : Mem) (es : List What) (c : Result ℕ CreateError × Mem)
    → (Err e ≡ c.0) × (M ≡ c.1) → v ≡ record w { memory = M } → coming_of es w (literal_made w l bytes c) ≡ Ended (Halts (Refused 0 e)) v es
refused_as e w v l bytes M es (Err f, N) h vs = let same : e ≡ f = let k = h.0 in cc in rw (← same, ← h.1, vs) (ap (Ended (Halts (Refused 0 e)) _) (append-nil (es ++ []) ∙ append-nil es))
refused_as e w v l bytes M es (Ok i, N) h vs = let k = h.0 in absurd cc

pub literal_err : (e : CreateError) (w v : World) (l : ℕ) (bytes : List ℕ) (M : Mem) (es : List What) (c : Result ℕ CreateError × Mem)
    → OrSpent (Err e) M c → v ≡ record w { memory = M } → CameMade 0 (Err e) v es (coming_of es w (literal_made w l bytes c))
literal_err refusal.NoMemory w v l bytes M es c h vs = tt
literal_err (refusal.Storage live size) w v l bytes M es c h vs = refused_as (refusal.Storage live size) w v l bytes M es c h vs
literal_err refusal.Denied w v l bytes M es c h vs = refused_as refusal.Denied w v l bytes M es c h vs
literal_err (refusal.Range k a) w v l bytes M es c h vs = refused_as (refusal.Range k a) w v l bytes M es c h vs
literal_err (refusal.Misaligned k a) w v l bytes M es c h vs = refused_as (refusal.Misaligned k a) w v l bytes M es c h vs
literal_err (refusal.Overlap k a with) w v l bytes M es c h vs = refused_as (refusal.Overlap k a with) w v l bytes M es c h vs

-- the bytes of characters, one after the other
pub next_plain : (all more : List Byte) (vs : List ℕ) (i d : ℕ) → i < length vs → more ≡ all ++ record { value = Some (get_or vs i d); prov = Empty; index = None; mark = None } ∷ []
    → more ++ number_bytes None (i + 1) (drop (i + 1) vs) ≡ all ++ number_bytes None i (drop i vs)
next_plain all more vs i d lt told =
    ap (λ xs. xs ++ number_bytes None (i + 1) (drop (i + 1) vs)) told
    ∙ append_assoc all (record { value = Some (get_or vs i d); prov = Empty; index = None; mark = None } ∷ []) (number_bytes None (i + 1) (drop (i + 1) vs))
    ∙ ap (λ ys. all ++ number_bytes None i ys) (sym (drop_more vs i d lt))

-- they have the empty name
pub plain_made : (T : Table) (mark : Option ℕ) (j : ℕ) (vs : List ℕ) → All (λ (b : Byte). IsMadeIn T b.prov) (number_bytes mark j vs)
plain_made T mark j [] k d lt = absurd (omega (arith, lt))
plain_made T mark j (v ∷ vs) zero d lt = tt
plain_made T mark j (v ∷ vs) (suc k) d lt = plain_made T mark (j + 1) vs k d (omega (arith, lt))

-- a live instance has room for as many bytes as it has
pub room_of : (o : Option Instance) (n : ℕ) → IsSomeAnd o (λ (x : Instance). IsTrue x.live) → IsSomeAnd o (λ (x : Instance). x.size ≡ n) → IsSomeAnd o (λ (x : Instance). (x.live ≡ true) × (0 + n ≤ x.size))
room_of None n l s = l
room_of (Some x) n l s = (l, omega (arith, s))
