-- Accesses to bytes that are alike (C17 6.2.6.1, 6.3.2.1p2, 6.5p6): what they are worth, and what is stored.
use Rattle.std.proofs.Common.{◌≡◌, ◌≢◌, ℕ, Bool, true, false, List, Option, Some, None, Result, Ok, Err, take, drop, if◌then◌else◌, refl}
use Rattle.pv_prov.specs.declared.names.Prov.{Prov}
use Rattle.pv_types.specs.Known.{Known}
use Rattle.pv_inst.specs.Table.{Table}
use Rattle.pv_shadow.specs.declared.byte.Byte.{Byte}
use Rattle.pv_shadow.specs.Bytes.{Store}
use Rattle.pv_object.specs.declared.values.Pointer.{Pointer}
use Rattle.pv_object.specs.declared.values.Scalar.TheVariants as scalar
use Rattle.pv_object.specs.declared.values.Reach.{Reach}
use Rattle.pv_object.specs.declared.values.Stop.{Stop}
use Rattle.pv_object.specs.declared.values.Stop.TheVariants as stop
use Rattle.pv_fault.specs.declared.verdict.Verdict.TheVariants as verdict
use Rattle.pv_object.specs.declared.values.Asker.TheVariants.{Access}
use Rattle.pv_num.specs.Kinds.{is_character_kind as is_character}
use Rattle.pv_object.specs.Encoding.{encode}
use Rattle.pv_object.specs.Access.{reach}
use Rattle.pv_object.specs.Loading.{Loaded}
use Rattle.pv_watch.specs.declared.event.What.{What}
use Rattle.pv_world.specs.declared.got.Shape.{Shape}
use Rattle.pv_world.specs.declared.got.Shape.TheVariants as shape
use Rattle.pv_world.specs.Worlds.{Worth, World, with_table}
use Rattle.pv_world.specs.Telling.{Told, no_telling, telling, all_told}
use Rattle.pv_world.specs.Doing.{Done}
use Rattle.pv_world.specs.Worths.{value_of, bytes_of}
use Rattle.pv_world.specs.ObjectParts.{with_bytes}
use Rattle.pv_world.specs.Accesses.{reaching_by, reaching, scalar_as, load_blame, scalar_by, worth_in, mark_of, stored_as, takes_bytes}
use Rattle.pv_world.specs.AccessParts.{range_use}
use Rattle.pv_numbering.proofs.Marks.{AcceptedAlike, AlikeBytes}
use Rattle.pv_numbering.proofs.Alike.{AlikeWorth}
use Rattle.pv_numbering.proofs.Bytes.{AlikeNumbers, alike_take, alike_drop}
use Rattle.pv_numbering.proofs.Loading.{whole_name-same, value-same as loaded-same, alike_encode}
use Rattle.pv_numbering.proofs.Worths.{value-same, bytes-alike}
use Rattle.pv_numbering.proofs.Doing.{AlikeDone, at_one, Alikes, alike_world, present_alike}

module _ (m m' : Known) where
  -- 6.5.3.2p4: the checks of an access look at the table alone, and what goes on does so alike
  abbrev pub GoOn : (Reach → World → Told → Done) → (Reach → World → Told → Done) → Type 0
  GoOn go go' = (at : Reach) (w : World) (b : Store) (t : Told) → Alikes m m' w b → AlikeDone m m' (go at w t) (go' at (with_bytes w b) t)

  reaching_by-alike : (w : World) (b : Store) (p : Pointer) (us : List What) (r : Result Reach Stop × Table) (go go' : Reach → World → Told → Done) → Alikes m m' w b → GoOn go go'
      → AlikeDone m m' (reaching_by w p us r go) (reaching_by (with_bytes w b) p us r go')
  reaching_by-alike w b p us (Ok at, T) go go' h k = k at (with_table w T) b (telling us) h
  reaching_by-alike w b p us (Err y, T) go go' h k = (refl, refl, alike_world m m' (with_table w T) b h, refl)

  pub reaching-alike : (p : Pointer) (n align : ℕ) (write : Bool) (w : World) (b : Store) (go go' : Reach → World → Told → Done) → Alikes m m' w b → GoOn go go'
      → AlikeDone m m' (reaching p n align write w go) (reaching p n align write (with_bytes w b) go')
  reaching-alike p n align write w b go go' h k = reaching_by-alike w b p (range_use w.memory.table p n) (reach w.memory.table p n align write Access) go go' h k

  -- 6.2.6.1p5: what bytes are worth
  blame-same : (s : Shape) (p : Option Prov) (y : Stop) (xs xs' : List Byte) → AlikeBytes m m' xs xs' → load_blame xs' s p y ≡ load_blame xs s p y
  blame-same shape.Pointer p (stop.Ends (verdict.Undefined f)) xs xs' h = whole_name-same m m' xs xs' h
  blame-same shape.Pointer p (stop.Ends verdict.Indeterminate) xs xs' h = refl
  blame-same shape.Pointer p (stop.Ends verdict.Undecided) xs xs' h = refl
  blame-same shape.Pointer p stop.NoMemory xs xs' h = refl
  blame-same (shape.Int k) p y xs xs' h = refl
  blame-same shape.Whole p y xs xs' h = refl

  scalar_by-alike : (w : World) (b : Store) (xs xs' : List Byte) (s : Shape) (p : Option Prov) (t : Told) (r : Loaded) → AlikeBytes m m' xs xs' → Alikes m m' w b
      → AlikeDone m m' (scalar_by w xs s p t r) (scalar_by (with_bytes w b) xs' s p t r)
  scalar_by-alike w b xs xs' s p t (Ok r, T) g h = (refl, alike_world m m' (with_table w (all_told T)) b h, refl)
  scalar_by-alike w b xs xs' s p t (Err y, T) g h = (refl, blame-same s p y xs xs' g, alike_world m m' (with_table w T) b h, refl)

  loads-alike : (w : World) (b : Store) (xs xs' : List Byte) (s : Shape) (p : Option Prov) (t : Told) (r r' : Loaded) → r' ≡ r → AlikeBytes m m' xs xs' → Alikes m m' w b
      → AlikeDone m m' (scalar_by w xs s p t r) (scalar_by (with_bytes w b) xs' s p t r')
  loads-alike w b xs xs' s p t r r' e g h =
      at_one (λ x. AlikeDone m m' (scalar_by w xs s p t r) (scalar_by (with_bytes w b) xs' s p t x)) r r' e (scalar_by-alike w b xs xs' s p t r g h)

  pub worth_in-alike : (w : World) (b : Store) (xs xs' : List Byte) (s : Shape) (a : Option ℕ) (p : Option Prov) (t : Told) → AlikeBytes m m' xs xs' → Alikes m m' w b
      → AlikeDone m m' (worth_in w xs s a p t) (worth_in (with_bytes w b) xs' s a p t)
  worth_in-alike w b xs xs' shape.Whole a p t g h = ((g, refl), alike_world m m' w b h, refl)
  worth_in-alike w b xs xs' shape.Pointer a p t g h =
      loads-alike w b xs xs' shape.Pointer p t (scalar_as w.memory.table xs shape.Pointer) (scalar_as w.memory.table xs' shape.Pointer) (loaded-same m m' w.memory.table scalar.Pointer xs xs' g) g h
  worth_in-alike w b xs xs' (shape.Int k) a p t g h =
      loads-alike w b xs xs' (shape.Int k) p t (scalar_as w.memory.table xs (shape.Int k)) (scalar_as w.memory.table xs' (shape.Int k)) (loaded-same m m' w.memory.table (scalar.Int k) xs xs' g) g h

  -- 6.5.2.3p3: a member of a structure or union value
  pub takes_bytes-alike : (offset size : ℕ) (s : Shape) (v v' : Worth) → AlikeWorth m m' v v' → (w : World) (b : Store) → Alikes m m' w b
      → AlikeDone m m' (takes_bytes offset size s v w) (takes_bytes offset size s v' (with_bytes w b))
  takes_bytes-alike offset size s v v' g w b h =
      present_alike m m' w b v v' _ _ h g (worth_in-alike w b (take size (drop offset (bytes_of v))) (take size (drop offset (bytes_of v'))) s None None no_telling
      (alike_take m m' size (drop offset (bytes_of v)) (drop offset (bytes_of v')) (alike_drop m m' offset (bytes_of v) (bytes_of v') (bytes-alike m m' v v' g))) h)

  -- 6.5p6: the marks of a store
  numbers_by : (c : Bool) (n n' : ℕ) → ((k : ℕ) → AcceptedAlike m m' (n, k) (n', k)) → AlikeNumbers m m' (if c then None else Some n) (if c then None else Some n')
  numbers_by true n n' h = tt
  numbers_by false n n' h = h

  pub stored-alike : (s : Shape) (n n' : ℕ) (v v' : Worth) → (s ≢ shape.Whole → (k : ℕ) → AcceptedAlike m m' (n, k) (n', k)) → AlikeWorth m m' v v' → AlikeBytes m m' (stored_as n s v) (stored_as n' s v')
  stored-alike (shape.Int k) n n' v v' h g =
      at_one (λ x. AlikeBytes m m' (stored_as n (shape.Int k) v) (encode (scalar.Int k) x (mark_of n' (shape.Int k)))) (value_of v) (value_of v') (value-same m m' v v' g)
      (alike_encode m m' (scalar.Int k) (value_of v) (mark_of n (shape.Int k)) (mark_of n' (shape.Int k)) (numbers_by (is_character k) n n' (h (λ e. cc))))
  stored-alike shape.Pointer n n' v v' h g =
      at_one (λ x. AlikeBytes m m' (stored_as n shape.Pointer v) (encode scalar.Pointer x (mark_of n' shape.Pointer))) (value_of v) (value_of v') (value-same m m' v v' g)
      (alike_encode m m' scalar.Pointer (value_of v) (mark_of n shape.Pointer) (mark_of n' shape.Pointer) (h (λ e. cc)))
  stored-alike shape.Whole n n' v v' h g = bytes-alike m m' v v' g
