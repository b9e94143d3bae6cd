-- Objects and literals in stores that are alike (C17 6.2.4, 6.4.5, 6.7.9): they are made, ended and filled alike.
use Rattle.std.proofs.Common.{ℕ, ◌+◌, Bool, true, false, List, replicate, Option, Some, None, Result, Ok, Err, refl}
use Rattle.pv_types.specs.Known.{Known}
use Rattle.pv_inst.specs.declared.values.Instance.{Instance}
use Rattle.pv_inst.specs.declared.values.CreateError.{CreateError}
use Rattle.pv_inst.specs.Table.{Table, instance_at}
use Rattle.pv_inst.specs.Placing.{Request, place}
use Rattle.pv_prov.specs.declared.names.Prov.TheVariants.{Empty}
use Rattle.pv_shadow.specs.declared.byte.Byte.{Byte}
use Rattle.pv_shadow.specs.Bytes.{Store, with_bytes_at}
use Rattle.pv_shadow.specs.Whole.{number_bytes}
use Rattle.pv_object.specs.Memory.{Mem}
use Rattle.pv_object.specs.Creating.{with_new_bytes}
use Rattle.pv_object.specs.OperationParts.{blank_in, cleared_in}
use Rattle.pv_world.specs.Worlds.{World}
use Rattle.pv_world.specs.Objects.{makes_object, makes_function, ends_object, put_at, owning, base_in, instance_of, makes_literal_of, fills_object, puts_bytes, ends_instance, literal_bound}
use Rattle.pv_world.specs.ObjectParts.{object_made, function_made, with_bytes, literal_request, literal_made, filling}
use Rattle.pv_numbering.proofs.Marks.{AlikeBytes, AlikeStores}
use Rattle.pv_numbering.proofs.Bytes.{alike_written, alike_spread, alike_cleared, alike_replicate, alike_plain, unmarked}
use Rattle.pv_numbering.proofs.Doing.{AlikeDone, Alikes}

module _ (m m' : Known) where
  pub blanks_alike : (o : Option Instance) (b b' : Store) → AlikeStores m m' b b' → AlikeStores m m' (blank_in o b) (blank_in o b')
  blanks_alike None b b' h = h
  blanks_alike (Some x) b b' h = alike_spread m m' b b' x.base x.size h

  pub cleared_alike : (o : Option Instance) (b b' : Store) → AlikeStores m m' b b' → AlikeStores m m' (cleared_in o b) (cleared_in o b')
  cleared_alike None b b' h = h
  cleared_alike (Some x) b b' h = alike_cleared m m' b b' x.base x.size h

  -- 6.2.4p2: an object is made, by the answer of the table
  object_by : (w : World) (b : Store) (o : ℕ) (lasting : Bool) (name : ℕ) (r : Result ℕ CreateError × Table) → Alikes m m' w b
      → AlikeDone m m' (object_made w o lasting name (with_new_bytes w.memory r)) (object_made (with_bytes w b) o lasting name (with_new_bytes (record w.memory { bytes = b }) r))
  object_by w b o true name (Ok i, T) h = (tt, record { bytes = blank_in (instance_at T.instances i) b; is = refl; alike = blanks_alike (instance_at T.instances i) w.memory.bytes b h }, refl)
  object_by w b o false name (Ok i, T) h = (tt, record { bytes = blank_in (instance_at T.instances i) b; is = refl; alike = blanks_alike (instance_at T.instances i) w.memory.bytes b h }, refl)
  object_by w b o lasting name (Err e, T) h = (refl, refl, record { bytes = b; is = refl; alike = h }, refl)

  pub makes_object-alike : (o : ℕ) (lasting : Bool) (r : Request) (w : World) (b : Store) → Alikes m m' w b → AlikeDone m m' (makes_object o lasting r w) (makes_object o lasting r (with_bytes w b))
  makes_object-alike o lasting r w b h = object_by w b o lasting r.name (place w.memory.table r) h

  -- 6.4.5p6: a literal is made
  literal_by : (w : World) (b : Store) (l : ℕ) (bytes : List ℕ) (r : Result ℕ CreateError × Table) → Alikes m m' w b
      → AlikeDone m m' (literal_made w l bytes (with_new_bytes w.memory r)) (literal_made (with_bytes w b) l bytes (with_new_bytes (record w.memory { bytes = b }) r))
  literal_by w b l bytes (Ok i, T) h =
      let M : Mem = record { table = T; bytes = blank_in (instance_at T.instances i) w.memory.bytes } in
      let x : World = literal_bound (owning w M i None) l i in
      let a : ℕ = base_in x i in (
        tt,
        record {
          bytes = with_bytes_at (blank_in (instance_at T.instances i) b) a (number_bytes None 0 bytes);
          is = refl;
          alike = alike_written m m' (blank_in (instance_at T.instances i) w.memory.bytes) (blank_in (instance_at T.instances i) b) a (number_bytes None 0 bytes) (number_bytes None 0 bytes)
              (blanks_alike (instance_at T.instances i) w.memory.bytes b h) (alike_plain m m' None None 0 bytes tt);
        },
        refl,
      )
  literal_by w b l bytes (Err e, T) h = (refl, refl, record { bytes = b; is = refl; alike = h }, refl)

  pub makes_literal-alike : (l : ℕ) (text bytes : List ℕ) (w : World) (b : Store) → Alikes m m' w b → AlikeDone m m' (makes_literal_of l text bytes w) (makes_literal_of l text bytes (with_bytes w b))
  makes_literal-alike l text bytes w b h = literal_by w b l bytes (place w.memory.table (literal_request text bytes)) h

  -- 6.3.2.1p4: a function that is pointed to has an instance
  function_by : (w : World) (b : Store) (f name : ℕ) (r : Result ℕ CreateError × Table) → Alikes m m' w b
      → AlikeDone m m' (function_made w f name (with_new_bytes w.memory r)) (function_made (with_bytes w b) f name (with_new_bytes (record w.memory { bytes = b }) r))
  function_by w b f name (Ok i, T) h = (tt, record { bytes = blank_in (instance_at T.instances i) b; is = refl; alike = blanks_alike (instance_at T.instances i) w.memory.bytes b h }, refl)
  function_by w b f name (Err e, T) h = (refl, refl, record { bytes = b; is = refl; alike = h }, refl)

  pub makes_function-alike : (f : ℕ) (r : Request) (w : World) (b : Store) → Alikes m m' w b → AlikeDone m m' (makes_function f r w) (makes_function f r (with_bytes w b))
  makes_function-alike f r w b h = function_by w b f r.name (place w.memory.table r) h

  -- 6.2.4p2
  pub ends_instance-alike : (i : ℕ) (w : World) (b : Store) → Alikes m m' w b → AlikeDone m m' (ends_instance w i) (ends_instance (with_bytes w b) i)
  ends_instance-alike i w b h =
      let o : Option Instance = instance_at w.memory.table.instances i in
      (tt, record { bytes = cleared_in o b; is = refl; alike = cleared_alike o w.memory.bytes b h }, refl)

  pub ends_object-alike : (o : ℕ) (lasting : Bool) (w : World) (b : Store) → Alikes m m' w b → AlikeDone m m' (ends_object o lasting w) (ends_object o lasting (with_bytes w b))
  ends_object-alike o true w b h = ends_instance-alike (instance_of w o true) w b h
  ends_object-alike o false w b h = ends_instance-alike (instance_of w o false) w b h

  -- 6.2.6.1p4: bytes that are stored without a check
  pub put-alike : (w : World) (b : Store) (a : ℕ) (xs xs' : List Byte) → AlikeBytes m m' xs xs' → Alikes m m' w b → AlikeStores m m' (put_at w a xs).memory.bytes (with_bytes_at b a xs')
  put-alike w b a xs xs' g h = alike_written m m' w.memory.bytes b a xs xs' h g

  pub puts_bytes-alike : (o : ℕ) (lasting : Bool) (offset : ℕ) (xs xs' : List Byte) → AlikeBytes m m' xs xs' → (w : World) (b : Store) → Alikes m m' w b
      → AlikeDone m m' (puts_bytes o lasting offset xs w) (puts_bytes o lasting offset xs' (with_bytes w b))
  puts_bytes-alike o true offset xs xs' g w b h =
      let a : ℕ = base_in w (instance_of w o true) + offset in (tt, record { bytes = with_bytes_at b a xs'; is = refl; alike = put-alike w b a xs xs' g h }, refl)
  puts_bytes-alike o false offset xs xs' g w b h =
      let a : ℕ = base_in w (instance_of w o false) + offset in (tt, record { bytes = with_bytes_at b a xs'; is = refl; alike = put-alike w b a xs xs' g h }, refl)

  pub fills_object-alike : (o : ℕ) (lasting : Bool) (size : ℕ) (v : Option ℕ) (w : World) (b : Store) → Alikes m m' w b
      → AlikeDone m m' (fills_object o lasting size v w) (fills_object o lasting size v (with_bytes w b))
  fills_object-alike o lasting size v w b h =
      let xs : List Byte = replicate size (filling v) in
      let a : ℕ = base_in w (instance_of w o lasting) in
      (tt, record { bytes = with_bytes_at b a xs; is = refl; alike = put-alike w b a xs xs (alike_replicate m m' size (filling v) (unmarked m m' v Empty None)) h }, refl)
