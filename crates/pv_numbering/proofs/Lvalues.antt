-- Reads and writes through lvalues that are alike (C17 6.3.2.1p2, 6.5p7, 6.5.16): an allocation's marks permit the same.
use Rattle.std.proofs.Common.{◌≡◌, ◌≢◌, ℕ, suc, Bool, true, false, not, ◌&&◌, ◌||◌, List, [], ◌∷◌, Option, Some, None, if◌then◌else◌, refl, ap}
use Rattle.pv_fault.specs.declared.faults.Clause.TheVariants.{EffectiveTypes, Sequencing, OverlappingAssignment}
use Rattle.pv_fault.specs.declared.faults.Reason.TheVariants.{WrongType, Unsequenced, Overlap}
use Rattle.pv_types.specs.Layouts.{Part}
use Rattle.pv_types.specs.Known.{Known, env}
use Rattle.pv_effect.specs.EffectiveType.{anything, some_over, permits_byte, permits_bytes}
use Rattle.pv_layout.specs.Parts.{leaves}
use Rattle.pv_inst.specs.declared.values.Instance.{Instance}
use Rattle.pv_inst.specs.declared.values.Kind.{Kind}
use Rattle.pv_inst.specs.declared.values.Kind.TheVariants.{Declared, Literal, Heap, Function}
use Rattle.pv_inst.specs.Table.{instance_at}
use Rattle.pv_shadow.specs.declared.byte.Byte.{Byte}
use Rattle.pv_shadow.specs.Bytes.{Store, bytes_from, with_bytes_at}
use Rattle.pv_object.specs.declared.values.Pointer.{Pointer}
use Rattle.pv_object.specs.declared.values.Reach.{Reach}
use Rattle.pv_seq.specs.Sequencing.{Access, conflicts}
use Rattle.pv_world.specs.declared.got.Shape.TheVariants as shape
use Rattle.pv_world.specs.Worlds.{Worth, World}
use Rattle.pv_world.specs.Telling.{Told}
use Rattle.pv_world.specs.Doing.{Done, Fails}
use Rattle.pv_world.specs.Worths.{undefined_behaviour, pointer_of}
use Rattle.pv_world.specs.ObjectParts.{with_bytes}
use Rattle.pv_world.specs.Accesses.{stored_as, is_inexact}
use Rattle.pv_eval.specs.States.{Setting}
use Rattle.pv_eval.specs.TypeForms.{Lvalue}
use Rattle.pv_eval.specs.Permission.{parts_of, permits_in, permits_row, permits}
use Rattle.pv_eval.specs.PermissionParts.{marks_of}
use Rattle.pv_eval.specs.Accesses.{access_to, reads_at, reads, writes_alone, writes_at, writes_to, writes}
use Rattle.pv_eval.specs.AccessParts.{takes_part, reads_from}
use Rattle.pv_numbering.proofs.Marks.{AcceptedAlike, AlikeMarks, AlikeBytes}
use Rattle.pv_numbering.proofs.Alike.{with_types, AlikeWorth, AlikeLvalue}
use Rattle.pv_numbering.proofs.Bytes.{alike_read, alike_written}
use Rattle.pv_numbering.proofs.Worths.{pointer-same}
use Rattle.pv_numbering.proofs.Doing.{AlikeDone, at_one, Alikes, fails_alike, either_alike, present_alike}
use Rattle.pv_numbering.proofs.Reaching.{reaching-alike, worth_in-alike, stored-alike, takes_bytes-alike}

module _ (m m' : Known) (laid : env m' ≡ env m) where
  -- 6.5p7: marks that are alike permit the same
  byte-same : (parts : List Part) (n : ℕ) (o o' : Option (ℕ × ℕ)) → AlikeMarks m m' o o' → permits_byte m' parts n o' ≡ permits_byte m parts n o
  byte-same parts n None None h = refl
  byte-same parts n (Some x) (Some x') h = λ i. some_over (laid i) (λ j t. h j t i) n parts || not (some_over (laid i) anything n parts)
  byte-same parts n None (Some x') h = absurd h
  byte-same parts n (Some x) None h = absurd h

  bytes-same : (parts : List Part) (n : ℕ) (xs xs' : List Byte) → AlikeBytes m m' xs xs' → permits_bytes m' parts n (marks_of xs') ≡ permits_bytes m parts n (marks_of xs)
  bytes-same parts n [] [] h = refl
  bytes-same parts n (x ∷ xs) (x' ∷ xs') h = λ i. byte-same parts n x.mark x'.mark h.0.mark i && bytes-same parts (suc n) xs xs' h.1 i
  bytes-same parts n [] (x' ∷ xs') h = absurd h
  bytes-same parts n (x ∷ xs) [] h = absurd h

module _ (b : Setting) (m' : Known) (laid : env m' ≡ env b.types) where
  module _ (l : Lvalue) (k : ℕ) where
    abbrev renumbered : Lvalue
    renumbered = record l { number = k }

    kind-same : (w : World) (z : Store) (at : Reach) (writes : Bool) (kind : Kind) → Alikes b.types m' w z
        → permits_in (with_types b m') (with_bytes w z) renumbered at writes kind ≡ permits_in b w l at writes kind
    kind-same w z at writes (Declared c) h = refl
    kind-same w z at writes Literal h = refl
    kind-same w z at writes Function h = refl
    kind-same w z at writes Heap h =
        ap (λ c. writes || c)
        (bytes-same b.types m' laid (leaves (parts_of b l.t)) 0 (bytes_from w.memory.bytes at.address l.size) (bytes_from z at.address l.size) (alike_read b.types m' w.memory.bytes z at.address l.size h))

    row-same : (w : World) (z : Store) (at : Reach) (writes : Bool) (o : Option Instance) → Alikes b.types m' w z
        → permits_row (with_types b m') (with_bytes w z) renumbered at writes o ≡ permits_row b w l at writes o
    row-same w z at writes None h = refl
    row-same w z at writes (Some x) h = kind-same w z at writes x.kind h

    permits-same : (w : World) (z : Store) (at : Reach) (writes : Bool) → Alikes b.types m' w z → permits (with_types b m') (with_bytes w z) renumbered at writes ≡ permits b w l at writes
    permits-same w z at writes h = row-same w z at writes (instance_at w.memory.table.instances at.inst) h

    permitted-alike : (w : World) (z : Store) (at : Reach) (writes : Bool) (p : Pointer) (t : Told) (d d' : Done) → Alikes b.types m' w z → AlikeDone b.types m' d d'
        → AlikeDone b.types m' (if permits b w l at writes then d else Fails (undefined_behaviour EffectiveTypes WrongType) (Some p.prov) w t)
        (if permits (with_types b m') (with_bytes w z) renumbered at writes then d' else Fails (undefined_behaviour EffectiveTypes WrongType) (Some p.prov) (with_bytes w z) t)
    permitted-alike w z at writes p t d d' h g =
        at_one (λ c. AlikeDone b.types m' (if permits b w l at writes then d else Fails (undefined_behaviour EffectiveTypes WrongType) (Some p.prov) w t)
        (if c then d' else Fails (undefined_behaviour EffectiveTypes WrongType) (Some p.prov) (with_bytes w z) t))
        (permits b w l at writes) (permits (with_types b m') (with_bytes w z) renumbered at writes) (permits-same w z at writes h)
        (either_alike b.types m' (permits b w l at writes) d d' _ _ g (fails_alike b.types m' (undefined_behaviour EffectiveTypes WrongType) (Some p.prov) w z t h))

    -- 6.3.2.1p2: a read
    reads_at-alike : (p : Pointer) (rivals : List Access) (at : Reach) (w : World) (z : Store) (t : Told) → Alikes b.types m' w z
        → AlikeDone b.types m' (reads_at b l p rivals at w t) (reads_at (with_types b m') renumbered p rivals at (with_bytes w z) t)
    reads_at-alike p rivals at w z t h =
        permitted-alike w z at false p t _ _ h
        (either_alike b.types m' (conflicts (access_to l p false) rivals) _ _ _ _ (fails_alike b.types m' (undefined_behaviour Sequencing Unsequenced) (Some p.prov) w z t h)
        (worth_in-alike b.types m' w z (bytes_from w.memory.bytes at.address l.size) (bytes_from z at.address l.size) l.shape (Some at.address) (Some p.prov) t
        (alike_read b.types m' w.memory.bytes z at.address l.size h) h))

    reads_from-alike : (p : Pointer) (rivals : List Access) (w : World) (z : Store) → Alikes b.types m' w z
        → AlikeDone b.types m' (reads_from b l p rivals w) (reads_from (with_types b m') renumbered p rivals (with_bytes w z))
    reads_from-alike p rivals w z h =
        reaching-alike b.types m' p l.size l.align false w z (reads_at b l p rivals) (reads_at (with_types b m') renumbered p rivals) h (λ at w z t h. reads_at-alike p rivals at w z t h)

    -- 6.5.16p3: a write
    module _ (marks : l.shape ≢ shape.Whole → (j : ℕ) → AcceptedAlike b.types m' (l.number, j) (k, j)) (v v' : Worth) (g : AlikeWorth b.types m' v v') (from : Option ℕ) where
      writes_alone-alike : (p : Pointer) (at : Reach) (w : World) (z : Store) (t : Told) → Alikes b.types m' w z
          → AlikeDone b.types m' (writes_alone l p v from at w t) (writes_alone renumbered p v' from at (with_bytes w z) t)
      writes_alone-alike p at w z t h =
          let xs : List Byte = stored_as l.number l.shape v in
          let xs' : List Byte = stored_as k l.shape v' in
          either_alike b.types m' (is_inexact from p.address l.size) _ _ _ _ (fails_alike b.types m' (undefined_behaviour OverlappingAssignment Overlap) (Some p.prov) w z t h) (
            g,
            record {
              bytes = with_bytes_at z at.address xs';
              is = refl;
              alike = alike_written b.types m' w.memory.bytes z at.address xs xs' h (stored-alike b.types m' l.shape l.number k v v' marks g);
            },
            refl,
          )

      writes_at-alike : (p : Pointer) (rivals : List Access) (at : Reach) (w : World) (z : Store) (t : Told) → Alikes b.types m' w z
          → AlikeDone b.types m' (writes_at b l p v from rivals at w t) (writes_at (with_types b m') renumbered p v' from rivals at (with_bytes w z) t)
      writes_at-alike p rivals at w z t h =
          permitted-alike w z at true p t _ _ h
          (either_alike b.types m' (conflicts (access_to l p true) rivals) _ _ _ _ (fails_alike b.types m' (undefined_behaviour Sequencing Unsequenced) (Some p.prov) w z t h) (writes_alone-alike p at w z t h))

      writes_to-alike : (p : Pointer) (rivals : List Access) (w : World) (z : Store) → Alikes b.types m' w z
          → AlikeDone b.types m' (writes_to b l p from rivals w v) (writes_to (with_types b m') renumbered p from rivals (with_bytes w z) v')
      writes_to-alike p rivals w z h =
          reaching-alike b.types m' p l.size l.align true w z (writes_at b l p v from rivals) (writes_at (with_types b m') renumbered p v' from rivals) h (λ at w z t h. writes_at-alike p rivals at w z t h)

  -- through lvalues that are alike, at places that are
  pub reads-alike : (l l' : Lvalue) (p p' : Worth) (rivals : List Access) → AlikeLvalue b.types m' l l' → AlikeWorth b.types m' p p' → (w : World) (z : Store) → Alikes b.types m' w z
      → AlikeDone b.types m' (reads b l p rivals w) (reads (with_types b m') l' p' rivals (with_bytes w z))
  reads-alike l l' p p' rivals e g w z h =
      at_one (λ x. AlikeDone b.types m' (reads b l p rivals w) (reads (with_types b m') x p' rivals (with_bytes w z))) (record l { number = e.number }) l' e.is
      (at_one (λ q. AlikeDone b.types m' (reads b l p rivals w) (reads_from (with_types b m') (record l { number = e.number }) q rivals (with_bytes w z))) (pointer_of p) (pointer_of p')
      (pointer-same b.types m' p p' g) (reads_from-alike l e.number (pointer_of p) rivals w z h))

  pub writes-alike : (l l' : Lvalue) (p p' v v' : Worth) (from : Option ℕ) (rivals : List Access) → AlikeLvalue b.types m' l l' → AlikeWorth b.types m' p p' → AlikeWorth b.types m' v v'
      → (w : World) (z : Store) → Alikes b.types m' w z → AlikeDone b.types m' (writes b l p v from rivals w) (writes (with_types b m') l' p' v' from rivals (with_bytes w z))
  writes-alike l l' p p' v v' from rivals e g f w z h =
      at_one (λ x. AlikeDone b.types m' (writes b l p v from rivals w) (writes (with_types b m') x p' v' from rivals (with_bytes w z))) (record l { number = e.number }) l' e.is
      (present_alike b.types m' w z v v' _ _ h f
      (at_one (λ q. AlikeDone b.types m' (writes_to b l (pointer_of p) from rivals w v) (writes_to (with_types b m') (record l { number = e.number }) q from rivals (with_bytes w z) v'))
      (pointer_of p) (pointer_of p') (pointer-same b.types m' p p' g) (writes_to-alike l e.number e.marks v v' f from (pointer_of p) rivals w z h)))

  pub takes_part-alike : (offset : ℕ) (l l' : Lvalue) (v v' : Worth) → AlikeLvalue b.types m' l l' → AlikeWorth b.types m' v v' → (w : World) (z : Store) → Alikes b.types m' w z
      → AlikeDone b.types m' (takes_part offset l v w) (takes_part offset l' v' (with_bytes w z))
  takes_part-alike offset l l' v v' e g w z h =
      at_one (λ x. AlikeDone b.types m' (takes_part offset l v w) (takes_part offset x v' (with_bytes w z))) (record l { number = e.number }) l' e.is
      (takes_bytes-alike b.types m' offset l.size l.shape v v' g w z h)
