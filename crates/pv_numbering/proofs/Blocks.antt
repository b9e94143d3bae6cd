-- Functions on ranges of bytes and on strings in stores that are alike (C17 7.24).
use Rattle.std.proofs.Common.{ℕ, ℤ, zero, suc, pos, ◌+◌, ◌==◌, not, Bool, true, false, ◌&&◌, List, [], ◌∷◌, ◌++◌, map, length, Some, None, if◌then◌else◌, refl}
use Rattle.std.specs.List.{repeat}
use Rattle.pv_num.specs.declared.kinds.IntKind.TheVariants.{UChar}
use Rattle.pv_fault.specs.declared.faults.Clause.TheVariants as clause
use Rattle.pv_fault.specs.declared.faults.Reason.TheVariants as reason
use Rattle.pv_num.specs.Kinds.{bits_of}
use Rattle.pv_prov.specs.declared.names.Prov.TheVariants.{Empty}
use Rattle.pv_types.specs.Known.{Known}
use Rattle.pv_shadow.specs.declared.byte.Byte.{Byte}
use Rattle.pv_shadow.specs.Bytes.{Store, bytes_from, with_bytes_at}
use Rattle.pv_object.specs.declared.values.Pointer.{Pointer}
use Rattle.pv_object.specs.declared.values.Reach.{Reach}
use Rattle.pv_object.specs.declared.values.Value.TheVariants as value
use Rattle.pv_object.specs.declared.values.Asker.TheVariants.{Text}
use Rattle.pv_object.specs.Access.{fault}
use Rattle.pv_object.specs.Copying.{with_bytes, after_copy}
use Rattle.pv_libc.specs.declared.values.Note.{Note}
use Rattle.pv_libc.specs.declared.values.Reply.{Reply}
use Rattle.pv_libc.specs.declared.values.Reply.TheVariants as reply
use Rattle.pv_libc.specs.Steps.{Now, Did, answer_now, stop_now, next, with_more_notes, in_memory, reach_for}
use Rattle.pv_libc.specs.Characters.{character_at, characters_from, most}
use Rattle.pv_libc.specs.Blocks.{plain_byte, after_filling, share, answers, copy, memset, difference, memcmp, sign_of}
use Rattle.pv_libc.specs.Strings.{strlen, compared_from, strcpy}
use Rattle.pv_libc.specs.StringParts.{compared_by, strcmp}
use Rattle.pv_numbering.proofs.Marks.{AlikeByte, AlikeStores}
use Rattle.pv_numbering.proofs.Bytes.{alike_read, alike_written, alike_repeat, alike_map, unmarked}
use Rattle.pv_numbering.proofs.Steps.{at_bytes, AlikeDid, Keeps, done-keeps, either-keeps, next-alike, reached-keeps, character_at-keeps, characters-keep, too_far-keeps, string-keeps}

module _ (m m' : Known) where
  plain-alike : (v : ℕ) → AlikeByte m m' (plain_byte v) (plain_byte v)
  plain-alike v = unmarked m m' (Some v) Empty None

  -- bytes that are written get no mark
  pub fills-alike : (b b' : Store) (a n v : ℕ) → AlikeStores m m' b b' → AlikeStores m m' (with_bytes_at b a (repeat n (plain_byte v ∷ []))) (with_bytes_at b' a (repeat n (plain_byte v ∷ [])))
  fills-alike b b' a n v h = let xs : List Byte = repeat n (plain_byte v ∷ []) in alike_written m m' b b' a xs xs h (alike_repeat m m' n (plain_byte v) (plain-alike v))

  -- bytes that are copied keep theirs
  pub copies-alike : (b b' : Store) (to from n : ℕ) → AlikeStores m m' b b' → AlikeStores m m' (with_bytes_at b to (bytes_from b from n)) (with_bytes_at b' to (bytes_from b' from n))
  copies-alike b b' to from n h = alike_written m m' b b' to (bytes_from b from n) (bytes_from b' from n) h (alike_read m m' b b' from n h)

  -- 7.24.2.1, 7.24.2.2
  abbrev copied_to : (c : Bool) (note : Note) (p : Pointer) (n : ℕ) (t f : Reach) → Now → Did Reply
  copied_to c note p n t f U =
      if c then stop_now (fault clause.MemcpyOverlap reason.Overlap) (with_more_notes (note ∷ []) U)
      else answer_now (reply.Value (value.Pointer p)) (in_memory U (after_copy U.memory t.address f.address n))

  copied_to-keeps : (c : Bool) (note : Note) (p : Pointer) (n : ℕ) (t f : Reach) → Keeps m m' Reply (copied_to c note p n t f)
  copied_to-keeps true note p n t f U b h = record { bytes = b; is = refl; alike = h }
  copied_to-keeps false note p n t f U b h = record { bytes = with_bytes_at b t.address (bytes_from b f.address n); is = refl; alike = copies-alike U.memory.bytes b t.address f.address n h }

  pub copy-keeps : (apart : Bool) (to from : _) (n : ℕ) → Keeps m m' Reply (copy apart to from n)
  copy-keeps apart to from n S b h =
      let c : Bool = apart && share to.pointer.address from.pointer.address n in
      next-alike m m' Reach Reply _ _ (λ t T. next (reach_for Text false from n T) (copied_to c to.stopped to.pointer n t)) (reached-keeps m m' Text true to n S b h)
      (λ t T b h. next-alike m m' Reach Reply _ _ (copied_to c to.stopped to.pointer n t) (reached-keeps m m' Text false from n T b h) (copied_to-keeps c to.stopped to.pointer n t))

  -- 7.24.6.1
  pub memset-keeps : (g : _) (c : ℤ) (n : ℕ) → Keeps m m' Reply (memset g c n)
  memset-keeps g c n S b h =
      let v : ℕ = bits_of UChar c in
      next-alike m m' Reach Reply _ _ (λ r T. answers g (in_memory T (after_filling T.memory r.address n v))) (reached-keeps m m' Text true g n S b h)
      (λ r T b h. record { bytes = with_bytes_at b r.address (repeat n (plain_byte v ∷ [])); is = refl; alike = fills-alike T.memory.bytes b r.address n v h })

  -- 7.24.4.1
  pub memcmp-keeps : (p q : _) (n : ℕ) → Keeps m m' Reply (memcmp p q n)
  memcmp-keeps p q n S b h =
      next-alike m m' Reach Reply _ _
      (λ l T. next (reach_for Text false q n T) (λ r U. next (characters_from n p l.address [] U) (λ ls V. next (characters_from n q r.address [] V) (λ rs W. answer_now (reply.Value (value.Int (difference ls rs))) W))))
      (reached-keeps m m' Text false p n S b h)
      (λ l T b h. next-alike m m' Reach Reply _ _
      (λ r U. next (characters_from n p l.address [] U) (λ ls V. next (characters_from n q r.address [] V) (λ rs W. answer_now (reply.Value (value.Int (difference ls rs))) W)))
      (reached-keeps m m' Text false q n T b h)
      (λ r U b h. next-alike m m' (List ℕ) Reply _ _
      (λ ls V. next (characters_from n q r.address [] V) (λ rs W. answer_now (reply.Value (value.Int (difference ls rs))) W))
      (characters-keep m m' n p l.address [] U b h)
      (λ ls V b h. next-alike m m' (List ℕ) Reply _ _ (λ rs W. answer_now (reply.Value (value.Int (difference ls rs))) W) (characters-keep m m' n q r.address [] V b h)
      (λ rs. done-keeps m m' Reply (reply.Value (value.Int (difference ls rs)))))))

  -- 7.24.6.3
  pub strlen-keeps : (g : _) → Keeps m m' Reply (strlen g)
  strlen-keeps g S b h =
      next-alike m m' (List ℕ) Reply _ _ (λ s T. answer_now (reply.Value (value.Int (pos (length s)))) T) (string-keeps m m' Text g S b h) (λ s. done-keeps m m' Reply (reply.Value (value.Int (pos (length s)))))

  -- 7.24.4.2
  compared-alike : (x y : ℕ) (S : Now) (b : Store) (d d' : Did Reply) → AlikeStores m m' S.memory.bytes b → AlikeDid m m' Reply d d' → AlikeDid m m' Reply (compared_by x y S d) (compared_by x y (at_bytes S b) d')
  compared-alike x y S b d d' h k =
      either-keeps m m' Reply (not (x == y)) _ _ _ _ (done-keeps m m' Reply (reply.Value (value.Int (sign_of x y))) S b h)
      (either-keeps m m' Reply (x == 0) _ _ d d' (done-keeps m m' Reply (reply.Value (value.Int (pos 0))) S b h) k)

  compares-keep : (k : ℕ) (p q : _) (i : ℕ) → Keeps m m' Reply (compared_from k p q i)
  compares-keep zero p q i S b h = too_far-keeps m m' Reply Text p S b h
  compares-keep (suc k) p q i S b h =
      next-alike m m' ℕ Reply _ _ (λ x T. next (character_at Text q i T) (λ y U. compared_by x y U (compared_from k p q (i + 1) U))) (character_at-keeps m m' Text p i S b h)
      (λ x T b h. next-alike m m' ℕ Reply _ _ (λ y U. compared_by x y U (compared_from k p q (i + 1) U)) (character_at-keeps m m' Text q i T b h)
      (λ y U b h. compared-alike x y U b _ _ h (compares-keep k p q (i + 1) U b h)))

  pub strcmp-keeps : (p q : _) → Keeps m m' Reply (strcmp p q)
  strcmp-keeps p q = compares-keep most p q 0

  -- 7.24.2.3
  abbrev put_to : (c : Bool) (note : Note) (p : Pointer) (s : List ℕ) (t : Reach) → Now → Did Reply
  put_to c note p s t U =
      if c then stop_now (fault clause.StrcpyOverlap reason.Overlap) (with_more_notes (note ∷ []) U)
      else answer_now (reply.Value (value.Pointer p)) (in_memory U (with_bytes U.memory t.address (map plain_byte (s ++ 0 ∷ []))))

  put_to-keeps : (c : Bool) (note : Note) (p : Pointer) (s : List ℕ) (t : Reach) → Keeps m m' Reply (put_to c note p s t)
  put_to-keeps true note p s t U b h = record { bytes = b; is = refl; alike = h }
  put_to-keeps false note p s t U b h =
      let xs : List Byte = map plain_byte (s ++ 0 ∷ []) in
      record { bytes = with_bytes_at b t.address xs; is = refl; alike = alike_written m m' U.memory.bytes b t.address xs xs h (alike_map m m' plain_byte plain-alike (s ++ 0 ∷ [])) }

  pub strcpy-keeps : (to from : _) → Keeps m m' Reply (strcpy to from)
  strcpy-keeps to from S b h =
      next-alike m m' (List ℕ) Reply _ _ (λ s T. next (reach_for Text true to (length s + 1) T) (put_to (share to.pointer.address from.pointer.address (length s + 1)) to.stopped to.pointer s)) (string-keeps m m' Text from S b h)
      (λ s T b h. next-alike m m' Reach Reply _ _ (put_to (share to.pointer.address from.pointer.address (length s + 1)) to.stopped to.pointer s) (reached-keeps m m' Text true to (length s + 1) T b h)
      (put_to-keeps (share to.pointer.address from.pointer.address (length s + 1)) to.stopped to.pointer s))
