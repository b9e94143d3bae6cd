-- Calls of the library (C17 7.21.6, 7.22.3, 7.22.4, 7.24) in both runs.
use Rattle.std.proofs.Common.{◌≡◌, ℕ, ℤ, pos, zero, suc, ◌+◌, Bool, true, false, ◌&&◌, not, cond, eqb, List, [], ◌∷◌, ◌++◌, map, length, Ok, refl, sym, ap, subst}
use Rattle.pv_num.specs.declared.kinds.IntKind.TheVariants.{UChar}
use Rattle.pv_fault.specs.declared.faults.Clause.TheVariants as clause
use Rattle.pv_fault.specs.declared.faults.Reason.TheVariants as reason
use Rattle.pv_num.specs.Kinds.{bits_of}
use Rattle.pv_inst.specs.Table.{Table}
use Rattle.pv_object.specs.declared.values.Asker.TheVariants.{Text}
use Rattle.pv_object.specs.declared.values.Pointer.{Pointer}
use Rattle.pv_object.specs.declared.values.Reach.{Reach}
use Rattle.pv_object.specs.declared.values.Value.TheVariants as value
use Rattle.pv_object.specs.Access.{fault}
use Rattle.pv_object.specs.Copying.{with_bytes, after_copy}
use Rattle.pv_libc.specs.declared.values.Note.{Note}
use Rattle.pv_libc.specs.declared.values.Reply.{Reply}
use Rattle.pv_libc.specs.declared.values.Reply.TheVariants as reply
use Rattle.pv_libc.specs.Steps.{Now, Did, answer_now, stop_now, with_more_notes, next, reach_for, in_memory}
use Rattle.pv_libc.specs.Characters.{character_at, characters_from, most, string_at}
use Rattle.pv_libc.specs.Blocks.{plain_byte, after_filling, share, answers, copy, memset, difference, memcmp, sign_of}
use Rattle.pv_libc.specs.Strings.{strlen, compared_from, strcpy}
use Rattle.pv_libc.specs.StringParts.{compared_by, strcmp}
use Rattle.pv_exec.proofs.Memory.Rows.{Leads, led-itself}
use Rattle.pv_exec.proofs.Settling.Sides.{on_memory, Allows, Covers}
use Rattle.pv_exec.proofs.Settling.Pointers.{Equal}
use Rattle.pv_exec.proofs.Settling.Reaching.{Reaches}
use Rattle.pv_exec.proofs.Settling.Steps.{on_now, Beside, Goes, done-goes, either-goes, next-goes, reached-goes, same-reach, at-goes, row-goes, far-goes, text-goes}

module _ (F : Type 0) (full : F) (ds : List Bool) where
  -- a step that changes bytes and answers
  bytes-goes : {A : Type 0} (a : A) (f f' : Now → Did A) → ((S : Now) → (f S).answer ≡ Ok a) → ((S : Now) → (f' S).answer ≡ Ok a) → ((S : Now) → (f S).after.memory.table ≡ S.memory.table)
      → ((S : Now) (ns : List Note) → (f' (on_now ds ns S)).after.memory ≡ on_memory ds (f S).after.memory) → Goes F ds A Equal f f'
  bytes-goes a f f' e g h k = record {
    leads = λ S. subst (λ (T : Table). Leads F S.memory.table T) (sym (h S)) led-itself;
    covers = λ S c. subst (λ (T : Table). Covers ds T.pairs) (sym (h S)) c;
    walks = λ S ns so al c.
        subst (λ x. Beside ds Equal x (f S).after.memory (f' (on_now ds ns S)).answer (f' (on_now ds ns S)).after.memory) (sym (e S))
        (subst (λ x. Beside ds Equal (Ok a) (f S).after.memory x (f' (on_now ds ns S)).after.memory) (sym (g (on_now ds ns S)))
        (refl, subst (λ (T : Table). Allows ds T.pairs) (sym (h S)) al, k S ns));
  }

  -- blocks
  pub copy-goes : (apart : Bool) (p q : Pointer) (n n' m m' : Note) (k : ℕ)
      → Goes F ds Reply Equal (copy apart (record { pointer = p; stopped = n }) (record { pointer = q; stopped = m }) k) (copy apart (record { pointer = p; stopped = n' }) (record { pointer = q; stopped = m' }) k)
  copy-goes apart p q n n' m m' k =
      next-goes F ds (Reaches k) Equal (same-reach F ds k) (reach_for Text true (record { pointer = p; stopped = n }) k) (reach_for Text true (record { pointer = p; stopped = n' }) k)
      (λ t T. next (reach_for Text false (record { pointer = q; stopped = m }) k T) (λ f U. cond (apart && share p.address q.address k) (stop_now (fault clause.MemcpyOverlap reason.Overlap) (with_more_notes (n ∷ []) U)) (answers (record { pointer = p; stopped = n }) (in_memory U (after_copy U.memory t.address f.address k)))))
      (λ t T. next (reach_for Text false (record { pointer = q; stopped = m' }) k T) (λ f U. cond (apart && share p.address q.address k) (stop_now (fault clause.MemcpyOverlap reason.Overlap) (with_more_notes (n' ∷ []) U)) (answers (record { pointer = p; stopped = n' }) (in_memory U (after_copy U.memory t.address f.address k)))))
      (reached-goes F ds Text true p n n' k)
      (λ t t' h.
      next-goes F ds (Reaches k) Equal (same-reach F ds k) (reach_for Text false (record { pointer = q; stopped = m }) k) (reach_for Text false (record { pointer = q; stopped = m' }) k)
      (λ f U. cond (apart && share p.address q.address k) (stop_now (fault clause.MemcpyOverlap reason.Overlap) (with_more_notes (n ∷ []) U)) (answers (record { pointer = p; stopped = n }) (in_memory U (after_copy U.memory t.address f.address k))))
      (λ f U. cond (apart && share p.address q.address k) (stop_now (fault clause.MemcpyOverlap reason.Overlap) (with_more_notes (n' ∷ []) U)) (answers (record { pointer = p; stopped = n' }) (in_memory U (after_copy U.memory t'.address f.address k))))
      (reached-goes F ds Text false q m m' k)
      (λ f f' g.
      either-goes F ds Equal (apart && share p.address q.address k) (λ U. stop_now (fault clause.MemcpyOverlap reason.Overlap) (with_more_notes (n ∷ []) U)) (λ U. stop_now (fault clause.MemcpyOverlap reason.Overlap) (with_more_notes (n' ∷ []) U))
      (λ U. answers (record { pointer = p; stopped = n }) (in_memory U (after_copy U.memory t.address f.address k))) (λ U. answers (record { pointer = p; stopped = n' }) (in_memory U (after_copy U.memory t'.address f'.address k)))
      (record { leads = λ S. led-itself; covers = λ S c. c; walks = λ S ns so al c. tt })
      (bytes-goes (reply.Value (value.Pointer p)) (λ U. answers (record { pointer = p; stopped = n }) (in_memory U (after_copy U.memory t.address f.address k))) (λ U. answers (record { pointer = p; stopped = n' }) (in_memory U (after_copy U.memory t'.address f'.address k)))
      (λ S. refl) (λ S. refl) (λ S. refl) (λ S ns i. after_copy (on_memory ds S.memory) (h.0 i) (g.0 i) k))))

  pub memset-goes : (p : Pointer) (n n' : Note) (c : ℤ) (k : ℕ) → Goes F ds Reply Equal (memset (record { pointer = p; stopped = n }) c k) (memset (record { pointer = p; stopped = n' }) c k)
  memset-goes p n n' c k =
      next-goes F ds (Reaches k) Equal (same-reach F ds k) (reach_for Text true (record { pointer = p; stopped = n }) k) (reach_for Text true (record { pointer = p; stopped = n' }) k)
      (λ r T. answers (record { pointer = p; stopped = n }) (in_memory T (after_filling T.memory r.address k (bits_of UChar c)))) (λ r T. answers (record { pointer = p; stopped = n' }) (in_memory T (after_filling T.memory r.address k (bits_of UChar c))))
      (reached-goes F ds Text true p n n' k)
      (λ r r' h. bytes-goes (reply.Value (value.Pointer p)) (λ T. answers (record { pointer = p; stopped = n }) (in_memory T (after_filling T.memory r.address k (bits_of UChar c)))) (λ T. answers (record { pointer = p; stopped = n' }) (in_memory T (after_filling T.memory r'.address k (bits_of UChar c))))
      (λ S. refl) (λ S. refl) (λ S. refl) (λ S ns i. after_filling (on_memory ds S.memory) (h.0 i) k (bits_of UChar c)))

  pub memcmp-goes : (p q : Pointer) (n n' m m' : Note) (k : ℕ) → Goes F ds Reply Equal (memcmp (record { pointer = p; stopped = n }) (record { pointer = q; stopped = m }) k) (memcmp (record { pointer = p; stopped = n' }) (record { pointer = q; stopped = m' }) k)
  memcmp-goes p q n n' m m' k =
      next-goes F ds (Reaches k) Equal (same-reach F ds k) (reach_for Text false (record { pointer = p; stopped = n }) k) (reach_for Text false (record { pointer = p; stopped = n' }) k)
      (λ l T. next (reach_for Text false (record { pointer = q; stopped = m }) k T) (λ r U. next (characters_from k (record { pointer = p; stopped = n }) l.address [] U) (λ ls V. next (characters_from k (record { pointer = q; stopped = m }) r.address [] V) (λ rs W. answer_now (reply.Value (value.Int (difference ls rs))) W))))
      (λ l T. next (reach_for Text false (record { pointer = q; stopped = m' }) k T) (λ r U. next (characters_from k (record { pointer = p; stopped = n' }) l.address [] U) (λ ls V. next (characters_from k (record { pointer = q; stopped = m' }) r.address [] V) (λ rs W. answer_now (reply.Value (value.Int (difference ls rs))) W))))
      (reached-goes F ds Text false p n n' k)
      (λ l l' h.
      next-goes F ds (Reaches k) Equal (same-reach F ds k) (reach_for Text false (record { pointer = q; stopped = m }) k) (reach_for Text false (record { pointer = q; stopped = m' }) k)
      (λ r U. next (characters_from k (record { pointer = p; stopped = n }) l.address [] U) (λ ls V. next (characters_from k (record { pointer = q; stopped = m }) r.address [] V) (λ rs W. answer_now (reply.Value (value.Int (difference ls rs))) W)))
      (λ r U. next (characters_from k (record { pointer = p; stopped = n' }) l'.address [] U) (λ ls V. next (characters_from k (record { pointer = q; stopped = m' }) r.address [] V) (λ rs W. answer_now (reply.Value (value.Int (difference ls rs))) W)))
      (reached-goes F ds Text false q m m' k)
      (λ r r' g.
      subst (λ a. Goes F ds Reply Equal (rest r l.address) (rest' r' a)) (sym h.0)
      (subst (λ a. Goes F ds Reply Equal (rest r l.address) (λ U. next (characters_from k (record { pointer = p; stopped = n' }) l.address [] U) (λ ls V. next (characters_from k (record { pointer = q; stopped = m' }) a [] V) (λ rs W. answer_now (reply.Value (value.Int (difference ls rs))) W)))) (sym g.0)
      (next-goes F ds Equal Equal (λ a. refl) (characters_from k (record { pointer = p; stopped = n }) l.address []) (characters_from k (record { pointer = p; stopped = n' }) l.address [])
      (λ ls V. next (characters_from k (record { pointer = q; stopped = m }) r.address [] V) (λ rs W. answer_now (reply.Value (value.Int (difference ls rs))) W)) (λ ls V. next (characters_from k (record { pointer = q; stopped = m' }) r.address [] V) (λ rs W. answer_now (reply.Value (value.Int (difference ls rs))) W))
      (row-goes F ds k p n n' l.address [])
      (λ ls ls' e.
      subst (λ x. Goes F ds Reply Equal (λ V. next (characters_from k (record { pointer = q; stopped = m }) r.address [] V) (λ rs W. answer_now (reply.Value (value.Int (difference ls rs))) W)) (λ V. next (characters_from k (record { pointer = q; stopped = m' }) r.address [] V) (λ rs W. answer_now (reply.Value (value.Int (difference x rs))) W))) (sym e)
      (next-goes F ds Equal Equal (λ a. refl) (characters_from k (record { pointer = q; stopped = m }) r.address []) (characters_from k (record { pointer = q; stopped = m' }) r.address [])
      (λ rs W. answer_now (reply.Value (value.Int (difference ls rs))) W) (λ rs W. answer_now (reply.Value (value.Int (difference ls rs))) W)
      (row-goes F ds k q m m' r.address [])
      (λ rs rs' f. done-goes F ds Equal (reply.Value (value.Int (difference ls rs))) (reply.Value (value.Int (difference ls rs'))) (ap (λ x. reply.Value (value.Int (difference ls x))) f))))))))
    where
      rest : Reach → ℕ → Now → Did Reply
      rest r a U = next (characters_from k (record { pointer = p; stopped = n }) a [] U) (λ ls V. next (characters_from k (record { pointer = q; stopped = m }) r.address [] V) (λ rs W. answer_now (reply.Value (value.Int (difference ls rs))) W))

      rest' : Reach → ℕ → Now → Did Reply
      rest' r a U = next (characters_from k (record { pointer = p; stopped = n' }) a [] U) (λ ls V. next (characters_from k (record { pointer = q; stopped = m' }) r.address [] V) (λ rs W. answer_now (reply.Value (value.Int (difference ls rs))) W))

  -- strings
  pub strlen-goes : (p : Pointer) (n n' : Note) → Goes F ds Reply Equal (strlen (record { pointer = p; stopped = n })) (strlen (record { pointer = p; stopped = n' }))
  strlen-goes p n n' =
      next-goes F ds Equal Equal (λ a. refl) (string_at Text (record { pointer = p; stopped = n })) (string_at Text (record { pointer = p; stopped = n' }))
      (λ s T. answer_now (reply.Value (value.Int (pos (length s)))) T) (λ s T. answer_now (reply.Value (value.Int (pos (length s)))) T)
      (text-goes F ds Text p n n') (λ s s' e. done-goes F ds Equal (reply.Value (value.Int (pos (length s)))) (reply.Value (value.Int (pos (length s')))) (ap (λ x. reply.Value (value.Int (pos (length x)))) e))

  by-goes : (a b : ℕ) (f f' : Now → Did Reply) → Goes F ds Reply Equal f f' → Goes F ds Reply Equal (λ S. compared_by a b S (f S)) (λ S. compared_by a b S (f' S))
  by-goes a b f f' h =
      either-goes F ds Equal (not (eqb a b)) (answer_now (reply.Value (value.Int (sign_of a b)))) (answer_now (reply.Value (value.Int (sign_of a b)))) (λ S. cond (eqb a 0) (answer_now (reply.Value (value.Int (pos 0))) S) (f S)) (λ S. cond (eqb a 0) (answer_now (reply.Value (value.Int (pos 0))) S) (f' S))
      (done-goes F ds Equal (reply.Value (value.Int (sign_of a b))) (reply.Value (value.Int (sign_of a b))) refl)
      (either-goes F ds Equal (eqb a 0) (answer_now (reply.Value (value.Int (pos 0)))) (answer_now (reply.Value (value.Int (pos 0)))) f f' (done-goes F ds Equal (reply.Value (value.Int (pos 0))) (reply.Value (value.Int (pos 0))) refl) h)

  pub compared-goes : (k : ℕ) (p q : Pointer) (n n' m m' : Note) (i : ℕ) → Goes F ds Reply Equal (compared_from k (record { pointer = p; stopped = n }) (record { pointer = q; stopped = m }) i) (compared_from k (record { pointer = p; stopped = n' }) (record { pointer = q; stopped = m' }) i)
  compared-goes zero p q n n' m m' i = far-goes F ds Equal Text p n n'
  compared-goes (suc k) p q n n' m m' i =
      next-goes F ds Equal Equal (λ a. refl) (character_at Text (record { pointer = p; stopped = n }) i) (character_at Text (record { pointer = p; stopped = n' }) i)
      (λ a T. next (character_at Text (record { pointer = q; stopped = m }) i T) (λ b U. compared_by a b U (compared_from k (record { pointer = p; stopped = n }) (record { pointer = q; stopped = m }) (i + 1) U)))
      (λ a T. next (character_at Text (record { pointer = q; stopped = m' }) i T) (λ b U. compared_by a b U (compared_from k (record { pointer = p; stopped = n' }) (record { pointer = q; stopped = m' }) (i + 1) U)))
      (at-goes F ds Text p n n' i)
      (λ a a' e.
      subst (λ x. Goes F ds Reply Equal (λ T. next (character_at Text (record { pointer = q; stopped = m }) i T) (λ b U. compared_by a b U (compared_from k (record { pointer = p; stopped = n }) (record { pointer = q; stopped = m }) (i + 1) U)))
      (λ T. next (character_at Text (record { pointer = q; stopped = m' }) i T) (λ b U. compared_by x b U (compared_from k (record { pointer = p; stopped = n' }) (record { pointer = q; stopped = m' }) (i + 1) U)))) (sym e)
      (next-goes F ds Equal Equal (λ a. refl) (character_at Text (record { pointer = q; stopped = m }) i) (character_at Text (record { pointer = q; stopped = m' }) i)
      (λ b U. compared_by a b U (compared_from k (record { pointer = p; stopped = n }) (record { pointer = q; stopped = m }) (i + 1) U)) (λ b U. compared_by a b U (compared_from k (record { pointer = p; stopped = n' }) (record { pointer = q; stopped = m' }) (i + 1) U))
      (at-goes F ds Text q m m' i)
      (λ b b' f.
      subst (λ x. Goes F ds Reply Equal (λ U. compared_by a b U (compared_from k (record { pointer = p; stopped = n }) (record { pointer = q; stopped = m }) (i + 1) U)) (λ U. compared_by a x U (compared_from k (record { pointer = p; stopped = n' }) (record { pointer = q; stopped = m' }) (i + 1) U))) (sym f)
      (by-goes a b (compared_from k (record { pointer = p; stopped = n }) (record { pointer = q; stopped = m }) (i + 1)) (compared_from k (record { pointer = p; stopped = n' }) (record { pointer = q; stopped = m' }) (i + 1)) (compared-goes k p q n n' m m' (i + 1))))))

  pub strcmp-goes : (p q : Pointer) (n n' m m' : Note) → Goes F ds Reply Equal (strcmp (record { pointer = p; stopped = n }) (record { pointer = q; stopped = m })) (strcmp (record { pointer = p; stopped = n' }) (record { pointer = q; stopped = m' }))
  strcmp-goes p q n n' m m' = compared-goes most p q n n' m m' 0

  pub strcpy-goes : (p q : Pointer) (n n' m m' : Note) → Goes F ds Reply Equal (strcpy (record { pointer = p; stopped = n }) (record { pointer = q; stopped = m })) (strcpy (record { pointer = p; stopped = n' }) (record { pointer = q; stopped = m' }))
  strcpy-goes p q n n' m m' =
      next-goes F ds Equal Equal (λ a. refl) (string_at Text (record { pointer = q; stopped = m })) (string_at Text (record { pointer = q; stopped = m' })) (behind n) (behind n') (text-goes F ds Text q m m')
      (λ s s' e. subst (λ x. Goes F ds Reply Equal (behind n s) (behind n' x)) (sym e) (behind-goes s))
    where
      behind : Note → List ℕ → Now → Did Reply
      behind n s T =
          next (reach_for Text true (record { pointer = p; stopped = n }) (length s + 1) T) (λ t U.
          cond (share p.address q.address (length s + 1)) (stop_now (fault clause.StrcpyOverlap reason.Overlap) (with_more_notes (n ∷ []) U))
          (answers (record { pointer = p; stopped = n }) (in_memory U (with_bytes U.memory t.address (map plain_byte (s ++ 0 ∷ []))))))

      behind-goes : (s : List ℕ) → Goes F ds Reply Equal (behind n s) (behind n' s)
      behind-goes s =
          next-goes F ds (Reaches (length s + 1)) Equal (same-reach F ds (length s + 1)) (reach_for Text true (record { pointer = p; stopped = n }) (length s + 1)) (reach_for Text true (record { pointer = p; stopped = n' }) (length s + 1))
          (λ t U. cond (share p.address q.address (length s + 1)) (stop_now (fault clause.StrcpyOverlap reason.Overlap) (with_more_notes (n ∷ []) U)) (answers (record { pointer = p; stopped = n }) (in_memory U (with_bytes U.memory t.address (map plain_byte (s ++ 0 ∷ []))))))
          (λ t U. cond (share p.address q.address (length s + 1)) (stop_now (fault clause.StrcpyOverlap reason.Overlap) (with_more_notes (n' ∷ []) U)) (answers (record { pointer = p; stopped = n' }) (in_memory U (with_bytes U.memory t.address (map plain_byte (s ++ 0 ∷ []))))))
          (reached-goes F ds Text true p n n' (length s + 1))
          (λ t t' h.
          either-goes F ds Equal (share p.address q.address (length s + 1)) (λ U. stop_now (fault clause.StrcpyOverlap reason.Overlap) (with_more_notes (n ∷ []) U)) (λ U. stop_now (fault clause.StrcpyOverlap reason.Overlap) (with_more_notes (n' ∷ []) U))
          (λ U. answers (record { pointer = p; stopped = n }) (in_memory U (with_bytes U.memory t.address (map plain_byte (s ++ 0 ∷ []))))) (λ U. answers (record { pointer = p; stopped = n' }) (in_memory U (with_bytes U.memory t'.address (map plain_byte (s ++ 0 ∷ [])))))
          (record { leads = λ S. led-itself; covers = λ S c. c; walks = λ S ns so al c. tt })
          (bytes-goes (reply.Value (value.Pointer p)) (λ U. answers (record { pointer = p; stopped = n }) (in_memory U (with_bytes U.memory t.address (map plain_byte (s ++ 0 ∷ []))))) (λ U. answers (record { pointer = p; stopped = n' }) (in_memory U (with_bytes U.memory t'.address (map plain_byte (s ++ 0 ∷ [])))))
          (λ S. refl) (λ S. refl) (λ S. refl) (λ S ns i. with_bytes (on_memory ds S.memory) (h.0 i) (map plain_byte (s ++ 0 ∷ [])))))
