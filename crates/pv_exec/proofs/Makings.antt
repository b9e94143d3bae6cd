-- The objects of blocks, and the statements of lists.
use Rattle.std.proofs.Common.{◌≡◌, ℕ, ◌+◌, ◌<◌, List, ◌∷◌, sym, ap, ◌∙◌, subst}
use Rattle.std.specs.Prelude.{drop, length, slice_index, Err}
use Rattle.std.proofs.lemmas.List.{drop_more}
use Rattle.pv_typed.specs.TypedUnits.{object_at}
use Rattle.pv_eval.specs.Moments.{Made}
use Rattle.pv_eval.specs.Operations.{Makes, Ends, act}
use Rattle.pv_eval.specs.States.{Setting, State, Res, Gives, then_do}
use Rattle.pv_exec.specs.OfRuns.{end_all}
use Rattle.pv_exec.specs.Lists.{make_all}
use Rattle.pv_world.specs.Worlds.{Worth, Nothing}
use Rattle.pv_eval.specs.declared.failure.Failure.{Failure}
use Rattle.pv_exec.proofs.Pieces.{made-stops, made-is}

pub make-stops : (b : Setting) (os : List ℕ) (i line : ℕ) (e : Failure) (s s' : State) → i < length os → (object_at b.unit (slice_index os i)).line ≡ line → Made (act b line (Makes (slice_index os i)) s) (Err e) s' → Made (make_all b (drop i os) s) (Err e) s'
make-stops b os i line e s s' lt is h =
    let o = slice_index os i in
    made-is (make_all b (o ∷ drop (i + 1) os) s) _ (Err e) s' (ap (λ xs. make_all b xs s) (drop_more os i 0 lt))
    (made-stops (act b (object_at b.unit o).line (Makes o) s) (λ v s. make_all b (drop (i + 1) os) s) e s' (subst (λ n. Made (act b n (Makes o) s) (Err e) s') (sym is) h))

pub make-more : (b : Setting) (os : List ℕ) (i line : ℕ) (s s' : State) → i < length os → (object_at b.unit (slice_index os i)).line ≡ line → act b line (Makes (slice_index os i)) s ≡ Gives Nothing s' → make_all b (drop i os) s ≡ make_all b (drop (i + 1) os) s'
make-more b os i line s s' lt is h =
    let o = slice_index os i in
    ap (λ xs. make_all b xs s) (drop_more os i 0 lt)
    ∙ ap (λ n. then_do (act b n (Makes o) s) (λ v s. make_all b (drop (i + 1) os) s)) is
    ∙ ap (λ (r : Res Worth). then_do r (λ v s. make_all b (drop (i + 1) os) s)) h

pub end-more : (b : Setting) (os : List ℕ) (i : ℕ) (s s' : State) → i < length os → act b (object_at b.unit (slice_index os i)).line (Ends (slice_index os i)) s ≡ Gives Nothing s' → end_all b (drop i os) s ≡ end_all b (drop (i + 1) os) s'
end-more b os i s s' lt h =
    ap (λ xs. end_all b xs s) (drop_more os i 0 lt)
    ∙ ap (λ (r : Res Worth). then_do r (λ v s. end_all b (drop (i + 1) os) s)) h
