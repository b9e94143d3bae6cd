-- What is done where it can be: makings, ends and stores of objects.
use Rattle.std.proofs.Common.{◌≡◌, ℕ, suc, ◌+◌, Bool, List, [], ◌∷◌, length, Some, None, refl, sym, ap, ◌∙◌, subst, append-nil}
use Rattle.std.specs.Prelude.{Ok, Err, ◌&&◌, take}
use Rattle.pv_types.specs.Ty.{Ty}
use Rattle.pv_types.specs.Known.{Known, tree}
use Rattle.pv_types.specs.Layouts.{up_to}
use Rattle.pv_inst.specs.declared.values.CreateError.{CreateError}
use Rattle.pv_inst.specs.declared.values.CreateError.TheVariants as refusal
use Rattle.pv_shadow.specs.declared.byte.Byte.{Byte}
use Rattle.pv_shadow.specs.Whole.{number_bytes}
use Rattle.pv_typed.specs.declared.entries.Object.{Object}
use Rattle.pv_typed.specs.declared.entries.Init.{Init}
use Rattle.pv_typed.specs.TypedUnits.{TypedObject, object_at, literal_at}
use Rattle.pv_typed.specs.Tables.{Stored, whole_unit, nodes, object_in}
use Rattle.pv_watch.specs.declared.event.What.{What}
use Rattle.pv_world.specs.declared.got.Cause.TheVariants as cause
use Rattle.pv_world.specs.declared.got.Failure.TheVariants as failure
use Rattle.pv_world.specs.Worlds.{Worth, Nothing, World}
use Rattle.pv_world.specs.Telling.{no_telling}
use Rattle.pv_world.specs.Doing.{Done, Answers}
use Rattle.pv_world.specs.Coming.{Came, CameMade, Did, Seen, Gave, coming_of, no_worth}
use Rattle.pv_world.specs.declared.got.Shape.{Shape}
use Rattle.pv_world.specs.Accesses.{stored_as}
use Rattle.pv_world.specs.Preconditions.{HasSizeOf}
use Rattle.pv_world.specs.Objects.{instance_of, puts_bytes}
use Rattle.pv_eval.specs.TypeForms.{Lvalue, lvalue, shape_of}
use Rattle.pv_eval.specs.Sizes.{setting_of, size_in, number_in}
use Rattle.pv_world.specs.Suiting.{is_size, has_room}
use Rattle.pv_eval.specs.Objects.{where_possible, text_for}
use Rattle.pv_eval.specs.Stores.{can_store, stores, stores_bytes}
use Rattle.pv_eval.specs.Operations.{Puts, PutsText, does}
use Rattle.pv_eval.proofs.Numbers.{IsKept, kept}
use Rattle.pv_eval.proofs.Settings.{scalar_sized}

-- a request that is refused ends the run
pub refused_stop : (name : ℕ) (e : CreateError) (w : World) (es : List What) (s : Seen) → (e ≡ refusal.NoMemory → ⊥) → CameMade name (Err e) w es s → Came no_worth (Err (failure.Stop (cause.Refused name e))) w es s
refused_stop name refusal.NoMemory w es s n h = absurd (n refl)
refused_stop name (refusal.Storage live size) w es s n h = h
refused_stop name refusal.Denied w es s n h = h
refused_stop name (refusal.Range k a) w es s n h = h
refused_stop name (refusal.Misaligned k a) w es s n h = h
refused_stop name (refusal.Overlap k a with) w es s n h = h

plain_long : (j : ℕ) (vs : List ℕ) → length (number_bytes None j vs) ≡ length vs
plain_long j [] = refl
plain_long j (v ∷ vs) = ap suc (plain_long (j + 1) vs)

-- a scalar type has the size of its scalar
pub shape_sized : (k : Known) (t : Ty) (s : Shape) (n : ℕ) → s ≡ shape_of t → Some n ≡ up_to (size_in k t) → HasSizeOf s n
shape_sized k t s n e h =
    let have : IsKept (size_in k t) n = kept (size_in k t) n (sym h) in
    subst (λ x. HasSizeOf x n) (sym e) (subst (λ m. HasSizeOf (shape_of t) m) have.same (scalar_sized k t))

-- an object of the unit
module _ (u : Stored) (o : ℕ) (x : Object) (inits : List Init) (is : object_at (whole_unit u) o ≡ object_in u.known (nodes u) (x, inits)) where
  -- a store through a type
  module _ (t offset : ℕ) (v : Worth) where
    abbrev through : Lvalue
    through = lvalue (setting_of u) (tree u.known t)

    abbrev stored : Bool → World → Done
    stored c w = where_possible (c && can_store o x.lasting offset through.size through.shape v w) w (puts_bytes o x.lasting offset (stored_as through.number through.shape v) w)

    put_by : (P : Done → Type 0) (w : World) → P (stored (is_size through.size) w) → P (does (setting_of u) (Puts o offset through v) w)
    put_by P w h =
        subst (λ (y : TypedObject). P (where_possible (is_size through.size && can_store o y.lasting offset through.size through.shape v w) w (puts_bytes o y.lasting offset (stored_as through.number through.shape v) w))) (sym is) h

    pub put_so : (k : Known) (size number : ℕ) (shape : Shape) (w z : World) (es : List What) → k ≡ u.known → Some size ≡ up_to (size_in k (tree k t)) → number ≡ number_in k (tree k t) → shape ≡ shape_of (tree k t)
        → Did no_worth (stores o x.lasting offset size number shape v) (Ok tt) w z es es
        → Did no_worth (does (setting_of u) (Puts o offset through v)) (Ok tt) w z es es
    put_so k size number shape w z es e s f g did =
        let n : ℕ = size_in u.known (tree u.known t) in
        let have : IsKept n size = kept n size (sym (subst (λ (m : Known). Some size ≡ up_to (size_in m (tree m t))) e s)) in
        let did1 = subst (λ i. Did no_worth (stores o x.lasting offset size i shape v) (Ok tt) w z es es) (f ∙ ap (λ (m : Known). number_in m (tree m t)) e) did in
        let did2 = subst (λ s. Did no_worth (stores o x.lasting offset size through.number s v) (Ok tt) w z es es) (g ∙ ap (λ (m : Known). shape_of (tree m t)) e) did1 in
        let did3 = subst (λ j. Did no_worth (stores o x.lasting offset j through.number through.shape v) (Ok tt) w z es es) (sym have.same) did2 in
        put_by (λ d. coming_of es w d ≡ Gave Nothing z es) w (subst (λ c. coming_of es w (stored c w) ≡ Gave Nothing z es) (sym have.test) did3)

  -- the first characters of a literal
  module _ (t offset l : ℕ) (text : List ℕ) (given : text ≡ (literal_at (whole_unit u) l).bytes) where
    abbrev placed : (lasting c : Bool) (bytes : List ℕ) → World → Done
    placed lasting c bytes w = where_possible (c && has_room w (instance_of w o lasting) offset (length bytes)) w (puts_bytes o lasting offset (number_bytes None 0 bytes) w)

    text_by : (P : Done → Type 0) (w : World) (size : ℕ) → P (placed x.lasting (is_size size) (take size text) w) → P (does (setting_of u) (PutsText o offset size l) w)
    text_by P w size h =
        subst (λ (y : TypedObject). P (placed y.lasting (is_size size) (text_for (setting_of u) size l) w)) (sym is)
        (subst (λ z. P (placed x.lasting (is_size size) (take size z) w)) given h)

    pub text_so : (k : Known) (size : ℕ) (bytes : List Byte) (w z : World) (es : List What) → k ≡ u.known → Some size ≡ up_to (size_in k (tree k t)) → bytes ≡ number_bytes None 0 (take size text)
        → Did no_worth (stores_bytes o x.lasting offset bytes) (Ok tt) w z es es
        → Did no_worth (does (setting_of u) (PutsText o offset (size_in u.known (tree u.known t)) l)) (Ok tt) w z es es
    text_so k size bytes w z es e s is_bytes did =
        let n : ℕ = size_in u.known (tree u.known t) in
        let have : IsKept n size = kept n size (sym (subst (λ (m : Known). Some size ≡ up_to (size_in m (tree m t))) e s)) in
        let at = λ (m long : ℕ) (w : World). where_possible (has_room w (instance_of w o x.lasting) offset long) w (puts_bytes o x.lasting offset (number_bytes None 0 (take m text)) w) in
        let did1 = subst (λ bs. Did no_worth (stores_bytes o x.lasting offset bs) (Ok tt) w z es es) is_bytes did in
        let did2 = subst (λ m. Did no_worth (at size m) (Ok tt) w z es es) (plain_long 0 (take size text)) did1 in
        let did3 = subst (λ m. Did no_worth (at m (length (take m text))) (Ok tt) w z es es) (sym have.same) did2 in
        text_by (λ d. coming_of es w d ≡ Gave Nothing z es) w n (subst (λ c. coming_of es w (placed x.lasting c (take n text) w) ≡ Gave Nothing z es) (sym have.test) did3)

-- what tells nothing
pub quietly : (w v u : World) (es : List What) → v ≡ u → coming_of es w (Answers Nothing u no_telling) ≡ Gave Nothing v es
quietly w v u es e = ap (Gave Nothing u) (append-nil es) ∙ ap (λ z. Gave Nothing z es) (sym e)
