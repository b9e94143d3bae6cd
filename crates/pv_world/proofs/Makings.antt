-- What a making comes to.
use Rattle.std.proofs.Common.{◌≡◌, ℕ, suc, ◌+◌, ◌-◌, ◌<◌, Bool, List, [], ◌∷◌, ◌++◌, length, replicate, Option, Some, None, Result, Ok, Err, refl, sym, ap, ◌∙◌, arith}
use Rattle.std.proofs.lemmas.List.{append_assoc, append-nil, length-append}
use Rattle.pv_inst.specs.declared.values.CreateError.{CreateError}
use Rattle.pv_inst.specs.declared.values.CreateError.TheVariants as refusal
use Rattle.pv_object.specs.Memory.{Mem}
use Rattle.pv_object.specs.Answers.{OrSpent}
use Rattle.pv_watch.specs.declared.event.What.{What}
use Rattle.pv_world.specs.Worlds.{Nothing, World, Halts, Refused}
use Rattle.pv_world.specs.Telling.{event_of_making}
use Rattle.pv_world.specs.Objects.{bind, owning, function_bound}
use Rattle.pv_world.specs.ObjectParts.{object_made, function_made}
use Rattle.pv_world.specs.Coming.{Gave, Ended, coming_of, CameMade}

-- one more owner that is none
pub one_none : (os ps : List (Option ℕ)) (n : ℕ) → ps ≡ os ++ None ∷ [] → length os < n → ps ++ replicate (n - length ps) None ≡ os ++ replicate (n - length os) None
one_none os ps n is lt =
    let long : length ps ≡ length os + 1 = ap length is ∙ length-append os (None ∷ []) in
    let less : n - length os ≡ suc (n - length ps) = omega (arith, long, lt) in
    ap (λ xs. xs ++ replicate (n - length ps) None) is ∙ append_assoc os (None ∷ []) (replicate (n - length ps) None) ∙ ap (λ k. os ++ replicate k None) (sym less)

pub made_ok : (w v : World) (o : ℕ) (lasting : Bool) (name i : ℕ) (M : Mem) (es fs : List What) (c : Result ℕ CreateError × Mem)
    → OrSpent (Ok i) M c → v ≡ bind (owning w M i (Some o)) o lasting i → fs ≡ es ++ event_of_making M.table i → coming_of es w (object_made w o lasting name c) ≡ Gave Nothing v fs
made_ok w v o lasting name i M es fs (Ok j, N) h vs ts = let e : i ≡ j = let k = h.0 in cc in rw (← e, ← h.1, vs, ts) refl
made_ok w v o lasting name i M es fs (Err e, N) h vs ts = let k = h.0 in absurd cc

refused_as : (name : ℕ) (e : CreateError) (w v : World) (o : ℕ) (lasting : Bool) (M : Mem) (es : List What) (c : Result ℕ CreateError × Mem)
    → (Err e ≡ c.0) × (M ≡ c.1) → v ≡ record w { memory = M } → coming_of es w (object_made w o lasting name c) ≡ Ended (Halts (Refused name e)) v es
refused_as name e w v o lasting M es (Err f, N) h vs = let same : e ≡ f = let k = h.0 in cc in rw (← same, ← h.1, vs) (ap (Ended (Halts (Refused name e)) _) (append-nil (es ++ []) ∙ append-nil es))
refused_as name e w v o lasting M es (Ok i, N) h vs = let k = h.0 in absurd cc

pub made_err : (name : ℕ) (e : CreateError) (w v : World) (o : ℕ) (lasting : Bool) (M : Mem) (es : List What) (c : Result ℕ CreateError × Mem)
    → OrSpent (Err e) M c → v ≡ record w { memory = M } → CameMade name (Err e) v es (coming_of es w (object_made w o lasting name c))
made_err name refusal.NoMemory w v o lasting M es c h vs = tt
made_err name (refusal.Storage live size) w v o lasting M es c h vs = refused_as name (refusal.Storage live size) w v o lasting M es c h vs
made_err name refusal.Denied w v o lasting M es c h vs = refused_as name refusal.Denied w v o lasting M es c h vs
made_err name (refusal.Range k a) w v o lasting M es c h vs = refused_as name (refusal.Range k a) w v o lasting M es c h vs
made_err name (refusal.Misaligned k a) w v o lasting M es c h vs = refused_as name (refusal.Misaligned k a) w v o lasting M es c h vs
made_err name (refusal.Overlap k a with) w v o lasting M es c h vs = refused_as name (refusal.Overlap k a with) w v o lasting M es c h vs

pub function_ok : (w v : World) (f name i : ℕ) (M : Mem) (es fs : List What) (c : Result ℕ CreateError × Mem)
    → OrSpent (Ok i) M c → v ≡ function_bound (owning w M i (Some f)) f i → fs ≡ es ++ event_of_making M.table i → coming_of es w (function_made w f name c) ≡ Gave Nothing v fs
function_ok w v f name i M es fs (Ok j, N) h vs ts = let e : i ≡ j = let k = h.0 in cc in rw (← e, ← h.1, vs, ts) refl
function_ok w v f name i M es fs (Err e, N) h vs ts = let k = h.0 in absurd cc

function_refused : (name : ℕ) (e : CreateError) (w v : World) (f : ℕ) (M : Mem) (es : List What) (c : Result ℕ CreateError × Mem)
    → (Err e ≡ c.0) × (M ≡ c.1) → v ≡ record w { memory = M } → coming_of es w (function_made w f name c) ≡ Ended (Halts (Refused name e)) v es
function_refused name e w v f M es (Err g, N) h vs = let same : e ≡ g = let k = h.0 in cc in rw (← same, ← h.1, vs) (ap (Ended (Halts (Refused name e)) _) (append-nil (es ++ []) ∙ append-nil es))
function_refused name e w v f M es (Ok i, N) h vs = let k = h.0 in absurd cc

pub function_err : (name : ℕ) (e : CreateError) (w v : World) (f : ℕ) (M : Mem) (es : List What) (c : Result ℕ CreateError × Mem)
    → OrSpent (Err e) M c → v ≡ record w { memory = M } → CameMade name (Err e) v es (coming_of es w (function_made w f name c))
function_err name refusal.NoMemory w v f M es c h vs = tt
function_err name (refusal.Storage live size) w v f M es c h vs = function_refused name (refusal.Storage live size) w v f M es c h vs
function_err name refusal.Denied w v f M es c h vs = function_refused name refusal.Denied w v f M es c h vs
function_err name (refusal.Range k a) w v f M es c h vs = function_refused name (refusal.Range k a) w v f M es c h vs
function_err name (refusal.Misaligned k a) w v f M es c h vs = function_refused name (refusal.Misaligned k a) w v f M es c h vs
function_err name (refusal.Overlap k a with) w v f M es c h vs = function_refused name (refusal.Overlap k a with) w v f M es c h vs
