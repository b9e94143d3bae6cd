-- Full expressions that are evaluated at once.
use Rattle.std.proofs.Common.{◌≡◌, ℕ, ◌+◌, ◌++◌, List, [], ◌∷◌, sym, ap, ◌∙◌, arith, subst, Some}
use Rattle.pv_tree.specs.declared.nodes.NodeId.{NodeId}
use Rattle.pv_typed.specs.Tables.{Stored}
use Rattle.pv_typed.specs.NodeTrees.{expression_at}
use Rattle.pv_typed.specs.Plain.{turns_of}
use Rattle.pv_seq.specs.Sequencing.{Access, Open, open_against}
use Rattle.pv_seq.specs.Frames.{with_reads}
use Rattle.pv_seq.specs.Rivals.{top, below}
use Rattle.pv_world.specs.Worlds.{Worth}
use Rattle.pv_world.specs.Coming.{worth_of}
use Rattle.pv_world.specs.declared.got.Got.{Got}
use Rattle.pv_eval.specs.declared.frames.Frame.{Frame}
use Rattle.pv_eval.specs.declared.frames.Now.{Now}
use Rattle.pv_eval.specs.declared.frames.Now.TheVariants.{Due, Value}
use Rattle.pv_eval.specs.States.{Setting, State, Gives, Stops, Turns, then_do}
use Rattle.pv_eval.specs.Sequenced.{node_value}
use Rattle.pv_eval.specs.Steps.{Calling}
use Rattle.pv_eval.specs.Evaluation.{ev}
use Rattle.pv_eval.specs.Stack.{rest}
use Rattle.pv_eval.specs.Frames.{after}
use Rattle.pv_eval.specs.Ahead.{ahead, stack}
use Rattle.pv_eval.specs.Moments.{Moment, state_of}
use Rattle.pv_eval.specs.Plainly.{setting_by, state_with, Yields, GivesValue, whole_turns, Performs}
use Rattle.pv_eval.specs.AtOnce.{Evaluated, Cut, EvaluatedAmong, CutAmong}

same_number : (j k : ℕ) → Some j ≡ Some k → j ≡ k
same_number j k e = cc

pub evaluated : (u : Stored) (n : NodeId) (k : ℕ) (v : Worth) (old new : Moment) → Performs u old.world new.world (expression_at u n) v → whole_turns (expression_at u n) ≡ Some k
    → new ≡ record old { world = new.world; taken = old.taken + k } → Evaluated u n v old new
evaluated u n k v old new h turns is = λ b out es hs hl call room.
    let x = expression_at u n in
    let count : h.turns ≡ k = same_number h.turns k (sym h.are ∙ turns) in
    let taken : new.taken ≡ old.taken + h.turns = ap (λ (m : Moment). m.taken) is ∙ ap (λ j. old.taken + j) (sym count) in
    let setting : setting_by u b.bound b.sides b.zap ≡ b = λ i. record { unit = sym hs.unit i; types = sym hs.types i; bound = b.bound; sides = b.sides; zap = b.zap } in
    let after : state_with new.world (out ++ old.printed) (es ++ old.waiting) (old.taken + h.turns) ≡ state_of new out es =
    ap (λ j. state_with new.world (out ++ old.printed) (es ++ old.waiting) (old.taken + j)) count ∙ ap (λ (m : Moment). state_of m out es) (sym is) in
    subst (λ (s : State). GivesValue (ev b call x [] (state_of old out es)) v s) after
    (subst (λ (c : Setting). GivesValue (ev c call x [] (state_of old out es)) v (state_with new.world (out ++ old.printed) (es ++ old.waiting) (old.taken + h.turns))) setting
    (h.gives call b.bound b.sides b.zap (out ++ old.printed) (es ++ old.waiting) old.taken (omega (arith, taken, room))))

pub cut_off : (u : Stored) (n : NodeId) (k : ℕ) (v : Worth) (old new : Moment) → Performs u old.world new.world (expression_at u n) v → whole_turns (expression_at u n) ≡ Some k
    → new ≡ record old { world = new.world; taken = old.taken + k } → Cut u n old new
cut_off u n k v old new h turns is = λ b out es hs hl call low high.
    let x = expression_at u n in
    let count : h.turns ≡ k = same_number h.turns k (sym h.are ∙ turns) in
    let taken : new.taken ≡ old.taken + h.turns = ap (λ (m : Moment). m.taken) is ∙ ap (λ j. old.taken + j) (sym count) in
    let setting : setting_by u b.bound b.sides b.zap ≡ b = λ i. record { unit = sym hs.unit i; types = sym hs.types i; bound = b.bound; sides = b.sides; zap = b.zap } in
    subst (λ (c : Setting). ev c call x [] (state_of old out es) ≡ Stops Turns (state_of (record old { taken = b.bound }) out es)) setting
    (h.stops call b.bound b.sides b.zap (out ++ old.printed) (es ++ old.waiting) old.taken low (omega (arith, taken, high)))

-- an expression that was just begun
pub begun_whole : (b : Setting) (call : Calling) (u : Stored) (fs : List Frame) (js : List Open) (place : Now) (n : NodeId) (s s' : State) (v : Worth) → fs ≡ [] → js ≡ open_against [] ∷ [] → place ≡ Due n
    → GivesValue (ev b call (expression_at u n) [] s) v s' → GivesValue (ahead b call u fs js place s) v s'
begun_whole b call u fs js place n s s' v e f g h =
    let here : GivesValue (ahead b call u [] (open_against [] ∷ []) (Due n) s) v s' = record { given = h.given; value = h.value; is = ap (λ r. then_do r (rest (after b call u) [])) h.is } in
    subst (λ (gs : List Frame). GivesValue (ahead b call u gs js place s) v s') (sym e)
    (subst (λ (ks : List Open). GivesValue (ahead b call u [] ks place s) v s') (sym f)
    (subst (λ (p : Now). GivesValue (ahead b call u [] (open_against [] ∷ []) p s) v s') (sym g) here))

pub begun_cut : (b : Setting) (call : Calling) (u : Stored) (fs : List Frame) (js : List Open) (place : Now) (n : NodeId) (s s' : State) → fs ≡ [] → js ≡ open_against [] ∷ [] → place ≡ Due n
    → ev b call (expression_at u n) [] s ≡ Stops Turns s' → ahead b call u fs js place s ≡ Stops Turns s'
begun_cut b call u fs js place n s s' e f g h =
    ap (λ (gs : List Frame). ahead b call u gs js place s) e
    ∙ ap (λ (ks : List Open). ahead b call u [] ks place s) f
    ∙ ap (λ (p : Now). ahead b call u [] (open_against [] ∷ []) p s) g
    ∙ ap (λ r. then_do r (rest (after b call u) [])) h

-- an operand, against nodes that only read
pub evaluated_among : (u : Stored) (n : NodeId) (k : ℕ) (v : Worth) (all : List Access) (old new : Moment) → (y : Yields u old.world (expression_at u n) v) → turns_of (expression_at u n) ≡ Some k → all ≡ y.accesses
    → new ≡ record old { taken = old.taken + k } → EvaluatedAmong u n v all old new
evaluated_among u n k v all old new y turns noted is = λ b out es hs hl call fs reads room.
    let x = expression_at u n in
    let count : y.turns ≡ k = same_number y.turns k (sym y.are ∙ turns) in
    let taken : new.taken ≡ old.taken + y.turns = ap (λ (m : Moment). m.taken) is ∙ ap (λ j. old.taken + j) (sym count) in
    let setting : setting_by u b.bound b.sides b.zap ≡ b = λ i. record { unit = sym hs.unit i; types = sym hs.types i; bound = b.bound; sides = b.sides; zap = b.zap } in
    let after : state_with old.world (out ++ old.printed) (es ++ old.waiting) (old.taken + y.turns) ≡ state_of new out es =
    ap (λ j. state_with old.world (out ++ old.printed) (es ++ old.waiting) (old.taken + j)) count ∙ ap (λ (m : Moment). state_of m out es) (sym is) in
    subst (λ (qs : List Access). ev b call x fs (state_of old out es) ≡ Gives (record { value = v; all = qs; loose = [] }) (state_of new out es)) (sym noted)
    (subst (λ (s : State). ev b call x fs (state_of old out es) ≡ Gives (record { value = v; all = y.accesses; loose = [] }) s) after
    (subst (λ (c : Setting). ev c call x fs (state_of old out es) ≡ Gives (record { value = v; all = y.accesses; loose = [] }) (state_with old.world (out ++ old.printed) (es ++ old.waiting) (old.taken + y.turns))) setting
    (y.gives call b.bound b.sides b.zap fs (out ++ old.printed) (es ++ old.waiting) old.taken reads (omega (arith, taken, room))).is))

pub cut_among : (u : Stored) (n : NodeId) (k : ℕ) (v : Worth) (old new : Moment) → (y : Yields u old.world (expression_at u n) v) → turns_of (expression_at u n) ≡ Some k → new ≡ record old { taken = old.taken + k } → CutAmong u n old new
cut_among u n k v old new y turns is = λ b out es hs hl call fs reads low high.
    let x = expression_at u n in
    let count : y.turns ≡ k = same_number y.turns k (sym y.are ∙ turns) in
    let taken : new.taken ≡ old.taken + y.turns = ap (λ (m : Moment). m.taken) is ∙ ap (λ j. old.taken + j) (sym count) in
    let setting : setting_by u b.bound b.sides b.zap ≡ b = λ i. record { unit = sym hs.unit i; types = sym hs.types i; bound = b.bound; sides = b.sides; zap = b.zap } in
    subst (λ (c : Setting). ev c call x fs (state_of old out es) ≡ Stops Turns (state_of (record old { taken = b.bound }) out es)) setting
    (y.stops call b.bound b.sides b.zap fs (out ++ old.printed) (es ++ old.waiting) old.taken reads low (omega (arith, taken, high)))

-- the accesses of an operand that has its value are noted
pub goes_among : (b : Setting) (call : Calling) (u : Stored) (fs : List Frame) (js ks : List Open) (place : Now) (n : NodeId) (v : Got) (all : List Access) (s s' : State) → place ≡ Due n → top js ≡ open_against (top js).foes
    → ks ≡ with_reads all (top js) ∷ below js → ev b call (expression_at u n) (top js).foes s ≡ Gives (record { value = worth_of v; all = all; loose = [] }) s' → ahead b call u fs js place s ≡ ahead b call u fs ks (Value v) s'
goes_among b call u fs js ks place n v all s s' at begun is h =
    ap (λ (p : Now). ahead b call u fs js p s) at
    ∙ ap (λ r. then_do r (rest (after b call u) (stack fs (below js)))) h
    ∙ ap (λ (j : Open). then_do (node_value (with_reads all j) (worth_of v) s') (rest (after b call u) (stack fs (below js)))) (sym begun)
    ∙ ap (λ (qs : List Open). ahead b call u fs qs (Value v) s') (sym is)

pub stops_among : (b : Setting) (call : Calling) (u : Stored) (fs : List Frame) (js : List Open) (place : Now) (n : NodeId) (s s' : State) → place ≡ Due n → ev b call (expression_at u n) (top js).foes s ≡ Stops Turns s'
    → ahead b call u fs js place s ≡ Stops Turns s'
stops_among b call u fs js place n s s' at h = ap (λ (p : Now). ahead b call u fs js p s) at ∙ ap (λ r. then_do r (rest (after b call u) (stack fs (below js)))) h
