-- Reading the elements of an array in turn.
use Rattle.std.proofs.Common.{◌≡◌, ℕ, suc, ◌+◌, ◌<◌, ◌≤◌, ◌==◌, Bool, length, reverse, drop, get_or, drop-cons, add-one, drop_of_length-le, append-nil, subst, List, [], ◌∷◌, ◌++◌, Option, Some, Result, Ok, Err, refl, sym, ap, ◌∙◌, append_assoc, arith}
use Rattle.std.proofs.lemmas.List.{reverse-append}
use Rattle.serde_json.specs.View.{view, items_view}
use Rattle.serde_json.specs.declared.value.Value.{Value}
use Rattle.rd_scene.specs.Order.{depth_of, is_first}
use Rattle.rd_scene.proofs.OrderLemmas.{first_at}
use Rattle.std.specs.Result.{result_ok}
use Rattle.serde_json.specs.Data.{Data, Items, item}
use Rattle.rd_scene.specs.declared.fault.Why.{Why}
use Rattle.rd_scene.specs.declared.fault.Place.{Place}
use Rattle.rd_scene.specs.declared.fault.SceneFault.{SceneFault}
use Rattle.rd_scene.specs.declared.fault.SceneFault.TheVariants.{NotJson, Form, NoMemory}
use Rattle.rd_scene.specs.declared.fault.Place.TheVariants as place
use Rattle.rd_scene.specs.declared.script.SceneBox.{SceneBox}
use Rattle.rd_scene.specs.declared.script.Command.{Command}
use Rattle.rd_scene.specs.declared.version.Version.{Version}
use Rattle.rd_scene.specs.Checked.{Checked, by_case, value, good, ◌⊛◌}
use Rattle.rd_scene.specs.Places.{FormFault, at}
use Rattle.rd_scene.specs.Boxes.{box_of, next_box, with_box, boxes_from}
use Rattle.rd_scene.specs.Commands.{command_of, commands_from}
use Rattle.rd_scene.specs.Internal.Gives.{BreaksAt}

-- what is read so far, before what is to come
abbrev pub after : {F A : Type 0} → List A → Result (List A) F → Result (List A) F
after done rest = by_case (λ more. Ok (done ++ more)) Err rest

pub after_none : {F A : Type 0} (r : Result (List A) F) → after [] r ≡ r
after_none (Ok more) = refl
after_none (Err w) = refl

after_more : {F A : Type 0} (done : List A) (a : A) (rest : Result (List A) F) → after (done ++ a ∷ []) rest ≡ after done (by_case (λ more. Ok (a ∷ more)) Err rest)
after_more done a (Err w) = refl
after_more done a (Ok more) = ap Ok (append_assoc done (a ∷ []) more)

-- one more is read, or none
cons_more : {F A : Type 0} (done : List A) (a : A) (head : Checked F A) (tail : Checked F (List A)) → head.first ≡ Ok a
    → after (done ++ a ∷ []) tail.first ≡ after done (good ◌∷◌ ⊛ head ⊛ tail).first
cons_more done a head tail e = after_more done a tail.first ∙ rw e refl

cons_stops : {F A : Type 0} (done : List A) (w : F) (head : Checked F A) (tail : Checked F (List A)) → head.first ≡ Err w
    → after done (good ◌∷◌ ⊛ head ⊛ tail).first ≡ Err w
cons_stops done w head tail e = rw e refl

-- a fault that stops the reading
stops : {A B : Type 0} (e : SceneFault) (head : Result A FormFault) (all : Result B FormFault) → BreaksAt e head
    → ((w : FormFault) → head ≡ Err w → all ≡ Err w) → BreaksAt e all
stops (Form p w) head all h go = go _ h
stops NotJson head all h go = h
stops NoMemory head all h go = tt

-- ---- commands

pub command_more : (version : Version) (i : ℕ) (done : List Command) (c : Command) (d : Data) (ds : Items) → (at (place.Command i) (command_of version d)).first ≡ Ok c
    → after (done ++ c ∷ []) (commands_from version (i + 1) ds).first ≡ after done (commands_from version i (item d ds)).first
unfolding commands_from
command_more version i done c d ds e = cons_more done c (at (place.Command i) (command_of version d)) (commands_from version (i + 1) ds) e

pub command_stops : (version : Version) (i : ℕ) (done : List Command) (e : SceneFault) (d : Data) (ds : Items) (all : Result (List Command) FormFault)
    → after done (commands_from version i (item d ds)).first ≡ all → BreaksAt e (at (place.Command i) (command_of version d)).first → BreaksAt e all
unfolding commands_from
command_stops version i done e d ds all is h = stops e (at (place.Command i) (command_of version d)).first all h (λ w stop. sym is ∙ cons_stops done w (at (place.Command i) (command_of version d)) (commands_from version (i + 1) ds) stop)

-- the same where what is left is a list
pub command_next : (version : Version) (i j k : ℕ) (done : List Command) (c : Command) (v : Value) (left more : List Value) → left ≡ v ∷ more → j ≡ i + 1 → k ≡ i
    → (at (place.Command k) (command_of version (view v))).first ≡ Ok c
    → after (done ++ c ∷ []) (commands_from version j (items_view more)).first ≡ after done (commands_from version i (items_view left)).first
command_next version i j k done c v left more is next same e =
    ap (λ (k : ℕ). after (done ++ c ∷ []) (commands_from version k (items_view more)).first) next
    ∙ command_more version i done c (view v) (items_view more) (subst (λ (n : ℕ). (at (place.Command n) (command_of version (view v))).first ≡ Ok c) same e)
    ∙ ap (λ (l : List Value). after done (commands_from version i (items_view l)).first) (sym is)

pub command_ends : (version : Version) (i k : ℕ) (done : List Command) (e : SceneFault) (v : Value) (left more : List Value) (all : Result (List Command) FormFault) → left ≡ v ∷ more → k ≡ i
    → after done (commands_from version i (items_view left)).first ≡ all → BreaksAt e (at (place.Command k) (command_of version (view v))).first → BreaksAt e all
command_ends version i k done e v left more all is same h stop =
    command_stops version i done e (view v) (items_view more) all (ap (λ (l : List Value). after done (commands_from version i (items_view l)).first) (sym is) ∙ h)
    (subst (λ (n : ℕ). BreaksAt e (at (place.Command n) (command_of version (view v))).first) same stop)

-- none is left
pub commands_end : (version : Version) (i : ℕ) (done : List Command) (vs : List Value) → length vs ≤ 0 → after done (commands_from version i (items_view vs)).first ≡ Ok done
unfolding commands_from
commands_end version i done [] none = ap Ok (append-nil done)
commands_end version i done (v ∷ vs) none = absurd (omega arith)

-- ---- boxes

read_ok : {A : Type 0} (p : Place) (a : A) (r : Result A Why) → by_case {B = Result A FormFault} Ok (λ w. Err (record { place = p; why = w })) r ≡ Ok a → result_ok r ≡ Some a
read_ok p a (Ok x) e = cc
read_ok p a (Err w) e = cc

pub box_more : (version : Version) (i : ℕ) (before done : List SceneBox) (b : SceneBox) (d : Data) (ds : Items) → (at (place.Box i) (next_box version before d)).first ≡ Ok b
    → after (done ++ b ∷ []) (boxes_from version (i + 1) (b ∷ before) ds).first ≡ after done (boxes_from version i before (item d ds)).first
unfolding boxes_from
box_more version i before done b d ds e =
    let is : value (next_box version before d) ≡ Some b = read_ok (place.Box i) b (next_box version before d).first e in
    ap (λ (o : Option SceneBox). after (done ++ b ∷ []) (boxes_from version (i + 1) (with_box o before) ds).first) (sym is)
    ∙ cons_more done b (at (place.Box i) (next_box version before d)) (boxes_from version (i + 1) (with_box (value (next_box version before d)) before) ds) e

pub box_stops : (version : Version) (i : ℕ) (before done : List SceneBox) (e : SceneFault) (d : Data) (ds : Items) (all : Result (List SceneBox) FormFault)
    → after done (boxes_from version i before (item d ds)).first ≡ all → BreaksAt e (at (place.Box i) (next_box version before d)).first → BreaksAt e all
unfolding boxes_from
box_stops version i before done e d ds all is h =
    stops e (at (place.Box i) (next_box version before d)).first all h (λ w stop. sym is
    ∙ cons_stops done w (at (place.Box i) (next_box version before d)) (boxes_from version (i + 1) (with_box (value (next_box version before d)) before) ds) stop)

-- the next element, and those after it
next_item : (vs : List Value) (i : ℕ) (v : Value) → i < length vs → v ≡ get_or vs i v → drop i vs ≡ v ∷ drop (i + 1) vs
next_item vs i v within is = rw (add-one i) (drop-cons vs i v within ∙ ap (λ c. c ∷ drop (suc i) vs) (sym is))

-- what the map tells is what the boxes so far tell
as_next : (version : Version) (i : ℕ) (done : List SceneBox) (d : Data) (old : List ℕ → Option ℕ) → length done ≡ i → ((q : List ℕ) → old q ≡ depth_of q (reverse done))
    → box_of version (i == 0) old d ≡ next_box version (reverse done) d
as_next version i done d old long tells =
    let told : old ≡ (λ (q : List ℕ). depth_of q (reverse done)) = λ k q. tells q k in
    ap (λ (f : Bool). box_of version f old d) (first_at done i long) ∙ ap (λ (o : List ℕ → Option ℕ). box_of version (is_first (reverse done)) o d) told

pub box_next : (version : Version) (i : ℕ) (done : List SceneBox) (b : SceneBox) (vs : List Value) (v : Value) (old : List ℕ → Option ℕ) → i < length vs → v ≡ get_or vs i v
    → length done ≡ i → ((q : List ℕ) → old q ≡ depth_of q (reverse done)) → (at (place.Box i) (box_of version (i == 0) old (view v))).first ≡ Ok b
    → after (done ++ b ∷ []) (boxes_from version (i + 1) (reverse (done ++ b ∷ [])) (items_view (drop (i + 1) vs))).first
    ≡ after done (boxes_from version i (reverse done) (items_view (drop i vs))).first
box_next version i done b vs v old within is long tells e =
    ap (λ (l : List SceneBox). after (done ++ b ∷ []) (boxes_from version (i + 1) l (items_view (drop (i + 1) vs))).first) (reverse-append done (b ∷ []))
    ∙ box_more version i (reverse done) done b (view v) (items_view (drop (i + 1) vs))
    (subst (λ (c : Checked Why SceneBox). (at (place.Box i) c).first ≡ Ok b) (as_next version i done (view v) old long tells) e)
    ∙ ap (λ (l : List Value). after done (boxes_from version i (reverse done) (items_view l)).first) (sym (next_item vs i v within is))

pub box_ends : (version : Version) (i : ℕ) (done : List SceneBox) (e : SceneFault) (vs : List Value) (v : Value) (old : List ℕ → Option ℕ) (all : Result (List SceneBox) FormFault)
    → i < length vs → v ≡ get_or vs i v → length done ≡ i → ((q : List ℕ) → old q ≡ depth_of q (reverse done))
    → after done (boxes_from version i (reverse done) (items_view (drop i vs))).first ≡ all → BreaksAt e (at (place.Box i) (box_of version (i == 0) old (view v))).first → BreaksAt e all
box_ends version i done e vs v old all within is long tells h stop =
    box_stops version i (reverse done) done e (view v) (items_view (drop (i + 1) vs)) all
    (ap (λ (l : List Value). after done (boxes_from version i (reverse done) (items_view l)).first) (sym (next_item vs i v within is)) ∙ h)
    (subst (λ (c : Checked Why SceneBox). BreaksAt e (at (place.Box i) c).first) (as_next version i done (view v) old long tells) stop)

-- none is left
pub boxes_end : (version : Version) (i : ℕ) (done : List SceneBox) (vs : List Value) → length vs ≤ i → after done (boxes_from version i (reverse done) (items_view (drop i vs))).first ≡ Ok done
unfolding boxes_from
boxes_end version i done vs all = rw (drop_of_length-le vs all) (ap Ok (append-nil done))
