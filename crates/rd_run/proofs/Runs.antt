-- Runs of the machine go on by one step, and so does what is counted.
use Rattle.std.proofs.Common.{◌≡◌, ℕ, ◌+◌, ◌<◌, ◌≤◌, Some, None, Option, List, [], ◌∷◌, ◌++◌, refl, sym, ◌∙◌, ap, subst, append_assoc, append-nil, length, get_or, take, drop, arith}
use Rattle.std.proofs.lemmas.List.{take_more, take-append-drop}
use Rattle.std.proofs.lemmas.Grind.{common_steps}
use Rattle.std.specs.Prelude.{Result, Ok, Err, OnOk, OnErr}
use Rattle.std.specs.Io.KnownBytes.{Appends}
use Rattle.rd_io.specs.Causes.{GainsPart}
use Rattle.rd_io.proofs.Bytes.{appends_more}
use Rattle.rd_scene.specs.declared.script.Command.{Command}
use Rattle.rd_run.specs.Endings.{stream, counter}
use Rattle.rd_run.specs.Internal.Answered.{AnswersAll, AnswersPart, MayPerform, Passes}
use Rattle.rd_run.specs.Internal.Lasts.{IsWellFormed}
use Rattle.rd_run.specs.Internal.Session.{SessionState, IsFew, AreCounted, AreWithin}
use Rattle.rd_run.specs.Machine.{State, Step, Run}
use Rattle.rd_run.proofs.Going.{IsMore, run_goes}

-- ---- runs

-- one more command after a run
pub run_more : (a b d : State) (cs : List Command) (c : Command) (t u : List ℕ) → Run a cs t b → Step c b u d → Run a (cs ++ c ∷ []) (t ++ u) d
run_more a b d [] c t u r s =
    let same : Step c a u d = subst (λ (x : State). Step c x u d) (r.1) s in
    (u, [], d, same, (refl, refl), ap (λ x. x ++ u) r.0 ∙ sym (append-nil u))
run_more a b d (c' ∷ cs) c t u r s =
    (r.0, r.1 ++ u, r.2, r.3, run_more (r.2) b d cs c (r.1) u r.4 s, ap (λ x. x ++ u) r.5 ∙ append_assoc (r.0) (r.1) u)

-- a run, and then another
pub run_on : (a b d : State) (cs ds : List Command) (t u : List ℕ) → Run a cs t b → Run b ds u d → Run a (cs ++ ds) (t ++ u) d
run_on a b d [] ds t u r s =
    let same : Run a ds u d = subst (λ (x : State). Run x ds u d) (r.1) s in
    subst (λ (x : List ℕ). Run a ds x d) (sym (ap (λ x. x ++ u) r.0)) same
run_on a b d (c ∷ cs) ds t u r s =
    (r.0, r.1 ++ u, r.2, r.3, run_on (r.2) b d cs ds (r.1) u r.4 s, ap (λ x. x ++ u) r.5 ∙ append_assoc (r.0) (r.1) u)

pub step_on : (a b e : State) (xs : List Command) (i : ℕ) (d : Command) (t u : List ℕ) → i < length xs
    → d ≡ get_or xs i d → Run a (take i xs) t b → Step d b u e → Run a (take (i + 1) xs) (t ++ u) e
step_on a b e xs i d t u h is r s =
    let here : Step (get_or xs i d) b u e = subst (λ (x : Command). Step x b u e) is s in
    rw (take_more xs i d h) (run_more a b e (take i xs) (get_or xs i d) t u r here)

pub all_of : (xs : List Command) (i : ℕ) → length xs ≤ i → take i xs ≡ xs
all_of xs i h = grind (arith, common_steps)

pub whole_run : (a b : State) (xs : List Command) (i : ℕ) (t : List ℕ) → length xs ≤ i → Run a (take i xs) t b → Run a xs t b
whole_run a b xs i t h r = subst (λ (cs : List Command). Run a cs t b) (all_of xs i h) r

-- ---- what is counted

pub nothing_counted : (a : State) (m l : ℕ) → AreCounted a a (counter m m) (counter l l)
nothing_counted a m l = record { items = refl; taken = omega arith }

module _ (a b e : State) (m n o l k j : ℕ) where
  pub counted_on : AreCounted a b (counter m n) (counter l k) → AreCounted b e (counter n o) (counter k j) → AreCounted a e (counter m o) (counter l j)
  counted_on p q =
      let x = p.items in let y = q.items in let v = p.taken in let w = q.taken in
      record { items = omega (arith, x, y); taken = omega (arith, v, w) }

  pub within_on : AreCounted a b (counter m n) (counter l k) → AreWithin b e (counter n o) (counter k j) → AreWithin a e (counter m o) (counter l j)
  within_on p q =
      let x = p.items in let y = q.items in let v = p.taken in let w = q.taken in
      record { items = omega (arith, x, y); taken = omega (arith, v, w) }

module _ (a b : State) (m n l k : ℕ) where
  pub counted_within : AreCounted a b (counter m n) (counter l k) → AreWithin a b (counter m n) (counter l k)
  counted_within p = let x = p.items in let v = p.taken in record { items = omega (arith, x); taken = omega (arith, v) }

  pub within_more : (e : State) → AreWithin a b (counter m n) (counter l k) → IsMore b e → AreWithin a e (counter m n) (counter l k)
  within_more e p q =
      let x = p.items in let y = q.built in let v = p.taken in let w = q.looks in
      record { items = omega (arith, x, y); taken = omega (arith, v, w) }

-- ---- what was written

-- what was gained so far, and a part of what comes next
pub gains_more : (o m n : Option (List ℕ)) (a b rest : List ℕ) → Appends o m a → GainsPart m n b → GainsPart o n ((a ++ b) ++ rest)
gains_more None m n a b rest p q = record { part = []; rest = (a ++ b) ++ rest; whole = refl; gained = tt }
gains_more (Some x) None n a b rest p q = absurd p
gains_more (Some x) (Some y) None a b rest p q = absurd q.gained
gains_more (Some x) (Some y) (Some z) a b rest p q =
    record {
      part = a ++ q.part;
      rest = q.rest ++ rest;
      whole = rw (← q.whole) (simp append_assoc);
      gained = q.gained ∙ ap (λ s. s ++ q.part) p ∙ append_assoc x a q.part;
    }

pub gains_none : (o n : Option (List ℕ)) (a rest : List ℕ) → Appends o n a → GainsPart o n (a ++ rest)
gains_none o n a rest p = record { part = a; rest = rest; whole = refl; gained = p }

-- nothing went out
pub stays : (o : Option (List ℕ)) → Appends o o []
stays None = tt
stays (Some xs) = sym (append-nil xs)

pub passes_none : (o : Option (List ℕ)) (f : ℕ) (before text now : List ℕ) → now ≡ before ++ text → Passes (stream o o f f) before text now
passes_none o f before text now e = record { sent = []; whole = sym e; gained = stays o }

-- all went out
pub passes_all : (o n : Option (List ℕ)) (f f' : ℕ) (before text mid now : List ℕ) → mid ≡ before ++ text → now ≡ [] → Appends o n mid → Passes (stream o n f f') before text now
passes_all o n f f' before text mid now e z a =
    record { sent = mid; whole = sym e ∙ sym (append-nil mid) ∙ ap (λ x. mid ++ x) (sym z); gained = a }

-- what went out and what is gathered, after one more answer
pub gathers_on : (t u sent more before now : List ℕ) → t ≡ sent ++ before → before ++ u ≡ more ++ now → t ++ u ≡ (sent ++ more) ++ now
gathers_on t u sent more before now e w =
    ap (λ x. x ++ u) e ∙ append_assoc sent before u ∙ ap (λ x. sent ++ x) w ∙ sym (append_assoc sent more now)

-- ---- answers

-- where a command could be done, so could those after it
pub perform_on : (a b e : State) (xs : List Command) (i : ℕ) (d : Command) (t u : List ℕ) (m n l k : ℕ) → i < length xs
    → d ≡ get_or xs i d → Run a (take i xs) t b → Step d b u e → IsWellFormed e.tree
    → AreWithin a e (counter m n) (counter l k)
    → MayPerform (counter m n) (counter l k) a xs
perform_on a b e xs i d t u m n l k h is r s w c =
    let z = run_goes (drop (i + 1) xs) e w in (
      z.0,
      (t ++ u) ++ z.1,
      subst (λ (cs : List Command). Run a cs ((t ++ u) ++ z.1) (z.0)) (take-append-drop (i + 1) xs)
          (run_on a e (z.0) (take (i + 1) xs) (drop (i + 1) xs) (t ++ u) (z.1) (step_on a b e xs i d t u h is r s) z.2),
      within_more a e m n l k (z.0) c z.4,
      z.3,
    )

-- a part of the answer to all, where a step's answer went through in part
pub part_on : (a b e : State) (xs : List Command) (i : ℕ) (d : Command) (t u sent kept : List ℕ) (o m n : Option (List ℕ)) (f f' : ℕ) (p q r v : ℕ) → i < length xs
    → d ≡ get_or xs i d → Run a (take i xs) t b → Step d b u e → IsWellFormed e.tree → AreWithin a e (counter p q) (counter r v)
    → t ≡ sent ++ kept → Appends o m sent → GainsPart m n (kept ++ u)
    → AnswersPart (counter p q) (counter r v) a xs (stream o n f f')
part_on a b e xs i d t u sent kept o m n f f' p q r v h is run s w c same x y =
    let z = run_goes (drop (i + 1) xs) e w in
    let whole : sent ++ (kept ++ u) ≡ t ++ u = sym (append_assoc sent kept u) ∙ ap (λ x. x ++ u) (sym same) in (
      z.0,
      (t ++ u) ++ z.1,
      subst (λ (cs : List Command). Run a cs ((t ++ u) ++ z.1) (z.0)) (take-append-drop (i + 1) xs)
          (run_on a e (z.0) (take (i + 1) xs) (drop (i + 1) xs) (t ++ u) (z.1) (step_on a b e xs i d t u h is run s) z.2),
      within_more a e p q r v (z.0) c z.4,
      subst (λ (x : List ℕ). GainsPart o n (x ++ z.1)) whole (gains_more o m n sent (kept ++ u) (z.1) x y),
    )

-- and where a step gave up
pub none_on : (a b e : State) (xs : List Command) (i : ℕ) (d : Command) (t u sent kept : List ℕ) (o n : Option (List ℕ)) (f f' : ℕ) (p q r v : ℕ) → i < length xs
    → d ≡ get_or xs i d → Run a (take i xs) t b → Step d b u e → IsWellFormed e.tree → AreWithin a e (counter p q) (counter r v)
    → t ≡ sent ++ kept → Appends o n sent
    → AnswersPart (counter p q) (counter r v) a xs (stream o n f f')
none_on a b e xs i d t u sent kept o n f f' p q r v h is run s w c same x =
    let z = run_goes (drop (i + 1) xs) e w in
    let whole : sent ++ ((kept ++ u) ++ z.1) ≡ (t ++ u) ++ z.1 =
    sym (append_assoc sent (kept ++ u) (z.1)) ∙ ap (λ x. x ++ z.1) (sym (append_assoc sent kept u) ∙ ap (λ x. x ++ u) (sym same)) in (
      z.0,
      (t ++ u) ++ z.1,
      subst (λ (cs : List Command). Run a cs ((t ++ u) ++ z.1) (z.0)) (take-append-drop (i + 1) xs)
          (run_on a e (z.0) (take (i + 1) xs) (drop (i + 1) xs) (t ++ u) (z.1) (step_on a b e xs i d t u h is run s) z.2),
      within_more a e p q r v (z.0) c z.4,
      subst (λ (x : List ℕ). GainsPart o n x) whole (gains_none o n sent ((kept ++ u) ++ z.1) x),
    )

-- where all commands were answered, what is left goes out
pub all_on : (a b : State) (xs : List Command) (i : ℕ) (t sent kept : List ℕ) (o m n : Option (List ℕ)) (f f' : ℕ) (p q r v : ℕ) → length xs ≤ i
    → Run a (take i xs) t b → AreCounted a b (counter p q) (counter r v) → t ≡ sent ++ kept → Appends o m sent → Appends m n kept
    → AnswersAll (counter p q) (counter r v) a xs (stream o n f f')
all_on a b xs i t sent kept o m n f f' p q r v h run c same x y =
    (b, t, whole_run a b xs i t h run, c, subst (λ (x : List ℕ). Appends o n x) (sym same) (appends_more o m n sent kept x y))

-- or a front of it
pub front_on : (a b : State) (xs : List Command) (i : ℕ) (t sent kept : List ℕ) (o m n : Option (List ℕ)) (f f' : ℕ) (p q r v : ℕ) → length xs ≤ i
    → Run a (take i xs) t b → AreCounted a b (counter p q) (counter r v) → t ≡ sent ++ kept → Appends o m sent → GainsPart m n kept
    → AnswersPart (counter p q) (counter r v) a xs (stream o n f f')
front_on a b xs i t sent kept o m n f f' p q r v h run c same x y =
    let whole : (sent ++ kept) ++ [] ≡ t = append-nil (sent ++ kept) ∙ sym same in
    (b, t, whole_run a b xs i t h run, counted_within a b p q r v c, subst (λ (x : List ℕ). GainsPart o n x) whole (gains_more o m n sent kept [] x y))

-- ---- results

-- two facts of a success
pub on_two : {A E : Type 0} (P Q R : Type 0) (r : Result A E) → (P → Q → R) → OnOk r P → OnOk r Q → OnOk r R
on_two P Q R (Ok x) f p q = f p q
on_two P Q R (Err e) f p q = tt

pub on_ok : {A E : Type 0} (P Q : Type 0) (r : Result A E) → (P → Q) → OnOk r P → OnOk r Q
on_ok P Q (Ok x) f h = f h
on_ok P Q (Err e) f h = tt

pub on_err : {A E : Type 0} (P Q : Type 0) (r : Result A E) → (P → Q) → OnErr r P → OnErr r Q
on_err P Q (Ok x) f p = tt
on_err P Q (Err e) f p = f p

-- what holds of a failure
pub of_err : {A E : Type 0} (P : Type 0) (r : Result A E) (e : E) → r ≡ Err e → OnErr r P → P
of_err P (Ok x) e i p = let no : Ok x ≡ Err e = i in cc
of_err P (Err y) e i p = p

-- ---- few commands

-- no count is above what more commands may make of it
pub fewer : (x : SessionState) (n m : ℕ) → n ≤ m → IsFew x n → IsFew x m
fewer x n m l h =
    let a = h.paints in let b = h.accepted in let c = h.refused in let d = h.built in let e = h.area in record {
      paints = omega (arith, l, a);
      accepted = omega (arith, l, b);
      refused = omega (arith, l, c);
      built = omega (arith, l, d);
      area = omega (arith, l, e);
    }
