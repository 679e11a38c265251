-- The commands that change the tree are done, and no others.
use Rattle.std.proofs.Common.{◌≡◌, ℕ, ◌+◌, ◌<◌, ◌≤◌, Bool, true, false, List, [], ◌∷◌, ◌++◌, append-nil, cond, length, get_or, take, drop, refl, sym, ap, subst, ◌∙◌, arith, Option, Some, None}
use Rattle.std.proofs.lemmas.List.{take_more, take-append-drop}
use Rattle.std.proofs.lemmas.List.Elements.{filter-append}
use Rattle.rd_edits.specs.declared.edit.Edit.{Edit}
use Rattle.rd_edits.specs.declared.fault.EditFault.{EditFault}
use Rattle.rd_edits.specs.Refusals.{refusal_of}
use Rattle.rd_scene.specs.Scripts.{Script}
use Rattle.rd_scene.specs.Planting.{Plants}
use Rattle.rd_scene.specs.declared.script.Command.{Command}
use Rattle.rd_scene.specs.declared.script.Command.TheVariants.{Change, Paint, Hit, Pixel, Dump, Shot, Undo}
use Rattle.rd_tree.specs.Document.{Document}
use Rattle.rd_run.specs.Checks.{is_change, changes_of, IsLastState}
use Rattle.rd_run.specs.Endings.{Counter, counter}
use Rattle.rd_run.specs.Internal.Answered.{Performs, MayPerform}
use Rattle.rd_run.specs.Internal.Lasts.{IsWellFormed}
use Rattle.rd_run.specs.Internal.Session.{SessionState, Shows, AreWithin, Does, MayGoOn}
use Rattle.rd_run.specs.Machine.{State, Counts, Step, Run, Edits, Undoes, newest, older, start}
use Rattle.rd_run.proofs.Going.{run_goes}
use Rattle.rd_run.proofs.Runs.{run_on, all_of, within_more}
use Rattle.rd_run.proofs.Undoing.{uncounted}

-- ---- commands one after another

changes_more : (xs : List Command) (i : ℕ) (d : Command) → i < length xs → d ≡ get_or xs i d → changes_of (take (i + 1) xs) ≡ changes_of (take i xs) ++ changes_of (d ∷ [])
changes_more xs i d h is =
    ap changes_of (take_more xs i d h ∙ ap (λ (c : Command). take i xs ++ c ∷ []) (sym is)) ∙ filter-append is_change (take i xs) (d ∷ [])

one_change : (d : Command) → is_change d ≡ true → changes_of (d ∷ []) ≡ d ∷ []
one_change d e = ap (λ (b : Bool). cond b (d ∷ []) []) e

no_change : (d : Command) → is_change d ≡ false → changes_of (d ∷ []) ≡ []
no_change d e = ap (λ (b : Bool). cond b (d ∷ []) []) e

-- one that changes the tree is done
pub change_done : (d : Command) (a b : State) (t : List ℕ) → is_change d ≡ true → Step d a t b → Run a (changes_of (d ∷ [])) t b
change_done d a b t e s = subst (λ (cs : List Command). Run a cs t b) (sym (one_change d e)) (t, [], b, s, (refl, refl), sym (append-nil t))

-- any other is passed
pub passed : (d : Command) (a : State) → is_change d ≡ false → Run a (changes_of (d ∷ [])) [] a
passed d a e = subst (λ (cs : List Command). Run a cs [] a) (sym (no_change d e)) (refl, refl)

pub one_performed : (made looks : Counter) (d : Command) (was now : SessionState) → is_change d ≡ true
    → ((s : State) → Shows was s → Does (Step d) made looks s now) → (s : State) → Shows was s → Performs made looks s (changes_of (d ∷ [])) now
one_performed made looks d was now e f s h =
    let q = f s h in
    (q.1.0, q.0, change_done d s (q.1.0) (q.0) e q.1.1, q.1.3, q.1.2)

pub one_may : (made looks : Counter) (d : Command) (was : SessionState) → is_change d ≡ true
    → ((s : State) → Shows was s → MayGoOn (Step d) made looks s) → (s : State) → Shows was s → MayPerform made looks s (changes_of (d ∷ []))
one_may made looks d was e f s h =
    let q = f s h in
    (q.1, q.0, change_done d s (q.1) (q.0) e q.2, q.4, q.3)

pub changes_on : (a b e : State) (xs : List Command) (i : ℕ) (d : Command) (t u : List ℕ) → i < length xs → d ≡ get_or xs i d
    → Run a (changes_of (take i xs)) t b → Run b (changes_of (d ∷ [])) u e → Run a (changes_of (take (i + 1) xs)) (t ++ u) e
changes_on a b e xs i d t u h is r s =
    subst (λ (cs : List Command). Run a cs (t ++ u) e) (sym (changes_more xs i d h is)) (run_on a b e (changes_of (take i xs)) (changes_of (d ∷ [])) t u r s)

pub all_changed : (a b : State) (xs : List Command) (i : ℕ) (t : List ℕ) → length xs ≤ i → Run a (changes_of (take i xs)) t b → Run a (changes_of xs) t b
all_changed a b xs i t h r = subst (λ (cs : List Command). Run a (changes_of cs) t b) (all_of xs i h) r

-- where one could be done, so could those after it
pub changes_may : (a b e : State) (xs : List Command) (i : ℕ) (d : Command) (t u : List ℕ) (m n l k : ℕ) → i < length xs → d ≡ get_or xs i d
    → Run a (changes_of (take i xs)) t b → Run b (changes_of (d ∷ [])) u e → IsWellFormed e.tree → AreWithin a e (counter m n) (counter l k)
    → MayPerform (counter m n) (counter l k) a (changes_of xs)
changes_may a b e xs i d t u m n l k h is r s w c =
    let rest : List Command = changes_of (drop (i + 1) xs) in
    let z = run_goes rest e w in (
      z.0,
      (t ++ u) ++ z.1,
      subst (λ (cs : List Command). Run a cs ((t ++ u) ++ z.1) (z.0))
          (sym (filter-append is_change (take (i + 1) xs) (drop (i + 1) xs)) ∙ ap changes_of (take-append-drop (i + 1) xs))
          (run_on a e (z.0) (changes_of (take (i + 1) xs)) rest (t ++ u) (z.1) (changes_on a b e xs i d t u h is r s) z.2),
      within_more a e m n l k (z.0) c z.4,
      z.3,
    )

-- ---- no item is made

edit_makes_none : (o : Option EditFault) (e : Edit) (a : State) (t : List ℕ) (b : State) → Edits o e a t b → b.counts.built ≡ a.counts.built
edit_makes_none (Some f) e a t b h = ap (λ (x : State). x.counts.built) h.1
edit_makes_none None e a t b h = ap (λ (x : State). x.counts.built) h.1.2

undo_makes_none : (o : Option (List Edit)) (a : State) (t : List ℕ) (b : State) → Undoes o a t b → b.counts.built ≡ a.counts.built
undo_makes_none None a t b h = ap (λ (x : State). x.counts.built) h.1
undo_makes_none (Some es) a t b h = ap (λ (x : Counts). x.built) (uncounted es (h.0) (record a { undos = older a.undos }) b h.2)

changes_make_none : (cs : List Command) (a b : State) (t : List ℕ) → Run a (changes_of cs) t b → b.counts.built ≡ a.counts.built
changes_make_none [] a b t r = ap (λ (x : State). x.counts.built) r.1
changes_make_none (Change e ∷ cs) a b t r = changes_make_none cs (r.2) b (r.1) r.4 ∙ edit_makes_none (refusal_of a.tree e) e a (r.0) (r.2) r.3
changes_make_none (Undo ∷ cs) a b t r = changes_make_none cs (r.2) b (r.1) r.4 ∙ undo_makes_none (newest a.undos) a (r.0) (r.2) r.3
changes_make_none (Paint ∷ cs) a b t r = changes_make_none cs a b t r
changes_make_none (Hit x y ∷ cs) a b t r = changes_make_none cs a b t r
changes_make_none (Pixel x y ∷ cs) a b t r = changes_make_none cs a b t r
changes_make_none (Dump ∷ cs) a b t r = changes_make_none cs a b t r
changes_make_none (Shot ∷ cs) a b t r = changes_make_none cs a b t r

-- ---- the tree at the end of a script

module _ (script : Script) (v : ℕ) (t : Document) (cs : List Command) (m n l k : ℕ) where
  of_script : (a : State) (text : List ℕ) → v ≡ script.version → cs ≡ script.commands → Run (start v t) (changes_of cs) text a
      → Run (start script.version t) (changes_of script.commands) text a
  of_script a text u e r =
      subst (λ (w : ℕ). Run (start w t) (changes_of script.commands) text a) u (subst (λ (c : List Command). Run (start v t) (changes_of c) text a) e r)

  pub lasts : (now : SessionState) (tree : Document) → Plants script t → v ≡ script.version → cs ≡ script.commands
      → Performs (counter m n) (counter l k) (start v t) (changes_of cs) now → tree ≡ now.engine.tree
      → (last : State) × IsLastState script last × (tree ≡ last.tree) × (n ≡ m) × (k ≤ l + last.counts.looks)
  lasts now tree p u e a is =
      let none = changes_make_none cs (start v t) (a.0) (a.1) a.2 in
      let x = a.3.items in let y = a.3.taken in (
        a.0,
        (t, a.1, p, of_script (a.0) (a.1) u e a.2),
        is ∙ sym a.4.tree,
        omega (arith, x, none),
        omega (arith, y),
      )

  pub may_last : Plants script t → v ≡ script.version → cs ≡ script.commands
      → MayPerform (counter m n) (counter l k) (start v t) (changes_of cs)
      → (last : State) × IsLastState script last × (n ≤ m) × (k ≤ l + last.counts.looks)
  may_last p u e a =
      let none = changes_make_none cs (start v t) (a.0) (a.1) a.2 in
      let x = a.3.items in let y = a.3.taken in (
        a.0,
        (t, a.1, p, of_script (a.0) (a.1) u e a.2),
        omega (arith, x, none),
        omega (arith, y),
      )
