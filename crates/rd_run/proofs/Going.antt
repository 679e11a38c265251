-- The machine can always go on.
use Rattle.std.proofs.Common.{◌≡◌, ℕ, ◌+◌, ◌≤◌, Bool, true, false, Some, None, Option, List, ◌∷◌, ◌++◌, refl, sym, ◌∙◌, ap, subst, length, length-append, arith, cond, []}
use Rattle.std.specs.List.{AllByRecursion}
use Rattle.rd_geom.specs.Areas.{meets_area, count_of}
use Rattle.rd_geom.specs.Canvas.{IsCanvas}
use Rattle.rd_item.specs.declared.leaf.Leaf.{Leaf}
use Rattle.rd_item.specs.Items.{Made}
use Rattle.rd_list.specs.Wrappers.{Wrapper}
use Rattle.rd_list.specs.Entries.{Entries, nil, leaf, group, flat, only, grouped_if_any}
use Rattle.rd_list.specs.EntryNames.{new_leaves}
use Rattle.rd_tree.specs.Document.{Document}
use Rattle.rd_tree.specs.Touching.{settled}
use Rattle.rd_edits.specs.declared.edit.Edit.{Edit}
use Rattle.rd_edits.specs.declared.fault.EditFault.{EditFault}
use Rattle.rd_edits.specs.Edited.{IsEdited}
use Rattle.rd_edits.specs.Refusals.{refusal_of, number_of}
use Rattle.rd_engine.specs.Painted.{untouched}
use Rattle.rd_scene.specs.declared.script.Command.{Command}
use Rattle.rd_scene.specs.declared.script.Command.TheVariants.{Change, Paint, Hit, Pixel, Dump, Shot, Undo}
use Rattle.rd_scene.proofs.Changing.{edit_well, edit_canvas, edit_goes}
use Rattle.rd_scene.proofs.Keyed.{each_well}
use Rattle.rd_report.specs.Answers.{ok_line, refused_line, paint_line, undone_line}
use Rattle.rd_stack.specs.Fresh.{fresh_list}
use Rattle.rd_stack.proofs.Promises.{stands_for_itself}
use Rattle.rd_run.specs.Machine.{State, Step, Run, Edits, Paints, PaintsIf, Asks, TakesOne, TakesBack, Undoes, newest, older, noted, IsNumbered, painted_state, invalid_area, remade, number_in, one_done, one_refused, hit_answer, pixel_answer, dump_answer, shot_answer}
use Rattle.rd_run.specs.Internal.Lasts.{IsWellFormed}

-- no count that bounds work has fallen
pub record IsMore (s t : State) : Type 0 where
  pub built : s.counts.built ≤ t.counts.built
  pub looks : s.counts.looks ≤ t.counts.looks

-- from this state there is a next one
abbrev pub Goes : (State → List ℕ → State → Type 0) → State → Type 0
Goes step s = (t : State) × (text : List ℕ) × step s text t × IsWellFormed t.tree × IsMore s t

pub more_more : (a b c : State) → IsMore a b → IsMore b c → IsMore a c
more_more a b c p q =
    let x = p.built in let y = q.built in let v = p.looks in let w = q.looks in
    record { built = omega (arith, x, y); looks = omega (arith, v, w) }

pub more_same : (a : State) → IsMore a a
more_same a = record { built = omega arith; looks = omega arith }

pub untouched_well : (t : Document) → IsWellFormed t → IsWellFormed (untouched t)
untouched_well t h = record { boxes = each_well (λ k. true) settled t h.boxes; canvas = h.canvas }

pub edited_well_formed : (e : Edit) (old new : Document) → IsEdited e old new → IsWellFormed old → IsWellFormed new
edited_well_formed e old new h s = record {
  boxes = edit_well e old new h s.boxes;
  canvas = subst IsCanvas (sym (edit_canvas e old new h)) s.canvas;
}

-- an item of each leaf of a list, with a number of its own
abbrev with_numbers : (Leaf → ℕ) → Entries Wrapper Leaf → Entries Wrapper Made
with_numbers n nil = nil
with_numbers n (leaf l rest) = leaf (record { leaf = l; made_at = n l }) (with_numbers n rest)
with_numbers n (group g inner rest) = group g (with_numbers n inner) (with_numbers n rest)

leaves_with : (n : Leaf → ℕ) (xs : Entries Wrapper Leaf) → new_leaves (with_numbers n xs) ≡ xs
leaves_with n nil = refl
leaves_with n (leaf l rest) = ap (leaf l) (leaves_with n rest)
leaves_with n (group g inner rest) =
    ap (λ i. group g i (new_leaves (with_numbers n rest))) (leaves_with n inner) ∙ ap (group g inner) (leaves_with n rest)

abbrev number_for : State → Leaf → ℕ
number_for s l = cond (meets_area (invalid_area s) l.visible) (s.paints + 1) (number_in s.kept l)

both_pass : {A : Type 0} (P : A → Type 0) (xs ys : List A) → AllByRecursion P xs → AllByRecursion P ys → AllByRecursion P (xs ++ ys)
both_pass P [] ys a b = b
both_pass P (x ∷ xs) ys a b = (a.0, both_pass P xs ys a.1 b)

each_numbered : (s : State) (xs : Entries Wrapper Leaf) → AllByRecursion (IsNumbered s) (flat (with_numbers (number_for s) xs))
each_numbered s nil = tt
each_numbered s (leaf l rest) = (refl, each_numbered s rest)
each_numbered s (group g inner rest) =
    both_pass (IsNumbered s) (flat (with_numbers (number_for s) inner)) (flat (with_numbers (number_for s) rest))
    (each_numbered s inner) (each_numbered s rest)

flat_grouped : (g : Wrapper) (a b : Entries Wrapper Leaf) → flat (grouped_if_any g a b) ≡ flat a ++ flat b
flat_grouped g nil b = refl
flat_grouped g (leaf l a) b = refl
flat_grouped g (group h c a) b = refl

-- the leaves that do not pass a test are the others
others : (p : Leaf → Bool) (xs : Entries Wrapper Leaf) → (n : ℕ) × (length (flat (only p xs)) + n ≡ length (flat xs))
others p nil = (0, refl)
others p (leaf l rest) = by (p l) (others p rest)
  where
    by : (b : Bool) → (n : ℕ) × (length (flat (only p rest)) + n ≡ length (flat rest))
        → (n : ℕ) × (length (flat (cond b (leaf l (only p rest)) (only p rest))) + n ≡ length (l ∷ flat rest))
    by true q = let e = q.1 in (q.0, omega (arith, e))
    by false q = let e = q.1 in (q.0 + 1, omega (arith, e))
others p (group g inner rest) =
    let a = others p inner in
    let b = others p rest in
    let x = a.1 in
    let y = b.1 in
    let e : length (flat (grouped_if_any g (only p inner) (only p rest))) ≡ length (flat (only p inner)) + length (flat (only p rest)) =
    ap length (flat_grouped g (only p inner) (only p rest)) ∙ length-append (flat (only p inner)) (flat (only p rest)) in
    let w : length (flat inner ++ flat rest) ≡ length (flat inner) + length (flat rest) = length-append (flat inner) (flat rest) in
    (a.0 + b.0, omega (arith, x, y, e, w))

-- a paint is always possible: the fresh list itself may be kept
pub paint_goes : (s : State) → IsWellFormed s.tree → Goes Paints s
paint_goes s h =
    let kept = with_numbers (number_for s) (fresh_list s.tree) in
    let o = others (λ l. meets_area (invalid_area s) l.visible) (fresh_list s.tree) in (
      painted_state s kept,
      paint_line (s.paints + 1) (length (flat (remade s))) (o.0) (count_of (invalid_area s)),
      record {
        stands = rw (leaves_with (number_for s) (fresh_list s.tree)) (stands_for_itself s.tree h.boxes.apart);
        numbers = each_numbered s (fresh_list s.tree);
        settled = refl;
        others = o.0;
        all = o.1;
        told = refl;
      },
      untouched_well s.tree h,
      record { built = omega arith; looks = omega arith },
    )

pub paints_if_goes : (b : Bool) (s : State) → IsWellFormed s.tree → Goes (PaintsIf b) s
paints_if_goes true s h = paint_goes s h
paints_if_goes false s h = (s, [], (refl, refl), h, more_same s)

pub ask_goes : (answer : State → List ℕ) (s : State) → IsWellFormed s.tree → Goes (Asks answer) s
ask_goes answer s h =
    let p = paints_if_goes s.pending s h in
    (p.0, p.1 ++ answer (p.0), (p.1, p.2, refl), p.3, p.4)

-- the edits that undo another can always be done, or are refused
record Taken (es : List Edit) (s : State) : Type 0 where
  done : ℕ
  last : State
  goes : TakesBack es done s last
  well : IsWellFormed last.tree
  more : IsMore s last

record OneTaken (o : Option EditFault) (e : Edit) (s : State) : Type 0 where
  done : ℕ
  next : State
  goes : TakesOne o e done s next
  well : IsWellFormed next.tree
  more : IsMore s next

one_taken : (e : Edit) (s : State) → IsWellFormed s.tree → (o : Option EditFault) → refusal_of s.tree e ≡ o → OneTaken o e s
one_taken e s h (Some f) r = record { done = 0; next = s; goes = (refl, refl); well = h; more = more_same s }
one_taken e s h None r =
    let t = edit_goes e s.tree r in
    record {
      done = 1;
      next = record s { tree = t.0; pending = true };
      goes = (refl, (t.0, t.1, refl));
      well = edited_well_formed e s.tree (t.0) t.1 h;
      more = record { built = omega arith; looks = omega arith };
    }

all_taken : (es : List Edit) (s : State) → IsWellFormed s.tree → Taken es s
all_taken [] s h = record { done = 0; last = s; goes = (refl, refl); well = h; more = more_same s }
all_taken (e ∷ es) s h =
    let p : OneTaken (refusal_of s.tree e) e s = one_taken e s h (refusal_of s.tree e) refl in
    let q : Taken es p.next = all_taken es p.next p.well in
    record {
      done = p.done + q.done;
      last = q.last;
      goes = (p.done, q.done, p.next, p.goes, q.goes, refl);
      well = q.well;
      more = more_more s p.next q.last p.more q.more;
    }

pub step_goes : (c : Command) (s : State) → IsWellFormed s.tree → Goes (Step c) s
step_goes (Change e) s h = change_goes (refusal_of s.tree e) refl
  where
    change_goes : (o : Option EditFault) → refusal_of s.tree e ≡ o → Goes (Edits o e) s
    change_goes (Some f) r =
        (record s { counts = one_refused s.counts }, refused_line (number_of f), (refl, refl), h, record { built = omega arith; looks = omega arith })
    change_goes None r =
        let t = edit_goes e s.tree r in (
          record s { tree = t.0; pending = true; undos = noted s.tree e s.undos; counts = one_done e s },
          ok_line,
          (refl, (t.0, t.1, refl)),
          edited_well_formed e s.tree (t.0) t.1 h,
          record { built = omega arith; looks = omega arith },
        )
step_goes Paint s h = paint_goes s h
step_goes (Hit x y) s h = ask_goes (hit_answer x y) s h
step_goes (Pixel x y) s h = ask_goes (pixel_answer x y) s h
step_goes Dump s h = ask_goes dump_answer s h
step_goes Shot s h = ask_goes shot_answer s h
step_goes Undo s h = undo_goes (newest s.undos)
  where
    undo_goes : (o : Option (List Edit)) → Goes (Undoes o) s
    undo_goes None = (s, undone_line None, (refl, refl), h, more_same s)
    undo_goes (Some es) =
        let p = all_taken es (record s { undos = older s.undos }) h in
        (p.last, undone_line (Some p.done), (p.done, refl, p.goes), p.well, record { built = p.more.built; looks = p.more.looks })

-- the machine does any commands
pub run_goes : (cs : List Command) (s : State) → IsWellFormed s.tree → Goes (λ old text new. Run old cs text new) s
run_goes [] s h = (s, [], (refl, refl), h, more_same s)
run_goes (c ∷ cs) s h =
    let p = step_goes c s h in
    let q = run_goes cs (p.0) p.3 in
    (q.0, p.1 ++ q.1, (p.1, q.1, p.0, p.2, q.2, refl), q.3, more_more s (p.0) (q.0) p.4 q.4)
