-- No slot is retired in a run: none is past as many generations as there were boxes planted and commands done.
use Rattle.std.proofs.Common.{◌≡◌, refl, ap, ◌∙◌, sym, subst, ℕ, zero, suc, ◌+◌, ◌-◌, ◌<◌, ◌≤◌, Bool, true, false, arith, List, ◌∷◌, ◌++◌, length, take, drop, Option, Some, None, ◌⊎◌, inl, inr, bytes_eq, []}
use Rattle.std.specs.Prelude.{nat_le, ◌==◌, if◌then◌else◌, slice_get, neg_ℤ}
use Rattle.std.specs.Option.{option_map_or}
use Rattle.std.proofs.lemmas.List.{length-append}
use Rattle.std.proofs.lemmas.List.Elements.{All-nil}
use Rattle.rd_tree.specs.Figures.{max_boxes}
use Rattle.rd_tree.specs.declared.scroll.Scroll.{Scroll}
use Rattle.rd_tree.specs.Forest.{empty, tree, size, branch, item_of}
use Rattle.rd_tree.specs.Places.{parent_of, next_of}
use Rattle.rd_tree.specs.ByIds.{Looks, IdForest, named_tree}
use Rattle.rd_tree.specs.Document.{Document, BoxForest, Slot, taken, with_taken}
use Rattle.rd_tree.specs.Changes.{insertion}
use Rattle.rd_tree.specs.Touching.{settled}
use Rattle.rd_tree.proofs.Nodes.Each.{size-each}
use Rattle.rd_tree.proofs.Changing.NextKeys.{count, taken-next}
use Rattle.rd_edits.specs.declared.edit.Edit.{Edit}
use Rattle.rd_edits.specs.declared.edit.Edit.TheVariants.{Insert, Remove, Move, SetStyle, SetRect, Shift, Scroll as Scrolled}
use Rattle.rd_edits.specs.declared.fault.EditFault.{EditFault}
use Rattle.rd_edits.specs.Refusals.{refusal_of}
use Rattle.rd_scene.specs.declared.script.SceneBox.{SceneBox}
use Rattle.rd_scene.specs.declared.script.Command.{Command}
use Rattle.rd_scene.specs.declared.script.Command.TheVariants.{Change, Paint, Hit, Pixel, Dump, Shot, Undo}
use Rattle.rd_scene.specs.Scripts.{Script}
use Rattle.rd_scene.specs.Planting.{IsAlone, Adds, AddsAll, Grows, Plants, item_of as planted_item}
use Rattle.rd_scene.proofs.Keyed.{alone_well, added_well, each_well}
use Rattle.rd_scene.proofs.Plants.{parent_there}
use Rattle.rd_engine.specs.Painted.{untouched}
use Rattle.rd_undo.specs.Inverse.{previous, insertions, reinsertions, is_unscrolled, rescrolling, rescrollings, restoration, inverse}
use Rattle.rd_run.specs.Figures.{max_undos}
use Rattle.rd_run.specs.Machine.{State, Undos, first_undos, start, Paints, PaintsIf, Asks, Edits, TakesOne, TakesBack, Undoes, newest, older, noted, Step, Run, hit_answer, pixel_answer, dump_answer, shot_answer}
use Rattle.rd_run.specs.Slots.{HasNoRetiredSlot, SlotsLaw}
use Rattle.rd_run.proofs.Counted.{IsCounted, IsYoung, young_taken, counted_later, change_counted, edit_counted, IsMild, mild_counted}

-- ---- planted

alone_counted : (b : SceneBox) (t : Document) → IsAlone b t → IsCounted 0 t
alone_counted b t h =
    let a : taken t ≡ count (with_taken [] t.root) = ap (λ (l : List Slot). count l) h.slots in
    let c : count (with_taken [] t.root) ≡ count [] + 1 = taken-next (record t { slots = [] }) t.root h.first in
    let d : size t.boxes ≡ 1 = ap (λ (f : BoxForest). size f) h.boxes ∙ omega arith in record {
      well = alone_well b t h;
      same = omega (arith, a, c, d);
      young = subst (IsYoung 0) (sym h.slots) (young_taken 0 [] t.root h.first (All-nil (λ (y : Slot). y.generation ≤ 0)));
    }

added_counted : (n : ℕ) (b : SceneBox) (old new : Document) → n < 4294967295 → Adds b old new → IsCounted n old → IsCounted (n + 1) new
added_counted n b old new l a s =
    change_counted n (insertion a.parent None a.key (planted_item b)) old new l (parent_there old.boxes b a.parent a.parent_is, a.next) a.new_is
    (added_well b old new s.well a) s

all_added_counted : (bs : List SceneBox) (n m : ℕ) (old new : Document) → n + length bs ≤ m → m ≤ 4294967295 → AddsAll bs old new
    → IsCounted n old → IsCounted m new
all_added_counted [] n m old new l most h s = subst (IsCounted m) (sym h) (counted_later n m old (omega (arith, l)) s)
all_added_counted (b ∷ bs) n m old new l most h s =
    all_added_counted bs (n + 1) m (h.0) new (omega (arith, l)) most h.2 (added_counted n b old (h.0) (omega (arith, l, most)) h.1 s)

planted_counted : (s : Script) (t : Document) (m : ℕ) → length s.boxes ≤ m → m ≤ 4294967295 → Plants s t → IsCounted m t
planted_counted s t m l most h = by s.boxes l h.2
  where
    by : (bs : List SceneBox) → length bs ≤ m → Grows bs (h.0) t → IsCounted m t
    by [] l g = absurd g
    by (b ∷ bs) l g = all_added_counted bs 0 m (h.0) t (omega (arith, l)) most g.1 (alone_counted b (h.0) g.0)

-- ---- run

-- to take the marks away changes neither
settled_counted : (n : ℕ) (t : Document) → IsCounted n t → IsCounted n (untouched t)
settled_counted n t s = record {
  well = each_well (λ k. true) settled t s.well;
  same = s.same ∙ sym (size-each (λ k. true) settled t.boxes);
  young = s.young;
}

-- ---- undos

-- Some edits raise no generation.
abbrev AreMild : List Edit → Type 0
AreMild [] = Unit {0}
AreMild (e ∷ es) = IsMild e × AreMild es

-- What undoes an edit is one edit, or raises no generation.
abbrev IsSlow : List Edit → Type 0
IsSlow es = AreMild es ⊎ ((e : Edit) × (es ≡ e ∷ []))

-- So does each that is kept.
abbrev AreSlow : List (List Edit) → Type 0
AreSlow [] = Unit {0}
AreSlow (es ∷ us) = IsSlow es × AreSlow us

abbrev AllSlow : Option Undos → Type 0
AllSlow None = Unit {0}
AllSlow (Some us) = AreSlow us

mild_both : (es fs : List Edit) → AreMild es → AreMild fs → AreMild (es ++ fs)
mild_both [] fs a b = b
mild_both (e ∷ es) fs a b = (a.0, mild_both es fs a.1 b)

insertions_mild : (p : List ℕ) (f : IdForest) → AreMild (insertions p f)
insertions_mild p empty = tt
insertions_mild p (tree i d below rest) = (tt, mild_both (insertions i below) (insertions p rest) (insertions_mild i below) (insertions_mild p rest))

rescrolling_mild : (i : List ℕ) (s : Scroll) → AreMild (rescrolling i s)
rescrolling_mild i s = by (is_unscrolled s)
  where
    by : (b : Bool) → AreMild (if b then [] else Scrolled i s.x s.y ∷ [])
    by true = tt
    by false = (tt, tt)

rescrollings_mild : (f : IdForest) → AreMild (rescrollings f)
rescrollings_mild empty = tt
rescrollings_mild (tree i d below rest) =
    mild_both (rescrolling i d.scroll) (rescrollings below ++ rescrollings rest) (rescrolling_mild i d.scroll)
    (mild_both (rescrollings below) (rescrollings rest) (rescrollings_mild below) (rescrollings_mild rest))

reinsertions_mild : (p : List ℕ) (o : Option (List ℕ)) (f : IdForest) → AreMild (reinsertions p o f)
reinsertions_mild p o empty = tt
reinsertions_mild p o (tree i d below rest) = (tt, insertions_mild i below)

inverse_slow : (t : Document) (e : Edit) → IsSlow (inverse t e)
inverse_slow t (Insert i parent before rect style) = inr (Remove i, refl)
inverse_slow t (Remove i) = by (parent_of bytes_eq i (named_tree t))
  where
    by : (o : Option (List ℕ)) → IsSlow (option_map_or (λ p. restoration p (next_of bytes_eq i (named_tree t)) (branch bytes_eq i (named_tree t))) o [])
    by None = inl tt
    by (Some p) =
        let f : IdForest = branch bytes_eq i (named_tree t) in
        let o : Option (List ℕ) = next_of bytes_eq i (named_tree t) in
        inl (mild_both (reinsertions p o f) (rescrollings f) (reinsertions_mild p o f) (rescrollings_mild f))
inverse_slow t (Move i parent before) = by (parent_of bytes_eq i (named_tree t))
  where
    by : (o : Option (List ℕ)) → IsSlow (option_map_or (λ p. Move i p (next_of bytes_eq i (named_tree t)) ∷ []) o [])
    by None = inl tt
    by (Some p) = inr (Move i p (next_of bytes_eq i (named_tree t)), refl)
inverse_slow t (SetStyle i change) = by (item_of bytes_eq i (named_tree t))
  where
    by : (o : Option Looks) → IsSlow (option_map_or (λ d. SetStyle i (previous d.style change) ∷ []) o [])
    by None = inl tt
    by (Some d) = inr (SetStyle i (previous d.style change), refl)
inverse_slow t (SetRect i rect) = by (item_of bytes_eq i (named_tree t))
  where
    by : (o : Option Looks) → IsSlow (option_map_or (λ d. SetRect i d.rect ∷ []) o [])
    by None = inl tt
    by (Some d) = inr (SetRect i d.rect, refl)
inverse_slow t (Shift i dx dy) = inr (Shift i (neg_ℤ dx) (neg_ℤ dy), refl)
inverse_slow t (Scrolled i x y) = by (item_of bytes_eq i (named_tree t))
  where
    by : (o : Option Looks) → IsSlow (option_map_or (λ d. Scrolled i d.scroll.x d.scroll.y ∷ []) o [])
    by None = inl tt
    by (Some d) = inr (Scrolled i d.scroll.x d.scroll.y, refl)

slow_push : (us : List (List Edit)) (es : List Edit) → AreSlow us → IsSlow es → AreSlow (us ++ es ∷ [])
slow_push [] es a m = (m, tt)
slow_push (x ∷ us) es a m = (a.0, slow_push us es a.1 m)

slow_drop : (n : ℕ) (us : List (List Edit)) → AreSlow us → AreSlow (drop n us)
slow_drop zero us a = a
slow_drop (suc n) [] a = tt
slow_drop (suc n) (x ∷ us) a = slow_drop n us a.1

slow_take : (n : ℕ) (us : List (List Edit)) → AreSlow us → AreSlow (take n us)
slow_take zero us a = tt
slow_take (suc n) [] a = tt
slow_take (suc n) (x ∷ us) a = (a.0, slow_take n us a.1)

slow_at : (n : ℕ) (us : List (List Edit)) (es : List Edit) → AreSlow us → slice_get us n ≡ Some es → IsSlow es
slow_at n [] es a h = cc (h)
slow_at zero (x ∷ us) es a h = let e : x ≡ es = cc (h) in subst (λ (z : List Edit). IsSlow z) e a.0
slow_at (suc n) (x ∷ us) es a h = slow_at n us es a.1 h

noted_slow : (t : Document) (e : Edit) (o : Option Undos) → AllSlow o → AllSlow (noted t e o)
noted_slow t e None a = tt
noted_slow t e (Some us) a = slow_drop (length (us ++ inverse t e ∷ []) - max_undos) (us ++ inverse t e ∷ []) (slow_push us (inverse t e) a (inverse_slow t e))

older_slow : (o : Option Undos) → AllSlow o → AllSlow (older o)
older_slow None a = tt
older_slow (Some us) a = slow_take (length us - 1) us a

newest_slow : (o : Option Undos) (es : List Edit) → AllSlow o → newest o ≡ Some es → IsSlow es
newest_slow None es a h = cc (h)
newest_slow (Some us) es a h = slow_at (length us - 1) us es a h

-- ---- one command more

-- The slots of the tree are counted, and so will they be once an edit is undone.
record AreCounted (n : ℕ) (s : State) : Type 0 where
  tree : IsCounted n s.tree
  undos : AllSlow s.undos

later : (m n : ℕ) (s : State) → m ≤ n → AreCounted m s → AreCounted n s
later m n s l h = record { tree = counted_later m n s.tree l h.tree; undos = h.undos }

paint_counted : (n : ℕ) (old : State) (text : List ℕ) (new : State) → Paints old text new → AreCounted n old → AreCounted n new
paint_counted n old text new h s =
    subst (λ (x : State). AreCounted n x) (sym h.settled) (record { tree = settled_counted n old.tree s.tree; undos = s.undos })

asked_counted : (n : ℕ) (answer : State → List ℕ) (old : State) (text : List ℕ) (new : State) → Asks answer old text new
    → AreCounted n old → AreCounted (n + 1) new
asked_counted n answer old text new h s = later n (n + 1) new (omega arith) (by old.pending h.1)
  where
    by : (b : Bool) → PaintsIf b old (h.0) new → AreCounted n new
    by true g = paint_counted n old (h.0) new g s
    by false g = subst (λ (x : State). AreCounted n x) (sym g.1) s

mild_taken : (n : ℕ) (o : Option EditFault) (e : Edit) (k : ℕ) (old new : State) → n < 4294967295 → IsMild e → refusal_of old.tree e ≡ o → TakesOne o e k old new
    → AreCounted n old → AreCounted n new
mild_taken n (Some f) e k old new l m r h s = subst (λ (x : State). AreCounted n x) (sym h.1) s
mild_taken n None e k old new l m r h s =
    subst (λ (x : State). AreCounted n x) (sym h.1.2) (record { tree = mild_counted n e old.tree (h.1.0) l m r h.1.1 s.tree; undos = s.undos })

all_taken : (n : ℕ) (es : List Edit) (k : ℕ) (old new : State) → n < 4294967295 → AreMild es → TakesBack es k old new → AreCounted n old → AreCounted n new
all_taken n [] k old new l m h s = subst (λ (x : State). AreCounted n x) (sym h.1) s
all_taken n (e ∷ es) k old new l m h s =
    all_taken n es (h.1) (h.2) new l m.1 h.4 (mild_taken n (refusal_of old.tree e) e (h.0) old (h.2) l m.0 refl h.3 s)

one_taken : (n : ℕ) (o : Option EditFault) (e : Edit) (k : ℕ) (old new : State) → n < 4294967295 → refusal_of old.tree e ≡ o → TakesOne o e k old new
    → AreCounted n old → AreCounted (n + 1) new
one_taken n (Some f) e k old new l r h s = subst (λ (x : State). AreCounted (n + 1) x) (sym h.1) (later n (n + 1) old (omega arith) s)
one_taken n None e k old new l r h s =
    subst (λ (x : State). AreCounted (n + 1) x) (sym h.1.2) (record { tree = edit_counted n e old.tree (h.1.0) l r h.1.1 s.tree; undos = s.undos })

slow_taken : (n : ℕ) (es : List Edit) (k : ℕ) (old new : State) → n < 4294967295 → IsSlow es → TakesBack es k old new → AreCounted n old → AreCounted (n + 1) new
slow_taken n es k old new l (inl m) h s = later n (n + 1) new (omega arith) (all_taken n es k old new l m h s)
slow_taken n es k old new l (inr m) h s =
    let g : TakesBack (m.0 ∷ []) k old new = subst (λ (z : List Edit). TakesBack z k old new) m.1 h in
    let t : TakesOne (refusal_of old.tree (m.0)) (m.0) (g.0) old new = subst (λ (x : State). TakesOne (refusal_of old.tree (m.0)) (m.0) (g.0) old x) (sym g.4.1) g.3 in
    one_taken n (refusal_of old.tree (m.0)) (m.0) (g.0) old new l refl t s

step_counted : (n : ℕ) (c : Command) (old : State) (text : List ℕ) (new : State) → n < 4294967295 → Step c old text new
    → AreCounted n old → AreCounted (n + 1) new
step_counted n (Change e) old text new l h s = by (refusal_of old.tree e) refl h
  where
    by : (o : Option EditFault) → refusal_of old.tree e ≡ o → Edits o e old text new → AreCounted (n + 1) new
    by (Some f) r g =
        subst (λ (x : State). AreCounted (n + 1) x) (sym g.1) (record { tree = counted_later n (n + 1) old.tree (omega arith) s.tree; undos = s.undos })
    by None r g =
        subst (λ (x : State). AreCounted (n + 1) x) (sym g.1.2)
        (record { tree = edit_counted n e old.tree (g.1.0) l r g.1.1 s.tree; undos = noted_slow old.tree e old.undos s.undos })
step_counted n Paint old text new l h s = later n (n + 1) new (omega arith) (paint_counted n old text new h s)
step_counted n (Hit x y) old text new l h s = asked_counted n (hit_answer x y) old text new h s
step_counted n (Pixel x y) old text new l h s = asked_counted n (pixel_answer x y) old text new h s
step_counted n Dump old text new l h s = asked_counted n dump_answer old text new h s
step_counted n Shot old text new l h s = asked_counted n shot_answer old text new h s
step_counted n Undo old text new l h s = by (newest old.undos) refl h
  where
    by : (o : Option (List Edit)) → newest old.undos ≡ o → Undoes o old text new → AreCounted (n + 1) new
    by None r g = subst (λ (x : State). AreCounted (n + 1) x) (sym g.1) (later n (n + 1) old (omega arith) s)
    by (Some es) r g =
        slow_taken n es (g.0) (record old { undos = older old.undos }) new l (newest_slow old.undos es s.undos r) g.2
        (record { tree = s.tree; undos = older_slow old.undos s.undos })

run_counted : (cs : List Command) (n m : ℕ) (old : State) (text : List ℕ) (new : State) → n + length cs ≤ m → m ≤ 4294967295 → Run old cs text new
    → AreCounted n old → AreCounted m new
run_counted [] n m old text new l most h s = subst (λ (x : State). AreCounted m x) (sym h.1) (later n m old (omega (arith, l)) s)
run_counted (c ∷ cs) n m old text new l most h s =
    run_counted cs (n + 1) m (h.2) (h.1) new (omega (arith, l)) most h.4 (step_counted n c old (h.0) (h.2) (omega (arith, l, most)) h.3 s)

-- before the first command nothing is to be undone
first_slow : (version : ℕ) → AllSlow (first_undos version)
first_slow version = by (version == 2)
  where
    by : (b : Bool) → AllSlow (if b then Some [] else None)
    by true = tt
    by false = tt

-- ---- the law

no_retired : (t : Document) → taken t ≡ size t.boxes → HasNoRetiredSlot t
no_retired t e = record {
  same = e;
  full = ap (nat_le max_boxes) e;
  free = (λ h. subst (λ n. n < max_boxes) e h, λ h. subst (λ n. n < max_boxes) (sym e) h);
}

pub slots_law : SlotsLaw
slots_law s t before after text now is p split run =
    let n : ℕ = length s.boxes in
    let m : ℕ = n + length before in
    let l : length s.commands ≡ length before + length after = ap length split ∙ length-append before after in
    let most : m ≤ 4294967295 = omega (arith, is.most, is.few, l) in
    let planted : IsCounted n t = planted_counted s t n (omega arith) (omega (arith, is.most)) p in
    no_retired now.tree (run_counted before n m (start s.version t) text now (omega arith) most run (record { tree = planted; undos = first_slow s.version })).tree.same
