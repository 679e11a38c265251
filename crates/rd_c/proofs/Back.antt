-- Edits that are taken back.
use Rattle.std.proofs.Common.{◌≡◌, ◌∙◌, refl, sym, ap, subst, ℕ, zero, suc, ◌-◌, ◌<◌, ◌≤◌, true, false, List, [], ◌∷◌, ◌++◌, length, take, take_all, drop, inl, inr, arith}
use Rattle.std.specs.Prelude.{◌⊎◌, Option, Some, None, IfSome, is_some, slice_get}
use Rattle.circular_buffer.specs.Buffer.{buffer, keep_last, last_item}
use Rattle.rd_tree.specs.ByIds.{named_tree}
use Rattle.rd_keys.specs.Keys.{same_key}
use Rattle.rd_tree.specs.Document.{Document, taken, IsKeyed, IsRooted, AllFit, HasIds}
use Rattle.rd_tree.specs.Figures.{max_boxes, max_depth}
use Rattle.rd_tree.specs.Forest.{height, IsApart}
use Rattle.rd_tree.specs.Proper.{IsProper}
use Rattle.rd_tree.proofs.Nodes.Distinct.{distinct_ids}
use Rattle.rd_edits.specs.Edited.{IsInsert}
use Rattle.rd_edits.specs.Refusals.{IsRefused, refusal_of, number_of}
use Rattle.rd_edits.specs.declared.edit.Edit.{Edit}
use Rattle.rd_edits.specs.declared.fault.EditFault.{EditFault}
use Rattle.rd_edits.specs.declared.fault.EditFault.TheVariants.{UnknownId, UnknownParent, IsRoot, IntoItself, NotAChild, DuplicateId, TooDeep, TooMany, OutOfRange, NoMemory}
use Rattle.rd_undo.specs.Inverse.{inverse}
use Rattle.rd_undo.specs.Undoing.{AreDone, AreAccepted}
use Rattle.rd_undo.specs.History.{AreNoted, AreUndone}
use Rattle.rd_undo.proofs.Histories.{history}
use Rattle.rd_undo.proofs.Law.{inverse_undoes}
use Rattle.rd_engine.specs.State.{EngineState}
use Rattle.rd_c.specs.Held.{Undos, IsChanged, IsDone, IsRefusedBy, IsWanting, with_newest}
use Rattle.rd_c.specs.Turns.{InTurn, IsFirst}
use Rattle.rd_c.specs.Undone.{Undoes, IsBack, IsTakenBack, IsStopped, IsNeverRefused, Sparing, UndosLaw, newest_of, older_of}
use Rattle.rd_c.specs.declared.painter.Painter.{Painter}

-- why the engine refuses an edit
why : (t : Document) (e : Edit) (f : EditFault) (p : Painter) → p.engine.tree ≡ t → IsRefused t e f → (refusal_of p.engine.tree e ≡ Some f) ⊎ IsWanting f e p
why t e UnknownId p s h = inl (ap (λ z. refusal_of z e) s ∙ h)
why t e UnknownParent p s h = inl (ap (λ z. refusal_of z e) s ∙ h)
why t e IsRoot p s h = inl (ap (λ z. refusal_of z e) s ∙ h)
why t e IntoItself p s h = inl (ap (λ z. refusal_of z e) s ∙ h)
why t e NotAChild p s h = inl (ap (λ z. refusal_of z e) s ∙ h)
why t e DuplicateId p s h = inl (ap (λ z. refusal_of z e) s ∙ h)
why t e TooDeep p s h = inl (ap (λ z. refusal_of z e) s ∙ h)
why t e TooMany p s h = inl (ap (λ z. refusal_of z e) s ∙ h)
why t e OutOfRange p s h = inl (ap (λ z. refusal_of z e) s ∙ h)
why t e NoMemory p s h = inr (refl, ap (λ z. refusal_of z e) s ∙ h.0, inl h.1)

pub refused_at : (f : EditFault) (n : ℕ) (e : Edit) (p : Painter) → n ≡ number_of f → IsRefused p.engine.tree e f → IsRefusedBy n e p
refused_at f n e p is refused = record { fault = f; number = sym is; refused = why p.engine.tree e f p refl refused }

some_is : {A : Type 0} (x y : A) → Some x ≡ Some y → x ≡ y
some_is x y h = cc (h)

-- the edits that are left, without those that were done
room_at : (xs : List (List Edit)) (n : ℕ) (es : List Edit) → length xs ≡ suc n → slice_get xs n ≡ Some es → take n xs ++ es ∷ [] ≡ xs
room_at [] n es l h = absurd (omega (arith, l))
room_at (x ∷ []) zero es l h = ap (λ z. z ∷ []) (sym (some_is x es h))
room_at (x ∷ (y ∷ xs)) zero es l h = absurd (omega (arith, l))
room_at (x ∷ xs) (suc n) es l h = ap (λ z. x ∷ z) (room_at xs n es (omega (arith, l)) h)

room_of : (xs : List (List Edit)) (es : List Edit) → last_item xs ≡ Some es → take (length xs - 1) xs ++ es ∷ [] ≡ xs
room_of [] es h = absurd (let no : None ≡ Some es = h in cc)
room_of (x ∷ xs) es h =
    let n : length (x ∷ xs) - 1 ≡ length xs = omega arith in
    subst (λ k. take k (x ∷ xs) ++ es ∷ [] ≡ x ∷ xs) (sym n) (room_at (x ∷ xs) (length xs) es refl (subst (λ k. slice_get (x ∷ xs) k ≡ Some es) n h))

keep_all : (n : ℕ) (xs : List (List Edit)) → length xs ≤ n → keep_last n xs ≡ xs
keep_all n xs h = let e : length xs - n ≡ 0 = omega (arith, h) in ap (λ k. drop k xs) e

pub whole : (u : Undos) (es : List Edit) → length u.items ≤ u.capacity → last_item u.items ≡ Some es → with_newest es (older_of (Some u)) ≡ Some u
whole u es h is = ap (λ xs. Some (buffer xs u.capacity)) (ap (keep_last u.capacity) (room_of u.items es is) ∙ keep_all u.capacity u.items h)

-- a tree of an engine
pub proper_of : (t : Document) → IsRooted t → IsApart same_key t.boxes → IsKeyed t → HasIds t.boxes → AllFit t.boxes → height t.boxes ≤ max_depth → taken t ≤ max_boxes → IsProper t
proper_of t rooted apart keyed ids limits shallow room = record { rooted = rooted; apart = apart; distinct = distinct_ids t.boxes apart ids; keyed = keyed; room = room; limits = limits; shallow = shallow }

-- why an edit of which is kept what undoes it is refused
pub judged : (f : EditFault) (n : ℕ) (e : Edit) (p : Painter) → n ≡ number_of f → refusal_of p.engine.tree e ≡ Some f → IsRefusedBy n e p
judged f n e p is refused = record { fault = f; number = sym is; refused = inl refused }

pub unkept : (n : ℕ) (e : Edit) (p : Painter) → n ≡ 10 → refusal_of p.engine.tree e ≡ None → is_some p.undo ≡ true → IsRefusedBy n e p
unkept n e p is accepted keeps = record { fault = NoMemory; number = sym is; refused = inr (refl, accepted, inr keeps) }

-- edits of an engine are edits of its tree
done_in : (es : List Edit) (a b : EngineState) → InTurn IsChanged es a b → AreDone es a.tree b.tree
done_in [] a b h = ap (λ s. s.tree) h
done_in (e ∷ es) a b h = (h.0.tree, h.1.edited, h.1.after, done_in es h.0 b h.2)

pub back : (n : ℕ) (old new : Painter) → IsProper old.engine.tree → IsTakenBack n old new → IsBack old new
back n old new proper k = record { named = from }
  where
    from : (e : Edit) (before : Document) → Undoes e before old → named_tree new.engine.tree ≡ named_tree before
    from e before u =
        let same : k.edits ≡ inverse before e = some_is k.edits (inverse before e) (sym k.newest ∙ u.newest) in
        let done : AreDone (inverse before e) old.engine.tree new.engine.tree = subst (λ es. AreDone es old.engine.tree new.engine.tree) same (done_in k.edits old.engine new.engine k.done) in
        (inverse_undoes e before u.proper u.accepted u.after old.engine.tree u.edited u.named u.retired proper).1 new.engine.tree done

-- after the first of some edits that are accepted in turn the others are
accepted_then : (es : List Edit) (n : ℕ) (a b : EngineState) → AreAccepted es a.tree → InTurn IsChanged (take n es) a b → AreAccepted (drop n es) b.tree
accepted_then es zero a b h done = subst (λ z. AreAccepted es z) (sym (ap (λ s. s.tree) done)) h
accepted_then [] (suc n) a b h done = tt
accepted_then (e ∷ es) (suc n) a b h done = accepted_then es n done.0 b (h.1 done.0.tree done.1.edited done.1.after) done.2

-- of edits that are accepted only memory stops the first
only_short : (es : List Edit) (number : ℕ) (p : Painter) → AreAccepted es p.engine.tree → IsFirst (λ e. IsRefusedBy number e p) es → number ≡ 10
only_short [] number p h is = absurd is
only_short (e ∷ es) number p h is = by is.refused
  where
    by : (refusal_of p.engine.tree e ≡ Some is.fault) ⊎ IsWanting is.fault e p → number ≡ 10
    by (inl refused) = absurd (let no : Some is.fault ≡ None = sym refused ∙ h.0 in cc)
    by (inr wanting) = sym is.number ∙ ap number_of wanting.0

pub never_refused : (n number : ℕ) (old new : Painter) → IsProper old.engine.tree → IsStopped n number old new → IsNeverRefused number old
never_refused n number old new proper k = record { memory = from }
  where
    from : (e : Edit) (before : Document) → Undoes e before old → number ≡ 10
    from e before u =
        let same : k.edits ≡ inverse before e = some_is k.edits (inverse before e) (sym k.newest ∙ u.newest) in
        let accepted : AreAccepted k.edits old.engine.tree =
        subst (λ es. AreAccepted es old.engine.tree) (sym same) (inverse_undoes e before u.proper u.accepted u.after old.engine.tree u.edited u.named u.retired proper).0 in
        only_short (drop n k.edits) number new (accepted_then k.edits n old.engine new.engine accepted k.done) k.refused

proper_then : (es : List Edit) (a b : EngineState) → IsProper a.tree → InTurn IsChanged es a b → IsProper b.tree
proper_then [] a b w h = subst (λ (s : EngineState). IsProper s.tree) (sym h) w
proper_then (e ∷ es) a b w h = proper_then es h.0 b h.1.after h.2

-- what is kept after some edits
record Noted (es : List Edit) (u : Undos) (p q : Painter) : Type 0 where
  undos : Undos
  are : q.undo ≡ Some undos
  noted : AreNoted u.capacity es p.engine.tree u.items q.engine.tree undos.items
  proper : IsProper q.engine.tree

all_noted : (es : List Edit) (u : Undos) (p q : Painter) → p.undo ≡ Some u → IsProper p.engine.tree → InTurn (Sparing IsDone) es p q → Noted es u p q
all_noted [] u p q is w h = record {
  undos = u;
  are = ap (λ (z : Painter). z.undo) h ∙ is;
  noted = (ap (λ (z : Painter). z.engine.tree) h, refl);
  proper = subst (λ (z : Painter). IsProper z.engine.tree) (sym h) w;
}
all_noted (e ∷ es) u p q is w h =
    let d : IsDone e p h.0 = h.1.0 in
    let v : Undos = buffer (keep_last u.capacity (u.items ++ inverse p.engine.tree e ∷ [])) u.capacity in
    let r : Noted es v h.0 q = all_noted es v h.0 q (d.noted ∙ ap (with_newest (inverse p.engine.tree e)) is) d.changed.after h.2 in
    record { undos = r.undos; are = r.are; noted = (h.0.engine.tree, d.changed.accepted, d.changed.edited, h.1.1, d.changed.after, r.noted); proper = r.proper }

-- what is kept after some undos
record Undone (k : ℕ) (u : Undos) (p q : Painter) : Type 0 where
  undos : Undos
  undone : AreUndone k u.items p.engine.tree undos.items q.engine.tree

all_undone : (ns : List ℕ) (u : Undos) (p q : Painter) → p.undo ≡ Some u → IsProper p.engine.tree → InTurn (Sparing IsTakenBack) ns p q → Undone (length ns) u p q
all_undone [] u p q is w h = record { undos = u; undone = (refl, ap (λ (z : Painter). z.engine.tree) h) }
all_undone (n ∷ ns) u p q is w h =
    let k : IsTakenBack n p h.0 = h.1.0 in
    let newest : last_item u.items ≡ Some k.edits = ap newest_of (sym is) ∙ k.newest in
    let v : Undos = buffer (take (length u.items - 1) u.items) u.capacity in
    let x : IsProper h.0.engine.tree = proper_then k.edits p.engine h.0.engine w k.done in
    let r : Undone (length ns) v h.0 q = all_undone ns v h.0 q (k.left ∙ ap older_of is) x h.2 in
    record {
      undos = r.undos;
      undone = (take (length u.items - 1) u.items, k.edits, h.0.engine.tree, sym (room_of u.items k.edits newest), done_in k.edits p.engine h.0.engine k.done, h.1.1, x, r.undone);
    }

pub as_many : UndosLaw
as_many [] [] u p p1 p2 is few most same done back = ap (λ (z : Painter). named_tree z.engine.tree) (back ∙ done)
as_many [] (n ∷ ns) u p p1 p2 is few most same done back = absurd (omega (arith, same))
as_many (e ∷ es) ns u p p1 p2 is few most same done back =
    let w : IsProper p.engine.tree = done.1.0.changed.before in
    let a : Noted (e ∷ es) u p p1 = all_noted (e ∷ es) u p p1 is w done in
    let b : Undone (length ns) a.undos p1 p2 = all_undone ns a.undos p1 p2 a.are a.proper back in
    history u.capacity (e ∷ es) p.engine.tree p1.engine.tree p2.engine.tree u.items a.undos.items b.undos.items w few most a.noted
    (subst (λ k. AreUndone k a.undos.items p1.engine.tree b.undos.items p2.engine.tree) same b.undone)

-- where nothing is kept, taking out leaves it so
item_there : (xs : List (List Edit)) (n : ℕ) → n < length xs → slice_get xs n ≡ None → ⊥
item_there [] n l h = absurd (omega (arith, l))
item_there (x ∷ xs) zero l h = absurd (let no : Some x ≡ None = h in cc)
item_there (x ∷ xs) (suc n) l h = item_there xs n (omega (arith, l)) h

none_left : (xs : List (List Edit)) → last_item xs ≡ None → take (length xs - 1) xs ≡ xs
none_left [] h = refl
none_left (x ∷ xs) h = absurd (item_there (x ∷ xs) (length (x ∷ xs) - 1) (omega arith) h)

nothing_kept : (o : Option Undos) → newest_of o ≡ None → older_of o ≡ o
nothing_kept None h = refl
nothing_kept (Some u) h = ap (λ xs. Some (buffer xs u.capacity)) (none_left u.items h)

same_painter : (p q : Painter) → q.engine ≡ p.engine → q.undo ≡ p.undo → q ≡ p
same_painter p q e u = λ i. record { engine = e i; undo = u i }

pub none_kept : (p q : Painter) → newest_of p.undo ≡ None → q.engine ≡ p.engine → q.undo ≡ older_of p.undo → q ≡ p
none_kept p q none engine older = same_painter p q engine (older ∙ nothing_kept p.undo none)

pub none_refused : (n : ℕ) (p : Painter) → newest_of p.undo ≡ None → IsNeverRefused n p
none_refused n p none = record { memory = λ e before u. absurd (let no : Some (inverse before e) ≡ None = sym u.newest ∙ none in cc) }

pub none_stopped : (n m : ℕ) (p q : Painter) → newest_of p.undo ≡ None → is_some (newest_of p.undo) ≡ true → IsStopped n m p q
none_stopped n m p q none some = absurd (let no : false ≡ true = sym (ap is_some none) ∙ some in cc)

pub some_kept : (o : Option Undos) (es : List Edit) (m : ℕ) → newest_of o ≡ Some es → newest_of o ≡ None → m ≡ 16
some_kept o es m some none = absurd (let no : Some es ≡ None = sym some ∙ none in cc)

pub ruleset nothing = (none_kept, none_refused, none_stopped, some_kept)

-- what undoes the latest edit is taken out, and would be put back
pub popped : (o : Option Undos) (u new : Undos) (r : Option (List Edit)) (n : ℕ) → o ≡ Some u → n ≡ length u.items → n ≤ u.capacity → r ≡ last_item u.items → new ≡ buffer (take (length u.items - 1) u.items) u.capacity
    → IfSome r (λ es. with_newest es (Some new) ≡ o)
popped o u new None n is len within newest older = tt
popped o u new (Some es) n is len within newest older = ap (λ (z : Undos). with_newest es (Some z)) older ∙ (whole u es (omega (arith, len, within)) (sym newest) ∙ sym is)

pub taken_back : (n : ℕ) (es : List Edit) (old new : Painter) → newest_of old.undo ≡ Some es → n ≡ length es → InTurn IsChanged (take n es) old.engine new.engine → new.undo ≡ older_of old.undo → IsTakenBack n old new
taken_back n es old new newest count done left =
    let all : take n es ≡ es = take_all n es (omega (arith, count)) in
    record { edits = es; newest = newest; count = count; done = subst (λ z. InTurn IsChanged z old.engine new.engine) all done; left = left }

some_with : (es : List Edit) (o : Option Undos) → is_some (with_newest es o) ≡ is_some o
some_with es None = refl
some_with es (Some u) = refl

-- a refusal rests on the tree and on whether edits are kept
refused_still : (n : ℕ) (e : Edit) (p q : Painter) → q.engine ≡ p.engine → is_some q.undo ≡ is_some p.undo → IsRefusedBy n e p → IsRefusedBy n e q
refused_still n e p q same keeps r = record { fault = r.fault; number = r.number; refused = by r.refused }
  where
    tree : q.engine.tree ≡ p.engine.tree
    tree = ap (λ (s : EngineState). s.tree) same

    by : (refusal_of p.engine.tree e ≡ Some r.fault) ⊎ IsWanting r.fault e p → (refusal_of q.engine.tree e ≡ Some r.fault) ⊎ IsWanting r.fault e q
    by (inl h) = inl (ap (λ t. refusal_of t e) tree ∙ h)
    by (inr h) = inr (h.0, ap (λ t. refusal_of t e) tree ∙ h.1, kept h.2)
      where
        kept : IsInsert e ⊎ (is_some p.undo ≡ true) → IsInsert e ⊎ (is_some q.undo ≡ true)
        kept (inl i) = inl i
        kept (inr k) = inr (keeps ∙ k)

first_still : (n : ℕ) (es : List Edit) (p q : Painter) → q.engine ≡ p.engine → is_some q.undo ≡ is_some p.undo → IsFirst (λ e. IsRefusedBy n e p) es → IsFirst (λ e. IsRefusedBy n e q) es
first_still n [] p q same keeps h = h
first_still n (e ∷ es) p q same keeps h = refused_still n e p q same keeps h

pub stopped : (n number : ℕ) (es : List Edit) (old mid new : Painter) → newest_of old.undo ≡ Some es → n < length es → InTurn IsChanged (take n es) old.engine mid.engine → IsFirst (λ e. IsRefusedBy number e mid) (drop n es)
    → mid.undo ≡ older_of old.undo → new.engine ≡ mid.engine → new.undo ≡ with_newest (drop n es) mid.undo → IsStopped n number old new
stopped n number es old mid new newest few done refused older engine left =
    record {
      edits = es;
      newest = newest;
      few = few;
      done = subst (λ (s : EngineState). InTurn IsChanged (take n es) old.engine s) (sym engine) done;
      refused = first_still number (drop n es) mid new engine (ap is_some left ∙ some_with (drop n es) mid.undo) refused;
      left = left ∙ ap (with_newest (drop n es)) older;
    }

-- where none of them was done, all is as it was
pub stopped_at_once : (n : ℕ) (es : List Edit) (r : Option (List Edit)) (rest : Option Undos) (old mid new : Painter) → n ≡ 0 → r ≡ Some es → IfSome r (λ es. with_newest es rest ≡ old.undo)
    → InTurn IsChanged (take n es) old.engine mid.engine → mid.undo ≡ rest → new.engine ≡ mid.engine → new.undo ≡ with_newest (drop n es) mid.undo → new ≡ old
stopped_at_once n es r rest old mid new none newest whole done same engine left =
    let begun : InTurn IsChanged (take 0 es) old.engine mid.engine = subst (λ k. InTurn IsChanged (take k es) old.engine mid.engine) none done in
    let put : with_newest es rest ≡ old.undo = subst (λ (z : Option (List Edit)). IfSome z (λ es. with_newest es rest ≡ old.undo)) newest whole in
    same_painter old new (engine ∙ begun) (left ∙ ap (λ k. with_newest (drop k es) mid.undo) none ∙ ap (with_newest es) same ∙ put)
