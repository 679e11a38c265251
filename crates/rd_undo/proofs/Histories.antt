-- As many undos as edits give the first tree by ids.
use Rattle.std.proofs.Common.{◌≡◌, refl, ap, ◌∙◌, sym, subst, ℕ, zero, suc, ◌+◌, ◌-◌, ◌≤◌, arith, List, ◌∷◌, ◌++◌, length, drop, append_assoc, length-append, length-drop, None, []}
use Rattle.std.proofs.lemmas.Grind.{common_steps}
use Rattle.std.proofs.lemmas.List.{drop-append-le}
use Rattle.circular_buffer.specs.Buffer.{keep_last}
use Rattle.rd_tree.specs.Forest.{size}
use Rattle.rd_tree.specs.Document.{Document, taken}
use Rattle.rd_tree.specs.ByIds.{named_tree}
use Rattle.rd_tree.specs.Proper.{IsProper}
use Rattle.rd_edits.specs.declared.edit.Edit.{Edit}
use Rattle.rd_edits.specs.Edited.{IsEdited}
use Rattle.rd_edits.specs.Refusals.{refusal_of}
use Rattle.rd_undo.specs.Inverse.{inverse}
use Rattle.rd_undo.specs.Undoing.{AreDone, SameRetired}
use Rattle.rd_undo.specs.History.{AreNoted, AreUndone, HistoryLaw}
use Rattle.rd_undo.proofs.Law.{inverse_undoes}

abbrev Steps : Type 0
Steps = List (List Edit)

-- what undoes some edits, one after another
abbrev Chain : Steps → Document → Document → Type 0
Chain [] t t1 = t1 ≡ t
Chain (x ∷ xs) t t1 =
    (e : Edit) × (mid : Document) × (x ≡ inverse t e) × (refusal_of t e ≡ None) × IsEdited e t mid × SameRetired t mid × IsProper t × Chain xs mid t1

retired_then : (a b c : Document) → SameRetired a b → SameRetired b c → SameRetired a c
retired_then a b c p q =
    let x : taken b + size a.boxes ≡ taken a + size b.boxes = p in
    let y : taken c + size b.boxes ≡ taken b + size c.boxes = q in
    omega (arith, x, y)

-- The first of some undos are done, and then the last.
record Parted (k : ℕ) (us : Steps) (t : Document) (us1 : Steps) (t1 : Document) : Type 0 where
  steps : Steps
  tree : Document
  first : AreUndone k us t steps tree
  last : AreUndone 1 steps tree us1 t1

parted : (k : ℕ) (us : Steps) (t : Document) (us1 : Steps) (t1 : Document) → AreUndone (suc k) us t us1 t1 → Parted k us t us1 t1
parted zero us t us1 t1 h = record { steps = us; tree = t; first = (refl, refl); last = h }
parted (suc k) us t us1 t1 h =
    let q : Parted k h.0 h.2 us1 t1 = parted k h.0 h.2 us1 t1 h.7 in
    record { steps = q.steps; tree = q.tree; first = (h.0, h.1, h.2, h.3, h.4, h.5, h.6, q.first); last = q.last }

-- What undos come to.
record Back (t : Document) (pre : Steps) (us1 : Steps) (t1 : Document) : Type 0 where
  named : named_tree t1 ≡ named_tree t
  steps : us1 ≡ pre
  retired : SameRetired t t1
  proper : IsProper t1

last_is : (a b : Steps) (x y : List Edit) → a ++ x ∷ [] ≡ b ++ y ∷ [] → (a ≡ b) × (x ≡ y)
last_is [] [] x y h = (refl, cc (h))
last_is [] (c ∷ []) x y h = absurd (let no : x ∷ [] ≡ c ∷ (y ∷ []) = h in cc)
last_is [] (c ∷ (d ∷ b)) x y h = absurd (let no : x ∷ [] ≡ c ∷ (d ∷ (b ++ y ∷ [])) = h in cc)
last_is (c ∷ []) [] x y h = absurd (let no : c ∷ (x ∷ []) ≡ y ∷ [] = h in cc)
last_is (c ∷ (d ∷ a)) [] x y h = absurd (let no : c ∷ (d ∷ (a ++ x ∷ [])) ≡ y ∷ [] = h in cc)
last_is (c ∷ a) (d ∷ b) x y h =
    let t : a ++ x ∷ [] ≡ b ++ y ∷ [] = cc (h) in
    let e : c ≡ d = cc (h) in
    let r = last_is a b x y t in
    (ap (λ z. z ∷ a) e ∙ ap (λ z. d ∷ z) r.0, r.1)

back : (xs pre us2 : Steps) (t t1 now t2 : Document) → Chain xs t t1 → named_tree now ≡ named_tree t1 → SameRetired t1 now → IsProper now
    → AreUndone (length xs) (pre ++ xs) now us2 t2 → Back t pre us2 t2
back [] pre us2 t t1 now t2 c e s w h = record {
  named = ap named_tree h.1 ∙ (e ∙ ap named_tree c);
  steps = h.0 ∙ empty_end pre;
  retired = subst (λ z. SameRetired t z) (sym h.1) (subst (λ z. SameRetired z now) c s);
  proper = subst IsProper (sym h.1) w;
}
  where
    empty_end : (a : Steps) → a ++ [] ≡ a
    empty_end [] = refl
    empty_end (x ∷ a) = ap (λ z. x ∷ z) (empty_end a)
back (x ∷ xs) pre us2 t t1 now t2 c e s w h =
    let q : Parted (length xs) (pre ++ x ∷ xs) now us2 t2 = parted (length xs) (pre ++ x ∷ xs) now us2 t2 h in
    let first : AreUndone (length xs) ((pre ++ x ∷ []) ++ xs) now q.steps q.tree = subst (λ z. AreUndone (length xs) z now q.steps q.tree) (sym (append_assoc pre (x ∷ []) xs)) q.first in
    let b : Back c.1 (pre ++ x ∷ []) q.steps q.tree = back xs (pre ++ x ∷ []) q.steps c.1 t1 now q.tree c.7 e s w first in
    let l : AreUndone 1 q.steps q.tree us2 t2 = q.last in
    let same = last_is l.0 pre l.1 x (sym l.3 ∙ b.steps) in
    let done : AreDone (inverse t c.0) q.tree l.2 = subst (λ z. AreDone z q.tree l.2) (same.1 ∙ c.2) l.4 in
    let r : SameRetired t q.tree = retired_then t c.1 q.tree c.5 b.retired in
    let undone : named_tree l.2 ≡ named_tree t = (inverse_undoes c.0 t c.6 c.3 c.1 q.tree c.4 b.named r b.proper).1 l.2 done in
    record {
      named = ap named_tree l.7.1 ∙ undone;
      steps = l.7.0 ∙ same.0;
      retired = subst (λ z. SameRetired t z) (sym l.7.1) (retired_then t q.tree l.2 r l.5);
      proper = subst IsProper (sym l.7.1) l.6;
    }

-- ---- what is kept

keep_small : (n : ℕ) (a : Steps) → length a ≤ n → keep_last n (a ++ []) ≡ a
keep_small n a h = grind (arith, common_steps)

keep_most : (n : ℕ) (a : Steps) → length (keep_last n a) ≤ n
keep_most n a = grind (arith, common_steps)

keep_end : (n : ℕ) (a b : Steps) → length b ≤ n → keep_last n (a ++ b) ≡ drop (length (a ++ b) - n) a ++ b
keep_end n a b h = let l : length (a ++ b) ≡ length a + length b = length-append a b in drop-append-le (length (a ++ b) - n) a b (omega (arith, l, h))

dropped : (m d : ℕ) (z : Steps) → drop m (drop d z) ≡ drop (d + m) z
dropped m d z = grind (arith, common_steps)

keep_again : (n : ℕ) (a b : Steps) → keep_last n (keep_last n a ++ b) ≡ keep_last n (a ++ b)
keep_again n a b =
    let d : ℕ = length a - n in
    let z : Steps = a ++ b in
    let e : drop d z ≡ keep_last n a ++ b = drop-append-le d a b (omega arith) in
    let l : length z ≡ length a + length b = length-append a b in
    let m : length (drop d z) ≡ length z - d = length-drop d z in
    let s : d + (length (drop d z) - n) ≡ length z - n = omega (arith, l, m) in
    ap (keep_last n) (sym e) ∙ (dropped (length (drop d z) - n) d z ∙ ap (λ k. drop k z) s)

chained : (n : ℕ) (es : List Edit) (t : Document) (us : Steps) (t1 : Document) (us1 : Steps) → IsProper t → length us ≤ n → AreNoted n es t us t1 us1
    → (xs : Steps) × (us1 ≡ keep_last n (us ++ xs)) × (length xs ≡ length es) × Chain xs t t1 × IsProper t1
chained n [] t us t1 us1 w l h = ([], h.1 ∙ sym (keep_small n us l), refl, h.0, subst IsProper (sym h.0) w)
chained n (e ∷ es) t us t1 us1 w l h =
    let x : List Edit = inverse t e in
    let c = chained n es h.0 (keep_last n (us ++ x ∷ [])) t1 us1 h.4 (keep_most n (us ++ x ∷ [])) h.5 in (
      x ∷ c.0,
      c.1 ∙ (keep_again n (us ++ x ∷ []) c.0 ∙ ap (keep_last n) (append_assoc us (x ∷ []) c.0)),
      ap (λ k. suc k) c.2,
      (e, h.0, refl, h.1, h.2, h.3, w, c.3),
      c.4,
    )

pub history : HistoryLaw
history n es t t1 t2 us us1 us2 w l m noted undone =
    let c = chained n es t us t1 us1 w l noted in
    let few : length c.0 ≤ n = omega (arith, c.2, m) in
    let pre : Steps = drop (length (us ++ c.0) - n) us in
    let is : us1 ≡ pre ++ c.0 = c.1 ∙ keep_end n us c.0 few in
    let u : AreUndone (length c.0) (pre ++ c.0) t1 us2 t2 = subst (λ z. AreUndone (length c.0) z t1 us2 t2) is (subst (λ k. AreUndone k us1 t1 us2 t2) (sym c.2) undone) in
    (back c.0 pre us2 t t1 t1 t2 c.3 refl refl c.4 u).named
