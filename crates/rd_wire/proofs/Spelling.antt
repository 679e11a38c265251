-- Entries that are written one after another.
use Rattle.std.proofs.Common.{◌≡◌, ℕ, ℤ, zero, suc, ◌+◌, ◌<◌, ◌≤◌, ◌^◌, List, [], ◌∷◌, ◌++◌, length, take, get_or, refl, sym, ◌∙◌, ap, subst, arith, append_assoc, append-nil}
use Rattle.std.proofs.lemmas.List.{take_more}
use Rattle.rd_item.specs.Items.{Made}
use Rattle.rd_keys.specs.declared.entry.EntryKey.{EntryKey}
use Rattle.rd_list.specs.Wrappers.{Wrapper}
use Rattle.rd_list.specs.Entries.{Entries, nil, leaf, group, ◌▷◌}
use Rattle.rd_list.specs.Kept.{Ordered}
use Rattle.rd_list.specs.KeptView.{kept_entries}
use Rattle.rd_list.specs.Unordered.{unordered}
use Rattle.rd_list.specs.declared.kept.Entry.{Entry}
use Rattle.rd_list.specs.declared.kept.Entry.TheVariants as kept
use Rattle.rd_list.proofs.News.{kept-append}
use Rattle.rd_geom.specs.Plane.{Rectangle}
use Rattle.rd_wire.specs.Fields.{number, whole, rectangle}
use Rattle.rd_geom.specs.Canvas.{canvas_of}
use Rattle.rd_wire.specs.Leaves.{leaf_form, FitsLeaf, IsSeen}
use Rattle.rd_wire.specs.Wires.{width, group_form, entries_form, EachEntry, FitsGroup, IsFilled, NumbersFit, KeepsRules}
use Rattle.rd_wire.specs.Internal.Counts.{CountsFit}
use Rattle.rd_wire.specs.declared.wire.Wire.{Wire}

abbrev KeptEntries : Type 0
KeptEntries = Entries (Ordered EntryKey Wrapper) Made

pub width-kept : {A : Type 0} (es : List (Entry A)) → width (unordered (kept_entries es)) ≡ length es
width-kept [] = refl
width-kept (kept.Leaf i ∷ es) = let r = width-kept es in omega (arith, r)
width-kept (kept.Group g ∷ es) = let r = width-kept es in omega (arith, r)

unordered-join : (xs ys : KeptEntries) → unordered (xs ▷ ys) ≡ unordered xs ▷ unordered ys
unordered-join nil ys = refl
unordered-join (leaf m xs) ys = ap (leaf m) (unordered-join xs ys)
unordered-join (group g inner xs) ys = ap (group g.of (unordered inner)) (unordered-join xs ys)

forms-join : (xs ys : Entries Wrapper Made) → entries_form (xs ▷ ys) ≡ entries_form xs ++ entries_form ys
forms-join nil ys = refl
forms-join (leaf m xs) ys = ap (λ z. (1 ∷ leaf_form m) ++ z) (forms-join xs ys) ∙ sym (append_assoc (1 ∷ leaf_form m) (entries_form xs) (entries_form ys))
forms-join (group g inner xs) ys =
    let front : List ℕ = 2 ∷ group_form g ++ (number (width inner) ++ entries_form inner) in
    ap (λ z. front ++ z) (forms-join xs ys) ∙ sym (append_assoc front (entries_form xs) (entries_form ys))

module _ {G L : Type 0} (P : L → Type 0) (Q : G → Entries G L → Type 0) where
  each-join : (xs ys : Entries G L) → EachEntry P Q xs → EachEntry P Q ys → EachEntry P Q (xs ▷ ys)
  each-join nil ys h k = k
  each-join (leaf l xs) ys h k = (h.0, each-join xs ys h.1 k)
  each-join (group g inner xs) ys h k = (h.0, h.1, each-join xs ys h.2 k)

-- the entries of a list
abbrev seen : {A : Type 0} → List (Entry A) → Entries Wrapper Made
seen es = unordered (kept_entries es)

module _ {A : Type 0} (es : List (Entry A)) (i : ℕ) (x : Entry A) (h : i < length es) (e : x ≡ get_or es i x) where
  more : seen (take (i + 1) es) ≡ seen (take i es) ▷ seen (x ∷ [])
  more =
      ap seen (take_more es i x h ∙ ap (λ y. take i es ++ y ∷ []) (sym e)) ∙ ap unordered (kept-append (take i es) (x ∷ []))
      ∙ unordered-join (kept_entries (take i es)) (kept_entries (x ∷ []))

  -- one more entry
  pub forms_more : (begun before after : List ℕ) → before ≡ begun ++ entries_form (seen (take i es)) → after ≡ before ++ entries_form (seen (x ∷ []))
      → after ≡ begun ++ entries_form (seen (take (i + 1) es))
  forms_more begun before after p q =
      q ∙ ap (λ z. z ++ entries_form (seen (x ∷ []))) p ∙ append_assoc begun (entries_form (seen (take i es))) (entries_form (seen (x ∷ [])))
      ∙ ap (λ z. begun ++ z) (sym (ap entries_form more ∙ forms-join (seen (take i es)) (seen (x ∷ []))))

  pub fits_more : NumbersFit (seen (take i es)) → NumbersFit (seen (x ∷ [])) → NumbersFit (seen (take (i + 1) es))
  fits_more p q = subst (λ (ys : Entries Wrapper Made). NumbersFit ys) (sym more) (each-join FitsLeaf (λ g inner. FitsGroup g) (seen (take i es)) (seen (x ∷ [])) p q)

pub counts_at : {A : Type 0} (es : List (Entry A)) (i : ℕ) (x : Entry A) → i < length es → x ≡ get_or es i x → CountsFit (seen es) → CountsFit (seen (x ∷ []))
counts_at [] i x h e c = absurd (omega arith)
counts_at (kept.Leaf m ∷ es) zero x h e c = rw e (tt, tt)
counts_at (kept.Group g ∷ es) zero x h e c = rw e (c.0, c.1, tt)
counts_at (kept.Leaf m ∷ es) (suc i) x h e c = counts_at es i x (omega arith) e c.1
counts_at (kept.Group g ∷ es) (suc i) x h e c = counts_at es i x (omega arith) e c.2

-- the counts of a list that keeps the rules
pub counts_fit : (w : Wire) → KeepsRules w → CountsFit w.list
counts_fit w k = by (λ m. IsSeen (canvas_of w.size) m.leaf) w.list k.entries
  where
    by : (P : Made → Type 0) (xs : Entries Wrapper Made) → EachEntry P (λ g inner. IsFilled inner) xs → CountsFit xs
    by P nil h = tt
    by P (leaf m xs) h = (tt, by P xs h.1)
    by P (group g inner xs) h = (h.0.count, by P inner h.1, by P xs h.2)

-- a rectangle, two numbers at a time
pub two_pairs : (o p q : List ℕ) (x y w h : ℤ) (r : Rectangle) → x ≡ r.x → y ≡ r.y → w ≡ r.w → h ≡ r.h → p ≡ o ++ (whole x ++ whole y) → q ≡ p ++ (whole w ++ whole h) → q ≡ o ++ rectangle r
two_pairs o p q x y w h r a b c d e f =
    f ∙ ap (λ z. z ++ (whole w ++ whole h)) e ∙ append_assoc o (whole x ++ whole y) (whole w ++ whole h)
    ∙ ap (λ (z : ℤ). o ++ ((whole z ++ whole y) ++ (whole w ++ whole h))) a ∙ ap (λ (z : ℤ). o ++ ((whole r.x ++ whole z) ++ (whole w ++ whole h))) b
    ∙ ap (λ (z : ℤ). o ++ ((whole r.x ++ whole r.y) ++ (whole z ++ whole h))) c ∙ ap (λ (z : ℤ). o ++ ((whole r.x ++ whole r.y) ++ (whole r.w ++ whole z))) d

pub ruleset spelling = (width-kept, append_assoc, append-nil)
