-- The lines of entries that are put one on another.
use Rattle.std.proofs.Common.{◌≡◌, ℕ, zero, suc, ◌+◌, ◌<◌, ◌≤◌, List, [], ◌∷◌, ◌++◌, length, length-append, take, get_or, refl, sym, ◌∙◌, ap, arith, append_assoc, append-nil, inl, inr}
use Rattle.std.proofs.lemmas.Bool.{cases_lt, lt-ltb, le-ltb}
use Rattle.std.proofs.lemmas.List.{take_more}
use Rattle.rd_item.specs.Items.{Made}
use Rattle.rd_keys.specs.declared.entry.EntryKey.{EntryKey}
use Rattle.rd_list.specs.Wrappers.{Wrapper}
use Rattle.rd_list.specs.Entries.{Entries, nil, leaf, group, ◌▷◌, flat}
use Rattle.rd_list.specs.Kept.{Ordered}
use Rattle.rd_list.specs.KeptView.{kept_entries}
use Rattle.rd_list.specs.GroupDepth.{group_depth}
use Rattle.rd_list.specs.Unordered.{unordered}
use Rattle.rd_list.specs.Views.{larger}
use Rattle.rd_list.specs.declared.kept.Entry.{Entry}
use Rattle.rd_list.specs.declared.kept.Entry.TheVariants as kept
use Rattle.rd_list.proofs.News.{kept-append}
use Rattle.rd_list.proofs.Viewing.{larger-none}
use Rattle.rd_tree.specs.Document.{BoxForest}
use Rattle.rd_report.specs.Dumps.{NamedList, item_line, group_line, lines, width, named_item, named_group, named_list}

abbrev KeptEntries : Type 0
KeptEntries = Entries (Ordered EntryKey Wrapper) Made

unordered-join : (xs ys : KeptEntries) → unordered (xs ▷ ys) ≡ unordered xs ▷ unordered ys
unordered-join nil ys = refl
unordered-join (leaf m xs) ys = ap (leaf m) (unordered-join xs ys)
unordered-join (group g inner xs) ys = ap (group g.of (unordered inner)) (unordered-join xs ys)

pub flat-unordered : (xs : KeptEntries) → flat (unordered xs) ≡ flat xs
flat-unordered nil = refl
flat-unordered (leaf m xs) = ap (λ z. m ∷ z) (flat-unordered xs)
flat-unordered (group g inner xs) = rw (flat-unordered inner, flat-unordered xs) refl

named-join : (t : BoxForest) (xs ys : Entries Wrapper Made) → named_list t (xs ▷ ys) ≡ named_list t xs ▷ named_list t ys
named-join t nil ys = refl
named-join t (leaf m xs) ys = ap (leaf (named_item t m)) (named-join t xs ys)
named-join t (group g inner xs) ys = ap (group (named_group t g) (named_list t inner)) (named-join t xs ys)

-- a list has as many leaves by ids
pub leaves-named : (t : BoxForest) (xs : Entries Wrapper Made) → length (flat (named_list t xs)) ≡ length (flat xs)
leaves-named t nil = refl
leaves-named t (leaf m xs) = ap suc (leaves-named t xs)
leaves-named t (group g inner xs) =
    length-append (flat (named_list t inner)) (flat (named_list t xs))
    ∙ rw (leaves-named t inner, leaves-named t xs) (sym (length-append (flat inner) (flat xs)))

lines-join : (d : ℕ) (xs ys : NamedList) → lines d (xs ▷ ys) ≡ lines d xs ++ lines d ys
lines-join d nil ys = refl
lines-join d (leaf i xs) ys =
    ap (λ z. item_line d i ++ z) (lines-join d xs ys) ∙ sym (append_assoc (item_line d i) (lines d xs) (lines d ys))
lines-join d (group g inner xs) ys =
    let front : List ℕ = group_line d g (width inner) ++ lines (d + 1) inner in
    ap (λ z. front ++ z) (lines-join d xs ys) ∙ sym (append_assoc front (lines d xs) (lines d ys))

-- the lines of kept entries
abbrev told : {A : Type 0} → BoxForest → ℕ → List (Entry A) → List ℕ
told t d es = lines d (named_list t (unordered (kept_entries es)))

told-append : {A : Type 0} (t : BoxForest) (d : ℕ) (es fs : List (Entry A)) → told t d (es ++ fs) ≡ told t d es ++ told t d fs
told-append t d es fs =
    ap (λ z. lines d (named_list t (unordered z))) (kept-append es fs)
    ∙ ap (λ z. lines d (named_list t z)) (unordered-join (kept_entries es) (kept_entries fs))
    ∙ ap (lines d) (named-join t (unordered (kept_entries es)) (unordered (kept_entries fs)))
    ∙ lines-join d (named_list t (unordered (kept_entries es))) (named_list t (unordered (kept_entries fs)))

-- one more entry's lines
pub lines_more : {A : Type 0} (t : BoxForest) (d : ℕ) (es : List (Entry A)) (i : ℕ) (x : Entry A) (begun before after : List ℕ)
    → i < length es → x ≡ get_or es i x
    → before ≡ begun ++ told t d (take i es) → after ≡ before ++ told t d (x ∷ [])
    → after ≡ begun ++ told t d (take (i + 1) es)
lines_more t d es i x begun before after h e p q =
    let more : take (i + 1) es ≡ take i es ++ x ∷ [] = take_more es i x h ∙ ap (λ y. take i es ++ y ∷ []) (sym e) in
    let split : told t d (take (i + 1) es) ≡ told t d (take i es) ++ told t d (x ∷ []) = ap (told t d) more ∙ told-append t d (take i es) (x ∷ []) in
    q ∙ ap (λ z. z ++ told t d (x ∷ [])) p
    ∙ append_assoc begun (told t d (take i es)) (told t d (x ∷ []))
    ∙ ap (λ z. begun ++ z) (sym split)

at_least : (a b : ℕ) → (a ≤ larger a b) × (b ≤ larger a b)
at_least a b = elim (cases_lt a b) [
  | inl l ↦ let t = lt-ltb a b l in rw t (omega (arith, l), omega arith)
  | inr l ↦ let f = le-ltb a b l in rw f (omega arith, omega (arith, l))
]

-- the groups of one entry are no deeper than those of all
pub depth_at : {A : Type 0} (es : List (Entry A)) (i : ℕ) (x : Entry A) → i < length es → x ≡ get_or es i x
    → group_depth (kept_entries (x ∷ [])) ≤ group_depth (kept_entries es)
depth_at [] i x h is = absurd (omega arith)
depth_at (kept.Leaf m ∷ es) zero x h is = rw is (omega arith)
depth_at (kept.Group g ∷ es) zero x h is =
    let n = group_depth g.inner.entries + 1 in
    let e = larger-none n in
    let a = (at_least n (group_depth (kept_entries es))).0 in
    rw is (omega (arith, e, a))
depth_at (kept.Leaf m ∷ es) (suc i) x h is = depth_at es i x (omega arith) is
depth_at (kept.Group g ∷ es) (suc i) x h is =
    let r = depth_at es i x (omega arith) is in
    let a = (at_least (group_depth g.inner.entries + 1) (group_depth (kept_entries es))).1 in
    omega (arith, r, a)

-- a group's own list is less deep than it
pub depth_inside : (n : ℕ) → n + 1 ≤ larger (n + 1) 0
depth_inside n = (at_least (n + 1) 0).0

pub ruleset dumping = (flat-unordered, leaves-named, append_assoc, append-nil)
