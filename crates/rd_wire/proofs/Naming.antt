-- Names of entries, and whether each stands once.
use Rattle.std.proofs.Common.{◌≡◌, ℕ, zero, suc, ◌+◌, ◌<◌, ◌≤◌, Bool, true, false, not, ◌||◌, cond, List, [], ◌∷◌, ◌++◌, length, take, drop, get_or, refl, sym, ap, subst, ◌∙◌, append_assoc, append-nil, arith, inl, inr}
use Rattle.std.specs.List.{list_any}
use Rattle.std.proofs.lemmas.List.{take_more, take-append-drop}
use Rattle.rd_item.specs.Items.{Made}
use Rattle.rd_keys.specs.declared.entry.EntryKey.{EntryKey}
use Rattle.rd_keys.specs.declared.entry.EntryKey.TheVariants as key
use Rattle.rd_graph.specs.Names.{same_entry}
use Rattle.rd_graph.specs.Orders as spec
use Rattle.rd_graph.proofs.Reaching.Calls.{once_of, once_to}
use Rattle.rd_graph.proofs.Lists.Entries.{same_entry-sound, same_entry-refl}
use Rattle.rd_graph.proofs.Lists.Listing.{Has, Once, cases, has_either, has_left, has_right}
use Rattle.rd_list.specs.Wrappers.{Wrapper}
use Rattle.rd_list.specs.Entries.{Entries, nil, leaf, group, ◌▷◌, list_size}
use Rattle.rd_wire.specs.Wires.{names}
use Rattle.rd_wire.specs.declared.wire.WireEntry.{WireEntry}
use Rattle.rd_wire.specs.declared.wire.WireEntry.TheVariants as wire
use Rattle.rd_wire.specs.Internal.Listed.{listed}
use Rattle.rd_wire.proofs.Going.{listed-append}

names-join : (xs ys : Entries Wrapper Made) → names (xs ▷ ys) ≡ names xs ++ names ys
names-join nil ys = refl
names-join (leaf m xs) ys = ap (λ zs. key.Leaf m.leaf.owner m.leaf.part ∷ zs) (names-join xs ys)
names-join (group g inner xs) ys = ap (λ zs. key.Group g.key ∷ zs) (ap (λ zs. names inner ++ zs) (names-join xs ys) ∙ sym (append_assoc (names inner) (names xs) (names ys)))

-- one more entry's names
pub names_more : (es : List WireEntry) (i : ℕ) (x : WireEntry) (begun before after : List EntryKey) → i < length es → x ≡ get_or es i x
    → before ≡ begun ++ names (listed (take i es)) → after ≡ before ++ names (listed (x ∷ [])) → after ≡ begun ++ names (listed (take (i + 1) es))
names_more es i x begun before after h e p q =
    let more : take (i + 1) es ≡ take i es ++ x ∷ [] = take_more es i x h ∙ ap (λ y. take i es ++ y ∷ []) (sym e) in
    let split : names (listed (take (i + 1) es)) ≡ names (listed (take i es)) ++ names (listed (x ∷ [])) =
    ap (λ ys. names (listed ys)) more ∙ ap names (listed-append (take i es) (x ∷ [])) ∙ names-join (listed (take i es)) (listed (x ∷ [])) in
    q ∙ ap (λ z. z ++ names (listed (x ∷ []))) p ∙ append_assoc begun (names (listed (take i es))) (names (listed (x ∷ [])))
    ∙ ap (λ z. begun ++ z) (sym split)

-- an entry is no larger than the list that it stands in
pub size_at : (es : List WireEntry) (i : ℕ) (x : WireEntry) → i < length es → x ≡ get_or es i x → list_size (listed (x ∷ [])) ≤ list_size (listed es)
size_at [] i x h e = absurd (omega arith)
size_at (y ∷ es) zero x h e = rw e (first y es)
  where
    first : (y : WireEntry) (es : List WireEntry) → list_size (listed (y ∷ [])) ≤ list_size (listed (y ∷ es))
    first (wire.Leaf owner part visible shape color hits made) es = omega arith
    first (wire.Group k o m inner) es = omega arith
size_at (y ∷ es) (suc i) x h e = let r = size_at es i x (omega arith) e in let s = rest y es in omega (arith, r, s)
  where
    rest : (y : WireEntry) (es : List WireEntry) → list_size (listed es) ≤ list_size (listed (y ∷ es))
    rest (wire.Leaf owner part visible shape color hits made) es = omega arith
    rest (wire.Group k o m inner) es = omega arith

-- ---- each once

any_has : (ks : List EntryKey) (k : EntryKey) → list_any (same_entry k) ks ≡ true → Has ks k
any_has [] k h = absurd cc
any_has (x ∷ xs) k h = elim (cases (same_entry k x)) [
  | inl t ↦ inl (sym (same_entry-sound k x t))
  | inr f ↦ let u : list_any (same_entry k) xs ≡ true = rw f at h in inr (any_has xs k u)
]

has_any : (ks : List EntryKey) (k : EntryKey) → Has ks k → list_any (same_entry k) ks ≡ true
has_any [] k h = absurd h
has_any (x ∷ xs) k (inl e) = let t : same_entry k x ≡ true = subst (λ (z : EntryKey). same_entry k z ≡ true) (sym e) (same_entry-refl k) in rw t refl
has_any (x ∷ xs) k (inr h) = elim (same_entry k x) as (λ b. (b || list_any (same_entry k) xs) ≡ true) [ true ↦ refl | false ↦ has_any xs k h ]

-- one more name
once_more : (xs : List EntryKey) (k : EntryKey) → Once xs → (Has xs k → ⊥) → Once (xs ++ k ∷ [])
once_more [] k o h = ((λ e. e), tt)
once_more (x ∷ xs) k o h = (
  (λ m. elim (has_either xs (k ∷ []) x m) [
    | inl p ↦ o.0 p
    | inr p ↦ elim p [ inl e ↦ h (inl (sym e)) | inr n ↦ n ]
  ]),
  once_more xs k o.1 (λ m. h (inr m)),
)

-- a front of names that stand once
front_once : (xs ys : List EntryKey) → Once (xs ++ ys) → Once xs
front_once [] ys o = tt
front_once (x ∷ xs) ys o = ((λ h. o.0 (has_left xs ys x h)), front_once xs ys o.1)

-- a name that stands before does not stand once
not_again : (xs : List EntryKey) (k : EntryKey) → Has xs k → Once (xs ++ k ∷ []) → ⊥
not_again [] k h o = h
not_again (x ∷ xs) k (inl e) o = o.0 (has_right xs (k ∷ []) x (inl (sym e)))
not_again (x ∷ xs) k (inr h) o = not_again xs k h o.1

pub once_front : (xs ys : List EntryKey) → spec.Once (xs ++ ys) → spec.Once xs
once_front xs ys o = once_to xs (front_once xs ys (once_of (xs ++ ys) o))

-- a front that ends with one name
pub group_once : (xs : List EntryKey) (k : EntryKey) (rest : List EntryKey) → spec.Once (xs ++ k ∷ rest) → spec.Once (xs ++ k ∷ [])
group_once xs k rest o = once_front (xs ++ k ∷ []) rest (subst spec.Once (sym (append_assoc xs (k ∷ []) rest)) o)

is_not : (b r : Bool) → r ≡ not b → r ≡ false → b ≡ true
is_not true r e h = refl
is_not false r e h = let no : true ≡ false = sym e ∙ h in absurd cc

is_so : (b r : Bool) → r ≡ not b → r ≡ true → b ≡ false
is_so true r e h = let no : false ≡ true = sym e ∙ h in absurd cc
is_so false r e h = refl

clash : (b : Bool) → b ≡ true → b ≡ false → ⊥
clash b t f = cc

-- a name that was noted
module _ (k : EntryKey) (seen next : List EntryKey) (r : Bool) (told : r ≡ not (list_any (same_entry k) seen)) where
  pub noted_new : next ≡ cond (list_any (same_entry k) seen) seen (seen ++ k ∷ []) → r ≡ true → next ≡ seen ++ k ∷ []
  noted_new is t = is ∙ ap (λ (b : Bool). cond b seen (seen ++ k ∷ [])) (is_so (list_any (same_entry k) seen) r told t)

  pub noted_once : next ≡ cond (list_any (same_entry k) seen) seen (seen ++ k ∷ []) → r ≡ true → spec.Once seen → spec.Once next
  noted_once is t once =
      let fresh = is_so (list_any (same_entry k) seen) r told t in
      subst spec.Once (sym (noted_new is t)) (once_to (seen ++ k ∷ []) (once_more seen k (once_of seen once) (λ h. clash _ (has_any seen k h) fresh)))

  pub noted_twice : r ≡ false → spec.Once (seen ++ k ∷ []) → ⊥
  noted_twice f once = not_again seen k (any_has seen k (is_not (list_any (same_entry k) seen) r told f)) (once_of (seen ++ k ∷ []) once)

-- the names so far and of one more entry, where those of all stand once
pub once_so_far : (es : List WireEntry) (i : ℕ) (x : WireEntry) (begun before : List EntryKey) → i < length es → x ≡ get_or es i x
    → before ≡ begun ++ names (listed (take i es)) → spec.Once (begun ++ names (listed es)) → spec.Once (before ++ names (listed (x ∷ [])))
once_so_far es i x begun before h e p once =
    let more : begun ++ names (listed (take (i + 1) es)) ≡ before ++ names (listed (x ∷ [])) = sym (names_more es i x begun before (before ++ names (listed (x ∷ []))) h e p refl) in
    let whole : names (listed es) ≡ names (listed (take (i + 1) es)) ++ names (listed (drop (i + 1) es)) =
    ap (λ ys. names (listed ys)) (sym (take-append-drop (i + 1) es)) ∙ ap names (listed-append (take (i + 1) es) (drop (i + 1) es)) ∙ names-join (listed (take (i + 1) es)) (listed (drop (i + 1) es)) in
    let split : begun ++ names (listed es) ≡ (begun ++ names (listed (take (i + 1) es))) ++ names (listed (drop (i + 1) es)) =
    ap (λ z. begun ++ z) whole ∙ sym (append_assoc begun (names (listed (take (i + 1) es))) (names (listed (drop (i + 1) es)))) in
    subst spec.Once more (once_front (begun ++ names (listed (take (i + 1) es))) (names (listed (drop (i + 1) es))) (subst spec.Once split once))

pub ruleset naming = (append_assoc, append-nil)
