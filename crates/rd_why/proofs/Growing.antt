-- Texts that grow by what is said of one thing after another.
use Rattle.std.proofs.Common.{◌≡◌, ◌∙◌, sym, refl, ap, subst, Bool, false, ◌||◌, cond, List, [], ◌∷◌, ◌++◌, append_assoc, append-nil, ℕ, ◌<◌, ◌≤◌, ◌+◌, ◌-◌, length, take, drop, get_or, Result, Ok, Err, OnOk}
use Rattle.std.proofs.lemmas.List.{take_more, take_rest, at_drop_all, at_drop_more, get_or_default}
use Rattle.std.proofs.lemmas.Grind.{flat_map-append}
use Rattle.std.specs.Prelude.{flat_map}
use Rattle.std.specs.Result.{is_ok}
use Rattle.rd_list.specs.Wrappers.{Wrapper}
use Rattle.rd_tree.specs.Document.{BoxForest}
use Rattle.rd_trace.specs.declared.placing.Placing.{Placing}
use Rattle.rd_trace.specs.Ways.{Traced, takes_hit}
use Rattle.rd_why.specs.Lines as lines
use Rattle.rd_why.specs.Json as json

-- a text that was put, if there was room
pub pushed : {T E : Type 0} (r : Result T E) (now before after : List ℕ) → now ≡ cond (is_ok r) after before → OnOk r (now ≡ after)
pushed (Ok x) now before after e = e
pushed (Err x) now before after e = tt

-- texts that are put one after another
pub two : (a b o o1 o2 : List ℕ) → o1 ≡ o ++ a → o2 ≡ o1 ++ b → o2 ≡ o ++ (a ++ b)
two a b o o1 o2 p q = q ∙ (ap (λ x. x ++ b) p ∙ append_assoc o a b)

pub five : (a b c d e o o1 o2 o3 o4 o5 : List ℕ) → o1 ≡ o ++ a → o2 ≡ o1 ++ b → o3 ≡ o2 ++ c → o4 ≡ o3 ++ d → o5 ≡ o4 ++ e → o5 ≡ o ++ (a ++ b ++ c ++ d ++ e)
five a b c d e o o1 o2 o3 o4 o5 p1 p2 p3 p4 p5 = two (a ++ b ++ c ++ d) e o o4 o5 (two (a ++ b ++ c) d o o3 o4 (two (a ++ b) c o o2 o3 (two a b o o1 o2 p1 p2) p3) p4) p5

pub six : (a b c d e f o o1 o2 o3 o4 o5 o6 : List ℕ) → o1 ≡ o ++ a → o2 ≡ o1 ++ b → o3 ≡ o2 ++ c → o4 ≡ o3 ++ d → o5 ≡ o4 ++ e → o6 ≡ o5 ++ f → o6 ≡ o ++ (a ++ b ++ c ++ d ++ e ++ f)
six a b c d e f o o1 o2 o3 o4 o5 o6 p1 p2 p3 p4 p5 p6 = two (a ++ b ++ c ++ d ++ e) f o o5 o6 (five a b c d e o o1 o2 o3 o4 o5 p1 p2 p3 p4 p5) p6

pub seven : (a b c d e f g o o1 o2 o3 o4 o5 o6 o7 : List ℕ) → o1 ≡ o ++ a → o2 ≡ o1 ++ b → o3 ≡ o2 ++ c → o4 ≡ o3 ++ d → o5 ≡ o4 ++ e → o6 ≡ o5 ++ f → o7 ≡ o6 ++ g
    → o7 ≡ o ++ (a ++ b ++ c ++ d ++ e ++ f ++ g)
seven a b c d e f g o o1 o2 o3 o4 o5 o6 o7 p1 p2 p3 p4 p5 p6 p7 = two (a ++ b ++ c ++ d ++ e ++ f) g o o6 o7 (six a b c d e f o o1 o2 o3 o4 o5 o6 p1 p2 p3 p4 p5 p6) p7

-- one thing more, each said on its own
pub each_more : {A : Type 0} (f : A → List ℕ) (xs : List A) (i : ℕ) (x : A) (begun before after : List ℕ) → i < length xs → x ≡ get_or xs i x
    → before ≡ begun ++ flat_map f (take i xs) → after ≡ before ++ f x → after ≡ begun ++ flat_map f (take (i + 1) xs)
each_more f xs i x begun before after h e a b =
    b ∙ rw (a, take_more xs i x h, ← e, flat_map-append f (take i xs) (x ∷ []))
    (append_assoc begun (flat_map f (take i xs)) (f x) ∙ ap (λ t. begun ++ (flat_map f (take i xs) ++ t)) (sym (append-nil (f x))))

-- the same of an element that is read
pub each_next : {A : Type 0} (f : A → List ℕ) (xs : List A) (i : ℕ) (d : A) (begun before after : List ℕ) → i < length xs
    → before ≡ begun ++ flat_map f (take i xs) → after ≡ before ++ f (get_or xs i d) → after ≡ begun ++ flat_map f (take (i + 1) xs)
each_next f xs i d begun before after h a b = each_more f xs i (get_or xs i d) begun before after h (get_or_default xs i d (get_or xs i d) h) a b

-- two texts more of one whose rest is known
rest_more : (o one two rest all o1 o2 whole : List ℕ) → all ≡ one ++ two ++ rest → o ++ all ≡ whole → o1 ≡ o ++ one → o2 ≡ o1 ++ two → o2 ++ rest ≡ whole
rest_more o one two rest all o1 o2 whole e h p q =
    rw (q, p) (ap (λ t. t ++ rest) (append_assoc o one two) ∙ (append_assoc o (one ++ two) rest ∙ (ap (λ t. o ++ t) (sym e) ∙ h)))

-- the rest of a list begins with the element that is read
begins : {A B : Type 0} (f : List A → B) (xs : List A) (i : ℕ) (x : A) → i < length xs → x ≡ get_or xs i x → f (drop i xs) ≡ f (x ∷ drop (i + 1) xs)
begins f xs i x h e = at_drop_more f xs i x h ∙ ap (λ z. f (z ∷ drop (i + 1) xs)) (sym e)

-- the rest after an element, as a loop reads it
abbrev after : {A : Type 0} → List A → ℕ → List A
after xs i = take (length xs - (i + 1)) (drop (i + 1) xs)

commas : {A : Type 0} (xs : List A) (i : ℕ) → json.comma (after xs i) ≡ json.comma (drop (i + 1) xs)
commas xs i = ap (λ r. json.comma r) (take_rest xs (i + 1))

module _ (boxes : BoxForest) where
  pub leaf_more : (found next : Bool) (ts : List Traced) (i : ℕ) (t : Traced) (o o1 o2 whole : List ℕ) → i < length ts → t ≡ get_or ts i t → next ≡ (found || takes_hit t)
      → o ++ lines.leaf_lines boxes found (drop i ts) ≡ whole → o1 ≡ o ++ lines.leaf_line boxes found t → o2 ≡ o1 ++ lines.between boxes t (after ts i)
      → o2 ++ lines.leaf_lines boxes next (drop (i + 1) ts) ≡ whole
  leaf_more found next ts i t o o1 o2 whole l e n h p q =
      ap (λ b. o2 ++ lines.leaf_lines boxes b (drop (i + 1) ts)) n
      ∙ rest_more o _ _ _ _ o1 o2 whole (begins (lines.leaf_lines boxes found) ts i t l e) h p (q ∙ ap (λ r. o1 ++ lines.between boxes t r) (take_rest ts (i + 1)))

  pub leaf_json_more : (found next : Bool) (ts : List Traced) (i : ℕ) (t : Traced) (o o1 o2 c whole : List ℕ) → i < length ts → t ≡ get_or ts i t → next ≡ (found || takes_hit t)
      → o ++ json.leaves_json boxes found (drop i ts) ≡ whole → o1 ≡ o ++ json.leaf_json boxes found t (after ts i) → c ≡ json.comma (after ts i) → o2 ≡ o1 ++ c
      → o2 ++ json.leaves_json boxes next (drop (i + 1) ts) ≡ whole
  leaf_json_more found next ts i t o o1 o2 c whole l e n h p k q =
      ap (λ b. o2 ++ json.leaves_json boxes b (drop (i + 1) ts)) n
      ∙ rest_more o _ _ _ _ o1 o2 whole (begins (json.leaves_json boxes found) ts i t l e) h (p ∙ ap (λ r. o ++ json.leaf_json boxes found t r) (take_rest ts (i + 1))) (q ∙ ap (λ z. o1 ++ z) (k ∙ commas ts i))

  pub place_more : (ps : List Placing) (i : ℕ) (d : Placing) (o o1 o2 c whole : List ℕ) → i < length ps
      → o ++ json.places_json boxes (drop i ps) ≡ whole → o1 ≡ o ++ json.place_json boxes (get_or ps i d) → c ≡ json.comma (after ps i) → o2 ≡ o1 ++ c
      → o2 ++ json.places_json boxes (drop (i + 1) ps) ≡ whole
  place_more ps i d o o1 o2 c whole l h a k b =
      rest_more o _ _ _ _ o1 o2 whole (begins (json.places_json boxes) ps i (get_or ps i d) l (get_or_default ps i d (get_or ps i d) l)) h a (b ∙ ap (λ z. o1 ++ z) (k ∙ commas ps i))

  pub group_more : (gs : List Wrapper) (i : ℕ) (g : Wrapper) (o o1 o2 c whole : List ℕ) → i < length gs → g ≡ get_or gs i g
      → o ++ json.groups_json boxes (drop i gs) ≡ whole → o1 ≡ o ++ json.group_json boxes g → c ≡ json.comma (after gs i) → o2 ≡ o1 ++ c
      → o2 ++ json.groups_json boxes (drop (i + 1) gs) ≡ whole
  group_more gs i g o o1 o2 c whole l e h a k b = rest_more o _ _ _ _ o1 o2 whole (begins (json.groups_json boxes) gs i g l e) h a (b ∙ ap (λ z. o1 ++ z) (k ∙ commas gs i))

-- nothing is left to write
pub none_left : {A : Type 0} (f : List A → List ℕ) (xs : List A) (i : ℕ) (o whole : List ℕ) → length xs ≤ i → f [] ≡ [] → o ++ f (drop i xs) ≡ whole → o ≡ whole
none_left f xs i o whole l e h = sym (append-nil o) ∙ (ap (λ t. o ++ t) (sym e ∙ sym (at_drop_all f xs i l)) ∙ h)
