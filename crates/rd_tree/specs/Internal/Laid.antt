-- Where boxes are laid out, by where they are drawn and by what is handed to each.
use Rattle.std.specs.Prelude.{◌≡◌, ℕ, ◌+◌, ℤ, ◌+ℤ◌, ◌≤◌, Bool, true, if◌then◌else◌, List, length, Option, Some, None}
use Rattle.std.specs.Option.{option_map_or}
use Rattle.rd_style.specs.Limits.{FitsRect}
use Rattle.rd_keys.specs.Keys.{same_key}
use Rattle.rd_tree.specs.declared.handed.ScrollSums.{ScrollSums}
use Rattle.rd_tree.specs.declared.scroll.Scroll.{Scroll}
use Rattle.rd_tree.specs.Forest.{Forest, empty, tree, has, height, children}
use Rattle.rd_tree.specs.Drawn.{drawn}
use Rattle.rd_tree.specs.Document.{Document, BoxKey, Item, BoxForest, AllFit}
use Rattle.rd_tree.specs.Limits.{FitsScroll}
use Rattle.rd_tree.specs.Changes.{unscrolled, with_rect, shifted}
use Rattle.rd_tree.specs.Internal.Links.{Node}
use Rattle.rd_tree.specs.Internal.Handing.{entered, offset_in, IsWithin}
use Rattle.rd_tree.specs.Internal.Hands.{hand_at, handed_to}
use Rattle.rd_tree.specs.Internal.Redraws.{drawn_far, redrawn}

-- with each item changed, in a way that may depend on the key
abbrev pub each_by : {K D : Type 0} → (K → D → D) → Forest K D → Forest K D
each_by g empty = empty
each_by g (tree k d below rest) = tree k (g k d) (each_by g below) (each_by g rest)

-- nothing is handed to the root
abbrev pub unhanded : ScrollSums
unhanded = record { flow = unscrolled; absolute = unscrolled }

-- a box where it is laid out, which is drawn where this is handed to it
abbrev pub laid_at : ScrollSums → Item → Item
laid_at h d = with_rect (record d.rect {
  x = d.rect.x +ℤ (offset_in h d.style.position).x;
  y = d.rect.y +ℤ (offset_in h d.style.position).y;
}) d

-- the boxes where they are laid out, by the table of what is handed to them
abbrev pub laid_by : List ScrollSums → BoxForest → BoxForest
laid_by rows f = each_by (λ k d. laid_at (hand_at rows k) d) f

abbrev pub laid_tree : List ScrollSums → Document → Document
laid_tree rows t = record t { boxes = laid_by rows t.boxes }

-- To each of these boxes is handed what the table has for it.
abbrev pub AreHanded : List ScrollSums → BoxKey → ScrollSums → BoxForest → Type 0
AreHanded rows root h empty = Unit {0}
AreHanded rows root h (tree k d below rest) =
    (hand_at rows k ≡ h)
    × AreHanded rows root (entered (same_key k root) d.style d.scroll h) below
    × AreHanded rows root h rest

-- The table has of each of these boxes what follows where this is handed to the first ones.
abbrev pub IsHandedDown : List ScrollSums → ScrollSums → BoxForest → Type 0
IsHandedDown rows h f = (j : BoxKey) → has same_key j f ≡ true → hand_at rows j ≡ handed_to j h f

-- The table has what is handed to each box of a tree, which is within the limits where it is laid out.
pub record IsHanding (t : Document) (rows : List ScrollSums) : Type 0 where
  pub all_rows : length t.slots ≤ length rows
  pub right : AreHanded rows t.root unhanded t.boxes
  pub fits : AllFit (laid_by rows t.boxes)
  pub is_drawn : drawn (laid_tree rows t) ≡ t

-- what is handed to the children of a box of this item, where there is one
abbrev pub passed_from : Bool → ScrollSums → Option Item → ScrollSums
passed_from root h None = h
passed_from root h (Some d) = entered root d.style d.scroll h

-- how far a box is scrolled to which this is handed, where there is one
abbrev pub own_from : ScrollSums → Option Item → Scroll
own_from h o = option_map_or (λ d. offset_in h d.style.position) o unscrolled

-- It has a scroll offset within the limits.
abbrev pub ScrollFits : Option Item → Type 0
ScrollFits None = Unit {0}
ScrollFits (Some d) = FitsScroll d.scroll

-- What is handed to each of these boxes is within the limits.
abbrev pub AllWithin : List ScrollSums → BoxForest → Type 0
AllWithin rows f = (k : BoxKey) → has same_key k f ≡ true → IsWithin 256 (hand_at rows k)

-- the boxes once k, scrolled so far and now so far, is drawn anew, and all below it, to whose children this is handed now
abbrev pub drawn_again : List ScrollSums → BoxKey → Scroll → Scroll → ScrollSums → BoxForest → BoxForest
drawn_again rows k old new h f = each_by (λ j d.
    if same_key j k then drawn_far old new d
    else if has same_key j (children same_key k f) then redrawn (hand_at rows j) (handed_to j h (children same_key k f)) d
    else d) f

-- the same where the box itself stays
abbrev pub drawn_below : List ScrollSums → BoxKey → ScrollSums → BoxForest → BoxForest
drawn_below rows k h f = each_by (λ j d. if has same_key j (children same_key k f) then redrawn (hand_at rows j) (handed_to j h (children same_key k f)) d else d) f

-- a box where it is laid out, where k is still scrolled as far as before
abbrev pub relay : List ScrollSums → BoxKey → Scroll → BoxKey → Item → Item
relay rows k old j d = if same_key j k then with_rect (record d.rect { x = d.rect.x +ℤ old.x; y = d.rect.y +ℤ old.y }) d else laid_at (hand_at rows j) d

abbrev pub relaid : List ScrollSums → BoxKey → Scroll → BoxForest → BoxForest
relaid rows k old f = each_by (relay rows k old) f

-- The box k, which was scrolled so far, can be drawn elsewhere with all below it, where this is handed to it now.
pub record CanDraw (t : Document) (rows : List ScrollSums) (k : BoxKey) (old : Scroll) (own : ScrollSums) : Type 0 where
  pub all_rows : length t.slots ≤ length rows
  pub within : AllWithin rows t.boxes
  pub fits : AllFit (relaid rows k old t.boxes)
  pub levels : ℕ
  pub within_own : IsWithin levels own
  pub shallow : levels + (1 + height (children same_key k t.boxes)) ≤ 256

-- The box of the node is within the limits where it is laid out,
abbrev pub LaidFitsAt : ScrollSums → Option (Node BoxKey Item) → Type 0
LaidFitsAt h None = Unit {0}
LaidFitsAt h (Some n) = FitsRect (laid_at h n.item).rect

-- and so it is once it is shifted.
abbrev pub ShiftFitsAt : ScrollSums → ℤ → ℤ → Option (Node BoxKey Item) → Type 0
ShiftFitsAt h dx dy None = Unit {0}
ShiftFitsAt h dx dy (Some n) = FitsRect (shifted dx dy (laid_at h n.item).rect)
