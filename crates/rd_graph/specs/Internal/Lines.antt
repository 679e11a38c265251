-- Steps of the proofs that a list of nodes stays an order, and that one pass drops nodes.
use Rattle.std.specs.Prelude.{◌≡◌, ℕ, ◌<◌, ◌≤◌, Bool, true, false, ◌⊎◌, ◌↔◌, List, [], ◌++◌, Contains}
use Rattle.rd_graph.specs.Orders.{Before, Once}
use Rattle.rd_graph.specs.Graphs.{Graph, Precedes, Reaches, Next, Stitch, GoesForward}
use Rattle.rd_graph.specs.Laws.{Full}
use Rattle.rd_graph.specs.Internal.Passes.{stitch_pass, IsSorted}

-- Where the edges go forward in some list, one of any nodes that are left has no predecessor that is left.
abbrev pub SomeIsOpen : Type 0 → Type 0
SomeIsOpen E = (g : Graph E) (line : List E) (is_left : E → Bool) → Once line → GoesForward (Precedes g) line
    → (a : E) → Contains line a → is_left a ≡ true
    → (b : E) × (is_left b ≡ true) × ((c : E) → Precedes g c b → is_left c ≡ false)

-- A list in which each edge goes forward has everything after all that reaches it.
abbrev pub Checking : Type 0 → Type 0
Checking E = (g : Graph E) (line : List E) → Once line → GoesForward (Precedes g) line → GoesForward (Reaches g) line

-- A part of a list may stand in another order, where the edges within it go forward there.
abbrev pub Moving : Type 0 → Type 0
Moving E = (g : Graph E) (us part other vs : List E) → ((a : E) → Contains part a → Contains other a)
    → ((a b : E) → Precedes g a b → Before part a b → Before other a b)
    → GoesForward (Precedes g) (us ++ (part ++ vs)) → GoesForward (Precedes g) (us ++ (other ++ vs))

-- An order by labels: an old edge goes to a higher place and no lower label, a neighbour in the chain to a higher label. Then a list by label, and
-- by place where labels are equal, has every edge of the merge go forward.
abbrev pub Labelling : Type 0 → Type 0
Labelling E = (old : Graph E) (gone : E → Bool) (chain line : List E) (label place : E → ℕ)
    → ((a b : E) → Precedes old a b → (place a < place b) × (label a ≤ label b))
    → ((a b : E) → Next chain a b → label a < label b)
    → ((a b : E) → Full old gone chain a b → (label a < label b) ⊎ ((label a ≡ label b) × (place a < place b)) → Before line a b)
    → GoesForward (Full old gone chain) line

-- One pass drops nodes.
abbrev pub Passing : Type 0 → Type 0
Passing E = (same : E → E → Bool) (gone : E → Bool) (g : Graph E) → ((a b : E) → same a b ≡ true → a ≡ b) → ((a : E) → same a a ≡ true)
    → IsSorted same gone [] g → (a b : E) → Precedes (stitch_pass same gone [] g) a b ↔ Stitch (Precedes g) gone a b
