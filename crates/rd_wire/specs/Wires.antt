-- How a list is spelled as bytes, with the canvas that it is for, and which lists have a spelling.
-- The form is this project's own choice.
use Rattle.std.specs.Prelude.{◌≡◌, ℕ, ℤ, ◌+◌, ◌<◌, ◌≤◌, ◌^◌, List, [], ◌∷◌, ◌++◌, false, unsigned_abs}
use Rattle.std.specs.Int.{w16, to_be_bytes}
use Rattle.rd_geom.specs.Canvas.{IsCanvas, canvas_of}
use Rattle.rd_keys.specs.declared.entry.EntryKey.{EntryKey}
use Rattle.rd_keys.specs.declared.entry.EntryKey.TheVariants.{Leaf, Group}
use Rattle.rd_item.specs.Items.{Made}
use Rattle.rd_graph.specs.Orders.{Once}
use Rattle.rd_list.specs.Wrappers.{Wrapper}
use Rattle.rd_list.specs.Entries.{Entries, nil, leaf, group, is_empty}
use Rattle.rd_list.specs.GroupDepth.{group_depth}
use Rattle.rd_wire.specs.Fields.{number, key, mode, IsKey}
use Rattle.rd_wire.specs.Leaves.{leaf_form, FitsLeaf, IsSeen}
use Rattle.rd_wire.specs.Figures.{max_groups}
use Rattle.rd_wire.specs.declared.wire.Wire.{Wire}

-- how many entries stand directly in a list
abbrev pub width : {G L : Type 0} → Entries G L → ℕ
width nil = 0
width (leaf l rest) = width rest + 1
width (group g inner rest) = width rest + 1

-- the key of a group, its opacity, and its blend mode
abbrev pub group_form : Wrapper → List ℕ
group_form g = key g.key ++ (g.opacity ∷ mode g.blend)

-- each entry from bottom to top: 1 and a leaf, or 2 and a group with its own entries
abbrev pub entries_form : Entries Wrapper Made → List ℕ
entries_form nil = []
entries_form (leaf m rest) = (1 ∷ leaf_form m) ++ entries_form rest
entries_form (group g inner rest) = (2 ∷ group_form g ++ (number (width inner) ++ entries_form inner)) ++ entries_form rest

-- how many entries there are, and then each
abbrev pub level : Entries Wrapper Made → List ℕ
level list = number (width list) ++ entries_form list

-- a number of 16 bits
abbrev pub side : ℤ → List ℕ
side n = to_be_bytes w16 (unsigned_abs n)

-- the letters RDL1, the canvas's width and height, and the list
abbrev pub spelled : Wire → List ℕ
spelled w = 82 ∷ 68 ∷ 76 ∷ 49 ∷ (side w.size.w ++ side w.size.h) ++ level w.list

-- the names of all entries, in groups and outside
abbrev pub names : Entries Wrapper Made → List EntryKey
names nil = []
names (leaf m rest) = Leaf m.leaf.owner m.leaf.part ∷ names rest
names (group g inner rest) = Group g.key ∷ names inner ++ names rest

-- a fact of each leaf, and of each group with its own list
abbrev pub EachEntry : {G L : Type 0} → (L → Type 0) → (G → Entries G L → Type 0) → Entries G L → Type 0
EachEntry P Q nil = Unit {0}
EachEntry P Q (leaf l rest) = P l × EachEntry P Q rest
EachEntry P Q (group g inner rest) = Q g inner × EachEntry P Q inner × EachEntry P Q rest

-- its numbers fit the bytes that they are given
pub record FitsGroup (g : Wrapper) : Type 0 where
  pub key : IsKey g.key
  pub opacity : g.opacity < 256

-- the numbers of a list fit the bytes that they are given
abbrev pub NumbersFit : Entries Wrapper Made → Type 0
NumbersFit list = EachEntry FitsLeaf (λ g inner. FitsGroup g) list

-- A group has an entry, and no more of them than 32 bits tell.
pub record IsFilled (inner : Entries Wrapper Made) : Type 0 where
  pub some : is_empty inner ≡ false
  pub count : width inner < 2 ^ 32

-- The rules of a list on a canvas: what an engine's list with its canvas keeps.
pub record KeepsRules (w : Wire) : Type 0 where
  pub canvas : IsCanvas w.size
  pub entries : EachEntry (λ m. IsSeen (canvas_of w.size) m.leaf) (λ g inner. IsFilled inner) w.list
  pub count : width w.list < 2 ^ 32
  -- no leaf key and no group key stands twice
  pub once : Once (names w.list)
  -- at most so many groups are round an entry
  pub depth : group_depth w.list ≤ max_groups

-- A wire: it keeps the rules, and its numbers fit the bytes that they are given.
pub record IsWire (w : Wire) : Type 0 where
  pub rules : KeepsRules w
  pub fits : NumbersFit w.list
