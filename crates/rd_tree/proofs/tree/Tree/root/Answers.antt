use Rattle.std.proofs.Common.{◌≡◌, ◌≤◌}
use Rattle.rd_tree.specs.Forest.{height}
use Rattle.rd_tree.specs.Internal.Hands.{hand_at}
use Rattle.rd_tree.specs.Internal.Laid.{laid_at, laid_by}
use Rattle.rd_tree.specs.Figures.{max_depth}
use Rattle.rd_keys.specs.Keys.{same_key}
use Rattle.rd_tree.proofs.Forests.ByKey.{apart_by, height-by}
use Rattle.rd_tree.proofs.Laying.Shown.{rooted_laid, keyed_laid, ids_laid}
use Rattle.std.proofs.Common.{arith}
use Rattle.rd_tree.proofs.tree.Tree.root.Goals as goal

pub returns-clause-rooted : goal.returns-clause-rooted
returns-clause-rooted g c = rw (← c.self.view_is) (rooted_laid c.self.inside.hands.items c.self.inside.drawn c.known.ensures.rooted)

pub returns-clause-apart : goal.returns-clause-apart
returns-clause-apart g c = rw (← c.self.view_is) (apart_by _ same_key c.self.inside.drawn.boxes c.known.ensures.apart)

pub returns-clause-keyed : goal.returns-clause-keyed
returns-clause-keyed g c = rw (← c.self.view_is) (keyed_laid c.self.inside.hands.items c.self.inside.drawn c.known.ensures.keyed)

pub returns-clause-limits : goal.returns-clause-limits
returns-clause-limits g c = rw (← c.self.view_is) c.self.invariant.fits

pub returns-clause-root : goal.returns-clause-root
returns-clause-root g c = rw (← c.self.view_is) c.root.ensures

pub returns-clause-depth : goal.returns-clause-depth
returns-clause-depth g c =
    let n : height (laid_by c.self.inside.hands.items c.self.inside.drawn.boxes) ≡ height c.self.inside.drawn.boxes = height-by (λ k d. laid_at (hand_at c.self.inside.hands.items k) d) c.self.inside.drawn.boxes in
    let l : height (laid_by c.self.inside.hands.items c.self.inside.drawn.boxes) ≤ max_depth = omega (arith, n, c.known.ensures.depth) in
    rw (← c.self.view_is) l

pub returns-clause-ids : goal.returns-clause-ids
returns-clause-ids g c = rw (← c.self.view_is) (ids_laid c.self.inside.hands.items c.self.inside.drawn.boxes c.known.ensures.ids)

pub returns-clause-most : goal.returns-clause-most
returns-clause-most g c = rw (← c.self.view_is) c.known.ensures.most
