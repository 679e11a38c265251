use Rattle.std.proofs.Common.{◌∙◌, sym}
use Rattle.rd_partial.specs.Internal.BoxLook.{here_of}
use Rattle.rd_partial.proofs.Kids.{live_next}
use Rattle.rd_partial.proofs.Searching.{near_on}
use Rattle.rd_partial.proofs.seeking.next_wanted.Goals as goal
use Rattle.rd_tree.specs.Drawn.{drawn}

pub loop-looked-preserved : goal.loop-looked-preserved
loop-looked-preserved g c =
    let n = c.in-Some.ensures in (
      live_next (drawn c.args.tree.now).boxes n.key (here_of c.in-Some.looked) c.in-Some.looked.first_child c.in-Some.looked.next_sibling c.in-Some.looked.hull n.told,
      near_on (g.W.Wanted.wants c.args.wanted.now) (drawn c.args.tree.now) c.args.first c.loop-looked.at c.in-Some.looked c.args.looks.now c.loop-looked.looks
          c.next_near.new.looks (g.met.W.Wanted.grows c.args.wanted.now) (sym c.meets.ensures ∙ c.if-meets.false) c.loop-looked.invariant.1 n,
    )
