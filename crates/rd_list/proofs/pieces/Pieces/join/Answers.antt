use Rattle.std.proofs.Common.{◌∙◌, refl, sym}
use Rattle.rd_list.proofs.Joins.{join-nil}
use Rattle.rd_list.specs.Nested.{laid_out}
use Rattle.rd_list.proofs.Piling.{laid-below, filled-below, none_there, none_below}
use Rattle.rd_list.proofs.pieces.Pieces.join.Goals as goal

pub returns-then-is_empty : goal.returns-then-is_empty
returns-then-is_empty g c = rw (none_there (laid_out c.args.from) (sym c.is_empty.ensures ∙ c.if-is_empty.true)) (sym (join-nil _))

pub invariant_of-self-then-len-le-SHORT : goal.invariant_of-self-then-len-le-SHORT
invariant_of-self-then-len-le-SHORT g c = c.put_run.ensures.filled c.self.invariant

pub returns-then-len-le-SHORT : goal.returns-then-len-le-SHORT
returns-then-len-le-SHORT g c =
    rw (← c.self.view_is, ← c.from.view_is, none_below c.from.inside.below.items c.from.inside.top.items _ (sym c.from.inside.below.ok.0) (sym c.is_empty-3.ensures ∙ c.if-is_empty-3.true))
    c.put_run.ensures.list

pub invariant_of-self-2 : goal.invariant_of-self-2
invariant_of-self-2 g c =
    filled-below c.end_run.new.below.items c.push.new.self.items c.trim.new.self c.end_run.new.top.items c.in_ok-push.ensures.items
    (rw c.trim.ensures (sym c.is_empty.ensures ∙ c.if-is_empty.false)) (c.end_run.ensures.filled c.self.invariant)

pub returns : goal.returns
returns g c =
    laid-below c.end_run.new.below.items c.push.new.self.items c.trim.new.self c.end_run.new.top.items c.in_ok-push.ensures.items
    (rw c.in_ok-end_run.ensures.next c.new-next.ensures.items)
    ∙ rw (c.in_ok-end_run.ensures.same, c.self.view_is, c.trim.ensures) refl
