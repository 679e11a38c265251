use Rattle.std.proofs.Common.{sym, ◌∙◌, rules}
use Rattle.std.proofs.lemmas.Int.{to_z-of_z}
use Rattle.rd_trace.proofs.Passing.{seen_now, not_seen}
use Rattle.rd_trace.proofs.content.see.Goals as goal
use mir.Syntax.{w32}
use mir.Val.{SFits}

pub returns-in_ok-push : goal.returns-in_ok-push
returns-in_ok-push c =
    let column : SFits w32 c.args.s.now.x = search rules in
    let row : SFits w32 c.args.s.now.y = search rules in
    let e = simp to_z-of_z at c.covers.ensures in
    seen_now c.args.s.now c.args.w.now c.args.leaf.now _ _ _ (sym e ∙ c.if-covers.true) c.in_ok-first.ensures c.in_ok-push.ensures.items

pub returns-else-covers : goal.returns-else-covers
returns-else-covers c =
    let column : SFits w32 c.args.s.now.x = search rules in
    let row : SFits w32 c.args.s.now.y = search rules in
    let e = simp to_z-of_z at c.covers.ensures in
    not_seen c.args.s.now c.args.w.now c.args.leaf.now _ (sym e ∙ c.if-covers.false)
