use Rattle.std.proofs.Common.{◌∙◌, refl, sym}
use Rattle.rd_list.proofs.Piling.{laid-ended, filled-below, filled-on, some_new}
use Rattle.rd_list.proofs.pieces.end_run.Goals as goal

pub returns-in_err-push-clause-filled : goal.returns-in_err-push-clause-filled
returns-in_err-push-clause-filled g c h = rw (c.in_err-push.ensures.items) (filled-on c.args.below.now.items c.args.top.now.items c.replace-run.new.dest.items h)

pub returns-clause-same : goal.returns-clause-same
returns-clause-same g c =
    laid-ended c.args.below.now.items c.push.new.self.items _ c.args.top.now.items c.replace-run.new.dest.items c.in_ok-push.ensures.items
    (rw (c.new.ensures.items, c.shrink_to_fit.ensures.items, c.replace-run.ensures.value) refl) (rw c.replace-run.ensures.after c.requires.none)

pub returns-clause-filled : goal.returns-clause-filled
returns-clause-filled g c h =
    filled-below c.args.below.now.items c.push.new.self.items _ c.replace-run.new.dest.items c.in_ok-push.ensures.items
    (rw (c.new.ensures.items, c.shrink_to_fit.ensures.items) (some_new c.replace-run.result.items _ (sym c.replace-run.result.ok.0) (sym c.is_empty.ensures ∙ c.if-is_empty.false)))
    (filled-on c.args.below.now.items c.args.top.now.items c.replace-run.new.dest.items h)
