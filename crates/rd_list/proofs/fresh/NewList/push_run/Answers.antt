use Rattle.std.proofs.Common.{◌∙◌, ap, sym}
use Rattle.rd_list.specs.Entries.{◌▷◌}
use Rattle.rd_list.specs.NewView.{new_entries}
use Rattle.rd_list.proofs.News.{put_run, put_none}
use Rattle.rd_list.proofs.fresh.NewList.push_run.Goals as goal

pub returns-then-is_empty-clause-pushed : goal.returns-then-is_empty-clause-pushed
returns-then-is_empty-clause-pushed g c = put_none c.args.self.now c.args.run.items _ (sym c.args.run.ok.0) (sym c.is_empty.ensures ∙ c.if-is_empty.true)

pub returns-clause-pushed : goal.returns-clause-pushed
returns-clause-pushed g c =
    put_run c.self.inside.runs.items c.push.new.self.items _ c.args.run.items c.in_ok-push.ensures.items c.shrink_to_fit.ensures.items
    ∙ ap (λ xs. xs ▷ new_entries c.args.run.items) c.self.view_is
