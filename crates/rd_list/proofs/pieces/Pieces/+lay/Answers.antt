use Rattle.std.proofs.Common.{◌≡◌, ◌∙◌, sym, subst}
use Rattle.std.specs.Prelude.{OnOk}
use Rattle.std.specs.Vec.Iter.{into_iter_items}
use Rattle.rd_list.proofs.Piling.{lay_more, lay_top}
use Rattle.rd_list.proofs.pieces.Pieces.+lay.Goals as goal

pub loop-list-preserved : goal.loop-list-preserved
loop-list-preserved g t c =
    lay_more (into_iter_items c.loop-list.list-iterator) (into_iter_items c.next.new.self) c.in-Some.list c.self.inside.top.items c.loop-list.out c.args.out.now c.lay.new.out c.args.self
    c.in-Some.ensures.steps.0 c.in_ok-lay.ensures c.loop-list.invariant

pub returns : goal.returns
returns g t c =
    subst (λ z. OnOk c.push_run.result (c.push_run.new.self ≡ z))
    (lay_top (into_iter_items c.loop-list.list-iterator) c.self.inside.top.items c.loop-list.out c.args.out.now c.args.self
    (sym c.loop-list.list-iterator.rest.ok.0 ∙ c.in-None.ensures.steps.0) c.loop-list.invariant)
    c.push_run.ensures.pushed
