use Rattle.std.proofs.Common.{sym, ap, ◌∙◌}
use Rattle.rd_tree.specs.Document.{named}
use Rattle.rd_check.proofs.Named.{id_is, some_named, name_more, not_named, all_named}
use Rattle.rd_check.proofs.naming.name_all.Goals as goal

pub returns-in-None : goal.returns-in-None
returns-in-None g c =
    not_named c.args.tree.now c.args.rows.now c.loop-i.entries.items c.loop-i.i c.index-rows-i.result c.loop-i.invariant c.loop-i-test.true c.index-rows-i.is
    (ap (λ z. named z c.args.tree.now.boxes) (id_is c.index-rows-i.result) ∙ sym c.in-None.ensures.found)

pub loop-i-preserved : goal.loop-i-preserved
loop-i-preserved g c =
    name_more c.args.tree.now c.args.rows.now c.loop-i.entries.items c.push.new.self.items c.loop-i.i c.index-rows-i.result c.entry_of.result c.loop-i.invariant
    c.loop-i-test.true c.index-rows-i.is (some_named c.args.tree.now c.index-rows-i.result c.in-Some.key c.in-Some.ensures.found)
    (c.entry_of.ensures c.args.tree.now (ap (λ z. named z c.args.tree.now.boxes) (id_is c.index-rows-i.result) ∙ sym c.in-Some.ensures.found))
    c.in_ok-push-in-Some.ensures.items

pub returns : goal.returns
returns g c = all_named c.args.tree.now c.args.rows.now c.loop-i.entries.items c.loop-i.i c.loop-i.invariant c.loop-i-test.false
