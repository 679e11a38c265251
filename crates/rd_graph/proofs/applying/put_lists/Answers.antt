use Rattle.std.proofs.Common.{arith}
use Rattle.rd_graph.proofs.Patches.PutInPlace.{list_within, lists_put, lists_left}
use Rattle.rd_graph.proofs.applying.put_lists.Goals as goal

pub put_list-requires : goal.put_list-requires
put_list-requires c =
    let ok = c.loop-place.nodes.ok in
    let w = list_within c.args.nodes.now.items c.loop-place.nodes.items c.args.lists.items c.loop-place.yielded c.loop-place.place-iterator.rest.items c.next.new.self.rest.items (c.in-Some.place, c.in-Some.before)
    c.loop-place.invariant.lists c.in-Some.ensures.steps.0 c.loop-place.invariant.put c.requires.within in
    omega (arith, w, ok.0)

pub loop-place-preserved : goal.loop-place-preserved
loop-place-preserved c = record {
  put = lists_put c.args.nodes.now.items c.loop-place.nodes.items c.args.lists.items c.loop-place.yielded c.loop-place.place-iterator.rest.items c.next.new.self.rest.items (c.in-Some.place, c.in-Some.before)
      c.loop-place.invariant.lists c.in-Some.ensures.steps.0 c.loop-place.invariant.put c.put_list.new.nodes.items c.put_list.ensures.put;
  lists = lists_left c.args.nodes.now.items c.loop-place.nodes.items c.args.lists.items c.loop-place.yielded c.loop-place.place-iterator.rest.items c.next.new.self.rest.items (c.in-Some.place, c.in-Some.before)
      c.loop-place.invariant.lists c.in-Some.ensures.steps.0 c.loop-place.invariant.put;
  told = c.put_list.ensures.told c.loop-place.invariant.told;
}
