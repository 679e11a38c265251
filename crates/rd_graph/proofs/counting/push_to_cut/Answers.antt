use Rattle.std.proofs.Common.{arith}
use Rattle.rd_graph.specs.Internal.Ranks.{spread}
use Rattle.rd_graph.proofs.LinedUp.ByRanks.RankParts.{put_counted, put_within}
use Rattle.rd_graph.proofs.counting.push_to_cut.Goals as goal

pub returns-then-rise-what-clause-to : goal.returns-then-rise-what-clause-to
returns-then-rise-what-clause-to c = λ first was.
    let rise = c.risen-rise.ensures in
    put_counted c.args.what.places.now c.args.what.names.now c.args.what.stays.now c.args.what.nodes.now c.requires.what c.args.from c.risen-rise.result c.requires.from rise.cut rise.rises
    first (spread c.args.runs.now.items) (spread c.push_counted.new.runs.items) rise.after was c.in_ok-push_counted.ensures

pub returns : goal.returns
returns c =
    let rise = c.risen-rise.ensures in
    let to = c.next_cut-to.ensures in
    record {
      cut = to.cut;
      more = (let l = rise.rises.next in let m = to.more in omega (arith, l, m));
      to = λ first was.
          put_within c.args.what.places.now c.args.what.names.now c.args.what.stays.now c.args.what.nodes.now c.requires.what (record { from = c.risen-rise.result; to = c.next_cut-to.result }) first (spread c.push_counted.new.runs.items) (spread c.push_within.new.runs.items)
          (record { from = rise.cut; to = to.cut; forward = to.after; next = (let m = to.more in omega (arith, m)) })
          (put_counted c.args.what.places.now c.args.what.names.now c.args.what.stays.now c.args.what.nodes.now c.requires.what c.args.from c.risen-rise.result c.requires.from rise.cut rise.rises
          first (spread c.args.runs.now.items) (spread c.push_counted.new.runs.items) rise.after was c.in_ok-push_counted.ensures)
          c.in_ok-push_within.ensures;
    }
