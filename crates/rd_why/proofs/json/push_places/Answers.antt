use Rattle.std.proofs.Common.{refl}
use Rattle.rd_why.specs.Json.{places_json}
use Rattle.rd_why.proofs.Growing.{place_more, none_left}
use Rattle.rd_why.proofs.json.push_places.Goals as goal

pub loop-i-preserved : goal.loop-i-preserved
loop-i-preserved g c =
    place_more c.args.tree.now.boxes c.args.ps.now c.loop-i.i _ _ _ _ _ _
    c.loop-i-test.true c.loop-i.invariant c.in_ok-push_place.ensures c.comma.ensures c.in_ok-push_str.ensures.bytes

pub returns : goal.returns
returns g c = none_left (places_json c.args.tree.now.boxes) c.args.ps.now c.loop-i.i _ _ c.loop-i-test.false refl c.loop-i.invariant
