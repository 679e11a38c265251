use Rattle.std.proofs.Common.{◌++◌, codes}
use Rattle.std.proofs.lemmas.Result.{on_ok_weaker}
use Rattle.rd_why.specs.Json as spec
use Rattle.rd_why.proofs.Growing.{pushed, five}
use Rattle.rd_why.proofs.json.push_differing.Goals as goal

pub returns : goal.returns
unfolding spec.differing_json
returns g c =
    on_ok_weaker c.push_str-2.result
    (five (codes "{\"by\":\"" ++ c.args.word.now ++ codes "\",\"upper\":") (spec.place_json c.args.tree.now.boxes c.args.u.now) (codes ",\"lower\":") (spec.place_json c.args.tree.now.boxes c.args.l.now) (codes "}")
    _ _ _ _ _ _ c.in_ok-write.ensures.bytes c.in_ok-push_place.ensures c.in_ok-push_str.ensures.bytes c.in_ok-push_place-2.ensures)
    (pushed c.push_str-2.result _ _ _ c.push_str-2.ensures.bytes)
