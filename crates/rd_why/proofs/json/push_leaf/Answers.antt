use Rattle.std.proofs.Common.{◌∙◌, ap, ◌++◌, codes, string_bytes}
use Rattle.std.proofs.lemmas.Result.{on_ok_weaker}
use Rattle.rd_trace.specs.Ways.{Traced, takes_hit}
use Rattle.rd_why.specs.Json.{leaf_head, leaf_lies, leaf_hit, above_json}
use Rattle.rd_why.proofs.Growing.{pushed, six}
use Rattle.rd_why.proofs.json.push_leaf.Goals as goal

pub returns : goal.returns
returns g c =
    on_ok_weaker c.push_str-2.result
    (six (leaf_head c.args.tree.now.boxes c.args.t.now.leaf) (leaf_lies c.args.tree.now.boxes c.args.t.now.way c.args.t.now.groups) (leaf_hit c.args.found (takes_hit c.args.t.now)) (codes ",\"above_next\":")
    (above_json c.args.tree.now.boxes c.args.t.now c.args.ts.now) (codes "}") _ _ _ _ _ _ _
    (c.in_ok-push_leaf_head.ensures ∙ ap (λ (z : Traced). string_bytes c.args.out.now ++ leaf_head c.args.tree.now.boxes z.leaf) c.t.view_is)
    (c.in_ok-push_leaf_lies.ensures
    ∙ (ap (λ w. string_bytes c.push_leaf_head.new.out ++ leaf_lies c.args.tree.now.boxes w c.deref-2.result.now) c.deref.ensures.value
    ∙ (ap (λ w. string_bytes c.push_leaf_head.new.out ++ leaf_lies c.args.tree.now.boxes c.t.inside.way.items w) c.deref-2.ensures.value
    ∙ ap (λ (z : Traced). string_bytes c.push_leaf_head.new.out ++ leaf_lies c.args.tree.now.boxes z.way z.groups) c.t.view_is)))
    (c.in_ok-push_leaf_hit.ensures ∙ ap (λ b. string_bytes c.push_leaf_lies.new.out ++ leaf_hit c.args.found b) c.takes_hit.ensures)
    c.in_ok-push_str.ensures.bytes c.in_ok-push_above.ensures)
    (pushed c.push_str-2.result _ _ _ c.push_str-2.ensures.bytes)
