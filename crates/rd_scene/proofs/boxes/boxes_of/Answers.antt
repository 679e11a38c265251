use Rattle.std.proofs.Common.{◌∙◌, ◌<◌, ◌∷◌, [], length, length-append, rules, refl, arith, sym}
use Rattle.std.proofs.lemmas.List.Elements.{All-push}
use Rattle.serde_json.specs.View.{items_view}
use Rattle.rd_scene.specs.Boxes.{boxes_from}
use Rattle.rd_scene.specs.Scripts.{FitsBox}
use Rattle.rd_scene.specs.Versions.{number_of, HasBox}
use Rattle.rd_scene.specs.Internal.Gives.{BreaksAt}
use Rattle.rd_scene.specs.Internal.Steps.{told}
use Rattle.rd_scene.proofs.Each.{after_none, box_next, box_ends, boxes_end}
use Rattle.rd_scene.proofs.OrderLemmas.{noted_more}
use Rattle.rd_scene.proofs.boxes.boxes_of.Goals as goal

pub loop-i-preserved : goal.loop-i-preserved
loop-i-preserved c =
    let within : c.loop-i.i < length c.args.list.now = omega arith in
    let n = noted_more c.loop-i.boxes.items c.in_ok-b.b c.loop-i.i _ _ c.loop-i.invariant.len c.loop-i.invariant.depths c.loop-i.invariant.order c.in_ok-b.ensures.noted in
    rw c.in_ok-push.ensures.items (record {
      all = box_next c.args.version c.loop-i.i c.loop-i.boxes.items c.in_ok-b.b c.args.list.now _ _ within c.index-list-i.is c.loop-i.invariant.len c.loop-i.invariant.depths c.in_ok-b.ensures.value ∙ c.loop-i.invariant.all;
      len = omega (arith, length-append c.loop-i.boxes.items (c.in_ok-b.b ∷ []), c.loop-i.invariant.len);
      depths = n.depths;
      order = n.order;
      fits = All-push FitsBox _ _ c.loop-i.invariant.fits c.in_ok-b.ensures.fits;
      had = All-push (HasBox (number_of c.args.version)) _ _ c.loop-i.invariant.had c.in_ok-b.ensures.had;
    })

pub returns-in_err-b-clause-value : goal.returns-in_err-b-clause-value
returns-in_err-b-clause-value c =
    let within : c.loop-i.i < length c.args.list.now = omega arith in
    let stop : BreaksAt c.in_err-b.field-0.0 (boxes_from c.args.version 0 [] (items_view c.args.list.now)).first =
    box_ends c.args.version c.loop-i.i c.loop-i.boxes.items c.in_err-b.field-0.0 c.args.list.now c.index-list-i.result (told c.loop-i.depths) (boxes_from c.args.version 0 [] (items_view c.args.list.now)).first within c.index-list-i.is c.loop-i.invariant.len
    c.loop-i.invariant.depths c.loop-i.invariant.all c.in_err-b.ensures.value in
    search rules

pub loop-i-init : goal.loop-i-init
unfolding told
loop-i-init c = rw c.new-boxes.ensures.items (record {
  all = after_none (boxes_from c.args.version 0 [] (items_view c.args.list.now)).first;
  len = refl;
  depths = λ q. search rules;
  order = refl;
  fits = search rules;
  had = search rules;
})

pub returns-clause-value : goal.returns-clause-value
returns-clause-value c =
    sym c.loop-i.invariant.all ∙ boxes_end c.args.version c.loop-i.i c.loop-i.boxes.items c.args.list.now (omega arith)
