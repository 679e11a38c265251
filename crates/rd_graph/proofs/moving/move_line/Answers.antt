use Rattle.std.proofs.Common.{◌+◌, ◌++◌, ◌∙◌, ap, arith, refl}
use Rattle.std.proofs.lemmas.List.{length-append}
use Rattle.std.specs.Prelude.{vec_len}
use Rattle.rd_graph.specs.Gathered.{gathered}
use Rattle.rd_graph.specs.Runs.{places_aside, places_of}
use Rattle.rd_graph.proofs.LinedUp.AllMade.{only_made}
use Rattle.rd_graph.proofs.LinedUp.RunGathering.{woven_is}
use Rattle.rd_graph.proofs.LinedUp.RunLines.{none_long}
use Rattle.rd_graph.proofs.moving.move_line.Goals as goal

pub returns-then-is_all_made : goal.returns-then-is_all_made
returns-then-is_all_made g c =
    let old = c.args.old.ok in
    let made = c.args.made.ok in
    only_made c.args.old.items c.args.made.items (places_of c.args.line.now) c.len.result c.len-2.result (c.is_all_made.ensures.none c.if-is_all_made.true)
    (omega (arith, old.0, c.len.ensures)) (omega (arith, made.0, c.len-2.ensures)) (c.is_all_made.ensures.all c.if-is_all_made.true)

pub line_up-requires-clause-empty : goal.line_up-requires-clause-empty
line_up-requires-clause-empty g c =
    let ok = c.args.room.ok in
    none_long c.args.room.items (omega (arith, ok.0, c.requires.empty))

pub returns-then-has_room_aside : goal.returns-then-has_room_aside
returns-then-has_room_aside g c =
    let was = c.args.old.items ++ c.args.made.items in
    let all = length-append c.args.old.items c.args.made.items in
    let a = c.args.old.ok in
    let b = c.args.made.ok in
    let d = c.args.aside.ok in
    let none = c.if-has_room_aside.ensures.none refl in
    let empty = none_long c.args.aside.items (omega (arith, d.0, none)) in
    c.line_up.ensures
    ∙ woven_is c.args.line.now (vec_len c.args.old + vec_len c.args.made) was (c.set_aside.new.old.items ++ c.set_aside.new.made.items) c.set_aside.new.aside.items c.requires.places (omega (arith, all, a.0, b.0))
    c.set_aside.ensures.others (c.set_aside.ensures.moved ∙ ap (λ zs. zs ++ gathered (places_aside c.args.line.now) was) empty)

pub gather-requires-clause-places : goal.gather-requires-clause-places
gather-requires-clause-places g c = c.requires.places

pub returns : goal.returns
returns g c =
    let ok = c.args.room.ok in
    let none = none_long c.args.room.items (omega (arith, ok.0, c.requires.empty)) in
    c.gather.ensures ∙ ap (λ zs. zs ++ gathered (places_of c.args.line.now) (c.args.old.items ++ c.args.made.items)) none
