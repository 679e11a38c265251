use Rattle.std.proofs.Common.{ap, arith, sym, ◌∙◌, ◌++◌}
use Rattle.std.specs.Prelude.{option_map, vec_len}
use Rattle.rd_graph.specs.Gathered.{arranged}
use Rattle.rd_graph.specs.Runs.{places_of}
use Rattle.rd_merge.proofs.InPlace.{lined, unlined, unlined_items}
use Rattle.rd_merge.proofs.moving.in_line.Goals as goal

pub returns-in-None-clause-entries : goal.returns-in-None-clause-entries
returns-in-None-clause-entries g c =
    let ok = c.args.made.ok in
    unlined (option_map (λ l. places_of l.now) c.args.line) c.args.entries.items c.args.made.items (vec_len c.args.made) (ap (option_map (λ l. places_of l.now)) c.in-None.is) c.requires.still (omega (arith, ok.0))

pub returns-in-None-clause-items : goal.returns-in-None-clause-items
returns-in-None-clause-items g c =
    let ok = c.args.made.ok in
    unlined_items (option_map (λ l. places_of l.now) c.args.line) c.args.entries.items c.args.made.items (vec_len c.args.made) (ap (option_map (λ l. places_of l.now)) c.in-None.is) c.requires.still (omega (arith, ok.0))

pub returns-in-Some-clause-entries : goal.returns-in-Some-clause-entries
returns-in-Some-clause-entries g c =
    lined (option_map (λ l. places_of l.now) c.args.line) (places_of c.in-Some.line.now) c.args.entries.items c.args.made.items c.move_line.result.items (ap (option_map (λ l. places_of l.now)) c.in-Some.is) c.move_line.ensures

pub returns-in-Some-clause-items : goal.returns-in-Some-clause-items
returns-in-Some-clause-items g c =
    c.move_line.ensures ∙ ap (λ o. arranged o (c.args.entries.items ++ c.args.made.items)) (sym (ap (option_map (λ l. places_of l.now)) c.in-Some.is))
