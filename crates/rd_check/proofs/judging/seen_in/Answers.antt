use Rattle.std.proofs.Common.{ℕ, Option, sym, ap, ◌∙◌}
use Rattle.std.proofs.lemmas.List.{map_push}
use Rattle.rd_graph.specs.Names.{place_of, same_entry}
use Rattle.rd_check.specs.Internal.Keyed.{shown}
use Rattle.rd_check.specs.Internal.Finding.{Sight, sight_by}
use Rattle.rd_check.specs.Internal.Sights.{sight_of, sights_of}
use Rattle.rd_check.proofs.Searching.{made_more, made_all, map_map}
use Rattle.rd_check.proofs.judging.seen_in.Goals as goal

pub loop-entry-preserved : goal.loop-entry-preserved
loop-entry-preserved c =
    let pair : Option ℕ → Sight = λ o. (shown c.entry-item.result, o) in
    made_more (λ e. sight_by c.args.places.now (shown e)) c.args.entries.now c.loop-entry.entry-index c.entry-item.result
    (sights_of c.loop-entry.seen.items) (sights_of c.push.new.self.items) (pair c.find-place.result)
    c.loop-entry-test.true c.entry-item.is c.loop-entry.invariant
    (ap sights_of c.in_ok-push.ensures.items ∙ map_push sight_of c.loop-entry.seen.items _)
    (ap pair (c.find-place.ensures ∙ ap (place_of same_entry c.args.places.now) c.name_of.ensures))

pub returns : goal.returns
returns c =
    made_all (λ e. sight_by c.args.places.now (shown e)) c.args.entries.now c.loop-entry.entry-index (sights_of c.loop-entry.seen.items) c.loop-entry.invariant c.loop-entry-test.false
    ∙ sym (map_map (sight_by c.args.places.now) shown c.args.entries.now)
