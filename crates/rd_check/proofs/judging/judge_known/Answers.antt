use Rattle.rd_check.proofs.Judged.{few_seen, places_once, known_told}
use Rattle.rd_check.proofs.judging.judge_known.Goals as goal

pub places_of-requires : goal.places_of-requires
places_of-requires c = places_once c.args.fresh.now c.as_slice-leaves.result.now c.as_slice-leaves.ensures.value c.requires.once

pub new-requires : goal.new-requires
new-requires c = c.requires.differ

pub judge_extra-requires : goal.judge_extra-requires
judge_extra-requires c =
    few_seen c.args.entries.now c.in_ok-places.places c.in_ok-all.all.items c.as_slice-seen.result.now c.in_ok-all.ensures c.as_slice-seen.ensures.value c.requires.few

pub returns : goal.returns
returns c =
    known_told c.args.entries.now c.args.fresh.now c.args.names.items c.in_ok-known.known c.in_ok-places.places c.as_slice-leaves.result.now c.in_ok-all.all.items c.as_slice-seen.result.now
    c.judge_extra.result c.requires.named c.in_ok-known.ensures c.as_slice-leaves.ensures.value c.in_ok-places.ensures c.in_ok-all.ensures c.as_slice-seen.ensures.value c.judge_extra.ensures
