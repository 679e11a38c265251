use Rattle.std.proofs.Common.{◌≡◌, refl, ◌∙◌, subst, get_or, None, List, length, rules}
use Rattle.rd_keys.specs.declared.entry.EntryKey.{EntryKey}
use Rattle.rd_graph.specs.Names.{same_entry}
use Rattle.rd_graph.specs.Internal.Patching.{lists_seen}
use Rattle.rd_graph.specs.Internal.Relisting.{GoesAlong, GoesAlongAt}
use Rattle.rd_graph.specs.Internal.Seen.{seen}
use Rattle.rd_graph.specs.Internal.Tables.{has_it}
use Rattle.rd_graph.specs.Internal.Words.{resolved_by}
use Rattle.rd_graph.proofs.Patches.Along.{along_none, along_next, along_no_node}
use Rattle.rd_graph.proofs.LinedUp.LineFacts.{seen_length}
use Rattle.rd_graph.proofs.Patches.Marks.{take_whole}
use Rattle.rd_graph.proofs.Lists.Rising.{any_of, found_at, found_whole, found_within}
use Rattle.rd_graph.proofs.changing.go_along_all.Goals as goal

pub loop-i-init : goal.loop-i-init
loop-i-init c = record { so_far = along_none (has_it c.args.gone.now.names) (resolved_by c.args.gone.now.names c.args.notes.now) c.args.chain.now (seen c.args.nodes.now) c.requires.sound c.requires.once (lists_seen c.args.lists.now.items) }

pub loop-i-preserved : goal.loop-i-preserved
loop-i-preserved c =
    let f = found_at c.args.chain.now (seen c.args.nodes.now) c.args.found.now c.loop-i.i c.requires.found_are c.loop-i-test.true in
    let d = any_of c.args.chain.now c.loop-i.i f.0 in
    record {
      so_far = along_next (has_it c.args.gone.now.names) (resolved_by c.args.gone.now.names c.args.notes.now) c.args.chain.now (seen c.args.nodes.now) c.requires.sound c.requires.once c.loop-i.i d (lists_seen c.args.lists.now.items)
          (lists_seen c.loop-i.lists.items) (lists_seen c.go_along_at.new.lists.items) f.0 c.loop-i.invariant.so_far _ (f.1 d) _ refl
          (subst (λ (edge : List EntryKey). GoesAlongAt (has_it c.args.gone.now.names) same_entry (resolved_by c.args.gone.now.names c.args.notes.now) edge (get_or c.args.found.now c.loop-i.i None) (seen c.args.nodes.now)
          (lists_seen c.loop-i.lists.items) (lists_seen c.go_along_at.new.lists.items)) c.name_before-name.ensures c.in_ok-go_along_at.ensures);
    }

pub name_before-name-requires : goal.name_before-name-requires
name_before-name-requires c = (found_at c.args.chain.now (seen c.args.nodes.now) c.args.found.now c.loop-i.i c.requires.found_are c.loop-i-test.true).0

pub go_along_at-requires-clause-within : goal.go_along_at-requires-clause-within
go_along_at-requires-clause-within c =
    let f = found_at c.args.chain.now (seen c.args.nodes.now) c.args.found.now c.loop-i.i c.requires.found_are c.loop-i-test.true in
    found_within c.args.nodes.now _ _ (f.1 (any_of c.args.chain.now c.loop-i.i f.0))

pub returns-then-is_empty : goal.returns-then-is_empty
returns-then-is_empty c =
    let empty : length c.args.nodes.now ≡ 0 = search rules in
    along_no_node (has_it c.args.gone.now.names) (resolved_by c.args.gone.now.names c.args.notes.now) c.args.chain.now (seen c.args.nodes.now) c.requires.sound c.requires.once (lists_seen c.args.lists.now.items) (seen_length c.args.nodes.now ∙ empty)

pub returns : goal.returns
returns c =
    subst (λ (part : List EntryKey). GoesAlong (has_it c.args.gone.now.names) same_entry (resolved_by c.args.gone.now.names c.args.notes.now) c.args.chain.now part (seen c.args.nodes.now) (lists_seen c.args.lists.now.items) (lists_seen c.loop-i.lists.items))
    (take_whole c.args.chain.now c.loop-i.i (found_whole c.args.chain.now (seen c.args.nodes.now) c.args.found.now c.loop-i.i c.requires.found_are c.loop-i-test.false))
    c.loop-i.invariant.so_far
