use Rattle.std.proofs.Common.{◌++◌, ◌∙◌, List, ap, arith, length, subst, sym}
use Rattle.std.specs.Prelude.{option_map}
use Rattle.rd_keys.specs.declared.entry.EntryKey.{EntryKey}
use Rattle.rd_graph.specs.Gathered.{arranged}
use Rattle.rd_graph.specs.Graphs.{Graph, IsInOrder}
use Rattle.rd_graph.specs.Internal.Chunks.{Tells}
use Rattle.rd_graph.specs.Internal.Patching.{lists_seen}
use Rattle.rd_graph.specs.Internal.Seen.{seen}
use Rattle.rd_graph.specs.Runs.{places_of}
use Rattle.rd_graph.specs.declared.graph.Node.{Node}
use Rattle.rd_graph.proofs.Patches.PutInPlace.{few_in_room, fits, line_fits}
use Rattle.rd_graph.proofs.graph.OrderGraph.apply.Goals as goal

pub put_lists-requires-clause-within : goal.put_lists-requires-clause-within
put_lists-requires-clause-within c =
    (fits (lists_seen c.patch.inside.lists.items, (seen c.patch.inside.made.items, option_map (λ l. places_of l.items) c.patch.inside.line)) c.args.patch (seen c.self.inside.nodes.items) c.args.self c.patch.view_is c.self.view_is c.requires).lists

pub chunks_in_line-chunks-requires-clause-line : goal.chunks_in_line-chunks-requires-clause-line
chunks_in_line-chunks-requires-clause-line c =
    let f = fits (lists_seen c.patch.inside.lists.items, (seen c.patch.inside.made.items, option_map (λ l. places_of l.items) c.patch.inside.line)) c.args.patch (seen c.self.inside.nodes.items) c.args.self c.patch.view_is c.self.view_is c.requires in
    line_fits (option_map (λ l. places_of l.items) c.patch.inside.line) (lists_seen c.patch.inside.lists.items) c.self.inside.nodes.items c.put_lists.new.nodes.items c.patch.inside.made.items _ _ f.line c.put_lists.ensures.put
    (sym (ap length c.deref-2.ensures.value)) (sym (ap length c.deref-3.ensures.value))

pub chunks_in_line-chunks-requires-clause-few : goal.chunks_in_line-chunks-requires-clause-few
chunks_in_line-chunks-requires-clause-few c =
    let room = c.patch.inside.room.ok in
    few_in_room c.patch.inside.line c.patch.inside.room (omega (arith, room.1)) c.patch.invariant

pub in_line-requires-clause-line : goal.in_line-requires-clause-line
in_line-requires-clause-line c =
    let f = fits (lists_seen c.patch.inside.lists.items, (seen c.patch.inside.made.items, option_map (λ l. places_of l.items) c.patch.inside.line)) c.args.patch (seen c.self.inside.nodes.items) c.args.self c.patch.view_is c.self.view_is c.requires in
    let nodes = c.put_lists.new.nodes.ok in
    let made = c.patch.inside.made.ok in
    line_fits (option_map (λ l. places_of l.items) c.patch.inside.line) (lists_seen c.patch.inside.lists.items) c.self.inside.nodes.items c.put_lists.new.nodes.items c.patch.inside.made.items _ _ f.line c.put_lists.ensures.put (omega (arith, nodes.0)) (omega (arith, made.0))

pub invariant_of-result : goal.invariant_of-result
invariant_of-result c =
    let line = option_map (λ l. places_of l.items) c.patch.inside.line in
    let made = seen c.patch.inside.made.items in
    let f = fits (lists_seen c.patch.inside.lists.items, (made, line)) c.args.patch (seen c.self.inside.nodes.items) c.args.self c.patch.view_is c.self.view_is c.requires in (
      subst IsInOrder (sym (c.in_line.ensures ∙ ap (λ (g : Graph EntryKey). arranged line (g ++ made)) c.put_lists.ensures.put)) f.sound,
      subst (Tells c.chunks_in_line-chunks.result.items)
          (ap (λ (ns : List Node). arranged line (seen ns ++ seen c.deref-3.result.now)) c.deref-2.ensures.value
          ∙ ap (λ (ns : List Node). arranged line (seen c.put_lists.new.nodes.items ++ seen ns)) c.deref-3.ensures.value
          ∙ sym c.in_line.ensures)
          c.chunks_in_line-chunks.ensures,
    )
