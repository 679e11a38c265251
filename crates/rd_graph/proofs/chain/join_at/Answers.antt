use Rattle.std.proofs.Common.{◌≡◌, refl, List, subst}
use Rattle.std.proofs.lemmas.Result.{IfOk-weaker}
use Rattle.rd_keys.specs.declared.entry.EntryKey.{EntryKey}
use Rattle.rd_graph.specs.Names.{is_in}
use Rattle.rd_graph.specs.Graphs.{nodes}
use Rattle.rd_graph.specs.Internal.Seen.{seen, tagged}
use Rattle.rd_graph.specs.Internal.Tables.{has_it}
use Rattle.rd_graph.specs.Names.{same_entry}
use Rattle.rd_graph.specs.declared.graph.Node.{Node}
use Rattle.rd_graph.proofs.Reaching.Joined.{joins_all}
use Rattle.rd_graph.proofs.chain.join_at.Goals as goal

pub returns : goal.returns
returns c =
    IfOk-weaker c.join_both.result _ _
    (λ v. joins_all (has_it c.in_ok-standing.standing) c.args.chain.now _ (seen c.args.nodes.items) _ (tagged v.items)
    (subst (λ (ns : List Node). (k : EntryKey) → has_it c.in_ok-standing.standing k ≡ is_in same_entry (nodes (seen ns)) k) c.deref.ensures.value c.in_ok-standing.ensures) refl)
    c.join_both.ensures
