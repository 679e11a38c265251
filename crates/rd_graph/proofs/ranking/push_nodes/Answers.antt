use Rattle.std.proofs.Common.{◌∙◌, sym, subst, List, ℕ}
use Rattle.std.proofs.lemmas.Result.{on_ok_weaker}
use Rattle.rd_keys.specs.declared.entry.EntryKey.{EntryKey}
use Rattle.rd_graph.specs.Internal.Seen.{seen}
use Rattle.rd_graph.specs.Internal.Ranks.{fixed, spread, AreRankable, PutsRanked}
use Rattle.rd_graph.proofs.ranking.push_nodes.Goals as goal

pub push_ranked-requires : goal.push_ranked-requires
push_ranked-requires c =
    subst (λ (ks : List EntryKey). AreRankable c.args.nodes.now c.args.stays.now c.deref.result.now ks) (sym (c.deref-2.ensures.value ∙ c.in_ok-names.ensures))
    (subst (λ (ps : List ℕ). AreRankable c.args.nodes.now c.args.stays.now ps (fixed c.args.stays.now c.args.places.now c.args.chain.now)) (sym (c.deref.ensures.value ∙ c.in_ok-some.ensures)) c.requires.what)

pub returns : goal.returns
returns c =
    on_ok_weaker c.push_ranked.result
    (subst (λ (ks : List EntryKey). PutsRanked ks c.args.stays.now (seen c.args.nodes.now) (spread c.args.runs.now.items) (spread c.push_ranked.new.runs.items)) (c.deref-2.ensures.value ∙ c.in_ok-names.ensures)) c.push_ranked.ensures
