use Rattle.std.proofs.Common.{◌≡◌, ◌∙◌, ◌||◌, ap, arith, sym, subst, true, false}
use Rattle.std.specs.Prelude.{Some}
use Rattle.rd_tree.specs.Internal.Linked.{linked, seen_from}
use Rattle.rd_tree.specs.Internal.Regrouping.{is_blended_under}
use Rattle.rd_tree.proofs.Contexts.Blends.{any_blended, Sought, SoughtStep, sought_step, none_sought}
use Rattle.rd_tree.proofs.drawn_tree.contexts.+any_blended_from.Goals as goal

pub any_blended_from-requires : goal.any_blended_from-requires
any_blended_from-requires t c =
    let w : Sought c.args.nodes.now c.args.first (Some c.in-Some.key) = subst (λ o. Sought c.args.nodes.now c.args.first o) c.in-Some.is c.loop-at.invariant in
    let s : SoughtStep c.args.nodes.now c.args.first c.in-Some.key c.blended_one-blended.result.1 c.blended_one-blended.result.2 =
    sought_step c.args.nodes.now c.args.first c.in-Some.key c.blended_one-blended.result.1 c.blended_one-blended.result.2 w c.blended_one-blended.ensures.onward in
    (omega (arith, s.smaller), s.read)

pub loop-at-smaller : goal.loop-at-smaller
loop-at-smaller t c =
    let w : Sought c.args.nodes.now c.args.first (Some c.in-Some.key) = subst (λ o. Sought c.args.nodes.now c.args.first o) c.in-Some.is c.loop-at.invariant in
    let s : SoughtStep c.args.nodes.now c.args.first c.in-Some.key c.blended_one-blended.result.1 c.blended_one-blended.result.2 =
    sought_step c.args.nodes.now c.args.first c.in-Some.key c.blended_one-blended.result.1 c.blended_one-blended.result.2 w c.blended_one-blended.ensures.onward in
    rw c.in-Some.is s.later

pub loop-at-preserved : goal.loop-at-preserved
loop-at-preserved t c =
    let w : Sought c.args.nodes.now c.args.first (Some c.in-Some.key) = subst (λ o. Sought c.args.nodes.now c.args.first o) c.in-Some.is c.loop-at.invariant in
    let s : SoughtStep c.args.nodes.now c.args.first c.in-Some.key c.blended_one-blended.result.1 c.blended_one-blended.result.2 =
    sought_step c.args.nodes.now c.args.first c.in-Some.key c.blended_one-blended.result.1 c.blended_one-blended.result.2 w c.blended_one-blended.ensures.onward in
    let own : is_blended_under (linked c.args.nodes.now c.in-Some.key) ≡ false = sym c.blended_one-blended.ensures.blended ∙ c.if-blended.false in
    let low : any_blended (seen_from c.args.nodes.now c.blended_one-blended.result.1) ≡ false = sym c.any_blended_from.ensures ∙ c.if-any_blended_from.false in
    record {
      read = s.rest;
      same = s.is ∙ (λ i. own i || low i || any_blended (seen_from c.args.nodes.now c.blended_one-blended.result.2));
      smaller = s.fewer;
    }

pub returns-then-blended : goal.returns-then-blended
returns-then-blended t c =
    let w : Sought c.args.nodes.now c.args.first (Some c.in-Some.key) = subst (λ o. Sought c.args.nodes.now c.args.first o) c.in-Some.is c.loop-at.invariant in
    let s : SoughtStep c.args.nodes.now c.args.first c.in-Some.key c.blended_one-blended.result.1 c.blended_one-blended.result.2 =
    sought_step c.args.nodes.now c.args.first c.in-Some.key c.blended_one-blended.result.1 c.blended_one-blended.result.2 w c.blended_one-blended.ensures.onward in
    let own : is_blended_under (linked c.args.nodes.now c.in-Some.key) ≡ true = sym c.blended_one-blended.ensures.blended ∙ c.if-blended.true in
    sym (s.is ∙ (λ i. own i || any_blended (seen_from c.args.nodes.now c.blended_one-blended.result.1)
    || any_blended (seen_from c.args.nodes.now c.blended_one-blended.result.2)))

pub returns-then-any_blended_from : goal.returns-then-any_blended_from
returns-then-any_blended_from t c =
    let w : Sought c.args.nodes.now c.args.first (Some c.in-Some.key) = subst (λ o. Sought c.args.nodes.now c.args.first o) c.in-Some.is c.loop-at.invariant in
    let s : SoughtStep c.args.nodes.now c.args.first c.in-Some.key c.blended_one-blended.result.1 c.blended_one-blended.result.2 =
    sought_step c.args.nodes.now c.args.first c.in-Some.key c.blended_one-blended.result.1 c.blended_one-blended.result.2 w c.blended_one-blended.ensures.onward in
    let own : is_blended_under (linked c.args.nodes.now c.in-Some.key) ≡ false = sym c.blended_one-blended.ensures.blended ∙ c.if-blended.false in
    let low : any_blended (seen_from c.args.nodes.now c.blended_one-blended.result.1) ≡ true = sym c.any_blended_from.ensures ∙ c.if-any_blended_from.true in
    sym (s.is ∙ (λ i. own i || low i || any_blended (seen_from c.args.nodes.now c.blended_one-blended.result.2)))

pub returns : goal.returns
returns t c =
    let w : Sought c.args.nodes.now c.args.first c.loop-at.at = c.loop-at.invariant in
    sym (w.same ∙ (ap (λ o. any_blended (seen_from c.args.nodes.now o)) c.in_default.is ∙ none_sought c.args.nodes.now))
