use Rattle.std.proofs.Common.{refl, ◌∙◌, sym, true}
use Rattle.rd_graph.proofs.Lists.Listing.{never}
use Rattle.rd_graph.proofs.Reaching.Forward.{before_of, of_before, has_first, has_second}
use Rattle.rd_graph.proofs.forward.is_before.Goals as goal

pub returns-in_default : goal.returns-in_default
returns-in_default c = (λ e. absurd (never true refl (sym e)), λ h. absurd (has_first c.args.line.now c.args.a c.args.b c.requires (sym c.find.ensures ∙ c.in_default.is) h))

pub returns-in_default-find : goal.returns-in_default-find
returns-in_default-find c = (λ e. absurd (never true refl (sym e)), λ h. absurd (has_second c.args.line.now c.args.a c.args.b c.requires (sym c.find-2.ensures ∙ c.in_default-find.is) h))

pub returns : goal.returns
returns c =
    let i = sym c.find.ensures ∙ c.in-Some.is in
    let j = sym c.find-2.ensures ∙ c.in-Some-find.is in
    (before_of c.args.line.now c.args.a c.args.b c.in-Some.i c.in-Some-find.j i j, of_before c.args.line.now c.args.a c.args.b c.requires c.in-Some.i c.in-Some-find.j i j)
