use Rattle.std.proofs.Common.{◌∙◌, ap, sym, get_or}
use Rattle.rd_merge.proofs.Looks.{passes_one}
use Rattle.rd_merge.proofs.passing.Pass.passes.Goals as goal

pub returns : goal.returns
returns g c =
    let p = c.args.self.now in
    let m = p.marks.now in
    let x = get_or p.entries.now c.args.place c.index-self-place.result in
    let is = ap (λ z. get_or p.entries.now c.args.place z) c.index-self-place.is in
    λ t. passes_one (g.T.Touches.is_touched p.tree.now) m.is_wide p.names.now m.marks.items c.requires.pass.marked p.entries.now c.args.place x c.requires.pass.names_once c.requires.pass.entries_once
    c.requires.within is (sym c.is_passed.ensures ∙ t)
