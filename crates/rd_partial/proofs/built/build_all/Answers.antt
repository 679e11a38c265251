use Rattle.std.proofs.Common.{◌∙◌, ap, subst, arith, [], length, ◌≡◌, ◌+◌, ◌≤◌}
use Rattle.std.specs.Prelude.{IfOk, OnOk}
use Rattle.rd_geom.specs.Plane.{meets}
use Rattle.rd_geom.specs.Canvas.{canvas_of}
use Rattle.rd_list.specs.Entries.{flat}
use Rattle.rd_tree.specs.Drawn.{drawn}
use Rattle.rd_tree.proofs.Drawing.{size-drawn}
use Rattle.rd_partial.specs.Numbered.{numbered}
use Rattle.rd_partial.proofs.Pass.Everything.{all_wanted}
use Rattle.rd_partial.proofs.Visits.{root_size}
use Rattle.rd_partial.proofs.built.build_all.Goals as goal

pub returns-clause-list : goal.returns-clause-list
returns-clause-list g c =
    subst (λ z. IfOk c.build_wanted.result (λ l. l ≡ numbered c.args.number z))
    (all_wanted c.args.tree.now c.build_wanted.ensures.apart c.rect.result (c.rect.ensures ∙ ap canvas_of c.canvas.ensures.size)) c.build_wanted.ensures.list

pub returns-clause-made : goal.returns-clause-made
returns-clause-made g c =
    subst (λ z. OnOk c.build_wanted.result (c.build_wanted.new.made ≡ c.args.made.now + length (flat z)))
    (all_wanted c.args.tree.now c.build_wanted.ensures.apart c.rect.result (c.rect.ensures ∙ ap canvas_of c.canvas.ensures.size)) c.build_wanted.ensures.made

pub returns-clause-most : goal.returns-clause-most
returns-clause-most g c =
    subst (λ z. c.build_wanted.new.made ≤ c.args.made.now + length (flat z))
    (all_wanted c.args.tree.now c.build_wanted.ensures.apart c.rect.result (c.rect.ensures ∙ ap canvas_of c.canvas.ensures.size)) c.build_wanted.ensures.most

pub returns-clause-looks : goal.returns-clause-looks
returns-clause-looks g c =
    let h = root_size (meets c.rect.result) (drawn c.args.tree.now).boxes in
    let n = size-drawn [] c.args.tree.now.boxes in
    let k = c.build_wanted.ensures.looks in
    omega (arith, h, n, k)
