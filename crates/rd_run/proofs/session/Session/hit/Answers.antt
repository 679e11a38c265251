use Rattle.std.proofs.Common.{◌≡◌, ◌∙◌, ap, sym, subst, to_z, of_z, w32, ℤ}
use Rattle.std.proofs.lemmas.Int.{to_z-of_z}
use Rattle.rd_keys.specs.Keys.{same_key}
use Rattle.rd_list.specs.Lists.{hit}
use Rattle.rd_tree.specs.Forest.{IsApart}
use Rattle.rd_tree.specs.Document.{Document, IsRooted, id_of}
use Rattle.rd_stack.specs.Fresh.{fresh_list}
use Rattle.rd_run.proofs.Hits.{hit_some}
use Rattle.rd_run.proofs.session.Session.hit.Goals as goal

pub returns-in-Some : goal.returns-in-Some
returns-in-Some g c =
    let t : Document = c.self.inside.engine.tree in
    let x : ℤ = to_z w32 (of_z w32 c.args.x) in
    let y : ℤ = to_z w32 (of_z w32 c.args.y) in
    let right : x ≡ c.args.x = to_z-of_z w32 c.args.x c.ranges.x in
    let down : y ≡ c.args.y = to_z-of_z w32 c.args.y c.ranges.y in
    let at = c.hit.ensures ∙ ap (λ z. hit (fresh_list t) z y) right ∙ ap (λ z. hit (fresh_list t) c.args.x z) down in
    let apart = subst (λ (d : Document). IsApart same_key d.boxes) c.tree-tree.ensures c.root-root.ensures.apart in
    let rooted = subst (λ (d : Document). IsRooted d) c.tree-tree.ensures c.root-root.ensures.rooted in
    rw (← c.self.view_is)
    (c.id.ensures ∙ ap (λ d. id_of c.in-Some.key d.boxes) c.tree-tree.ensures ∙ hit_some t apart rooted c.args.x c.args.y c.in-Some.key (sym at ∙ c.in-Some.is))
