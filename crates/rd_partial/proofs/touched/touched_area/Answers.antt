use Rattle.std.proofs.Common.{◌∙◌, ap, sym, subst, [], ◌&&◌, ◌||◌}
use Rattle.rd_geom.specs.Plane.{holds_pixel}
use Rattle.rd_geom.specs.Canvas.{canvas_of}
use Rattle.rd_item.specs.declared.leaf.Leaf.{Leaf}
use Rattle.rd_list.specs.Wrappers.{Wrapper}
use Rattle.rd_list.specs.Entries.{Entries}
use Rattle.rd_list.specs.EntryNames.{kept_leaves}
use Rattle.rd_tree.specs.Document.{Document}
use Rattle.rd_stack.specs.Fresh.{fresh_list}
use Rattle.rd_partial.specs.Invalid.{any_shows}
use Rattle.rd_partial.specs.Internal.Inherited.{at_root}
use Rattle.rd_partial.specs.Internal.Touched.{Joins}
use Rattle.rd_partial.proofs.Invalidating.{looks_are, invalid_is}
use Rattle.rd_partial.proofs.Showing.{shows_drawn}
use Rattle.rd_partial.proofs.touched.touched_area.Goals as goal
use Rattle.rd_tree.specs.Drawn.{drawn}
use Rattle.rd_tree.proofs.Drawing.{apart_drawn}

pub returns-in_err-add_root-clause-looks : goal.returns-in_err-add_root-clause-looks
returns-in_err-add_root-clause-looks g c = looks_are (drawn c.args.tree.now) c.root_of.ensures.rooted c.root_of.result c.root_of.ensures.root c.args.looks.now c.add_root.new.looks c.add_root.ensures.looks

pub returns-clause-looks : goal.returns-clause-looks
returns-clause-looks g c = looks_are (drawn c.args.tree.now) c.root_of.ensures.rooted c.root_of.result c.root_of.ensures.root c.args.looks.now c.add_root.new.looks c.add_root.ensures.looks

pub returns-clause-area : goal.returns-clause-area
returns-clause-area g c =
    let t : Document = c.args.tree.now in
    let painted : Entries Wrapper Leaf = kept_leaves c.args.list.list.now.entries in
    let listed : Joins (any_shows t painted) c.in_ok-area.area c.add_list.new.area =
    subst (λ k. Joins (any_shows t (kept_leaves k.entries)) c.in_ok-area.area c.add_list.new.area) c.list.ensures c.in_ok-add_list.ensures in
    λ x y.
    invalid_is (drawn t) c.root_of.ensures.rooted (apart_drawn [] t.boxes c.root_of.ensures.apart) c.root_of.result c.root_of.ensures.root c.at_root-s.result (c.at_root-s.ensures ∙ ap (λ z. at_root (canvas_of z)) c.canvas-2.ensures.size)
    painted c.in_ok-area.area c.add_list.new.area c.add_root.new.area (c.in_ok-area.ensures.size ∙ c.canvas.ensures.size) c.in_ok-area.ensures.pixels
    (subst (λ p. Joins p c.in_ok-area.area c.add_list.new.area) (sym (shows_drawn t painted)) listed) c.in_ok-add_root.ensures.area x y
    ∙ (λ i. holds_pixel (canvas_of t.canvas) x y && (shows_drawn t painted i x y || shows_drawn t (fresh_list t) i x y))
