use Rattle.std.proofs.Common.{refl, ◌∙◌, ap, arith, ◌+◌, true, []}
use Rattle.rd_geom.specs.Canvas.{canvas_of}
use Rattle.rd_list.specs.Entries.{◌▷◌}
use Rattle.rd_list.specs.Nested.{laid_out}
use Rattle.rd_keys.specs.Keys.{same_key}
use Rattle.rd_tree.specs.Forest.{from_some}
use Rattle.rd_partial.specs.Internal.Pass.{is_one, as_group}
use Rattle.rd_partial.proofs.Kids.{onward_as}
use Rattle.rd_partial.proofs.Pass.Top.{list_of, count_of, looks_of}
use Rattle.rd_partial.specs.Internal.Inherited.{at_root}
use Rattle.rd_partial.proofs.Pass.Filled.{filled}
use Rattle.rd_partial.proofs.walk.build_wanted.Goals as goal
use Rattle.rd_tree.specs.Drawn.{drawn}
use Rattle.rd_tree.proofs.Drawing.{apart_drawn}

pub as_group-requires : goal.as_group-requires
as_group-requires g c =
    record { filled = filled (g.W.Wanted.wants c.args.wanted.now) c.args.number c.at_root-s.result c.here-here.result (from_some same_key c.in-Some.looked.first_child (drawn c.args.tree.now).boxes) (laid_out c.in_ok-order.order) c.in_ok-order.ensures.list }

pub returns-clause-list : goal.returns-clause-list
returns-clause-list g c =
    c.in_ok-lay_out.ensures ∙ ap (λ z. z ▷ laid_out c.in_ok-order-2.order) c.empty-list.ensures ∙ c.in_ok-order-2.ensures ∙ ap (as_group (is_one true c.in-Some.looked.blend_below c.here-here.result) c.here-here.result) c.in_ok-order.ensures.list ∙ list_of (g.W.Wanted.wants c.args.wanted.now) c.args.number (drawn c.args.tree.now) c.root_of.ensures.rooted (apart_drawn [] c.args.tree.now.boxes c.root_of.ensures.apart) c.root_of.result c.root_of.ensures.root c.at_root-s.result (c.at_root-s.ensures ∙ ap (λ z. at_root (canvas_of z)) c.canvas.ensures.size) c.here-here.result c.in-Some.looked.first_child c.in-Some.looked.next_sibling c.in-Some.looked.hull (onward_as c.here-here.ensures c.in-Some.ensures.told)

pub returns-clause-made : goal.returns-clause-made
returns-clause-made g c =
    c.in_ok-order.ensures.made ∙ ap (λ z. c.args.made.now + z) (count_of (g.W.Wanted.wants c.args.wanted.now) c.args.number (drawn c.args.tree.now) c.root_of.ensures.rooted (apart_drawn [] c.args.tree.now.boxes c.root_of.ensures.apart) c.root_of.result c.root_of.ensures.root c.at_root-s.result (c.at_root-s.ensures ∙ ap (λ z. at_root (canvas_of z)) c.canvas.ensures.size) c.here-here.result c.in-Some.looked.first_child c.in-Some.looked.next_sibling c.in-Some.looked.hull (onward_as c.here-here.ensures c.in-Some.ensures.told))

pub returns-clause-most : goal.returns-clause-most
returns-clause-most g c =
    let h = count_of (g.W.Wanted.wants c.args.wanted.now) c.args.number (drawn c.args.tree.now) c.root_of.ensures.rooted (apart_drawn [] c.args.tree.now.boxes c.root_of.ensures.apart) c.root_of.result c.root_of.ensures.root c.at_root-s.result (c.at_root-s.ensures ∙ ap (λ z. at_root (canvas_of z)) c.canvas.ensures.size) c.here-here.result c.in-Some.looked.first_child c.in-Some.looked.next_sibling c.in-Some.looked.hull (onward_as c.here-here.ensures c.in-Some.ensures.told) in let k = c.context.ensures.most in omega (arith, h, k)

pub returns-in_err-order-clause-most : goal.returns-in_err-order-clause-most
returns-in_err-order-clause-most g c =
    let h = count_of (g.W.Wanted.wants c.args.wanted.now) c.args.number (drawn c.args.tree.now) c.root_of.ensures.rooted (apart_drawn [] c.args.tree.now.boxes c.root_of.ensures.apart) c.root_of.result c.root_of.ensures.root c.at_root-s.result (c.at_root-s.ensures ∙ ap (λ z. at_root (canvas_of z)) c.canvas.ensures.size) c.here-here.result c.in-Some.looked.first_child c.in-Some.looked.next_sibling c.in-Some.looked.hull (onward_as c.here-here.ensures c.in-Some.ensures.told) in let k = c.context.ensures.most in omega (arith, h, k)

pub returns-in_err-order-2-clause-most : goal.returns-in_err-order-2-clause-most
returns-in_err-order-2-clause-most g c =
    let h = count_of (g.W.Wanted.wants c.args.wanted.now) c.args.number (drawn c.args.tree.now) c.root_of.ensures.rooted (apart_drawn [] c.args.tree.now.boxes c.root_of.ensures.apart) c.root_of.result c.root_of.ensures.root c.at_root-s.result (c.at_root-s.ensures ∙ ap (λ z. at_root (canvas_of z)) c.canvas.ensures.size) c.here-here.result c.in-Some.looked.first_child c.in-Some.looked.next_sibling c.in-Some.looked.hull (onward_as c.here-here.ensures c.in-Some.ensures.told) in let k = c.context.ensures.most in omega (arith, h, k)

pub returns-in_err-lay_out-clause-most : goal.returns-in_err-lay_out-clause-most
returns-in_err-lay_out-clause-most g c =
    let h = count_of (g.W.Wanted.wants c.args.wanted.now) c.args.number (drawn c.args.tree.now) c.root_of.ensures.rooted (apart_drawn [] c.args.tree.now.boxes c.root_of.ensures.apart) c.root_of.result c.root_of.ensures.root c.at_root-s.result (c.at_root-s.ensures ∙ ap (λ z. at_root (canvas_of z)) c.canvas.ensures.size) c.here-here.result c.in-Some.looked.first_child c.in-Some.looked.next_sibling c.in-Some.looked.hull (onward_as c.here-here.ensures c.in-Some.ensures.told) in let k = c.context.ensures.most in omega (arith, h, k)

pub returns-clause-looks : goal.returns-clause-looks
returns-clause-looks g c =
    let h = looks_of (g.W.Wanted.wants c.args.wanted.now) c.args.number (drawn c.args.tree.now) c.root_of.ensures.rooted (apart_drawn [] c.args.tree.now.boxes c.root_of.ensures.apart) c.root_of.result c.root_of.ensures.root c.at_root-s.result (c.at_root-s.ensures ∙ ap (λ z. at_root (canvas_of z)) c.canvas.ensures.size) c.here-here.result c.in-Some.looked.first_child c.in-Some.looked.next_sibling c.in-Some.looked.hull (onward_as c.here-here.ensures c.in-Some.ensures.told) in let k = c.context.ensures.looks in let l = c.look_at.ensures.cost in omega (arith, h, k, l)

pub returns-in_err-order-clause-looks : goal.returns-in_err-order-clause-looks
returns-in_err-order-clause-looks g c =
    let h = looks_of (g.W.Wanted.wants c.args.wanted.now) c.args.number (drawn c.args.tree.now) c.root_of.ensures.rooted (apart_drawn [] c.args.tree.now.boxes c.root_of.ensures.apart) c.root_of.result c.root_of.ensures.root c.at_root-s.result (c.at_root-s.ensures ∙ ap (λ z. at_root (canvas_of z)) c.canvas.ensures.size) c.here-here.result c.in-Some.looked.first_child c.in-Some.looked.next_sibling c.in-Some.looked.hull (onward_as c.here-here.ensures c.in-Some.ensures.told) in let k = c.context.ensures.looks in let l = c.look_at.ensures.cost in omega (arith, h, k, l)

pub returns-in_err-order-2-clause-looks : goal.returns-in_err-order-2-clause-looks
returns-in_err-order-2-clause-looks g c =
    let h = looks_of (g.W.Wanted.wants c.args.wanted.now) c.args.number (drawn c.args.tree.now) c.root_of.ensures.rooted (apart_drawn [] c.args.tree.now.boxes c.root_of.ensures.apart) c.root_of.result c.root_of.ensures.root c.at_root-s.result (c.at_root-s.ensures ∙ ap (λ z. at_root (canvas_of z)) c.canvas.ensures.size) c.here-here.result c.in-Some.looked.first_child c.in-Some.looked.next_sibling c.in-Some.looked.hull (onward_as c.here-here.ensures c.in-Some.ensures.told) in let k = c.context.ensures.looks in let l = c.look_at.ensures.cost in omega (arith, h, k, l)

pub returns-in_err-lay_out-clause-looks : goal.returns-in_err-lay_out-clause-looks
returns-in_err-lay_out-clause-looks g c =
    let h = looks_of (g.W.Wanted.wants c.args.wanted.now) c.args.number (drawn c.args.tree.now) c.root_of.ensures.rooted (apart_drawn [] c.args.tree.now.boxes c.root_of.ensures.apart) c.root_of.result c.root_of.ensures.root c.at_root-s.result (c.at_root-s.ensures ∙ ap (λ z. at_root (canvas_of z)) c.canvas.ensures.size) c.here-here.result c.in-Some.looked.first_child c.in-Some.looked.next_sibling c.in-Some.looked.hull (onward_as c.here-here.ensures c.in-Some.ensures.told) in let k = c.context.ensures.looks in let l = c.look_at.ensures.cost in omega (arith, h, k, l)

pub same-list : goal.same-list
same-list g c = refl
