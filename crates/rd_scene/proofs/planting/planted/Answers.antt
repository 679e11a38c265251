use Rattle.std.proofs.Common.{◌≡◌, ◌∙◌, ◌∷◌, [], sym, ap, subst, length, take, drop, ◌-◌, List, ℕ, All}
use Rattle.std.proofs.lemmas.List.Elements.{All-tail}
use Rattle.rd_tree.specs.Changes.{new_item}
use Rattle.rd_tree.specs.Forest.{tree, empty}
use Rattle.rd_tree.specs.Touching.{touch}
use Rattle.rd_scene.specs.declared.script.SceneBox.{SceneBox}
use Rattle.rd_scene.specs.Order.{are_in_order}
use Rattle.rd_scene.specs.Scripts.{Script, FitsBox}
use Rattle.rd_scene.proofs.Plants.{stands, first_and_rest, grows_from}
use Rattle.rd_scene.proofs.planting.planted.Goals as goal

pub add_all-requires-clause-order : goal.add_all-requires-clause-order
add_all-requires-clause-order g c =
    let all = c.as_slice.result.now in
    let rest : List SceneBox = take (length all - 1) (drop 1 all) in
    let e : all ≡ c.first-item.result ∷ rest = first_and_rest all c.first-item.result c.in-len1-up.len_at_least c.first-item.is in
    (stands [] rest c.first-item.result (ap (are_in_order []) (sym e ∙ c.as_slice.ensures.value) ∙ c.script.invariant.order)).others

pub add_all-requires-clause-fits : goal.add_all-requires-clause-fits
add_all-requires-clause-fits g c =
    let all = c.as_slice.result.now in
    let rest : List SceneBox = take (length all - 1) (drop 1 all) in
    let e : all ≡ c.first-item.result ∷ rest = first_and_rest all c.first-item.result c.in-len1-up.len_at_least c.first-item.is in
    All-tail FitsBox c.first-item.result rest (subst (λ (l : List SceneBox). All FitsBox l) (sym c.as_slice.ensures.value ∙ e) c.script.invariant.boxes)

pub returns : goal.returns
returns g c =
    let all = c.as_slice.result.now in
    let b = c.first-item.result in
    let rest : List SceneBox = take (length all - 1) (drop 1 all) in
    let e : all ≡ b ∷ rest = first_and_rest all b c.in-len1-up.len_at_least c.first-item.is in
    let t = c.in_ok-tree.tree in
    let made = c.in_ok-tree.ensures in
    let boxes : t.boxes ≡ tree t.root (touch (new_item b.id b.rect b.style)) empty empty =
    made.boxes ∙ ap (λ (i : List ℕ). tree t.root (touch (new_item i b.rect b.style)) empty empty) c.in_ok-id.ensures in (
      t,
      made.canvas ∙ ap (λ (s : Script). s.canvas) c.script.view_is,
      grows_from _ rest b t _ (sym (ap (λ (s : Script). s.boxes) c.script.view_is) ∙ sym c.as_slice.ensures.value ∙ e)
          (record { first = made.next; boxes = boxes; slots = made.slots }) c.in_ok-add_all.ensures,
    )
