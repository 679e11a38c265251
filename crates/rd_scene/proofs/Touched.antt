-- Every box of a planted tree is touched.
use Rattle.std.proofs.Common.{◌≡◌, refl, sym, subst, Bool, true, false, cond, List, [], ◌∷◌}
use Rattle.rd_keys.specs.Keys.{BoxKey, same_key}
use Rattle.rd_tree.specs.declared.node.Item.{Item}
use Rattle.rd_tree.specs.Document.{Document, BoxForest}
use Rattle.rd_tree.specs.Forest.{empty, tree, ◌▷◌, has, map_where, AllItems}
use Rattle.rd_tree.specs.Touching.{touch}
use Rattle.rd_scene.specs.Internal.WellFormed.{IsWellFormed}
use Rattle.rd_scene.specs.declared.script.SceneBox.{SceneBox}
use Rattle.rd_scene.specs.Planting.{AddsAll, Grows, Plants, item_of}
use Rattle.rd_scene.specs.Scripts.{Script}
use Rattle.rd_scene.proofs.Growing.{grow}
use Rattle.rd_scene.proofs.Keyed.{regrouped, added_is, added_well, alone_well}

abbrev pub EachTouched : BoxForest → Type 0
EachTouched f = AllItems (λ d. d.touched ≡ true) f

touched_join : (f g : BoxForest) → EachTouched f → EachTouched g → EachTouched (f ▷ g)
touched_join empty g h k = k
touched_join (tree i d below rest) g h k = (h.0, h.1, touched_join rest g h.2 k)

touched_grow : (p k : BoxKey) (d : Item) (f : BoxForest) → d.touched ≡ true → EachTouched f → EachTouched (grow p k d f)
touched_grow p k d empty t h = tt
touched_grow p k d (tree i e below rest) t h =
    by (touched_grow p k d below t h.1) (touched_grow p k d rest t h.2) (same_key p i) (has same_key p below)
  where
    by : EachTouched (grow p k d below) → EachTouched (grow p k d rest) → (a b : Bool)
        → EachTouched (cond a (tree i e (below ▷ tree k d empty empty) rest) (cond b (tree i e (grow p k d below) rest) (tree i e below (grow p k d rest))))
    by inner next true b = (h.0, touched_join below (tree k d empty empty) h.1 (t, tt, tt), h.2)
    by inner next false true = (h.0, inner, h.2)
    by inner next false false = (h.0, h.1, next)

touched_marked : (q : BoxKey → Bool) (f : BoxForest) → EachTouched f → EachTouched (map_where q touch f)
touched_marked q empty h = tt
touched_marked q (tree i d below rest) h = (by (q i), touched_marked q below h.1, touched_marked q rest h.2)
  where
    by : (b : Bool) → (cond b (touch d) d).touched ≡ true
    by true = refl
    by false = h.0

all_touched : (bs : List SceneBox) (old new : Document) → IsWellFormed old → EachTouched old.boxes → AddsAll bs old new → EachTouched new.boxes
all_touched [] old new w e h = subst (λ (t : Document). EachTouched t.boxes) (sym h) e
all_touched (b ∷ bs) old new w e h =
    let a = h.1 in
    all_touched bs h.0 new (added_well b old h.0 w a)
    (subst (λ (t : Document). EachTouched t.boxes) (sym (added_is b old h.0 w a))
    (touched_marked (regrouped b old h.0 a) (grow a.parent a.key (touch (item_of b)) old.boxes) (touched_grow a.parent a.key (touch (item_of b)) old.boxes refl e))) h.2

pub planted_touched : (s : Script) (t : Document) → Plants s t → EachTouched t.boxes
planted_touched s t h = by s.boxes h.2
  where
    by : (bs : List SceneBox) → Grows bs h.0 t → EachTouched t.boxes
    by [] g = absurd g
    by (b ∷ bs) g = all_touched bs h.0 t (alone_well b h.0 g.0) (subst EachTouched (sym g.0.boxes) (refl, tt, tt)) g.1
