-- Hulls over boxes.
use Rattle.std.proofs.Common.{◌≡◌, refl, ap, ◌∙◌, sym}
use Rattle.rd_geom.specs.Plane.{Rectangle, no_pixels, hull_of}
use Rattle.rd_geom.proofs.Hulls.{hull_comm, hull_assoc, hull_none, normal_hull}
use Rattle.rd_tree.specs.Forest.{empty, tree, ◌▷◌}
use Rattle.rd_tree.specs.Document.{BoxKey, Item, BoxForest}
use Rattle.rd_tree.specs.Hulls.{extent, hull_in}

pub hull-unit : (a b : Rectangle) → hull_of (hull_of a b) no_pixels ≡ hull_of a b
hull-unit a b = hull_none (hull_of a b) ∙ normal_hull a b

pub hull_in-unit : (f : BoxForest) → hull_of (hull_in f) no_pixels ≡ hull_in f
hull_in-unit empty = refl
hull_in-unit (tree k d below rest) = hull-unit (hull_of (extent d) (hull_in below)) (hull_in rest)

pub hull-join : (f g : BoxForest) → hull_in (f ▷ g) ≡ hull_of (hull_in f) (hull_in g)
hull-join empty g = sym (hull_comm no_pixels (hull_in g) ∙ hull_in-unit g)
hull-join (tree k d below rest) g =
    let e : Rectangle = hull_of (extent d) (hull_in below) in
    ap (hull_of e) (hull-join rest g) ∙ sym (hull_assoc e (hull_in rest) (hull_in g))

pub hull-past : (x b y : Rectangle) → hull_of x (hull_of b y) ≡ hull_of (hull_of x y) b
hull-past x b y = ap (hull_of x) (hull_comm b y) ∙ sym (hull_assoc x y b)

pub hull-later : (x r b : Rectangle) → hull_of x (hull_of r b) ≡ hull_of (hull_of x r) b
hull-later x r b = sym (hull_assoc x r b)

pub hull-inner : (e c b r : Rectangle) → hull_of (hull_of e (hull_of c b)) r ≡ hull_of (hull_of (hull_of e c) r) b
hull-inner e c b r = ap (λ z. hull_of z r) (sym (hull_assoc e c b)) ∙ (hull_assoc (hull_of e c) b r ∙ hull-past (hull_of e c) b r)

-- one more box among others
pub hull-insert_among : (k : BoxKey) (d : Item) (below xs ys : BoxForest) → hull_in (xs ▷ tree k d below ys) ≡ hull_of (hull_in (xs ▷ ys)) (hull_in
    (tree k d below empty))
hull-insert_among k d below xs ys =
    let e : Rectangle = hull_of (extent d) (hull_in below) in
    hull-join xs (tree k d below ys) ∙ (hull-past (hull_in xs) e (hull_in ys) ∙ (ap (λ z. hull_of z e) (sym (hull-join xs ys)) ∙ ap (hull_of (hull_in
    (xs ▷ ys))) (sym (hull-unit (extent d) (hull_in below)))))
