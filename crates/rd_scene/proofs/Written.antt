-- The JSON value of a script has no float and is not deep, so that its text is one and is read as it.
use Rattle.std.proofs.Common.{◌≡◌, ◌≤◌, ℕ, suc, max, true, false, ◌||◌, Bool, codes, List, ◌∷◌, map, Option, Some, None, option_map, Ordering, Less, Equal, Greater, refl, arith, []}
use Rattle.std.specs.Ordering.{nat_cmp, match_ordering}
use Rattle.std.specs.Cmp.Lexicographic.{slice_cmp}
use Rattle.std.specs.Prelude.{ℤ, pos, negsuc}
use Rattle.serde_json.specs.Data.{Data, object, array, string, number, unsigned, Members, no_members, member, Items, put, depth, members_depth, items_depth}
use Rattle.serde_json.specs.Read.{max_depth}
use Rattle.serde_json.specs.View.{items_of}
use Rattle.serde_json.specs.Written.{has_float, items_have_float, members_have_float}
use Rattle.rd_geom.specs.Plane.{Rectangle}
use Rattle.rd_geom.specs.declared.color.Color.{Color}
use Rattle.rd_geom.specs.declared.rect.Sides.{Sides}
use Rattle.rd_style.specs.declared.styles.StyleChange.{StyleChange}
use Rattle.rd_edits.specs.declared.edit.Edit.{Edit}
use Rattle.rd_edits.specs.declared.edit.Edit.TheVariants.{Insert, Remove, Move, SetStyle, SetRect, Shift, Scroll}
use Rattle.rd_scene.specs.declared.script.SceneBox.{SceneBox}
use Rattle.rd_scene.specs.declared.script.Command.{Command}
use Rattle.rd_scene.specs.declared.script.Command.TheVariants.{Change, Paint, Hit, Pixel, Dump, Shot, Undo}
use Rattle.rd_scene.specs.Differing.{differing}
use Rattle.rd_scene.specs.Scripts.{Script}
use Rattle.rd_scene.specs.Writing.{with_given, number_value, rect_value, sides_value, position_word, overflow_word, display_word, float_word, visibility_word, pointer_word, blend_word, isolation_word, id_value, color_value, content_value, z_value, with_placing, with_painting, with_blending, change_value, box_value, edit_value, at_pixel, command_value, canvas_value, scene_value}

-- no float, and at most n levels
record Flat (n : ℕ) (d : Data) : Type 0 where
  whole : has_float d ≡ false
  shallow : depth d ≤ n

-- the same of each member, and of each element
record Flats (n : ℕ) (ms : Members) : Type 0 where
  whole : members_have_float ms ≡ false
  shallow : members_depth ms ≤ n

record FlatItems (n : ℕ) (ds : Items) : Type 0 where
  whole : items_have_float ds ≡ false
  shallow : items_depth ds ≤ n

no_more : (n : ℕ) → Flats n no_members
no_more n = record { whole = refl; shallow = omega arith }

one_more : (n : ℕ) (k : List ℕ) (d : Data) (ms : Members) → Flat n d → Flats n ms → Flats n (member k d ms)
one_more n k d ms f r =
    let a : depth d ≤ n = f.shallow in
    let b : members_depth ms ≤ n = r.shallow in
    record { whole = rw f.whole r.whole; shallow = omega arith }

first_of_two : (a b : Bool) → (a || b) ≡ false → a ≡ false
first_of_two true b h = h
first_of_two false b h = refl

last_of_two : (a b : Bool) → (a || b) ≡ false → b ≡ false
last_of_two true b h = cc
last_of_two false b h = h

first_flat : (n : ℕ) (k : List ℕ) (d : Data) (ms : Members) → Flats n (member k d ms) → Flat n d
first_flat n k d ms f =
    let a : max (depth d) (members_depth ms) ≤ n = f.shallow in
    record { whole = first_of_two (has_float d) (members_have_float ms) f.whole; shallow = omega arith }

rest_flat : (n : ℕ) (k : List ℕ) (d : Data) (ms : Members) → Flats n (member k d ms) → Flats n ms
rest_flat n k d ms f =
    let a : max (depth d) (members_depth ms) ≤ n = f.shallow in
    record { whole = last_of_two (has_float d) (members_have_float ms) f.whole; shallow = omega arith }

put_by : (n : ℕ) (o : Ordering) (k l : List ℕ) (d e : Data) (ms : Members) → Flat n d → Flats n (member l e ms) → Flats n (put k d ms)
    → Flats n (match_ordering o (member k d (member l e ms)) (member l d ms) (member l e (put k d ms)))
put_by n Less k l d e ms f all more = one_more n k d (member l e ms) f all
put_by n Equal k l d e ms f all more = one_more n l d ms f (rest_flat n l e ms all)
put_by n Greater k l d e ms f all more = one_more n l e (put k d ms) (first_flat n l e ms all) more

put_flat : (n : ℕ) (k : List ℕ) (d : Data) (ms : Members) → Flat n d → Flats n ms → Flats n (put k d ms)
put_flat n k d no_members f all = one_more n k d no_members f all
put_flat n k d (member l e ms) f all = put_by n (slice_cmp nat_cmp k l) k l d e ms f all (put_flat n k d ms f (rest_flat n l e ms all))

given_flat : {A : Type 0} (n : ℕ) (k : List ℕ) (f : A → Data) (o : Option A) (ms : Members) → ((a : A) → Flat n (f a)) → Flats n ms → Flats n (with_given k (option_map f o) ms)
given_flat n k f None ms h all = all
given_flat n k f (Some a) ms h all = put_flat n k (f a) ms (h a) all

object_flat : (n : ℕ) (ms : Members) → Flats n ms → Flat (suc n) (object ms)
object_flat n ms f = let a : members_depth ms ≤ n = f.shallow in record { whole = f.whole; shallow = omega arith }

items_flat : {X : Type 0} (n : ℕ) (f : X → Data) (xs : List X) → ((x : X) → Flat n (f x)) → FlatItems n (items_of (map f xs))
items_flat n f [] h = record { whole = refl; shallow = omega arith }
items_flat n f (x ∷ xs) h =
    let r : FlatItems n (items_of (map f xs)) = items_flat n f xs h in
    let a : depth (f x) ≤ n = (h x).shallow in
    let b : items_depth (items_of (map f xs)) ≤ n = r.shallow in
    record { whole = rw (h x).whole r.whole; shallow = omega arith }

array_flat : {X : Type 0} (n : ℕ) (f : X → Data) (xs : List X) → ((x : X) → Flat n (f x)) → Flat (suc n) (array (items_of (map f xs)))
array_flat n f xs h =
    let r : FlatItems n (items_of (map f xs)) = items_flat n f xs h in
    let b : items_depth (items_of (map f xs)) ≤ n = r.shallow in
    record { whole = r.whole; shallow = omega arith }

-- ---- values

text_flat : (n : ℕ) (w : List ℕ) → Flat n (string w)
text_flat n w = record { whole = refl; shallow = omega arith }

count_flat : (n k : ℕ) → Flat n (number (unsigned k))
count_flat n k = record { whole = refl; shallow = omega arith }

number_flat : (n : ℕ) (z : ℤ) → Flat n (number_value z)
number_flat n (pos k) = record { whole = refl; shallow = omega arith }
number_flat n (negsuc k) = record { whole = refl; shallow = omega arith }

z_flat : (n : ℕ) (z : Option ℤ) → Flat n (z_value z)
z_flat n None = text_flat n (codes "auto")
z_flat n (Some z) = number_flat n z

color_flat : (n : ℕ) (c : Color) → Flat n (color_value c)
color_flat n c = record { whole = refl; shallow = omega arith }

content_flat : (n : ℕ) (c : Option Color) → Flat n (content_value c)
content_flat n None = record { whole = refl; shallow = omega arith }
content_flat n (Some c) = color_flat n c

id_flat : (n : ℕ) (i : Option (List ℕ)) → Flat n (id_value i)
id_flat n None = record { whole = refl; shallow = omega arith }
id_flat n (Some i) = text_flat n i

rect_flat : (n : ℕ) (r : Rectangle) → Flat (suc n) (rect_value r)
rect_flat n r = array_flat n number_value (r.x ∷ r.y ∷ r.w ∷ r.h ∷ []) (λ z. number_flat n z)

sides_flat : (n : ℕ) (s : Sides) → Flat (suc n) (sides_value s)
sides_flat n s = array_flat n (λ k. number (unsigned k)) (s.top ∷ s.right ∷ s.bottom ∷ s.left ∷ []) (λ k. count_flat n k)

placing_flat : (n : ℕ) (c : StyleChange) (ms : Members) → Flats n ms → Flats n (with_placing c ms)
unfolding with_placing
placing_flat n c ms all =
    given_flat n (codes "z-index") z_value c.z _ (λ z. z_flat n z) (given_flat n (codes "position") (λ p. string (position_word p)) c.position _ (λ p. text_flat n (position_word p))
    (given_flat n (codes "overflow") (λ o. string (overflow_word o)) c.overflow _ (λ o. text_flat n (overflow_word o)) (given_flat n (codes "opacity") (λ k. number (unsigned k)) c.opacity _ (λ k. count_flat n k)
    (given_flat n (codes "float") (λ f. string (float_word f)) c.float _ (λ f. text_flat n (float_word f)) (given_flat n (codes "display") (λ d. string (display_word d)) c.display _ (λ d. text_flat n (display_word d)) all)))))

painting_flat : (n : ℕ) (c : StyleChange) (ms : Members) → Flats (suc n) ms → Flats (suc n) (with_painting c ms)
unfolding with_painting
painting_flat n c ms all =
    given_flat (suc n) (codes "outline-width") (λ k. number (unsigned k)) c.outline_width _ (λ k. count_flat (suc n) k) (given_flat (suc n) (codes "outline-color") color_value c.outline_color _ (λ k. color_flat (suc n) k)
    (given_flat (suc n) (codes "content") content_value c.content _ (λ t. content_flat (suc n) t) (given_flat (suc n) (codes "border-width") sides_value c.border_width _ (λ s. sides_flat n s)
    (given_flat (suc n) (codes "border-color") color_value c.border_color _ (λ k. color_flat (suc n) k) (given_flat (suc n) (codes "background") color_value c.background _ (λ k. color_flat (suc n) k) all)))))

blending_flat : (n : ℕ) (c : StyleChange) (ms : Members) → Flats n ms → Flats n (with_blending c ms)
unfolding with_blending
blending_flat n c ms all =
    given_flat n (codes "mix-blend-mode") (λ b. string (blend_word b)) c.blend _ (λ b. text_flat n (blend_word b))
    (given_flat n (codes "isolation") (λ i. string (isolation_word i)) c.isolation _ (λ i. text_flat n (isolation_word i)) all)

change_flat : (n : ℕ) (c : StyleChange) → Flat (suc (suc n)) (change_value c)
unfolding change_value
change_flat n c = object_flat (suc n) _ (blending_flat (suc n) c _
    (given_flat (suc n) (codes "visibility") (λ v. string (visibility_word v)) c.visibility _ (λ v. text_flat (suc n) (visibility_word v))
    (given_flat (suc n) (codes "pointer-events") (λ p. string (pointer_word p)) c.pointer _ (λ p. text_flat (suc n) (pointer_word p))
    (painting_flat n c _ (placing_flat (suc n) c no_members (no_more (suc n)))))))

box_flat : (b : SceneBox) → Flat 3 (box_value b)
unfolding box_value
box_flat b = object_flat 2 _
    (put_flat 2 (codes "style") (change_value (differing b.style)) _ (change_flat 0 (differing b.style)) (put_flat 2 (codes "rect") (rect_value b.rect) _ (rect_flat 1 b.rect)
    (put_flat 2 (codes "parent") (id_value b.parent) _ (id_flat 2 b.parent) (put_flat 2 (codes "id") (string b.id) no_members (text_flat 2 b.id) (no_more 2)))))

done_flat : (w : List ℕ) → Flats 2 (put (codes "do") (string w) no_members)
done_flat w = put_flat 2 (codes "do") (string w) no_members (text_flat 2 w) (no_more 2)

named_flat : (w id : List ℕ) → Flats 2 (put (codes "id") (string id) (put (codes "do") (string w) no_members))
named_flat w id = put_flat 2 (codes "id") (string id) _ (text_flat 2 id) (done_flat w)

edit_flat : (e : Edit) → Flat 3 (edit_value e)
unfolding edit_value
edit_flat (Insert id parent before rect style) = object_flat 2 _
    (put_flat 2 (codes "style") (change_value (differing style)) _ (change_flat 0 (differing style)) (put_flat 2 (codes "rect") (rect_value rect) _ (rect_flat 1 rect)
    (put_flat 2 (codes "before") (id_value before) _ (id_flat 2 before) (put_flat 2 (codes "parent") (string parent) _ (text_flat 2 parent) (named_flat (codes "insert") id)))))
edit_flat (Remove id) = object_flat 2 _ (named_flat (codes "remove") id)
edit_flat (Move id parent before) = object_flat 2 _
    (put_flat 2 (codes "before") (id_value before) _ (id_flat 2 before) (put_flat 2 (codes "parent") (string parent) _ (text_flat 2 parent) (named_flat (codes "move") id)))
edit_flat (SetStyle id change) = object_flat 2 _ (put_flat 2 (codes "style") (change_value change) _ (change_flat 0 change) (named_flat (codes "style") id))
edit_flat (SetRect id rect) = object_flat 2 _ (put_flat 2 (codes "rect") (rect_value rect) _ (rect_flat 1 rect) (named_flat (codes "rect") id))
edit_flat (Shift id dx dy) = object_flat 2 _
    (put_flat 2 (codes "dy") (number_value dy) _ (number_flat 2 dy) (put_flat 2 (codes "dx") (number_value dx) _ (number_flat 2 dx) (named_flat (codes "shift") id)))
edit_flat (Scroll id x y) = object_flat 2 _
    (put_flat 2 (codes "y") (number_value y) _ (number_flat 2 y) (put_flat 2 (codes "x") (number_value x) _ (number_flat 2 x) (named_flat (codes "scroll") id)))

pixel_flat : (w : List ℕ) (x y : ℤ) → Flat 3 (at_pixel w x y)
pixel_flat w x y = object_flat 2 _
    (put_flat 2 (codes "y") (number_value y) _ (number_flat 2 y) (put_flat 2 (codes "x") (number_value x) _ (number_flat 2 x) (done_flat w)))

command_flat : (c : Command) → Flat 3 (command_value c)
command_flat (Change e) = edit_flat e
command_flat Paint = object_flat 2 _ (done_flat (codes "paint"))
command_flat (Hit x y) = pixel_flat (codes "hit") x y
command_flat (Pixel x y) = pixel_flat (codes "pixel") x y
command_flat Dump = object_flat 2 _ (done_flat (codes "dump"))
command_flat Shot = object_flat 2 _ (done_flat (codes "shot"))
command_flat Undo = object_flat 2 _ (done_flat (codes "undo"))

scene_flat : (s : Script) → Flat 5 (scene_value s)
unfolding scene_value
scene_flat s = object_flat 4 _
    (put_flat 4 (codes "script") (array (items_of (map command_value s.commands))) _ (array_flat 3 command_value s.commands command_flat)
    (put_flat 4 (codes "boxes") (array (items_of (map box_value s.boxes))) _ (array_flat 3 box_value s.boxes box_flat)
    (put_flat 4 (codes "canvas") (canvas_value s.canvas) _
    (object_flat 3 _ (put_flat 3 (codes "h") (number_value s.canvas.h) _ (number_flat 3 s.canvas.h) (put_flat 3 (codes "w") (number_value s.canvas.w) no_members (number_flat 3 s.canvas.w) (no_more 3))))
    (put_flat 4 (codes "version") (number (unsigned s.version)) no_members (count_flat 4 s.version) (no_more 4)))))

-- the text of a script's value is its compact text, and is read as it
pub plain_text : (s : Script) → has_float (scene_value s) ≡ false
plain_text s = (scene_flat s).whole

pub not_deep : (s : Script) → depth (scene_value s) ≤ max_depth
not_deep s = let a : depth (scene_value s) ≤ 5 = (scene_flat s).shallow in omega arith

pub ruleset written = (plain_text, not_deep)
