-- Sizes and rectangles as a script writes them. Their form is this project's own choice.
use Rattle.std.specs.Prelude.{ℕ, ℤ, pos, ◌-ℤ◌, List, [], ◌∷◌, codes, unsigned_abs, Err}
use Rattle.serde_json.specs.Data.{Data, Items, no_items, item}
use Rattle.rd_geom.specs.Plane.{Rectangle}
use Rattle.rd_geom.specs.declared.rect.Size.{Size}
use Rattle.rd_geom.specs.declared.rect.Sides.{Sides}
use Rattle.rd_geom.specs.Figures.{max_canvas_side}
use Rattle.rd_style.specs.Figures.{max_coordinate, max_extent, max_line_width}
use Rattle.rd_scene.specs.declared.fault.Why.{Why}
use Rattle.rd_scene.specs.declared.fault.Why.TheVariants as why
use Rattle.rd_scene.specs.Checked.{Checked, rule, good, ◌⊛◌, ◌>>=◌}
use Rattle.rd_scene.specs.Members.{members, known, needed, elements, whole_number, within, number}

-- four whole numbers
abbrev pub Four : Type 0
Four = ℤ × ℤ × ℤ × ℤ

-- each a whole number
unfoldable pub four_numbers : Data → Data → Data → Data → Checked Why Four
four_numbers a b c d =
    good (λ w x y z. (w, x, y, z)) ⊛ whole_number a ⊛ whole_number b ⊛ whole_number c ⊛ whole_number d

-- exactly four elements
abbrev pub four_of : Items → Checked Why Four
four_of (item a (item b (item c (item d no_items)))) = four_numbers a b c d
four_of ds = rule (Err why.Kind)

-- a column or a row where a box begins
unfoldable pub coordinate : ℤ → Checked Why ℤ
coordinate z = within (pos 0 -ℤ max_coordinate) max_coordinate z

-- a width or a height of a box
unfoldable pub extent : ℤ → Checked Why ℤ
extent z = within (pos 0) max_extent z

-- CSS 2.2 section 8.1: the border box with this left, top, width and height
unfoldable pub placed : Four → Checked Why Rectangle
placed n =
    good (λ x y w h. record { x = x; y = y; w = w; h = h })
    ⊛ coordinate n.0 ⊛ coordinate n.1 ⊛ extent n.2 ⊛ extent n.3

-- a rectangle is an array of left, top, width and height
abbrev pub rect_of : Data → Checked Why Rectangle
rect_of d = elements d >>= four_of >>= placed

-- the rectangle of a box or an edit
abbrev pub rect_at : Data → Checked Why Rectangle
rect_at d = needed (codes "rect") d >>= rect_of

-- a width of a border or an outline
unfoldable pub width : ℤ → Checked Why ℕ
width z = within (pos 0) (pos max_line_width) z >>= λ w. good (unsigned_abs w)

-- CSS 2.2 section 8.5.1: the widths of the four borders
unfoldable pub bordered : Four → Checked Why Sides
bordered n =
    good (λ t r b l. record { top = t; right = r; bottom = b; left = l })
    ⊛ width n.0 ⊛ width n.1 ⊛ width n.2 ⊛ width n.3

-- the widths of the borders are an array: top, right, bottom and left
abbrev pub sides_of : Data → Checked Why Sides
sides_of d = elements d >>= four_of >>= bordered

-- CSS 2.2 section 18.4: the width of the outline
abbrev pub outline_width_of : Data → Checked Why ℕ
outline_width_of d = whole_number d >>= width

-- a width or a height of the canvas
abbrev pub side : Data → Checked Why ℤ
side d = number (pos 1) max_canvas_side d

-- the same at its member
abbrev pub side_at : List ℕ → Data → Checked Why ℤ
side_at name d = needed name d >>= side

-- the canvas is an object of its two sides
unfoldable pub canvas_of : Data → Checked Why Size
canvas_of d = members d >>= λ ms.
    good (λ _ w h. record { w = w; h = h })
    ⊛ known (codes "w" ∷ codes "h" ∷ []) ms
    ⊛ side_at (codes "w") d ⊛ side_at (codes "h") d
