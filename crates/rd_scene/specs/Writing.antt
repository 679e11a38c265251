-- The JSON value of a script, whose compact text is canonical. Which members it has is this project's own choice; they
-- stand in the byte order of their names.
use Rattle.std.specs.Prelude.{ℕ, ◌/◌, ◌%◌, ◌==◌, ℤ, false, if◌then◌else◌, List, ◌∷◌, ◌++◌, map, codes, Option, Some, None, option_map, []}
use Rattle.std.specs.Fmt.{digit_glyph}
use Rattle.serde_json.specs.Data.{Data, null, number, unsigned, string, array, object, Members, no_members, put}
use Rattle.serde_json.specs.Find.{of_integer}
use Rattle.serde_json.specs.View.{items_of}
use Rattle.rd_geom.specs.Plane.{Rectangle}
use Rattle.rd_geom.specs.declared.color.Color.{Color}
use Rattle.rd_geom.specs.declared.rect.Size.{Size}
use Rattle.rd_geom.specs.declared.rect.Sides.{Sides}
use Rattle.rd_geom.specs.declared.blend.Blend.{Blend}
use Rattle.rd_geom.specs.declared.blend.Blend.TheVariants as blend
use Rattle.rd_style.specs.declared.styles.Style.{Style}
use Rattle.rd_style.specs.declared.styles.StyleChange.{StyleChange}
use Rattle.rd_style.specs.declared.kinds.Position.{Position}
use Rattle.rd_style.specs.declared.kinds.Position.TheVariants as position
use Rattle.rd_style.specs.declared.kinds.Overflow.{Overflow}
use Rattle.rd_style.specs.declared.kinds.Overflow.TheVariants as overflow
use Rattle.rd_style.specs.declared.kinds.Display.{Display}
use Rattle.rd_style.specs.declared.kinds.Display.TheVariants as display
use Rattle.rd_style.specs.declared.kinds.Floating.{Floating}
use Rattle.rd_style.specs.declared.kinds.Floating.TheVariants as floating
use Rattle.rd_style.specs.declared.kinds.Visibility.{Visibility}
use Rattle.rd_style.specs.declared.kinds.Visibility.TheVariants as visibility
use Rattle.rd_style.specs.declared.kinds.Pointer.{Pointer}
use Rattle.rd_style.specs.declared.kinds.Pointer.TheVariants as pointer
use Rattle.rd_style.specs.declared.kinds.Isolation.{Isolation}
use Rattle.rd_style.specs.declared.kinds.Isolation.TheVariants as isolation
use Rattle.rd_edits.specs.declared.edit.Edit.{Edit}
use Rattle.rd_edits.specs.declared.edit.Edit.TheVariants.{Insert, Remove, Move, SetStyle, SetRect, Shift, Scroll}
use Rattle.rd_scene.specs.declared.script.SceneBox.{SceneBox}
use Rattle.rd_scene.specs.declared.script.Command.{Command}
use Rattle.rd_scene.specs.declared.script.Command.TheVariants.{Change, Paint, Hit, Pixel, Dump, Shot, Undo}
use Rattle.rd_scene.specs.Differing.{differing}
use Rattle.rd_scene.specs.Scripts.{Script}

-- a member with its value, where it has one
abbrev pub with_given : List ℕ → Option Data → Members → Members
with_given name None ms = ms
with_given name (Some d) ms = put name d ms

-- a whole number
abbrev pub number_value : ℤ → Data
number_value z = number (of_integer z)

-- an id, or `null` for none
abbrev pub id_value : Option (List ℕ) → Data
id_value None = null
id_value (Some id) = string id

-- two lower-case hexadecimal digits
abbrev pub hex : ℕ → List ℕ
hex n = digit_glyph false (n / 16) ∷ digit_glyph false (n % 16) ∷ []

-- CSS Color 3 section 4.2.1: `#` and six digits of an opaque colour, and eight of any other
unfoldable pub color_text : Color → List ℕ
color_text c = 35 ∷ hex c.r ++ hex c.g ++ hex c.b ++ (if c.a == 255 then [] else hex c.a)

-- a colour
abbrev pub color_value : Color → Data
color_value c = string (color_text c)

-- a colour, or `null` for none
abbrev pub content_value : Option Color → Data
content_value None = null
content_value (Some c) = color_value c

-- a z-index, or `auto`
abbrev pub z_value : Option ℤ → Data
z_value None = string (codes "auto")
z_value (Some z) = number_value z

-- a rectangle: left, top, width and height
abbrev pub rect_value : Rectangle → Data
rect_value r = array (items_of (number_value r.x ∷ number_value r.y ∷ number_value r.w ∷ number_value r.h ∷ []))

-- widths of borders: top, right, bottom and left
abbrev pub sides_value : Sides → Data
sides_value s = array (items_of (number (unsigned s.top) ∷ number (unsigned s.right) ∷ number (unsigned s.bottom) ∷ number (unsigned s.left) ∷ []))

-- the word of a position
abbrev pub position_word : Position → List ℕ
position_word position.Static = codes "static"
position_word position.Relative = codes "relative"
position_word position.Absolute = codes "absolute"
position_word position.Fixed = codes "fixed"

-- the word of an overflow
abbrev pub overflow_word : Overflow → List ℕ
overflow_word overflow.Visible = codes "visible"
overflow_word overflow.Hidden = codes "hidden"
overflow_word overflow.Scroll = codes "scroll"
overflow_word overflow.Auto = codes "auto"

-- the word of a display
abbrev pub display_word : Display → List ℕ
display_word display.Block = codes "block"
display_word display.Inline = codes "inline"
display_word display.InlineBlock = codes "inline-block"

-- the word of a float
abbrev pub float_word : Floating → List ℕ
float_word floating.No = codes "none"
float_word floating.Left = codes "left"
float_word floating.Right = codes "right"

-- the word of a visibility
abbrev pub visibility_word : Visibility → List ℕ
visibility_word visibility.Visible = codes "visible"
visibility_word visibility.Hidden = codes "hidden"
visibility_word visibility.Collapse = codes "collapse"

-- the word of a pointer
abbrev pub pointer_word : Pointer → List ℕ
pointer_word pointer.Auto = codes "auto"
pointer_word pointer.Off = codes "none"

-- the word of a blend mode
abbrev pub blend_word : Blend → List ℕ
blend_word blend.Normal = codes "normal"
blend_word blend.Multiply = codes "multiply"
blend_word blend.Screen = codes "screen"
blend_word blend.Darken = codes "darken"
blend_word blend.Lighten = codes "lighten"

-- the word of an isolation
abbrev pub isolation_word : Isolation → List ℕ
isolation_word isolation.Auto = codes "auto"
isolation_word isolation.Isolate = codes "isolate"

-- with the members that place a box
unfoldable pub with_placing : StyleChange → Members → Members
with_placing c ms =
    with_given (codes "z-index") (option_map z_value c.z)
    (with_given (codes "position") (option_map (λ p. string (position_word p)) c.position)
    (with_given (codes "overflow") (option_map (λ o. string (overflow_word o)) c.overflow)
    (with_given (codes "opacity") (option_map (λ n. number (unsigned n)) c.opacity)
    (with_given (codes "float") (option_map (λ f. string (float_word f)) c.float)
    (with_given (codes "display") (option_map (λ d. string (display_word d)) c.display) ms)))))

-- with the members that a box is painted with
unfoldable pub with_painting : StyleChange → Members → Members
with_painting c ms =
    with_given (codes "outline-width") (option_map (λ n. number (unsigned n)) c.outline_width)
    (with_given (codes "outline-color") (option_map color_value c.outline_color)
    (with_given (codes "content") (option_map content_value c.content)
    (with_given (codes "border-width") (option_map sides_value c.border_width)
    (with_given (codes "border-color") (option_map color_value c.border_color)
    (with_given (codes "background") (option_map color_value c.background) ms)))))

-- with the members that blend a box
unfoldable pub with_blending : StyleChange → Members → Members
with_blending c ms =
    with_given (codes "mix-blend-mode") (option_map (λ b. string (blend_word b)) c.blend)
    (with_given (codes "isolation") (option_map (λ i. string (isolation_word i)) c.isolation) ms)

-- a style object of the members that a change names
unfoldable pub change_value : StyleChange → Data
change_value c = object (with_blending c
    (with_given (codes "visibility") (option_map (λ v. string (visibility_word v)) c.visibility)
    (with_given (codes "pointer-events") (option_map (λ p. string (pointer_word p)) c.pointer)
    (with_painting c (with_placing c no_members)))))

-- a style object of the members that differ from the defaults
abbrev pub style_value : Style → Data
style_value s = change_value (differing s)

-- a box object, with all four members
unfoldable pub box_value : SceneBox → Data
box_value b = object (put (codes "style") (style_value b.style) (put (codes "rect") (rect_value b.rect)
    (put (codes "parent") (id_value b.parent) (put (codes "id") (string b.id) no_members))))

-- an edit
unfoldable pub edit_value : Edit → Data
edit_value (Insert id parent before rect style) = object (put (codes "style") (style_value style) (put (codes "rect") (rect_value rect)
    (put (codes "before") (id_value before) (put (codes "parent") (string parent) (put (codes "id") (string id)
    (put (codes "do") (string (codes "insert")) no_members))))))
edit_value (Remove id) = object (put (codes "id") (string id) (put (codes "do") (string (codes "remove")) no_members))
edit_value (Move id parent before) = object (put (codes "before") (id_value before) (put (codes "parent") (string parent)
    (put (codes "id") (string id) (put (codes "do") (string (codes "move")) no_members))))
edit_value (SetStyle id change) = object (put (codes "style") (change_value change) (put (codes "id") (string id)
    (put (codes "do") (string (codes "style")) no_members)))
edit_value (SetRect id rect) = object (put (codes "rect") (rect_value rect) (put (codes "id") (string id)
    (put (codes "do") (string (codes "rect")) no_members)))
edit_value (Shift id dx dy) = object (put (codes "dy") (number_value dy) (put (codes "dx") (number_value dx)
    (put (codes "id") (string id) (put (codes "do") (string (codes "shift")) no_members))))
edit_value (Scroll id x y) = object (put (codes "y") (number_value y) (put (codes "x") (number_value x)
    (put (codes "id") (string id) (put (codes "do") (string (codes "scroll")) no_members))))

-- a command without members of its own
abbrev pub bare : List ℕ → Data
bare word = object (put (codes "do") (string word) no_members)

-- a command at a pixel
abbrev pub at_pixel : List ℕ → ℤ → ℤ → Data
at_pixel word x y = object (put (codes "y") (number_value y) (put (codes "x") (number_value x)
    (put (codes "do") (string word) no_members)))

-- a command
abbrev pub command_value : Command → Data
command_value (Change e) = edit_value e
command_value Paint = bare (codes "paint")
command_value (Hit x y) = at_pixel (codes "hit") x y
command_value (Pixel x y) = at_pixel (codes "pixel") x y
command_value Dump = bare (codes "dump")
command_value Shot = bare (codes "shot")
command_value Undo = bare (codes "undo")

-- a canvas
abbrev pub canvas_value : Size → Data
canvas_value s = object (put (codes "h") (number_value s.h) (put (codes "w") (number_value s.w) no_members))

-- the JSON value of a script
unfoldable pub scene_value : Script → Data
scene_value s = object (put (codes "script") (array (items_of (map command_value s.commands)))
    (put (codes "boxes") (array (items_of (map box_value s.boxes))) (put (codes "canvas") (canvas_value s.canvas)
    (put (codes "version") (number (unsigned s.version)) no_members))))
