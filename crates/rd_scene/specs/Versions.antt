-- Versions of the format. Version 2 has blend modes and isolation. Which versions there are, and what each has, is this
-- project's own choice.
use Rattle.std.specs.Prelude.{◌≡◌, ℕ, None}
use Rattle.rd_geom.specs.declared.blend.Blend.TheVariants as blend
use Rattle.rd_style.specs.declared.kinds.Isolation.TheVariants as isolation
use Rattle.rd_style.specs.declared.styles.Style.{Style}
use Rattle.rd_style.specs.declared.styles.StyleChange.{StyleChange}
use Rattle.rd_edits.specs.declared.edit.Edit.{Edit}
use Rattle.rd_edits.specs.declared.edit.Edit.TheVariants.{Insert, Remove, Move, SetStyle, SetRect, Shift, Scroll}
use Rattle.rd_scene.specs.declared.script.SceneBox.{SceneBox}
use Rattle.rd_scene.specs.declared.script.Command.{Command}
use Rattle.rd_scene.specs.declared.script.Command.TheVariants.{Change, Paint, Hit, Pixel, Dump, Shot, Undo}
use Rattle.rd_scene.specs.declared.version.Version.{Version}
use Rattle.rd_scene.specs.declared.version.Version.TheVariants.{One, Two}

-- the number of a version
abbrev pub number_of : Version → ℕ
number_of One = 1
number_of Two = 2

-- CSS Compositing 1 sections 3.4.1 and 3.4.2: a style of the initial blend mode and isolation
pub record IsUnblended (s : Style) : Type 0 where
  pub blend : s.blend ≡ blend.Normal
  pub isolation : s.isolation ≡ isolation.Auto

-- a change that names neither of them
pub record NamesNoBlending (c : StyleChange) : Type 0 where
  pub blend : c.blend ≡ None
  pub isolation : c.isolation ≡ None

-- Version 1 has styles without blending alone.
abbrev pub HasStyle : ℕ → Style → Type 0
HasStyle version s = version ≡ 1 → IsUnblended s

-- and changes that name none
abbrev pub HasChange : ℕ → StyleChange → Type 0
HasChange version c = version ≡ 1 → NamesNoBlending c

-- a box that a script of this version may have
abbrev pub HasBox : ℕ → SceneBox → Type 0
HasBox version b = HasStyle version b.style

-- an edit that it may have; version 1 scrolls nothing
abbrev pub HasEdit : ℕ → Edit → Type 0
HasEdit version (Insert id parent before rect style) = HasStyle version style
HasEdit version (Remove id) = Unit {0}
HasEdit version (Move id parent before) = Unit {0}
HasEdit version (SetStyle id change) = HasChange version change
HasEdit version (SetRect id rect) = Unit {0}
HasEdit version (Shift id dx dy) = Unit {0}
HasEdit version (Scroll id x y) = version ≡ 1 → ⊥

-- a command that it may have; version 1 takes nothing back
abbrev pub HasCommand : ℕ → Command → Type 0
HasCommand version (Change e) = HasEdit version e
HasCommand version Paint = Unit {0}
HasCommand version (Hit x y) = Unit {0}
HasCommand version (Pixel x y) = Unit {0}
HasCommand version Dump = Unit {0}
HasCommand version Shot = Unit {0}
HasCommand version Undo = version ≡ 1 → ⊥
