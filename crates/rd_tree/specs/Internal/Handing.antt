-- What stands for the boxes above.
use Rattle.std.specs.Prelude.{ℕ, pos, ◌*◌, ◌-ℤ◌, ◌≤ℤ◌, Bool, if◌then◌else◌, List}
use Rattle.rd_style.specs.declared.styles.Style.{Style}
use Rattle.rd_style.specs.declared.kinds.Position.{Position}
use Rattle.rd_style.specs.declared.kinds.Position.TheVariants as position
use Rattle.rd_style.specs.Classes.{clips, is_positioned}
use Rattle.rd_tree.specs.declared.scroll.Scroll.{Scroll}
use Rattle.rd_tree.specs.declared.handed.ScrollSums.{ScrollSums}
use Rattle.rd_tree.specs.Changes.{unscrolled}
use Rattle.rd_tree.specs.Drawn.{Above, plus, chain, parent, nearest_positioned, total}

-- CSS 2.2 section 10.1: how far the boxes below are scrolled, one offset for each place where a containing block is sought
abbrev pub handed_of : List Above → ScrollSums
handed_of above = record { flow = total (chain parent above); absolute = total (chain nearest_positioned above) }

-- how far a box of this style scrolls what is below it
abbrev pub own_of : Bool → Style → Scroll → Scroll
own_of root s o = if clips s root then o else unscrolled

-- how far a box of a position is scrolled
abbrev pub offset_in : ScrollSums → Position → Scroll
offset_in h position.Fixed = unscrolled
offset_in h position.Absolute = h.absolute
offset_in h position.Relative = h.flow
offset_in h position.Static = h.flow

-- what is handed to the children of a box
abbrev pub entered : Bool → Style → Scroll → ScrollSums → ScrollSums
entered root s o h =
    let inside : Scroll = plus (offset_in h s.position) (own_of root s o) in
    record { flow = inside; absolute = if is_positioned s.position then inside else h.absolute }

-- Each way it is at most so many million pixels.
pub record IsFar (n : ℕ) (s : Scroll) : Type 0 where
  pub left : (pos 0 -ℤ pos (n * 1000000)) ≤ℤ s.x
  pub right : s.x ≤ℤ pos (n * 1000000)
  pub up : (pos 0 -ℤ pos (n * 1000000)) ≤ℤ s.y
  pub down : s.y ≤ℤ pos (n * 1000000)

pub record IsWithin (n : ℕ) (h : ScrollSums) : Type 0 where
  pub flow : IsFar n h.flow
  pub absolute : IsFar n h.absolute
