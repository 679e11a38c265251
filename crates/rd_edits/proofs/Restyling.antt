-- A box keeps to the limits under a change that names widths within them.
use Rattle.std.proofs.Common.{◌≡◌, ℕ, ◌≤◌, Bool, true, false, ◌&&◌, nat_le, Option, Some, None, IfSome, unwrap_or}
use Rattle.std.specs.Option.{option_map_or}
use Rattle.std.proofs.lemmas.Bool.{leb-true}
use Rattle.rd_geom.specs.declared.rect.Sides.{Sides}
use Rattle.rd_style.specs.declared.styles.Style.{Style}
use Rattle.rd_style.specs.declared.styles.StyleChange.{StyleChange}
use Rattle.rd_style.specs.Changes.{changed}
use Rattle.rd_style.specs.Limits.{Fits}
use Rattle.rd_style.proofs.Bounds.{WidthBounds, fits-open, fits-close}
use Rattle.rd_keys.specs.Keys.{same_key}
use Rattle.rd_tree.specs.Forest.{empty, tree, starting_at, top, AllItems}
use Rattle.rd_tree.specs.Document.{BoxKey, BoxForest, AllFit}
use Rattle.rd_tree.specs.Changes.{CanRestyle}
use Rattle.rd_tree.proofs.Laying.Near.{FitsItem, to_items}
use Rattle.rd_tree.proofs.Forests.All.{all_from}
use Rattle.rd_edits.specs.Ranges.{fits_sides, fits_change}

both : (a b : Bool) → (a && b) ≡ true → (a ≡ true) × (b ≡ true)
both true b h = (cc, h)
both false b h = absurd (cc (h))

-- four widths within the limits
record SideBounds (w : Sides) : Type 0 where
  top : w.top ≤ 1000
  right : w.right ≤ 1000
  bottom : w.bottom ≤ 1000
  left : w.left ≤ 1000

sides : (w : Sides) → fits_sides w ≡ true → SideBounds w
sides w h =
    let a = both (nat_le w.top 1000 && nat_le w.right 1000 && nat_le w.bottom 1000) (nat_le w.left 1000) h in
    let b = both (nat_le w.top 1000 && nat_le w.right 1000) (nat_le w.bottom 1000) a.0 in
    let c = both (nat_le w.top 1000) (nat_le w.right 1000) b.0 in
    record { top = leb-true _ _ c.0; right = leb-true _ _ c.1; bottom = leb-true _ _ b.1; left = leb-true _ _ a.1 }

new_sides : (o : Option Sides) (s : Sides) → SideBounds s → option_map_or fits_sides o true ≡ true → SideBounds (unwrap_or o s)
new_sides None s h g = h
new_sides (Some w) s h g = sides w g

new_width : (o : Option ℕ) (s : ℕ) → s ≤ 1000 → option_map_or (λ w. nat_le w 1000) o true ≡ true → unwrap_or o s ≤ 1000
new_width None s h g = h
new_width (Some w) s h g = leb-true _ _ g

restyled_fits : (s : Style) (c : StyleChange) → Fits s → fits_change c ≡ true → Fits (changed s c)
restyled_fits s c h g =
    let w : WidthBounds s = fits-open s h in
    let p = both (option_map_or fits_sides c.border_width true) (option_map_or (λ w. nat_le w 1000) c.outline_width true) g in
    let b : SideBounds (unwrap_or c.border_width s.border_width) = new_sides c.border_width s.border_width (record {
      top = w.top;
      right = w.right;
      bottom =
          w.bottom;
      left = w.left;
    }) p.0 in
    fits-close (changed s c) (record {
      top = b.top;
      right = b.right;
      bottom = b.bottom;
      left = b.left;
      outline = new_width c.outline_width s.outline_width
          w.outline p.1;
    })

-- Where all boxes are within the limits, one whose named widths are too stays so.
pub stays_within : (k : BoxKey) (c : StyleChange) (f : BoxForest) → AllFit f → fits_change c ≡ true → CanRestyle k c f
stays_within k c f h g = first (starting_at same_key k f) (all_from FitsItem same_key k f (to_items f h))
  where
    first : (f : BoxForest) → AllItems FitsItem f → IfSome (top f) (λ d. Fits (changed d.style c))
    first empty h = tt
    first (tree j d below rest) h = restyled_fits d.style c h.0.1 g
