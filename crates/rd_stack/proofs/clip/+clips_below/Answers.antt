use Rattle.std.proofs.Common.{◌≡◌, ◌∙◌, Bool, List, ◌∷◌}
use Rattle.rd_geom.specs.Plane.{Rectangle}
use Rattle.rd_style.specs.declared.styles.Style.{Style}
use Rattle.rd_clip.specs.declared.clips.Clips.{Clips}
use Rattle.rd_clip.specs.Standing.{clips_of}
use Rattle.rd_stack.specs.Paths.{BoxData, is_none}
use Rattle.rd_stack.specs.Clips.{entered}
use Rattle.rd_stack.proofs.Walk.Slices.{first_rest, none_left}
use Rattle.rd_stack.proofs.clip.+clips_below.Goals as goal

-- one box further down
deeper : (canvas : Rectangle) (r : Clips) (b : BoxData) (rest above : List BoxData) (s : Style) (q : Rectangle) (none : Bool)
    → r ≡ clips_of canvas (record { style = s; rect = q; root = none } ∷ entered rest) → s ≡ b.style → q ≡ b.rect → none ≡ is_none rest → b ∷ rest ≡ above
    → r ≡ clips_of canvas (entered above)
deeper canvas r b rest above s q none e k m n h = rw (← h, ← k, ← m, ← n) e

pub returns-in-len1-up : goal.returns-in-len1-up
returns-in-len1-up t c =
    deeper _ _ _ _ _ _ _ _ (c.enter.ensures _ _ c.clips_below.ensures) c.style.ensures c.rect.ensures (c.is_empty.ensures ∙ none_left _)
    (first_rest c.args.above.now c.b-item.result c.in-len1-up.len_at_least c.b-item.is)
