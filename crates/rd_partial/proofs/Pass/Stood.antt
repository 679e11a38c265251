-- What is handed down stands for the boxes above.
use Rattle.std.proofs.Common.{◌≡◌, refl, ap, ◌∙◌, sym, true, false, cond, List, ◌∷◌}
use Rattle.rd_geom.specs.Plane.{Rectangle}
use Rattle.rd_style.specs.declared.styles.Style.{Style}
use Rattle.rd_style.specs.Classes.{positioned}
use Rattle.rd_clip.specs.Clipping as clipping
use Rattle.rd_clip.specs.Clipping.{Entered, Sought, parent, nearest_positioned, viewport, sought, containing_chain, clipped, clipped_by}
use Rattle.rd_clip.specs.Standing.{clips_of}
use Rattle.rd_clip.specs.declared.clips.Clips.{Clips}
use Rattle.rd_stack.specs.Paths.{BoxData}
use Rattle.rd_stack.specs.Clips.{entered}
use Rattle.rd_stack.specs.Paths.{is_none}
use Rattle.rd_partial.specs.Internal.Inherited.{Inherited, Stood, standing_below, below, by_sought, clip_in}

module _ (canvas : Rectangle) where
  pub clip_is : (q : Sought) (es : List Entered) → by_sought (clips_of canvas es) q ≡ clipped canvas (containing_chain q es)
  clip_is parent es = refl
  clip_is nearest_positioned es = refl
  clip_is viewport es = refl

  pub down : (above : List BoxData) (b : BoxData) → standing_below canvas (b ∷ above) ≡ below (standing_below canvas above) b
  down above b =
      let e : Entered = record { style = b.style; rect = b.rect; root = is_none above } in
      let es = entered above in
      let inside : clipped_by e (by_sought (clips_of canvas es) (sought b.style.position)) ≡ clipped canvas (containing_chain parent (e ∷ es)) = ap (clipped_by e) (clip_is (sought b.style.position) es) in
      let absolute : cond (positioned b.style) (clipped_by e (by_sought (clips_of canvas es) (sought b.style.position))) (clips_of canvas es).absolute ≡ clipped canvas (containing_chain nearest_positioned (e ∷ es)) =
      elim (positioned b.style) as (λ t. cond t (clipped_by e (by_sought (clips_of canvas es) (sought b.style.position))) (clips_of canvas es).absolute ≡ clipped canvas (cond t (e ∷ containing_chain (sought b.style.position) es) (containing_chain nearest_positioned es))) [
        | true ↦ inside
        | false ↦ refl
      ] in
      ap (λ z. record { canvas = canvas; root = false; clips = record { flow = z; absolute = clipped canvas (containing_chain nearest_positioned (e ∷ es)); fixed = canvas } }) (sym inside)
      ∙ ap (λ z. record { canvas = canvas; root = false; clips = record { flow = clipped_by e (by_sought (clips_of canvas es) (sought b.style.position)); absolute = z; fixed = canvas } }) (sym absolute)

module _ (s : Inherited) (st : Stood s) where
  clips_are : s.clips ≡ clips_of s.canvas (entered st.above)
  clips_are = ap (λ z. z.clips) st.is

  pub stood_below : (b : BoxData) → Stood (below s b)
  stood_below b = record { above = b ∷ st.above; is = ap (λ z. below z b) st.is ∙ sym (down s.canvas st.above b) }

  -- what a box may be seen of
  pub clip_stood : (r : Rectangle) (t u : Style) → t ≡ u → ((canvas : Rectangle) (above : List Entered) → s.clips ≡ clips_of canvas above → r ≡ clipping.clip_of canvas above t) → r ≡ clip_in s u
  clip_stood r t u e h =
      h s.canvas (entered st.above) clips_are
      ∙ sym (clip_is s.canvas (sought t.position) (entered st.above))
      ∙ ap (λ z. by_sought z.clips (sought t.position)) (sym st.is)
      ∙ ap (clip_in s) e

  -- what the children of a box may be seen of
  pub clips_stood : (b : BoxData) (r : Clips) (t : Style) (q : Rectangle) → t ≡ b.style → q ≡ b.rect
      → ((canvas : Rectangle) (above : List Entered) → s.clips ≡ clips_of canvas above → r ≡ clips_of canvas (record { style = t; rect = q; root = s.root } ∷ above))
      → ◌≡◌ {A = Inherited} (record { canvas = s.canvas; root = false; clips = r }) (below s b)
  clips_stood b r t q et eq h =
      ap (λ z. record { canvas = s.canvas; root = false; clips = z }) (h s.canvas (entered st.above) clips_are
      ∙ ap (λ z. clips_of s.canvas (record { style = z; rect = q; root = s.root } ∷ entered st.above)) et
      ∙ ap (λ z. clips_of s.canvas (record { style = b.style; rect = z; root = s.root } ∷ entered st.above)) eq
      ∙ ap (λ z. clips_of s.canvas (record { style = b.style; rect = b.rect; root = z.root } ∷ entered st.above)) st.is)
      ∙ down s.canvas st.above b
      ∙ ap (λ z. below z b) (sym st.is)
