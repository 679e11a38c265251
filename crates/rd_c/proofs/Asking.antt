-- An edit that could be read is the one that was done or refused. Assumes nothing.
use Rattle.std.proofs.Common.{◌≡◌, ℕ, ℤ, List, subst, ◌∙◌}
use Rattle.std.specs.Prelude.{Option, Some, None, Result, Ok, Err, IfOk, IsOkAnd}
use Rattle.rd_edits.specs.declared.edit.Edit.{Edit}
use Rattle.rd_engine.specs.State.{EngineState}
use Rattle.rd_geom.specs.Plane.{Rectangle}
use Rattle.rd_geom.specs.declared.rect.Size.{Size}
use Rattle.rd_style.specs.declared.styles.Style.{Style}
use Rattle.rd_c.specs.Asked.{DoneBy, RefusedBy}
use Rattle.rd_c.specs.Held.{OnHeld, Holds, IsDone, IsRefusedBy}
use Rattle.rd_c.specs.declared.painter.Painter.{Painter}
use Rattle.rd_c.specs.Made.{IsMade, IsStarted}
use Rattle.rd_c.specs.Spelled.{IsStyle, rectangle_of}
use Rattle.rd_c.specs.declared.refusal.Refusal.{Refusal}
use Rattle.rd_c.specs.declared.values.RdRect.{RdRect}
use Rattle.rd_c.specs.declared.values.RdStyle.{RdStyle}

-- an edit that arguments spell was done, or is refused
pub done_as : (Is : Edit → Type 0) (e : Edit) (old new : Painter) → Is e → IsDone e old new → DoneBy Is old new
done_as Is e old new is done = record { edit = e; is = is; done = done }

pub refused_as : (Is : Edit → Type 0) (e : Edit) (n : ℕ) (p : Painter) → Is e → IsRefusedBy n e p → RefusedBy Is n p
refused_as Is e n p is refused = record { edit = e; is = is; refused = refused }

pub ruleset spelled = (done_as, refused_as)

pub done_by : (read : Result Edit Refusal) (Is : Edit → Type 0) (old new : Option Painter) → IfOk read Is → IsOkAnd read (λ e. OnHeld (IsDone e) old new) → OnHeld (DoneBy Is) old new
done_by (Ok e) Is None new is done = absurd done
done_by (Ok e) Is (Some p) None is done = absurd done
done_by (Ok e) Is (Some p) (Some q) is done = record { edit = e; is = is; done = done }
done_by (Err r) Is old new is done = absurd done

pub refused_by : (read : Result Edit Refusal) (Is : Edit → Type 0) (n : ℕ) (held : Option Painter) → IfOk read Is → IsOkAnd read (λ e. Holds (IsRefusedBy n e) held) → Holds (RefusedBy Is n) held
refused_by (Ok e) Is n None is refused = absurd refused
refused_by (Ok e) Is n (Some p) is refused = record { edit = e; is = is; refused = refused }
refused_by (Err r) Is n held is refused = absurd refused

-- a size of these sides
pub sized : (s : Size) (v u w h : ℤ) → s ≡ record { w = v; h = u } → v ≡ w → u ≡ h → s ≡ record { w = w; h = h }
sized s v u w h e p q = e ∙ (λ i. record { w = p i; h = q i })

-- an engine of a style that was read
pub made_at : (r : Result EngineState Refusal) (size : Size) (id : List ℕ) (rect : Rectangle) (t : Style) (w h : ℤ) (root : List ℕ) (place : RdRect) (look : RdStyle)
    → size ≡ record { w = w; h = h } → id ≡ root → rect ≡ rectangle_of place → IsStyle look t → IfOk r (IsStarted size id rect t) → IfOk r (IsMade w h root place look)
made_at (Ok e) size id rect t w h root place look es er ep is started =
    record {
      style = t;
      is = is;
      started = subst (λ z. IsStarted z root (rectangle_of place) t e) es (subst (λ z. IsStarted size z (rectangle_of place) t e) er (subst (λ z. IsStarted size id z t e) ep started));
    }
made_at (Err x) size id rect t w h root place look es er ep is started = started
