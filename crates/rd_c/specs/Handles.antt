-- What a handle of C holds. All of it is this project's own choice.
use Rattle.std.specs.Prelude.{◌≡◌, Bool, Option, Some, None, is_some}
use base.Fml.{Fml, ftrue}
use denote.RattleType.{RattleType}
use denote.RawPtr.{Ptr}
use Rattle.std.specs.declared.alloc.Global.{Global}
use Rattle.std.specs.contracts.impls.GlobalAllocator.TheImpl.{ghosts}
use Rattle.std.specs.Box.Ownership.{box_owns}

-- the box that a handle owns, if it holds one
abbrev pub held_owns : (R : RattleType) → Global → Ptr → Option R.Denot → Fml
held_owns R a p None = ftrue
held_owns R a p (Some x) = box_owns (ghosts.dealloc_token a) R p x

-- Does it hold one?
abbrev pub IsHeld : {A : Type 0} → Option A → Type 0
IsHeld None = ⊥
IsHeld (Some x) = Unit {0}

-- Does the flag say whether it holds one?
abbrev pub IsSound : {A : Type 0} → Option A → Bool → Type 0
IsSound held full = full ≡ is_some held
