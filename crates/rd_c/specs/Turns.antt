-- What is done of one thing after another. The form is this project's own choice.
use Rattle.std.specs.Prelude.{◌≡◌, List, [], ◌∷◌}

-- Each of these takes its step in turn, from one state to another.
abbrev pub InTurn : {X S : Type 0} → (X → S → S → Type 0) → List X → S → S → Type 0
InTurn Step [] old new = new ≡ old
InTurn {S = S} Step (x ∷ xs) old new = (mid : S) × Step x old mid × InTurn Step xs mid new

-- Of these the first is such a one.
abbrev pub IsFirst : {X : Type 0} → (X → Type 0) → List X → Type 0
IsFirst Is [] = ⊥
IsFirst Is (x ∷ xs) = Is x
