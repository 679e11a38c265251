-- The fields of an `Arena`.
use Rattle.std.specs.Prelude.{◌≡◌, ◌≢◌, ℕ, ◌+◌, ◌<◌, ◌≤◌, ◌==◌, Bool, true, false, if◌then◌else◌, ◌⊎◌, List, [], ◌∷◌, ◌++◌, length, map, Option, Some, None, is_some, IsSome, count_by, slice_index_or, slice_index}
use Rattle.slab.specs.Slab.{Slab, get}
use Rattle.rd_keys.specs.declared.arena.Place as inner
use Rattle.rd_keys.specs.declared.arena.State.{State}
use Rattle.rd_keys.specs.declared.arena.State.TheVariants.{Free, Held, Retired}
use Rattle.rd_keys.specs.Arena.{Slot}

-- a place that was not made
abbrev pub unmade_place : inner.Place
unmade_place = record { generation = 0; state = Free }

-- the place of the slot of this number
abbrev pub place_at : List inner.Place → ℕ → inner.Place
place_at slots s = slice_index_or slots s unmade_place

-- where its value is held, if it is live
abbrev pub held_place : State → Option ℕ
held_place (Held p) = Some p
held_place _ = None

-- a place of this generation and state
abbrev pub placed : ℕ → State → inner.Place
placed g t = record { generation = g; state = t }

-- a live place whose value is held there
abbrev pub held_in : ℕ → ℕ → inner.Place
held_in g p = record { generation = g; state = Held p }

-- Is it retired?
abbrev pub is_retired : State → Bool
is_retired Retired = true
is_retired _ = false

-- Is it live?
abbrev pub is_held : inner.Place → Bool
is_held s = is_some (held_place s.state)

-- A free slot was taken, or a new one made.
abbrev pub TakesSlot : ℕ → List inner.Place → List ℕ → List inner.Place → List ℕ → ℕ → Type 0
TakesSlot first slots free slots2 free2 s =
    ((free ≡ free2 ++ s ∷ []) × (slots2 ≡ slots))
    ⊎ ((free ≡ []) × (free2 ≡ [])
    × (slots2 ≡ slots ++ (record { generation = first; state = Free }) ∷ [])
    × (s ≡ length slots))

-- where the value under a key is held
abbrev pub held_index : List inner.Place → ℕ → ℕ → Option ℕ
held_index slots s g = if (place_at slots s).generation == g then held_place (place_at slots s).state
    else None

module _ {T : Type 0} where
  -- the value that is held there
  abbrev pub held_at : Slab T → Option ℕ → Option T
  held_at h None = None
  held_at h (Some p) = get h p

  -- the slot that a place stands for
  abbrev pub seen_slot : Slab T → inner.Place → Slot T
  seen_slot h s = record {
    generation = s.generation;
    holds = held_at h (held_place s.state);
    retired = is_retired s.state;
  }

  -- the slots that places stand for
  abbrev pub seen_slots : Slab T → List inner.Place → List (Slot T)
  seen_slots h slots = map (seen_slot h) slots

  -- The places of the slots, the free slots, for how many of these there is room, the first generation, the limit, and
  -- how many slots are live and retired.
  pub record IsLaidOut (held : Slab T) (slots : List inner.Place) (free : List ℕ)
      (room first limit live retired : ℕ) : Type 0 where
    pub small : limit ≤ 2147483647
    pub within : length slots ≤ limit
    pub roomy : length slots ≤ room
    pub free_made : (i : ℕ) → i < length free → slice_index free i < length slots
    pub is_free : (i : ℕ) → i < length free → (place_at slots (slice_index free i)).state ≡ Free
    pub free_apart : (i j : ℕ) → i < j → j < length free → slice_index free i ≢ slice_index free j
    pub holding : (s p : ℕ) → held_place (place_at slots s).state ≡ Some p → IsSome (get held p)
    pub apart : (s t p : ℕ) → held_place (place_at slots s).state ≡ Some p
        → held_place (place_at slots t).state ≡ Some p → s ≡ t
    pub live_is : live ≡ count_by is_held slots
    pub retired_is : retired ≡ count_by (λ s. is_retired s.state) slots
    pub counted : live + retired + length free ≡ length slots
    pub from_first : (s : ℕ) → s < length slots → first ≤ (place_at slots s).generation
