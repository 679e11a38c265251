-- An `Arena` as a list of numbers.
use Rattle.std.specs.Prelude.{ℕ, Bool, List, Option, refl}
use Rattle.std.specs.Coded.{Coded, code_by, coded×, coded_ℕ, coded_bool, coded_list, coded_option}
use Rattle.rd_keys.specs.Arena.{Arena, Slot}

abbrev pub slot_code : {T : Type 0} → Coded T → Coded (Slot T)
slot_code {T} code =
    code_by (ℕ × (Option T × Bool)) (coded× coded_ℕ (coded× (coded_option code) coded_bool)) (λ s.
    (s.generation, (s.holds, s.retired))) (λ p. record {
      generation = p.0;
      holds = p.1.0;
      retired = p.1.1;
    }) (λ _. refl)

abbrev pub arena_code : {T : Type 0} → Coded T → Coded (Arena T)
arena_code {T} code =
    code_by (List (Slot T) × (ℕ × ℕ)) (coded× (coded_list (slot_code code))
    (coded× coded_ℕ coded_ℕ)) (λ a. (a.slots, (a.first, a.limit))) (λ p.
    record { slots = p.0; first = p.1.0; limit = p.1.1 }) (λ _. refl)
