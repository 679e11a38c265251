-- The texts of ids. They are this project's own choice.
use Rattle.std.specs.Prelude.{ℕ, Bool, ◌&&◌, ◌||◌, ◌==◌, nat_le, List, length}
use Rattle.std.specs.List.{list_all}

-- an ASCII digit, a capital or small letter, `_`, `-`, `.` or `:`
abbrev pub is_id_byte : ℕ → Bool
is_id_byte c =
    (nat_le 48 c && nat_le c 57) || (nat_le 65 c && nat_le c 90) || (nat_le 97 c && nat_le c 122)
    || (c == 95) || (c == 45) || (c == 46) || (c == 58)

-- An id is 1 to 64 of these.
abbrev pub is_id : List ℕ → Bool
is_id w = nat_le 1 (length w) && nat_le (length w) 64 && list_all is_id_byte w
