-- Nested lists written as tokens, so that proofs can tell them apart.
use Rattle.std.specs.Prelude.{◌≡◌, List, [], ◌∷◌, Option, Some, None, refl}
use Rattle.std.specs.Coded.{Coded, code_by, coded_list, coded_option}
use Rattle.std.proofs.Common.{ap, ◌∙◌}
use Rattle.rd_list.specs.Entries.{Entries, nil}
use Rattle.rd_list.specs.Nested.{Nested, on_top, list_then}

-- the beginning of a list, or the entries on top, which end one
abbrev pub Token : Type 0 → Type 0 → Type 0
Token G L = Option (Entries G L)

module _ {G L : Type 0} where
  abbrev pub written : Nested G L → List (Token G L) → List (Token G L)
  written (on_top run) after = Some run ∷ after
  written (list_then inner rest) after = None ∷ written inner (written rest after)

  -- the lists that are open, the innermost first
  abbrev pub step : Token G L → List (Nested G L) → List (Nested G L)
  step (Some run) open_ones = on_top run ∷ open_ones
  step None [] = []
  step None (inner ∷ []) = []
  step None (inner ∷ rest ∷ es) = list_then inner rest ∷ es

  abbrev pub opened : List (Token G L) → List (Nested G L)
  opened [] = []
  opened (t ∷ ts) = step t (opened ts)

  abbrev pub first_of_them : List (Nested G L) → Nested G L
  first_of_them [] = on_top nil
  first_of_them (e ∷ es) = e

  pub opened-written : (e : Nested G L) (after : List (Token G L)) → opened (written e after) ≡ e ∷ opened after
  opened-written (on_top run) after = refl
  opened-written (list_then inner rest) after =
      ap (step None) (opened-written inner (written rest after) ∙ ap (λ es. inner ∷ es) (opened-written rest after))

  pub read-written : (e : Nested G L) → first_of_them (opened (written e [])) ≡ e
  read-written e = ap first_of_them (opened-written e [])

  abbrev pub nested_code : Coded (Entries G L) → Coded (Nested G L)
  nested_code e = code_by (List (Token G L)) (coded_list (coded_option e)) (λ n. written n []) (λ ts. first_of_them (opened ts)) read-written
