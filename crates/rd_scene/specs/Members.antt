-- Members of an object, whole numbers and arrays, where a JSON value (RFC 8259) has them. What a script takes of them
-- is this project's own choice.
use Rattle.std.specs.Prelude.{ℕ, ◌+◌, ℤ, Bool, true, ◌&&◌, nat_le, if◌then◌else◌, List, bytes_eq, Option, Some, None, option_and_then, ok_or, Ok, Err, ⊤}
use Rattle.std.specs.List.{list_any}
use Rattle.serde_json.specs.Data.{Data, Items, no_items, item, Members, no_members, member}
use Rattle.serde_json.specs.Find.{get, as_number, as_str, as_array, as_object, as_i64}
use Rattle.rd_style.specs.Limits.{is_between}
use Rattle.rd_scene.specs.declared.fault.Why.{Why}
use Rattle.rd_scene.specs.declared.fault.Why.TheVariants as why
use Rattle.rd_scene.specs.Checked.{Checked, rule, good, ◌>>=◌}

-- what is there, or this rule is broken
abbrev pub there : {A : Type 0} → Why → Option A → Checked Why A
there w o = rule (ok_or o w)

-- the test holds, or this rule is broken
abbrev pub holds : Why → Bool → Checked Why ⊤
holds w b = rule (if b then Ok tt else Err w)

-- Has every member one of these names?
abbrev pub are_known : List (List ℕ) → Members → Bool
are_known names no_members = true
are_known names (member k d ms) = list_any (bytes_eq k) names && are_known names ms

-- an object
abbrev pub members : Data → Checked Why Members
members d = there why.Kind (as_object d)

-- no member has another name than these
abbrev pub known : List (List ℕ) → Members → Checked Why ⊤
known names ms = holds why.Unknown (are_known names ms)

-- a member that must be there
abbrev pub needed : List ℕ → Data → Checked Why Data
needed name d = there why.Missing (get name d)

-- a value that need not be there
abbrev pub optional : {A : Type 0} → (Data → Checked Why A) → Option Data → Checked Why (Option A)
optional read None = good None
optional read (Some d) = read d >>= λ a. good (Some a)

-- a member that need not be there
abbrev pub if_given : {A : Type 0} → (Data → Checked Why A) → List ℕ → Data → Checked Why (Option A)
if_given read name d = optional read (get name d)

-- a string
abbrev pub string : Data → Checked Why (List ℕ)
string d = there why.Kind (as_str d)

-- a number written as a whole number of 64 bits
unfoldable pub whole_number : Data → Checked Why ℤ
whole_number d = there why.Kind (option_and_then as_i64 (as_number d))

-- a whole number is from low to high
abbrev pub within : ℤ → ℤ → ℤ → Checked Why ℤ
within low high z = rule (if is_between low z high then Ok z else Err why.Range)

-- a whole number from low to high
abbrev pub number : ℤ → ℤ → Data → Checked Why ℤ
number low high d = whole_number d >>= within low high

-- an array
abbrev pub elements : Data → Checked Why Items
elements d = there why.Kind (as_array d)

-- the array at a member
abbrev pub elements_at : List ℕ → Data → Checked Why Items
elements_at name d = needed name d >>= elements

-- how many elements an array has
abbrev pub count : Items → ℕ
count no_items = 0
count (item d ds) = count ds + 1

-- there are low to high of them
abbrev pub counted : ℕ → ℕ → ℕ → Checked Why ⊤
counted low high n = holds why.Count (nat_le low n && nat_le n high)
