-- What the words of the command line ask for. The words are this project's own choice; clap says how they are read.
use Rattle.std.specs.Prelude.{ℕ, ◌+◌, ◌-◌, ◌*◌, List, [], ◌∷◌, codes, bytes_eq, Bool, true, ◌&&◌, nat_le, Option, Some, None, if◌then◌else◌, length}
use Rattle.clap.specs.Words.{App, Kinds, Rule, Text, fault_of, first_of, matches_of, new_app, new_rule, with_rule}
use Rattle.clap.specs.Simple.{on_top}
use Rattle.clap.specs.declared.builder.action.ArgAction.TheVariants.{Set}
use Rattle.rd_gen.specs.Figures.{max_edits}
use Rattle.rd_tree.specs.Figures.{max_boxes}
use Rattle.rd_run.specs.declared.words.WordsForm.{WordsForm}
use Rattle.rd_run.specs.declared.words.WordsForm.TheVariants.{Replay, Render, Tiles, Wire, Compose, Check, Storm}

-- the argument that must be given, by its place
abbrev pub mode : Rule
mode = record (new_rule (codes "mode")) { required = true; action = Some Set }

-- an option, which takes one value
abbrev pub option_named : Text → Rule
option_named name = record (new_rule name) { long = Some name; action = Some Set }

-- the command line: `mode`, and three options; there is no help and no version
abbrev pub command_line : App
command_line =
    with_rule (with_rule (with_rule (with_rule
    (on_top (λ s. record s { no_binary_name = true; disable_help_flag = true; disable_version_flag = true })
    (new_app (codes "rd_cli")))
    mode) (option_named (codes "seed"))) (option_named (codes "boxes"))) (option_named (codes "edits"))

-- the value that the words give an argument
abbrev pub value_of : Text → List Text → Option Text
value_of name words = first_of name (matches_of command_line words)

-- is it a decimal digit?
abbrev pub is_digit : ℕ → Bool
is_digit c = nat_le 48 c && nat_le c 57

-- are they all?
abbrev pub all_digits : Text → Bool
all_digits [] = true
all_digits (c ∷ cs) = is_digit c && all_digits cs

-- the number that digits write after others that write n
abbrev pub number_after : ℕ → Text → ℕ
number_after n [] = n
number_after n (c ∷ cs) = number_after (n * 10 + (c - 48)) cs

-- the number that 1 to 20 digits write, if it is from least to most
abbrev pub number_in : ℕ → ℕ → Text → Option ℕ
number_in least most text =
    if (nat_le 1 (length text) && nat_le (length text) 20 && all_digits text)
    && (nat_le least (number_after 0 text) && nat_le (number_after 0 text) most)
    then Some (number_after 0 text) else None

-- a storm of these numbers, where each is one
abbrev pub storm_of : Option ℕ → Option ℕ → Option ℕ → Option WordsForm
storm_of (Some seed) (Some boxes) (Some edits) = Some (Storm seed boxes edits)
storm_of _ _ _ = None

-- a mode without options
abbrev pub plain_form : Text → Option WordsForm
plain_form m =
    if bytes_eq m (codes "replay") then Some Replay else if bytes_eq m (codes "render") then Some Render else
    if bytes_eq m (codes "tiles") then Some Tiles else
    if bytes_eq m (codes "wire") then Some Wire else if bytes_eq m (codes "compose") then Some Compose else
    if bytes_eq m (codes "check") then Some Check else None

-- the form of the values of the mode, the seed, the boxes and the edits
abbrev pub form_of : Option Text → Option Text → Option Text → Option Text → Option WordsForm
form_of (Some m) None None None = plain_form m
form_of (Some m) (Some seed) (Some boxes) (Some edits) =
    if bytes_eq m (codes "storm")
    then storm_of (number_in 0 18446744073709551615 seed) (number_in 1 max_boxes boxes) (number_in 0 max_edits edits)
    else None
form_of _ _ _ _ = None

-- nothing, where clap has a fault
abbrev pub if_faultless : {A : Type 0} → Kinds → Option A → Option A
if_faultless [] a = a
if_faultless (k ∷ ks) a = None

-- the form of the words after the program's name
abbrev pub words_form : List Text → Option WordsForm
words_form words =
    if_faultless (fault_of command_line words)
    (form_of (value_of (codes "mode") words) (value_of (codes "seed") words)
    (value_of (codes "boxes") words) (value_of (codes "edits") words))
