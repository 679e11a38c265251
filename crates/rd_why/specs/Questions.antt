-- What the words of the command line ask for. The words are this project's own choice.
use Rattle.std.specs.Prelude.{ℕ, pos, Bool, true, false, List, [], ◌∷◌, codes, bytes_eq, Option, Some, None, if◌then◌else◌}
use Rattle.clap.specs.Words.{Text}
use Rattle.rd_run.specs.Words.{number_in}
use Rattle.rd_why.specs.declared.words.Question.{Question}

-- a column or a row of pixels
abbrev pub coordinate : Text → Option ℕ
coordinate text = number_in 0 2147483647 text

-- the pixel of these numbers, where each is one
abbrev pub asked : Bool → Option ℕ → Option ℕ → Option Question
asked json (Some x) (Some y) = Some (record { x = pos x; y = pos y; json = json })
asked json _ _ = None

-- what the words after the program's name ask for: two numbers, and `--json` where the answer is for a program
abbrev pub question_of : List Text → Option Question
question_of (x ∷ y ∷ []) = asked false (coordinate x) (coordinate y)
question_of (x ∷ y ∷ flag ∷ []) = if bytes_eq flag (codes "--json") then asked true (coordinate x) (coordinate y) else None
question_of _ = None
