-- What clap tells of words.
use Rattle.std.proofs.Common.{◌≡◌, refl, sym, ◌∙◌, ap, List, [], ◌∷◌, codes}
use Rattle.std.specs.Prelude.{Option, None}
use Rattle.clap.specs.Words.{Kinds, Text, fault_of, IsAmong}
use Rattle.clap.specs.declared.error.kind.ErrorKind.{ErrorKind}
use Rattle.rd_run.specs.declared.words.WordsForm.{WordsForm}
use Rattle.rd_run.specs.Words.{command_line, value_of, form_of, if_faultless, words_form}

-- words that clap takes have the form of their values
pub formed : (ws : List Text) (r : Option WordsForm) (a b c d : Option Text) → fault_of command_line ws ≡ []
    → a ≡ value_of (codes "mode") ws → b ≡ value_of (codes "seed") ws → c ≡ value_of (codes "boxes") ws
    → d ≡ value_of (codes "edits") ws → r ≡ form_of a b c d → r ≡ words_form ws
formed ws r a b c d none ea eb ec ed is =
    is ∙ ap (λ z. form_of z b c d) ea ∙ ap (λ z. form_of (value_of (codes "mode") ws) z c d) eb
    ∙ ap (λ z. form_of (value_of (codes "mode") ws) (value_of (codes "seed") ws) z d) ec
    ∙ ap (λ z. form_of (value_of (codes "mode") ws) (value_of (codes "seed") ws) (value_of (codes "boxes") ws) z) ed
    ∙ sym (ap (λ z. if_faultless z (form_of (value_of (codes "mode") ws) (value_of (codes "seed") ws) (value_of (codes "boxes") ws) (value_of (codes "edits") ws))) none)

-- words at which clap has a fault are of no form
pub unformed : (k : ErrorKind) (kinds : Kinds) (f : Option WordsForm) → IsAmong k kinds → None ≡ if_faultless kinds f
unformed k [] f h = absurd h
unformed k (x ∷ xs) f h = refl
