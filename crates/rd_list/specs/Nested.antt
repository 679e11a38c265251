-- Lists that are put together of whole lists. All of it is this project's own choice.
use Rattle.rd_list.specs.Entries.{Entries, ◌▷◌}

-- from bottom to top: whole lists, each in its place, and entries on top of them
pub data Nested (G L : Type 0) : Type 0 where
  on_top : Entries G L → Nested G L
  list_then : Nested G L → Nested G L → Nested G L

-- the list that it stands for
abbrev pub laid_out : {G L : Type 0} → Nested G L → Entries G L
laid_out (on_top run) = run
laid_out (list_then inner rest) = laid_out inner ▷ laid_out rest
