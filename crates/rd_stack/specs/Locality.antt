-- What a list that stands for another has of it.
-- All of it is this project's own choice.
use Rattle.std.specs.Prelude.{◌≡◌, ℤ, false, AllPairs}
use Rattle.rd_keys.specs.Keys.{same_key}
use Rattle.rd_item.specs.declared.leaf.Leaf.{Leaf}
use Rattle.rd_list.specs.Wrappers.{Wrapper}
use Rattle.rd_list.specs.Entries.{Entries}
use Rattle.rd_list.specs.Lists.{StandsFor, groups, pixel, hit}

-- a list that stands for another has its pixels and its hits.
pub record ShowsTheSame (kept fresh : Entries Wrapper Leaf) : Type 0 where
  pub pixels : (x y : ℤ) → pixel kept x y ≡ pixel fresh x y
  pub hits : (x y : ℤ) → hit kept x y ≡ hit fresh x y

-- where the groups of the other come once, as those of a fresh list do.
abbrev pub LocalityLaw : Type 0
LocalityLaw = (kept fresh : Entries Wrapper Leaf) → StandsFor kept fresh → AllPairs (λ a b. same_key a b ≡ false) (groups fresh) → ShowsTheSame kept fresh
