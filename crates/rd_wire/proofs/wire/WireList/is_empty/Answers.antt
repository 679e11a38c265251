use Rattle.std.proofs.Common.{◌≡◌, List, [], ◌∷◌, length, refl, ◌∙◌, arith, ℕ, sym}
use Rattle.std.specs.Bool.{◌==◌}
use Rattle.rd_list.specs.Entries.{is_empty}
use Rattle.rd_wire.specs.Internal.Listed.{listed}
use Rattle.rd_wire.specs.declared.wire.WireEntry.{WireEntry}
use Rattle.rd_wire.specs.declared.wire.WireEntry.TheVariants.{Leaf, Group}
use Rattle.rd_wire.proofs.wire.WireList.is_empty.Goals as goal

none_listed : (es : List WireEntry) (n : ℕ) → length es ≡ n → (n == 0) ≡ is_empty (listed es)
none_listed [] n e = rw (← e) refl
none_listed (Leaf owner part visible shape color hits made ∷ es) n e = rw (← e) (grind arith)
none_listed (Group k o m inner ∷ es) n e = rw (← e) (grind arith)

pub returns : goal.returns
returns c = c.is_empty.ensures ∙ rw (← c.self.view_is) (none_listed _ _ (sym c.self.inside.entries.ok.0))
