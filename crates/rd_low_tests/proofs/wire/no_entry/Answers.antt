use Rattle.std.proofs.Common.{◌≡◌, [], pos, sym, subst, ◌∙◌, arith}
use Rattle.rd_keys.specs.declared.entry.EntryKey.{EntryKey}
use Rattle.rd_geom.specs.declared.rect.Size.{Size}
use Rattle.rd_item.specs.Items.{Made}
use Rattle.rd_list.specs.Wrappers.{Wrapper}
use Rattle.rd_list.specs.Entries.{nil}
use Rattle.rd_list.specs.Kept.{KeptList}
use Rattle.rd_list.specs.Unordered.{unordered}
use Rattle.rd_wire.specs.Wires.{KeepsRules}
use Rattle.rd_low_tests.proofs.wire.no_entry.Goals as goal

abbrev size : Size
size = record { w = pos 3; h = pos 258 }

none_keeps : KeepsRules (record { size = size; list = nil })
none_keeps = record {
  canvas = record { some_wide = grind arith; wide = grind arith; some_high = grind arith; high = grind arith };
  entries = tt;
  count = omega arith;
  once = tt;
  depth = omega arith;
}

keeps : (k : KeptList EntryKey Wrapper Made) → k ≡ record { graph = []; entries = nil } → KeepsRules (record { size = size; list = unordered k.entries })
keeps k e = subst (λ (z : KeptList EntryKey Wrapper Made). KeepsRules (record { size = size; list = unordered z.entries })) (sym e) none_keeps

pub encode-requires : goal.encode-requires
encode-requires g c = keeps _ (c.view.ensures ∙ c.empty-list.ensures)
