use Rattle.std.proofs.Common.{◌≡◌, ◌<◌, ℕ, true, false, length, get_or}
use Rattle.rd_keys.specs.declared.entry.EntryKey.{EntryKey}
use Rattle.rd_merge.specs.Internal.Marks.{ArePages, box_mark, box_marks, box_of, name_marks, slot_mark}
use Rattle.rd_merge.proofs.marks.Marks.new.Given as goal

abbrev pub invariant-loop-name : goal.invariant-loop-name
invariant-loop-name l = record {
  size : length l.marks.items ≡ box_marks l.is_wide;
  marked : (j : ℕ) → j < l.name-index → get_or l.marks.items (get_or (name_marks (box_mark l.is_wide) l.names) j 0) false ≡ true;
  pages : ArePages l.pages.pages.items l.pages.groups;
  pages_marked : (j : ℕ) (d : EntryKey) → j < l.name-index → slot_mark l.pages.pages.items (box_of (get_or l.names j d)) ≡ 1;
}
