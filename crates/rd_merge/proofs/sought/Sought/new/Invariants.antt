use Rattle.std.proofs.Common.{◌≡◌, ◌<◌, ℕ, length, get_or}
use Rattle.rd_keys.specs.declared.entry.EntryKey.{EntryKey}
use Rattle.rd_merge.specs.Internal.Sought.{last_at, mark_count, mark_of, marks_of}
use Rattle.rd_merge.proofs.sought.Sought.new.Given as goal

abbrev pub invariant-loop-name : goal.invariant-loop-name
invariant-loop-name l = record {
  size : length l.lasts.items ≡ mark_count l.is_wide;
  lasts : (k : EntryKey) → get_or l.lasts.items (mark_of l.is_wide k) 0 ≡ last_at (marks_of l.is_wide l.names) l.name-index (mark_of l.is_wide k);
  count : length l.befores.items ≡ l.name-index;
  befores : (j : ℕ) → j < l.name-index → get_or l.befores.items j 0 ≡ last_at (marks_of l.is_wide l.names) j (get_or (marks_of l.is_wide l.names) j 0);
}
