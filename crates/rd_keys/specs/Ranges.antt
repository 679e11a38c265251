-- Ranges of keys.
use Rattle.std.specs.Prelude.{◌≡◌, ◌/◌, ◌%◌, ◌≤◌}
use Rattle.std.specs.Int.{bit_at}
use Rattle.rd_keys.specs.Keys.{BoxKey}
use Rattle.rd_keys.specs.declared.range.KeyRange.{KeyRange}

-- a key whose slot lies in a range, and whose generation does; its slot has a bit there by its place in a page of 64, and the page has one
pub record IsAmong (r : KeyRange) (k : BoxKey) : Type 0 where
  pub first : r.first_slot ≤ k.slot
  pub last : k.slot ≤ r.last_slot
  pub old : r.oldest ≤ k.generation
  pub new : k.generation ≤ r.newest
  pub slot : bit_at r.slots (k.slot % 64) ≡ 1
  pub page : bit_at r.pages (k.slot / 64 % 64) ≡ 1
