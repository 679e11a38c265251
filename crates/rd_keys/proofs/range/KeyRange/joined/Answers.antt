use Rattle.std.proofs.Common.{arith, ◌%◌, ◌/◌}
use Rattle.rd_keys.proofs.Bits.{bit_left, bit_right}
use Rattle.rd_keys.proofs.range.KeyRange.joined.Goals as goal

pub returns-clause-first : goal.returns-clause-first
returns-clause-first c = λ k i. record {
  first = omega (arith, i.first);
  last = omega (arith, i.last);
  old = omega (arith, i.old);
  new = omega (arith, i.new);
  slot = bit_left c.args.self.slots c.args.other.slots (k.slot % 64) i.slot;
  page = bit_left c.args.self.pages c.args.other.pages (k.slot / 64 % 64) i.page;
}

pub returns-clause-second : goal.returns-clause-second
returns-clause-second c = λ k i. record {
  first = omega (arith, i.first);
  last = omega (arith, i.last);
  old = omega (arith, i.old);
  new = omega (arith, i.new);
  slot = bit_right c.args.self.slots c.args.other.slots (k.slot % 64) i.slot;
  page = bit_right c.args.self.pages c.args.other.pages (k.slot / 64 % 64) i.page;
}
