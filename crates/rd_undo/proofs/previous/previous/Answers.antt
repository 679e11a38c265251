use Rattle.std.proofs.Common.{refl}
use Rattle.rd_undo.proofs.previous.previous.Goals as goal

pub returns : goal.returns
returns c = rw (
  c.kept.ensures,
  c.kept-2.ensures,
  c.kept-3.ensures,
  c.kept-4.ensures,
  c.kept-5.ensures,
  c.kept-6.ensures,
  c.kept-7.ensures,
  c.kept-8.ensures,
  c.kept-9.ensures,
  c.kept-10.ensures,
  c.kept-11.ensures,
  c.kept-12.ensures,
  c.kept-13.ensures,
  c.kept-14.ensures,
  c.kept-15.ensures,
  c.kept-16.ensures,
) refl
