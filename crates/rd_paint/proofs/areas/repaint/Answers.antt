use Rattle.rd_list.specs.Entries.{flat}
use Rattle.rd_paint.proofs.Shown.Older.{since_none}
use Rattle.rd_paint.proofs.areas.repaint.Goals as goal

pub repaint_since-requires-clause-since : goal.repaint_since-requires-clause-since
repaint_since-requires-clause-since g c = since_none c.args.area.now (flat c.args.list.list.now.entries)
