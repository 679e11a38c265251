use Rattle.std.proofs.Common.{◌≡◌, ◌∙◌, ap, length, List, arith, FitsSigned, w32, rules}
use Rattle.std.specs.Prelude.{unsigned_abs}
use Rattle.std.proofs.lemmas.Int.{to_z-of_z, ints}
use Rattle.rd_list.specs.Displayed.{shown}
use Rattle.rd_item.specs.Items.{Made}
use Rattle.rd_keys.specs.declared.entry.EntryKey.{EntryKey}
use Rattle.rd_list.specs.Entries.{Entries}
use Rattle.rd_list.specs.EntryNames.{kept_leaves}
use Rattle.rd_list.specs.Kept.{Ordered}
use Rattle.rd_list.specs.declared.kept.Entry.{Entry}
use Rattle.rd_list.specs.Wrappers.{Wrapper}
use Rattle.rd_list.specs.KeptView.{kept_entries}
use Rattle.rd_list.specs.Views.{levels}
use Rattle.rd_paint.specs.Parts.{entry_count, entries_from}
use Rattle.rd_paint.specs.Repainted.{Scratch}
use Rattle.rd_paint.proofs.Depths.{entry_count-shown, entries_from-shown, levels-from, rows_for}
use Rattle.rd_paint.proofs.Laying.{painted_at}
use Rattle.rd_paint.proofs.buffers.paint_span.Goals as goal

pub upper-requires : goal.upper-requires
upper-requires g c =
    let e = entry_count-shown c.entries.result.now in
    let n = ap entry_count c.entries.ensures in
    omega (arith, e, n, c.requires.from)

pub lay_all-requires-clause-rows : goal.lay_all-requires-clause-rows
lay_all-requires-clause-rows g c =
    let p = levels-from c.args.from c.entries.result.now in
    let e1 = ap (λ (es : List (Entry g.row.A.Denot)). levels (kept_entries es)) c.upper.ensures in
    let e2 = ap levels c.entries.ensures in
    let es = ap (λ (b : Scratch). b.size.w) c.buffers.view_is in
    let er = ap (λ (b : Scratch). b.rows) c.buffers.view_is in
    let el = ap length c.deref_mut.ensures.value in
    rows_for _ (unsigned_abs c.buffers.inside.size.w) _ c.buffers.inside.rows _ (omega (arith, ints, es, c.fill.auto.out, c.requires.right, c.requires.left)) (omega (arith, p, e1, e2, er, c.requires.deep)) (omega (arith, el, c.open.ensures.long, c.pixels_of.ensures))

pub returns-clause-painted : goal.returns-clause-painted
returns-clause-painted g c =
    let fx : FitsSigned w32 c.args.x0 = search rules in
    let fy : FitsSigned w32 c.args.y = search rules in
    let e : shown c.upper.result.now ≡ entries_from c.args.from (kept_leaves c.args.list.list.now.entries) =
    ap shown c.upper.ensures ∙ entries_from-shown c.args.from c.entries.result.now ∙ ap (λ (es : Entries (Ordered EntryKey Wrapper) Made). entries_from c.args.from (kept_leaves es)) c.entries.ensures in
    let laid = simp to_z-of_z at c.lay_all.ensures in
    rw (← e) (painted_at c.args.y c.args.x0 (length c.args.out.now) (shown c.upper.result.now) c.fill.new.out c.lay_all.new.out c.fill.ensures laid)
