use Rattle.std.proofs.Common.{◌≡◌, ◌≤◌, ◌-◌, List, ap, ◌∙◌, sym, subst, arith}
use Rattle.std.proofs.Math.Nat.{mul-le-mul_left}
use Rattle.rd_item.specs.Items.{Made}
use Rattle.rd_item.specs.declared.leaf.Leaf.{Leaf}
use Rattle.rd_keys.specs.declared.entry.EntryKey.{EntryKey}
use Rattle.rd_list.specs.Displayed.{shown}
use Rattle.rd_list.specs.Entries.{Entries, flat}
use Rattle.rd_list.specs.EntryNames.{kept_leaves}
use Rattle.rd_list.specs.Kept.{Ordered}
use Rattle.rd_list.specs.KeptView.{kept_entries}
use Rattle.rd_list.specs.Views.{levels}
use Rattle.rd_list.specs.Wrappers.{Wrapper}
use Rattle.rd_list.specs.declared.kept.Entry.{Entry}
use Rattle.rd_paint.specs.Internal.Bands.{IsPainted}
use Rattle.rd_paint.specs.Parts.{entry_count, entries_from}
use Rattle.rd_paint.proofs.Depths.{entry_count-shown, entries_from-shown, levels-from}
use Rattle.rd_paint.specs.Since.{AreMadeSince}
use Rattle.rd_paint.proofs.Shown.Older.{since_from}
use Rattle.rd_paint.proofs.bands.paint_kept.Goals as goal

pub upper-requires : goal.upper-requires
upper-requires g c =
    let e : kept_entries c.entries.result.now ≡ c.args.list.now.entries = c.entries.ensures in
    let n = entry_count-shown c.entries.result.now in
    let m = ap entry_count e in
    omega (arith, n, m, c.requires.from)

pub paint_all-requires-2-clause-rows : goal.paint_all-requires-2-clause-rows
paint_all-requires-2-clause-rows g c =
    let e : kept_entries c.entries.result.now ≡ c.args.list.now.entries = c.entries.ensures in
    let u = ap (λ (es : List (Entry g.row.A.Denot)). levels (kept_entries es)) c.upper.ensures in
    let d = levels-from c.args.from c.entries.result.now in
    let k = ap levels e in
    let l : levels (kept_entries c.upper.result.now) - 1 ≤ levels c.args.list.now.entries - 1 = omega (arith, u, d, k) in
    let p = mul-le-mul_left c.args.canvas.now.width l in
    omega (arith, p, c.requires.rows)

pub paint_all-requires-clause-since : goal.paint_all-requires-clause-since
paint_all-requires-clause-since g c =
    subst (λ (es : Entries (Ordered EntryKey Wrapper) Made). AreMadeSince c.args.window.area.now c.args.window.since (flat es)) (sym c.blocked.ensures.entries) c.requires.since

pub paint_all-requires-2-clause-since : goal.paint_all-requires-2-clause-since
paint_all-requires-2-clause-since g c =
    subst (λ (es : List (Entry g.row.A.Denot)). AreMadeSince c.args.window.area.now c.args.window.since (flat (kept_entries es))) (sym c.upper.ensures)
    (since_from c.args.window.area.now c.args.window.since c.entries.result.now c.args.from
    (subst (λ (es : Entries (Ordered EntryKey Wrapper) Made). AreMadeSince c.args.window.area.now c.args.window.since (flat es)) (sym c.entries.ensures) c.requires.since))

pub returns-clause-painted : goal.returns-clause-painted
returns-clause-painted g c = λ t.
    let e : kept_entries c.entries.result.now ≡ c.args.list.now.entries = c.entries.ensures in
    let same : shown c.upper.result.now ≡ entries_from c.args.from (kept_leaves c.args.list.now.entries) =
    ap shown c.upper.ensures ∙ entries_from-shown c.args.from c.entries.result.now ∙ ap (λ (es : Entries (Ordered EntryKey Wrapper) Made). entries_from c.args.from (kept_leaves es)) e in
    subst (λ (es : Entries Wrapper Leaf). IsPainted c.args.window.corner es c.args.window.area.now c.args.canvas.now c.paint_all-2.new.canvas) same (c.paint_all-2.ensures.painted t)
