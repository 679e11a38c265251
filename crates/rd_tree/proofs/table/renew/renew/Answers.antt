use Rattle.std.proofs.Common.{ap, sym, subst}
use Rattle.rd_tree.specs.declared.table.renew.Stale.TheVariants.{Hull}
use Rattle.rd_tree.specs.Drawn.{AllNear}
use Rattle.rd_tree.specs.Internal.Renews.{IsStale}
use Rattle.rd_tree.proofs.Summaries.Nearby.{fit_at, below_read, below_rows, below_seen}
use Rattle.rd_tree.proofs.Tables.Renewing.{fit_children, put_outside, hull_renewed, branch_renewed, branch_outside}
use Rattle.rd_tree.proofs.table.renew.renew.Goals as goal

pub hull_anew-hull-requires-clause-fits : goal.hull_anew-hull-requires-clause-fits
hull_anew-hull-requires-clause-fits c = let r = c.requires in fit_at c.args.nodes.now r.root r.boxes r.is c.args.key r.there r.fits

pub hull_anew-hull-requires-clause-read : goal.hull_anew-hull-requires-clause-read
hull_anew-hull-requires-clause-read c = let r = c.requires in below_read c.args.nodes.now r.root r.boxes r.is c.args.key r.there

pub hull_anew-hull-requires-clause-rows : goal.hull_anew-hull-requires-clause-rows
hull_anew-hull-requires-clause-rows c = let r = c.requires in (below_rows c.args.nodes.now r.root r.boxes r.is c.args.key r.there
    c.args.table.now.rows r.has_rows)

pub gather-low-requires-clause-read : goal.gather-low-requires-clause-read
gather-low-requires-clause-read c = let r = c.requires in rw (ap (λ o. o.0) c.measure-own.ensures.onward) (below_read c.args.nodes.now r.root r.boxes r.is c.args.key
    r.there)

pub gather-low-requires-clause-has_rows : goal.gather-low-requires-clause-has_rows
gather-low-requires-clause-has_rows c = let r = c.requires in rw (ap (λ o. o.0) c.measure-own.ensures.onward) (below_rows c.args.nodes.now r.root r.boxes r.is
    c.args.key r.there c.args.table.now.rows r.has_rows)

pub gather-low-requires-clause-fits : goal.gather-low-requires-clause-fits
gather-low-requires-clause-fits c = let r = c.requires in rw (ap (λ o. o.0) c.measure-own.ensures.onward) (subst AllNear (sym (below_seen c.args.nodes.now r.root
    r.boxes r.is c.args.key r.there)) (fit_children c.args.key r.boxes r.is.apart r.there r.fits))

pub measure-own-requires : goal.measure-own-requires
measure-own-requires c = let r = c.requires in fit_at c.args.nodes.now r.root r.boxes r.is c.args.key r.there r.fits

pub returns-in-Hull-clause-right : goal.returns-in-Hull-clause-right
returns-in-Hull-clause-right c root f is m st =
    let s : IsStale Hull c.args.table.now.rows f c.args.key = subst (λ x. IsStale x c.args.table.now.rows f c.args.key) c.in-Hull.is st in
    hull_renewed c.args.nodes.now root f is c.args.key m c.args.table.now.rows c.put_hull.new.table.rows c.hull_anew-hull.result
    (c.hull_anew-hull.ensures) c.put_hull.ensures.rows s.0 s.1

pub returns-in-Hull-clause-others : goal.returns-in-Hull-clause-others
returns-in-Hull-clause-others c root f is m = put_outside c.args.nodes.now root f is c.args.key m c.args.table.now.rows c.put_hull.new.table.rows _
    c.put_hull.ensures.rows

pub returns-in-Branch-clause-right : goal.returns-in-Branch-clause-right
returns-in-Branch-clause-right c root f is m st =
    branch_renewed c.args.nodes.now root f is c.args.key m c.args.table.now.rows c.gather-low.new.table.rows c.write.new.table.rows c.gather-low.result
    (rw (ap (λ o. o.0) c.measure-own.ensures.onward) at c.gather-low.ensures.told) (rw (ap (λ o. o.0) c.measure-own.ensures.onward) at c.gather-low.ensures.rows)
    (rw (c.row_of-row.ensures, c.measure-own.ensures.extent) at c.write.ensures.rows)

pub returns-in-Branch-clause-others : goal.returns-in-Branch-clause-others
returns-in-Branch-clause-others c root f is m =
    branch_outside c.args.nodes.now root f is c.args.key m c.args.table.now.rows c.gather-low.new.table.rows c.write.new.table.rows c.gather-low.result
    (rw (ap (λ o. o.0) c.measure-own.ensures.onward) at c.gather-low.ensures.told) (rw (ap (λ o. o.0) c.measure-own.ensures.onward) at c.gather-low.ensures.rows)
    (rw (c.row_of-row.ensures, c.measure-own.ensures.extent) at c.write.ensures.rows)
