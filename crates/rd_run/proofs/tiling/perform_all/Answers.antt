use Rattle.std.proofs.Common.{List, ℕ, arith, ◌+◌, refl, sym, subst, take}
use Rattle.std.proofs.lemmas.Result.{err_from_is_err_and}
use Rattle.rd_run.specs.Tiled.{TiledRun}
use Rattle.rd_run.proofs.Runs.{nothing_counted, perform_on, counted_on, within_on, fewer}
use Rattle.rd_run.proofs.TiledRuns.{run_of, tiled_step, whole_tiled}
use Rattle.rd_run.proofs.tiling.perform_all.Goals as goal

pub loop-command-init : goal.loop-command-init
loop-command-init g c = record {
  so_far = λ s h. (s, (c.requires.empty, refl), nothing_counted s _ _, h);
  shows = c.requires.shows;
  few = c.requires.none;
}

pub loop-command-preserved : goal.loop-command-preserved
loop-command-preserved g c = record {
  so_far = λ s h.
      let p = c.loop-command.invariant.so_far s h in
      let q = c.in_ok-perform_one.ensures.all (p.0) p.3 in (
        q.1,
        subst (λ (lines : List ℕ). TiledRun s (take (c.loop-command.command-index + 1) c.args.commands.now) lines (q.1)) (sym q.5)
            (tiled_step _ _ _ _ _ _ _ (q.0) c.loop-command-test.true c.command-item.is p.1 q.2),
        counted_on _ _ _ _ _ _ _ _ _ p.2 q.4,
        q.3,
      );
  shows = c.in_ok-perform_one.ensures.shows;
  few = c.perform_one.ensures.count _ c.loop-command.invariant.few;
}

pub returns-clause-all : goal.returns-clause-all
returns-clause-all g c = λ s h.
    let p = c.loop-command.invariant.so_far s h in
    (p.0, whole_tiled _ _ _ _ _ c.loop-command-test.false p.1, p.2, p.3)

pub returns-in_err-perform_one-clause-part : goal.returns-in_err-perform_one-clause-part
returns-in_err-perform_one-clause-part g c =
    let r = err_from_is_err_and c.from_residual.result c.from_residual.ensures.1 in
    rw (r.1) (λ s h.
    let p = c.loop-command.invariant.so_far s h in
    let q = c.in_err-perform_one.ensures.part (p.0) p.3 in
    let run = run_of _ _ _ (p.0) p.1 in
    perform_on _ _ _ _ _ _ (run.0) _ _ _ _ _ c.loop-command-test.true c.command-item.is run.1 q.2 q.3
    (within_on _ _ _ _ _ _ _ _ _ p.2 q.4))

pub returns-in_err-perform_one-clause-count : goal.returns-in_err-perform_one-clause-count
returns-in_err-perform_one-clause-count g c =
    let l = c.loop-command-test.true in
    let m = c.requires.few in
    fewer _ _ _ (omega (arith, l, m)) (c.perform_one.ensures.count _ c.loop-command.invariant.few)
