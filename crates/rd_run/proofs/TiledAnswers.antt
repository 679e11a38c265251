-- What answers a script on tiles.
use Rattle.std.proofs.Common.{◌≡◌, ℕ, Bool, List, ◌++◌, Option, refl, sym, ◌∙◌, ap, subst, append_assoc, arith, inr, []}
use Rattle.std.specs.Prelude.{string_bytes}
use Rattle.sha2.specs.Sha256.{sha256}
use Rattle.rd_report.specs.Summaries.{final_line}
use Rattle.rd_scene.specs.declared.script.Command.{Command}
use Rattle.rd_scene.specs.Scripts.{Script}
use Rattle.rd_scene.specs.Planting.{Plants}
use Rattle.rd_tree.specs.Document.{Document}
use Rattle.rd_run.specs.Endings.{stream, counter}
use Rattle.rd_run.specs.Machine.{State, start, PaintsIf}
use Rattle.rd_run.specs.Pictures.{picture}
use Rattle.rd_run.specs.Tiled.{TiledRun, tiled_line, IsScriptTiles}
use Rattle.rd_run.specs.Internal.Answered.{AnswersAs, MayFinish, Performs}
use Rattle.rd_run.specs.Internal.OnTiles.{GoesOnTiles, PerformsOnTiles, AnswersOnTiles}
use Rattle.rd_run.specs.Internal.Session.{SessionState, Shows, Does}
use Rattle.rd_run.specs.declared.tiling.Follower.{Follower}
use Rattle.rd_run.specs.declared.status.Status.TheVariants.{NoMemory}
use Rattle.rd_run.proofs.Runs.{gains_none, stays, counted_on}
use Rattle.rd_run.proofs.TiledRuns.{run_of, tiled_of}

-- what was done on tiles was done
pub tiled_performs : (m n l k : ℕ) (s : State) (cs : List Command) (lines : List ℕ) (now : SessionState)
    → PerformsOnTiles (counter m n) (counter l k) s cs lines now → Performs (counter m n) (counter l k) s cs now
tiled_performs m n l k s cs lines now p =
    let r = run_of s cs lines (p.0) p.1 in
    (p.0, r.0, r.1, p.2, p.3)

-- without memory, where the commands could be done
pub tiles_unwritten : (untouched : Type 0) (m n l k : ℕ) (script : Script) (o : Option (List ℕ)) (f : ℕ) → MayFinish (counter m n) (counter l k) script
    → AnswersAs untouched (IsScriptTiles script) (stream o o f f) (counter m n) (counter l k) NoMemory
tiles_unwritten untouched m n l k script o f a =
    let c = a.2 in let x = c.items in let y = c.taken in
    let end : State = a.0 in
    let mid : State = a.1.2 in
    let t : Document = a.1.3.0 in
    let q = tiled_of (start script.version t) script.commands (a.1.0) mid a.1.3.2 in
    let text : List ℕ = q.0 ++ (tiled_line mid end ++ final_line (sha256 (picture end.tree))) in
    inr (
      refl,
      (
        text,
        end.counts,
        (t, q.0, a.1.1, mid, end, a.1.3.1, q.1, a.1.4, refl, refl),
        gains_none o o [] text (stays o),
        omega (arith, x),
        omega (arith, y),
      ),
    )

-- what was done on tiles was done
pub all_does : (P : State → List ℕ → State → Type 0) (n o k j : ℕ) (was now : SessionState) (x u : Follower)
    → ((s : State) → Shows was s → GoesOnTiles P (counter n o) (counter k j) s x now u) → (s : State) → Shows was s → Does P (counter n o) (counter k j) s now
all_does P n o k j was now x u f s sh = let d = f s sh in (d.0, (d.1, d.2, d.3, d.4))

-- the whole answer: the commands, the paint at their end, and the digest of the picture
module _ (script : Script) (v : ℕ) (t : Document) (cs : List Command) (m n o l k j : ℕ) (was now : SessionState) (x u : Follower) where
  pub told_whole : (all : List ℕ) → Plants script t → v ≡ script.version → cs ≡ script.commands → PerformsOnTiles (counter m n) (counter l k) (start v t) cs (string_bytes x.text) was
      → ((s : State) → Shows was s → GoesOnTiles (PaintsIf was.engine.pending) (counter n o) (counter k j) s x now u)
      → all ≡ string_bytes u.text ++ final_line (sha256 (picture now.engine.tree))
      → AnswersOnTiles (counter m o) (counter l j) script all
  told_whole all p w e a f is =
      let d = f (a.0) a.3 in
      let end : State = d.1 in
      let c = counted_on (start v t) (a.0) end m n o l k j a.2 d.4 in
      let i = c.items in let y = c.taken in
      let last : List ℕ = final_line (sha256 (picture now.engine.tree)) in
      let text_is : all ≡ string_bytes x.text ++ (tiled_line (a.0) end ++ final_line (sha256 (picture end.tree))) =
      is ∙ ap (λ z. z ++ last) d.5 ∙ append_assoc (string_bytes x.text) (tiled_line (a.0) end) last
      ∙ ap (λ (q : Document). string_bytes x.text ++ (tiled_line (a.0) end ++ final_line (sha256 (picture q)))) (sym d.3.tree) in (
        end.counts,
        (
          t,
          string_bytes x.text,
          d.0,
          a.0,
          end,
          p,
          subst (λ (b : ℕ). TiledRun (start b t) script.commands (string_bytes x.text) (a.0)) w (subst (λ (c : List Command). TiledRun (start v t) c (string_bytes x.text) (a.0)) e a.1),
          subst (λ (b : Bool). PaintsIf b (a.0) (d.0) end) (sym a.3.pending) d.2,
          text_is,
          refl,
        ),
        omega (arith, i),
        omega (arith, y),
      )
