-- Runs of the machine of which the paints are told as tiles.
use Rattle.std.proofs.Common.{◌≡◌, ℕ, ◌+◌, ◌<◌, ◌≤◌, List, [], ◌∷◌, ◌++◌, refl, sym, ◌∙◌, ap, subst, append_assoc, append-nil, length, get_or, take}
use Rattle.std.proofs.lemmas.List.{take_more}
use Rattle.rd_scene.specs.declared.script.Command.{Command}
use Rattle.rd_run.specs.Machine.{State, Step, Run}
use Rattle.rd_run.specs.Tiled.{TiledRun, tiled_line}
use Rattle.rd_run.proofs.Runs.{all_of}

-- of each run something is told
pub tiled_of : (old : State) (cs : List Command) (text : List ℕ) (new : State) → Run old cs text new → (lines : List ℕ) × TiledRun old cs lines new
tiled_of old [] text new r = ([], (refl, r.1))
tiled_of old (c ∷ cs) text new r =
    let q = tiled_of (r.2) cs (r.1) new r.4 in
    (tiled_line old (r.2) ++ q.0, (r.0, q.0, r.2, r.3, q.1, refl))

-- and what is told is told of a run
pub run_of : (old : State) (cs : List Command) (lines : List ℕ) (new : State) → TiledRun old cs lines new → (text : List ℕ) × Run old cs text new
run_of old [] lines new r = ([], (refl, r.1))
run_of old (c ∷ cs) lines new r =
    let q = run_of (r.2) cs (r.1) new r.4 in
    (r.0 ++ q.0, (r.0, q.0, r.2, r.3, q.1, refl))

-- one more command after a run
tiled_more : (a b d : State) (cs : List Command) (c : Command) (lines u : List ℕ) → TiledRun a cs lines b → Step c b u d → TiledRun a (cs ++ c ∷ []) (lines ++ tiled_line b d) d
tiled_more a b d [] c lines u r s =
    let same : Step c a u d = subst (λ (x : State). Step c x u d) (r.1) s in (
      u,
      [],
      d,
      same,
      (refl, refl),
      ap (λ x. x ++ tiled_line b d) r.0 ∙ ap (λ (x : State). tiled_line x d) r.1 ∙ sym (append-nil (tiled_line a d)),
    )
tiled_more a b d (c' ∷ cs) c lines u r s = (
  r.0,
  r.1 ++ tiled_line b d,
  r.2,
  r.3,
  tiled_more (r.2) b d cs c (r.1) u r.4 s,
  ap (λ x. x ++ tiled_line b d) r.5 ∙ append_assoc (tiled_line a (r.2)) (r.1) (tiled_line b d),
)

pub tiled_step : (a b e : State) (xs : List Command) (i : ℕ) (d : Command) (lines u : List ℕ) → i < length xs
    → d ≡ get_or xs i d → TiledRun a (take i xs) lines b → Step d b u e → TiledRun a (take (i + 1) xs) (lines ++ tiled_line b e) e
tiled_step a b e xs i d lines u h is r s =
    let here : Step (get_or xs i d) b u e = subst (λ (x : Command). Step x b u e) is s in
    rw (take_more xs i d h) (tiled_more a b e (take i xs) (get_or xs i d) lines u r here)

pub whole_tiled : (a b : State) (xs : List Command) (i : ℕ) (lines : List ℕ) → length xs ≤ i → TiledRun a (take i xs) lines b → TiledRun a xs lines b
whole_tiled a b xs i lines h r = subst (λ (cs : List Command). TiledRun a cs lines b) (all_of xs i h) r
