use Rattle.std.proofs.Common.{◌≡◌, ℕ, List, Some, bytes_eq, if◌then◌else◌, sym, subst}
use Rattle.rd_scene.specs.Internal.Steps.{told}
use Rattle.rd_scene.proofs.boxes.box_of.Goals as goal

pub returns-clause-noted : goal.returns-clause-noted
returns-clause-noted c = record {
  depth = c.in_ok-names.names.depth;
  fresh = c.in_ok-names.ensures.fresh;
  stands = c.in_ok-names.ensures.stands;
  noted = λ id. subst (λ (t : List ℕ). told c.note.new.depths id ≡ (if bytes_eq t id then Some c.in_ok-names.names.depth else told c.args.depths.now id))
      (sym c.in_ok-names.ensures.same_text) (c.in_ok-note.ensures.noted id);
}
