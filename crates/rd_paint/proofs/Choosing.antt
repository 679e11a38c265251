-- Picked entries laid over a run of pixels.
use Rattle.std.proofs.Common.{◌≡◌, ◌∙◌, sym, ap, ℕ, ℤ, ◌≤◌, List, length, drop}
use Rattle.std.proofs.lemmas.List.{drop_all}
use Rattle.rd_geom.specs.Colors.{Premultiplied}
use Rattle.rd_item.specs.declared.leaf.Leaf as item
use Rattle.rd_list.specs.Entries.{Entries, ◌▷◌}
use Rattle.rd_list.specs.Wrappers.{Wrapper}
use Rattle.rd_paint.specs.Internal.Picks.{picked}
use Rattle.rd_paint.specs.Internal.Runs.{laid_along}
use Rattle.rd_paint.specs.declared.picks.Pick.{Pick}
use Rattle.rd_paint.proofs.Laying.{laid_join, laid_along-nil}
use Rattle.rd_paint.proofs.Picking.{picked-none}

-- one entry less to be laid
pub laid_on : (y x : ℤ) (left one rest : Entries Wrapper item.Leaf) (before after end : List Premultiplied) → left ≡ one ▷ rest → after ≡ laid_along y x one before
    → laid_along y x left before ≡ end → laid_along y x rest after ≡ end
laid_on y x left one rest before after end p a e = ap (laid_along y x rest) a ∙ laid_join y x one rest before ∙ ap (λ es. laid_along y x es before) (sym p) ∙ e

-- none is left
pub laid_off : (y x : ℤ) (ps : List Pick) (i : ℕ) (es : Entries Wrapper item.Leaf) (out end : List Premultiplied) → length ps ≤ i → laid_along y x (picked (drop i ps) es) out ≡ end → out ≡ end
laid_off y x ps i es out end h e =
    sym (laid_along-nil y x out) ∙ ap (λ xs. laid_along y x xs out) (sym (ap (λ qs. picked qs es) (drop_all i ps h) ∙ picked-none es)) ∙ e
