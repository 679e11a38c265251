-- Spans that are told one after another. Assumes nothing.
use Rattle.std.proofs.Common.{◌≡◌, ℕ, suc, ◌+◌, ◌<◌, List, [], ◌∷◌, ◌++◌, length, take, get_or, map, pos, sym, ◌∙◌, ap, append_assoc, arith}
use Rattle.std.proofs.lemmas.List.{take_more, map-append}
use Rattle.rd_geom.specs.Areas.{Region, spans_at}
use Rattle.rd_geom.specs.declared.span.Span.{Span}
use Rattle.rd_c.specs.Spans.{told_span, told_rows}
use Rattle.rd_c.specs.declared.painting.RdSpan.{RdSpan}

-- one more span of a row
pub told_more : (y : ℕ) (row : List Span) (i : ℕ) (d : Span) (begun now then : List RdSpan) → i < length row
    → now ≡ begun ++ map (told_span y) (take i row) → then ≡ now ++ told_span y (get_or row i d) ∷ [] → then ≡ begun ++ map (told_span y) (take (i + 1) row)
told_more y row i d begun now then l was is =
    let s : Span = get_or row i d in
    is ∙ ap (λ z. z ++ told_span y s ∷ []) was ∙ append_assoc begun (map (told_span y) (take i row)) (told_span y s ∷ [])
    ∙ ap (λ z. begun ++ z) (sym (map-append (told_span y) (take i row) (s ∷ [])) ∙ ap (map (told_span y)) (sym (take_more row i d l)))

-- one more row
pub told_next : (a : Region) (y : ℕ) → told_rows a (y + 1) ≡ told_rows a y ++ map (told_span y) (spans_at a.rows (pos y))
told_next a y = let e : y + 1 ≡ suc y = omega arith in ap (told_rows a) e
