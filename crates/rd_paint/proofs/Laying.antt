-- Lists laid over a run of pixels.
use Rattle.std.proofs.Common.{◌≡◌, ℕ, ℤ, pos, ◌+◌, ◌+ℤ◌, ◌<◌, List, [], ◌∷◌, ◌++◌, take, length, get_or, replicate, refl, sym, ap, ◌∙◌, arith}
use Rattle.std.proofs.lemmas.List.{take_more, length-replicate, get_or-replicate}
use Rattle.rd_geom.specs.Blends.{blended}
use Rattle.rd_geom.specs.Colors.{Premultiplied, scaled, clear, white}
use Rattle.rd_geom.specs.declared.blend.Blend.{Blend}
use Rattle.rd_geom.proofs.Mixing.{nothing_blended}
use Rattle.rd_item.specs.declared.leaf.Leaf as item
use Rattle.rd_list.specs.declared.kept.Entry.{Entry}
use Rattle.rd_list.specs.Wrappers.{Wrapper}
use Rattle.rd_list.specs.Entries.{Entries, nil, ◌▷◌}
use Rattle.rd_list.specs.Displayed.{shown}
use Rattle.rd_list.specs.Lists.{composed}
use Rattle.rd_list.proofs.Composing.{composed-join}
use Rattle.rd_list.proofs.Displaying.{shown-append}
use Rattle.rd_paint.specs.Internal.Runs.{laid_along, laid_along_group, row_laid}
use Rattle.rd_paint.proofs.Places.{each_from-none, each_from-same, each_from-each_from, each_at-same_within, get_or-each_at}

pub laid_along-nil : (y x : ℤ) (ps : List Premultiplied) → laid_along y x nil ps ≡ ps
laid_along-nil y x ps = each_from-none 0 (λ k p. p) ps (λ k p. refl)

-- one list after another along a run
pub laid_join : (y x : ℤ) (xs ys : Entries Wrapper item.Leaf) (ps : List Premultiplied) → laid_along y x ys (laid_along y x xs ps) ≡ laid_along y x (xs ▷ ys) ps
laid_join y x xs ys ps =
    each_from-each_from 0 (λ k p. composed (x +ℤ pos k) y p xs) (λ k p. composed (x +ℤ pos k) y p ys) ps
    ∙ each_from-same 0 (λ k p. composed (x +ℤ pos k) y (composed (x +ℤ pos k) y p xs) ys) (λ k p. composed (x +ℤ pos k) y p (xs ▷ ys)) ps (λ k p. sym (composed-join (x +ℤ pos k) y p xs ys))

-- one entry more
pub laid_more : {A : Type 0} (y x : ℤ) (es : List (Entry A)) (i : ℕ) (e : Entry A) (ps before after : List Premultiplied) → i < length es → e ≡ get_or es i e
    → before ≡ laid_along y x (shown (take i es)) ps → after ≡ laid_along y x (shown (e ∷ [])) before → after ≡ laid_along y x (shown (take (i + 1) es)) ps
laid_more y x es i e ps before after h k a b =
    b ∙ ap (laid_along y x (shown (e ∷ []))) a ∙ laid_join y x (shown (take i es)) (shown (e ∷ [])) ps
    ∙ ap (λ t. laid_along y x t ps) (sym (shown-append (take i es) (e ∷ [])) ∙ ap shown (ap (λ z. take i es ++ z ∷ []) k ∙ sym (take_more es i e h)))

-- where nothing is laid nothing changes
pub laid_none : (y x : ℤ) (m : Blend) (opacity : ℕ) (es : Entries Wrapper item.Leaf) (ps : List Premultiplied) → ((x y : ℤ) → composed x y clear es ≡ clear) → laid_along_group y x m opacity es ps ≡ ps
laid_none y x m opacity es ps h = each_from-none 0 (λ k p. blended m (scaled (composed (x +ℤ pos k) y clear es) opacity) p) ps (λ k p. rw (h (x +ℤ pos k) y) (nothing_blended m opacity p))

-- a group's row, clear at first, laid over as many pixels
pub group_laid : (y x : ℤ) (m : Blend) (opacity n : ℕ) (es : Entries Wrapper item.Leaf) (ps : List Premultiplied) → length ps ≡ n
    → row_laid m opacity (laid_along y x es (replicate n clear)) ps ≡ laid_along_group y x m opacity es ps
group_laid y x m opacity n es ps e =
    each_at-same_within (λ k p. blended m (scaled (get_or (laid_along y x es (replicate n clear)) k clear) opacity) p) (λ k p. blended m (scaled (composed (x +ℤ pos k) y clear es) opacity) p) ps
    (λ k p l. let short : k < length (replicate n clear) = let m = length-replicate n clear in omega (arith, e, m) in
    let px : get_or (laid_along y x es (replicate n clear)) k clear ≡ composed (x +ℤ pos k) y clear es =
    get_or-each_at (λ j q. composed (x +ℤ pos j) y q es) (replicate n clear) k clear short ∙ ap (λ q. composed (x +ℤ pos k) y q es) (get_or-replicate n k clear clear (omega (arith, e))) in
    ap (λ q. blended m (scaled q opacity) p) px)

pub group_from : (y x : ℤ) (m : Blend) (opacity n : ℕ) (es es' : Entries Wrapper item.Leaf) (ps begun row after : List Premultiplied) → es' ≡ es → n ≡ length ps → begun ≡ replicate n clear
    → row ≡ laid_along y x es' begun → after ≡ row_laid m opacity row ps → after ≡ laid_along_group y x m opacity es ps
group_from y x m opacity n es es' ps begun row after e l b r a =
    a ∙ ap (λ q. row_laid m opacity q ps) (r ∙ ap (λ q. laid_along y x q begun) e ∙ ap (λ q. laid_along y x es q) b) ∙ group_laid y x m opacity n es ps (sym l)

-- a run that was made white and then painted
pub painted_at : (y x : ℤ) (n : ℕ) (es : Entries Wrapper item.Leaf) (begun after : List Premultiplied) → begun ≡ replicate n white → after ≡ laid_along y x es begun
    → (k : ℕ) → k < n → get_or after k clear ≡ composed (x +ℤ pos k) y white es
painted_at y x n es begun after b a k h =
    let short : k < length (replicate n white) = let m = length-replicate n white in omega (arith, m) in
    ap (λ ps. get_or ps k clear) (a ∙ ap (laid_along y x es) b)
    ∙ get_or-each_at (λ j q. composed (x +ℤ pos j) y q es) (replicate n white) k clear short ∙ ap (λ q. composed (x +ℤ pos k) y q es) (get_or-replicate n k white clear h)
