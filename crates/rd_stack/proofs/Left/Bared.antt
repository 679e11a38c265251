-- What rests on a box that is bare is as it was.
use Rattle.std.proofs.Common.{◌≡◌, refl, ap, ◌∙◌, sym, Bool, true, false, not, ◌&&◌, ◌||◌, cond, List, [], ◌∷◌, length, take, ℕ, zero, suc, ◌+◌, ◌-◌, None}
use Rattle.std.specs.List.{list_all, list_any}
use Rattle.rd_geom.specs.Plane.{Rectangle, meet}
use Rattle.rd_style.specs.declared.kinds.Class.{Class}
use Rattle.rd_style.specs.declared.kinds.Class.TheVariants.{Layer, Atom, Inline}
use Rattle.rd_style.specs.Classes.{clips, positioned, class, real, level, blocky}
use Rattle.rd_clip.specs.Clipping as clipping
use Rattle.rd_clip.specs.Clipping.{Entered, Sought, parent, nearest_positioned, viewport, sought, containing_chain, clipped, clipped_by}
use Rattle.rd_keys.specs.Keys.{BoxKey, same_key}
use Rattle.rd_keys.specs.declared.entry.Part.{Part}
use Rattle.rd_stack.specs.Paths.{BoxData, BoxPath, is_none, is_root, is_context, is_class, has_class, is_plain, is_inline, is_no_context, boxes_between, is_local, is_layer, is_in_line}
use Rattle.rd_stack.specs.Clips.{entered, clip_of}
use Rattle.rd_stack.specs.Parts.{leaf_at, shown, shape_of, is_seen}
use Rattle.rd_stack.specs.Painting.{is_blocky}
use Rattle.rd_stack.proofs.Left.Bare.{bare_style, bare_rect, no_sides}

module _ (gone : BoxKey → Bool) where
  abbrev pub bare_with : Bool → Bool → BoxData → BoxData
  bare_with g root b = record { key = b.key; rect = bare_rect g root b.style b.rect; style = bare_style g root b.style }

  abbrev pub bare_box : Bool → BoxData → BoxData
  bare_box root b = bare_with (gone b.key) root b

  abbrev pub bared : List BoxData → List BoxData
  bared [] = []
  bared (b ∷ above) = bare_box (is_none above) b ∷ bared above

  abbrev pub bare_path : BoxPath → BoxPath
  bare_path x = record { above = bared x.above; here = bare_box (is_none x.above) x.here }

  none-bared : (bs : List BoxData) → is_none (bared bs) ≡ is_none bs
  none-bared [] = refl
  none-bared (b ∷ bs) = refl

  length-bared : (bs : List BoxData) → length (bared bs) ≡ length bs
  length-bared [] = refl
  length-bared (b ∷ bs) = ap suc (length-bared bs)

  all-taken : (p : BoxData → Bool) → ((r : Bool) (b : BoxData) → p (bare_box r b) ≡ p b) → (n : ℕ) (bs : List BoxData) → list_all p (take n (bared bs)) ≡ list_all p (take n bs)
  all-taken p e zero [] = refl
  all-taken p e zero (b ∷ bs) = refl
  all-taken p e (suc n) [] = refl
  all-taken p e (suc n) (b ∷ bs) = λ i. e (is_none bs) b i && all-taken p e n bs i

  any-bared : (p : BoxData → Bool) → ((r : Bool) (b : BoxData) → p (bare_box r b) ≡ p b) → (bs : List BoxData) → list_any p (bared bs) ≡ list_any p bs
  any-bared p e [] = refl
  any-bared p e (b ∷ bs) = λ i. e (is_none bs) b i || any-bared p e bs i

  pub root-bare : (x : BoxPath) → is_root (bare_path x) ≡ is_root x
  root-bare x = none-bared x.above

  pub context-bare : (x : BoxPath) → is_context (bare_path x) ≡ is_context x
  context-bare x = ap (real x.here.style) (none-bared x.above)

  pub is-bare : (c : Class) (x : BoxPath) → has_class c (bare_path x) ≡ has_class c x
  is-bare c x = ap (λ r. is_class c (class x.here.style r)) (none-bared x.above)

  pub blocky-bare : (x : BoxPath) → is_blocky (bare_path x) ≡ is_blocky x
  blocky-bare x = ap (blocky x.here.style) (none-bared x.above)

  pub level-bare : (x : BoxPath) → level (bare_path x).here.style (is_root (bare_path x)) ≡ level x.here.style (is_root x)
  level-bare x = ap (level x.here.style) (none-bared x.above)

  all-between : (p : BoxData → Bool) → ((r : Bool) (b : BoxData) → p (bare_box r b) ≡ p b) → (e x : BoxPath) → list_all p (boxes_between (bare_path e) (bare_path x)) ≡ list_all p (boxes_between e x)
  all-between p h e x =
      ap (λ n. list_all p (take n (bared x.above))) (λ i. length-bared x.above i - (length-bared e.above i + 1))
      ∙ all-taken p h (length x.above - (length e.above + 1)) x.above

  pub local-bare : (e x : BoxPath) → is_local (bare_path e) (bare_path x) ≡ is_local e x
  local-bare e x = all-between is_plain (λ r b. refl) e x

  pub layer-bare : (e x : BoxPath) → is_layer (bare_path e) (bare_path x) ≡ is_layer e x
  layer-bare e x = λ i. is-bare Layer x i && all-between is_no_context (λ r b. refl) e x i

  pub in-line-bare : (e c x : BoxPath) → is_in_line (bare_path e) (bare_path c) (bare_path x) ≡ is_in_line e c x
  in-line-bare e c x =
      λ i. local-bare e x i
      && (is-bare Inline x i || is-bare Atom x i)
      && any-bared (λ b. same_key b.key c.here.key) (λ r b. refl) x.above i
      && all-between is_inline (λ r b. refl) c x i

  -- Clips.
  no_clip : (g c : Bool) {A : Type 0} (a b : A) → c ≡ true → cond (g && not c) a b ≡ b
  no_clip true c a b h = rw h refl
  no_clip false c a b h = refl

  clipped-bare : (root : Bool) (b : BoxData) (r : Rectangle) → (bs : List BoxData) → is_none (bared bs) ≡ is_none bs
      → clipped_by (record { style = bare_style (gone b.key) (is_none bs) b.style; rect = bare_rect (gone b.key) (is_none bs) b.style b.rect; root = is_none (bared bs) }) r ≡ clipped_by (record { style = b.style; rect = b.rect; root = is_none bs }) r
  clipped-bare root b r bs n =
      ap (λ q. clipped_by (record { style = bare_style (gone b.key) (is_none bs) b.style; rect = bare_rect (gone b.key) (is_none bs) b.style b.rect; root = q }) r) n
      ∙ by (clips b.style (is_none bs)) refl
    where
      by : (c : Bool) → clips b.style (is_none bs) ≡ c
          → clipped_by (record { style = bare_style (gone b.key) (is_none bs) b.style; rect = bare_rect (gone b.key) (is_none bs) b.style b.rect; root = is_none bs }) r ≡ clipped_by (record { style = b.style; rect = b.rect; root = is_none bs }) r
      by true e =
          ap (λ q. cond (clips b.style (is_none bs)) (meet r (clipping.padding_box (record b.style { border_width = q }) (bare_rect (gone b.key) (is_none bs) b.style b.rect))) r) (no_clip (gone b.key) (clips b.style (is_none bs)) no_sides b.style.border_width e)
          ∙ ap (λ q. cond (clips b.style (is_none bs)) (meet r (clipping.padding_box b.style q)) r) (no_clip (gone b.key) (clips b.style (is_none bs)) _ b.rect e)
      by false e =
          ap (λ c. cond c (meet r (clipping.padding_box (bare_style (gone b.key) (is_none bs) b.style) (bare_rect (gone b.key) (is_none bs) b.style b.rect))) r) e
          ∙ sym (ap (λ c. cond c (meet r (clipping.padding_box b.style b.rect)) r) e)

  module _ (canvas : Rectangle) where
    chain-bare : (s : Sought) (above : List BoxData) → clipped canvas (containing_chain s (entered (bared above))) ≡ clipped canvas (containing_chain s (entered above))
    chain-bare viewport above = refl
    chain-bare parent [] = refl
    chain-bare parent (b ∷ above) =
        clipped-bare true b (clipped canvas (containing_chain (sought b.style.position) (entered (bared above)))) above (none-bared above)
        ∙ ap (clipped_by (record { style = b.style; rect = b.rect; root = is_none above })) (chain-bare (sought b.style.position) above)
    chain-bare nearest_positioned [] = refl
    chain-bare nearest_positioned (b ∷ above) = by (positioned b.style) (chain-bare (sought b.style.position) above) (chain-bare nearest_positioned above)
      where
        low : Entered
        low = record { style = bare_style (gone b.key) (is_none above) b.style; rect = bare_rect (gone b.key) (is_none above) b.style b.rect; root = is_none (bared above) }

        high : Entered
        high = record { style = b.style; rect = b.rect; root = is_none above }

        by : (p : Bool) → clipped canvas (containing_chain (sought b.style.position) (entered (bared above))) ≡ clipped canvas (containing_chain (sought b.style.position) (entered above))
            → clipped canvas (containing_chain nearest_positioned (entered (bared above))) ≡ clipped canvas (containing_chain nearest_positioned (entered above))
            → clipped canvas (cond p (low ∷ containing_chain (sought b.style.position) (entered (bared above))) (containing_chain nearest_positioned (entered (bared above))))
            ≡ clipped canvas (cond p (high ∷ containing_chain (sought b.style.position) (entered above)) (containing_chain nearest_positioned (entered above)))
        by true h k =
            clipped-bare true b (clipped canvas (containing_chain (sought b.style.position) (entered (bared above)))) above (none-bared above)
            ∙ ap (clipped_by high) h
        by false h k = k

    pub clip-bare : (x : BoxPath) → clip_of canvas (bare_path x) ≡ clip_of canvas x
    clip-bare x = chain-bare (sought x.here.style.position) x.above

    -- Leaves.
    pub leaf-gone : (x : BoxPath) (part : Part) → gone x.here.key ≡ true → leaf_at canvas (bare_path x) part ≡ None
    leaf-gone x part g = rw g refl

    box-kept : (root : Bool) (b : BoxData) → gone b.key ≡ false → bare_box root b ≡ b
    box-kept root b g = ap (λ c. bare_with c root b) g

    abbrev below_bared : BoxPath → BoxPath
    below_bared x = record { above = bared x.above; here = x.here }

    shape-below : (x : BoxPath) (part : Part) → shape_of canvas (is_root (below_bared x)) x.here part ≡ shape_of canvas (is_root x) x.here part
    shape-below x part = ap (λ r. shape_of canvas r x.here part) (none-bared x.above)

    pub leaf-kept : (x : BoxPath) (part : Part) → gone x.here.key ≡ false → leaf_at canvas (bare_path x) part ≡ leaf_at canvas x part
    leaf-kept x part g =
        ap (λ b. leaf_at canvas (record { above = bared x.above; here = b }) part) (box-kept (is_none x.above) x.here g)
        ∙ (ap (λ s. cond (is_seen x.here.style.visibility) (shown (clip_of canvas (below_bared x)) x.here part s) None) (shape-below x part)
        ∙ ap (λ c. cond (is_seen x.here.style.visibility) (shown c x.here part (shape_of canvas (is_root x) x.here part)) None) (clip-bare x))
