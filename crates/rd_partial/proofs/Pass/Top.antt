-- The pass of the code gives the wanted part of the fresh list.
use Rattle.std.proofs.Common.{◌≡◌, refl, ap, ◌∙◌, sym, subst, Bool, true, false, List, [], ◌∷◌, ℕ, ◌+◌}
use Rattle.std.specs.Prelude.{Option}
use Rattle.rd_geom.specs.Plane.{Rectangle}
use Rattle.rd_geom.specs.Canvas.{canvas_of}
use Rattle.rd_clip.specs.Clipping.{sought}
use Rattle.rd_keys.specs.Keys.{BoxKey, same_key}
use Rattle.rd_keys.proofs.Keys.{same_key-refl}
use Rattle.rd_keys.specs.declared.entry.Part.{Part}
use Rattle.rd_list.specs.Entries.{option_entry}
use Rattle.rd_tree.specs.Forest.{empty, tree, starting_at, from_some, IsApart}
use Rattle.rd_tree.specs.Document.{BoxForest, Document, IsRooted}
use Rattle.rd_tree.specs.Contexts.{blends_in}
use Rattle.rd_stack.specs.Paths.{BoxData, is_none}
use Rattle.rd_stack.specs.Clips.{entered}
use Rattle.rd_stack.specs.Parts.{leaf_at, leaf_of}
use Rattle.rd_stack.specs.Fresh.{box_data, drawn_list}
use Rattle.rd_partial.specs.Internal.Pass.{order_of, pass, whole, is_one, as_group}
use Rattle.rd_partial.specs.Internal.Inherited.{Inherited, standing_below, at_root, below, leaf_in}
use Rattle.rd_partial.specs.Internal.Given.{gives}
use Rattle.rd_partial.specs.Internal.Picking.{picked}
use Rattle.rd_partial.specs.Internal.Counting.{leaves_in, visits, root_visits}
use Rattle.rd_partial.specs.Internal.Work.{passes, paints, own_cost, cost}
use Rattle.rd_partial.specs.Internal.BoxLook.{Onward}
use Rattle.rd_partial.proofs.Pass.Stood.{clip_is, down}
use Rattle.rd_partial.proofs.Pass.Fields.{enter, give}
use Rattle.rd_partial.proofs.Pass.Steps.{fresh_is}
use Rattle.rd_partial.proofs.Pass.Picked.{on-group}
use Rattle.rd_partial.proofs.Pass.Handed.{Stands, order-handed, pass-handed}
use Rattle.rd_partial.proofs.Pass.Filled.{give_all, pick, paints_picked}
use Rattle.rd_list.specs.Entries.{only}
use Rattle.rd_partial.proofs.Pass.Only.{only_is, numbered_leaves}
use Rattle.rd_partial.proofs.Pass.Count.{count-root}
use Rattle.rd_partial.specs.Numbered.{numbered}

module _ (canvas : Rectangle) where
  -- what is handed down stands for the boxes above
  abbrev pub stood : List BoxData → Inherited
  stood above = standing_below canvas above

  pub same_leaf : (above : List BoxData) (b : BoxData) (p : Part) → leaf_at canvas (record { above = above; here = b }) p ≡ leaf_in (stood above) b p
  same_leaf above b p = ap (λ z. leaf_of canvas (is_none above) z b p) (sym (clip_is canvas (sought b.style.position) (entered above)))

  pub hands : Stands enter (give canvas) below give_all (λ s t. stood s ≡ t)
  hands = record {
    down = λ s t b r. down canvas s b ∙ ap (λ z. below z b) r;
    same = λ s t b p r. ap option_entry (same_leaf s b p) ∙ ap (λ z. give_all z b p) r;
  }

-- Whether the root is grouped does not rest on what is below it.
abbrev root_grouped : BoxData → Bool
root_grouped b = is_one true false b

module _ (wants : Rectangle → Bool) (n : ℕ) (t : Document) where
  abbrev start : Inherited
  start = stood (canvas_of t.canvas) []

  rooted_from : (f : BoxForest) (k : BoxKey) (d : _) (ch : BoxForest) → f ≡ tree k d ch empty → starting_at same_key k f ≡ f
  rooted_from f k d ch e = rw e (rw (same_key-refl k) refl)

  of_tree : (k : BoxKey) (d : _) (ch nx : BoxForest) → picked (pick wants n) (whole enter (give (canvas_of t.canvas)) [] (tree k d ch nx)) ≡ as_group (is_one true (blends_in ch) (box_data k d)) (box_data k d) (paints wants n start (box_data k d) (passes wants n (below start (box_data k d)) ch))
  of_tree k d ch nx =
      let canvas = canvas_of t.canvas in
      let b = box_data k d in
      let h = hands canvas in
      let one = is_one true (blends_in ch) b in
      on-group (pick wants n) one b (order_of enter (give canvas) true [] b (pass enter (give canvas) (b ∷ []) ch))
      ∙ ap (λ z. as_group one b (picked (pick wants n) z))
      (order-handed enter (give canvas) below give_all (λ s z. stood canvas s ≡ z) h true [] start b (pass enter (give canvas) (b ∷ []) ch) refl
      ∙ ap (order_of below give_all true start b) (pass-handed enter (give canvas) below give_all (λ s z. stood canvas s ≡ z) h (b ∷ []) (below start b) ch (h.down [] start b refl)))
      ∙ ap (as_group one b) (paints_picked wants n start b ch)

  pub list_is : IsRooted t → IsApart same_key t.boxes → (here : BoxData) (c nx : Option BoxKey) (hull : Rectangle) → Onward t.boxes t.root here c nx hull
      → as_group (root_grouped here) here (paints wants n start here (passes wants n (below start here) (from_some same_key c t.boxes))) ≡ picked (pick wants n) (drawn_list t)
  list_is r a here c nx hull w =
      let whole_is : t.boxes ≡ tree t.root w.item w.below w.rest = sym (rooted_from t.boxes t.root r.0 r.1 r.2) ∙ w.is in
      rw (w.data_is, w.child)
      (sym (ap (picked (pick wants n)) (fresh_is t a)
      ∙ ap (λ f. picked (pick wants n) (whole enter (give (canvas_of t.canvas)) [] f)) whole_is
      ∙ of_tree t.root w.item w.below w.rest))

  pub count_is : IsRooted t → IsApart same_key t.boxes → (here : BoxData) (c nx : Option BoxKey) (hull : Rectangle) → Onward t.boxes t.root here c nx hull
      → own_cost wants n start here + cost wants n (below start here) (from_some same_key c t.boxes) ≡ leaves_in (picked (pick wants n) (drawn_list t))
  unfolding passes cost
  count_is r a here c nx hull w =
      sym (count-root below (gives wants n) start here (root_grouped here) (from_some same_key c t.boxes)) ∙ ap leaves_in (list_is r a here c nx hull w)

  pub looks_are : IsRooted t → (here : BoxData) (c nx : Option BoxKey) (hull : Rectangle) → Onward t.boxes t.root here c nx hull → 1 + visits wants (from_some same_key c t.boxes) ≡ root_visits wants t.boxes
  looks_are r here c nx hull w =
      let whole_is : t.boxes ≡ tree t.root w.item w.below w.rest = sym (rooted_from t.boxes t.root r.0 r.1 r.2) ∙ w.is in
      rw w.child (sym (ap (root_visits wants) whole_is))

-- where the root is looked at
module _ (wants : Rectangle → Bool) (n : ℕ) (t : Document) (r : IsRooted t) (a : IsApart same_key t.boxes) (k : BoxKey) (e : k ≡ t.root) (s : Inherited) (begun : s ≡ at_root (canvas_of t.canvas))
    (here : BoxData) (c nx : Option BoxKey) (hull : Rectangle) (w : Onward t.boxes k here c nx hull) where
  at_t : Onward t.boxes t.root here c nx hull
  at_t = subst (λ j. Onward t.boxes j here c nx hull) e w

  pub list_of : as_group (root_grouped here) here (paints wants n s here (passes wants n (below s here) (from_some same_key c t.boxes))) ≡ numbered n (only (λ x. wants x.visible) (drawn_list t))
  list_of = ap (λ z. as_group (root_grouped here) here (paints wants n z here (passes wants n (below z here) (from_some same_key c t.boxes)))) begun ∙ list_is wants n t r a here c nx hull at_t ∙ only_is (λ x. wants x.visible) n (drawn_list t)

  pub count_of : own_cost wants n s here + cost wants n (below s here) (from_some same_key c t.boxes) ≡ leaves_in (only (λ x. wants x.visible) (drawn_list t))
  count_of =
      ap (λ z. own_cost wants n z here + cost wants n (below z here) (from_some same_key c t.boxes)) begun ∙ count_is wants n t r a here c nx hull at_t
      ∙ ap leaves_in (only_is (λ x. wants x.visible) n (drawn_list t)) ∙ numbered_leaves n (only (λ x. wants x.visible) (drawn_list t))

  pub looks_of : 1 + visits wants (from_some same_key c t.boxes) ≡ root_visits wants t.boxes
  looks_of = looks_are wants n t r here c nx hull at_t

  pub root_is : s.root ≡ true
  root_is = ap (λ z. z.root) begun
