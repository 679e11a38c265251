-- What a paint of the engine is to the machine.
use Rattle.std.proofs.Common.{◌≡◌, ℕ, ◌+◌, ◌*◌, ◌≤◌, Bool, true, false, cond, List, ◌∷◌, ◌++◌, length, refl, sym, ◌∙◌, ap, ap₂, subst, arith, Option, Some, None, []}
use Rattle.std.specs.Prelude.{Contains, AllPairs, if◌then◌else◌, ◌-◌}
use Rattle.std.specs.List.{AllByRecursion}
use Rattle.rd_geom.specs.Areas.{Region, meets_area, count_of}
use Rattle.rd_item.specs.declared.leaf.Leaf.{Leaf}
use Rattle.rd_item.specs.Items.{Made}
use Rattle.rd_list.specs.Wrappers.{Wrapper}
use Rattle.rd_list.specs.Entries.{Entries, nil, leaf, group, flat}
use Rattle.rd_list.specs.EntryNames.{kept_leaves, new_leaves}
use Rattle.rd_list.specs.Lists.{StandsFor, meeting, same_leaf}
use Rattle.rd_list.specs.Unordered.{unordered}
use Rattle.rd_tree.specs.Document.{Document}
use Rattle.rd_tree.specs.Touching.{settled}
use Rattle.rd_stack.specs.Fresh.{fresh_list}
use Rattle.rd_stack.proofs.Promises.{stands_for_itself}
use Rattle.rd_tree.specs.Drawn.{drawn}
use Rattle.rd_partial.specs.Looks.{looks_bound, is_visited}
use Rattle.rd_engine.specs.State.{EngineState, IsEngine}
use Rattle.rd_engine.specs.Invalid as invalid
use Rattle.rd_engine.specs.Painted as engine
use Rattle.rd_engine.specs.Painted.{untouched, IsSettled, IsNoted, AreNumbered}
use Rattle.rd_engine.specs.declared.note.PaintNote.{PaintNote}
use Rattle.rd_engine.proofs.Fewer.{only_length}
use Rattle.rd_report.specs.Answers.{paint_line}
use Rattle.rd_report.proofs.Dumping.{flat-unordered}
use Rattle.rd_scene.proofs.Keyed.{each_well}
use Rattle.rd_run.specs.Endings.{Counter}
use Rattle.rd_run.specs.Machine.{State, Paints, IsNumbered, invalid_area, remade, most_looks, number_in, painted_state}
use Rattle.rd_run.specs.Internal.Lasts.{IsWellFormed, IsLast}
use Rattle.rd_run.specs.Internal.Session.{SessionState, Shows, Advances, MayGoOn}
use Rattle.rd_run.proofs.Dues.{area_same}
use Rattle.rd_run.proofs.Kept.{unordered_leaves, kept_number, all_items}

pub settled_sound : (t : Document) → IsWellFormed t → IsWellFormed (untouched t)
settled_sound t h = record { boxes = each_well (λ k. true) settled t h.boxes; canvas = h.canvas }

-- ---- a paint is always possible: the fresh list itself may be kept

-- a list with the numbers that the machine gives its leaves
abbrev number_for : State → Leaf → ℕ
number_for s l = if meets_area (invalid_area s) l.visible then s.paints + 1 else number_in s.kept l

abbrev numbering : State → Entries Wrapper Leaf → Entries Wrapper Made
numbering s nil = nil
numbering s (leaf l rest) = leaf (record { leaf = l; made_at = number_for s l }) (numbering s rest)
numbering s (group g inner rest) = group g (numbering s inner) (numbering s rest)

numbering_leaves : (s : State) (xs : Entries Wrapper Leaf) → new_leaves (numbering s xs) ≡ xs
numbering_leaves s nil = refl
numbering_leaves s (leaf l xs) = ap (leaf l) (numbering_leaves s xs)
numbering_leaves s (group g inner xs) = rw (numbering_leaves s inner, numbering_leaves s xs) refl

all_append : {A : Type 0} (P : A → Type 0) (xs ys : List A) → AllByRecursion P xs → AllByRecursion P ys → AllByRecursion P (xs ++ ys)
all_append P [] ys a b = b
all_append P (x ∷ xs) ys a b = (a.0, all_append P xs ys a.1 b)

numbering_is : (s : State) (xs : Entries Wrapper Leaf) → AllByRecursion (IsNumbered s) (flat (numbering s xs))
numbering_is s nil = tt
numbering_is s (leaf l xs) = (refl, numbering_is s xs)
numbering_is s (group g inner xs) = all_append (IsNumbered s) (flat (numbering s inner)) (flat (numbering s xs)) (numbering_is s inner) (numbering_is s xs)

fewer : (a b : ℕ) → a ≤ b → (c : ℕ) × (a + c ≡ b)
fewer a b h = (b - a, omega (arith, h))

pub paint_goes : (s : State) → IsWellFormed s.tree
    → (text : List ℕ) × (kept : Entries Wrapper Made) × Paints s text (painted_state s kept)
paint_goes s h =
    let others = fewer (length (flat (remade s))) (length (flat (fresh_list s.tree))) (only_length (λ l. meets_area (invalid_area s) l.visible) (fresh_list s.tree)) in (
      paint_line (s.paints + 1) (length (flat (remade s))) others.0 (count_of (invalid_area s)),
      numbering s (fresh_list s.tree),
      record {
        stands = rw (numbering_leaves s (fresh_list s.tree)) (stands_for_itself s.tree h.boxes.apart);
        numbers = numbering_is s (fresh_list s.tree);
        settled = refl;
        others = others.0;
        all = others.1;
        told = refl;
      },
    )

-- ---- the engine's words and the machine's

module _ (s : State) (x : SessionState) (sh : Shows x s) where
  same_remade : remade s ≡ engine.remade x.engine
  same_remade = ap₂ meeting (area_same s x.engine sh.tree sh.last) (ap fresh_list sh.tree)

  same_count : count_of (invalid_area s) ≡ count_of (invalid.invalid_area x.engine)
  same_count = ap count_of (area_same s x.engine sh.tree sh.last)

  same_looks : most_looks s ≡ engine.most_looks x.engine
  same_looks = ap₂ (λ (a : Region) (t : Document). 2 * looks_bound (is_visited a) (drawn t).boxes) (area_same s x.engine sh.tree sh.last) sh.tree

  same_built : length (flat (remade s)) ≡ length (flat (engine.remade x.engine))
  same_built = ap (λ z. length (flat z)) same_remade

  -- where a paint gives up, the machine can go on
  pub paint_may : (made looks : Counter) → made.now ≤ made.was + length (flat (engine.remade x.engine)) → looks.now ≤ looks.was + engine.most_looks x.engine
      → MayGoOn Paints made looks s
  paint_may made looks m l =
      let p = paint_goes s sh.well_formed in
      let b = same_built in
      let k = same_looks in (
        p.0,
        painted_state s p.1,
        p.2,
        settled_sound s.tree sh.well_formed,
        record { items = omega (arith, m, b); taken = omega (arith, l, k) },
      )

  -- each leaf of the list before is there once
  once_before : (last : Option Document) → IsLast last x.engine → IsEngine x.engine → AllPairs (λ a b. same_leaf a b ≡ false) (flat (kept_leaves x.engine.kept.entries))
  once_before (Some t) l e = l.1.once
  once_before None l e = rw ((e.first l).1) (λ i j d k m. absurd (omega (arith, m)))

  module _ (is : IsEngine x.engine) (now : EngineState) (note : PaintNote) (stands : StandsFor (kept_leaves now.kept.entries) (fresh_list x.engine.tree)) (settled : IsSettled x.engine now) (noted : IsNoted x.engine note)
      (numbers : AreNumbered x.engine now) where
    numbered_by : (i : Made) → Contains (flat now.kept.entries) i → (b : Bool) → meets_area (invalid_area s) i.leaf.visible ≡ b → i.made_at ≡ cond b (s.paints + 1) (number_in s.kept i.leaf)
    numbered_by i c true h =
        numbers.made i c (ap (λ a. meets_area a i.leaf.visible) (sym (area_same s x.engine sh.tree sh.last)) ∙ h) ∙ ap (λ n. n + 1) (sym sh.paints)
    numbered_by i c false h =
        let before = numbers.kept i c (ap (λ a. meets_area a i.leaf.visible) (sym (area_same s x.engine sh.tree sh.last)) ∙ h) in
        sym (ap (λ k. number_in k i.leaf) sh.kept ∙ kept_number x.engine.kept.entries i (once_before s.last sh.last is) before)

    numbered_all : AllByRecursion (IsNumbered s) (flat (unordered now.kept.entries))
    numbered_all =
        subst (λ (ms : List Made). AllByRecursion (IsNumbered s) ms) (sym (flat-unordered now.kept.entries))
        (all_items (IsNumbered s) (flat now.kept.entries) (λ i c. numbered_by i c (meets_area (invalid_area s) i.leaf.visible) refl))

    built_is : note.built ≡ length (flat (remade s))
    built_is = noted.built ∙ sym same_built

    area_is : note.area ≡ count_of (invalid_area s)
    area_is = noted.area ∙ sym same_count

    number_is : note.number ≡ s.paints + 1
    number_is = noted.number ∙ ap (λ n. n + 1) (sym sh.paints)

    paints : Paints s (paint_line note.number note.built note.kept note.area) (painted_state s (unordered now.kept.entries))
    paints = record {
      stands = rw (unordered_leaves now.kept.entries) (subst (λ (t : Document). StandsFor (kept_leaves now.kept.entries) (fresh_list t)) (sym sh.tree) stands);
      numbers = numbered_all;
      settled = refl;
      others = note.kept;
      all = ap (λ n. n + note.kept) (sym built_is) ∙ noted.kept ∙ ap (λ t. length (flat (fresh_list t))) (sym sh.tree);
      told = ap (λ n. paint_line n note.built note.kept note.area) number_is
          ∙ ap (λ n. paint_line (s.paints + 1) n note.kept note.area) built_is
          ∙ ap (λ n. paint_line (s.paints + 1) (length (flat (remade s))) note.kept n) area_is;
    }

    abbrev after : SessionState
    after = record { engine = now; accepted = x.accepted; refused = x.refused; built = x.built + note.built; area = x.area + note.area; keeps = x.keeps; undo = x.undo }

    shows : Shows after (painted_state s (unordered now.kept.entries))
    shows = record {
      tree = ap untouched sh.tree ∙ sym settled.tree;
      pending = sym settled.pending;
      paints = ap (λ n. n + 1) sh.paints ∙ sym settled.paints;
      kept = refl;
      last = (
        (let p = settled.paints in omega (arith, p)),
        subst (λ (t : Document). StandsFor (kept_leaves now.kept.entries) (fresh_list t)) (sym sh.tree) stands,
      );
      accepted = sh.accepted;
      refused = sh.refused;
      built = ap₂ (λ a b. a + b) sh.built (sym built_is);
      area = ap₂ (λ a b. a + b) sh.area (sym area_is);
      undos = sh.undos;
      room = sh.room;
      well_formed = settled_sound s.tree sh.well_formed;
    }

    -- a paint of the engine is one of the machine
    pub paint_advances : (made looks : Counter) → made.now ≡ made.was + note.built → looks.now ≤ looks.was + engine.most_looks x.engine
        → Advances Paints made looks s (paint_line note.number note.built note.kept note.area) after
    paint_advances made looks m l =
        let b = built_is in
        let k = same_looks in (
          painted_state s (unordered now.kept.entries),
          paints,
          shows,
          record { items = omega (arith, m, b); taken = omega (arith, l, k) },
        )
