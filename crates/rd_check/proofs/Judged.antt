-- What a verdict tells, by what its parts found.
use Rattle.std.proofs.Common.{◌≡◌, ℕ, ◌<◌, List, [], length, map, get_or, Option, Some, None, Result, refl, sym, ap, subst, ◌∙◌, arith}
use Rattle.std.specs.Prelude.{IfOk, IfSome}
use Rattle.std.proofs.lemmas.Result.{IfOk-weaker}
use Rattle.std.proofs.lemmas.List.{length-map}
use Rattle.std.proofs.lemmas.Option.{slice_get_read}
use Rattle.rd_graph.specs.Orders as orders
use Rattle.rd_keys.specs.declared.entry.EntryKey.{EntryKey}
use Rattle.rd_check.specs.declared.around.Found.{Found}
use Rattle.rd_check.specs.declared.painted.Painted.{Painted}
use Rattle.rd_check.specs.declared.verdict.Verdict.{Verdict}
use Rattle.rd_check.specs.declared.verdict.Verdict.TheVariants.{Twice, Extra, Differs, Wrapped, Missing, Order, Yes}
use Rattle.rd_check.specs.Verdicts.{IsFirst, Never}
use Rattle.rd_check.specs.Internal.Lines.{KeyedRow, Way, row_name}
use Rattle.rd_check.specs.Internal.Rounds.{way_in, ways_in}
use Rattle.rd_check.specs.Internal.Finding.{Sight, way_name, sight_by, names_in, sights_in, IsHit, IsFound, IsFoundPair, IsTwiceIn, IsCrossedIn, TwiceIn, ExtraIn, DifferentIn, WrappedIn, AbsentIn, IsMissingIn, is_extra, is_different, wrapped_from, is_none_of, Tells, AfterTwice, AfterExtra, AfterDifferent, AfterWrapped, AfterAbsent, OfLines}
use Rattle.rd_check.specs.Internal.Sights.{sight_of, sights_of, lines_of, found_name}
use Rattle.rd_check.specs.declared.naming.Entry as entry
use Rattle.rd_check.specs.declared.seen.Seen.{Seen}
use Rattle.rd_check.specs.Internal.Keyed.{shown}
use Rattle.rd_check.proofs.Searching.{map_map, names_differ}
use Rattle.rd_check.proofs.Slots.{map_slice, once_to}

-- a search that found one, and one that found none
pub one_found : (P : ℕ → Type 0) (o : Option ℕ) (i : ℕ) → IsFound P o → o ≡ Some i → IsFirst P i
one_found P o i h e = subst (IsFound P) e h

pub none_found : (P : ℕ → Type 0) (o : Option ℕ) → IsFound P o → o ≡ None → Never P
none_found P o h e = subst (IsFound P) e h

-- the names of leaves
found_names : (p : Painted) → map found_name p.leaves.items ≡ map way_name (ways_in p)
found_names p = sym (map_map way_name (way_in p.rounds.rows.items) p.leaves.items)

pub titles_once : (names lent : List EntryKey) (o : Option ℕ) → lent ≡ names → IsFound (IsTwiceIn lent) o → o ≡ None → orders.Once names
titles_once names lent o l h e = once_to names (names_differ names (subst (λ (z : List EntryKey). Never (IsTwiceIn z)) l (none_found (IsTwiceIn lent) o h e)))

module _ (rows : List KeyedRow) (p : Painted) where
  abbrev ways : List Way
  ways = ways_in p

  -- what is seen of the lines
  pub sights_are : (sights : List Sight) (places : List EntryKey) → sights ≡ map (sight_by places) rows → places ≡ map way_name ways → sights ≡ sights_in rows ways
  sights_are sights places e n = e ∙ ap (λ (z : List EntryKey). map (sight_by z) rows) n

  pub found_twice : (names lent : List EntryKey) (o : Option ℕ) → names ≡ names_in rows → lent ≡ names → IsFound (IsTwiceIn lent) o → IsFound (TwiceIn rows) o
  found_twice names lent o e l h = subst (λ (z : List EntryKey). IsFound (IsTwiceIn z) o) (l ∙ e) h

  pub found_extra : (sights : List Sight) (o : Option ℕ) → sights ≡ sights_in rows ways → IsFound (IsHit (map is_extra sights)) o → IsFound (ExtraIn rows ways) o
  found_extra sights o e h = subst (λ (z : List Sight). IsFound (IsHit (map is_extra z)) o) e h

  pub found_different : (sights : List Sight) (o : Option ℕ) → sights ≡ sights_in rows ways → IsFound (IsHit (map (is_different ways) sights)) o → IsFound (DifferentIn rows ways) o
  found_different sights o e h = subst (λ (z : List Sight). IsFound (IsHit (map (is_different ways) z)) o) e h

  pub found_wrapped : (sights : List Sight) (o : Option ℕ) → sights ≡ sights_in rows ways → IsFound (IsHit (wrapped_from ways [] sights)) o → IsFound (WrappedIn rows ways) o
  found_wrapped sights o e h = subst (λ (z : List Sight). IsFound (IsHit (wrapped_from ways [] z)) o) e h

  pub found_absent : (names : List EntryKey) (lent : List Found) (o : Option ℕ) → names ≡ names_in rows → lent ≡ p.leaves.items → IsFound (IsHit (map (is_none_of names) (map found_name lent))) o
      → IsFound (AbsentIn rows ways) o
  found_absent names lent o n l h =
      subst (λ (z : List EntryKey). IsFound (IsHit (map (is_none_of z) (map way_name ways))) o) n
      (subst (λ (z : List EntryKey). IsFound (IsHit (map (is_none_of names) z)) o) (ap (map found_name) l ∙ found_names p) h)

  pub found_crossed : (sights : List Sight) (o : Option (ℕ × ℕ)) → sights ≡ sights_in rows ways → IsFoundPair (IsCrossedIn sights) o → IsFoundPair (IsCrossedIn (sights_in rows ways)) o
  found_crossed sights o e h = subst (λ (z : List Sight). IsFoundPair (IsCrossedIn z) o) e h

  pub missing_is : (i : ℕ) (f : Found) → IsFirst (AbsentIn rows ways) i → i < length p.leaves.items → f ≡ get_or p.leaves.items i f → IsMissingIn rows ways f.leaf.owner f.leaf.part
  missing_is i f first h e = record {
    place = i;
    first = first;
    way = way_in p.rounds.rows.items f;
    way_at = map_slice (way_in p.rounds.rows.items) p.leaves.items i f (slice_get_read p.leaves.items (length p.leaves.items) i f refl h e);
    owner = refl;
    part = refl;
  }

-- the names of leaves differ
pub places_once : (p : Painted) (lent : List Found) → lent ≡ p.leaves.items → orders.Once (map way_name (ways_in p)) → orders.Once (map found_name lent)
places_once p lent l o = subst (λ (z : List EntryKey). orders.Once z) (sym (ap (map found_name) l ∙ found_names p)) o

-- ---- few entries

pub few_names : (es : List entry.Entry) (names lent : List EntryKey) (i : ℕ) → names ≡ names_in (lines_of es) → lent ≡ names → i < length lent → length es < 4294967296 → i < 4294967296
few_names es names lent i e l h few =
    let a : length lent ≡ length (map row_name (map shown es)) = ap length (l ∙ e) in
    let b = length-map (map shown es) row_name in
    let d = length-map es shown in
    omega (arith, a, b, d, h, few)

pub few_seen : (es : List entry.Entry) (places : List EntryKey) (seen lent : List Seen) → sights_of seen ≡ map (sight_by places) (lines_of es) → lent ≡ seen
    → length es < 4294967296 → length lent < 4294967296
few_seen es places seen lent e l few =
    let a : length (map sight_of seen) ≡ length (map (sight_by places) (map shown es)) = ap length e in
    let b = length-map (map shown es) (sight_by places) in
    let d = length-map es shown in
    let f = length-map seen sight_of in
    let g : length lent ≡ length seen = ap length l in
    omega (arith, a, b, d, f, g, few)

-- the place of one that was found
pub some_below : (o : Option ℕ) (i n : ℕ) → IfSome o (λ i. i < n) → o ≡ Some i → i < n
some_below o i n h e = subst (λ (z : Option ℕ). IfSome z (λ i. i < n)) e h

pub pair_below : (o : Option (ℕ × ℕ)) (q : ℕ × ℕ) (n : ℕ) → IfSome o (λ q. (q.0 < n) × (q.1 < n)) → o ≡ Some q → (q.0 < n) × (q.1 < n)
pair_below o q n h e = subst (λ (z : Option (ℕ × ℕ)). IfSome z (λ q. (q.0 < n) × (q.1 < n))) e h

-- ---- one search after another

module _ (p : Painted) (names : List EntryKey) (sights : List Sight) where
  abbrev told_by : (Verdict → List KeyedRow → Type 0) → Verdict → Type 0
  told_by P v = OfLines (P v) names sights (ways_in p)

  pub told_order : (o : Option (ℕ × ℕ)) (q : ℕ × ℕ) → IsFoundPair (IsCrossedIn sights) o → o ≡ Some q → OfLines (AfterAbsent (ways_in p) (Order q.0 q.1)) names sights (ways_in p)
  told_order o q h e rows n s t x d w a =
      (t, x, d, w, a, subst (IsFoundPair (IsCrossedIn (sights_in rows (ways_in p)))) e (found_crossed rows p sights o s h))

  pub told_yes : (o : Option (ℕ × ℕ)) → IsFoundPair (IsCrossedIn sights) o → o ≡ None → OfLines (AfterAbsent (ways_in p) Yes) names sights (ways_in p)
  told_yes o h e rows n s t x d w a =
      (t, x, d, w, a, subst (IsFoundPair (IsCrossedIn (sights_in rows (ways_in p)))) e (found_crossed rows p sights o s h))

  pub told_missing : (lent : List Found) (i : ℕ) (f : Found) (v : Verdict) → lent ≡ p.leaves.items → i < length lent → f ≡ get_or lent i f → v ≡ Missing f.leaf.owner f.leaf.part
      → IsFirst (IsHit (map (is_none_of names) (map found_name lent))) i → OfLines (AfterWrapped (ways_in p) v) names sights (ways_in p)
  told_missing lent i f v l h e is first rows n s t x d w =
      subst (Tells rows (ways_in p)) (sym is) (
        t,
        x,
        d,
        w,
        missing_is rows p i f (found_absent rows p names lent (Some i) n l first)
            (subst (λ (z : List Found). i < length z) l h) (subst (λ (z : List Found). f ≡ get_or z i f) l e),
      )

  pub pass_absent : {E : Type 0} (lent : List Found) (r : Result Verdict E) → lent ≡ p.leaves.items → Never (IsHit (map (is_none_of names) (map found_name lent)))
      → IfOk r (λ v. (ks : List EntryKey) → OfLines (AfterAbsent (ways_in p) v) ks sights (ways_in p)) → IfOk r (λ v. OfLines (AfterWrapped (ways_in p) v) names sights (ways_in p))
  pass_absent lent r l none k =
      IfOk-weaker r (λ v. (ks : List EntryKey) → OfLines (AfterAbsent (ways_in p) v) ks sights (ways_in p)) (told_by (AfterWrapped (ways_in p)))
      (λ v f rows n s t x d w. f names rows n s t x d w (found_absent rows p names lent None n l none)) k

  pub told_wrapped : (o : Option ℕ) (i : ℕ) → IsFound (IsHit (wrapped_from (ways_in p) [] sights)) o → o ≡ Some i → OfLines (AfterDifferent (ways_in p) (Wrapped i)) names sights (ways_in p)
  told_wrapped o i h e rows n s t x d = (t, x, d, one_found (WrappedIn rows (ways_in p)) o i (found_wrapped rows p sights o s h) e)

  pub pass_wrapped : {E : Type 0} (o : Option ℕ) (r : Result Verdict E) → IsFound (IsHit (wrapped_from (ways_in p) [] sights)) o → o ≡ None
      → IfOk r (λ v. OfLines (AfterWrapped (ways_in p) v) names sights (ways_in p)) → IfOk r (λ v. OfLines (AfterDifferent (ways_in p) v) names sights (ways_in p))
  pass_wrapped o r h e k =
      IfOk-weaker r (told_by (AfterWrapped (ways_in p))) (told_by (AfterDifferent (ways_in p)))
      (λ v f rows n s t x d. f rows n s t x d (none_found (WrappedIn rows (ways_in p)) o (found_wrapped rows p sights o s h) e)) k

  pub told_different : (i : ℕ) → IsFirst (IsHit (map (is_different (ways_in p)) sights)) i → OfLines (AfterExtra (ways_in p) (Differs i)) names sights (ways_in p)
  told_different i h rows n s t x = (t, x, found_different rows p sights (Some i) s h)

  pub pass_different : {E : Type 0} (r : Result Verdict E) → Never (IsHit (map (is_different (ways_in p)) sights))
      → IfOk r (λ v. OfLines (AfterDifferent (ways_in p) v) names sights (ways_in p)) → IfOk r (λ v. OfLines (AfterExtra (ways_in p) v) names sights (ways_in p))
  pass_different r h k =
      IfOk-weaker r (told_by (AfterDifferent (ways_in p))) (told_by (AfterExtra (ways_in p)))
      (λ v f rows n s t x. f rows n s t x (found_different rows p sights None s h)) k

  pub told_extra : (i : ℕ) → IsFirst (IsHit (map is_extra sights)) i → OfLines (AfterTwice (ways_in p) (Extra i)) names sights (ways_in p)
  told_extra i h rows n s t = (t, found_extra rows p sights (Some i) s h)

  pub pass_extra : {E : Type 0} (r : Result Verdict E) → Never (IsHit (map is_extra sights))
      → IfOk r (λ v. OfLines (AfterExtra (ways_in p) v) names sights (ways_in p)) → IfOk r (λ v. OfLines (AfterTwice (ways_in p) v) names sights (ways_in p))
  pass_extra r h k =
      IfOk-weaker r (told_by (AfterExtra (ways_in p))) (told_by (AfterTwice (ways_in p)))
      (λ v f rows n s t. f rows n s t (found_extra rows p sights None s h)) k

-- the lines of entries, by what is seen of them
pub known_told : {E : Type 0} (es : List entry.Entry) (p : Painted) (names known places : List EntryKey) (lent : List Found) (all seen : List Seen) (r : Result Verdict E)
    → names ≡ names_in (lines_of es) → known ≡ names → lent ≡ p.leaves.items → places ≡ map found_name lent → sights_of all ≡ map (sight_by places) (lines_of es) → seen ≡ all
    → IfOk r (λ v. OfLines (AfterTwice (ways_in p) v) known (sights_of seen) (ways_in p)) → IfOk r (λ v. AfterTwice (ways_in p) v (lines_of es))
known_told es p names known places lent all seen r n k l q s e h =
    IfOk-weaker r (λ v. OfLines (AfterTwice (ways_in p) v) known (sights_of seen) (ways_in p)) (λ v. AfterTwice (ways_in p) v (lines_of es))
    (λ v f. f (lines_of es) (k ∙ n) (ap sights_of e ∙ sights_are (lines_of es) p (sights_of all) places s (q ∙ ap (map found_name) l ∙ found_names p))) h

pub told_twice : (es : List entry.Entry) (p : Painted) (names lent : List EntryKey) (o : Option ℕ) (i : ℕ) → names ≡ names_in (lines_of es) → lent ≡ names
    → IsFound (IsTwiceIn lent) o → o ≡ Some i → Tells (lines_of es) (ways_in p) (Twice i)
told_twice es p names lent o i n l h e = one_found (TwiceIn (lines_of es)) o i (found_twice (lines_of es) p names lent o n l h) e

pub pass_twice : {E : Type 0} (es : List entry.Entry) (p : Painted) (names lent : List EntryKey) (o : Option ℕ) (r : Result Verdict E) → names ≡ names_in (lines_of es) → lent ≡ names
    → IsFound (IsTwiceIn lent) o → o ≡ None → IfOk r (λ v. AfterTwice (ways_in p) v (lines_of es)) → IfOk r (Tells (lines_of es) (ways_in p))
pass_twice es p names lent o r n l h e k =
    IfOk-weaker r (λ v. AfterTwice (ways_in p) v (lines_of es)) (Tells (lines_of es) (ways_in p))
    (λ v f. f (none_found (TwiceIn (lines_of es)) o (found_twice (lines_of es) p names lent o n l h) e)) k
