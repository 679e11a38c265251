-- The list without entries is ready where each leaf goes.
use Rattle.std.proofs.Common.{◌≡◌, refl, ap, ◌∙◌, sym, subst, Bool, false, List, [], arith, inl, inr}
use Rattle.std.specs.Prelude.{Contains}
use Rattle.rd_graph.specs.Graphs.{nodes}
use Rattle.rd_graph.specs.Orders.{Once}
use Rattle.rd_graph.proofs.Lists.Listing.{Has, has_from, contains_from, has_left, has_right}
use Rattle.rd_list.specs.Entries.{Entries, nil, leaf, group, flat, only}
use Rattle.rd_list.specs.Levels.{Names, keys, level_at, held, StandsFor}
use Rattle.rd_list.specs.Kept.{KeptList, bare, KeptReady}
use Rattle.rd_list.specs.EntryNames.{entry_names}
use Rattle.rd_list.specs.Lists.{leaves_meet}
use Rattle.rd_list.specs.Display.{DisplayStarting}
use Rattle.rd_list.proofs.Merges.Assembling.{level_nil, empty, kept_empty, reach_none}

module _ {E G M L : Type 0} (n : Names E G L) (leaf_of : M → L) (meet : L → L → Bool) (stays : L → Bool) where
  only_none : (xs : Entries G L) → ((l : L) → Has (flat xs) l → stays l ≡ false) → only stays xs ≡ nil
  only_none nil h = refl
  only_none (leaf l xs) h = let f = h l (inl refl) in rw f (only_none xs (λ m k. h m (inr k)))
  only_none (group g inner xs) h =
      rw (only_none inner (λ l k. h l (has_left (flat inner) (flat xs) l k))) (only_none xs (λ l k. h l (has_right (flat inner) (flat xs) l k)))

  none_stands : StandsFor n meet nil nil
  none_stands = record {
    leaves = record { moves = []; below = tt; is = refl };
    once = λ i j d l m. absurd (omega arith);
    grouped = λ i j d l m. absurd (omega arith);
    filled = refl;
    ordered = λ a b c d m. refl;
  }

  pub empty_ready : (fresh : Entries G L) → ((l : L) → Has (flat fresh) l → stays l ≡ false) → KeptReady n leaf_of meet stays (empty n leaf_of stays) fresh
  empty_ready fresh h =
      let none : only stays fresh ≡ nil = only_none fresh h in
      let nowhere : (path : List E) (a : E) → Contains (keys n (level_at {G = G} {L = L} n path nil)) a → ⊥ = λ path a c. has_from [] a (subst (λ (x : Entries G L). Contains (keys n x) a) (level_nil n leaf_of stays path) c) in
      record {
        nodes_are = λ path. subst (λ (k : KeptList E G M). nodes k.graph ≡ keys n (bare n leaf_of k.entries)) (sym (kept_empty n leaf_of stays path)) refl;
        names_once = λ path. subst (λ (x : Entries G L). Once (keys n x)) (sym (level_nil n leaf_of stays path)) tt;
        in_order = λ path a b r. absurd (reach_none n leaf_of stays path a b r);
        ready = record {
          stands = subst (λ (x : Entries G L). StandsFor n meet nil x) (sym none) none_stands;
          sound = λ path. record {
            forward = λ a b r. absurd (nowhere path a r.first);
            linked = λ a b d m. absurd (has_from [] m.one (subst (λ (x : Entries G L). Contains (held n a x) m.one) (ap (level_at n path) none ∙ level_nil n leaf_of stays path) m.in_one));
          };
        };
      }

pub display_starting : DisplayStarting
display_starting = λ fresh stays goes. empty_ready entry_names (λ m. m.leaf) leaves_meet stays fresh (λ l h. goes l (contains_from (flat fresh) l h))
