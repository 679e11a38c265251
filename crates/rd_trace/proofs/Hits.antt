-- Which leaf is hit.
use Rattle.std.proofs.Common.{◌≡◌, refl, sym, ap, ◌∙◌, Bool, true, false, not, ◌&&◌, cond, List, [], ◌∷◌, ◌++◌, map, reverse, ℕ, ◌<◌, ◌≤◌, ◌+◌, length, drop, get_or}
use Rattle.std.specs.Prelude.{filter, Option, Some, None, option_map}
use Rattle.std.proofs.lemmas.List.{at_drop_more, at_drop_all, reverse-append}
use Rattle.rd_keys.specs.Keys.{BoxKey}
use Rattle.rd_item.specs.declared.leaf.Leaf.{Leaf}
use Rattle.rd_item.specs.Leaves.{covers}
use Rattle.rd_list.specs.Wrappers.{Wrapper}
use Rattle.rd_list.specs.Entries.{Entries, flat, routes}
use Rattle.rd_list.specs.Lists.{is_outline, is_hit, last}
use Rattle.rd_tree.specs.Drawn.{drawn}
use Rattle.rd_stack.specs.Fresh.{fresh_list}
use Rattle.rd_stack.proofs.Orders.Members.{filter-map}
use Rattle.rd_stack.proofs.Walk.Filters.{filter_both}
use Rattle.rd_stack.proofs.Walk.Sorting.{filter-same}
use Rattle.rd_trace.specs.declared.placing.Sight.{Sight}
use Rattle.rd_trace.specs.Ways.{Traced, takes_hit, hit_of}
use Rattle.rd_trace.specs.Traces.{traced, sight}
use Rattle.rd_trace.specs.Laws.{untraced, HitLaw}
use Rattle.rd_trace.proofs.Told.{Told, flat-routes}
use Rattle.rd_trace.proofs.TenTold.{tracing}

-- ---- the loop

begins : (ts : List Traced) (i : ℕ) (t : Traced) → i < length ts → t ≡ get_or ts i t → hit_of (drop i ts) ≡ hit_of (t ∷ drop (i + 1) ts)
begins ts i t h e = at_drop_more hit_of ts i t h ∙ ap (λ z. hit_of (z ∷ drop (i + 1) ts)) (sym e)

pub hit_past : (ts : List Traced) (i : ℕ) (t : Traced) (whole : Option BoxKey) → i < length ts → t ≡ get_or ts i t → takes_hit t ≡ false
    → hit_of (drop i ts) ≡ whole → hit_of (drop (i + 1) ts) ≡ whole
hit_past ts i t whole l e n h =
    ap (λ b. cond {A = Option BoxKey} b (Some t.leaf.owner) (hit_of (drop (i + 1) ts))) (sym n) ∙ (sym (begins ts i t l e) ∙ h)

pub hit_here : (ts : List Traced) (i : ℕ) (t : Traced) (whole : Option BoxKey) → i < length ts → t ≡ get_or ts i t → takes_hit t ≡ true
    → hit_of (drop i ts) ≡ whole → Some t.leaf.owner ≡ whole
hit_here ts i t whole l e n h =
    ap (λ b. cond {A = Option BoxKey} b (Some t.leaf.owner) (hit_of (drop (i + 1) ts))) (sym n) ∙ (sym (begins ts i t l e) ∙ h)

pub hit_end : (ts : List Traced) (i : ℕ) (whole : Option BoxKey) → length ts ≤ i → hit_of (drop i ts) ≡ whole → None ≡ whole
hit_end ts i whole l h = sym (at_drop_all hit_of ts i l) ∙ h

-- ---- the law

-- the first where there is one, and else the second
abbrev or_else : {A : Type 0} → Option A → Option A → Option A
or_else None b = b
or_else (Some a) b = Some a

-- what takes hits of the leaves that cover a pixel
abbrev takes : Leaf → Bool
takes l = not (is_outline l.part) && l.hits

hit_append : (ts us : List Traced) → hit_of (ts ++ us) ≡ or_else (hit_of ts) (hit_of us)
hit_append [] us = refl
hit_append (t ∷ ts) us =
    elim (takes_hit t) as (λ b. cond {A = Option BoxKey} b (Some t.leaf.owner) (hit_of (ts ++ us)) ≡ or_else (cond b (Some t.leaf.owner) (hit_of ts)) (hit_of us)) [
      | true ↦ refl
      | false ↦ hit_append ts us
    ]

last_more : (l : Leaf) (ls : List Leaf) → last (l ∷ ls) ≡ or_else (last ls) (Some l)
last_more l [] = refl
last_more l (m ∷ ms) = last_some m ms
  where
    last_some : (m : Leaf) (ms : List Leaf) → last (m ∷ ms) ≡ or_else (last (m ∷ ms)) (Some l)
    last_some m [] = refl
    last_some m (n ∷ ns) = last_some n ns

-- the first from the top is the last from the bottom
turned : (ts : List Traced) → hit_of (reverse ts) ≡ option_map (λ l. l.owner) (last (filter takes (map (λ t. t.leaf) ts)))
turned [] = refl
turned (t ∷ ts) =
    ap hit_of (reverse-append (t ∷ []) ts) ∙ (hit_append (reverse ts) (t ∷ []) ∙ (ap (λ o. or_else o (hit_of (t ∷ []))) (turned ts)
    ∙ one (filter takes (map (λ t. t.leaf) ts)) (takes t.leaf)))
  where
    owned : (o : Option Leaf) → or_else (option_map (λ l. l.owner) o) (Some t.leaf.owner) ≡ option_map (λ l. l.owner) (or_else o (Some t.leaf))
    owned None = refl
    owned (Some l) = refl

    none : (o : Option BoxKey) → or_else o None ≡ o
    none None = refl
    none (Some k) = refl

    one : (ls : List Leaf) (b : Bool) → or_else (option_map (λ l. l.owner) (last ls)) (cond {A = Option BoxKey} b (Some t.leaf.owner) None)
        ≡ option_map (λ l. l.owner) (last (cond b (t.leaf ∷ ls) ls))
    one ls true = owned (last ls) ∙ ap (option_map (λ l. l.owner)) (sym (last_more t.leaf ls))
    one ls false = none (option_map (λ l. l.owner) (last ls))

leaves_of : (ts : List Traced) → map (λ t. t.leaf) ts ≡ map (λ (r : List Wrapper × Leaf). r.1) (map untraced ts)
leaves_of [] = refl
leaves_of (t ∷ ts) = ap (λ ls. t.leaf ∷ ls) (leaves_of ts)

-- the leaves of traced ones are those that cover the pixel
covering : (s : Sight) (ts : List Traced) (a : Entries Wrapper Leaf) → Told s ts a → map (λ t. t.leaf) ts ≡ filter (λ l. covers l s.x s.y) (flat a)
covering s ts a h =
    leaves_of ts ∙ (ap (map (λ (r : List Wrapper × Leaf). r.1)) h.is
    ∙ (filter-map (λ (r : List Wrapper × Leaf). r.1) (λ l. covers l s.x s.y) (routes [] a) ∙ ap (filter (λ l. covers l s.x s.y)) (flat-routes [] a)))

-- a leaf is hit where it covers the pixel and takes hits
hit_test : (a b c : Bool) → (a && (b && c)) ≡ (a && b && c)
hit_test true b c = refl
hit_test false b c = refl

pub hitting : HitLaw
hitting x y t =
    turned (traced x y t)
    ∙ ap (λ ls. option_map (λ (l : Leaf). l.owner) (last ls))
    (ap (filter takes) (covering (sight x y (drawn t)) (traced x y t) (fresh_list t) (record { is = tracing x y t }))
    ∙ filter_both (λ l. covers l x y) takes (flat (fresh_list t))
    ∙ filter-same (λ l. covers l x y && takes l) (is_hit x y) (flat (fresh_list t)) (λ l. hit_test (covers l x y) (not (is_outline l.part)) l.hits))
