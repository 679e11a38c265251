-- The loops over ranks.
use Rattle.std.proofs.Common.{◌≡◌, refl, ap, ◌∙◌, sym, ℕ, ◌+◌, ◌<◌, ◌≤◌, Bool, cond, List, [], ◌∷◌, ◌++◌, length, drop, get_or, inl, inr, arith}
use Rattle.rd_graph.specs.Internal.Walks.{stays_at}
use Rattle.rd_graph.specs.Internal.Ranks.{fixed, rank_after, loose_one, loose}
use Rattle.rd_graph.proofs.Lists.Listing.{cases}
use Rattle.rd_graph.proofs.Lists.Gatherings.{drop_at, joins_on}

pub fixed_next : {E : Type 0} (stays : List Bool) (ps : List ℕ) (ks : List E) (i : ℕ) (d : E) (b : Bool) (now then whole : List E) → i < length ps → length ps ≡ length ks → now ++ fixed stays (drop i ps) (drop i ks) ≡ whole
    → b ≡ stays_at stays (get_or ps i 0) → then ≡ now ++ cond b (get_or ks i d ∷ []) [] → then ++ fixed stays (drop (i + 1) ps) (drop (i + 1) ks) ≡ whole
fixed_next stays ps ks i d b now then whole l e was b_is is =
    let split : fixed stays (drop i ps) (drop i ks) ≡ cond (stays_at stays (get_or ps i 0)) (get_or ks i d ∷ []) [] ++ fixed stays (drop (i + 1) ps) (drop (i + 1) ks) = rw (drop_at ps i 0 l, drop_at ks i d (omega (arith, e, l))) refl in
    joins_on now then (cond (stays_at stays (get_or ps i 0)) (get_or ks i d ∷ []) []) (fixed stays (drop (i + 1) ps) (drop (i + 1) ks)) whole (is ∙ ap (λ c. now ++ cond c (get_or ks i d ∷ []) []) b_is) (sym (ap (λ zs. now ++ zs) split) ∙ was)

pub loose_next : (stays : List Bool) (ps : List ℕ) (i rank next : ℕ) (now then whole : List (ℕ × ℕ)) → i < length ps → now ++ loose stays rank (drop i ps) ≡ whole → then ≡ now ++ loose_one stays rank (get_or ps i 0)
    → next ≡ rank_after stays rank (get_or ps i 0) → then ++ loose stays next (drop (i + 1) ps) ≡ whole
loose_next stays ps i rank next now then whole l was is next_is =
    joins_on now then (loose_one stays rank (get_or ps i 0)) (loose stays next (drop (i + 1) ps)) whole is
    (ap (λ r. now ++ (loose_one stays rank (get_or ps i 0) ++ loose stays r (drop (i + 1) ps))) next_is ∙ sym (ap (λ qs. now ++ loose stays rank qs) (drop_at ps i 0 l)) ∙ was)

pub rank_few : (stays : List Bool) (rank next p i : ℕ) → rank ≤ i → next ≡ rank_after stays rank p → next ≤ i + 1
rank_few stays rank next p i l e = elim (cases (stays_at stays p)) [
  | inl t ↦ let f : next ≡ rank + 1 = rw t at e in omega (arith, f, l)
  | inr t ↦ let f : next ≡ rank = rw t at e in omega (arith, f, l)
]
