-- Nodes that get new lists, and nodes that are moved to their places.
use Rattle.std.proofs.Common.{◌≡◌, refl, ap, ◌∙◌, sym, subst, List, [], ◌∷◌, ◌++◌, ℕ, zero, suc, ◌<◌, ◌+◌, length, take, drop, get_or, set, arith, append_assoc, inl}
use Rattle.std.proofs.lemmas.List.{take_more, append-nil, map-append}
use Rattle.std.specs.Prelude.{◌^◌, IfSome, map, Option, None, Some, option_map, vec_capacity}
use Rattle.std.specs.declared.vec.Vec.{Vec}
use Rattle.smallvec.specs.SmallVec.{SmallVec}
use Rattle.rd_keys.specs.declared.entry.EntryKey.{EntryKey}
use Rattle.rd_graph.specs.Graphs.{Graph}
use Rattle.rd_graph.specs.Gathered.{gathered, arranged, IsLine}
use Rattle.rd_graph.specs.Patches.{PatchOf, FitsPatch, with_list, with_lists, AreWithin}
use Rattle.rd_graph.specs.Internal.Patching.{lists_seen, HasRoom}
use Rattle.rd_graph.specs.Internal.Seen.{seen}
use Rattle.rd_graph.specs.Runs.{places_of}
use Rattle.rd_graph.specs.declared.graph.Node.{Node}
use Rattle.rd_graph.specs.declared.runs.Run.{Run}
use Rattle.rd_graph.proofs.Lists.Listing.{Has, contains_from, has_right, has_map}

-- ---- lists

pub list_put : (ns : List Node) (i : ℕ) (x y : Node) → i < length ns → x ≡ get_or ns i x → y.key ≡ x.key → seen (set ns i y) ≡ with_list i y.before.items (seen ns)
list_put [] i x y h e k = absurd (omega arith)
list_put (n ∷ ns) zero x y h e k = ap (λ (z : EntryKey). (z, y.before.items) ∷ seen ns) (k ∙ ap (λ (m : Node). m.key) e)
list_put (n ∷ ns) (suc i) x y h e k = ap (λ (g : Graph EntryKey). (n.key, n.before.items) ∷ g) (list_put ns i x y (omega arith) e k)

module _ {E : Type 0} where
  pub with_list-length : (i : ℕ) (ps : List E) (g : Graph E) → length (with_list i ps g) ≡ length g
  with_list-length i ps [] = refl
  with_list-length zero ps (x ∷ xs) = refl
  with_list-length (suc i) ps (x ∷ xs) = ap suc (with_list-length i ps xs)

  pub with_lists-length : (ls : List (ℕ × List E)) (g : Graph E) → length (with_lists ls g) ≡ length g
  with_lists-length [] g = refl
  with_lists-length (l ∷ ls) g = with_lists-length ls (with_list l.0 l.1 g) ∙ with_list-length l.0 l.1 g

  pub with_lists-append : (ls ms : List (ℕ × List E)) (g : Graph E) → with_lists (ls ++ ms) g ≡ with_lists ms (with_lists ls g)
  with_lists-append [] ms g = refl
  with_lists-append (l ∷ ls) ms g = with_lists-append ls ms (with_list l.0 l.1 g)

pub seen-length : (ns : List Node) → length (seen ns) ≡ length ns
seen-length [] = refl
seen-length (n ∷ ns) = ap suc (seen-length ns)

module _ (start now : List Node) (all yielded rest more : List (ℕ × SmallVec EntryKey)) (x : ℕ × SmallVec EntryKey)
    (lists : all ≡ yielded ++ rest) (is : rest ≡ x ∷ more) (put : seen now ≡ with_lists (lists_seen yielded) (seen start)) where
  pub list_within : AreWithin (lists_seen all) (seen start) → x.0 < length now
  list_within within =
      let there : Has all x = rw (lists, is) (has_right yielded (x ∷ more) x (inl refl)) in
      let seen_there : Has (lists_seen all) (x.0, x.1.items) = has_map (λ (l : ℕ × SmallVec EntryKey). (l.0, l.1.items)) all x there in
      let w : x.0 < length (seen start) = within (x.0, x.1.items) (contains_from (lists_seen all) (x.0, x.1.items) seen_there) in
      let e = with_lists-length (lists_seen yielded) (seen start) in
      let f : length (seen now) ≡ length (with_lists (lists_seen yielded) (seen start)) = ap length put in
      let g = seen-length now in
      omega (arith, w, e, f, g)

  lists_more : (ys : List (ℕ × SmallVec EntryKey)) → lists_seen (ys ++ x ∷ []) ≡ lists_seen ys ++ (x.0, x.1.items) ∷ []
  lists_more [] = refl
  lists_more (y ∷ ys) = ap (λ ls. (y.0, y.1.items) ∷ ls) (lists_more ys)

  pub lists_put : (then : List Node) → seen then ≡ with_list x.0 x.1.items (seen now) → seen then ≡ with_lists (lists_seen (yielded ++ x ∷ [])) (seen start)
  lists_put then is = is ∙ ap (with_list x.0 x.1.items) put ∙ sym (ap (λ ls. with_lists ls (seen start)) (lists_more yielded) ∙ with_lists-append (lists_seen yielded) ((x.0, x.1.items) ∷ []) (seen start))

  pub lists_left : all ≡ (yielded ++ x ∷ []) ++ more
  lists_left = lists ∙ ap (λ zs. yielded ++ zs) is ∙ sym (append_assoc yielded (x ∷ []) more)

-- ---- places

module _ {T : Type 0} where
  gathered-append : (ps qs : List ℕ) (xs : List T) → gathered (ps ++ qs) xs ≡ gathered ps xs ++ gathered qs xs
  gathered-append [] qs xs = refl
  gathered-append (p ∷ ps) qs xs = rw (gathered-append ps qs xs) (sym (append_assoc (take 1 (drop p xs)) (gathered ps xs) (gathered qs xs)))

  pub one_at : (xs : List T) (p : ℕ) (x : T) → p < length xs → x ≡ get_or xs p x → take 1 (drop p xs) ≡ x ∷ []
  one_at [] p x h e = absurd (omega arith)
  one_at (y ∷ ys) zero x h e = ap (λ z. z ∷ []) (sym e)
  one_at (y ∷ ys) (suc p) x h e = one_at ys p x (omega arith) e

  pub gathered_more : (ps : List ℕ) (i : ℕ) (xs start before after : List T) (x : T) → i < length ps → get_or ps i 0 < length xs → x ≡ get_or xs (get_or ps i 0) x
      → before ≡ start ++ gathered (take i ps) xs → after ≡ before ++ x ∷ [] → after ≡ start ++ gathered (take (i + 1) ps) xs
  gathered_more ps i xs start before after x h w e b a =
      rw (a, b, take_more ps i 0 h, gathered-append (take i ps) (get_or ps i 0 ∷ []) xs, append-nil (take 1 (drop (get_or ps i 0) xs)), one_at xs (get_or ps i 0) x w e)
      (append_assoc start (gathered (take i ps) xs) (x ∷ []))

module _ {S T : Type 0} (f : S → T) where
  one_map : (p : ℕ) (xs : List S) → take 1 (drop p (map f xs)) ≡ map f (take 1 (drop p xs))
  one_map zero [] = refl
  one_map (suc p) [] = refl
  one_map zero (x ∷ xs) = refl
  one_map (suc p) (x ∷ xs) = one_map p xs

  pub gathered_map : (ps : List ℕ) (xs : List S) → gathered ps (map f xs) ≡ map f (gathered ps xs)
  gathered_map [] xs = refl
  gathered_map (p ∷ ps) xs = rw (one_map p xs, gathered_map ps xs) (sym (map-append f (take 1 (drop p xs)) (gathered ps xs)))

none_long : {T : Type 0} (xs : List T) → length xs ≡ 0 → xs ≡ []
none_long [] e = refl
none_long (x ∷ xs) e = absurd (omega (arith, e))

pub placed : {A : Type 0} (line : Option (Vec Run A)) (l : Vec Run A) (nodes made after : List Node) (now : List Run) → line ≡ Some l → now ≡ l.items
    → after ≡ gathered (places_of now) (nodes ++ made) → seen after ≡ arranged (option_map (λ v. places_of v.items) line) (seen nodes ++ seen made)
placed line l nodes made after now some is e =
    let gave : after ≡ gathered (places_of l.items) (nodes ++ made) = e ∙ ap (λ rs. gathered (places_of rs) (nodes ++ made)) is in
    ap seen gave ∙ sym (gathered_map (λ (n : Node). (n.key, n.before.items)) (places_of l.items) (nodes ++ made)) ∙ ap (gathered (places_of l.items)) (map-append (λ (n : Node). (n.key, n.before.items)) nodes made)
    ∙ sym (ap (λ o. arranged (option_map (λ v. places_of v.items) o) (seen nodes ++ seen made)) some)

pub fits : (p q : PatchOf EntryKey) (g h : Graph EntryKey) → p ≡ q → g ≡ h → FitsPatch q h → FitsPatch p g
fits p q g h e f is = subst (λ r. FitsPatch r g) (sym e) (subst (λ k. FitsPatch q k) (sym f) is)

pub line_fits : (line : Option (List ℕ)) (ls : List (ℕ × List EntryKey)) (nodes now made : List Node) (n m : ℕ) → IsLine line (length (seen nodes) + length (seen made)) → seen now ≡ with_lists ls (seen nodes)
    → length now ≡ n → length made ≡ m → IsLine line (n + m)
line_fits line ls nodes now made n m is put ln lm =
    let a = with_lists-length ls (seen nodes) in
    let b : length (seen now) ≡ length (with_lists ls (seen nodes)) = ap length put in
    let c = seen-length now in
    let d = seen-length made in
    let e : length (seen nodes) + length (seen made) ≡ n + m = omega (arith, a, b, c, d, ln, lm) in
    subst (IsLine line) e is

-- where there is room for a line, it is no longer than a number may be
pub few_in_room : {A B : Type 0} (line : Option (Vec Run A)) (room : Vec Node B) → vec_capacity room < 2 ^ 64 → HasRoom line room → IfSome line (λ l. length (places_of l.items) < 2 ^ 64)
few_in_room None room c h = tt
few_in_room (Some l) room c h = let m = h.1 in omega (arith, c, m)
