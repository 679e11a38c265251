-- An object that was put together from members that may be absent has these, and no others.
use Rattle.std.proofs.Common.{◌≡◌, ℕ, Bool, true, false, ◌&&◌, List, [], ◌∷◌, bytes_eq, Option, Some, None, Ordering, Less, Equal, Greater, nat_cmp, refl, ap, ◌∙◌, true≢false, if◌then◌else◌}
use Rattle.std.proofs.lemmas.Slice.Eq.{bytes_eq-Decides}
use Rattle.std.specs.List.{list_any}
use Rattle.std.specs.Ordering.{match_ordering}
use Rattle.std.specs.Cmp.Lexicographic.{slice_cmp}
use Rattle.serde_json.specs.Data.{Data, Members, no_members, member, put}
use Rattle.serde_json.specs.Find.{get_member}
use Rattle.serde_json.proofs.Views.{get_member-put, get_member-put_other}
use Rattle.rd_scene.specs.Members.{are_known}
use Rattle.rd_scene.specs.Writing.{with_given}

-- a name with its value, where it has one
abbrev pub Field : Type 0
Field = List ℕ × Option Data

-- the members of a list of fields, of which the last is put in first
abbrev pub built : List Field → Members
built [] = no_members
built (f ∷ fs) = with_given f.0 f.1 (built fs)

-- the value of the first field of this name
abbrev pub found : List ℕ → List Field → Option Data
found k [] = None
found k (f ∷ fs) = if bytes_eq k f.0 then f.1 else found k fs

-- Has no field this name?
abbrev pub lacks : List ℕ → List Field → Bool
lacks k [] = true
lacks k (f ∷ fs) = if bytes_eq k f.0 then false else lacks k fs

-- Has each field a name of its own?
abbrev pub are_apart : List Field → Bool
are_apart [] = true
are_apart (f ∷ fs) = lacks f.0 fs && are_apart fs

-- Is each name of a field among these?
abbrev pub are_among : List (List ℕ) → List Field → Bool
are_among names [] = true
are_among names (f ∷ fs) = list_any (bytes_eq f.0) names && are_among names fs

both_true : (a b : Bool) → a ≡ true → b ≡ true → (a && b) ≡ true
both_true true b p q = q
both_true false b p q = p

pub left_true : (a b : Bool) → (a && b) ≡ true → a ≡ true
left_true true b h = refl
left_true false b h = h

pub right_true : (a b : Bool) → (a && b) ≡ true → b ≡ true
right_true true b h = h
right_true false b h = absurd (let no : false ≡ true = h in cc)

-- ---- which names there are

known-put_by : (o : Ordering) (names : List (List ℕ)) (k l : List ℕ) (d e : Data) (ms : Members)
    → list_any (bytes_eq k) names ≡ true
    → are_known names (member l e ms) ≡ true → are_known names (put k d ms) ≡ true
    → are_known names (match_ordering o (member k d (member l e ms)) (member l d ms) (member l e (put k d ms))) ≡ true
known-put_by Less names k l d e ms is all more = both_true _ _ is all
known-put_by Equal names k l d e ms is all more = all
known-put_by Greater names k l d e ms is all more = both_true _ _ (left_true _ _ all) more

known-put : (names : List (List ℕ)) (k : List ℕ) (d : Data) (ms : Members) → list_any (bytes_eq k) names ≡ true
    → are_known names ms ≡ true
    → are_known names (put k d ms) ≡ true
known-put names k d no_members is all = both_true _ _ is refl
known-put names k d (member l e ms) is all =
    known-put_by (slice_cmp nat_cmp k l) names k l d e ms is all (known-put names k d ms is (right_true _ _ all))

known-given : (names : List (List ℕ)) (k : List ℕ) (o : Option Data) (ms : Members)
    → list_any (bytes_eq k) names ≡ true → are_known names ms ≡ true
    → are_known names (with_given k o ms) ≡ true
known-given names k None ms is all = all
known-given names k (Some d) ms is all = known-put names k d ms is all

pub known-built : (names : List (List ℕ)) (fs : List Field) → are_among names fs ≡ true
    → are_known names (built fs) ≡ true
known-built names [] h = refl
known-built names (f ∷ fs) h =
    known-given names f.0 f.1 (built fs) (left_true _ _ h)
    (known-built names fs (right_true (list_any (bytes_eq f.0) names) _ h))

-- ---- which values they have

apart : (q k : List ℕ) → bytes_eq q k ≡ false → q ≡ k → ⊥
apart q k e h = true≢false (let yes : bytes_eq q k ≡ true = (bytes_eq-Decides q k).1 h in cc)

given_other : (q k : List ℕ) (o : Option Data) (ms : Members) → bytes_eq q k ≡ false
    → get_member q (with_given k o ms) ≡ get_member q ms
given_other q k None ms e = refl
given_other q k (Some d) ms e = get_member-put_other q k d ms (apart q k e)

given_here : (k : List ℕ) (o : Option Data) (ms : Members) → get_member k ms ≡ None
    → get_member k (with_given k o ms) ≡ o
given_here k None ms e = e
given_here k (Some d) ms e = get_member-put k d ms

lacking_by : (b : Bool) (q : List ℕ) (f : Field) (fs : List Field) → bytes_eq q f.0 ≡ b
    → (if b then false else lacks q fs) ≡ true
    → (lacks q fs ≡ true → get_member q (built fs) ≡ None) → get_member q (with_given f.0 f.1 (built fs)) ≡ None
lacking_by true q f fs e h later = absurd (let no : false ≡ true = h in cc)
lacking_by false q f fs e h later = given_other q f.0 f.1 (built fs) e ∙ later h

lacking : (q : List ℕ) (fs : List Field) → lacks q fs ≡ true → get_member q (built fs) ≡ None
lacking q [] h = refl
lacking q (f ∷ fs) h = lacking_by (bytes_eq q f.0) q f fs refl h (lacking q fs)

same : (q k : List ℕ) → bytes_eq q k ≡ true → q ≡ k
same q k e = (bytes_eq-Decides q k).0 e

here : (q k : List ℕ) (o : Option Data) (fs : List Field) → q ≡ k → lacks k fs ≡ true
    → get_member q (with_given k o (built fs)) ≡ o
here q k o fs e h = ap (λ n. get_member n (with_given k o (built fs))) e ∙ given_here k o (built fs) (lacking k fs h)

found_by : (b : Bool) (q : List ℕ) (f : Field) (fs : List Field) → bytes_eq q f.0 ≡ b → lacks f.0 fs ≡ true
    → get_member q (built fs) ≡ found q fs
    → get_member q (with_given f.0 f.1 (built fs)) ≡ (if b then f.1 else found q fs)
found_by true q f fs e h later = here q f.0 f.1 fs (same q f.0 e) h
found_by false q f fs e h later = given_other q f.0 f.1 (built fs) e ∙ later

-- the value at a name is that of its field
pub get-built : (q : List ℕ) (fs : List Field) → are_apart fs ≡ true → get_member q (built fs) ≡ found q fs
get-built q [] h = refl
get-built q (f ∷ fs) h =
    found_by (bytes_eq q f.0) q f fs refl (left_true _ _ h) (get-built q fs (right_true (lacks f.0 fs) _ h))
