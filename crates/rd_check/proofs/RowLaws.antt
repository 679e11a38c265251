-- The lines of a dump: what is taken is the line of an entry, and the line of an entry is taken, whatever follows.
use Rattle.std.proofs.Common.{◌≡◌, ℕ, ◌+◌, ◌^◌, ◌<◌, ◌≤◌, ℤ, pos, negsuc, Bool, true, false, cond, List, [], ◌∷◌, ◌++◌, Option, Some, None, refl, sym, ap, subst, ◌∙◌, arith, append_assoc, append-nil}
use Rattle.std.specs.Prelude.{◌≤ℤ◌, codes, decimal}
use Rattle.std.specs.Fmt.{signed_decimal}
use Rattle.std.specs.Str.{bytes_eq}
use Rattle.std.proofs.lemmas.Int.{ints}
use Rattle.rd_geom.specs.Plane.{Rectangle, IsPlaced}
use Rattle.rd_geom.specs.declared.blend.Blend.{Blend}
use Rattle.rd_geom.specs.declared.blend.Blend.TheVariants.{Normal, Multiply, Screen, Darken, Lighten}
use Rattle.rd_keys.specs.declared.entry.Part.{Part}
use Rattle.rd_tree.specs.Ids.{is_id}
use Rattle.rd_report.specs.Words.{part_text, pointer_text, color_text, mode_text, rect_text, shape_text}
use Rattle.rd_report.specs.Dumps.{NamedItem, NamedGroup, item_line, group_line}
use Rattle.rd_check.specs.Dumped.{IsBytes, IsItem, IsGroup}
use Rattle.rd_check.specs.Internal.Reading.{is_gap, ◌>>=◌, ◌⊗◌, made_by, field, word_before, number_of, byte_of, id_word, signed_of, part_of, pointer_of, mode_of, or_else, color_of}
use Rattle.rd_check.specs.Rows.{item, head, NamedRow}
use Rattle.rd_check.specs.Internal.Rows.{FitsRow, row_line, is_placed, rect_of, rect_at, Label, label_at, Forms, forms_at, Paint, paint_at, to_item, item_at, Ending, plain_ending, ending_at, to_head, head_at, after_word, row_at}
use Rattle.rd_check.proofs.Placed.{placed_back, placed_some}
use Rattle.rd_check.proofs.Spelled.{bytes_same}
use Rattle.rd_check.proofs.Readers.{bind_some, parts_are, IsReader, IsMade, word_takes, word_again, word_other, field_reader, pair_reader, made_reader}
use Rattle.rd_check.proofs.Codes.{IsNear, number_code, byte_code, signed_code, id_code, part_code, pointer_code, mode_code, mode_word, is_normal, number_word}
use Rattle.rd_check.proofs.Colors.{color_code}

-- ---- rectangles

near_of : (z : ℤ) → negsuc 1999999999 ≤ℤ z → z ≤ℤ pos 2000000000 → IsNear z
near_of (pos n) a b = omega (arith, ints, b)
near_of (negsuc n) a b = omega (arith, ints, a)

abbrev Four : Type 0
Four = ℤ × (ℤ × (ℤ × ℤ))

abbrev four : Rectangle → Four
four r = (r.x, (r.y, (r.w, r.h)))

abbrev AreNear : Four → Type 0
AreNear v = IsNear v.0 × (IsNear v.1.0 × (IsNear v.1.1.0 × IsNear v.1.1.1))

abbrev four_text : ℕ → Four → List ℕ
four_text gap v = (signed_decimal v.0 ++ 32 ∷ []) ++ ((signed_decimal v.1.0 ++ 32 ∷ []) ++ ((signed_decimal v.1.1.0 ++ 32 ∷ []) ++ (signed_decimal v.1.1.1 ++ gap ∷ [])))

are_near : (r : Rectangle) → IsPlaced r → AreNear (four r)
are_near r p =
    let a = p.wide in
    let b = p.high in
    let c = p.from_left in
    let d = p.from_top in
    let e = p.to_right in
    let f = p.to_bottom in (
      near_of r.x (omega (arith, ints, c)) (omega (arith, ints, a, e)),
      (
        near_of r.y (omega (arith, ints, d)) (omega (arith, ints, b, f)),
        (
          near_of r.w (omega (arith, ints, a)) (omega (arith, ints, c, e)),
          near_of r.h (omega (arith, ints, b)) (omega (arith, ints, d, f)),
        ),
      ),
    )

rect_there : (v : Four) (r : Rectangle) → rect_of v ≡ Some r → AreNear v → (v ≡ four r) × IsPlaced r
rect_there v r e near = by_test (is_placed made) refl e
  where
    made : Rectangle
    made = record { x = v.0; y = v.1.0; w = v.1.1.0; h = v.1.1.1 }

    by_test : (t : Bool) → is_placed made ≡ t → cond t (Some made) None ≡ Some r → (v ≡ four r) × IsPlaced r
    by_test true f g = let same : made ≡ r = cc in subst (λ (s : Rectangle). (v ≡ four s) × IsPlaced s) same (refl, placed_back made f)
    by_test false f g = absurd cc

rect_made : IsMade rect_of four AreNear IsPlaced
rect_made = record { there = rect_there; back = λ r p. (are_near r p, placed_some r p) }

rect_reader : (gap : ℕ) → is_gap gap ≡ true → IsReader (rect_at gap) (λ r. four_text gap (four r)) IsPlaced
unfolding rect_at
rect_reader gap is =
    let num = field_reader signed_of signed_decimal IsNear signed_code 32 refl in
    let end = field_reader signed_of signed_decimal IsNear signed_code gap is in
    let wh = pair_reader _ _ _ _ _ _ num end in
    let ywh = pair_reader _ _ _ _ _ _ num wh in
    let all = pair_reader _ _ _ _ _ _ num ywh in
    made_reader rect_of four AreNear IsPlaced rect_made _ _ all

-- ---- the parts of a line

abbrev label_text : Label → List ℕ
label_text v = (decimal v.0 ++ 32 ∷ []) ++ (v.1 ++ 32 ∷ [])

abbrev FitsLabel : Label → Type 0
FitsLabel v = (v.0 < 2 ^ 64) × (is_id v.1 ≡ true)

label_reader : IsReader label_at label_text FitsLabel
unfolding label_at
label_reader = pair_reader _ _ _ _ _ _ (field_reader number_of decimal (λ n. n < 2 ^ 64) number_code 32 refl) (field_reader id_word (λ i. i) (λ i. is_id i ≡ true) id_code 32 refl)

abbrev forms_text : Forms → List ℕ
forms_text v = four_text 32 (four v.0) ++ (four_text 32 (four v.1.0) ++ four_text 32 (four v.1.1))

abbrev FitForms : Forms → Type 0
FitForms v = IsPlaced v.0 × (IsPlaced v.1.0 × IsPlaced v.1.1)

forms_reader : IsReader forms_at forms_text FitForms
unfolding forms_at
forms_reader = pair_reader _ _ _ _ _ _ (rect_reader 32 refl) (pair_reader _ _ _ _ _ _ (rect_reader 32 refl) (rect_reader 32 refl))

abbrev paint_text : Paint → List ℕ
paint_text v = (color_text v.0 ++ 32 ∷ []) ++ ((pointer_text v.1.0 ++ 32 ∷ []) ++ (decimal v.1.1 ++ 10 ∷ []))

abbrev FitsPaint : Paint → Type 0
FitsPaint v = IsBytes v.0 × (Unit {0} × (v.1.1 < 2 ^ 64))

paint_reader : IsReader paint_at paint_text FitsPaint
unfolding paint_at
paint_reader =
    pair_reader _ _ _ _ _ _ (field_reader color_of color_text IsBytes color_code 32 refl)
    (pair_reader _ _ _ _ _ _ (field_reader pointer_of pointer_text (λ p. Unit {0}) pointer_code 32 refl) (field_reader number_of decimal (λ n. n < 2 ^ 64) number_code 10 refl))

abbrev Leafy : Type 0
Leafy = Label × (Part × (Forms × Paint))

abbrev leafy_text : Leafy → List ℕ
leafy_text v = label_text v.0 ++ ((part_text v.1.0 ++ 32 ∷ []) ++ (forms_text v.1.1.0 ++ paint_text v.1.1.1))

abbrev FitsLeafy : Leafy → Type 0
FitsLeafy v = FitsLabel v.0 × (Unit {0} × (FitForms v.1.1.0 × FitsPaint v.1.1.1))

leafy_reader : IsReader (label_at ⊗ (field part_of 32 ⊗ (forms_at ⊗ paint_at))) leafy_text FitsLeafy
leafy_reader =
    pair_reader _ _ _ _ _ _ label_reader
    (pair_reader _ _ _ _ _ _ (field_reader part_of part_text (λ p. Unit {0}) part_code 32 refl) (pair_reader _ _ _ _ _ _ forms_reader paint_reader))

-- a number of entries and a mode, which is named where it is not normal
abbrev ending_text : Ending → List ℕ
ending_text v = (decimal v.0 ++ mode_text v.1) ++ 10 ∷ []

abbrev FitsEnding : Ending → Type 0
FitsEnding v = v.0 < 2 ^ 64

abbrev IsPlain : Ending → Type 0
IsPlain v = (v.0 < 2 ^ 64) × (v.1 ≡ Normal)

abbrev plain_at : List ℕ → Option (Ending × List ℕ)
plain_at = made_by plain_ending (field number_of 10)

plain_made : IsMade plain_ending (λ v. v.0) (λ n. n < 2 ^ 64) IsPlain
plain_made = record {
  there = λ n v e h. let same : (n, Normal) ≡ v = cc in (ap (λ (z : Ending). z.0) same, (subst (λ (z : Ending). z.0 < 2 ^ 64) same h, sym (ap (λ (z : Ending). z.1) same)));
  back = λ v h. (h.0, ap (λ m. Some (v.0, m)) (sym h.1));
}

plain_reader : IsReader plain_at (λ v. decimal v.0 ++ 10 ∷ []) IsPlain
plain_reader = made_reader plain_ending (λ v. v.0) (λ n. n < 2 ^ 64) IsPlain plain_made _ _ (field_reader number_of decimal (λ n. n < 2 ^ 64) number_code 10 refl)

abbrev named_at : List ℕ → Option (Ending × List ℕ)
named_at = field number_of 32 ⊗ field mode_of 10

abbrev named_text : Ending → List ℕ
named_text v = (decimal v.0 ++ 32 ∷ []) ++ (mode_word v.1 ++ 10 ∷ [])

abbrev IsModed : Ending → Type 0
IsModed v = (v.0 < 2 ^ 64) × (is_normal v.1 ≡ false)

named_reader : IsReader named_at named_text IsModed
named_reader = pair_reader _ _ _ _ _ _ (field_reader number_of decimal (λ n. n < 2 ^ 64) number_code 32 refl) (field_reader mode_of mode_word (λ m. is_normal m ≡ false) mode_code 10 refl)

plain_spelled : (n : ℕ) (m : Blend) → m ≡ Normal → decimal n ++ 10 ∷ [] ≡ (decimal n ++ mode_text m) ++ 10 ∷ []
plain_spelled n m e = ap (λ z. z ++ 10 ∷ []) (sym (append-nil (decimal n)) ∙ ap (λ z. decimal n ++ mode_text z) (sym e))

mode_spelled : (m : Blend) → is_normal m ≡ false → mode_text m ≡ 32 ∷ mode_word m
mode_spelled Normal h = absurd cc
mode_spelled Multiply h = refl
mode_spelled Screen h = refl
mode_spelled Darken h = refl
mode_spelled Lighten h = refl

joined_spelled : (a w r : List ℕ) → (a ++ 32 ∷ []) ++ (w ++ r) ≡ (a ++ 32 ∷ w) ++ r
joined_spelled a w r = simp append_assoc refl

named_spelled : (n : ℕ) (m : Blend) → is_normal m ≡ false → named_text (n, m) ≡ ending_text (n, m)
named_spelled n m h = joined_spelled (decimal n) (mode_word m) (10 ∷ []) ∙ ap (λ z. (decimal n ++ z) ++ 10 ∷ []) (sym (mode_spelled m h))

ending_takes : (bytes : List ℕ) (v : Ending) (rest : List ℕ) → ending_at bytes ≡ Some (v, rest) → (bytes ≡ ending_text v ++ rest) × FitsEnding v
unfolding ending_at
ending_takes bytes v rest e = by_first (plain_at bytes) refl e
  where
    by_first : (r : Option (Ending × List ℕ)) → plain_at bytes ≡ r → or_else r (named_at bytes) ≡ Some (v, rest) → (bytes ≡ ending_text v ++ rest) × FitsEnding v
    by_first None p g =
        let k = named_reader.takes bytes v rest g in
        (k.0 ∙ ap (λ z. z ++ rest) (named_spelled v.0 v.1 k.1.1), k.1.0)
    by_first (Some x) p g =
        let k = plain_reader.takes bytes v rest (p ∙ g) in
        (k.0 ∙ ap (λ z. z ++ rest) (plain_spelled v.0 v.1 k.1.1), k.1.0)

abbrev number_from : Option (List ℕ × List ℕ) → Option (ℕ × List ℕ)
number_from z = z >>= λ w. number_of w.0 >>= λ x. Some (x, w.1)

abbrev plain_from : Option (ℕ × List ℕ) → Option (Ending × List ℕ)
plain_from z = z >>= λ x. plain_ending x.0 >>= λ y. Some (y, x.1)

no_plain : (n : ℕ) (w rest : List ℕ) → n < 2 ^ 64 → plain_at (decimal n ++ 32 ∷ (w ++ rest)) ≡ None
no_plain n w rest h = ap (λ (z : Option (List ℕ × List ℕ)). plain_from (number_from z)) (word_other 10 32 (decimal n) (w ++ rest) refl refl (number_word n h))

ending_again : (n : ℕ) (m : Blend) (rest : List ℕ) → n < 2 ^ 64 → ending_at (ending_text (n, m) ++ rest) ≡ Some ((n, m), rest)
unfolding ending_at
ending_again n m rest h = by_mode (is_normal m) refl
  where
    named : (m : Blend) → is_normal m ≡ true → m ≡ Normal
    named Normal e = refl
    named Multiply e = absurd cc
    named Screen e = absurd cc
    named Darken e = absurd cc
    named Lighten e = absurd cc

    flat : (a w r : List ℕ) → ((a ++ 32 ∷ []) ++ (w ++ 10 ∷ [])) ++ r ≡ a ++ 32 ∷ ((w ++ 10 ∷ []) ++ r)
    flat a w r = simp append_assoc refl

    by_mode : (t : Bool) → is_normal m ≡ t → or_else (plain_at (ending_text (n, m) ++ rest)) (named_at (ending_text (n, m) ++ rest)) ≡ Some ((n, m), rest)
    by_mode true e =
        let text = ap (λ z. z ++ rest) (sym (plain_spelled n m (named m e))) in
        ap (λ z. or_else z (named_at (ending_text (n, m) ++ rest))) (ap plain_at text ∙ plain_reader.again (n, m) rest (h, named m e))
    by_mode false e =
        let text = ap (λ z. z ++ rest) (sym (named_spelled n m e)) in
        ap (λ z. or_else z (named_at (ending_text (n, m) ++ rest))) (ap plain_at (text ∙ flat (decimal n) (mode_word m) rest) ∙ no_plain n (mode_word m ++ 10 ∷ []) rest h)
        ∙ ap named_at text ∙ named_reader.again (n, m) rest (h, e)

ending_reader : IsReader ending_at ending_text FitsEnding
ending_reader = record { takes = ending_takes; again = λ v rest h. ending_again v.0 v.1 rest h }

abbrev Headed : Type 0
Headed = Label × (ℕ × Ending)

abbrev headed_text : Headed → List ℕ
headed_text v = label_text v.0 ++ ((decimal v.1.0 ++ 32 ∷ []) ++ ending_text v.1.1)

abbrev FitsHeaded : Headed → Type 0
FitsHeaded v = FitsLabel v.0 × ((v.1.0 < 256) × FitsEnding v.1.1)

headed_reader : IsReader (label_at ⊗ (field byte_of 32 ⊗ ending_at)) headed_text FitsHeaded
headed_reader =
    pair_reader _ _ _ _ _ _ label_reader
    (pair_reader _ _ _ _ _ _ (field_reader byte_of decimal (λ n. n < 256) byte_code 32 refl) ending_reader)

-- ---- lines

-- an item as it is read
abbrev leafy : ℕ → NamedItem → Leafy
leafy d i = ((d, i.id), (i.part, ((i.visible, (i.shape.outer, i.shape.inner)), (i.color, (i.hits, i.made_at)))))

abbrev made_item : Leafy → NamedItem
made_item v = record {
  id = v.0.1;
  part = v.1.0;
  visible = v.1.1.0.0;
  shape = record { outer = v.1.1.0.1.0; inner = v.1.1.0.1.1 };
  color = v.1.1.1.0;
  hits = v.1.1.1.1.0;
  made_at = v.1.1.1.1.1;
}

one : (a t r : List ℕ) → (a ++ 32 ∷ t) ++ r ≡ a ++ 32 ∷ (t ++ r)
one a t r = append_assoc a (32 ∷ t) r

three : (v o n t : List ℕ) → (v ++ 32 ∷ (o ++ 32 ∷ n)) ++ t ≡ v ++ 32 ∷ (o ++ 32 ∷ (n ++ t))
three v o n t = append_assoc v (32 ∷ (o ++ 32 ∷ n)) t ∙ ap (λ z. v ++ 32 ∷ z) (append_assoc o (32 ∷ n) t)

four_flat : (a b c d t : List ℕ) → ((a ++ 32 ∷ []) ++ ((b ++ 32 ∷ []) ++ ((c ++ 32 ∷ []) ++ (d ++ 32 ∷ [])))) ++ t ≡ a ++ 32 ∷ (b ++ 32 ∷ (c ++ 32 ∷ (d ++ 32 ∷ t)))
four_flat a b c d t = simp append_assoc refl

rect_spelled : (r : Rectangle) (t : List ℕ) → rect_text r ++ 32 ∷ t ≡ four_text 32 (four r) ++ t
unfolding rect_text
rect_spelled r t =
    let a : List ℕ = signed_decimal r.x in
    let b : List ℕ = signed_decimal r.y in
    let c : List ℕ = signed_decimal r.w in
    let d : List ℕ = signed_decimal r.h in
    append_assoc a (32 ∷ (b ++ 32 ∷ (c ++ 32 ∷ d))) (32 ∷ t)
    ∙ ap (λ z. a ++ 32 ∷ z) (three b c d (32 ∷ t))
    ∙ sym (four_flat a b c d t)

item_flat : (d i p v o n c h m rest : List ℕ)
    → (d ++ 32 ∷ (i ++ 32 ∷ (p ++ 32 ∷ ((v ++ 32 ∷ (o ++ 32 ∷ n)) ++ 32 ∷ (c ++ 32 ∷ (h ++ 32 ∷ (m ++ 10 ∷ []))))))) ++ rest
    ≡ d ++ 32 ∷ (i ++ 32 ∷ (p ++ 32 ∷ (v ++ 32 ∷ (o ++ 32 ∷ (n ++ 32 ∷ (c ++ 32 ∷ (h ++ 32 ∷ (m ++ 10 ∷ rest))))))))
item_flat d i p v o n c h m rest =
    one d _ rest
    ∙ ap (λ z. d ++ 32 ∷ z) (one i _ rest
    ∙ ap (λ z. i ++ 32 ∷ z) (one p _ rest
    ∙ ap (λ z. p ++ 32 ∷ z) (append_assoc (v ++ 32 ∷ (o ++ 32 ∷ n)) (32 ∷ (c ++ 32 ∷ (h ++ 32 ∷ (m ++ 10 ∷ [])))) rest
    ∙ three v o n (32 ∷ ((c ++ 32 ∷ (h ++ 32 ∷ (m ++ 10 ∷ []))) ++ rest))
    ∙ ap (λ z. v ++ 32 ∷ (o ++ 32 ∷ (n ++ 32 ∷ z))) (one c _ rest ∙ ap (λ z. c ++ 32 ∷ z) (one h (m ++ 10 ∷ []) rest ∙ ap (λ z. h ++ 32 ∷ z) (append_assoc m (10 ∷ []) rest))))))

leafy_flat : (d i p v o n c h m rest : List ℕ)
    → (((d ++ 32 ∷ []) ++ (i ++ 32 ∷ [])) ++ ((p ++ 32 ∷ []) ++ ((v ++ (o ++ n)) ++ ((c ++ 32 ∷ []) ++ ((h ++ 32 ∷ []) ++ (m ++ 10 ∷ [])))))) ++ rest
    ≡ d ++ 32 ∷ (i ++ 32 ∷ (p ++ 32 ∷ (v ++ (o ++ (n ++ (c ++ 32 ∷ (h ++ 32 ∷ (m ++ 10 ∷ rest))))))))
leafy_flat d i p v o n c h m rest = simp append_assoc refl

item_spelled : (d : ℕ) (i : NamedItem) (rest : List ℕ) → item_line d i ++ rest ≡ codes "item" ++ 32 ∷ (leafy_text (leafy d i) ++ rest)
unfolding shape_text
item_spelled d i rest =
    let n : List ℕ = decimal d in
    let p : List ℕ = part_text i.part in
    let c : List ℕ = color_text i.color in
    let h : List ℕ = pointer_text i.hits in
    let m : List ℕ = decimal i.made_at in
    let end : List ℕ = c ++ 32 ∷ (h ++ 32 ∷ (m ++ 10 ∷ rest)) in
    let v : List ℕ = four_text 32 (four i.visible) in
    let o : List ℕ = four_text 32 (four i.shape.outer) in
    let w : List ℕ = four_text 32 (four i.shape.inner) in
    ap (λ z. codes "item" ++ 32 ∷ z) (item_flat n i.id p (rect_text i.visible) (rect_text i.shape.outer) (rect_text i.shape.inner) c h m rest
    ∙ ap (λ z. n ++ 32 ∷ (i.id ++ 32 ∷ (p ++ 32 ∷ z))) (rect_spelled i.visible (rect_text i.shape.outer ++ 32 ∷ (rect_text i.shape.inner ++ 32 ∷ end))
    ∙ ap (λ z. v ++ z) (rect_spelled i.shape.outer (rect_text i.shape.inner ++ 32 ∷ end) ∙ ap (λ z. o ++ z) (rect_spelled i.shape.inner end)))
    ∙ sym (leafy_flat n i.id p v o w c h m rest))

head_spelled : (d : ℕ) (g : NamedGroup) (n : ℕ) (rest : List ℕ) → group_line d g n ++ rest ≡ codes "group" ++ 32 ∷ (headed_text ((d, g.id), (g.opacity, (n, g.blend))) ++ rest)
head_spelled d g n rest = simp append_assoc refl

item_takes : (bytes : List ℕ) (r : NamedRow) (rest : List ℕ) → item_at bytes ≡ Some (r, rest)
    → (codes "item" ++ 32 ∷ bytes ≡ row_line r ++ rest) × FitsRow r
unfolding item_at
item_takes bytes r rest e =
    let a = bind_some ((label_at ⊗ (field part_of 32 ⊗ (forms_at ⊗ paint_at))) bytes) (λ x. to_item x.0 >>= λ y. Some (y, x.1)) (r, rest) e in
    let t = leafy_reader.takes bytes a.0.0 a.0.1 a.1 in
    let made : NamedRow = item a.0.0.0.0 (made_item a.0.0) in
    let parts = parts_are (made, a.0.1) (r, rest) a.2 in
    let f = t.1 in
    let fits : FitsRow made = (f.0.0, record { id = f.0.1; visible = f.1.1.0.0; outer = f.1.1.0.1.0; inner = f.1.1.0.1.1; color = f.1.1.1.0; made_at = f.1.1.1.1.1 }) in
    let spelled : codes "item" ++ 32 ∷ bytes ≡ row_line made ++ a.0.1 = ap (λ z. codes "item" ++ 32 ∷ z) t.0 ∙ sym (item_spelled a.0.0.0.0 (made_item a.0.0) a.0.1) in
    subst (λ (z : NamedRow). (codes "item" ++ 32 ∷ bytes ≡ row_line z ++ rest) × FitsRow z) parts.0 (spelled ∙ ap (λ z. row_line made ++ z) parts.1, fits)

item_again : (d : ℕ) (i : NamedItem) (rest : List ℕ) → d < 2 ^ 64 → IsItem i → item_at (leafy_text (leafy d i) ++ rest) ≡ Some (item d i, rest)
unfolding item_at
item_again d i rest h f =
    ap (λ z. z >>= λ x. to_item x.0 >>= λ y. Some (y, x.1))
    (leafy_reader.again (leafy d i) rest ((h, f.id), (tt, ((f.visible, (f.outer, f.inner)), (f.color, (tt, f.made_at))))))

head_takes : (bytes : List ℕ) (r : NamedRow) (rest : List ℕ) → head_at bytes ≡ Some (r, rest)
    → (codes "group" ++ 32 ∷ bytes ≡ row_line r ++ rest) × FitsRow r
unfolding head_at
head_takes bytes r rest e =
    let a = bind_some ((label_at ⊗ (field byte_of 32 ⊗ ending_at)) bytes) (λ x. to_head x.0 >>= λ y. Some (y, x.1)) (r, rest) e in
    let t = headed_reader.takes bytes a.0.0 a.0.1 a.1 in
    let g : NamedGroup = record { id = a.0.0.0.1; opacity = a.0.0.1.0; blend = a.0.0.1.1.1 } in
    let made : NamedRow = head a.0.0.0.0 g a.0.0.1.1.0 in
    let parts = parts_are (made, a.0.1) (r, rest) a.2 in
    let f = t.1 in
    let fits : FitsRow made = (f.0.0, record { id = f.0.1; opacity = f.1.0 }, f.1.1) in
    let spelled : codes "group" ++ 32 ∷ bytes ≡ row_line made ++ a.0.1 = ap (λ z. codes "group" ++ 32 ∷ z) t.0 ∙ sym (head_spelled a.0.0.0.0 g a.0.0.1.1.0 a.0.1) in
    subst (λ (z : NamedRow). (codes "group" ++ 32 ∷ bytes ≡ row_line z ++ rest) × FitsRow z) parts.0 (spelled ∙ ap (λ z. row_line made ++ z) parts.1, fits)

head_again : (d : ℕ) (g : NamedGroup) (n : ℕ) (rest : List ℕ) → d < 2 ^ 64 → IsGroup g → n < 2 ^ 64
    → head_at (headed_text ((d, g.id), (g.opacity, (n, g.blend))) ++ rest) ≡ Some (head d g n, rest)
unfolding head_at
head_again d g n rest h f k =
    ap (λ z. z >>= λ x. to_head x.0 >>= λ y. Some (y, x.1))
    (headed_reader.again ((d, g.id), (g.opacity, (n, g.blend))) rest ((h, f.id), (f.opacity, k)))

row_takes : (bytes : List ℕ) (r : NamedRow) (rest : List ℕ) → row_at bytes ≡ Some (r, rest) → (bytes ≡ row_line r ++ rest) × FitsRow r
row_takes bytes r rest e =
    let a = bind_some (word_before 32 bytes) (λ w. after_word w.0 w.1) (r, rest) e in
    let t = word_takes 32 bytes a.0.0 a.0.1 a.1 in
    as_item a.0.0 a.0.1 t (bytes_eq a.0.0 (codes "item")) refl a.2
  where
    as_group : (w after : List ℕ) → bytes ≡ w ++ 32 ∷ after → (t : Bool) → bytes_eq w (codes "group") ≡ t
        → cond t (head_at after) None ≡ Some (r, rest) → (bytes ≡ row_line r ++ rest) × FitsRow r
    as_group w after is true f g = let k = head_takes after r rest g in (is ∙ ap (λ z. z ++ 32 ∷ after) (bytes_same w (codes "group") f) ∙ k.0, k.1)
    as_group w after is false f g = absurd cc

    as_item : (w after : List ℕ) → bytes ≡ w ++ 32 ∷ after → (t : Bool) → bytes_eq w (codes "item") ≡ t
        → cond t (item_at after) (cond (bytes_eq w (codes "group")) (head_at after) None) ≡ Some (r, rest) → (bytes ≡ row_line r ++ rest) × FitsRow r
    as_item w after is true f g = let k = item_takes after r rest g in (is ∙ ap (λ z. z ++ 32 ∷ after) (bytes_same w (codes "item") f) ∙ k.0, k.1)
    as_item w after is false f g = as_group w after is (bytes_eq w (codes "group")) refl g

row_again : (r : NamedRow) (rest : List ℕ) → FitsRow r → row_at (row_line r ++ rest) ≡ Some (r, rest)
row_again (item d i) rest h =
    let after : List ℕ = leafy_text (leafy d i) ++ rest in
    ap row_at (item_spelled d i rest)
    ∙ ap (λ z. z >>= λ w. after_word w.0 w.1) (word_again 32 (codes "item") after refl refl)
    ∙ item_again d i rest h.0 h.1
row_again (head d g n) rest h =
    let after : List ℕ = headed_text ((d, g.id), (g.opacity, (n, g.blend))) ++ rest in
    ap row_at (head_spelled d g n rest)
    ∙ ap (λ z. z >>= λ w. after_word w.0 w.1) (word_again 32 (codes "group") after refl refl)
    ∙ head_again d g n rest h.0 h.1 h.2

pub row_reader : IsReader row_at row_line FitsRow
row_reader = record { takes = row_takes; again = row_again }
