use Rattle.std.proofs.Common.{◌≡◌, ◌<◌, [], get_or, length, vec_len, arith, rules}
use Rattle.std.specs.List.{insert}
use Rattle.std.proofs.lemmas.List.{length-map, get_or_read}
use Rattle.rd_area.specs.Internal.Normal.{spans_of}
use Rattle.rd_area.proofs.Banded.{EndsBefore, end_in, next_begins, after_end, earlier_band, parted_same, parted_begins, parted_banded}
use Rattle.rd_area.proofs.bands.split.Goals as goal

pub index-requires : goal.index-requires
index-requires c =
    let e : EndsBefore c.args.ends.now.items c.args.y c.ends_before-i.result =
    rw (← c.deref.ensures.value) (record { before = c.ends_before-i.ensures.before; rest = c.ends_before-i.ensures.rest }) in
    let h : c.ends_before-i.result < length c.args.ends.now.items =
    end_in c.args.ends.now.items c.args.y c.ends_before-i.result (search rules) c.requires.all e in
    search rules

pub returns-then-index-y-clause-begins : goal.returns-then-index-y-clause-begins
returns-then-index-y-clause-begins c =
    let e : EndsBefore c.args.ends.now.items c.args.y c.ends_before-i.result =
    rw (← c.deref.ensures.value) (record { before = c.ends_before-i.ensures.before; rest = c.ends_before-i.ensures.rest }) in
    let h : c.ends_before-i.result < length c.args.ends.now.items =
    end_in c.args.ends.now.items c.args.y c.ends_before-i.result (search rules) c.requires.all e in
    let r : c.index.result.now ≡ get_or c.args.ends.now.items c.ends_before-i.result 0 = get_or_read c.args.ends.now.items _ _ h c.index.ensures 0 in
    let at : get_or c.args.ends.now.items c.ends_before-i.result 0 ≡ c.args.y = omega (arith, r, c.if-index-y.true) in
    next_begins c.args.ends.now.items c.args.y c.ends_before-i.result h e at

pub part-requires-clause-within : goal.part-requires-clause-within
part-requires-clause-within c =
    let e : EndsBefore c.args.ends.now.items c.args.y c.ends_before-i.result =
    rw (← c.deref.ensures.value) (record { before = c.ends_before-i.ensures.before; rest = c.ends_before-i.ensures.rest }) in
    let h : c.ends_before-i.result < length c.args.ends.now.items =
    end_in c.args.ends.now.items c.args.y c.ends_before-i.result (search rules) c.requires.all e in
    omega (arith, h, c.requires.count)

pub returns-clause-same : goal.returns-clause-same
returns-clause-same c =
    let e : EndsBefore c.args.ends.now.items c.args.y c.ends_before-i.result =
    rw (← c.deref.ensures.value) (record { before = c.ends_before-i.ensures.before; rest = c.ends_before-i.ensures.rest }) in
    let h : c.ends_before-i.result < length c.args.ends.now.items =
    end_in c.args.ends.now.items c.args.y c.ends_before-i.result (search rules) c.requires.all e in
    let r : c.index.result.now ≡ get_or c.args.ends.now.items c.ends_before-i.result 0 = get_or_read c.args.ends.now.items _ _ h c.index.ensures 0 in
    let at : c.args.y < get_or c.args.ends.now.items c.ends_before-i.result 0 =
    after_end c.args.ends.now.items c.args.y c.ends_before-i.result h e (λ q. c.if-index-y.false (omega (arith, r, q))) in
    let n : length c.args.ends.now.items ≡ length (spans_of c.args.bands.now.items) = search (rules, length-map) in
    let ends : c.part.new.ends.items ≡ insert c.args.ends.now.items c.ends_before-i.result c.args.y = search rules in
    let bands : spans_of c.part.new.bands.items ≡ insert (spans_of c.args.bands.now.items) c.ends_before-i.result
    (get_or (spans_of c.args.bands.now.items) c.ends_before-i.result []) = search rules in
    λ z. rw (ends, bands) (parted_same c.args.ends.now.items (spans_of c.args.bands.now.items) c.args.y c.ends_before-i.result z h n e at)

pub returns-clause-before : goal.returns-clause-before
returns-clause-before c =
    let e : EndsBefore c.args.ends.now.items c.args.y c.ends_before-i.result =
    rw (← c.deref.ensures.value) (record { before = c.ends_before-i.ensures.before; rest = c.ends_before-i.ensures.rest }) in
    let h : c.ends_before-i.result < length c.args.ends.now.items =
    end_in c.args.ends.now.items c.args.y c.ends_before-i.result (search rules) c.requires.all e in
    let r : c.index.result.now ≡ get_or c.args.ends.now.items c.ends_before-i.result 0 = get_or_read c.args.ends.now.items _ _ h c.index.ensures 0 in
    let at : c.args.y < get_or c.args.ends.now.items c.ends_before-i.result 0 =
    after_end c.args.ends.now.items c.args.y c.ends_before-i.result h e (λ q. c.if-index-y.false (omega (arith, r, q))) in
    let ends : c.part.new.ends.items ≡ insert c.args.ends.now.items c.ends_before-i.result c.args.y = search rules in
    λ z l. rw ends (earlier_band c.args.ends.now.items c.args.y c.ends_before-i.result z h e at l)

pub returns-clause-banded : goal.returns-clause-banded
returns-clause-banded c =
    let e : EndsBefore c.args.ends.now.items c.args.y c.ends_before-i.result =
    rw (← c.deref.ensures.value) (record { before = c.ends_before-i.ensures.before; rest = c.ends_before-i.ensures.rest }) in
    let h : c.ends_before-i.result < length c.args.ends.now.items =
    end_in c.args.ends.now.items c.args.y c.ends_before-i.result (search rules) c.requires.all e in
    let r : c.index.result.now ≡ get_or c.args.ends.now.items c.ends_before-i.result 0 = get_or_read c.args.ends.now.items _ _ h c.index.ensures 0 in
    let at : c.args.y < get_or c.args.ends.now.items c.ends_before-i.result 0 =
    after_end c.args.ends.now.items c.args.y c.ends_before-i.result h e (λ q. c.if-index-y.false (omega (arith, r, q))) in
    let ends : c.part.new.ends.items ≡ insert c.args.ends.now.items c.ends_before-i.result c.args.y = search rules in
    let count = rw ends at c.part.ensures.count in
    λ height l b. rw ends (parted_banded height c.args.ends.now.items (vec_len c.args.bands.now) (vec_len c.part.new.bands) c.args.y c.ends_before-i.result
    (search rules) l h e at count b)

pub returns-clause-begins : goal.returns-clause-begins
returns-clause-begins c =
    let e : EndsBefore c.args.ends.now.items c.args.y c.ends_before-i.result =
    rw (← c.deref.ensures.value) (record { before = c.ends_before-i.ensures.before; rest = c.ends_before-i.ensures.rest }) in
    let h : c.ends_before-i.result < length c.args.ends.now.items =
    end_in c.args.ends.now.items c.args.y c.ends_before-i.result (search rules) c.requires.all e in
    let r : c.index.result.now ≡ get_or c.args.ends.now.items c.ends_before-i.result 0 = get_or_read c.args.ends.now.items _ _ h c.index.ensures 0 in
    let at : c.args.y < get_or c.args.ends.now.items c.ends_before-i.result 0 =
    after_end c.args.ends.now.items c.args.y c.ends_before-i.result h e (λ q. c.if-index-y.false (omega (arith, r, q))) in
    let ends : c.part.new.ends.items ≡ insert c.args.ends.now.items c.ends_before-i.result c.args.y = search rules in
    rw ends (parted_begins c.args.ends.now.items c.args.y c.ends_before-i.result h e at)
