use Rattle.std.proofs.Common.{◌≡◌, pos, [], get_or, arith, rules, to_z, of_z, w32}
use Rattle.std.specs.Prelude.{unsigned_abs, vec_len}
use Rattle.std.proofs.lemmas.Int.{ints}
use Rattle.rd_area.specs.Internal.Normal.{spans_of}
use Rattle.rd_area.proofs.Counting.{rising_to}
use Rattle.rd_area.proofs.Pixels.{band_rising}
use Rattle.rd_area.proofs.area.Area.count.Goals as goal

pub count-requires-clause-rising : goal.count-requires-clause-rising
count-requires-clause-rising c =
    rw c.deref-2.ensures.value
    (λ k. rising_to (pos 0) c.self.inside.size.w (pos 4096) (get_or (spans_of c.self.inside.bands.items) k []) c.self.invariant.0.canvas.wide
    (band_rising c.self.inside.size c.self.inside.used c.self.inside.ends.items c.self.inside.bands.items (vec_len c.self.inside.bands) k
    c.self.invariant.0 c.self.invariant.1 (search rules)))

pub returns : goal.returns
returns c =
    let t : to_z w32 (of_z w32 c.self.inside.size.h) ≡ c.self.inside.size.h = search rules in
    let e = rw (c.deref.ensures.value, c.deref-2.ensures.value, t) at c.count.ensures in
    rw (← c.self.view_is)
    (e (unsigned_abs c.self.inside.size.w)
    (λ k. rising_to (pos 0) c.self.inside.size.w (pos (unsigned_abs c.self.inside.size.w)) (get_or (spans_of c.self.inside.bands.items) k [])
    (omega (arith, ints, c.self.invariant.0.canvas.some_wide))
    (band_rising c.self.inside.size c.self.inside.used c.self.inside.ends.items c.self.inside.bands.items (vec_len c.self.inside.bands) k
    c.self.invariant.0 c.self.invariant.1 (search rules))))
