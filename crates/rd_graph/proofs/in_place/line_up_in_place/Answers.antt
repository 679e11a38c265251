use Rattle.std.proofs.Common.{◌≡◌, ◌-◌, ◌++◌, ◌∙◌, inl, inr, get_or, length, subst, sym, take, drop, arith, ℕ}
use Rattle.std.specs.Prelude.{vec_len}
use Rattle.std.proofs.lemmas.List.{length-drop, length-take-le}
use Rattle.rd_graph.specs.Internal.InPlace.{StayersRise, coming, no_run}
use Rattle.rd_graph.specs.Runs.{woven}
use Rattle.rd_graph.specs.declared.runs.Run.{Run}
use Rattle.rd_graph.proofs.Patches.ListsAt.{get_same}
use Rattle.rd_graph.proofs.LinedUp.InPlace.{stayers_rise, whole_all}
use Rattle.rd_graph.proofs.LinedUp.Windows.{before_run, last_next, left, made_all, made_end, made_few, made_none, rest_of, window_end, window_made, window_next}
use Rattle.rd_graph.proofs.in_place.line_up_in_place.Goals as goal

pub loop-elements-init : goal.loop-elements-init
loop-elements-init g c =
    let rs = c.args.runs.now in
    let was = c.args.elements.now.items in
    let n = c.len-old.result in
    let is : n ≡ vec_len c.args.elements.now = c.len-old.ensures in
    let whole : length was ≡ n = sym c.args.elements.now.ok.0 ∙ sym is in
    let made = c.args.made.items in
    let aside = c.args.aside.items in
    let rises = stayers_rise (vec_len c.args.elements.now) (vec_len c.args.made) 0 0 rs c.requires.rising in
    let fits = whole_all (vec_len c.args.elements.now) (vec_len c.args.made) 0 0 rs was made aside (sym c.args.elements.now.ok.0) (sym c.args.made.ok.0) c.requires.rising (sym c.args.aside.ok.0 ∙ c.requires.aside) in
    record { from = omega arith; made = made_none n was made aside rs c.put_at_end.new.elements.items (subst (λ (k : ℕ). StayersRise k 0 rs) (sym is) rises) fits (c.put_at_end.ensures.put was whole) }

pub close_up-window-requires-clause-few : goal.close_up-window-requires-clause-few
close_up-window-requires-clause-few g c =
    let rs = c.args.runs.now in
    let was = c.args.elements.now.items in
    let n = c.len-old.result in
    let is : n ≡ vec_len c.args.elements.now = c.len-old.ensures in
    let whole : length was ≡ n = sym c.args.elements.now.ok.0 ∙ sym is in
    let made = c.args.made.items in
    let aside = c.args.aside.items in
    let from = c.loop-elements.from in
    let first = c.loop-elements.first in
    let next = c.loop-elements.next in
    let now = c.loop-elements.elements.items in
    let size = c.loop-elements.elements.ok.0 in
    let m = c.loop-elements.invariant.made in
    let few = made_few n was made aside whole rs from first next now m in
    let fits = c.loop-elements.elements.ok in
    omega (arith, few, size)

pub spread_last-requires-clause-next : goal.spread_last-requires-clause-next
spread_last-requires-clause-next g c =
    let rs = c.args.runs.now in
    let was = c.args.elements.now.items in
    let n = c.len-old.result in
    let is : n ≡ vec_len c.args.elements.now = c.len-old.ensures in
    let whole : length was ≡ n = sym c.args.elements.now.ok.0 ∙ sym is in
    let made = c.args.made.items in
    let aside = c.args.aside.items in
    let from = c.loop-elements.from in
    let first = c.loop-elements.first in
    let next = c.loop-elements.next in
    let now = c.loop-elements.elements.items in
    let size = c.loop-elements.elements.ok.0 in
    let m = c.loop-elements.invariant.made in
    let k = c.close_up-window.result.runs in
    let stay = c.close_up-window.result.stay in
    let end = c.close_up-window.result.end in
    last_next n was made aside whole rs from first next now m k stay end c.close_up-window.ensures.stay c.if-window-rest.true

pub spread_last-requires-clause-come : goal.spread_last-requires-clause-come
spread_last-requires-clause-come g c =
    let rs = c.args.runs.now in
    let was = c.args.elements.now.items in
    let n = c.len-old.result in
    let is : n ≡ vec_len c.args.elements.now = c.len-old.ensures in
    let whole : length was ≡ n = sym c.args.elements.now.ok.0 ∙ sym is in
    let made = c.args.made.items in
    let aside = c.args.aside.items in
    let from = c.loop-elements.from in
    let first = c.loop-elements.first in
    let next = c.loop-elements.next in
    let now = c.loop-elements.elements.items in
    let size = c.loop-elements.elements.ok.0 in
    let m = c.loop-elements.invariant.made in
    let k = c.close_up-window.result.runs in
    let stay = c.close_up-window.result.stay in
    let end = c.close_up-window.result.end in
    let all = made_all n was made aside whole rs from first next now m in
    let len = c.close_up-window.ensures.len in
    omega (arith, all, len, size)

pub returns-then-window-rest : goal.returns-then-window-rest
returns-then-window-rest g c =
    let rs = c.args.runs.now in
    let was = c.args.elements.now.items in
    let n = c.len-old.result in
    let is : n ≡ vec_len c.args.elements.now = c.len-old.ensures in
    let whole : length was ≡ n = sym c.args.elements.now.ok.0 ∙ sym is in
    let made = c.args.made.items in
    let aside = c.args.aside.items in
    let from = c.loop-elements.from in
    let first = c.loop-elements.first in
    let next = c.loop-elements.next in
    let now = c.loop-elements.elements.items in
    let size = c.loop-elements.elements.ok.0 in
    let m = c.loop-elements.invariant.made in
    let k = c.close_up-window.result.runs in
    let stay = c.close_up-window.result.stay in
    let end = c.close_up-window.result.end in
    let to : end ≡ n = elim c.close_up-window.ensures.end [ inl e ↦ e.1 | inr e ↦ absurd (let l = e.0 in let k = c.if-window-rest.true in omega (arith, l, k)) ] in
    made_end n was made aside whole rs from first next now m k stay end c.close_up-window.ensures.stay c.if-window-rest.true c.close_up-window.new.elements.items c.spread_last.new.elements.items to
    (c.close_up-window.ensures.closed (woven (take from rs) (was ++ made) aside) was (m.gone ++ coming n (drop from rs) (was ++ made) (left n was made aside (take from rs))) made m.items m.ahead whole) c.spread_last.ensures

pub swap_in-requires-clause-other : goal.swap_in-requires-clause-other
swap_in-requires-clause-other g c =
    let rs = c.args.runs.now in
    let was = c.args.elements.now.items in
    let n = c.len-old.result in
    let is : n ≡ vec_len c.args.elements.now = c.len-old.ensures in
    let whole : length was ≡ n = sym c.args.elements.now.ok.0 ∙ sym is in
    let made = c.args.made.items in
    let aside = c.args.aside.items in
    let from = c.loop-elements.from in
    let first = c.loop-elements.first in
    let next = c.loop-elements.next in
    let now = c.loop-elements.elements.items in
    let size = c.loop-elements.elements.ok.0 in
    let m = c.loop-elements.invariant.made in
    let k = c.close_up-window.result.runs in
    let stay = c.close_up-window.result.stay in
    let end = c.close_up-window.result.end in
    let at = before_run n first (rest_of rs from) k end c.close_up-window.ensures.end c.if-window-rest.false in
    let r : Run = get_or (rest_of rs from) k no_run in
    let within = window_next n was made aside whole rs from first next now m k stay end c.close_up-window.ensures.stay r at.0 (get_same (rest_of rs from) k no_run r at.0) at.1 at.2 at.3 in
    let len = c.close_up-window.ensures.len in
    omega (arith, within, len, size)

pub overflow_add-first : goal.overflow_add-first
overflow_add-first g c =
    let rs = c.args.runs.now in
    let was = c.args.elements.now.items in
    let n = c.len-old.result in
    let is : n ≡ vec_len c.args.elements.now = c.len-old.ensures in
    let whole : length was ≡ n = sym c.args.elements.now.ok.0 ∙ sym is in
    let made = c.args.made.items in
    let aside = c.args.aside.items in
    let from = c.loop-elements.from in
    let first = c.loop-elements.first in
    let next = c.loop-elements.next in
    let now = c.loop-elements.elements.items in
    let size = c.loop-elements.elements.ok.0 in
    let m = c.loop-elements.invariant.made in
    let k = c.close_up-window.result.runs in
    let stay = c.close_up-window.result.stay in
    let end = c.close_up-window.result.end in
    let at = before_run n first (rest_of rs from) k end c.close_up-window.ensures.end c.if-window-rest.false in
    let r : Run = get_or (rest_of rs from) k no_run in
    let within = window_end n was made aside whole rs from first next now m k stay end c.close_up-window.ensures.stay r at.0 (get_same (rest_of rs from) k no_run r at.0) at.1 at.2 at.3 in
    let few = c.len-old.ensures in
    omega (arith, within)

pub loop-elements-preserved : goal.loop-elements-preserved
loop-elements-preserved g c =
    let rs = c.args.runs.now in
    let was = c.args.elements.now.items in
    let n = c.len-old.result in
    let is : n ≡ vec_len c.args.elements.now = c.len-old.ensures in
    let whole : length was ≡ n = sym c.args.elements.now.ok.0 ∙ sym is in
    let made = c.args.made.items in
    let aside = c.args.aside.items in
    let from = c.loop-elements.from in
    let first = c.loop-elements.first in
    let next = c.loop-elements.next in
    let now = c.loop-elements.elements.items in
    let size = c.loop-elements.elements.ok.0 in
    let m = c.loop-elements.invariant.made in
    let k = c.close_up-window.result.runs in
    let stay = c.close_up-window.result.stay in
    let end = c.close_up-window.result.end in
    let at = before_run n first (rest_of rs from) k end c.close_up-window.ensures.end c.if-window-rest.false in
    let r : Run = get_or (rest_of rs from) k no_run in
    record {
      from = let l = at.0 in let d = length-take-le (length rs - from) (drop from rs) (let e = length-drop from rs in omega (arith, e)) in let low = c.loop-elements.invariant.from in omega (arith, l, d, low);
      made = window_made n was made aside whole rs from first next now m k stay end c.close_up-window.ensures.stay r at.0 (get_same (rest_of rs from) k no_run r at.0) at.1 at.2 at.3 c.close_up-window.new.elements.items c.swap_in.new.elements.items c.spread_out.new.elements.items
          (c.close_up-window.ensures.closed (woven (take from rs) (was ++ made) aside) was (m.gone ++ coming n (drop from rs) (was ++ made) (left n was made aside (take from rs))) made m.items m.ahead whole)
          c.swap_in.ensures.swapped c.spread_out.ensures.spread;
    }
