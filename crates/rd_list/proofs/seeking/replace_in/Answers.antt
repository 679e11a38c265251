use Rattle.std.proofs.Common.{◌≡◌, ◌∙◌, ◌<◌, ap, subst, get_or, length, arith}
use Rattle.rd_list.specs.Chunks.{IsAt, IsFound, IsReplaced}
use Rattle.rd_list.specs.declared.chunks.Chunk.{Chunk}
use Rattle.rd_list.proofs.Blocking.{counts_set, get_own}
use Rattle.rd_list.proofs.Admitting.{put_found, put_past, read_any, replaced_serves}
use Rattle.rd_list.proofs.seeking.replace_in.Goals as goal

pub returns-then-found-len-clause-covers : goal.returns-then-found-len-clause-covers
returns-then-found-len-clause-covers g c = λ xs ys.
    let at = c.find_chunk-found.result.at in
    let start = c.find_chunk-found.result.start in
    let bs = c.args.chunks.now.items in
    let l = c.if-found-len.true in
    let e = c.len.ensures in
    let h : at < length bs = omega (arith, l, e) in
    let new = c.with_entry.result in
    let same : (b : Chunk) → b ≡ get_or bs at b → c.index.result.now ≡ b = λ b is. read_any bs at c.index.result.now b h c.index.ensures is in
    put_found bs at start c.args.place c.args.told new h (subst (λ cs. IsAt cs at start) c.deref.ensures.value c.find_chunk-found.ensures.at)
    (subst (λ cs. IsFound cs at start c.args.place) c.deref.ensures.value c.find_chunk-found.ensures.found)
    (λ b is x y i. replaced_serves b new c.args.told x y (subst (λ d. IsReplaced c.args.told d new) (same b is) c.with_entry.ensures) i)
    (λ b is. c.with_entry.ensures.count ∙ ap (λ (x : Chunk). x.count) (same b is)) xs ys

pub returns-else-found-len-clause-covers : goal.returns-else-found-len-clause-covers
returns-else-found-len-clause-covers g c =
    let at = c.find_chunk-found.result.at in
    let start = c.find_chunk-found.result.start in
    put_past c.args.chunks.now.items at start c.args.place c.args.told (let l = c.if-found-len.false in let e = c.len.ensures in omega (arith, l, e)) (subst (λ cs. IsAt cs at start) c.deref.ensures.value c.find_chunk-found.ensures.at)
    (subst (λ cs. IsFound cs at start c.args.place) c.deref.ensures.value c.find_chunk-found.ensures.found)

pub returns-then-found-len-clause-counts : goal.returns-then-found-len-clause-counts
returns-then-found-len-clause-counts g c =
    let at = c.find_chunk-found.result.at in
    let bs = c.args.chunks.now.items in
    let l = c.if-found-len.true in
    let e = c.len.ensures in
    let h : at < length bs = omega (arith, l, e) in
    let b = get_or bs at c.index.result.now in
    let same : c.index.result.now ≡ b = read_any bs at c.index.result.now b h c.index.ensures (get_own bs at c.index.result.now h) in
    counts_set bs at b c.with_entry.result h (get_own bs at c.index.result.now h) (c.with_entry.ensures.count ∙ ap (λ (x : Chunk). x.count) same)
