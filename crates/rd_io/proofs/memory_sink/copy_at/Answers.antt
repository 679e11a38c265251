use Rattle.std.proofs.Common.{◌≡◌, ◌+◌, ◌-◌, length, arith, length-take, length-drop}
use Rattle.std.proofs.lemmas.Slice.{drop-put_mid}
use Rattle.rd_io.proofs.memory_sink.copy_at.Goals as goal

-- The bytes behind the part that was written stay.
pub returns-clause-behind : goal.returns-clause-behind
returns-clause-behind c =
    let taken = simp (length-take, length-drop) at c.copy_from_slice.ensures.len in
    let len : length c.copy_from_slice.new.self ≡ c.args.at + c.min-count.result - c.args.at = omega (arith, taken) in
    drop-put_mid c.args.at (c.args.at + c.min-count.result - c.args.at) c.args.out.now c.copy_from_slice.new.self (c.args.at + c.min-count.result) (omega arith)
    c.requires len
