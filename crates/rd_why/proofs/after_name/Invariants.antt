use Rattle.std.proofs.Common.{◌≡◌, ◌++◌, drop}
use Rattle.rd_why.proofs.after_name.Given as goal

-- the words so far, and those that are left
abbrev pub invariant-loop-word : goal.invariant-loop-word
invariant-loop-word l = l.words.items ++ l.word-iterator.rest.items ≡ drop 1 l.fn.args.rest.items
