-- Texts that are put one after another.
use Rattle.std.proofs.Common.{append_assoc, append-nil}

pub ruleset joining = (append_assoc, append-nil)
