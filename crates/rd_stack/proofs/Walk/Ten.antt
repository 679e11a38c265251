-- Ten lists laid one on another.
use Rattle.std.proofs.Common.{◌≡◌}
use Rattle.rd_list.specs.Entries.{Entries, nil, ◌▷◌}
use Rattle.rd_list.proofs.Joins.{join_assoc}

pub ten : {G L : Type 0} (a1 a2 a3 a4 a5 a6 a7 a8 a9 a10 o1 o2 o3 o4 o5 o6 o7 o8 o9 o10 : Entries G L)
    → o1 ≡ nil ▷ a1 → o2 ≡ o1 ▷ a2 → o3 ≡ o2 ▷ a3 → o4 ≡ o3 ▷ a4 → o5 ≡ o4 ▷ a5 → o6 ≡ o5 ▷ a6 → o7 ≡ o6 ▷ a7 → o8 ≡ o7 ▷ a8 → o9 ≡ o8 ▷ a9 → o10 ≡ o9 ▷ a10
    → o10 ≡ a1 ▷ (a2 ▷ (a3 ▷ (a4 ▷ (a5 ▷ (a6 ▷ (a7 ▷ (a8 ▷ (a9 ▷ a10))))))))
ten a1 a2 a3 a4 a5 a6 a7 a8 a9 a10 o1 o2 o3 o4 o5 o6 o7 o8 o9 o10 e1 e2 e3 e4 e5 e6 e7 e8 e9 e10 = rw (e10, e9, e8, e7, e6, e5, e4, e3, e2, e1) (simp join_assoc)
