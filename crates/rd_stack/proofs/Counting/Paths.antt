-- The boxes between two boxes, and what follows for those below a box.
use Rattle.std.proofs.Common.{◌≡◌, refl, ap, ℕ, false, List, [], ◌∷◌, ◌++◌, length, take, arith, length-append}
use Rattle.rd_stack.specs.Paths.{BoxData, BoxPath, boxes_between, is_none}

take_all : (path rest : List BoxData) (n : ℕ) → n ≡ length path → take n (path ++ rest) ≡ path
take_all [] rest n h = rw h refl
take_all (b ∷ path) rest n h = rw h (ap (λ zs. b ∷ zs) (take_all path rest (length path) refl))

-- the boxes between e and a box below it are the path that leads to it
pub between-path : (e x : BoxPath) (path : List BoxData) → x.above ≡ path ++ e.here ∷ e.above → boxes_between e x ≡ path
between-path e x path h = rw h (take_all path (e.here ∷ e.above) _ (omega (arith, length-append path (e.here ∷ e.above))))

pub is_none-path : (path : List BoxData) (b : BoxData) (above : List BoxData) → is_none (path ++ b ∷ above) ≡ false
is_none-path [] b above = refl
is_none-path (c ∷ path) b above = refl
