-- A line that is made where its old elements stand.
use Rattle.std.specs.Prelude.{◌≡◌, ℕ, zero, ◌+◌, ◌<◌, ◌≤◌, ◌⊎◌, Bool, true, false, not, ◌&&◌, nat_lt, if◌then◌else◌, List, [], ◌∷◌, ◌++◌, length, take, drop, slice_index_or}
use Rattle.rd_graph.specs.Gathered.{gathered}
use Rattle.rd_graph.specs.Runs.{set_aside, taken, up_from}
use Rattle.rd_graph.specs.declared.runs.Run.{Run}

-- does a run over n old elements have such elements, which stay?
abbrev pub stays : ℕ → Run → Bool
stays n r = not r.aside && nat_lt r.from n

-- the elements of the runs that stay, one run after another
abbrev pub staying : {T : Type 0} → ℕ → List Run → List T → List T
staying n [] xs = []
staying n (r ∷ rs) xs = (if stays n r then gathered (up_from r.from r.count) xs else []) ++ staying n rs xs

-- those of the others, which come
abbrev pub coming : {T : Type 0} → ℕ → List Run → List T → List T → List T
coming n [] xs ys = []
coming n (r ∷ rs) xs ys = (if stays n r then [] else taken r xs ys) ++ coming n rs xs (drop (length (set_aside r)) ys)

-- how many elements stay, and how many come
abbrev pub count_staying : ℕ → List Run → ℕ
count_staying n [] = zero
count_staying n (r ∷ rs) = (if stays n r then r.count else zero) + count_staying n rs

abbrev pub count_coming : ℕ → List Run → ℕ
count_coming n [] = zero
count_coming n (r ∷ rs) = (if stays n r then zero else r.count) + count_coming n rs

-- the runs that stay rise, none before `next`
abbrev pub StayersRise : ℕ → ℕ → List Run → Type 0
StayersRise n next [] = Unit {0}
StayersRise n next (r ∷ rs) =
    ((stays n r ≡ true) × (next ≤ r.from) × (r.from + r.count ≤ n) × StayersRise n (r.from + r.count) rs)
    ⊎ ((stays n r ≡ false) × StayersRise n next rs)

-- each run has as many elements as it counts
abbrev pub AreWhole : {T : Type 0} → List Run → List T → List T → Type 0
AreWhole [] xs ys = Unit {0}
AreWhole (r ∷ rs) xs ys = (length (taken r xs ys) ≡ r.count) × AreWhole rs xs (drop (length (set_aside r)) ys)

-- how many elements the runs have
abbrev pub count_all : ℕ → List Run → ℕ
count_all n rs = count_staying n rs + count_coming n rs

-- a run of no elements
abbrev pub no_run : Run
no_run = record { from = 0; count = 0; aside = false }

-- The first k of the runs are those before one whose elements stand at their place, which is the end; or they are all, and the end is that
-- of the old elements. Their elements are put from `first` on.
abbrev pub IsWindow : ℕ → ℕ → List Run → ℕ → ℕ → Type 0
IsWindow n first rs k end =
    ((k ≡ length rs) × (end ≡ n))
    ⊎ ((k < length rs) × (stays n (slice_index_or rs k no_run) ≡ true) × ((slice_index_or rs k no_run).from ≡ end) × (end ≡ first + count_all n (take k rs)))

-- Behind a part those that stay, then so many that go, and then the rest.
abbrev pub IsClosed : {T : Type 0} → List T → List T → ℕ → List T → List T → Type 0
IsClosed {T} part stay count rest now = (gone : List T) × (length gone ≡ count) × (now ≡ part ++ (stay ++ (gone ++ rest)))
