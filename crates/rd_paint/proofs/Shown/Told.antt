-- Chunks and blocks that are passed as a whole, by what is told of them.
use Rattle.std.proofs.Common.{◌≡◌, ℤ, ℕ, ◌+◌, ◌<◌, false, List, take, drop, inl, inr, ◌⊎◌}
use Rattle.rd_geom.specs.Areas.{Region}
use Rattle.rd_geom.specs.Plane.{holds_pixel}
use Rattle.rd_list.specs.Chunks.{Tells}
use Rattle.rd_list.specs.Displayed.{shown}
use Rattle.rd_list.specs.Entries.{flat}
use Rattle.rd_list.specs.KeptView.{kept_entries}
use Rattle.rd_list.specs.declared.chunks.Chunk.{Chunk}
use Rattle.rd_list.specs.declared.kept.Entry.{Entry}
use Rattle.rd_paint.specs.Internal.Picks.{InArea, ServesWhere}
use Rattle.rd_paint.specs.Since.{AreMadeSince}
use Rattle.rd_paint.proofs.Shown.OffChunks.{chunk_past}
use Rattle.rd_paint.proofs.Shown.Older.{older_past}

module _ {A : Type 0} (p : ℤ → ℤ → Type 0) (a : Region) (inside : (x y : ℤ) → p x y → InArea a x y) where
  -- from behind one whose leaves are older, or whose hull is off
  pub told_past : (es : List (Entry A)) (b : Chunk) (i since : ℕ) → AreMadeSince a since (flat (kept_entries es))
      → Tells b (take b.count (drop i es)) → (b.told.newest < since) ⊎ ((x y : ℤ) → p x y → holds_pixel b.told.hull x y ≡ false)
      → ServesWhere p (shown (drop (i + b.count) es)) (shown (drop i es))
  told_past es b i since s t (inl l) = older_past p a inside es i b.count b.told.newest since s t.3 l
  told_past es b i since s t (inr f) = chunk_past p b.told.hull f es i b.count t.0
