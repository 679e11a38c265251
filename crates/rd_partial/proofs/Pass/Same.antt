-- Lists of lists that are the same one by one.
use Rattle.std.proofs.Common.{◌≡◌, refl, List}
use Rattle.rd_list.specs.Entries.{Entries}
use Rattle.rd_list.specs.Wrappers.{Wrapper}
use Rattle.rd_partial.specs.Internal.ContextLists.{ContextLists, LayerOrder}

module _ {M : Type 0} where
  of_parts : (u u2 : List (LayerOrder M)) (k k2 f f2 l l2 w w2 z z2 : Entries Wrapper M) (o o2 : List (LayerOrder M)) (t t2 : Entries Wrapper M) → u ≡ u2 → k ≡ k2 → f ≡ f2 → l ≡ l2 → w ≡ w2 → z ≡ z2 → o ≡ o2 → t ≡ t2
      → ◌≡◌ {A = ContextLists M} (record { negatives = u; backgrounds = k; floats = f; line = l; contents = w; zeros = z; positives = o; outlines = t }) (record { negatives = u2; backgrounds = k2; floats = f2; line = l2; contents = w2; zeros = z2; positives = o2; outlines = t2 })
  of_parts u u2 k k2 f f2 l l2 w w2 z z2 o o2 t t2 h1 h2 h3 h4 h5 h6 h7 h8 = rw (h1, h2, h3, h4, h5, h6, h7, h8) refl

  pub same_lists : (a b : ContextLists M) → a.negatives ≡ b.negatives → a.backgrounds ≡ b.backgrounds → a.floats ≡ b.floats → a.line ≡ b.line → a.contents ≡ b.contents → a.zeros ≡ b.zeros → a.positives ≡ b.positives → a.outlines ≡ b.outlines → a ≡ b
  same_lists a b h1 h2 h3 h4 h5 h6 h7 h8 = of_parts a.negatives b.negatives a.backgrounds b.backgrounds a.floats b.floats a.line b.line a.contents b.contents a.zeros b.zeros a.positives b.positives a.outlines b.outlines h1 h2 h3 h4 h5 h6 h7 h8
