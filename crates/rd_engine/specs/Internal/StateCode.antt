-- States of engines as lists of numbers, so that proofs can tell them apart.
use Rattle.std.specs.Prelude.{refl, ℕ, Bool, List, Option}
use Rattle.std.specs.Coded.{Coded, code_by, coded×, coded_ℕ, coded_bool, coded_list, coded_option}
use Rattle.rd_geom.specs.Areas.{Region}
use Rattle.rd_geom.specs.Colors.{Premultiplied}
use Rattle.rd_geom.specs.declared.rect.Size.{Size}
use Rattle.rd_geom.specs.declared.span.Span.{Span}
use Rattle.rd_keys.specs.declared.entry.EntryKey.{EntryKey}
use Rattle.rd_item.specs.Items.{Made}
use Rattle.rd_list.specs.Wrappers.{Wrapper}
use Rattle.rd_list.specs.Kept.{KeptList}
use Rattle.rd_tree.specs.Document.{Document}
use Rattle.rd_paint.specs.Pictures.{Picture}
use Rattle.rd_engine.specs.State.{EngineState}

abbrev pub picture_code : Coded Premultiplied → Coded Picture
picture_code p =
    code_by (ℕ × (ℕ × List Premultiplied)) (coded× coded_ℕ (coded× coded_ℕ (coded_list p)))
    (λ c. (c.width, (c.height, c.pixels)))
    (λ p. record { width = p.0; height = p.1.0; pixels = p.1.1 }) (λ _. refl)

abbrev pub region_code : Coded Size → Coded Span → Coded Region
region_code z s =
    code_by (Size × List (List Span)) (coded× z (coded_list (coded_list s)))
    (λ a. (a.size, a.rows)) (λ p. record { size = p.0; rows = p.1 }) (λ _. refl)

abbrev pub engine_code : Coded Document → Coded (KeptList EntryKey Wrapper Made) → Coded Premultiplied
    → Coded Region → Coded EngineState
engine_code t k p a =
    code_by (Document × (KeptList EntryKey Wrapper Made × (Picture × (Bool × (ℕ × Option Region)))))
    (coded× t (coded× k (coded× (picture_code p) (coded× coded_bool (coded× coded_ℕ (coded_option a))))))
    (λ s. (s.tree, (s.kept, (s.canvas, (s.pending, (s.paints, s.area))))))
    (λ p. record { tree = p.0; kept = p.1.0; canvas = p.1.1.0; pending = p.1.1.1.0; paints = p.1.1.1.1.0; area = p.1.1.1.1.1 }) (λ _. refl)
