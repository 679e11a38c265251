-- The lines of answers. The format is this project's own choice.
use Rattle.std.specs.Prelude.{ℕ, List, ◌∷◌, codes, decimal, Option, Some, None, []}
use Rattle.hex.specs.Hex.{encode_lower}
use Rattle.rd_geom.specs.declared.color.Color.{Color}
use Rattle.rd_report.specs.Words.{line, opaque_text}
use Rattle.rd_report.specs.declared.answer.Answer.{Answer}
use Rattle.rd_report.specs.declared.answer.Answer.TheVariants.{Done, Refused, Painted, Hit, Pixel, Shot, Undone}

-- what an edit that is done writes
abbrev pub ok_line : List ℕ
ok_line = line (codes "ok" ∷ [])

-- what an edit writes that the test of this number refuses
abbrev pub refused_line : ℕ → List ℕ
refused_line n = line (codes "refused" ∷ decimal n ∷ [])

-- what a paint writes: its number, the items it made, the others, and the pixels of its area
abbrev pub paint_line : ℕ → ℕ → ℕ → ℕ → List ℕ
paint_line number built kept area =
    line (codes "paint" ∷ decimal number ∷ codes "built" ∷ decimal built
    ∷ codes "kept" ∷ decimal kept ∷ codes "area" ∷ decimal area ∷ [])

-- what a hit writes: the id of the box
abbrev pub hit_line : Option (List ℕ) → List ℕ
hit_line (Some id) = line (codes "hit" ∷ id ∷ [])
hit_line None = line (codes "hit" ∷ codes "none" ∷ [])

-- what a pixel writes: its red, green and blue
abbrev pub pixel_line : Option Color → List ℕ
pixel_line (Some c) = line (codes "pixel" ∷ opaque_text c ∷ [])
pixel_line None = line (codes "pixel" ∷ codes "none" ∷ [])

-- what a shot writes: the digest of the picture, in lower-case hexadecimal digits
abbrev pub shot_line : List ℕ → List ℕ
shot_line digest = line (codes "shot" ∷ encode_lower digest ∷ [])

-- what taking an edit back writes: how many edits that took, or that there was none
abbrev pub undone_line : Option ℕ → List ℕ
undone_line (Some n) = line (codes "undone" ∷ decimal n ∷ [])
undone_line None = line (codes "undo" ∷ codes "none" ∷ [])

-- the line of an answer
abbrev pub answer_line : Answer → List ℕ
answer_line Done = ok_line
answer_line (Refused n) = refused_line n
answer_line (Painted number built kept area) = paint_line number built kept area
answer_line (Hit None) = hit_line None
answer_line (Hit (Some id)) = hit_line (Some id.now)
answer_line (Pixel c) = pixel_line c
answer_line (Shot d) = shot_line d
answer_line (Undone n) = undone_line n
