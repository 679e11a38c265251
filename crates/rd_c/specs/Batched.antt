-- Edits that come in one call. All of it is this project's own choice.
use Rattle.std.specs.Prelude.{◌≡◌, ℕ, ◌-◌, ◌≤◌, ◌==◌, nat_le, ◌&&◌, if◌then◌else◌, List, [], ◌∷◌, take, drop, length, decimal, Option, Some, None}
use Rattle.rd_edits.specs.declared.edit.Edit.{Edit}
use Rattle.rd_edits.specs.declared.edit.Edit.TheVariants.{Remove, Move, SetRect, Shift, Scroll}
use Rattle.rd_c.specs.Asked.{IsInsertion, IsStyling, or_none}
use Rattle.rd_c.specs.Spelled.{rectangle_of}
use Rattle.rd_c.specs.declared.batches.RdName.{RdName}
use Rattle.rd_c.specs.declared.batches.RdEdit.{RdEdit}

-- the bytes of a text from a place up to but not including another
abbrev pub part_of : List ℕ → ℕ → ℕ → Option (List ℕ)
part_of text from to = if nat_le from to && nat_le to (length text) then Some (take (to - from) (drop from text)) else None

-- the text of an id
abbrev pub text_of : List ℕ → RdName → Option (List ℕ)
text_of texts n =
    if n.kind == 0 then Some [] else if n.kind == 1 then part_of texts n.from n.to else if n.kind == 2 then Some (decimal n.number) else None

-- These numbers spell this edit.
pub record Spells (texts : List ℕ) (e : RdEdit) (d : Edit) : Type 0 where
  pub id : List ℕ
  pub parent : List ℕ
  pub before : List ℕ
  pub named : text_of texts e.id ≡ Some id
  pub below : text_of texts e.parent ≡ Some parent
  pub place : text_of texts e.before ≡ Some before
  pub kind : e.kind ≤ 6
  pub inserts : e.kind ≡ 0 → IsInsertion id parent before e.place e.look d
  pub removes : e.kind ≡ 1 → d ≡ Remove id
  pub moves : e.kind ≡ 2 → d ≡ Move id parent (or_none before)
  pub styles : e.kind ≡ 3 → IsStyling id e.look e.names d
  pub places : e.kind ≡ 4 → d ≡ SetRect id (rectangle_of e.place)
  pub shifts : e.kind ≡ 5 → d ≡ Shift id e.dx e.dy
  pub scrolls : e.kind ≡ 6 → d ≡ Scroll id e.dx e.dy
