-- The machine: what the program may answer to the commands of a script. It is this project's own choice.
use Rattle.std.specs.Prelude.{◌≡◌, ℕ, ℤ, ◌+◌, ◌-◌, ◌==◌, Bool, true, false, if◌then◌else◌, List, ◌∷◌, ◌++◌, length, take, find, Option, Some, None, option_map, option_and_then, []}
use Rattle.std.specs.List.{AllByRecursion}
use Rattle.std.specs.Option.{option_map_or}
use Rattle.circular_buffer.specs.Buffer.{keep_last, last_item}
use Rattle.sha2.specs.Sha256.{sha256}
use Rattle.rd_geom.specs.Areas.{Region, meets_area, count_of}
use Rattle.rd_item.specs.declared.leaf.Leaf.{Leaf}
use Rattle.rd_item.specs.Items.{Made}
use Rattle.rd_list.specs.Wrappers.{Wrapper}
use Rattle.rd_list.specs.Entries.{Entries, nil, flat}
use Rattle.rd_list.specs.EntryNames.{new_leaves}
use Rattle.rd_list.specs.Lists.{StandsFor, same_leaf, hit}
use Rattle.rd_tree.specs.Document.{Document}
use Rattle.rd_edits.specs.declared.edit.Edit.{Edit}
use Rattle.rd_edits.specs.declared.fault.EditFault.{EditFault}
use Rattle.rd_edits.specs.Refusals.{refusal_of, number_of}
use Rattle.rd_edits.specs.Edited.{IsEdited}
use Rattle.rd_undo.specs.Inverse.{inverse, boxes_of}
use Rattle.rd_stack.specs.Fresh.{fresh_list}
use Rattle.rd_engine.specs.Invalid.{area_due, remade_in, looks_in}
use Rattle.rd_engine.specs.Painted.{untouched, shown_at}
use Rattle.rd_scene.specs.Scripts.{Script}
use Rattle.rd_scene.specs.declared.script.Command.{Command}
use Rattle.rd_scene.specs.declared.script.Command.TheVariants.{Change, Paint, Hit, Pixel, Dump, Shot, Undo}
use Rattle.rd_scene.specs.Planting.{Plants}
use Rattle.rd_report.specs.Answers.{ok_line, refused_line, paint_line, hit_line, pixel_line, shot_line, undone_line}
use Rattle.rd_report.specs.Dumps.{dump_lines, named_list}
use Rattle.rd_report.specs.Words.{id_text}
use Rattle.rd_run.specs.Figures.{max_undos}
use Rattle.rd_run.specs.Pictures.{picture}

-- what is counted from the first command on: edits that were done and that were refused, the items that all paints made,
-- the pixels of their areas, and how often boxes may have been looked at
pub record Counts : Type 0 where
  pub accepted : ℕ
  pub refused : ℕ
  pub built : ℕ
  pub area : ℕ
  pub looks : ℕ

-- For each of some edits the edits that undo it, the newest last.
abbrev pub Undos : Type 0
Undos = List (List Edit)

-- what one command hands to the next: the tree, the tree at the last paint, whether the list is pending, how many paints
-- there were, the kept list, what undoes the latest edits, where the script has undos, and what was counted
pub record State : Type 0 where
  pub tree : Document
  pub last : Option Document
  pub pending : Bool
  pub paints : ℕ
  pub kept : Entries Wrapper Made
  pub undos : Option Undos
  pub counts : Counts

abbrev pub no_counts : Counts
no_counts = record { accepted = 0; refused = 0; built = 0; area = 0; looks = 0 }

-- nothing is to be undone yet; only version 2 has undos
abbrev pub first_undos : ℕ → Option Undos
first_undos version = if version == 2 then Some [] else None

-- before the first command of a script of this version
abbrev pub start : ℕ → Document → State
start version t = record { tree = t; last = None; pending = true; paints = 0; kept = nil; undos = first_undos version; counts = no_counts }

-- the pixels of the canvas that a paint has to paint anew: the list of the last paint was that of the tree then
abbrev pub invalid_area : State → Region
invalid_area s = area_due (option_map fresh_list s.last) s.tree

-- the leaves of which a paint makes the items anew
abbrev pub remade : State → Entries Wrapper Leaf
remade s = remade_in (invalid_area s) s.tree

-- the number of the item of a leaf in a kept list
abbrev pub number_in : Entries Wrapper Made → Leaf → ℕ
number_in kept l = option_map_or (λ i. i.made_at) (find (λ i. same_leaf i.leaf l) (flat kept)) 0

-- An item that is made has the number of the paint, and any other the number that it had.
abbrev pub IsNumbered : State → Made → Type 0
IsNumbered old i =
    i.made_at
    ≡ (if meets_area (invalid_area old) i.leaf.visible then old.paints + 1 else number_in old.kept i.leaf)

-- how often a paint may look at boxes
abbrev pub most_looks : State → ℕ
most_looks s = looks_in (invalid_area s) s.tree

-- what is counted after a paint
abbrev pub painted_counts : State → Counts
painted_counts s = record s.counts {
  built = s.counts.built + length (flat (remade s));
  area = s.counts.area + count_of (invalid_area s);
  looks = s.counts.looks + most_looks s;
}

-- the state after a paint that keeps this list
abbrev pub painted_state : State → Entries Wrapper Made → State
painted_state old kept = record {
  tree = untouched old.tree;
  last = Some old.tree;
  pending = false;
  paints = old.paints + 1;
  kept = kept;
  undos = old.undos;
  counts = painted_counts old;
}

-- A paint leads from old to new with this line. The order within the new list is free where leaves do not meet.
pub record Paints (old : State) (text : List ℕ) (new : State) : Type 0 where
  pub stands : StandsFor (new_leaves new.kept) (fresh_list old.tree)
  pub numbers : AllByRecursion (IsNumbered old) (flat new.kept)
  pub settled : new ≡ painted_state old new.kept
  -- how many items it kept
  pub others : ℕ
  pub all : length (flat (remade old)) + others ≡ length (flat (fresh_list old.tree))
  pub told : text ≡ paint_line (old.paints + 1) (length (flat (remade old))) others (count_of (invalid_area old))

-- a pending list is painted first
abbrev pub PaintsIf : Bool → State → List ℕ → State → Type 0
PaintsIf true old text new = Paints old text new
PaintsIf false old text new = (text ≡ []) × (new ≡ old)

-- A question: the list is painted if it is pending, and then the answer changes nothing.
abbrev pub Asks : (State → List ℕ) → State → List ℕ → State → Type 0
Asks answer old text new =
    (first : List ℕ) × PaintsIf old.pending old first new × (text ≡ first ++ answer new)

-- the id of the box that is hit in the painting order of the tree
abbrev pub hit_answer : ℤ → ℤ → State → List ℕ
hit_answer x y s = hit_line (option_map (λ k. id_text k s.tree.boxes) (hit (fresh_list s.tree) x y))

-- the colour of a pixel of the painting order of the tree, where it is on the canvas
abbrev pub pixel_answer : ℤ → ℤ → State → List ℕ
pixel_answer x y s = pixel_line (shown_at s.tree x y)

-- the lines of the kept list
abbrev pub dump_answer : State → List ℕ
dump_answer s = dump_lines (named_list s.tree.boxes s.kept)

-- the digest of the picture of the painting order of the tree
abbrev pub shot_answer : State → List ℕ
shot_answer s = shot_line (sha256 (picture s.tree))

-- with what undoes one more edit; the oldest goes where there are as many as are kept
abbrev pub noted : Document → Edit → Option Undos → Option Undos
noted t e o = option_map (λ us. keep_last max_undos (us ++ inverse t e ∷ [])) o

-- how often boxes may be looked at to tell what undoes an edit
abbrev pub noting_looks : Document → Edit → Option Undos → ℕ
noting_looks t e None = 0
noting_looks t e (Some us) = boxes_of t e

-- one more edit was done, or was refused
abbrev pub one_done : Edit → State → Counts
one_done e s = record s.counts {
  accepted = s.counts.accepted + 1;
  looks = s.counts.looks + noting_looks s.tree e s.undos;
}

abbrev pub one_refused : Counts → Counts
one_refused c = record c { refused = c.refused + 1 }

-- An edit that a test refuses changes nothing; any other is done, and the list is pending.
abbrev pub Edits : Option EditFault → Edit → State → List ℕ → State → Type 0
Edits (Some f) e old text new =
    (text ≡ refused_line (number_of f)) × (new ≡ record old { counts = one_refused old.counts })
Edits None e old text new =
    (text ≡ ok_line) × ((t : Document) × IsEdited e old.tree t
    × (new ≡ record old { tree = t; pending = true; undos = noted old.tree e old.undos; counts = one_done e old }))

-- One of the edits that undo another. It is done, which is counted by the one number, or a test refuses it; no undo is kept of it.
abbrev pub TakesOne : Option EditFault → Edit → ℕ → State → State → Type 0
TakesOne (Some f) e n old new = (n ≡ 0) × (new ≡ old)
TakesOne None e n old new = (n ≡ 1) × ((t : Document) × IsEdited e old.tree t × (new ≡ record old { tree = t; pending = true }))

-- The same of some, one after another.
abbrev pub TakesBack : List Edit → ℕ → State → State → Type 0
TakesBack [] n old new = (n ≡ 0) × (new ≡ old)
TakesBack (e ∷ es) n old new =
    (m : ℕ) × (k : ℕ) × (mid : State) × TakesOne (refusal_of old.tree e) e m old mid × TakesBack es k mid new × (n ≡ m + k)

-- what undoes the latest edit that is not undone yet, and the others
abbrev pub newest : Option Undos → Option (List Edit)
newest o = option_and_then last_item o

abbrev pub older : Option Undos → Option Undos
older o = option_map (λ us. take (length us - 1) us) o

-- An undo of an edit, where there is one.
abbrev pub Undoes : Option (List Edit) → State → List ℕ → State → Type 0
Undoes None old text new = (text ≡ undone_line None) × (new ≡ old)
Undoes (Some es) old text new =
    (n : ℕ) × (text ≡ undone_line (Some n)) × TakesBack es n (record old { undos = older old.undos }) new

-- From old, the machine may answer a command by this text and go on to new.
abbrev pub Step : Command → State → List ℕ → State → Type 0
Step (Change e) old text new = Edits (refusal_of old.tree e) e old text new
Step Paint old text new = Paints old text new
Step (Hit x y) old text new = Asks (hit_answer x y) old text new
Step (Pixel x y) old text new = Asks (pixel_answer x y) old text new
Step Dump old text new = Asks dump_answer old text new
Step Shot old text new = Asks shot_answer old text new
Step Undo old text new = Undoes (newest old.undos) old text new

-- The machine may answer these commands by this text, one after another.
abbrev pub Run : State → List Command → List ℕ → State → Type 0
Run old [] text new = (text ≡ []) × (new ≡ old)
Run old (c ∷ cs) text new =
    (first : List ℕ) × (rest : List ℕ) × (mid : State)
    × Step c old first mid × Run mid cs rest new × (text ≡ first ++ rest)

-- The machine may answer the commands of a script by this text, and end in this state, from a tree that the script plants.
abbrev pub Answers : Script → List ℕ → State → Type 0
Answers s text new = (t : Document) × Plants s t × Run (start s.version t) s.commands text new

-- The machine may do the commands of a script and end in this state, with a paint if the list is pending then.
abbrev pub Finishes : Script → State → Type 0
Finishes s new =
    (text line : List ℕ) × (mid : State) × Answers s text mid × PaintsIf mid.pending mid line new
