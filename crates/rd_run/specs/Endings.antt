-- How a run may end, why, and what it has then written. All of it is this project's own choice.
use Rattle.std.specs.Prelude.{◌≡◌, ℕ, ◌+◌, ◌≤◌, List, [], ◌++◌, codes, decimal, length, Option, Some, None, ◌⊎◌}
use Rattle.std.specs.Io.KnownBytes.{Appends, Consumes, IsAtEnd}
use Rattle.sha2.specs.Sha256.{sha256}
use Rattle.rd_io.specs.Causes.{GainsPart, Takes, one_more}
use Rattle.rd_scene.specs.Scripts.{Script}
use Rattle.rd_scene.specs.Reading.{IsScriptText, IsOffForm, HasNoReading}
use Rattle.rd_scene.specs.declared.fault.Place.{Place}
use Rattle.rd_scene.specs.declared.fault.Place.TheVariants as place
use Rattle.rd_scene.specs.declared.fault.Why.{Why}
use Rattle.rd_scene.specs.declared.fault.Why.TheVariants as why
use Rattle.rd_gen.specs.Generated.{generated_script}
use Rattle.rd_report.specs.Summaries.{summary_lines}
use Rattle.rd_report.specs.declared.summary.Totals.{Totals}
use Rattle.rd_run.specs.Machine.{State, Counts, Answers, Finishes, no_counts}
use Rattle.rd_run.specs.Pictures.{picture, wire_picture}
use Rattle.rd_run.specs.Figures.{most_bytes}
use Rattle.rd_wire.specs.Wires.{spelled, IsWire}
use Rattle.rd_wire.specs.declared.wire.Wire as wires
use Rattle.rd_run.specs.Tiled.{IsScriptTiles}
use Rattle.rd_run.specs.Checks.{dump_before, script_from, IsLastState, leaf_count, checked_looks, IsScriptVerdict, IsNoDumpText}
use Rattle.rd_check.specs.Dumped.{IsDumpText}
use Rattle.rd_run.specs.declared.status.Status.{Status}
use Rattle.rd_run.specs.declared.status.Status.TheVariants.{Done, Usage, NotJson, Form, ReadFault, WriteFault, NoMemory, TooLarge, BadWire, BadDump}
use Rattle.rd_run.specs.declared.words.WordsForm.{WordsForm}
use Rattle.rd_run.specs.declared.words.WordsForm.TheVariants.{Replay, Render, Tiles, Wire, Compose, Check, Storm}

-- the exit status
abbrev pub number : Status → ℕ
number Done = 0
number Usage = 1
number NotJson = 2
number (Form p w) = 3
number ReadFault = 4
number WriteFault = 5
number NoMemory = 6
number TooLarge = 7
number BadWire = 8
number BadDump = 9

-- where a rule of the format is broken
abbrev pub place_text : Place → List ℕ
place_text place.Top = codes "top"
place_text place.Canvas = codes "canvas"
place_text (place.Box n) = codes "box " ++ decimal n
place_text (place.Command n) = codes "command " ++ decimal n

-- which rule is broken
abbrev pub why_text : Why → List ℕ
why_text why.Missing = codes "Missing"
why_text why.Unknown = codes "Unknown"
why_text why.Kind = codes "Kind"
why_text why.Range = codes "Range"
why_text why.Color = codes "Color"
why_text why.Duplicate = codes "Duplicate"
why_text why.Parent = codes "Parent"
why_text why.Depth = codes "Depth"
why_text why.Count = codes "Count"
why_text why.Command = codes "Command"

-- the line on standard error
abbrev pub line_of : Status → List ℕ
line_of Done = []
line_of Usage = codes "usage: rd_cli replay | rd_cli render | rd_cli storm --seed N --boxes N --edits N | rd_cli tiles | rd_cli wire | rd_cli compose | rd_cli check\n"
line_of NotJson = codes "not json\n"
line_of (Form p w) = codes "form: " ++ (place_text p ++ (codes ": " ++ (why_text w ++ codes "\n")))
line_of ReadFault = codes "read fault\n"
line_of WriteFault = codes "write fault\n"
line_of NoMemory = codes "out of memory\n"
line_of TooLarge = codes "input too large\n"
line_of BadWire = codes "bad wire\n"
line_of BadDump = codes "bad dump\n"

-- What is known of a stream before and after a run: its bytes where it tells them (of a source those that are left, of a
-- sink those that were written), and its count of faults.
pub record Stream : Type 0 where
  pub bytes : Option (List ℕ)
  pub bytes_now : Option (List ℕ)
  pub faults : ℕ
  pub faults_now : ℕ

abbrev pub stream : Option (List ℕ) → Option (List ℕ) → ℕ → ℕ → Stream
stream bytes bytes_now faults faults_now =
    record { bytes = bytes; bytes_now = bytes_now; faults = faults; faults_now = faults_now }

-- A counter before and after a run.
pub record Counter : Type 0 where
  pub was : ℕ
  pub now : ℕ

abbrev pub counter : ℕ → ℕ → Counter
counter was now = record { was = was; now = now }

-- one fault of the stream was counted
abbrev pub HasFailed : Stream → Type 0
HasFailed s = s.faults_now ≡ one_more s.faults

-- no fault of the stream was counted
abbrev pub IsFaultless : Stream → Type 0
IsFaultless s = s.faults_now ≡ s.faults

-- These bytes are the whole input: they were taken from the source, which is at its end, and are within the limit.
pub record HasRead (source : Stream) (bytes : List ℕ) : Type 0 where
  pub taken : Consumes source.bytes source.bytes_now bytes
  pub ended : IsAtEnd source.bytes_now
  pub within : length bytes ≤ most_bytes
  pub faultless : IsFaultless source

-- Why no script was read.
abbrev pub RefusesInput : Stream → Status → Type 0
RefusesInput source ReadFault = HasFailed source
RefusesInput source TooLarge = IsFaultless source × Takes source.bytes source.bytes_now (most_bytes + 1)
RefusesInput source NotJson = (bytes : List ℕ) × HasRead source bytes × HasNoReading bytes
RefusesInput source (Form p w) = (bytes : List ℕ) × HasRead source bytes × IsOffForm bytes p w
RefusesInput source NoMemory = IsFaultless source
RefusesInput source _ = ⊥

-- What words of a form read: a script, a wire, or nothing.
abbrev pub ReadsInput : WordsForm → Type 0
ReadsInput (Storm seed boxes edits) = ⊥
ReadsInput form = Unit {0}

-- words of a form that read a script
abbrev pub ReadsScript : WordsForm → Type 0
ReadsScript Compose = ⊥
ReadsScript form = ReadsInput form

-- words of a form that read a wire
abbrev pub ReadsWire : WordsForm → Type 0
ReadsWire Compose = Unit {0}
ReadsWire form = ⊥

-- words of a form that read a dump before a script
abbrev pub ReadsDump : WordsForm → Type 0
ReadsDump Check = Unit {0}
ReadsDump form = ⊥

-- the bytes of the script in the input that words of a form read
abbrev pub script_bytes : WordsForm → List ℕ → List ℕ
script_bytes Check bytes = script_from bytes
script_bytes form bytes = bytes

-- these bytes are the input that a form of words takes; 'unread' says that the source is the one of before
abbrev pub IsInput : Type 0 → WordsForm → Stream → List ℕ → Type 0
IsInput unread (Storm seed boxes edits) source bytes = unread × (bytes ≡ [])
IsInput unread form source bytes = HasRead source bytes

-- what a storm tells of itself at its end
abbrev pub totals_of : ℕ → ℕ → ℕ → State → Totals
totals_of seed boxes edits s = record {
  seed = seed;
  boxes = boxes;
  edits = edits;
  accepted = s.counts.accepted;
  refused = s.counts.refused;
  paints = s.paints;
  built = s.counts.built;
  area = s.counts.area;
  digest = sha256 (picture s.tree);
}

-- the answers to the commands of a script, and what the machine counts then
abbrev pub IsScriptAnswer : Script → List ℕ → Counts → Type 0
IsScriptAnswer s text counts = (end : State) × Answers s text end × (counts ≡ end.counts)

-- the picture of what is painted at the end of a script
abbrev pub IsScriptPicture : Script → List ℕ → Counts → Type 0
IsScriptPicture s text counts = (end : State) × Finishes s end × (text ≡ picture end.tree) × (counts ≡ end.counts)

-- the spelling of the list that is kept at the end of a script, with its canvas
abbrev pub IsScriptWire : Script → List ℕ → Counts → Type 0
IsScriptWire s text counts =
    (end : State) × Finishes s end × (text ≡ spelled (record { size = end.tree.canvas; list = end.kept }))
    × (counts ≡ end.counts)

-- these bytes are the spelling of a wire
abbrev pub IsWireText : List ℕ → wires.Wire → Type 0
IsWireText bytes w = IsWire w × (bytes ≡ spelled w)

-- these bytes are the spelling of no wire
abbrev pub IsNoWireText : List ℕ → Type 0
IsNoWireText bytes = (w : wires.Wire) → ¬ IsWireText bytes w

-- the picture of a wire, for which nothing is counted
abbrev pub IsWirePicture : wires.Wire → List ℕ → Counts → Type 0
IsWirePicture w text counts = (text ≡ wire_picture w) × (counts ≡ no_counts)

-- the summary of a generated script
abbrev pub IsStormSummary : ℕ → ℕ → ℕ → List ℕ → Counts → Type 0
IsStormSummary seed boxes edits text counts =
    (end : State) × Finishes (generated_script seed boxes edits) end
    × (text ≡ summary_lines (totals_of seed boxes edits end)) × (counts ≡ end.counts)

-- A text that may answer the input of words of a form, and what the machine counts then.
abbrev pub IsAnswer : WordsForm → List ℕ → List ℕ → Counts → Type 0
IsAnswer Replay bytes text counts = (s : Script) × IsScriptText bytes s × IsScriptAnswer s text counts
IsAnswer Render bytes text counts = (s : Script) × IsScriptText bytes s × IsScriptPicture s text counts
IsAnswer Tiles bytes text counts = (s : Script) × IsScriptText bytes s × IsScriptTiles s text counts
IsAnswer Wire bytes text counts = (s : Script) × IsScriptText bytes s × IsScriptWire s text counts
IsAnswer Compose bytes text counts = (w : wires.Wire) × IsWireText bytes w × IsWirePicture w text counts
IsAnswer Check bytes text counts =
    (s : Script) × IsScriptText (script_from bytes) s × IsScriptVerdict (dump_before bytes) s text counts
IsAnswer (Storm seed boxes edits) bytes text counts = IsStormSummary seed boxes edits text counts

module _ (out : Stream) (made looks : Counter) where
  -- The sink gained the whole of such a text; as many items were made as the machine counts, and no more looks taken.
  abbrev pub WritesAll : WordsForm → List ℕ → Type 0
  WritesAll form bytes =
      (text : List ℕ) × (counts : Counts) × IsAnswer form bytes text counts × Appends out.bytes out.bytes_now text
      × (made.now ≡ made.was + counts.built) × (looks.now ≤ looks.was + counts.looks)

  -- The sink gained a front of such a text; no more items were made, and no more looks taken, than the machine counts.
  abbrev pub WritesPart : WordsForm → List ℕ → Type 0
  WritesPart form bytes =
      (text : List ℕ) × (counts : Counts) × IsAnswer form bytes text counts × GainsPart out.bytes out.bytes_now text
      × (made.now ≤ made.was + counts.built) × (looks.now ≤ looks.was + counts.looks)

  -- What was done without memory: a part as above. Under `check` nothing is written then, and no more items were made than the
  -- painting order of the tree at the end of the script has.
  abbrev pub StopsPart : WordsForm → List ℕ → Type 0
  StopsPart Check bytes =
      (out.bytes_now ≡ out.bytes) × ((s : Script) × IsScriptText (script_from bytes) s × ((last : State) × IsLastState s last
      × (made.now ≤ made.was + leaf_count last.tree) × (looks.now ≤ looks.was + checked_looks last)))
  StopsPart form bytes = WritesPart form bytes

-- Is nothing written with this status?
abbrev pub WritesNothing : Status → Type 0
WritesNothing Done = ⊥
WritesNothing WriteFault = ⊥
WritesNothing NoMemory = ⊥
WritesNothing _ = Unit {0}

-- How a run of a form of words may end: the status, its cause, and what was written. 'Unread' says that the source is the
-- one of before, and 'untouched' that the sink and the two counters are, the sink's count too.
module _ (unread untouched : Type 0) (source out : Stream) (made looks : Counter) where
  abbrev pub EndsAs : WordsForm → Status → Type 0
  EndsAs form Usage = ⊥
  EndsAs form ReadFault = ReadsInput form × untouched × HasFailed source
  EndsAs form TooLarge =
      ReadsInput form × untouched × IsFaultless source × Takes source.bytes source.bytes_now (most_bytes + 1)
  EndsAs form NotJson =
      ReadsScript form × untouched × ((bytes : List ℕ) × IsInput unread form source bytes × HasNoReading (script_bytes form bytes))
  EndsAs form (Form p w) =
      ReadsScript form × untouched × ((bytes : List ℕ) × IsInput unread form source bytes × IsOffForm (script_bytes form bytes) p w)
  EndsAs form BadWire =
      ReadsWire form × untouched × ((bytes : List ℕ) × IsInput unread form source bytes × IsNoWireText bytes)
  EndsAs form BadDump =
      ReadsDump form × untouched × ((bytes : List ℕ) × IsInput unread form source bytes
      × ((s : Script) × IsScriptText (script_from bytes) s) × IsNoDumpText (dump_before bytes))
  EndsAs form WriteFault =
      HasFailed out × ((bytes : List ℕ) × IsInput unread form source bytes × WritesPart out made looks form bytes)
  EndsAs form NoMemory =
      IsFaultless source × (untouched ⊎ (IsFaultless out
      × ((bytes : List ℕ) × IsInput unread form source bytes × StopsPart out made looks form bytes)))
  EndsAs form Done =
      IsFaultless out × ((bytes : List ℕ) × IsInput unread form source bytes × WritesAll out made looks form bytes)

  -- How a run may end: words of no form end it before anything is read.
  abbrev pub Ends : Option WordsForm → Status → Type 0
  Ends None Usage = unread × untouched
  Ends None NoMemory = unread × untouched
  Ends None _ = ⊥
  Ends (Some form) s = EndsAs form s

-- The source has an input within the limit, which words of the form can answer.
abbrev pub HasAnswer : WordsForm → Stream → Type 0
HasAnswer (Storm seed boxes edits) source = Unit {0}
HasAnswer Compose source =
    (bytes : List ℕ) × (w : wires.Wire) × (source.bytes ≡ Some bytes) × (length bytes ≤ most_bytes) × IsWireText bytes w
HasAnswer Check source =
    (bytes : List ℕ) × (script : Script) × (source.bytes ≡ Some bytes) × (length bytes ≤ most_bytes)
    × IsScriptText (script_from bytes) script × IsDumpText (dump_before bytes)
HasAnswer form source =
    (bytes : List ℕ) × (script : Script) × (source.bytes ≡ Some bytes) × (length bytes ≤ most_bytes)
    × IsScriptText bytes script

-- Such an input is answered, unless a fault was counted or there was no memory.
abbrev pub Completes : Option WordsForm → Stream → Stream → Status → Type 0
Completes words source out s =
    (form : WordsForm) → words ≡ Some form → HasAnswer form source → ¬ HasFailed source → ¬ HasFailed out
    → (s ≡ Done) ⊎ (s ≡ NoMemory)

-- The line of the status was written, or a front of it where a fault was counted.
abbrev pub Tells : Stream → Status → Type 0
Tells err s =
    Appends err.bytes err.bytes_now (line_of s)
    ⊎ (HasFailed err × GainsPart err.bytes err.bytes_now (line_of s))

-- What a run says, all of it of one status: the number of the status is its result; how it ends with it, and why; that an
-- input which has an answer gets it; and the line on standard error.
pub record Runs (unread untouched : Type 0) (source out err : Stream) (made looks : Counter) (words : Option WordsForm)
    (result : ℕ) : Type 0 where
  pub status : Status
  pub numbered : result ≡ number status
  pub ends : Ends unread untouched source out made looks words status
  pub complete : Completes words source out status
  pub line : Tells err status
