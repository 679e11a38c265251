-- How runs end.
use Rattle.std.proofs.Common.{◌≡◌, ◌⊎◌, ℕ, ◌+◌, ◌≤◌, List, [], ◌∷◌, ◌++◌, length, Option, Some, None, Result, Ok, Err, IfOk, IfErr, refl, sym, ◌∙◌, ap, subst, inl, inr, arith, length-append, append-nil}
use Rattle.std.specs.Io.KnownBytes.{Consumes, IsAtEnd}
use Rattle.rd_io.specs.Causes.{Takes}
use Rattle.rd_scene.specs.Scripts.{Script, form_faults}
use Rattle.rd_scene.specs.Reading.{IsScriptText, IsOffForm, HasNoReading}
use Rattle.rd_scene.specs.declared.fault.Place.{Place}
use Rattle.rd_scene.specs.declared.fault.Why.{Why}
use Rattle.rd_run.specs.Endings.{Stream, Counter, HasFailed, IsFaultless, HasRead, HasAnswer, RefusesInput, EndsAs, Ends, Completes, IsScriptAnswer, IsScriptPicture, IsStormSummary, ReadsInput, ReadsScript, ReadsWire, ReadsDump, script_bytes, WritesPart, StopsPart, IsInput, IsAnswer, IsScriptWire, IsWireText, IsNoWireText, IsWirePicture}
use Rattle.rd_run.specs.Checks.{dump_before, script_from, checked_counts, IsNoDumpText}
use Rattle.rd_check.specs.Dumped.{IsDumpText}
use Rattle.rd_run.specs.Internal.Answered.{AnswersAs, RefusesWire, RefusesBytes, RefusesText, RefusesDump, ChecksScript, ChecksOf, ChecksText}
use Rattle.rd_run.specs.Figures.{most_bytes}
use Rattle.rd_wire.specs.declared.wire.Wire as wires
use Rattle.rd_run.specs.Machine.{Counts}
use Rattle.rd_run.specs.Tiled.{IsScriptTiles}
use Rattle.rd_run.specs.declared.status.Status.{Status}
use Rattle.rd_run.specs.declared.status.Status.TheVariants.{Done, Usage, NotJson, Form, ReadFault, WriteFault, NoMemory, TooLarge, BadWire, BadDump}
use Rattle.rd_run.specs.declared.words.WordsForm.{WordsForm}
use Rattle.rd_run.specs.declared.words.WordsForm.TheVariants.{Replay, Render, Tiles, Wire, Compose, Check, Storm}

-- what was not read, of bytes, of a script and of a wire
module _ (source : Stream) where
  pub bytes_unread : (s : Status) → RefusesBytes source s → RefusesInput source s
  bytes_unread ReadFault h = h
  bytes_unread TooLarge h = h
  bytes_unread NoMemory h = h
  bytes_unread NotJson h = absurd h
  bytes_unread (Form p w) h = absurd h
  bytes_unread BadWire h = absurd h
  bytes_unread BadDump h = absurd h
  bytes_unread Done h = absurd h
  bytes_unread Usage h = absurd h
  bytes_unread WriteFault h = absurd h

  pub wire_unread : (s : Status) → RefusesBytes source s → RefusesWire source s
  wire_unread ReadFault h = h
  wire_unread TooLarge h = h
  wire_unread NoMemory h = h
  wire_unread NotJson h = absurd h
  wire_unread (Form p w) h = absurd h
  wire_unread BadWire h = absurd h
  wire_unread BadDump h = absurd h
  wire_unread Done h = absurd h
  wire_unread Usage h = absurd h
  wire_unread WriteFault h = absurd h

  text_unread : (bytes : List ℕ) (s : Status) → HasRead source bytes → RefusesText bytes s → RefusesInput source s
  text_unread bytes NotJson r h = (bytes, r, h)
  text_unread bytes (Form p w) r h = (bytes, r, h)
  text_unread bytes NoMemory r h = r.faultless
  text_unread bytes ReadFault r h = absurd h
  text_unread bytes TooLarge r h = absurd h
  text_unread bytes BadWire r h = absurd h
  text_unread bytes BadDump r h = absurd h
  text_unread bytes Done r h = absurd h
  text_unread bytes Usage r h = absurd h
  text_unread bytes WriteFault r h = absurd h

  module _ (bytes : List ℕ) (read : HasRead source bytes) where
    pub script_read : (r : Result Script Status) → IfOk r (IsScriptText bytes) → IfOk r (λ s. (b : List ℕ) × IsScriptText b s × HasRead source b)
    script_read (Ok s) h = (bytes, h, read)
    script_read (Err e) h = tt

    pub script_unread : (r : Result Script Status) → IfErr r (RefusesText bytes) → IfErr r (RefusesInput source)
    script_unread (Ok s) h = tt
    script_unread (Err e) h = text_unread bytes e read h

-- an answer is one also where less is known of a run that wrote nothing
pub untouched_as : (P Q : Type 0) (is_answer : List ℕ → Counts → Type 0) (out : Stream) (made looks : Counter) (s : Status) → (P → Q)
    → AnswersAs P is_answer out made looks s → AnswersAs Q is_answer out made looks s
untouched_as P Q is_answer out made looks Done f a = a
untouched_as P Q is_answer out made looks WriteFault f a = a
untouched_as P Q is_answer out made looks NoMemory f (inl p) = inl (f p)
untouched_as P Q is_answer out made looks NoMemory f (inr a) = inr a
untouched_as P Q is_answer out made looks Usage f a = absurd a
untouched_as P Q is_answer out made looks NotJson f a = absurd a
untouched_as P Q is_answer out made looks (Form p w) f a = absurd a
untouched_as P Q is_answer out made looks ReadFault f a = absurd a
untouched_as P Q is_answer out made looks TooLarge f a = absurd a
untouched_as P Q is_answer out made looks BadWire f a = absurd a
untouched_as P Q is_answer out made looks BadDump f a = absurd a

module _ (unread untouched : Type 0) (source out : Stream) (made looks : Counter) where
  -- a run whose input was answered by a text
  answered_ends : (form : WordsForm) (is_answer : List ℕ → Counts → Type 0) (bytes : List ℕ) (s : Status) → IsFaultless source
      → IsInput unread form source bytes → ((text : List ℕ) (counts : Counts) → is_answer text counts → IsAnswer form bytes text counts)
      → (WritesPart out made looks form bytes → StopsPart out made looks form bytes)
      → AnswersAs untouched is_answer out made looks s → EndsAs unread untouched source out made looks form s
  answered_ends form is_answer bytes Done f i g k a = (a.0, (bytes, i, (a.1.0, a.1.1, g (a.1.0) (a.1.1) a.1.2, a.1.3, a.1.4, a.1.5)))
  answered_ends form is_answer bytes WriteFault f i g k a = (a.0, (bytes, i, (a.1.0, a.1.1, g (a.1.0) (a.1.1) a.1.2, a.1.3, a.1.4, a.1.5)))
  answered_ends form is_answer bytes NoMemory f i g k (inl u) = (f, inl u)
  answered_ends form is_answer bytes NoMemory f i g k (inr a) = (f, inr (a.0, (bytes, i, k (a.1.0, a.1.1, g (a.1.0) (a.1.1) a.1.2, a.1.3, a.1.4, a.1.5))))
  answered_ends form is_answer bytes Usage f i g k a = absurd a
  answered_ends form is_answer bytes NotJson f i g k a = absurd a
  answered_ends form is_answer bytes (Form p w) f i g k a = absurd a
  answered_ends form is_answer bytes ReadFault f i g k a = absurd a
  answered_ends form is_answer bytes TooLarge f i g k a = absurd a
  answered_ends form is_answer bytes BadWire f i g k a = absurd a
  answered_ends form is_answer bytes BadDump f i g k a = absurd a

  pub replay_ends : (script : Script) (bytes : List ℕ) (s : Status) → IsScriptText bytes script → HasRead source bytes
      → AnswersAs untouched (IsScriptAnswer script) out made looks s → EndsAs unread untouched source out made looks Replay s
  replay_ends script bytes s t r a = answered_ends Replay (IsScriptAnswer script) bytes s r.faultless r (λ text counts i. (script, t, i)) (λ w. w) a

  pub render_ends : (script : Script) (bytes : List ℕ) (s : Status) → IsScriptText bytes script → HasRead source bytes
      → AnswersAs untouched (IsScriptPicture script) out made looks s → EndsAs unread untouched source out made looks Render s
  render_ends script bytes s t r a = answered_ends Render (IsScriptPicture script) bytes s r.faultless r (λ text counts i. (script, t, i)) (λ w. w) a

  pub tiles_ends : (script : Script) (bytes : List ℕ) (s : Status) → IsScriptText bytes script → HasRead source bytes
      → AnswersAs untouched (IsScriptTiles script) out made looks s → EndsAs unread untouched source out made looks Tiles s
  tiles_ends script bytes s t r a = answered_ends Tiles (IsScriptTiles script) bytes s r.faultless r (λ text counts i. (script, t, i)) (λ w. w) a

  pub wire_ends : (script : Script) (bytes : List ℕ) (s : Status) → IsScriptText bytes script → HasRead source bytes
      → AnswersAs untouched (IsScriptWire script) out made looks s → EndsAs unread untouched source out made looks Wire s
  wire_ends script bytes s t r a = answered_ends Wire (IsScriptWire script) bytes s r.faultless r (λ text counts i. (script, t, i)) (λ w. w) a

  pub compose_ends : (w : wires.Wire) (bytes : List ℕ) (s : Status) → IsWireText bytes w → HasRead source bytes
      → AnswersAs untouched (IsWirePicture w) out made looks s → EndsAs unread untouched source out made looks Compose s
  compose_ends w bytes s t r a = answered_ends Compose (IsWirePicture w) bytes s r.faultless r (λ text counts i. (w, t, i)) (λ w. w) a

  -- a storm, which reads nothing
  pub storm_ends : (seed boxes edits : ℕ) (s : Status) → unread → IsFaultless source
      → AnswersAs untouched (IsStormSummary seed boxes edits) out made looks s → EndsAs unread untouched source out made looks (Storm seed boxes edits) s
  storm_ends seed boxes edits s u f a =
      answered_ends (Storm seed boxes edits) (IsStormSummary seed boxes edits) [] s f (u, refl) (λ text counts i. i) (λ w. w) a

  -- a run without a script
  pub script_refused : (form : WordsForm) (s : Status) → ReadsScript form → ReadsInput form
      → ((bytes : List ℕ) → HasRead source bytes → IsInput unread form source bytes) → ((bytes : List ℕ) → script_bytes form bytes ≡ bytes)
      → RefusesInput source s → untouched → EndsAs unread untouched source out made looks form s
  script_refused form ReadFault is some i same h u = (some, u, h)
  script_refused form TooLarge is some i same h u = (some, u, h.0, h.1)
  script_refused form NotJson is some i same h u = (is, u, (h.0, i (h.0) h.1, subst HasNoReading (sym (same (h.0))) h.2))
  script_refused form (Form p w) is some i same h u = (is, u, (h.0, i (h.0) h.1, subst (λ (b : List ℕ). IsOffForm b p w) (sym (same (h.0))) h.2))
  script_refused form NoMemory is some i same h u = (h, inl u)
  script_refused form Done is some i same h u = absurd h
  script_refused form Usage is some i same h u = absurd h
  script_refused form WriteFault is some i same h u = absurd h
  script_refused form BadWire is some i same h u = absurd h
  script_refused form BadDump is some i same h u = absurd h

  -- a run whose input was not read under `check`
  pub bytes_refused : (s : Status) → RefusesBytes source s → untouched → EndsAs unread untouched source out made looks Check s
  bytes_refused ReadFault h u = (tt, u, h)
  bytes_refused TooLarge h u = (tt, u, h.0, h.1)
  bytes_refused NoMemory h u = (h, inl u)
  bytes_refused NotJson h u = absurd h
  bytes_refused (Form p w) h u = absurd h
  bytes_refused BadWire h u = absurd h
  bytes_refused BadDump h u = absurd h
  bytes_refused Done h u = absurd h
  bytes_refused Usage h u = absurd h
  bytes_refused WriteFault h u = absurd h

  -- or has no script behind the dump
  pub text_refused : (bytes : List ℕ) (s : Status) → HasRead source bytes → RefusesText (script_from bytes) s → untouched → EndsAs unread untouched source out made looks Check s
  text_refused bytes NotJson r h u = (tt, u, (bytes, r, h))
  text_refused bytes (Form p w) r h u = (tt, u, (bytes, r, h))
  text_refused bytes NoMemory r h u = (r.faultless, inl u)
  text_refused bytes ReadFault r h u = absurd h
  text_refused bytes TooLarge r h u = absurd h
  text_refused bytes BadWire r h u = absurd h
  text_refused bytes BadDump r h u = absurd h
  text_refused bytes Done r h u = absurd h
  text_refused bytes Usage r h u = absurd h
  text_refused bytes WriteFault r h u = absurd h

  -- or no dump before it
  pub dump_refused : (script : Script) (bytes : List ℕ) (s : Status) → IsScriptText (script_from bytes) script → HasRead source bytes
      → RefusesDump (dump_before bytes) s → untouched → EndsAs unread untouched source out made looks Check s
  dump_refused script bytes BadDump t r h u = (tt, u, (bytes, r, (script, t), h))
  dump_refused script bytes NoMemory t r h u = (r.faultless, inl u)
  dump_refused script bytes NotJson t r h u = absurd h
  dump_refused script bytes (Form p w) t r h u = absurd h
  dump_refused script bytes ReadFault t r h u = absurd h
  dump_refused script bytes TooLarge t r h u = absurd h
  dump_refused script bytes BadWire t r h u = absurd h
  dump_refused script bytes Done t r h u = absurd h
  dump_refused script bytes Usage t r h u = absurd h
  dump_refused script bytes WriteFault t r h u = absurd h

  -- a dump that was checked
  pub check_ends : (script : Script) (bytes : List ℕ) (s : Status) → IsScriptText (script_from bytes) script → HasRead source bytes
      → ChecksScript untouched (dump_before bytes) script out made looks s → EndsAs unread untouched source out made looks Check s
  check_ends script bytes s t r (inl u) = subst (λ (z : Status). EndsAs unread untouched source out made looks Check z) (sym u.1) (r.faultless, inl u.0)
  check_ends script bytes Done t r (inr h) =
      let c = h.2 in (c.0, (bytes, r, (c.1.0, checked_counts (h.0), (script, t, (h.0, h.1, c.1.1, refl)), c.1.2, c.1.3, c.1.4)))
  check_ends script bytes WriteFault t r (inr h) =
      let c = h.2 in (c.0, (bytes, r, (c.1.0, checked_counts (h.0), (script, t, (h.0, h.1, c.1.1, refl)), c.1.2, c.1.3, c.1.4)))
  check_ends script bytes NoMemory t r (inr h) = let c = h.2 in (r.faultless, inr (c.0, (bytes, r, (c.1, (script, t, (h.0, h.1, c.2, c.3))))))
  check_ends script bytes BadDump t r (inr h) = absurd h.2
  check_ends script bytes Usage t r (inr h) = absurd h.2
  check_ends script bytes NotJson t r (inr h) = absurd h.2
  check_ends script bytes (Form p w) t r (inr h) = absurd h.2
  check_ends script bytes ReadFault t r (inr h) = absurd h.2
  check_ends script bytes TooLarge t r (inr h) = absurd h.2
  check_ends script bytes BadWire t r (inr h) = absurd h.2

  pub dump_ends : (script : Script) (bytes : List ℕ) (s : Status) → IsScriptText (script_from bytes) script → HasRead source bytes
      → ChecksOf untouched (dump_before bytes) script out made looks s → EndsAs unread untouched source out made looks Check s
  dump_ends script bytes s t r (inl h) = dump_refused script bytes s t r h.1 h.0
  dump_ends script bytes s t r (inr h) = check_ends script bytes s t r h

  pub text_ends : (bytes : List ℕ) (s : Status) → HasRead source bytes → ChecksText untouched bytes out made looks s → EndsAs unread untouched source out made looks Check s
  text_ends bytes s r (inl h) = text_refused bytes s r h.1 h.0
  text_ends bytes s r (inr h) = dump_ends (h.0) bytes s h.1 r h.2

  -- a run without a wire
  pub wire_refused : (s : Status) → RefusesWire source s → untouched → EndsAs unread untouched source out made looks Compose s
  wire_refused ReadFault h u = (tt, u, h)
  wire_refused TooLarge h u = (tt, u, h.0, h.1)
  wire_refused BadWire h u = (tt, u, h)
  wire_refused NoMemory h u = (h, inl u)
  wire_refused NotJson h u = absurd h
  wire_refused (Form p w) h u = absurd h
  wire_refused Done h u = absurd h
  wire_refused Usage h u = absurd h
  wire_refused WriteFault h u = absurd h
  wire_refused BadDump h u = absurd h

-- the bytes that were taken to the end are those that were left
all_taken : (left now : Option (List ℕ)) (all bytes : List ℕ) → left ≡ Some all → Consumes left now bytes → IsAtEnd now → bytes ≡ all
all_taken None now all bytes e c n = absurd (let no : None ≡ Some all = e in cc)
all_taken (Some xs) None all bytes e c n = absurd c
all_taken (Some xs) (Some ys) all bytes e c n =
    let same : xs ≡ all = (let p : Some xs ≡ Some all = e in cc) in
    sym (append-nil bytes) ∙ ap (λ z. bytes ++ z) (sym n) ∙ sym c ∙ same

-- no more bytes can be taken than are left
none_over : (left now : Option (List ℕ)) (all : List ℕ) (n : ℕ) → left ≡ Some all → length all ≤ n → Takes left now (n + 1) → ⊥
none_over None now all n e l t = let no : None ≡ Some all = e in cc
none_over (Some xs) None all n e l t = t.1
none_over (Some xs) (Some ys) all n e l t =
    let same : xs ≡ all = (let p : Some xs ≡ Some all = e in cc) in
    let sizes : length all ≡ length (t.0 ++ ys) = ap length (sym same ∙ t.1) in
    let taken : length (t.0) ≡ n + 1 = t.2 in
    omega (arith, sizes, length-append (t.0) ys, taken)

-- a text that is a script has a value, and none that breaks a rule
both_ways : (b : List ℕ) (x : Script) (p : Place) (w : Why) → IsOffForm b p w → IsScriptText b x → ⊥
both_ways b x p w o t =
    let read : Some (o.0) ≡ Some (t.0) = sym o.2.1 ∙ t.1.1 in
    let d : o.0 ≡ t.0 = (cc) in
    let no : [] ≡ record { place = p; why = w } ∷ o.1 = sym t.2 ∙ ap form_faults (sym d) ∙ o.3 in
    cc

-- a script within the limit
abbrev pub IsGiven : Stream → Type 0
IsGiven source =
    (bytes : List ℕ) × (script : Script) × (source.bytes ≡ Some bytes) × (length bytes ≤ most_bytes) × IsScriptText bytes script

pub unreadable : (source : Stream) (bytes : List ℕ) → IsGiven source → HasRead source bytes → HasNoReading bytes → ⊥
unreadable source bytes v r n =
    let same : bytes ≡ v.0 = all_taken source.bytes source.bytes_now (v.0) bytes v.2 r.taken r.ended in
    let none : HasNoReading (v.0) = subst HasNoReading same n in
    none (v.4.0) v.4.1

pub broken : (source : Stream) (bytes : List ℕ) (p : Place) (w : Why) → IsGiven source → HasRead source bytes → IsOffForm bytes p w → ⊥
broken source bytes p w v r o =
    let same : bytes ≡ v.0 = all_taken source.bytes source.bytes_now (v.0) bytes v.2 r.taken r.ended in
    both_ways (v.0) (v.1) p w (subst (λ b. IsOffForm b p w) same o) v.4

pub too_large : (source : Stream) → IsGiven source → Takes source.bytes source.bytes_now (most_bytes + 1) → ⊥
too_large source v t = none_over source.bytes source.bytes_now (v.0) most_bytes v.2 v.3 t

-- a wire within the limit
abbrev IsGivenWire : Stream → Type 0
IsGivenWire source =
    (bytes : List ℕ) × (w : wires.Wire) × (source.bytes ≡ Some bytes) × (length bytes ≤ most_bytes) × IsWireText bytes w

no_wire : (source : Stream) (bytes : List ℕ) → IsGivenWire source → HasRead source bytes → IsNoWireText bytes → ⊥
no_wire source bytes v r n =
    let same : bytes ≡ v.0 = all_taken source.bytes source.bytes_now (v.0) bytes v.2 r.taken r.ended in
    subst IsNoWireText same n (v.1) v.4

wire_too_large : (source : Stream) → IsGivenWire source → Takes source.bytes source.bytes_now (most_bytes + 1) → ⊥
wire_too_large source v t = none_over source.bytes source.bytes_now (v.0) most_bytes v.2 v.3 t

-- a dump before a script within the limit
abbrev IsGivenDump : Stream → Type 0
IsGivenDump source =
    (bytes : List ℕ) × (script : Script) × (source.bytes ≡ Some bytes) × (length bytes ≤ most_bytes)
    × IsScriptText (script_from bytes) script × IsDumpText (dump_before bytes)

unread_script : (source : Stream) (bytes : List ℕ) → IsGivenDump source → HasRead source bytes → HasNoReading (script_from bytes) → ⊥
unread_script source bytes v r n =
    let same : bytes ≡ v.0 = all_taken source.bytes source.bytes_now (v.0) bytes v.2 r.taken r.ended in
    let none : HasNoReading (script_from (v.0)) = subst (λ (b : List ℕ). HasNoReading (script_from b)) same n in
    none (v.4.0) v.4.1

broken_script : (source : Stream) (bytes : List ℕ) (p : Place) (w : Why) → IsGivenDump source → HasRead source bytes → IsOffForm (script_from bytes) p w → ⊥
broken_script source bytes p w v r o =
    let same : bytes ≡ v.0 = all_taken source.bytes source.bytes_now (v.0) bytes v.2 r.taken r.ended in
    both_ways (script_from (v.0)) (v.1) p w (subst (λ (b : List ℕ). IsOffForm (script_from b) p w) same o) v.4

no_dump : (source : Stream) (bytes : List ℕ) → IsGivenDump source → HasRead source bytes → IsNoDumpText (dump_before bytes) → ⊥
no_dump source bytes v r n =
    let same : bytes ≡ v.0 = all_taken source.bytes source.bytes_now (v.0) bytes v.2 r.taken r.ended in
    subst (λ (b : List ℕ). IsNoDumpText (dump_before b)) same n v.5

dump_too_large : (source : Stream) → IsGivenDump source → Takes source.bytes source.bytes_now (most_bytes + 1) → ⊥
dump_too_large source v t = none_over source.bytes source.bytes_now (v.0) most_bytes v.2 v.3 t

module _ (unread untouched : Type 0) (source out : Stream) (made looks : Counter) where
  -- a script within the limit is answered
  script_done : (form : WordsForm) (s : Status) → ((bytes : List ℕ) → IsInput unread form source bytes → HasRead source bytes) → (ReadsWire form → ⊥) → (ReadsDump form → ⊥)
      → ((bytes : List ℕ) → script_bytes form bytes ≡ bytes) → EndsAs unread untouched source out made looks form s → IsGiven source → (HasFailed source → ⊥) → (HasFailed out → ⊥)
      → (s ≡ Done) ⊎ (s ≡ NoMemory)
  script_done form Done i scripted undumped same e v f g = inl refl
  script_done form NoMemory i scripted undumped same e v f g = inr refl
  script_done form Usage i scripted undumped same e v f g = absurd e
  script_done form ReadFault i scripted undumped same e v f g = absurd (f e.2)
  script_done form WriteFault i scripted undumped same e v f g = absurd (g e.0)
  script_done form TooLarge i scripted undumped same e v f g = absurd (too_large source v e.3)
  script_done form NotJson i scripted undumped same e v f g = absurd (unreadable source (e.2.0) v (i (e.2.0) e.2.1) (subst HasNoReading (same (e.2.0)) e.2.2))
  script_done form (Form p w) i scripted undumped same e v f g = absurd (broken source (e.2.0) p w v (i (e.2.0) e.2.1) (subst (λ (b : List ℕ). IsOffForm b p w) (same (e.2.0)) e.2.2))
  script_done form BadWire i scripted undumped same e v f g = absurd (scripted e.0)
  script_done form BadDump i scripted undumped same e v f g = absurd (undumped e.0)

  -- and so is a wire
  wire_done : (s : Status) → EndsAs unread untouched source out made looks Compose s → IsGivenWire source → (HasFailed source → ⊥) → (HasFailed out → ⊥)
      → (s ≡ Done) ⊎ (s ≡ NoMemory)
  wire_done Done e v f g = inl refl
  wire_done NoMemory e v f g = inr refl
  wire_done Usage e v f g = absurd e
  wire_done ReadFault e v f g = absurd (f e.2)
  wire_done WriteFault e v f g = absurd (g e.0)
  wire_done TooLarge e v f g = absurd (wire_too_large source v e.3)
  wire_done NotJson e v f g = absurd e.0
  wire_done (Form p w) e v f g = absurd e.0
  wire_done BadWire e v f g = absurd (no_wire source (e.2.0) v e.2.1 e.2.2)
  wire_done BadDump e v f g = absurd e.0

  -- and so is a dump before a script
  check_done : (s : Status) → EndsAs unread untouched source out made looks Check s → IsGivenDump source → (HasFailed source → ⊥) → (HasFailed out → ⊥)
      → (s ≡ Done) ⊎ (s ≡ NoMemory)
  check_done Done e v f g = inl refl
  check_done NoMemory e v f g = inr refl
  check_done Usage e v f g = absurd e
  check_done ReadFault e v f g = absurd (f e.2)
  check_done WriteFault e v f g = absurd (g e.0)
  check_done TooLarge e v f g = absurd (dump_too_large source v e.3)
  check_done NotJson e v f g = absurd (unread_script source (e.2.0) v e.2.1 e.2.2)
  check_done (Form p w) e v f g = absurd (broken_script source (e.2.0) p w v e.2.1 e.2.2)
  check_done BadWire e v f g = absurd e.0
  check_done BadDump e v f g = absurd (no_dump source (e.2.0) v e.2.1 e.2.3)

  -- and so is a storm
  storm_done : (seed boxes edits : ℕ) (s : Status) → EndsAs unread untouched source out made looks (Storm seed boxes edits) s → (HasFailed out → ⊥)
      → (s ≡ Done) ⊎ (s ≡ NoMemory)
  storm_done seed boxes edits Done e g = inl refl
  storm_done seed boxes edits NoMemory e g = inr refl
  storm_done seed boxes edits Usage e g = absurd e
  storm_done seed boxes edits ReadFault e g = absurd e.0
  storm_done seed boxes edits WriteFault e g = absurd (g e.0)
  storm_done seed boxes edits TooLarge e g = absurd e.0
  storm_done seed boxes edits NotJson e g = absurd e.0
  storm_done seed boxes edits (Form p w) e g = absurd e.0
  storm_done seed boxes edits BadWire e g = absurd e.0
  storm_done seed boxes edits BadDump e g = absurd e.0

  done : (form : WordsForm) (s : Status) → EndsAs unread untouched source out made looks form s
      → HasAnswer form source → (HasFailed source → ⊥) → (HasFailed out → ⊥) → (s ≡ Done) ⊎ (s ≡ NoMemory)
  done Replay s e v f g = script_done Replay s (λ bytes r. r) (λ w. w) (λ d. d) (λ bytes. refl) e v f g
  done Render s e v f g = script_done Render s (λ bytes r. r) (λ w. w) (λ d. d) (λ bytes. refl) e v f g
  done Tiles s e v f g = script_done Tiles s (λ bytes r. r) (λ w. w) (λ d. d) (λ bytes. refl) e v f g
  done Wire s e v f g = script_done Wire s (λ bytes r. r) (λ w. w) (λ d. d) (λ bytes. refl) e v f g
  done Compose s e v f g = wire_done s e v f g
  done Check s e v f g = check_done s e v f g
  done (Storm seed boxes edits) s e v f g = storm_done seed boxes edits s e g

  pub completes : (words : Option WordsForm) (s : Status) → Ends unread untouched source out made looks words s → Completes words source out s
  completes None s e = λ form w v f g. absurd (let no : None ≡ Some form = w in cc)
  completes (Some form) s e = λ other w v f g.
      let same : form ≡ other = (let p : Some form ≡ Some other = w in cc) in
      done form s e (subst (λ (x : WordsForm). HasAnswer x source) (sym same) v) f g

  -- no memory for the words
  pub ends_at_once : (words : Option WordsForm) → unread → untouched → IsFaultless source → Ends unread untouched source out made looks words NoMemory
  ends_at_once None u w f = (u, w)
  ends_at_once (Some form) u w f = (f, inl w)
