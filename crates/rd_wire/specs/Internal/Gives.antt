-- What a reader of the code answers, as reading on lists says.
use Rattle.std.specs.Prelude.{◌≡◌, Option, Some, None, Result, Ok, Err}
use Rattle.rd_wire.specs.declared.fault.WireFault.{WireFault}
use Rattle.rd_wire.specs.declared.fault.WireFault.TheVariants.{Form, NoMemory}

-- where memory runs out nothing is said
abbrev pub Fails : {Y : Type 0} → WireFault → Option Y → Type 0
Fails NoMemory read = Unit {0}
Fails Form read = read ≡ None

abbrev pub Gives : {X Y : Type 0} → (X → Y) → Result X WireFault → Option Y → Type 0
Gives view (Ok x) read = read ≡ Some (view x)
Gives view (Err e) read = Fails e read
