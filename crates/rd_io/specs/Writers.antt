-- What contracts see of a writer of std that counts its faults. It is this project's own.
use Rattle.std.specs.Prelude.{ℕ}
use Rattle.rd_io.specs.declared.adapters.WriteSink.{WriteSink}

-- the writer inside, and the faults that it met
abbrev pub writer_of : {W : Type 0} → WriteSink W → W
writer_of s = s.writer

abbrev pub sink_faults_of : {W : Type 0} → WriteSink W → ℕ
sink_faults_of s = s.faults
