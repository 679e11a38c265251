-- What contracts see of a reader of std that counts its faults. It is this project's own.
use Rattle.std.specs.Prelude.{ℕ}
use Rattle.rd_io.specs.declared.adapters.ReadSource.{ReadSource}

-- the reader inside, and the faults that it met
abbrev pub reader_of : {R : Type 0} → ReadSource R → R
reader_of s = s.reader

abbrev pub faults_of : {R : Type 0} → ReadSource R → ℕ
faults_of s = s.faults
