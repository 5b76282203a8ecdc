use Rattle.std.proofs.Common.{◌≡◌, drop}
use Rattle.text.specs.Text.{read_from, read_number}
use Rattle.text.proofs.reading.read_number.Given as goal

-- the value is what the digits so far say
abbrev pub invariant-loop-byte : goal.invariant-loop-byte
invariant-loop-byte l = read_from l.value (drop l.byte-index l.word) ≡ read_number l.word
