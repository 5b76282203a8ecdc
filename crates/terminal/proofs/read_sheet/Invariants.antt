use Rattle.std.proofs.Common.{length, ◌-◌, ◌≤◌}
use Rattle.terminal.proofs.read_sheet.Given as goal

-- What was read lies within the lent bytes.
abbrev pub invariant-loop-used : goal.invariant-loop-used
invariant-loop-used g l = l.used ≤ length l.bytes

abbrev pub decreases-loop-used : goal.decreases-loop-used
decreases-loop-used g l = length l.initial.bytes - l.used
