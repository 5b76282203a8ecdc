use Rattle.std.proofs.Common.{◌≡◌, ◌+◌, ◌*◌, ◌≤◌, ◌++◌, take}
use Rattle.arrayvec.specs.ArrayString.{array_string_len}
use Rattle.ask_text.specs.Inside.{array_lines}
use Rattle.ask_text.proofs.put_pairs.Given as goal

-- the first pairs are put, each in twenty-two characters at most
abbrev pub invariant-loop-action : goal.invariant-loop-action
invariant-loop-action l =
    record {
      says : l.text.bytes ≡ l.fn.text.bytes ++ array_lines (take l.action-index l.pairs);
      short : array_string_len l.text ≤ array_string_len l.fn.text + 22 * l.action-index;
    }
