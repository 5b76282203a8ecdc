use Rattle.std.proofs.Common.{◌≡◌, ◌+◌, ◌*◌, ◌≤◌, ◌++◌, take}
use Rattle.arrayvec.specs.ArrayString.{array_string_len}
use Rattle.ask_text.specs.Ask.{number_lines}
use Rattle.ask_text.proofs.put_numbers.Given as goal

-- the first numbers are put, each in eleven characters at most
abbrev pub invariant-loop-number : goal.invariant-loop-number
invariant-loop-number l =
    record {
      says : l.text.bytes ≡ l.fn.text.bytes ++ number_lines (take l.number-index l.numbers);
      short : array_string_len l.text ≤ array_string_len l.fn.text + 11 * l.number-index;
    }
