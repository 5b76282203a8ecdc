use Rattle.std.proofs.Common.{◌≡◌, ◌+◌, ◌*◌, ◌≤◌, [], ◌∷◌, ◌++◌, codes}
use Rattle.arrayvec.specs.ArrayString.{array_string_len}
use Rattle.sheet.specs.Format.{decode}
use Rattle.text.specs.Text.{line}
use Rattle.fit_text.specs.Fit.{machine_lines}
use Rattle.fit_text.proofs.put_accepted.Given as goal

-- the first line and those of the first machines are put
abbrev pub invariant-loop-number : goal.invariant-loop-number
invariant-loop-number l =
    record {
      says :
          l.text.bytes
          ≡ line (codes "H") (l.sheet.hyperperiod ∷ []) ++ machine_lines (decode l.sheet.bytes.now) l.number;
      short : array_string_len l.text ≤ 13 + 46 * l.number;
    }
