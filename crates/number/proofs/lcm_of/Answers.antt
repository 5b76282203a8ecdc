use Rattle.std.proofs.Common.{arith}
use Rattle.number.specs.Divide.{lcm}
use Rattle.number.proofs.Divide.{gcd_positive}
use Rattle.number.proofs.lcm_of.Goals as goal

pub nonzero_div-result : goal.nonzero_div-result
nonzero_div-result c = omega (arith, c.gcd_of.ensures, gcd_positive c.args.a c.args.b (omega arith))

pub returns : goal.returns
unfolding lcm
returns c = rw c.gcd_of.ensures
