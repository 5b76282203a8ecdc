use Rattle.std.proofs.Common.{ap, sym, ◌∙◌}
use native.Mathlib.Nat.{pos_of_ne-zero}
use Rattle.number.specs.Divide.{gcd}
use Rattle.number.proofs.Divide.{gcd_zero, gcd_step}
use Rattle.number.proofs.+gcd_of.Goals as goal

pub returns-then-b-eq0 : goal.returns-then-b-eq0
returns-then-b-eq0 t c = sym (ap (gcd c.args.a) c.if-b-eq0.true ∙ gcd_zero c.args.a)

pub returns-else-b-eq0 : goal.returns-else-b-eq0
returns-else-b-eq0 t c = c.gcd_of.ensures ∙ sym (gcd_step c.args.a c.args.b (pos_of_ne-zero c.if-b-eq0.false))
