use Rattle.number.proofs.+gcd_of.Given as goal

-- the second number falls at each call
abbrev pub decreases-gcd_of : goal.decreases-gcd_of
decreases-gcd_of l = l.b
