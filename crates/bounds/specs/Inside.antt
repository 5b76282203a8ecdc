-- What the contracts of inner functions cite, and no reader has to believe.
use Rattle.std.specs.Prelude.{ℕ}
use Rattle.model.specs.Machine.{Machine}
use Rattle.model.specs.Legal.{requested}
use Rattle.model.specs.Inside.{IsRow}
use Rattle.walk.specs.Inside.{Last}
use Rattle.bounds.specs.declared.Front.{Front}

-- how far a walk over the ticks of [s, s + n) has come at its end
pub record IsFront (m : Machine) (s n : ℕ) (f : Front) : Type 0 where
  pub row : IsRow m (requested m) s n f.row
  pub last : Last m s n f.last
