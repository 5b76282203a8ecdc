-- What the contracts of inner functions cite, and no reader has to believe.
use Rattle.std.specs.Prelude.{ℕ, ◌+◌, ◌-◌, ◌≡◌, List}
use Rattle.model.specs.Machine.{machine_of}
use Rattle.sheet.specs.Format.{decode}
use Rattle.sheet.specs.Meant.{meant}
use Rattle.window.specs.declared.machine_window.MachineWindow.{MachineWindow}

-- w is the window from s to f of machine i of sheet b
pub record IsWindowOf (b : List ℕ) (i s f : ℕ) (w : MachineWindow) : Type 0 where
  pub machine : meant w.machine ≡ machine_of (decode b) i
  pub from : w.from ≡ s
  pub length : w.length ≡ f - s
  pub to : s + w.length ≡ f
