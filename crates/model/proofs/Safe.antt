-- No triggered action is ever late on a sheet that Fits.
use mathlib.Core.Path.{◌≡◌}
use mathlib.Core.List.{List}
use Rattle.model.specs.Machine.{Machine}
use Rattle.model.specs.Sizes.{Sizes}
use Rattle.model.specs.Verdict.{Fits, verdict}
use Rattle.model.specs.Run.{Safe}
use Rattle.model.proofs.Busy.{fits_on_time}
use Rattle.model.proofs.Finished.{on_time_iff_finished}

pub fits_safe : {ms : List Machine} → Sizes ms → verdict ms ≡ Fits → Safe ms
fits_safe {ms} sizes fits =
    let on_time = fits_on_time ms sizes fits in
    record { finished = (on_time_iff_finished ms sizes).0 on_time; on_time = on_time }
