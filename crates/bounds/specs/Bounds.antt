-- Document 01, "Legal sequences and bounds": what `request` and `demand` reply.
use Rattle.std.specs.Prelude.{ℕ, ◌-◌, List, [], ◌∷◌}
use Rattle.model.specs.Machine.{machine_of}
use Rattle.model.specs.Reckon.{request, demand}
use Rattle.reply.specs.Reply.{Reply, answer, ◌otherwise◌}
use Rattle.sheet.specs.Format.{decode}
use Rattle.window.specs.Window.{question_refusal}

-- of machine i of sheet b: the request bound of [s, f)
abbrev pub request_reply : List ℕ → ℕ → ℕ → ℕ → Reply
request_reply b i s f = question_refusal b i s f otherwise answer 0 (request (machine_of (decode b) i) s (f - s) ∷ [])

-- the demand bound of [s, t]
abbrev pub demand_reply : List ℕ → ℕ → ℕ → ℕ → Reply
demand_reply b i s t = question_refusal b i s t otherwise answer 0 (demand (machine_of (decode b) i) s (t - s) ∷ [])
