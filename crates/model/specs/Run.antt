-- Document 01, "Verdict", its last paragraph: runs of a sheet's machines, tick by tick, and finishing in time.
use Rattle.std.specs.Prelude.{ℕ, zero, suc, ◌+◌, ◌≤◌, ◌<◌, ◌≡◌, cond, ◌&&◌, List, [], ◌∷◌, ◌++◌, eqb, length, get_or, take}
use Rattle.model.specs.Machine.{Machine, count, action_of, machine_of}
use Rattle.model.specs.Legal.{Instant, cost}
use Rattle.model.specs.Verdict.{added}

-- a triggered action that is not finished: its number, its instant, and the work that is left
pub data Job : Type 0 where
  job : (k r left : ℕ) → Job

-- a machine in a run: its present state, and its unfinished actions, oldest first
pub record Seat : Type 0 where
  pub state : ℕ
  pub queue : List Job

-- what a machine does in a tick: it rests, or it fires action k, which brings the work w
pub data Choice : Type 0 where
  rest : Choice
  fire : (k w : ℕ) → Choice

-- a run: for each tick what each machine does, by its number
abbrev pub Run : Type 0
Run = List (ℕ → Choice)

-- action k is a legal next action at tick t in state q
pub record MayFire (m : Machine) (q k t : ℕ) : Type 0 where
  pub known : k < count m
  pub leaves : (action_of m k).source ≡ q
  pub ready : Instant m k t

-- the choice is legal at tick t in state q: an action brings work from 0 up to its cost
abbrev pub Allowed : Machine → ℕ → ℕ → Choice → Type 0
Allowed m t q rest = Unit
Allowed m t q (fire k w) = MayFire m q k t × (w ≤ cost m k)

-- an action joins the queue at its end; without work it is finished at once
unfoldable pub join : List Job → ℕ → ℕ → ℕ → List Job
join queue k t zero = queue
join queue k t (suc w) = queue ++ (job k t (suc w) ∷ [])

-- the machine's state moves to the action's sink when it is triggered
unfoldable pub trigger : Machine → ℕ → Choice → Seat → Seat
trigger m t rest x = x
trigger m t (fire k w) x = record { state = (action_of m k).sink; queue = join x.queue k t w }

-- one unit is done of the oldest unfinished action, which leaves the queue when nothing is left of it
unfoldable pub serve : List Job → List Job
serve [] = []
serve (job k r zero ∷ queue) = serve queue
serve (job k r (suc zero) ∷ queue) = queue
serve (job k r (suc (suc w)) ∷ queue) = job k r (suc w) ∷ queue

-- the work that is left in a queue, and of machine j
unfoldable pub work : List Job → ℕ
work [] = 0
work (job k r w ∷ queue) = w + work queue

unfoldable pub work_of : (ℕ → Seat) → ℕ → ℕ
work_of seats j = work (seats j).queue

-- a machine's turn, by the work that is left of the machines above it: only where that is 0 is the unit its own
unfoldable pub turn : ℕ → Seat → Seat
turn zero x = record { state = x.state; queue = serve x.queue }
turn (suc above) x = x

-- in a tick the triggers come first; then one unit is done, for the highest machine with work left
unfoldable pub triggered : List Machine → ℕ → (ℕ → Choice) → (ℕ → Seat) → ℕ → Seat
triggered ms t choice seats j = trigger (machine_of ms j) t (choice j) (seats j)

unfoldable pub served : (ℕ → Seat) → ℕ → Seat
served seats j = turn (added j (work_of seats)) (seats j)

unfoldable pub tick : List Machine → ℕ → (ℕ → Choice) → (ℕ → Seat) → ℕ → Seat
tick ms t choice seats = served (triggered ms t choice seats)

-- at first each machine is in its initial state, with nothing to do
unfoldable pub fresh : List Machine → ℕ → Seat
fresh ms j = record { state = (machine_of ms j).initial; queue = [] }

-- what a run comes to, from tick t on
unfoldable pub play : List Machine → ℕ → (ℕ → Seat) → Run → ℕ → Seat
play ms t seats [] = seats
play ms t seats (choice ∷ run) = play ms (suc t) (tick ms t choice seats) run

-- every choice of the run is legal, from tick t on (past the sheet's last machine there is no action to fire)
abbrev pub LegalFrom : List Machine → ℕ → (ℕ → Seat) → Run → Type 0
LegalFrom ms t seats [] = Unit
LegalFrom ms t seats (choice ∷ run) =
    ((j : ℕ) → Allowed (machine_of ms j) t (seats j).state (choice j))
    × LegalFrom ms (suc t) (tick ms t choice seats) run

-- from tick 0 on, and from the initial states
abbrev pub LegalRun : List Machine → Run → Type 0
LegalRun ms run = LegalFrom ms 0 (fresh ms) run

-- the units that a machine's turn does of action k of instant r: one, where the turn is its own and the action oldest
unfoldable pub unit_of : ℕ → ℕ → ℕ → List Job → ℕ
unit_of k r (suc above) queue = 0
unit_of k r zero [] = 0
unit_of k r zero (job j u zero ∷ queue) = unit_of k r zero queue
unit_of k r zero (job j u (suc w) ∷ queue) = cond (eqb j k && eqb u r) 1 0

-- the units that a run does of action k of instant r of machine i, from tick t on
unfoldable pub done : List Machine → ℕ → ℕ → ℕ → ℕ → (ℕ → Seat) → Run → ℕ
done ms i k r t seats [] = 0
done ms i k r t seats (choice ∷ run) =
    unit_of k r (added i (work_of (triggered ms t choice seats))) (triggered ms t choice seats i).queue
    + done ms i k r (suc t) (tick ms t choice seats) run

-- finished by its deadline: where machine i fires action k at tick r, which brings the work w,
-- all that work is done in the ticks before r plus the deadline, if the run has come so far
abbrev pub Finished : List Machine → Run → Type 0
Finished ms run =
    (i k r w : ℕ) → i < length ms → get_or run r (λ j. rest) i ≡ fire k w
    → r + (action_of (machine_of ms i) k).deadline ≤ length run
    → done ms i k r 0 (fresh ms) (take (r + (action_of (machine_of ms i) k).deadline) run) ≡ w

-- P holds of each job of a queue
abbrev pub EachJob : (Job → Type 0) → List Job → Type 0
EachJob P [] = Unit
EachJob P (y ∷ queue) = P y × EachJob P queue

-- not late after t ticks: an action with work left has not come to its instant plus deadline
abbrev pub InTime : Machine → ℕ → Job → Type 0
InTime m t (job k r w) = 1 ≤ w → t < r + (action_of m k).deadline

-- nothing late is queued when the run has come to its end
abbrev pub OnTime : List Machine → Run → Type 0
OnTime ms run =
    (i : ℕ) → i < length ms → EachJob (InTime (machine_of ms i) (length run)) (play ms 0 (fresh ms) run i).queue

-- no legal run is late, in either form
pub record Safe (ms : List Machine) : Type 0 where
  pub finished : (run : Run) → LegalRun ms run → Finished ms run
  pub on_time : (run : Run) → LegalRun ms run → OnTime ms run
