-- Where the machines and actions of a sheet stand in its bytes.
use Prim.Native.Nat.{ℕ, zero, suc, ◌+◌, ◌*◌, ◌<◌}
use mathlib.Core.Path.{◌≡◌, refl, ◌∙◌, ap}
use mathlib.Core.List.{List}
use native.Mathlib.Omega.{arith}
use native.Mathlib.Nat.{not-suc-le-zero, le_of_suc-le-suc}
use lib.ListN.{length, get_or}
use Rattle.model.specs.declared.Action.{Action}
use Rattle.model.specs.Machine.{Machine, count, action_of, machine_of}
use Rattle.sheet.specs.Format.{action_size, action_at, actions_at, entry, described, machines_from}
use Rattle.sheet.specs.Format.{machine_count, decode}

pub actions_count : (b : List ℕ) (at n : ℕ) → length (actions_at b at n) ≡ n
unfolding actions_at
actions_count b at zero = refl
actions_count b at (suc n) = ap suc (actions_count b (at + action_size) n)

action_at_lem : (b : List ℕ) (at n j : ℕ) (d : Action) → j < n
    → get_or (actions_at b at n) j d ≡ action_at b (at + action_size * j)
unfolding actions_at
action_at_lem b at zero j d l = absurd (not-suc-le-zero l)
action_at_lem b at (suc n) zero d l = ap (action_at b) (omega arith)
action_at_lem b at (suc n) (suc j) d l =
    action_at_lem b (at + action_size) n j d (le_of_suc-le-suc l) ∙ ap (action_at b) (omega arith)

machines_count : (b : List ℕ) (k n : ℕ) → length (machines_from b k n) ≡ n
unfolding machines_from
machines_count b k zero = refl
machines_count b k (suc n) = ap suc (machines_count b (suc k) n)

machine_from : (b : List ℕ) (k n i : ℕ) (d : Machine) → i < n
    → get_or (machines_from b k n) i d ≡ described b (entry b (k + i))
unfolding machines_from
machine_from b k zero i d l = absurd (not-suc-le-zero l)
machine_from b k (suc n) zero d l = ap (λ i. described b (entry b i)) (omega arith)
machine_from b k (suc n) (suc i) d l =
    machine_from b (suc k) n i d (le_of_suc-le-suc l) ∙ ap (λ i. described b (entry b i)) (omega arith)

pub decode_count : (b : List ℕ) → length (decode b) ≡ machine_count b
unfolding decode
decode_count b = machines_count b 0 (machine_count b)

module _ (b : List ℕ) (i : ℕ) (known : i < machine_count b) where
  pub decode_machine : machine_of (decode b) i ≡ described b (entry b i)
  unfolding decode
  decode_machine =
      machine_from b 0 (machine_count b) i _ known ∙ ap (λ i. described b (entry b i)) (omega arith)

  pub decode_actions : count (machine_of (decode b) i) ≡ (entry b i).actions
  decode_actions = ap count decode_machine ∙ actions_count b (entry b i).offset (entry b i).actions

  -- action j of machine i stands j actions past the machine's first action
  pub decode_action : (j : ℕ) → j < count (machine_of (decode b) i)
      → action_of (machine_of (decode b) i) j ≡ action_at b ((entry b i).offset + action_size * j)
  decode_action j l =
      ap (λ m. action_of m j) decode_machine
      ∙ action_at_lem b (entry b i).offset (entry b i).actions j _ (omega (arith, decode_actions))
