-- What a machine triggered since a tick, in a run: a legal sequence that grows at its end.
use Prim.Native.Nat.{ℕ, suc, ◌+◌, ◌≤◌, ◌<◌}
use mathlib.Core.Path.{◌≡◌, refl}
use mathlib.Core.List.{List, [], ◌∷◌, ◌++◌}
use native.Mathlib.Omega.{arith}
use Rattle.model.specs.Machine.{Machine, count, action_of}
use Rattle.model.specs.Legal.{Instant, MayBegin, Pair, Taken, Chain, Legal, Each, Within, total}
use Rattle.model.specs.Legal.{requested, demanded}
use Rattle.model.specs.Reckon.{pair}
use Rattle.model.specs.Run.{Seat, Choice, rest, fire, Allowed, trigger}
use Rattle.model.specs.Inside.{Closed, Separate}
use Rattle.model.proofs.Each.{each_map, each_snoc}
use Rattle.model.proofs.Bounds.{asked_by_due}

-- the machine is in state q after the sequence: a state that a first pair may leave, or the last sink
abbrev pub EndsIn : Machine → List Pair → ℕ → Type 0
EndsIn m [] q = MayBegin m q
EndsIn m (p ∷ []) q = (action_of m p.action).sink ≡ q
EndsIn m (p ∷ (r ∷ l)) q = EndsIn m (r ∷ l) q

module _ (m : Machine) where
  chain_snoc : (p : Pair) (l : List Pair) (n : Pair) → Chain m p l → EndsIn m (p ∷ l) (action_of m n.action).source
      → Each (λ u. u.instant < n.instant) (p ∷ l) → Taken m n → Chain m p (l ++ (n ∷ []))
  chain_snoc p [] n c e b t = (c, e, b.0, t)
  chain_snoc p (r ∷ l) n (u, s, a, c) e b t = (u, s, a, chain_snoc r l n c e b.1 t)

  legal_snoc : (l : List Pair) (n : Pair) → Legal m l → EndsIn m l (action_of m n.action).source
      → Each (λ u. u.instant < n.instant) l → Taken m n → Legal m (l ++ (n ∷ []))
  legal_snoc [] n h e b t = (e, t)
  legal_snoc (p ∷ l) n (s, c) e b t = (s, chain_snoc p l n c e b t)

  ends_snoc : (l : List Pair) (n : Pair) → EndsIn m (l ++ (n ∷ [])) (action_of m n.action).sink
  ends_snoc [] n = refl
  ends_snoc (p ∷ []) n = refl
  ends_snoc (p ∷ (r ∷ l)) n = ends_snoc (r ∷ l) n

  total_snoc : (w : Pair → ℕ) (l : List Pair) (n : Pair) → total w (l ++ (n ∷ [])) ≡ total w l + w n
  total_snoc w [] n = omega arith
  total_snoc w (p ∷ l) n = omega (arith, total_snoc w l n)

  chain_taken : (p : Pair) (l : List Pair) → Chain m p l → Each (Taken m) (p ∷ l)
  chain_taken p [] c = (c, tt)
  chain_taken p (r ∷ l) (t, s, a, c) = (t, chain_taken r l c)

  legal_taken : (l : List Pair) → Legal m l → Each (Taken m) l
  legal_taken [] h = tt
  legal_taken (p ∷ l) (s, c) = chain_taken p l c

  -- the pair is due by e
  abbrev pub DueBy : ℕ → Pair → Type 0
  DueBy e p = p.instant + (action_of m p.action).deadline ≤ e

  -- of a sequence that is due by e, all counts in the demand
  pub due_asked : (e : ℕ) (l : List Pair) → Each (DueBy e) l → total (demanded m e) l ≡ total (requested m) l
  due_asked e [] h = refl
  due_asked e (p ∷ l) (h, hs) = omega (arith, asked_by_due m e p h, due_asked e l hs)

-- the work that a choice brings, and the history with it
unfoldable pub brought : Choice → ℕ
brought rest = 0
brought (fire k w) = w

unfoldable pub extend : ℕ → Choice → List Pair → List Pair
extend t rest l = l
extend t (fire k w) l = l ++ (pair k t ∷ [])

-- l is what the machine, now in state q, triggered in the ticks of [s, t), and `load` is the work that this brought
pub record Since (m : Machine) (s t q : ℕ) (l : List Pair) (load : ℕ) : Type 0 where
  pub legal : Legal m l
  pub within : Each (Within s t) l
  pub ends : EndsIn m l q
  pub begins : MayBegin m q
  pub enough : load ≤ total (requested m) l

module _ (m : Machine) (s t : ℕ) where
  pub since_begin : (q : ℕ) → MayBegin m q → Since m s t q [] 0
  since_begin q b = record { legal = tt; within = tt; ends = b; begins = b; enough = omega arith }

  pub since_trigger : (l : List Pair) (load : ℕ) (x : Seat) (ch : Choice) → Closed m → s ≤ t
      → Since m s t x.state l load → Allowed m t x.state ch
      → Since m s (suc t) (trigger m t ch x).state (extend t ch l) (load + brought ch)
  unfolding trigger extend brought
  since_trigger l load x rest C h S a =
      record {
        legal = S.legal;
        within = each_map (λ p (u, v). (u, omega arith)) l S.within;
        ends = S.ends;
        begins = S.begins;
        enough = omega arith;
      }
  since_trigger l load x (fire k w) C h S (a, b) =
      record {
        legal = legal_snoc m l (pair k t) S.legal (rw a.leaves S.ends) (each_map (λ p (u, v). v) l S.within)
            (a.known, a.ready);
        within = each_snoc (Within s (suc t)) l (pair k t) (each_map (λ p (u, v). (u, omega arith)) l S.within)
            (h, omega arith);
        ends = ends_snoc m l (pair k t);
        begins = C.onward k a.known (rw a.leaves S.begins);
        enough = omega (arith, total_snoc m (requested m) l (pair k t));
      }

  -- what was triggered before an instant of the machine is due by the deadline of what is triggered then
  pub since_due : (q load k : ℕ) (l : List Pair) → Separate m → k < count m → Instant m k t → Since m s t q l load
      → Each (DueBy m (t + (action_of m k).deadline)) l
  since_due q load k l G h a S = due l (legal_taken m l S.legal) S.within
    where
      due : (l : List Pair) → Each (Taken m) l → Each (Within s t) l → Each (DueBy m (t + (action_of m k).deadline)) l
      due [] x y = tt
      due (p ∷ l) ((i, b), x) (y, z) = (omega (arith, G.gap p.action k p.instant t i h b a y.1), due l x z)
