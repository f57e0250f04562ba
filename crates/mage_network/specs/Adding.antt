-- A small network that computes: worker 0 sends two numbers to worker 1, which adds them and sends
-- the sum back; then worker 0 says it.
use Rattle.std.specs.Prelude.{ℕ, zero, suc, ◌+◌, List, [], ◌∷◌}
use Rattle.mage_network.specs.Workers.{Act, Moves, Sends, Takes, Stops, Worker, Moved, Sent, Took}
use Rattle.mage_network.specs.Together.{Joint, Alone, Hands}

-- what is still to be sent; the sum that came back; how many are to come, and the sum so far; or
-- nothing
pub data Stage : Type 0 where
  Giving : List ℕ → Stage
  Saying : ℕ → Stage
  Adding : ℕ → ℕ → Stage
  Ended : Stage

abbrev pub adder : ℕ → Stage → Act Stage ℕ ℕ
adder zero (Giving (number ∷ numbers)) = Sends 1 number (Giving numbers)
adder zero (Giving []) = Takes 1 (λ sum. Saying sum)
adder zero (Saying sum) = Moves (sum ∷ []) Ended
adder (suc zero) (Adding (suc left) sum) = Takes 0 (λ number. Adding left (sum + number))
adder (suc zero) (Adding zero sum) = Sends 0 sum Ended
adder _ _ = Stops

abbrev pub adder_starts : ℕ → Stage
adder_starts zero = Giving (3 ∷ 4 ∷ [])
adder_starts (suc zero) = Adding 2 0
adder_starts _ = Ended

-- together: two numbers go over, the sum comes back, and is said
abbrev pub adder_turns : List Joint
adder_turns = Hands 0 1 ∷ Hands 0 1 ∷ Hands 1 0 ∷ Alone 0 ∷ []

-- a schedule in which workers also wait: for a wire, and for room on a link of one wire
abbrev pub adder_schedule : List ℕ
adder_schedule = 1 ∷ 0 ∷ 0 ∷ 1 ∷ 0 ∷ 0 ∷ 1 ∷ 1 ∷ 0 ∷ 0 ∷ []

-- where worker 0 comes
abbrev pub adder_end : Worker Stage ℕ ℕ
adder_end = record {
  state = Ended;
  past = Moved (7 ∷ []) ∷ Took 1 7 ∷ Sent 1 4 ∷ Sent 1 3 ∷ [];
}
