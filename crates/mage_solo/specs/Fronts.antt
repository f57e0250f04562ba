-- What sinks took of their streams before a run that garbles was stopped.
use Rattle.std.specs.Prelude.{◌≡◌, ◌++◌, ℕ, List}
use Rattle.std.specs.Option.{option_map}
use Rattle.mage_base.specs.Sink.{SinkTold}
use Rattle.mage_driver.specs.Rules.{Begins}
use Rattle.mage_solo.specs.Garbling.{Sunk}

-- A sink took a front of these bytes more.
pub record TookFront (old new : SinkTold) (bytes : List ℕ) : Type 0 where
  pub front : List ℕ
  pub taken : new.taken ≡ option_map (λ earlier. earlier ++ front) old.taken
  pub begins : Begins front bytes

-- each sink took a front of the stream of its worker
abbrev pub AllTookFronts : (before after : List SinkTold) → (stream : ℕ → List ℕ) → Type 0
AllTookFronts before after stream = (w : ℕ) (sink : Sunk before after w) → TookFront sink.old sink.new (stream w)
