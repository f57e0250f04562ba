-- Answers that machines wait leave the links as they are, but for a count.
use Rattle.std.proofs.Common.{inl, inr, ℕ, List, refl, ap, ◌∙◌}
use Rattle.mage_driver.specs.Rules.{Rules}
use Rattle.mage_link.specs.Links.{LinkTold}
use Rattle.mage_link.specs.Queues.{QueueState}
use Rattle.mage_engine.specs.Seen.{Seen}
use Rattle.mage_core.specs.declared.fault.RunFault.{RunFault}
use Rattle.mage_core.specs.Turns.{SameWires, Moves, StandsStill, Falls}

pub same_itself : (links : QueueState) → SameWires links links
same_itself links = record { told = refl; capacity = refl; lying = λ s t. refl }

pub same_then : (a b c : QueueState) → SameWires a b → SameWires b c → SameWires a c
same_then a b c h k = record {
  told = k.told ∙ ap (λ (l : LinkTold). record l { waits = c.waits }) h.told;
  capacity = k.capacity ∙ h.capacity;
  lying = λ s t. k.lying s t ∙ h.lying s t;
}

module _ {W : Type 0} (rules : Rules W) where
  pub still_from : (a b : QueueState) (machine : Seen rules.State) → SameWires a b → StandsStill rules b machine → StandsStill rules a machine
  still_from a b machine h (inl ended) = inl ended
  still_from a b machine h (inr waits) = inr (record {
    before = waits.before;
    after = waits.after;
    same = same_then a b waits.before h waits.same;
    why = waits.why;
    at_link = waits.at_link;
    wait = waits.wait;
  })

  pub moves_from : (old new : List (Seen rules.State)) (a b after : QueueState) (worker : ℕ) → SameWires a b → Moves rules old new b after worker →
      Moves rules old new a after worker
  moves_from old new a b after worker h m = record {
    machine = m.machine;
    next = m.next;
    at = m.at;
    sets = m.sets;
    links = m.links;
    same = same_then a b m.links h m.same;
    kind = m.kind;
    move = m.move;
    capacity = m.capacity ∙ h.capacity;
    connects = m.connects;
    going = m.going;
  }

  pub falls_from : (old new : List (Seen rules.State)) (a b after : QueueState) (found : RunFault) → SameWires a b → Falls rules old new b after found →
      Falls rules old new a after found
  falls_from old new a b after found h f = record {
    worker = f.worker;
    machine = f.machine;
    next = f.next;
    at = f.at;
    sets = f.sets;
    stopped_by = f.stopped_by;
    is = f.is;
    falls = f.falls;
    same = same_then a b after h f.same;
  }
