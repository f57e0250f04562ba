-- What every step keeps.
use Rattle.std.proofs.Common.{◌≡◌, ◌<◌, ℕ, Bool, Option, Some, None, Result, Ok, Err, sym, ap, subst}
use Rattle.std.specs.Prelude.{IsTrue, IfSome, slice_get}
use Rattle.mage_instr.specs.declared.directive.Directive.{Directive}
use Rattle.mage_instr.specs.declared.directive.Directive.TheVariants as entry
use Rattle.mage_instr.specs.declared.fault.MachineFault.{MachineFault}
use Rattle.mage_instr.specs.declared.fault.MachineFault.TheVariants as stops
use Rattle.mage_instr.specs.declared.op.Op.{Op}
use Rattle.mage_instr.specs.declared.op.Op.TheVariants as op
use Rattle.mage_driver.specs.Rules.{Rules}
use Rattle.mage_link.specs.Links.{LinkTold}
use Rattle.mage_verify.specs.Parts.{WorkerPart}
use Rattle.mage_engine.specs.declared.turn.Turn.{Turn}
use Rattle.mage_engine.specs.declared.turn.Turn.TheVariants as turn
use Rattle.mage_engine.specs.declared.turn.Why.TheVariants as why
use Rattle.mage_engine.specs.Seen.{Seen, directive_at}
use Rattle.mage_engine.specs.Ready.{Connects, target_of, source_of}
use Rattle.mage_engine.specs.Steps.{OverLink, AtLink, IsCause, IsFall, Steps}

-- links of the same workers, for the same ones
record Serves (before after : LinkTold) : Type 0 where
  workers : after.workers ≡ before.workers
  allowed : after.may_be_me ≡ before.may_be_me

same_links : (before after : LinkTold) → after ≡ before → Serves before after
same_links before after e = record { workers = ap (λ (l : LinkTold). l.workers) e; allowed = ap (λ (l : LinkTold). l.may_be_me) e }

over_links : (o : Op) (imm worker : ℕ) (before after : LinkTold) → OverLink o imm worker before after → Serves before after
over_links op.Send imm worker before after h = record { workers = ap (λ (l : LinkTold). l.workers) h.1; allowed = ap (λ (l : LinkTold). l.may_be_me) h.1 }
over_links op.Recv imm worker before after h = record { workers = ap (λ (l : LinkTold). l.workers) h.1; allowed = ap (λ (l : LinkTold). l.may_be_me) h.1 }
over_links _ imm worker before after h = same_links before after h

at_links : (o : Option Directive) (worker : ℕ) (before after : LinkTold) → AtLink o worker before after → Serves before after
at_links None worker before after h = same_links before after h
at_links (Some (entry.Fresh frame page)) worker before after h = same_links before after h
at_links (Some (entry.IssueIn slot page)) worker before after h = same_links before after h
at_links (Some (entry.FinishIn slot frame)) worker before after h = same_links before after h
at_links (Some (entry.IssueOut slot frame page)) worker before after h = same_links before after h
at_links (Some (entry.FinishOut slot)) worker before after h = same_links before after h
at_links (Some (entry.Do job)) worker before after h = over_links job.op job.imm worker before after h

connects_so : (before after : LinkTold) → Serves before after → (part : WorkerPart) → Connects before part → Connects after part
connects_so before after same part c = record {
  within = subst (λ n. part.worker < n) (sym same.workers) c.within;
  allowed = subst (λ (f : ℕ → Bool). IsTrue (f part.worker)) (sym same.allowed) c.allowed;
  targets = subst (λ n. (d : ℕ) → IfSome (slice_get part.directives d) (λ directive. IfSome (target_of directive) (λ other. other < n))) (sym same.workers) c.targets;
  sources = subst (λ n. (d : ℕ) → IfSome (slice_get part.directives d) (λ directive. IfSome (source_of directive) (λ other. other < n))) (sym same.workers) c.sources;
}

module _ {W : Type 0} (rules : Rules W) (old new : Seen rules.State) (before after : LinkTold) where
  cause_part : (fault : MachineFault) → IsCause rules old new fault → new.part ≡ old.part
  cause_part stops.Store h = ap (λ (m : Seen rules.State). m.part) h.3
  cause_part (stops.Damaged damage) h = ap (λ (m : Seen rules.State). m.part) h.3
  cause_part (stops.Driver fault) h = ap (λ (m : Seen rules.State). m.part) h.1

  fall_part : (was : Option MachineFault) (fault : MachineFault) → IsFall rules old new was fault → new.part ≡ old.part
  fall_part None fault h = cause_part fault h
  fall_part (Some f) fault h = ap (λ (m : Seen rules.State). m.part) h.1

  pub same_part : (result : Result Turn MachineFault) → Steps rules old new before after result → new.part ≡ old.part
  same_part (Ok (turn.Moved kind)) h = ap (λ (m : Seen rules.State). m.part) h.rest
  same_part (Ok (turn.Blocked (why.Slot slot))) h = ap (λ (m : Seen rules.State). m.part) h.1
  same_part (Ok (turn.Blocked (why.Full to))) h = ap (λ (m : Seen rules.State). m.part) h.1
  same_part (Ok (turn.Blocked (why.Empty from))) h = ap (λ (m : Seen rules.State). m.part) h.1
  same_part (Ok turn.Ended) h = ap (λ (m : Seen rules.State). m.part) h.1
  same_part (Err fault) h = fall_part old.fault fault h.0

  serves_so : (result : Result Turn MachineFault) → Steps rules old new before after result → Serves before after
  serves_so (Ok (turn.Moved kind)) h = at_links (directive_at old) old.part.worker before after h.link
  serves_so (Ok (turn.Blocked (why.Slot slot))) h = same_links before after h.3
  serves_so (Ok (turn.Blocked (why.Full to))) h = record { workers = ap (λ (l : LinkTold). l.workers) h.2; allowed = ap (λ (l : LinkTold). l.may_be_me) h.2 }
  serves_so (Ok (turn.Blocked (why.Empty from))) h = record { workers = ap (λ (l : LinkTold). l.workers) h.2; allowed = ap (λ (l : LinkTold). l.may_be_me) h.2 }
  serves_so (Ok turn.Ended) h = same_links before after h.2
  serves_so (Err fault) h = same_links before after h.1

  -- whoever may go on over these links may still
  pub still_connects : (result : Result Turn MachineFault) → Steps rules old new before after result → (part : WorkerPart) → Connects before part → Connects after part
  still_connects result h = connects_so before after (serves_so result h)
