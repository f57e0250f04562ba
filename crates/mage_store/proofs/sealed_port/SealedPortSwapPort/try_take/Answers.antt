use Rattle.std.proofs.Common.{◌∙◌, Err, ap, sym, refl, subst, arith}
use Rattle.mage_port.specs.Port.{SlotState, slot_state, Finishes, KeepsOn, Spoils}
use Rattle.mage_store.specs.declared.watch.Watch.{Watch}
use Rattle.mage_store.specs.Seals.{digest_of}
use Rattle.mage_store.specs.SealedPort.{sealed_told, port_told}
use Rattle.mage_store.proofs.SealedCalls.{asked_within, asked_read_below, read_watch, state_whole, state_damaged}
use Rattle.mage_store.proofs.SealedFinishes.{sealed_judged, told_judged, brings_sealed, sealed_wrote, told_wrote, sealed_err, told_err, keeps_on_above}
use Rattle.mage_store.proofs.sealed_port.SealedPortSwapPort.try_take.Goals as goal

pub index-requires : goal.index-requires
index-requires g c =
    let inside = c.self.inside in
    let below = g.P.SwapPort.tells inside.port in
    let digests = digest_of inside.seals in
    let asked = rw (← c.self.view_is) at c.requires.asked in
    let within = asked_within below inside.watches.items digests c.self.invariant c.args.slot asked.asked in
    omega (arith, inside.watches.ok.0)

pub returns-in-Some-clause-answer : goal.returns-in-Some-clause-answer
returns-in-Some-clause-answer g c =
    let inside = c.self.inside in
    let below = g.P.SwapPort.tells inside.port in
    let digests = digest_of inside.seals in
    let asked = rw (← c.self.view_is) at c.requires.asked in
    let within = asked_within below inside.watches.items digests c.self.invariant c.args.slot asked.asked in
    let was = read_watch inside.watches.items c.args.slot c.index.result.now c.index.ensures within in
    let above = sealed_told below inside.watches.items digests in
    let some = sym (ap (λ (w : Watch). w.damage) was) ∙ c.in-Some.is in
    rw (← c.self.view_is) (subst (Spoils above above c.args.slot c.in-Some.damage) (sym (state_damaged below inside.watches.items digests c.self.invariant c.args.slot c.in-Some.damage some)) (refl, refl))

pub try_take-requires-clause-asked : goal.try_take-requires-clause-asked
try_take-requires-clause-asked g c =
    let inside = c.self.inside in
    let below = g.P.SwapPort.tells inside.port in
    let digests = digest_of inside.seals in
    let asked = rw (← c.self.view_is) at c.requires.asked in
    let within = asked_within below inside.watches.items digests c.self.invariant c.args.slot asked.asked in
    let was = read_watch inside.watches.items c.args.slot c.index.result.now c.index.ensures within in
    let whole = sym (ap (λ (w : Watch). w.damage) was) ∙ c.in-None.is in
    asked_read_below below inside.watches.items digests c.self.invariant c.args.slot whole asked

pub invariant_of-self : goal.invariant_of-self
invariant_of-self g c =
    let inside = c.self.inside in
    let below = g.P.SwapPort.tells inside.port in
    let digests = digest_of inside.seals in
    let asked = rw (← c.self.view_is) at c.requires.asked in
    let within = asked_within below inside.watches.items digests c.self.invariant c.args.slot asked.asked in
    let was = read_watch inside.watches.items c.args.slot c.index.result.now c.index.ensures within in
    let whole = sym (ap (λ (w : Watch). w.damage) was) ∙ c.in-None.is in
    let brings = rw c.in-Ok-Read.field-0-is at c.in-Ok-Read.ensures.answer in
    let judged = rw c.as_slice.ensures.value at c.judge.ensures in
    sealed_judged below (g.P.SwapPort.tells c.try_take.new.self) inside.watches.items c.judge.new.watches.items digests c.self.invariant c.args.slot whole c.try_take.new.into.items brings c.judge.result judged

pub invariant_of-self-in-Ok-Wrote : goal.invariant_of-self-in-Ok-Wrote
invariant_of-self-in-Ok-Wrote g c =
    let inside = c.self.inside in
    let below = g.P.SwapPort.tells inside.port in
    let digests = digest_of inside.seals in
    let asked = rw (← c.self.view_is) at c.requires.asked in
    let within = asked_within below inside.watches.items digests c.self.invariant c.args.slot asked.asked in
    let was = read_watch inside.watches.items c.args.slot c.index.result.now c.index.ensures within in
    let whole = sym (ap (λ (w : Watch). w.damage) was) ∙ c.in-None.is in
    let saves = rw c.in-Ok-Wrote.field-0-is at c.in-Ok-Wrote.ensures.answer in
    sealed_wrote below (g.P.SwapPort.tells c.try_take.new.self) inside.watches.items digests c.self.invariant c.args.slot whole saves.1

pub invariant_of-self-in-Err : goal.invariant_of-self-in-Err
invariant_of-self-in-Err g c =
    let inside = c.self.inside in
    let below = g.P.SwapPort.tells inside.port in
    let digests = digest_of inside.seals in
    let asked = rw (← c.self.view_is) at c.requires.asked in
    let within = asked_within below inside.watches.items digests c.self.invariant c.args.slot asked.asked in
    let was = read_watch inside.watches.items c.args.slot c.index.result.now c.index.ensures within in
    let whole = sym (ap (λ (w : Watch). w.damage) was) ∙ c.in-None.is in
    sealed_err below (g.P.SwapPort.tells c.try_take.new.self) inside.watches.items digests c.self.invariant c.args.slot whole c.args.into.now.items c.try_take.new.into.items c.in-Err.wait c.in-Err.ensures.answer

pub returns-in-Ok-Read-clause-answer : goal.returns-in-Ok-Read-clause-answer
returns-in-Ok-Read-clause-answer g c =
    let inside = c.self.inside in
    let below = g.P.SwapPort.tells inside.port in
    let digests = digest_of inside.seals in
    let asked = rw (← c.self.view_is) at c.requires.asked in
    let within = asked_within below inside.watches.items digests c.self.invariant c.args.slot asked.asked in
    let was = read_watch inside.watches.items c.args.slot c.index.result.now c.index.ensures within in
    let whole = sym (ap (λ (w : Watch). w.damage) was) ∙ c.in-None.is in
    let brings = rw c.in-Ok-Read.field-0-is at c.in-Ok-Read.ensures.answer in
    let judged = rw c.as_slice.ensures.value at c.judge.ensures in
    rw (← c.self.view_is) (told_judged below (g.P.SwapPort.tells c.try_take.new.self) inside.watches.items c.judge.new.watches.items digests c.self.invariant c.args.slot whole c.try_take.new.into.items brings c.args.into.now.items c.judge.result judged)

pub returns-in-Ok-Read-clause-sealed : goal.returns-in-Ok-Read-clause-sealed
returns-in-Ok-Read-clause-sealed g c =
    let inside = c.self.inside in
    let below = g.P.SwapPort.tells inside.port in
    let digests = digest_of inside.seals in
    let asked = rw (← c.self.view_is) at c.requires.asked in
    let within = asked_within below inside.watches.items digests c.self.invariant c.args.slot asked.asked in
    let was = read_watch inside.watches.items c.args.slot c.index.result.now c.index.ensures within in
    let whole = sym (ap (λ (w : Watch). w.damage) was) ∙ c.in-None.is in
    let brings = rw c.in-Ok-Read.field-0-is at c.in-Ok-Read.ensures.answer in
    let judged = rw c.as_slice.ensures.value at c.judge.ensures in
    rw (← c.self.view_is) (brings_sealed below (g.P.SwapPort.tells c.try_take.new.self) inside.watches.items c.judge.new.watches.items digests c.self.invariant c.args.slot whole c.try_take.new.into.items brings c.judge.result judged)

pub returns-in-Ok-Wrote-clause-answer : goal.returns-in-Ok-Wrote-clause-answer
returns-in-Ok-Wrote-clause-answer g c =
    let inside = c.self.inside in
    let below = g.P.SwapPort.tells inside.port in
    let digests = digest_of inside.seals in
    let asked = rw (← c.self.view_is) at c.requires.asked in
    let within = asked_within below inside.watches.items digests c.self.invariant c.args.slot asked.asked in
    let was = read_watch inside.watches.items c.args.slot c.index.result.now c.index.ensures within in
    let whole = sym (ap (λ (w : Watch). w.damage) was) ∙ c.in-None.is in
    let saves = rw c.in-Ok-Wrote.field-0-is at c.in-Ok-Wrote.ensures.answer in
    rw (← c.self.view_is) (saves.0, told_wrote below (g.P.SwapPort.tells c.try_take.new.self) inside.watches.items digests c.self.invariant c.args.slot whole saves.1)

pub returns-in-Err-clause-answer : goal.returns-in-Err-clause-answer
returns-in-Err-clause-answer g c =
    let inside = c.self.inside in
    let below = g.P.SwapPort.tells inside.port in
    let digests = digest_of inside.seals in
    let asked = rw (← c.self.view_is) at c.requires.asked in
    let within = asked_within below inside.watches.items digests c.self.invariant c.args.slot asked.asked in
    let was = read_watch inside.watches.items c.args.slot c.index.result.now c.index.ensures within in
    let whole = sym (ap (λ (w : Watch). w.damage) was) ∙ c.in-None.is in
    let after = sealed_told (g.P.SwapPort.tells c.try_take.new.self) inside.watches.items digests in
    subst (λ sealed. Finishes (port_told g.P.SwapPort.tells sealed) after c.args.slot c.args.into.now.items c.try_take.new.into.items (Err c.in-Err.wait)) c.self.view_is (told_err below (g.P.SwapPort.tells c.try_take.new.self) inside.watches.items digests c.self.invariant c.args.slot whole c.args.into.now.items c.try_take.new.into.items c.in-Err.wait c.in-Err.ensures.answer)

pub returns-in-Err-clause-steady : goal.returns-in-Err-clause-steady
returns-in-Err-clause-steady g c =
    let inside = c.self.inside in
    let below = g.P.SwapPort.tells inside.port in
    let digests = digest_of inside.seals in
    let asked = rw (← c.self.view_is) at c.requires.asked in
    let within = asked_within below inside.watches.items digests c.self.invariant c.args.slot asked.asked in
    let was = read_watch inside.watches.items c.args.slot c.index.result.now c.index.ensures within in
    let whole = sym (ap (λ (w : Watch). w.damage) was) ∙ c.in-None.is in
    let above = sealed_told below inside.watches.items digests in
    rw (← c.self.view_is) (λ steady. subst (λ (s : SlotState). KeepsOn above s (Err c.in-Err.wait)) (sym (state_whole below inside.watches.items digests c.self.invariant c.args.slot whole))
    (keeps_on_above below inside.watches.items digests (slot_state below c.args.slot) (Err c.in-Err.wait) (c.in-Err.ensures.steady steady)))
