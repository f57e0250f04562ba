use Rattle.std.proofs.Common.{List, ap, ◌∙◌, arith}
use Rattle.std.specs.List.{list_all}
use Rattle.mage_carry.specs.declared.transfer.Transfer.{Transfer}
use Rattle.mage_carry.specs.State.{is_idle}
use Rattle.mage_carry.specs.Views.{slot_of, state_of}
use Rattle.mage_carry.proofs.Turns.{over_is}
use Rattle.mage_carry.proofs.walk.Walk.is_over.Goals as goal

pub returns-then-self-instrs : goal.returns-then-self-instrs
unfolding state_of
returns-then-self-instrs c =
    let s = c.args.self.now in
    over_is c.args.instrs.now s.slots.items s.next c.are_idle.result
    (c.are_idle.ensures ∙ ap (λ (xs : List Transfer). list_all (λ slot. is_idle (slot_of slot)) xs) c.as_slice.ensures.value)
    (omega (arith, c.if-self-instrs.true))
