use Rattle.mage_texts.specs.Lists.{lists_of}
use Rattle.mage_texts.specs.OutputText.{text_of}
use Rattle.mage_planner.proofs.HaltedLemmas.{text_ran}
use Rattle.mage_planner.proofs.running.said.Goals as goal

pub returns-in-Ok-clause-ran : goal.returns-in-Ok-clause-ran
returns-in-Ok-clause-ran c = λ done before after ran.
    text_ran done (text_of (lists_of c.in-Ok.outputs.items)) c.text_of.result (rw c.deref.ensures.value at c.text_of.ensures.text) c.text_of.ensures.memory before after (rw c.in-Ok.is at ran)
