use Rattle.std.proofs.Common.{ℕ, Vec}
use Rattle.std.specs.declared.alloc.Global.{Global}
use Rattle.mage_texts.specs.Lists.{lists_of}
use Rattle.mage_texts.specs.OutputText.{text_of}
use Rattle.mage_planner.proofs.EvaluatingLemmas.{is_stopped, is_unstopped, text_evaluated}
use Rattle.mage_planner.proofs.evaluating.said.Goals as goal

pub returns-in-Ok-clause-ran : goal.returns-in-Ok-clause-ran
returns-in-Ok-clause-ran c = λ done before after ran.
    text_evaluated done (text_of (lists_of c.in-Ok.outputs.items)) c.text_of.result (rw c.deref.ensures.value at c.text_of.ensures.text) c.text_of.ensures.memory before after (rw c.in-Ok.is at ran)

pub returns-in-Err-clause-ran : goal.returns-in-Err-clause-ran
returns-in-Err-clause-ran c = λ done before after stopped. rw c.of_fault.ensures (rw c.in-Err.is at stopped)

pub returns-in-Err-clause-unstopped : goal.returns-in-Err-clause-unstopped
returns-in-Err-clause-unstopped c = λ unstopped. rw c.of_fault.ensures (is_unstopped (Vec (Vec ℕ Global) Global) c.in-Err.fault (rw c.in-Err.is at unstopped))

pub returns-in-Err-clause-stopped : goal.returns-in-Err-clause-stopped
returns-in-Err-clause-stopped c = λ none. rw c.in-Err.is (is_stopped (Vec (Vec ℕ Global) Global) c.in-Err.fault (rw c.of_fault.ensures at none))
