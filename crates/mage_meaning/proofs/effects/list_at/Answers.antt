use Rattle.std.proofs.Common.{sym, arith}
use Rattle.mage_meaning.proofs.EffectLemmas.{list_at-within, list_at-beyond}
use Rattle.mage_meaning.proofs.effects.list_at.Goals as goal

pub returns-then-worker-lists : goal.returns-then-worker-lists
returns-then-worker-lists c = sym (list_at-within (λ own. own.now) c.args.lists.now c.args.worker _ (omega arith))

pub returns-else-worker-lists : goal.returns-else-worker-lists
returns-else-worker-lists c = sym (list_at-beyond (λ own. own.now) c.args.lists.now c.args.worker (omega arith))
