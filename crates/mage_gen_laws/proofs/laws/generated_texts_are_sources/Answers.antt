use Rattle.mage_gen_laws.proofs.OrderSources.{generated_texts_are_sources}
use Rattle.mage_gen_laws.proofs.laws.generated_texts_are_sources.Goals as goal

pub returns : goal.returns
returns c = generated_texts_are_sources
