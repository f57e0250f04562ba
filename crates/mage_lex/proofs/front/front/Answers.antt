use Rattle.mage_lex.proofs.SymbolLemmas.{symbol_fits}
use Rattle.mage_lex.proofs.front.front.Goals as goal

pub returns-else-is_ascii_digit-clause-size : goal.returns-else-is_ascii_digit-clause-size
returns-else-is_ascii_digit-clause-size c = rw c.symbol.ensures (symbol_fits c.args.text.now c.requires)
