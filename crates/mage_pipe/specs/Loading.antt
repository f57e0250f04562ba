-- From a text to the program that it unrolls to.
use Rattle.std.specs.Prelude.{ℕ, List, Result, Ok}
use Rattle.mage_lex.specs.Tokens.{tokens_of}
use Rattle.mage_lex.specs.declared.fault.LangFault.{LangFault}
use Rattle.mage_parser.specs.Faults.{parsed}
use Rattle.mage_chains.specs.Chains.{◌>>=◌}
use Rattle.mage_unroll.specs.Unrolled.{unrolled_of}
use Rattle.mage_pipe.specs.declared.loaded.Loaded.{Loaded}

-- the tree of a text and the program that it unrolls to, or the text's first fault
unfoldable pub loaded_of : List ℕ → Result Loaded LangFault
loaded_of text = do
  tokens ← tokens_of text
  tree ← parsed text tokens
  program ← unrolled_of tree.0 tree.1
  Ok (record { source = record { workers = tree.0; body = tree.1 }; program = program })
