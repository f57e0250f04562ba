use Rattle.mage_words.specs.Words.{bytes_of_words}
use Rattle.mage_words.specs.Answers.{request_view}
use Rattle.mage_words.proofs.Ranges.{read_limits, read_numbers}
use Rattle.mage_words.proofs.words.read_words.Goals as goal

pub returns-clause-in_range : goal.returns-clause-in_range
returns-clause-in_range c = read_limits request_view (bytes_of_words c.args.words.now) c.asked.result c.asked.ensures

pub returns-clause-numbers : goal.returns-clause-numbers
returns-clause-numbers c = read_numbers request_view (bytes_of_words c.args.words.now) c.asked.result c.asked.ensures
