-- The ledger is that of the blank.
use Rattle.mage_belady.proofs.replacing.replace.Given as goal

abbrev pub ghosts-replace_from : goal.ghosts-replace_from
ghosts-replace_from a = record { name = a.blank.name; parts = a.blank.parts }
