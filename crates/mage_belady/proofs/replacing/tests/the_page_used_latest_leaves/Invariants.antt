-- The ledger is that of the blank.
use Rattle.mage_belady.proofs.replacing.tests.the_page_used_latest_leaves.Given as goal

abbrev pub ghosts-counted : goal.ghosts-counted
ghosts-counted g a = record { name = a.blank.name; parts = a.blank.parts }
