-- How many pages the store of a worker has, where its file doesn't say so.
use Rattle.std.specs.Prelude.{ℕ, ◌+◌, max, List, [], ◌∷◌}
use Rattle.mage_instr.specs.declared.directive.Directive.{Directive}
use Rattle.mage_instr.specs.declared.directive.Directive.TheVariants as entry
use Rattle.mage_file.specs.declared.version.Version.{Version}
use Rattle.mage_file.specs.declared.version.Version.TheVariants as version

-- one above the page that a transfer names; 0 where none is named
abbrev pub above : Directive → ℕ
above (entry.IssueIn slot page) = page + 1
above (entry.IssueOut slot frame page) = page + 1
above (entry.Fresh frame page) = 0
above (entry.FinishIn slot frame) = 0
above (entry.FinishOut slot) = 0
above (entry.Do job) = 0

-- one above the greatest page that a transfer names, or 0
abbrev pub store_above : List Directive → ℕ
store_above [] = 0
store_above (d ∷ ds) = max (above d) (store_above ds)

-- the pages of the store of a worker with these directives, of which the file tells so many
abbrev pub pages_in : Version → (told : ℕ) → List Directive → ℕ
pages_in version.First told directives = store_above directives
pages_in version.Second told directives = told
