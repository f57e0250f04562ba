-- What is known of a run whose stores are steady, or tell their pages.
use Rattle.std.specs.Prelude.{◌≡◌, ◌<◌, Option, Some, is_some, IsSome, IsTrue}
use Rattle.std.specs.List.{All}
use Rattle.mage_base.specs.Store.{StoreTold}
use Rattle.mage_core.specs.declared.fault.RunFault.{RunFault}
use Rattle.mage_core.specs.declared.fault.RunFault.TheVariants as fault
use Rattle.mage_core.specs.Ports.{pages_moved}
use Rattle.mage_core.specs.Going.{Start}

-- A store suffices for its part: it tells its pages, is steady, was neither read nor written, and has each page that the part moves.
pub record Suffices {S : Type 0} (start : Start S) : Type 0 where
  pub told : IsSome start.store.pages
  pub steady : IsTrue start.store.steady
  pub no_reads : start.store.reads ≡ 0
  pub no_writes : start.store.writes ≡ 0
  pub pages : All (λ page. page < start.store.page_count) (pages_moved start.part.directives)

-- no store failed
abbrev pub IsNotOfStore : Option RunFault → Type 0
IsNotOfStore (Some (fault.Store worker)) = ⊥
IsNotOfStore _ = Unit {0}

-- no driver was stopped
abbrev pub IsNotOfDriver : Option RunFault → Type 0
IsNotOfDriver (Some (fault.Driver worker f)) = ⊥
IsNotOfDriver _ = Unit {0}

-- A store tells its pages and its log where it told them before, and has the same pages.
pub record TellsAlike (before after : StoreTold) : Type 0 where
  pub pages : is_some after.pages ≡ is_some before.pages
  pub log : is_some after.log ≡ is_some before.log
  pub page_bytes : after.page_bytes ≡ before.page_bytes
  pub steady : after.steady ≡ before.steady
  pub page_count : after.page_count ≡ before.page_count
