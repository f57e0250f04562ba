-- What the calls answer.
use Rattle.std.specs.Prelude.{◌≡◌, ℕ, List, Option, Some, None, Result, Ok, Err, option_map}
use Rattle.clap.specs.Words.{first_value}
use Rattle.clap.specs.declared.parser.matches.Found.{Found}
use Rattle.mage_words.specs.declared.fault.WordsFault.{WordsFault}
use Rattle.mage_words.specs.declared.fault.WordsFault.TheVariants as fault
use Rattle.mage_words.specs.declared.option.OptionName.{OptionName}
use Rattle.mage_words.specs.declared.request.Driver as code_driver
use Rattle.mage_words.specs.declared.request.Driver.TheVariants as code_drivers
use Rattle.mage_words.specs.declared.request.Request as code_request
use Rattle.mage_words.specs.declared.request.Request.TheVariants as code
use Rattle.mage_words.specs.declared.request.Solo as code_solo
use Rattle.mage_words.specs.declared.request.Stats as code_stats
use Rattle.mage_words.specs.declared.request.Deal as code_deal
use Rattle.mage_words.specs.declared.request.Plan as code_plan
use Rattle.mage_words.specs.declared.request.Check as code_check
use Rattle.mage_words.specs.declared.request.Upgrade as code_upgrade
use Rattle.mage_words.specs.declared.request.Gen as code_gen
use Rattle.mage_words.specs.Options.{rule_of}
use Rattle.mage_words.specs.Words.{Driver, Plain, Garble, Eval, Request, Solo, SoloRequest, Stats, StatsRequest, Deal, DealRequest, Plan, PlanRequest, Check, CheckRequest, Upgrade, UpgradeRequest, Gen, GenRequest}

-- what the code's requests hold
abbrev pub driver_view : code_driver.Driver → Driver
driver_view (code_drivers.Plain garbler evaluator) =
    Plain (option_map (λ name. name.now) garbler) (option_map (λ name. name.now) evaluator)
driver_view (code_drivers.Garble garbler seed stream) = Garble (option_map (λ name. name.now) garbler) seed.now stream.now
driver_view (code_drivers.Eval stream labels) = Eval stream.now labels.now

abbrev pub solo_view : code_solo.Solo → SoloRequest
solo_view solo = record { source = solo.source.now; driver = driver_view solo.driver; limits = solo.limits }

abbrev pub stats_view : code_stats.Stats → StatsRequest
stats_view stats = record { source = stats.source.now; limits = stats.limits }

abbrev pub deal_view : code_deal.Deal → DealRequest
deal_view deal = record {
  source = deal.source.now;
  evaluator = option_map (λ name. name.now) deal.evaluator;
  seed = deal.seed.now;
  labels = deal.labels.now;
}

abbrev pub plan_view : code_plan.Plan → PlanRequest
plan_view plan = record { source = plan.source.now; out = plan.out.now; limits = plan.limits }

abbrev pub check_view : code_check.Check → CheckRequest
check_view check = record { source = check.source.now; program = check.program.now }

abbrev pub upgrade_view : code_upgrade.Upgrade → UpgradeRequest
upgrade_view upgrade = record { program = upgrade.program.now; out = upgrade.out.now }

abbrev pub gen_view : code_gen.Gen → GenRequest
gen_view gen = record {
  items = gen.items;
  rows = gen.rows;
  workers = gen.workers;
  number = gen.number;
  out = gen.out.now;
  limits = gen.limits;
}

abbrev pub request_view : code_request.Request → Request
request_view (code.Solo solo) = Solo (solo_view solo)
request_view (code.Stats stats) = Stats (stats_view stats)
request_view (code.Deal deal) = Deal (deal_view deal)
request_view (code.Plan plan) = Plan (plan_view plan)
request_view (code.Check check) = Check (check_view check)
request_view (code.Upgrade upgrade) = Upgrade (upgrade_view upgrade)
request_view (code.Gen gen) = Gen (gen_view gen)

-- the value that matches have for an option
abbrev pub value_in : Found → OptionName → Option (List ℕ)
value_in found name = first_value found (rule_of name).name

-- what words ask for is read, or refused exactly where they ask for nothing; want of memory may come in its place
abbrev pub Reads : {X Y : Type 0} → (X → Y) → Option Y → Result X WordsFault → Type 0
Reads view asked (Ok x) = asked ≡ Some (view x)
Reads view asked (Err fault.Words) = asked ≡ None
Reads view asked (Err fault.Memory) = Unit {0}
