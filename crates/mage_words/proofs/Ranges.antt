-- The limits that words ask for are in range, and the numbers of `gen`.
use Rattle.std.proofs.Common.{◌≡◌, ◌∙◌, ◌≤◌, ◌<◌, ◌+◌, ◌*◌, ◌-◌, ◌^◌, ◌&&◌, ℕ, Bool, cond, true, false, suc, refl, sym, ap, subst, arith, List, [], ◌∷◌, Option, Some, None, Result, Ok, Err, option_map, nat_le, leb-true, IfOk}
use Rattle.std.specs.Int.{is_power_of_two}
use Rattle.std.specs.Int.RustNames.{count_ones}
use Rattle.std.specs.Option.{unwrap_or}
use Rattle.std.specs.Str.Parse.{digits_value}
use Rattle.std.proofs.Math.Nat.{lt_of_not-le, pow-suc}
use Rattle.std.proofs.Math.Pow.{pow_mono}
use Rattle.std.proofs.lemmas.Nat.{leading_top, ones_cat, zero_from_ones}
use Rattle.std.proofs.lemmas.Bool.Decides.{Decides-eqb}
use Rattle.mage_instr.specs.Limits.{IsPageSize, most_frames, most_slots, most_ahead, most_wires, AreInRange}
use Rattle.mage_instr.specs.declared.replaced.Limits.{Limits}
use Rattle.mage_words.specs.declared.command.CommandName.{CommandName}
use Rattle.mage_words.specs.declared.command.CommandName.TheVariants as command
use Rattle.mage_words.specs.declared.fault.WordsFault.{WordsFault}
use Rattle.mage_words.specs.declared.option.OptionName.{OptionName}
use Rattle.mage_words.specs.declared.option.OptionName.TheVariants as option
use Rattle.mage_words.specs.Commands.{command_named, rules_of}
use Rattle.mage_words.specs.Options.{shortest_page, longest_page, most_items, most_rows, most_gen_workers, most_number, rule_of}
use Rattle.mage_words.specs.Words.{◌>>=◌, LimitsAreInRange, NumbersAreInRange, GenIsInRange, Pair, Request, Solo, SoloRequest, Stats, StatsRequest, Deal, Plan, PlanRequest, Check, Upgrade, Gen, GenRequest, asked_of, asked_of_pairs, driver_named, driver_of_values, if_power_of_two, if_within, is_number, limits_of, number, number_in, pairs_of, request_of, solo_of_values, stats_of_values, deal_of_values, plan_of_values, check_of_values, upgrade_of_values, gen_of_values, takes, value_of}
use Rattle.mage_words.specs.Answers.{Reads}
use Rattle.mage_words.proofs.Rows.{both}
use Rattle.clap.specs.Walk.{Text}

-- ---- powers of two

one_bit : count_ones 1 ≡ 1
unfolding count_ones
one_bit = refl

-- a number of one bit is the power below it
only_bit : (n k : ℕ) → 2 ^ k ≤ n → n < 2 ^ suc k → count_ones n ≡ 1 → n ≡ 2 ^ k
only_bit n k low high one =
    let twice = pow-suc 2 k in
    let rest = n - 2 ^ k in
    let small : rest < 2 ^ k = omega (arith, twice, low, high) in
    let whole : 1 * 2 ^ k + rest ≡ n = omega (arith, low) in
    let bits : count_ones n ≡ count_ones 1 + count_ones rest = ap count_ones (sym whole) ∙ ones_cat k 1 rest small in
    let none : rest ≡ 0 = zero_from_ones rest (omega (arith, bits, one, one_bit)) in
    omega (arith, none, low)

power_is : (n : ℕ) → shortest_page ≤ n → n ≤ longest_page → is_power_of_two n ≡ true → IsPageSize n
power_is n low high one =
    let top = leading_top 17 n (omega arith) (omega arith) in
    go top.0 (omega (arith, top.1)) top.2 top.3
  where
    go : (k : ℕ) → k ≤ 16 → 2 ^ k ≤ n → n < 2 ^ suc k → IsPageSize n
    go k few below above =
        let some : 5 < k = lt_of_not-le (λ (less : k ≤ 5). let short : 2 ^ suc k ≤ 2 ^ 6 = pow_mono {i = suc k} {j = 6} (omega arith) in omega (arith, short, above, low)) in
        (k, some, few, only_bit n k below above ((Decides-eqb (count_ones n) 1).0 one))

-- ---- what a do-chain that gives something is made of

then_some : {A B : Type 0} (o : Option A) (f : A → Option B) (b : B) → (o >>= f) ≡ Some b → (a : A) × (o ≡ Some a) × (f a ≡ Some b)
then_some None f b is = cc
then_some (Some a) f b is = (a, refl, is)

map_some : {A B : Type 0} (f : A → B) (o : Option A) (b : B) → option_map f o ≡ Some b → (a : A) × (o ≡ Some a) × (f a ≡ b)
map_some f None b is = cc
map_some f (Some a) b is = (a, refl, ap (λ o. unwrap_or o b) is)

-- ---- numbers and limits

number_between : (least most : ℕ) (text : Text) (n : ℕ) → number_in least most text ≡ Some n → (least ≤ n) × (n ≤ most)
number_between least most text n = go (is_number text && (nat_le least (digits_value 10 text) && nat_le (digits_value 10 text) most)) refl
  where
    go : (b : Bool) → (is_number text && (nat_le least (digits_value 10 text) && nat_le (digits_value 10 text) most)) ≡ b
        → cond b (Some (digits_value 10 text)) None ≡ Some n → (least ≤ n) × (n ≤ most)
    go false test is = cc
    go true test is =
        let range = both _ _ (both (is_number text) _ test).1 in
        let same : digits_value 10 text ≡ n = ap (λ o. unwrap_or o n) is in
        subst (λ v. (least ≤ v) × (v ≤ most)) same (leb-true least _ range.0, leb-true _ most range.1)

power_kept : (n m : ℕ) → if_power_of_two n ≡ Some m → (n ≡ m) × (is_power_of_two n ≡ true)
power_kept n m = go (is_power_of_two n)
  where
    go : (b : Bool) → cond b (Some n) None ≡ Some m → (n ≡ m) × (b ≡ true)
    go false is = cc
    go true is = (ap (λ o. unwrap_or o m) is, refl)

within_kept : (all kept : Limits) → if_within all ≡ Some kept → (all ≡ kept) × ((all.frames + all.buffer) * all.page ≤ most_wires)
within_kept all kept = go (nat_le ((all.frames + all.buffer) * all.page) most_wires) refl
  where
    go : (b : Bool) → nat_le ((all.frames + all.buffer) * all.page) most_wires ≡ b → cond b (Some all) None ≡ Some kept
        → (all ≡ kept) × ((all.frames + all.buffer) * all.page ≤ most_wires)
    go false test is = cc
    go true test is = (ap (λ o. unwrap_or o kept) is, leb-true _ most_wires test)

module _ (value : OptionName → Option Text) where
  page_is : (page : ℕ) → number value option.Page ≡ Some page → IsPageSize page
  page_is page is =
      let given = then_some (value option.Page) _ page is in
      let read = then_some (number_in shortest_page longest_page given.0) if_power_of_two page given.2 in
      let range = number_between shortest_page longest_page given.0 read.0 read.1 in
      let kept = power_kept read.0 page read.2 in
      subst IsPageSize kept.0 (power_is read.0 range.0 range.1 kept.1)

  limits_are : (limits : Limits) → limits_of value ≡ Some limits → AreInRange limits
  unfolding limits_of
  limits_are limits is =
      let page = then_some (number value option.Page) _ limits is in
      let frames = then_some (number value option.Frames) _ limits page.2 in
      let buffer = then_some (number value option.Buffer) _ limits frames.2 in
      let ahead = then_some (number value option.Ahead) _ limits buffer.2 in
      let frames_text = then_some (value option.Frames) _ frames.0 frames.1 in
      let buffer_text = then_some (value option.Buffer) _ buffer.0 buffer.1 in
      let ahead_text = then_some (value option.Ahead) _ ahead.0 ahead.1 in
      let frames_range = number_between 1 most_frames frames_text.0 frames.0 frames_text.2 in
      let all : Limits = record { page = page.0; frames = frames.0; buffer = buffer.0; ahead = ahead.0 } in
      let kept = within_kept all limits ahead.2 in
      subst AreInRange kept.0 (record {
        page = page_is page.0 page.1;
        some_frame = frames_range.0;
        frames = frames_range.1;
        buffer = (number_between 0 most_slots buffer_text.0 buffer.0 buffer_text.2).1;
        ahead = (number_between 0 most_ahead ahead_text.0 ahead.0 ahead_text.2).1;
        wires = kept.1;
      })

  solo_limits : (solo : SoloRequest) → solo_of_values value ≡ Some solo → AreInRange solo.limits
  unfolding solo_of_values
  solo_limits solo is =
      let source = then_some (value option.Source) _ solo is in
      let name = then_some (value option.Driver >>= driver_named) _ solo source.2 in
      let driver = then_some (driver_of_values value name.0) _ solo name.2 in
      let limits = then_some (limits_of value) _ solo driver.2 in
      subst AreInRange (ap (λ o. (unwrap_or o solo).limits) limits.2) (limits_are limits.0 limits.1)

  stats_limits : (stats : StatsRequest) → stats_of_values value ≡ Some stats → AreInRange stats.limits
  unfolding stats_of_values
  stats_limits stats is =
      let source = then_some (value option.Source) _ stats is in
      let limits = then_some (limits_of value) _ stats source.2 in
      subst AreInRange (ap (λ o. (unwrap_or o stats).limits) limits.2) (limits_are limits.0 limits.1)

  plan_limits : (plan : PlanRequest) → plan_of_values value ≡ Some plan → AreInRange plan.limits
  unfolding plan_of_values
  plan_limits plan is =
      let source = then_some (value option.Source) _ plan is in
      let out = then_some (value option.Out) _ plan source.2 in
      let limits = then_some (limits_of value) _ plan out.2 in
      subst AreInRange (ap (λ o. (unwrap_or o plan).limits) limits.2) (limits_are limits.0 limits.1)

  -- what holds of a generated source's numbers and limits
  gen_ranges : (gen : GenRequest) → gen_of_values value ≡ Some gen → GenIsInRange gen × AreInRange gen.limits
  unfolding gen_of_values
  gen_ranges gen is =
      let items = then_some (number value option.Items) _ gen is in
      let rows = then_some (number value option.Rows) _ gen items.2 in
      let workers = then_some (number value option.Workers) _ gen rows.2 in
      let start = then_some (number value option.Number) _ gen workers.2 in
      let out = then_some (value option.Out) _ gen start.2 in
      let limits = then_some (limits_of value) _ gen out.2 in
      let items_text = then_some (value option.Items) _ items.0 items.1 in
      let rows_text = then_some (value option.Rows) _ rows.0 rows.1 in
      let workers_text = then_some (value option.Workers) _ workers.0 workers.1 in
      let start_text = then_some (value option.Number) _ start.0 start.1 in
      let items_range = number_between 1 most_items items_text.0 items.0 items_text.2 in
      let rows_range = number_between 1 most_rows rows_text.0 rows.0 rows_text.2 in
      let workers_range = number_between 1 most_gen_workers workers_text.0 workers.0 workers_text.2 in
      let start_range = number_between 0 most_number start_text.0 start.0 start_text.2 in
      let whole : GenRequest = record {
        items = items.0;
        rows = rows.0;
        workers = workers.0;
        number = start.0;
        out = out.0;
        limits = limits.0;
      } in
      let ranges : GenIsInRange whole = record {
        some_item = items_range.0;
        items = items_range.1;
        some_row = rows_range.0;
        rows = rows_range.1;
        some_worker = workers_range.0;
        workers = workers_range.1;
        number = start_range.1;
      } in
      subst (λ (g : GenRequest). GenIsInRange g × AreInRange g.limits) (ap (λ o. unwrap_or o gen) limits.2) (ranges, limits_are limits.0 limits.1)

  asked_limits : (name : CommandName) (request : Request) → asked_of name value ≡ Some request → LimitsAreInRange request
  asked_limits command.Solo request is =
      let solo = map_some Solo (solo_of_values value) request is in
      subst (λ r. LimitsAreInRange r) solo.2 (solo_limits solo.0 solo.1)
  asked_limits command.Stats request is =
      let stats = map_some Stats (stats_of_values value) request is in
      subst (λ r. LimitsAreInRange r) stats.2 (stats_limits stats.0 stats.1)
  asked_limits command.Deal request is =
      let deal = map_some Deal (deal_of_values value) request is in
      subst (λ r. LimitsAreInRange r) deal.2 tt
  asked_limits command.Plan request is =
      let plan = map_some Plan (plan_of_values value) request is in
      subst (λ r. LimitsAreInRange r) plan.2 (plan_limits plan.0 plan.1)
  asked_limits command.Check request is =
      let check = map_some Check (check_of_values value) request is in
      subst (λ r. LimitsAreInRange r) check.2 tt
  asked_limits command.Upgrade request is =
      let upgrade = map_some Upgrade (upgrade_of_values value) request is in
      subst (λ r. LimitsAreInRange r) upgrade.2 tt
  asked_limits command.Gen request is =
      let gen = map_some Gen (gen_of_values value) request is in
      subst (λ r. LimitsAreInRange r) gen.2 (gen_ranges gen.0 gen.1).1

  asked_numbers : (name : CommandName) (request : Request) → asked_of name value ≡ Some request → NumbersAreInRange request
  asked_numbers command.Solo request is = subst (λ r. NumbersAreInRange r) (map_some Solo (solo_of_values value) request is).2 tt
  asked_numbers command.Stats request is = subst (λ r. NumbersAreInRange r) (map_some Stats (stats_of_values value) request is).2 tt
  asked_numbers command.Deal request is = subst (λ r. NumbersAreInRange r) (map_some Deal (deal_of_values value) request is).2 tt
  asked_numbers command.Plan request is = subst (λ r. NumbersAreInRange r) (map_some Plan (plan_of_values value) request is).2 tt
  asked_numbers command.Check request is = subst (λ r. NumbersAreInRange r) (map_some Check (check_of_values value) request is).2 tt
  asked_numbers command.Upgrade request is = subst (λ r. NumbersAreInRange r) (map_some Upgrade (upgrade_of_values value) request is).2 tt
  asked_numbers command.Gen request is =
      let gen = map_some Gen (gen_of_values value) request is in
      subst (λ r. NumbersAreInRange r) gen.2 (gen_ranges gen.0 gen.1).0

-- ---- what words ask for

-- what holds of whatever the values of a command's options ask for holds of what words ask for
module _ (P : Request → Type 0)
    (always : (value : OptionName → Option Text) (name : CommandName) (request : Request) → asked_of name value ≡ Some request → P request) where
  of_pairs : (name : CommandName) (pairs : List Pair) (request : Request) → asked_of_pairs name pairs ≡ Some request → P request
  of_pairs name pairs request = go (takes (rules_of name) pairs)
    where
      go : (b : Bool) → cond b (asked_of name (λ option. value_of pairs (rule_of option))) None ≡ Some request → P request
      go false is = cc
      go true is = always (λ option. value_of pairs (rule_of option)) name request is

  of_words : (words : List Text) (request : Request) → request_of words ≡ Some request → P request
  unfolding request_of
  of_words [] request is = cc
  of_words (word ∷ words) request is =
      let name = then_some (command_named word) _ request is in
      let pairs = then_some (pairs_of words) _ request name.2 in
      of_pairs name.0 pairs.0 request pairs.2

  of_read : {X : Type 0} (view : X → Request) (words : List Text) (r : Result X WordsFault) → Reads view (request_of words) r
      → IfOk r (λ x. P (view x))
  of_read view words (Ok x) is = of_words words (view x) is
  of_read view words (Err fault) is = tt

pub read_limits : {X : Type 0} (view : X → Request) (words : List Text) (r : Result X WordsFault) → Reads view (request_of words) r
    → IfOk r (λ x. LimitsAreInRange (view x))
read_limits view words r is = of_read (λ request. LimitsAreInRange request) asked_limits view words r is

pub read_numbers : {X : Type 0} (view : X → Request) (words : List Text) (r : Result X WordsFault) → Reads view (request_of words) r
    → IfOk r (λ x. NumbersAreInRange (view x))
read_numbers view words r is = of_read (λ request. NumbersAreInRange request) asked_numbers view words r is
