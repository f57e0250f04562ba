-- What a run of a source's memory program comes to.
use Rattle.std.proofs.Common.{◌≡◌, ◌≢◌, ◌<◌, ◌≤◌, ◌+◌, ◌++◌, ◌⊎◌, inl, inr, ℕ, zero, suc, List, [], ◌∷◌, length, map, nat_lt, Bool, true, false, cond, None, Vec, Result, Ok, Err, refl, sym, ap, ap₂, subst, ◌∙◌, arith}
use Rattle.std.specs.Prelude.{◌^◌, ◌*◌, replicate, IfSome, slice_get, IfOk, IfErr, OnOk, slice_index}
use Rattle.std.specs.List.{All, AllZip, slice_index_or}
use Rattle.std.proofs.lemmas.Bool.{ltb-true, ltb-false}
use Rattle.std.specs.declared.alloc.Global.{Global}
use Rattle.std.proofs.lemmas.List.{length-map}
use Rattle.std.proofs.Math.Path.{fun_ext}
use Rattle.std.proofs.Math.Pow.{pow_mono}
use Rattle.mage_base.specs.Desk.{DeskTold, Returned, StoreId}
use Rattle.mage_base.specs.Faults.{Rose}
use Rattle.mage_base.specs.Store.{StoreTold, new_store}
use Rattle.mage_instr.specs.declared.directive.Directive.{Directive}
use Rattle.mage_instr.specs.declared.directive.MemProgram.{MemProgram}
use Rattle.mage_instr.specs.declared.instr.Instr.{Instr}
use Rattle.mage_instr.specs.declared.instr.Program.{Program}
use Rattle.mage_instr.specs.declared.party.Party.{Party}
use Rattle.mage_instr.specs.declared.party.Party.TheVariants as party
use Rattle.mage_instr.specs.declared.replaced.Limits.{Limits}
use Rattle.mage_instr.specs.Inputs.{widths_in, input_widths_of}
use Rattle.mage_instr.specs.Limits.{IsPageSize}
use Rattle.mage_linked.specs.declared.emitted.Emitted.{Emitted}
use Rattle.mage_linked.specs.Emission.{own_instrs, program_of}
use Rattle.mage_linked.specs.Workers.{list_at, below}
use Rattle.mage_linked.proofs.WorkerLemmas.{list_at-map}
use Rattle.mage_meaning.specs.Given.{Given}
use Rattle.mage_meaning.specs.Means.{means_of}
use Rattle.mage_sched.specs.Scheduled.{page_read, page_written}
use Rattle.std.specs.List.{flat_map}
use Rattle.mage_texts.specs.InputText.{FitWidths}
use Rattle.mage_texts.specs.Lists.{lists_of}
use Rattle.mage_texts.specs.OutputText.{text_of}
use Rattle.mage_verify.specs.Parts.{WorkerPart, parts_from, parts_of}
use Rattle.mage_verify.specs.Runs.{AreVerified}
use Rattle.mage_verify.proofs.Walked.{directives_of}
use Rattle.mage_directives.specs.Directives.{IsMemProgram}
use Rattle.mage_carried.specs.Laws.{Carries}
use Rattle.mage_plain_runs.specs.Plainly.{Fit}
use Rattle.mage_garbled_runs.specs.Meant.{CanRunOn}
use Rattle.mage_core.specs.declared.fault.RunFault.{RunFault}
use Rattle.mage_core.specs.declared.fault.RunFault.TheVariants as fault
use Rattle.mage_core.specs.Made.{HasStoreOf, shelves}
use Rattle.mage_lending.specs.declared.stores.StoreOrder.{StoreOrder}
use Rattle.mage_lending.specs.Stores.{AreLent, IsLent, AreBack, own_stores, told_on, NoneAreLent, AreLentAgain, with_unused, with_shelf, shelf_at}
use Rattle.mage_solo.specs.Plain.{PlainStops}
use Rattle.mage_solo.specs.Stores as solo
use Rattle.mage_solo.specs.Stores.{AreMoved, HaveGrown}
use Rattle.mage_source_runs.specs.Moves.{Moves}
use Rattle.mage_source_runs.specs.Runs.{RunsSource}
use Rattle.mage_source_runs.proofs.Running.{sources_can_be_run}
use Rattle.mage_planner.specs.declared.refusal.Refusal.{Refusal}
use Rattle.mage_planner.specs.declared.refusal.Refusal.TheVariants as refusal
use Rattle.mage_planner.specs.declared.work.Running.{Running}
use Rattle.mage_planner.specs.Outcome.{Done, said_of}
use Rattle.mage_planner.specs.Stores.{AreOfDesk, GivesBack, HaveMoved, IsRight}
use Rattle.mage_planner.specs.Answer.{StoresAreSound, NothingIsWrong}
use Rattle.mage_planner.specs.Steps.{IsNotDesk}
use Rattle.mage_planner.specs.Work.{CanBeRun, IsRunOf}
use Rattle.mage_planner.specs.Ran.{orders_of, HasLent, LendsSo, EndsSo, Halted, IsUnbroken}
use Rattle.mage_planner.proofs.PerformLemmas.{none_back}
use Rattle.mage_planner.proofs.WritingLemmas.{both_all}
use Rattle.mage_planner.proofs.RunLemmas.{moves_of_parts, one_all, sound_back, sound_used, sound_unused, given, as_many, has_broken, has_damaged, were_deceived, rose, broken_inside, damaged_inside, all_moved}

-- ---- inputs that fit the widths of a program fit each worker's instructions

fit_at : (widths numbers : List (List ℕ)) → FitWidths widths numbers → (n : ℕ) → AllZip (λ width number. number < 2 ^ width) (list_at widths n) (list_at numbers n)
fit_at [] [] fit n = tt
fit_at [] (own ∷ numbers) fit n = absurd fit
fit_at (own ∷ widths) [] fit n = absurd fit
fit_at (own ∷ widths) (other ∷ numbers) fit zero = fit.0
fit_at (own ∷ widths) (other ∷ numbers) fit (suc n) = fit_at widths numbers fit.1 n

fits : (widths values : List ℕ) → AllZip (λ width number. number < 2 ^ width) widths values → Fit values widths
fits [] [] each = λ k inside. absurd (omega (arith, inside))
fits [] (value ∷ values) each = absurd each
fits (width ∷ widths) [] each = absurd each
fits (width ∷ widths) (value ∷ values) each = go (fits widths values each.1) where
  go : Fit values widths → (k : ℕ) → k < length (width ∷ widths) → slice_index (value ∷ values) k < 2 ^ slice_index (width ∷ widths) k
  go rest zero inside = each.0
  go rest (suc k) inside = rest k (omega (arith, inside))

widths_at : (whose : Party) (workers : List (List Instr)) (n : ℕ) → list_at (map (widths_in whose) workers) n ≡ widths_in whose (list_at workers n)
widths_at whose [] n = refl
widths_at whose (own ∷ workers) zero = refl
widths_at whose (own ∷ workers) (suc n) = widths_at whose workers n

pub party_fits : (whose : Party) (count : ℕ) (emitted : List Emitted) (numbers : List (List ℕ)) → FitWidths (input_widths_of whose (program_of count emitted)) numbers
    → (n : ℕ) → n < count → Fit (list_at numbers n) (widths_in whose (own_instrs emitted n))
party_fits whose count emitted numbers fit n inside =
    subst (λ (widths : List ℕ). Fit (list_at numbers n) widths)
    (widths_at whose (map (own_instrs emitted) (below count)) n ∙ ap (widths_in whose) (list_at-map (own_instrs emitted) count n inside))
    (fits (list_at (input_widths_of whose (program_of count emitted)) n) (list_at numbers n) (fit_at (input_widths_of whose (program_of count emitted)) numbers fit n))

-- ---- what a source's run is to do

pub moves_from : (limits : Limits) (stores : List ℕ) (w : ℕ) (workers : List (List Directive))
    → moves_of_parts (parts_from limits stores w workers)
    ≡ map (λ part. record { reads = length (flat_map page_read part); writes = length (flat_map page_written part) }) workers
moves_from limits stores w [] = refl
moves_from limits stores w (part ∷ workers) =
    ap (λ (others : List Moves). record { reads = length (flat_map page_read part); writes = length (flat_map page_written part) } ∷ others)
    (moves_from limits stores (w + 1) workers)

-- a run reads no stream
pub nothing_read : (running : Running) (done : Done) → IsRunOf running done → done.reads ≡ None
nothing_read running done is = ap (λ (d : Done). d.reads) is.is

module _ (running : Running) (done : Done) (is : IsRunOf running done) where
  source : RunsSource is.loaded is.plan
  source = sources_can_be_run is.limits is.text is.loaded is.plan is.in_range is.loads is.planned

  abbrev own_given : Given
  own_given = record { garbler = lists_of running.garbler.items; evaluator = lists_of running.evaluator.items }

  moves_are : done.moves ≡ moves_of_parts running.parts.items
  moves_are =
      ap (λ (d : Done). d.moves) is.is ∙ sym (moves_from is.plan.limits is.plan.stores 0 is.plan.workers) ∙ ap moves_of_parts (sym is.parts)

  pub moves_count : length done.moves ≡ length running.parts.items
  moves_count = ap (λ (moves : List Moves). length moves) moves_are ∙ length-map running.parts.items _

  can_run : CanRunOn source.count source.emitted own_given
  can_run = record {
    runs = source.runs;
    fit = λ n inside. record {
      garbler_fits = party_fits party.Garbler source.count source.emitted (lists_of running.garbler.items)
          (subst (λ (p : Program). FitWidths (input_widths_of party.Garbler p) (lists_of running.garbler.items)) (sym source.program_is) is.garbler) n inside;
      evaluator_fits = party_fits party.Evaluator source.count source.emitted (lists_of running.evaluator.items)
          (subst (λ (p : Program). FitWidths (input_widths_of party.Evaluator p) (lists_of running.evaluator.items)) (sym source.program_is) is.evaluator) n inside;
    };
  }

  said_is : done.said ≡ said_of is.loaded own_given
  said_is = ap (λ (d : Done). d.said) is.is

  module _ (before after : DeskTold) (fresh shelves : List (List StoreTold)) (lent : AreLent before (orders_of 1 running.parts.items) fresh)
      (shape : map (λ shelf. length shelf) shelves ≡ map (λ shelf. length shelf) fresh) (grown : HaveGrown running.parts.items fresh shelves)
      (back : AreBack before.lent before after shelves)
    where
      abbrev all_parts : List WorkerPart
      all_parts = running.parts.items

      few : length shelves ≤ length done.moves
      few = let many = as_many 1 before after all_parts fresh shelves lent shape grown back in omega (arith, many, moves_count)

      right : (outputs : List (List ℕ))
          → (outputs ≡ means_of (program_of source.count source.emitted) own_given) ⊎ solo.WereDeceived all_parts fresh shelves
          → IsRight before shelves done.said (text_of outputs)
      right outputs (inl same) = inl (ap text_of (same ∙ source.means own_given) ∙ sym said_is)
      right outputs (inr deceived) = inr (were_deceived 1 before after all_parts fresh shelves lent shape grown back deceived)

      pub ends : (outcome : Result (Vec (Vec ℕ Global) Global) RunFault) → AreVerified all_parts
          → OnOk outcome (AreMoved all_parts fresh shelves)
          → IfErr outcome (PlainStops all_parts fresh shelves)
          → ((plan : MemProgram) (count : ℕ) (emitted : List Emitted) → IsMemProgram plan → all_parts ≡ parts_of plan → Carries count emitted plan → CanRunOn count emitted own_given
          → IfOk outcome (λ outputs. (lists_of outputs.items ≡ means_of (program_of count emitted) own_given) ⊎ solo.WereDeceived all_parts fresh shelves))
          → EndsSo done outcome before after
      ends (Ok outputs) verified moved stops said = record {
        shelves = shelves;
        moved = subst (λ (moves : List Moves). HaveMoved moves shelves) (sym moves_are) (all_moved 1 before after all_parts fresh shelves lent shape grown back verified moved);
        given = given 1 before after all_parts fresh shelves lent shape grown back;
        right = λ own. right (lists_of outputs.items) (said is.plan source.count source.emitted source.accepted.fields is.parts source.carries can_run);
        sound = λ own. inl (subst (NothingIsWrong (length done.moves)) (sym (nothing_read running done is)) tt);
      }
      ends (Err (fault.Store worker)) verified moved stops said =
          let broken = has_broken 1 before after all_parts fresh shelves lent shape grown back worker stops in
          let inside = broken_inside 1 before after all_parts fresh shelves lent shape grown back worker broken in
          record {
            shelves = shelves;
            between = after;
            returns = record { few = few; given = given 1 before after all_parts fresh shelves lent shape grown back };
            cause = (omega (arith, inside, moves_count), broken, rose 1 before after all_parts fresh shelves lent shape grown back worker broken);
            rest = refl;
            faults = refl;
          }
      ends (Err (fault.Damaged worker damage)) verified moved stops said =
          let damaged = has_damaged 1 before after all_parts fresh shelves lent shape grown back worker damage stops in
          let inside = damaged_inside 1 before after all_parts fresh shelves lent shape grown back worker damage damaged in
          record {
            shelves = shelves;
            between = after;
            returns = record { few = few; given = given 1 before after all_parts fresh shelves lent shape grown back };
            cause = (omega (arith, inside, moves_count), damaged);
            rest = refl;
            faults = refl;
          }
      ends (Err (fault.Driver worker f)) verified moved stops said = absurd stops
      ends (Err fault.Memory) verified moved stops said = record {
        shelves = shelves;
        between = after;
        returns = record { few = few; given = given 1 before after all_parts fresh shelves lent shape grown back };
        cause = tt;
        rest = refl;
        faults = refl;
      }

-- ---- over stores that were just lent

-- as many are on each shelf as are told
counts_told : {S : Type 0} (tells : S → StoreTold) (stores : List (Vec S Global)) → map (λ shelf. length shelf) (told_on tells stores) ≡ map (λ shelf. length shelf) (shelves stores)
counts_told tells [] = refl
counts_told tells (shelf ∷ stores) = ap₂ (λ (n : ℕ) (ns : List ℕ). n ∷ ns) (length-map shelf.items tells) (counts_told tells stores)

-- one is on each
ones_lent : (bytes : ℕ) (before : DeskTold) (parts : List WorkerPart) (fresh : List (List StoreTold)) → AreLent before (orders_of bytes parts) fresh
    → map (λ shelf. length shelf) fresh ≡ replicate (length parts) 1
ones_lent bytes before [] [] lent = refl
ones_lent bytes before [] (shelf ∷ fresh) lent = absurd lent
ones_lent bytes before (part ∷ parts) [] lent = absurd lent
ones_lent bytes before (part ∷ parts) ([] ∷ fresh) lent = absurd lent.0
ones_lent bytes before (part ∷ parts) ((store ∷ []) ∷ fresh) lent = ap (λ (ns : List ℕ). 1 ∷ ns) (ones_lent bytes before parts fresh lent.1)
ones_lent bytes before (part ∷ parts) ((store ∷ next ∷ others) ∷ fresh) lent = absurd lent.0

first_is : (m n : ℕ) (ms ns : List ℕ) → m ∷ ms ≡ n ∷ ns → (m ≡ n) × (ms ≡ ns)
first_is m n ms ns e = (cc, cc)

all_ones : {S : Type 0} (stores : List (Vec S Global)) (n : ℕ) → map (λ shelf. length shelf) (shelves stores) ≡ replicate n 1
    → All (λ shelf. length shelf.items ≡ 1) stores × (length stores ≡ n)
all_ones [] zero e = (λ k d inside. absurd (omega (arith, inside)), refl)
all_ones [] (suc n) e = absurd (cc)
all_ones (shelf ∷ stores) zero e = absurd (cc)
all_ones {S} (shelf ∷ stores) (suc n) e =
    let same = first_is (length shelf.items) 1 _ _ e in
    let rest = all_ones stores n same.1 in
    let many = rest.1 in
    (both_all (λ (shelf : Vec S Global). length shelf.items ≡ 1) shelf stores same.0 rest.0, omega (arith, many))

-- a shelf suits its part
suits_one : {S : Type 0} (tells : S → StoreTold) (bytes : ℕ) (before : DeskTold) (part : WorkerPart) (items : List S)
    → IsLent before (record { pages = part.pages; page_bytes = part.limits.page * bytes }) (map tells items) → HasStoreOf bytes tells part items
suits_one tells bytes before part [] lent = absurd lent
suits_one {S} tells bytes before part (store ∷ []) lent =
    record { one = refl; bytes = one_all (λ (s : S). (tells s).page_bytes ≡ part.limits.page * bytes) store (ap (λ (told : StoreTold). told.page_bytes) lent.fresh) }
suits_one tells bytes before part (store ∷ next ∷ items) lent = absurd lent

pub suits : {S : Type 0} (tells : S → StoreTold) (bytes : ℕ) (before : DeskTold) (parts : List WorkerPart) (stores : List (Vec S Global))
    → AreLent before (orders_of bytes parts) (told_on tells stores)
    → (w : ℕ) → IfSome (slice_get parts w) (λ part. IfSome (slice_get stores w) (λ shelf. HasStoreOf bytes tells part shelf.items))
suits tells bytes before [] [] lent zero = tt
suits tells bytes before [] [] lent (suc w) = tt
suits tells bytes before [] (shelf ∷ stores) lent w = absurd lent
suits tells bytes before (part ∷ parts) [] lent w = absurd lent
suits tells bytes before (part ∷ parts) (shelf ∷ stores) lent zero = suits_one tells bytes before part shelf.items lent.0
suits tells bytes before (part ∷ parts) (shelf ∷ stores) lent (suc w) = suits tells bytes before parts stores lent.1 w

pub lent_count : {S : Type 0} (tells : S → StoreTold) (bytes : ℕ) (before : DeskTold) (parts : List WorkerPart) (stores : List (Vec S Global))
    → AreLent before (orders_of bytes parts) (told_on tells stores) → length stores ≡ length parts
lent_count tells bytes before parts stores lent =
    (all_ones stores (length parts) (sym (counts_told tells stores) ∙ ones_lent bytes before parts (told_on tells stores) lent)).1

-- a program has at most 16 workers
pub few_parts : (parts : List WorkerPart) → AreVerified parts → length parts ≤ 16
few_parts parts verified =
    let few = verified.whole.1.few in
    let many : length (parts_of verified.whole.0) ≡ length verified.whole.0.workers =
    sym (length-map (parts_of verified.whole.0) (λ part. part.directives)) ∙ ap length (directives_of verified.whole.0) in
    let are : length parts ≡ length (parts_of verified.whole.0) = ap length verified.whole.2 in
    omega (arith, few, many, are)

-- and at least one
pub some_parts : (parts : List WorkerPart) → AreVerified parts → 1 ≤ length parts
some_parts parts verified =
    let some = verified.whole.1.some_worker in
    let many : length (parts_of verified.whole.0) ≡ length verified.whole.0.workers =
    sym (length-map (parts_of verified.whole.0) (λ part. part.directives)) ∙ ap length (directives_of verified.whole.0) in
    let are : length parts ≡ length (parts_of verified.whole.0) = ap length verified.whole.2 in
    omega (arith, some, many, are)

-- and a page has at most so many wires
pub pages_fit : (parts : List WorkerPart) → AreVerified parts → All (λ part. part.limits.page ≤ 65536) parts
pages_fit parts verified =
    subst (λ (all : List WorkerPart). All (λ part. part.limits.page ≤ 65536) all) (sym verified.whole.2)
    (each verified.whole.0.limits verified.whole.0.stores 0 verified.whole.0.workers (small verified.whole.0.limits.page verified.whole.1.limits.page))
  where
    small : (page : ℕ) → IsPageSize page → page ≤ 65536
    small page size = let grows : 2 ^ size.0 ≤ 65536 = pow_mono {j = 16} size.2 in omega (arith, grows, size.3)

    each : (limits : Limits) (stores : List ℕ) (w : ℕ) (workers : List (List Directive)) → limits.page ≤ 65536 → All (λ part. part.limits.page ≤ 65536) (parts_from limits stores w workers)
    each limits stores w [] fits = λ k d inside. absurd (omega (arith, inside))
    each limits stores w (directives ∷ workers) fits =
        both_all (λ (part : WorkerPart). part.limits.page ≤ 65536) _ (parts_from limits stores (w + 1) workers) fits (each limits stores (w + 1) workers fits)

pub few_orders : (bytes : ℕ) (parts : List WorkerPart) (orders : List StoreOrder) → AreVerified parts → orders ≡ orders_of bytes parts → length orders ≤ 65535
few_orders bytes parts orders verified same =
    let few = few_parts parts verified in
    let many = ap (λ (all : List StoreOrder). length all) same in
    let count : length (orders_of bytes parts) ≡ length parts = length-map parts _ in
    omega (arith, few, many, count)

module _ {S : Type 0} (tells : S → StoreTold) (bytes : ℕ) (before now : DeskTold) (parts : List WorkerPart) (stores others : List (Vec S Global))
    (has : HasLent bytes before parts (told_on tells stores) now)
    (shape : map (λ shelf. length shelf) (shelves others) ≡ map (λ shelf. length shelf) (shelves stores))
  where
    pub same_shape : map (λ shelf. length shelf) (told_on tells others) ≡ map (λ shelf. length shelf) (told_on tells stores)
    same_shape = counts_told tells others ∙ shape ∙ sym (counts_told tells stores)

    one_each : All (λ shelf. length shelf.items ≡ 1) others × (length others ≡ length parts)
    one_each = all_ones others (length parts) (shape ∙ sym (counts_told tells stores) ∙ ones_lent bytes before parts (told_on tells stores) has.stores)

    pub one_on_each : All (λ shelf. length shelf.items ≡ 1) others
    one_on_each = one_each.0

    pub as_many_back : length others ≡ length parts
    as_many_back = one_each.1

    pub lent_now : now.lent ≡ before.lent ++ own_stores 0 (length others)
    lent_now = ap (λ (desk : DeskTold). desk.lent) has.rest ∙ ap (λ (n : ℕ). before.lent ++ own_stores 0 n) (sym as_many_back)

    pub lent_pair : (earlier : List StoreId) × (now.lent ≡ earlier ++ own_stores 0 (length others))
    lent_pair = (before.lent, lent_now)

    pub back_before : (after : DeskTold) → AreBack before.lent now after (told_on tells others) → AreBack before.lent before after (told_on tells others)
    back_before after back =
        let b : AreBack before.lent (record before { lent = before.lent ++ own_stores 0 (length parts) }) after (told_on tells others) =
        subst (λ (desk : DeskTold). AreBack before.lent desk after (told_on tells others)) has.rest back in
        record { lent = b.lent; rest = b.rest }

    module _ (after : DeskTold) (grown : HaveGrown parts (told_on tells stores) (told_on tells others)) (back : AreBack before.lent now after (told_on tells others)) where
      pub sound_over : (outcome : Result (Vec (Vec ℕ Global) Global) RunFault)
          → OnOk outcome (AreMoved parts (told_on tells stores) (told_on tells others))
          → IfErr outcome (λ f. f ≡ fault.Memory → shelves others ≡ shelves stores)
          → IfErr outcome (PlainStops parts (told_on tells stores) (told_on tells others))
          → IsUnbroken outcome → StoresAreSound before after
      sound_over (Ok outputs) moved memory stops unbroken =
          sound_back bytes before after parts (told_on tells stores) (told_on tells others) has.stores same_shape grown (back_before after back)
          (sound_used bytes before after parts (told_on tells stores) (told_on tells others) has.stores same_shape grown (back_before after back) moved)
      sound_over (Err (fault.Store worker)) moved memory stops unbroken = absurd unbroken
      sound_over (Err (fault.Damaged worker damage)) moved memory stops unbroken = absurd unbroken
      sound_over (Err (fault.Driver worker f)) moved memory stops unbroken = absurd stops
      sound_over (Err fault.Memory) moved memory stops unbroken =
          sound_back bytes before after parts (told_on tells stores) (told_on tells others) has.stores same_shape grown (back_before after back)
          (sound_unused bytes before after parts (told_on tells stores) (told_on tells others) has.stores same_shape grown (back_before after back)
          (ap (λ (all : List (List S)). map (λ shelf. map tells shelf) all) (memory refl)))

pub unbroken_so : (outcome : Result (Vec (Vec ℕ Global) Global) RunFault) → IfErr outcome (λ f. f ≡ fault.Memory) → IsUnbroken outcome
unbroken_so (Ok outputs) memory = tt
unbroken_so (Err (fault.Store worker)) memory = cc
unbroken_so (Err (fault.Damaged worker damage)) memory = cc
unbroken_so (Err (fault.Driver worker f)) memory = tt
unbroken_so (Err fault.Memory) memory = tt

-- a run moves the pages of some worker
pub some_moves : (running : Running) (done : Done) → CanBeRun running → IsRunOf running done → done.moves ≢ []
some_moves running done can is none =
    let many = ap (λ (moves : List Moves). length moves) none in
    let count = moves_count running done is in
    let some = some_parts running.parts.items can.verified in
    absurd (omega (arith, many, count, some))

-- ---- where no store is lent

pub nothing_done : (done : Done) (desk : DeskTold) → Halted (length done.moves) refusal.Memory desk desk
nothing_done done desk = record {
  shelves = [];
  between = desk;
  returns = record { few = omega arith; given = none_back desk };
  cause = tt;
  rest = refl;
  faults = refl;
}

-- a store that was neither read nor written
abbrev unused : DeskTold → StoreTold
unused desk = new_store desk.stores_tell_pages desk.stores_tell_logs true 0 0

abbrev unused_shelves : DeskTold → ℕ → List (List StoreTold)
unused_shelves desk zero = []
unused_shelves desk (suc n) = (unused desk ∷ []) ∷ unused_shelves desk n

unused_count : (desk : DeskTold) (n : ℕ) → length (unused_shelves desk n) ≡ n
unused_count desk zero = refl
unused_count desk (suc n) = let rest = unused_count desk n in omega (arith, rest)

unused_own : (desk : DeskTold) (n : ℕ) → AreOfDesk desk (unused_shelves desk n)
unused_own desk zero = tt
unused_own desk (suc n) = (([], refl), unused_own desk n)

unused_inside : (desk : DeskTold) (n w : ℕ) → w < n → shelf_at (unused_shelves desk n) w ≡ unused desk ∷ []
unused_inside desk zero w inside = absurd (omega (arith, inside))
unused_inside desk (suc n) zero inside = refl
unused_inside desk (suc n) (suc w) inside = unused_inside desk n w (omega (arith, inside))

unused_beyond : (desk : DeskTold) (n w : ℕ) → n ≤ w → shelf_at (unused_shelves desk n) w ≡ []
unused_beyond desk zero w past = none_at w where
  none_at : (w : ℕ) → slice_index_or {A = List StoreTold} [] w [] ≡ []
  none_at zero = refl
  none_at (suc w) = refl
unused_beyond desk (suc n) zero past = absurd (omega (arith, past))
unused_beyond desk (suc n) (suc w) past = unused_beyond desk n w (omega (arith, past))

unused_at : (desk : DeskTold) (returned : Returned) (n w : ℕ)
    → with_shelf returned (shelf_at (unused_shelves desk n) w) ≡ cond (nat_lt w n) (with_unused desk.stores_tell_logs returned) returned
unused_at desk returned n w = go (nat_lt w n) refl where
  go : (b : Bool) → nat_lt w n ≡ b → with_shelf returned (shelf_at (unused_shelves desk n) w) ≡ cond b (with_unused desk.stores_tell_logs returned) returned
  go true e = ap (with_shelf returned) (unused_inside desk n w (ltb-true w n e))
  go false e = ap (with_shelf returned) (unused_beyond desk n w (ltb-false w n e))

module _ (before after : DeskTold) (workers : ℕ) (none : NoneAreLent before after workers) where
  abbrev between : DeskTold
  between = record before { lent = after.lent; returned = after.returned }

  returned_is : after.returned ≡ (λ worker. with_shelf (before.returned worker) (shelf_at (unused_shelves before none.count) worker))
  returned_is =
      ap (λ (desk : DeskTold). desk.returned) none.rest ∙ sym (fun_ext (λ worker. unused_at before (before.returned worker) none.count worker))

  unused_given : GivesBack (unused_shelves before none.count) before between
  unused_given = record {
    own = unused_own before none.count;
    back = record {
      lent = subst (λ (n : ℕ). AreLentAgain before.lent after.lent n) (sym (unused_count before none.count)) none.lent;
      rest = ap (λ (returned : ℕ → Returned). record before { lent = after.lent; returned = returned }) returned_is;
    };
  }

  rest_is : after ≡ record between { faults = after.faults }
  rest_is = none.rest ∙ ap (λ (returned : ℕ → Returned). record before { lent = after.lent; returned = returned; faults = after.faults }) (sym (ap (λ (desk : DeskTold). desk.returned) none.rest))

  module _ (done : Done) (count : workers ≡ length done.moves) where
    few_unused : length (unused_shelves before none.count) ≤ length done.moves
    few_unused = let same = unused_count before none.count in let most = none.few in omega (arith, same, most, count)

    pub unlent_fails : before.faults ≤ after.faults → Rose before.faults after.faults → Halted (length done.moves) refusal.Desk before after
    unlent_fails rises rose = record {
      shelves = unused_shelves before none.count;
      between = between;
      returns = record { few = few_unused; given = unused_given };
      cause = tt;
      rest = rest_is;
      faults = (rises, rose);
    }

    pub unlent_stops : after.faults ≡ before.faults → Halted (length done.moves) refusal.Memory before after
    unlent_stops same = record {
      shelves = unused_shelves before none.count;
      between = between;
      returns = record { few = few_unused; given = unused_given };
      cause = tt;
      rest = rest_is;
      faults = same;
    }

  -- stores that weren't used don't fail
  pub unlent_sound : StoresAreSound before after
  unlent_sound worker =
      subst (λ (r : ℕ → Returned). (r worker).faults ≤ (before.returned worker).faults) (sym (ap (λ (desk : DeskTold). desk.returned) none.rest)) (go (nat_lt worker none.count))
    where
      go : (b : Bool) → (cond b (with_unused before.stores_tell_logs (before.returned worker)) (before.returned worker)).faults ≤ (before.returned worker).faults
      go true = omega arith
      go false = omega arith

-- ---- what lending leaves

pub lent_so : (bytes : ℕ) (before now : DeskTold) (parts : List WorkerPart) (fresh : List (List StoreTold)) → HasLent bytes before parts fresh now → (desk : DeskTold) × HasLent bytes desk parts fresh now
lent_so bytes before now parts fresh has = (before, has)

pub has_lent : (bytes : ℕ) (before now : DeskTold) (parts : List WorkerPart) (orders : List StoreOrder) (fresh : List (List StoreTold)) → orders ≡ orders_of bytes parts
    → AreLent before orders fresh → now ≡ record before { lent = before.lent ++ own_stores 0 (length orders) } → HasLent bytes before parts fresh now
has_lent bytes before now parts orders fresh same lent rest = record {
  stores = subst (λ (all : List StoreOrder). AreLent before all fresh) same lent;
  rest = rest ∙ ap (λ (n : ℕ). record before { lent = before.lent ++ own_stores 0 n }) (ap (λ (all : List StoreOrder). length all) same ∙ length-map parts _);
}

pub unlent : (T : Type 0) (bytes : ℕ) (parts : List WorkerPart) (done : Done) (orders : List StoreOrder) (why : Refusal) (before after : DeskTold)
    → length done.moves ≡ length parts → orders ≡ orders_of bytes parts
    → LendsSo {T = T} (length orders) (Err why) before after → Halted (length done.moves) why before after
unlent T bytes parts done orders why before after many same lends = go why lends where
  count : length orders ≡ length done.moves
  count = ap (λ (all : List StoreOrder). length all) same ∙ length-map parts _ ∙ sym many

  go : (why : Refusal) → LendsSo {T = T} (length orders) (Err why) before after → Halted (length done.moves) why before after
  go refusal.Desk lends = unlent_fails before after (length orders) lends.0 done count lends.1 lends.2
  go refusal.Memory lends = unlent_stops before after (length orders) lends.0 done count lends.1
  go other lends = absurd lends

pub unlent_is_sound : (T : Type 0) (workers : ℕ) (why : Refusal) (before after : DeskTold) → LendsSo {T = T} workers (Err why) before after → IsNotDesk why → StoresAreSound before after
unlent_is_sound T workers refusal.Desk before after lends not = absurd not
unlent_is_sound T workers refusal.Memory before after lends not = unlent_sound before after workers lends.0
unlent_is_sound T workers other before after lends not = absurd lends
