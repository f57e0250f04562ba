-- The list of the rule carries the program: instruction after instruction.
use Rattle.std.proofs.Common.{◌≡◌, ◌≢◌, ◌<◌, ◌≤◌, ◌+◌, ◌&&◌, ◌||◌, zero, suc, ℕ, Bool, true, false, cond, List, [], ◌∷◌, ◌++◌, Option, None, Some, IsSomeAnd, Contains, length, drop, get_or, set, refl, sym, ◌∙◌, ap, arith, ⊎_elim, subst}
use Rattle.std.specs.Prelude.{slice_get, nat_eq, nat_le}
use Rattle.std.proofs.lemmas.Bool.{cases_lt, cases_eq, or_left, or_right, and_from, eq-eqb, ne_eqb, lt-ltb, le-leb, false≢true}
use Rattle.std.proofs.lemmas.List.{at_drop_all, length-set, length-replicate}
use Rattle.std.proofs.lemmas.List.Elements.{Contains-append_left, Contains-append_right}
use Rattle.mage_instr.specs.declared.instr.TheConstants.{NEVER}
use Rattle.mage_instr.specs.declared.instr.Instr.{Instr}
use Rattle.mage_instr.specs.declared.instr.Place.{Place}
use Rattle.mage_instr.specs.declared.instr.Step.{Step}
use Rattle.mage_instr.specs.declared.replaced.Replaced.TheVariants as entry
use Rattle.mage_instr.specs.Opcodes.{arity_of, has_result, width_of_result, width_of_arg}
use Rattle.mage_instr.specs.Sound.{arg_of, IsSound}
use Rattle.mage_instr.specs.Trace.{pages_of}
use Rattle.mage_next.specs.Next.{first_use}
use Rattle.mage_place.specs.Live.{args_of, values_touched_by, IsLive}
use Rattle.mage_place.specs.Places.{place_of, ArePlaces}
use Rattle.mage_place.specs.Steps.{AreSteps, IsStepOf}
use Rattle.mage_place.specs.TooWide.{page_tight}
use Rattle.mage_place.proofs.At.{slice_get-set_same, slice_get-set_other}
use Rattle.mage_place.proofs.SoundFacts.{no_instr, some_and, sound_at, in_front, arg_below, Takes-at, taken_below}
use Rattle.mage_belady.specs.Plan.{is_in}
use Rattle.mage_belady.specs.Rule.{Held, resident, frame_of, arg_spot, job_in, written, all_brought_in, rule_from, tight_of}
use Rattle.mage_belady.proofs.Bringing.{length-resident, came_all}
use Rattle.mage_belady.proofs.Going.{starts}
use Rattle.mage_belady.proofs.Fits.{AllFit-from_none}
use Rattle.mage_belady.proofs.Least.{resident-after}
use Rattle.mage_belady.proofs.Serving.{AllFit-at}
use Rattle.mage_belady.proofs.Sets.{frame_of-within, frame_of-has}
use Rattle.mage_carry.specs.Opcode.{number_of}
use Rattle.mage_carry.specs.State.{Content, nothing, State, has, with_frame}
use Rattle.mage_carry.specs.Steps.{◌>>=◌, is_job_of, is_within, stands_at, finds, finds_all, placed, result_put, counted, do_job}
use Rattle.mage_carry.specs.Carrying.{start}
use Rattle.mage_carry.proofs.Turns.{job_done}
use Rattle.mage_carry.proofs.Walks.{arity-le}
use Rattle.mage_residency.specs.Plain.{all_done}
use Rattle.mage_residency.specs.Carried.{HaveArguments, RuleCarries}
use Rattle.mage_residency.proofs.Apart.{inside_page, apart}
use Rattle.mage_residency.proofs.Coming.{some_from, all_come}
use Rattle.mage_residency.proofs.Dirty.{is_dirty, is_dirty-written}
use Rattle.mage_residency.proofs.Doing.{put_nothing, goes_on}
use Rattle.mage_residency.proofs.Frames.{frame_of-at}
use Rattle.mage_residency.proofs.Kept.{HasLive, Known, Keeps}
use Rattle.mage_residency.proofs.Turning.{no_step, IsTurn, turn_at, each_step, rule_turns, AddsPages, adds_pages}

has_it : (a : ℕ) → has (nat_eq a) (Some a) ≡ true
has_it a = eq-eqb a a refl

module _ (frames page : ℕ) (instrs : List Instr) (places : List Place) (sound : IsSound instrs) (have : HaveArguments instrs) (fits : page_tight page instrs ≡ None) (are : ArePlaces instrs page places) where
  abbrev page_of : ℕ → ℕ
  page_of v = (place_of places v).page

  abbrev offset_of : ℕ → ℕ
  offset_of v = (place_of places v).offset

  -- Instruction t, its step, and the frames once the pages of the step are in memory.
  module _ (t : ℕ) (i : Instr) (step : Step) (steps : List Step) (seen : List ℕ) (held : List Held) (s : State)
      (is : slice_get instrs t ≡ Some i) (its : IsStepOf places t i step) (pages : AddsPages frames instrs places t i step steps seen)
      (here : (q : ℕ) → is_in q (pages_of step) ≡ true → is_in q (resident held) ≡ true) (k : Keeps frames instrs places t seen held (step ∷ steps) s) where
    -- argument k of the instruction
    arg_among : (n : ℕ) → n < arity_of i.op → Contains (args_of i) (arg_of i n)
    arg_among n below =
        let three : length i.args ≡ 3 = rw is at (have t) in
        let few = arity-le i.op in
        in_front i.args (arity_of i.op) n below (omega (arith, few, three, below))

    arg_lives : (n : ℕ) → n < arity_of i.op → IsLive instrs t (arg_of i n)
    arg_lives n below =
        let among = arg_among n below in
        ((arg_below instrs t (arg_of i n) i sound is among).0, t, omega arith, Takes-at instrs t (arg_of i n) i is among)

    -- the frame of a page of the step has its live values
    frame_has : (q : ℕ) → is_in q (pages_of step) ≡ true → (content : Content) × (slice_get s.frames (frame_of q (resident held)) ≡ Some content) × HasLive frames instrs places content t q
    frame_has q m =
        let there = here q m in
        let within = frame_of-within q (resident held) there in
        let long = length-resident held in
        let found = some_and (slice_get s.frames (frame_of q (resident held))) _ (k.in_frames (frame_of q (resident held)) (omega (arith, within, long))) in
        (found.0, found.1, subst (λ x. HasLive frames instrs places found.0 t x) (frame_of-has q (resident held) there) found.2)

    -- the spot of an argument is in its page, and there the argument stands
    abbrev is_inside : (n : ℕ) → Bool
    is_inside n = is_within page (width_of_arg i.op i.width i.imm n) (arg_spot held places i n)

    abbrev is_there : (n : ℕ) → Bool
    is_there n = stands_at s.frames (arg_of i n) (arg_spot held places i n)

    inside : (n : ℕ) → n < arity_of i.op → is_inside n ≡ true
    inside n below =
        let source = some_and (slice_get instrs (arg_of i n)) _ ((sound_at instrs t i sound is).1 n below).1 in
        let room = inside_page instrs page places sound fits are (arg_of i n) source.0 source.1 source.2.0 in
        let wide = source.2.1 in
        rw (lt-ltb n (arity_of i.op) below) (le-leb (offset_of (arg_of i n) + width_of_arg i.op i.width i.imm n) page (omega (arith, room, wide)))

    there : (n : ℕ) → n < arity_of i.op → is_there n ≡ true
    there n below =
        let touched : Contains (values_touched_by i t) (arg_of i n) = Contains-append_left (args_of i) _ (arg_of i n) (arg_among n below) in
        let found = frame_has (page_of (arg_of i n)) (pages.needed (arg_of i n) touched) in
        let stands = found.2 (arg_of i n) (arg_lives n below) refl in
        rw (lt-ltb n (arity_of i.op) below, found.1, stands) (has_it (arg_of i n))

    arg_found : (n : ℕ) → (nat_le (arity_of i.op) n || (is_inside n && is_there n)) ≡ true
    arg_found n =
        ⊎_elim (λ below. or_right (nat_le (arity_of i.op) n) (is_inside n && is_there n) (and_from (is_inside n) (is_there n) (inside n below) (there n below)))
        (λ past. or_left (nat_le (arity_of i.op) n) (is_inside n && is_there n) (le-leb (arity_of i.op) n past)) (cases_lt n (arity_of i.op))

    is_the_job : is_job_of i (job_in held places t i) ≡ true
    is_the_job = rw (eq-eqb (number_of i.op) (number_of i.op) refl, eq-eqb i.width i.width refl, eq-eqb i.imm i.imm refl) refl

    all_found : finds_all page s.frames i (job_in held places t i) ≡ true
    all_found =
        and_from (finds page s.frames i (job_in held places t i) 0 && finds page s.frames i (job_in held places t i) 1) (finds page s.frames i (job_in held places t i) 2)
        (and_from (finds page s.frames i (job_in held places t i) 0) (finds page s.frames i (job_in held places t i) 1) (arg_found 0) (arg_found 1)) (arg_found 2)

    is_next : (is_job_of i (job_in held places t i) && finds_all page s.frames i (job_in held places t i)) ≡ true
    is_next = and_from (is_job_of i (job_in held places t i)) (finds_all page s.frames i (job_in held places t i)) is_the_job all_found

    in_instrs : slice_get instrs s.next ≡ Some i
    in_instrs = ap (slice_get instrs) k.next ∙ is

    -- a page on which no result is put keeps its live values
    older : (content : Content) (q : ℕ) → (has_result i.op ≡ true → page_of t ≢ q) → HasLive frames instrs places content t q → HasLive frames instrs places content (t + 1) q
    older content q other holds v live on = ⊎_elim own (λ ne. holds v (omega (arith, live.0, ne), live.1, omega (arith, live.2), live.3) on) (cases_eq v t) where
      own : v ≡ t → content (offset_of v) ≡ Some v
      own e =
          let source = (taken_below instrs live.1 v sound live.3).2 in
          let same : ◌≡◌ {A = Option Instr} (Some i) (Some source.0) = sym is ∙ ap (slice_get instrs) (sym e) ∙ source.1 in
          let one : i ≡ source.0 = same_instr i source.0 same in
          absurd (other (ap (λ (x : Instr). has_result x.op) one ∙ source.2) (ap page_of (sym e) ∙ on))
        where
          same_instr : (x y : Instr) → ◌≡◌ {A = Option Instr} (Some x) (Some y) → x ≡ y
          same_instr x y h = cc

    -- the store keeps the live values of its pages
    store_keeps : (q : ℕ) → (has_result i.op ≡ true → page_of t ≢ q) → is_in q (seen ++ pages_of step) ≡ true → is_dirty q held ≡ false → first_use steps (t + 1) q ≢ NEVER → IsSomeAnd (s.pages q) (λ content. HasLive frames instrs places content (t + 1) q)
    store_keeps q other m clean later = kept (s.pages q) (k.in_store q (pages.had_before q other m) clean (pages.used_before q later)) where
      kept : (o : Option Content) → IsSomeAnd o (λ content. HasLive frames instrs places content t q) → IsSomeAnd o (λ content. HasLive frames instrs places content (t + 1) q)
      kept None h = h
      kept (Some content) h = older content q other h

    frame_keeps : (o : Option Content) (q : ℕ) → (has_result i.op ≡ true → page_of t ≢ q) → IsSomeAnd o (λ content. HasLive frames instrs places content t q) → IsSomeAnd o (λ content. HasLive frames instrs places content (t + 1) q)
    frame_keeps None q other h = h
    frame_keeps (Some content) q other h = older content q other h

    abbrev Later : (q : ℕ) → Content → Type 0
    Later q content = HasLive frames instrs places content (t + 1) q

    -- what the instruction comes to
    abbrev pub Done : List Held → Type 0
    Done after = (next : State) × (do_job instrs page (job_in held places t i) s ≡ Some next) × Keeps frames instrs places (t + 1) (seen ++ pages_of step) after steps next

    done_without : has_result i.op ≡ false → Done held
    done_without none =
        let never : has_result i.op ≡ true → ⊥ = λ e. false≢true (sym none ∙ e) in (
          counted s,
          job_done instrs page (job_in held places t i) s i s in_instrs is_next (put_nothing instrs page i (job_in held places t i) s none),
          record {
            count = k.count;
            next = ap (λ n. n + 1) k.next;
            distinct = k.distinct;
            fits = k.fits;
            in_frames = λ f less. frame_keeps (slice_get s.frames f) (get_or (resident held) f 0) (λ e. absurd (never e)) (k.in_frames f less);
            in_store = λ q m clean later. store_keeps q (λ e. absurd (never e)) m clean later;
          },
        )

    -- the result is put in its place, and what is live stays there
    module _ (result : has_result i.op ≡ true) where
      on_step : is_in (page_of t) (pages_of step) ≡ true
      on_step =
          let last : Contains (cond (has_result i.op) (t ∷ []) []) t = rw result (0, omega arith, refl) in
          pages.needed t (Contains-append_right (args_of i) _ t last)

      f : ℕ
      f = frame_of (page_of t) (resident held)

      put_has : (content : Content) → HasLive frames instrs places content t (page_of t) → HasLive frames instrs places (placed instrs (offset_of t) (width_of_result i.op i.width) s.next content) (t + 1) (page_of t)
      put_has content holds v live on = ⊎_elim own before (cases_eq v t) where
        own : v ≡ t → placed instrs (offset_of t) (width_of_result i.op i.width) s.next content (offset_of v) ≡ Some v
        own e = rw (e, eq-eqb (offset_of t) (offset_of t) refl) (ap Some k.next)

        before : v ≢ t → placed instrs (offset_of t) (width_of_result i.op i.width) s.next content (offset_of v) ≡ Some v
        before ne =
            let lives : IsLive instrs t v = (omega (arith, live.0, ne), live.1, omega (arith, live.2), live.3) in
            let there = apart instrs page places sound fits are t i v is result lives on in
            rw (ne_eqb (offset_of t) (offset_of v) there.0, holds v lives on, there.1) refl

      put_there : (content : Content) → slice_get s.frames (frame_of (page_of t) (resident held)) ≡ Some content
          → result_put instrs page i (job_in held places t i) s ≡ Some (with_frame (frame_of (page_of t) (resident held)) (placed instrs (offset_of t) (width_of_result i.op i.width) s.next content) s)
      put_there content at =
          let room = inside_page instrs page places sound fits are t i is result in
          let fits_page = le-leb (offset_of t + width_of_result i.op i.width) page room in
          rw (result, at, fits_page) refl

      pub done_with : Done (written (page_of t) held)
      done_with =
          let found = frame_has (page_of t) on_step in
          let there = here (page_of t) on_step in
          let within = frame_of-within (page_of t) (resident held) there in
          let long = length-resident held in
          let inside : frame_of (page_of t) (resident held) < length held = omega (arith, within, long) in
          let few = k.fits in
          let many = k.count in
          let in_state : frame_of (page_of t) (resident held) < length s.frames = omega (arith, inside, few, many) in
          let content = placed instrs (offset_of t) (width_of_result i.op i.width) s.next found.0 in
          let same : resident (written (page_of t) held) ≡ resident held = resident-after true (page_of t) held in
          let has_page_there = frame_of-has (page_of t) (resident held) there in (
            counted (with_frame (frame_of (page_of t) (resident held)) content s),
            job_done instrs page (job_in held places t i) s i (with_frame (frame_of (page_of t) (resident held)) content s) in_instrs is_next (put_there found.0 found.1),
            record {
              count = length-set s.frames (frame_of (page_of t) (resident held)) content ∙ k.count;
              next = ap (λ n. n + 1) k.next;
              distinct = rw same k.distinct;
              fits = let size = length-set held (frame_of (page_of t) (resident held)) (record { page = page_of t; dirty = true }) in omega (arith, few, size);
              in_frames = λ g less.
                  let size = length-set held (frame_of (page_of t) (resident held)) (record { page = page_of t; dirty = true }) in
                  let old : g < length held = omega (arith, less, size) in
                  subst (λ xs. IsSomeAnd (slice_get (set s.frames (frame_of (page_of t) (resident held)) content) g) (Later (get_or xs g 0))) (sym same) (⊎_elim
                  (λ e. subst (λ x. IsSomeAnd (slice_get (set s.frames (frame_of (page_of t) (resident held)) content) x) (Later (get_or (resident held) x 0))) (sym e)
                  (some_from (slice_get (set s.frames (frame_of (page_of t) (resident held)) content) (frame_of (page_of t) (resident held))) content (Later (get_or (resident held) (frame_of (page_of t) (resident held)) 0))
                  (slice_get-set_same s.frames (frame_of (page_of t) (resident held)) content in_state)
                  (subst (λ q. Later q content) (sym has_page_there) (put_has found.0 found.2))))
                  (λ ne. subst (λ o. IsSomeAnd o (Later (get_or (resident held) g 0))) (sym (slice_get-set_other s.frames (frame_of (page_of t) (resident held)) g content ne))
                  (frame_keeps (slice_get s.frames g) (get_or (resident held) g 0) (λ e p. ne (sym (ap (λ x. frame_of x (resident held)) p ∙ frame_of-at (resident held) g k.distinct (omega (arith, old, long))))) (k.in_frames g old)))
                  (cases_eq g (frame_of (page_of t) (resident held))));
              in_store = λ q m clean later.
                  let was = is_dirty-written (page_of t) q held there has_page_there clean in
                  store_keeps q (λ e p. was.0 (sym p)) m was.1 later;
            },
          )

    pub done : Done (cond (has_result i.op) (written (page_of t) held) held)
    done = go (has_result i.op) refl where
      go : (b : Bool) → has_result i.op ≡ b → Done (cond b (written (page_of t) held) held)
      go true e = done_with e
      go false e = done_without e

  -- all instructions from t on
  module _ (trace : List Step) (steps_are : AreSteps instrs places trace) (none : tight_of frames 0 trace ≡ None) where
    walks : (n t : ℕ) (seen : List ℕ) (held : List Held) (s : State) → t + n ≡ length instrs → Known frames instrs places t seen → Keeps frames instrs places t seen held (drop t trace) s
        → IsSomeAnd (all_done instrs page s (rule_from frames places t seen held (drop t instrs) (drop t trace))) (λ end. end.next ≡ length instrs)
    walks zero t seen held s all known k =
        let ended = at_drop_all (λ (rest : List Instr). all_done instrs page s (rule_from frames places t seen held rest (drop t trace))) instrs t (omega (arith, all)) in
        let next : s.next ≡ length instrs = k.next ∙ omega (arith, all) in
        rw ended next
    walks (suc n) t seen held s all known k =
        let in_instrs : t < length instrs = omega (arith, all) in
        let i = get_or instrs t no_instr in
        let step = get_or trace t no_step in
        let steps = drop (t + 1) trace in
        let here : IsTurn instrs places trace t i step = turn_at instrs places trace steps_are t in_instrs in
        let few_instrs = sound.count in
        let early : t < NEVER = omega (arith, in_instrs, few_instrs) in
        let few : length (pages_of step) ≤ frames = AllFit-at frames trace t no_step (AllFit-from_none frames 0 trace (each_step instrs places trace steps_are) none) here.in_trace in
        let kept : Keeps frames instrs places t seen held (step ∷ steps) s = subst (λ rest. Keeps frames instrs places t seen held rest s) here.front k in
        let pages = pages_of step in
        let moved = all_brought_in frames (first_use steps (t + 1)) seen pages pages held in
        let long = length-resident held in
        let fits_now = k.fits in
        let came = came_all frames (first_use steps (t + 1)) seen pages (resident held) few pages held 0 (λ q m. m) (starts frames pages (resident held) (λ x. is_in x seen) (first_use steps (t + 1)) k.distinct (omega (arith, long, fits_now))) in
        let come = all_come frames page instrs places t seen step steps sound early known few pages held s (λ q m. m) kept in
        let after = cond (has_result i.op) (written (page_of t) moved.held) moved.held in
        let more = adds_pages frames instrs places sound t i step steps seen here.is here.its early known in
        let one = done t i step steps seen moved.held come.0 here.is here.its more came.has come.2 in
        let rest = walks n (t + 1) (seen ++ pages) after one.0 (omega (arith, all)) more.known_more one.2 in
        let turn : rule_from frames places t seen held (drop t instrs) (drop t trace) ≡ moved.entries ++ entry.Do (job_in moved.held places t i) ∷ rule_from frames places (t + 1) (seen ++ pages) after (drop (t + 1) instrs) steps =
        rule_turns instrs places trace steps_are frames t seen held in_instrs in
        let did : all_done instrs page s (rule_from frames places t seen held (drop t instrs) (drop t trace)) ≡ all_done instrs page one.0 (rule_from frames places (t + 1) (seen ++ pages) after (drop (t + 1) instrs) steps) =
        ap (all_done instrs page s) turn
        ∙ goes_on instrs page moved.entries (entry.Do (job_in moved.held places t i) ∷ rule_from frames places (t + 1) (seen ++ pages) after (drop (t + 1) instrs) steps) s come.0 come.1
        ∙ ap (λ (o : Option State). o >>= (λ a. all_done instrs page a (rule_from frames places (t + 1) (seen ++ pages) after (drop (t + 1) instrs) steps))) one.1 in
        rw did rest

pub rule_carries : RuleCarries
rule_carries frames page instrs places trace sound have fits are steps_are none =
    walks frames page instrs places sound have fits are trace steps_are none (length instrs) 0 [] [] (start frames 0) (omega arith) (λ v less. absurd (omega (arith, less))) (record {
      count = length-replicate frames nothing;
      next = refl;
      distinct = tt;
      fits = omega arith;
      in_frames = λ f less. absurd (omega (arith, less));
      in_store = λ q m. absurd (false≢true m);
    })
