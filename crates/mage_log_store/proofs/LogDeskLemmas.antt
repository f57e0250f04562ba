-- The desk whose stores keep logs: what it tells over the desk in memory.
use Rattle.std.proofs.Common.{◌≡◌, ◌<◌, ◌≤◌, ◌↔◌, ◌∙◌, sym, subst, ap, refl, zero, suc, ℕ, List, [], ◌∷◌, ◌++◌, length, get_or, set, Bool, true, false, IsTrue, Some, Result, Ok, Err, IsErr, is_err, OnOk, OnErr, Contains, arith}
use Rattle.std.specs.Prelude.{◌==◌, if◌then◌else◌}
use Rattle.std.specs.List.{All}
use Rattle.std.proofs.lemmas.List.{get_or-set_same, get_or-set_other, length-set, length-map, map-set}
use Rattle.std.proofs.lemmas.List.Elements.{All-contains, All-head, All-tail, All-cons, All-nil, All-append, All-weaker}
use Rattle.std.proofs.lemmas.Bool.{eq-eqb, eqb-true, eqb-false}
use mathlib.Core.Path.{fun_ext}
use Rattle.mage_base.specs.declared.calls.Calls.{Calls}
use Rattle.mage_base.specs.declared.failure.DeskError.{DeskError}
use Rattle.mage_base.specs.declared.ledger.StoreCounts.{StoreCounts}
use Rattle.mage_base.specs.Calls.{is_listed, after_call, counted}
use Rattle.mage_base.specs.Faults.{count_after, next_count}
use Rattle.mage_base.specs.Desk.{DeskTold, Files, StoreId, Returned, ClosesOut, Lends, is_store, with_file, with_store, after_giving, without_store}
use Rattle.mage_base.specs.Store.{Transfer}
use Rattle.mage_base.specs.Ledger.{LedgerState, returned_in, with_counts}
use Rattle.mage_base.specs.MemDesk.{DeskState, files_of, after_desk_call}
use Rattle.mage_base.specs.MemSink.{SinkState, sink_told}
use Rattle.mage_history.specs.declared.page_history.PageHistory.{PageHistory}
use Rattle.mage_log_store.specs.LogStore.{LogState, log_told}
use Rattle.mage_log_store.specs.LogDesk.{LogDeskState, log_at, logs_of, returned_with, log_desk_told, Covers}

-- ---- a file that is closed

-- what is told of a file that was closed
closed_told : (desk : LogDeskState) (inner : DeskState) (name : List ℕ) (sink : SinkState) (listed : Bool) → is_listed desk.inner.calls ≡ listed → files_of inner ≡ with_file (files_of desk.inner) name (if is_listed desk.inner.calls then [] else sink.taken.bytes) → inner ≡ record desk.inner { files = inner.files; faults = counted (is_listed desk.inner.calls) (count_after desk.inner.faults sink.faults); calls = after_call desk.inner.calls } → log_desk_told (record desk { inner = inner }) ≡ record (log_desk_told desk) { files = Some (with_file (files_of desk.inner) name (if listed then [] else sink.taken.bytes)); faults = counted listed (count_after desk.inner.faults sink.faults) }
closed_told desk inner name sink listed is file after =
    ap (λ (i : DeskState). log_desk_told (record desk { inner = i })) after
    ∙ ap (λ (f : Files). record (log_desk_told desk) { files = Some f; faults = counted (is_listed desk.inner.calls) (count_after desk.inner.faults sink.faults) }) file
    ∙ ap (λ (b : Bool). record (log_desk_told desk) { files = Some (with_file (files_of desk.inner) name (if b then [] else sink.taken.bytes)); faults = counted b (count_after desk.inner.faults sink.faults) }) is

listed_by : {T E : Type 0} (result : Result T E) (calls : Calls) → (IsErr result ↔ IsTrue (is_listed calls)) → is_listed calls ≡ is_err result
listed_by (Ok done) calls failed = go (is_listed calls) refl
  where
    go : (test : Bool) → is_listed calls ≡ test → is_listed calls ≡ false
    go true e = absurd (cc (failed.1 e))
    go false e = e
listed_by (Err error) calls failed = failed.0 refl

pub closes_out : {T E : Type 0} (desk : LogDeskState) (inner : DeskState) (name : List ℕ) (sink : SinkState) (result : Result T E) → (IsErr result ↔ IsTrue (is_listed desk.inner.calls)) → files_of inner ≡ with_file (files_of desk.inner) name (if is_listed desk.inner.calls then [] else sink.taken.bytes) → inner ≡ record desk.inner { files = inner.files; faults = counted (is_listed desk.inner.calls) (count_after desk.inner.faults sink.faults); calls = after_call desk.inner.calls } → ClosesOut (log_desk_told desk) (log_desk_told (record desk { inner = inner })) name (sink_told sink) result
closes_out {T} {E} desk inner name sink (Ok done) failed file after =
    (sink.taken.bytes, refl, closed_told desk inner name sink false (listed_by {T = T} {E = E} (Ok done) desk.inner.calls failed) file after)
closes_out {T} {E} desk inner name sink (Err error) failed file after =
    let told = closed_told desk inner name sink true (listed_by {T = T} {E = E} (Err error) desk.inner.calls failed) file after in
    let faults : (log_desk_told (record desk { inner = inner })).faults ≡ next_count (count_after desk.inner.faults sink.faults) = ap (λ (d : DeskTold). d.faults) told in
    ([], (0, refl), told ∙ ap (λ (n : ℕ). record (log_desk_told desk) { files = Some (with_file (files_of desk.inner) name []); faults = n }) (sym faults), omega (arith, faults))

-- ---- a store that is given back

given_or_kept : (logs : List (List Transfer)) (first : StoreId) (others left : List StoreId) (here : Bool) → first.worker < length logs → Covers logs others → Covers logs left → Covers logs (if here then others else first ∷ left)
given_or_kept logs first others left true has tail rest = tail
given_or_kept logs first others left false has tail rest = All-cons (λ (store : StoreId). store.worker < length logs) first left has rest

without_covered : (logs : List (List Transfer)) (lent : List StoreId) (id : StoreId) → Covers logs lent → Covers logs (without_store lent id)
without_covered logs [] id covers = covers
without_covered logs (first ∷ others) id covers =
    let P = λ (store : StoreId). store.worker < length logs in
    let tail : Covers logs others = All-tail P first others covers in
    given_or_kept logs first others (without_store others id) (is_store first id) (All-head P first others covers) tail (without_covered logs others id tail)

-- the stores that are left have the logs of their workers
pub covers_given : (logs after : List (List Transfer)) (lent left : List StoreId) (id : StoreId) (log : List Transfer) → Covers logs lent → after ≡ set logs id.worker log → left ≡ without_store lent id → Covers after left
covers_given logs after lent left id log covers grown given =
    let same : length after ≡ length logs = ap length grown ∙ length-set logs id.worker log in
    subst (λ (n : ℕ). All (λ (store : StoreId). store.worker < n) left) (sym same) (subst (Covers logs) (sym given) (without_covered logs lent id covers))

log_here : (histories : List PageHistory) (worker : ℕ) (d : PageHistory) → worker < length histories → get_or (logs_of histories) worker [] ≡ (get_or histories worker d).transfers
log_here [] worker d within = absurd (omega arith)
log_here (first ∷ histories) zero d within = refl
log_here (first ∷ histories) (suc worker) d within =
    let rest : worker < length histories = omega arith in
    log_here histories worker d rest

-- a worker's log with another one behind it
pub log_given : (histories : List PageHistory) (worker : ℕ) (was given : PageHistory) (later : List Transfer) → worker < length histories → was ≡ get_or histories worker was → given.transfers ≡ was.transfers ++ later → logs_of (set histories worker given) ≡ set (logs_of histories) worker (get_or (logs_of histories) worker [] ++ later)
log_given histories worker was given later within is grown =
    map-set (λ (history : PageHistory). history.transfers) histories worker given
    ∙ ap (set (logs_of histories) worker) (grown ∙ ap (λ (l : List Transfer). l ++ later) (ap (λ (h : PageHistory). h.transfers) is ∙ sym (log_here histories worker was within)))

at_grown : (histories : List PageHistory) (last : PageHistory) (worker : ℕ) → last.transfers ≡ [] → get_or (logs_of (histories ++ last ∷ [])) worker [] ≡ get_or (logs_of histories) worker []
at_grown [] last zero empty = empty
at_grown [] last (suc worker) empty = refl
at_grown (first ∷ histories) last zero empty = refl
at_grown (first ∷ histories) last (suc worker) empty = at_grown histories last worker empty

-- one more worker, of whose stores none was given back
pub logs_grown : (histories : List PageHistory) (last : PageHistory) → last.transfers ≡ [] → log_at (logs_of (histories ++ last ∷ [])) ≡ log_at (logs_of histories)
logs_grown histories last empty = fun_ext (λ worker. at_grown histories last worker empty)

returned_at : (before after : LedgerState) (logs : List (List Transfer)) (worker : ℕ) (store : LogState) (other : ℕ) → worker < length logs → returned_in after.totals ≡ (λ w. if w == worker then with_counts (returned_in before.totals w) (record { reads = store.reads; writes = store.writes; faults = store.faults }) else returned_in before.totals w) → returned_with after (set logs worker (get_or logs worker [] ++ store.log)) other ≡ (if other == worker then with_store (returned_with before logs other) (log_told store) else returned_with before logs other)
returned_at before after logs worker store other within same = go (other == worker) refl
  where
    counts : StoreCounts
    counts = record { reads = store.reads; writes = store.writes; faults = store.faults }

    longer : List (List Transfer)
    longer = set logs worker (get_or logs worker [] ++ store.log)

    Goal : ℕ → Type 0
    Goal w = returned_with after longer w ≡ (if w == worker then with_store (returned_with before logs w) (log_told store) else returned_with before logs w)

    first : (w : ℕ) (test : Bool) → (w == worker) ≡ test → returned_with after longer w ≡ record (if test then with_counts (returned_in before.totals w) counts else returned_in before.totals w) { log = Some (log_at longer w) }
    first w test e =
        ap (λ (r : Returned). record r { log = Some (log_at longer w) }) (ap (λ (f : ℕ → Returned). f w) same)
        ∙ ap (λ (b : Bool). record (if b then with_counts (returned_in before.totals w) counts else returned_in before.totals w) { log = Some (log_at longer w) }) e

    last : (w : ℕ) (test : Bool) → (w == worker) ≡ test → (if test then with_store (returned_with before logs w) (log_told store) else returned_with before logs w) ≡ (if w == worker then with_store (returned_with before logs w) (log_told store) else returned_with before logs w)
    last w test e = ap (λ (b : Bool). if b then with_store (returned_with before logs w) (log_told store) else returned_with before logs w) (sym e)

    go : (test : Bool) → (other == worker) ≡ test → Goal other
    go true e =
        let here = eq-eqb worker worker refl in
        let at_worker : Goal worker =
        first worker true here
        ∙ ap (λ (l : List Transfer). record (with_counts (returned_in before.totals worker) counts) { log = Some l }) (get_or-set_same logs worker (get_or logs worker [] ++ store.log) [] within)
        ∙ last worker true here in
        subst Goal (sym (eqb-true other worker e)) at_worker
    go false e =
        first other false e
        ∙ ap (λ (l : List Transfer). record (returned_in before.totals other) { log = Some l }) (get_or-set_other logs worker other (get_or logs worker [] ++ store.log) [] (eqb-false other worker e))
        ∙ last other false e

-- what is told after a store was given back
pub given_told : (desk : LogDeskState) (ledger : LedgerState) (logs : List (List Transfer)) (id : StoreId) (store : LogState) → id.worker < length desk.logs → ledger.lent ≡ without_store desk.ledger.lent id → returned_in ledger.totals ≡ (λ w. if w == id.worker then with_counts (returned_in desk.ledger.totals w) (record { reads = store.reads; writes = store.writes; faults = store.faults }) else returned_in desk.ledger.totals w) → logs ≡ set desk.logs id.worker (get_or desk.logs id.worker [] ++ store.log) → log_desk_told (record desk { ledger = ledger; logs = logs }) ≡ after_giving (log_desk_told desk) id (log_told store)
given_told desk ledger logs id store within lent totals grown =
    ap (λ (l : List StoreId). record (log_desk_told desk) { lent = l; returned = returned_with ledger logs }) lent
    ∙ ap (λ (f : ℕ → Returned). record (log_desk_told desk) { lent = without_store desk.ledger.lent id; returned = f })
    (ap (returned_with ledger) grown ∙ fun_ext (λ other. returned_at desk.ledger ledger desk.logs id.worker store other within totals))

-- the workers of stores that are handed out have logs
pub covered : (logs : List (List Transfer)) (lent : List StoreId) (id : StoreId) → Covers logs lent → Contains lent id → id.worker < length logs
covered logs lent id covers lends = All-contains (λ (store : StoreId). store.worker < length logs) lent id covers lends

-- ---- a store that is handed out

covers_longer : (logs after : List (List Transfer)) (lent : List StoreId) → Covers logs lent → length logs ≤ length after → Covers after lent
covers_longer logs after lent covers longer =
    All-weaker (λ (store : StoreId). store.worker < length logs) (λ (store : StoreId). store.worker < length after) (λ store has. omega arith) lent covers

-- the workers of stores that are handed out have logs, where there are more of these and one store more
pub covers_lent : (logs after : List (List Transfer)) (lent : List StoreId) (id : StoreId) → Covers logs lent → length logs ≤ length after → id.worker < length after → Covers after (lent ++ id ∷ [])
covers_lent logs after lent id covers longer has =
    All-append (λ (store : StoreId). store.worker < length after) lent (id ∷ [])
    (covers_longer logs after lent covers longer)
    (All-cons (λ (store : StoreId). store.worker < length after) id [] has (All-nil (λ (store : StoreId). store.worker < length after)))

pub covers_after : {T E : Type 0} (result : Result T E) (logs after : List (List Transfer)) (lent left : List StoreId) (id : StoreId) → OnOk result (left ≡ lent ++ id ∷ []) → OnErr result (left ≡ lent) → length logs ≤ length after → id.worker < length after → Covers logs lent → Covers after left
covers_after (Ok done) logs after lent left id ok err longer has covers = subst (Covers after) (sym ok) (covers_lent logs after lent id covers longer has)
covers_after (Err error) logs after lent left id ok err longer has covers = subst (Covers after) (sym err) (covers_longer logs after lent covers longer)

pub covers_histories : (histories after : List PageHistory) (lent : List StoreId) → length histories ≤ length after → Covers (logs_of histories) lent → Covers (logs_of after) lent
covers_histories histories after lent longer covers =
    covers_longer (logs_of histories) (logs_of after) lent covers (subst (λ (n : ℕ). n ≤ length (logs_of after)) (sym (length-map histories (λ (h : PageHistory). h.transfers))) (subst (λ (n : ℕ). length histories ≤ n) (sym (length-map after (λ (h : PageHistory). h.transfers))) longer))

pub covers_lending : {T E : Type 0} (result : Result T E) (histories after : List PageHistory) (lent left : List StoreId) (id : StoreId) → OnOk result (left ≡ lent ++ id ∷ []) → OnErr result (left ≡ lent) → length histories ≤ length after → id.worker < length after → Covers (logs_of histories) lent → Covers (logs_of after) left
covers_lending result histories after lent left id ok err longer has covers =
    let before = length-map histories (λ (h : PageHistory). h.transfers) in
    let now = length-map after (λ (h : PageHistory). h.transfers) in
    let longer' : length (logs_of histories) ≤ length (logs_of after) = omega (arith, before, now) in
    let has' : id.worker < length (logs_of after) = omega (arith, now) in
    covers_after result (logs_of histories) (logs_of after) lent left id ok err longer' has' covers

-- what is told, where a store was asked for
pub lent_told : (desk : LogDeskState) (inner : DeskState) (ledger : LedgerState) (logs : List (List Transfer)) → inner ≡ record (after_desk_call desk.inner (is_listed desk.inner.calls)) { ledger = inner.ledger } → returned_in ledger.totals ≡ returned_in desk.ledger.totals → log_at logs ≡ log_at desk.logs → log_desk_told (record desk { inner = inner; ledger = ledger; logs = logs }) ≡ record (log_desk_told desk) { faults = inner.faults; lent = ledger.lent }
lent_told desk inner ledger logs after totals same =
    let failed = is_listed desk.inner.calls in
    ap (λ (i : DeskState). log_desk_told (record desk { inner = i; ledger = ledger; logs = logs })) after
    ∙ ap (λ (n : ℕ). record (log_desk_told desk) { faults = n; lent = ledger.lent; returned = returned_with ledger logs }) (sym (ap (λ (i : DeskState). i.faults) after))
    ∙ ap (λ (r : ℕ → Returned). record (log_desk_told desk) { faults = inner.faults; lent = ledger.lent; returned = λ w. record (r w) { log = Some (log_at logs w) } }) totals
    ∙ ap (λ (a : ℕ → List Transfer). record (log_desk_told desk) { faults = inner.faults; lent = ledger.lent; returned = λ w. record (returned_in desk.ledger.totals w) { log = Some (a w) } }) same

pub lends_ok : {T : Type 0} (desk : LogDeskState) (inner : DeskState) (ledger : LedgerState) (logs : List (List Transfer)) (id : StoreId) (store : T) → inner ≡ record (after_desk_call desk.inner (is_listed desk.inner.calls)) { ledger = inner.ledger } → returned_in ledger.totals ≡ returned_in desk.ledger.totals → log_at logs ≡ log_at desk.logs → inner.faults ≡ desk.inner.faults → ledger.lent ≡ desk.ledger.lent ++ id ∷ [] → Lends {T = T} (log_desk_told desk) (log_desk_told (record desk { inner = inner; ledger = ledger; logs = logs })) id (Ok store)
lends_ok desk inner ledger logs id store after totals same faults lent =
    lent_told desk inner ledger logs after totals same
    ∙ ap (λ (n : ℕ). record (log_desk_told desk) { faults = n; lent = ledger.lent }) faults
    ∙ ap (λ (l : List StoreId). record (log_desk_told desk) { lent = l }) lent

pub lends_err : (T : Type 0) (desk : LogDeskState) (inner : DeskState) (ledger : LedgerState) (logs : List (List Transfer)) (id : StoreId) (error : DeskError) → inner ≡ record (after_desk_call desk.inner (is_listed desk.inner.calls)) { ledger = inner.ledger } → returned_in ledger.totals ≡ returned_in desk.ledger.totals → log_at logs ≡ log_at desk.logs → ledger.lent ≡ desk.ledger.lent → Lends {T = T} (log_desk_told desk) (log_desk_told (record desk { inner = inner; ledger = ledger; logs = logs })) id (Err error)
lends_err T desk inner ledger logs id error after totals same lent =
    lent_told desk inner ledger logs after totals same
    ∙ ap (λ (l : List StoreId). record (log_desk_told desk) { faults = inner.faults; lent = l }) lent
