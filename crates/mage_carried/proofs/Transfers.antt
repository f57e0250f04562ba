-- Each directive that moves a page keeps what a worker of the core holds as the walk says it.
use Rattle.std.proofs.Common.{◌≡◌, ◌<◌, ◌*◌, ℕ, zero, suc, Bool, true, false, not, cond, List, [], ◌∷◌, length, get_or, nat_eq, nat_lt, set, Option, Some, None, refl, sym, ap, ◌∙◌, subst, slice_get, arith, ◌&&◌, ◌||◌, unwrap_or, is_some}
use Rattle.std.proofs.lemmas.Bool.{eqb-true, eq-eqb}
use Rattle.std.proofs.lemmas.Bool.Decides.{nat_tests}
use Rattle.std.specs.List.{list_any}
use Rattle.std.proofs.lemmas.Option.{slice_get_within, get_or_from_slice_get}
use Rattle.mage_instr.specs.declared.instr.Instr.{Instr}
use Rattle.mage_network.specs.Network as net
use Rattle.mage_network.proofs.Places.{put_here, put_other}
use Rattle.mage_network.specs.Slots as core
use Rattle.mage_driver.specs.Rules.{Rules, AreLawful}
use Rattle.mage_carry.specs.State as walk
use Rattle.mage_carry.specs.Steps.{◌>>=◌, provided, fresh, issue_in, issue_out, finish_in, finish_out, page_read, read_by, after_write}
use Rattle.mage_carried.proofs.Relation.{frame_in, slot_in, writes, Holds, SlotHolds, Follows, holds_nothing, set_at}

pub provided_so : {A : Type 0} (b : Bool) (x y : A) → provided b x ≡ Some y → (b ≡ true) × (x ≡ y)
provided_so true x y e = (refl, (let s : Some x ≡ Some y = e in cc))
provided_so false x y e = absurd cc

pub both_so : (a b : Bool) → (a && b) ≡ true → (a ≡ true) × (b ≡ true)
both_so true b e = (refl, e)
both_so false b e = absurd cc

not_so : (b : Bool) → not b ≡ true → b ≡ false
not_so true e = absurd cc
not_so false e = refl

true_not : (b : Bool) → b ≡ true → b ≡ false → ⊥
true_not b t f = let e : true ≡ false = sym t ∙ f in absurd cc

-- a slot that may begin is there and idle, and no slot names the page
pub record MayBegin (w : walk.State) (slot page : ℕ) : Type 0 where
  pub within : slot < length w.slots
  pub idle : slot_in w slot ≡ walk.Idle
  pub still : (i : ℕ) → walk.names page (slot_in w i) ≡ false

idle_so : (o : Option walk.Slot) → walk.has walk.is_idle o ≡ true → o ≡ Some walk.Idle
idle_so None e = absurd cc
idle_so (Some walk.Idle) e = refl
idle_so (Some (walk.Reads p)) e = absurd cc
idle_so (Some (walk.Writes p c)) e = absurd cc

neither_so : (a b : Bool) → (a || b) ≡ false → (a ≡ false) × (b ≡ false)
neither_so true b e = absurd cc
neither_so false b e = (refl, e)

none_named : (slots : List walk.Slot) (page i : ℕ) → list_any (walk.names page) slots ≡ false →
    walk.names page (get_or slots i walk.Idle) ≡ false
none_named [] page zero e = refl
none_named [] page (suc i) e = refl
none_named (x ∷ slots) page zero e = (neither_so (walk.names page x) (list_any (walk.names page) slots) e).0
none_named (x ∷ slots) page (suc i) e =
    none_named slots page i (neither_so (walk.names page x) (list_any (walk.names page) slots) e).1

pub may_begin : (w : walk.State) (store slot page : ℕ) → walk.may_issue store slot page w.slots ≡ true → MayBegin w slot page
may_begin w store slot page e =
    let a = both_so (walk.has walk.is_idle (slice_get w.slots slot)) (nat_lt page store && not (list_any (walk.names page) w.slots)) e in
    let b = both_so (nat_lt page store) (not (list_any (walk.names page) w.slots)) a.1 in
    let i = idle_so (slice_get w.slots slot) a.0 in
    record {
      within = slice_get_within w.slots slot walk.Idle i;
      idle = get_or_from_slice_get w.slots slot walk.Idle walk.Idle i;
      still = λ j. none_named w.slots page j (not_so (list_any (walk.names page) w.slots) b.1);
    }

writes_names : (p : ℕ) (x : walk.Slot) → walk.names p x ≡ false → writes p x ≡ false
writes_names p walk.Idle e = refl
writes_names p (walk.Reads q) e = refl
writes_names p (walk.Writes q c) e = e

module _ {W : Type 0} (rules : Rules W) (lawful : AreLawful rules) (page : ℕ) (instrs : List Instr) where
  -- a frame that gets other bytes
  frames_put : (values : List (List W)) (w : walk.State) (bank : ℕ → List ℕ) (frame : ℕ) (bytes : List ℕ) (content : walk.Content) →
      ((f : ℕ) → Holds rules page instrs values (bank f) (frame_in w f)) → frame < length w.frames →
      Holds rules page instrs values bytes content → (f : ℕ) →
      Holds rules page instrs values (net.put bank frame bytes f) (get_or (set w.frames frame content) f walk.nothing)
  frames_put values w bank frame bytes content each within new f =
      subst (Holds rules page instrs values (net.put bank frame bytes f)) (sym (set_at w.frames frame f content walk.nothing within))
      (go (nat_eq frame f))
    where
      go : (b : Bool) → Holds rules page instrs values (cond b bytes (bank f)) (cond b content (frame_in w f))
      go true = new
      go false = each f

  idle_word : (values : List (List W)) (walked : ℕ → Option walk.Content) (pages : ℕ → List ℕ) (word : core.Slot (List ℕ)) →
      SlotHolds rules page instrs values walked pages walk.Idle word → word ≡ core.Idle
  idle_word values walked pages core.Idle h = refl
  idle_word values walked pages _ h = absurd h

  pub follows_fresh : (values : List (List W)) (w after : walk.State) (bank : ℕ → List ℕ) (slots : ℕ → core.Slot (List ℕ))
      (pages : ℕ → List ℕ) (frame : ℕ) (bytes : List ℕ) → fresh frame w ≡ Some after → length bytes ≡ page * rules.wire_bytes →
      Follows rules page instrs values w bank slots pages →
      Follows rules page instrs values after (net.put bank frame bytes) slots pages
  follows_fresh values w after bank slots pages frame bytes e long h =
      let p = provided_so (nat_lt frame (length w.frames)) (walk.with_frame frame walk.nothing w) after e in
      subst (λ a. Follows rules page instrs values a (net.put bank frame bytes) slots pages) p.1 (record {
        frames = frames_put values w bank frame bytes walk.nothing h.frames (let t = p.0 in grind (arith, nat_tests))
            (holds_nothing rules lawful page instrs values bytes long);
        each = h.each;
        stored = h.stored;
        differ = h.differ;
        next = h.next;
      })

  -- one slot gets another word
  slots_put : (P : walk.Slot → core.Slot (List ℕ) → Type 0) (w : walk.State) (slots : ℕ → core.Slot (List ℕ)) (slot : ℕ)
      (x : walk.Slot) (word : core.Slot (List ℕ)) → slot < length w.slots →
      P x word → ((i : ℕ) → nat_eq slot i ≡ false → P (slot_in w i) (slots i)) → (i : ℕ) →
      P (get_or (set w.slots slot x) i walk.Idle) (net.put slots slot word i)
  slots_put P w slots slot x word within one others i =
      subst (λ y. P y (net.put slots slot word i)) (sym (set_at w.slots slot i x walk.Idle within)) (go (nat_eq slot i) refl)
    where
      go : (b : Bool) → nat_eq slot i ≡ b → P (cond b x (slot_in w i)) (cond b word (slots i))
      go true e = one
      go false e = others i e

  -- a fact of a slot that wrote nothing before
  walk_put : (P : walk.Slot → Type 0) (w : walk.State) (slot : ℕ) (x : walk.Slot) → slot < length w.slots →
      ((i : ℕ) → P (get_or (set w.slots slot x) i walk.Idle)) → (i : ℕ) → nat_eq slot i ≡ false → P (slot_in w i)
  walk_put P w slot x within each i e =
      subst P (set_at w.slots slot i x walk.Idle within ∙ ap (λ b. cond b x (slot_in w i)) e) (each i)

  walk_here : (P : walk.Slot → Type 0) (w : walk.State) (slot : ℕ) (x : walk.Slot) → slot < length w.slots →
      ((i : ℕ) → P (get_or (set w.slots slot x) i walk.Idle)) → P x
  walk_here P w slot x within each =
      subst P (set_at w.slots slot slot x walk.Idle within ∙ ap (λ b. cond b x (slot_in w slot)) (eq-eqb slot slot refl)) (each slot)

  -- no slot wrote the page before, where none writes it after and this one didn't
  none_wrote : (w : walk.State) (slot p : ℕ) (x : walk.Slot) → slot < length w.slots → writes p (slot_in w slot) ≡ false →
      ((i : ℕ) → writes p (get_or (set w.slots slot x) i walk.Idle) ≡ false) → (i : ℕ) → writes p (slot_in w i) ≡ false
  none_wrote w slot p x within here each i = go (nat_eq slot i) refl
    where
      go : (b : Bool) → nat_eq slot i ≡ b → writes p (slot_in w i) ≡ false
      go true e = subst (λ j. writes p (slot_in w j) ≡ false) (eqb-true slot i e) here
      go false e = walk_put (λ y. writes p y ≡ false) w slot x within each i e

  -- pages named stay apart where a slot names a page that none named, or none
  names_put : (w : walk.State) (slot : ℕ) (x : walk.Slot) → slot < length w.slots →
      ((i j p : ℕ) → walk.names p (slot_in w i) ≡ true → walk.names p (slot_in w j) ≡ true → i ≡ j) →
      ((i p : ℕ) → walk.names p x ≡ true → walk.names p (slot_in w i) ≡ true → ⊥) →
      (i j p : ℕ) → walk.names p (get_or (set w.slots slot x) i walk.Idle) ≡ true →
      walk.names p (get_or (set w.slots slot x) j walk.Idle) ≡ true → i ≡ j
  names_put w slot x within differ alone i j p h k =
      go (nat_eq slot i) (nat_eq slot j) refl refl
      (subst (λ y. walk.names p y ≡ true) (set_at w.slots slot i x walk.Idle within) h)
      (subst (λ y. walk.names p y ≡ true) (set_at w.slots slot j x walk.Idle within) k)
    where
      go : (a b : Bool) → nat_eq slot i ≡ a → nat_eq slot j ≡ b → walk.names p (cond a x (slot_in w i)) ≡ true →
          walk.names p (cond b x (slot_in w j)) ≡ true → i ≡ j
      go true true e e' h' k' = sym (eqb-true slot i e) ∙ eqb-true slot j e'
      go true false e e' h' k' = absurd (alone j p h' k')
      go false true e e' h' k' = absurd (alone i p k' h')
      go false false e e' h' k' = differ i j p h' k'

  page_named : (p q : ℕ) → nat_eq p q ≡ true → p ≡ q
  page_named p q e = eqb-true p q e

  pub follows_issue_in : (values : List (List W)) (w after : walk.State) (bank : ℕ → List ℕ) (slots : ℕ → core.Slot (List ℕ))
      (pages : ℕ → List ℕ) (store slot p : ℕ) → issue_in store slot p w ≡ Some after →
      Follows rules page instrs values w bank slots pages →
      (slots slot ≡ core.Idle) × Follows rules page instrs values after bank
      (net.put slots slot (core.Served (core.Reads p) (pages p))) pages
  follows_issue_in values w after bank slots pages store slot p e h =
      let q = provided_so (walk.may_issue store slot p w.slots && is_some (w.pages p)) (walk.with_slot slot (walk.Reads p) w) after e in
      let b = both_so (walk.may_issue store slot p w.slots) (is_some (w.pages p)) q.0 in
      let may = may_begin w store slot p b.0 in (
        idle_word values w.pages pages (slots slot)
            (subst (λ x. SlotHolds rules page instrs values w.pages pages x (slots slot)) may.idle (h.each slot)),
        subst (λ a. Follows rules page instrs values a bank (net.put slots slot (core.Served (core.Reads p) (pages p))) pages) q.1
            (record {
              frames = h.frames;
              each = slots_put (SlotHolds rules page instrs values w.pages pages) w slots slot (walk.Reads p)
                  (core.Served (core.Reads p) (pages p)) may.within (refl, found (w.pages p) refl b.1 may)
                  (λ i e'. h.each i);
              stored = λ r content e' none. h.stored r content e'
                  (none_wrote w slot r (walk.Reads p) may.within (ap (writes r) may.idle) none);
              differ = names_put w slot (walk.Reads p) may.within h.differ
                  (λ i r n m. true_not (walk.names p (slot_in w i))
                  (subst (λ t. walk.names t (slot_in w i) ≡ true) (page_named r p n) m) (may.still i));
              next = h.next;
            }),
      )
    where
      found : (o : Option walk.Content) → w.pages p ≡ o → is_some (w.pages p) ≡ true → MayBegin w slot p →
          (content : walk.Content) × (w.pages p ≡ Some content) × Holds rules page instrs values (pages p) content
      found None e' some may = absurd (let t : is_some (w.pages p) ≡ false = ap is_some e' in true_not (is_some (w.pages p)) some t)
      found (Some content) e' some may =
          (content, e', h.stored p content e' (λ i. writes_names p (slot_in w i) (may.still i)))

  -- a page that a slot writes has what the slot sent, whatever page gets other bytes that no slot names
  slot_apart : (values : List (List W)) (walked : ℕ → Option walk.Content) (pages : ℕ → List ℕ) (p : ℕ) (bytes : List ℕ)
      (x : walk.Slot) (word : core.Slot (List ℕ)) → walk.names p x ≡ false →
      SlotHolds rules page instrs values walked pages x word →
      SlotHolds rules page instrs values walked (net.put pages p bytes) x word
  slot_apart values walked pages p bytes walk.Idle core.Idle e h = tt
  slot_apart values walked pages p bytes (walk.Reads q) (core.Served (core.Reads r) b) e h = h
  slot_apart values walked pages p bytes (walk.Writes q content) (core.Served (core.Writes r sent) b) e h =
      (h.0, put_other pages p bytes q e ∙ h.1, h.2)
  slot_apart values walked pages p bytes _ _ e h = absurd h

  pub follows_issue_out : (values : List (List W)) (w after : walk.State) (bank : ℕ → List ℕ) (slots : ℕ → core.Slot (List ℕ))
      (pages : ℕ → List ℕ) (store slot frame p : ℕ) → issue_out store slot frame p w ≡ Some after →
      Follows rules page instrs values w bank slots pages →
      (slots slot ≡ core.Idle) × Follows rules page instrs values after bank
      (net.put slots slot (core.Served (core.Writes p (bank frame)) (bank frame))) (net.put pages p (bank frame))
  follows_issue_out values w after bank slots pages store slot frame p e h = go (slice_get w.frames frame) refl e
    where
      stored_after : (content : walk.Content) → MayBegin w slot p → (r : ℕ) (other : walk.Content) → w.pages r ≡ Some other →
          ((i : ℕ) → writes r (get_or (set w.slots slot (walk.Writes p content)) i walk.Idle) ≡ false) →
          Holds rules page instrs values (net.put pages p (bank frame) r) other
      stored_after content may r other e' none =
          subst (λ bytes. Holds rules page instrs values bytes other)
          (sym (put_other pages p (bank frame) r
          (flipped (walk_here (λ y. writes r y ≡ false) w slot (walk.Writes p content) may.within none))))
          (h.stored r other e' (none_wrote w slot r (walk.Writes p content) may.within (ap (writes r) may.idle) none))
        where
          flipped : nat_eq r p ≡ false → nat_eq p r ≡ false
          flipped f = grind (arith, nat_tests)

      go : (o : Option walk.Content) → slice_get w.frames frame ≡ o →
          (o >>= (λ content. provided (walk.may_issue store slot p w.slots)
          (walk.with_slot slot (walk.Writes p content) w))) ≡ Some after →
          (slots slot ≡ core.Idle) × Follows rules page instrs values after bank
          (net.put slots slot (core.Served (core.Writes p (bank frame)) (bank frame))) (net.put pages p (bank frame))
      go None e' f = absurd cc
      go (Some content) e' f =
          let q = provided_so (walk.may_issue store slot p w.slots) (walk.with_slot slot (walk.Writes p content) w) after f in
          let may = may_begin w store slot p q.0 in (
            idle_word values w.pages pages (slots slot)
                (subst (λ x. SlotHolds rules page instrs values w.pages pages x (slots slot)) may.idle (h.each slot)),
            subst (λ a. Follows rules page instrs values a bank
                (net.put slots slot (core.Served (core.Writes p (bank frame)) (bank frame))) (net.put pages p (bank frame))) q.1
                (record {
                  frames = h.frames;
                  each = slots_put (SlotHolds rules page instrs values w.pages (net.put pages p (bank frame))) w slots slot
                      (walk.Writes p content) (core.Served (core.Writes p (bank frame)) (bank frame)) may.within (
                        refl,
                        put_here pages p (bank frame),
                        subst (Holds rules page instrs values (bank frame))
                            (get_or_from_slice_get w.frames frame content walk.nothing e') (h.frames frame),
                      )
                      (λ i a. slot_apart values w.pages pages p (bank frame) (slot_in w i) (slots i) (may.still i) (h.each i));
                  stored = stored_after content may;
                  differ = names_put w slot (walk.Writes p content) may.within h.differ
                      (λ i r n m. true_not (walk.names p (slot_in w i))
                      (subst (λ t. walk.names t (slot_in w i) ≡ true) (page_named r p n) m) (may.still i));
                  next = h.next;
                }),
          )

  -- what a slot that reads has brought
  pub record Brought (values : List (List W)) (w : walk.State) (slot p : ℕ) (word : core.Slot (List ℕ)) : Type 0 where
    pub bytes : List ℕ
    pub served : word ≡ core.Served (core.Reads p) bytes
    pub content : walk.Content
    pub walked : w.pages p ≡ Some content
    pub holds : Holds rules page instrs values bytes content

  brought : (values : List (List W)) (w : walk.State) (pages : ℕ → List ℕ) (slot p : ℕ) (word : core.Slot (List ℕ)) →
      SlotHolds rules page instrs values w.pages pages (walk.Reads p) word → Brought values w slot p word
  brought values w pages slot p (core.Served (core.Reads q) bytes) h = record {
    bytes = bytes;
    served = ap (λ r. core.Served (core.Reads r) bytes) (sym h.0);
    content = h.1.0;
    walked = h.1.1;
    holds = h.1.2;
  }
  brought values w pages slot p _ h = absurd h

  pub read_so : (o : Option walk.Slot) (p : ℕ) → (elim o [ None ↦ None | Some x ↦ read_by x ]) ≡ Some p → o ≡ Some (walk.Reads p)
  read_so None p e = absurd cc
  read_so (Some walk.Idle) p e = absurd cc
  read_so (Some (walk.Reads q)) p e = (let s : Some q ≡ Some p = e in ap (λ r. Some (walk.Reads r)) (let t : q ≡ p = cc in t))
  read_so (Some (walk.Writes q c)) p e = absurd cc

  -- a slot names no page in the end
  names_idle : (w : walk.State) (slot : ℕ) → slot < length w.slots →
      ((i j p : ℕ) → walk.names p (slot_in w i) ≡ true → walk.names p (slot_in w j) ≡ true → i ≡ j) →
      (i j p : ℕ) → walk.names p (get_or (set w.slots slot walk.Idle) i walk.Idle) ≡ true →
      walk.names p (get_or (set w.slots slot walk.Idle) j walk.Idle) ≡ true → i ≡ j
  names_idle w slot within differ = names_put w slot walk.Idle within differ (λ i r n m. absurd cc)

  -- the walk's end of a read
  pub record ReadEnds (values : List (List W)) (w after : walk.State) (bank : ℕ → List ℕ) (slots : ℕ → core.Slot (List ℕ))
      (pages : ℕ → List ℕ) (slot frame : ℕ) : Type 0 where
    pub p : ℕ
    pub bytes : List ℕ
    pub served : slots slot ≡ core.Served (core.Reads p) bytes
    pub follows : Follows rules page instrs values after (net.put bank frame bytes) (net.put slots slot core.Idle) pages

  pub follows_finish_in : (values : List (List W)) (w after : walk.State) (bank : ℕ → List ℕ) (slots : ℕ → core.Slot (List ℕ))
      (pages : ℕ → List ℕ) (slot frame : ℕ) → finish_in slot frame w ≡ Some after →
      Follows rules page instrs values w bank slots pages → ReadEnds values w after bank slots pages slot frame
  follows_finish_in values w after bank slots pages slot frame e h = go (page_read slot w.slots) refl e
    where
      go : (o : Option ℕ) → page_read slot w.slots ≡ o →
          (o >>= (λ p. provided (nat_lt frame (length w.frames))
          (walk.with_slot slot walk.Idle (walk.with_frame frame (unwrap_or (w.pages p) walk.nothing) w)))) ≡ Some after →
          ReadEnds values w after bank slots pages slot frame
      go None e' f = absurd cc
      go (Some p) e' f =
          let q = provided_so (nat_lt frame (length w.frames))
          (walk.with_slot slot walk.Idle (walk.with_frame frame (unwrap_or (w.pages p) walk.nothing) w)) after f in
          let r = read_so (slice_get w.slots slot) p e' in
          let within = slice_get_within w.slots slot (walk.Reads p) r in
          let reads : slot_in w slot ≡ walk.Reads p = get_or_from_slice_get w.slots slot (walk.Reads p) walk.Idle r in
          let b = brought values w pages slot p (slots slot)
          (subst (λ x. SlotHolds rules page instrs values w.pages pages x (slots slot)) reads (h.each slot)) in
          record {
            p = p;
            bytes = b.bytes;
            served = b.served;
            follows = subst (λ a. Follows rules page instrs values a (net.put bank frame b.bytes) (net.put slots slot core.Idle) pages) q.1
                (record {
                  frames = frames_put values w bank frame b.bytes (unwrap_or (w.pages p) walk.nothing) h.frames
                      (let t = q.0 in grind (arith, nat_tests))
                      (subst (λ o. Holds rules page instrs values b.bytes (unwrap_or o walk.nothing)) (sym b.walked) b.holds);
                  each = slots_put (SlotHolds rules page instrs values w.pages pages) w slots slot walk.Idle core.Idle within tt
                      (λ i a. h.each i);
                  stored = λ s content e'' none. h.stored s content e''
                      (none_wrote w slot s walk.Idle within (ap (writes s) reads) none);
                  differ = names_idle w slot within h.differ;
                  next = h.next;
                });
          }

  -- what a slot that writes has sent
  pub record Sent (values : List (List W)) (pages : ℕ → List ℕ) (p : ℕ) (content : walk.Content) (word : core.Slot (List ℕ)) : Type 0 where
    pub bytes : List ℕ
    pub same : List ℕ
    pub served : word ≡ core.Served (core.Writes p bytes) same
    pub holds : Holds rules page instrs values (pages p) content

  sent : (values : List (List W)) (walked : ℕ → Option walk.Content) (pages : ℕ → List ℕ) (p : ℕ) (content : walk.Content)
      (word : core.Slot (List ℕ)) → SlotHolds rules page instrs values walked pages (walk.Writes p content) word →
      Sent values pages p content word
  sent values walked pages p content (core.Served (core.Writes q bytes) same) h = record {
    bytes = bytes;
    same = same;
    served = ap (λ r. core.Served (core.Writes r bytes) same) (sym h.0);
    holds = subst (λ b. Holds rules page instrs values b content) (sym h.1) h.2;
  }
  sent values walked pages p content _ h = absurd h

  pub record WriteEnds (values : List (List W)) (after : walk.State) (bank : ℕ → List ℕ) (slots : ℕ → core.Slot (List ℕ))
      (pages : ℕ → List ℕ) (slot : ℕ) : Type 0 where
    pub p : ℕ
    pub bytes : List ℕ
    pub same : List ℕ
    pub served : slots slot ≡ core.Served (core.Writes p bytes) same
    pub follows : Follows rules page instrs values after bank (net.put slots slot core.Idle) pages

  -- a page that is read has what it had, whatever another page got
  slot_unread : (values : List (List W)) (walked : ℕ → Option walk.Content) (pages : ℕ → List ℕ) (p : ℕ) (content : walk.Content)
      (x : walk.Slot) (word : core.Slot (List ℕ)) → walk.names p x ≡ false →
      SlotHolds rules page instrs values walked pages x word →
      SlotHolds rules page instrs values (walk.got p content walked) pages x word
  slot_unread values walked pages p content walk.Idle core.Idle e h = tt
  slot_unread values walked pages p content (walk.Reads q) (core.Served (core.Reads r) b) e h =
      (h.0, (h.1.0, ap (λ t. cond t (Some content) (walked q)) e ∙ h.1.1, h.1.2))
  slot_unread values walked pages p content (walk.Writes q c) (core.Served (core.Writes r s) b) e h = h
  slot_unread values walked pages p content _ _ e h = absurd h

  pub follows_finish_out : (values : List (List W)) (w after : walk.State) (bank : ℕ → List ℕ) (slots : ℕ → core.Slot (List ℕ))
      (pages : ℕ → List ℕ) (slot : ℕ) → finish_out slot w ≡ Some after →
      Follows rules page instrs values w bank slots pages → WriteEnds values after bank slots pages slot
  follows_finish_out values w after bank slots pages slot e h = go (slice_get w.slots slot) refl e
    where
      named : (p : ℕ) (content : walk.Content) → slot_in w slot ≡ walk.Writes p content → (i : ℕ) → nat_eq slot i ≡ false →
          walk.names p (slot_in w i) ≡ false
      named p content e' i a = go' (walk.names p (slot_in w i)) refl
        where
          go' : (t : Bool) → walk.names p (slot_in w i) ≡ t → walk.names p (slot_in w i) ≡ false
          go' true f = absurd (true_not (nat_eq slot i)
              (eq-eqb slot i (h.differ slot i p (ap (walk.names p) e' ∙ eq-eqb p p refl) f)) a)
          go' false f = f

      stored_after : (p : ℕ) (content : walk.Content) → slot_in w slot ≡ walk.Writes p content → slot < length w.slots →
          Holds rules page instrs values (pages p) content →
          (r : ℕ) (other : walk.Content) → walk.got p content w.pages r ≡ Some other →
          ((i : ℕ) → writes r (get_or (set w.slots slot walk.Idle) i walk.Idle) ≡ false) →
          Holds rules page instrs values (pages r) other
      stored_after p content e' within held r other f none = go' (nat_eq p r) refl f
        where
          go' : (t : Bool) → nat_eq p r ≡ t → cond t (Some content) (w.pages r) ≡ Some other →
              Holds rules page instrs values (pages r) other
          go' true a g = subst (Holds rules page instrs values (pages r)) (let s : Some content ≡ Some other = g in (let t : content ≡ other = cc in t))
              (subst (λ q. Holds rules page instrs values (pages q) content) (eqb-true p r a) held)
          go' false a g = h.stored r other g
              (none_wrote w slot r walk.Idle within (ap (writes r) e' ∙ (let t : nat_eq r p ≡ false = grind (arith, nat_tests) in t)) none)

      go : (o : Option walk.Slot) → slice_get w.slots slot ≡ o → (o >>= (λ x. after_write slot x w)) ≡ Some after →
          WriteEnds values after bank slots pages slot
      go None e' f = absurd cc
      go (Some walk.Idle) e' f = absurd cc
      go (Some (walk.Reads p)) e' f = absurd cc
      go (Some (walk.Writes p content)) e' f =
          let within = slice_get_within w.slots slot (walk.Writes p content) e' in
          let is : slot_in w slot ≡ walk.Writes p content = get_or_from_slice_get w.slots slot (walk.Writes p content) walk.Idle e' in
          let s = sent values w.pages pages p content (slots slot)
          (subst (λ x. SlotHolds rules page instrs values w.pages pages x (slots slot)) is (h.each slot)) in
          record {
            p = p;
            bytes = s.bytes;
            same = s.same;
            served = s.served;
            follows = subst (λ a. Follows rules page instrs values a bank (net.put slots slot core.Idle) pages)
                (let q : Some (walk.with_slot slot walk.Idle (walk.with_page p content w)) ≡ Some after = f in (let t : walk.with_slot slot walk.Idle (walk.with_page p content w) ≡ after = cc in t))
                (record {
                  frames = h.frames;
                  each = slots_put (SlotHolds rules page instrs values (walk.got p content w.pages) pages) w slots slot walk.Idle
                      core.Idle within tt
                      (λ i a. slot_unread values w.pages pages p content (slot_in w i) (slots i) (named p content is i a) (h.each i));
                  stored = stored_after p content is within s.holds;
                  differ = names_idle w slot within h.differ;
                  next = h.next;
                });
          }
