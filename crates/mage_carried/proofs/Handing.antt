-- A Send and its Recv: one worker hands its wires to another, which has them then.
use Rattle.std.proofs.Common.{◌≡◌, ◌≤◌, ◌<◌, ◌+◌, ◌-◌, ◌*◌, ℕ, suc, Bool, true, false, cond, List, [], ◌∷◌, ◌++◌, length, take, nat_eq, refl, sym, ap, ◌∙◌, subst, arith, append_assoc, replicate, ◌&&◌}
use Rattle.std.proofs.lemmas.Bool.{eqb-true, eq-eqb}
use Rattle.std.proofs.lemmas.Bool.Decides.{nat_tests}
use Rattle.std.proofs.lemmas.List.{length-append}
use Rattle.std.proofs.lemmas.List.Concat.{flat_map-append}
use Rattle.std.proofs.Math.Seq.{take-append_seam}
use Rattle.std.specs.List.{flat_map}
use mathlib.Core.Path.{fun_ext}
use Rattle.mage_instr.specs.declared.directive.MemProgram.{MemProgram}
use Rattle.mage_instr.specs.declared.replaced.Spot.{Spot}
use Rattle.mage_network.specs.Workers.{Sends, Takes, Sent, Took, Worker, said_in, doing as doing_on}
use Rattle.mage_network.specs.Network as net
use Rattle.mage_network.specs.Together.{Hands, joint, hands}
use Rattle.mage_driver.specs.Rules.{Rules, AreLawful}
use Rattle.mage_driver.specs.Calls.{Call}
use Rattle.mage_steps.specs.Frames.{link_bytes, with_piece, spot_of_wire, with_wires, sent_form, received_form}
use Rattle.mage_steps.specs.Engines.{Engine, advanced, past_wire}
use Rattle.mage_steps.specs.Core.{Core, core_act}
use Rattle.mage_steps.proofs.Written.{piece_none, piece_more}
use Rattle.mage_carried.specs.Wires.{AreWires}
use Rattle.mage_carried.proofs.Reading.{packed_long}
use Rattle.mage_carried.proofs.Joining.{Leads}

module _ {W : Type 0} (rules : Rules W) (lawful : AreLawful rules) where
  -- no wires change nothing
  pub wires_none : (bank : ℕ → List ℕ) (spot : Spot) → with_wires rules bank spot [] ≡ bank
  wires_none bank spot = fun_ext (λ f. go f (nat_eq spot.frame f) refl)
    where
      go : (f : ℕ) (b : Bool) → nat_eq spot.frame f ≡ b →
          cond b (with_piece (bank spot.frame) (spot.offset * rules.wire_bytes) []) (bank f) ≡ bank f
      go f true e = piece_none (bank spot.frame) (spot.offset * rules.wire_bytes) ∙ ap bank (eqb-true spot.frame f e)
      go f false e = refl

  -- one wire more
  pub wires_more : (bank : ℕ → List ℕ) (spot : Spot) (done : List W) (x : W) → AreWires rules done →
      spot.offset * rules.wire_bytes + length done * rules.wire_bytes ≤ length (bank spot.frame) →
      with_wires rules (with_wires rules bank spot done) (spot_of_wire spot (length done)) (x ∷ []) ≡
      with_wires rules bank spot (done ++ x ∷ [])
  wires_more bank spot done x are fits = fun_ext (λ f. go f (nat_eq spot.frame f) refl)
    where
      size : length (flat_map rules.pack done) ≡ length done * rules.wire_bytes
      size = packed_long rules lawful done are

      here : with_wires rules bank spot done spot.frame ≡
          with_piece (bank spot.frame) (spot.offset * rules.wire_bytes) (flat_map rules.pack done)
      here = ap (λ b. cond b (with_piece (bank spot.frame) (spot.offset * rules.wire_bytes) (flat_map rules.pack done)) (bank spot.frame))
          (eq-eqb spot.frame spot.frame refl)

      one : with_piece (with_wires rules bank spot done spot.frame) ((spot.offset + length done) * rules.wire_bytes)
          (flat_map rules.pack (x ∷ [])) ≡
          with_piece (bank spot.frame) (spot.offset * rules.wire_bytes) (flat_map rules.pack (done ++ x ∷ []))
      one =
          ap (λ l. with_piece l ((spot.offset + length done) * rules.wire_bytes) (flat_map rules.pack (x ∷ []))) here
          ∙ ap (λ n. with_piece (with_piece (bank spot.frame) (spot.offset * rules.wire_bytes) (flat_map rules.pack done)) n
          (flat_map rules.pack (x ∷ [])))
          (let e : (spot.offset + length done) * rules.wire_bytes ≡ spot.offset * rules.wire_bytes + length done * rules.wire_bytes =
          omega arith in e ∙ ap (λ n. spot.offset * rules.wire_bytes + n) (sym size))
          ∙ piece_more (bank spot.frame) (spot.offset * rules.wire_bytes) (flat_map rules.pack done) (flat_map rules.pack (x ∷ []))
          (let s = size in omega arith)
          ∙ ap (with_piece (bank spot.frame) (spot.offset * rules.wire_bytes)) (sym (flat_map-append rules.pack done (x ∷ [])))

      go : (f : ℕ) (b : Bool) → nat_eq spot.frame f ≡ b →
          cond b (with_piece (with_wires rules bank spot done spot.frame) ((spot.offset + length done) * rules.wire_bytes)
          (flat_map rules.pack (x ∷ [])))
          (cond b (with_piece (bank spot.frame) (spot.offset * rules.wire_bytes) (flat_map rules.pack done)) (bank f)) ≡
          cond b (with_piece (bank spot.frame) (spot.offset * rules.wire_bytes) (flat_map rules.pack (done ++ x ∷ []))) (bank f)
      go f true e = one
      go f false e = refl

  -- what was sent is received
  pub received_sent : (x : W) → rules.IsWire x → received_form rules (sent_form rules x) ≡ x
  received_sent x is =
      ap (λ n. rules.unpack (take n (rules.pack x ++ replicate (link_bytes - rules.wire_bytes) 0))) (sym (lawful.packed x is))
      ∙ ap rules.unpack (take-append_seam (rules.pack x) (replicate (link_bytes - rules.wire_bytes) 0))
      ∙ lawful.unpacked x is

module _ {W : Type 0} (rules : Rules W) (lawful : AreLawful rules) (fine : rules.State → Bool) (plan : MemProgram) where
  abbrev Core' : Type 0
  Core' = Core rules plan

  abbrev Workers' : Type 0
  Workers' = ℕ → Worker (Core rules plan) (Call rules.State W) (List ℕ)

  -- two workers in the middle of a transfer, and all others as they were
  pub record Between (a b : ℕ) (sa sb : Core') (ca cb : List (Call rules.State W)) (others ws : Workers') : Type 0 where
    pub sender : (ws a).state ≡ sa
    pub sender_said : said_in (ws a).past ≡ ca
    pub receiver : (ws b).state ≡ sb
    pub receiver_said : said_in (ws b).past ≡ cb
    pub other : (m : ℕ) → nat_eq a m ≡ false → nat_eq b m ≡ false → ws m ≡ others m

  hands_so : (a b : ℕ) (x : List ℕ) (sa : Core') (tb : List ℕ → Core') (ws : Workers') →
      core_act rules plan a (ws a).state ≡ Sends b x sa → core_act rules plan b (ws b).state ≡ Takes a tb →
      joint (core_act rules plan) (Hands a b) ws ≡
      net.put (net.put ws a (doing_on (ws a) (Sent b x) sa)) b (doing_on (ws b) (Took a x) (tb x))
  hands_so a b x sa tb ws e f =
      ap (λ y. hands a b y (core_act rules plan b (ws b).state) ws) e
      ∙ ap (λ y. hands {S = Core'} {L = Call rules.State W} a b (Sends b x sa) y ws) f
      ∙ ap (λ t. cond (t && nat_eq a a) (net.put (net.put ws a (doing_on (ws a) (Sent b x) sa)) b (doing_on (ws b) (Took a x) (tb x))) ws)
      (eq-eqb b b refl)
      ∙ ap (λ t. cond t (net.put (net.put ws a (doing_on (ws a) (Sent b x) sa)) b (doing_on (ws b) (Took a x) (tb x))) ws)
      (eq-eqb a a refl)

  -- one wire goes over
  hand_one : (a b : ℕ) (x : List ℕ) (sa sb sa' : Core') (tb : List ℕ → Core') (ca cb : List (Call rules.State W)) (others ws : Workers') →
      nat_eq b a ≡ false → Between a b sa sb ca cb others ws → core_act rules plan a sa ≡ Sends b x sa' →
      core_act rules plan b sb ≡ Takes a tb → Between a b sa' (tb x) ca cb others (joint (core_act rules plan) (Hands a b) ws)
  hand_one a b x sa sb sa' tb ca cb others ws apart h e f =
      subst (Between a b sa' (tb x) ca cb others)
      (sym (hands_so a b x sa' tb ws (ap (core_act rules plan a) h.sender ∙ e) (ap (core_act rules plan b) h.receiver ∙ f)))
      (record {
        sender = ap (λ (w : Worker Core' (Call rules.State W) (List ℕ)). w.state) at_a;
        sender_said = ap (λ (w : Worker Core' (Call rules.State W) (List ℕ)). said_in w.past) at_a ∙ h.sender_said;
        receiver = ap (λ (w : Worker Core' (Call rules.State W) (List ℕ)). w.state) at_b;
        receiver_said = ap (λ (w : Worker Core' (Call rules.State W) (List ℕ)). said_in w.past) at_b ∙ h.receiver_said;
        other = λ m na nb.
            ap (λ t. cond t (doing_on (ws b) (Took a x) (tb x)) (net.put ws a (doing_on (ws a) (Sent b x) sa') m)) nb
            ∙ ap (λ t. cond t (doing_on (ws a) (Sent b x) sa') (ws m)) na ∙ h.other m na nb;
      })
    where
      at_b : net.put (net.put ws a (doing_on (ws a) (Sent b x) sa')) b (doing_on (ws b) (Took a x) (tb x)) b ≡
          doing_on (ws b) (Took a x) (tb x)
      at_b = ap (λ t. cond t (doing_on (ws b) (Took a x) (tb x)) (net.put ws a (doing_on (ws a) (Sent b x) sa') b)) (eq-eqb b b refl)

      at_a : net.put (net.put ws a (doing_on (ws a) (Sent b x) sa')) b (doing_on (ws b) (Took a x) (tb x)) a ≡
          doing_on (ws a) (Sent b x) sa'
      at_a = ap (λ t. cond t (doing_on (ws b) (Took a x) (tb x)) (net.put ws a (doing_on (ws a) (Sent b x) sa') a)) apart
          ∙ ap (λ t. cond t (doing_on (ws a) (Sent b x) sa') (ws a)) (eq-eqb a a refl)

  -- a sender that has sent some wires, and a receiver that has these
  abbrev pub sent_some : Core' → (k : ℕ) → Core'
  sent_some c k = record c { engine = record c.engine { wire = k } }

  abbrev pub got_some : Core' → Spot → List W → Core'
  got_some c out done = record c { engine = record c.engine { wire = length done; bank = with_wires rules c.engine.bank out done } }

  abbrev pub sent_all : Core' → Core'
  sent_all c = record c { engine = advanced c.engine }

  abbrev pub got_all : Core' → Spot → List W → Core'
  got_all c out wires = record c { engine = advanced (record c.engine { bank = with_wires rules c.engine.bank out wires }) }

  -- what a sender and a receiver have to know of their next directive
  pub record Sending (a b width : ℕ) (wires : List W) (ca : Core') : Type 0 where
    pub sends : (done more : List W) (x : W) → wires ≡ done ++ x ∷ more →
        core_act rules plan a (sent_some ca (length done)) ≡
        Sends b (sent_form rules x) (record ca { engine = past_wire width (record ca.engine { wire = length done }) })

  pub record Taking (a b width : ℕ) (out : Spot) (cb : Core') : Type 0 where
    pub takes : (done : List W) → core_act rules plan b (got_some cb out done) ≡
        Takes a (λ bytes. record cb {
          engine = past_wire width (record cb.engine {
            wire = length done;
            bank = with_wires rules (with_wires rules cb.engine.bank out done) (spot_of_wire out (length done)) (received_form rules bytes ∷ []);
          });
        })
    pub room : out.offset * rules.wire_bytes + width * rules.wire_bytes ≤ length (cb.engine.bank out.frame)

  past_some : (width : ℕ) (engine : Engine rules.State) → suc engine.wire < width →
      past_wire width engine ≡ record engine { wire = suc engine.wire }
  past_some width engine h = ap (λ t. cond t (advanced engine) (record engine { wire = suc engine.wire }))
      (let e : nat_eq (suc engine.wire) width ≡ false = grind (arith, nat_tests) in e)

  past_last : (width : ℕ) (engine : Engine rules.State) → suc engine.wire ≡ width → past_wire width engine ≡ advanced engine
  past_last width engine h = ap (λ t. cond t (advanced engine) (record engine { wire = suc engine.wire })) (eq-eqb (suc engine.wire) width h)

  pub wires_front : (done more : List W) (x : W) → AreWires rules (done ++ x ∷ more) → AreWires rules done × rules.IsWire x
  wires_front [] more x are = (tt, are.0)
  wires_front (y ∷ done) more x are = let h = wires_front done more x are.1 in ((are.0, h.0), h.1)

  front_long : (done more : List W) (x : W) (wires : List W) → wires ≡ done ++ x ∷ more →
      length wires ≡ length done + (length more + 1)
  front_long done more x wires e = ap length e ∙ length-append done (x ∷ more)
      ∙ ap (λ n. length done + n) (let f : suc (length more) ≡ length more + 1 = omega arith in f)

  -- the receiver with one wire more
  received_more : (width : ℕ) (out : Spot) (cb : Core') (done more : List W) (x : W) (wires : List W) → AreWires rules wires →
      wires ≡ done ++ x ∷ more → length wires ≡ width →
      out.offset * rules.wire_bytes + width * rules.wire_bytes ≤ length (cb.engine.bank out.frame) →
      with_wires rules (with_wires rules cb.engine.bank out done) (spot_of_wire out (length done))
      (received_form rules (sent_form rules x) ∷ []) ≡ with_wires rules cb.engine.bank out (done ++ x ∷ [])
  received_more width out cb done more x wires are e long room =
      let parts = wires_front done more x (subst (AreWires rules) e are) in
      ap (λ y. with_wires rules (with_wires rules cb.engine.bank out done) (spot_of_wire out (length done)) (y ∷ []))
      (received_sent rules lawful x parts.1)
      ∙ wires_more rules lawful cb.engine.bank out done x parts.0
      (let l = sym long ∙ front_long done more x wires e in
      let t : width * rules.wire_bytes ≡ length done * rules.wire_bytes + (length more + 1) * rules.wire_bytes =
      ap (λ n. n * rules.wire_bytes) l ∙ (let u : (length done + (length more + 1)) * rules.wire_bytes ≡
      length done * rules.wire_bytes + (length more + 1) * rules.wire_bytes = omega arith in u) in
      omega arith)

  pub hand_all : (a b width : ℕ) (out : Spot) (wires : List W) (ca cb : Core') (da db : List (Call rules.State W)) (others : Workers') →
      nat_eq b a ≡ false → Sending a b width wires ca → Taking a b width out cb → AreWires rules wires → length wires ≡ width →
      (more done : List W) (x : W) (ws : Workers') → wires ≡ done ++ x ∷ more →
      Between a b (sent_some ca (length done)) (got_some cb out done) da db others ws →
      Leads (core_act rules plan) (Between a b (sent_all ca) (got_all cb out wires) da db others) ws
  hand_all a b width out wires ca cb da db others apart sending taking are long [] done x ws e h =
      let l : suc (length done) ≡ width =
      (let f : suc (length done) ≡ length done + (0 + 1) = omega arith in f) ∙ sym (front_long done [] x wires e) ∙ long in (
        Hands a b ∷ [],
        subst (λ sa. Between a b sa (got_all cb out wires) da db others (joint (core_act rules plan) (Hands a b) ws))
            (ap (λ engine. record ca { engine = engine }) (past_last width (record ca.engine { wire = length done }) l))
            (subst (λ sb. Between a b (record ca { engine = past_wire width (record ca.engine { wire = length done }) }) sb da db others
            (joint (core_act rules plan) (Hands a b) ws))
            (ap (λ engine. record cb { engine = engine })
            (past_last width (record cb.engine {
              wire = length done;
              bank = with_wires rules (with_wires rules cb.engine.bank out done) (spot_of_wire out (length done))
                  (received_form rules (sent_form rules x) ∷ []);
            }) l
            ∙ ap (λ bank. advanced (record cb.engine { bank = bank }))
            (received_more width out cb done [] x wires are e long taking.room ∙ ap (with_wires rules cb.engine.bank out) (sym e))))
            (hand_one a b (sent_form rules x) (sent_some ca (length done)) (got_some cb out done)
            (record ca { engine = past_wire width (record ca.engine { wire = length done }) }) _ da db others ws apart h
            (sending.sends done [] x e) (taking.takes done))),
      )
  hand_all a b width out wires ca cb da db others apart sending taking are long (y ∷ more) done x ws e h =
      let l : suc (length done) < width =
      (let f = front_long done (y ∷ more) x wires e in let g = long in (let t : length (y ∷ more) ≡ suc (length more) = refl in omega arith)) in
      let one : length (done ++ x ∷ []) ≡ suc (length done) =
      length-append done (x ∷ []) ∙ (let f : length done + 1 ≡ suc (length done) = omega arith in f) in
      let next = joint (core_act rules plan) (Hands a b) ws in
      let mid : Between a b (sent_some ca (length (done ++ x ∷ []))) (got_some cb out (done ++ x ∷ [])) da db others next =
      subst (λ sa. Between a b sa (got_some cb out (done ++ x ∷ [])) da db others next)
      (ap (λ engine. record ca { engine = engine }) (past_some width (record ca.engine { wire = length done }) l)
      ∙ ap (λ k. sent_some ca k) (sym one))
      (subst (λ sb. Between a b (record ca { engine = past_wire width (record ca.engine { wire = length done }) }) sb da db others next)
      (ap (λ engine. record cb { engine = engine })
      (past_some width (record cb.engine {
        wire = length done;
        bank = with_wires rules (with_wires rules cb.engine.bank out done) (spot_of_wire out (length done))
            (received_form rules (sent_form rules x) ∷ []);
      }) l
      ∙ ap (λ bank. record cb.engine { wire = suc (length done); bank = bank })
      (received_more width out cb done (y ∷ more) x wires are e long taking.room)
      ∙ ap (λ k. record cb.engine { wire = k; bank = with_wires rules cb.engine.bank out (done ++ x ∷ []) }) (sym one)))
      (hand_one a b (sent_form rules x) (sent_some ca (length done)) (got_some cb out done)
      (record ca { engine = past_wire width (record ca.engine { wire = length done }) }) _ da db others ws apart h
      (sending.sends done (y ∷ more) x e) (taking.takes done))) in
      let rest = hand_all a b width out wires ca cb da db others apart sending taking are long more (done ++ x ∷ []) y next
      (e ∙ sym (append_assoc done (x ∷ []) (y ∷ more))) mid in
      (Hands a b ∷ rest.0, rest.1)
